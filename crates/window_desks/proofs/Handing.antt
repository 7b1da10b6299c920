-- Handing out one more request.
use Rattle.std.proofs.Common.{inl, inr, ◌≡◌, ◌≢◌, ◌<◌, ℕ, true, false, List, [], ◌∷◌, ◌++◌, length, filter, get_or, set, ◌==◌, refl, ap, ◌∙◌, sym, subst, suc, All, arith}
use Rattle.std.proofs.lemmas.Bool.{cases_eq, eq-eqb}
use Rattle.std.proofs.lemmas.Bool.Decides.{eqb_tells}
use Rattle.std.proofs.lemmas.List.{append-nil, get_or-set_same, get_or-set_other, get_or_default}
use Rattle.std.proofs.lemmas.List.Elements.{filter-append, All-nil, All-cons}
use Rattle.manager.specs.declared.base.ManagerBase.{ManagerBase}
use Rattle.request_turns.specs.Requests.{IsWithin}
use Rattle.window_desks.specs.Handed.{IsHanded, HasTaken, HasOwn, AreHandedOut}
use Rattle.window_desks.specs.Requests.{AreWithin, own_requests}
use Rattle.window_desks.specs.declared.desk.Desk.{Desk}
use Rattle.trace_windows.specs.declared.request.Request.{Request}

own_keeps : (v : ℕ) (rs : List Request) (r : Request) → r.volume ≡ v → own_requests v (rs ++ r ∷ []) ≡ own_requests v rs ++ r ∷ []
own_keeps v rs r is = let e : (r.volume == v) ≡ true = eq-eqb r.volume v is in let f : List Request → List Request = filter (λ (q : Request). q.volume == v) in let one : f (r ∷ []) ≡ r ∷ [] = rw e refl in
    filter-append (λ (q : Request). q.volume == v) rs (r ∷ []) ∙ ap (λ t. f rs ++ t) one

own_skips : (v : ℕ) (rs : List Request) (r : Request) → (r.volume == v) ≡ false → own_requests v (rs ++ r ∷ []) ≡ own_requests v rs
own_skips v rs r e = let f : List Request → List Request = filter (λ (q : Request). q.volume == v) in let none : f (r ∷ []) ≡ [] = rw e refl in
    filter-append (λ (q : Request). q.volume == v) rs (r ∷ []) ∙ (ap (λ t. f rs ++ t) none ∙ append-nil (f rs))

other_eq : (a b : ℕ) → a ≢ b → (a == b) ≡ false
other_eq a b h = elim (eqb_tells a b) [ inl t ↦ absurd (h t.1) | inr t ↦ t.0 ]

-- a volume's own requests lie in it
pub own_within : (b : ManagerBase) (v : ℕ) (rs : List Request) → AreWithin b v rs → All (IsWithin b) (own_requests v rs)
own_within b v [] within = All-nil (IsWithin b)
own_within b v (r ∷ rs) within =
    let rest = own_within b v rs (λ k x h. within (suc k) x (omega (arith, h))) in
    elim (eqb_tells r.volume v) [
      | inl t ↦ rw t.0 (All-cons (IsWithin b) r (own_requests v rs) (within 0 r (omega arith) t.1) rest)
      | inr t ↦ rw t.0 rest
    ]

-- no request handed out yet
pub handed_none : {D : Type 0} (ds es : List (Desk D)) → ((k : ℕ) (d : Desk D) → k < length ds → IsHanded [] (get_or ds k d) (get_or es k d)) → AreHandedOut [] ds es
handed_none ds es begun k d h = record { handed = begun k d h; room = rw (begun k d h).requests (omega arith) }

module _ {D : Type 0} (rs : List Request) (r : Request) where
  kept_own : (k : ℕ) (d e : Desk D) → r.volume ≢ k → HasOwn rs k d e → HasOwn (rs ++ r ∷ []) k d e
  kept_own k d e other own = record {
    handed = subst (λ (qs : List Request). IsHanded qs d e) (sym (own_skips k rs r (other_eq r.volume k other))) own.handed;
    room = own.room;
  }

  one_own : (k : ℕ) (d e f : Desk D) → r.volume ≡ k → HasOwn rs k d e → HasTaken r e f → HasOwn (rs ++ r ∷ []) k d f
  one_own k d e f is own t = let h = own.handed in record {
    handed = record {
      id = t.id ∙ h.id;
      worker_is = t.worker_is ∙ h.worker_is;
      outcomes = t.outcomes ∙ h.outcomes;
      fault = t.fault ∙ h.fault;
      tally = rw t.tally h.tally;
      requests = t.requests ∙ (ap (λ (qs : List Request). qs ++ r ∷ []) h.requests ∙ sym (own_keeps k rs r is));
    };
    room = t.room;
  }

  pub handed_more : (ds es : List (Desk D)) (f x : Desk D) → length es ≡ length ds → r.volume < length es → AreHandedOut rs ds es → HasTaken r (get_or es r.volume x) f → AreHandedOut (rs ++ r ∷ []) ds (set es r.volume f)
  handed_more ds es f x same within out taken k d h = elim (cases_eq k r.volume) [
    | inl is ↦ subst (λ (i : ℕ). HasOwn (rs ++ r ∷ []) i (get_or ds i d) (get_or (set es r.volume f) i d)) (sym is)
        (subst (λ (e : Desk D). HasOwn (rs ++ r ∷ []) r.volume (get_or ds r.volume d) e) (sym (get_or-set_same es r.volume f d within))
        (one_own r.volume (get_or ds r.volume d) (get_or es r.volume d) f refl (out r.volume d (omega (arith, within, same))) (subst (λ (e : Desk D). HasTaken r e f) (get_or_default es r.volume x d within) taken)))
    | inr other ↦ subst (λ (e : Desk D). HasOwn (rs ++ r ∷ []) k (get_or ds k d) e) (sym (get_or-set_other es r.volume k f d other)) (kept_own k (get_or ds k d) (get_or es k d) (λ i. other (sym i)) (out k d h))
  ]
