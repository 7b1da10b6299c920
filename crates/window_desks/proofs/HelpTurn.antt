-- A helper's turns.
use Rattle.std.proofs.Common.{◌≡◌, ◌≢◌, ◌⊎◌, ◌<◌, ◌≤◌, ◌+◌, ◌==◌, inl, inr, ⊎_elim, ℕ, zero, suc, Bool, true, false, List, [], ◌∷◌, ◌++◌, length, get_or, set, Option, None, Some, Result, Ok, Err, refl, sym, ap, subst, ◌∙◌, arith}
use Rattle.std.specs.Prelude.{is_ok, OnOk, IfErr}
use Rattle.std.proofs.lemmas.List.{get_or-set_same, get_or-set_other}
use Rattle.std.proofs.lemmas.Bool.Decides.{eqb_tells}
use Rattle.turn_lock.specs.Passes.{IsFree}
use Rattle.wol_model.specs.History.{IsHelp}
use Rattle.wol_promise.specs.Ruled.{Noted}
use Rattle.wol_promise.proofs.Lists.{all_joined}
use Rattle.manager.specs.Stands.{notes_of}
use Rattle.manager.specs.declared.part.Part.{Part}
use Rattle.manager.specs.declared.part.StepFault.{StepFault}
use Rattle.request_turns.specs.Helped.{ManagerLock, HasHelped, AreKept}
use Rattle.window_desks.specs.Helped.{ArePassesAt, AreHelped, IsCause, AreAllKept}
use Rattle.request_turns.specs.Turns.{ManagerPass, notes_seen, WasDown, faulty_part}
use Rattle.request_turns.proofs.Gaining.{gains_none, gains_both, seen_more, down_more, kept_none, kept_both}

-- ---- One after another

module _ {D : Type 0} (tells : Bool) where
  pub helped_none : (p : ManagerPass D) → IsFree p → HasHelped tells p p
  helped_none p free = record { more = []; notes = []; gains = gains_none tells p free; help = tt }

  pub helped_both : (p q r : ManagerPass D) → HasHelped tells p q → HasHelped tells q r → HasHelped tells p r
  helped_both p q r a b = record {
    more = a.more ++ b.more;
    notes = a.notes ++ b.notes;
    gains = gains_both tells p q r a.more b.more a.notes b.notes a.gains b.gains;
    help = all_joined (λ (n : Noted). IsHelp n.entry.operation) a.notes b.notes a.help b.help;
  }

  pub down_helped : (x : Part) (p q : ManagerPass D) → HasHelped tells p q → WasDown x (notes_seen p) → WasDown x (notes_seen q)
  down_helped x p q h is = subst (WasDown x) (sym (seen_more tells p q h.more h.notes h.gains)) (down_more x (notes_seen p) (notes_of h.more) is)

  pub are_helped_none : (ps : List (ManagerPass D)) → ((k : ℕ) (d : ManagerPass D) → k < length ps → IsFree (get_or ps k d)) → AreHelped tells ps ps
  are_helped_none ps free k d h = helped_none (get_or ps k d) (free k d h)

  pub are_helped_both : (ps qs rs : List (ManagerPass D)) → length qs ≡ length ps → AreHelped tells ps qs → AreHelped tells qs rs → AreHelped tells ps rs
  are_helped_both ps qs rs e f g k d h = helped_both (get_or ps k d) (get_or qs k d) (get_or rs k d) (f k d h) (g k d (subst (λ n. k < n) (sym e) h))

  -- one helper's pass made turns, and its volume's refusal may be the first
  pub cause_set : (ps : List (ManagerPass D)) (k : ℕ) (p q : ManagerPass D) (was is : Option (ℕ × StepFault)) → k < length ps → p ≡ get_or ps k p → HasHelped tells p q → IsCause ps was
      → ((f : ℕ × StepFault) → is ≡ Some f → (was ≡ Some f) ⊎ ((f.0 ≡ k) × WasDown (faulty_part f.1) (notes_seen q))) → length (set ps k q) ≡ length ps → IsCause (set ps k q) is
  cause_set ps k p q was is within at helped cause new count v f some = by (new (v, f) some)
    where
      here : (v ≡ k) → WasDown (faulty_part f) (notes_seen q) → (d : ManagerPass D) → WasDown (faulty_part f) (notes_seen (get_or (set ps k q) v d))
      here same down d = subst (λ (x : ManagerPass D). WasDown (faulty_part f) (notes_seen x)) (sym (ap (λ (j : ℕ). get_or (set ps k q) j d) same ∙ get_or-set_same ps k q d within)) down

      stays : (v < length ps) × ((d : ManagerPass D) → WasDown (faulty_part f) (notes_seen (get_or ps v d))) → (d : ManagerPass D) → WasDown (faulty_part f) (notes_seen (get_or (set ps k q) v d))
      stays was_so d = ⊎_elim
          (λ (t : ((v == k) ≡ true) × (v ≡ k)). here t.1 (down_helped (faulty_part f) p q helped (subst (λ (x : ManagerPass D). WasDown (faulty_part f) (notes_seen x)) (ap (λ (j : ℕ). get_or ps j p) t.1 ∙ sym at) (was_so.1 p))) d)
          (λ (t : ((v == k) ≡ false) × (v ≢ k)). subst (λ (x : ManagerPass D). WasDown (faulty_part f) (notes_seen x)) (sym (get_or-set_other ps k v q d t.1)) (was_so.1 d))
          (eqb_tells v k)

      by : (was ≡ Some (v, f)) ⊎ ((v ≡ k) × WasDown (faulty_part f) (notes_seen q)) → (v < length (set ps k q)) × ((d : ManagerPass D) → WasDown (faulty_part f) (notes_seen (get_or (set ps k q) v d)))
      by (inl old) = let c = cause v f old in (subst (λ (n : ℕ). v < n) (sym count) c.0, stays c)
      by (inr now) = (subst (λ (n : ℕ). v < n) (sym count) (omega (arith, now.0, within)), here now.0 now.1)

-- a step that was refused has its cause
pub cause_of : {A : Type 0} (B : StepFault → Type 0) (a : Result A StepFault) (f : StepFault) → IfErr a B → a ≡ Err f → B f
cause_of B (Ok x) f cause is = absurd (cc is)
cause_of B (Err g) f cause is = subst B (let same : g ≡ f = cc is in same) cause

-- ---- A round

any_default : {A : Type 0} (xs : List A) (k : ℕ) (d e : A) → k < length xs → get_or xs k d ≡ get_or xs k e
any_default [] k d e h = absurd (omega (arith, h))
any_default (x ∷ xs) zero d e h = refl
any_default (x ∷ xs) (suc k) d e h = any_default xs k d e (omega (arith, h))

module _ {D : Type 0} (tells : Bool) (is ps : List (ManagerPass D)) (k : ℕ) (p q : ManagerPass D) (within : k < length ps) (at : p ≡ get_or ps k p) (helped : HasHelped tells p q)
    (rest : (j : ℕ) (d : ManagerPass D) → k ≤ j → get_or ps j d ≡ get_or is j d) where
  pub step_helped : ((j : ℕ) (d : ManagerPass D) → j < k → HasHelped tells (get_or is j d) (get_or ps j d)) → (j : ℕ) (d : ManagerPass D) → j < k + 1 → HasHelped tells (get_or is j d) (get_or (set ps k q) j d)
  step_helped before j d h = ⊎_elim
      (λ (t : ((j == k) ≡ true) × (j ≡ k)).
      let was : p ≡ get_or is j d = at ∙ any_default ps k p d within ∙ (let le : k ≤ k = omega arith in rest k d le) ∙ ap (λ (i : ℕ). get_or is i d) (sym t.1) in
      let now : get_or (set ps k q) j d ≡ q = ap (λ (i : ℕ). get_or (set ps k q) i d) t.1 ∙ get_or-set_same ps k q d within in
      subst (λ (x : ManagerPass D). HasHelped tells x (get_or (set ps k q) j d)) was (subst (λ (x : ManagerPass D). HasHelped tells p x) (sym now) helped))
      (λ (t : ((j == k) ≡ false) × (j ≢ k)). subst (λ (x : ManagerPass D). HasHelped tells (get_or is j d) x) (sym (get_or-set_other ps k j q d t.1)) (before j d (let n = t.1 in below j k h n)))
      (eqb_tells j k)
    where
      below : (j k : ℕ) → j < k + 1 → j ≢ k → j < k
      below j k h n = omega (arith, h, n)

  pub step_rest : (j : ℕ) (d : ManagerPass D) → k + 1 ≤ j → get_or (set ps k q) j d ≡ get_or is j d
  step_rest j d h = get_or-set_other ps k j q d (λ same. absurd (omega (arith, same, h))) ∙ rest j d (omega (arith, h))

some_in : {A : Type 0} (xs : List A) (k : ℕ) → k < length xs → A
some_in [] k h = absurd (omega (arith, h))
some_in (x ∷ xs) k h = x

module _ {D : Type 0} (ls : List (ManagerLock D)) (number : ℕ) (ps : List (ManagerPass D)) (at : ArePassesAt ls number ps) where
  pub passes_free : length ps ≡ length ls → (k : ℕ) (d : ManagerPass D) → k < length ps → IsFree (get_or ps k d)
  passes_free count k d h = (at k (some_in ls k (subst (λ (n : ℕ). k < n) count h)) d h).free

  pub passes_helped : (tells : Bool) (qs : List (ManagerPass D)) → length qs ≡ length ps → AreHelped tells ps qs → ArePassesAt ls number qs
  passes_helped tells qs same h k l d i = let j = subst (λ (n : ℕ). k < n) same i in let g = (h k d j).gains in let a = at k l d j in
      record { own = g.same.0 ∙ a.own; free = g.free; number_is = g.same.1 ∙ a.number_is }

-- ---- Entries that are Kept

pub refused_before : {F : Type 0} (old new : Option F) → ((f : F) → old ≡ Some f → new ≡ Some f) → new ≡ None → old ≡ None
refused_before None new kept none = refl
refused_before (Some f) new kept none = absurd (let no : Some f ≡ None = sym (kept f refl) ∙ none in cc)

pub on_ok : {A B : Type 0} (a : Result A StepFault) → OnOk a B → is_ok a ≡ true → B
on_ok (Ok x) so is = so
on_ok (Err f) so is = absurd (let no : false ≡ true = is in cc)

module _ {D : Type 0} where
  pub kept_helped : (tells : Bool) (p q r : ManagerPass D) → HasHelped tells p q → HasHelped tells q r → AreKept p q → AreKept q r → AreKept p r
  kept_helped tells p q r a b first then = kept_both tells p q r a.more b.more a.notes b.notes a.gains b.gains first then

  pub all_kept_none : (ps : List (ManagerPass D)) (fault : Option (ℕ × StepFault)) → AreAllKept fault ps ps
  all_kept_none ps fault none k d h = kept_none (get_or ps k d)

  pub all_kept_both : (tells : Bool) (ps qs rs : List (ManagerPass D)) (was is : Option (ℕ × StepFault)) → length qs ≡ length ps → AreHelped tells ps qs → AreHelped tells qs rs → (is ≡ None → was ≡ None)
      → AreAllKept was ps qs → AreAllKept is qs rs → AreAllKept is ps rs
  all_kept_both tells ps qs rs was is e f g before first then none k d h = let i = subst (λ (n : ℕ). k < n) (sym e) h in
      kept_helped tells (get_or ps k d) (get_or qs k d) (get_or rs k d) (f k d h) (g k d i) (first (before none) k d h) (then none k d i)

-- one volume more in a round
module _ {D : Type 0} (is ps : List (ManagerPass D)) (k : ℕ) (p q : ManagerPass D) (within : k < length ps) (at : p ≡ get_or ps k p) (kept : AreKept p q)
    (rest : (j : ℕ) (d : ManagerPass D) → k ≤ j → get_or ps j d ≡ get_or is j d) where
  pub step_all_kept : ((j : ℕ) (d : ManagerPass D) → j < k → AreKept (get_or is j d) (get_or ps j d)) → (j : ℕ) (d : ManagerPass D) → j < k + 1 → AreKept (get_or is j d) (get_or (set ps k q) j d)
  step_all_kept before j d h = ⊎_elim
      (λ (t : ((j == k) ≡ true) × (j ≡ k)).
      let was : p ≡ get_or is j d = at ∙ any_default ps k p d within ∙ (let le : k ≤ k = omega arith in rest k d le) ∙ ap (λ (i : ℕ). get_or is i d) (sym t.1) in
      let now : get_or (set ps k q) j d ≡ q = ap (λ (i : ℕ). get_or (set ps k q) i d) t.1 ∙ get_or-set_same ps k q d within in
      subst (λ (x : ManagerPass D). AreKept x (get_or (set ps k q) j d)) was (subst (λ (x : ManagerPass D). AreKept p x) (sym now) kept))
      (λ (t : ((j == k) ≡ false) × (j ≢ k)). subst (λ (x : ManagerPass D). AreKept (get_or is j d) x) (sym (get_or-set_other ps k j q d t.1)) (before j d (let n = t.1 in below j k h n)))
      (eqb_tells j k)
    where
      below : (j k : ℕ) → j < k + 1 → j ≢ k → j < k
      below j k h n = omega (arith, h, n)
