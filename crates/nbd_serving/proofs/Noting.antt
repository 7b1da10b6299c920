-- One entry more, as pieces.
use Rattle.std.proofs.Common.{◌≡◌, ◌≢◌, ◌+◌, ◌++◌, ◌∷◌, [], ℕ, Bool, List, length, map, Option, None, Some, refl, sym, ap, subst, ◌∙◌, inl, inr, append-nil}
use Rattle.std.specs.Prelude.{◌⊎◌, IsSome, IsTrue, is_some, slice_range}
use Rattle.std.specs.Option.{option_or}
use Rattle.std.proofs.lemmas.List.{map-append}
use Rattle.wol_disk.specs.Disk.{Block}
use Rattle.wol_model.specs.ArrayLaws.{unversioned}
use Rattle.wol_model.specs.Blocks.{Write, after}
use Rattle.wol_model.specs.History.{Entry, Operation, Wrote, Read, Kept, Broke, writes, written_by, flight_of, flight_from, AreLegalNext, IsLegalNext}
use Rattle.wol_model.specs.Placing.{Place, Home, Log, Full}
use Rattle.wol_model.proofs.Arrays.{after_versions}
use Rattle.wol_model.proofs.Overlay.{after_more, after_none}
use Rattle.wol_promise.specs.Manager.{Base}
use Rattle.wol_promise.specs.Policy.{Look, place_of, placed}
use Rattle.wol_promise.specs.Ruled.{Noted, IsStep, AreRuled, IsDrained, entries_of, last_look}
use Rattle.wol_promise.specs.Stands.{HasHistory}
use Rattle.wol_promise.proofs.OneMore.{entries_more, last_more, writes_then, flight_then}
use Rattle.request_turns.specs.Turns.{IsBroken, Stays}
use Rattle.nbd_serving.specs.Pieces.{Pieces, pieces_of, IsUp, BreaksWith}

-- ---- The last of a history

legal_last : (a : List Block) (es : List Entry) (e : Entry) → AreLegalNext a (es ++ e ∷ []) → IsLegalNext (after a (writes es)) e.operation
legal_last a [] e all = subst (λ (x : List Block). IsLegalNext x e.operation) (sym (after_none a)) all.0
legal_last a (d ∷ es) e all = subst (λ (x : List Block). IsLegalNext x e.operation) (sym (after_more a (written_by d.operation) (writes es))) (legal_last (after a (written_by d.operation)) es e all.1)

ruled_last : (l : Look) (notes : List Noted) (n : Noted) → AreRuled l (notes ++ n ∷ []) → IsTrue n.ruled → IsStep n n.entry.pass n.entry.operation (last_look l notes) n.look
ruled_last l [] n all ruled = all.0 ruled
ruled_last l (m ∷ notes) n all ruled = ruled_last m.look notes n all.1 ruled

-- ---- Whether a call of a disk had failed

module _ (l : Look) (notes : List Noted) where
  pub is_broken : IsBroken notes → IsSome (pieces_of l notes).flight
  is_broken broken = broken

  none_of : (o : Option (List Write)) → (is_some o ≡ Bool.true → ⊥) → o ≡ None
  none_of None not = refl
  none_of (Some ws) not = absurd (not refl)

  pub no_flight : (IsBroken notes → ⊥) → flight_of (entries_of notes) ≡ None
  no_flight unbroken = none_of (flight_of (entries_of notes)) unbroken

  pub is_up : (IsBroken notes → ⊥) → IsUp (pieces_of l notes)
  is_up unbroken = no_flight unbroken

-- ---- The next version

stays_next : (lacked : Write → Type 0) (l : Look) (n : Noted) → Stays lacked l n → n.look.next ≡ l.next
stays_next lacked l n (inl same) = ap (λ (k : Look). k.next) same
stays_next lacked l n (inr (w, is, d)) = ap (λ (k : Look). k.next) d.bare

placed_next : (p : Place) (l : Look) (w : Write) → ((placed p l w).next ≡ l.next) ⊎ ((placed p l w).next ≡ l.next + 1)
placed_next Home l w = inl refl
placed_next (Log lane) l w = inr refl
placed_next Full l w = inl refl

module _ (l : Look) (notes : List Noted) (n : Noted) where
  abbrev old : Pieces
  old = pieces_of l notes

  abbrev new : Pieces
  new = pieces_of l (notes ++ n ∷ [])

  next_is : new.next ≡ n.look.next
  next_is = ap (λ (k : Look). k.next) (last_more l notes n)

  -- it leaves all as it was
  same_pieces : (o : Operation) → n.entry.operation ≡ o → written_by o ≡ [] → flight_from o None ≡ None → n.look.next ≡ (last_look l notes).next → new ≡ old
  same_pieces o does nothing calm same =
      let wrote : writes (entries_of (notes ++ n ∷ [])) ≡ writes (entries_of notes) = writes_then notes n o does ∙ ap (λ (ws : List Write). writes (entries_of notes) ++ ws) nothing ∙ append-nil (writes (entries_of notes)) in
      let flew : flight_of (entries_of (notes ++ n ∷ [])) ≡ flight_of (entries_of notes) = flight_then notes n o does ∙ ap (λ (f : Option (List Write)). option_or (flight_of (entries_of notes)) f) calm ∙ or_nothing (flight_of (entries_of notes)) in
      (λ i. record { stand = map unversioned (wrote i); flight = flew i; next = (next_is ∙ same) i })
    where
      or_nothing : (o : Option (List Write)) → option_or o None ≡ o
      or_nothing None = refl
      or_nothing (Some ws) = refl

  pub kept_same : (lacked : Write → Type 0) → n.entry.operation ≡ Kept → Stays lacked (last_look l notes) n → new ≡ old
  kept_same lacked kept stays = same_pieces Kept kept refl refl (stays_next lacked (last_look l notes) n stays)

  module _ (told : Type 0) (b : Base) (is_l : b.look ≡ l) (ruled : IsTrue n.ruled) (history : HasHistory told b (notes ++ n ∷ [])) where
    step : (o : Operation) → n.entry.operation ≡ o → IsStep n n.entry.pass o (last_look l notes) n.look
    step o does = subst (λ (p : Operation). IsStep n n.entry.pass p (last_look l notes) n.look) does
        (ruled_last l notes n (subst (λ (k : Look). AreRuled k (notes ++ n ∷ [])) is_l history.ruled) ruled)

    -- a read
    pub read_same : (first : ℕ) (reply : List Block) → n.entry.operation ≡ Read first reply → new ≡ old
    read_same first reply does = same_pieces (Read first reply) does refl refl (ap (λ (k : Look). k.next) (step (Read first reply) does).1)

    pub read_told : (first : ℕ) (reply : List Block) → n.entry.operation ≡ Read first reply → told → reply ≡ slice_range (after b.array old.stand) first (first + length reply)
    read_told first reply does is_told =
        subst (λ (a : List Block). reply ≡ slice_range a first (first + length reply)) (sym (after_versions b.array (writes (entries_of notes))))
        (subst (λ (o : Operation). IsLegalNext (after b.array (writes (entries_of notes))) o) does
        (legal_last b.array (entries_of notes) n.entry (subst (AreLegalNext b.array) (entries_more notes n) (history.replies is_told))))

    -- a write
    wrote_next : (w : Write) → n.entry.operation ≡ Wrote (w ∷ []) → (n.look.next ≡ (last_look l notes).next) ⊎ (n.look.next ≡ (last_look l notes).next + 1)
    wrote_next w does = by (step (Wrote (w ∷ [])) does)
      where
        by : IsStep n n.entry.pass (Wrote (w ∷ [])) (last_look l notes) n.look → (n.look.next ≡ (last_look l notes).next) ⊎ (n.look.next ≡ (last_look l notes).next + 1)
        by (inl (first, (not_full, version, look))) =
            let at : Look = placed (place_of n.passed (last_look l notes) w) (last_look l notes) w in
            subst (λ (k : Look). (k.next ≡ (last_look l notes).next) ⊎ (k.next ≡ (last_look l notes).next + 1)) (sym look) (placed_next (place_of n.passed (last_look l notes) w) (last_look l notes) w)
        by (inr (after, d)) = inl (ap (λ (k : Look). k.next) d.drains.bare)

    pub wrote_more : (v w : Write) → n.entry.operation ≡ Wrote (w ∷ []) → unversioned w ≡ v → (IsBroken notes → ⊥) → (new.stand ≡ old.stand ++ v ∷ []) × (new.flight ≡ None) × ((new.next ≡ old.next) ⊎ (new.next ≡ old.next + 1))
    wrote_more v w does same unbroken = (
      ap (map unversioned) (writes_then notes n (Wrote (w ∷ [])) does) ∙ map-append unversioned (writes (entries_of notes)) (w ∷ []) ∙ ap (λ (x : Write). map unversioned (writes (entries_of notes)) ++ x ∷ []) same,
      flight_then notes n (Wrote (w ∷ [])) does ∙ ap (λ (f : Option (List Write)). option_or f None) (no_flight l notes unbroken),
      subst (λ (k : ℕ). (k ≡ old.next) ⊎ (k ≡ old.next + 1)) (sym next_is) (wrote_next w does),
    )

  -- a call of a disk failed
  pub broke_with : (ws : List Write) → n.entry.operation ≡ Broke ws → (IsBroken notes → ⊥) → BreaksWith ws old new
  broke_with ws does unbroken = record {
    stand_ = ap (map unversioned) (writes_then notes n (Broke ws) does ∙ append-nil (writes (entries_of notes)));
    flight_ = flight_then notes n (Broke ws) does ∙ ap (λ (f : Option (List Write)). option_or f (Some ws)) (no_flight l notes unbroken);
  }
