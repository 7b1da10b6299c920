-- A spindle as one more use is made.
use Rattle.std.proofs.Common.{◌≡◌, ℕ, List, [], ◌∷◌, ◌++◌, refl, sym, ap, ◌∙◌, subst}
use Rattle.std.proofs.lemmas.List.{map-append}
use Rattle.turn_lock.specs.Histories.{Entry}
use Rattle.wol_model.specs.Journal.{Use, Started, Began, Needed, Done, Stayed, SpindleState, new_spindle, used, spindle_after, MayUse, AreUses}
use Rattle.spin_model.specs.declared.spindle.SpindleBase.{SpindleBase}
use Rattle.spin_model.specs.Operations.{operation_of, use_of, uses_of, entries_of}
use Rattle.spin_model.specs.Spindles.{SpindleView, Shows, StandsFor, state_after}

-- the numbers of a use are read back as that use
pub use_of-operation_of : (u : Use) → use_of (operation_of u) ≡ u
use_of-operation_of (Started t) = refl
use_of-operation_of (Began t) = refl
use_of-operation_of Needed = refl
use_of-operation_of Done = refl
use_of-operation_of Stayed = refl

pub uses_of-push : (es : List Entry) (n : ℕ) (u : Use) → uses_of (es ++ (n, operation_of u) ∷ []) ≡ uses_of es ++ (n, u) ∷ []
uses_of-push es n u = rw (map-append, use_of-operation_of u)

entries_of-push : (us : List (ℕ × Use)) (n : ℕ) (u : Use) → entries_of (us ++ (n, u) ∷ []) ≡ entries_of us ++ (n, operation_of u) ∷ []
entries_of-push us n u = map-append _ us ((n, u) ∷ [])

spindle_after-push : (t : ℕ) (s : SpindleState) (us : List (ℕ × Use)) (n : ℕ) (u : Use) → spindle_after t s (us ++ (n, u) ∷ []) ≡ used t (spindle_after t s us) n u
spindle_after-push t s [] n u = refl
spindle_after-push t s (v ∷ us) n u = spindle_after-push t (used t s v.0 v.1) us n u

uses_more : (t : ℕ) (s : SpindleState) (us : List (ℕ × Use)) (n : ℕ) (u : Use) → AreUses t s us → MayUse (spindle_after t s us) n u → AreUses t s (us ++ (n, u) ∷ [])
uses_more t s [] n u are may = (may, tt)
uses_more t s (v ∷ us) n u are may = (are.0, uses_more t (used t s v.0 v.1) us n u are.1 may)

pub state_after-push : (b : SpindleBase) (es : List Entry) (n : ℕ) (u : Use) → state_after b (es ++ (n, operation_of u) ∷ []) ≡ used b.timeout (state_after b es) n u
state_after-push b es n u = ap (spindle_after b.timeout new_spindle) (uses_of-push es n u) ∙ spindle_after-push b.timeout new_spindle (uses_of es) n u

-- it stands for one more entry where it shows the state after that use
pub stands_more : (s s' : SpindleView) (b : SpindleBase) (es : List Entry) (n : ℕ) (u : Use) → StandsFor s b es → MayUse (state_after b es) n u → s'.volume ≡ s.volume → s'.timeout ≡ s.timeout → Shows s' (used b.timeout (state_after b es) n u) → StandsFor s' b (es ++ (n, operation_of u) ∷ [])
stands_more s s' b es n u st may volume timeout shows = record {
  volume = volume ∙ st.volume;
  timeout = timeout ∙ st.timeout;
  spelled = ap entries_of (uses_of-push es n u) ∙ (entries_of-push (uses_of es) n u ∙ ap (λ (xs : List Entry). xs ++ (n, operation_of u) ∷ []) st.spelled);
  legal = subst (AreUses b.timeout new_spindle) (sym (uses_of-push es n u)) (uses_more b.timeout new_spindle (uses_of es) n u st.legal may);
  shows = subst (Shows s') (sym (state_after-push b es n u)) shows;
}
