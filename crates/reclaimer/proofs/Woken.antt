-- A step of a drain: home is woken, and then the step is made.
use Rattle.std.proofs.Common.{◌≡◌, ◌+◌, ℕ, suc, Bool, true, false, ◌||◌, List, [], ◌∷◌, map, length, None, Result, Ok, Err, refl, sym, ap, subst, ◌∙◌, arith, eqb}
use Rattle.std.specs.Prelude.{IsTrue, IsErr, OnOk, slice_index_or}
use Rattle.std.specs.List.{list_any, range_with_len}
use Rattle.std.proofs.Math.Bool.{or-false}
use Rattle.std.proofs.lemmas.Option.{none-some}
use Rattle.wol_disk.specs.Disk.{State, IsDisk}
use Rattle.wol_model.specs.Index.{Listed, listed_in}
use Rattle.wol_promise.specs.Policy.{drained}
use Rattle.manager.specs.Causes.{NoneRose}
use Rattle.manager.specs.Reading.{IsReadThrough}
use Rattle.manager.specs.Reclaim.{OnTried, OnKept, OnFailed, TellsStep, KeepsOn, BreaksOff, StopsSince, Always}
use Rattle.manager.specs.Seen.{down_of, look_of_manager}
use Rattle.manager.specs.Stands.{IsReady}
use Rattle.manager.specs.declared.manager.Manager.{Manager}
use Rattle.manager.specs.declared.part.StepFault.{StepFault}
use Rattle.manager.specs.declared.part.StepFault.TheVariants.{DiskFault, Down}
use Rattle.reclaimer.specs.Drains.{HasWoken, HasDrained, Drains, TellsGiven, TellsPut, nothing_left, gave_up, put_home}
use Rattle.reclaimer.specs.Steps.{StopsWithin}
use Rattle.reclaimer.specs.declared.answers.Drain.{Drain}
use Rattle.reclaimer.specs.declared.answers.Drain.TheVariants.{Bare}
use Rattle.reclaimer.proofs.MoveHome.{keeps_both, breaks_both, stops_both, fault_both}
use Rattle.reclaimer.proofs.Moments.{within}

-- flags, one by one
same_flags : (flags : List Bool) (n : ℕ) (f : ℕ → Bool) → ((i : ℕ) → f (n + i) ≡ slice_index_or flags i false) → map f (range_with_len n (length flags)) ≡ flags
same_flags [] n f is = refl
same_flags (t ∷ flags) n f is =
    let here : f n ≡ t = let e : n + 0 ≡ n = omega arith in ap f (sym e) ∙ is 0 in
    let rest = same_flags flags (n + 1) f (λ i. let e : n + 1 + i ≡ n + suc i = omega arith in ap f e ∙ is (suc i)) in
    λ i. here i ∷ rest i

-- of a bare look nothing is drained but home's flag set
bare_drained : (ups : List Bool) → map (λ k. slice_index_or ups k false || list_any {X = Listed} (λ d. false) []) (range_with_len 0 (length ups)) ≡ ups
bare_drained ups = same_flags ups 0 (λ k. slice_index_or ups k false || false) (λ i. let e : 0 + i ≡ i = omega arith in or-false (slice_index_or ups (0 + i) false) ∙ ap (λ (k : ℕ). slice_index_or ups k false) e)

given_nothing : (given : Result ℕ StepFault) (answer : Result Drain StepFault) → answer ≡ Ok Bare → TellsGiven given answer → ⊥
given_nothing (Ok count) answer is told = subst (TellsGiven (Ok count)) is told
given_nothing (Err fault) answer is told = subst (TellsGiven (Err fault)) is told

put_nothing : (put : Result ℕ StepFault) (answer : Result Drain StepFault) → answer ≡ Ok Bare → TellsPut put answer → ⊥
put_nothing (Ok count) answer is told = subst (TellsPut (Ok count)) is told
put_nothing (Err fault) answer is told = subst (TellsPut (Err fault)) is told

-- an answer that tells nothing left
bare_step : {D : Type 0} (state : D → State) (old new : Manager D) (answer : Result Drain StepFault) → Drains state old new answer → answer ≡ Ok Bare → (old.index.entries ≡ []) × (new ≡ old)
bare_step state old new answer (nothing_left empty same is) bare = (empty, same)
bare_step state old new answer (put_home put has told) bare = absurd (put_nothing put answer bare told)
bare_step state old new answer (gave_up e due first given gave told) bare = absurd (given_nothing given answer bare told)

-- no count rose where none rose once home was woken
pub step_calm : {D : Type 0} (state : D → State) (m w n : Manager D) → w ≡ record m { home_up = true; spindle = w.spindle } → (answer : Result Drain StepFault) → OnOk answer (NoneRose state w n) → OnOk answer (NoneRose state m n)
step_calm {D} state m w n rest (Ok moved) none = let since : NoneRose state (record m { home_up = true; spindle = w.spindle }) n = subst (λ (x : Manager D). NoneRose state x n) rest none in record { home = since.home; held = since.held }
step_calm state m w n rest (Err fault) none = tt

module _ {D : Type 0} (tells : Bool) (state : D → State) (sound : (d : D) → IsDisk (state d)) (m w n : Manager D) (ready : IsReady state m) (up : m.down ≡ None) (through : IsReadThrough state m w) (ready_w : IsReady state w) where
  pub up_still : w.down ≡ None
  up_still = through.down ∙ up

  pub step_fault : (res : Result Drain StepFault) → TellsStep state res w n → TellsStep state res m n
  step_fault (Ok x) told = (up, told.1)
  step_fault (Err fault) told = fault_both tells state sound m w n Always ready up through ready_w (λ b notes k. tt) Drain Drain fault up_still told

  pub step_drained : (woken : HasWoken m w) (res : Result Drain StepFault) → Drains state w n res → OnTried res (HasDrained state m n res)
  step_drained woken (Ok x) drains = (w, woken, drains)
  step_drained woken (Err (DiskFault p)) drains = (w, woken, drains)
  step_drained woken (Err (Down p)) drains = tt

  pub step_bare : (woken : HasWoken m w) (res : Result Drain StepFault) → Drains state w n res → res ≡ Ok Bare → look_of_manager n ≡ drained (look_of_manager m)
  step_bare woken res drains bare =
      let b = bare_step state w n res drains bare in
      let empty : m.index.entries ≡ [] = ap (λ (k : Manager D). k.index.entries) (sym woken.rest) ∙ b.0 in
      ap look_of_manager (b.1 ∙ woken.rest)
      ∙ (λ i. record { home_up = true; ups = sym (bare_drained m.ups.items) i; next = m.next; listed = listed_in (empty i); down = down_of m.down })
      ∙ sym (λ i. record { home_up = true; ups = map (λ k. slice_index_or m.ups.items k false || list_any (λ (d : Listed). eqb d.lane k) (listed_in (empty i))) (range_with_len 0 (length m.ups.items)); next = m.next; listed = []; down = down_of m.down })

  pub step_look : HasWoken m w → (res : Result Drain StepFault) → OnKept res (drained (look_of_manager n) ≡ drained (look_of_manager w)) → OnKept res (drained (look_of_manager n) ≡ drained (look_of_manager m))
  step_look woken (Ok x) look = look ∙ ap (λ (k : Manager D). drained (look_of_manager k)) woken.rest
  step_look woken (Err (DiskFault p)) look = tt
  step_look woken (Err (Down p)) look = look ∙ ap (λ (k : Manager D). drained (look_of_manager k)) woken.rest

  pub step_keeps : (res : Result Drain StepFault) → OnKept res (KeepsOn tells state w n Always) → OnKept res (KeepsOn tells state m n Always)
  step_keeps (Ok x) keeps = keeps_both tells state sound m w n Always ready up through ready_w (λ b notes k. tt) keeps
  step_keeps (Err (DiskFault p)) keeps = tt
  step_keeps (Err (Down p)) keeps = keeps_both tells state sound m w n Always ready up through ready_w (λ b notes k. tt) keeps

  pub step_broke : (res : Result Drain StepFault) → OnFailed res (BreaksOff tells state w n Always) → OnFailed res (BreaksOff tells state m n Always)
  step_broke (Ok x) broke = tt
  step_broke (Err (DiskFault p)) broke = breaks_both tells state sound m w n Always ready up through ready_w (λ b notes k. tt) broke
  step_broke (Err (Down p)) broke = tt

  pub step_stops : (res : Result Drain StepFault) → TellsStep state res w n → OnTried res (IsTrue tells → StopsSince tells state w n Always) → IsTrue tells → StopsWithin tells state m n Always
  step_stops (Ok x) told since is = within tells state sound Always m n (stops_both tells state sound m w n Always ready up through ready_w (λ b notes k. tt) (since is))
  step_stops (Err (DiskFault p)) told since is = within tells state sound Always m n (stops_both tells state sound m w n Always ready up through ready_w (λ b notes k. tt) (since is))
  step_stops (Err (Down p)) told since is = absurd (none-some p (sym up_still ∙ told.0))
