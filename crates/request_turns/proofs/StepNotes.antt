-- Steps of reclaim: a turn of them and its entry, and one after another.
use Rattle.std.proofs.Common.{◌≡◌, ◌<◌, ℕ, zero, suc, Bool, true, false, List, [], ◌∷◌, ◌++◌, Result, Ok, Err, refl, sym, subst, ◌∙◌, arith}
use Rattle.wol_disk.specs.Disk.{State}
use Rattle.wol_model.specs.History.{Kept, Broke, IsHelp}
use Rattle.wol_model.specs.Index.{listed_in, left}
use Rattle.wol_promise.specs.Policy.{Look, IsReclaim, AreReclaims}
use Rattle.wol_promise.specs.Policy as policy
use Rattle.wol_promise.specs.Ruled.{Noted, IsKeep, last_look}
use Rattle.manager.specs.Reclaim.{OnKept, OnFailed, KeepsOn, BreaksOff, Always}
use Rattle.manager.specs.Seen.{look_of_manager}
use Rattle.manager.specs.Stands.{Keeps, Stands, nones_at}
use Rattle.manager.specs.declared.base.ManagerBase.{ManagerBase}
use Rattle.manager.specs.declared.manager.Manager.{Manager}
use Rattle.manager.specs.declared.part.StepFault.{StepFault}
use Rattle.manager.specs.declared.part.StepFault.TheVariants as fault
use Rattle.manager.proofs.Frames.{stands_kept, none_passed}
use Rattle.reclaimer.specs.Counts.{TakesOff, CountsGone, CountsMoved}
use Rattle.reclaimer.specs.declared.answers.Drain.{Drain}
use Rattle.reclaimer.specs.declared.answers.Drain.TheVariants as drain
use Rattle.reclaimer.specs.declared.answers.Gone.{Gone}
use Rattle.reclaimer.specs.declared.answers.Gone.TheVariants as gone
use Rattle.request_turns.specs.Counts.{CountsMore, HasTaken, gone_count}
use Rattle.request_turns.specs.Entries.{note_of, step_operation, has_failed}
use Rattle.request_turns.specs.declared.tally.Tally.{Tally}
use Rattle.request_turns.proofs.Counting.{taken_both, none_more}

module _ {D : Type 0} (tells : Bool) (state : D → State) (old new : Manager D) (b : ManagerBase) (notes : List Noted) (pass : ℕ) where
  pub kept_stands : IsKeep [] pass (look_of_manager old) (look_of_manager new) → last_look b.volume.began.look notes ≡ look_of_manager old → Keeps tells state new b notes
      → Stands tells state new b (notes ++ note_of pass Kept (look_of_manager new) [] false ∷ [])
  kept_stands keep is k = stands_kept tells state new b notes (note_of pass Kept (look_of_manager new) [] false) []
      (record { operation_is = refl; look_is = refl; passed_is = refl; drain = refl; follows = λ _. (refl, subst (λ (l : Look). IsKeep [] pass l (look_of_manager new)) (sym is) keep) })
      (none_passed (nones_at new.lanes.items b.lanes) notes (note_of pass Kept (look_of_manager new) [] false) refl k.passed) k

  -- after a step, or steps, a manager stands for their entry
  pub step_stands : {T : Type 0} (answer : Result T StepFault) (Where : ManagerBase → List Noted → Type 0) → Where b notes → OnKept answer (KeepsOn tells state old new Where) → OnFailed answer (BreaksOff tells state old new Where)
      → OnKept answer (IsKeep [] pass (look_of_manager old) (look_of_manager new)) → last_look b.volume.began.look notes ≡ look_of_manager old → Keeps tells state old b notes
      → Stands tells state new b (notes ++ note_of pass (step_operation (has_failed answer)) (look_of_manager new) [] false ∷ [])
  step_stands (Ok x) Where w keeps breaks keep is k = kept_stands keep is (keeps b notes w k)
  step_stands (Err (fault.DiskFault p)) Where w keeps breaks keep is k =
      breaks b notes (note_of pass (Broke []) (look_of_manager new) [] false) w (record { operation_is = refl; look_is = refl; passed_is = refl; drain = refl; follows = λ _. refl }) k
  step_stands (Err (fault.Down p)) Where w keeps breaks keep is k = kept_stands keep is (keeps b notes w k)

pub step_helps : (failed : Bool) → IsHelp (step_operation failed)
step_helps true = refl
step_helps false = tt

-- ---- One after another

pub reclaims_then : (l k m : Look) → AreReclaims l k → IsReclaim k m → AreReclaims l m
reclaims_then l k m (policy.none x) step = policy.more x m m step (policy.none m)
reclaims_then l k m (policy.more x j y first rest) step = policy.more x j m first (reclaims_then j y m rest step)

pub reclaims_joined : (l k m : Look) → AreReclaims l k → AreReclaims k m → AreReclaims l m
reclaims_joined l k m (policy.none x) rest = rest
reclaims_joined l k m (policy.more x j y first others) rest = policy.more x j m first (reclaims_joined j y m others rest)

module _ (A B : Type 0) where
  pub on_kept : (e : StepFault) (P Q : Type 0) → (P → Q) → OnKept {T = A} (Err e) P → OnKept {T = B} (Err e) Q
  on_kept (fault.DiskFault p) P Q f h = tt
  on_kept (fault.Down p) P Q f h = f h

  pub on_failed : (e : StepFault) (P Q : Type 0) → (P → Q) → OnFailed {T = A} (Err e) P → OnFailed {T = B} (Err e) Q
  on_failed (fault.DiskFault p) P Q f h = f h
  on_failed (fault.Down p) P Q f h = tt

module _ {D : Type 0} (tells : Bool) (state : D → State) (old mid new : Manager D) where
  pub keeps_on : (Where : ManagerBase → List Noted → Type 0) → ((b : ManagerBase) (notes : List Noted) → Keeps tells state mid b notes → Where b notes) → KeepsOn tells state old mid Always → KeepsOn tells state mid new Where → KeepsOn tells state old new Always
  keeps_on Where data_ first then b notes w k = then b notes (data_ b notes (first b notes tt k)) (first b notes tt k)

  pub breaks_off : (Where : ManagerBase → List Noted → Type 0) → ((b : ManagerBase) (notes : List Noted) → Keeps tells state mid b notes → Where b notes) → KeepsOn tells state old mid Always → BreaksOff tells state mid new Where → BreaksOff tells state old new Always
  breaks_off Where data_ first then b notes n w note k = then b notes n (data_ b notes (first b notes tt k)) note (first b notes tt k)

-- ---- What is counted

pub gone_takes : (l m : Look) (g : Gone) → CountsGone (Ok g) l m → TakesOff 0 (gone_count g) l m
gone_takes l m (gone.Version v) taken = taken
gone_takes l m (gone.Trimmed v) taken = taken
gone_takes l m gone.Nothing taken = taken

-- what a step of a drain moved is counted behind what was counted before
module _ (a : Drain) (s t : Tally) (k l m : Look) (before : HasTaken s t k l) (moved : CountsMoved (Ok a) l m) where
  pub bare_taken : a ≡ drain.Bare → HasTaken s t k m
  bare_taken is = taken_both s t t k l m before (record { blocks = 0; records = 0; taken = subst (λ (x : Drain). CountsMoved (Ok x) l m) is moved; counts = none_more t })

  pub moved_taken : (blocks records : ℕ) (u : Tally) → a ≡ drain.Moved blocks records → CountsMore blocks records t u → HasTaken s u k m
  moved_taken blocks records u is more = taken_both s t u k l m before (record { blocks = blocks; records = records; taken = subst (λ (x : Drain). CountsMoved (Ok x) l m) is moved; counts = more })
