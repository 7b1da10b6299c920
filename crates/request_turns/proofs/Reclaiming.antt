-- Steps of reclaim, one after another, with what they counted.
use Rattle.std.proofs.Common.{◌≡◌, ◌<◌, ◌≤◌, ℕ, Bool, true, false, Some, Result, Ok, Err, refl, sym, ap, subst, ◌∙◌, arith}
use Rattle.wol_disk.specs.Disk.{State}
use Rattle.wol_model.specs.Index.{listed_in, left}
use Rattle.wol_promise.specs.Policy.{Look, AreReclaims}
use Rattle.logger.specs.declared.shared.Shared.{Shared}
use Rattle.manager.specs.Reclaim.{OnFailed, KeepsOn, BreaksOff, TellsStep, Always}
use Rattle.manager.specs.Seen.{look_of_manager}
use Rattle.manager.specs.Stands.{IsReady, IsHome}
use Rattle.manager.specs.declared.manager.Manager.{Manager}
use Rattle.manager.specs.declared.part.StepFault.{StepFault}
use Rattle.manager.specs.declared.part.StepFault.TheVariants as fault
use Rattle.reclaimer.specs.Wholes.{CountsGroup, HasGivenGroup}
use Rattle.request_turns.specs.Closed.{GoesOn, Reclaims}
use Rattle.request_turns.specs.Counts.{CountsMore, HasTaken}
use Rattle.request_turns.specs.declared.tally.Tally.{Tally}
use Rattle.request_turns.proofs.Counting.{taken_none, taken_both}
use Rattle.request_turns.specs.Used.{ReclaimUses}
use Rattle.request_turns.proofs.StepNotes.{reclaims_joined}
use Rattle.request_turns.proofs.Uses.{uses_none, uses_then, uses_group}

module _ {D : Type 0} (tells : Bool) (state : D → State) (shared : Shared D) where
  -- what steps that were done come to
  abbrev pub Done : (t u : Tally) → (m n : Manager D) → Type 0
  Done t u m n = Reclaims {T = Unit {0}} tells state shared (Ok tt) t u m n

  -- before the first one
  pub nothing_yet : (t : Tally) (m : Manager D) → IsReady state m → IsHome shared m → Done t t m m
  nothing_yet t m ready at = record { ready = ready; at = at; down = tt; look = λ l r. r; taken = taken_none t (look_of_manager m) (look_of_manager m) refl; keeps = λ b notes w k. k; broke = tt; uses = uses_none m }

  -- a record was read
  pub read : (t : Tally) (m n : Manager D) → IsReady state n → IsHome shared n → look_of_manager n ≡ look_of_manager m → KeepsOn tells state m n Always → ReclaimUses m n → Done t t m n
  read t m n ready at same keeps uses = record {
    ready = ready;
    at = at;
    down = tt;
    look = λ l r. subst (AreReclaims l) (sym same) r;
    taken = taken_none t (look_of_manager m) (look_of_manager n) (ap (λ (l : Look). l.listed) same);
    keeps = keeps;
    broke = tt;
    uses = uses;
  }

  module _ (t u : Tally) (l m : Manager D) where
    -- a refusal is told on
    pub told_on : {T U : Type 0} (f : StepFault) → Reclaims {T = T} tells state shared (Err f) t u l m → Reclaims {T = U} tells state shared (Err f) t u l m
    told_on (fault.DiskFault p) r = record { ready = r.ready; at = r.at; down = r.down; look = tt; taken = tt; keeps = tt; broke = r.broke; uses = tt }
    told_on (fault.Down p) r = record { ready = r.ready; at = r.at; down = r.down; look = r.look; taken = r.taken; keeps = r.keeps; broke = tt; uses = r.uses }

    module _ (first : Done t u l m) (n : Manager D) where
      -- and further ones
      pub then_ : (v : Tally) → {T : Type 0} (answer : Result T StepFault) → Reclaims tells state shared answer u v m n → Reclaims tells state shared answer t v l n
      then_ v (Ok x) next = record {
        ready = next.ready;
        at = next.at;
        down = tt;
        look = λ k r. next.look k (first.look k r);
        taken = taken_both t u v (look_of_manager l) (look_of_manager m) (look_of_manager n) first.taken next.taken;
        keeps = λ b notes w k. next.keeps b notes tt (first.keeps b notes tt k);
        broke = tt;
        uses = uses_then t u v l m n first.taken next.taken first.uses next.uses;
      }
      then_ v (Err (fault.DiskFault p)) next = record { ready = next.ready; at = next.at; down = next.down; look = tt; taken = tt; keeps = tt; broke = λ b notes e w is k. next.broke b notes e tt is (first.keeps b notes tt k); uses = tt }
      then_ v (Err (fault.Down p)) next = record {
        ready = next.ready;
        at = next.at;
        down = next.down;
        look = λ k r. next.look k (first.look k r);
        taken = taken_both t u v (look_of_manager l) (look_of_manager m) (look_of_manager n) first.taken next.taken;
        keeps = λ b notes w k. next.keeps b notes tt (first.keeps b notes tt k);
        broke = tt;
        uses = uses_then t u v l m n first.taken next.taken first.uses next.uses;
      }

      pub and_done : (v : Tally) → {T : Type 0} (x : T) → Reclaims tells state shared (Ok x) u v m n → Done t v l n
      and_done v x next = let both = then_ v (Ok x) next in record { ready = both.ready; at = both.at; down = tt; look = both.look; taken = both.taken; keeps = both.keeps; broke = tt; uses = both.uses }

      -- a step that was refused ends them
      pub refused : (T : Type 0) {U : Type 0} (f : StepFault) → IsReady state n → IsHome shared n → TellsStep {T = T} state (Err f) m n → OnFailed {T = T} (Err f) (BreaksOff tells state l n Always) → Reclaims {T = U} tells state shared (Err f) t u l n
      refused T (fault.DiskFault p) ready at told broke = record { ready = ready; at = at; down = told.1; look = tt; taken = tt; keeps = tt; broke = broke; uses = tt }
      refused T (fault.Down p) ready at told broke = record {
        ready = ready;
        at = at;
        down = ap (λ (k : Manager D). k.down) told.1 ∙ told.0;
        look = subst (λ (k : Manager D). GoesOn (look_of_manager l) (look_of_manager k)) (sym told.1) first.look;
        taken = subst (λ (k : Manager D). HasTaken t u (look_of_manager l) (look_of_manager k)) (sym told.1) first.taken;
        keeps = subst (λ (k : Manager D). KeepsOn tells state l k Always) (sym told.1) first.keeps;
        broke = tt;
        uses = subst (ReclaimUses l) (sym told.1) first.uses;
      }

  -- ---- Records that are given up

  -- so far some record gave something up, or none did
  pub record GivesUp (some : Bool) (t u : Tally) (m n : Manager D) : Type 0 where
    pub reclaims : Done t u m n
    pub same : some ≡ false → n ≡ m
    pub no_more : left (listed_in n.index.entries) ≤ left (listed_in m.index.entries)
    pub fewer : some ≡ true → left (listed_in n.index.entries) < left (listed_in m.index.entries)

  -- something was given up, and so many records are gone
  pub gave_group : (m n : Manager D) (records : ℕ) (t u : Tally) → IsReady state n → IsHome shared n → AreReclaims (look_of_manager m) (look_of_manager n) → CountsGroup (Ok (Some records)) (look_of_manager m) (look_of_manager n) → KeepsOn tells state m n Always
      → CountsMore 0 records t u → HasGivenGroup (Ok (Some records)) m n → Done t u m n
  gave_group m n records t u ready at look counted keeps more given = record {
    ready = ready;
    at = at;
    down = tt;
    look = λ l r. reclaims_joined l (look_of_manager m) (look_of_manager n) r look;
    taken = record { blocks = 0; records = records; taken = counted; counts = more };
    keeps = keeps;
    broke = tt;
    uses = uses_group m n records given look counted;
  }

  pub gives_more : (some : Bool) (t u v : Tally) (l m n : Manager D) → GivesUp some t u l m → Done u v m n → left (listed_in n.index.entries) < left (listed_in m.index.entries) → GivesUp true t v l n
  gives_more some t u v l m n first next less = let before = first.no_more in record {
    reclaims = then_ t u l m first.reclaims n v (Ok tt) next;
    same = λ is. absurd (let no : true ≡ false = is in cc);
    no_more = omega (arith, less, before);
    fewer = λ _. omega (arith, less, before);
  }
