-- A write's turn, from entering to leaving.
use Rattle.std.proofs.Common.{◌≡◌, ℕ, Bool, List, [], subst}
use Rattle.turn_lock.specs.Histories.{own, Begins}
use Rattle.turn_lock.specs.LockIds.{LockId}
use Rattle.turn_lock.specs.Passes.{pass_number, pass_seen, pass_mine, IsSamePass}
use Rattle.wol_disk.specs.Disk.{Block}
use Rattle.wol_promise.specs.Ruled.{last_look}
use Rattle.manager.specs.Answers.{home_write}
use Rattle.manager.specs.declared.base.ManagerBase.{ManagerBase}
use Rattle.request_turns.specs.Entries.{IsWrittenAs}
use Rattle.request_turns.specs.Blocks.{HasWrittenBlocks}
use Rattle.request_turns.specs.Causes.{IsCauseOfWrite, LackedMemory}
use Rattle.request_turns.specs.Turns.{ManagerPass, notes_seen, Stays}
use Rattle.request_turns.specs.Written.{HasWritten}
use Rattle.request_turns.specs.declared.outcome.Outcome.{Outcome}
use Rattle.request_turns.specs.declared.tally.Tally.{Tally}
use Rattle.request_turns.proofs.Turning.{turned}

-- blocks that no request names
pub wrote_blocks : {D : Type 0} (tells : Bool) (first : ℕ) (blocks : List Block) (o : Outcome) (p i q : ManagerPass D) (t u : Tally) → IsSamePass p i → Begins (pass_seen p) (pass_seen i) → pass_mine i ≡ pass_mine p
    → own (pass_number i) (pass_seen i) ≡ pass_mine i → HasWritten tells first blocks o t u i q → HasWrittenBlocks tells first blocks o p q
wrote_blocks tells first blocks o p i q t u same begins mine owns w = record {
  before = pass_seen i;
  note = w.note;
  turned = turned tells p i q w.note same begins mine owns w.left w.ruled;
  entry = subst (λ (l : LockId ManagerBase). IsWrittenAs l.base.volume.began.view (home_write first blocks) [] o w.note) same.0 w.entry;
  stays = λ kept. subst (λ (l : LockId ManagerBase). Stays (LackedMemory (home_write first blocks) o) (last_look l.base.volume.began.look (notes_seen i)) w.note) same.0 (w.stays kept);
  cause = subst (λ (l : LockId ManagerBase). IsCauseOfWrite (notes_seen i) (last_look l.base.volume.began.look (notes_seen i)) o) same.0 w.cause;
  fault = w.fault;
}
