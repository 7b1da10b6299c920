-- What a record that gives up blocks takes off a manager's look.
use Rattle.std.proofs.Common.{◌≡◌, ◌<◌, Bool, true, false, Some, Result, Err, is_ok, sym, ap, subst}
use Rattle.std.specs.Prelude.{is_none, if◌then◌else◌}
use Rattle.wol_disk.specs.Disk.{State}
use Rattle.wol_model.specs.Index.{Indexed, listed_in, left}
use Rattle.block_cells.specs.declared.record.Rec.{Rec}
use Rattle.redirect_map.specs.Index.{entry_at, IsIndex}
use Rattle.manager.specs.Reclaim.{OnTried, TellsStep, HasDropped}
use Rattle.manager.specs.Seen.{look_of_manager}
use Rattle.manager.specs.declared.manager.Manager.{Manager}
use Rattle.manager.specs.declared.part.StepFault.{StepFault}
use Rattle.manager.specs.declared.part.StepFault.TheVariants.{DiskFault, Down}
use Rattle.reclaimer.specs.Counts.{TakesOff, CountsGone}
use Rattle.reclaimer.proofs.Counted.{index_stays, drop_takes, lowered_given}
use Rattle.reclaimer.proofs.GiveUp.{Going, goes_of, done_then}

module _ {D : Type 0} (state : D → State) (old new : Manager D) (r : Rec) (g : Going old r) where
  module _ (index : IsIndex old.index.entries) (res : Result Bool StepFault) (done : is_ok res ≡ true) (dropped : (e : Indexed) → entry_at old.index.entries r.version ≡ Some e → HasDropped r.version e old new res) where
    taken : TakesOff 0 (if is_none (entry_at new.index.entries r.version) then 1 else 0) (look_of_manager old) (look_of_manager new)
    taken = drop_takes old new index r.version g.entry g.is res done (dropped g.entry g.is)

    -- the record is gone
    pub whole_counts : true ≡ is_none (entry_at new.index.entries r.version) → TakesOff 0 1 (look_of_manager old) (look_of_manager new)
    whole_counts none = subst (λ (t : Bool). TakesOff 0 (if t then 1 else 0) (look_of_manager old) (look_of_manager new)) (sym none) taken

    -- or it keeps a block
    pub part_counts : false ≡ is_none (entry_at new.index.entries r.version) → TakesOff 0 0 (look_of_manager old) (look_of_manager new)
    part_counts some = subst (λ (t : Bool). TakesOff 0 (if t then 1 else 0) (look_of_manager old) (look_of_manager new)) (sym some) taken

    -- less is left
    pub less_left : left (listed_in new.index.entries) < left (listed_in old.index.entries)
    less_left = lowered_given old.index.entries new.index.entries index r.version g.entry g.is (done_then _ res done (dropped g.entry g.is).ok) (goes_of old r g g.entry g.is)

  -- a disk call failed
  pub fails_counts : (fault : StepFault) → TellsStep {T = Bool} state (Err fault) old new → OnTried {T = Bool} (Err fault) ((e : Indexed) → entry_at old.index.entries r.version ≡ Some e → HasDropped {T = Bool} r.version e old new (Err fault))
      → CountsGone (Err fault) (look_of_manager old) (look_of_manager new)
  fails_counts (DiskFault p) told dropped = index_stays old new (dropped g.entry g.is).err
  fails_counts (Down p) told dropped = index_stays old new (ap (λ (k : Manager D). k.index) told.1)
