-- What the beginning of a window makes of a volume's keeper.
use Rattle.std.specs.Prelude.{◌≡◌, ◌<◌, ℕ, Bool, false, List, [], All, length, map, slice_index_or}
use Rattle.turn_lock.specs.Histories.{Entry}
use Rattle.wol_disk.specs.Disk.{State}
use Rattle.wol_model.specs.History.{Kept}
use Rattle.wol_promise.specs.Report.{IsBegun}
use Rattle.wol_promise.specs.Ruled.{Noted, last_look}
use Rattle.logger.specs.Lanes.{logger_of}
use Rattle.manager.specs.Stands.{IsReady, Leaves, notes_of}
use Rattle.manager.specs.declared.manager.Manager.{Manager}
use Rattle.request_turns.specs.Turns.{ManagerPass, began, HasTurned}

module _ {D : Type 0} (state : D → State) (volume : ℕ) (awake : List Bool) where
  -- the manager of the volume, where these flags have a place for it and for each logger of its
  -- view
  pub record CanBeTold (m : Manager D) : Type 0 where
    pub ready : IsReady state m
    pub volume_in : volume < length awake
    pub view_in : All (λ (v : ℕ). v < length awake) (map logger_of m.lanes.items)

-- its flags of home and of the view's loggers are these
pub record HasFlags {D : Type 0} (volume : ℕ) (awake : List Bool) (m : Manager D) : Type 0 where
  pub home : m.home_up ≡ slice_index_or awake volume false
  pub ups : m.ups.items
      ≡ map (λ (v : ℕ). slice_index_or awake v false) (map logger_of m.lanes.items)

-- a manager was told which disks are awake
pub record WasTold {D : Type 0} (tells : Bool) (state : D → State) (volume : ℕ) (awake : List Bool)
    (m n : Manager D) : Type 0 where
  pub leaves : (pass : ℕ) → Leaves tells state m n Kept [] pass
  pub flags : n ≡ record m {
    home_up = slice_index_or awake volume false;
    ups = record {
      items = map (λ (v : ℕ). slice_index_or awake v false)
          (map logger_of m.lanes.items);
    };
  }

-- the volume's keeper set the flags of home and of the view's loggers to what the spindles answered
pub record HasBegunVolume {D : Type 0} (tells : Bool) (awake : List Bool) (p q : ManagerPass D) :
    Type 0 where
  pub before : List Entry
  pub note : Noted
  pub turned : HasTurned tells p q before note
  pub begun : IsBegun (slice_index_or awake (began p).owner false)
      (map (λ (v : ℕ). slice_index_or awake v false) (began p).view) note
  -- and left the records as they were listed
  pub records : note.look.listed ≡ (last_look (began p).look (notes_of before)).listed
