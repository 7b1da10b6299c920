-- What one turn in which a volume is looked at adds to its history, and prints.
use Rattle.std.specs.Prelude.{◌≡◌, ◌<◌, ◌++◌, ◌∷◌, ℕ, Bool, false, List, [], length, Some, Result, Ok, Err, slice_get, IsTrue, OnOk}
use Rattle.std.specs.List.{AllByRecursion}
use Rattle.wol_disk.specs.Disk.{State}
use Rattle.wol_model.specs.History.{Operation}
use Rattle.wol_model.specs.Index.{listed_in}
use Rattle.wol_promise.specs.Policy.{Look}
use Rattle.wol_promise.specs.Ruled.{Noted}
use Rattle.wol_config.specs.Documents.{names_of}
use Rattle.wol_config.specs.declared.config.Config.{Config}
use Rattle.wol_config.specs.declared.config.VolumeConf.{VolumeConf}
use Rattle.turn_lock.specs.Histories.{Entry, own, Begins}
use Rattle.turn_lock.specs.Passes.{pass_lock, pass_number, pass_seen, pass_mine, IsFree, IsSamePass}
use Rattle.logger.specs.declared.shared.Shared.{Shared}
use Rattle.manager.specs.Stands.{Stands, IsShared, notes_of}
use Rattle.manager.specs.declared.base.ManagerBase.{ManagerBase}
use Rattle.manager.specs.declared.manager.Manager.{Manager}
use Rattle.request_turns.specs.Turns.{ManagerPass, coded, WasDown}
use Rattle.inspection.specs.Faults.{was_told}
use Rattle.inspection.specs.Texts.{check_text}
use Rattle.inspection.specs.Volumes.{IsDump, array_of, held_segments}
use Rattle.inspection.specs.declared.fault.DumpFault.{DumpFault}
use Rattle.inspection.specs.declared.fault.DumpFault.TheVariants.{DiskFault, Down, NoMemory}
use Rattle.report.specs.Names.{name_at}
use Rattle.inspection.specs.declared.asked.Asked.{Asked}
use Rattle.inspection.specs.declared.asked.Asked.TheVariants.{Check, Dump}
use Rattle.wol_config.specs.Configs.{most_of}

-- what a manager with this base, over these shared locks, has to serve: its volume and the loggers
-- of its view are configured
pub record IsConfiguredBase {D : Type 0} (config : Config) (shared : Shared D) (b : ManagerBase) :
    Type 0 where
  pub volume : VolumeConf
  pub there : slice_get config.volumes.items b.volume.began.owner ≡ Some volume
  pub home_blocks : b.volume.began.home_blocks ≡ volume.home
  pub most : b.volume.began.most ≡ most_of config
  pub view : AllByRecursion (λ (l : ℕ). l < length config.volumes.items) b.volume.began.view
  pub at : IsShared shared b

-- what is asked of a volume in order was appended: of the manager that stands for this beginning
-- and these entries
abbrev pub AppendsAsked : {D : Type 0} → Config → Asked → (number : ℕ) → Manager D → ManagerBase
    → List Noted → (old new : List ℕ) → Type 0
AppendsAsked config Check number m b notes old new =
    new ≡ old ++ check_text (name_at (names_of config.volumes.items) number) (array_of b notes)
    (length m.index.entries) (held_segments m)
AppendsAsked config Dump number m b notes old new = IsDump config number m old new

-- the entry of a turn with this operation, that leaves this look
abbrev pub note_told : (pass : ℕ) → Operation → Look → Noted
note_told pass operation look = record {
  entry = record { pass = pass; operation = operation };
  look = look;
  passed = [];
  after_drain = false;
  ruled = false;
}

-- one turn of a pass, behind these entries: it adds this entry
pub record HasAdded {D : Type 0} (p q : ManagerPass D) (before : List Entry) (n : Noted) :
    Type 0 where
  pub same : IsSamePass p q
  pub free : IsFree q
  pub begins : Begins (pass_seen p) before
  pub others : own (pass_number p) before ≡ pass_mine p
  pub number : n.entry.pass ≡ pass_number p
  pub seen : pass_seen q ≡ before ++ coded n ∷ []
  pub mine : pass_mine q ≡ pass_mine p ++ coded n ∷ []

-- a volume wasn't in order where the part that is told was down
abbrev pub BreaksIn : Result (Unit {0}) DumpFault → List Noted → Type 0
BreaksIn (Ok done) notes = Unit {0}
BreaksIn (Err (DiskFault part)) notes = WasDown part notes
BreaksIn (Err (Down part)) notes = WasDown part notes
BreaksIn (Err NoMemory) notes = Unit {0}

-- A volume was looked at in one turn: by the manager that stood for the entries before it.
pub record LooksAt {D : Type 0} (tells : Bool) (state : D → State) (config : Config) (asked : Asked)
    (number : ℕ) (p q : ManagerPass D) (answer : Result (Unit {0}) DumpFault) (old new : List ℕ) :
    Type 0 where
  pub before : List Entry
  pub note : Noted
  pub added : HasAdded p q before note
  pub operation : note.entry.operation ≡ was_told answer
  pub manager : Manager D
  pub stands : Stands tells state manager (pass_lock p).base (notes_of before)
  -- the turn left its records as they were listed
  pub listed : note.look.listed ≡ listed_in manager.index.entries
  pub content : IsTrue tells → OnOk answer
      (AppendsAsked config asked number manager (pass_lock p).base (notes_of before) old new)
  pub broken : BreaksIn answer (notes_of (pass_seen q))
