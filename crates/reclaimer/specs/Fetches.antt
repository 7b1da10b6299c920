-- Which record is fetched, whose data a fetch has, and which of its blocks go home.
use Rattle.std.specs.Prelude.{⊤, ◌≡◌, ◌<◌, ◌==◌, ◌&&◌, ◌++◌, ℕ, Bool, false, List, find, length, Option, None, Some, Result, Ok, Err, IsTrue, count_by, if◌then◌else◌}
use Rattle.std.specs.List.{range_with_len}
use Rattle.std.specs.Option.{option_map_or}
use Rattle.wol_model.specs.History.{writes}
use Rattle.wol_model.specs.Index.{Listed, Indexed, listed_in, is_due}
use Rattle.wol_promise.specs.Ruled.{Noted, entries_of}
use Rattle.wol_promise.specs.Stands.{IsDataOf}
use Rattle.block_cells.specs.Masks.{in_mask, IsMask}
use Rattle.redirect_map.specs.Index.{entry_at}
use Rattle.garbage_list.specs.Least.{can_go, can_go_home}
use Rattle.manager.specs.declared.base.ManagerBase.{ManagerBase}
use Rattle.manager.specs.declared.manager.Manager.{Manager}
use Rattle.manager.specs.declared.part.StepFault.{StepFault}
use Rattle.reclaimer.specs.Records.{FetchedRecord}
use Rattle.reclaimer.specs.declared.answers.Fetched.{Fetched}
use Rattle.reclaimer.specs.declared.answers.Fetched.TheVariants as fetched

-- ---- Which record is next

-- the entry of least version with a due block and an awake logger, where home is awake; entries
-- stand by rising version
abbrev pub due_entry : {D : Type 0} → Manager D → Option Indexed
due_entry m =
    if m.home_up then find (can_go_home m.ups.items m.index.entries) m.index.entries else None

-- the entry of least version with a block that may go and an awake logger
abbrev pub going_entry : {D : Type 0} → Manager D → Option Indexed
going_entry m = find (can_go m.ups.items m.index.entries) m.index.entries

-- ---- What is fetched

-- the fetch has this entry's record: version and range, and the blocks that are due
pub record IsFetchOf (es : List Listed) (e : Indexed) (f : FetchedRecord) : Type 0 where
  pub version : f.version ≡ e.listed.version
  pub first : f.first ≡ e.listed.first
  pub count : length f.blocks ≡ length e.listed.keep
  pub due : IsMask e.listed.first (is_due es e.listed) f.due

-- its blocks are those of its version in what the manager began with, or in the writes since
abbrev pub HasData : (tells : Bool) → Option FetchedRecord → ManagerBase → List Noted → Type 0
HasData tells None b notes = ⊤
HasData tells (Some f) b notes =
    IsTrue tells → IsDataOf b.volume.began (writes (entries_of notes)) f.version f.first f.blocks

-- so they are in each later turn, whatever stands in the entries between
abbrev pub DataIsKept : Type 0
DataIsKept = (tells : Bool) (fetched : Option FetchedRecord) (b : ManagerBase)
    (notes more : List Noted) → HasData tells fetched b notes
    → HasData tells fetched b (notes ++ more)

-- ---- What goes home of it

-- block b is one of the mask, and still due in the record of this version and range
abbrev pub is_still_due : List Indexed → (version first count due : ℕ) → (b : ℕ) → Bool
is_still_due es version first count due b = in_mask first due b
    && option_map_or (λ (e : Indexed). e.listed.first == first
    && (length e.listed.keep == count && is_due (listed_in es) e.listed b))
    (entry_at es version) false

-- block b was fetched and is still due, and home is awake
abbrev pub goes_home : {D : Type 0} → Manager D → Option FetchedRecord → (b : ℕ) → Bool
goes_home m None b = false
goes_home m (Some f) b =
    m.home_up && is_still_due m.index.entries f.version f.first (length f.blocks) f.due b

-- how many such blocks there are
abbrev pub home_count : {D : Type 0} → Manager D → Option FetchedRecord → ℕ
home_count m None = 0
home_count m (Some f) = count_by (goes_home m (Some f)) (range_with_len f.first (length f.blocks))

-- what was fetched has such a block
abbrev pub FindsDue : {D : Type 0} → Result Fetched StepFault → Manager D → Option FetchedRecord
    → Type 0
FindsDue (Ok (fetched.Some version count)) m into = 0 < home_count m into
FindsDue (Ok fetched.Nothing) m into = ⊤
FindsDue (Err fault) m into = ⊤
