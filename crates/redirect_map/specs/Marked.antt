-- Marks of records that may have something due, or something that goes. A mark may be set where it
-- needn't.
use Rattle.std.specs.Prelude.{◌≡◌, ◌+◌, ◌%◌, ℕ, Bool, true, false, not, ◌&&◌, ◌||◌, List, Option, Some, slice_get}
use Rattle.wol_model.specs.Log.{has_bit}
use Rattle.redirect_map.specs.Marks.{Contents, IsWithin, mask_of}
use Rattle.block_cells.specs.declared.record.Rec.{Rec}
use Rattle.block_cells.specs.declared.blocks.Cell.{Cell}
use Rattle.block_cells.specs.Masks.{in_mask}
use Rattle.block_cells.specs.Cells.{is_held, take_one, version_in}
use Rattle.redirect_map.specs.declared.entry.Entry.{Entry}
use Rattle.redirect_map.specs.declared.going.Sought.{Sought}
use Rattle.redirect_map.specs.declared.going.Sought.TheVariants.{Due, Going}
use Rattle.redirect_map.specs.Kept.{keeps, AreEntries}

-- bits of a version's mask: the record is there; it may have a due block; it may have a block that
-- goes. Lanes with one rest share their bits
abbrev pub there_bit : ℕ
there_bit = 126

abbrev pub lane_bit : Sought → ℕ → ℕ
lane_bit Due lane = lane % 63
lane_bit Going lane = 63 + lane % 63

-- the block is noted to be home in the record
abbrev pub is_home : Entry → ℕ → Bool
is_home e b = in_mask e.record.lbn e.homed b

-- block b, of which c is known, is due
abbrev pub is_due_of : Entry → ℕ → Option Cell → Bool
is_due_of e b c = keeps e b && (is_held e.record.version false c && not (is_home e b))

-- or may go
abbrev pub goes_of : Entry → ℕ → Option Cell → Bool
goes_of e b c = keeps e b
    && (not (is_held e.record.version false c) || (is_home e b && is_held e.record.version true c))

-- or is what is sought
abbrev pub sought_of : Sought → Entry → ℕ → Option Cell → Bool
sought_of Due = is_due_of
sought_of Going = goes_of

-- a version's mask has the bits that its entry needs
pub record IsMarked (known : ℕ → Option Cell) (mask : ℕ) (e : Entry) : Type 0 where
  pub there : has_bit mask there_bit ≡ true
  pub due : (b : ℕ) → is_due_of e b (known b) ≡ true
      → has_bit mask (lane_bit Due e.record.lane) ≡ true
  pub going : (b : ℕ) → goes_of e b (known b) ≡ true
      → has_bit mask (lane_bit Going e.record.lane) ≡ true

abbrev pub AreMarked : List Entry → (ℕ → Option Cell) → (ℕ → ℕ) → Type 0
AreMarked es known masks =
    (k : ℕ) (e : Entry) → slice_get es k ≡ Some e → IsMarked known (masks e.record.version) e

-- all records are there
abbrev pub AreThere : List Entry → (ℕ → ℕ) → Type 0
AreThere es masks = (k : ℕ) (e : Entry) → slice_get es k ≡ Some e
    → has_bit (masks e.record.version) there_bit ≡ true

-- the block begins to go of its newest record: as a newer one covers it, or as the one other record
-- that keeps it gives it up while it is home
abbrev pub begins : (covered : Bool) → Entry → ℕ → Option Cell → Bool
begins true e b c = is_held e.record.version false c
begins false e b c = is_home e b && is_held e.record.version true (take_one c)

-- a record of which the block begins to go is marked
abbrev pub AreBegun : Bool → List Entry → (ℕ → Option Cell) → (ℕ → ℕ) → ℕ → Type 0
AreBegun covered es known masks b = (k : ℕ) (e : Entry) → slice_get es k ≡ Some e
    → begins covered e b (known b) ≡ true
    → has_bit (masks e.record.version) (lane_bit Going e.record.lane) ≡ true

-- no mask loses a bit
abbrev pub KeepsBits : Contents → Contents → Type 0
KeepsBits old new = (v : ℕ) → IsWithin (mask_of old v) (mask_of new v)

-- the marks of the entries are right, and of each block that this record keeps its version is the
-- newest
pub record IsMarkedUnder (r : Rec) (es : List Entry) (known : ℕ → Option Cell)
    (masks : ℕ → ℕ) : Type 0 where
  pub entries : AreEntries es
  pub newer : (b : ℕ) → in_mask r.lbn r.keep b ≡ true → version_in (known b) ≡ Some r.version
  pub marked : AreMarked es known masks

-- the marks are right, and their room is what it was
pub record StaysMarked (es : List Entry) (known : ℕ → Option Cell)
    (old new : Contents) : Type 0 where
  pub marked : AreMarked es known (mask_of new)
  pub room : new.room ≡ old.room
