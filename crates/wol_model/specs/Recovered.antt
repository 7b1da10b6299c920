-- The array that an image of home and images of segments stand for, and the reader of logs that
-- computes it.
use Rattle.std.specs.Prelude.{ℕ, zero, suc, ◌+◌, ◌-◌, ◌^◌, Bool, ◌&&◌, ◌||◌, List, [], ◌∷◌, map, Option, None, Some, drop, take, unwrap_or, if◌then◌else◌, ◌==◌, nat_lt, nat_le}
use Rattle.std.specs.List.{flat_map}
use Rattle.std.specs.Option.{option_map}
use Rattle.std.specs.Str.{bytes_eq}
use Rattle.byteorder.specs.Endian.{little_number}
use Rattle.wol_disk.specs.Disk.{Block}
use Rattle.wol_model.specs.Heads.{RecordHead, head_block, owned_block, gate_block}
use Rattle.wol_model.specs.Extents.{Extent, with_extents}
use Rattle.wol_model.specs.Log.{Record, extent_of}

-- ---- Reading a head

-- the test that a head's fields are in their ranges
abbrev pub is_in_range : RecordHead → Bool
is_in_range h =
    nat_lt h.owner (2 ^ 32)
    && (nat_le 1 h.version && (nat_lt h.version (2 ^ 63) && (nat_le 1 h.count && (nat_le h.count 128
    && (nat_le (h.first + h.count) (2 ^ 32) && (nat_lt h.mask (2 ^ h.count)
    && ((h.form == 2) || ((h.form == 1) && ((h.mask == 0) || (h.mask == 2 ^ h.count - 1))))))))))

-- the number of n bytes at this place
abbrev pub number_at : Block → (at n : ℕ) → ℕ
number_at b at n = little_number n (drop at b)

-- the head that a block would spell if it spelled one
unfoldable pub fields_of : Block → RecordHead
fields_of b =
    let form = number_at b 7 1 - 48 in
    let count = number_at b 32 4 in
    record {
      form = form;
      owner = number_at b 12 4;
      version = number_at b 16 8;
      first = number_at b 24 8;
      count = count;
      mask = if form == 1 then (if number_at b 8 4 == 1 then 2 ^ count - 1 else 0)
          else number_at b 36 16;
    }

-- the head that a block spells
unfoldable pub spelled_head : Block → Option RecordHead
spelled_head b =
    let h = fields_of b in if is_in_range h && bytes_eq b (head_block h) then Some h else None

-- ---- Reading a log

-- a record of this owner in front of further ones, if there are those
abbrev pub followed_by : ℕ → List Block → Option RecordHead → Option (List Record)
    → Option (List Record)
followed_by owner bs None rest = None
followed_by owner bs (Some h) rest = if h.owner == owner
    then option_map (λ rs. record { head = h; blocks = take h.count bs } ∷ rs) rest else None

-- the records behind the first n blocks, if that is what stands there
abbrev pub read_records : (owner n : ℕ) → List Block → Option (List Record)
read_records owner zero [] = Some []
read_records owner zero (b ∷ bs) =
    if bytes_eq b gate_block then Some []
    else let h = spelled_head b in followed_by owner bs h
    (read_records owner (unwrap_or (option_map (λ (r : RecordHead). r.count) h) 0) bs)
read_records owner (suc n) [] = None
read_records owner (suc n) (b ∷ bs) = read_records owner n bs

-- the records of a log of this owner
unfoldable pub read_log : (owner : ℕ) → List Block → Option (List Record)
read_log owner [] = None
read_log owner (b ∷ bs) = if nat_lt owner (2 ^ 32) && bytes_eq b (owned_block owner)
    then read_records owner 0 bs else None

-- ---- What is recovered

-- the extents of a segment, none where it is no log of this owner
unfoldable pub extents_in : (owner : ℕ) → List Block → List Extent
extents_in owner bs = map extent_of (unwrap_or (read_log owner bs) [])

-- those of all segments, in order
abbrev pub extents_of : (owner : ℕ) → List (List Block) → List Extent
extents_of owner segments = flat_map (extents_in owner) segments

-- the array that an image of home and images of segments stand for
unfoldable pub recovered : (owner : ℕ) → (home : List Block) → (segments : List (List Block))
    → List Block
recovered owner home segments = with_extents home (extents_of owner segments)
