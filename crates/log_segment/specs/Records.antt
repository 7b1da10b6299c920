-- The records that calls write, and how many of a list are valid.
use Rattle.std.specs.Prelude.{◌≡◌, ◌≤◌, ◌<◌, ◌+◌, ◌-◌, ◌^◌, ◌==◌, not, ℕ, true, List, [], ◌∷◌, length, take, drop}
use Rattle.std.specs.List.{AllByRecursion, sum_by, count_by}
use Rattle.wol_disk.specs.Disk.{Block}
use Rattle.wol_model.specs.Heads.{RecordHead}
use Rattle.wol_model.specs.Log.{Record, has_bit}
use Rattle.log_segment.specs.declared.item.Item.{Item}

-- the head of a new record, which keeps all its blocks
abbrev pub new_head : (owner version first count : ℕ) → RecordHead
new_head owner version first count = record {
  form = 2;
  owner = owner;
  version = version;
  first = first;
  count = count;
  mask = 2 ^ count - 1;
}

abbrev pub new_record : (owner version first : ℕ) → List Block → Record
new_record owner version first blocks =
    record { head = new_head owner version first (length blocks); blocks = blocks }

-- the records of a group: one for each item, of rising versions, with the items' blocks in order
abbrev pub group_of : (owner version : ℕ) → List Item → List Block → List Record
group_of owner version [] from = []
group_of owner version (i ∷ items) from =
    record { head = new_head owner version i.lbn i.count; blocks = take i.count from }
    ∷ group_of owner (version + 1) items (drop i.count from)

-- how many blocks the items have
abbrev pub count_of : List Item → ℕ
count_of items = sum_by (λ (i : Item). i.count) items

-- each item has some blocks and no more than a record may have, and they end within a volume
abbrev pub AreItems : List Item → Type 0
AreItems items = AllByRecursion
    (λ (i : Item). (1 ≤ i.count) × (i.count ≤ 128) × (i.lbn + i.count ≤ 2 ^ 32)) items

-- the head h in the form that g has is g
abbrev pub IsSameHead : (h g : RecordHead) → Type 0
IsSameHead h g = record h { form = g.form } ≡ g

-- some of the kept blocks and not all of them
pub record IsProperPart (keep kept : ℕ) : Type 0 where
  pub fewer : keep < kept
  pub among : (i : ℕ) → has_bit keep i ≡ true → has_bit kept i ≡ true

-- the record with these of its blocks kept
abbrev pub trimmed : (keep : ℕ) → Record → Record
trimmed keep r = record r { head = record r.head { form = 2; mask = keep } }

-- how many records keep a block
abbrev pub count_valid : List Record → ℕ
count_valid rs = count_by (λ r. not (r.head.mask == 0)) rs
