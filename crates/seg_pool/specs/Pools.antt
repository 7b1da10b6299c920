-- A pool as callers see it, and what it stands for.
use Rattle.std.specs.Prelude.{◌≡◌, ◌≢◌, ℕ, List, Option, None, Some, is_some, count_by, map, length, slice_index_or}
use Rattle.turn_lock.specs.Histories.{Entry}
use Rattle.seg_pool.specs.declared.base.Holder.{Holder}
use Rattle.seg_pool.specs.declared.base.Holder.TheVariants.{Elsewhere, InPool, HeldBy}
use Rattle.seg_pool.specs.declared.base.PoolBase.{PoolBase}
use Rattle.seg_pool.specs.declared.pool.Pool.{Pool}
use Rattle.seg_pool.specs.declared.pool.Slot.{Slot}
use Rattle.seg_pool.specs.declared.pool.Slot.TheVariants.{Empty, Noted, Free}
use Rattle.seg_pool.specs.Holders.{holder, pool_after, ArePoolUses, is_in_pool}
use Rattle.seg_pool.specs.Operations.{uses_of, entries_of}

abbrev pub item_in : {T : Type 0} → Slot T → Option T
item_in Empty = None
item_in (Noted pass) = None
item_in (Free item) = Some item

abbrev pub note_in : {T : Type 0} → Slot T → Option ℕ
note_in Empty = None
note_in (Noted pass) = Some pass
note_in (Free item) = None

abbrev pub holder_in : {T : Type 0} → Slot T → Holder
holder_in Empty = Elsewhere
holder_in (Noted pass) = HeldBy pass
holder_in (Free item) = InPool

module _ {T : Type 0} where
  -- the volume whose segments the pool has
  abbrev pub volume_of : Pool T → ℕ
  volume_of p = p.volume

  -- the number of blocks of each segment
  abbrev pub blocks_of : Pool T → ℕ
  blocks_of p = p.blocks

  -- how many indexes there are
  abbrev pub room_of : Pool T → ℕ
  room_of p = p.room

  -- the free item of an index
  abbrev pub item_at : Pool T → (index : ℕ) → Option T
  item_at p index = item_in (slice_index_or p.slots.items index Empty)

  -- the pass that was noted to hold an index
  abbrev pub note_at : Pool T → (index : ℕ) → Option ℕ
  note_at p index = note_in (slice_index_or p.slots.items index Empty)

  -- how many items are free
  abbrev pub item_count : Pool T → ℕ
  item_count p = count_by (λ (s : Slot T). is_some (item_in s)) p.slots.items

  -- no item is free
  abbrev pub IsEmptyPool : Pool T → Type 0
  IsEmptyPool p = (index : ℕ) → item_at p index ≡ None

  -- the pool of one volume, before and after a call
  pub record IsSamePool (old new : Pool T) : Type 0 where
    pub volume : volume_of new ≡ volume_of old
    pub blocks : blocks_of new ≡ blocks_of old
    pub room : room_of new ≡ room_of old

  -- at this index is then this item and this note, and at each other what was there
  pub record ChangesOnly (old new : Pool T) (index : ℕ) (item : Option T) (note : Option ℕ) :
      Type 0 where
    pub item_here : item_at new index ≡ item
    pub note_here : note_at new index ≡ note
    pub items : (i : ℕ) → i ≢ index → item_at new i ≡ item_at old i
    pub notes : (i : ℕ) → i ≢ index → note_at new i ≡ note_at old i

  -- the base of a pool whose lock is made now
  abbrev pub base_of : Pool T → PoolBase
  base_of p = record {
    volume = p.volume;
    blocks = p.blocks;
    holders = map (λ (s : Slot T). holder_in s) p.slots.items;
  }

-- the holders after the entries
abbrev pub holders_after : PoolBase → List Entry → List Holder
holders_after b entries = pool_after b.holders (uses_of entries)

-- a pool stands for its base and for entries that are uses, each of which may be made where it
-- stands: its items are those of the free indexes, all blank and of its volume and number of blocks
pub record StandsFor {T : Type 0} (blank : ℕ → ℕ → T → Type 0) (p : Pool T) (b : PoolBase)
    (entries : List Entry) : Type 0 where
  pub volume : volume_of p ≡ b.volume
  pub blocks : blocks_of p ≡ b.blocks
  pub room : room_of p ≡ length b.holders
  pub spelled : entries_of (uses_of entries) ≡ entries
  pub legal : ArePoolUses b.holders (uses_of entries)
  pub free : (index : ℕ)
      → is_some (item_at p index) ≡ is_in_pool (holder (holders_after b entries) index)
  pub items : (index : ℕ) (item : T) → item_at p index ≡ Some item → blank b.volume b.blocks item
