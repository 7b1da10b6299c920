-- What the program's own entries keep.
use Rattle.std.specs.Prelude.{◌≡◌, ◌<◌, ◌≤◌, ◌^◌, ◌+◌, ◌==◌, nat_lt, ⊤, ℕ, Bool, true, false, not, ◌&&◌, List, [], ◌∷◌, map, slice_get, Some}
use Rattle.std.specs.List.{list_any, AllByRecursion}
use Rattle.wol_model.specs.Log.{has_bit}
use Rattle.wol_model.specs.Index.{Indexed, AreRising}
use Rattle.block_cells.specs.declared.record.Rec.{Rec}
use Rattle.block_cells.specs.Masks.{in_mask}
use Rattle.redirect_map.specs.declared.entry.Entry.{Entry}
use Rattle.redirect_map.specs.Index.{entry_of, entry_at}

-- an entry as contracts see it
abbrev pub seen : Entry → Indexed
seen e = entry_of e.record e.homed

-- the entry keeps block b
abbrev pub keeps : Entry → ℕ → Bool
keeps e b = in_mask e.record.lbn e.record.keep b

abbrev pub one_keeps : List Entry → ℕ → Bool
one_keeps es b = list_any (λ e. keeps e b) es

-- a mask of 128 blocks from `first` on, with those that an entry keeps
abbrev pub IsKept : ℕ → List Entry → ℕ → Type 0
IsKept first es mask = (i : ℕ) → has_bit mask i ≡ (nat_lt i 128 && one_keeps es (first + i))

abbrev pub is_version : ℕ → Entry → Bool
is_version version e = e.record.version == version

-- the ranges of an entry
pub record IsInRange (e : Entry) : Type 0 where
  pub some : 1 ≤ e.record.count
  pub count : e.record.count ≤ 128
  pub within : e.record.lbn + e.record.count ≤ 2 ^ 32
  pub keeps : 0 < e.record.keep
  pub keep_within : e.record.keep < 2 ^ e.record.count
  pub homed_within : e.homed < 2 ^ e.record.count

-- homed blocks are kept, and no later entry keeps them
abbrev pub AreLive : List Entry → Type 0
AreLive [] = ⊤
AreLive (e ∷ es) = ((i : ℕ) → has_bit e.homed i ≡ true
    → (has_bit e.record.keep i ≡ true) × (one_keeps es (e.record.lbn + i) ≡ false)) × AreLive es

-- no entry has a homed block
abbrev pub NoneHomed : List Entry → Type 0
NoneHomed es = AllByRecursion (λ e. e.homed ≡ 0) es

-- what is so of the entries of each index
pub record AreEntries (es : List Entry) : Type 0 where
  pub rising : AreRising (map (λ e. e.record.version) es)
  pub ranges : AllByRecursion IsInRange es
  pub live : AreLive es

-- the same entry, where blocks are homed no more that the record keeps
pub record IsUnhomed (r : Rec) (old new : Entry) : Type 0 where
  pub same : new.record ≡ old.record
  pub homed : (i : ℕ) → has_bit new.homed i
      ≡ (has_bit old.homed i && not (in_mask r.lbn r.keep (old.record.lbn + i)))

-- the same entry, where blocks of a set are homed no more
pub record IsWithout (S : ℕ → Bool) (old new : Entry) : Type 0 where
  pub same : new.record ≡ old.record
  pub homed : (i : ℕ) → has_bit new.homed i ≡ (has_bit old.homed i && not (S (old.record.lbn + i)))

-- the entry stands at place k, and is the one of this version
pub record IsAt (es : List Entry) (version k : ℕ) (e : Entry) : Type 0 where
  pub at : slice_get es k ≡ Some e
  pub version_is : e.record.version ≡ version
  pub found : entry_at (map seen es) version ≡ Some (seen e)
