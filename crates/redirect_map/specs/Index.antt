-- What contracts see of an index: the records of a volume by rising version, each with its place in
-- a log and its kept and homed blocks.
use Rattle.std.specs.Prelude.{⊤, ◌≡◌, ◌<◌, ◌≤◌, ◌^◌, ◌+◌, ◌++◌, ◌∷◌, [], ℕ, Bool, true, false, not, ◌&&◌, ◌==◌, List, map, find, length, Option, None, Some, IsSome, IfSome, IfNone, slice_index_or, if◌then◌else◌}
use Rattle.std.specs.List.{AllByRecursion, list_any}
use Rattle.wol_model.specs.Log.{marks_of}
use Rattle.wol_model.specs.Extents.{Cover, remarked}
use Rattle.wol_model.specs.Index.{Listed, Indexed, listed_in, AreRising, IsListed, cover_of, keeps_a_block, is_due, goes, block_numbers}
use Rattle.block_cells.specs.declared.record.Rec.{Rec}
use Rattle.block_cells.specs.Masks.{in_mask}
use Rattle.block_cells.specs.Runs.{runs_of}
use Rattle.redirect_map.specs.declared.going.Sought.{Sought}
use Rattle.redirect_map.specs.declared.going.Sought.TheVariants.{Due, Going}

-- the records by rising version, and for how many runs of kept blocks there is room
pub record Contents : Type 0 where
  pub entries : List Indexed
  pub reserved : ℕ

abbrev pub cover_at : Indexed → Cover
cover_at e = cover_of e.listed

abbrev pub has_version : ℕ → Indexed → Bool
has_version version e = e.listed.version == version

-- the entry of this version
abbrev pub entry_at : List Indexed → ℕ → Option Indexed
entry_at es version = find (has_version version) es

abbrev pub HasVersion : List Indexed → ℕ → Type 0
HasVersion es version = IsSome (entry_at es version)

-- the record as an entry, with the homed blocks of this mask
abbrev pub entry_of : Rec → ℕ → Indexed
entry_of r homed = record {
  listed = record {
    version = r.version;
    first = r.lbn;
    keep = marks_of r.count r.keep;
    lane = r.lane;
    homed = marks_of r.count homed;
  };
  index = r.segment;
  pos = r.pos;
}

-- r is the record of entry e
pub record IsRecordOf (e : Indexed) (r : Rec) : Type 0 where
  pub version : r.version ≡ e.listed.version
  pub first : r.lbn ≡ e.listed.first
  pub count : r.count ≡ length e.listed.keep
  pub keep : marks_of r.count r.keep ≡ e.listed.keep
  pub within : r.keep < 2 ^ r.count
  pub lane : r.lane ≡ e.listed.lane
  pub segment : r.segment ≡ e.index
  pub pos : r.pos ≡ e.pos

-- the answer is the record of the entry that is looked for, and none where there is none
abbrev pub IsAnswer : Option Indexed → Option Rec → Type 0
IsAnswer None None = ⊤
IsAnswer None (Some r) = ⊥
IsAnswer (Some e) None = ⊥
IsAnswer (Some e) (Some r) = IsRecordOf e r

-- the entry of this version becomes f of it
abbrev pub changed : ℕ → (Indexed → Indexed) → List Indexed → List Indexed
changed version f es = map (λ e. if has_version version e then f e else e) es

-- blocks are homed no more, as a record covers them that is newer
abbrev pub unhomed : Cover → Indexed → Indexed
unhomed c e = record e {
  listed = record e.listed
      { homed = remarked e.listed.first e.listed.homed (λ b m. m && not (c.covers b)) };
}

-- what a record that is added has to be: 1 to 128 blocks below block number 2^32, of which one is
-- kept
pub record IsNew (r : Rec) : Type 0 where
  pub some : 1 ≤ r.count
  pub count : r.count ≤ 128
  pub within : r.lbn + r.count ≤ 2 ^ 32
  pub keeps : 0 < r.keep
  pub keep_within : r.keep < 2 ^ r.count

-- the record can be added: its version is above all others, and there is room for its runs
pub record CanAdd (old : Contents) (r : Rec) : Type 0 where
  pub newest : AllByRecursion (λ e. e.listed.version < r.version) old.entries
  pub is_new : IsNew r
  pub reserved : runs_of (marks_of r.count r.keep) ≤ old.reserved

-- the record is listed behind all others, in which what it keeps is homed no more; it took no more
-- room than for its runs
pub record IsAdded (old new : Contents) (r : Rec) : Type 0 where
  pub entries : new.entries
      ≡ map (unhomed (cover_at (entry_of r 0))) old.entries ++ entry_of r 0 ∷ []
  pub room : old.reserved ≤ new.reserved + runs_of (marks_of r.count r.keep)

-- the homed blocks are those of the mask
abbrev pub with_homed : ℕ → Indexed → Indexed
with_homed mask e =
    record e { listed = record e.listed { homed = marks_of (length e.listed.keep) mask } }

-- the blocks of the mask are given up: neither kept nor homed
abbrev pub given_up : ℕ → Indexed → Indexed
given_up mask e = record e {
  listed = record e.listed {
    keep = remarked e.listed.first e.listed.keep (λ b m. m && not (in_mask e.listed.first mask b));
    homed = remarked e.listed.first e.listed.homed
        (λ b m. m && not (in_mask e.listed.first mask b));
  };
}

-- 1 to 128 blocks below block number 2^32, of which one is kept; and homed are live blocks alone
pub record IsEntry (es : List Listed) (e : Listed) : Type 0 where
  pub count : length e.keep ≤ 128
  pub within : e.first + length e.keep ≤ 2 ^ 32
  pub keeps : keeps_a_block e ≡ true
  pub homed : IsListed es e

-- what is so of each index
pub record IsIndex (es : List Indexed) : Type 0 where
  pub rising : AreRising (map (λ e. e.listed.version) es)
  pub each : AllByRecursion (λ e. IsEntry (listed_in es) e.listed) es

-- the block of the record is one that is sought: it is due, or may go
abbrev pub is_sought : Sought → List Listed → Listed → ℕ → Bool
is_sought Due = is_due
is_sought Going = goes

-- the record has such a block
abbrev pub has_sought : Sought → List Listed → Listed → Bool
has_sought sought es e = list_any (is_sought sought es e) (block_numbers e)

-- no record from `start` on, on these lanes, has what is sought before the version that is answered,
-- or, with none, at all; the answer is no version before `start`, and needn't have it itself
pub record PassesOverNone (sought : Sought) (lanes : List Bool) (es : List Indexed) (start : ℕ)
    (answer : Option ℕ) : Type 0 where
  pub from : IfSome answer (λ v. start ≤ v)
  pub least : IfSome answer (λ v. AllByRecursion
      (λ e. start ≤ e.listed.version → e.listed.version < v
      → slice_index_or lanes e.listed.lane false ≡ true
      → has_sought sought (listed_in es) e.listed ≡ false) es)
  pub none : IfNone answer (AllByRecursion
      (λ e. start ≤ e.listed.version → slice_index_or lanes e.listed.lane false ≡ true
      → has_sought sought (listed_in es) e.listed ≡ false) es)
