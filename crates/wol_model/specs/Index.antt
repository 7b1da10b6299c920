-- An index of records: which blocks are live, due and may go, and what reclaim makes of it.
use Rattle.std.specs.Prelude.{⊤, ◌≡◌, ◌<◌, ℕ, ◌+◌, Bool, true, not, ◌&&◌, ◌||◌, List, [], ◌∷◌, map, length, sum_by}
use Rattle.std.specs.List.{list_any, range_with_len, count_by, AllByRecursion}
use Rattle.wol_model.specs.Extents.{Cover, marked, remarked, may_go, has_newer, has_older}

-- a record in an index: for each block from `first` on whether it is kept and whether it is home
-- too, and its lane
pub record Listed : Type 0 where
  pub version : ℕ
  pub first : ℕ
  pub keep : List Bool
  pub lane : ℕ
  pub homed : List Bool

-- the blocks that a listed record keeps, under its version
abbrev pub cover_of : Listed → Cover
cover_of e = record { version = e.version; covers = marked e.first e.keep }

-- block b of the record is home too
abbrev pub is_homed : Listed → ℕ → Bool
is_homed e = marked e.first e.homed

-- the covers of listed records
abbrev pub listed_covers : List Listed → List Cover
listed_covers es = map cover_of es

-- a listed record keeps block b
abbrev pub is_covered : List Listed → ℕ → Bool
is_covered es b = list_any (λ e. (cover_of e).covers b) es

-- a block of a record is live where the record keeps it and no newer record does
abbrev pub is_live : List Listed → Listed → ℕ → Bool
is_live es e b = (cover_of e).covers b && not (has_newer (listed_covers es) e.version b)

-- it is due where it is live and not home yet
abbrev pub is_due : List Listed → Listed → ℕ → Bool
is_due es e b = is_live es e b && not (is_homed e b)

-- it goes where it may be given up
abbrev pub goes : List Listed → Listed → ℕ → Bool
goes es e b = may_go (listed_covers es) (is_homed e) (cover_of e) b

-- the numbers of all blocks of a record, kept or not
abbrev pub block_numbers : Listed → List ℕ
block_numbers e = range_with_len e.first (length e.keep)

-- a block of the record is due
abbrev pub has_due : List Listed → Listed → Bool
has_due es e = list_any (is_due es e) (block_numbers e)

-- a block of the record goes
abbrev pub has_going : List Listed → Listed → Bool
has_going es e = list_any (goes es e) (block_numbers e)

-- the record keeps a block
abbrev pub keeps_a_block : Listed → Bool
keeps_a_block e = list_any (cover_of e).covers (block_numbers e)

-- the kept blocks that an older record keeps too
abbrev pub is_older : List Listed → Listed → ℕ → Bool
is_older es e b = (cover_of e).covers b && has_older (listed_covers es) e.version b

-- there is a mark of home for each block of the record, and it is set for live blocks alone
pub record IsListed (es : List Listed) (e : Listed) : Type 0 where
  pub marks : length e.homed ≡ length e.keep
  pub homed_are_live : (b : ℕ) → is_homed e b ≡ true → is_live es e b ≡ true

-- a listed record with its place: the index of its segment on the lane's logger, and the position
-- of its head there
pub record Indexed : Type 0 where
  pub listed : Listed
  pub index : ℕ
  pub pos : ℕ

-- listed records without their places
abbrev pub listed_in : List Indexed → List Listed
listed_in indexed = map (λ e. e.listed) indexed

-- blocks of a record become homed
abbrev pub homing : (put : ℕ → Bool) → Listed → Listed
homing put e = record e { homed = remarked e.first e.homed (λ b m. m || put b) }

-- a record gives up the blocks that go; what is given up is homed no more
abbrev pub keeping : List Listed → Listed → Listed
keeping es e = record e {
  keep = remarked e.first e.keep (λ b m. m && not (goes es e b));
  homed = remarked e.first e.homed (λ b m. m && not (goes es e b));
}

-- numbers that rise
abbrev pub AreRising : List ℕ → Type 0
AreRising [] = ⊤
AreRising (v ∷ vs) = AllByRecursion (λ w. v < w) vs × AreRising vs

-- the kept blocks and the due blocks together: what a drain has left to do
abbrev pub left_in : List Listed → Listed → ℕ
left_in es e =
    count_by (cover_of e).covers (block_numbers e) + count_by (is_due es e) (block_numbers e)

-- the same of all records
abbrev pub left : List Listed → ℕ
left es = sum_by (left_in es) es
