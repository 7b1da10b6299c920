-- Where writes are placed, and how a manager's look at its records goes on.
use Rattle.std.specs.Prelude.{◌≡◌, ◌≢◌, ℕ, ◌+◌, Bool, true, false, not, ◌&&◌, ◌||◌, List, [], ◌∷◌, ◌++◌, map, Option, None, Some, length, nat_le, nat_lt, ◌==◌, slice_get, slice_set, slice_index_or, IsTrue, position, replicate}
use Rattle.std.specs.List.{list_any, range_with_len, filter, AllByRecursion}
use Rattle.std.specs.Option.{option_map_or}
use Rattle.wol_model.specs.Blocks.{Write}
use Rattle.wol_model.specs.Extents.{newest, remarked}
use Rattle.wol_model.specs.Index.{Listed, cover_of, is_covered, is_due, has_due, has_going, keeps_a_block, homing, keeping}
use Rattle.wol_model.specs.Placing.{Place, Home, Log, Full, place}

-- home, or a segment of a logger
pub data PartName : Type 0 where
  HomePart : PartName
  SegmentPart : (logger index : ℕ) → PartName

-- what decides of placing and reclaim: which disks are awake, the next version, and the records by
-- rising version
pub record Look : Type 0 where
  pub home_up : Bool
  pub ups : List Bool
  pub next : ℕ
  pub listed : List Listed
  -- the part at which a disk call failed, since when nothing is answered
  pub down : Option PartName

-- the logger of a record is awake
abbrev pub is_within_reach : Look → Listed → Bool
is_within_reach l e = slice_index_or l.ups e.lane false

-- ---- Reads

-- the newest record of block b is on this lane's logger
abbrev pub has_newest_on : List Listed → (lane b : ℕ) → Bool
has_newest_on es lane b =
    option_map_or (λ (e : Listed). e.lane == lane) (newest cover_of es b) false

-- after a read: home is awake where a block isn't covered, and so is the logger of each covered
-- block's newest record
abbrev pub woken : Look → (first count : ℕ) → Look
woken l first count = record l {
  home_up = l.home_up || list_any (λ b. not (is_covered l.listed b)) (range_with_len first count);
  ups = map (λ k. slice_index_or l.ups k false
      || list_any (has_newest_on l.listed k) (range_with_len first count))
      (range_with_len 0 (length l.ups));
}

-- ---- Writes

-- room in each lane but these
abbrev pub rooms_but : (passed : List ℕ) → List Bool → List Bool
rooms_but passed ups =
    map (λ k. not (list_any (λ p. p == k) passed)) (range_with_len 0 (length ups))

-- where a write goes with this look, when the pools at these places of the view were found empty
abbrev pub place_of : (passed : List ℕ) → Look → Write → Place
place_of passed l w = place l.home_up (list_any (is_covered l.listed)
    (range_with_len w.first (length w.blocks))) l.ups (rooms_but passed l.ups)

-- block b is one of the write
abbrev pub is_in : Write → ℕ → Bool
is_in w b = nat_le w.first b && nat_lt b (w.first + length w.blocks)

-- a new record keeps all its blocks, and older records' blocks that it covers are homed no more
abbrev pub listing : Look → (lane : ℕ) → Write → List Listed
listing l lane w =
    map (λ (e : Listed).
    record e { homed = remarked e.first e.homed (λ b m. m && not (is_in w b)) }) l.listed
    ++ record {
      version = l.next;
      first = w.first;
      keep = replicate (length w.blocks) true;
      lane = lane;
      homed = replicate (length w.blocks) false;
    } ∷ []

-- after a write at this place
abbrev pub placed : Place → Look → Write → Look
placed Home l w = record l { home_up = true }
placed (Log lane) l w =
    record l { ups = slice_set l.ups lane true; next = l.next + 1; listed = listing l lane w }
placed Full l w = l

-- the version that a write gets at this place: the next one in a log, none at home
abbrev pub version_at : Place → Look → Option ℕ
version_at Home l = None
version_at (Log lane) l = Some l.next
version_at Full l = None

-- writes, each placed on the look that the ones before it leave
abbrev pub AreWrites : (passed : List ℕ) → Look → List Write → Look → Type 0
AreWrites passed l [] m = m ≡ l
AreWrites passed l (w ∷ ws) m =
    (place_of passed l w ≢ Full) × (w.version ≡ version_at (place_of passed l w) l)
    × AreWrites passed (placed (place_of passed l w) l w) ws m

-- after a drain: no records, and home and each logger that had one are awake
abbrev pub drained : Look → Look
drained l = record l {
  home_up = true;
  ups = map (λ k. slice_index_or l.ups k false || list_any (λ (e : Listed). e.lane == k) l.listed)
      (range_with_len 0 (length l.ups));
  listed = [];
}

-- ---- Reclaim

-- a step of reclaim: with home awake, due blocks of one record become homed; or the record of least
-- version in reach with a block that goes gives up those blocks, and is gone where it keeps none
pub data IsReclaim (l m : Look) : Type 0 where
  puts_home : (k : ℕ) (put : ℕ → Bool) (e : Listed) → IsTrue l.home_up
      → slice_get l.listed k ≡ Some e → ((b : ℕ) → put b ≡ true → is_due l.listed e b ≡ true)
      → m ≡ record l { listed = slice_set l.listed k (homing put e) } → IsReclaim l m
  gives_up : (k : ℕ) (e : Listed) → position (λ d. is_within_reach l d && has_going l.listed d)
      l.listed ≡ Some k → slice_get l.listed k ≡ Some e
      → m ≡ record l { listed = filter keeps_a_block (slice_set l.listed k (keeping l.listed e)) }
      → IsReclaim l m

-- any number of them
pub data AreReclaims : Look → Look → Type 0 where
  none : (l : Look) → AreReclaims l l
  more : (l k m : Look) → IsReclaim l k → AreReclaims k m → AreReclaims l m

-- nothing is left to reclaim while the disks that are asleep stay asleep
abbrev pub IsIdleLook : Look → Type 0
IsIdleLook l = AllByRecursion (λ e. IsTrue (is_within_reach l e)
    → (has_going l.listed e ≡ false) × (IsTrue l.home_up → has_due l.listed e ≡ false)) l.listed
