-- What a manager stands for.
use Rattle.std.specs.Prelude.{⊤, ◌≡◌, ◌≢◌, ◌<◌, ◌≤◌, ◌^◌, ℕ, ◌+◌, Bool, true, false, List, [], ◌∷◌, ◌++◌, map, Option, None, Some, is_some, unwrap_or, length, max, Contains, slice_get}
use Rattle.std.specs.List.{AllByRecursion, AllZip, range_with_len}
use Rattle.wol_disk.specs.Disk.{Block}
use Rattle.wol_model.specs.Blocks.{Write, AreApart}
use Rattle.wol_model.specs.Extents.{IsValid, AreDistinct, covers_of}
use Rattle.wol_model.specs.History.{Entry, worker, writes, flight_of, AreLegalNext, BreaksOnce, IsHelp, IsCut}
use Rattle.wol_model.specs.Holding.{Holds}
use Rattle.wol_model.specs.Index.{Listed, AreRising, Indexed}
use Rattle.wol_model.specs.Log.{Record, IsIdle, IsLog, extent_of}
use Rattle.wol_model.specs.Recovered.{extents_of}
use Rattle.wol_promise.specs.Manager.{Parts, PartName, Held, ManagerSeen, Base, look_of, IsPartOf, extents_held, AllRecords, Recovers, IsIndexOf, IsSorted, is_homed_in, SaysOwnerOrFree, versions, WasWritten}
use Rattle.wol_promise.specs.Ruled.{Noted, entries_of, AreRuled, last_look}

-- ---- The beginning

-- a listed record is that of its version at opening, with no block homed
pub record IsOpened (base : Base) (e : Listed) : Type 0 where
  pub write : Write
  pub known : Contains base.records write
  pub version : write.version ≡ Some e.version
  pub first : write.first ≡ e.first
  pub count : length write.blocks ≡ length e.keep
  pub lane : e.lane < length base.view
  pub marked : length e.homed ≡ length e.keep
  pub unhomed : AllByRecursion (λ m. m ≡ false) e.homed

-- at opening all flags are set, no part is down, and what is listed stands among the records
pub record IsOpening (base : Base) : Type 0 where
  pub home_up : base.look.home_up ≡ true
  pub ups : AllByRecursion (λ up. up ≡ true) base.look.ups
  pub up : base.look.down ≡ None
  pub lanes : length base.look.ups ≡ length base.view
  pub next : base.look.next ≡ base.next
  pub rising : AreRising (map (λ e. e.version) base.look.listed)
  pub listed : AllByRecursion (IsOpened base) base.look.listed
  pub sized : length base.array ≡ base.home_blocks

-- the next version at opening: one above the greatest of all records, valid or not, and 1 where
-- there is none
abbrev pub next_version : List Record → ℕ
next_version [] = 1
next_version (r ∷ rs) = max (r.head.version + 1) (next_version rs)

-- ---- The history

-- a write lies in the volume
abbrev pub LiesInVolume : (home_blocks : ℕ) → Write → Type 0
LiesInVolume home_blocks w = w.first + length w.blocks ≤ home_blocks

-- the entries are a legal history, and the ruled ones follow the rules
pub record HasHistory (told : Type 0) (base : Base) (notes : List Noted) : Type 0 where
  pub replies : told → AreLegalNext base.array (entries_of notes)
  pub breaks : BreaksOnce (map (λ e. e.operation) (entries_of notes))
  pub helpers : AllByRecursion (λ e. e.pass ≢ worker → IsHelp e.operation) (entries_of notes)
  pub ruled : AreRuled base.look notes

-- each version is that of one record at opening or of one write since, in order while nothing broke
pub record HasVersions (base : Base) (next : ℕ) (ws : List Write)
    (in_flight : Option (List Write)) : Type 0 where
  pub apart : AreApart (versions base.records ++ versions ws)
  pub below : AllByRecursion (λ v. v < next) (versions base.records ++ versions ws)
  pub in_order : in_flight ≡ None → (versions ws ≡ range_with_len base.next (length (versions ws)))
      × (next ≡ base.next + length (versions ws))
  pub least : 1 ≤ next
  pub most : next ≤ 2 ^ 63

-- a record lies in home
abbrev pub LiesInHome : (home_blocks : ℕ) → Record → Type 0
LiesInHome home_blocks r = r.head.first + length r.blocks ≤ home_blocks

-- so do all of a held segment
abbrev pub LieInHome : {P : Type 0} → (home_blocks : ℕ) → Held P → Type 0
LieInHome home_blocks s = AllByRecursion (LiesInHome home_blocks) s.records

-- Each valid record of a held segment is one at opening, a write since, or one in flight; the
-- versions of the others are below the next. Each record, valid or not, lies in home.
pub record AreKnown {P : Type 0} (base : Base) (next : ℕ) (ws in_flight : List Write)
    (held : List (Held P)) : Type 0 where
  pub written : AllRecords
      (λ r. IsValid (extent_of r).cover → WasWritten (base.records ++ (ws ++ in_flight)) r) held
  pub below : AllRecords (λ r. (IsValid (extent_of r).cover → ⊥) → r.head.version < next) held
  pub within : AllByRecursion (LieInHome base.home_blocks) held

-- ---- Sound segments

-- a segment is idle, or a log of the owner with records that lie in home
pub data IsSoundOf (owner home_blocks : ℕ) (bs : List Block) : Type 0 where
  idle : IsIdle bs → IsSoundOf owner home_blocks bs
  log : (rs : List Record) → IsLog bs owner rs → AllByRecursion (LiesInHome home_blocks) rs
      → IsSoundOf owner home_blocks bs

-- each segment is sound, and no two valid records of them have one version
pub record AreSoundOf (owner home_blocks : ℕ) (segments : List (List Block)) : Type 0 where
  pub each : AllByRecursion (IsSoundOf owner home_blocks) segments
  pub distinct : AreDistinct (covers_of (extents_of owner segments))

-- whatever images these segments have, they are sound
abbrev pub StaySound : {P : Type 0} → (of_held : Held P → List Block → Type 0)
    → (owner home_blocks : ℕ) → List (Held P) → Type 0
StaySound of_held owner home_blocks held =
    (segments : List (List Block)) → AllZip of_held held segments
    → AreSoundOf owner home_blocks segments

-- ---- Places

-- a held segment lies on the logger at its place of the view, and has room for any write
pub record IsHeldBy {P : Type 0} (parts : Parts P) (base : Base) (s : Held P) : Type 0 where
  pub logger : slice_get base.view s.lane ≡ Some (parts.volume s.part)
  pub room : base.most + 2 ≤ parts.size s.part
  pub owned : (bs : List Block) → parts.may_be s.part bs → SaysOwnerOrFree base.owner bs

-- the lane and the index of a held segment
abbrev pub place_in : {P : Type 0} → Held P → ℕ × ℕ
place_in s = (s.lane, s.index)

-- a place is none of these
abbrev pub ApartFrom : (ℕ × ℕ) → List (ℕ × ℕ) → Type 0
ApartFrom p ps = AllByRecursion (λ q. p ≢ q) ps

-- no two of these places are the same
abbrev pub AreApartPlaces : List (ℕ × ℕ) → Type 0
AreApartPlaces [] = ⊤
AreApartPlaces (p ∷ ps) = ApartFrom p ps × AreApartPlaces ps

-- sizes, flags and segments are as the base says
pub record HasPlaces {P : Type 0} (parts : Parts P) (base : Base) (home : P) (held : List (Held P))
    (ups : List Bool) : Type 0 where
  pub flags : length ups ≡ length base.view
  pub few : length base.view ≤ 16
  pub home_blocks : (1 ≤ base.home_blocks) × (base.home_blocks ≤ 2 ^ 32)
  pub most : (1 ≤ base.most) × (base.most ≤ 128)
  pub home_size : parts.size home ≡ base.home_blocks
  pub home_volume : parts.volume home ≡ base.owner
  pub each : AllByRecursion (IsHeldBy parts base) held
  pub apart : AreApartPlaces (map place_in held)

-- a listed record has its place inside a held segment
pub record IsPlaced {P : Type 0} (parts : Parts P) (held : List (Held P)) (e : Indexed) :
    Type 0 where
  pub segment : Held P
  pub is_held : Contains held segment
  pub lane : e.listed.lane ≡ segment.lane
  pub index : e.index ≡ segment.index
  pub behind : 1 ≤ e.pos
  pub within : e.pos + length e.listed.keep < parts.size segment.part

-- ---- While nothing broke

-- Where content is told: each image of a held segment is a log of its records, no two valid ones
-- have one version, they are what the index lists, and with each image of home they stand for the
-- array.
pub record IsWhole {P : Type 0} (parts : Parts P) (base : Base) (ws : List Write) (next : ℕ)
    (home : P) (held : List (Held P)) (indexed : List Indexed) : Type 0 where
  pub logs : AllByRecursion
      (λ s. (bs : List Block) → parts.may_be s.part bs → IsLog bs base.owner s.records) held
  pub distinct : AreDistinct (covers_of (extents_held held))
  pub index : IsIndexOf indexed held
  pub holds : (image : List Block) → parts.may_be home image
      → Holds base.array ws next image (extents_held held) (is_homed_in indexed)

-- no segment is broken or taken and not written to, and the index is in order
pub record IsCalm {P : Type 0} (parts : Parts P) (base : Base) (ws : List Write) (next : ℕ)
    (home : P) (held : List (Held P)) (indexed : List Indexed) (taken : List (ℕ × ℕ)) : Type 0 where
  pub unbroken : AllByRecursion (λ s. s.broken ≡ false) held
  pub untaken : taken ≡ []
  pub sorted : IsSorted indexed
  pub below : AllByRecursion (λ e. e.listed.version < next) indexed
  pub placed : AllByRecursion (IsPlaced parts held) indexed
  pub whole : parts.told → IsWhole parts base ws next home held indexed

-- ---- The whole

-- What a manager upholds with this history, these acknowledged writes and, where a call failed,
-- these in flight.
pub record Upholds {P : Type 0} (parts : Parts P) (base : Base) (m : ManagerSeen P)
    (notes : List Noted) (ws : List Write) (in_flight : Option (List Write)) : Type 0 where
  pub began : IsOpening base
  pub history : HasHistory parts.told base notes
  pub lie : AllByRecursion (LiesInVolume base.home_blocks)
      (base.records ++ (ws ++ unwrap_or in_flight []))
  pub versioned : HasVersions base m.next ws in_flight
  pub known : parts.told → AreKnown base m.next ws (unwrap_or in_flight []) m.held
  pub places : HasPlaces parts base m.home m.held m.ups
  pub is_down : is_some m.down ≡ is_some in_flight
  -- the part that is told as down is one of its parts, and had a fault
  pub failed : (name : PartName) → m.down ≡ Some name
      → (p : P) × IsPartOf base.view m name p × (0 < parts.faults p)
  pub calm : in_flight ≡ None → IsCalm parts base ws m.next m.home m.held m.indexed m.taken
  -- after a failed call each choice of images is sound, and recovers to a cut
  pub sound : parts.told → is_some in_flight ≡ true
      → StaySound (λ s. parts.may_be s.part) base.owner base.home_blocks m.held
  pub cut : parts.told → (flight : List Write) → in_flight ≡ Some flight
      → Recovers (parts.may_be m.home) (λ s. parts.may_be s.part) base.owner m.held
      (IsCut base.array ws flight)

-- a manager stands for what it began with and the entries since; while nothing broke, the last of
-- them left the look that it has
pub record StandsFor {P : Type 0} (parts : Parts P) (base : Base) (m : ManagerSeen P)
    (notes : List Noted) : Type 0 where
  pub upholds :
      Upholds parts base m notes (writes (entries_of notes)) (flight_of (entries_of notes))
  pub look : flight_of (entries_of notes) ≡ None → last_look base.look notes ≡ look_of m

-- A call that may have these writes in flight, stopped at any moment: whichever images since its
-- beginning each part has, they recover to a cut.
abbrev pub StopsSafely : {P : Type 0} → (of_home : List Block → Type 0)
    → (of_held : Held P → List Block → Type 0) → Base → List Entry → List (Held P) → List Write
    → Type 0
StopsSafely of_home of_held base entries held ws =
    Recovers of_home of_held base.owner held
    (IsCut base.array (writes entries) (unwrap_or (flight_of entries) ws))

-- the blocks are those of this version in the records at opening or in the writes since
pub record IsDataOf (base : Base) (ws : List Write) (version first : ℕ) (blocks : List Block) :
    Type 0 where
  pub write : Write
  pub known : Contains (base.records ++ ws) write
  pub named : write.version ≡ Some version
  pub range : write.first ≡ first
  pub data_ : write.blocks ≡ blocks

-- what was fetched of a version stays its data, whatever is written later
abbrev pub DataStays : Type 0
DataStays = (base : Base) (ws more : List Write) (version first : ℕ) (blocks : List Block)
    → IsDataOf base ws version first blocks → IsDataOf base (ws ++ more) version first blocks
