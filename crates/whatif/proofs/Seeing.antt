-- A volume sees which disks are awake, and wakes the disk that has a block.
use Rattle.std.proofs.Common.{◌≡◌, ◌<◌, ◌≤◌, ℕ, zero, suc, Bool, true, false, cond, not, ◌&&◌, ◌||◌, List, [], ◌∷◌, ◌++◌, map, length, Option, None, Some, refl, sym, ap, subst, ◌∙◌, arith, ltb, take, drop, ◌+◌}
use Rattle.std.specs.Prelude.{position, slice_get, slice_set, slice_index_or, Vec}
use Rattle.std.specs.List.{AllByRecursion}
use Rattle.std.specs.Option.{option_map_or}
use Rattle.std.specs.Prelude.{option_map}
use Rattle.std.specs.declared.alloc.Global.{Global}
use Rattle.std.proofs.Math.ListN.{length-set}
use Rattle.std.proofs.lemmas.Bool.{false≢true}
use Rattle.std.proofs.lemmas.Option.{none-some, same_Some}
use Rattle.wol_model.specs.Extents.{newest, newer_of}
use Rattle.wol_model.specs.Index.{Listed, Indexed, listed_in, cover_of, has_due, has_going}
use Rattle.wol_model.specs.Journal.{SpindleState}
use Rattle.wol_model.proofs.Counts.{both}
use Rattle.wol_promise.specs.Policy.{Look, woken}
use Rattle.block_cells.specs.declared.record.Rec.{Rec}
use Rattle.redirect_map.specs.Index.{cover_at, IsAnswer}
use Rattle.whatif.specs.declared.disk.Disk.{Disk}
use Rattle.whatif.specs.declared.volume.Volume.{Volume}
use Rattle.whatif.specs.Disks.{AreDisks}
use Rattle.whatif.specs.Machine.{is_up, logger_at, source_of}
use Rattle.whatif.specs.Volumes.{IsLogged, IsSettled, IsVolume, look_in, reach_in, store_in}
use Rattle.whatif.specs.Machine.{seeing}
use Rattle.whatif.specs.Volumes.{volume_in}
use Rattle.whatif.proofs.Lists.{all_imply, flags_all, none_passes, passes_none}
use Rattle.whatif.proofs.Steps.{index_same}
use Rattle.wol_promise.proofs.Woken.{woken_home, woken_log}

-- ---- flags

fails_still : (a b x : Bool) → (b ≡ true → a ≡ true) → (a && x) ≡ false → (b && x) ≡ false
fails_still true b x so fails = at b
  where
    at : (t : Bool) → (t && x) ≡ false
    at true = fails
    at false = refl
fails_still false true x so fails = absurd (false≢true (so refl))
fails_still false false x so fails = refl

-- with fewer flags nothing more is within reach
pub still_none : (P : Listed → Bool) (ups vps : List Bool) (es : List Listed) → ((k : ℕ) → slice_index_or vps k false ≡ true → slice_index_or ups k false ≡ true)
    → position (λ (e : Listed). slice_index_or ups e.lane false && P e) es ≡ None → position (λ (e : Listed). slice_index_or vps e.lane false && P e) es ≡ None
still_none P ups vps es fewer none = none_passes (λ (e : Listed). slice_index_or vps e.lane false && P e) es
    (all_imply (λ (e : Listed). (slice_index_or ups e.lane false && P e) ≡ false) (λ (e : Listed). (slice_index_or vps e.lane false && P e) ≡ false)
    (λ e fails. fails_still (slice_index_or ups e.lane false) (slice_index_or vps e.lane false) (P e) (fewer e.lane) fails) es (passes_none (λ (e : Listed). slice_index_or ups e.lane false && P e) es none))

fewer_set : (ups : List Bool) (lane : ℕ) (awake : Bool) (k : ℕ) → (not awake || slice_index_or ups lane false) ≡ true → slice_index_or (slice_set ups lane awake) k false ≡ true → slice_index_or ups k false ≡ true
fewer_set [] lane awake k ok is = is
fewer_set (x ∷ xs) zero true zero ok is = ok
fewer_set (x ∷ xs) zero false zero ok is = absurd (false≢true is)
fewer_set (x ∷ xs) zero awake (suc k) ok is = is
fewer_set (x ∷ xs) (suc lane) awake zero ok is = is
fewer_set (x ∷ xs) (suc lane) awake (suc k) ok is = fewer_set xs lane awake k ok is

-- its own disk counts as awake, or not
pub seen_home : (v : Volume) (awake settled : Bool) → settled ≡ (v.settled && (not awake || v.home_up)) → IsVolume v → IsVolume (record v { home_up = awake; settled = settled })
seen_home v awake settled is volume = record { store_ = volume.store_; few = volume.few; flags = volume.flags; rooms_ = volume.rooms_; logged = volume.logged; settled = λ now. at awake (both v.settled (not awake || v.home_up) (sym is ∙ now)) }
  where
    at : (t : Bool) → (v.settled ≡ true) × ((not t || v.home_up) ≡ true) → IsSettled (record (look_in v) { home_up = t })
    at false (was, ok) = record { due = refl; going = (volume.settled was).going }
    at true (was, ok) = record { due = (λ i. cond (sym ok i) (position (λ (e : Listed). slice_index_or v.ups.items e.lane false && has_due (listed_in v.index.entries) e) (listed_in v.index.entries)) None) ∙ (volume.settled was).due; going = (volume.settled was).going }

-- a logger's disk counts as awake, or not
pub seen_logger : (v : Volume) (ups : Vec Bool Global) (lane : ℕ) (awake settled : Bool) → ups.items ≡ slice_set v.ups.items lane awake → settled ≡ (v.settled && (not awake || slice_index_or v.ups.items lane false)) → IsVolume v
    → IsVolume (record v { ups = ups; settled = settled })
seen_logger v ups lane awake settled set is volume = record {
  store_ = volume.store_;
  few = volume.few;
  flags = same ∙ volume.flags;
  rooms_ = volume.rooms_;
  logged = subst (λ (n : ℕ). AllByRecursion (IsLogged n v.next) v.index.entries) (sym same) volume.logged;
  settled = λ now. let b = both v.settled (not awake || slice_index_or v.ups.items lane false) (sym is ∙ now) in let was = volume.settled b.0 in record {
    due = due v.home_up was.due b.1;
    going = still_none (has_going (listed_in v.index.entries)) v.ups.items ups.items (listed_in v.index.entries) (fewer b.1) was.going;
  };
}
  where
    same : length ups.items ≡ length v.ups.items
    same = ap length set ∙ length-set v.ups.items lane awake

    fewer : (not awake || slice_index_or v.ups.items lane false) ≡ true → (k : ℕ) → slice_index_or ups.items k false ≡ true → slice_index_or v.ups.items k false ≡ true
    fewer ok k on = fewer_set v.ups.items lane awake k ok (ap (λ (l : List Bool). slice_index_or l k false) (sym set) ∙ on)

    due : (h : Bool) → cond h (position (λ (e : Listed). slice_index_or v.ups.items e.lane false && has_due (listed_in v.index.entries) e) (listed_in v.index.entries)) None ≡ None → (not awake || slice_index_or v.ups.items lane false) ≡ true
        → cond h (position (λ (e : Listed). slice_index_or ups.items e.lane false && has_due (listed_in v.index.entries) e) (listed_in v.index.entries)) None ≡ None
    due false none ok = refl
    due true none ok = still_none (has_due (listed_in v.index.entries)) v.ups.items ups.items (listed_in v.index.entries) (fewer ok) none

-- a flag that was seen is the disk's
pub up_of : (ds : List Disk) (ss : List SpindleState) (k : ℕ) (d : Disk) → AreDisks ds ss → slice_get ds k ≡ Some d → is_up ss k ≡ d.awake
up_of [] ss k d zip is = absurd (none-some d is)
up_of (x ∷ ds) [] k d zip is = absurd zip
up_of (x ∷ ds) (s ∷ ss) zero d zip is = zip.0.awake ∙ ap (λ (y : Disk). y.awake) (same_Some x d is)
up_of (x ∷ ds) (s ∷ ss) (suc k) d zip is = up_of ds ss k d zip.1 is

-- ---- the source of a block

newest_listed : (es : List Indexed) (b : ℕ) → newest cover_of (listed_in es) b ≡ option_map (λ (e : Indexed). e.listed) (newest cover_at es b)
newest_listed [] b = refl
newest_listed (e ∷ es) b = at ((cover_at e).covers b) (newest cover_at es b) (newest_listed es b)
  where
    at : (t : Bool) (o : Option Indexed) → newest cover_of (listed_in es) b ≡ option_map (λ (d : Indexed). d.listed) o
        → cond t (newer_of cover_of e.listed (newest cover_of (listed_in es) b)) (newest cover_of (listed_in es) b) ≡ option_map (λ (d : Indexed). d.listed) (cond t (newer_of cover_at e o) o)
    at false o is = is
    at true None is = ap (newer_of cover_of e.listed) is
    at true (Some d) is = ap (newer_of cover_of e.listed) is
        ∙ (elim (ltb (cover_at e).version (cover_at d).version) as (λ t. cond t (Some d.listed) (Some e.listed) ≡ option_map (λ (x : Indexed). x.listed) (cond t (Some d) (Some e))) [ true ↦ refl | false ↦ refl ])

-- the newest record of block b, as it is listed
pub record Source (es : List Indexed) (b : ℕ) (rec : Rec) : Type 0 where
  pub entry : Indexed
  pub at : newest cover_at es b ≡ Some entry
  pub is : newest cover_of (listed_in es) b ≡ Some entry.listed
  pub lane : rec.lane ≡ entry.listed.lane

pub source_log : (es : List Indexed) (b : ℕ) (rec : Rec) → IsAnswer (newest cover_at es b) (Some rec) → Source es b rec
source_log es b rec is = at (newest cover_at es b) refl is
  where
    at : (o : Option Indexed) → newest cover_at es b ≡ o → IsAnswer o (Some rec) → Source es b rec
    at None found answer = absurd answer
    at (Some e) found answer = record { entry = e; at = found; is = newest_listed es b ∙ ap (option_map (λ (d : Indexed). d.listed)) found; lane = answer.lane }

pub source_home : (es : List Indexed) (b : ℕ) → IsAnswer (newest cover_at es b) None → newest cover_of (listed_in es) b ≡ None
source_home es b is = newest_listed es b ∙ at (newest cover_at es b) is
  where
    at : (o : Option Indexed) → IsAnswer o None → option_map (λ (d : Indexed). d.listed) o ≡ None
    at None answer = refl
    at (Some e) answer = absurd answer

-- so it is one of the records
pub newest_all : (P : Indexed → Type 0) (es : List Indexed) (b : ℕ) (e : Indexed) → AllByRecursion P es → newest cover_at es b ≡ Some e → P e
newest_all P [] b e all is = absurd (none-some e is)
newest_all P (x ∷ es) b e all is = at ((cover_at x).covers b) (newest cover_at es b) (λ d found. newest_all P es b d all.1 found) is
  where
    at : (t : Bool) (o : Option Indexed) → ((d : Indexed) → o ≡ Some d → P d) → cond t (newer_of cover_at x o) o ≡ Some e → P e
    at false o rest found = rest e found
    at true None rest found = subst P (same_Some x e found) all.0
    at true (Some d) rest found = pick (ltb (cover_at x).version (cover_at d).version) found
      where
        pick : (t : Bool) → cond t (Some d) (Some x) ≡ Some e → P e
        pick true here = subst P (same_Some d e here) (rest d refl)
        pick false here = subst P (same_Some x e here) all.0

-- the newest record of each block of a range is this one, or there is none
abbrev pub Answers : Volume → (first n : ℕ) → Option Rec → Type 0
Answers v first n o = (b : ℕ) → first ≤ b → b < first + n → IsAnswer (newest cover_at v.index.entries b) o

-- the look once the disk that has the blocks is awake
pub source_look : (v : Volume) (first n : ℕ) (rec : Rec) (ups : List Bool) → IsVolume v → 1 ≤ n → Answers v first n (Some rec) → ups ≡ slice_set v.ups.items rec.lane true
    → (let l : Look = record { home_up = v.home_up; ups = ups; next = v.next; listed = listed_in v.index.entries; down = None } in l) ≡ woken (look_in v) first n
source_look v first n rec ups volume some is set =
    (λ i. record { home_up = v.home_up; ups = set i; next = v.next; listed = listed_in v.index.entries; down = None })
    ∙ sym (woken_log (look_in v) first n rec.lane some (lane_under v first rec volume (is first (omega arith) (omega (arith, some))))
    (λ c from to. let s = source_log v.index.entries c rec (is c from to) in (s.entry.listed, s.is, sym s.lane)))
  where
    lane_under : (w : Volume) (c : ℕ) (r : Rec) → IsVolume w → IsAnswer (newest cover_at w.index.entries c) (Some r) → r.lane < length w.ups.items
    lane_under w c r so answer =
        let s = source_log w.index.entries c r answer in
        let in_ = (newest_all (IsLogged (length w.ups.items) w.next) w.index.entries c s.entry so.logged s.at).lane in let same = s.lane in omega (arith, in_, same)

pub lane_seen : (v : Volume) (b : ℕ) (rec : Rec) → IsVolume v → IsAnswer (newest cover_at v.index.entries b) (Some rec) → rec.lane < length v.ups.items
lane_seen v b rec so answer =
    let s = source_log v.index.entries b rec answer in
    let in_ = (newest_all (IsLogged (length v.ups.items) v.next) v.index.entries b s.entry so.logged s.at).lane in let same = s.lane in omega (arith, in_, same)

pub source_is_log : (v : Volume) (b : ℕ) (rec : Rec) (disk : ℕ) → IsVolume v → IsAnswer (newest cover_at v.index.entries b) (Some rec) → disk ≡ slice_index_or v.loggers.items rec.lane disk → disk ≡ source_of (reach_in v) (listed_in v.index.entries) b
source_is_log v b rec disk so answer is =
    let s = source_log v.index.entries b rec answer in
    is ∙ index_same v.loggers.items rec.lane disk v.own (let lt = lane_seen v b rec so answer in let f = so.flags in omega (arith, lt, f))
    ∙ ap (λ (k : ℕ). slice_index_or v.loggers.items k v.own) s.lane ∙ sym (ap (λ (o : Option Listed). option_map_or (λ (e : Listed). logger_at (reach_in v) e.lane) o v.own) s.is)

pub source_is_home : (v : Volume) (b : ℕ) → IsAnswer (newest cover_at v.index.entries b) None → v.own ≡ source_of (reach_in v) (listed_in v.index.entries) b
source_is_home v b answer = sym (ap (λ (o : Option Listed). option_map_or (λ (e : Listed). logger_at (reach_in v) e.lane) o v.own) (source_home v.index.entries b answer))

pub home_look : (v : Volume) (first n : ℕ) → 1 ≤ n → Answers v first n None → (let l : Look = record (look_in v) { home_up = true } in l) ≡ woken (look_in v) first n
home_look v first n some answer = sym (woken_home (look_in v) first n some (λ c from to. source_home v.index.entries c (answer c from to)))

-- all disks were looked at
pub seen_all : (old home v : Volume) (ss : List SpindleState) (k : ℕ) → home ≡ record old { home_up = home.home_up; settled = home.settled } → home.home_up ≡ is_up ss old.own → v ≡ record home { ups = v.ups; settled = v.settled }
    → v.ups.items ≡ map (is_up ss) (take k home.loggers.items) ++ drop k home.ups.items → length home.loggers.items ≤ k → length home.ups.items ≡ length home.loggers.items → volume_in v ≡ seeing ss (volume_in old)
seen_all old home v ss k first up then flags past long = λ i. record {
  reach = record { own = (ap (λ (w : Volume). w.own) then ∙ ap (λ (w : Volume). w.own) first) i; loggers = (ap (λ (w : Volume). w.loggers.items) then ∙ ap (λ (w : Volume). w.loggers.items) first) i };
  look = record {
    home_up = (ap (λ (w : Volume). w.home_up) then ∙ up) i;
    ups = (flags ∙ flags_all (is_up ss) home.loggers.items home.ups.items k long past ∙ ap (λ (w : Volume). map (is_up ss) w.loggers.items) first) i;
    next = (ap (λ (w : Volume). w.next) then ∙ ap (λ (w : Volume). w.next) first) i;
    listed = (ap (λ (w : Volume). listed_in w.index.entries) then ∙ ap (λ (w : Volume). listed_in w.index.entries) first) i;
    down = None;
  };
  store = (ap (λ (w : Volume). store_in w.store) then ∙ ap (λ (w : Volume). store_in w.store) first) i;
}

pub seen_reach : (old home v : Volume) → home ≡ record old { home_up = home.home_up; settled = home.settled } → v ≡ record home { ups = v.ups; settled = v.settled } → reach_in v ≡ reach_in old
seen_reach old home v first then = ap reach_in then ∙ ap reach_in first
