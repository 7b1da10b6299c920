-- Who waits for a disk to come up, and how long. Times are in units of 100 ns; `wake` is how long a disk takes to come up.
use Rattle.std.specs.Prelude.{◌≡◌, ℕ, ◌+◌, ◌-◌, ◌*◌, ◌/◌, ◌^◌, ◌<◌, ◌≤◌, max, Bool, true, false, not, nat_le, nat_lt, List, [], ◌∷◌, ◌++◌, map, length, Option, None, Some, slice_get, slice_index, slice_index_or, ◌==◌, unwrap_or, position, sum, count_by, option_map, option_to_list, option_and_then}
use Rattle.std.specs.List.{AllByRecursion, range_with_len, filter, flat_map, sum_by}
use Rattle.std.specs.Option.{option_map_or}
use Rattle.wol_model.specs.declared.journal.Turned.{Turned}
use Rattle.wol_model.specs.declared.journal.Turned.TheVariants.{Down, Up}
use Rattle.wol_model.specs.declared.trace.Kind.{Kind}
use Rattle.wol_model.specs.Trace.{is_write}
use Rattle.wol_model.specs.Blocks.{changed_at}
use Rattle.wol_model.specs.Journal.{SpindleState}
use Rattle.whatif.specs.declared.policy.Ask.{Ask}
use Rattle.whatif.specs.declared.waits.Tallies.{Tallies}
use Rattle.whatif.specs.declared.waits.Told.{Told}
use Rattle.whatif.specs.declared.waits.Waits.{Waits}
use Rattle.whatif.specs.declared.logged.Held.{Held}
use Rattle.whatif.specs.declared.logged.Logged.{Logged}
use Rattle.whatif.specs.declared.logged.Most.{Most}
use Rattle.whatif.specs.Logs.{filed_on}
use Rattle.whatif.specs.Machine.{Volume, Machine, Setting, Asked, accessed, answering, asking, turned, begun, after_window}

-- ---- One disk

-- the moment of the last Up, if there is one
abbrev pub last_up : List Turned → Option ℕ
last_up [] = None
last_up (Down at ∷ rest) = last_up rest
last_up (Up at ∷ rest) = Some (option_map_or (λ (u : ℕ). u) (last_up rest) at)

-- what is left at a moment of a coming up
abbrev pub lag_behind : (wake moment : ℕ) → Option ℕ → ℕ
lag_behind wake moment None = 0
lag_behind wake moment (Some up) = wake - (moment - up)

-- how long a disk lets wait now
abbrev pub lag : (wake : ℕ) → SpindleState → ℕ
lag wake s = lag_behind wake s.now (last_up s.journal)

-- .. that at a place among others
abbrev pub lag_among : (wake : ℕ) → List SpindleState → (d : ℕ) → ℕ
lag_among wake ss d = option_map_or (lag wake) (slice_get ss d) 0

-- ---- Requests

-- the longest wait for disks that are used one after another, each right behind its use
abbrev pub wait_on : (timeout wake : ℕ) → (uses : List ℕ) → List SpindleState → ℕ
wait_on timeout wake [] ss = 0
wait_on timeout wake (d ∷ uses) ss =
    max (lag_among wake (changed_at d (accessed timeout) ss) d)
    (wait_on timeout wake uses (changed_at d (accessed timeout) ss))

-- a request that was answered, its wait, and what logs hold behind it where it went to one
pub record Waited : Type 0 where
  pub volume : ℕ
  pub kind : Kind
  pub wait : ℕ
  pub held : Option Held

-- the disks that a request uses
abbrev pub uses_of : Ask → Machine → List ℕ
uses_of a m = option_map_or
    (λ (v : Volume). (answering a.kind a.lbn a.count v.reach v.look).uses) (slice_get m.volumes a.volume) []

-- the disk of the log to which a request goes
abbrev pub log_of : Ask → Machine → Option ℕ
log_of a m = option_and_then (λ (v : Volume).
    filed_on (answering a.kind a.lbn a.count v.reach v.look).moves) (slice_get m.volumes a.volume)

-- what logs hold: the blocks and the segments that all volumes have on a disk, and the blocks that
-- they have on all disks
abbrev pub held_on : List Volume → (disk : ℕ) → Held
held_on vs disk = record {
  disk = disk;
  blocks = sum_by (λ (v : Volume). (v.store.shelf disk).kept) vs;
  segments = sum_by (λ (v : Volume). length (v.store.shelf disk).segments) vs;
  all = sum_by (λ (v : Volume). v.store.kept) vs;
}

-- requests have their turns, one after another
abbrev pub waits_among : (timeout wake : ℕ) → List Ask → Machine → List Waited
waits_among timeout wake [] m = []
waits_among timeout wake (a ∷ asks) m =
    let n = turned timeout (asking a) m in record {
      volume = a.volume;
      kind = a.kind;
      wait = wait_on timeout wake (uses_of a m) m.spindles;
      held = option_map (held_on n.volumes) (log_of a m);
    } ∷ waits_among timeout wake asks n

-- .. in windows, one after another
abbrev pub waits_in : Setting → (wake : ℕ) → List Asked → Machine → List Waited
waits_in s wake [] m = []
waits_in s wake (w ∷ ws) m =
    waits_among s.timeout wake w.asks (begun s w.moment m) ++ waits_in s wake ws (after_window s w m)

-- ---- What is told of them

-- the waits of the reads, or of the writes
abbrev pub waits_of : (writes : Bool) → List Waited → List ℕ
waits_of true ws = map (λ (w : Waited). w.wait) (filter (λ (w : Waited). is_write w.kind) ws)
waits_of false ws = map (λ (w : Waited). w.wait) (filter (λ (w : Waited). not (is_write w.kind)) ws)

-- a wait is longer than k tenths of a coming up
abbrev pub is_over : (wake k wait : ℕ) → Bool
is_over wake k wait = nat_lt (k * wake) (10 * wait)

-- how many waits are
abbrev pub over : (wake k : ℕ) → (waits : List ℕ) → ℕ
over wake k waits = count_by (is_over wake k) waits

-- the least number of tenths, up to ten, that at most one in `share` waits is longer than
abbrev pub late : (wake share : ℕ) → (waits : List ℕ) → ℕ
late wake share waits = unwrap_or
    (position (λ k. nat_le (share * over wake k waits) (length waits)) (range_with_len 0 10)) 10

-- the same in ms, rounded up
abbrev pub late_ms : (wake share : ℕ) → (waits : List ℕ) → ℕ
late_ms wake share waits = (late wake share waits * (wake / 10000) + 9) / 10

-- all waits together, in ms, rounded down
abbrev pub sum_ms : (waits : List ℕ) → ℕ
sum_ms waits = sum waits / 10000

-- the program tells this of these waits
pub record IsTold (wake : ℕ) (waits : List ℕ) (t : Waits) : Type 0 where
  pub count : t.count ≡ length waits
  pub over_ : t.over ≡ map (λ k. over wake k waits) (range_with_len 0 10)
  pub sum_ : t.sum ≡ sum waits

-- .. and this of these requests
pub record AreTold (wake : ℕ) (ws : List Waited) (t : Told) : Type 0 where
  pub reads : IsTold wake (waits_of false ws) t.reads
  pub writes : IsTold wake (waits_of true ws) t.writes

-- the requests of a volume
abbrev pub of_volume : (volume : ℕ) → List Waited → List Waited
of_volume volume ws = filter (λ (w : Waited). w.volume == volume) ws

-- ---- What is told of logs

-- what logs held behind each request that went to one
abbrev pub helds : List Waited → List Held
helds ws = flat_map (λ (w : Waited). option_to_list w.held) ws

-- the greatest of these numbers, or none
abbrev pub greatest : List ℕ → ℕ
greatest [] = 0
greatest (n ∷ ns) = max n (greatest ns)

-- .. those of one disk
abbrev pub of_disk : (disk : ℕ) → List Held → List Held
of_disk disk hs = filter (λ (h : Held). h.disk == disk) hs

-- the program tells the most blocks and segments of these
pub record IsMost (hs : List Held) (m : Most) : Type 0 where
  pub blocks : m.blocks ≡ greatest (map (λ (h : Held). h.blocks) hs)
  pub segments : m.segments ≡ greatest (map (λ (h : Held). h.segments) hs)

-- the most blocks of all disks together, and the most segments of one; and the most of each disk
pub record AreLogged (hs : List Held) (l : Logged) : Type 0 where
  pub count : l.count ≡ length hs
  pub blocks : l.blocks ≡ greatest (map (λ (h : Held). h.all) hs)
  pub segments : l.segments ≡ greatest (map (λ (h : Held). h.segments) hs)
  pub each : (k : ℕ) (d : Most) → k < length l.each.items
      → IsMost (of_disk k hs) (slice_index_or l.each.items k d)

-- .. and this of these requests, and of those of each volume, and of logs
pub record AreTallied (wake : ℕ) (ws : List Waited) (t : Tallies) : Type 0 where
  pub all : AreTold wake ws t.all
  pub each : (k : ℕ) (d : Told) → k < length t.each.items
      → AreTold wake (of_volume k ws) (slice_index_or t.each.items k d)
  pub logged : AreLogged (helds ws) t.logged

-- so many requests were told of at most
pub record IsFew (asked : ℕ) (t : Waits) : Type 0 where
  pub count : t.count ≤ asked
  pub over_ : (k : ℕ) → k < 10 → slice_index t.over k ≤ asked
  pub sum_ : t.sum ≤ asked * 2 ^ 64

pub record AreFew (asked : ℕ) (t : Told) : Type 0 where
  pub reads : IsFew asked t.reads
  pub writes : IsFew asked t.writes

pub record AreFewIn (volumes asked : ℕ) (t : Tallies) : Type 0 where
  pub count : length t.each.items ≡ volumes
  pub all : AreFew asked t.all
  pub each : AllByRecursion (AreFew asked) t.each.items
  pub logged : t.logged.count ≤ asked
  pub disks : length t.logged.each.items ≡ volumes
