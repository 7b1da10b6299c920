-- The machine of one thread: a look for each volume and a spindle for each disk, and what requests,
-- reclaim and windows make of them.
use Rattle.std.specs.Prelude.{ℕ, zero, suc, Bool, true, false, ◌&&◌, List, [], ◌∷◌, ◌++◌, map, length, Option, None, Some, option_map, slice_get, slice_set, slice_index_or, position, replicate, if◌then◌else◌, sum_by, ◌==◌}
use Rattle.std.specs.List.{range_with_len, filter, count_by}
use Rattle.std.specs.Option.{option_map_or}
use Rattle.wol_model.specs.declared.trace.Kind.{Kind}
use Rattle.wol_model.specs.declared.trace.Kind.TheVariants.{Read, Write}
use Rattle.wol_model.specs.declared.journal.Powers.{Powers}
use Rattle.wol_model.specs.Blocks as blocks
use Rattle.wol_model.specs.Blocks.{changed_at}
use Rattle.wol_model.specs.Extents.{newest}
use Rattle.wol_model.specs.Index.{Listed, block_numbers, cover_of, goes, is_due, has_due, has_going, keeps_a_block, homing, keeping, left}
use Rattle.wol_model.specs.Journal.{SpindleState, Started, Began, Needed, Done, new_spindle, used, wakes, sleeps, units}
use Rattle.wol_model.specs.Placing.{Place, Home, Log, Full}
use Rattle.wol_promise.specs.Policy.{Look, woken, place_of, placed, is_within_reach}
use Rattle.whatif.specs.declared.policy.Ask.{Ask}
use Rattle.whatif.specs.declared.store.Given.{Given}
use Rattle.whatif.specs.Logs.{Move, Files, Gives, Store, all_moved, first_store}

-- the disks that a volume may use: its own, and those of its loggers in the order of its view
pub record Reach : Type 0 where
  pub own : ℕ
  pub loggers : List ℕ

-- what an action of a volume makes of its look, the disks that it uses, and what it does in logs, in
-- order
pub record Action : Type 0 where
  pub look : Look
  pub uses : List ℕ
  pub moves : List Move

-- nothing is done
abbrev pub still : Look → Action
still l = record { look = l; uses = []; moves = [] }

-- ---- Requests

-- the disk of the logger at a place of the view
abbrev pub logger_at : Reach → (lane : ℕ) → ℕ
logger_at r lane = slice_index_or r.loggers lane r.own

-- the disk that has block b: that of its newest record's logger, or the volume's own
abbrev pub source_of : Reach → List Listed → (b : ℕ) → ℕ
source_of r es b = option_map_or (λ (e : Listed). logger_at r e.lane) (newest cover_of es b) r.own

-- a read wakes and uses the disks that have its blocks
abbrev pub reading : (first count : ℕ) → Reach → Look → Action
reading first count r l = record {
  look = woken l first count;
  uses = map (source_of r l.listed) (range_with_len first count);
  moves = [];
}

-- the disk of a place
abbrev pub disk_of : Reach → Place → List ℕ
disk_of r Home = r.own ∷ []
disk_of r (Log lane) = logger_at r lane ∷ []
disk_of r Full = []

-- what a write of a new version does in the log of its place
abbrev pub filed_at : (version count : ℕ) → Reach → Place → List Move
filed_at version count r Home = []
filed_at version count r (Log lane) = Files (logger_at r lane) version count ∷ []
filed_at version count r Full = []

-- blocks in a row that are written; what they are doesn't matter here
abbrev pub write_of : (first count : ℕ) → blocks.Write
write_of first count = record { first = first; blocks = replicate count []; version = None }

-- a write goes where the rule of placing says, with room in every log, and uses that disk
abbrev pub writing : (first count : ℕ) → Reach → Look → Action
writing first count r l = let p = place_of [] l (write_of first count) in
    record {
      look = placed p l (write_of first count);
      uses = disk_of r p;
      moves = filed_at l.next count r p;
    }

-- what is asked of a volume
abbrev pub answering : Kind → (first count : ℕ) → Reach → Look → Action
answering Read first count = reading first count
answering Write first count = writing first count

-- ---- Reclaim

-- a step with the record at a place, if there is one
abbrev pub step_at : (Look → ℕ → Listed → Action) → Look → Option ℕ → Option Action
step_at step l None = None
step_at step l (Some k) = option_map (step l k) (slice_get l.listed k)

-- steps, one after another, while there is one, and at most so many
abbrev pub followed : Look → Option Action → (Look → Action) → Action
followed l None more = still l
followed l (Some a) more =
    let rest = more a.look in
    record { look = rest.look; uses = a.uses ++ rest.uses; moves = a.moves ++ rest.moves }

abbrev pub repeated : (most : ℕ) → (Look → Option Action) → Look → Action
repeated zero step l = still l
repeated (suc most) step l = followed l (step l) (repeated most step)

-- while home is awake: the record of least version within reach with a due block
abbrev pub next_due : Look → Option ℕ
next_due l =
    if l.home_up then position (λ e. is_within_reach l e && has_due l.listed e) l.listed else None

-- its due blocks become homed, and its logger and home are used
abbrev pub put_home : Reach → Look → (k : ℕ) → Listed → Action
put_home r l k e = record {
  look = record l
      { listed = slice_set l.listed k (homing (is_due l.listed e) e) };
  uses = logger_at r e.lane ∷ r.own ∷ [];
  moves = [];
}

-- the record of least version within reach of which a block may go
abbrev pub next_to_go : Look → Option ℕ
next_to_go l = position (λ e. is_within_reach l e && has_going l.listed e) l.listed

-- what the record of a look gives up: it is gone where that is all that it keeps
abbrev pub given_of : Reach → Look → Listed → Given
given_of r l e = let blocks = count_by (goes l.listed e) (block_numbers e) in record {
  disk = logger_at r e.lane;
  version = e.version;
  blocks = blocks;
  gone = blocks == count_by (cover_of e).covers (block_numbers e);
}

-- it gives up the blocks that may go, and is gone where it keeps none; its logger is used
abbrev pub give_up : Reach → Look → (k : ℕ) → Listed → Action
give_up r l k e = record {
  look = record l
      { listed = filter keeps_a_block (slice_set l.listed k (keeping l.listed e)) };
  uses = logger_at r e.lane ∷ [];
  moves = Gives (given_of r l e) ∷ [];
}

abbrev pub put_step : Reach → Look → Option Action
put_step r l = step_at (put_home r) l (next_due l)

abbrev pub give_step : Reach → Look → Option Action
give_step r l = step_at (give_up r) l (next_to_go l)

-- all that is due goes home, and then all that may go is given up; each step lowers what is left,
-- so there are no more steps than that
abbrev pub reclaiming : Reach → Look → Action
reclaiming r l =
    let puts = repeated (left l.listed) (put_step r) l in
    let gives = repeated (left puts.look.listed) (give_step r) puts.look in
    record {
      look = gives.look;
      uses = puts.uses ++ gives.uses;
      moves = puts.moves ++ gives.moves;
    }

-- ---- The machine

-- a volume: the disks that it may use, its look, and what it has in logs
pub record Volume : Type 0 where
  pub reach : Reach
  pub look : Look
  pub store : Store

-- all volumes and all disks
pub record Machine : Type 0 where
  pub volumes : List Volume
  pub spindles : List SpindleState

-- a disk is used: it is needed, and then done with
abbrev pub accessed : (timeout : ℕ) → SpindleState → SpindleState
accessed timeout s = used timeout (used timeout s 0 Needed) 0 Done

-- disks are used, one after another
abbrev pub all_accessed : (timeout : ℕ) → (uses : List ℕ) → List SpindleState → List SpindleState
all_accessed timeout [] ss = ss
all_accessed timeout (d ∷ uses) ss = all_accessed timeout uses (changed_at d (accessed timeout) ss)

-- a volume's turn to do something
pub record Turn : Type 0 where
  pub volume : ℕ
  pub action : Reach → Look → Action

-- the turn's action at the volume that is found in its place
abbrev pub turned_at : (timeout : ℕ) → Turn → Machine → Option Volume → Machine
turned_at timeout t m None = m
turned_at timeout t m (Some v) = let a = t.action v.reach v.look in record {
  volumes = slice_set m.volumes t.volume
      (record { reach = v.reach; look = a.look; store = all_moved a.moves v.store });
  spindles = all_accessed timeout a.uses m.spindles;
}

abbrev pub turned : (timeout : ℕ) → Turn → Machine → Machine
turned timeout t m = turned_at timeout t m (slice_get m.volumes t.volume)

-- turns, one after another
abbrev pub after_turns : (timeout : ℕ) → List Turn → Machine → Machine
after_turns timeout [] m = m
after_turns timeout (t ∷ ts) m = after_turns timeout ts (turned timeout t m)

-- a request's turn
abbrev pub asking : Ask → Turn
asking a = record { volume = a.volume; action = answering a.kind a.lbn a.count }

-- a volume's turn to reclaim
abbrev pub tidying : (v : ℕ) → Turn
tidying v = record { volume = v; action = reclaiming }

-- ---- Windows

-- what a machine is made of: the timeout, the blocks of a segment, whether disks go down at all, and
-- the disks that each volume may use
pub record Setting : Type 0 where
  pub timeout : ℕ
  pub whole : ℕ
  pub sleeps : Bool
  pub reaches : List Reach

-- the disk is awake
abbrev pub is_up : List SpindleState → (d : ℕ) → Bool
is_up ss d = option_map_or (λ (s : SpindleState). s.awake) (slice_get ss d) false

-- the volume sees which of its disks are awake
abbrev pub seeing : List SpindleState → Volume → Volume
seeing ss v = record {
  reach = v.reach;
  look = record v.look
      { home_up = is_up ss v.reach.own; ups = map (is_up ss) v.reach.loggers };
  store = v.store;
}

-- the window's moment comes at each disk, if disks go down at all, and each volume sees which are
-- awake
abbrev pub begun : Setting → (moment : ℕ) → Machine → Machine
begun s moment m =
    let ss = if s.sleeps
    then map (λ d. used s.timeout d 0 (Began moment)) m.spindles
    else m.spindles in
    record { volumes = map (seeing ss) m.volumes; spindles = ss }

-- a window of requests
pub record Asked : Type 0 where
  pub moment : ℕ
  pub asks : List Ask

-- it begins, its requests have their turns, and then each volume reclaims, in order
abbrev pub after_window : Setting → Asked → Machine → Machine
after_window s w m = after_turns s.timeout (map tidying (range_with_len 0 (length m.volumes)))
    (after_turns s.timeout (map asking w.asks) (begun s w.moment m))

abbrev pub after_windows : Setting → List Asked → Machine → Machine
after_windows s [] m = m
after_windows s (w ∷ ws) m = after_windows s ws (after_window s w m)

-- at first all count as awake, and nothing is logged
abbrev pub first_look : Reach → Look
first_look r = record {
  home_up = true;
  ups = replicate (length r.loggers) true;
  next = 1;
  listed = [];
  down = None;
}

abbrev pub first_volume : (whole : ℕ) → Reach → Volume
first_volume whole r = record { reach = r; look = first_look r; store = first_store whole }

-- the machine when its account begins
abbrev pub first_machine : Setting → (from : ℕ) → Machine
first_machine s from = record {
  volumes = map (first_volume s.whole) s.reaches;
  spindles = map (λ r. used s.timeout new_spindle 0 (Started from)) s.reaches;
}

-- ---- Sums over all disks, until the account ends

abbrev pub all_wakes : List SpindleState → ℕ
all_wakes ss = sum_by (λ (s : SpindleState). wakes s.journal) ss

abbrev pub all_sleeps : List SpindleState → ℕ
all_sleeps ss = sum_by (λ (s : SpindleState). sleeps s.journal) ss

abbrev pub all_units : Powers → List SpindleState → (to : ℕ) → ℕ
all_units p ss to = sum_by (λ (s : SpindleState). units p s.journal s.from to) ss
