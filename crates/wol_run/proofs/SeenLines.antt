-- Lines of any source, seen as the bytes that are left of it.
use Rattle.std.proofs.Common.{◌↔◌, ◌≤◌, inl, inr, ℕ, Bool, List, ◌++◌, Option, Result, ap, subst, sym, arith}
use Rattle.wol_disk.specs.Disk.{Rose, State}
use Rattle.wol_bay.specs.Bay.{BayState}
use Rattle.wol_model.specs.Trace.{Target, TraceLine}
use Rattle.wol_config.specs.declared.config.Config.{Config}
use Rattle.msr_trace.specs.declared.format.TraceFault.{TraceFault}
use Rattle.trace_gen.specs.Generated.{targets_of}
use Rattle.volume_images.specs.Left.{IsTold}
use Rattle.rack.specs.Opens.{KeepsOthers}
use Rattle.replay.specs.Ended.{EndsFor, whole, no_line, refused, memory, sink_failed}
use Rattle.replay.specs.Givens.{HasGiven, HasGivenAll, Refuses, faults_of}
use Rattle.replay.specs.Histories.{view_at}
use Rattle.replay.specs.NotOpened.{AsksNone}
use Rattle.replay.specs.Replays.{Replayed, closed, no_memory, ran}
use Rattle.replay.specs.Served.{ServedWindow}
use Rattle.replay.specs.Sessions.{EndsWithWindow, at_end, at_refusal, opens}
use Rattle.replay.specs.Summed.{IsSummaryOf, of_all, of_none}
use Rattle.replay.specs.declared.given.Given.{Given}
use Rattle.replay.specs.declared.given.Given.TheVariants.{Trace, Generated}
use Rattle.replay.specs.declared.session.Options.{Options}
use Rattle.replay.specs.declared.stop.Stop.{Stop}
use Rattle.wol_run.specs.Replaying.{EndsReplay, HasLeft, HasSource, IsReplay, seen}

module _ {S : Type 0} (left : S → Option (List ℕ)) (targets : List Target) where
  pub given_seen : (start now : Given S) (ls : List (Option TraceLine)) → HasGiven left targets start now ls → HasGiven (λ bytes. bytes) targets (seen left start) (seen left now) ls
  given_seen (Trace r) (Trace q) ls h = h
  given_seen (Trace r) (Generated g n) ls h = h
  given_seen (Generated g n) (Trace q) ls h = h
  given_seen (Generated g n) (Generated k m) ls h = h

  pub all_seen : (start now : Given S) (ls : List (Option TraceLine)) → HasGivenAll left targets start now ls → HasGivenAll (λ bytes. bytes) targets (seen left start) (seen left now) ls
  all_seen (Trace r) (Trace q) ls h = h
  all_seen (Trace r) (Generated g n) ls h = h
  all_seen (Generated g n) (Trace q) ls h = h
  all_seen (Generated g n) (Generated k m) ls h = h

pub refuses_seen : {S : Type 0} (left : S → Option (List ℕ)) (e : TraceFault) (start now : Given S) (ls : List (Option TraceLine)) → Refuses left e start now ls → Refuses (λ bytes. bytes) e (seen left start) (seen left now) ls
refuses_seen left e (Trace r) (Trace q) ls h = h
refuses_seen left e (Trace r) (Generated g n) ls h = h
refuses_seen left e (Generated g n) (Trace q) ls h = h
refuses_seen left e (Generated g n) (Generated k m) ls h = h

window_seen : {S : Type 0} (left : S → Option (List ℕ)) (config : Config) (start now : Given S) (run more : List (Option TraceLine)) → EndsWithWindow left config start now run more
    → EndsWithWindow (λ bytes. bytes) config (seen left start) (seen left now) run more
window_seen left config start now run more (opens line rest w one same) = opens line rest w one same
window_seen left config start now run more (at_end all) = at_end (all_seen left (targets_of config) start now run all)
window_seen left config start now run more (at_refusal refusal other refuses) = at_refusal refusal other (refuses_seen left refusal start now run refuses)

asks_seen : {S : Type 0} (left : S → Option (List ℕ)) (start now : Given S) (sink sink' : ℕ) (printed printed' : Option (List ℕ)) → AsksNone start now sink sink' printed printed' → AsksNone (seen left start) (seen left now) sink sink' printed printed'
asks_seen left start now sink sink' printed printed' is = record { unread = ap (seen left) is.unread; calm = is.calm; kept = is.kept }

module _ {S T : Type 0} (tells : Bool) (left : S → Option (List ℕ)) (config : Config) (start now : Given S) (old new : BayState) (sink sink' : ℕ) where
  ends_seen : (run : List (Option TraceLine)) (last : List ServedWindow) (result : Result T Stop) → EndsFor left config start now run last old.faults new.faults sink sink' result
      → EndsFor (λ bytes. bytes) config (seen left start) (seen left now) run last old.faults new.faults sink sink' result
  ends_seen run last result (whole done none all) = whole done none (all_seen left (targets_of config) start now run all)
  ends_seen run last result (no_line refusal other empty refuses) = no_line refusal other empty (refuses_seen left refusal start now run refuses)
  ends_seen run last result (refused f s one is rose versions) = refused f s one is rose versions
  ends_seen run last result memory = memory
  ends_seen run last result (sink_failed rose) = sink_failed rose

  summary_seen : (views : ℕ → List ℕ) (lines : List (Option TraceLine)) (windows : List ServedWindow) (awake : List (List Bool)) (result : Result T Stop) (text : List ℕ) → IsSummaryOf left config views start now lines windows awake result text
      → IsSummaryOf (λ bytes. bytes) config views (seen left start) (seen left now) lines windows awake result text
  summary_seen views lines windows awake result text (of_all r x all is) = of_all r x (all_seen left (targets_of config) start now lines all) is
  summary_seen views lines windows awake result text (of_none e) = of_none e

  module _ (options : Options) (printed printed' : Option (List ℕ)) where
    pub replayed_seen : {D : Type 0} (state : D → State) (result : Result T Stop) → Replayed tells state left config options start now old new sink sink' printed printed' result
        → Replayed tells state (λ bytes. bytes) config options (seen left start) (seen left now) old new sink sink' printed printed' result
    replayed_seen state result (no_memory asks leaves) = no_memory (asks_seen left start now sink sink' printed printed' asks) leaves
    replayed_seen state result (closed k f asks first leaves) = closed k f (asks_seen left start now sink sink' printed printed' asks) first leaves
    replayed_seen state result (ran r is) = ran r (record {
      of = record {
        run = is.run;
        more = is.more;
        given = given_seen left (targets_of config) start now (is.run ++ is.more) is.given;
        earlier = is.earlier;
        last = is.last;
        windows_ = is.windows_;
        whole = λ some. window_seen left config start now is.run is.more (is.whole some);
        well = is.well;
        ahead = is.ahead;
      };
      one = is.one;
      asked = is.asked;
      ends = ends_seen is.run is.last r is.ends;
      histories = is.histories;
      are = is.are;
      cause = is.cause;
      part = is.part;
      named = is.named;
      spent = is.spent;
      begun = is.begun;
      pools = is.pools;
      are_pools = is.are_pools;
      passed = is.passed;
      taken = is.taken;
      counts = is.counts;
      placed = is.placed;
      reclaimed = is.reclaimed;
      reclaims = is.reclaims;
      awake = is.awake;
      worked = is.worked;
      unbroken = is.unbroken;
      marks = is.marks;
      images = is.images;
      summary = is.summary;
      summary_is = summary_seen (view_at is.histories) is.run (is.earlier ++ is.last) is.awake r is.summary is.summary_is;
      prints = is.prints;
      open_ = is.open_;
      disks = is.disks;
    })

-- ---- Sources

pub still_given : {S : Type 0} (left : S → Option (List ℕ)) (targets : List Target) (start now : Given S) (ls : List (Option TraceLine)) → HasGiven left targets start now ls → HasSource start → HasSource now
still_given left targets (Trace r) (Trace q) ls h is = tt
still_given left targets (Trace r) (Generated g n) ls h is = h
still_given left targets (Generated g n) now ls h is = absurd is

given_still : {S : Type 0} (left : S → Option (List ℕ)) (targets : List Target) (start now : Given S) (ls : List (Option TraceLine)) → HasGiven left targets start now ls → HasSource now → HasSource start
given_still left targets (Trace r) now ls h is = tt
given_still left targets (Generated g n) (Trace q) ls h is = h
given_still left targets (Generated g n) (Generated k m) ls h is = is

-- lines of a source stay so
pub source_kept : {D S T : Type 0} (tells : Bool) (state : D → State) (left : S → Option (List ℕ)) (config : Config) (options : Options) (start now : Given S) (old new : BayState) (sink sink' : ℕ) (printed printed' : Option (List ℕ)) (result : Result T Stop)
    → Replayed tells state left config options start now old new sink sink' printed printed' result → HasSource start ↔ HasSource now
source_kept tells state left config options start now old new sink sink' printed printed' result (no_memory asks leaves) = (subst HasSource (sym asks.unread), subst HasSource asks.unread)
source_kept tells state left config options start now old new sink sink' printed printed' result (closed k f asks first leaves) = (subst HasSource (sym asks.unread), subst HasSource asks.unread)
source_kept tells state left config options start now old new sink sink' printed printed' result (ran r replays) =
    (still_given left (targets_of config) start now (replays.run ++ replays.more) replays.given, given_still left (targets_of config) start now (replays.run ++ replays.more) replays.given)

-- nothing is left of lines without a source, and no call of theirs failed
pub left_of_seed : {S : Type 0} (left : S → Option (List ℕ)) (now : Given S) (rest : Option (List ℕ)) → ¬ HasSource now → HasLeft (seen left now) rest
left_of_seed left (Trace r) rest other = absurd (other tt)
left_of_seed left (Generated g n) rest other = tt

pub seed_calm : {S : Type 0} (faults : S → ℕ) (start now : Given S) → ¬ HasSource start → ¬ HasSource now → Rose (faults_of faults start) (faults_of faults now) → ⊥
seed_calm faults (Trace r) now other others rose = other tt
seed_calm faults (Generated g n) (Trace q) other others rose = others tt
seed_calm faults (Generated g n) (Generated k m) other others (inl less) = omega (arith, less)
seed_calm faults (Generated g n) (Generated k m) other others (inr most) = omega (arith, most)

-- a replay over a configuration that was had, and its end
pub is_replay : {D S : Type 0} (tells : Bool) (state : D → State) (left : S → Option (List ℕ)) (config : Config) (options : Options) (start now : Given S) (old new : BayState) (sink sink' after : ℕ) (printed then printed' : Option (List ℕ)) (status : ℕ)
    (result : Result (Unit {0}) Stop) → IsTold (KeepsOthers config) old.told new.told → Replayed tells state left config options start now old new sink sink' printed then result → sink' ≤ after → EndsReplay config result status then printed'
    → (rest : Option (List ℕ)) → HasLeft (seen left now) rest → IsReplay tells state options config (seen left start) rest old new sink after status printed printed'
is_replay tells state left config options start now old new sink sink' after printed then printed' status result others replayed later ends rest left_is = record {
  over = record { result = result; sink_then = sink'; later = later; printed_then = then; ends = ends };
  now = seen left now;
  rest = left_is;
  others = others;
  replayed = replayed_seen tells left config start now old new sink sink' options printed then state result replayed;
}
