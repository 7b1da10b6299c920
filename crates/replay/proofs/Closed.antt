-- The rack of a replay is closed.
use Rattle.replay.proofs.Basics.{◌≡◌, ◌++◌, ℕ, Bool, List, [], map, sym, ap, subst, ◌∙◌, Option, None, Some, Result, Ok, Err, ◌∷◌, arith}
use Rattle.replay.proofs.Basics.{All, IfSome, MatchResult, option_map, slice_get, slice_index_or, length, ◌<◌, ◌≤◌, ◌≢◌, false, AllByRecursion, Contains}
use Rattle.replay.proofs.Terms.{TraceLine, ended, pieces_of, started, timed, Use, keeper_uses, Entry, own, lock_id, pass_mine}
use Rattle.replay.proofs.Terms.{pass_number, operation_of, SpindleBase, targets_of, IsClosedSpindle, ServedFromStart, ServedWindow}
use Rattle.replay.proofs.Terms.{SpindleView, StandsFor, SpindlePass, Floor, ServesSome, ServesWhole, State, BayState, Told, at_name, outs}
use Rattle.replay.proofs.Terms.{Config, VolumeConf, NoneOut, shapes_of, out_names, IsClosable, IsRack, IsUnused, Rack, Rest, RunsIn, closed}
use Rattle.replay.proofs.Terms.{no_memory, served, Counted, Given, Options, Stop, most_of, IsPartOf, KeepToViews, Reclaim, has_token, pass_lock, HasJournal}
use Rattle.wol_model.specs.Trace.{Window, windows}
use Rattle.rack.specs.Closing.{LeavesNoneOut}
use Rattle.trace_windows.proofs.Rising.{moments_rise}
use Rattle.replay.proofs.Accounts.{AreOthers, account_journal, empty_journal, first_start, moments_of, moments_within, no_start, served_used}
use Rattle.replay.proofs.RacksServed.{a_member, at_place, closable_after, rack_closable, there_at}
use Rattle.replay.proofs.Serving.{served_moments}

-- a bay tells the same of what is out
outs_home : (config : Config) (b : BayState) → NoneOut config b → IfSome (outs b) (λ os. All (λ (v : VolumeConf). at_name v.name os ≡ None) config.volumes.items)
outs_home config b home = at b.told home
  where
    at : (t : Option Told) → All (λ (v : VolumeConf). IfSome t (λ x. at_name v.name x.out ≡ None)) config.volumes.items → IfSome (option_map (λ (x : Told). x.out) t) (λ os. All (λ (v : VolumeConf). at_name v.name os ≡ None) config.volumes.items)
    at None all = tt
    at (Some t) all = all

pub home_outs : (config : Config) (b c : BayState) → NoneOut config b → outs c ≡ outs b → NoneOut config c
home_outs config b c home same = at b.told c.told home same
  where
    at : (t u : Option Told) → All (λ (v : VolumeConf). IfSome t (λ x. at_name v.name x.out ≡ None)) config.volumes.items → option_map (λ (x : Told). x.out) u ≡ option_map (λ (x : Told). x.out) t
        → All (λ (v : VolumeConf). IfSome u (λ x. at_name v.name x.out ≡ None)) config.volumes.items
    at t None all same k d lt = tt
    at None (Some u) all same k d lt = absurd (cc same)
    at (Some t) (Some u) all same k d lt = let out : u.out ≡ t.out = cc same in subst (λ os. at_name (slice_index_or config.volumes.items k d).name os ≡ None) (sym out) (all k d lt)

module _ {D S : Type 0} (state : D → State) (tells : Bool) (left : S → Option (List ℕ)) (config : Config) (options : Options) (start now : Given S) (b : BayState) (old new : Rack D) (faults faults' : ℕ) (printed printed' : Option (List ℕ))
    (is : IsRack state config b old) where
  pub closable_now : (result : Result Counted Stop) → RunsIn tells left config options start now old new faults faults' printed printed' result → IsClosable state config b new
  closable_now result (closed f first none) = subst (λ (r : Rack D). IsClosable state config b r) (sym none.same) (rack_closable state config b old is)
  closable_now result (no_memory first none) = subst (λ (r : Rack D). IsClosable state config b r) (sym none.same) (rack_closable state config b old is)
  closable_now result (served done first before moved from) =
      closable_after state config b old new (rack_closable state config b old is) from.only from.can (from.locks ∙ moved.locks) from.same

  pub same_rest : (result : Result Counted Stop) → RunsIn tells left config options start now old new faults faults' printed printed' result → new.rest ≡ old.rest
  same_rest result (closed f first none) = ap (λ (r : Rack D). r.rest) none.same
  same_rest result (no_memory first none) = ap (λ (r : Rack D). r.rest) none.same
  same_rest result (served done first before moved from) = ap (λ (r : Rack D). r.rest) from.only

  -- what is out before opening is out after closing
  pub outs_same : (result : Result Counted Stop) → RunsIn tells left config options start now old new faults faults' printed printed' result → (entry last : BayState) → NoneOut config entry
      → outs b ≡ option_map (λ os. os ++ out_names config config.volumes.items old.rest.images.items) (outs entry)
      → LeavesNoneOut config new.rest.images.items (outs b) (outs last) → outs last ≡ outs entry
  outs_same result runs entry last home opened leaves =
      leaves.again (outs entry) (outs_home config entry home)
      (subst (λ (r : Rest D). outs b ≡ option_map (λ os. os ++ out_names config config.volumes.items r.images.items) (outs entry)) (sym (same_rest result runs)) opened)

-- ---- Spindles

-- a spindle that was closed, by the pass of its keeper
pub record HasKeeper {D : Type 0} (config : Config) (r : Rack D) (k : ℕ) (s : SpindleView) : Type 0 where
  pub pass : SpindlePass
  pub keeper : slice_get r.keepers.items k ≡ Some pass
  pub base : SpindleBase
  pub base_is : (pass_lock pass).base ≡ base
  pub volume : s.volume ≡ k
  pub timeout_is : s.timeout ≡ config.timeout
  pub entries : List Entry
  pub stands : StandsFor s base entries
  pub others : AreOthers (pass_number pass) entries
  pub part : IsPartOf entries pass
  pub ended : (m : ℕ) → m ≢ pass_number pass → has_token (own m entries) ≡ false
  pub users : (views : ℕ → List ℕ) → KeepToViews views r → (m : ℕ) → m ≢ pass_number pass → m ≢ k → (Contains (views m) k → ⊥) → own m entries ≡ []

pub kept_by : {D : Type 0} (state : D → State) (config : Config) (b : BayState) (r : Rack D) → IsClosable state config b r → (spindles : List SpindleView) → length spindles ≡ length (shapes_of config) → (k : ℕ) (s : SpindleView) → slice_get spindles k ≡ Some s
    → IsClosedSpindle r k s → HasKeeper config r k s
kept_by state config b r closable spindles count k s there closed_ =
    let lt = (at_place spindles k s there).0 in
    let (p, keeper) = a_member r.keepers.items k (omega (arith, lt, count, closable.keepers.0)) in
    let (l, lock) = a_member r.shared.spindles.items k (omega (arith, lt, count, closable.locks.spindle_count)) in
    let is_lock = closable.locks.spindles k l lock in
    let stands = closed_.stands l lock in
    record {
      pass = p;
      keeper = keeper;
      base = (lock_id l).base;
      base_is = ap (λ x. x.base) (closable.keepers.1 k l p lock keeper).own;
      volume = stands.volume ∙ is_lock.volume;
      timeout_is = stands.timeout ∙ is_lock.timeout_is;
      entries = closed_.entries;
      stands = stands;
      others = closed_.accesses p keeper;
      part = closed_.keeper_part p keeper;
      ended = closed_.ended p keeper;
      users = closed_.users p keeper;
    }

-- what a keeper's pass made in the windows of a run
pub served_mine : {D : Type 0} (tells : Bool) (mode : Reclaim) (k : ℕ) (w : ServedWindow) (ss : List ServedWindow) (f : Floor D) (ps : List SpindlePass) (g : Floor D) (qs : List SpindlePass) (p : SpindlePass) → ServedFromStart tells mode (w ∷ ss) f ps g qs → k < length ps
    → All (λ (x : SpindlePass). IsUnused x) ps → slice_get qs k ≡ Some p → pass_mine p ≡ map (λ (u : Use). (pass_number p, operation_of u)) (keeper_uses w.batch.moment (moments_of (w ∷ ss)))
served_mine tells mode k w ss f ps g qs p served_ lt unused there =
    let used = served_used tells mode k w ss f ps g qs p served_ lt in
    let at = (at_place qs k p there).1 p in
    let same : pass_number (slice_index_or ps k p) ≡ pass_number p = sym used.number ∙ ap (λ (x : SpindlePass). pass_number x) at in
    ap (λ (x : SpindlePass). pass_mine x) (sym at) ∙ used.mine ∙ (λ i. (unused k p lt).mine i ++ map (λ (u : Use). (same i, operation_of u)) (keeper_uses w.batch.moment (moments_of (w ∷ ss))))

-- ---- Journals

module _ {D S : Type 0} (state : D → State) (tells : Bool) (left : S → Option (List ℕ)) (config : Config) (options : Options) (start now : Given S) (b : BayState) (old new : Rack D) (faults faults' : ℕ) (printed printed' : Option (List ℕ))
    (is : IsRack state config b old) (unused : All (λ (p : SpindlePass). IsUnused p) old.keepers.items) where
  spindle_journal : (lines : List (Option TraceLine)) (ss : List ServedWindow) (f g : Floor D) → ServedFromStart tells options.reclaim ss f old.keepers.items g new.keepers.items
      → moments_of ss ≡ map (λ (w : Window). w.moment) (windows (most_of config) (targets_of config) lines) → (k : ℕ) (s : SpindleView) (base : SpindleBase) (entries : List Entry) (p : SpindlePass)
      → k < length old.keepers.items → slice_get new.keepers.items k ≡ Some p → StandsFor s base entries → AreOthers (pass_number p) entries → own (pass_number p) entries ≡ pass_mine p
      → HasJournal (started (timed lines)) (ended (timed lines)) s
  unfolding windows
  spindle_journal lines [] f g (floor, passes) moments k s base entries p lt there stands others mine =
      let was : slice_index_or old.keepers.items k p ≡ p = ap (λ (x : List SpindlePass). slice_index_or x k p) (sym passes) ∙ (at_place new.keepers.items k p there).1 p in
      let none : pass_mine p ≡ [] = ap (λ (x : SpindlePass). pass_mine x) (sym was) ∙ (unused k p lt).mine in
      let zero_start : started (timed lines) ≡ 0 = no_start (pieces_of (most_of config) (targets_of config)) (timed lines) moments in
      subst (λ (t : ℕ). HasJournal t (ended (timed lines)) s) (sym zero_start) (empty_journal s base entries (pass_number p) (ended (timed lines)) stands others (mine ∙ none))
  spindle_journal lines (w ∷ ss) f g served_ moments k s base entries p lt there stands others mine =
      let all = served_mine tells options.reclaim k w ss f old.keepers.items g new.keepers.items p served_ lt unused there in
      let first : w.batch.moment ≡ started (timed lines) = first_start (pieces_of (most_of config) (targets_of config)) (timed lines) w.batch.moment (moments_of ss) moments in
      let (within, le) = moments_within (started (timed lines)) (windows (most_of config) (targets_of config) lines) (ended (timed lines)) (moments_rise (most_of config) (targets_of config) lines) in
      subst (λ (t : ℕ). HasJournal t (ended (timed lines)) s) first
      (account_journal s base entries (pass_number p) w.batch.moment (ended (timed lines)) (moments_of (w ∷ ss)) stands others (mine ∙ all) (omega (arith, first, le))
      (subst (λ (ms : List ℕ). AllByRecursion (λ (m : ℕ). m ≤ ended (timed lines)) ms) (sym moments) within))

  pub journals_now : (result : Result Counted Stop) → RunsIn tells left config options start now old new faults faults' printed printed' result → (counted : Counted) → result ≡ Ok counted
      → (spindles : List SpindleView) → length spindles ≡ length (shapes_of config) → ((k : ℕ) (s : SpindleView) → slice_get spindles k ≡ Some s → IsClosedSpindle new k s)
      → All (λ (s : SpindleView). HasJournal counted.started counted.ended s) spindles
  journals_now result (closed f first none) counted ok spindles count each = absurd (cc ok)
  journals_now result (no_memory first none) counted ok spindles count each = absurd (cc ok)
  journals_now result (served done first before moved from) counted ok spindles count each = at done from.served ok
    where
      at : (r : Result Counted Stop) → MatchResult r (λ c. ServesWhole tells left config options start now before old.keepers.items from.after new.keepers.items c faults faults' printed printed')
          (λ e. ServesSome tells left config options start e now before old.keepers.items from.after new.keepers.items faults faults' printed printed') → r ≡ Ok counted
          → All (λ (s : SpindleView). HasJournal counted.started counted.ended s) spindles
      at (Err e) w ok k d lt = absurd (cc ok)
      at (Ok c) w ok k d lt =
          let same : c ≡ counted = cc ok in
          let closable = closable_now state tells left config options start now b old new faults faults' printed printed' is result (served done first before moved from) in
          let s = kept_by state config b new closable spindles count k (slice_index_or spindles k d) (there_at spindles k d lt) (each k (slice_index_or spindles k d) (there_at spindles k d lt)) in
          let journal = spindle_journal w.lines w.served before from.after w.from_start (served_moments config (windows (most_of config) (targets_of config) w.lines) w.served w.are) k (slice_index_or spindles k d) s.base s.entries s.pass (omega (arith, lt, count, is.keepers.0)) s.keeper
          s.stands s.others s.part.mine in
          subst (λ (x : Counted). HasJournal x.started x.ended (slice_index_or spindles k d)) same
          (subst (λ (t : ℕ). HasJournal t c.ended (slice_index_or spindles k d)) (sym w.started_) (subst (λ (t : ℕ). HasJournal (started (timed w.lines)) t (slice_index_or spindles k d)) (sym w.ended_) journal))
