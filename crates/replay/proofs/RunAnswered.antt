-- What replaying a trace over a bay comes to, by what opening, serving and closing its rack say.
use Rattle.replay.proofs.Basics.{◌≡◌, ◌<◌, ◌≤◌, ℕ, Bool, List, length, Option, None, Some, Result, Ok, Err, refl, sym, ap, subst, ◌∙◌, arith, All}
use Rattle.replay.proofs.Basics.{IfSome, IsTrue, MatchResult, slice_get, length-map}
use Rattle.replay.proofs.Terms.{BayState, Told, Rose, State, Config, IsTold, shape_in, shapes_of, Part, Station, printed_names}
use Rattle.replay.proofs.Terms.{summary_text, Memory, AreClosedVolumes, AreLeftOfParts, HasFaultAt, HasFaultIn, IsClosedSpindle, IsQuiet}
use Rattle.replay.proofs.Terms.{LeavesUnopened, LeavesVolumes, ListsFaulty, AreRefused, BeganWith, HasFaulty, KeepsAllSound, WereThere, HadRefused}
use Rattle.replay.proofs.Terms.{AreUnused, IsRack, IsUnused, KeepToViews, IsImageOut, Rack, Rest, SpindleView, SpindlePass, AreStations}
use Rattle.replay.proofs.Terms.{AreAllOpen, KeepsViews, LeavesFronts, LeavesViews, PrintsText, all_amounts, Replayed, Replays, ran, first_closed, view_at, RunsIn}
use Rattle.replay.proofs.Terms.{closed, locks_of, no_memory, served, ServesSome, ServesWhole, Counted, Given, Options, Stop, none_closed}
use Rattle.replay.proofs.Terms.{opened_out}
use Rattle.rack.proofs.Asking.{told_then}
use Rattle.rack.proofs.FailedParts.{gained_parts}
use Rattle.rack.proofs.NewFaults.{told_each, told_with}
use Rattle.rack.proofs.ViewsLeft.{front_left, told_left, views_left}
use Rattle.replay.proofs.HistoriesLeft.{histories_of}
use Rattle.replay.proofs.RacksServed.{a_member, at_place, each_station, station_count}
use Rattle.replay.proofs.RunClosed.{leaves_bay, runs_closed}
use Rattle.replay.proofs.RunFlown.{began_still, run_told}
use Rattle.replay.proofs.RunReplayed.{replays_none, replays_some, replays_whole}
use Rattle.replay.proofs.ViewsKept.{keep_views, locks_count}
use Rattle.manager_recovery.specs.declared.refusal.OpenRefusal.TheVariants as refusal
use Rattle.rack_parts.specs.declared.volume_fault.VolumeFault.TheVariants as fault
use Rattle.replay.specs.declared.stop.Stop.TheVariants as stop

-- what opening says of a rack
pub record HasOpened {D : Type 0} (state : D → State) (tells : Bool) (config : Config) (entry opened : BayState) (r : Rack D) : Type 0 where
  pub some : 1 ≤ length config.volumes.items
  pub is : IsRack state config opened r
  pub began : IsTrue tells → IfSome entry.told (λ t. BeganWith state config t r)
  pub there : IsTrue tells → IfSome entry.told (λ t. WereThere config r.rest.images.items t)
  pub refused : AreRefused tells state config entry opened r
  pub fresh : AreUnused r.stations.items
  pub fresh_keepers : All (λ (p : SpindlePass). IsUnused p) r.keepers.items
  pub unfaulty : ((k : ℕ) → k < length (shapes_of config) → IsImageOut r.rest.images.items k) → IsTold (λ x y. y.faulty ≡ x.faulty) entry.told opened.told
  pub kept : IsTrue tells → IsTold (HadRefused config r.rest.images.items) entry.told opened.told
  pub failed : (k : ℕ) (p : Part) → slice_get r.faults.items k ≡ Some (Some (fault.Refused (refusal.DiskFault p))) → IsImageOut r.rest.images.items k → HasFaultAt state r.rest p
  pub gained : IsTold HasFaulty entry.told opened.told
  pub counts : entry.faults ≤ opened.faults

-- what closing says of one
pub record HasClosedRack {D : Type 0} (state : D → State) (tells : Bool) (config : Config) (opened left_ : BayState) (q : Rack D) (Q : Told → Told → Type 0) : Type 0 where
  pub stations : AreClosedVolumes tells config opened left_ q
  pub told : IsTrue tells → IsTold Q opened.told left_.told
  pub kept : IsTrue tells → IsTold (HadRefused config q.rest.images.items) opened.told left_.told
  pub volumes : (t : Told) → IsTrue tells → BeganWith state config t q → WereThere config q.rest.images.items t → All (λ (s : Station D). IsQuiet s) q.stations.items
      → IsTold (λ old new. HadRefused config q.rest.images.items t old → LeavesVolumes config q t new) opened.told left_.told
  pub unopened : (t : Told) → IsTrue tells → BeganWith state config t q → WereThere config q.rest.images.items t → IsTold (λ old new. HadRefused config q.rest.images.items t old → LeavesUnopened config q t new) opened.told left_.told
  pub sound : (t : Told) → IsTrue tells → BeganWith state config t q → WereThere config q.rest.images.items t → IsTold (λ old new. HadRefused config q.rest.images.items t old → KeepsAllSound config t new) opened.told left_.told
  pub cause : HasFaultIn state q.rest → Rose opened.faults left_.faults
  pub counts : opened.faults ≤ left_.faults
  pub faulty : IsTold (ListsFaulty state config q.rest) opened.told left_.told
  pub parts : IsTrue tells → IsTold (λ x y. AreLeftOfParts state config q y) opened.told left_.told
  pub spindles : List SpindleView
  pub count : length spindles ≡ length (shapes_of config)
  pub each : (k : ℕ) (s : SpindleView) → slice_get spindles k ≡ Some s → IsClosedSpindle q k s

module _ {D S : Type 0} (T : Type 0) (state : D → State) (tells : Bool) (left : S → Option (List ℕ)) (config : Config) (options : Options) (start now : Given S) (entry opened left_ : BayState) (r q : Rack D) (Q : Told → Told → Type 0)
    (o : HasOpened state tells config entry opened r) (c : HasClosedRack state tells config opened left_ q Q) (faults faults' : ℕ) (printed printed' : Option (List ℕ)) where
  abbrev Comes : Result T Stop → (faults'' : ℕ) → (printed'' : Option (List ℕ)) → Type 0
  Comes done faults'' printed'' = Replayed tells state left config options start now entry left_ faults faults'' printed printed'' done

  module _ (none : first_closed 0 r.faults.items ≡ None) where
    all_out : (k : ℕ) → k < length (shapes_of config) → IsImageOut r.rest.images.items k
    all_out k lt = opened_out state config opened r o.is k lt (none_closed 0 r.faults.items none k)

    stations : AreStations r.stations.items
    stations = each_station state config opened r o.is none

    count : length r.stations.items ≡ length (shapes_of config)
    count = station_count state config opened r o.is none

    some : 1 ≤ length r.stations.items
    some = let n = count in let m = length-map config.volumes.items (shape_in config) in let at = o.some in omega (arith, n, m, at)

    -- each image was there, and was accepted
    all_open : IsTrue tells → IfSome entry.told (λ t. AreAllOpen config t)
    all_open telling = at entry.told (o.there telling)
      where
        at : (told : Option Told) → IfSome told (λ t. WereThere config r.rest.images.items t) → IfSome told (λ t. AreAllOpen config t)
        at None there = tt
        at (Some t) there = λ k v conf. there k v conf (all_out k (let less = (at_place config.volumes.items k v conf).0 in omega (arith, less, length-map config.volumes.items (shape_in config))))

    -- sound images stay sound, over a rack with the same rest and locks
    sound_still : q.rest ≡ r.rest → q.shared ≡ r.shared → locks_of q.stations.items ≡ locks_of r.stations.items → AreStations q.stations.items → IsTrue tells → IsTold (KeepsAllSound config) entry.told left_.told
    sound_still rest shared locks news telling =
        run_told state config q (KeepsAllSound config) Q entry opened left_ (still entry.told (o.began telling)) (subst (λ (x : Rest D). IfSome entry.told (λ t. WereThere config x.images.items t)) (sym rest) (o.there telling))
        (subst (λ (x : Rest D). IsTold (HadRefused config x.images.items) entry.told opened.told) (sym rest) (o.kept telling)) (c.told telling) (λ t with was. c.sound t telling with was)
      where
        still : (told : Option Told) → IfSome told (λ t. BeganWith state config t r) → IfSome told (λ t. BeganWith state config t q)
        still None began = tt
        still (Some t) began = began_still state config r q rest shared locks stations news t began

    -- label and view of each volume are as they were read, over a rack with the same rest
    fronts_kept : q.rest ≡ r.rest → IsTrue tells → IsTold (LeavesFronts config) entry.told left_.told
    fronts_kept rest telling = told_left state config r q (LeavesFronts config) entry.told opened.told left_.told
        (λ e n began were parts v lt. let (conf, at) = a_member config.volumes.items v lt in front_left state config r q rest e n began were parts v conf at (all_out v (omega (arith, lt, length-map config.volumes.items (shape_in config)))))
        (o.began telling) (o.there telling) o.gained (c.parts telling)

    -- its volumes kept to the views that they were opened with
    kept_views : q.rest ≡ r.rest → locks_of q.stations.items ≡ locks_of r.stations.items → AreStations q.stations.items → KeepToViews (view_at (histories_of tells config q.rest.images.items opened left_ q.stations.items c.stations.0)) q
    kept_views rest locks news = keep_views state tells config opened left_ r q o.is rest locks stations news count (locks_count q.stations.items r.stations.items locks) c.stations.0

  -- images that weren't out stay, over the same rack
  refused_kept : q ≡ r → IsTrue tells → IsTold (HadRefused config r.rest.images.items) entry.told left_.told
  refused_kept same telling =
      let closing = subst (λ (x : Rack D). HasClosedRack state tells config opened left_ x Q) same c in
      let out = r.rest.images.items in
      told_then (HadRefused config out) (HadRefused config out) (HadRefused config out) entry.told opened.told left_.told (λ x y z is first then k v conf none c may. first k v conf none c (then k v conf none c may)) (o.kept telling) (closing.kept telling)

  -- .. and volumes without a station
  unopened_kept : q ≡ r → IsTrue tells → IsTold (LeavesUnopened config r) entry.told left_.told
  unopened_kept same telling =
      let closing = subst (λ (x : Rack D). HasClosedRack state tells config opened left_ x Q) same c in
      run_told state config r (LeavesUnopened config r) Q entry opened left_ (o.began telling) (o.there telling) (o.kept telling) (closing.told telling) (λ t with was. closing.unopened t telling with was)

  -- no label or view was changed, over the same rack
  views_kept : q ≡ r → IsTrue tells → IsTold (KeepsViews config) entry.told left_.told
  views_kept same telling =
      let closing = subst (λ (x : Rack D). HasClosedRack state tells config opened left_ x Q) same c in
      let out = r.rest.images.items in
      told_each (λ x y. (HadRefused config out x y → KeepsViews config x y) × HadRefused config out x y) (KeepsViews config) entry.told left_.told (λ x y both. both.0 both.1)
      (told_with (λ x y. HadRefused config out x y → KeepsViews config x y) (HadRefused config out) entry.told left_.told
      (told_left state config r r (λ x y. HadRefused config out x y → KeepsViews config x y) entry.told opened.told left_.told (λ e n began were parts. views_left state config r r refl e n began were parts) (o.began telling) (o.there telling) o.gained (closing.parts telling))
      (refused_kept same telling))

  bay_left : q ≡ r → LeavesViews tells state config entry left_
  bay_left same =
      let closing = subst (λ (x : Rack D). HasClosedRack state tells config opened left_ x Q) same c in record {
        bay = leaves_bay tells state config entry opened left_ r o.is o.refused c.counts (gained_parts state config q.rest opened.told left_.told c.faulty) o.began o.there o.kept o.fresh closing.kept closing.parts closing.volumes closing.sound;
        views = views_kept same;
      }

  abbrev Ran : Result T Stop → (faults'' : ℕ) → (printed'' : Option (List ℕ)) → Type 0
  Ran done faults'' printed'' = Replays tells left config options start now entry left_ done faults faults'' printed printed''

  -- it wasn't served to its end, and all volumes were open
  pub served_err : (result : Result Counted Stop) → RunsIn tells left config options start now r q faults faults' printed printed' result → (e : Stop) → result ≡ Err e → first_closed 0 r.faults.items ≡ None → Ran (Err e) faults' printed'
  served_err result (closed f first none) e is open_ = let no : Some f ≡ None = sym first ∙ open_ in absurd (cc no)
  served_err result (no_memory first none) e is open_ =
      let same : stop.Fault Memory ≡ e = cc is in
      let rest : q.rest ≡ r.rest = ap (λ (x : Rack D). x.rest) none.same in
      let news : AreStations q.stations.items = subst (λ (x : Rack D). AreStations x.stations.items) (sym none.same) (stations first) in
      subst (λ (x : Stop). Ran (Err x) faults' printed') same
      (replays_none T state tells left config options start now entry opened left_ r q o.is (count first) (some first) (all_out first) o.began o.gained Q c.told o.counts c.stations.0 c.stations.1
      (kept_views first rest (ap (λ (x : Rack D). locks_of x.stations.items) none.same) news) o.fresh (o.unfaulty (all_out first))
      (sound_still first rest (ap (λ (x : Rack D). x.shared) none.same) (ap (λ (x : Rack D). locks_of x.stations.items) none.same) news) (fronts_kept first rest) (all_open first) faults faults' printed printed' none news c.spindles c.count (c.count ∙ length-map config.volumes.items (shape_in config)) c.each o.fresh_keepers)
  served_err result (served done first before moved from) e is open_ = at done from.served is
    where
      at : (x : Result Counted Stop) → MatchResult x (λ d. ServesWhole tells left config options start now before r.keepers.items from.after q.keepers.items d faults faults' printed printed')
          (λ y. ServesSome tells left config options start y now before r.keepers.items from.after q.keepers.items faults faults' printed printed') → x ≡ Err e → Ran (Err e) faults' printed'
      at (Ok d) w is = absurd (cc is)
      at (Err y) w is =
          let same : y ≡ e = cc is in
          subst (λ (x : Stop). Ran (Err x) faults' printed') same
          (replays_some T state tells left config options start now entry opened left_ r q o.is (count first) (some first) (all_out first) o.began o.gained Q c.told o.counts c.stations.0 c.stations.1
          (kept_views first (ap (λ (x : Rack D). x.rest) from.only) (from.locks ∙ moved.locks) from.can.each) o.fresh (o.unfaulty (all_out first))
          (sound_still first (ap (λ (x : Rack D). x.rest) from.only) (ap (λ (x : Rack D). x.shared) from.only) (from.locks ∙ moved.locks) from.can.each) (fronts_kept first (ap (λ (x : Rack D). x.rest) from.only)) (all_open first) faults faults' printed printed' before moved done from y w c.spindles c.count (c.count ∙ length-map config.volumes.items (shape_in config)) c.each o.fresh_keepers)

  pub replayed_err : (result : Result Counted Stop) → RunsIn tells left config options start now r q faults faults' printed printed' result → (e : Stop) → result ≡ Err e → Comes (Err e) faults' printed'
  replayed_err result (closed f first none) e is =
      let same : stop.Fault f ≡ e = cc is in
      subst (λ (x : Stop). Comes (Err x) faults' printed') same
      (runs_closed {T = T} tells state left config options start now entry opened left_ r q faults faults' printed printed' f o.is o.refused o.failed c.cause o.counts c.counts o.gained c.faulty o.began o.there first none (bay_left none.same) o.fresh c.stations.0 (refused_kept none.same) (unopened_kept none.same))
  replayed_err result (no_memory first none) e is = ran (Err e) (served_err result (no_memory first none) e is first)
  replayed_err result (served done first before moved from) e is = ran (Err e) (served_err result (served done first before moved from) e is first)

  -- it was, and the summary was printed or not
  pub served_ok : (result : Result Counted Stop) → RunsIn tells left config options start now r q faults faults' printed printed' result → (counted : Counted) → result ≡ Ok counted → (spindles : List SpindleView)
      → length spindles ≡ length (shapes_of config) → length spindles ≡ length config.volumes.items → ((k : ℕ) (s : SpindleView) → slice_get spindles k ≡ Some s → IsClosedSpindle q k s) → (done : Result T Stop) (faults'' : ℕ) (printed'' : Option (List ℕ))
      → PrintsText done (summary_text counted.totals (printed_names config.volumes.items) (all_amounts config.powers counted.started counted.ended spindles)) faults' faults'' printed' printed'' → Ran done faults'' printed''
  served_ok result (closed f first none) counted is spindles sized each closed_ done faults'' printed'' prints = absurd (cc is)
  served_ok result (no_memory first none) counted is spindles sized each closed_ done faults'' printed'' prints = absurd (cc is)
  served_ok result (served whole first before moved from) counted is spindles sized each closed_ done faults'' printed'' prints = at whole from.served is
    where
      at : (x : Result Counted Stop) → MatchResult x (λ d. ServesWhole tells left config options start now before r.keepers.items from.after q.keepers.items d faults faults' printed printed')
          (λ y. ServesSome tells left config options start y now before r.keepers.items from.after q.keepers.items faults faults' printed printed') → x ≡ Ok counted → Ran done faults'' printed''
      at (Err y) w is = absurd (cc is)
      at (Ok d) w is =
          let same : d ≡ counted = cc is in
          let here = subst (λ (x : Counted). ServesWhole tells left config options start now before r.keepers.items from.after q.keepers.items x faults faults' printed printed') same w in
          replays_whole T state tells left config options start now entry opened left_ r q o.is (count first) (some first) (all_out first) o.began o.gained Q c.told o.counts c.stations.0 c.stations.1
          (kept_views first (ap (λ (x : Rack D). x.rest) from.only) (from.locks ∙ moved.locks) from.can.each) o.fresh (o.unfaulty (all_out first))
          (sound_still first (ap (λ (x : Rack D). x.rest) from.only) (ap (λ (x : Rack D). x.shared) from.only) (from.locks ∙ moved.locks) from.can.each) (fronts_kept first (ap (λ (x : Rack D). x.rest) from.only)) (all_open first) faults faults' printed printed' before moved whole from counted here spindles sized each closed_ o.fresh_keepers done faults'' printed'' prints

  pub replayed_ok : (result : Result Counted Stop) → RunsIn tells left config options start now r q faults faults' printed printed' result → (counted : Counted) → result ≡ Ok counted → (spindles : List SpindleView)
      → length spindles ≡ length (shapes_of config) → length spindles ≡ length config.volumes.items → ((k : ℕ) (s : SpindleView) → slice_get spindles k ≡ Some s → IsClosedSpindle q k s) → (done : Result T Stop) (faults'' : ℕ) (printed'' : Option (List ℕ))
      → PrintsText done (summary_text counted.totals (printed_names config.volumes.items) (all_amounts config.powers counted.started counted.ended spindles)) faults' faults'' printed' printed'' → Comes done faults'' printed''
  replayed_ok result runs counted is spindles sized each closed_ done faults'' printed'' prints = ran done (served_ok result runs counted is spindles sized each closed_ done faults'' printed'' prints)
