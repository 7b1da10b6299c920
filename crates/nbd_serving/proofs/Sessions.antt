-- All volumes were opened, one was served, and all were closed: what is told of the bay.
use Rattle.std.proofs.Common.{◌≡◌, ◌≢◌, ◌<◌, ◌≤◌, ◌∷◌, ℕ, zero, suc, Bool, true, false, List, [], length, map, Option, None, Some, Result, refl, sym, ap, ◌∙◌, subst, arith, append-nil}
use Rattle.rack.proofs.FailedParts.{faulty_since}
use Rattle.std.specs.Prelude.{sum_by, All, Contains, slice_get, slice_index_or, unwrap_or, IfSome, IsSome, IsTrue}
use Rattle.std.proofs.lemmas.List.{length-map}
use Rattle.std.proofs.lemmas.List.Sums.{sum_by-cons}
use Rattle.std.proofs.lemmas.Option.{same_Some, slice_get-get_or, slice_get_within}
use Rattle.wol_disk.specs.Disk.{Block, State}
use Rattle.wol_bay.specs.Bay.{BayState, Told}
use Rattle.wol_config.specs.declared.config.Config.{Config}
use Rattle.wol_config.specs.declared.config.VolumeConf.{VolumeConf}
use Rattle.wol_model.specs.Blocks.{Write, after}
use Rattle.wol_model.specs.History.{IsCut, worker, helper, keeper, writes, flight_of, in_flight}
use Rattle.wol_model.specs.Extents.{AreDistinct, covers_of}
use Rattle.wol_model.specs.Images.{Images, all_segments, recovered_from}
use Rattle.wol_model.specs.Index.{Listed}
use Rattle.wol_model.specs.Recovered.{extents_of}
use Rattle.wol_model.proofs.Overlay.{after_none}
use Rattle.wol_promise.specs.Manager.{Base}
use Rattle.wol_promise.specs.Policy.{PartName}
use Rattle.wol_promise.specs.Report.{logged_writes}
use Rattle.wol_promise.specs.Ruled.{Noted, entries_of, last_look}
use Rattle.turn_lock.specs.Histories.{Entry, own}
use Rattle.turn_lock.specs.LockIds.{LockId}
use Rattle.turn_lock.specs.Passes.{lock_id, pass_lock, pass_number, pass_mine}
use Rattle.manager.specs.Stands.{notes_of, takes_in}
use Rattle.manager.specs.declared.base.ManagerBase.{ManagerBase}
use Rattle.manager.specs.declared.station.Station.{Station}
use Rattle.manager.proofs.Lanes.{get_set, get_other}
use Rattle.spin_model.specs.Spindles.{SpindleView}
use Rattle.volume_images.specs.Left.{IsTold}
use Rattle.volume_images.specs.Volumes.{AreLeft, images_read, shape_in, shapes_of}
use Rattle.rack.specs.Closes.{AreLeftOfParts, AreListedOf, HasFaultyPart, IsClosedVolume, IsOnLogger, RecoversTo, part_named, recovered_out, segments_out}
use Rattle.request_turns.specs.Entries.{IsFlightAt}
use Rattle.rack.specs.Opens.{BeganWith, WereThere, HasFaulty}
use Rattle.rack.specs.Owners.{IsBegun, images_taken}
use Rattle.rack.specs.PoolUses.{ArePools, HadLogger, PassesEmpty, TakesFew}
use Rattle.rack.specs.Racks.{IsStation, IsUnused, base_of_station}
use Rattle.rack.specs.Rests.{IsImageOut, image_here}
use Rattle.rack_parts.specs.declared.rack.ImageRest.{ImageRest}
use Rattle.rack_parts.specs.declared.rack.Rack.{Rack}
use Rattle.rack.proofs.LoggersNamed.{names_logger}
use Rattle.rack.proofs.Places.{some_at}
use Rattle.rack.proofs.ViewsLeft.{front_left}
use Rattle.rack_parts.proofs.Members.{of_map}
use Rattle.std.proofs.lemmas.List.Elements.{All-contains}
use Rattle.rack.specs.Sessions.{LeavesRecords, OpensAndCloses}
use Rattle.rack.proofs.RacksAgain.{began_again, closable_again, numbers_again, rest_again}
use Rattle.rack.proofs.Since.{all_at, rose_before, unmapped}
use Rattle.rack.specs.NotOpened.{first_closed}
use Rattle.rack.proofs.FirstClosed.{none_closed}
use Rattle.rack.proofs.OpenedKept.{opened_out}
use Rattle.inspection.proofs.Unhelped.{none_before}
use Rattle.inspection.specs.Logs.{LeavesDistinct, LeavesLogs, LeavesOnLoggers}
use Rattle.rack.proofs.AllOut.{accepted_all, recovered_all, taken_all}
use Rattle.nbd_session.specs.Sessions.{IsSession}
use Rattle.nbd_session.specs.declared.session.Ended.{Ended}
use Rattle.nbd_session.specs.declared.session.NbdFault.{NbdFault}
use Rattle.nbd_session.proofs.Along.{session_along, session_keeps}
use Rattle.nbd_serving.specs.Pieces.{pieces_of}
use Rattle.nbd_serving.specs.Turns.{MakesTurn}
use Rattle.nbd_serving.proofs.Alone.{AreOf, all_of, own_all}
use Rattle.nbd_serving.proofs.Law.{IsWorkerOf}
use Rattle.nbd_serving.specs.Entries.{AddsEntry}
use Rattle.nbd_serving.proofs.Entries.{adds, noted}
use Rattle.nbd_serving.proofs.Flights.{IsOnWay, none_on_way, on_way_more}
use Rattle.nbd_serving.specs.Racks.{ServesStation}
use Rattle.nbd_serving.specs.Runs.{LeavesOthers, LeavesServed, OnlyTakes, ServesOpen}
use Rattle.nbd_serving.specs.Volumes.{AreKept, IsKept, IsOpen}
use Rattle.nbd_serving.specs.Wires.{Wire}
use Rattle.nbd_serving.proofs.Recovered.{cut_pieces}
use Rattle.wol_config.specs.Configs.{most_of}

-- a pass that is neither the worker's nor another of a station
third : (P : ℕ → Type 0) → P helper → P keeper → ((n : ℕ) → n ≢ worker → n ≢ helper → n ≢ keeper → P n) → (n : ℕ) → n ≢ worker → P n
third P h k more zero other = absurd (other refl)
third P h k more (suc zero) other = h
third P h k more (suc (suc zero)) other = k
third P h k more (suc (suc (suc n))) other = more (suc (suc (suc n))) other (λ is. omega (arith, is)) (λ is. omega (arith, is))

here_is : {X : Type 0} (o : Option X) → IsSome o → (x : X) × (o ≡ Some x)
here_is None is = absurd (let no : false ≡ true = is in cc)
here_is (Some x) is = (x, refl)

-- a part of a sum is no larger
part_le : {X : Type 0} (f : X → ℕ) (xs : List X) (x : X) → Contains xs x → f x ≤ sum_by f xs
part_le f [] x (k, less, at) = absurd (omega (arith, less))
part_le {X} f (y ∷ ys) x (zero, less, at) = let s = sum_by-cons f y ys in subst (λ (z : X). f z ≤ sum_by f (y ∷ ys)) at (omega (arith, s))
part_le f (y ∷ ys) x (suc k, less, at) = let s = sum_by-cons f y ys in let rest = part_le f ys x (k, omega (arith, less), at) in omega (arith, s, rest)

-- a number that is 0 where it isn't
zero_by : (n : ℕ) → ((n ≡ 0 → ⊥) → n ≡ 0) → n ≡ 0
zero_by zero by = refl
zero_by (suc n) by = by (λ is. omega (arith, is))

flight_some : (o : Option (List Write)) → IsSome o → o ≡ None → ⊥
flight_some None is none = absurd (let no : false ≡ true = is in cc)
flight_some (Some ws) is none = absurd (let no : Some ws ≡ None = none in cc)

-- what holds of each closed volume by its entries, holds of the one at a place
passing : {D : Type 0} (tells : Bool) (config : Config) (out : List (Option (ImageRest D))) (old new : BayState) (P : Base → List Noted → Type 0) (ss : List (Station D)) (all : All (IsClosedVolume tells config out old new) ss)
    → ((n : ℕ) (d : Station D) (within : n < length ss) → P (base_of_station (slice_index_or ss n d)).volume.began (notes_of (all n d within).entries))
    → (place : ℕ) (w : Station D) → slice_get ss place ≡ Some w → (c : IsClosedVolume tells config out old new w) × P (base_of_station w).volume.began (notes_of c.entries)
passing tells config out old new P [] all each place w here = absurd (let no : None ≡ Some w = here in cc)
passing {D} tells config out old new P (s ∷ ss) all each zero w here =
    let same : s ≡ w = same_Some s w here in
    subst (λ (x : Station D). (c : IsClosedVolume tells config out old new x) × P (base_of_station x).volume.began (notes_of c.entries)) same (all 0 s (omega arith), each 0 s _)
passing tells config out old new P (s ∷ ss) all each (suc place) w here = passing tells config out old new P ss (λ k d lt. all (suc k) d (omega (arith, lt))) (λ n d within. each (suc n) d _) place w here

module _ {D : Type 0} (tells : Bool) (state : D → State) (config : Config) (did : Rack D → Rack D → Type 0) (old new : BayState) (spindles : List SpindleView) (session : OpensAndCloses tells state config did old new spindles)
    (all_open : first_closed 0 session.before.faults.items ≡ None) where
  abbrev before : Rack D
  before = session.before

  abbrev after_ : Rack D
  after_ = session.after

  -- ---- Images

  shapes_count : length (shapes_of config) ≡ length config.volumes.items
  shapes_count = length-map config.volumes.items (shape_in config)

  none_at : (k : ℕ) → k < length (shapes_of config) → slice_index_or before.faults.items k None ≡ None
  none_at k lt = none_closed 0 before.faults.items all_open k

  outs : (k : ℕ) → k < length (shapes_of config) → IsImageOut before.rest.images.items k
  outs k lt = opened_out state config session.bay before session.opened.rack k lt (none_at k lt)

  same_images : after_.rest.images.items ≡ before.rest.images.items
  same_images = ap (λ (r : Rattle.rack_parts.specs.declared.rack.Rest.Rest D). r.images.items) (rest_again state config before after_ session.again)

  outs_after : (k : ℕ) → k < length (shapes_of config) → IsImageOut after_.rest.images.items k
  outs_after k lt = subst (λ (images : List (Option (ImageRest D))). IsImageOut images k) (sym same_images) (outs k lt)

  -- ---- A station that was closed

  abbrev pools : (k : ℕ) → List Entry
  pools = session.closed.pools.pools

  -- how it used the pools
  record UsesPools (b : Base) (ns : List Noted) : Type 0 where
    passed : PassesEmpty pools b ns
    taken : TakesFew pools b ns

  both_at : (w : Station D) (place : ℕ) → slice_get after_.stations.items place ≡ Some w → (c : IsClosedVolume tells config after_.rest.images.items session.bay new w) × UsesPools (base_of_station w).volume.began (notes_of c.entries)
  both_at w place there =
      passing tells config after_.rest.images.items session.bay new UsesPools after_.stations.items session.closed.stations (λ n d within. record { passed = session.closed.pools.passed n d within; taken = session.closed.pools.taken n d within }) place w there

  pub closed_at : (w : Station D) (place : ℕ) → slice_get after_.stations.items place ≡ Some w → IsClosedVolume tells config after_.rest.images.items session.bay new w
  closed_at w place there = (both_at w place there).0

  used_at : (w : Station D) (place : ℕ) (there : slice_get after_.stations.items place ≡ Some w) → UsesPools (base_of_station w).volume.began (notes_of (closed_at w place there).entries)
  unfolding closed_at
  used_at w place there = (both_at w place there).1

  -- what opening and closing say of images at entry and of what is left
  record Leaves (entry mid : Told) : Type 0 where
    began : BeganWith state config entry before
    were : WereThere config before.rest.images.items entry
    parts : AreLeftOfParts state config after_ mid
    recovers : (w : Station D) (place : ℕ) (there : slice_get after_.stations.items place ≡ Some w) → RecoversTo config after_.rest.images.items w (closed_at w place there).entries mid

  -- it is told of the bay
  through : (P : Told → Told → Type 0) → ((entry mid : Told) → Leaves entry mid → P entry mid) → IsTrue tells → IsTold P old.told new.told
  through P f telling =
      go old.told session.bay.told new.told (session.opened.began telling) (session.opened.there telling) session.opened.faulty (session.closed.parts telling) (λ w place there. (closed_at w place there).recovers telling)
    where
      go : (o b n : Option Told) → IfSome o (λ x. BeganWith state config x before) → IfSome o (λ x. WereThere config before.rest.images.items x) → IsTold HasFaulty o b
          → IsTold (λ x y. AreLeftOfParts state config after_ y) b n
          → ((w : Station D) (place : ℕ) (there : slice_get after_.stations.items place ≡ Some w) → IsTold (λ x y. RecoversTo config after_.rest.images.items w (closed_at w place there).entries y) b n) → IsTold P o n
      go None None n began were had parts recovers = parts
      go None (Some b) n began were had parts recovers = absurd (cc had)
      go (Some o) None n began were had parts recovers = absurd had
      go (Some o) (Some b) None began were had parts recovers = absurd parts
      go (Some o) (Some b) (Some n) began were had parts recovers = f o n (record { began = began; were = were; parts = parts; recovers = recovers })

  -- a volume whose view names a logger had it in its view
  logger_had : (entry mid : Told) → Leaves entry mid → (n k : ℕ) → n < length config.volumes.items → Contains (session.users.0 n) k → HadLogger config entry n k
  logger_had entry mid is n k less names =
      let lt : n < length (shapes_of config) = omega (arith, less, shapes_count) in
      let (v, conf) = some_at config.volumes.items n less in
      let same = numbers_again before.stations.items after_.stations.items session.again.stations in
      let (s, has, id) = of_map (λ (x : Station D). x.id) after_.stations.items n (subst (λ (ns : List ℕ). Contains ns n) (sym same) ((session.opened.rack.faults n lt).0 (none_at n lt))) in
      let closable = closable_again state config before after_ session.again session.bay session.opened.rack in
      let station : IsStation s = All-contains IsStation after_.stations.items s closable.stations has in
      let begun = subst (λ (l : Images). IsBegun config l (base_of_station s).volume.began) (taken_all config after_.rest.images.items outs_after entry)
      (All-contains (λ (x : Station D). IsBegun config (images_taken config after_.rest.images.items entry) (base_of_station x).volume.began) after_.stations.items s (began_again state config before after_ session.again entry is.began).stations has) in
      let view = All-contains (λ (x : Station D). session.users.0 x.id ≡ (base_of_station x).volume.began.view) after_.stations.items s session.users.1.opened has in
      names_logger config entry n k v conf (is.were n v conf (outs n lt)) (base_of_station s).volume.began (station.id ∙ id) begun (subst (λ (ids : List ℕ). Contains ids k) (ap session.users.0 (sym id) ∙ view) names)

  -- the pools of free segments began as the images had them
  pools_at : (entry mid : Told) → Leaves entry mid → ArePools config entry pools
  pools_at entry mid is k v conf =
      let less = slice_get_within config.volumes.items k v conf in
      let within : k < length (shapes_of config) = omega (arith, less, shapes_count) in
      let (l, lock) = some_at before.shared.pools.items k (omega (arith, within, session.opened.rack.locks.pool_count)) in
      let (image, here) = here_is (image_here before.rest.images.items k) (outs k within) in
      record {
        holders = (lock_id l).base.holders;
        had = is.began.pools k v l image conf lock here;
        legal = session.closed.pools.legal k l (ap (λ (r : Rack D). slice_get r.shared.pools.items k) session.again.only ∙ lock);
        users = λ n never. session.closed.pools.users k l (ap (λ (r : Rack D). slice_get r.shared.pools.items k) session.again.only ∙ lock) session.users.0 session.users.1 n
            (λ used. never (logger_had entry mid is n k used.0 used.1));
      }

  module _ (u : Station D) (place : ℕ) (was : slice_get before.stations.items place ≡ Some u) where
    station : IsStation u
    station = all_at IsStation before.stations.items place u session.opened.rack.stations was

    unused : IsUnused u.worker × IsUnused u.helper × IsUnused u.keeper
    unused = all_at (λ (x : Station D). IsUnused x.worker × IsUnused x.helper × IsUnused x.keeper) before.stations.items place u session.opened.fresh was

    begun : (entry : Told) → BeganWith state config entry before → IsBegun config (images_read config entry) (base_of_station u).volume.began
    begun entry is = subst (λ (l : Images). IsBegun config l (base_of_station u).volume.began) (taken_all config before.rest.images.items outs entry)
        (all_at (λ (x : Station D). IsBegun config (images_taken config before.rest.images.items entry) (base_of_station x).volume.began) before.stations.items place u is.stations was)

    -- its volume was open
    open_at : (entry mid : Told) → Leaves entry mid → (v : VolumeConf) → slice_get config.volumes.items u.id ≡ Some v → u.id < length (shapes_of config) → IsOpen config u.id v (base_of_station u).volume.began entry mid
    open_at entry mid is v conf lt = record { accepted_ = is.were u.id v conf (outs u.id lt); begun = begun entry is.began; front = front_left state config before after_ (rest_again state config before after_ session.again) entry mid is.began is.were is.parts u.id v conf (outs u.id lt) }

    module _ (w : Station D) (there : slice_get after_.stations.items place ≡ Some w) (lock_is : w.lock ≡ u.lock) (id_is : w.id ≡ u.id) where
      abbrev ends : IsClosedVolume tells config after_.rest.images.items session.bay new w
      ends = closed_at w place there

      base_is : base_of_station w ≡ base_of_station u
      base_is = ap (λ (l : Rattle.turn_lock.specs.declared.lock.TurnLock.TurnLock (Rattle.manager.specs.declared.manager.Manager.Manager D) ManagerBase). (lock_id l).base) lock_is

      -- what it began with is what the images at entry recover to
      array_is : (entry : Told) → BeganWith state config entry before → (base_of_station w).volume.began.array ≡ recovered_from (shapes_of config) (images_read config entry) u.id
      array_is entry is = ap (λ (b : ManagerBase). b.volume.began.array) base_is ∙ (begun entry is).array ∙ ap (recovered_from (shapes_of config) (images_read config entry)) station.id

      -- and what is left is a cut of it
      cut_at : (entry mid : Told) → Leaves entry mid → (images : Images) → AreLeft config mid images
          → IsCut (recovered_from (shapes_of config) (images_read config entry) u.id) (writes (entries_of (notes_of ends.entries))) (unwrap_or (flight_of (entries_of (notes_of ends.entries))) []) (recovered_from (shapes_of config) images u.id)
      cut_at entry mid is images left =
          let ws : List Write = writes (entries_of (notes_of ends.entries)) in
          let fl : List Write = unwrap_or (flight_of (entries_of (notes_of ends.entries))) [] in
          let same : recovered_out config after_.rest.images.items images w.id ≡ recovered_from (shapes_of config) images u.id =
          recovered_all config after_.rest.images.items outs_after images left.count w.id ∙ ap (recovered_from (shapes_of config) images) id_is in
          subst (λ (a : List Block). IsCut a ws fl (recovered_from (shapes_of config) images u.id)) (array_is entry is.began)
          (subst (λ (x : List Block). IsCut (base_of_station w).volume.began.array ws fl x) same ((is.recovers w place there).cut images left))

      -- no two of its records have one version
      distinct_at : (entry mid : Told) → Leaves entry mid → LeavesDistinct config u.id mid
      distinct_at entry mid is images left =
          subst (λ (is : Images). AreDistinct (covers_of (extents_of u.id (all_segments (shapes_of config) is)))) (accepted_all config after_.rest.images.items outs_after images left.count)
          (subst (λ (n : ℕ). AreDistinct (covers_of (extents_of n (segments_out config after_.rest.images.items images)))) id_is
          ((is.recovers w place there).distinct images left))

      -- where no call failed, they are those of the last look
      records_at : (entry mid : Told) → Leaves entry mid → flight_of (entries_of (notes_of ends.entries)) ≡ None → LeavesRecords config u.id (last_look (base_of_station u).volume.began.look (notes_of ends.entries)).listed mid
      records_at entry mid is calm images left =
          subst (λ (is : Images). AreListedOf (last_look (base_of_station u).volume.began.look (notes_of ends.entries)).listed (extents_of u.id (all_segments (shapes_of config) is))) (accepted_all config after_.rest.images.items outs_after images left.count)
          (subst (λ (n : ℕ). AreListedOf (last_look (base_of_station u).volume.began.look (notes_of ends.entries)).listed (extents_of n (segments_out config after_.rest.images.items images))) id_is
          (subst (λ (b : ManagerBase). AreListedOf (last_look b.volume.began.look (notes_of ends.entries)).listed (extents_of w.id (segments_out config after_.rest.images.items images))) base_is
          ((is.recovers w place there).listed images left calm)))

      -- .. on the loggers of its view
      on_loggers_at : (entry mid : Told) → Leaves entry mid → flight_of (entries_of (notes_of ends.entries)) ≡ None
          → LeavesOnLoggers config u.id (base_of_station u).volume.began.view (last_look (base_of_station u).volume.began.look (notes_of ends.entries)).listed mid
      on_loggers_at entry mid is calm images left =
          subst (λ (n : ℕ). (e : Listed) → Contains (last_look (base_of_station u).volume.began.look (notes_of ends.entries)).listed e → IsOnLogger (shapes_of config) images n (base_of_station u).volume.began.view e) id_is
          (subst (λ (b : ManagerBase). (e : Listed) → Contains (last_look b.volume.began.look (notes_of ends.entries)).listed e → IsOnLogger (shapes_of config) images w.id b.volume.began.view e) base_is
          (λ e among. (is.recovers w place there).on_loggers images left calm e among))

      logs_at : (entry mid : Told) → Leaves entry mid → flight_of (entries_of (notes_of ends.entries)) ≡ None
          → LeavesLogs config u.id (base_of_station u).volume.began.view (last_look (base_of_station u).volume.began.look (notes_of ends.entries)).listed mid
      logs_at entry mid is calm = record { records = records_at entry mid is calm; distinct = distinct_at entry mid is; on_loggers = on_loggers_at entry mid is calm }

    -- ---- A volume that nobody used

    module _ (there : slice_get after_.stations.items place ≡ Some u) where
      abbrev closed_same : IsClosedVolume tells config after_.rest.images.items session.bay new u
      closed_same = ends u there refl refl

      helped_none : own helper closed_same.entries ≡ []
      helped_none = subst (λ (n : ℕ). own n closed_same.entries ≡ []) station.helper_.number_is (closed_same.helper_part.mine ∙ unused.1.mine)

      kept_none : own keeper closed_same.entries ≡ []
      kept_none = subst (λ (n : ℕ). own n closed_same.entries ≡ []) station.keeper_.number_is (closed_same.keeper_part.mine ∙ unused.2.mine)

      worked_none : own worker closed_same.entries ≡ []
      worked_none = subst (λ (n : ℕ). own n closed_same.entries ≡ []) station.worker_.number_is (closed_same.worker_part.mine ∙ unused.0.mine)

      no_entries : closed_same.entries ≡ []
      no_entries = none_before closed_same.entries closed_same.entries ([], append-nil closed_same.entries) worked_none helped_none kept_none closed_same.no_more

      unbroken : flight_of (entries_of (notes_of closed_same.entries)) ≡ None
      unbroken = ap (λ (es : List Entry). flight_of (entries_of (notes_of es))) no_entries

      -- and took no segment
      none_taken : (k : ℕ) → Contains (session.users.0 u.id) k → takes_in (own u.id (pools k)) ≡ 0
      none_taken k names =
          let few = (used_at u place there).taken unbroken in
          let none : logged_writes (notes_of closed_same.entries) ≡ 0 = ap (λ (es : List Entry). logged_writes (notes_of es)) no_entries in
          let view = all_at (λ (x : Station D). session.users.0 x.id ≡ (base_of_station x).volume.began.view) after_.stations.items place u session.users.1.opened there in
          let part = part_le (λ (logger : ℕ). takes_in (own (base_of_station u).volume.began.owner (pools logger))) (base_of_station u).volume.began.view k (subst (λ (ids : List ℕ). Contains ids k) view names) in
          subst (λ (n : ℕ). takes_in (own n (pools k)) ≡ 0) station.id (omega (arith, few, none, part))

      -- it recovers to what it did
      same_array : (entry mid : Told) → Leaves entry mid → (images : Images) → AreLeft config mid images → recovered_from (shapes_of config) images u.id ≡ recovered_from (shapes_of config) (images_read config entry) u.id
      same_array entry mid is images left =
          sym (recovered_all config after_.rest.images.items outs_after images left.count u.id)
          ∙ (is.recovers u place there).whole images left unbroken
          ∙ ap (λ (es : List Entry). after (base_of_station u).volume.began.array (writes (entries_of (notes_of es)))) no_entries
          ∙ after_none (base_of_station u).volume.began.array
          ∙ array_is u there refl refl entry is.began

      -- and has its logs
      same_logs : (entry mid : Told) → Leaves entry mid → LeavesLogs config u.id (base_of_station u).volume.began.view (base_of_station u).volume.began.look.listed mid
      same_logs entry mid is =
          subst (λ (es : List Entry). LeavesLogs config u.id (base_of_station u).volume.began.view (last_look (base_of_station u).volume.began.look (notes_of es)).listed mid) no_entries
          (logs_at u there refl refl entry mid is unbroken)

      kept_at : (entry mid : Told) → Leaves entry mid → u.id < length (shapes_of config) → IsKept config u.id entry mid
      kept_at entry mid is lt =
          let (v, conf) = some_at config.volumes.items u.id (omega (arith, lt, shapes_count)) in record {
            conf = v;
            conf_is = conf;
            base = (base_of_station u).volume.began;
            owner = station.id;
            open_ = open_at entry mid is v conf lt;
            array = same_array entry mid is;
            logs = same_logs entry mid is;
          }

  -- each volume has a station
  station_of : (k : ℕ) → k < length (shapes_of config) → (at : ℕ) × (u : Station D) × (slice_get before.stations.items at ≡ Some u) × (u.id ≡ k)
  station_of k lt =
      let (at, less, id) = (session.opened.rack.faults k lt).0 (none_at k lt) in
      let (u, there, same) = unmapped (λ (x : Station D). x.id) before.stations.items at k (slice_get-get_or (map (λ (x : Station D). x.id) before.stations.items) at k less ∙ ap (λ (n : ℕ). Some n) id) in
      (at, u, there, same)

  -- a volume whose station is as it was is kept
  volume_kept : (entry mid : Told) → Leaves entry mid → (v : ℕ) → v < length config.volumes.items → ((at : ℕ) (u : Station D) → slice_get before.stations.items at ≡ Some u → u.id ≡ v → slice_get after_.stations.items at ≡ Some u) → IsKept config v entry mid
  volume_kept entry mid is v lt still =
      let within : v < length (shapes_of config) = omega (arith, lt, shapes_count) in
      let (at, u, was, same) = station_of v within in
      subst (λ (n : ℕ). IsKept config n entry mid) same (kept_at u at was (still at u was same) entry mid is (omega (arith, within, same)))

  -- where nothing was done with the rack, all are
  pub all_kept : after_ ≡ before → IsTrue tells → IsTold (AreKept config) old.told new.told
  all_kept same = through (AreKept config) (λ entry mid is v lt. volume_kept entry mid is v lt (λ at u was id. ap (λ (r : Rack D). slice_get r.stations.items at) same ∙ was))

  -- ---- The volume that was served

  module _ (volume : ℕ) (wire wire' : Wire) (answer : Result Ended NbdFault) (serves : ServesStation tells config session.before session.after volume wire wire' answer) where
    abbrev s : Station D
    s = serves.station

    abbrev t : Station D
    t = record s { worker = serves.pass }

    there_now : slice_get after_.stations.items serves.place ≡ Some t
    there_now = ap (λ (us : List (Station D)). slice_get us serves.place) serves.stations ∙ get_set before.stations.items serves.place s t serves.is_station.there

    abbrev closed : IsClosedVolume tells config after_.rest.images.items session.bay new t
    closed = ends s serves.place serves.is_station.there t there_now refl refl

    abbrev es : List Entry
    es = closed.entries

    is_station : IsStation s
    is_station = station s serves.place serves.is_station.there

    fresh : IsUnused s.worker × IsUnused s.helper × IsUnused s.keeper
    fresh = unused s serves.place serves.is_station.there

    abbrev lock : LockId ManagerBase
    lock = lock_id s.lock

    number_is : pass_number serves.pass ≡ worker
    number_is = serves.same.1 ∙ is_station.worker_.number_is

    lock_is : pass_lock serves.pass ≡ lock
    lock_is = serves.same.0 ∙ is_station.worker_.own

    alone : AreOf worker es
    alone = all_of worker es (third (λ (n : ℕ). own n es ≡ [])
        (subst (λ (n : ℕ). own n es ≡ []) is_station.helper_.number_is (closed.helper_part.mine ∙ fresh.1.mine))
        (subst (λ (n : ℕ). own n es ≡ []) is_station.keeper_.number_is (closed.keeper_part.mine ∙ fresh.2.mine))
        closed.no_more)

    fits : IsWorkerOf lock es serves.pass
    fits = record { own_lock = lock_is; number = number_is; begins = closed.worker_part.seen }

    -- all entries of the volume are those of the session
    entries_are : es ≡ pass_mine serves.pass
    entries_are = sym (own_all worker es alone) ∙ ap (λ (n : ℕ). own n es) (sym number_is) ∙ closed.worker_part.mine

    abbrev base : Base
    base = (base_of_station s).volume.began

    abbrev notes : List Noted
    notes = notes_of es

    session_is : IsSession (AddsEntry (IsTrue tells) base) serves.conf.home (most_of config) [] notes wire.left wire'.left wire.taken wire'.taken answer
    session_is =
        subst (λ (ns : List Noted). IsSession (AddsEntry (IsTrue tells) base) serves.conf.home (most_of config) [] ns wire.left wire'.left wire.taken wire'.taken answer) (ap notes_of (sym entries_are))
        (subst (λ (ns : List Noted). IsSession (AddsEntry (IsTrue tells) base) serves.conf.home (most_of config) ns (noted serves.pass) wire.left wire'.left wire.taken wire'.taken answer) (ap notes_of fresh.0.mine)
        (session_along (MakesTurn tells) (AddsEntry (IsTrue tells) base) noted (IsWorkerOf lock es) (adds tells lock es alone) serves.conf.home (most_of config) s.worker serves.pass wire.left wire'.left wire.taken wire'.taken answer serves.session fits).1)

    -- what was in flight was on its way to the part that is down in the end
    on_way : IsOnWay base notes
    on_way = session_keeps (AddsEntry (IsTrue tells) base) serves.conf.home (most_of config) (λ xs ys. IsOnWay base xs → IsOnWay base ys) (λ xs is. is) (λ xs ys zs first second is. second (first is)) (on_way_more (IsTrue tells) base)
        [] notes wire.left wire'.left wire.taken wire'.taken answer session_is (none_on_way base)

    way_to : IsSome (flight_of (entries_of notes)) → (name : PartName) → (last_look base.look notes).down ≡ Some name → IsFlightAt (part_named volume name) (in_flight (entries_of notes))
    way_to broken name down =
        let (was, is, way) = on_way broken in
        subst (λ (x : PartName). IsFlightAt (part_named volume x) (in_flight (entries_of notes))) (same_Some was name (sym is ∙ down))
        (subst (λ (v : ℕ). IsFlightAt (part_named v was) (in_flight (entries_of notes))) (is_station.id ∙ serves.is_station.id) way)

    served_left : (entry mid : Told) → Leaves entry mid → LeavesServed config volume (pieces_of base.look notes) entry mid
    served_left entry mid is images left =
        subst (λ (v : ℕ). IsCut (recovered_from (shapes_of config) (images_read config entry) v) (pieces_of base.look notes).stand (unwrap_or (pieces_of base.look notes).flight []) (recovered_from (shapes_of config) images v)) serves.is_station.id
        (cut_pieces base.look notes (recovered_from (shapes_of config) (images_read config entry) s.id) (recovered_from (shapes_of config) images s.id)
        (cut_at s serves.place serves.is_station.there t there_now refl refl entry mid is images left))

    distinct_served : (entry mid : Told) → Leaves entry mid → LeavesDistinct config volume mid
    distinct_served entry mid is =
        subst (λ (v : ℕ). LeavesDistinct config v mid) serves.is_station.id (distinct_at s serves.place serves.is_station.there t there_now refl refl entry mid is)

    logs_served : flight_of (entries_of notes) ≡ None → (entry mid : Told) → Leaves entry mid → LeavesLogs config volume base.view (last_look base.look notes).listed mid
    logs_served calm entry mid is =
        subst (λ (v : ℕ). LeavesLogs config v base.view (last_look base.look notes).listed mid) serves.is_station.id
        (logs_at s serves.place serves.is_station.there t there_now refl refl entry mid is calm)

    open_served : (entry mid : Told) → Leaves entry mid → IsOpen config volume serves.conf base entry mid
    open_served entry mid is =
        let conf : slice_get config.volumes.items s.id ≡ Some serves.conf = ap (slice_get config.volumes.items) serves.is_station.id ∙ serves.conf_is in
        let within = slice_get_within config.volumes.items s.id serves.conf conf in
        subst (λ (v : ℕ). IsOpen config v serves.conf base entry mid) serves.is_station.id
        (open_at s serves.place serves.is_station.there entry mid is serves.conf conf (omega (arith, within, shapes_count)))

    -- the stations of other volumes are as they were
    still : (v : ℕ) → v ≢ volume → (at : ℕ) (u : Station D) → slice_get before.stations.items at ≡ Some u → u.id ≡ v → slice_get after_.stations.items at ≡ Some u
    still v other at u was same = ap (λ (us : List (Station D)). slice_get us at) serves.stations ∙ get_other before.stations.items serves.place at t elsewhere ∙ was
      where
        elsewhere : at ≡ serves.place → ⊥
        elsewhere here =
            let u_is : u ≡ s = same_Some u s (sym was ∙ ap (slice_get before.stations.items) here ∙ serves.is_station.there) in
            other (sym same ∙ ap (λ (x : Station D). x.id) u_is ∙ serves.is_station.id)

    others_left : (entry mid : Told) → Leaves entry mid → LeavesOthers config volume entry mid
    others_left entry mid is v lt other = volume_kept entry mid is v lt (still v other)

    -- so none of them took a segment
    only_takes : OnlyTakes config volume pools
    only_takes k v lt other =
        let (l, lock) = some_at before.shared.pools.items k (omega (arith, lt, shapes_count, session.opened.rack.locks.pool_count)) in
        zero_by (takes_in (own v (pools k))) (λ never. ap takes_in
        (session.closed.pools.users k l (ap (λ (r : Rack D). slice_get r.shared.pools.items k) session.again.only ∙ lock) session.users.0 session.users.1 v
        (λ used. never (of_view used.0 used.1))))
      where
        of_view : v < length config.volumes.items → Contains (session.users.0 v) k → takes_in (own v (pools k)) ≡ 0
        of_view less names =
            let (at, u, was, same) = station_of v (omega (arith, less, shapes_count)) in
            subst (λ (n : ℕ). takes_in (own n (pools k)) ≡ 0) same
            (none_taken u at was (still v other at u was same) k (subst (λ (n : ℕ). Contains (session.users.0 n) k) (sym same) names))

    pub serves_open : ServesOpen tells config volume old new wire wire' answer
    serves_open = record {
      conf = serves.conf;
      conf_is = serves.conf_is;
      base = base;
      owner = is_station.id ∙ serves.is_station.id;
      open_ = through (IsOpen config volume serves.conf base) open_served;
      opening = closed.opening;
      notes = notes;
      session = session_is;
      faults = serves.faults;
      pools = pools;
      are_pools = through (λ entry left. ArePools config entry pools) pools_at;
      passed = (used_at t serves.place there_now).passed;
      taken = (used_at t serves.place there_now).taken;
      alone = only_takes;
      cause = λ broken. rose_before old.faults session.bay.faults new.faults session.sooner (closed.cause (flight_some (flight_of (entries_of notes)) broken));
      faulty = λ broken. (
          let (part, down, told) = closed.faulty (flight_some (flight_of (entries_of notes)) broken) in (
            part,
            down,
            way_to broken part down,
            faulty_since tells config volume base.view part old.told session.bay.told new.told session.opened.faulty
                (subst (λ (n : ℕ). IsTold (HasFaultyPart tells config n base.view part) session.bay.told new.told) serves.is_station.id told),
          )
          );
      images = through (LeavesServed config volume (pieces_of base.look notes)) served_left;
      distinct = through (λ entry left. LeavesDistinct config volume left) distinct_served;
      logs = λ telling calm. through (λ entry left. LeavesLogs config volume base.view (last_look base.look notes).listed left) (logs_served calm) telling;
      others = through (LeavesOthers config volume) others_left;
    }
