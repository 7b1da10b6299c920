use Rattle.rack.proofs.ClosingBasics.{◌≡◌, ◌≢◌, ◌≤◌, ⊎_elim, ℕ, Option, false, length, sym, ap, ◌∙◌, subst, arith, AllByRecursion, same_Some, slice_get_within, slice_get}
use Rattle.rack.proofs.ClosingTerms.{Told, PassOf, Spindle, SpindleBase, shapes_of, Rose, GivesBack, HasFaultHere, LeavesNoneOut, pass_number, lock_id, AreComplete, AreImageRests, IsImageOut, AreLeftOfParts, LeavesOpen, HadRefused, KeepsAllSound, IsTold}
use Rattle.std.specs.Prelude.{reverse}
use Rattle.std.proofs.lemmas.List.{length-reverse}
use Rattle.wol_bay.specs.Bay.{outs}
use Rattle.turn_lock.specs.Histories.{own}
use Rattle.turn_lock.specs.Passes.{IsPartOf}
use Rattle.spin_model.specs.Operations.{has_token}
use Rattle.spin_model.specs.Spindles.{StandsFor}
use Rattle.rack_parts.specs.Closing.{IsAccessBut, entries_made}
use Rattle.rack_parts.proofs.Members.{element_at, all_member}
use Rattle.rack.specs.Closes.{LeavesVolumes, LeavesUnopened, ListsFaulty, MadeByManager}
use Rattle.rack.specs.Opens.{KeepsOthers}
use Rattle.rack.proofs.Closable.{stations_may, pools_may, spindles_may}
use Rattle.rack.proofs.StationParts.{IsEnding, ending_of, lists_ended, none_out, few, out_there, rests_end, whole_end}
use Rattle.rack.proofs.VolumesClosed.{made_by_manager, none_made, spindle_stays, volumes_closed, told_end}
use Rattle.rack.proofs.LeftVolumes.{fault_through, listed_through, left_kept, left_parts, over, closed_recovers, station_opened, volume_recovers}
use Rattle.rack.proofs.FinalImages.{left_quiet}
use Rattle.rack.proofs.KeptLogs.{logs_closed, unopened_closed}
use Rattle.rack.proofs.SoundClosed.{left_sound}
use Rattle.rack.proofs.BayRuns.{rack_run}
use Rattle.rack.specs.Closes.{AreClosedVolumes}
use Rattle.std.specs.Prelude.{IsTrue}
use Rattle.rack.proofs.closing.close_all.Goals as goal

pub close_stations-requires : goal.close_stations-requires
close_stations-requires g c = (c.args.config.now, c.args.rack.shared, stations_may c.requires.rack)

pub close_pools-requires : goal.close_pools-requires
close_pools-requires g c = (c.args.config.now, pools_may c.requires.rack.locks (c.close_stations.ensures.rest c.args.config.now c.args.rack.shared (stations_may c.requires.rack)))

pub close_spindles-requires-clause-locks : goal.close_spindles-requires-clause-locks
close_spindles-requires-clause-locks g c = spindles_may c.requires.rack.locks (c.close_stations.ensures.rest c.args.config.now c.args.rack.shared (stations_may c.requires.rack)) c.args.rack.keepers.items c.close_pools.new.self c.requires.rack.keepers
    (c.close_stations.ensures.accesses c.args.config.now c.args.rack.shared (stations_may c.requires.rack)) c.close_pools.ensures.spindles c.close_pools.ensures.rooms

pub close_spindles-requires-clause-empty : goal.close_spindles-requires-clause-empty
close_spindles-requires-clause-empty g c = let is = c.close_stations.ensures.rest c.args.config.now c.args.rack.shared (stations_may c.requires.rack) in ap (λ r. r.closed.items) c.close_pools.ensures.rooms ∙ is.rooms.closed.0

pub end_passes-requires : goal.end_passes-requires
end_passes-requires g c =
    let is = c.close_stations.ensures.rest c.args.config.now c.args.rack.shared (stations_may c.requires.rack) in
    lists_ended (length (shapes_of c.args.config.now)) c.close_pools.new.self c.close_spindles.new.self (c.close_pools.ensures.spindles.count ∙ is.parts.count) (c.close_pools.ensures.spindles.rows (length (shapes_of c.args.config.now)) is.parts.rows) c.close_spindles.ensures.rows
    (λ v k below. c.close_pools.ensures.held v k (omega (arith, below, c.requires.rack.locks.pool_count)))

pub give_back-requires : goal.give_back-requires
give_back-requires g c =
    let e : IsEnding g.B.Part.Disk.state g.B.Part.Disk.tells c.args.config.now (g.B.Bay.state c.args.bay.now) c.args.rack c.close_stations.new.self c.close_pools.new.self = ending_of c.requires.config (λ told d. g.met.B.Part.Disk.told told d) g.met.B.Part.Disk.sound c.requires.rack (c.close_stations.ensures.rest c.args.config.now c.args.rack.shared)
    c.close_stations.ensures.closed c.close_pools.ensures.images c.close_pools.ensures.spindles in
    let images = sym c.close_spindles.ensures.images in
    record {
      config = c.requires.config;
      count = subst (λ v. length v.items ≤ length c.args.config.now.volumes.items) images (few e);
      images = (subst (λ v. AreImageRests g.B.Part.Disk.state c.args.config.now v.items) images (rests_end e)).1;
      whole = subst (λ v. AreComplete v.items) images (whole_end e);
      out = λ k v at out. out_there e k v at (subst (λ w. IsImageOut w.items k) c.close_spindles.ensures.images out);
    }

pub returns : goal.returns
returns g c =
    let e : IsEnding g.B.Part.Disk.state g.B.Part.Disk.tells c.args.config.now (g.B.Bay.state c.args.bay.now) c.args.rack c.close_stations.new.self c.close_pools.new.self = ending_of c.requires.config (λ told d. g.met.B.Part.Disk.told told d) g.met.B.Part.Disk.sound c.requires.rack (c.close_stations.ensures.rest c.args.config.now c.args.rack.shared)
    c.close_stations.ensures.closed c.close_pools.ensures.images c.close_pools.ensures.spindles in
    let state = g.B.Part.Disk.state in
    let config = c.args.config.now in
    let rack = c.args.rack in
    let old = g.B.Bay.state c.args.bay.now in
    let new = g.B.Bay.state c.give_back.new.bay in
    let images = c.close_spindles.ensures.images in
    let cause = subst (λ w. HasFaultHere state w.items 0 → Rose old.faults new.faults) images c.give_back.ensures.cause in
    let given : (R : Told → Told → Type 0) → ((o n : Told) → GivesBack state config c.close_pools.new.self.images.items 0 o n → R o n) → IsTold R old.told new.told
    = told_end state config c.close_pools.new.self c.close_spindles.new.self old.told new.told images c.give_back.ensures.back in
    let volumes : AreClosedVolumes g.B.Part.Disk.tells config old new rack = volumes_closed e c.close_pools.ensures.uses old new (given (GivesBack state config c.close_pools.new.self.images.items 0) (λ o n back. back)) cause in
    let parts : IsTrue g.B.Part.Disk.tells → IsTold (λ o n. AreLeftOfParts state config rack n) old.told new.told
    = λ told. given (λ o n. AreLeftOfParts state config rack n) (λ o n back images left k z m at here. left_parts (record { ending = e; told = told; given = back; left = left }) k z m at here) in
    let kept : IsTrue g.B.Part.Disk.tells → IsTold (HadRefused config rack.rest.images.items) old.told new.told = λ told. given (HadRefused config rack.rest.images.items) (left_kept e) in
    let others : IsTold (KeepsOthers config) old.told new.told = given (KeepsOthers config) (λ o n back name not. back.others name (λ k v le at there. not k v at)) in
    record {
      run = λ first in_. rack_run g.B.Part.Disk.tells state config first old new rack c.requires.config c.requires.rack in_ volumes.0 volumes.1 kept parts others c.give_back.ensures.counts;
      home = none_out e (outs old) (outs new) (subst (λ w. LeavesNoneOut config w.items (outs old) (outs new)) images c.give_back.ensures.home);
      count = let list : c.reverse.new.self.items ≡ reverse c.close_spindles.new.self.rooms.closed.items = c.reverse.ensures.items in
          let n = ap length list ∙ length-reverse c.close_spindles.new.self.rooms.closed.items in
          omega (arith, n, c.close_spindles.ensures.closed.count, c.requires.rack.locks.spindle_count);
      spindles = λ k s at.
          let list : c.reverse.new.self.items ≡ reverse c.close_spindles.new.self.rooms.closed.items = c.reverse.ensures.items in
          let below = slice_get_within c.reverse.new.self.items k s at in
          let n = ap length list ∙ length-reverse c.close_spindles.new.self.rooms.closed.items in
          let l = element_at c.args.rack.shared.spindles.items k (omega (arith, below, n, c.close_spindles.ensures.closed.count)) in
          let p = element_at c.args.rack.keepers.items k (omega (arith, below, n, c.close_spindles.ensures.closed.count, c.requires.rack.keepers.0, c.requires.rack.locks.spindle_count)) in
          let is = c.close_spindles.ensures.closed.each k l.0 p.0 s l.1 p.1 (sym (ap (λ xs. slice_get xs k) list) ∙ at) in
          record {
            entries = is.entries;
            stands = λ m there. subst (λ q. StandsFor s (lock_id q).base is.entries) (same_Some l.0 m (sym l.1 ∙ there)) is.stands;
            accesses = λ q there. subst (λ (x : PassOf Spindle SpindleBase). AllByRecursion (IsAccessBut (pass_number x)) is.entries) (same_Some p.0 q (sym p.1 ∙ there)) is.accesses;
            ended = λ q there. subst (λ (x : PassOf Spindle SpindleBase). (n : ℕ) → n ≢ pass_number x → has_token (own n is.entries) ≡ false)
                (same_Some p.0 q (sym p.1 ∙ there)) is.ended;
            users = λ q there views keep n differs other never.
                let same : p.0 ≡ q = same_Some p.0 q (sym p.1 ∙ there) in
                is.made n (λ e. differs (e ∙ ap (λ (x : PassOf Spindle SpindleBase). pass_number x) same))
                ∙ none_made views c.args.rack keep c.requires.rack.stations c.close_pools.new.self n k other never
                (λ away. c.close_pools.ensures.spindles.spindles n k ∙ c.close_stations.ensures.closed.spindles n k (λ has. ⊎_elim away (λ home. other home.0) has));
            made = λ n q here.
                let kept = spindle_stays e n k q (slice_get_within rack.shared.spindles.items k l.0 l.1) here in
                let keeper = (c.requires.rack.keepers.1 k l.0 p.0 l.1 p.1).number_is in
                is.made n (λ same. absurd (omega (arith, kept.0, keeper, same))) ∙ ap (λ (o : Option (PassOf Spindle SpindleBase)). entries_made o) kept.1;
            managed = all_member (λ t. MadeByManager t k is.entries) rack.stations.items
                (λ t has. made_by_manager e t has k is.entries (λ below.
                let keeper = (c.requires.rack.keepers.1 k l.0 p.0 l.1 p.1).number_is in
                is.made t.id (λ same. absurd (omega (arith, below, keeper, same)))));
            keeper_part = λ q there. subst (λ x. IsPartOf is.entries x) (same_Some p.0 q (sym p.1 ∙ there)) is.keeper_part;
          };
      stations = volumes;
      parts = parts;
      left = λ entry told began quiet. given (λ o n. LeavesOpen config rack entry n)
          (λ o n back images left. all_member (λ s. Rattle.rack.specs.Closes.recovered_out config rack.rest.images.items images s.id ≡ Rattle.rack.specs.Closes.recovered_out config rack.rest.images.items (Rattle.volume_images.specs.Volumes.images_read config entry) s.id) rack.stations.items
          (λ s has. left_quiet (record { ending = e; told = told; given = back; left = left }) entry began quiet s has));
      volumes = λ entry told began there quiet. given (λ o n. HadRefused config rack.rest.images.items entry o → LeavesVolumes config rack entry n)
          (λ o n back had. record {
            are_opened = station_opened e entry began;
            each = λ images left v. volume_recovers (record { ending = e; told = told; given = back; left = left }) entry began there had quiet v;
            logs = λ v or images left. (let o = over (record { ending = e; told = told; given = back; left = left }) entry began there had in logs_closed o v (unopened_closed o v or));
          });
      unopened = λ entry told began there. given (λ o n. HadRefused config rack.rest.images.items entry o → LeavesUnopened config rack entry n)
          (λ o n back had. record {
            recovers = λ images left v others. closed_recovers (over (record { ending = e; told = told; given = back; left = left }) entry began there had) v others;
            logs = λ v others images left. logs_closed (over (record { ending = e; told = told; given = back; left = left }) entry began there had) v others;
          });
      sound = λ entry told began there. given (λ o n. HadRefused config rack.rest.images.items entry o → KeepsAllSound config entry n)
          (λ o n back had all images left. left_sound (record { ending = e; told = told; given = back; left = left }) entry began there had all);
      kept = kept;
      others = others;
      faulty = given (ListsFaulty state config rack.rest) (λ o n back. record { more = back.more; more_is = back.faulty; each = listed_through e o n back });
      counts = c.give_back.ensures.counts;
      cause = λ fault. cause (fault_through e fault);
    }
