use Rattle.rack.proofs.Basics.{arith, ℕ, List, Option, length, sym, ap, ◌∙◌, subst, All}
use Rattle.rack.proofs.Terms.{PassOf, Spindle, SpindleBase, IsUnused, KeepToViews, view_at, IsOpeningRack, HasBegun, HaveFaults, Said}
use Rattle.rack_parts.proofs.LocksIssued.{on_err}
use Rattle.rack.proofs.RunLaws.{quiet_run}
use Rattle.rack.proofs.SoundVolumes.{opens_all}
use Rattle.rack.proofs.FailedParts.{gained_parts, part_failed}
use Rattle.rack.proofs.ImagesSent.{others_same, others_then}
use Rattle.rack.proofs.TakenBack.{left_back, nothing_done, run_back, views_back}
use Rattle.rack.proofs.OpenedAll.{opened_out, opened_home, opened_others, opened_faulty, opened_unfaulty, opened_kept, opened_failed, opened_there, opened_views, closed_left, closed_sound, closed_views, quiet_stations, fresh_passes, count_spindles, count_pools, told_at, begun_first, refused_first, taken_opening, many}
use Rattle.rack.proofs.all.open_all.Goals as goal

pub filled-rack-requires-clause-spindles : goal.filled-rack-requires-clause-spindles
filled-rack-requires-clause-spindles g c =
    count_spindles g.B.Part.Disk.tells g.B.Part.Disk.state c.args.config.now (g.B.Bay.state c.args.bay.now) (g.B.Bay.state c.take_out.new.bay) c.in-Ok.taken c.in-Ok.ensures.taken

pub filled-rack-requires-clause-pools : goal.filled-rack-requires-clause-pools
filled-rack-requires-clause-pools g c =
    count_pools g.B.Part.Disk.tells g.B.Part.Disk.state c.args.config.now (g.B.Bay.state c.args.bay.now) (g.B.Bay.state c.take_out.new.bay) c.in-Ok.taken c.in-Ok.ensures.taken

pub open_volumes-requires-clause-rack : goal.open_volumes-requires-clause-rack
open_volumes-requires-clause-rack g c =
    let opening = taken_opening g.B.Part.Disk.tells g.B.Part.Disk.state c.args.config.now c.requires.config (g.B.Bay.state c.args.bay.now) (g.B.Bay.state c.take_out.new.bay) c.in-Ok.taken c.in-Ok.ensures.taken c.requires.home c.filled-rack.result c.filled-rack.ensures.rest c.filled-rack.ensures.images c.filled-rack.ensures.faults in
    (g.B.Bay.state c.take_out.new.bay, subst (λ (l : List (Option Said)). IsOpeningRack g.B.Part.Disk.state c.args.config.now (g.B.Bay.state c.take_out.new.bay) l 0 c.filled-rack.result) (sym c.as_slice.ensures.value) opening)

pub returns-in-Ok-open_volumes-clause-rack : goal.returns-in-Ok-open_volumes-clause-rack
returns-in-Ok-open_volumes-clause-rack g c =
    let opening = taken_opening g.B.Part.Disk.tells g.B.Part.Disk.state c.args.config.now c.requires.config (g.B.Bay.state c.args.bay.now) (g.B.Bay.state c.take_out.new.bay) c.in-Ok.taken c.in-Ok.ensures.taken c.requires.home c.filled-rack.result c.filled-rack.ensures.rest c.filled-rack.ensures.images c.filled-rack.ensures.faults in
    c.in-Ok-open_volumes.ensures.rack (g.B.Bay.state c.take_out.new.bay) (subst (λ (l : List (Option Said)). IsOpeningRack g.B.Part.Disk.state c.args.config.now (g.B.Bay.state c.take_out.new.bay) l 0 c.filled-rack.result) (sym c.as_slice.ensures.value) opening)

pub returns-in-Ok-open_volumes-clause-out : goal.returns-in-Ok-open_volumes-clause-out
returns-in-Ok-open_volumes-clause-out g c =
    opened_out g.B.Part.Disk.tells g.B.Part.Disk.state c.args.config.now c.requires.config (g.B.Bay.state c.args.bay.now) (g.B.Bay.state c.take_out.new.bay) c.in-Ok.taken c.in-Ok.ensures.taken c.filled-rack.result c.filled-rack.ensures.images c.open_volumes.new.rack c.open_volumes.ensures.same_out

pub returns-in-Ok-open_volumes-clause-began : goal.returns-in-Ok-open_volumes-clause-began
returns-in-Ok-open_volumes-clause-began g c =
    λ telling. told_at (g.B.Bay.state c.args.bay.now).told
    (λ old is.
    c.open_volumes.ensures.began telling old (subst (λ (l : List (Option Said)). HasBegun g.B.Part.Disk.state c.args.config.now old l 0 c.filled-rack.result) (sym c.as_slice.ensures.value) (begun_first g.B.Part.Disk.tells g.B.Part.Disk.state c.args.config.now c.requires.config (g.B.Bay.state c.args.bay.now) (g.B.Bay.state c.take_out.new.bay) c.in-Ok.taken c.in-Ok.ensures.taken c.filled-rack.result c.filled-rack.ensures.rest c.filled-rack.ensures.images c.filled-rack.ensures.faults telling old is)))

pub returns-in-Ok-open_volumes-clause-there : goal.returns-in-Ok-open_volumes-clause-there
returns-in-Ok-open_volumes-clause-there g c =
    λ telling. told_at (g.B.Bay.state c.args.bay.now).told (opened_there g.B.Part.Disk.tells g.B.Part.Disk.state c.args.config.now c.requires.config (g.B.Bay.state c.args.bay.now) (g.B.Bay.state c.take_out.new.bay) c.in-Ok.taken c.in-Ok.ensures.taken c.filled-rack.result c.filled-rack.ensures.images c.open_volumes.new.rack c.open_volumes.ensures.same_out telling)

pub returns-in-Ok-open_volumes-clause-users : goal.returns-in-Ok-open_volumes-clause-users
returns-in-Ok-open_volumes-clause-users g c =
    λ telling. told_at (g.B.Bay.state c.args.bay.now).told (λ old is. (
      view_at c.in-Ok.taken.images.said.items,
      subst (λ (l : List (Option Said)). KeepToViews (view_at l) c.open_volumes.new.rack) c.as_slice.ensures.value c.in-Ok-open_volumes.ensures.users,
      opened_views g.B.Part.Disk.tells g.B.Part.Disk.state c.args.config.now c.requires.config (g.B.Bay.state c.args.bay.now) (g.B.Bay.state c.take_out.new.bay) c.in-Ok.taken c.in-Ok.ensures.taken c.filled-rack.result c.filled-rack.ensures.images c.open_volumes.new.rack c.open_volumes.ensures.same_out telling old is,
    ))

pub returns-in-Ok-open_volumes-clause-refused : goal.returns-in-Ok-open_volumes-clause-refused
returns-in-Ok-open_volumes-clause-refused g c =
    c.in-Ok-open_volumes.ensures.refused (g.B.Bay.state c.args.bay.now) (g.B.Bay.state c.take_out.new.bay) (λ telling old is. (subst (λ (l : List (Option Said)). HasBegun g.B.Part.Disk.state c.args.config.now old l 0 c.filled-rack.result) (sym c.as_slice.ensures.value) (begun_first g.B.Part.Disk.tells g.B.Part.Disk.state c.args.config.now c.requires.config (g.B.Bay.state c.args.bay.now) (g.B.Bay.state c.take_out.new.bay) c.in-Ok.taken c.in-Ok.ensures.taken c.filled-rack.result c.filled-rack.ensures.rest c.filled-rack.ensures.images c.filled-rack.ensures.faults telling old is))) (refused_first g.B.Part.Disk.tells g.B.Part.Disk.state c.args.config.now c.requires.config (g.B.Bay.state c.args.bay.now) (g.B.Bay.state c.take_out.new.bay) c.in-Ok.taken c.in-Ok.ensures.taken c.filled-rack.result c.filled-rack.ensures.rest c.filled-rack.ensures.images c.filled-rack.ensures.faults)

pub returns-in-Ok-open_volumes-clause-fresh_keepers : goal.returns-in-Ok-open_volumes-clause-fresh_keepers
returns-in-Ok-open_volumes-clause-fresh_keepers g c =
    subst (λ (l : _). All (λ (p : PassOf Spindle SpindleBase). IsUnused p) l.items) (sym c.open_volumes.ensures.keepers) (fresh_passes g.B.Part.Disk.tells g.B.Part.Disk.state c.args.config.now (g.B.Bay.state c.args.bay.now) (g.B.Bay.state c.take_out.new.bay) c.in-Ok.taken c.in-Ok.ensures.taken c.filled-rack.result c.filled-rack.ensures.rest)

pub returns-in-Ok-open_volumes-clause-faulty : goal.returns-in-Ok-open_volumes-clause-faulty
returns-in-Ok-open_volumes-clause-faulty g c =
    opened_faulty g.B.Part.Disk.tells g.B.Part.Disk.state c.args.config.now c.requires.config (g.B.Bay.state c.args.bay.now) (g.B.Bay.state c.take_out.new.bay) c.in-Ok.taken c.in-Ok.ensures.taken c.filled-rack.result c.filled-rack.ensures.images c.open_volumes.new.rack c.open_volumes.ensures.same_out

pub returns-in-Ok-open_volumes-clause-unfaulty : goal.returns-in-Ok-open_volumes-clause-unfaulty
returns-in-Ok-open_volumes-clause-unfaulty g c =
    λ all. opened_unfaulty g.B.Part.Disk.tells g.B.Part.Disk.state c.args.config.now c.requires.config (g.B.Bay.state c.args.bay.now) (g.B.Bay.state c.take_out.new.bay) c.in-Ok.taken c.in-Ok.ensures.taken c.filled-rack.result c.filled-rack.ensures.images c.open_volumes.new.rack c.open_volumes.ensures.same_out all (many g.B.Part.Disk.tells g.B.Part.Disk.state c.args.config.now c.requires.config (g.B.Bay.state c.args.bay.now) (g.B.Bay.state c.take_out.new.bay) c.in-Ok.taken c.in-Ok.ensures.taken)

pub returns-in-Ok-open_volumes-clause-kept : goal.returns-in-Ok-open_volumes-clause-kept
returns-in-Ok-open_volumes-clause-kept g c =
    λ telling. opened_kept g.B.Part.Disk.tells g.B.Part.Disk.state c.args.config.now c.requires.config (g.B.Bay.state c.args.bay.now) (g.B.Bay.state c.take_out.new.bay) c.in-Ok.taken c.in-Ok.ensures.taken c.filled-rack.result c.filled-rack.ensures.images c.open_volumes.new.rack c.open_volumes.ensures.same_out

pub returns-in-Ok-open_volumes-clause-failed : goal.returns-in-Ok-open_volumes-clause-failed
returns-in-Ok-open_volumes-clause-failed g c =
    let opening = taken_opening g.B.Part.Disk.tells g.B.Part.Disk.state c.args.config.now c.requires.config (g.B.Bay.state c.args.bay.now) (g.B.Bay.state c.take_out.new.bay) c.in-Ok.taken c.in-Ok.ensures.taken c.requires.home c.filled-rack.result c.filled-rack.ensures.rest c.filled-rack.ensures.images c.filled-rack.ensures.faults in
    let rack = c.in-Ok-open_volumes.ensures.rack (g.B.Bay.state c.take_out.new.bay) (subst (λ (l : List (Option Said)). IsOpeningRack g.B.Part.Disk.state c.args.config.now (g.B.Bay.state c.take_out.new.bay) l 0 c.filled-rack.result) (sym c.as_slice.ensures.value) opening) in
    let said_count = ap (λ (x : _). length x.items) c.in-Ok.ensures.taken.same.0 ∙ c.in-Ok.ensures.taken.asked.said_count in
    let have = subst (λ (n : ℕ). HaveFaults g.B.Part.Disk.state c.in-Ok.taken.images.said.items n c.open_volumes.new.rack) said_count (subst (λ (l : List (Option Said)). HaveFaults g.B.Part.Disk.state l (length l) c.open_volumes.new.rack) c.as_slice.ensures.value c.in-Ok-open_volumes.ensures.failed) in
    opened_failed g.B.Part.Disk.tells g.B.Part.Disk.state c.args.config.now c.requires.config (g.B.Bay.state c.args.bay.now) (g.B.Bay.state c.take_out.new.bay) c.in-Ok.taken c.in-Ok.ensures.taken c.filled-rack.result c.filled-rack.ensures.images c.open_volumes.new.rack c.open_volumes.ensures.same_out have (rack.fault_count ∙ many g.B.Part.Disk.tells g.B.Part.Disk.state c.args.config.now c.requires.config (g.B.Bay.state c.args.bay.now) (g.B.Bay.state c.take_out.new.bay) c.in-Ok.taken c.in-Ok.ensures.taken)

pub close_all-spindles-requires-clause-rack : goal.close_all-spindles-requires-clause-rack
close_all-spindles-requires-clause-rack g c =
    let opening = taken_opening g.B.Part.Disk.tells g.B.Part.Disk.state c.args.config.now c.requires.config (g.B.Bay.state c.args.bay.now) (g.B.Bay.state c.take_out.new.bay) c.in-Ok.taken c.in-Ok.ensures.taken c.requires.home c.filled-rack.result c.filled-rack.ensures.rest c.filled-rack.ensures.images c.filled-rack.ensures.faults in
    (c.in-Err-open_volumes.ensures.stopped (g.B.Bay.state c.take_out.new.bay) (subst (λ (l : List (Option Said)). IsOpeningRack g.B.Part.Disk.state c.args.config.now (g.B.Bay.state c.take_out.new.bay) l 0 c.filled-rack.result) (sym c.as_slice.ensures.value) opening)).closable

pub returns-clause-home : goal.returns-clause-home
returns-clause-home g c =
    opened_home g.B.Part.Disk.tells g.B.Part.Disk.state c.args.config.now c.requires.config (g.B.Bay.state c.args.bay.now) (g.B.Bay.state c.take_out.new.bay) c.in-Ok.taken c.in-Ok.ensures.taken c.filled-rack.result c.filled-rack.ensures.images c.open_volumes.new.rack c.open_volumes.ensures.same_out c.requires.home (g.B.Bay.state c.close_all-spindles.new.bay) c.close_all-spindles.ensures.home

pub returns-in_err-lists-clause-left : goal.returns-in_err-lists-clause-left
returns-in_err-lists-clause-left g c =
    on_err c.from_residual.result _ (λ telling. left_back g.B.Part.Disk.tells g.B.Part.Disk.state c.args.config.now (g.B.Bay.state c.args.bay.now) (g.B.Bay.state c.args.bay.now) (nothing_done (g.B.Bay.state c.args.bay.now).told))

pub returns-in_err-lists-clause-views : goal.returns-in_err-lists-clause-views
returns-in_err-lists-clause-views g c =
    on_err c.from_residual.result _ (λ telling. views_back g.B.Part.Disk.tells g.B.Part.Disk.state c.args.config.now (g.B.Bay.state c.args.bay.now) (g.B.Bay.state c.args.bay.now) (nothing_done (g.B.Bay.state c.args.bay.now).told))

pub returns-clause-left : goal.returns-clause-left
returns-clause-left g c = λ telling.
    closed_left g.B.Part.Disk.tells g.B.Part.Disk.state c.args.config.now c.requires.config (g.B.Bay.state c.args.bay.now) (g.B.Bay.state c.take_out.new.bay) c.in-Ok.taken c.in-Ok.ensures.taken c.filled-rack.result c.filled-rack.ensures.images c.open_volumes.new.rack c.open_volumes.ensures.same_out (g.B.Bay.state c.close_all-spindles.new.bay) c.close_all-spindles.ensures.counts (gained_parts g.B.Part.Disk.state c.args.config.now c.open_volumes.new.rack.rest (g.B.Bay.state c.take_out.new.bay).told (g.B.Bay.state c.close_all-spindles.new.bay).told c.close_all-spindles.ensures.faulty) telling (c.close_all-spindles.ensures.kept telling) (c.close_all-spindles.ensures.parts telling)
    (λ old is. c.close_all-spindles.ensures.volumes old telling (c.open_volumes.ensures.began telling old (subst (λ (l : List (Option Said)). HasBegun g.B.Part.Disk.state c.args.config.now old l 0 c.filled-rack.result) (sym c.as_slice.ensures.value) (begun_first g.B.Part.Disk.tells g.B.Part.Disk.state c.args.config.now c.requires.config (g.B.Bay.state c.args.bay.now) (g.B.Bay.state c.take_out.new.bay) c.in-Ok.taken c.in-Ok.ensures.taken c.filled-rack.result c.filled-rack.ensures.rest c.filled-rack.ensures.images c.filled-rack.ensures.faults telling old is))) (opened_there g.B.Part.Disk.tells g.B.Part.Disk.state c.args.config.now c.requires.config (g.B.Bay.state c.args.bay.now) (g.B.Bay.state c.take_out.new.bay) c.in-Ok.taken c.in-Ok.ensures.taken c.filled-rack.result c.filled-rack.ensures.images c.open_volumes.new.rack c.open_volumes.ensures.same_out telling old is) (quiet_stations c.open_volumes.new.rack.stations.items c.open_volumes.ensures.fresh))

pub returns-clause-sound : goal.returns-clause-sound
returns-clause-sound g c = λ telling.
    closed_sound g.B.Part.Disk.tells g.B.Part.Disk.state c.args.config.now c.requires.config (g.B.Bay.state c.args.bay.now) (g.B.Bay.state c.take_out.new.bay) c.in-Ok.taken c.in-Ok.ensures.taken c.filled-rack.result c.filled-rack.ensures.images c.open_volumes.new.rack c.open_volumes.ensures.same_out (g.B.Bay.state c.close_all-spindles.new.bay) c.close_all-spindles.ensures.counts (gained_parts g.B.Part.Disk.state c.args.config.now c.open_volumes.new.rack.rest (g.B.Bay.state c.take_out.new.bay).told (g.B.Bay.state c.close_all-spindles.new.bay).told c.close_all-spindles.ensures.faulty) (c.close_all-spindles.ensures.kept telling)
    (λ old is. c.close_all-spindles.ensures.sound old telling (c.open_volumes.ensures.began telling old (subst (λ (l : List (Option Said)). HasBegun g.B.Part.Disk.state c.args.config.now old l 0 c.filled-rack.result) (sym c.as_slice.ensures.value) (begun_first g.B.Part.Disk.tells g.B.Part.Disk.state c.args.config.now c.requires.config (g.B.Bay.state c.args.bay.now) (g.B.Bay.state c.take_out.new.bay) c.in-Ok.taken c.in-Ok.ensures.taken c.filled-rack.result c.filled-rack.ensures.rest c.filled-rack.ensures.images c.filled-rack.ensures.faults telling old is))) (opened_there g.B.Part.Disk.tells g.B.Part.Disk.state c.args.config.now c.requires.config (g.B.Bay.state c.args.bay.now) (g.B.Bay.state c.take_out.new.bay) c.in-Ok.taken c.in-Ok.ensures.taken c.filled-rack.result c.filled-rack.ensures.images c.open_volumes.new.rack c.open_volumes.ensures.same_out telling old is))

pub returns-clause-views : goal.returns-clause-views
returns-clause-views g c = λ telling.
    closed_views g.B.Part.Disk.tells g.B.Part.Disk.state c.args.config.now c.requires.config (g.B.Bay.state c.args.bay.now) (g.B.Bay.state c.take_out.new.bay) c.in-Ok.taken c.in-Ok.ensures.taken c.filled-rack.result c.filled-rack.ensures.images c.open_volumes.new.rack c.open_volumes.ensures.same_out (g.B.Bay.state c.close_all-spindles.new.bay) c.close_all-spindles.ensures.counts (gained_parts g.B.Part.Disk.state c.args.config.now c.open_volumes.new.rack.rest (g.B.Bay.state c.take_out.new.bay).told (g.B.Bay.state c.close_all-spindles.new.bay).told c.close_all-spindles.ensures.faulty) telling (c.close_all-spindles.ensures.kept telling) (c.close_all-spindles.ensures.parts telling)
    (λ old is. c.open_volumes.ensures.began telling old (subst (λ (l : List (Option Said)). HasBegun g.B.Part.Disk.state c.args.config.now old l 0 c.filled-rack.result) (sym c.as_slice.ensures.value) (begun_first g.B.Part.Disk.tells g.B.Part.Disk.state c.args.config.now c.requires.config (g.B.Bay.state c.args.bay.now) (g.B.Bay.state c.take_out.new.bay) c.in-Ok.taken c.in-Ok.ensures.taken c.filled-rack.result c.filled-rack.ensures.rest c.filled-rack.ensures.images c.filled-rack.ensures.faults telling old is)))

pub returns-in-Ok-open_volumes-clause-complete : goal.returns-in-Ok-open_volumes-clause-complete
returns-in-Ok-open_volumes-clause-complete g c =
    λ telling. told_at (g.B.Bay.state c.args.bay.now).told (λ old is sound no_part calm k lt.
    opens_all c.args.config.now c.requires.config old sound g.B.Part.Disk.tells telling g.B.Part.Disk.state (g.B.Bay.state c.args.bay.now) (g.B.Bay.state c.take_out.new.bay) is c.open_volumes.new.rack
    (returns-in-Ok-open_volumes-clause-rack g c) (returns-in-Ok-open_volumes-clause-refused g c)
    (part_failed g.B.Part.Disk.tells g.B.Part.Disk.state c.args.config.now (g.B.Bay.state c.args.bay.now) (g.B.Bay.state c.take_out.new.bay) c.open_volumes.new.rack (returns-in-Ok-open_volumes-clause-rack g c).fault_count (returns-in-Ok-open_volumes-clause-refused g c) (returns-in-Ok-open_volumes-clause-failed g c)) no_part calm k lt)

pub returns-in_err-lists-clause-others : goal.returns-in_err-lists-clause-others
returns-in_err-lists-clause-others g c = others_same c.args.config.now (g.B.Bay.state c.args.bay.now).told

pub returns-in-Ok-open_volumes-clause-others : goal.returns-in-Ok-open_volumes-clause-others
returns-in-Ok-open_volumes-clause-others g c =
    opened_others g.B.Part.Disk.tells g.B.Part.Disk.state c.args.config.now c.requires.config (g.B.Bay.state c.args.bay.now) (g.B.Bay.state c.take_out.new.bay) c.in-Ok.taken c.in-Ok.ensures.taken c.filled-rack.result c.filled-rack.ensures.images c.open_volumes.new.rack c.open_volumes.ensures.same_out

pub returns-clause-others : goal.returns-clause-others
returns-clause-others g c =
    others_then c.args.config.now (g.B.Bay.state c.args.bay.now).told (g.B.Bay.state c.take_out.new.bay).told (g.B.Bay.state c.close_all-spindles.new.bay).told (opened_others g.B.Part.Disk.tells g.B.Part.Disk.state c.args.config.now c.requires.config (g.B.Bay.state c.args.bay.now) (g.B.Bay.state c.take_out.new.bay) c.in-Ok.taken c.in-Ok.ensures.taken c.filled-rack.result c.filled-rack.ensures.images c.open_volumes.new.rack c.open_volumes.ensures.same_out) c.close_all-spindles.ensures.others

pub returns-in_err-lists-clause-run : goal.returns-in_err-lists-clause-run
returns-in_err-lists-clause-run g c =
    let old = g.B.Bay.state c.args.bay.now in
    on_err c.from_residual.result _ (run_back g.B.Part.Disk.tells g.B.Part.Disk.state c.args.config.now old old (λ telling. nothing_done old.told) (others_same c.args.config.now old.told) (omega arith))

pub returns-clause-run : goal.returns-clause-run
returns-clause-run g c = quiet_run g.B.Part.Disk.tells c.args.config.now (g.B.Bay.state c.args.bay.now) (g.B.Bay.state c.close_all-spindles.new.bay) c.open_volumes.new.rack (c.close_all-spindles.ensures.run (g.B.Bay.state c.args.bay.now) (record {
  began = λ telling. told_at (g.B.Bay.state c.args.bay.now).told
      (λ old is. c.open_volumes.ensures.began telling old (subst (λ (l : List (Option Said)). HasBegun g.B.Part.Disk.state c.args.config.now old l 0 c.filled-rack.result) (sym c.as_slice.ensures.value) (begun_first g.B.Part.Disk.tells g.B.Part.Disk.state c.args.config.now c.requires.config (g.B.Bay.state c.args.bay.now) (g.B.Bay.state c.take_out.new.bay) c.in-Ok.taken c.in-Ok.ensures.taken c.filled-rack.result c.filled-rack.ensures.rest c.filled-rack.ensures.images c.filled-rack.ensures.faults telling old is)));
  there = λ telling. told_at (g.B.Bay.state c.args.bay.now).told (opened_there g.B.Part.Disk.tells g.B.Part.Disk.state c.args.config.now c.requires.config (g.B.Bay.state c.args.bay.now) (g.B.Bay.state c.take_out.new.bay) c.in-Ok.taken c.in-Ok.ensures.taken c.filled-rack.result c.filled-rack.ensures.images c.open_volumes.new.rack c.open_volumes.ensures.same_out telling);
  kept = λ telling. opened_kept g.B.Part.Disk.tells g.B.Part.Disk.state c.args.config.now c.requires.config (g.B.Bay.state c.args.bay.now) (g.B.Bay.state c.take_out.new.bay) c.in-Ok.taken c.in-Ok.ensures.taken c.filled-rack.result c.filled-rack.ensures.images c.open_volumes.new.rack c.open_volumes.ensures.same_out;
  faulty = opened_faulty g.B.Part.Disk.tells g.B.Part.Disk.state c.args.config.now c.requires.config (g.B.Bay.state c.args.bay.now) (g.B.Bay.state c.take_out.new.bay) c.in-Ok.taken c.in-Ok.ensures.taken c.filled-rack.result c.filled-rack.ensures.images c.open_volumes.new.rack c.open_volumes.ensures.same_out;
  others = opened_others g.B.Part.Disk.tells g.B.Part.Disk.state c.args.config.now c.requires.config (g.B.Bay.state c.args.bay.now) (g.B.Bay.state c.take_out.new.bay) c.in-Ok.taken c.in-Ok.ensures.taken c.filled-rack.result c.filled-rack.ensures.images c.open_volumes.new.rack c.open_volumes.ensures.same_out;
  counts = c.take_out.ensures.counts;
})) (c.in-Err-open_volumes.ensures.stopped (g.B.Bay.state c.take_out.new.bay) (subst (λ (l : List (Option Said)). IsOpeningRack g.B.Part.Disk.state c.args.config.now (g.B.Bay.state c.take_out.new.bay) l 0 c.filled-rack.result) (sym c.as_slice.ensures.value)
    (taken_opening g.B.Part.Disk.tells g.B.Part.Disk.state c.args.config.now c.requires.config (g.B.Bay.state c.args.bay.now) (g.B.Bay.state c.take_out.new.bay) c.in-Ok.taken c.in-Ok.ensures.taken c.requires.home c.filled-rack.result c.filled-rack.ensures.rest c.filled-rack.ensures.images c.filled-rack.ensures.faults))).closable.stations (quiet_stations c.open_volumes.new.rack.stations.items c.open_volumes.ensures.fresh)
