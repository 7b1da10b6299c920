use Rattle.replay.proofs.Basics.{◌≡◌, ◌∙◌, Err, ap, inr, length, refl, length-map}
use Rattle.replay.proofs.Terms.{keeps_same, shape_in, AreLeftOfParts, Completes, faults_of, outs, Stop}
use Rattle.rack.proofs.ImagesSent.{others_then}
use Rattle.replay.proofs.Closed.{closable_now, home_outs, journals_now, outs_same, same_rest}
use Rattle.replay.proofs.RacksServed.{can_serve}
use Rattle.replay.proofs.AccountKept.{keeps_account}
use Rattle.replay.proofs.HeadlineKept.{keeps_headline}
use Rattle.replay.proofs.RunAnswered.{HasClosedRack, HasOpened, replayed_err, replayed_ok}
use Rattle.replay.proofs.RunCompleted.{complete_err, complete_ok, not_source}
use Rattle.replay.proofs.Stopped.{same_stop}
use Rattle.replay.specs.Replays as replays
use Rattle.replay.proofs.run.replay.Given as given
use Rattle.replay.proofs.run.replay.Goals as goal
use Rattle.replay.proofs.run.replay.Goals.{After-close_all-spindles, After-replay_in-served, In-Ok}

-- what opening the bay said
opened : (g : given.Over) (c : In-Ok g) → HasOpened g.B.Part.Disk.state g.B.Part.Disk.tells c.args.config.now (g.B.Bay.state c.args.bay.now) (g.B.Bay.state c.open_all.new.bay) c.in-Ok.rack
opened g c =
    let said = c.in-Ok.ensures in
    record {
      some = c.requires.valid.count.0;
      is = said.rack;
      began = said.began;
      there = said.there;
      refused = said.refused;
      fresh = said.fresh;
      fresh_keepers = said.fresh_keepers;
      unfaulty = said.unfaulty;
      kept = said.kept;
      failed = said.failed;
      gained = said.faulty;
      counts = said.counts;
    }

-- what closing it said
closed : (g : given.Over) (c : After-close_all-spindles g)
    → HasClosedRack g.B.Part.Disk.state g.B.Part.Disk.tells c.args.config.now (g.B.Bay.state c.open_all.new.bay) (g.B.Bay.state c.close_all-spindles.new.bay) c.replay_in-served.new.rack
    (λ x y. AreLeftOfParts g.B.Part.Disk.state c.args.config.now c.replay_in-served.new.rack y)
closed g c =
    let said = c.close_all-spindles.ensures in
    record {
      stations = said.stations;
      told = said.parts;
      kept = said.kept;
      volumes = said.volumes;
      unopened = said.unopened;
      sound = said.sound;
      cause = said.cause;
      counts = said.counts;
      faulty = said.faulty;
      parts = said.parts;
      spindles = c.close_all-spindles.result.items;
      count = said.count;
      each = said.spindles;
    }

rest_kept : (g : given.Over) (c : After-replay_in-served g) → c.replay_in-served.new.rack.rest ≡ c.in-Ok.rack.rest
rest_kept g c =
    let run = c.replay_in-served in
    same_rest g.B.Part.Disk.state g.B.Part.Disk.tells g.S.Source.left c.args.config.now c.args.options c.args.given.now run.new.given (g.B.Bay.state c.open_all.new.bay) c.in-Ok.rack run.new.rack
    (g.K.Sink.faults c.args.out.now) (g.K.Sink.faults run.new.out) (g.K.Sink.taken c.args.out.now) (g.K.Sink.taken run.new.out) c.in-Ok.ensures.rack run.result run.ensures.runs

outs_kept : (g : given.Over) (c : After-close_all-spindles g) → outs (g.B.Bay.state c.close_all-spindles.new.bay) ≡ outs (g.B.Bay.state c.args.bay.now)
outs_kept g c =
    let run = c.replay_in-served in
    outs_same g.B.Part.Disk.state g.B.Part.Disk.tells g.S.Source.left c.args.config.now c.args.options c.args.given.now run.new.given (g.B.Bay.state c.open_all.new.bay) c.in-Ok.rack run.new.rack
    (g.K.Sink.faults c.args.out.now) (g.K.Sink.faults run.new.out) (g.K.Sink.taken c.args.out.now) (g.K.Sink.taken run.new.out) c.in-Ok.ensures.rack run.result run.ensures.runs
    (g.B.Bay.state c.args.bay.now) (g.B.Bay.state c.close_all-spindles.new.bay) c.requires.home c.in-Ok.ensures.out c.close_all-spindles.ensures.home

pub returns-in_default-clause-home : goal.returns-in_default-clause-home
returns-in_default-clause-home g c = home_outs c.args.config.now (g.B.Bay.state c.args.bay.now) (g.B.Bay.state c.open_all.new.bay) c.requires.home c.in_default.ensures.home

pub replay_in-served-requires-clause-can_serve : goal.replay_in-served-requires-clause-can_serve
replay_in-served-requires-clause-can_serve g c κs within = λ every. can_serve g.B.Part.Disk.state c.args.config.now (g.B.Bay.state c.open_all.new.bay) c.in-Ok.rack c.in-Ok.ensures.rack every

pub close_all-spindles-requires-clause-rack : goal.close_all-spindles-requires-clause-rack
close_all-spindles-requires-clause-rack g c =
    let run = c.replay_in-served in
    closable_now g.B.Part.Disk.state g.B.Part.Disk.tells g.S.Source.left c.args.config.now c.args.options c.args.given.now run.new.given (g.B.Bay.state c.open_all.new.bay) c.in-Ok.rack run.new.rack
    (g.K.Sink.faults c.args.out.now) (g.K.Sink.faults run.new.out) (g.K.Sink.taken c.args.out.now) (g.K.Sink.taken run.new.out) c.in-Ok.ensures.rack run.result run.ensures.runs

pub returns-in_err-counted-clause-outs : goal.returns-in_err-counted-clause-outs
returns-in_err-counted-clause-outs g c = outs_kept g (goal.at.returns-in_err-counted-clause-outs g c).After-close_all-spindles

pub returns-in_err-counted-clause-home : goal.returns-in_err-counted-clause-home
returns-in_err-counted-clause-home g c =
    home_outs c.args.config.now (g.B.Bay.state c.args.bay.now) (g.B.Bay.state c.close_all-spindles.new.bay) c.requires.home (outs_kept g (goal.at.returns-in_err-counted-clause-home g c).After-close_all-spindles)

pub returns-clause-outs : goal.returns-clause-outs
returns-clause-outs g c = outs_kept g (goal.at.returns-clause-outs g c).After-close_all-spindles

pub returns-clause-home : goal.returns-clause-home
returns-clause-home g c =
    home_outs c.args.config.now (g.B.Bay.state c.args.bay.now) (g.B.Bay.state c.close_all-spindles.new.bay) c.requires.home (outs_kept g (goal.at.returns-clause-home g c).After-close_all-spindles)

pub print_summary-requires-clause-journals : goal.print_summary-requires-clause-journals
print_summary-requires-clause-journals g c =
    let run = c.replay_in-served in
    rw c.deref.ensures.value
    (journals_now g.B.Part.Disk.state g.B.Part.Disk.tells g.S.Source.left c.args.config.now c.args.options c.args.given.now run.new.given (g.B.Bay.state c.open_all.new.bay) c.in-Ok.rack run.new.rack
    (g.K.Sink.faults c.args.out.now) (g.K.Sink.faults run.new.out) (g.K.Sink.taken c.args.out.now) (g.K.Sink.taken run.new.out) c.in-Ok.ensures.rack c.in-Ok.ensures.fresh_keepers run.result run.ensures.runs
    c.in_ok-counted.counted c.in_ok-counted.was c.close_all-spindles.result.items c.close_all-spindles.ensures.count c.close_all-spindles.ensures.spindles)

pub returns-in_default-clause-replays : goal.returns-in_default-clause-replays
returns-in_default-clause-replays g c = replays.no_memory (record { unread = refl; calm = refl; kept = keeps_same (g.K.Sink.taken c.args.out.now) }) (record { bay = record { left = c.in_default.ensures.left; sound = c.in_default.ensures.sound }; views = c.in_default.ensures.views })

pub returns-in_err-counted-clause-replays : goal.returns-in_err-counted-clause-replays
returns-in_err-counted-clause-replays g c =
    let run = c.replay_in-served in
    same_stop (λ done. replays.Replayed g.B.Part.Disk.tells g.B.Part.Disk.state g.S.Source.left c.args.config.now c.args.options c.args.given.now run.new.given (g.B.Bay.state c.args.bay.now) (g.B.Bay.state c.close_all-spindles.new.bay)
    (g.K.Sink.faults c.args.out.now) (g.K.Sink.faults run.new.out) (g.K.Sink.taken c.args.out.now) (g.K.Sink.taken run.new.out) done) c.from_residual.result (λ e is. replayed_err _ g.B.Part.Disk.state g.B.Part.Disk.tells g.S.Source.left c.args.config.now c.args.options c.args.given.now run.new.given
    (g.B.Bay.state c.args.bay.now) (g.B.Bay.state c.open_all.new.bay) (g.B.Bay.state c.close_all-spindles.new.bay) c.in-Ok.rack run.new.rack _
    (opened g (goal.at.returns-in_err-counted-clause-replays g c).In-Ok) (closed g (goal.at.returns-in_err-counted-clause-replays g c).After-close_all-spindles)
    (g.K.Sink.faults c.args.out.now) (g.K.Sink.faults run.new.out) (g.K.Sink.taken c.args.out.now) (g.K.Sink.taken run.new.out) run.result run.ensures.runs e is) c.in_err-counted.was c.from_residual.ensures.1

pub returns-clause-replays : goal.returns-clause-replays
returns-clause-replays g c =
    let run = c.replay_in-served in
    let said = c.close_all-spindles.ensures in
    replayed_ok _ g.B.Part.Disk.state g.B.Part.Disk.tells g.S.Source.left c.args.config.now c.args.options c.args.given.now run.new.given
    (g.B.Bay.state c.args.bay.now) (g.B.Bay.state c.open_all.new.bay) (g.B.Bay.state c.close_all-spindles.new.bay) c.in-Ok.rack run.new.rack _
    (opened g (goal.at.returns-clause-replays g c).In-Ok) (closed g (goal.at.returns-clause-replays g c).After-close_all-spindles)
    (g.K.Sink.faults c.args.out.now) (g.K.Sink.faults run.new.out) (g.K.Sink.taken c.args.out.now) (g.K.Sink.taken run.new.out) run.result run.ensures.runs c.in_ok-counted.counted c.in_ok-counted.was c.deref.result.now
    (ap length c.deref.ensures.value ∙ said.count) (ap length c.deref.ensures.value ∙ said.count ∙ length-map c.args.config.now.volumes.items (shape_in c.args.config.now))
    (rw c.deref.ensures.value said.spindles) c.print_summary.result (g.K.Sink.faults c.print_summary.new.out) (g.K.Sink.taken c.print_summary.new.out) c.print_summary.ensures.prints

pub returns-in_default-clause-complete : goal.returns-in_default-clause-complete
returns-in_default-clause-complete g c = λ may. inr refl

pub returns-in_err-counted-clause-complete : goal.returns-in_err-counted-clause-complete
returns-in_err-counted-clause-complete g c = λ may.
    let run = c.replay_in-served in
    same_stop (λ done. Completes done) c.from_residual.result (λ e is. complete_err _ g.B.Part.Disk.state g.B.Part.Disk.tells g.S.Source.left c.args.config.now c.args.options c.args.given.now run.new.given
    (g.B.Bay.state c.args.bay.now) (g.B.Bay.state c.open_all.new.bay) (g.B.Bay.state c.close_all-spindles.new.bay) c.in-Ok.rack run.new.rack _
    (opened g (goal.at.returns-in_err-counted-clause-complete g c).In-Ok) (closed g (goal.at.returns-in_err-counted-clause-complete g c).After-close_all-spindles)
    (rest_kept g (goal.at.returns-in_err-counted-clause-complete g c).After-replay_in-served)
    (g.K.Sink.faults c.args.out.now) (g.K.Sink.faults run.new.out) (g.K.Sink.taken c.args.out.now) (g.K.Sink.taken run.new.out)
    (faults_of g.S.Source.faults c.args.given.now) (faults_of g.S.Source.faults run.new.given) c.in-Ok.ensures.complete run.result run.ensures.runs e is
    (λ same. run.ensures.source (is ∙ ap (λ (x : Stop). Err x) same)) may) c.in_err-counted.was c.from_residual.ensures.1

pub returns-clause-complete : goal.returns-clause-complete
returns-clause-complete g c = λ may.
    let run = c.replay_in-served in
    let said = c.close_all-spindles.ensures in
    complete_ok _ g.B.Part.Disk.state g.B.Part.Disk.tells g.S.Source.left c.args.config.now c.args.options c.args.given.now run.new.given
    (g.B.Bay.state c.args.bay.now) (g.B.Bay.state c.open_all.new.bay) (g.B.Bay.state c.close_all-spindles.new.bay) c.in-Ok.rack run.new.rack _
    (opened g (goal.at.returns-clause-complete g c).In-Ok) (closed g (goal.at.returns-clause-complete g c).After-close_all-spindles)
    (rest_kept g (goal.at.returns-clause-complete g c).After-replay_in-served)
    (g.K.Sink.faults c.args.out.now) (g.K.Sink.faults run.new.out) (g.K.Sink.taken c.args.out.now) (g.K.Sink.taken run.new.out)
    (faults_of g.S.Source.faults c.args.given.now) (faults_of g.S.Source.faults run.new.given) c.in-Ok.ensures.complete run.result run.ensures.runs c.in_ok-counted.counted c.in_ok-counted.was c.deref.result.now
    (ap length c.deref.ensures.value ∙ said.count) (ap length c.deref.ensures.value ∙ said.count ∙ length-map c.args.config.now.volumes.items (shape_in c.args.config.now))
    (rw c.deref.ensures.value said.spindles) c.print_summary.result (g.K.Sink.faults c.print_summary.new.out) (g.K.Sink.taken c.print_summary.new.out) c.print_summary.ensures.prints
    (λ same. absurd (not_source c.print_summary.result _ (g.K.Sink.faults run.new.out) (g.K.Sink.faults c.print_summary.new.out) (g.K.Sink.taken run.new.out) (g.K.Sink.taken c.print_summary.new.out) c.print_summary.ensures.prints same)) may

pub returns-in_default-clause-headline : goal.returns-in_default-clause-headline
returns-in_default-clause-headline g c = keeps_headline _ _ _ _ _ _ _ _ _ _ _ _ _ _ (returns-in_default-clause-replays g c)

pub returns-in_err-counted-clause-headline : goal.returns-in_err-counted-clause-headline
returns-in_err-counted-clause-headline g c = keeps_headline _ _ _ _ _ _ _ _ _ _ _ _ _ _ (returns-in_err-counted-clause-replays g c)

pub returns-clause-headline : goal.returns-clause-headline
returns-clause-headline g c = keeps_headline _ _ _ _ _ _ _ _ _ _ _ _ _ _ (returns-clause-replays g c)

pub returns-in_default-clause-account : goal.returns-in_default-clause-account
returns-in_default-clause-account g c = keeps_account _ _ _ _ _ _ _ _ _ _ _ _ _ _ (returns-in_default-clause-replays g c)

pub returns-in_err-counted-clause-account : goal.returns-in_err-counted-clause-account
returns-in_err-counted-clause-account g c = keeps_account _ _ _ _ _ _ _ _ _ _ _ _ _ _ (returns-in_err-counted-clause-replays g c)

pub returns-clause-account : goal.returns-clause-account
returns-clause-account g c = keeps_account _ _ _ _ _ _ _ _ _ _ _ _ _ _ (returns-clause-replays g c)

pub returns-in_err-counted-clause-others : goal.returns-in_err-counted-clause-others
returns-in_err-counted-clause-others g c =
    others_then c.args.config.now (g.B.Bay.state c.args.bay.now).told (g.B.Bay.state c.open_all.new.bay).told (g.B.Bay.state c.close_all-spindles.new.bay).told c.open_all.ensures.others c.close_all-spindles.ensures.others

pub returns-clause-others : goal.returns-clause-others
returns-clause-others g c =
    others_then c.args.config.now (g.B.Bay.state c.args.bay.now).told (g.B.Bay.state c.open_all.new.bay).told (g.B.Bay.state c.close_all-spindles.new.bay).told c.open_all.ensures.others c.close_all-spindles.ensures.others
