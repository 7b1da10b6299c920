use Rattle.std.proofs.Common.{◌≡◌, ℕ, [], Bool, true, false, List, Err, subst, sym}
use Rattle.std.specs.Prelude.{slice_index_or}
use Rattle.std.specs.List.{AllByRecursion}
use Rattle.std.specs.Option.{ForSome}
use Rattle.std.proofs.lemmas.Result.{err_from_is_err_and}
use Rattle.wol_model.specs.Index.{Indexed, listed_in}
use Rattle.redirect_map.specs.Index.{Contents, HasVersion, entry_at}
use Rattle.manager.specs.Reclaim.{Always, HasDroppedSegment, NoneLiveIn}
use Rattle.reclaimer.proofs.Moments.{tried_within, within}
use Rattle.reclaimer.proofs.Wholes.{none_live_go}
use Rattle.log_cleaner.specs.Chunks.{NoneHomed}
use Rattle.log_cleaner.specs.Marks.{AreMarked}
use Rattle.log_cleaner.proofs.Marking.{left_marked}
use Rattle.log_cleaner.proofs.Dropping.{entry_there, segment_broken, segment_gone, tried_there}
use Rattle.log_cleaner.proofs.Stepping.{copied_none, copied_then, each_awake, gave_then, tidy_none, tidy_then}
use Rattle.log_cleaner.proofs.giving.give_up_segments.Goals.{else-goes_whole, then-goes_whole+in_ok-drop_segment}
use Rattle.log_cleaner.proofs.giving.give_up_segments.Goals as goal

pub loop-step-init : goal.loop-step-init
loop-step-init g c = record { ready = c.requires.ready; at = c.requires.at; can = c.requires.can; copied = copied_none g.D.Disk.tells g.D.Disk.state c.args.m.now c.requires.can; tidy = tidy_none c.args.m.now; marked = subst (λ (x : Contents). AreMarked c.marks_of-marks.result x.entries) c.index.ensures c.marks_of-marks.ensures }

pub marks_of-marks-requires-clause-unhomed : goal.marks_of-marks-requires-clause-unhomed
marks_of-marks-requires-clause-unhomed g c = subst (λ (x : Contents). NoneHomed (listed_in x.entries)) (sym c.index.ensures) c.requires.can.unhomed

pub marks_of-marks-requires-clause-awake : goal.marks_of-marks-requires-clause-awake
marks_of-marks-requires-clause-awake g c =
    let m = c.args.m.now in
    subst (λ (us : List Bool). AllByRecursion (λ (e : Indexed). slice_index_or us e.listed.lane false ≡ true) c.index.result.now.entries) (sym c.ups.ensures)
    (subst (λ (x : Contents). AllByRecursion (λ (e : Indexed). slice_index_or m.ups.items e.listed.lane false ≡ true) x.entries) (sym c.index.ensures) (each_awake g.D.Disk.state m c.requires.ready c.requires.can))

pub goes_whole-requires-clause-unhomed : goal.goes_whole-requires-clause-unhomed
goes_whole-requires-clause-unhomed g c = subst (λ (x : Contents). NoneHomed (listed_in x.entries)) (sym c.index-in-loop-step-2.ensures) c.loop-step.invariant.can.unhomed

pub goes_whole-requires-clause-awake : goal.goes_whole-requires-clause-awake
goes_whole-requires-clause-awake g c =
    let i = c.loop-step.invariant in let m = c.loop-step.m in
    subst (λ (us : List Bool). AllByRecursion (λ (e : Indexed). slice_index_or us e.listed.lane false ≡ true) c.index-in-loop-step-2.result.now.entries) (sym c.ups-in-loop-step-2.ensures)
    (subst (λ (x : Contents). AllByRecursion (λ (e : Indexed). slice_index_or m.ups.items e.listed.lane false ≡ true) x.entries) (sym c.index-in-loop-step-2.ensures) (each_awake g.D.Disk.state m i.ready i.can))

pub goes_whole-requires-clause-marked : goal.goes_whole-requires-clause-marked
goes_whole-requires-clause-marked g c = subst (λ (x : Contents). AreMarked c.marks_of-marks.result x.entries) (sym c.index-in-loop-step-2.ensures) c.loop-step.invariant.marked

pub drop_segment-requires-clause-there : goal.drop_segment-requires-clause-there
drop_segment-requires-clause-there g c = subst (λ (x : Contents). HasVersion x.entries c.in-Some.version) c.index-in-loop-step-2.ensures (c.goes_whole.ensures.there c.if-goes_whole.true)

pub drop_segment-requires-clause-go : goal.drop_segment-requires-clause-go
drop_segment-requires-clause-go g c e is =
    let none = subst (λ (x : Contents). ForSome (entry_at x.entries c.in-Some.version) (λ e. NoneLiveIn e.listed.lane e.index x.entries)) c.index-in-loop-step-2.ensures (c.goes_whole.ensures.covered c.if-goes_whole.true) in
    none_live_go e.listed.lane e.index c.loop-step.m.index.entries (none e is)

pub returns-in_err-drop_segment-clause-given : goal.returns-in_err-drop_segment-clause-given
returns-in_err-drop_segment-clause-given g c =
    let m = c.loop-step.m in let new = c.drop_segment.new.self in let i = c.loop-step.invariant in let e = c.in_err-drop_segment.ensures in
    let f = entry_there m.index.entries c.in-Some.version (subst (λ (x : Contents). HasVersion x.entries c.in-Some.version) c.index-in-loop-step-2.ensures (c.goes_whole.ensures.there c.if-goes_whole.true)) in
    let none = subst (λ (x : Contents). ForSome (entry_at x.entries c.in-Some.version) (λ e. NoneLiveIn e.listed.lane e.index x.entries)) c.index-in-loop-step-2.ensures (c.goes_whole.ensures.covered c.if-goes_whole.true) f.0 f.1 in
    let p = err_from_is_err_and c.from_residual.result c.from_residual.ensures.1 in
    rw (p.1, p.2) (gave_then g.D.Disk.tells g.D.Disk.state c.args.m.now m new c.requires.can i.copied i.tidy (Err c.in_err-drop_segment.field-0.0)
    (segment_broken g.D.Disk.tells g.D.Disk.state m new i.can f.0.listed.lane f.0.index none ℕ c.in_err-drop_segment.field-0.0 e.fault e.broke
    (tried_there m.index.entries c.in-Some.version f.0 f.1 ℕ c.in_err-drop_segment.field-0.0 (λ d. HasDroppedSegment {T = ℕ} d.listed.lane d.index m new (Err c.in_err-drop_segment.field-0.0)) e.dropped)
    (λ told. tried_within g.D.Disk.tells g.D.Disk.state g.met.D.Disk.sound Always ℕ told m new c.in_err-drop_segment.field-0.0 e.fault e.any_moment)))

pub loop-step-preserved : goal.loop-step-preserved
loop-step-preserved g c =
    let m = c.loop-step.m in let i = c.loop-step.invariant in
    elim c.if-goes_whole.branch [
      | then-goes_whole+in_ok-drop_segment w ↦
          let f = entry_there m.index.entries c.in-Some.version (subst (λ (x : Contents). HasVersion x.entries c.in-Some.version) c.index-in-loop-step-2.ensures (c.goes_whole.ensures.there w.if-goes_whole.true)) in
          let none = subst (λ (x : Contents). ForSome (entry_at x.entries c.in-Some.version) (λ e. NoneLiveIn e.listed.lane e.index x.entries)) c.index-in-loop-step-2.ensures (c.goes_whole.ensures.covered w.if-goes_whole.true) f.0 f.1 in
          let e = w.in_ok-drop_segment.ensures in let new = w.drop_segment.new.self in
          let s = segment_gone g.D.Disk.tells g.D.Disk.state m new i.can f.0.listed.lane f.0.index none w.in_ok-drop_segment.field-0 (e.dropped f.0 f.1) e.fault.1 e.calm e.keeps
          (λ told. within g.D.Disk.tells g.D.Disk.state g.met.D.Disk.sound Always m new (e.any_moment told)) in
          rw w.m-is (record {
            ready = e.ready;
            at = e.at;
            can = s.0.goes_on.can;
            copied = copied_then g.D.Disk.tells g.D.Disk.state c.args.m.now m new [] [] c.requires.can i.copied s.0;
            tidy = tidy_then c.args.m.now m new i.tidy s.1;
            marked = subst (λ (es : List Indexed). AreMarked c.marks_of-marks.result es) (sym (e.dropped f.0 f.1).ok) (left_marked c.marks_of-marks.result m.index.entries f.0.listed.lane f.0.index none i.marked);
          })
      | else-goes_whole w ↦ rw w.m-is i
    ]
