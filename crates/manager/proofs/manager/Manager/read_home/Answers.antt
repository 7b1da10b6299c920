-- Home is read where no record covers the blocks.
use Rattle.std.proofs.Common.{◌≡◌, List, length, take, drop, Option, refl, sym, subst, ◌∙◌}
use Rattle.std.specs.Prelude.{IfSome, OnOk}
use Rattle.wol_disk.specs.Disk.{Block, Values, reads}
use Rattle.wol_model.specs.Index.{listed_in}
use Rattle.logger.specs.Lanes.{spindle_of}
use Rattle.manager.specs.Seen.{look_of_manager}
use Rattle.manager.proofs.Calm.{none_home}
use Rattle.manager.proofs.Frames.{ready_homed}
use Rattle.manager.proofs.ReadContent.{home_content}
use Rattle.volume_parts.proofs.PartReads.{lanes_self, counted_of, same_lane_spindle, on_ok_like, needs_one, needs_none}
use Rattle.volume_parts.proofs.Contents.{bare_run_of}
use Rattle.wol_promise.proofs.Woken.{woken_home, bare_reads_home, bare_reads_lane}
use Rattle.manager.proofs.manager.Manager.read_home.Goals as goal

pub returns-clause-run : goal.returns-clause-run
returns-clause-run g c =
    let m = c.args.self.now in let e = c.fetch_at-answer.ensures in let n = length c.args.out.now in
    let bare = bare_run_of m.index.entries c.args.lbn n c.requires.source in
    record {
      ready = ready_homed g.D.Disk.state m c.fetch_at-answer.new.part c.fetch_at-answer.new.spindle m.down e.volume e.size e.same e.free e.settled e.used c.requires.serves.up c.requires.serves.ready;
      at = let a = c.requires.serves.at in record { spindle_in = a.spindle_in; spindle_is = λ d. e.same.0 ∙ a.spindle_is d; lanes_ = a.lanes_ };
      read = record {
        same = record { id = refl; most = refl };
        home = record { volume = e.volume; size = e.size; values = e.values; any_moment = e.any_moment; faults = counted_of c.fetch_at-answer.result _ _ e.calm e.cause };
        spindle = e.same;
        lanes = lanes_self g.D.Disk.state g.met.D.Disk.sound m.lanes.items;
        index = refl;
        next = refl;
        rooms = refl;
        down = refl;
      };
      look = sym (woken_home (look_of_manager m) c.args.lbn n c.requires.some bare);
      needs = record {
        home = rw (bare_reads_home (listed_in m.index.entries) c.args.lbn n c.requires.some bare) (needs_one m.spindle c.fetch_at-answer.new.spindle _ _ e.used);
        lanes = λ k o n' was is. rw (bare_reads_lane (listed_in m.index.entries) c.args.lbn n c.requires.some bare k) (needs_none (spindle_of o) (spindle_of n') (same_lane_spindle m.lanes.items k o n' was is));
      };
    }

pub returns-clause-content : goal.returns-clause-content
returns-clause-content g c told b notes keeps =
    let m = c.args.self.now in
    let t = g.met.D.Disk.told told m.home.inner in
    let out : List Block = c.fetch_at-answer.new.out in
    on_ok_like c.fetch_at-answer.result c.at_part.result c.at_part.ensures.like
    (λ is. is ∙ home_content g.D.Disk.tells g.D.Disk.state m b notes keeps c.requires.serves.up told t.0 t.1 c.args.lbn (length c.args.out.now) c.requires.source)
    (let P : Option (List (Values Block)) → Type 0 = λ o. OnOk c.fetch_at-answer.result (IfSome o (λ vs. out ≡ take (length c.args.out.now) (drop c.args.lbn (reads vs)))) in subst P t.1 c.fetch_at-answer.ensures.content)

pub returns-clause-calm : goal.returns-clause-calm
returns-clause-calm g c = on_ok_like c.fetch_at-answer.result c.at_part.result c.at_part.ensures.like (λ same. none_home g.D.Disk.state c.args.self.now _ c.requires.serves.ready same refl) c.fetch_at-answer.ensures.calm
