-- Run after run.
use Rattle.std.proofs.Common.{◌+◌, ◌≤◌, length, sym, ◌∙◌, arith}
use Rattle.std.proofs.lemmas.Result.{err_from_is_err_and}
use Rattle.manager.proofs.ReadRuns.{nothing_read, part_length, needs_too, run_read}
use Rattle.manager.proofs.ReadThrough.{through_then, rose_through}
use Rattle.manager.proofs.manager.Manager.read_runs.Goals as goal

pub runs-init : goal.runs-init
runs-init g c = nothing_read g.D.Disk.tells g.D.Disk.state g.met.D.Disk.sound c.args.shared.now c.args.self.now c.args.lbn (length c.args.out.now) c.args.out.now c.requires.serves.ready c.requires.serves.at

pub read_run-requires-clause-run : goal.read_run-requires-clause-run
read_run-requires-clause-run g c =
    let h = c.runs.invariant in let count = c.newest_run-source.result.1 in
    let within : c.runs.done + count ≤ length c.args.out.now = omega (arith, c.newest_run-source.ensures.most) in
    let long = part_length c.runs.done count c.runs.out (omega arith) in
    record {
      serves = record { ready = h.ready; at = h.at_home; up = h.read.down ∙ c.requires.serves.up };
      some = rw long c.newest_run-source.ensures.some;
      fits = omega (arith, long);
      source = λ b from to. c.newest_run-source.ensures.run b from (omega (arith, long, to));
    }

pub returns-in_err-run-clause-read : goal.returns-in_err-run-clause-read
returns-in_err-run-clause-read g c = through_then g.D.Disk.state g.met.D.Disk.sound c.args.self.now c.runs.self c.read_run.new.self c.runs.invariant.read c.read_run.ensures.run.read

pub returns-in_err-run-clause-needs : goal.returns-in_err-run-clause-needs
returns-in_err-run-clause-needs g c =
    let count = c.newest_run-source.result.1 in
    let within : c.runs.done + count ≤ length c.args.out.now = omega (arith, c.newest_run-source.ensures.most) in
    let long = part_length c.runs.done count c.runs.out (omega arith) in
    record {
      blocks = c.runs.done + count;
      within = within;
      needs = needs_too g.D.Disk.tells g.D.Disk.state g.met.D.Disk.sound c.args.shared.now c.args.self.now c.args.lbn (length c.args.out.now) c.runs.self c.read_run.new.self c.runs.done count _ long c.runs.out c.read_run.new.out c.runs.sources c.runs.sources
          c.runs.invariant c.requires.serves.up c.read_run.ensures.run.ready c.read_run.ensures.run.at c.read_run.ensures.run.read c.read_run.ensures.run.look c.read_run.ensures.run.needs;
    }

pub returns-in_err-run-clause-cause : goal.returns-in_err-run-clause-cause
returns-in_err-run-clause-cause g c =
    let p = err_from_is_err_and c.from_residual.result c.from_residual.ensures.1 in
    rw (p.1, p.2) (rose_through g.D.Disk.state g.met.D.Disk.sound c.args.self.now c.runs.self c.read_run.new.self c.runs.invariant.read c.in_err-run.field-0.0 c.in_err-run.ensures.cause)

pub runs-preserved : goal.runs-preserved
runs-preserved g c =
    let count = c.newest_run-source.result.1 in
    let within : c.runs.done + count ≤ length c.args.out.now = omega (arith, c.newest_run-source.ensures.most) in
    let long = part_length c.runs.done count c.runs.out (omega arith) in
    run_read g.D.Disk.tells g.D.Disk.state g.met.D.Disk.sound c.args.shared.now c.args.self.now c.args.lbn (length c.args.out.now) c.runs.self c.read_run.new.self c.runs.done count _ long c.runs.out c.read_run.new.out c.runs.sources c.in_ok-run.run'
    c.runs.invariant c.requires.serves.up c.read_run.ensures.run.ready c.read_run.ensures.run.at c.read_run.ensures.run.read c.read_run.ensures.run.look c.read_run.ensures.run.needs c.in_ok-run.ensures.content c.in_ok-run.ensures.counted.0 c.in_ok-run.ensures.counted.1 c.in_ok-run.ensures.calm
    within (sym c.runs.auto.out) c.read_run.auto.out
