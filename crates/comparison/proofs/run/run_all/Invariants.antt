use Rattle.std.proofs.Common.{◌≡◌, ◌≤◌}
use Rattle.std.specs.Prelude.{is_some}
use Rattle.replay.specs.Givens.{IsLive, borrow_of, faults_of, given_count}
use Rattle.comparison.specs.Asked.{tells_more}
use Rattle.comparison.proofs.Lines.{SoFar}
use Rattle.comparison.proofs.run.run_all.Given as goal

abbrev pub invariant-loop : goal.invariant-loop
invariant-loop g l = record {
  so_far : SoFar g.S.Source.left l.details l.config l.initial.given l.given l.cutter l.comparison;
  more : is_some l.comparison.machines.views ≡ tells_more l.details;
  live : IsLive l.given;
  turns : given_count l.given ≡ l.counter;
  lines : l.cutter.tally.lines ≡ l.counter;
  most : given_count l.given ≤ 4294967296;
  source_later : faults_of g.S.Source.faults l.initial.given ≤ faults_of g.S.Source.faults l.given;
  source_calm : faults_of g.S.Source.faults l.given ≡ faults_of g.S.Source.faults l.initial.given;
  same_borrow : borrow_of g.S.Source.borrow l.given ≡ borrow_of g.S.Source.borrow l.initial.given;
}
