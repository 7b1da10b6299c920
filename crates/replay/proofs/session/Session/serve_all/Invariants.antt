use Rattle.replay.proofs.Basics.{◌≡◌, ◌≤◌, ◌*◌}
use Rattle.replay.proofs.Terms.{IsCrew, IsLive, borrow_of, faults_of, given_count, AreSamePasses, IsSession}
use Rattle.replay.proofs.LinesServed.{SoFar}
use Rattle.replay.proofs.Outcomes.{HasFew}
use Rattle.replay.proofs.session.Session.serve_all.Given as goal

abbrev pub invariant-loop : goal.invariant-loop
invariant-loop g l = record {
  so_far : SoFar g.D.Disk.tells g.S.Source.left l.config l.options l.initial.given l.initial.self.floor l.initial.self.keepers.items (g.K.Sink.faults l.initial.out) (g.K.Sink.taken l.initial.out)
      l.given l.cutter l.self (g.K.Sink.faults l.out) (g.K.Sink.taken l.out);
  live : IsLive l.given;
  turns : given_count l.given ≡ l.counter;
  lines : l.cutter.tally.lines ≡ l.counter;
  most : given_count l.given ≤ 4294967296;
  few : HasFew (131073 * l.counter) l.self.totals;
  session : IsSession l.config l.shared l.self;
  crew : IsCrew l.crew;
  same : AreSamePasses l.initial.self.keepers.items l.self.keepers.items;
  locks : l.self.floor.locks ≡ l.initial.self.floor.locks;
  later : g.K.Sink.faults l.initial.out ≤ g.K.Sink.faults l.out;
  source_later : faults_of g.S.Source.faults l.initial.given ≤ faults_of g.S.Source.faults l.given;
  source_calm : faults_of g.S.Source.faults l.given ≡ faults_of g.S.Source.faults l.initial.given;
  same_borrow : borrow_of g.S.Source.borrow l.given ≡ borrow_of g.S.Source.borrow l.initial.given;
}
