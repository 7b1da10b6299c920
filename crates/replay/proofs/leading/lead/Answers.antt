use Rattle.replay.proofs.leading.lead.Goals as goal

pub returns-clause-led : goal.returns-clause-led
returns-clause-led g c = let e = c.serve_all-served.ensures in record {
  session = e.session;
  same = e.same;
  locks = e.locks;
  whole = e.whole;
  some = e.some;
  later = e.later;
  source_later = e.source_later;
  source = e.source;
  same_borrow = e.same_borrow;
  within = e.within;
}
