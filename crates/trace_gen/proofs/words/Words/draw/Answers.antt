use Rattle.trace_gen.proofs.Drawing.{five_drawn, five_behind}
use Rattle.trace_gen.proofs.words.Words.draw.Goals as goal

pub returns-clause-drawn : goal.returns-clause-drawn
returns-clause-drawn c = five_drawn _ _ _ _ _ _ _ _ _ _ _ c.next_u64.ensures c.next_u64-2.ensures c.next_u64-3.ensures c.next_u64-4.ensures c.next_u64-5.ensures

pub returns-clause-rest : goal.returns-clause-rest
returns-clause-rest c = five_behind _ _ _ _ _ _ _ _ _ _ _ c.next_u64.ensures c.next_u64-2.ensures c.next_u64-3.ensures c.next_u64-4.ensures c.next_u64-5.ensures
