-- The most of one more.
use Rattle.whatif.specs.declared.logged.Held.{Held}
use Rattle.whatif.proofs.Counting.{raised}
use Rattle.whatif.proofs.logged.Most.raise.Goals as goal

pub returns : goal.returns
returns c = λ hs is. record {
  blocks = raised (λ (h : Held). h.blocks) hs c.args.held.now c.args.self.now.blocks c.max-self.result is.blocks c.max-self.ensures;
  segments = raised (λ (h : Held). h.segments) hs c.args.held.now c.args.self.now.segments c.max-self-2.result is.segments c.max-self-2.ensures;
}
