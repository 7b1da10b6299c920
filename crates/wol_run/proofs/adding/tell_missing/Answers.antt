use Rattle.std.proofs.Common.{sym, subst}
use Rattle.rack.specs.declared.missing.MissingFault.{MissingFault}
use Rattle.wol_run.specs.Adding.{EndsOrMemory, missing_status, missing_text}
use Rattle.wol_run.proofs.adding.tell_missing.Goals as goal

pub returns-in-HasSegment-clause-content : goal.returns-in-HasSegment-clause-content
returns-in-HasSegment-clause-content g c =
    subst (λ (f : MissingFault). EndsOrMemory (missing_text c.args.config.now c.args.name.now f) (missing_status f) c.tell_words-in-HasSegment.result (g.K.Sink.taken c.args.out.now) (g.K.Sink.taken c.tell_words-in-HasSegment.new.out))
    (sym c.in-HasSegment.is) (rw (c.from.ensures, c.name_of-in-HasSegment.ensures) at c.tell_words-in-HasSegment.ensures.content)

pub returns-in-InView-clause-content : goal.returns-in-InView-clause-content
returns-in-InView-clause-content g c =
    subst (λ (f : MissingFault). EndsOrMemory (missing_text c.args.config.now c.args.name.now f) (missing_status f) c.tell_words-in-InView.result (g.K.Sink.taken c.args.out.now) (g.K.Sink.taken c.tell_words-in-InView.new.out))
    (sym c.in-InView.is) (rw (c.name_of.ensures) at c.tell_words-in-InView.ensures.content)
