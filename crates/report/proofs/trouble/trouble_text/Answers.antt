use Rattle.report.specs.Troubles.{trouble_text}
use Rattle.report.proofs.trouble.trouble_text.Goals as goal

pub returns-in-Segment-clause-ok : goal.returns-in-Segment-clause-ok
unfolding trouble_text
returns-in-Segment-clause-ok c =
    rw c.in-Segment.is
    (rw (c.from-in-Segment.ensures, c.name_at-in-Segment.ensures) at c.append_place-in-Segment.ensures.ok)
