-- A record comes into a segment.
use Rattle.std.proofs.Common.{map, leb, sym, ap, ◌∙◌}
use Rattle.std.specs.Prelude.{position}
use Rattle.whatif.specs.declared.store.Segment.{Segment}
use Rattle.whatif.specs.Logs.{taking}
use Rattle.whatif.specs.Volumes.{segment_in}
use Rattle.whatif.proofs.Lined.{on_ok}
use Rattle.whatif.proofs.Shelves.{filed_none, filed_some}
use Rattle.whatif.proofs.store.file.Goals as goal

pub returns-in_default : goal.returns-in_default
returns-in_default c =
    ap (map segment_in) c.in_ok-push.ensures.items
    ∙ filed_none c.args.whole c.args.size c.args.version c.args.segments.now.items c.in_ok-segment.segment (ap (position (λ (s : Segment). leb c.args.size s.left)) (sym c.as_slice.ensures.value) ∙ sym c.with_room.ensures ∙ c.in_default.is) c.in_ok-segment.ensures

pub returns : goal.returns
returns c =
    on_ok c.take.result _ _
    (λ e. filed_some c.args.whole c.args.size c.args.version c.args.segments.now.items c.in-Some.at c.index_mut.result.now c.take.new.self
    (ap (position (λ (s : Segment). leb c.args.size s.left)) (sym c.as_slice.ensures.value) ∙ sym c.with_room.ensures ∙ c.in-Some.is)
    (e ∙ ap (λ (s : Segment). taking c.args.size c.args.version (segment_in s)) c.index_mut.ensures.value))
    c.take.ensures
