-- A record leaves its segment.
use Rattle.std.proofs.Common.{map, sym, ap, ◌∙◌}
use Rattle.std.specs.Prelude.{position}
use Rattle.whatif.specs.declared.store.Segment.{Segment}
use Rattle.whatif.specs.Volumes.{segment_in}
use Rattle.whatif.proofs.Shelves.{cleared_gone, cleared_kept, cleared_none, has, rest_of}
use Rattle.whatif.proofs.store.clear.Goals as goal

pub returns-in_default : goal.returns-in_default
returns-in_default c = cleared_none c.args.version c.args.segments.now.items (ap (position (has c.args.version)) (sym c.as_slice.ensures.value) ∙ sym c.with_record.ensures ∙ c.in_default.is)

pub returns-then-leave : goal.returns-then-leave
returns-then-leave c =
    let xs = c.args.segments.now.items in
    ap (map segment_in) c.remove.ensures.items
    ∙ cleared_gone c.args.version xs c.in-Some.at c.index_mut.result.now c.leave.new.self (ap (position (has c.args.version)) (sym c.as_slice.ensures.value) ∙ sym c.with_record.ensures ∙ c.in-Some.is)
    (c.leave.ensures.records ∙ ap (rest_of c.args.version) c.index_mut.ensures.value) (sym c.leave.ensures.last ∙ c.if-leave.true)

pub returns-else-leave : goal.returns-else-leave
returns-else-leave c =
    let xs = c.args.segments.now.items in
    cleared_kept c.args.version xs c.in-Some.at c.index_mut.result.now c.leave.new.self (ap (position (has c.args.version)) (sym c.as_slice.ensures.value) ∙ sym c.with_record.ensures ∙ c.in-Some.is)
    (c.leave.ensures.left ∙ ap (λ (s : Segment). s.left) c.index_mut.ensures.value) (c.leave.ensures.records ∙ ap (rest_of c.args.version) c.index_mut.ensures.value) (sym c.leave.ensures.last ∙ c.if-leave.false)
