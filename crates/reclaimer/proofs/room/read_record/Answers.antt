-- The record of a version is read into the first blocks of the room.
use Rattle.std.proofs.Common.{length, drop, ap, sym, arith, ◌∙◌}
use Rattle.redirect_map.specs.Index.{Contents}
use Rattle.reclaimer.proofs.ReadRecord.{of_version, fetch_of, data_of, length_take}
use Rattle.std.proofs.lemmas.Option.{same_Some}
use Rattle.reclaimer.proofs.room.read_record.Goals as goal

pub slice_bounds-fetch_rec-end : goal.slice_bounds-fetch_rec-end
slice_bounds-fetch_rec-end g c =
    let o = of_version c.args.m.now.index.entries c.args.version c.in-Some.record c.index.result.now (ap (λ (i : Contents). i.entries) c.index.ensures) c.in-Some.ensures.index c.in-Some.ensures.value in
    omega (arith, o.few, c.requires.room)

pub slice_bounds-fetch_rec-end-2 : goal.slice_bounds-fetch_rec-end-2
slice_bounds-fetch_rec-end-2 g c =
    let o = of_version c.args.m.now.index.entries c.args.version c.in-Some.record c.index.result.now (ap (λ (i : Contents). i.entries) c.index.ensures) c.in-Some.ensures.index c.in-Some.ensures.value in
    sym (length_take c.in-Some.record.count c.args.blocks.now (omega (arith, o.few, c.requires.room)))

pub fetch_rec-requires-clause-count : goal.fetch_rec-requires-clause-count
fetch_rec-requires-clause-count g c e is =
    let o = of_version c.args.m.now.index.entries c.args.version c.in-Some.record c.index.result.now (ap (λ (i : Contents). i.entries) c.index.ensures) c.in-Some.ensures.index c.in-Some.ensures.value in
    length_take c.in-Some.record.count c.args.blocks.now (omega (arith, o.few, c.requires.room)) ∙ o.record_.count ∙ ap (λ x. length x.listed.keep) (same_Some o.entry e (sym o.is ∙ is))

pub returns-clause-few : goal.returns-clause-few
returns-clause-few g c = ((of_version c.args.m.now.index.entries c.args.version c.in-Some.record c.index.result.now (ap (λ (i : Contents). i.entries) c.index.ensures) c.in-Some.ensures.index c.in-Some.ensures.value).few, c.due-due.type_inv)

pub returns-clause-filled : goal.returns-clause-filled
returns-clause-filled g c =
    let r = c.in-Some.record in
    let o = of_version c.args.m.now.index.entries c.args.version r c.index.result.now (ap (λ (i : Contents). i.entries) c.index.ensures) c.in-Some.ensures.index c.in-Some.ensures.value in
    fetch_of c.args.m.now.index.entries c.args.version r o c.fetch_rec.new.out (drop r.count c.args.blocks.now) (c.fetch_rec.auto.out ∙ length_take r.count c.args.blocks.now (omega (arith, o.few, c.requires.room)))
    c.due-due.result c.index-2.result.now (ap (λ (i : Contents). i.entries) c.index-2.ensures) c.due-due.ensures.value

pub returns-clause-content : goal.returns-clause-content
returns-clause-content g c b notes keeps =
    let r = c.in-Some.record in
    let o = of_version c.args.m.now.index.entries c.args.version r c.index.result.now (ap (λ (i : Contents). i.entries) c.index.ensures) c.in-Some.ensures.index c.in-Some.ensures.value in
    data_of c.args.m.now.index.entries c.args.version r o c.fetch_rec.new.out (drop r.count c.args.blocks.now) (c.fetch_rec.auto.out ∙ length_take r.count c.args.blocks.now (omega (arith, o.few, c.requires.room)))
    g.D.Disk.tells b notes (c.in_ok-fetch_rec.ensures.content b notes keeps)
