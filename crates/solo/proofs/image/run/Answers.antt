use Rattle.std.proofs.Common.{Err, ap, arith, sym, ◌∙◌}
use Rattle.solo.specs.Volume.{target_of}
use Rattle.solo.proofs.Imaging.{came_faulty, ends_stopped, ends_summed, no_disk, not_made, one_part, ran_in_bay, written_back}
use Rattle.solo.proofs.image.run.Goals as goal

pub returns-in-Err-clause-content : goal.returns-in-Err-clause-content
returns-in-Err-clause-content g c =
    rw c.fault_of_bay.ensures (not_made (Unit {0}) c.in-Err.fault (target_of c.args.volume.now) (g.S.Source.left c.args.trace.now) (g.B.Bay.state c.args.bay.now).told (g.B.Bay.state c.create.new.self).told (g.K.Sink.taken c.args.out.now) c.in-Err.ensures.err)

pub run_parts-ran-requires-clause-blank : goal.run_parts-ran-requires-clause-blank
run_parts-ran-requires-clause-blank g c = rw c.deref_mut.ensures.value (one_part g.B.Part.Disk.state (g.B.Bay.state c.args.bay.now).told c.args.volume.now.blocks c.in-Ok.parts.items c.in-Ok.ensures.parts)

pub returns-in-Ok-ran-clause-content : goal.returns-in-Ok-ran-clause-content
returns-in-Ok-ran-clause-content g c =
    let whole = written_back g.B.Part.Disk.state c.in-Ok.parts.len c.in-Ok.parts.items c.deref_mut.result.now c.run_parts-ran.new.parts c.deref_mut.ensures.value (omega arith) c.run_parts-ran.ensures.sizes in
    ends_summed (target_of c.args.volume.now) (g.S.Source.left c.args.trace.now) (g.S.Source.left c.run_parts-ran.new.trace) (g.B.Bay.state c.args.bay.now).told (g.B.Bay.state c.detach.new.self).told c.in-Ok-ran.tally c.sum_up.result _ _ _
    (ran_in_bay g.B.Part.Disk.state (target_of c.args.volume.now) _ _ _ (g.B.Bay.state c.create.new.self).told _ _ _ c.in-Ok.parts.items c.run_parts-ran.new.parts _ _ _ c.in-Ok.ensures.parts (rw c.deref_mut.ensures.value at c.run_parts-ran.ensures.sizes) c.in-Ok.ensures.ok (rw whole at c.detach.ensures.back)
    (rw (c.deref_mut.ensures.value, c.in-Ok-ran.is) at c.run_parts-ran.ensures.content))
    c.sum_up.ensures.content

pub returns-in-Err-ran-clause-content : goal.returns-in-Err-ran-clause-content
returns-in-Err-ran-clause-content g c =
    let whole = written_back g.B.Part.Disk.state c.in-Ok.parts.len c.in-Ok.parts.items c.deref_mut.result.now c.run_parts-ran.new.parts c.deref_mut.ensures.value (omega arith) c.run_parts-ran.ensures.sizes in
    ends_stopped (Unit {0}) (target_of c.args.volume.now) (g.S.Source.left c.args.trace.now) (g.S.Source.left c.run_parts-ran.new.trace) (g.B.Bay.state c.args.bay.now).told (g.B.Bay.state c.detach.new.self).told c.in-Err-ran.fault _ _
    (ran_in_bay g.B.Part.Disk.state (target_of c.args.volume.now) _ _ _ (g.B.Bay.state c.create.new.self).told _ _ _ c.in-Ok.parts.items c.run_parts-ran.new.parts _ _ _ c.in-Ok.ensures.parts (rw c.deref_mut.ensures.value at c.run_parts-ran.ensures.sizes) c.in-Ok.ensures.ok (rw whole at c.detach.ensures.back)
    (rw (c.deref_mut.ensures.value, c.in-Err-ran.is) at c.run_parts-ran.ensures.content))

pub returns-in-Err-clause-faulty : goal.returns-in-Err-clause-faulty
returns-in-Err-clause-faulty g c = λ is. absurd (no_disk c.in-Err.fault (sym c.fault_of_bay.ensures ∙ cc is))

pub returns-in-Err-ran-clause-faulty : goal.returns-in-Err-ran-clause-faulty
returns-in-Err-ran-clause-faulty g c =
    let whole = written_back g.B.Part.Disk.state c.in-Ok.parts.len c.in-Ok.parts.items c.deref_mut.result.now c.run_parts-ran.new.parts c.deref_mut.ensures.value (omega arith) c.run_parts-ran.ensures.sizes in
    λ is. came_faulty g.B.Part.Disk.state (g.B.Bay.state c.args.bay.now).told (g.B.Bay.state c.create.new.self).told (g.B.Bay.state c.detach.new.self).told _ c.args.volume.now.blocks _ c.in-Ok.parts.items c.run_parts-ran.new.parts c.in-Ok.ensures.parts
    (rw c.deref_mut.ensures.value at c.run_parts-ran.ensures.sizes) c.in-Ok.ensures.ok (rw whole at c.detach.ensures.back) (c.run_parts-ran.ensures.disk (c.in-Err-ran.is ∙ ap (λ f. Err f) (cc is)))
