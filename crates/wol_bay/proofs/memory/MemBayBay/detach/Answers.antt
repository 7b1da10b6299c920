use Rattle.std.proofs.Common.{◌≡◌, ◌*◌, sym, length, Some, ap, ◌∙◌, arith}
use Rattle.std.proofs.lemmas.List.{length-map}
use Rattle.std.specs.Prelude.{string_bytes, sum}
use Rattle.wol_disk.specs.Memory.{mem_state}
use Rattle.wol_disk.specs.Stop.{stop_state}
use Rattle.wol_bay.specs.Bay.{each_place}
use Rattle.wol_bay.specs.Parts.{faulty_places, sizes_of}
use Rattle.wol_bay.specs.Stored.{stored_blocks}
use Rattle.wol_bay.specs.declared.held.Faulty.{Faulty}
use Rattle.wol_bay.proofs.BayMoves.{came, found_of, not_missing, has_name}
use Rattle.wol_bay.proofs.Attached.{stored_size}
use Rattle.wol_bay.proofs.ImagesApart.{placed_apart}
use Rattle.wol_bay.proofs.memory.MemBayBay.detach.Goals as goal

pub unreachable-requires : goal.unreachable-requires
unreachable-requires c = not_missing (λ leave. string_bytes leave.name) (λ leave. leave.sizes.items) c.args.name.now c.args.self.now.out.items _ c.in_default.ensures.result c.requires

pub mark_faulty-requires-clause-room : goal.mark_faulty-requires-clause-room
mark_faulty-requires-clause-room c =
    let leave = c.in-Some.leave in
    let sizes : leave.sizes.items ≡ sizes_of (λ part. stop_state mem_state part) c.args.parts.items =
    found_of (λ leave. string_bytes leave.name) (λ leave. leave.sizes.items) c.args.name.now c.args.self.now.out.items leave _ c.in-Some.ensures.result c.requires in
    omega (arith, leave.room, simp length-map at (ap length sizes), ap length c.deref.ensures.value)

pub returns-clause-back : goal.returns-clause-back
returns-clause-back c =
    let leave = c.in-Some.leave in
    let named : string_bytes leave.name ≡ c.args.name.now = has_name (λ leave. string_bytes leave.name) (λ leave. leave.sizes.items) c.args.name.now c.args.self.now.out.items leave c.in-Some.ensures.result in
    let places = faulty_places (λ part. stop_state mem_state part) c.args.parts.items in
    let more = c.push_reserved.ensures.items in
    let whose : string_bytes leave.faulty.name ≡ c.args.name.now = leave.same_name ∙ named in
    let marks : c.mark_faulty.new.places.items ≡ places = c.mark_faulty.ensures ∙ ap (λ l. faulty_places (λ part. stop_state mem_state part) l) c.deref.ensures.value in
    let note : Faulty = record { name = leave.faulty.name; places = c.mark_faulty.new.places } in
    ap Some (came c.args.name.now places c.args.parts.items c.args.self.now.images.items c.take_by_name-older.new.entries.items c.push_reserved.new.self.items
    c.args.self.now.out.items c.take_by_name.new.entries.items c.args.self.now.faulty.items c.keep_faulty.new.list.items _ note
    c.take_by_name.ensures.entries c.take_by_name-older.ensures.entries more
    (λ i. (named i, record { blocks = stored_blocks c.args.parts.items; rest = c.new.ensures.items i })) c.keep_faulty.ensures.list (λ i. each_place (whose i) (marks i)))

pub invariant_of-image : goal.invariant_of-image
invariant_of-image c =
    let leave = c.in-Some.leave in
    let parts = c.args.parts.items in
    let sizes : leave.sizes.items ≡ sizes_of (λ part. stop_state mem_state part) parts =
    found_of (λ leave. string_bytes leave.name) (λ leave. leave.sizes.items) c.args.name.now c.args.self.now.out.items leave _ c.in-Some.ensures.result c.requires in
    let rest : length c.new.result.items ≡ 0 = ap length c.new.ensures.items in
    let all : leave.bytes ≡ 512 * length (stored_blocks parts) = leave.in_all ∙ ap (λ n. 512 * n) (ap sum sizes ∙ sym (stored_size parts)) in
    record { in_all = omega (arith, all, rest); short = omega (arith, rest) }

pub invariant_of-self-clause-apart : goal.invariant_of-self-clause-apart
invariant_of-self-clause-apart c =
    let leave = c.in-Some.leave in
    let name = c.args.name.now in
    let images = c.args.self.now.images.items in
    let named : string_bytes leave.name ≡ name = has_name (λ leave. string_bytes leave.name) (λ leave. leave.sizes.items) name c.args.self.now.out.items leave c.in-Some.ensures.result in
    let more = c.push_reserved.ensures.items in
    placed_apart name images c.take_by_name-older.new.entries.items c.args.self.now.apart c.take_by_name-older.ensures.entries c.push_reserved.new.self.items _ more named
