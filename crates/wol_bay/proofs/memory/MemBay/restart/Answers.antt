use Rattle.std.proofs.Common.{◌≡◌, ◌*◌, Some, false, true, is_some, length, List, sym, ap, ◌∙◌, arith}
use Rattle.std.proofs.lemmas.List.{with_items_is}
use Rattle.std.specs.Prelude.{string_bytes}
use Rattle.std.specs.Vec.{with_items}
use Rattle.wol_disk.specs.Disk.{only}
use Rattle.wol_disk.specs.Record.{chosen}
use Rattle.wol_disk.specs.declared.stop.StopDisk.{StopDisk}
use Rattle.wol_disk.specs.declared.memory.MemDisk.{MemDisk}
use Rattle.wol_bay.specs.Bay.{crashed, restarted_as}
use Rattle.wol_bay.specs.Stored.{stored_blocks}
use Rattle.wol_bay.specs.MemBay.{named_image, told_of}
use Rattle.wol_bay.proofs.Attached.{told_image, told_absent}
use Rattle.wol_bay.proofs.BayMoves.{has_name, replaced}
use Rattle.wol_bay.proofs.Crashes.{length-crashed}
use Rattle.wol_bay.proofs.ImagesApart.{placed_apart}
use Rattle.wol_bay.proofs.memory.MemBay.restart.Goals as goal

pub unreachable-requires : goal.unreachable-requires
unreachable-requires c = let f : false ≡ true = sym (ap is_some (told_absent c.args.name.now c.args.self.now.images.items (sym c.in_default.ensures.result))) ∙ c.requires.there in cc

pub invariant_of-left : goal.invariant_of-left
invariant_of-left c =
    let image = c.in-Some.image in
    let vs = stored_blocks image.parts.items in
    let kept = with_items_is image.parts c.restart_parts.new.parts (omega (arith, c.restart_parts.auto.parts, c.deref_mut.ensures.len)) in
    let left : stored_blocks (with_items image.parts c.restart_parts.new.parts).items ≡ only (chosen c.args.choice.now vs) =
    ap stored_blocks kept ∙ c.restart_parts.ensures ∙ ap (λ (l : List (StopDisk MemDisk)). only (chosen c.args.choice.now (stored_blocks l))) c.deref_mut.ensures.value in
    let same : 512 * length (stored_blocks (with_items image.parts c.restart_parts.new.parts).items) ≡ 512 * length vs = ap (λ n. 512 * n) (ap length left ∙ length-crashed c.args.choice.now vs) in
    record { in_all = omega (arith, image.in_all, same); short = image.short }

pub returns-clause-left : goal.returns-clause-left
returns-clause-left c =
    let image = c.in-Some.image in
    let name = c.args.name.now in
    let choice = c.args.choice.now in
    let bay = c.args.self.now in
    let named : string_bytes image.name ≡ name = has_name (λ image. string_bytes image.name) (λ image. (named_image image).1) name bay.images.items image c.in-Some.ensures.result in
    let kept = with_items_is image.parts c.restart_parts.new.parts (omega (arith, c.restart_parts.auto.parts, c.deref_mut.ensures.len)) in
    let left : stored_blocks (with_items image.parts c.restart_parts.new.parts).items ≡ only (chosen choice (stored_blocks image.parts.items)) =
    ap stored_blocks kept ∙ c.restart_parts.ensures ∙ ap (λ (l : List (StopDisk MemDisk)). only (chosen choice (stored_blocks l))) c.deref_mut.ensures.value in
    let more = c.push_reserved.ensures.items in
    ap Some (replaced name (crashed choice (named_image image).1) bay.images.items c.take_by_name.new.entries.items c.push_reserved.new.self.items bay.out.items bay.faulty.items _
    c.take_by_name.ensures.entries more (λ i. (named i, record { blocks = left i; rest = image.rest.items }))
    ∙ sym (ap (λ o. restarted_as name choice o (told_of bay.images.items bay.out.items bay.faulty.items)) (told_image name bay.images.items image (sym c.in-Some.ensures.result))))

pub invariant_of-self-clause-apart : goal.invariant_of-self-clause-apart
invariant_of-self-clause-apart c =
    let image = c.in-Some.image in
    let name = c.args.name.now in
    let images = c.args.self.now.images.items in
    let named : string_bytes image.name ≡ name = has_name (λ image. string_bytes image.name) (λ image. (named_image image).1) name images image c.in-Some.ensures.result in
    let more = c.push_reserved.ensures.items in
    placed_apart name images c.take_by_name.new.entries.items c.args.self.now.apart c.take_by_name.ensures.entries c.push_reserved.new.self.items _ more named
