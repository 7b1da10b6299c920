use Rattle.std.proofs.Common.{◌≡◌, drop, length, refl, sym, ap, ◌∙◌, arith, add-one}
use Rattle.wol_disk.specs.Disk.{only}
use Rattle.wol_disk.specs.Record.{chosen}
use Rattle.wol_disk.specs.Memory.{mem_state, mem_values, mem_sound}
use Rattle.wol_disk.specs.Stop.{inner_of}
use Rattle.wol_disk.specs.declared.stop.StopDisk.{StopDisk}
use Rattle.wol_disk.specs.declared.memory.MemDisk.{MemDisk}
use Rattle.wol_bay.specs.Stored.{stored_blocks}
use Rattle.wol_bay.proofs.Crashes.{left_more}
use Rattle.wol_bay.proofs.restart.restart_parts.Goals as goal

pub loop-part-preserved : goal.loop-part-preserved
loop-part-preserved c =
    let part = c.part-item.result in
    let disk = inner_of part in
    let size : length (mem_values disk) ≡ c.blocks-in-loop-part.result = (mem_sound disk).each_block (mem_values disk) refl ∙ ap (λ (p : StopDisk MemDisk). (mem_state (inner_of p)).size) c.part-item.is ∙ sym (c.blocks-in-loop-part.ensures ∙ c.restart.ensures.size) in
    rw add-one (left_more (only (chosen c.args.choice.now (stored_blocks c.args.parts.now))) c.loop-part.parts c.loop-part.part-index c.loop-part.rest.now c.behind-rest.result.now part c.restart.new.self
    (omega arith) c.part-item.is
    (c.restart.ensures.values ∙ ap (λ (p : StopDisk MemDisk). only (chosen c.loop-part.rest.now (mem_values (inner_of p)))) (sym c.part-item.is)) (c.behind-rest.ensures ∙ ap (λ n. drop n c.loop-part.rest.now) (sym size)) c.loop-part.invariant)
