use Rattle.std.proofs.Common.{◌≡◌, Some, zero, length, option_map, sym, ap, ◌∙◌}
use Rattle.std.proofs.lemmas.List.{length-replicate}
use Rattle.wol_disk.specs.Disk.{only, added, settled}
use Rattle.wol_disk.specs.Memory.{mem_values}
use Rattle.wol_disk.specs.Zeros.{zeros, zero_block}
use Rattle.wol_bay.proofs.Written.{all_written}
use Rattle.wol_bay.proofs.held.disk_of.Goals as goal

pub returns : goal.returns
returns c =
    let blocks = c.args.blocks.now in
    let told : Some (mem_values c.sync.new.self) ≡ Some (settled (added zero blocks (only (zeros (length blocks))))) =
    c.in-Ok-sync.ensures.ok ∙ ap (option_map settled) (c.in-Ok.ensures.ok ∙ ap (option_map (added zero blocks)) c.in_ok-disk.ensures.values) in
    let is : mem_values c.sync.new.self ≡ settled (added zero blocks (only (zeros (length blocks)))) = cc in
    is ∙ all_written blocks (zeros (length blocks)) (sym (length-replicate (length blocks) zero_block))
