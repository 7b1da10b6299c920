use Rattle.std.proofs.Common.{◌≡◌, ◌<◌, [], length, get_or, ◌++◌, ap, ◌∙◌, sym, arith}
use Rattle.std.proofs.lemmas.List.{take_all}
use Rattle.wol_disk.specs.Disk.{only, fresh}
use Rattle.wol_disk.specs.Memory.{mem_values}
use Rattle.wol_disk.specs.Record.{block_after}
use Rattle.wol_disk.specs.RecordSound.{length-values_after, length-only}
use Rattle.wol_disk.specs.BlockValues.{all_values, values_of}
use Rattle.std.proofs.lemmas.List.{get_or_default}
use Rattle.wol_disk.proofs.Chosen.{values_here}
use Rattle.wol_disk.proofs.Building.{listed_more}
use Rattle.wol_disk.proofs.memory.MemDisk.list_values.Goals as goal

pub loop-i-preserved : goal.loop-i-preserved
loop-i-preserved c =
    let disk = c.args.self.now in
    let i = c.loop-i.i in
    let all = mem_values disk in
    let v = c.in_ok-after.field-0 in
    let size : length all ≡ length disk.first.items = length-values_after disk.calls.items (only disk.first.items) ∙ length-only disk.first.items in
    let lt : i < length disk.first.items = omega (arith, c.loop-i-test.true, ap length c.deref-first-items.ensures.value) in
    let b = get_or disk.first.items i [] in
    let is : values_of v ≡ block_after i disk.calls.items (fresh b) = c.in_ok-after.ensures ∙ ap (λ l. block_after i l (fresh (get_or c.deref-first-items.result.now i []))) c.deref.ensures.value
    ∙ ap (λ l. block_after i disk.calls.items (fresh (get_or l i []))) c.deref-first-items.ensures.value in
    let here : values_of v ≡ get_or all i (values_of v) = is ∙ values_here disk.first.items disk.calls.items i b lt (get_or_default disk.first.items i [] b lt) ∙ sym (ap (get_or all i) is) in
    listed_more c.loop-i.list.items c.push.new.self.items v (all_values c.args.list.now.items) all i c.in_ok-push.ensures.items c.loop-i.invariant (omega (arith, lt, size)) here

pub returns : goal.returns
returns c =
    let disk = c.args.self.now in
    let all = mem_values disk in
    let size : length all ≡ length disk.first.items = length-values_after disk.calls.items (only disk.first.items) ∙ length-only disk.first.items in
    c.loop-i.invariant ∙ ap (λ l. all_values c.args.list.now.items ++ l) (take_all c.loop-i.i all (omega (arith, size)))
