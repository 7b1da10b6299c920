use Rattle.std.proofs.Common.{map, ap, ◌∙◌, sym, ◌++◌, ◌∷◌, [], List, take}
use Rattle.std.proofs.lemmas.List.{take_more, map-append}
use Rattle.wol_disk.specs.Disk.{Block}
use Rattle.wol_disk.specs.BlockValues.{oldest_of}
use Rattle.wol_disk.specs.declared.values.BlockValues.{BlockValues}
use Rattle.wol_disk.proofs.values.BlockValues.oldest_blocks.Goals as goal

pub loop-block-preserved : goal.loop-block-preserved
loop-block-preserved c =
    let k = c.loop-block.block-index in
    let bs = c.args.values.now in
    let b = c.block-item.result in
    c.in_ok-push.ensures.items ∙ ap (λ (x : Block). c.loop-block.blocks.items ++ x ∷ []) c.oldest.ensures ∙ ap (λ l. l ++ oldest_of b ∷ []) c.loop-block.invariant ∙ sym (map-append oldest_of (take k bs) (b ∷ []))
    ∙ sym (ap (λ (l : List BlockValues). map oldest_of l) (take_more bs k b c.loop-block-test.true ∙ ap (λ (x : BlockValues). take k bs ++ x ∷ []) (sym c.block-item.is)))
