use Rattle.std.proofs.Common.{◌≡◌, Some, None, Option, IfSome, IfOk, option_map, get_or, sym, ap, subst, ◌∙◌, List}
use Rattle.std.specs.Prelude.{string_bytes}
use Rattle.wol_disk.specs.BlockValues.{all_values}
use Rattle.wol_disk.specs.declared.stop.StopDisk.{StopDisk}
use Rattle.wol_disk.specs.declared.memory.MemDisk.{MemDisk}
use Rattle.wol_bay.specs.Bay.{Image, at_name}
use Rattle.wol_bay.specs.Names.{by_name}
use Rattle.wol_bay.specs.Stored.{stored_blocks}
use Rattle.wol_bay.specs.declared.held.Image as held
use Rattle.wol_bay.proofs.Attached.{told_image, told_absent}
use Rattle.wol_bay.proofs.memory.MemBay.list_blocks.Goals as goal

pub returns-in-Some : goal.returns-in-Some
returns-in-Some c =
    let image = c.index.result.now in
    let d = c.deref.ensures.value in
    let there = subst (λ (l : List held.Image). at_name c.args.name.now (by_name (λ i. string_bytes i.name) l) ≡ Some image) d (c.in-Some.ensures.value image (c.index.ensures ∙ ap (λ (l : List held.Image). get_or l c.in-Some.at image) (sym d))) in
    let P : Option Image → Type 0 = λ o. IfOk c.list_parts.result (λ list. IfSome (option_map (λ i. i.blocks) o) (λ vs. all_values list.items ≡ vs)) in
    let Q : List (StopDisk MemDisk) → Type 0 = λ l. IfOk c.list_parts.result (λ list. all_values list.items ≡ stored_blocks l) in
    subst P (sym (told_image c.args.name.now c.args.self.now.images.items image there)) (subst Q c.deref-in-Some.ensures.value c.list_parts.ensures)

pub returns-in-None : goal.returns-in-None
returns-in-None c =
    let there = subst (λ (l : List held.Image). at_name c.args.name.now (by_name (λ i. string_bytes i.name) l) ≡ None) c.deref.ensures.value c.in-None.ensures.none in
    let P : Option Image → Type 0 = λ o. IfSome (option_map (λ i. i.blocks) o) (λ vs. all_values c.new.result.items ≡ vs) in
    subst P (sym (told_absent c.args.name.now c.args.self.now.images.items there)) tt
