use Rattle.std.proofs.Common.{List, ℕ, subst, take, get_or, None, refl, arith}
use Rattle.std.proofs.lemmas.List.{take_more, take_all}
use Rattle.wol_bay.specs.FilePart.{file_part_state}
use Rattle.wol_bay.specs.Parts.{AreBlank}
use Rattle.wol_bay.proofs.PartLists.{blank_push, blank_cut}
use Rattle.wol_bay.proofs.files.parts_of.Goals as goal

pub loop-size-preserved : goal.loop-size-preserved
loop-size-preserved c =
    let i = c.loop-size.size-index in
    let n = get_or c.args.sizes.now i 0 in
    rw (take_more c.args.sizes.now i 0 (omega arith), c.in_ok-push.ensures.items)
    (blank_push file_part_state None (take i c.args.sizes.now) n c.loop-size.parts.items _ c.loop-size.invariant (record { sized = refl; quiet = refl; content = tt; zero = tt }, tt))

pub returns-clause-cut : goal.returns-clause-cut
returns-clause-cut c =
    let all = subst (λ (l : List ℕ). AreBlank file_part_state None l c.loop-size.parts.items) (take_all c.loop-size.size-index c.args.sizes.now (omega arith)) c.loop-size.invariant in
    blank_cut file_part_state c.args.sizes.now c.loop-size.parts.items all
