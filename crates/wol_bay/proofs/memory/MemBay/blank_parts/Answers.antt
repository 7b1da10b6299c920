use Rattle.std.proofs.Common.{[], ◌∷◌, length, take, get_or, ap, ◌∙◌, arith, length-append}
use Rattle.std.proofs.lemmas.List.{take_more}
use Rattle.wol_disk.specs.Memory.{mem_state}
use Rattle.wol_disk.specs.Stop.{stop_state}
use Rattle.wol_bay.specs.MemBay.{mem_bay_state, plans_of, bay_fuse}
use Rattle.wol_bay.proofs.PartLists.{blank_push}
use Rattle.wol_bay.proofs.BayMoves.{armed_push}
use Rattle.wol_bay.proofs.memory.MemBay.blank_parts.Goals as goal

pub loop-place-preserved : goal.loop-place-preserved
loop-place-preserved c =
    let k = c.loop-place.place in
    let sizes = c.args.sizes.now in
    let parts = c.loop-place.parts.items in
    let i = c.loop-place.invariant in
    record {
      blank = rw (take_more sizes k 0 (omega arith), c.in_ok-push.ensures.items)
          (blank_push (λ s. stop_state mem_state s) (mem_bay_state c.args.self.now).told (take k sizes) (get_or sizes k 0) parts c.in_ok-blank.field-0 i.blank c.in_ok-blank.ensures.blank);
      armed = rw c.in_ok-push.ensures.items (armed_push c.args.name.now 0 k (plans_of c.args.self.now) (bay_fuse c.args.self.now) parts c.in_ok-blank.field-0 (omega (arith, i.count)) i.armed c.in_ok-blank.ensures.armed);
      count = ap length c.in_ok-push.ensures.items ∙ length-append parts (c.in_ok-blank.field-0 ∷ []) ∙ omega (arith, i.count);
    }
