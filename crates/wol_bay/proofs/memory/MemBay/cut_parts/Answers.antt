use Rattle.std.proofs.Common.{◌+◌, ◌<◌, ◌≤◌, [], ◌∷◌, length, take, get_or, ap, sym, ◌∙◌, arith, length-append}
use Rattle.std.proofs.lemmas.List.{take_more}
use Rattle.std.proofs.lemmas.List.Sums.{sum_by_more, sum_by_more_le}
use Rattle.std.specs.Prelude.{sum}
use Rattle.wol_disk.specs.Memory.{mem_state}
use Rattle.wol_disk.specs.Stop.{stop_state}
use Rattle.wol_disk.specs.BlockValues.{all_values}
use Rattle.wol_bay.specs.MemBay.{plans_of, bay_fuse}
use Rattle.wol_bay.proofs.PartLists.{cut_push, fresh_part}
use Rattle.wol_bay.proofs.BayMoves.{armed_push}
use Rattle.wol_bay.proofs.memory.MemBay.cut_parts.Goals as goal

pub loop-place-preserved : goal.loop-place-preserved
loop-place-preserved c =
    let k = c.loop-place.place in
    let sizes = c.args.sizes.now in
    let values = c.args.values.now in
    let parts = c.loop-place.parts.items in
    let part = c.in_ok-armed.field-0 in
    let i = c.loop-place.invariant in
    let lt : k < length sizes = omega arith in
    let n = get_or sizes k 0 in
    let within : sum (take k sizes) + n ≤ sum sizes = sum_by_more_le (λ x. x) sizes k 0 lt in
    let le : c.loop-place.first + n ≤ length values = omega (arith, within, i.first, c.requires) in
    let fresh = fresh_part values c.loop-place.first n (sum (take k sizes)) (stop_state mem_state part) i.first le (c.in_ok-armed.ensures.values ∙ c.in_ok-disk.ensures.values) (c.in_ok-armed.ensures.size ∙ c.in_ok-disk.ensures.size) c.in_ok-armed.ensures.faults in
    record {
      cut = rw (take_more sizes k 0 lt, c.in_ok-push.ensures.items) (cut_push (λ s. stop_state mem_state s) (all_values values) (take k sizes) n parts part i.cut fresh);
      armed = rw c.in_ok-push.ensures.items (armed_push c.args.name.now 0 k (plans_of c.args.self.now) (bay_fuse c.args.self.now) parts part (omega (arith, i.count)) i.armed c.in_ok-armed.ensures.armed);
      count = ap length c.in_ok-push.ensures.items ∙ length-append parts (part ∷ []) ∙ omega (arith, i.count);
      first = ap (λ m. m + n) i.first ∙ sym (sum_by_more (λ x. x) sizes k 0 lt);
    }
