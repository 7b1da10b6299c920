use Rattle.std.proofs.Common.{◌≡◌, List, ◌∷◌, ◌++◌, length, Some, sym, ◌∙◌, ap, arith}
use Rattle.std.proofs.lemmas.Result.{on_ok_weaker}
use Rattle.std.specs.List.{flat_map}
use Rattle.wol_disk.specs.Disk.{Block, only, LeavesOnly}
use Rattle.wol_disk.specs.RecordSound.{length-only}
use Rattle.wol_disk.proofs.Moments.{widened, then_leaves}
use Rattle.wol_model.specs.Heads.{owned_block}
use Rattle.wol_model.specs.Log.{written, HasFirstOf}
use Rattle.spin_model.specs.Spun.{disk_of}
use Rattle.log_segment.specs.Records.{group_of}
use Rattle.log_segment.proofs.Laid.{same_records}
use Rattle.log_segment.proofs.Grouped.{named_group, first_left, grouped, none_of}
use Rattle.log_segment.proofs.group.append_records.Goals as goal

pub returns-in_err-lay_group-clause-any_moment : goal.returns-in_err-lay_group-clause-any_moment
returns-in_err-lay_group-clause-any_moment g c rs k e =
    let size : length k.bs ≡ _ = sym (length-only k.bs) ∙ (g.met.D.Disk.sound (disk_of c.args.part.now)).each_block (only k.bs) k.settled in
    let group = group_of c.args.owner c.args.version c.args.items.now c.args.from.now in
    widened (c.lay_group.ensures.any_moment k.bs k.settled) (λ d t. none_of d c.args.owner rs group (same_records c.args.owner rs k.bs d c.args.at k.log e (omega (arith, size, c.requires.fits, c.requires.some)) t))

pub returns-clause-ok : goal.returns-clause-ok
returns-clause-ok g c rs k e =
    let owner = c.args.owner in
    let front = owned_block owner ∷ flat_map written rs in
    let place : length front ≡ c.args.at = omega (arith, e) in
    let laid = c.in_ok-lay_group.ensures.ok front k.log.rest place (k.settled ∙ ap (λ (l : List Block). Some (only l)) k.log.joined) k.log.ends in
    let named = named_group owner c.args.version c.args.items.now c.args.from.now k.log.known c.requires.version.0 c.requires.version.1 c.requires.items c.requires.all in
    let group = group_of owner c.args.version c.args.items.now c.args.from.now in
    on_ok_weaker c.lay_heads.result (λ s. record { bs = front ++ (flat_map written group ++ laid.0); settled = s; log = grouped owner rs group laid.0 k.log.known k.log.named named laid.1 })
    (c.lay_heads.ensures.ok front laid.0 c.args.from.now place c.requires.all laid.2)

pub returns-clause-any_moment : goal.returns-clause-any_moment
returns-clause-any_moment g c rs k e =
    let owner = c.args.owner in
    let front = owned_block owner ∷ flat_map written rs in
    let place : length front ≡ c.args.at = omega (arith, e) in
    let size : length k.bs ≡ _ = sym (length-only k.bs) ∙ (g.met.D.Disk.sound (disk_of c.args.part.now)).each_block (only k.bs) k.settled in
    let laid = c.in_ok-lay_group.ensures.ok front k.log.rest place (k.settled ∙ ap (λ (l : List Block). Some (only l)) k.log.joined) k.log.ends in
    let named = named_group owner c.args.version c.args.items.now c.args.from.now k.log.known c.requires.version.0 c.requires.version.1 c.requires.items c.requires.all in
    let group = group_of owner c.args.version c.args.items.now c.args.from.now in
    let first : LeavesOnly (g.D.Disk.state (disk_of c.args.part.now)) (g.D.Disk.state (disk_of c.lay_group.new.part)) (λ d. HasFirstOf d owner rs group) =
    widened (c.lay_group.ensures.any_moment k.bs k.settled) (λ d t. none_of d owner rs group (same_records owner rs k.bs d c.args.at k.log e (omega (arith, size, c.requires.fits, c.requires.some)) t)) in
    then_leaves first (c.lay_heads.ensures.any_moment front laid.0 c.args.from.now place c.requires.all laid.2)
    (λ d b. first_left owner c.args.version rs c.args.items.now c.args.from.now laid.0 d k.log.known k.log.named named laid.1 b)
