use Rattle.std.proofs.Common.{List, [], ◌∷◌, Option, inl, refl, sym, subst}
use Rattle.std.proofs.lemmas.Result.{on_ok_weaker, on_err_weaker}
use Rattle.wol_disk.specs.Disk.{Block, Values, State, LeavesOnly, IsImageOf, IsBlend, AddsSomeOf, put}
use Rattle.wol_disk.proofs.Moments.{started}
use Rattle.wol_disk.proofs.Images.{blend_one, adds_either}
use Rattle.wol_disk.proofs.Calls.{synced_write, write_goes_on, sync_goes_on}
use Rattle.spin_model.specs.Spun.{disk_of}
use Rattle.logger_view.specs.Stored.{IsWithOrWithout}
use Rattle.logger_view.proofs.storing.store_block.Goals as goal

-- each image comes of one at the start
some_more : (old : State) (at : _) (x : Block) (d c : List Block) → IsWithOrWithout (put at (x ∷ [])) old d → IsImageOf old.values d → IsBlend d (put at (x ∷ []) d) c → IsWithOrWithout (put at (x ∷ [])) old c
some_more old at x d c P i b = (d, i, blend_one at x d c b)

pub returns-in_err-write-clause-any_moment : goal.returns-in_err-write-clause-any_moment
returns-in_err-write-clause-any_moment g c =
    let was = g.D.Disk.state (disk_of c.args.part.now) in
    let sound = g.met.D.Disk.sound (disk_of c.args.part.now) in
    let begun : LeavesOnly was was (IsWithOrWithout (put c.args.at (c.args.block.now ∷ [])) was) = started sound (λ d i. (d, i, inl refl)) in
    write_goes_on c.write.result c.args.at (c.args.block.now ∷ []) begun sound c.write.ensures.ok c.write.ensures.err c.write.ensures.passes (some_more was c.args.at c.args.block.now)

pub returns-clause-settles : goal.returns-clause-settles
returns-clause-settles g c =
    on_ok_weaker c.sync.result (λ e. synced_write c.args.at (c.args.block.now ∷ []) _ _ _ c.in_ok-write.ensures.ok e) c.sync.ensures.ok

pub returns-clause-err : goal.returns-clause-err
returns-clause-err g c =
    let xs = c.args.block.now ∷ [] in
    let was = g.D.Disk.state (disk_of c.args.part.now) in
    let mid = g.D.Disk.state (disk_of c.write.new.self) in
    let wrote : AddsSomeOf c.args.at xs was.values mid.values = adds_either c.write.result c.args.at xs was.values mid.values c.write.ensures.ok c.write.ensures.err in
    let P : Option (List (Values Block)) → Type 0 = λ o. AddsSomeOf c.args.at xs was.values o in
    on_err_weaker c.sync.result (λ e. subst P (sym e) wrote) c.sync.ensures.err

pub returns-clause-any_moment : goal.returns-clause-any_moment
returns-clause-any_moment g c =
    let was = g.D.Disk.state (disk_of c.args.part.now) in
    let sound = g.met.D.Disk.sound (disk_of c.args.part.now) in
    let begun : LeavesOnly was was (IsWithOrWithout (put c.args.at (c.args.block.now ∷ [])) was) = started sound (λ d i. (d, i, inl refl)) in
    let wrote = write_goes_on c.write.result c.args.at (c.args.block.now ∷ []) begun sound c.write.ensures.ok c.write.ensures.err c.write.ensures.passes (some_more was c.args.at c.args.block.now) in
    sync_goes_on c.sync.result wrote (g.met.D.Disk.sound (disk_of c.write.new.self)) c.sync.ensures.ok c.sync.ensures.err c.sync.ensures.passes
