use Rattle.std.proofs.Common.{◌≡◌, ◌⊎◌, List, [], ◌∷◌, inl, refl, subst}
use Rattle.std.proofs.lemmas.Result.{on_ok_weaker}
use Rattle.wol_disk.specs.Disk.{Block, State, IsImageOf, IsBlend, put}
use Rattle.wol_disk.proofs.Moments.{started}
use Rattle.wol_disk.proofs.Images.{blend_one}
use Rattle.wol_disk.proofs.Calls.{settled_only, settled_write, synced_write, write_goes_on, sync_goes_on}
use Rattle.spin_model.specs.Spun.{disk_of}
use Rattle.log_segment.proofs.store.store_block.Goals as goal

-- the block is there or it isn't
one_more : (at : _) (x : Block) (bs d c : List Block) → d ≡ bs → IsBlend d (put at (x ∷ []) d) c → (c ≡ bs) ⊎ (c ≡ put at (x ∷ []) bs)
one_more at x bs d c e b = blend_one at x bs c (subst (λ (b : List Block). IsBlend b (put at (x ∷ []) b) c) e b)

pub returns-in_err-write-clause-any_moment : goal.returns-in_err-write-clause-any_moment
returns-in_err-write-clause-any_moment g c bs is =
    let at = c.args.at in
    let x = c.args.block.now in
    let was = (g.D.Disk.state (disk_of c.args.part.now)).values in
    let sound = g.met.D.Disk.sound (disk_of c.args.part.now) in
    let begun = started sound (λ d i. inl (settled_only was bs d is i)) in
    write_goes_on c.write.result at (x ∷ []) begun sound c.write.ensures.ok c.write.ensures.err c.write.ensures.passes
    (λ d e P i b. one_more at x bs d e (settled_only was bs d is i) b)

pub returns-clause-ok : goal.returns-clause-ok
returns-clause-ok g c bs is =
    on_ok_weaker c.sync.result (λ e. settled_write c.args.at (c.args.block.now ∷ []) bs _ _ _ is c.in_ok-write.ensures.ok e) c.sync.ensures.ok

pub returns-clause-any_moment : goal.returns-clause-any_moment
returns-clause-any_moment g c bs is =
    let at = c.args.at in
    let x = c.args.block.now in
    let was = (g.D.Disk.state (disk_of c.args.part.now)).values in
    let sound = g.met.D.Disk.sound (disk_of c.args.part.now) in
    let begun = started sound (λ d i. inl (settled_only was bs d is i)) in
    let wrote = write_goes_on c.write.result at (x ∷ []) begun sound c.write.ensures.ok c.write.ensures.err c.write.ensures.passes
    (λ d e P i b. one_more at x bs d e (settled_only was bs d is i) b) in
    sync_goes_on c.sync.result wrote (g.met.D.Disk.sound (disk_of c.write.new.self)) c.sync.ensures.ok c.sync.ensures.err c.sync.ensures.passes

-- each image comes of one at the start
some_more : (old : State) (at : _) (x : Block) (d c : List Block) → ((e : List Block) × IsImageOf old.values e × ((d ≡ e) ⊎ (d ≡ put at (x ∷ []) e))) → IsImageOf old.values d → IsBlend d (put at (x ∷ []) d) c
    → (e : List Block) × IsImageOf old.values e × ((c ≡ e) ⊎ (c ≡ put at (x ∷ []) e))
some_more old at x d c P i b = (d, i, blend_one at x d c b)

pub returns-in_err-write-clause-from_images : goal.returns-in_err-write-clause-from_images
returns-in_err-write-clause-from_images g c =
    let was = g.D.Disk.state (disk_of c.args.part.now) in
    let sound = g.met.D.Disk.sound (disk_of c.args.part.now) in
    let begun = started sound (λ d i. (d, i, inl refl)) in
    write_goes_on c.write.result c.args.at (c.args.block.now ∷ []) begun sound c.write.ensures.ok c.write.ensures.err c.write.ensures.passes (some_more was c.args.at c.args.block.now)

pub returns-clause-from_images : goal.returns-clause-from_images
returns-clause-from_images g c =
    let was = g.D.Disk.state (disk_of c.args.part.now) in
    let sound = g.met.D.Disk.sound (disk_of c.args.part.now) in
    let begun = started sound (λ d i. (d, i, inl refl)) in
    let wrote = write_goes_on c.write.result c.args.at (c.args.block.now ∷ []) begun sound c.write.ensures.ok c.write.ensures.err c.write.ensures.passes (some_more was c.args.at c.args.block.now) in
    sync_goes_on c.sync.result wrote (g.met.D.Disk.sound (disk_of c.write.new.self)) c.sync.ensures.ok c.sync.ensures.err c.sync.ensures.passes

pub returns-clause-settles : goal.returns-clause-settles
returns-clause-settles g c =
    on_ok_weaker c.sync.result (λ e. synced_write c.args.at (c.args.block.now ∷ []) _ _ _ c.in_ok-write.ensures.ok e) c.sync.ensures.ok
