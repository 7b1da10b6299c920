use Rattle.std.proofs.Common.{◌≡◌, ◌⊎◌, List, [], ◌∷◌, Some, inl, inr, ⊎_elim, refl, ap, ◌∙◌}
use Rattle.std.proofs.lemmas.Result.{on_ok_weaker}
use Rattle.wol_disk.specs.Disk.{Block, put}
use Rattle.wol_disk.proofs.Moments.{started}
use Rattle.wol_disk.proofs.Images.{blend_one}
use Rattle.wol_disk.proofs.Calls.{write_goes_on}
use Rattle.spin_model.specs.Spun.{disk_of}
use Rattle.log_segment.proofs.Told.{reads_put}
use Rattle.log_segment.proofs.group.put_head.Goals as goal

pub returns-clause-ok : goal.returns-clause-ok
returns-clause-ok g c bs is =
    on_ok_weaker c.write.result (λ w. reads_put c.args.at (c.write_rec.new.b ∷ []) bs _ _ is w ∙ ap (λ x. Some (put c.args.at (x ∷ []) bs)) c.write_rec.ensures) c.write.ensures.ok

-- a head written is the one that was meant
one_of_these : (at : _) (x y : Block) (d c : List Block) → x ≡ y → (c ≡ d) ⊎ (c ≡ put at (x ∷ []) d) → (c ≡ d) ⊎ (c ≡ put at (y ∷ []) d)
one_of_these at x y d c e way = ⊎_elim (λ p. inl p) (λ p. inr (p ∙ ap (λ b. put at (b ∷ []) d) e)) way

pub returns-clause-any_moment : goal.returns-clause-any_moment
returns-clause-any_moment g c =
    let at = c.args.at in
    let sound = g.met.D.Disk.sound (disk_of c.args.part.now) in
    let begun = started sound (λ d i. (d, i, inl refl)) in
    write_goes_on c.write.result at (c.write_rec.new.b ∷ []) begun sound c.write.ensures.ok c.write.ensures.err c.write.ensures.passes
    (λ d e P i b. (d, i, one_of_these at c.write_rec.new.b _ d e c.write_rec.ensures (blend_one at c.write_rec.new.b d e b)))
