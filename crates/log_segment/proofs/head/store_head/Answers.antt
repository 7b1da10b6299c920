use Rattle.std.proofs.Common.{List, [], ◌∷◌, inl, inr, ⊎_elim, sym, subst, refl}
use Rattle.std.specs.Prelude.{slice_set}
use Rattle.std.proofs.lemmas.Result.{on_ok_weaker}
use Rattle.wol_disk.specs.Disk.{Block, put}
use Rattle.wol_disk.proofs.Moments.{widened}
use Rattle.wol_model.specs.Log.{Record, IsLog}
use Rattle.log_layout.specs.Values.{record_head}
use Rattle.log_segment.proofs.Headed.{changed_at}
use Rattle.log_segment.proofs.head.store_head.Goals as goal

pub returns-clause-ok : goal.returns-clause-ok
returns-clause-ok g c rs k r keeps at place count =
    let h = record_head c.args.head.now in
    let new = changed_at c.args.head.now.owner rs k r h c.write_rec.new.b keeps.bs c.args.at keeps.log at place c.requires.head refl count c.write_rec.ensures in
    on_ok_weaker c.store_block.result (λ s. record { bs = put c.args.at (c.write_rec.new.b ∷ []) keeps.bs; settled = s; log = new }) (c.store_block.ensures.ok keeps.bs keeps.settled)

pub returns-clause-any_moment : goal.returns-clause-any_moment
returns-clause-any_moment g c rs k r keeps at place count =
    let h = record_head c.args.head.now in
    let s : Record = record r { head = h } in
    let new = changed_at c.args.head.now.owner rs k r h c.write_rec.new.b keeps.bs c.args.at keeps.log at place c.requires.head refl count c.write_rec.ensures in
    widened (c.store_block.ensures.any_moment keeps.bs keeps.settled)
    (λ d. ⊎_elim (λ p. inl (subst (λ (l : List Block). IsLog l c.args.head.now.owner rs) (sym p) keeps.log)) (λ p. inr (subst (λ (l : List Block). IsLog l c.args.head.now.owner (slice_set rs k s)) (sym p) new)))
