use Rattle.rack_parts.proofs.Basics.{◌≡◌, ℕ, length, sym, ap, subst, ◌∙◌, arith, same_Some}
use Rattle.rack_parts.proofs.Terms.{Shape, shape_in, CanIssue, Restores}
use Rattle.rack_parts.proofs.LocksIssued.{unchanged, on_err, issued_one, shape_read}
use Rattle.rack_parts.proofs.pools.issue_pool.Goals as goal

pub returns-in_err-pool-clause-restores : goal.returns-in_err-pool-clause-restores
returns-in_err-pool-clause-restores g c =
    let config = c.args.config.now in let id = c.args.id in let v = c.index.result.now in let s = shape_in config v in
    let is = shape_read config id v (omega (arith, c.requires.within, config.volumes.ok.0)) c.index.ensures in
    on_err c.from_residual.result (Restores g.D.Disk.state id config.segment_blocks c.args.said.now c.args.image.now c.args.image.now)
    (unchanged g.D.Disk.state (length config.volumes.items) id s c.args.said.now c.args.image.now (subst (λ (n : ℕ). CanIssue g.D.Disk.state n id s c.args.said.now c.args.image.now) config.volumes.ok.0 (c.requires.image s is)))

pub supply-requires-clause-pool : goal.supply-requires-clause-pool
supply-requires-clause-pool g c =
    let config = c.args.config.now in let v = c.index.result.now in let made = c.in_ok-pool.ensures in
    let valid = c.requires.config.volumes c.args.id v (omega (arith, c.requires.within, config.volumes.ok.0)) in
    let segments = ap (λ x. x.segments) c.index.ensures in let blocks = c.requires.config.segment_blocks in
    record { few = omega (arith, made.room, segments, valid.segments); blocks = (omega (arith, made.blocks, blocks), omega (arith, made.blocks, blocks)); empty = made.empty; notes = made.notes; stands = made.stands }

pub supply-requires-clause-ready : goal.supply-requires-clause-ready
supply-requires-clause-ready g c =
    let config = c.args.config.now in let id = c.args.id in let v = c.index.result.now in let s = shape_in config v in
    let is = shape_read config id v (omega (arith, c.requires.within, config.volumes.ok.0)) c.index.ensures in
    record {
      volumes = config.volumes.len;
      shape = s;
      room = c.in_ok-pool.ensures.room;
      blocks = c.in_ok-pool.ensures.blocks;
      may = subst (λ (i : ℕ). CanIssue g.D.Disk.state config.volumes.len i s c.args.said.now c.args.image.now) (sym c.in_ok-pool.ensures.volume) (c.requires.image s is);
    }

pub lock_pool-requires-clause-count : goal.lock_pool-requires-clause-count
lock_pool-requires-clause-count g c =
    let count = c.requires.config.count in let ok = c.args.config.now.volumes.ok.0 in
    (omega (arith, count, ok, c.len.ensures), omega (arith, count, ok, c.len.ensures))

pub returns-in-Ok-clause-issued : goal.returns-in-Ok-clause-issued
returns-in-Ok-clause-issued g c = λ s is.
    let config = c.args.config.now in let id = c.args.id in let v = c.index.result.now in let p = c.supply.new.pool in let i = c.in-Ok.issued in
    let shape : shape_in config v ≡ s = same_Some (shape_in config v) s (sym (shape_read config id v (omega (arith, c.requires.within, config.volumes.ok.0)) c.index.ensures) ∙ is) in
    issued_one g.D.Disk.state config.volumes.len id s c.args.said.now p i.lock i.passes c.in-Ok.ensures.base (c.in-Ok.ensures.passes ∙ c.len.ensures) (c.in-Ok.ensures.count ∙ c.len.ensures) c.in-Ok.ensures.new
    (c.supply.ensures.same.room ∙ c.in_ok-pool.ensures.room ∙ ap (λ (x : Shape). x.segments) shape) (c.supply.ensures.same.volume ∙ c.in_ok-pool.ensures.volume)
    (c.supply.ensures.same.blocks ∙ c.in_ok-pool.ensures.blocks ∙ ap (λ (x : Shape). x.segment_blocks) shape) c.supply.ensures.stands c.supply.ensures.supplied.holders
