use Rattle.rack_parts.proofs.Basics.{None, Option, sym, subst, slice_index_or, get_or_read, get_or_default}
use Rattle.rack_parts.proofs.Terms.{CanIssue, Said}
use Rattle.rack_parts.proofs.pools.issue_at.Goals as goal

pub issue_pool-requires-clause-image : goal.issue_pool-requires-clause-image
issue_pool-requires-clause-image g c = λ s is.
    let said = c.args.said.now in let old = c.args.images.now in let n = c.args.id in let state = g.D.Disk.state in let m = c.args.config.now.volumes.len in
    subst (λ (o : Option Said). CanIssue state m n s o (slice_index_or old n c.index-images-id.result)) (sym (get_or_read said n c.index-said-id.result c.requires.in_said c.index-said-id.is None))
    (subst (CanIssue state m n s (slice_index_or said n None)) (sym (get_or_default old n c.index-images-id.result None c.requires.in_images)) (c.requires.image s is))
