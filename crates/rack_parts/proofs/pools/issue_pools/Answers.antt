use Rattle.rack_parts.proofs.Basics.{◌<◌, ◌+◌, List, None, Option, length, refl, sym, ap, subst, ◌∙◌, arith, slice_index_or, length-map, length-set}
use Rattle.rack_parts.proofs.Terms.{lock_id, shape_in, CanEnd, EndsInto, ImageRest}
use Rattle.rack_parts.proofs.LocksIssued.{AreIssuedTo, issued_none, may_issue, issued_next, may_end, all_restored, kept_at, supplies_all}
use Rattle.rack_parts.proofs.pools.issue_pools.Goals as goal

pub loop-id-init : goal.loop-id-init
loop-id-init g c = record {
  issued = issued_none g.D.Disk.state c.args.config.now c.args.config.now.volumes.len c.args.said.now c.args.images.now c.in-Ok.made.items c.in-Ok.ensures.items;
  images = refl;
  room = omega (arith, c.in-Ok.ensures.capacity);
}

pub returns-in_default-clause-restores : goal.returns-in_default-clause-restores
returns-in_default-clause-restores g c =
    kept_at g.D.Disk.state c.args.config.now c.args.config.now.volumes.len c.args.said.now c.args.images.now
    (length-map c.args.config.now.volumes.items (shape_in c.args.config.now) ∙ sym c.args.config.now.volumes.ok.0 ∙ sym c.requires.images) (c.requires.said ∙ sym c.requires.images) c.requires.each

pub issue_at-requires-clause-image : goal.issue_at-requires-clause-image
issue_at-requires-clause-image g c = λ s is.
    let config = c.args.config.now in let old = c.args.images.now in let n = c.loop-id.id in
    let within : n < length old = omega (arith, c.requires.images, c.len-count.ensures) in
    may_issue g.D.Disk.state config config.volumes.len c.args.said.now old c.loop-id.images c.loop-id.made.items n c.loop-id.invariant.issued within c.requires.each s is

pub end_pools-requires-clause-each : goal.end_pools-requires-clause-each
end_pools-requires-clause-each g c =
    let config = c.args.config.now in let old = c.args.images.now in let now = c.loop-id.images in let n = c.loop-id.id in let new = c.issue_at.new.images in
    let within : n < length old = omega (arith, c.requires.images, c.len-count.ensures) in
    λ k i is. subst (λ (l : List (Option (ImageRest g.row.D.Denot))). CanEnd i (slice_index_or l k None)) (sym c.issue_at.ensures.images)
    (may_end g.D.Disk.state config config.volumes.len c.args.said.now old now c.loop-id.made.items n c.loop-id.invariant.issued within c.requires.each (slice_index_or new n None)
    (length-map config.volumes.items (shape_in config) ∙ sym config.volumes.ok.0 ∙ sym c.requires.images) k i is)

pub returns-in-Err-clause-restores : goal.returns-in-Err-clause-restores
returns-in-Err-clause-restores g c =
    let state = g.D.Disk.state in let config = c.args.config.now in let said = c.args.said.now in let old = c.args.images.now in let now = c.loop-id.images in let n = c.loop-id.id in
    let new = c.issue_at.new.images in let last = c.end_pools.new.images in
    let within : n < length old = omega (arith, c.requires.images, c.len-count.ensures) in
    all_restored state config config.volumes.len said old now c.loop-id.made.items n c.loop-id.invariant.issued within c.requires.each (slice_index_or new n None) last
    (length-map config.volumes.items (shape_in config) ∙ sym config.volumes.ok.0 ∙ sym c.requires.images) (c.requires.said ∙ sym c.requires.images) c.in-Err.ensures.restores
    (λ k i is. subst (λ (l : List (Option (ImageRest g.row.D.Denot))). EndsInto state (lock_id i.lock).base (slice_index_or l k None) (slice_index_or last k None)) c.issue_at.ensures.images (c.end_pools.ensures.each k i is))
    (λ k behind. c.end_pools.ensures.others k behind ∙ ap (λ (l : List (Option (ImageRest g.row.D.Denot))). slice_index_or l k None) c.issue_at.ensures.images)

pub loop-id-preserved : goal.loop-id-preserved
loop-id-preserved g c =
    let state = g.D.Disk.state in let config = c.args.config.now in let said = c.args.said.now in let old = c.args.images.now in let now = c.loop-id.images in let n = c.loop-id.id in
    let new = c.issue_at.new.images in let i = c.in-Ok-issue_at.issued in let image = slice_index_or new n None in
    let within : n < length old = omega (arith, c.requires.images, c.len-count.ensures) in
    record {
      issued = subst (λ (l : List (Option (ImageRest g.row.D.Denot))). AreIssuedTo state config config.volumes.len said old l c.push_reserved.new.self.items (n + 1)) (sym c.issue_at.ensures.images)
          (issued_next state config config.volumes.len said old now c.loop-id.made.items n c.loop-id.invariant.issued within c.requires.each i image c.push_reserved.new.self.items c.push_reserved.ensures.items
          c.in-Ok-issue_at.ensures.issued c.in-Ok-issue_at.ensures.supplies);
      images = ap length c.issue_at.ensures.images ∙ length-set now n image ∙ c.loop-id.invariant.images;
      room = omega (arith, c.loop-id.invariant.room, c.push_reserved.ensures.capacity);
    }

pub returns-clause-issued : goal.returns-clause-issued
returns-clause-issued g c = c.loop-id.invariant.issued.issued

pub returns-clause-supplies : goal.returns-clause-supplies
returns-clause-supplies g c =
    supplies_all g.D.Disk.state c.args.config.now c.args.config.now.volumes.len c.args.said.now c.args.images.now c.loop-id.images c.loop-id.made.items c.loop-id.id c.loop-id.invariant.issued (omega (arith, c.requires.said, c.len-count.ensures))
