use Rattle.rack.proofs.Basics.{◌≡◌, ℕ, length, List, Option, None, refl, sym, ap, ◌∙◌, subst, arith, slice_index_or, All, with_items_is, slice_get_within, get_or_from_slice_get}
use Rattle.rack.proofs.Terms.{Spindle, SpindleBase, IsHome, VolumeConf, IsWholeLock, AreSpindlesOf, CanIssue, IsIssuedPool, Supplies, image_here, Said, Issued, ImageRest}
use Rattle.std.specs.Prelude.{vec_len}
use Rattle.rack_parts.proofs.LocksIssued.{on_err}
use Rattle.rack.proofs.ImagesSent.{names_out, others_same, others_then, back_others, sent_others}
use Rattle.rack.proofs.TakenBack.{brought_back, nothing_done, left_again, run_again, sound_again, views_again, may_issue, again, whole_again, same_here, home_again}
use Rattle.rack.proofs.all.take_out.Goals as goal

pub issue_pools-requires-clause-each : goal.issue_pools-requires-clause-each
issue_pools-requires-clause-each g c = λ k s is.
    let many : length c.args.config.now.volumes.items ≡ vec_len c.args.config.now.volumes = omega (arith, c.args.config.now.volumes.ok.0) in
    let can = may_issue g.B.Part.Disk.tells g.B.Part.Disk.state c.args.config.now (g.B.Bay.state c.args.bay.now) (g.B.Bay.state c.open_images.new.bay) c.in-Ok.images c.in-Ok.ensures.asked k s is in
    let at_said = subst (λ (l : List (Option Said)). CanIssue g.B.Part.Disk.state (length c.args.config.now.volumes.items) k s (slice_index_or l k None) (image_here c.in-Ok.images.out.items k)) (sym c.as_slice.ensures.value) can in
    let at_images = subst (λ (l : List (Option (ImageRest g.row.B-Part.Denot))). CanIssue g.B.Part.Disk.state (length c.args.config.now.volumes.items) k s (slice_index_or c.as_slice.result.now k None) (slice_index_or l k None)) (sym c.as_mut_slice.ensures.value) at_said in
    subst (λ (n : ℕ). CanIssue g.B.Part.Disk.state n k s (slice_index_or c.as_slice.result.now k None) (slice_index_or c.as_mut_slice.result.now k None)) many at_images

pub give_back-requires-clause-images : goal.give_back-requires-clause-images
give_back-requires-clause-images g c = λ k s r is here.
    (again g.B.Part.Disk.tells g.B.Part.Disk.state c.args.config.now (g.B.Bay.state c.args.bay.now) (g.B.Bay.state c.open_images.new.bay) c.in-Ok.images c.in-Ok.ensures.asked c.issue_pools.new.images c.as_mut_slice.result.now c.as_slice.result.now c.issue_pools.ensures.images c.as_mut_slice.ensures.value c.as_slice.ensures.value c.in-Err-issue_pools.ensures.restores k s r is here).rest

pub give_back-requires-clause-whole : goal.give_back-requires-clause-whole
give_back-requires-clause-whole g c = whole_again g.B.Part.Disk.tells g.B.Part.Disk.state c.args.config.now (g.B.Bay.state c.args.bay.now) (g.B.Bay.state c.open_images.new.bay) c.in-Ok.images c.in-Ok.ensures.asked c.issue_pools.new.images c.as_mut_slice.result.now c.as_slice.result.now c.issue_pools.ensures.images c.as_mut_slice.ensures.value c.as_slice.ensures.value c.in-Err-issue_pools.ensures.restores

pub give_back-requires-clause-out : goal.give_back-requires-clause-out
give_back-requires-clause-out g c = λ k w at there.
    let same = same_here g.B.Part.Disk.tells g.B.Part.Disk.state c.args.config.now (g.B.Bay.state c.args.bay.now) (g.B.Bay.state c.open_images.new.bay) c.in-Ok.images c.in-Ok.ensures.asked c.issue_pools.new.images c.as_mut_slice.result.now c.as_slice.result.now c.issue_pools.ensures.images c.as_mut_slice.ensures.value c.as_slice.ensures.value c.in-Err-issue_pools.ensures.restores k in
    let home = subst (λ (x : VolumeConf). IsHome x.name (g.B.Bay.state c.args.bay.now)) (get_or_from_slice_get c.args.config.now.volumes.items k w w at) (c.requires.home k w (slice_get_within c.args.config.now.volumes.items k w at)) in
    names_out c.args.config.now c.requires.config c.in-Ok.images.out.items (length c.args.config.now.volumes.items) k w (g.B.Bay.state c.args.bay.now) (g.B.Bay.state c.open_images.new.bay) at
    (sym same ∙ there) home c.in-Ok.ensures.out

pub end_spindles-requires-in-Err-issue_pools : goal.end_spindles-requires-in-Err-issue_pools
end_spindles-requires-in-Err-issue_pools g c =
    let m = ap length c.deref_mut.ensures.value in
    let e = with_items_is c.in_ok-spindles.spindles c.open_images.new.spindles (omega (arith, c.in_ok-spindles.spindles.ok.0, c.open_images.ensures.count, m)) in
    subst (All (λ (i : Issued Spindle SpindleBase). IsWholeLock i)) (sym e) (λ k d lt. (c.open_images.ensures.spindles.each k d lt).whole)

pub returns-in-Ok-issue_pools-clause-taken : goal.returns-in-Ok-issue_pools-clause-taken
returns-in-Ok-issue_pools-clause-taken g c =
    let m = ap length c.deref_mut.ensures.value in
    let count : length c.issue_pools.new.images ≡ length c.in-Ok.images.out.items = c.issue_pools.ensures.images ∙ ap length c.as_mut_slice.ensures.value in
    let e = with_items_is c.in-Ok.images.out c.issue_pools.new.images (omega (arith, count, c.in-Ok.images.out.ok.0)) in
    let es = with_items_is c.in_ok-spindles.spindles c.open_images.new.spindles (omega (arith, c.in_ok-spindles.spindles.ok.0, c.open_images.ensures.count, m)) in
    let all : vec_len c.args.config.now.volumes ≡ length c.args.config.now.volumes.items = omega (arith, c.args.config.now.volumes.ok.0) in
    record {
      before = c.in-Ok.images;
      same = (refl, refl);
      asked = c.in-Ok.ensures.asked;
      sent = c.in-Ok.ensures.out;
      out_count = ap length e ∙ count;
      supplies = λ j. subst (λ (l : List (Option (ImageRest g.row.B-Part.Denot))). Supplies (slice_index_or c.in-Ok.images.said.items j None) (image_here c.in-Ok.images.out.items j) (image_here l j)) (sym e)
          (subst (λ (l : List (Option (ImageRest g.row.B-Part.Denot))). Supplies (slice_index_or c.in-Ok.images.said.items j None) (slice_index_or l j None) (slice_index_or c.issue_pools.new.images j None)) c.as_mut_slice.ensures.value
          (subst (λ (l : List (Option Said)). Supplies (slice_index_or l j None) (slice_index_or c.as_mut_slice.result.now j None) (slice_index_or c.issue_pools.new.images j None)) c.as_slice.ensures.value (c.in-Ok-issue_pools.ensures.supplies j)));
      spindle_count = ap length es ∙ (let a = c.in_ok-spindles.ensures.count in let l = c.len-count.ensures in omega (arith, c.open_images.ensures.count, m, a, l, c.args.config.now.volumes.ok.0));
      spindles = subst (λ (l : List (Issued Spindle SpindleBase)). AreSpindlesOf (length c.args.config.now.volumes.items) c.args.config.now.timeout l) (sym es) c.open_images.ensures.spindles;
      pool_count = c.in-Ok-issue_pools.ensures.count ∙ all;
      pools = λ k s i is at. subst (λ (x : ℕ). IsIssuedPool x k s (slice_index_or c.in-Ok.images.said.items k None) i) all
          (subst (λ (l : List (Option Said)). IsIssuedPool (vec_len c.args.config.now.volumes) k s (slice_index_or l k None) i) c.as_slice.ensures.value (c.in-Ok-issue_pools.ensures.issued k s i is at));
    }

pub returns-in_err-spindles-clause-back : goal.returns-in_err-spindles-clause-back
returns-in_err-spindles-clause-back g c =
    let old = g.B.Bay.state c.args.bay.now in
    on_err c.from_residual.result _ (brought_back g.B.Part.Disk.tells g.B.Part.Disk.state c.args.config.now old old refl (λ telling. nothing_done old.told) (others_same c.args.config.now old.told) (omega arith))

pub returns-in-Err-clause-back : goal.returns-in-Err-clause-back
returns-in-Err-clause-back g c =
    let back = c.in-Err.ensures.err in
    brought_back g.B.Part.Disk.tells g.B.Part.Disk.state c.args.config.now (g.B.Bay.state c.args.bay.now) (g.B.Bay.state c.open_images.new.bay) back.outs back.left c.open_images.ensures.others back.counts

pub returns-in-Err-issue_pools-clause-back : goal.returns-in-Err-issue_pools-clause-back
returns-in-Err-issue_pools-clause-back g c = record {
  run = run_again g.B.Part.Disk.tells g.B.Part.Disk.state c.args.config.now (g.B.Bay.state c.args.bay.now) (g.B.Bay.state c.open_images.new.bay) c.in-Ok.images c.in-Ok.ensures.asked c.issue_pools.new.images c.as_mut_slice.result.now c.as_slice.result.now c.issue_pools.ensures.images c.as_mut_slice.ensures.value c.as_slice.ensures.value c.in-Err-issue_pools.ensures.restores c.requires.config (g.B.Bay.state c.give_back.new.bay) c.in-Ok.ensures.out c.give_back.ensures.back c.give_back.ensures.counts (λ telling d. g.met.B.Part.Disk.told telling d) g.met.B.Part.Disk.sound
      (others_then c.args.config.now (g.B.Bay.state c.args.bay.now).told (g.B.Bay.state c.open_images.new.bay).told (g.B.Bay.state c.give_back.new.bay).told (sent_others c.args.config.now c.in-Ok.images.out.items (length c.args.config.now.volumes.items) (g.B.Bay.state c.args.bay.now) (g.B.Bay.state c.open_images.new.bay) c.in-Ok.ensures.out) (back_others c.args.config.now _ g.B.Part.Disk.state (g.B.Bay.state c.open_images.new.bay).told (g.B.Bay.state c.give_back.new.bay).told c.give_back.ensures.back))
      (let a = c.in-Ok.ensures.out.counts in let b = c.give_back.ensures.counts in omega (arith, a, b));
  home = home_again g.B.Part.Disk.tells g.B.Part.Disk.state c.args.config.now (g.B.Bay.state c.args.bay.now) (g.B.Bay.state c.open_images.new.bay) c.in-Ok.images c.in-Ok.ensures.asked c.issue_pools.new.images c.as_mut_slice.result.now c.as_slice.result.now c.issue_pools.ensures.images c.as_mut_slice.ensures.value c.as_slice.ensures.value c.in-Err-issue_pools.ensures.restores c.requires.home c.in-Ok.ensures.out (g.B.Bay.state c.give_back.new.bay) c.give_back.ensures.home;
  left = left_again g.B.Part.Disk.tells g.B.Part.Disk.state c.args.config.now (g.B.Bay.state c.args.bay.now) (g.B.Bay.state c.open_images.new.bay) c.in-Ok.images c.in-Ok.ensures.asked c.issue_pools.new.images c.as_mut_slice.result.now c.as_slice.result.now c.issue_pools.ensures.images c.as_mut_slice.ensures.value c.as_slice.ensures.value c.in-Err-issue_pools.ensures.restores c.requires.config (g.B.Bay.state c.give_back.new.bay) c.in-Ok.ensures.out c.give_back.ensures.back c.give_back.ensures.counts (λ telling d. g.met.B.Part.Disk.told telling d) g.met.B.Part.Disk.sound;
  sound = sound_again g.B.Part.Disk.tells g.B.Part.Disk.state c.args.config.now (g.B.Bay.state c.args.bay.now) (g.B.Bay.state c.open_images.new.bay) c.in-Ok.images c.in-Ok.ensures.asked c.issue_pools.new.images c.as_mut_slice.result.now c.as_slice.result.now c.issue_pools.ensures.images c.as_mut_slice.ensures.value c.as_slice.ensures.value c.in-Err-issue_pools.ensures.restores c.requires.config (g.B.Bay.state c.give_back.new.bay) c.in-Ok.ensures.out c.give_back.ensures.back c.give_back.ensures.counts (λ telling d. g.met.B.Part.Disk.told telling d) g.met.B.Part.Disk.sound;
  views = views_again g.B.Part.Disk.tells g.B.Part.Disk.state c.args.config.now (g.B.Bay.state c.args.bay.now) (g.B.Bay.state c.open_images.new.bay) c.in-Ok.images c.in-Ok.ensures.asked c.issue_pools.new.images c.as_mut_slice.result.now c.as_slice.result.now c.issue_pools.ensures.images c.as_mut_slice.ensures.value c.as_slice.ensures.value c.in-Err-issue_pools.ensures.restores c.requires.config (g.B.Bay.state c.give_back.new.bay) c.in-Ok.ensures.out c.give_back.ensures.back c.give_back.ensures.counts (λ telling d. g.met.B.Part.Disk.told telling d) g.met.B.Part.Disk.sound;
}

pub returns-in_err-spindles-clause-others : goal.returns-in_err-spindles-clause-others
returns-in_err-spindles-clause-others g c = others_same c.args.config.now (g.B.Bay.state c.args.bay.now).told

pub returns-in-Err-issue_pools-clause-others : goal.returns-in-Err-issue_pools-clause-others
returns-in-Err-issue_pools-clause-others g c =
    others_then c.args.config.now (g.B.Bay.state c.args.bay.now).told (g.B.Bay.state c.open_images.new.bay).told (g.B.Bay.state c.give_back.new.bay).told (sent_others c.args.config.now c.in-Ok.images.out.items (length c.args.config.now.volumes.items) (g.B.Bay.state c.args.bay.now) (g.B.Bay.state c.open_images.new.bay) c.in-Ok.ensures.out) (back_others c.args.config.now _ g.B.Part.Disk.state (g.B.Bay.state c.open_images.new.bay).told (g.B.Bay.state c.give_back.new.bay).told c.give_back.ensures.back)
