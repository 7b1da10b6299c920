use Rattle.std.proofs.Common.{◌≡◌, ℕ, ◌+◌, ◌≤◌, List, [], ◌∷◌, length, take, drop, refl, sym, ◌∙◌, ap, subst, arith, length-drop}
use Rattle.std.proofs.lemmas.List.{drop-drop, drop_all}
use Rattle.std.proofs.lemmas.Result.{on_ok_weaker}
use Rattle.wol_disk.proofs.Moments.{started}
use Rattle.wol_disk.proofs.Calls.{settled_only, sync_goes_on}
use Rattle.spin_model.specs.Spun.{disk_of}
use Rattle.log_segment.specs.declared.item.Item.{Item}
use Rattle.log_segment.specs.Records.{count_of}
use Rattle.log_segment.proofs.Grouped.{count_more, from_item, item_at}
use Rattle.log_segment.proofs.Progress.{IsLaid, laid_none, laid_more, laid_all, front_stays}
use Rattle.log_segment.proofs.Told.{reads_settled}
use Rattle.log_segment.proofs.group.lay_group.Goals as goal

pub loop-item-init : goal.loop-item-init
loop-item-init g c = record {
  volume = refl;
  size = refl;
  calm = refl;
  beyond = omega arith;
  room = omega (arith, c.requires.fits, c.requires.all);
  left = omega (arith, c.requires.all);
  moments = λ bs is. started (g.met.D.Disk.sound (disk_of c.args.part.now)) (λ d i. ap (take (c.args.at + 1)) (settled_only _ bs d is i));
  laid = λ front tail place is ends. laid_none front tail c.args.items.now c.args.from.now c.args.at place is ends;
}

pub returns-in_err-lay_blocks-clause-any_moment : goal.returns-in_err-lay_blocks-clause-any_moment
returns-in_err-lay_blocks-clause-any_moment g c bs is =
    let i = c.loop-item.invariant in
    front_stays c.args.at c.loop-item.place bs i.beyond (i.moments bs is) (g.met.D.Disk.sound (disk_of c.loop-item.part)) c.lay_blocks.ensures.any_moment

pub loop-item-preserved : goal.loop-item-preserved
loop-item-preserved g c =
    let i = c.loop-item.invariant in
    let items = c.args.items.now in let index = c.loop-item.item-index in let item = item_at items index in let rest = drop (index + 1) items in
    let more = from_item items index c.loop-item-test.true in
    let from = c.args.from.now in
    let laid = c.loop-item.laid in
    let counted : item.count + count_of rest ≡ count_of (drop index items) = count_more item rest (count_of (drop index items)) (ap count_of (sym more)) in
    let fits : item.count ≤ length (drop laid from) = omega (arith, length-drop laid from, i.left, counted) in
    record {
      volume = c.lay_blocks.ensures.leaves.volume ∙ i.volume;
      size = c.lay_blocks.ensures.leaves.size ∙ i.size;
      calm = c.in_ok-lay_blocks.ensures.leaves.calm ∙ i.calm;
      beyond = omega (arith, i.beyond);
      room = omega (arith, i.room, counted, ap length more);
      left = omega (arith, i.left, counted);
      moments = λ bs is. front_stays c.args.at c.loop-item.place bs i.beyond (i.moments bs is) (g.met.D.Disk.sound (disk_of c.loop-item.part)) c.lay_blocks.ensures.any_moment;
      laid = λ front tail place is ends.
          let l : IsLaid _ front items from (item ∷ rest) (drop laid from) c.loop-item.place = subst (λ (m : List Item). IsLaid (g.D.Disk.state (disk_of c.loop-item.part)) front items from m (drop laid from) c.loop-item.place) more (i.laid front tail place is ends) in
          laid_more front items from item rest (drop laid from) _ (drop (laid + item.count) from) c.loop-item.place l (ap (λ (n : ℕ). take n (drop laid from)) (omega arith)) (sym (drop-drop item.count laid from)) fits
          (c.in_ok-lay_blocks.ensures.ok l.done l.rest l.place l.now l.ends);
    }

pub returns-clause-ok : goal.returns-clause-ok
returns-clause-ok g c front tail place is ends =
    let i = c.loop-item.invariant in
    let items = c.args.items.now in
    let from = c.args.from.now in
    let none : drop c.loop-item.item-index items ≡ [] = drop_all c.loop-item.item-index items (omega (arith, c.loop-item-test.false)) in
    let l = subst (λ (m : List Item). IsLaid (g.D.Disk.state (disk_of c.loop-item.part)) front items from m (drop c.loop-item.laid from) c.loop-item.place) none (i.laid front tail place is ends) in
    let all = laid_all front items from (drop c.loop-item.laid from) c.loop-item.place l in
    on_ok_weaker c.sync.result (λ s. (all.0, all.1, reads_settled _ _ _ all.2 s)) c.sync.ensures.ok

pub returns-clause-any_moment : goal.returns-clause-any_moment
returns-clause-any_moment g c bs is =
    sync_goes_on c.sync.result (c.loop-item.invariant.moments bs is) (g.met.D.Disk.sound (disk_of c.loop-item.part)) c.sync.ensures.ok c.sync.ensures.err c.sync.ensures.passes
