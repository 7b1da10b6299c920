use Rattle.std.proofs.Common.{◌≡◌, ◌+◌, List, [], ◌∷◌, ◌++◌, length, drop, refl, sym, ◌∙◌, ap, subst, arith}
use Rattle.std.specs.List.{flat_map}
use Rattle.std.proofs.lemmas.List.{drop_all}
use Rattle.std.proofs.lemmas.Result.{on_ok_weaker}
use Rattle.wol_disk.proofs.Calls.{sync_goes_on}
use Rattle.wol_model.specs.Heads.{IsRecordHead, head_block}
use Rattle.wol_model.specs.Log.{written}
use Rattle.spin_model.specs.Spun.{disk_of}
use Rattle.log_segment.specs.declared.item.Item.{Item}
use Rattle.log_segment.specs.Group.{without_heads}
use Rattle.log_segment.specs.Records.{count_of, group_of, AreItems}
use Rattle.log_segment.proofs.Grouped.{count_more, from_item, item_at, head_in_range}
use Rattle.log_segment.proofs.Progress.{IsHeaded, headed_none, headed_more, headed_all, heads_leave}
use Rattle.log_segment.proofs.Told.{reads_settled}
use Rattle.log_segment.proofs.group.lay_heads.Goals as goal

pub loop-item-init : goal.loop-item-init
loop-item-init g c = record {
  volume = refl;
  size = refl;
  calm = refl;
  room = c.requires.fits;
  are = c.requires.items;
  versions = c.requires.version;
  headed = λ front rest from place total is. headed_none c.args.owner c.args.version c.args.at front rest from c.args.items.now (g.met.D.Disk.sound (disk_of c.args.part.now)) place total is;
}

pub put_head-requires-clause-head : goal.put_head-requires-clause-head
put_head-requires-clause-head g c =
    let i = c.loop-item.invariant in
    let items = c.args.items.now in let index = c.loop-item.item-index in let item = item_at items index in let rest = drop (index + 1) items in
    let more = from_item items index c.loop-item-test.true in
    let are : AreItems (item ∷ rest) = subst AreItems more i.are in
    subst IsRecordHead (sym c.new_head-head.ensures)
    (head_in_range c.args.owner c.loop-item.next item.lbn item.count (omega (arith, c.ranges.owner)) (i.versions.0, omega (arith, i.versions.1, ap length more)) (are.0.0, are.0.1) are.0.2)

pub returns-in_err-put_head-clause-any_moment : goal.returns-in_err-put_head-clause-any_moment
returns-in_err-put_head-clause-any_moment g c front rest from place total is =
    let i = c.loop-item.invariant in
    let items = c.args.items.now in let index = c.loop-item.item-index in let item = item_at items index in let later = drop (index + 1) items in
    let more = from_item items index c.loop-item-test.true in
    let none = front ++ (without_heads items from ++ rest) in
    let all = front ++ (flat_map written (group_of c.args.owner c.args.version items from) ++ rest) in
    let start = g.D.Disk.state (disk_of c.args.part.now) in
    let now = g.D.Disk.state (disk_of c.loop-item.part) in
    let s = subst (λ (m : List Item). IsHeaded start now none all c.args.owner c.loop-item.next c.loop-item.place m rest) more (i.headed front rest from place total is) in
    heads_leave none all c.args.owner c.loop-item.next c.loop-item.place item later rest _ s (g.met.D.Disk.sound (disk_of c.loop-item.part)) (ap head_block c.new_head-head.ensures) c.put_head.ensures.any_moment

pub loop-item-preserved : goal.loop-item-preserved
loop-item-preserved g c =
    let i = c.loop-item.invariant in
    let items = c.args.items.now in let index = c.loop-item.item-index in let item = item_at items index in let later = drop (index + 1) items in
    let more = from_item items index c.loop-item-test.true in
    let counted : item.count + count_of later ≡ count_of (drop index items) = count_more item later (count_of (drop index items)) (ap count_of (sym more)) in
    let are : AreItems (item ∷ later) = subst AreItems more i.are in
    let start = g.D.Disk.state (disk_of c.args.part.now) in
    let now = g.D.Disk.state (disk_of c.loop-item.part) in
    record {
      volume = c.put_head.ensures.leaves.volume ∙ i.volume;
      size = c.put_head.ensures.leaves.size ∙ i.size;
      calm = c.in_ok-put_head.ensures.leaves.calm ∙ i.calm;
      room = omega (arith, i.room, counted, ap length more);
      are = are.1;
      versions = (omega (arith, i.versions.0), omega (arith, i.versions.1, ap length more));
      headed = λ front rest from place total is.
          let none = front ++ (without_heads items from ++ rest) in
          let all = front ++ (flat_map written (group_of c.args.owner c.args.version items from) ++ rest) in
          let s = subst (λ (m : List Item). IsHeaded start now none all c.args.owner c.loop-item.next c.loop-item.place m rest) more (i.headed front rest from place total is) in
          headed_more none all c.args.owner c.loop-item.next c.loop-item.place item later rest _ s (g.met.D.Disk.sound (disk_of c.loop-item.part)) (ap head_block c.new_head-head.ensures) (λ bs e. c.in_ok-put_head.ensures.ok bs e) c.put_head.ensures.any_moment;
    }

pub returns-clause-ok : goal.returns-clause-ok
returns-clause-ok g c front rest from place total is =
    let i = c.loop-item.invariant in
    let items = c.args.items.now in
    let none : drop c.loop-item.item-index items ≡ [] = drop_all c.loop-item.item-index items (omega (arith, c.loop-item-test.false)) in
    let before = front ++ (without_heads items from ++ rest) in
    let all = front ++ (flat_map written (group_of c.args.owner c.args.version items from) ++ rest) in
    let start = g.D.Disk.state (disk_of c.args.part.now) in
    let now = g.D.Disk.state (disk_of c.loop-item.part) in
    let s = subst (λ (m : List Item). IsHeaded start now before all c.args.owner c.loop-item.next c.loop-item.place m rest) none (i.headed front rest from place total is) in
    let reads = headed_all before all c.args.owner c.loop-item.next c.loop-item.place rest s in
    on_ok_weaker c.sync.result (λ synced. reads_settled _ _ _ reads synced) c.sync.ensures.ok

pub returns-clause-any_moment : goal.returns-clause-any_moment
returns-clause-any_moment g c front rest from place total is =
    let i = c.loop-item.invariant in
    sync_goes_on c.sync.result (i.headed front rest from place total is).moments (g.met.D.Disk.sound (disk_of c.loop-item.part)) c.sync.ensures.ok c.sync.ensures.err c.sync.ensures.passes
