use Rattle.std.proofs.Common.{◌≡◌, ◌+◌, List, [], ◌∷◌, length, drop, refl, sym, ◌∙◌, ap, subst, arith}
use Rattle.std.specs.Prelude.{slice_index_or}
use Rattle.std.proofs.lemmas.List.{drop_more, drop_all}
use Rattle.log_segment.specs.declared.item.Item.{Item}
use Rattle.log_segment.specs.Records.{count_of, AreItems}
use Rattle.log_segment.proofs.Grouped.{count_more}
use Rattle.volume_parts.specs.Listing.{recs_at, entered_all}
use Rattle.volume_parts.proofs.Records.{rec_of, listed_more, below_more, keeps_one, within_count, one_place, room_left}
use Rattle.volume_parts.proofs.group.list_group.Goals as goal

pub loop-item-init : goal.loop-item-init
loop-item-init c = record { entries = refl; below = c.requires.below; are = c.requires.items; versions = c.requires.version; position = c.requires.position; reserved = c.requires.reserved }

pub add-requires-clause-some : goal.add-requires-clause-some
add-requires-clause-some c =
    let items = c.args.items.now in let index = c.loop-item.item-index in let other : Item = record { lbn = 0; count = 0 } in let item : Item = slice_index_or items index other in let later = drop (index + 1) items in
    let more : drop index items ≡ item ∷ later = drop_more items index other c.loop-item-test.true in let are : AreItems (item ∷ later) = subst AreItems more c.loop-item.invariant.are in are.0.0

pub add-requires-clause-count : goal.add-requires-clause-count
add-requires-clause-count c =
    let items = c.args.items.now in let index = c.loop-item.item-index in let other : Item = record { lbn = 0; count = 0 } in let item : Item = slice_index_or items index other in let later = drop (index + 1) items in
    let more : drop index items ≡ item ∷ later = drop_more items index other c.loop-item-test.true in let are : AreItems (item ∷ later) = subst AreItems more c.loop-item.invariant.are in are.0.1

pub add-requires-clause-within : goal.add-requires-clause-within
add-requires-clause-within c =
    let items = c.args.items.now in let index = c.loop-item.item-index in let other : Item = record { lbn = 0; count = 0 } in let item : Item = slice_index_or items index other in let later = drop (index + 1) items in
    let more : drop index items ≡ item ∷ later = drop_more items index other c.loop-item-test.true in let are : AreItems (item ∷ later) = subst AreItems more c.loop-item.invariant.are in are.0.2

pub all_kept-requires : goal.all_kept-requires
all_kept-requires c =
    let items = c.args.items.now in let index = c.loop-item.item-index in let other : Item = record { lbn = 0; count = 0 } in let item : Item = slice_index_or items index other in let later = drop (index + 1) items in
    let more : drop index items ≡ item ∷ later = drop_more items index other c.loop-item-test.true in let are : AreItems (item ∷ later) = subst AreItems more c.loop-item.invariant.are in (are.0.0, are.0.1)

pub add-requires-clause-keeps : goal.add-requires-clause-keeps
add-requires-clause-keeps c =
    let items = c.args.items.now in let index = c.loop-item.item-index in let other : Item = record { lbn = 0; count = 0 } in let item : Item = slice_index_or items index other in let later = drop (index + 1) items in
    let more : drop index items ≡ item ∷ later = drop_more items index other c.loop-item-test.true in let are : AreItems (item ∷ later) = subst AreItems more c.loop-item.invariant.are in
    keeps_one item.count c.all_kept.result are.0.0 c.all_kept.ensures

pub add-requires-clause-keep_within : goal.add-requires-clause-keep_within
add-requires-clause-keep_within c =
    let items = c.args.items.now in let index = c.loop-item.item-index in let other : Item = record { lbn = 0; count = 0 } in let item : Item = slice_index_or items index other in let later = drop (index + 1) items in
    let more : drop index items ≡ item ∷ later = drop_more items index other c.loop-item-test.true in let are : AreItems (item ∷ later) = subst AreItems more c.loop-item.invariant.are in
    within_count item.count c.all_kept.result are.0.0 c.all_kept.ensures

pub add-requires-clause-reserved : goal.add-requires-clause-reserved
add-requires-clause-reserved c =
    let items = c.args.items.now in let index = c.loop-item.item-index in let other : Item = record { lbn = 0; count = 0 } in let item : Item = slice_index_or items index other in let later = drop (index + 1) items in
    let more : drop index items ≡ item ∷ later = drop_more items index other c.loop-item-test.true in let are : AreItems (item ∷ later) = subst AreItems more c.loop-item.invariant.are in
    one_place item.count c.all_kept.result c.loop-item.index.reserved are.0.0 c.all_kept.ensures (omega (arith, c.loop-item.invariant.reserved, ap length more))

pub loop-item-preserved : goal.loop-item-preserved
loop-item-preserved c =
    let i = c.loop-item.invariant in
    let items = c.args.items.now in let index = c.loop-item.item-index in let other : Item = record { lbn = 0; count = 0 } in let item : Item = slice_index_or items index other in let later = drop (index + 1) items in
    let more : drop index items ≡ item ∷ later = drop_more items index other c.loop-item-test.true in let are : AreItems (item ∷ later) = subst AreItems more i.are in
    let counted : item.count + count_of later ≡ count_of (drop index items) = count_more item later (count_of (drop index items)) (ap count_of (sym more)) in
    let es = c.loop-item.index.entries in let es' = c.add.new.self.entries in let lane = c.args.lane in let segment = c.args.spot.segment in
    record {
      entries = listed_more es es' c.loop-item.next lane segment c.loop-item.pos c.all_kept.result item later c.all_kept.ensures c.add.ensures.entries
          ∙ ap (λ (xs : List Item). entered_all es (recs_at c.loop-item.next xs lane segment c.loop-item.pos)) (sym more) ∙ i.entries;
      below = below_more es es' (rec_of c.loop-item.next lane segment c.loop-item.pos c.all_kept.result item) c.add.ensures.entries i.below;
      are = are.1;
      versions = omega (arith, i.versions, ap length more);
      position = omega (arith, i.position, counted, ap length more);
      reserved = room_left item.count c.all_kept.result c.loop-item.index.reserved c.add.new.self.reserved (length later) are.0.0 c.all_kept.ensures c.add.ensures.room (omega (arith, i.reserved, ap length more));
    }

pub returns : goal.returns
returns c =
    let none : drop c.loop-item.item-index c.args.items.now ≡ [] = drop_all c.loop-item.item-index c.args.items.now (omega (arith, c.loop-item-test.false)) in
    ap (λ (xs : List Item). entered_all c.loop-item.index.entries (recs_at c.loop-item.next xs c.args.lane c.args.spot.segment c.loop-item.pos)) (sym none) ∙ c.loop-item.invariant.entries
