use Rattle.std.proofs.Common.{◌≡◌, ◌≤◌, ℕ, List, length, map, take, refl, sym, ap, subst, ◌∙◌, arith}
use Rattle.std.specs.List.{sum_by}
use Rattle.std.proofs.lemmas.List.{length-map, with_items_is}
use Rattle.turn_lock.specs.Passes.{pass_lock}
use Rattle.log_segment.specs.Records.{count_of}
use Rattle.log_segment.specs.declared.item.Item.{Item}
use Rattle.manager.specs.Groups.{AreItemsOf}
use Rattle.trace_windows.specs.declared.request.Request.{Request}
use Rattle.request_turns.specs.Groups.{HasWrittenMany, item_of}
use Rattle.request_turns.proofs.Counting.{counted_turn}
use Rattle.request_turns.proofs.GroupPayloads.{requests_write, counted_all, few_requests}
use Rattle.request_turns.proofs.GroupTurns.{answered_many, items_within, few_here, here, ends_below}
use Rattle.request_turns.proofs.Payloads.{kept_length}
use Rattle.request_turns.proofs.group.write_many_turn.Goals as goal

pub list_items-requires : goal.list_items-requires
list_items-requires g c =
    let rs = c.args.requests.now in let e = c.enter_in_place.ensures in let room = c.payload.invariant.1 in
    let sum = few_here c.args.pass.now c.enter_in_place.new.pass rs e.same c.requires.within e.value.2.keeps.upholds.places.most.1 c.requires.some c.requires.blocks in
    let le = few_requests rs (pass_lock c.args.pass.now).base c.requires.within in omega (arith, le, sum, room)

pub fill_all-requires-clause-room : goal.fill_all-requires-clause-room
fill_all-requires-clause-room g c =
    let e = c.enter_in_place.ensures in
    let long : length c.deref_mut.result.now ≡ 128 = ap length c.deref_mut.ensures.value ∙ c.payload.invariant.0 in
    let sum = few_here c.args.pass.now c.enter_in_place.new.pass c.args.requests.now e.same c.requires.within e.value.2.keeps.upholds.places.most.1 c.requires.some c.requires.blocks in omega (arith, long, sum)

pub fill_all-requires-clause-within : goal.fill_all-requires-clause-within
fill_all-requires-clause-within g c =
    let e = c.enter_in_place.ensures in
    ends_below (pass_lock c.enter_in_place.new.pass).base c.args.requests.now (here c.args.pass.now c.enter_in_place.new.pass c.args.requests.now e.same c.requires.within) e.value.2.keeps.upholds.places.home_blocks.1

pub write_run_within-requires-clause-items : goal.write_run_within-requires-clause-items
write_run_within-requires-clause-items g c =
    let base = (pass_lock c.enter_in_place.new.pass).base in
    subst (AreItemsOf base.volume.began.most base.volume.began.home_blocks) (sym (c.as_slice.ensures.value ∙ c.list_items.ensures.listed))
    (items_within base c.args.requests.now (here c.args.pass.now c.enter_in_place.new.pass c.args.requests.now c.enter_in_place.ensures.same c.requires.within))

pub write_run_within-requires-clause-blocks : goal.write_run_within-requires-clause-blocks
write_run_within-requires-clause-blocks g c =
    let e = c.enter_in_place.ensures in let rs = c.args.requests.now in
    let long : length c.deref.result.now ≡ 128 = ap length c.deref.ensures.value ∙ kept_length c.payload.inside.blocks _ 128 c.payload.invariant.0 in
    let sum = few_here c.args.pass.now c.enter_in_place.new.pass rs e.same c.requires.within e.value.2.keeps.upholds.places.most.1 c.requires.some c.requires.blocks in
    subst (λ (is : List Item). count_of is ≤ length c.deref.result.now) (sym (c.as_slice.ensures.value ∙ c.list_items.ensures.listed))
    (subst (λ (k : ℕ). k ≤ length c.deref.result.now) (sym (counted_all rs)) (omega (arith, sum, long)))

pub returns-clause-answered : goal.returns-clause-answered
returns-clause-answered g c =
    let e = c.enter_in_place.ensures in let rs = c.args.requests.now in
    let kept : length c.fill_all.new.out ≡ c.payload.inside.blocks.len = c.fill_all.ensures.same ∙ ap length c.deref_mut.ensures.value ∙ sym c.payload.inside.blocks.ok.0 in
    let is : c.deref.result.now ≡ c.fill_all.new.out = c.deref.ensures.value ∙ with_items_is c.payload.inside.blocks _ kept in
    answered_many _ rs (map item_of rs) c.deref.result.now c.write_run_within.result.0 c.write_run_within.result.1 c.args.pass.now c.enter_in_place.new.pass _ _ _
    c.requires.kinds (requests_write rs c.deref.result.now (ap (take (sum_by (λ (r : Request). r.count) rs)) is ∙ c.fill_all.ensures.filled)) (length-map rs item_of) e.same e.seen e.mine e.own
    (subst (λ (is : List Item). HasWrittenMany g.D.Disk.tells is c.deref.result.now c.write_run_within.result.0 c.write_run_within.result.1 c.args.tally.now c.write_run_within.new.tally c.enter_in_place.new.pass c.write_run_within.new.pass)
    (c.as_slice.ensures.value ∙ c.list_items.ensures.listed) c.write_run_within.ensures)

pub returns-clause-counted : goal.returns-clause-counted
returns-clause-counted g c = let e = c.enter_in_place.ensures in let w = c.write_run_within.ensures in
    counted_turn _ _ c.enter_in_place.new.pass _ w.note _ _ _ e.same e.seen e.mine e.own w.left w.ruled refl w.counted
