use Rattle.rack_parts.proofs.Basics.{◌≡◌, [], Some, length, is_some, refl, sym, ap, ◌∙◌, arith, slice_get, slice_index_or, append-nil, length-append, slice_get-get_or}
use Rattle.rack_parts.proofs.Terms.{shape_of, Free}
use Rattle.rack_parts.proofs.OwnedTaken.{owner_of_true, taken_none, still_here, fewer_taken, taken_next, taken_all}
use Rattle.rack_parts.proofs.rack.ImageRest.take_owned.Goals as goal

pub loop-index-init : goal.loop-index-init
loop-index-init g c = record {
  taken = ([], sym (append-nil c.args.owned.now.items), taken_none (shape_of c.args.label.now) c.args.id c.args.label.now.id c.args.heads.now c.args.self.now);
  room = refl;
}

pub take_one-requires-clause-here : goal.take_one-requires-clause-here
take_one-requires-clause-here g c = λ own.
    let heads = c.args.heads.now in let n = c.loop-index.index in let h = slice_index_or heads n Free in let t = c.loop-index.invariant.taken in let k = c.args.label.now.id in
    let is : slice_get heads n ≡ Some h = slice_get-get_or heads n Free (omega arith) in
    ap is_some (still_here (shape_of c.args.label.now) c.args.id k heads c.args.self.now c.loop-index.self c.loop-index.self t.0 n h t.2 is c.requires.count)
    ∙ c.requires.here n (is ∙ ap Some (owner_of_true c.args.id h own))

pub take_one-requires-clause-room : goal.take_one-requires-clause-room
take_one-requires-clause-room g c = λ own.
    let heads = c.args.heads.now in let n = c.loop-index.index in let h = slice_index_or heads n Free in let t = c.loop-index.invariant.taken in let k = c.args.label.now.id in
    let is : slice_get heads n ≡ Some h = slice_get-get_or heads n Free (omega arith) in
    let few = fewer_taken (shape_of c.args.label.now) c.args.id k heads c.args.self.now c.loop-index.self c.loop-index.self t.0 n h t.2 is c.requires.count own in
    let e = ap length t.1 in let a = length-append c.args.owned.now.items t.0 in let room = c.requires.room in let cap = c.loop-index.invariant.room in
    omega (arith, few, e, a, room, cap, c.args.owned.now.ok.0, c.loop-index.owned.ok.0)

pub loop-index-preserved : goal.loop-index-preserved
loop-index-preserved g c =
    let heads = c.args.heads.now in let n = c.loop-index.index in let h = slice_index_or heads n Free in let t = c.loop-index.invariant.taken in let k = c.args.label.now.id in
    let is : slice_get heads n ≡ Some h = slice_get-get_or heads n Free (omega arith) in
    record {
      taken = taken_next (shape_of c.args.label.now) c.args.id k heads c.args.self.now c.loop-index.self c.take_one.new.self t.0 n h t.2 is c.requires.count c.loop-index.owned.items c.take_one.new.owned.items c.args.owned.now.items t.1 c.take_one.ensures.taken;
      room = c.take_one.ensures.room ∙ c.loop-index.invariant.room;
    }

pub returns-clause-taken : goal.returns-clause-taken
returns-clause-taken g c =
    let t = c.loop-index.invariant.taken in
    let all = taken_all (shape_of c.args.label.now) c.args.id c.args.label.now.id c.args.heads.now c.args.self.now c.loop-index.self t.0 c.loop-index.index t.2 (omega arith) in
    (t.0, t.1, all.0, all.1)
