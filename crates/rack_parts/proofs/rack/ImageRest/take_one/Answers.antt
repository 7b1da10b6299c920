use Rattle.rack_parts.proofs.Basics.{◌≡◌, Bool, true, None, Some, refl, sym, ap, subst, ◌∙◌, slice_set, with_item, length-set, get_or_read}
use Rattle.rack_parts.proofs.Terms.{shape_of, OwnedPart, segment_here, is_owned_by, TakesOne, ImageRest}
use Rattle.rack_parts.proofs.rack.ImageRest.take_one.Goals as goal

pub returns-clause-taken : goal.returns-clause-taken
returns-clause-taken g c =
    let r = c.args.self.now in let i = c.args.index in let label = c.args.label.now in
    let own : is_owned_by c.args.id c.args.head ≡ true = sym c.is_owned_by.ensures ∙ c.if-not-is_owned_by.false in
    let o : OwnedPart g.row.D.Denot = record { logger = label.id; index = i; first_block = c.head_place.result; part = c.in-Some.part } in
    let new : ImageRest g.row.D.Denot = record { label = r.label; home = r.home; segments = with_item r.segments i c.take.new.self; row = r.row; room = r.room } in
    let there : segment_here r i ≡ Some c.in-Some.part = sym (get_or_read r.segments.items i c.index_mut.result.now c.requires.within c.index_mut.ensures.value None) ∙ sym c.take.ensures.value ∙ c.in-Some.is in
    subst (λ (b : Bool). TakesOne (shape_of label) label.id b r new i c.args.owned.now.items c.push_reserved.new.self.items) (sym own) (
      o,
      c.push_reserved.ensures.items,
      refl,
      c.head_place.ensures,
      there,
      record { label = refl; home = refl; count = length-set r.segments.items i c.take.new.self; row = refl; room = refl },
      ap (slice_set r.segments.items i) c.take.ensures.after,
    )
