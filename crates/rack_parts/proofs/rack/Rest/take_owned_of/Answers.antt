use Rattle.rack_parts.proofs.Basics.{◌≡◌, ◌<◌, ◌++◌, ℕ, List, None, Option, is_some, length, sym, ap, subst, ◌∙◌, arith, IfSome, with_item, get_or_read}
use Rattle.rack_parts.proofs.Terms.{shape_of, SegHead, OwnedPart, owned_in, TakesOwnedOf, CanTakeOwnedOf, Said, ImageRest}
use Rattle.rack_parts.proofs.OwnedTaken.{Gave, shape_at, took_of}
use Rattle.rack_parts.proofs.rack.Rest.take_owned_of.Goals as goal

pub returns-clause-taken : goal.returns-clause-taken
returns-clause-taken g c =
    let r = c.args.self.now in let v = c.args.id in let k = c.args.logger in let s = c.in-Some.said in let config = c.args.config.now in let label = c.label_of-label.result in
    let I = ImageRest g.row.D.Denot in let before = c.args.owned.now.items in let after = c.take_owned_in.new.owned.items in let was = c.index_mut.result.now in let image = c.take_owned_in.new.image in
    let within : k < length r.images.items = omega (arith, c.requires.images, r.images.ok.0) in
    let shape = shape_at config k (shape_of label) (omega (arith, c.requires.within, config.volumes.ok.0)) c.label_of-label.ensures.shape in
    let gave = subst (λ (j : ℕ). IfSome was (λ (o : I). IfSome image (λ (n : I). Gave v j (shape_of label) s.heads.items o n before after))) c.label_of-label.ensures.id
    (subst (λ (heads : List SegHead). IfSome was (λ (o : I). IfSome image (λ (n : I). Gave v label.id (shape_of label) heads o n before after))) c.as_slice.ensures.value c.take_owned_in.ensures.taken) in
    let can = subst (CanTakeOwnedOf r v k) c.in-Some.is c.requires.here in
    let was_is = get_or_read r.images.items k was within c.index_mut.ensures.value None in
    let took = took_of config r v k s (shape_of label) was image before after within was_is shape (ap is_some (was_is ∙ can.1)) c.take_owned_in.ensures.there gave in
    subst (λ (o : Option Said). (more : List (OwnedPart g.row.D.Denot)) × (after ≡ before ++ more) × (length more ≡ owned_in v o)
    × TakesOwnedOf config r (record { images = with_item r.images k image; passes = r.passes; rooms = r.rooms }) v k o more) (sym c.in-Some.is) took
