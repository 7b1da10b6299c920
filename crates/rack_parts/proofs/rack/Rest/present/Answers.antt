use Rattle.rack_parts.proofs.Basics.{◌≡◌, ◌<◌, ◌++◌, ◌∷◌, [], List, Bool, map, take, length, get_or, Option, is_some, sym, ap, subst, ◌∙◌}
use Rattle.rack_parts.proofs.Basics.{arith, take_all, take_more, map-append, length-map, length-take}
use Rattle.rack_parts.proofs.Terms.{ImageRest}
use Rattle.rack_parts.proofs.rack.Rest.present.Goals as goal

pub push_reserved-requires : goal.push_reserved-requires
push_reserved-requires g c =
    let I = Option (ImageRest g.row.D.Denot) in let xs = c.args.self.now.images.items in let i = c.loop-image.image-index in
    let lt : i < length xs = omega arith in
    let m = length-map (take i xs) (λ (j : I). is_some j) in
    let t = length-take i xs in
    omega (arith, ap length c.loop-image.invariant.so_far, m, t, lt, c.loop-image.invariant.room, c.loop-image.present.ok.0)

pub loop-image-preserved : goal.loop-image-preserved
loop-image-preserved g c =
    let I = Option (ImageRest g.row.D.Denot) in let xs = c.args.self.now.images.items in let i = c.loop-image.image-index in let x = c.image-item.result in
    let lt : i < length xs = omega arith in
    let at : x ≡ get_or xs i x = subst (λ (l : List I). x ≡ get_or l i x) c.deref-image-items.ensures.value c.image-item.is in
    record {
      so_far = c.push_reserved.ensures.items ∙ ap (λ (l : List Bool). l ++ c.is_some.result ∷ []) c.loop-image.invariant.so_far
          ∙ ap (λ (b : Bool). map (λ (j : I). is_some j) (take i xs) ++ b ∷ []) (c.is_some.ensures ∙ ap (λ (j : I). is_some j) at)
          ∙ sym (map-append (λ (j : I). is_some j) (take i xs) (get_or xs i x ∷ []))
          ∙ ap (map (λ (j : I). is_some j)) (sym (take_more xs i x lt));
      room = omega (arith, c.loop-image.invariant.room, c.push_reserved.ensures.capacity);
    }

pub returns : goal.returns
returns g c =
    let I = Option (ImageRest g.row.D.Denot) in
    c.loop-image.invariant.so_far ∙ ap (map (λ (i : I). is_some i)) (take_all c.loop-image.image-index c.args.self.now.images.items (omega arith))
