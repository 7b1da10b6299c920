use Rattle.rack_parts.proofs.Basics.{◌≡◌, ℕ, suc, length, Some, None, ap, ◌∙◌, subst, arith, slice_get, option_map, get_or_from_slice_get, slice_get-map}
use Rattle.rack_parts.proofs.Terms.{shape_in, image_here}
use Rattle.rack_parts.proofs.Members.{element_at, front_all, pop_front, is_there}
use Rattle.rack_parts.proofs.GivenBack.{IsBackFrom, none_so_far, one_more_back, all_are_back}
use Rattle.rack_parts.proofs.rest.give_back.Goals as goal

pub loop-image-init : goal.loop-image-init
loop-image-init g c = record {
  front = front_all c.args.images.items;
  back = none_so_far g.B.Part.Disk.state c.args.config.now c.args.images.items (g.B.Bay.state c.args.bay.now) c.requires.out;
}

pub give_image_back-requires-clause-image : goal.give_image_back-requires-clause-image
give_image_back-requires-clause-image g c = λ v r at is.
    let number : length c.pop.new.self.items ≡ c.len.result = omega (arith, c.len.ensures, c.pop.new.self.ok.0) in
    let p = pop_front c.loop-image.images.items c.pop.new.self.items c.args.images.items c.in-Some.image c.in-Some.ensures.items c.loop-image.invariant.front in
    let there : slice_get c.args.images.items c.len.result ≡ Some c.in-Some.image = subst (λ (m : ℕ). slice_get c.args.images.items m ≡ Some c.in-Some.image) number p.there in
    let here : image_here c.args.images.items c.len.result ≡ Some r = get_or_from_slice_get c.args.images.items c.len.result c.in-Some.image None there ∙ is in (
      c.requires.images c.len.result (shape_in c.args.config.now v) r (slice_get-map (shape_in c.args.config.now) c.args.config.now.volumes.items c.len.result ∙ ap (option_map (shape_in c.args.config.now)) at) here,
      c.requires.whole c.len.result r here,
      c.loop-image.invariant.back.out c.len.result v (omega (arith, number, p.count)) at (is_there (image_here c.args.images.items c.len.result) r here),
    )

pub loop-image-preserved : goal.loop-image-preserved
loop-image-preserved g c =
    let number : c.len.result ≡ length c.pop.new.self.items = omega (arith, c.len.ensures, c.pop.new.self.ok.0) in
    let p = pop_front c.loop-image.images.items c.pop.new.self.items c.args.images.items c.in-Some.image c.in-Some.ensures.items c.loop-image.invariant.front in
    let v = element_at c.args.config.now.volumes.items (length c.pop.new.self.items) (omega (arith, p.count, p.few, c.requires.count)) in
    let at : slice_get c.args.config.now.volumes.items c.len.result ≡ Some v.0 = ap (slice_get c.args.config.now.volumes.items) number ∙ v.1 in
    let next : length c.loop-image.images.items ≡ suc (length c.pop.new.self.items) = omega (arith, p.count) in
    record {
      front = p.front;
      back = one_more_back g.B.Part.Disk.state c.args.config.now c.args.images.items c.requires.config (length c.pop.new.self.items) v.0 v.1 (g.B.Bay.state c.args.bay.now) (g.B.Bay.state c.loop-image.bay) (g.B.Bay.state c.give_image_back.new.bay) c.in-Some.image p.there (g.B.Bay.apart c.loop-image.bay)
          (subst (λ (m : ℕ). IsBackFrom g.B.Part.Disk.state c.args.config.now c.args.images.items m (g.B.Bay.state c.args.bay.now) (g.B.Bay.state c.loop-image.bay)) next c.loop-image.invariant.back) (c.give_image_back.ensures v.0 at);
    }

pub returns-clause-home : goal.returns-clause-home
returns-clause-home g c =
    let none : length c.loop-image.images.items ≡ 0 = omega (arith, c.in_default.ensures.cases, c.loop-image.images.ok.0) in
    all_are_back g.B.Part.Disk.state c.args.config.now c.args.images.items (g.B.Bay.state c.args.bay.now) (g.B.Bay.state c.loop-image.bay)
    (subst (λ (m : ℕ). IsBackFrom g.B.Part.Disk.state c.args.config.now c.args.images.items m (g.B.Bay.state c.args.bay.now) (g.B.Bay.state c.loop-image.bay)) none c.loop-image.invariant.back)

pub returns-clause-cause : goal.returns-clause-cause
returns-clause-cause g c =
    let none : length c.loop-image.images.items ≡ 0 = omega (arith, c.in_default.ensures.cases, c.loop-image.images.ok.0) in
    (subst (λ (m : ℕ). IsBackFrom g.B.Part.Disk.state c.args.config.now c.args.images.items m (g.B.Bay.state c.args.bay.now) (g.B.Bay.state c.loop-image.bay)) none c.loop-image.invariant.back).cause
