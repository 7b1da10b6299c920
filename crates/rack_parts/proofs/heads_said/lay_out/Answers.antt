use Rattle.rack_parts.proofs.Basics.{◌≡◌, ◌++◌, List, [], length, map, reverse, Option, Some, refl, sym, ap, ◌∙◌, arith, append-nil, reverse-reverse, nil_from_length}
use Rattle.rack_parts.proofs.Terms.{Spun}
use Rattle.rack_parts.proofs.Members.{laid_next}
use Rattle.rack_parts.proofs.heads_said.lay_out.Goals as goal

pub loop-part-init : goal.loop-part-init
loop-part-init g c =
    let Part = Spun g.row.D.Denot in let was = c.args.image.parts.image.segments in
    record {
      kept = ap (λ (l : List (Option Part)). l ++ map (λ (p : Part). Some p) (reverse c.reverse.new.self.items)) c.requires.empty
          ∙ ap (λ (l : List Part). map (λ (p : Part). Some p) l) (ap reverse c.reverse.ensures.items ∙ reverse-reverse was.items);
      room = omega (arith, c.args.segments.ok.0, ap length c.requires.empty, c.requires.room, c.reverse.ensures.len, was.ok.0);
      capacity = c.reverse.ensures.capacity;
    }

pub push_reserved-requires : goal.push_reserved-requires
push_reserved-requires g c = omega (arith, c.loop-part.invariant.room, c.in-Some.ensures.len)

pub loop-part-preserved : goal.loop-part-preserved
loop-part-preserved g c =
    let inv = c.loop-part.invariant in
    record {
      kept = laid_next c.loop-part.segments.items c.push_reserved.new.self.items c.loop-part.row.items c.pop.new.self.items c.in-Some.part (map (λ (p : Spun g.row.D.Denot). Some p) c.args.image.parts.image.segments.items)
          c.push_reserved.ensures.items c.in-Some.ensures.items inv.kept;
      room = omega (arith, inv.room, c.push_reserved.ensures.len, c.push_reserved.ensures.capacity, c.in-Some.ensures.len);
      capacity = c.in-Some.ensures.capacity ∙ inv.capacity;
    }

pub returns : goal.returns
returns g c =
    let Part = Spun g.row.D.Denot in let inv = c.loop-part.invariant in let done = c.loop-part.segments.items in let was = c.args.image.parts.image.segments in
    let none : c.loop-part.row.items ≡ [] = nil_from_length c.loop-part.row.items (omega (arith, c.in_default.ensures.cases, c.loop-part.row.ok.0)) in
    record {
      view = refl;
      heads = refl;
      label = refl;
      home = refl;
      segments = sym (append-nil done) ∙ sym (ap (λ (l : List Part). done ++ map (λ (p : Part). Some p) (reverse l)) none) ∙ inv.kept;
      row = (
        nil_from_length c.pop.new.self.items (omega (arith, c.in_default.ensures.cases, c.pop.new.self.ok.0)),
        omega (arith, c.in_default.ensures.capacity, inv.capacity, was.ok.0, was.ok.1),
      );
      room = refl;
    }
