use Rattle.rack_parts.proofs.Basics.{◌≡◌, List, [], ◌++◌, length, map, reverse, Option, None, Some, is_some, sym, ap, subst, ◌∙◌, arith}
use Rattle.rack_parts.proofs.Basics.{All, IsSome, false≢true, append-nil, reverse-reverse, nil_from_length, All-from_get_or, All-pop}
use Rattle.rack_parts.proofs.Terms.{Spun}
use Rattle.rack_parts.proofs.Members.{all_reverse, together_next}
use Rattle.rack_parts.proofs.rack.ImageRest.into_parts.Goals as goal

pub loop-segment-init : goal.loop-segment-init
loop-segment-init g c =
    let Part = Spun g.row.D.Denot in let r = c.args.self in
    record {
      kept = ap (λ (l : List Part). map (λ (p : Part). Some p) l ++ reverse c.reverse.new.self.items) c.requires.row.0 ∙ ap reverse c.reverse.ensures.items ∙ reverse-reverse r.segments.items;
      here = subst (All (λ (o : Option Part). IsSome o)) (sym c.reverse.ensures.items) (all_reverse (λ (o : Option Part). IsSome o) r.segments.items (All-from_get_or (λ (o : Option Part). IsSome o) r.segments.items None c.requires.segments));
      room = omega (arith, r.row.ok.0, ap length c.requires.row.0, c.requires.row.1, c.reverse.ensures.len, r.segments.ok.0);
    }

pub unreachable-requires : goal.unreachable-requires
unreachable-requires g c =
    let Part = Spun g.row.D.Denot in
    let h = All-pop (λ (o : Option Part). IsSome o) _ _ (Some c.in-Some.segment) c.in-Some.ensures.items c.loop-segment.invariant.here in
    false≢true (sym (ap is_some c.in_default-segment.is) ∙ h.1)

pub push_reserved-requires : goal.push_reserved-requires
push_reserved-requires g c = omega (arith, c.loop-segment.invariant.room, c.in-Some.ensures.len)

pub loop-segment-preserved : goal.loop-segment-preserved
loop-segment-preserved g c =
    let Part = Spun g.row.D.Denot in let inv = c.loop-segment.invariant in
    record {
      kept = ap (λ (l : List Part). map (λ (p : Part). Some p) l ++ reverse c.pop.new.self.items) c.push_reserved.ensures.items
          ∙ together_next c.loop-segment.row.items c.pop.new.self.items c.in-Some-segment.part c.in-Some.segment c.args.self.segments.items c.in-Some-segment.is
          (ap (λ (l : List (Option Part)). map (λ (p : Part). Some p) c.loop-segment.row.items ++ reverse l) (sym c.in-Some.ensures.items) ∙ inv.kept);
      here = (All-pop (λ (o : Option Part). IsSome o) _ _ (Some c.in-Some.segment) c.in-Some.ensures.items inv.here).0;
      room = omega (arith, inv.room, c.push_reserved.ensures.len, c.push_reserved.ensures.capacity, c.in-Some.ensures.len);
    }

pub returns : goal.returns
returns g c =
    let Part = Spun g.row.D.Denot in let inv = c.loop-segment.invariant in let row = c.loop-segment.row.items in
    let none : c.loop-segment.segments.items ≡ [] = nil_from_length c.loop-segment.segments.items (omega (arith, c.in_default.ensures.cases, c.loop-segment.segments.ok.0)) in
    record {
      home = c.in-Some-home.home;
      segments = row;
      home_is = c.in-Some-home.is;
      segments_are = sym inv.kept ∙ ap (λ (l : List (Option Part)). map (λ (p : Part). Some p) row ++ reverse l) none ∙ append-nil (map (λ (p : Part). Some p) row);
      disks_are = c.put_together.ensures;
    }
