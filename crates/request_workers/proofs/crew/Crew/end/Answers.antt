use Rattle.std.proofs.Common.{List, length, ap, sym, subst, ◌∙◌}
use Rattle.std.proofs.lemmas.List.{with_items_is}
use Rattle.request_workers.specs.Crews.{AreIdleSeats, AreOver}
use Rattle.request_workers.specs.declared.crew.Seat.{Seat}
use Rattle.request_workers.proofs.crew.Crew.end.Goals as goal

pub end_each-requires-clause-idle : goal.end_each-requires-clause-idle
end_each-requires-clause-idle g c = subst (λ (ss : List (Seat g.row.D.Denot)). AreIdleSeats c.args.self.now.errands.now ss) (sym c.as_mut_slice.ensures.value) c.requires.part.home

pub returns-clause-over : goal.returns-clause-over
returns-clause-over g c =
    let crew = c.args.self.now in
    let same = c.end_each.auto.seats ∙ ap length c.as_mut_slice.ensures.value in
    let is = with_items_is crew.seats c.end_each.new.seats (same ∙ sym crew.seats.ok.0) in record {
      over = subst (λ (ss : List (Seat g.row.D.Denot)). AreOver crew.errands.now ss) (sym is) c.end_each.ensures;
      each = ap length is ∙ (same ∙ c.requires.each);
    }
