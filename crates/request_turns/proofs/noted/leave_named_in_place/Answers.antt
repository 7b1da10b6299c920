use Rattle.request_turns.proofs.InPlace.{coded_in_place, left_in_place, down_in_place}
use Rattle.request_turns.proofs.noted.leave_named_in_place.Goals as goal

pub leave_in_place-requires-clause-value : goal.leave_in_place-requires-clause-value
leave_in_place-requires-clause-value g c = coded_in_place _ _ _ _ _ c.requires.note c.requires.value

pub returns : goal.returns
returns g c m at = let l = c.leave_in_place.ensures in record {
  left = left_in_place _ _ _ _ _ c.requires.note c.requires.value _ l.seen l.same l.free l.mine m at;
  broken = λ d down. down_in_place _ _ _ _ _ c.requires.note c.requires.value _ l.seen m d at down;
}
