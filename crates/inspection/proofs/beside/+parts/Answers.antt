use Rattle.std.proofs.Common.{sym, ◌∙◌}
use Rattle.inspection.proofs.Halves.{ahead_back, ahead_front, found_both}
use Rattle.inspection.proofs.beside.+parts.Goals as goal

pub find_parts-find_both-requires-clause-front : goal.find_parts-find_both-requires-clause-front
find_parts-find_both-requires-clause-front g t c κs within =
    let s = c.split_at_mut-front in let f = c.split_at_mut-front_findings in
    ahead_front _ _ s.result.0.now s.result.1.now f.result.0.now f.result.1.now (f.ensures.front_len ∙ sym s.ensures.front_len) (rw (s.ensures.value, f.ensures.value) at c.requires.ahead)

pub find_parts-find_both-requires-clause-back : goal.find_parts-find_both-requires-clause-back
find_parts-find_both-requires-clause-back g t c κs within =
    let s = c.split_at_mut-front in let f = c.split_at_mut-front_findings in
    ahead_back _ _ s.result.0.now s.result.1.now f.result.0.now f.result.1.now (f.ensures.front_len ∙ sym s.ensures.front_len) (rw (s.ensures.value, f.ensures.value) at c.requires.ahead)

pub find_parts-returns : goal.find_parts-returns
find_parts-returns g t c =
    let s = c.split_at_mut-front in let f = c.split_at_mut-front_findings in let e = c.find_both in
    rw s.ensures.value (found_both _ _ _ s.result.0.now s.result.1.now e.new.front e.new.back e.new.front_findings e.new.back_findings
    (e.auto.front_findings ∙ (f.ensures.front_len ∙ sym s.ensures.front_len)) e.auto.front e.ensures.front e.ensures.back)
