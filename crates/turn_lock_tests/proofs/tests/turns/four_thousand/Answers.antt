use Rattle.std.proofs.Common.{rules, ◌≡◌, ◌+◌, ◌%◌, ◌^◌, length, ap, ◌∙◌, arith}
use Rattle.std.proofs.lemmas.List.Elements.{All-weaker}
use Rattle.turn_lock.specs.Passes.{pass_mine, lock_id}
use Rattle.turn_lock_tests.specs.Made.{HasMade}
use Rattle.turn_lock_tests.proofs.Totals.{total_each}
use Rattle.turn_lock_tests.proofs.tests.turns.four_thousand.Goals as goal

pub returns-in-Ok : goal.returns-in-Ok
returns-in-Ok g c =
    let e = c.close-counter.ensures in let ps = c.all_turns.new.passes.items in
    let made = total_each (λ p. length (pass_mine p)) ps (All-weaker (HasMade c.in-Ok.lock 1000) (λ p. length (pass_mine p) ≡ 1000) (λ p h. h.made) ps c.all_turns.ensures.made) in
    let four : length ps ≡ 4 = search rules in
    let start : (lock_id c.in-Ok.lock).base ≡ 0 = search rules in
    let all : (lock_id c.in-Ok.lock).base + length e.0 ≡ 4000 = (let w = e.2.counted in omega arith) in
    e.1 ∙ ap (λ n. n % 2 ^ 64) all
