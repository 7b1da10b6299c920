use Rattle.std.proofs.Common.{rules, ◌≡◌, ℕ, ◌-◌, ◌<◌, ap, arith}
use Rattle.turn_lock.specs.Views.{next_of}
use Rattle.turn_lock.specs.Passes.{IsNewPass, pass_lock, pass_number, pass_seen, pass_mine, lock_id, lock_passes}
use Rattle.turn_lock.proofs.Totals.{each_more}
use Rattle.turn_lock.proofs.PassSteps.{splits, issues_on}
use Rattle.turn_lock.proofs.lock.TurnLock.issue.Goals as goal

pub split_seat-seat-requires : goal.split_seat-seat-requires
unfolding pass_lock pass_number pass_seen pass_mine lock_id lock_passes
split_seat-seat-requires g c =
    let root = c.loop-number.invariant.root in let n : ℕ = c.loop-number.number in let left : n < c.args.count = search rules in
    let parts : c.loop-number.root.me.0.parts ≡ c.args.count - n = ap (λ m. m.0.parts) root in
    (search rules, search rules, splits g.T.Object.stands _ _ _ n _ (ap (λ m. m.0.stage) root) (omega arith))

pub loop-number-preserved : goal.loop-number-preserved
unfolding pass_lock pass_number pass_seen pass_mine lock_id lock_passes
loop-number-preserved g c =
    let e = c.split_seat-seat.ensures in let root = c.loop-number.invariant.root in let n : ℕ = c.loop-number.number in
    let next : next_of c.loop-number.root.me.0.stage ≡ n = ap (λ m. next_of m.0.stage) root in record {
      table = search rules;
      root = issues_on g.base c.args.count n c.loop-number.root.me c.split_seat-seat.new.seat.me root e.2;
      len = search rules;
      room = search rules;
      passes = rw c.push_reserved.ensures.items (each_more (IsNewPass c.args.self.now) _ _ c.loop-number.invariant.passes record {
        at = record {
          own = λ i. record { table = (let h : c.split_seat-seat.result.table_id ≡ c.args.self.now.table.shared.table_id = search rules in h i); base = (let h : c.pick.result.value ≡ c.args.self.now.base.value = search rules in h i) };
          free = (ap (λ m. m.0.stage) e.4, ap (λ m. m.1) e.4);
          number_is = search rules;
        };
        seen = ap (λ m. m.0.seen) e.4;
        mine = ap (λ m. m.0.mine) e.4;
      });
    }
