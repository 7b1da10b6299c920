-- One volume more had its turn to reclaim.
use Rattle.std.proofs.Common.{◌≡◌, ℕ, List, [], ◌∷◌, length, map, sym, subst, arith}
use Rattle.std.specs.List.{range_with_len}
use Rattle.whatif.specs.Machine.{Turn, tidying}
use Rattle.whatif.specs.Stands.{HaveTurned}
use Rattle.whatif.proofs.Turning.{tidied_more, turned_more}
use Rattle.whatif.proofs.machine.reclaim_all.Goals as goal

pub loop-number-preserved : goal.loop-number-preserved
loop-number-preserved c =
    let k = c.loop-number.number in record {
      ready = c.reclaim.ensures.ready;
      turned = subst (λ (ts : List Turn). HaveTurned ts c.args.volumes.now c.args.disks.now c.reclaim.new.volumes c.reclaim.new.disks) (sym (tidied_more k))
          (turned_more (map tidying (range_with_len 0 k)) (tidying k ∷ []) c.args.volumes.now c.loop-number.volumes c.reclaim.new.volumes c.args.disks.now c.loop-number.disks c.reclaim.new.disks c.loop-number.invariant.turned c.reclaim.ensures.turn);
    }

pub returns-clause-turns : goal.returns-clause-turns
returns-clause-turns c =
    let end : c.loop-number.number ≡ length c.args.volumes.now = (let a = c.loop-number-test.false in let b = c.loop-number.auto.number-end in omega (arith, a, b)) in
    subst (λ (n : ℕ). HaveTurned (map tidying (range_with_len 0 n)) c.args.volumes.now c.args.disks.now c.loop-number.volumes c.loop-number.disks) end c.loop-number.invariant.turned
