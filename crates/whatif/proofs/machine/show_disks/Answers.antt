-- One volume more sees which disks are awake.
use Rattle.std.proofs.Common.{◌≡◌, ◌<◌, ◌≤◌, ◌+◌, ◌++◌, ℕ, length, map, get_or, take, drop, sym, ap, subst, ◌∙◌, arith}
use Rattle.std.specs.Prelude.{slice_get, Some}
use Rattle.whatif.specs.Machine.{seeing}
use Rattle.whatif.specs.Stands.{IsAmong}
use Rattle.whatif.specs.Volumes.{IsWithin, volume_in}
use Rattle.whatif.proofs.Lists.{all_at, all_set, get_map, got_or, map_set, one_more}
use Rattle.whatif.proofs.Turning.{map_step}
use Rattle.whatif.proofs.machine.show_disks.Goals as goal

pub loop-place-preserved : goal.loop-place-preserved
loop-place-preserved c =
    let i = c.loop-place.invariant in let vs = c.loop-place.volumes in let k = c.loop-place.place in let v = get_or vs k c.index-volumes-place.result in let w = c.see.new.self in let n = length c.args.disks.now in
    let lt : k < length vs = (let a = c.loop-place-test.true in let b = c.loop-place.auto.volumes in omega (arith, a, b)) in
    let at : slice_get vs k ≡ Some v = got_or vs k c.index-volumes-place.result lt in
    let was = all_at (IsAmong n c.args.asked) vs k v i.volumes at in
    let few : w.next ≤ c.args.asked + 1 = (let a = was.next in let b = c.see.ensures.next in omega (arith, a, b)) in record {
      volumes = all_set (IsAmong n c.args.asked) vs k w i.volumes (record { volume = c.see.ensures.volume; within = subst (IsWithin n) (sym c.see.ensures.reach) was.within; next = few });
      seen = λ ss are. map_set volume_in vs k w
          ∙ map_step (seeing ss) (map volume_in vs) (map volume_in c.args.volumes.now) k (volume_in v) (volume_in w) (i.seen ss are) (get_map volume_in vs k v at) (c.see.ensures.seen ss are)
          ∙ ap (λ (m : ℕ). map (seeing ss) (take m (map volume_in c.args.volumes.now)) ++ drop m (map volume_in c.args.volumes.now)) (one_more k);
    }
