-- One volume more is made.
use Rattle.std.proofs.Common.{◌≡◌, ◌≤◌, ◌+◌, ℕ, [], ◌∷◌, ◌++◌, length, map, sym, ap, subst, ◌∙◌, length-append, arith}
use Rattle.std.specs.List.{AllByRecursion}
use Rattle.std.proofs.lemmas.List.{map-append}
use Rattle.wol_promise.specs.Policy.{Look}
use Rattle.wol_promise.proofs.Lists.{all_push}
use Rattle.whatif.specs.Machine.{Reach, first_volume}
use Rattle.whatif.specs.Policies.{reach_of}
use Rattle.whatif.specs.Stands.{IsAmong}
use Rattle.whatif.specs.Volumes.{IsWithin, volume_in}
use Rattle.whatif.proofs.New.{mapped_more, volume_made}
use Rattle.whatif.proofs.machine.volumes_of.Goals as goal

pub loop-number-preserved : goal.loop-number-preserved
loop-number-preserved c =
    let i = c.loop-number.invariant in let k = c.loop-number.number in let v = c.in_ok-volume.volume in let n = c.in_ok-volume.ensures in let made = c.loop-number.made.items in
    let confs = c.args.volumes.now in let loggers = c.in_ok-loggers.loggers.items in
    let items : c.push.new.self.items ≡ made ++ v ∷ [] = c.in_ok-push.ensures.items in
    let few : v.next ≤ 0 + 1 = (let next = ap (λ (l : Look). l.next) n.look in omega (arith, next)) in
    let reach : Reach = record { own = k; loggers = loggers } in
    let among : IsAmong (length confs) 0 v = record {
      volume = n.volume;
      within = subst (IsWithin (length confs)) (sym n.reach) (record { own = c.loop-number-test.true; loggers = c.in_ok-loggers.ensures.within });
      next = few;
    } in record {
      count = (let count = i.count in let long = ap length items in omega (arith, count, long, length-append made (v ∷ [])));
      all = subst (AllByRecursion (IsAmong (length confs) 0)) (sym items) (all_push (IsAmong (length confs) 0) made v i.all among);
      made = ap (map volume_in) items ∙ map-append volume_in made (v ∷ []) ∙ (λ j. i.made j ++ volume_made c.args.policy c.args.whole confs k loggers v c.in_ok-loggers.ensures.loggers n.reach n.look n.store j ∷ [])
          ∙ sym (mapped_more (λ (m : ℕ). first_volume c.args.whole (reach_of c.args.policy confs m)) k);
    }
