use Rattle.std.proofs.Common.{◌≡◌, ℕ, take, sym, subst, ◌∙◌}
use Rattle.volume_tests.specs.Counting.{counting_state}
use Rattle.wol_model.specs.History.{worker}
use Rattle.spin_model.specs.Spun.{state_of}
use Rattle.manager.specs.Groups.{AreItemsOf, place_told, run_writes, run_written}
use Rattle.manager.specs.Stands.{passed_in}
use Rattle.volume_tests.proofs.Steps.{rig_after}
use Rattle.volume_tests.proofs.rig.Rig.write_run.Goals as goal

pub write_run-requires-clause-items : goal.write_run-requires-clause-items
write_run-requires-clause-items g c =
    let r = c.requires.rig in let m = c.args.self.now.manager in
    let most : 4 ≡ m.most = sym (r.keeps.locks.most_ ∙ r.began.most) in
    let size : 8 ≡ (state_of counting_state m.home).size = sym (r.keeps.upholds.places.home_size ∙ r.began.home_blocks) in
    subst (λ (k : ℕ). AreItemsOf k (state_of counting_state m.home).size c.args.items.now) most (subst (λ (s : ℕ). AreItemsOf 4 s c.args.items.now) size c.requires.items)

pub returns : goal.returns
returns g c =
    let m = c.args.self.now.manager in let new = c.write_run.new.self in let run = c.write_run.ensures.run in let answer = place_told c.write_run.result in
    rig_after c.args.self.now c.requires.rig new c.write_run.ensures.at (run_written (run_writes m.next (take run.0 c.args.items.now) c.args.from.now answer) answer)
    (passed_in new.rooms.items) worker run.1.stands
