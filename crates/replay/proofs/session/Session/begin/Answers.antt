use Rattle.replay.proofs.Basics.{◌≡◌, ℕ, Bool, List, Vec, Global, length, arith, OnErr, OnOk, with_items_is}
use Rattle.replay.proofs.Terms.{HaveBegun, HaveBegunVolumes}
use Rattle.std.specs.Vec.{with_items}
use Rattle.replay.proofs.Serving.{on_err, on_ok, window_begun, window_failed}
use Rattle.replay.proofs.session.Session.begin.Goals as goal

same_items : {X : Type 0} (v : Vec X Global) (ws : List X) (n : ℕ) → length ws ≡ n → length v.items ≡ n → (with_items v ws).items ≡ ws
same_items v ws n new old = with_items_is v ws (let ok = v.ok.0 in omega (arith, new, old, ok))

pub returns-clause-ok : goal.returns-clause-ok
returns-clause-ok g c =
    let v = c.start.new.self.keepers in
    let ws = c.begin_window.new.keepers in
    let same = same_items v ws _ c.begin_window.ensures.keepers.count c.start.ensures.ready.keepers_.count in
    let begun : OnOk c.begin_window.result ((awake : List Bool) × HaveBegun c.args.moment awake v.items (with_items v ws).items × HaveBegunVolumes g.D.Disk.tells awake c.start.new.self.floor.keepers.items c.begin_window.new.floor.keepers.items) =
    rw same (rw c.as_mut_slice.ensures.value at c.begin_window.ensures.begun) in
    on_ok c.begin_window.result (window_begun g.D.Disk.tells c.args.moment c.args.self.now c.start.new.self _ c.start.ensures.only c.start.ensures.starts c.begin_window.ensures.unchanged) begun

pub returns-clause-err : goal.returns-clause-err
returns-clause-err g c =
    let v = c.start.new.self.keepers in
    let ws = c.begin_window.new.keepers in
    let same = same_items v ws _ c.begin_window.ensures.keepers.count c.start.ensures.ready.keepers_.count in
    let failed : OnErr c.begin_window.result ((with_items v ws).items ≡ v.items) = rw same (rw c.as_mut_slice.ensures.value at c.begin_window.ensures.stopped) in
    on_err c.begin_window.result (window_failed c.args.moment c.args.self.now c.start.new.self _ c.start.ensures.only c.start.ensures.starts) failed c.begin_window.ensures.refused
