-- Each machine that there is ran the window.
use Rattle.std.proofs.Common.{◌≡◌, ◌+◌, ℕ, length, ap, ◌∙◌}
use Rattle.whatif.specs.declared.policy.Policy.TheVariants.{Always, SpinDown, Host, All, Views}
use Rattle.comparison.proofs.Further.{at_too, may_too, on_ok, run_too, same_some}
use Rattle.comparison.proofs.machines.Machines.window.Goals as goal

pub window_if-requires : goal.window_if-requires
window_if-requires c =
    let ms = c.args.self.now in
    may_too ms.views c.args.at (length ms.always.volumes.items) ms.always.moment ms.always.asked c.args.asks.now c.requires.together.views c.requires.later c.requires.asks c.requires.few

pub returns-clause-some : goal.returns-clause-some
returns-clause-some c = on_ok c.window_if.result _ _ (λ ran. same_some c.args.at c.args.asks.now c.args.self.now.views c.window_if.new.machine ran) c.window_if.ensures

pub returns-clause-at : goal.returns-clause-at
returns-clause-at c =
    let ms = c.args.self.now in let together = c.requires.together in let more = λ (n : ℕ). n + length c.args.asks.now in
    let a = c.in_ok-window.ensures in let s = c.in_ok-window-2.ensures in let h = c.in_ok-window-3.ensures in let o = c.in_ok-window-4.ensures in
    on_ok c.window_if.result _ _
    (λ ran. record {
      always = record { machine = a.machine; live = a.live; count = a.count; moment_is = a.on.0; asked_is = a.on.1 };
      spin_down = record { machine = s.machine; live = s.live; count = s.count ∙ together.spin_down.count; moment_is = s.on.0; asked_is = s.on.1 ∙ ap more together.spin_down.asked_is };
      host = record { machine = h.machine; live = h.live; count = h.count ∙ together.host.count; moment_is = h.on.0; asked_is = h.on.1 ∙ ap more together.host.asked_is };
      all = record { machine = o.machine; live = o.live; count = o.count ∙ together.all.count; moment_is = o.on.0; asked_is = o.on.1 ∙ ap more together.all.asked_is };
      views = at_too ms.views c.window_if.new.machine c.args.at (length ms.always.volumes.items) ms.always.moment ms.always.asked c.args.asks.now together.views ran;
    })
    c.window_if.ensures

pub returns-clause-run : goal.returns-clause-run
returns-clause-run c =
    on_ok c.window_if.result _ _
    (λ ran. λ config from ws run. record {
      always = c.in_ok-window.ensures.run Always config from ws run.always;
      spin_down = c.in_ok-window-2.ensures.run SpinDown config from ws run.spin_down;
      host = c.in_ok-window-3.ensures.run Host config from ws run.host;
      all = c.in_ok-window-4.ensures.run All config from ws run.all;
      views = run_too c.args.self.now.views c.window_if.new.machine c.args.at c.args.asks.now Views config from ws ran run.views;
    })
    c.window_if.ensures
