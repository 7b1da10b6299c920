-- The machine that there is where all is told.
use Rattle.std.proofs.Common.{◌≡◌, ◌≤◌, ◌<◌, ◌+◌, ◌^◌, ℕ, List, [], ◌∷◌, ◌++◌, length, Option, None, Some, Result, Ok, Err, refl, sym, ap, subst, ◌∙◌, arith}
use Rattle.std.specs.Prelude.{IfSome, OnOk, is_some}
use Rattle.std.specs.List.{AllByRecursion}
use Rattle.wol_config.specs.declared.config.Config.{Config}
use Rattle.whatif.specs.declared.policy.Ask.{Ask}
use Rattle.whatif.specs.declared.policy.Policy.{Policy}
use Rattle.whatif.specs.declared.machine.Machine.{Machine}
use Rattle.whatif.specs.Machine.{Asked}
use Rattle.whatif.specs.Stands.{HasRun, IsAsk, IsMachine}
use Rattle.comparison.specs.Side.{IsAt, MayRunAt, RanAt, RanOn}

-- it may run what the first machine runs
pub may_too : (o : Option Machine) (at n moment asked : ℕ) (asks : List Ask) → IfSome o (IsAt n moment asked) → moment ≤ at → AllByRecursion (IsAsk n) asks → asked + length asks < 2 ^ 63
    → IfSome o (MayRunAt at asks)
may_too None at n moment asked asks is later all few = tt
may_too (Some m) at n moment asked asks is later all few = record {
  machine = is.machine;
  live = is.live;
  later = (let same = is.moment_is in omega (arith, same, later));
  asks_ = subst (λ (k : ℕ). AllByRecursion (IsAsk k) asks) (sym is.count) all;
  few = (let same = is.asked_is in omega (arith, same, few));
}

pub same_some : (at : ℕ) (asks : List Ask) (o p : Option Machine) → RanOn at asks o p → is_some p ≡ is_some o
same_some at asks None None ran = refl
same_some at asks (Some m) (Some n) ran = refl
same_some at asks None (Some n) ran = absurd ran
same_some at asks (Some m) None ran = absurd ran

pub at_too : (o p : Option Machine) (at n moment asked : ℕ) (asks : List Ask) → IfSome o (IsAt n moment asked) → RanOn at asks o p → IfSome p (IsAt n at (asked + length asks))
at_too None None at n moment asked asks is ran = tt
at_too (Some m) (Some m') at n moment asked asks is ran =
    subst (λ (k : ℕ). IsAt k at (asked + length asks) m') is.count (subst (λ (k : ℕ). IsAt (length m.volumes.items) at (k + length asks) m') is.asked_is ran.at_)
at_too None (Some n') at n moment asked asks is ran = absurd ran
at_too (Some m) None at n moment asked asks is ran = absurd ran

pub run_too : (o p : Option Machine) (at : ℕ) (asks : List Ask) (policy : Policy) (config : Config) (from : ℕ) (ws : List Asked) → RanOn at asks o p → IfSome o (HasRun policy config from ws)
    → IfSome p (HasRun policy config from (ws ++ record { moment = at; asks = asks } ∷ []))
run_too None None at asks policy config from ws ran has = tt
run_too (Some m) (Some n) at asks policy config from ws ran has = ran.run policy config from ws has
run_too None (Some n) at asks policy config from ws ran has = absurd ran
run_too (Some m) None at asks policy config from ws ran has = absurd ran

pub on_ok : {T E : Type 0} (r : Result T E) (P Q : Type 0) → (P → Q) → OnOk r P → OnOk r Q
on_ok (Ok x) P Q f is = f is
on_ok (Err e) P Q f is = tt
