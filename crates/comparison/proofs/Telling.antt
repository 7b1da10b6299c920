-- The lines of the policies, one after another.
use Rattle.std.proofs.Common.{◌≡◌, ◌-◌, ℕ, Bool, true, false, cond, refl, sym, subst, List, ◌++◌, Result, Ok, Err, ap, ◌∙◌, append_assoc}
use Rattle.std.specs.Prelude.{IfSome, OnOk}
use Rattle.wol_config.specs.declared.config.Config.{Config}
use Rattle.wol_model.specs.Trace.{TraceLine, Window, ended, timed}
use Rattle.wol_config.specs.Configs.{most_of}
use Rattle.trace_gen.specs.Generated.{targets_of}
use Rattle.trace_windows.specs.Cutting.{Cutting, HasCut}
use Rattle.trace_windows.specs.declared.tally.Tally.{Tally}
use Rattle.std.specs.Prelude.{Option, None, Some, [], is_some}
use Rattle.whatif.specs.declared.policy.Policy.{Policy}
use Rattle.whatif.specs.declared.policy.Policy.TheVariants.{Always, SpinDown, Host, All, Views}
use Rattle.whatif.specs.declared.machine.Machine.{Machine}
use Rattle.whatif.specs.Lines.{details_text, policy_text, told_text, whatif_text}
use Rattle.whatif.specs.Machine.{Asked}
use Rattle.whatif.specs.Policies.{compared}
use Rattle.whatif.specs.declared.policy.Details.{Details}
use Rattle.whatif.specs.Stands.{HasRun}
use Rattle.comparison.specs.Asked.{ahead, asked_by, comparison_of, counts_text, tells_more}
use Rattle.comparison.specs.Side.{HaveRun, beginning}
use Rattle.comparison.specs.declared.machines.Machines.{Machines}
use Rattle.comparison.proofs.Order.{begins}

four : (a p q r s o1 o2 o3 o4 : List ℕ) → o1 ≡ a ++ p → o2 ≡ o1 ++ q → o3 ≡ o2 ++ r → o4 ≡ o3 ++ s → o4 ≡ a ++ (((p ++ q) ++ r) ++ s)
four a p q r s o1 o2 o3 o4 e1 e2 e3 e4 = e4 ∙ ap (λ (l : List ℕ). l ++ s) (e3 ∙ ap (λ (l : List ℕ). l ++ r) (e2 ∙ ap (λ (l : List ℕ). l ++ q) e1)) ∙ simp append_assoc

-- the line of a policy was appended
abbrev pub Tells : Policy → Machine → (to : ℕ) → (old new : List ℕ) → Type 0
Tells p m to old new = (config : Config) (from : ℕ) (ws : List Asked) → HasRun p config from ws m → new ≡ old ++ policy_text p (compared p config from ws to)

pub tells : {E : Type 0} (r : Result (Unit {0}) E) (ms : Machines) (to : ℕ) (a o1 o2 o3 o4 : List ℕ) → Tells Always ms.always to a o1 → Tells SpinDown ms.spin_down to o1 o2 → Tells Host ms.host to o2 o3 → OnOk r (Tells All ms.all to o3 o4)
    → OnOk r ((config : Config) (from : ℕ) (ws : List Asked) → HaveRun config from ws ms → o4 ≡ a ++ whatif_text config from ws to)
unfolding whatif_text
tells (Ok x) ms to a o1 o2 o3 o4 always spin_down host all = λ config from ws run. four a _ _ _ _ o1 o2 o3 o4 (always config from ws run.always) (spin_down config from ws run.spin_down) (host config from ws run.host) (all config from ws run.all)
tells (Err e) ms to a o1 o2 o3 o4 always spin_down host all = tt

-- ---- all lines

five : (a p q r s t o1 o2 o3 o4 o5 : List ℕ) → o1 ≡ a ++ p → o2 ≡ o1 ++ q → o3 ≡ o2 ++ r → o4 ≡ o3 ++ s → o5 ≡ o4 ++ t → o5 ≡ a ++ ((((p ++ q) ++ r) ++ s) ++ t)
five a p q r s t o1 o2 o3 o4 o5 e1 e2 e3 e4 e5 =
    e5 ∙ ap (λ (l : List ℕ). l ++ t) (e4 ∙ ap (λ (l : List ℕ). l ++ s) (e3 ∙ ap (λ (l : List ℕ). l ++ r) (e2 ∙ ap (λ (l : List ℕ). l ++ q) e1))) ∙ simp append_assoc

abbrev pub TellsAll : Details → Config → Policy → Machine → (to : ℕ) → (old new : List ℕ) → Type 0
TellsAll details config p m to old new = (from : ℕ) (ws : List Asked) → HasRun p config from ws m → new ≡ old ++ told_text details p config from ws to

-- what is told of the machines
abbrev pub Told : Details → Config → Machines → (to : ℕ) → (old new : List ℕ) → Type 0
Told details config ms to old new = (from : ℕ) (ws : List Asked) → HaveRun config from ws ms
    → new ≡ old ++ cond (is_some ms.views) (details_text details config from ws to) (whatif_text config from ws to)

pub tells_all : {E : Type 0} (r : Result (Unit {0}) E) (details : Details) (config : Config) (ms : Machines) (views : Machine) (to : ℕ) (a o1 o2 o3 o4 o5 : List ℕ) → ms.views ≡ Some views
    → TellsAll details config Always ms.always to a o1 → TellsAll details config SpinDown ms.spin_down to o1 o2 → TellsAll details config Host ms.host to o2 o3 → TellsAll details config All ms.all to o3 o4
    → ((from : ℕ) (ws : List Asked) → HasRun Views config from ws views → OnOk r (o5 ≡ o4 ++ told_text details Views config from ws to)) → OnOk r (Told details config ms to a o5)
unfolding details_text
tells_all (Ok x) details config ms views to a o1 o2 o3 o4 o5 some always spin_down host all by_views = λ from ws run.
    let further : IfSome (Some views) (HasRun Views config from ws) = subst (λ (o : Option Machine). IfSome o (HasRun Views config from ws)) some run.views in
    five a _ _ _ _ _ o1 o2 o3 o4 o5 (always from ws run.always) (spin_down from ws run.spin_down) (host from ws run.host) (all from ws run.all) (by_views from ws further)
    ∙ ap (λ (o : Option Machine). a ++ cond (is_some o) (details_text details config from ws to) (whatif_text config from ws to)) (sym some)
tells_all (Err e) details config ms views to a o1 o2 o3 o4 o5 some always spin_down host all by_views = tt

-- or the four lines alone
pub tells_four : {E : Type 0} (r : Result (Unit {0}) E) (details : Details) (config : Config) (ms : Machines) (to : ℕ) (a o4 : List ℕ) → ms.views ≡ None
    → OnOk r ((c : Config) (from : ℕ) (ws : List Asked) → HaveRun c from ws ms → o4 ≡ a ++ whatif_text c from ws to) → OnOk r (Told details config ms to a o4)
tells_four (Ok x) details config ms to a o4 none tells = λ from ws run. tells config from ws run
    ∙ ap (λ (o : Option Machine). a ++ cond (is_some o) (details_text details config from ws to) (whatif_text config from ws to)) (sym none)
tells_four (Err e) details config ms to a o4 none tells = tt

-- ---- a whole trace

-- what was counted is what was read
pub headed : (config : Config) (ls : List (Option TraceLine)) (given : List Window) (c : Cutting) (t : Tally) (long : Bool) → HasCut (most_of config) (targets_of config) ls given c → t ≡ c.tally
    → cond long (counts_text t.lines t.blank t.skipped (t.ended - t.started)) [] ≡ ahead long config ls
headed config ls given c t long cut tally =
    (λ i. let u = tally i in cond long (counts_text u.lines u.blank u.skipped (u.ended - u.started)) [])
    ∙ by long
  where
    by : (l : Bool) → cond l (counts_text c.tally.lines c.tally.blank c.tally.skipped (c.tally.ended - c.tally.started)) [] ≡ ahead l config ls
    by true = λ i. counts_text (cut.lines i) (cut.blank i) (cut.skipped i) (cut.ended i - cut.started i)
    by false = refl

pub told : (details : Details) (more : Bool) (config : Config) (ls : List (Option TraceLine)) (to : ℕ) (old new : List ℕ) → more ≡ tells_more details
    → new ≡ old ++ cond more (details_text details config (beginning (asked_by config ls)) (asked_by config ls) to) (whatif_text config (beginning (asked_by config ls)) (asked_by config ls) to)
    → old ≡ ahead details.long config ls → to ≡ ended (timed ls) → new ≡ comparison_of details config ls
told details more config ls to old new same is first end = is
    ∙ (λ i. first i ++ cond (same i) (details_text details config (begins config ls i) (asked_by config ls) (end i)) (whatif_text config (begins config ls i) (asked_by config ls) (end i)))
