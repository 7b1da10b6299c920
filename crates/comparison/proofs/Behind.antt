-- What the machines have run when a window more was run.
use Rattle.std.proofs.Common.{◌≡◌, ◌≢◌, ◌≤◌, ◌<◌, ◌+◌, ℕ, Bool, true, false, List, [], ◌∷◌, ◌++◌, length, map, Result, Ok, Err, refl, sym, ap, ◌∙◌, subst, arith}
use Rattle.std.specs.Prelude.{OnOk}
use Rattle.std.proofs.lemmas.List.{length-map}
use Rattle.wol_config.specs.declared.config.Config.{Config}
use Rattle.trace_windows.specs.Requests.{asked}
use Rattle.trace_windows.specs.declared.request.Request.{Request}
use Rattle.whatif.specs.declared.policy.Ask.{Ask}
use Rattle.trace_windows.specs.Batches.{Batched}
use Rattle.whatif.specs.Machine.{Asked}
use Rattle.comparison.specs.Asked.{ask_of, asked_of}
use Rattle.comparison.specs.Side.{AreAt, AreTogether, Each, HasBegun, HaveRun, IsAt, IsBehind, MayRun, beginning, begun_at, is_some_window, last_moment}
use Rattle.comparison.specs.declared.machines.Machines.{Machines}
use Rattle.comparison.specs.declared.windows.Comparison.{Comparison}
use Rattle.comparison.proofs.Order.{begun_more, last_more, some_more}

-- machines at one moment are at the moment of the first one
pub together : (n t k : ℕ) (ms : Machines) → AreAt n t k ms → AreTogether ms
together n t k ms at =
    subst (λ (a : ℕ). AreAt a ms.always.moment ms.always.asked ms) (sym at.always.count)
    (subst (λ (b : ℕ). AreAt n b ms.always.asked ms) (sym at.always.moment_is)
    (subst (λ (c : ℕ). AreAt n t c ms) (sym at.always.asked_is) at))

-- so the amount that was asked may be read off
pub asked_own : (n t k : ℕ) (ms : Machines) → AreAt n t k ms → AreAt n t ms.always.asked ms
asked_own n t k ms at = subst (λ (c : ℕ). AreAt n t c ms) (sym at.always.asked_is) at

-- ---- the account begins

no_window : (ws : List Asked) → is_some_window ws ≡ false → ws ≡ []
no_window [] is = refl
no_window (w ∷ ws) is = cc

-- with the window that is to be run
pub begins_new : (config : Config) (moment : ℕ) (ws : List Asked) (s n : Comparison) → IsBehind config ws s → s.started ≡ false → n.started ≡ true → AreAt (length config.volumes.items) moment 0 n.machines → HaveRun config moment [] n.machines
    → HasBegun config moment ws n
begins_new config moment ws s n behind none some at run =
    let empty : ws ≡ [] = no_window ws (sym behind.started ∙ none) in
    subst (λ (l : List Asked). HasBegun config moment l n) (sym empty) (record { started = some; run = run; at = asked_own (length config.volumes.items) moment 0 n.machines at })

begun_before : (moment : ℕ) (ws : List Asked) → is_some_window ws ≡ true → beginning ws ≡ begun_at moment ws
begun_before moment [] is = cc
begun_before moment (w ∷ ws) is = refl

-- or has begun
pub begun_already : (config : Config) (moment : ℕ) (ws : List Asked) (s : Comparison) → IsBehind config ws s → s.started ≡ true → HasBegun config moment ws s
begun_already config moment ws s behind some =
    let same = begun_before moment ws (sym behind.started ∙ some) in record {
      started = some;
      run = subst (λ (f : ℕ). HaveRun config f ws s.machines) same behind.run;
      at = subst (λ (f : ℕ). AreAt (length config.volumes.items) (last_moment f ws) s.machines.always.asked s.machines) same behind.at;
    }

begun_later : (moment : ℕ) (ws : List Asked) → last_moment (beginning ws) ws ≤ moment → last_moment (begun_at moment ws) ws ≤ moment
begun_later moment [] le = omega arith
begun_later moment (w ∷ ws) le = le

-- the window's moment isn't before that of the machines
pub not_before : (config : Config) (moment : ℕ) (s n : Comparison) (may : MayRun config moment s) → ((ws : List Asked) → IsBehind config ws s → HasBegun config moment ws n) → n.machines.always.moment ≤ moment
not_before config moment s n may begun =
    let here = begun may.ws may.behind in
    let le = begun_later moment may.ws may.later in
    subst (λ (t : ℕ). t ≤ moment) (sym here.at.always.moment_is) le

-- ---- a window more

pub behind_more : (config : Config) (ws : List Asked) (b : Batched) (s n : Comparison) → HasBegun config b.moment ws s
    → n.started ≡ s.started
    → AreAt (length s.machines.always.volumes.items) b.moment (s.machines.always.asked + length b.requests) n.machines
    → HaveRun config (begun_at b.moment ws) (ws ++ asked_of b ∷ []) n.machines
    → IsBehind config (ws ++ asked_of b ∷ []) n
behind_more config ws b s n begun kept at run =
    let w = asked_of b in
    let first : begun_at b.moment ws ≡ beginning (ws ++ w ∷ []) = begun_more ws w in
    let last : last_moment (beginning (ws ++ w ∷ [])) (ws ++ w ∷ []) ≡ b.moment = last_more (beginning (ws ++ w ∷ [])) ws w in
    let here : AreAt (length config.volumes.items) b.moment n.machines.always.asked n.machines =
    asked_own (length config.volumes.items) b.moment (s.machines.always.asked + length b.requests) n.machines
    (subst (λ (k : ℕ). AreAt k b.moment (s.machines.always.asked + length b.requests) n.machines) begun.at.always.count at) in record {
      started = kept ∙ begun.started ∙ sym (some_more ws w);
      run = subst (λ (f : ℕ). HaveRun config f (ws ++ w ∷ []) n.machines) first run;
      at = subst (λ (t : ℕ). AreAt (length config.volumes.items) t n.machines.always.asked n.machines) (sym last) here;
    }

-- where there was memory for it
pub ran_on : {E : Type 0} (r : Result (Unit {0}) E) (config : Config) (b : Batched) (was s n : Comparison) (moment : ℕ) (asks : List Ask) → moment ≡ b.moment → asks ≡ (asked_of b).asks → ((ws : List Asked) → IsBehind config ws was → HasBegun config moment ws s)
    → n.started ≡ s.started → OnOk r (AreAt (length s.machines.always.volumes.items) moment (s.machines.always.asked + length asks) n.machines)
    → OnOk r ((c : Config) (from : ℕ) (ws : List Asked) → HaveRun c from ws s.machines → HaveRun c from (ws ++ record { moment = moment; asks = asks } ∷ []) n.machines)
    → OnOk r ((ws : List Asked) → IsBehind config ws was → IsBehind config (ws ++ asked_of b ∷ []) n)
ran_on (Err e) config b was s n moment asks moment_is asks_is begun kept at run = tt
ran_on (Ok x) config b was s n moment asks moment_is asks_is begun kept at run = λ ws behind.
    let count = length s.machines.always.volumes.items in
    let long : s.machines.always.asked + length asks ≡ s.machines.always.asked + length b.requests = ap (λ (l : List Ask). s.machines.always.asked + length l) asks_is ∙ ap (λ (k : ℕ). s.machines.always.asked + k) (length-map b.requests (λ (q : Request). ask_of (asked q))) in
    behind_more config ws b s n (subst (λ (t : ℕ). HasBegun config t ws s) moment_is (begun ws behind)) kept
    (subst (λ (t : ℕ). AreAt count t (s.machines.always.asked + length b.requests) n.machines) moment_is (subst (λ (k : ℕ). AreAt count moment k n.machines) long at))
    (subst (λ (t : ℕ). HaveRun config (begun_at t ws) (ws ++ record { moment = t; asks = (asked_of b).asks } ∷ []) n.machines) moment_is
    (subst (λ (l : List Ask). HaveRun config (begun_at moment ws) (ws ++ record { moment = moment; asks = l } ∷ []) n.machines) asks_is (run config (begun_at moment ws) ws (begun ws behind).run)))
