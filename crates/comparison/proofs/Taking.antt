-- Lines that are taken, and the windows of them that are run.
use Rattle.std.proofs.Common.{◌≡◌, ◌≢◌, ◌≤◌, ◌<◌, ◌+◌, ◌*◌, ◌^◌, ◌⊎◌, inl, inr, ℕ, zero, suc, Bool, true, false, List, [], ◌∷◌, ◌++◌, map, length, Option, None, Some, refl, sym, ap, ◌∙◌, subst, append_assoc, length-append, arith}
use Rattle.std.specs.Prelude.{OnOk, Ok, Err, Result, slice_get, slice_index_or}
use Rattle.std.specs.List.{AllByRecursion}
use Rattle.std.specs.Option.{option_map_or}
use Rattle.std.proofs.lemmas.List.{length-map, map-append}
use Rattle.wol_model.specs.Trace as trace
use Rattle.wol_model.specs.Trace.{Target, TraceLine, Window, ended, home_of, started, timed, windows}
use Rattle.wol_config.specs.declared.config.Config.{Config}
use Rattle.wol_config.specs.declared.config.VolumeConf.{VolumeConf}
use Rattle.wol_config.specs.Configs.{IsValid, most_of}
use Rattle.trace_gen.specs.Generated.{target_of, targets_of}
use Rattle.trace_gen.proofs.Fair.{no_volume}
use Rattle.trace_windows.specs.Batches.{Batched, IsBatchOf}
use Rattle.trace_windows.specs.Cutting.{AreWindows, Cutting, HasCut, next_number}
use Rattle.trace_windows.specs.Laws.{AreInOrder}
use Rattle.trace_windows.specs.Requests.{IsInside, asked, numbered, requests_in}
use Rattle.trace_windows.specs.declared.request.Request.{Request}
use Rattle.whatif.specs.declared.policy.Ask.{Ask}
use Rattle.whatif.specs.Machine.{Asked}
use Rattle.whatif.specs.Stands.{IsAsk}
use Rattle.comparison.specs.Asked.{ask_of, asked_by, asked_in, asked_of}
use Rattle.comparison.specs.Side.{HasTaken, IsBehind, MayRun, beginning, last_moment}
use Rattle.comparison.specs.declared.windows.Comparison.{Comparison}
use Rattle.comparison.proofs.Order.{before_end, in_order, later_window}

-- ---- requests as they are asked

asks_same : (next : ℕ) (rs : List trace.Request) → map (λ (r : Request). ask_of (asked r)) (numbered next rs) ≡ map ask_of rs
asks_same next [] = refl
asks_same next (r ∷ rs) = λ i. ask_of r ∷ asks_same (next + 1) rs i

-- a batch asks what its window does
asked_same : (config : Config) (next : ℕ) (w : Window) (b : Batched) → IsBatchOf (most_of config) (targets_of config) next w b → asked_of b ≡ asked_in config w
asked_same config next w b of = λ i. record {
  moment = of.moment i;
  asks = (ap (map (λ (r : Request). ask_of (asked r))) of.requests ∙ asks_same next (requests_in (most_of config) (targets_of config) w)) i;
}

home_few : (vs : List VolumeConf) (k : ℕ) → ((n : ℕ) → n < length vs → (slice_index_or vs n no_volume).home ≤ 2 ^ 32) → home_of (map target_of vs) k ≤ 2 ^ 32
home_few [] k each = omega arith
home_few (v ∷ vs) zero each = each 0 (omega arith)
home_few (v ∷ vs) (suc k) each = home_few vs k (λ n lt. each (suc n) (omega (arith, lt)))

is_ask : (config : Config) → IsValid config → (r : Request) → IsInside (most_of config) (targets_of config) r → IsAsk (length config.volumes.items) (ask_of (asked r))
is_ask config valid r inside = record {
  volume = (let lt = inside.volume in let same = length-map config.volumes.items target_of in omega (arith, lt, same));
  some = (let some = inside.some in omega (arith, some));
  few = (let few = inside.short in omega (arith, few));
  blocks = (let within = inside.within in let few = home_few config.volumes.items r.volume (λ n lt. (valid.volumes n no_volume lt).home.1) in omega (arith, within, few));
}

-- requests that lie in their volumes may be asked
pub are_asks : (config : Config) → IsValid config → (rs : List Request) → AllByRecursion (IsInside (most_of config) (targets_of config)) rs → AllByRecursion (IsAsk (length config.volumes.items)) (map (λ (r : Request). ask_of (asked r)) rs)
are_asks config valid [] all = tt
are_asks config valid (r ∷ rs) all = (is_ask config valid r all.0, are_asks config valid rs all.1)

-- ---- a line more

not_empty : {X : Type 0} (xs : List X) (x : X) → xs ++ x ∷ [] ≡ [] → ⊥
not_empty [] x is = absurd (cc is)
not_empty (y ∷ xs) x is = absurd (cc is)

module _ (config : Config) (ls : List (Option TraceLine)) where
  -- the windows that are whole, and the one behind them
  order_behind : (given : List Window) (w : Window) (c : Cutting) → HasCut (most_of config) (targets_of config) ls (given ++ w ∷ []) c → last_moment (beginning (map (asked_in config) given)) (map (asked_in config) given) ≤ w.moment
  order_behind given w c cut = at cut.last cut.windows
    where
      at : (last : Option Window) → AreWindows (most_of config) (targets_of config) (windows (most_of config) (targets_of config) ls) (given ++ w ∷ []) last c.current → last_moment (beginning (map (asked_in config) given)) (map (asked_in config) given) ≤ w.moment
      at None are = absurd (not_empty given w are.1)
      at (Some x) are =
          let whole : windows (most_of config) (targets_of config) ls ≡ given ++ (w ∷ x ∷ []) = are.0 ∙ append_assoc given (w ∷ []) (x ∷ []) in
          later_window config (started (timed ls)) given w (x ∷ []) (ended (timed ls)) (subst (λ (ws : List Window). AreInOrder (started (timed ls)) ws (ended (timed ls))) whole (in_order config ls))

  -- the last window, and those before it
  order_last : (given : List Window) (w : Window) → windows (most_of config) (targets_of config) ls ≡ given ++ w ∷ [] → last_moment (beginning (map (asked_in config) given)) (map (asked_in config) given) ≤ w.moment
  order_last given w whole = later_window config (started (timed ls)) given w [] (ended (timed ls)) (subst (λ (ws : List Window). AreInOrder (started (timed ls)) ws (ended (timed ls))) whole (in_order config ls))

-- a window may be run behind those that were
pub may_run : (config : Config) (given : List Window) (w : Window) (next : ℕ) (b : Batched) (s : Comparison) → IsBatchOf (most_of config) (targets_of config) next w b → IsBehind config (map (asked_in config) given) s
    → last_moment (beginning (map (asked_in config) given)) (map (asked_in config) given) ≤ w.moment → MayRun config b.moment s
may_run config given w next b s of behind later = record { ws = map (asked_in config) given; behind = behind; later = subst (λ (t : ℕ). last_moment (beginning (map (asked_in config) given)) (map (asked_in config) given) ≤ t) (sym of.moment) later }

-- .. and then it was
pub ran : (config : Config) (given : List Window) (w : Window) (next : ℕ) (b : Batched) (n : Comparison) → IsBatchOf (most_of config) (targets_of config) next w b → IsBehind config (map (asked_in config) given ++ asked_of b ∷ []) n
    → IsBehind config (map (asked_in config) (given ++ w ∷ [])) n
ran config given w next b n of behind = subst (λ (ws : List Asked). IsBehind config ws n) (ap (λ (x : Asked). map (asked_in config) given ++ x ∷ []) (asked_same config next w b of) ∙ sym (map-append (asked_in config) given (w ∷ []))) behind

-- a line that made no window whole
pub took : (config : Config) (ls : List (Option TraceLine)) (line : Option TraceLine) (c d : Cutting) (s : Comparison) (t : HasTaken config ls c s) → d.tally.lines ≡ c.tally.lines + 1 → HasCut (most_of config) (targets_of config) (ls ++ line ∷ []) t.given d
    → HasTaken config (ls ++ line ∷ []) d s
took config ls line c d s t lines cut = record { given = t.given; cut = cut; behind = t.behind; few = (let few = t.few in omega (arith, few, lines)) }

-- a line that made one whole, which was run
pub took_window : (config : Config) (ls : List (Option TraceLine)) (line : Option TraceLine) (c d : Cutting) (s n : Comparison) (t : HasTaken config ls c s) (w : Window) (next : ℕ) → d.tally.lines ≡ c.tally.lines + 1
    → IsBatchOf (most_of config) (targets_of config) next w d.whole → HasCut (most_of config) (targets_of config) (ls ++ line ∷ []) (t.given ++ w ∷ []) d
    → ((ws : List Asked) → IsBehind config ws s → IsBehind config (ws ++ asked_of d.whole ∷ []) n) → n.machines.always.asked ≤ s.machines.always.asked + 131073
    → HasTaken config (ls ++ line ∷ []) d n
took_window config ls line c d s n t w next lines of cut run more = record {
  given = t.given ++ w ∷ [];
  cut = cut;
  behind = ran config t.given w next d.whole n of (run (map (asked_in config) t.given) t.behind);
  few = (let few = t.few in omega (arith, few, lines, more));
}

-- it may be run
pub may_take : (config : Config) (ls : List (Option TraceLine)) (line : Option TraceLine) (c d : Cutting) (s : Comparison) (t : HasTaken config ls c s) (w : Window) (next : ℕ)
    → IsBatchOf (most_of config) (targets_of config) next w d.whole → HasCut (most_of config) (targets_of config) (ls ++ line ∷ []) (t.given ++ w ∷ []) d → MayRun config d.whole.moment s
may_take config ls line c d s t w next of cut = may_run config t.given w next d.whole s of t.behind (order_behind config (ls ++ line ∷ []) t.given w d cut)

-- ---- no further line comes

module _ (config : Config) (ls : List (Option TraceLine)) (c : Cutting) (s : Comparison) (t : HasTaken config ls c s) where
  pub record LastWindow : Type 0 where
    pub w : Window
    pub is : windows (most_of config) (targets_of config) ls ≡ t.given ++ w ∷ []
    pub of : IsBatchOf (most_of config) (targets_of config) (next_number (most_of config) (targets_of config) t.given) w c.current

  -- the open window is the last one
  pub last_window : c.current.lines ≢ 0 → LastWindow
  last_window some = at t.cut.last t.cut.windows
    where
      at : (last : Option Window) → AreWindows (most_of config) (targets_of config) (windows (most_of config) (targets_of config) ls) t.given last c.current → LastWindow
      at None are = absurd (some (ap (λ (b : Batched). b.lines) are.2))
      at (Some w) are = record { w = w; is = are.0; of = are.1 }

  -- or there is none
  pub no_window : c.current.lines ≡ 0 → IsBehind config (asked_by config ls) s
  no_window none = at t.cut.last t.cut.windows
    where
      at : (last : Option Window) → AreWindows (most_of config) (targets_of config) (windows (most_of config) (targets_of config) ls) t.given last c.current → IsBehind config (asked_by config ls) s
      at None are = subst (λ (ws : List Window). IsBehind config (map (asked_in config) ws) s) (are.1 ∙ sym are.0) t.behind
      at (Some w) are = absurd (let some = are.1.some in omega (arith, some, none))

  pub may_end : c.current.lines ≢ 0 → MayRun config c.current.moment s
  may_end some =
      let l = last_window some in
      may_run config t.given l.w (next_number (most_of config) (targets_of config) t.given) c.current s l.of t.behind (order_last config ls t.given l.w l.is)

  pub ended_window : (n : Comparison) → c.current.lines ≢ 0 → ((ws : List Asked) → IsBehind config ws s → IsBehind config (ws ++ asked_of c.current ∷ []) n) → IsBehind config (asked_by config ls) n
  ended_window n some run =
      let l = last_window some in
      subst (λ (ws : List Window). IsBehind config (map (asked_in config) ws) n) (sym l.is) (ran config t.given l.w (next_number (most_of config) (targets_of config) t.given) c.current n l.of (run (map (asked_in config) t.given) t.behind))

-- the account ends no earlier than the last window
pub end_later : (config : Config) (ls : List (Option TraceLine)) (s : Comparison) → IsBehind config (asked_by config ls) s → s.machines.always.moment ≤ ended (timed ls)
end_later config ls s behind =
    subst (λ (t : ℕ). t ≤ ended (timed ls)) (sym behind.at.always.moment_is) (before_end config (started (timed ls)) (windows (most_of config) (targets_of config) ls) (ended (timed ls)) (in_order config ls))

-- the last window was run, where there was memory for it
pub ended_on : {E : Type 0} (r : Result (Unit {0}) E) (config : Config) (c : Cutting) (s n : Comparison) → c.current.lines ≢ 0 → OnOk r ((ws : List Asked) → IsBehind config ws s → IsBehind config (ws ++ asked_of c.current ∷ []) n)
    → OnOk r ((ls : List (Option TraceLine)) → HasTaken config ls c s → IsBehind config (asked_by config ls) n)
ended_on (Ok x) config c s n some run = λ ls taken. ended_window config ls c s taken n some run
ended_on (Err e) config c s n some run = tt
