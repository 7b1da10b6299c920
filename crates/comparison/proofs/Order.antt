-- The moments of windows, and when the account begins and ends.
use Rattle.std.proofs.Common.{◌≡◌, ◌≤◌, ◌+◌, ℕ, Bool, true, false, cond, List, [], ◌∷◌, ◌++◌, map, Option, refl, sym, ap, ◌∙◌, subst, arith}
use Rattle.wol_model.specs.Trace as trace
use Rattle.wol_model.specs.Trace.{Target, Timed, TraceLine, Window, ended, joins, joined, opened, pieces_of, started, timed, windows, windows_by, windows_from}
use Rattle.wol_config.specs.declared.config.Config.{Config}
use Rattle.trace_gen.specs.Generated.{targets_of}
use Rattle.trace_windows.specs.Laws.{AreInOrder}
use Rattle.trace_windows.proofs.Rising.{moments_rise}
use Rattle.whatif.specs.Machine.{Asked}
use Rattle.comparison.specs.Asked.{asked_by, asked_in}
use Rattle.comparison.specs.Side.{beginning, begun_at, is_some_window, last_moment}
use Rattle.wol_config.specs.Configs.{most_of}

-- ---- one window more

pub last_more : (from : ℕ) (ws : List Asked) (w : Asked) → last_moment from (ws ++ w ∷ []) ≡ w.moment
last_more from [] w = refl
last_more from (v ∷ ws) w = last_more v.moment ws w

pub begun_more : (ws : List Asked) (w : Asked) → begun_at w.moment ws ≡ beginning (ws ++ w ∷ [])
begun_more [] w = refl
begun_more (v ∷ ws) w = refl

pub some_more : (ws : List Asked) (w : Asked) → is_some_window (ws ++ w ∷ []) ≡ true
some_more [] w = refl
some_more (v ∷ ws) w = refl

-- ---- windows of a trace

module _ (config : Config) where
  front_last : (from : ℕ) (ws : List Window) (w : Window) (rest : List Window) (to : ℕ) → AreInOrder from (ws ++ w ∷ rest) to → last_moment from (map (asked_in config) ws) ≤ w.moment
  front_last from [] w rest to order = order.0
  front_last from (v ∷ ws) w rest to order = front_last v.moment ws w rest to order.1

  -- no window comes before one that came earlier
  pub later_window : (from : ℕ) (ws : List Window) (w : Window) (rest : List Window) (to : ℕ) → AreInOrder from (ws ++ w ∷ rest) to → last_moment (beginning (map (asked_in config) ws)) (map (asked_in config) ws) ≤ w.moment
  later_window from [] w rest to order = omega arith
  later_window from (v ∷ ws) w rest to order = front_last v.moment ws w rest to order.1

  whole_last : (from : ℕ) (ws : List Window) (to : ℕ) → AreInOrder from ws to → last_moment from (map (asked_in config) ws) ≤ to
  whole_last from [] to order = order
  whole_last from (v ∷ ws) to order = whole_last v.moment ws to order.1

  -- nor after the account ends
  pub before_end : (from : ℕ) (ws : List Window) (to : ℕ) → AreInOrder from ws to → last_moment (beginning (map (asked_in config) ws)) (map (asked_in config) ws) ≤ to
  before_end from [] to order = omega arith
  before_end from (v ∷ ws) to order = whole_last v.moment ws to order.1

  first_from : (cost : Timed → ℕ) (w : Window) (ls : List Timed) → beginning (map (asked_in config) (windows_from cost w ls)) ≡ w.moment
  first_from cost w [] = refl
  first_from cost w (l ∷ ls) = at (joins w l (cost l)) (first_from cost (joined w l (cost l)) ls)
    where
      at : (t : Bool) → beginning (map (asked_in config) (windows_from cost (joined w l (cost l)) ls)) ≡ w.moment → beginning (map (asked_in config) (cond t (windows_from cost (joined w l (cost l)) ls) (w ∷ windows_from cost (opened l (cost l)) ls))) ≡ w.moment
      at true rest = rest
      at false rest = refl

  first_by : (cost : Timed → ℕ) (ls : List Timed) → beginning (map (asked_in config) (windows_by cost ls)) ≡ started ls
  first_by cost [] = refl
  first_by cost (l ∷ ls) = first_from cost (opened l (cost l)) ls

  -- the first window's moment is the time of the first line
  pub begins : (ls : List (Option TraceLine)) → beginning (asked_by config ls) ≡ started (timed ls)
  unfolding windows
  begins ls = first_by (pieces_of (most_of config) (targets_of config)) (timed ls)

  pub in_order : (ls : List (Option TraceLine)) → AreInOrder (started (timed ls)) (windows (most_of config) (targets_of config) ls) (ended (timed ls))
  in_order ls = moments_rise (most_of config) (targets_of config) ls
