-- Machines of the policies, side by side, behind windows.
use Rattle.std.specs.Prelude.{◌≡◌, ℕ, ◌≤◌, ◌<◌, ◌+◌, ◌*◌, ◌^◌, Bool, true, false, List, [], ◌∷◌, ◌++◌, length, map, Option, None, Some, IfSome}
use Rattle.std.specs.List.{AllByRecursion}
use Rattle.wol_model.specs.Trace.{TraceLine, Window}
use Rattle.wol_config.specs.declared.config.Config.{Config}
use Rattle.trace_gen.specs.Generated.{targets_of}
use Rattle.trace_windows.specs.Cutting.{Cutting, HasCut}
use Rattle.whatif.specs.declared.policy.Policy.{Policy}
use Rattle.whatif.specs.declared.policy.Policy.TheVariants.{Always, SpinDown, Host, All, Views}
use Rattle.whatif.specs.declared.policy.Ask.{Ask}
use Rattle.whatif.specs.declared.machine.Machine.{Machine}
use Rattle.whatif.specs.Machine.{Asked}
use Rattle.whatif.specs.Stands.{HasRun, IsAsk, IsMachine}
use Rattle.comparison.specs.Asked.{asked_in}
use Rattle.comparison.specs.declared.machines.Machines.{Machines}
use Rattle.comparison.specs.declared.windows.Comparison.{Comparison}
use Rattle.wol_config.specs.Configs.{most_of}

-- so of the machine of each policy that there is
pub record Each (P : Policy → Machine → Type 0) (ms : Machines) : Type 0 where
  pub always : P Always ms.always
  pub spin_down : P SpinDown ms.spin_down
  pub host : P Host ms.host
  pub all : P All ms.all
  pub views : IfSome ms.views (P Views)

-- a live machine of so many volumes, at this moment, of which so many requests were asked
pub record IsAt (volumes moment asked : ℕ) (m : Machine) : Type 0 where
  pub machine : IsMachine m
  pub live : m.live ≡ true
  pub count : length m.volumes.items ≡ volumes
  pub moment_is : m.moment ≡ moment
  pub asked_is : m.asked ≡ asked

-- a machine that may run a window of these requests at this moment
pub record MayRunAt (at : ℕ) (asks : List Ask) (m : Machine) : Type 0 where
  pub machine : IsMachine m
  pub live : m.live ≡ true
  pub later : m.moment ≤ at
  pub asks_ : AllByRecursion (IsAsk (length m.volumes.items)) asks
  pub few : m.asked + length asks < 2 ^ 63

-- .. that ran it
pub record RanAt (at : ℕ) (asks : List Ask) (old new : Machine) : Type 0 where
  pub at_ : IsAt (length old.volumes.items) at (old.asked + length asks) new
  pub run : (p : Policy) (config : Config) (from : ℕ) (ws : List Asked) → HasRun p config from ws old
      → HasRun p config from (ws ++ record { moment = at; asks = asks } ∷ []) new

-- .. if there is one
abbrev pub RanOn : (at : ℕ) → List Ask → (old new : Option Machine) → Type 0
RanOn at asks None None = Unit {0}
RanOn at asks (Some m) (Some n) = RanAt at asks m n
RanOn at asks None (Some n) = ⊥
RanOn at asks (Some m) None = ⊥

abbrev pub AreAt : (volumes moment asked : ℕ) → Machines → Type 0
AreAt volumes moment asked ms = Each (λ p m. IsAt volumes moment asked m) ms

-- all of them at the moment of the first one, with as many volumes, and as much was asked of each
abbrev pub AreTogether : Machines → Type 0
AreTogether ms = AreAt (length ms.always.volumes.items) ms.always.moment ms.always.asked ms

-- each has run these windows; its account began at `from`
abbrev pub HaveRun : Config → (from : ℕ) → List Asked → Machines → Type 0
HaveRun config from ws ms = Each (λ p m. HasRun p config from ws m) ms

-- the account begins with the first window
abbrev pub beginning : List Asked → ℕ
beginning [] = 0
beginning (w ∷ ws) = w.moment

-- the moment of the last window, or of the beginning
abbrev pub last_moment : ℕ → List Asked → ℕ
last_moment from [] = from
last_moment from (w ∷ ws) = last_moment w.moment ws

abbrev pub is_some_window : List Asked → Bool
is_some_window [] = false
is_some_window (w ∷ ws) = true

-- the comparison stands behind these windows
pub record IsBehind (config : Config) (ws : List Asked) (s : Comparison) : Type 0 where
  pub started : s.started ≡ is_some_window ws
  pub run : HaveRun config (beginning ws) ws s.machines
  pub at : AreAt (length config.volumes.items) (last_moment (beginning ws) ws)
      s.machines.always.asked s.machines

-- a window at this moment may come behind those that were run
pub record MayRun (config : Config) (moment : ℕ) (s : Comparison) : Type 0 where
  pub ws : List Asked
  pub behind : IsBehind config ws s
  pub later : last_moment (beginning ws) ws ≤ moment

-- .. and the account has begun: with a window at this moment, where none was run
abbrev pub begun_at : (moment : ℕ) → List Asked → ℕ
begun_at moment [] = moment
begun_at moment (w ∷ ws) = w.moment

pub record HasBegun (config : Config) (moment : ℕ) (ws : List Asked) (s : Comparison) : Type 0 where
  pub started : s.started ≡ true
  pub run : HaveRun config (begun_at moment ws) ws s.machines
  pub at : AreAt (length config.volumes.items) (last_moment (begun_at moment ws) ws)
      s.machines.always.asked s.machines

-- these lines were taken, and the windows that are whole were run
pub record HasTaken (config : Config) (ls : List (Option TraceLine)) (c : Cutting)
    (s : Comparison) : Type 0 where
  pub given : List Window
  pub cut : HasCut (most_of config) (targets_of config) ls given c
  pub behind : IsBehind config (map (asked_in config) given) s
  pub few : s.machines.always.asked ≤ 131073 * c.tally.lines

-- some lines were taken
pub record HasTakenSome (config : Config) (c : Cutting) (s : Comparison) : Type 0 where
  pub lines : List (Option TraceLine)
  pub taken : HasTaken config lines c s
