-- No request waits longer than a disk takes to come up.
use Rattle.std.proofs.Common.{◌≤◌, ℕ, List, [], ◌∷◌, ◌++◌, Option, None, Some, max, arith}
use Rattle.std.specs.Prelude.{slice_get}
use Rattle.std.specs.List.{AllByRecursion}
use Rattle.std.specs.Option.{option_map_or}
use Rattle.wol_model.specs.Journal.{SpindleState}
use Rattle.wol_model.specs.Blocks.{changed_at}
use Rattle.whatif.specs.declared.policy.Ask.{Ask}
use Rattle.whatif.specs.Laws.{NoneWaitsLonger}
use Rattle.whatif.specs.Machine.{Asked, Machine, Setting, accessed, after_window, asking, begun, first_machine, turned}
use Rattle.whatif.specs.Policies.{setting_of, waits_by}
use Rattle.whatif.specs.Waits.{Waited, lag, lag_among, lag_behind, last_up, uses_of, wait_on, waits_among, waits_in}

lag_short : (wake moment : ℕ) (o : Option ℕ) → lag_behind wake moment o ≤ wake
lag_short wake moment None = omega arith
lag_short wake moment (Some up) = omega arith

pub among_short : (wake : ℕ) (o : Option SpindleState) → option_map_or (lag wake) o 0 ≤ wake
among_short wake None = omega arith
among_short wake (Some s) = lag_short wake s.now (last_up s.journal)

pub wait_short : (timeout wake : ℕ) (uses : List ℕ) (ss : List SpindleState) → wait_on timeout wake uses ss ≤ wake
wait_short timeout wake [] ss = omega arith
wait_short timeout wake (d ∷ uses) ss =
    let after = changed_at d (accessed timeout) ss in
    let here : lag_among wake after d ≤ wake = among_short wake (slice_get after d) in
    let rest : wait_on timeout wake uses after ≤ wake = wait_short timeout wake uses after in
    both (lag_among wake after d) (wait_on timeout wake uses after) here rest
  where
    both : (a b : ℕ) → a ≤ wake → b ≤ wake → max a b ≤ wake
    both a b x y = omega arith

abbrev AreShort : (wake : ℕ) → List Waited → Type 0
AreShort wake ws = AllByRecursion (λ (w : Waited). w.wait ≤ wake) ws

joined_short : (wake : ℕ) (xs ys : List Waited) → AreShort wake xs → AreShort wake ys → AreShort wake (xs ++ ys)
joined_short wake [] ys first then = then
joined_short wake (x ∷ xs) ys first then = (first.0, joined_short wake xs ys first.1 then)

requests_short : (timeout wake : ℕ) (asks : List Ask) (m : Machine) → AreShort wake (waits_among timeout wake asks m)
requests_short timeout wake [] m = tt
requests_short timeout wake (a ∷ asks) m = (wait_short timeout wake (uses_of a m) m.spindles, requests_short timeout wake asks (turned timeout (asking a) m))

windows_short : (s : Setting) (wake : ℕ) (ws : List Asked) (m : Machine) → AreShort wake (waits_in s wake ws m)
windows_short s wake [] m = tt
windows_short s wake (w ∷ ws) m =
    joined_short wake (waits_among s.timeout wake w.asks (begun s w.moment m)) (waits_in s wake ws (after_window s w m)) (requests_short s.timeout wake w.asks (begun s w.moment m)) (windows_short s wake ws (after_window s w m))

pub none_longer : NoneWaitsLonger
unfolding waits_by
none_longer p c from ws = windows_short (setting_of p c) c.wake ws (first_machine (setting_of p c) from)
