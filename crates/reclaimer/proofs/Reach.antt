-- Each entry of an index has a flag of its logger.
use Rattle.std.proofs.Common.{◌≡◌, ◌≤◌, Bool, List, length, None, sym, ap, subst, arith}
use Rattle.std.specs.List.{AllByRecursion}
use Rattle.std.proofs.lemmas.Option.{slice_get_within}
use Rattle.wol_disk.specs.Disk.{State}
use Rattle.wol_promise.proofs.Lists.{all_map}
use Rattle.redirect_map.specs.Index.{Contents}
use Rattle.garbage_list.specs.Least.{HasLane}
use Rattle.manager.specs.Stands.{IsReady, IsPlacedIn}
use Rattle.manager.specs.declared.manager.Manager.{Manager}

pub within_reach : {D : Type 0} (state : D → State) (m : Manager D) → IsReady state m → m.down ≡ None → (index : Contents) → index ≡ m.index → (flags : List Bool) → length m.lanes.items ≤ length flags → AllByRecursion (HasLane flags) index.entries
within_reach state m ready up index same flags few = subst (λ (i : Contents). AllByRecursion (HasLane flags) i.entries) (sym same) (all_map (IsPlacedIn m.lanes.items) (HasLane flags)
    (λ e placed. let lt = slice_get_within m.lanes.items e.listed.lane placed.lane placed.lane_is in omega (arith, lt, few)) m.index.entries (ready.up up).placed)

-- as the manager's own list has
pub within_own : {D : Type 0} (state : D → State) (m : Manager D) → IsReady state m → m.down ≡ None → (index : Contents) → index ≡ m.index → (ups : List Bool) → ups ≡ m.ups.items → AllByRecursion (HasLane ups) index.entries
within_own state m ready up index same ups own = within_reach state m ready up index same ups (let e = ready.ready.flags in let f = ap length own in omega (arith, e, f))
