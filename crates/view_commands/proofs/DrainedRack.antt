-- One volume of a rack is drained: the rack is the same but for the pass of its worker.
use Rattle.std.proofs.Common.{◌≡◌, ◌<◌, ℕ, Bool, List, [], ◌∷◌, ◌++◌, Option, None, Some, Result, Ok, Err, get_or, length, arith, refl, sym, ap, subst, ◌∙◌}
use Rattle.std.specs.Prelude.{slice_get, slice_set, Contains}
use Rattle.std.specs.List.{AllByRecursion}
use Rattle.std.specs.declared.alloc.Global.{Global}
use Rattle.std.specs.declared.vec.Vec.{Vec}
use Rattle.std.proofs.lemmas.Option.{get_or_from_slice_get}
use Rattle.wol_disk.specs.Disk.{State}
use Rattle.wol_model.specs.History.{IsHelp, worker}
use Rattle.wol_promise.specs.Ruled.{Noted}
use Rattle.turn_lock.specs.LockIds.{LockId}
use Rattle.turn_lock.specs.Passes.{pass_lock, pass_mine, IsPassAt}
use Rattle.manager.specs.Stands.{IsShared, notes_of}
use Rattle.manager.specs.declared.base.ManagerBase.{ManagerBase}
use Rattle.manager.specs.declared.part.StepFault.{StepFault}
use Rattle.manager.specs.declared.part.StepFault.TheVariants.{DiskFault, Down}
use Rattle.manager.specs.declared.station.Station.{Station}
use Rattle.manager.proofs.Lanes.{get_set}
use Rattle.request_turns.specs.Turns.{ManagerPass}
use Rattle.request_turns.proofs.Noting.{notes_at}
use Rattle.rack.specs.Racks.{IsStation, base_of_station}
use Rattle.rack_parts.specs.declared.rack.Rack.{Rack}
use Rattle.inspection.specs.Looks.{IsConfiguredBase}
use Rattle.inspection.specs.Racks.{numbers_of, CanLook, IsSameRack, IsSameStation, IsStationAt}
use Rattle.inspection.proofs.Unhelped.{all_at, there_is}
use Rattle.wol_config.specs.declared.config.Config.{Config}
use Rattle.inspection.proofs.SameRacks.{rack_set}
use Rattle.view_change.specs.Drained.{HasDrainedAll, drain_operation}
use Rattle.rack.proofs.FirstClosed.{none_closed}
use Rattle.view_commands.specs.Drains.{AllOpen, IsDrained}

drain_helps : (answer : Result (ℕ × ℕ) StepFault) → IsHelp (drain_operation answer)
drain_helps (Ok counts) = tt
drain_helps (Err (DiskFault p)) = refl
drain_helps (Err (Down p)) = tt

all_more : {X : Type 0} (P : X → Type 0) (xs : List X) (x : X) → AllByRecursion P xs → P x → AllByRecursion P (xs ++ x ∷ [])
all_more P [] y all h = (h, tt)
all_more P (x ∷ xs) y all h = (all.0, all_more P xs y all.1 h)

module _ {D : Type 0} (tells : Bool) (state : D → State) where
  -- the entry of a drain changes no content
  still_helps : (p q : ManagerPass D) (answer : Result (ℕ × ℕ) StepFault) → HasDrainedAll tells state p q answer
      → AllByRecursion (λ (n : Noted). IsHelp n.entry.operation) (notes_of (pass_mine p)) → AllByRecursion (λ (n : Noted). IsHelp n.entry.operation) (notes_of (pass_mine q))
  still_helps p q answer d all =
      let more : notes_of (pass_mine q) ≡ notes_of (pass_mine p) ++ d.note ∷ [] = ap notes_of d.mine ∙ notes_at (pass_mine p) d.note.entry.pass d.note refl in
      let operation : d.note.entry.operation ≡ drain_operation answer = ap (λ (n : Noted). n.entry.operation) d.is_note in
      subst (λ (ns : List Noted). AllByRecursion (λ (n : Noted). IsHelp n.entry.operation) ns) (sym more)
      (all_more (λ (n : Noted). IsHelp n.entry.operation) (notes_of (pass_mine p)) d.note all (subst IsHelp (sym operation) (drain_helps answer)))

  pub station_drained : (s : Station D) (q : ManagerPass D) (answer : Result (ℕ × ℕ) StepFault) → HasDrainedAll tells state s.worker q answer → IsSameStation s (record s { worker = q })
  station_drained s q answer d = record { same = refl; pass = d.same; free = λ was. d.free; helps = still_helps s.worker q answer d }

  module _ (r : Rack D) (ts : Vec (Station D) Global) (place volume : ℕ) (s b t : Station D) (answer : Result (ℕ × ℕ) StepFault) (at : IsStationAt r.stations.items volume place s) (was : b ≡ get_or r.stations.items place b)
      (same : t ≡ record b { worker = t.worker }) (drained : HasDrainedAll tells state b.worker t.worker answer) (set : ts.items ≡ slice_set r.stations.items place t) where
    is_s : b ≡ s
    is_s = was ∙ get_or_from_slice_get r.stations.items place s b at.there

    same_t : t ≡ record s { worker = t.worker }
    same_t = subst (λ (u : Station D). t ≡ record u { worker = t.worker }) is_s same

    drained_s : HasDrainedAll tells state s.worker t.worker answer
    drained_s = subst (λ (u : Station D). HasDrainedAll tells state u.worker t.worker answer) is_s drained

    pub rack_drained : IsSameRack r (record r { stations = ts })
    rack_drained = rack_set r ts place s t at.there (subst (IsSameStation s) (sym same_t) (station_drained s t.worker answer drained_s)) set

    pub is_drained : IsDrained tells state r (record r { stations = ts }) volume answer
    is_drained = record {
      place = place;
      station = s;
      is_station = at;
      pass = t.worker;
      now = ap (λ (ss : List (Station D)). slice_get ss place) set ∙ get_set r.stations.items place s t at.there ∙ ap Some same_t;
      drained = drained_s;
    }

-- the worker's pass of a station is in no turn, and its base is that of the rack's locks
module _ {D : Type 0} (config : Config) (r : Rack D) (place volume : ℕ) (s b : Station D) (can : CanLook config r) (at : IsStationAt r.stations.items volume place s) (was : b ≡ get_or r.stations.items place b) where
  is_it : b ≡ s
  is_it = was ∙ get_or_from_slice_get r.stations.items place s b at.there

  stands : IsStation s × IsConfiguredBase config r.shared (base_of_station s)
  stands = all_at (λ (u : Station D). IsStation u × IsConfiguredBase config r.shared (base_of_station u)) r.stations.items place s can.stations at.there

  pub worker_at : IsPassAt b.lock worker b.worker
  worker_at =
      subst (λ (u : Station D). IsPassAt u.lock worker u.worker) (sym is_it) stands.0.worker_

  pub shared_at : IsShared r.shared (pass_lock b.worker).base
  shared_at =
      subst (λ (u : Station D). IsShared r.shared (pass_lock u.worker).base) (sym is_it)
      (subst (IsShared r.shared) (sym (ap (λ (l : LockId ManagerBase). l.base) stands.0.worker_.own)) stands.1.at)

pub never_some : {X : Type 0} (r : Option X) → ((x : X) → r ≡ Some x → ⊥) → r ≡ None
never_some None never = refl
never_some (Some x) never = absurd (never x refl)

-- where all volumes are open, each has a station
pub has_station : {D : Type 0} (config : Config) (r : Rack D) → CanLook config r → AllOpen r.faults.items → (v : ℕ) → v < length config.volumes.items → Contains (numbers_of r.stations.items) v
has_station config r can opened v within = let x = there_is r.faults.items v (omega (arith, within, can.count)) in can.open_ v (x.1 ∙ ap Some (sym (get_or_from_slice_get r.faults.items v x.0 None x.1) ∙ none_closed 0 r.faults.items opened v))
