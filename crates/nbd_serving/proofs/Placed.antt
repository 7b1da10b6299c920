-- The station of a volume among all: it can be served, and then the rack has again all that it came with.
use Rattle.std.proofs.Common.{◌≡◌, ◌≤◌, ◌<◌, ℕ, Bool, length, Option, None, Some, Result, get_or, arith, refl, sym, ap, subst, ◌∙◌}
use Rattle.std.specs.Prelude.{slice_get, slice_set, Contains}
use Rattle.std.specs.List.{AllZip}
use Rattle.std.specs.declared.alloc.Global.{Global}
use Rattle.std.specs.declared.vec.Vec.{Vec}
use Rattle.std.proofs.lemmas.Option.{get_or_from_slice_get, same_Some, slice_get-get_or}
use Rattle.turn_lock.specs.LockIds.{LockId}
use Rattle.turn_lock.specs.Passes.{lock_id, pass_lock}
use Rattle.wol_config.specs.declared.config.Config.{Config}
use Rattle.wol_config.specs.declared.config.VolumeConf.{VolumeConf}
use Rattle.manager.specs.Stands.{IsShared}
use Rattle.manager.specs.declared.base.ManagerBase.{ManagerBase}
use Rattle.manager.specs.declared.station.Station.{Station}
use Rattle.manager.proofs.ReadThrough.{zip_self, zip_set}
use Rattle.rack.specs.Racks.{IsStation, base_of_station}
use Rattle.rack_parts.specs.declared.rack.Rack.{Rack}
use Rattle.request_turns.specs.Turns.{ManagerPass}
use Rattle.rack.specs.Again.{IsPassAgain, IsRackAgain, IsStationAgain}
use Rattle.rack.specs.NotOpened.{first_closed}
use Rattle.rack.proofs.FirstClosed.{none_closed}
use Rattle.rack.proofs.Since.{all_at}
use Rattle.inspection.specs.Looks.{IsConfiguredBase}
use Rattle.inspection.specs.Racks.{numbers_of, CanLook, IsStationAt}
use Rattle.nbd_session.specs.Sessions.{CountsFaults, IsSession}
use Rattle.nbd_session.specs.declared.session.Ended.{Ended}
use Rattle.nbd_session.specs.declared.session.NbdFault.{NbdFault}
use Rattle.nbd_serving.specs.Turns.{MakesTurn}
use Rattle.nbd_serving.specs.Workers.{CanServe}
use Rattle.nbd_serving.specs.Racks.{ServesStation}
use Rattle.nbd_serving.specs.Wires.{Wire}
use Rattle.wol_config.specs.Configs.{most_of}

pub never_some : {X : Type 0} (r : Option X) → ((x : X) → r ≡ Some x → ⊥) → r ≡ None
never_some None never = refl
never_some (Some x) never = absurd (never x refl)

-- where all volumes are open, each has a station
pub has_station : {D : Type 0} (config : Config) (r : Rack D) → CanLook config r → first_closed 0 r.faults.items ≡ None → (v : ℕ) → v < length config.volumes.items → Contains (numbers_of r.stations.items) v
has_station config r can opened v within =
    can.open_ v (slice_get-get_or r.faults.items v None (omega (arith, within, can.count)) ∙ ap Some (none_closed 0 r.faults.items opened v))

station_again : {D : Type 0} (s : Station D) → IsStationAgain s s
station_again s = record { id = refl; lock = refl; passes = λ was. was }

-- a rack in which nothing was done
pub rack_again : {D : Type 0} (r : Rack D) → IsRackAgain r r
rack_again r = record {
  only = refl;
  keepers = zip_self IsPassAgain (λ p. record { same = (refl, refl); free = λ f. f }) r.keepers.items;
  stations = zip_self IsStationAgain station_again r.stations.items;
}

module _ {D : Type 0} (config : Config) (r : Rack D) (place volume : ℕ) (s b : Station D) (can : CanLook config r) (at : IsStationAt r.stations.items volume place s) (was : b ≡ get_or r.stations.items place b)
    (v : VolumeConf) (conf : slice_get config.volumes.items volume ≡ Some v) where
  is_it : b ≡ s
  is_it = was ∙ get_or_from_slice_get r.stations.items place s b at.there

  stands : IsStation s × IsConfiguredBase config r.shared (base_of_station s)
  stands = all_at (λ (u : Station D). IsStation u × IsConfiguredBase config r.shared (base_of_station u)) r.stations.items place s can.stations at.there

  based : (pass_lock s.worker).base ≡ base_of_station s
  based = ap (λ (l : LockId ManagerBase). l.base) stands.0.worker_.own

  home_is : (base_of_station s).volume.began.home_blocks ≡ v.home
  home_is = stands.1.home_blocks
      ∙ ap (λ (w : VolumeConf). w.home) (same_Some stands.1.volume v (sym stands.1.there ∙ ap (slice_get config.volumes.items) (stands.0.id ∙ at.id) ∙ conf))

  pub can_serve : (most : ℕ) → most ≡ most_of config → 1 ≤ most → most ≤ 128 → CanServe b.lock b.worker r.shared v.home most
  can_serve most is some few = subst (λ (u : Station D). CanServe u.lock u.worker r.shared v.home most) (sym is_it) (record {
    pass = stands.0.worker_;
    at = subst (IsShared r.shared) (sym based) stands.1.at;
    home_ = ap (λ (m : ManagerBase). m.volume.began.home_blocks) based ∙ home_is;
    most_ = ap (λ (m : ManagerBase). m.volume.began.most) based ∙ stands.1.most ∙ sym is;
    some = some;
    few = few;
  })

  module _ (ts : Vec (Station D) Global) (p : ManagerPass D) (most : ℕ) (ready : CanServe b.lock p r.shared v.home most) (set : ts.items ≡ slice_set r.stations.items place (record b { worker = p })) where
    abbrev t : Station D
    t = record s { worker = p }

    own_s : pass_lock p ≡ lock_id s.lock
    own_s = ready.own ∙ ap (λ (u : Station D). lock_id u.lock) is_it

    set_s : ts.items ≡ slice_set r.stations.items place t
    set_s = set ∙ ap (λ (u : Station D). slice_set r.stations.items place (record u { worker = p })) is_it

    again_s : IsStationAgain s t
    again_s = record {
      id = refl;
      lock = refl;
      passes = λ old. record {
        id = old.id;
        passes = old.passes;
        own_passes = record {
          worker_ = record { own = own_s; free = ready.free; number_is = ready.number_is };
          helper_ = old.helper_;
          keeper_ = old.keeper_;
        };
      };
    }

    pub served_again : IsRackAgain r (record r { stations = ts })
    served_again = record {
      only = refl;
      keepers = zip_self IsPassAgain (λ p. record { same = (refl, refl); free = λ f. f }) r.keepers.items;
      stations = subst (AllZip IsStationAgain r.stations.items) (sym set_s) (zip_set IsStationAgain station_again r.stations.items place s t at.there again_s);
    }

    pub served_station : (tells : Bool) (wire wire' : Wire) (answer : Result Ended NbdFault) → most ≡ most_of config
        → IsSession (MakesTurn tells) v.home most b.worker p wire.left wire'.left wire.taken wire'.taken answer → CountsFaults wire.source_faults wire'.source_faults wire.sink_faults wire'.sink_faults answer
        → ServesStation tells config r (record r { stations = ts }) volume wire wire' answer
    served_station tells wire wire' answer is_most session faults = record {
      conf = v;
      conf_is = conf;
      place = place;
      station = s;
      is_station = at;
      pass = p;
      same = (own_s ∙ sym stands.0.worker_.own, ready.number_is ∙ sym stands.0.worker_.number_is);
      stations = set_s;
      session = subst (λ (k : ℕ). IsSession (MakesTurn tells) v.home k s.worker p wire.left wire'.left wire.taken wire'.taken answer) is_most
          (subst (λ (u : Station D). IsSession (MakesTurn tells) v.home most u.worker p wire.left wire'.left wire.taken wire'.taken answer) is_it session);
      faults = faults;
    }
