-- What a station has: the passes of its lock.
use Rattle.wol_model.specs.History.{worker, helper, keeper}
use Rattle.turn_lock.specs.Passes.{IsPassAt}
use Rattle.manager.specs.declared.station.Station.{Station}

-- each pass of a station is one of its lock with its own number, in no turn
pub record HasOwnPasses {D : Type 0} (s : Station D) : Type 0 where
  pub worker_ : IsPassAt s.lock worker s.worker
  pub helper_ : IsPassAt s.lock helper s.helper
  pub keeper_ : IsPassAt s.lock keeper s.keeper
