-- What serving a trace in a session comes to.
use Rattle.std.specs.Prelude.{◌≡◌, ◌≤◌, ℕ, Bool, List, Option, Result, Err, IfErr, IfOk}
use Rattle.wol_disk.specs.Disk.{Rose}
use Rattle.logger.specs.declared.shared.Shared.{Shared}
use Rattle.wol_config.specs.declared.config.Config.{Config}
use Rattle.report.specs.declared.fault.Fault.TheVariants.{TraceSource}
use Rattle.replay.specs.Givens.{IsWithin, borrow_of, faults_of}
use Rattle.replay.specs.Served.{AreSamePasses}
use Rattle.replay.specs.Sessions.{IsSession, ServesSome, ServesWhole}
use Rattle.replay.specs.declared.counting.Counted.{Counted}
use Rattle.replay.specs.declared.given.Given.{Given}
use Rattle.replay.specs.declared.session.Options.{Options}
use Rattle.replay.specs.declared.session.Session.{Session}
use Rattle.replay.specs.declared.stop.Stop.{Stop}
use Rattle.replay.specs.declared.stop.Stop.TheVariants as stop

-- The trace was served, to its end or not, on the same locks and with the same keepers.
pub record HasLed {D S : Type 0} (tells : Bool) (left : S → Option (List ℕ)) (faults borrow : S → ℕ)
    (config : Config) (shared : Shared D) (options : Options)
    (start now : Given S) (s n : Session D) (result : Result Counted Stop) (sink sink' : ℕ)
    (printed printed' : Option (List ℕ)) : Type 0 where
  pub session : IsSession config shared n
  pub same : AreSamePasses s.keepers.items n.keepers.items
  pub locks : n.floor.locks ≡ s.floor.locks
  pub whole : IfOk result (λ counted. ServesWhole tells left config options start now s.floor
      s.keepers.items n.floor n.keepers.items counted sink sink' printed printed')
  pub some : IfErr result (λ e. ServesSome tells left config options start e now s.floor
      s.keepers.items n.floor n.keepers.items sink sink' printed printed')
  pub later : sink ≤ sink'
  pub source_later : faults_of faults start ≤ faults_of faults now
  pub source : result ≡ Err (stop.Fault TraceSource)
      → Rose (faults_of faults start) (faults_of faults now)
  pub same_borrow : borrow_of borrow now ≡ borrow_of borrow start
  pub within : IsWithin now
