-- The source and the sink of a client, and what a command answers.
use Rattle.std.specs.Prelude.{ℕ, List, Option, Result, Ok, Err}
use Rattle.nbd_session.specs.declared.ending.Unagreed.{Unagreed}
use Rattle.nbd_session.specs.declared.ending.Unagreed.TheVariants as unagreed
use Rattle.nbd_session.specs.declared.session.Ended.{Ended}
use Rattle.nbd_session.specs.declared.session.Ended.TheVariants as ended
use Rattle.nbd_session.specs.declared.session.NbdFault.{NbdFault}
use Rattle.nbd_session.specs.declared.session.NbdFault.TheVariants as fault
use Rattle.report.specs.Faults as report
use Rattle.report.specs.declared.fault.Fault.TheVariants.{Memory}
use Rattle.nbd_serving.specs.declared.stop.Stop.{Stop}
use Rattle.nbd_serving.specs.declared.stop.Stop.TheVariants as stop

-- what the source has left and the sink has taken, and how many of their calls failed
pub record Wire : Type 0 where
  pub left : Option (List ℕ)
  pub source_faults : ℕ
  pub taken : Option (List ℕ)
  pub sink_faults : ℕ

-- so they are, of a source and a sink
abbrev pub wire : (left : Option (List ℕ)) → (source_faults : ℕ) → (taken : Option (List ℕ))
    → (sink_faults : ℕ) → Wire
wire left source_faults taken sink_faults =
    record { left = left; source_faults = source_faults; taken = taken; sink_faults = sink_faults }

-- the answer of a command whose session came to this
abbrev pub answer_of : Result Ended NbdFault → Result Ended Stop
answer_of (Ok e) = Ok e
answer_of (Err fault.Source) = Err stop.Source
answer_of (Err fault.Sink) = Err stop.Sink
answer_of (Err fault.NoMemory) = Err (stop.Fault Memory)

-- the exit status behind a handshake without a session: 0 where the client went away between two
-- options
abbrev pub unagreed_status : Unagreed → ℕ
unagreed_status unagreed.Aborted = 0
unagreed_status unagreed.End = 0
unagreed_status _ = 14

-- its exit status
abbrev pub status_of : Result Ended Stop → ℕ
status_of (Ok ended.Disc) = 0
status_of (Ok ended.End) = 0
status_of (Ok (ended.BadMagic request)) = 14
status_of (Ok (ended.Cut request)) = 14
status_of (Err stop.Unknown) = 15
status_of (Err (stop.Fault f)) = report.status_of f
status_of (Err (stop.Unagreed why)) = unagreed_status why
status_of (Err stop.Source) = 8
status_of (Err stop.Sink) = 7
