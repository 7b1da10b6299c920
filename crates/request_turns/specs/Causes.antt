-- Why a turn came to its answer: by what the volume was before it.
use Rattle.std.specs.Prelude.{◌≡◌, ◌⊎◌, ◌<◌, ◌∷◌, ◌^◌, List, [], Result, Ok, Err}
use Rattle.wol_model.specs.Blocks.{Write}
use Rattle.wol_model.specs.Trace.{payload}
use Rattle.wol_model.specs.declared.trace.Kind.TheVariants as kind
use Rattle.wol_promise.specs.Policy.{Look}
use Rattle.wol_promise.specs.Ruled.{Noted}
use Rattle.manager.specs.declared.part.ReadRefusal.{ReadRefusal}
use Rattle.manager.specs.declared.part.ReadRefusal.TheVariants as refused_read
use Rattle.manager.specs.declared.part.Sources.{Sources}
use Rattle.manager.specs.declared.part.WriteRefusal.{WriteRefusal}
use Rattle.manager.specs.declared.part.WriteRefusal.TheVariants as refused
use Rattle.trace_windows.specs.Requests.{asked}
use Rattle.trace_windows.specs.declared.request.Request.{Request}
use Rattle.request_turns.specs.Turns.{IsBroken}
use Rattle.request_turns.specs.declared.outcome.Outcome.{Outcome}
use Rattle.request_turns.specs.declared.outcome.Outcome.TheVariants as outcome

-- no disk call had failed
abbrev pub IsUnbroken : (before : List Noted) → Type 0
IsUnbroken before = IsBroken before → ⊥

-- .. and a version was left to give to a write
pub record CanTake (before : List Noted) (l : Look) : Type 0 where
  pub unbroken : IsUnbroken before
  pub left : l.next < 2 ^ 63

-- a read is refused as down exactly where a disk call had failed before
abbrev pub IsCauseOfRead : (before : List Noted) → Result Sources ReadRefusal → Type 0
IsCauseOfRead before (Ok sources) = IsUnbroken before
IsCauseOfRead before (Err (refused_read.DiskFault p)) = IsUnbroken before
IsCauseOfRead before (Err (refused_read.Down p)) = IsBroken before

-- a write is refused as down exactly so, and else for want of a version exactly where none was
-- left; none is refused as full
abbrev pub IsCauseOfRefusal : (before : List Noted) → Look → WriteRefusal → Type 0
IsCauseOfRefusal before l refused.Full = ⊥
IsCauseOfRefusal before l (refused.DiskFault p) = CanTake before l
IsCauseOfRefusal before l (refused.Down p) = IsBroken before
IsCauseOfRefusal before l refused.VersionsSpent = IsUnbroken before × (l.next ≡ 2 ^ 63)
IsCauseOfRefusal before l refused.NoMemory = CanTake before l

abbrev pub IsCauseOfWrite : (before : List Noted) → Look → Outcome → Type 0
IsCauseOfWrite before l (outcome.Read mark sources) = ⊥
IsCauseOfWrite before l (outcome.Wrote place drained) = CanTake before l
IsCauseOfWrite before l (outcome.NoRead refusal) = ⊥
IsCauseOfWrite before l (outcome.NoWrite refusal) = IsCauseOfRefusal before l refusal
IsCauseOfWrite before l outcome.NotRun = ⊥

-- w is the write that was given, and by its outcome it was refused for want of memory
abbrev pub LackedMemory : (given : Write) → Outcome → (w : Write) → Type 0
LackedMemory given o w = (w ≡ given) × (o ≡ outcome.NoWrite refused.NoMemory)

-- w is the write of one of these requests, and by their outcomes it was refused so
abbrev pub OneLacked : List Request → List Outcome → (w : Write) → Type 0
OneLacked [] os w = ⊥
OneLacked (r ∷ rs) [] w = ⊥
OneLacked (r ∷ rs) (o ∷ os) w =
    ((r.kind ≡ kind.Write) × LackedMemory (payload (asked r)) o w) ⊎ OneLacked rs os w
