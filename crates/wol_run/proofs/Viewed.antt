-- What a change of a view ended with, and what became of the sink.
use Rattle.std.proofs.Common.{◌≡◌, ◌≤◌, ◌⊎◌, inl, inr, ℕ, Bool, List, Option, Result, Ok, Err, refl, sym, subst, true≢false}
use Rattle.std.specs.Bool.{⊤}
use Rattle.std.specs.Prelude.{IsTrue}
use Rattle.wol_disk.specs.Disk.{Rose, State}
use Rattle.wol_bay.specs.Bay.{BayState}
use Rattle.wol_config.specs.declared.config.Config.{Config}
use Rattle.report.specs.declared.fault.Fault.{Fault}
use Rattle.report.specs.declared.fault.Fault.TheVariants as fault
use Rattle.rack.specs.Opens.{KeepsAllSound, KeepsOthers, LeavesAll}
use Rattle.volume_images.specs.Left.{IsTold}
use Rattle.view_change.specs.declared.answers.Change.{Change}
use Rattle.view_commands.specs.Printed.{PrintsView}
use Rattle.view_commands.specs.Runs.{ChangesOpen, ChangesView, Completes, FailsFor, closed, no_memory, opened, unknown}
use Rattle.view_commands.specs.declared.order.Order.{Order}
use Rattle.view_commands.specs.declared.order.Stop.{Stop}
use Rattle.view_commands.specs.declared.order.Stop.TheVariants as stop
use Rattle.wol_run.specs.Tops.{EndsWith, IsDoneOrMemory, TellsNoMemory}
use Rattle.wol_run.specs.Viewing.{EndsChange, IsOrder, IsViewChange}
use Rattle.wol_run.proofs.ReplayFaults.{CanEnd}
use Rattle.wol_run.proofs.Unread.{wanted_or_sink}

-- what ends the change of an open volume's view may end a run
fails_can : (tells : Bool) (config : Config) (volume : ℕ) (old new : BayState) (f : Fault) → FailsFor tells config volume old new f → CanEnd f
fails_can tells config volume old new fault.Words h = h
fails_can tells config volume old new (fault.Config why) h = h
fails_can tells config volume old new (fault.Line line why) h = tt
fails_can tells config volume old new (fault.Volume number t) h = tt
fails_can tells config volume old new fault.ConfigSource h = h
fails_can tells config volume old new fault.TraceSource h = tt
fails_can tells config volume old new fault.Memory h = tt
fails_can tells config volume old new fault.Lines h = tt
fails_can tells config volume old new (fault.Versions number) h = tt

module _ (sink sink' : ℕ) where
  -- the sink failed where that is answered, and only there
  abbrev pub SinkSaid : Result (Unit {0}) Stop → Type 0
  SinkSaid (Ok done) = sink' ≡ sink
  SinkSaid (Err stop.Sink) = Rose sink sink'
  SinkSaid (Err (stop.Refused r)) = sink' ≡ sink
  SinkSaid (Err (stop.Fault f)) = (sink' ≡ sink) × CanEnd f

module _ {D : Type 0} (tells : Bool) (state : D → State) (config : Config) (order : Order) (old new : BayState) (sink sink' : ℕ) (printed printed' : Option (List ℕ)) where
  said_open : (volume : ℕ) (change : Change) (view : List ℕ) (r : Result (Unit {0}) Stop) → PrintsView config volume view r sink sink' printed printed' → ChangesOpen tells config volume change view old new r → SinkSaid sink sink' r
  said_open volume change view (Ok done) prints open_ = prints.0
  said_open volume change view (Err stop.Sink) prints open_ = prints.0
  said_open volume change view (Err (stop.Refused r)) prints open_ = prints.0
  said_open volume change view (Err (stop.Fault f)) prints open_ = (prints.0, fails_can tells config volume old new f (open_.fails f refl))

  pub sink_said : (r : Result (Unit {0}) Stop) → ChangesView tells state config order old new sink sink' printed printed' r → SinkSaid sink sink' r
  sink_said r (unknown refusal is prints same) = prints.0
  sink_said r (no_memory volume logger named prints leaves) = (prints.0, tt)
  sink_said r (closed volume logger k f named prints first leaves) = (prints.0, tt)
  sink_said r (opened volume logger view x named prints open_) = said_open volume _ view x prints open_

-- a change over a configuration that was had, and its end
pub is_view_change : {D : Type 0} (tells : Bool) (state : D → State) (config : Config) (order : Order) (old new : BayState) (sink sink' after : ℕ) (printed then printed' : Option (List ℕ)) (status : ℕ) (result : Result (Unit {0}) Stop)
    → (IsTrue tells → IsTold (LeavesAll tells state config old new) old.told new.told) → (IsTrue tells → IsTold (KeepsAllSound config) old.told new.told)
    → (IsTrue tells → IsTold (KeepsOthers config) old.told new.told) → ChangesView tells state config order old new sink sink' printed then result → sink' ≤ after → EndsChange config order result status then printed'
    → (named : _) → IsOrder order.verb named order → IsViewChange tells state order.verb named config old new sink after status printed printed'
is_view_change tells state config order old new sink sink' after printed then printed' status result left_ sound others changes later ends named is = record {
  order = order;
  is_order = is;
  result = result;
  sink_then = sink';
  later = later;
  printed_then = then;
  left_ = left_;
  sound = sound;
  others = others;
  changes = changes;
  ends = ends;
}

-- a change that comes to its end ends with no other fault than want of memory, and never for the sink
abbrev IsForMemory : Result (Unit {0}) Stop → Type 0
IsForMemory (Ok done) = ⊤
IsForMemory (Err stop.Sink) = ⊥
IsForMemory (Err (stop.Refused r)) = ⊤
IsForMemory (Err (stop.Fault f)) = f ≡ fault.Memory

for_memory : (r : Result (Unit {0}) Stop) → Completes r → IsForMemory r
for_memory (Ok x) (inl done) = tt
for_memory (Err e) (inl done) = absurd (true≢false (sym done))
for_memory r (inr (inl (refusal, refused))) = subst IsForMemory (sym refused) tt
for_memory r (inr (inr memory)) = subst IsForMemory (sym memory) refl

pub change_not_sink : (e : Stop) → e ≡ stop.Sink → Completes {T = Unit {0}} (Err e) → ⊥
change_not_sink e is done = subst (λ (x : Stop). IsForMemory (Err x)) is (for_memory (Err e) done)

pub change_memory : (e : Stop) (f : Fault) → e ≡ stop.Fault f → Completes {T = Unit {0}} (Err e) → f ≡ fault.Memory
change_memory e f is done = subst (λ (x : Stop). IsForMemory (Err x)) is (for_memory (Err e) done)

-- the line of a refusal, where the sink didn't fail
pub told_refusal : (text : List ℕ) (status : ℕ) (printed new : Option (List ℕ)) → (status ≡ 7 → ⊥)
    → EndsWith text 15 status printed new ⊎ TellsNoMemory status printed new → IsDoneOrMemory status ⊎ (status ≡ 15)
told_refusal text status printed new whole (inl ends) = elim (wanted_or_sink _ 15 status printed new ends) [
  | inl same ↦ inr same
  | inr seven ↦ absurd (whole seven)
]
told_refusal text status printed new whole (inr ends) = elim (wanted_or_sink _ 9 status printed new ends) [
  | inl nine ↦ inl (inr nine)
  | inr seven ↦ absurd (whole seven)
]
