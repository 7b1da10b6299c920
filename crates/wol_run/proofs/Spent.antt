-- Where versions ended a run, a volume had none left for a write.
use Rattle.std.proofs.Common.{◌≡◌, ◌≤◌, ◌<◌, ◌+◌, ◌++◌, ◌^◌, ℕ, Bool, List, [], ◌∷◌, Option, None, Some, Result, Err, refl, sym, ap, ◌∙◌, arith}
use Rattle.std.specs.Prelude.{IsTrue, slice_get}
use Rattle.std.specs.List.{count_by}
use Rattle.std.specs.Option.{option_map_or}
use Rattle.wol_bay.specs.Bay.{BayState}
use Rattle.wol_model.specs.Trace.{Request, TraceLine, requests, is_write}
use Rattle.wol_promise.specs.Manager.{Base}
use Rattle.wol_promise.specs.Outcomes.{Answered, answered_in}
use Rattle.wol_promise.specs.Report.{logged_writes}
use Rattle.wol_promise.specs.Ruled.{entries_of}
use Rattle.run_laws.specs.Answers.{answers_of}
use Rattle.run_laws.proofs.ReadLines.{volume_requests}
use Rattle.wol_config.specs.declared.config.Config.{Config}
use Rattle.report.specs.declared.fault.Fault.TheVariants.{Versions}
use Rattle.volume_images.specs.Left.{IsTold}
use Rattle.volume_images.specs.Volumes.{images_read}
use Rattle.rack.specs.Owners.{IsBegun}
use Rattle.trace_gen.specs.Generated.{targets_of}
use Rattle.replay.specs.Completes.{writes_to}
use Rattle.replay.specs.Ended.{HasRefusedWrite}
use Rattle.replay.specs.Histories.{History, answers_in, next_after, next_at}
use Rattle.replay.specs.Replays.{Replays}
use Rattle.replay.specs.Served.{ServedWindow}
use Rattle.replay.specs.declared.given.Given.{Given}
use Rattle.replay.specs.declared.session.Options.{Options}
use Rattle.replay.specs.declared.stop.Stop.{Stop}
use Rattle.replay.specs.declared.stop.Stop.TheVariants as stop
use Rattle.replay.proofs.LastRefused.{one_refused}
use Rattle.replay.proofs.WritesAnswered.{asked_writes, logged_answered, writes_in}
use Rattle.wol_config.specs.Configs.{most_of}
use Rattle.wol_run.proofs.HeadlineTold.{on_told}

-- the base of the volume's history, whose writes to logs took all versions
pub record HasSpent (tells : Bool) (config : Config) (lines : List (Option TraceLine)) (old new : BayState) : Type 0 where
  pub base : Base
  pub begun : IsTrue tells → IsTold (λ entry exit. IsBegun config (images_read config entry) base) old.told new.told
  pub logged : ℕ
  pub few : logged < writes_to base.owner (requests (most_of config) (targets_of config) lines)
  pub spent : 2 ^ 63 ≤ base.next + logged

module _ {S T : Type 0} (tells : Bool) (left : S → Option (List ℕ)) (config : Config) (options : Options) (start now : Given S) (old new : BayState) (result : Result T Stop) (sink sink' : ℕ) (printed printed' : Option (List ℕ))
    (r : Replays tells left config options start now old new result sink sink' printed printed') where
  abbrev answers : List Answered
  answers = answers_in (r.earlier ++ r.last)

  pub spent_of : (v : ℕ) (s : ServedWindow) → r.last ≡ s ∷ [] → HasRefusedWrite v s → result ≡ Err (stop.Fault (Versions v)) → HasSpent tells config r.run old new
  spent_of v s only write_ is =
      at (slice_get r.histories v) refl (one_refused r.earlier r.last v s only write_).1
    where
      at : (o : Option History) → slice_get r.histories v ≡ o
          → writes_in (answered_in (answers_of v answers)) + 1 ≤ writes_in (answers_of v answers) → HasSpent tells config r.run old new
      at None none few =
          let next : next_at r.histories v ≡ 0 = ap (λ (x : Option History). option_map_or next_after x 0) none in
          absurd (omega (arith, r.spent v is, next))
      at (Some h) here few =
          let one = r.are.each v h here in
          let asked : writes_to h.base.owner (requests (most_of config) (targets_of config) r.run) ≡ writes_in (answers_of v answers)
          = (λ i. writes_to (one.owner i) (sym r.asked i)) ∙ ap (λ (l : List Request). count_by (λ (x : Request). is_write x.kind) l) (sym (volume_requests v answers)) ∙ sym (asked_writes (answers_of v answers)) in
          let logged = logged_answered (answered_in (answers_of v answers)) (entries_of h.notes) one.answered in
          let next : next_at r.histories v ≡ next_after h = ap (λ (x : Option History). option_map_or next_after x 0) here in
          record {
            base = h.base;
            begun = λ telling. on_told _ _ old.told new.told (r.begun telling) (λ o n begins. begins v h here);
            logged = logged_writes h.notes;
            few = omega (arith, asked, logged, few);
            spent = omega (arith, r.spent v is, next);
          }
