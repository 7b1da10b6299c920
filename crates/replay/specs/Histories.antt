-- The history of each volume of a run, and which of its requests it answered.
use Rattle.std.specs.Prelude.{◌≡◌, ◌≢◌, ◌+◌, ℕ, Bool, false, List, [], length, Some, is_some, slice_get, IsTrue}
use Rattle.std.specs.List.{flat_map}
use Rattle.std.specs.Option.{option_map_or}
use Rattle.wol_bay.specs.Bay.{Told}
use Rattle.wol_model.specs.History.{flight_of}
use Rattle.wol_model.specs.Images.{recovered_from}
use Rattle.wol_model.specs.Trace.{Request}
use Rattle.wol_promise.specs.Manager.{Base}
use Rattle.wol_promise.specs.Outcomes.{Answered}
use Rattle.wol_promise.specs.Report.{AreAllRuled, HasNoHelp, LeavesIdle, logged_writes}
use Rattle.wol_promise.specs.Ruled.{Noted, entries_of}
use Rattle.wol_promise.specs.Run.{AreAnswered, read_lines}
use Rattle.wol_promise.specs.Stands.{HasHistory, IsOpening}
use Rattle.run_laws.specs.Answers.{AreFirst, answered_count, requests_in, told_lines}
use Rattle.run_laws.specs.Laws.{AreAnsweredBy}
use Rattle.wol_config.specs.declared.config.Config.{Config}
use Rattle.volume_images.specs.Volumes.{images_read, shapes_of}
use Rattle.rack.specs.Owners.{IsBegun}
use Rattle.report.specs.Names.{name_at, printed_names}
use Rattle.report.specs.Summaries.{read_text}
use Rattle.request_workers.specs.Requests.{answers_to}
use Rattle.window_desks.specs.declared.request.Reclaim.{Reclaim}
use Rattle.window_desks.specs.declared.request.Reclaim.TheVariants as reclaim
use Rattle.replay.specs.Served.{ServedWindow}

-- ---- Requests and their answers

-- the answers to the requests of windows, in order
abbrev pub answers_in : List ServedWindow → List Answered
answers_in ss =
    flat_map (λ (s : ServedWindow). answers_to s.batch.requests s.answer.outcomes.items) ss

-- the line of a read of these volumes, with its mark
abbrev pub line_of_read : Config → Request → (mark : ℕ) → List ℕ
line_of_read config r mark = read_text
    (Some (name_at (printed_names config.volumes.items) r.volume)) r.line r.first r.count mark

-- ---- Histories

-- what a volume began with, and all entries of its lock since, in order
pub record History : Type 0 where
  pub base : Base
  pub notes : List Noted

-- a call of a disk of the volume failed
abbrev pub is_broken : History → Bool
is_broken h = is_some (flight_of (entries_of h.notes))

-- the next version after these entries
abbrev pub next_after : History → ℕ
next_after h = h.base.next + logged_writes h.notes

-- so of volume v
abbrev pub is_broken_at : List History → (v : ℕ) → Bool
is_broken_at histories v = option_map_or is_broken (slice_get histories v) false

abbrev pub next_at : List History → (v : ℕ) → ℕ
next_at histories v = option_map_or next_after (slice_get histories v) 0

-- the view that it was opened with
abbrev pub view_at : List History → (v : ℕ) → List ℕ
view_at histories v = option_map_or (λ (h : History). h.base.view) (slice_get histories v) []

-- The entries are a legal history of volume v, each of them follows the rules of placing and
-- reclaim, and the worker read and wrote in it what the answered requests of v ask for.
pub record IsHistory (told : Type 0) (answers : List Answered) (v : ℕ) (h : History) : Type 0 where
  pub owner : h.base.owner ≡ v
  pub opening : IsOpening h.base
  pub legal : HasHistory told h.base h.notes
  pub ruled : AreAllRuled h.notes
  pub answered : AreAnsweredBy v answers (entries_of h.notes)

-- One history of each volume. The answered requests of a volume are its first ones.
pub record AreHistories (told : Type 0) (config : Config) (answers : List Answered)
    (histories : List History) : Type 0 where
  pub count : length histories ≡ length (shapes_of config)
  pub each : (v : ℕ) (h : History) → slice_get histories v ≡ Some h → IsHistory told answers v h
  pub first : (v : ℕ) → AreFirst v answers

-- How many of its requests each volume answered: all of those in `earlier`, the answers of the
-- windows before the last; and why not all.
abbrev pub CountAnswered : (earlier answers : List Answered) → (status : ℕ) → List History → Type 0
CountAnswered earlier answers status histories =
    AreAnswered (answered_count answers) (requests_in answers) (requests_in earlier) status
    (λ v. IsTrue (is_broken_at histories v)) (next_at histories)

-- each volume began with what the images recovered to as they read
abbrev pub BeginAsRead : Config → (entry : Told) → List History → Type 0
BeginAsRead config entry histories = (v : ℕ) (h : History) → slice_get histories v ≡ Some h
    → IsBegun config (images_read config entry) h.base

-- the lines of the answered reads have the marks of plain arrays that begin with what the images
-- recovered to
abbrev pub ArePlainMarks : Config → List Answered → (entry : Told) → Type 0
ArePlainMarks config answers entry =
    told_lines (line_of_read config) answers
    ≡ read_lines (line_of_read config) (recovered_from (shapes_of config)
    (images_read config entry)) (answered_count answers) (requests_in answers)

-- Where reclaim is done between windows or beside them nothing is left to reclaim behind a window,
-- unless a call of a disk of the volume failed; and no helper works but beside the requests.
pub record LeavesReclaimed (mode : Reclaim) (windows : List ServedWindow)
    (histories : List History) : Type 0 where
  pub idle : mode ≢ reclaim.Off → windows ≢ [] → (v : ℕ) (h : History)
      → slice_get histories v ≡ Some h → (IsTrue (is_broken h) → ⊥) → LeavesIdle h.base.look h.notes
  pub alone : mode ≢ reclaim.Beside → (v : ℕ) (h : History) → slice_get histories v ≡ Some h
      → HasNoHelp h.notes
