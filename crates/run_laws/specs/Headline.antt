-- The headline of a run of a trace on volumes that are all open, for every trace, number of workers
-- and interleaving.
--
-- Each volume has one legal history, for its reads and for recovery, which begins with what the
-- volume was opened with. Each answered read has the mark of every block's last acknowledged write.
-- Wherever the disks stop, within a write too, the images recover to that history's acknowledged
-- writes, followed at most by a prefix of the writes in flight, or by some blocks of a single one,
-- and that only where a call of the volume's home failed: a write to a log is there whole or not at
-- all. In flight is at most the next write, or several next ones, none of which was to go home.
--
-- A stopped disk fails each call from some call on, and that one may have written any of its
-- blocks. `was` and `may_be` are the images that a stop may leave before and after the run: each
-- block as last synced or as written since. `failed`: a call of a disk of volume v failed, of its
-- home or of a logger in its view. `home_failed`: so did one of its home. `answers`: the requests
-- with their outcomes, in the order of the trace. `text`: a read's line with its mark, the sum,
-- modulo 2^64, of the numbers in the first eight bytes of its blocks.
use Rattle.std.specs.Prelude.{◌≡◌, ◌<◌, ◌≤◌, ◌⊎◌, ◌++◌, ◌∷◌, ℕ, true, List, [], length, map, take, drop, None, is_some}
use Rattle.std.specs.List.{AllByRecursion}
use Rattle.wol_disk.specs.Disk.{Block}
use Rattle.wol_model.specs.ArrayLaws.{unversioned}
use Rattle.wol_model.specs.Blocks.{Write}
use Rattle.wol_model.specs.Heads.{Shape}
use Rattle.wol_model.specs.History.{Entry, IsCut, IsLegal, flight_of, in_flight, writes}
use Rattle.wol_model.specs.Images.{Images, recovered_from}
use Rattle.wol_model.specs.Trace.{Request, payloads}
use Rattle.wol_model.specs.declared.trace.Kind.TheVariants as kind
use Rattle.wol_promise.specs.Outcomes.{Answered, AreOutcomes, answered_in}
use Rattle.wol_promise.specs.Run.{KeepsSound, read_lines}
use Rattle.run_laws.specs.Answers.{answered_count, answers_of, requests_in, told_lines}

-- A legal history of a volume that was opened with this array.
pub record HasOneHistory (opened : List Block) (answers : List Answered) : Type 0 where
  -- reads, writes and other turns, in order
  pub history : List Entry
  -- each read gives every block's last acknowledged write, or what the volume was opened with
  pub legal : IsLegal opened history
  -- its reads and writes are the answered requests, which are the volume's first ones, in the
  -- order of the trace
  pub served : AreOutcomes (answered_in answers) (map (λ (e : Entry). e.operation) history)
  pub first : answered_in answers ≡ take (length (answered_in answers)) answers

-- In flight is nothing, the write that the next of these requests asks for, or the writes that
-- several next ones ask for, none of which was to go home.
pub record IsOneAction (v : ℕ) (next : List Request) (flight : List Write) : Type 0 where
  -- it is what so many next requests ask for, in order
  pub count : ℕ
  pub asked : map unversioned flight ≡ payloads v (take count next)
  -- more than one request only where each of them writes, and each write has a version, as the
  -- records of a log have: none goes home
  pub together : (count ≤ 1)
      ⊎ (AllByRecursion (λ (r : Request). r.kind ≡ kind.Write) (take count next)
      × AllByRecursion (λ (w : Write). is_some w.version ≡ true) flight)

-- What the images recover to for volume v, wherever the disks stop.
pub record IsReopened (shapes : List Shape) (may_be : Images → Type 0)
    (failed home_failed : Type 0) (v : ℕ) (opened : List Block) (answers : List Answered)
    (history : List Entry) : Type 0 where
  -- the acknowledged writes, then at most a prefix of those in flight, or some blocks of a single
  -- one that has no version
  pub cut : (images : Images) → may_be images
      → IsCut opened (writes history) (in_flight history) (recovered_from shapes images v)
  -- .. and a single one has none only where a call of the volume's home failed: a write to a log is
  -- there whole or not at all
  pub torn : (w : Write) → in_flight history ≡ w ∷ [] → w.version ≡ None → home_failed
  -- those in flight are of the next request, or of several next ones, none of which was to go
  -- home; and none is where no call of a disk of the volume failed
  pub one_action : IsOneAction v (drop (length (answered_in answers)) (requests_in answers))
      (in_flight history)
  pub calm : (failed → ⊥) → flight_of history ≡ None

pub record Headline (shapes : List Shape) (entry : Images) (was may_be : Images → Type 0)
    (failed home_failed : (v : ℕ) → Type 0) (text : Request → (mark : ℕ) → List ℕ)
    (answers : List Answered) : Type 0 where
  -- each volume has one legal history of its answered requests
  pub each_volume : (v : ℕ) → v < length shapes
      → HasOneHistory (recovered_from shapes entry v) (answers_of v answers)
  -- the line of each answered read has the mark that a plain array would give, after the volume's
  -- earlier writes
  pub marks : told_lines text answers
      ≡ read_lines text (recovered_from shapes entry) (answered_count answers) (requests_in answers)
  -- wherever the disks stop, the images recover to that same history's acknowledged writes, and at
  -- most what was in flight
  pub reopens : (v : ℕ) (open_ : v < length shapes)
      → IsReopened shapes may_be (failed v) (home_failed v) v (recovered_from shapes entry v)
      (answers_of v answers) (each_volume v open_).history
  -- sound images stay sound
  pub sound : KeepsSound shapes was may_be

-- A law beside the headline: where nothing was in flight, a reopened volume goes on where it was,
-- and its histories of both runs are one legal history.
abbrev pub HistoriesGoOn : Type 0
HistoriesGoOn = (opened again : List Block) (answers others : List Answered)
    → (one : HasOneHistory opened answers)
    → IsCut opened (writes one.history) (in_flight one.history) again
    → (next : HasOneHistory again others)
    → flight_of one.history ≡ None → IsLegal opened (one.history ++ next.history)
