-- What a run over a trace leaves: histories, bytes and images.
use Rattle.std.specs.Prelude.{◌≡◌, ◌≢◌, ◌<◌, ◌≤◌, ◌^◌, ℕ, List, [], ◌∷◌, ◌++◌, Option, None, Some, length, take, drop, nat_lt, if◌then◌else◌}
use Rattle.std.specs.List.{flat_map, AllByRecursion}
use Rattle.wol_disk.specs.Disk.{Block}
use Rattle.wol_model.specs.Heads.{Shape}
use Rattle.wol_model.specs.History.{IsCut}
use Rattle.wol_model.specs.Images.{Images, recovered_from, AreSound}
use Rattle.wol_model.specs.Trace.{Request, payloads, answer}
use Rattle.wol_promise.specs.Outcomes.{of_volume}
use Rattle.wol_model.specs.declared.trace.Kind.TheVariants as kind

-- ---- Histories

-- `n v` is how many requests of volume v were answered, and these are the first ones: all of the
-- windows before the last, and all of the last too, but where a part of the volume was at fault,
-- its versions ended, or the run ended at status 7 or 9
pub record AreAnswered (n : ℕ → ℕ) (asked before_last : List Request) (status : ℕ)
    (is_faulty : ℕ → Type 0) (next : ℕ → ℕ) : Type 0 where
  pub within : (v : ℕ) → n v ≤ length (of_volume v asked)
  pub windows_before : (v : ℕ) → length (of_volume v before_last) ≤ n v
  pub unless : (v : ℕ) → status ≢ 7 → status ≢ 9 → (is_faulty v → ⊥) → next v < 2 ^ 63
      → n v ≡ length (of_volume v asked)
  pub at_0 : (v : ℕ) → status ≡ 0 → n v ≡ length (of_volume v asked)

-- ---- Bytes

-- the lines of the answered reads, in trace order; `text` is the line of a read with its mark
abbrev pub read_text : (text : Request → ℕ → List ℕ) → Request → Option ℕ → List (List ℕ)
read_text text r None = []
read_text text r (Some mark) = text r mark ∷ []

-- the lines of requests that come after earlier ones
abbrev pub read_lines_after : (text : Request → ℕ → List ℕ) → (arrays : ℕ → List Block)
    → (n : ℕ → ℕ) → (earlier : List Request) → List Request → List (List ℕ)
read_lines_after text arrays n earlier [] = []
read_lines_after text arrays n earlier (r ∷ rs) =
    (if nat_lt (length (of_volume r.volume earlier)) (n r.volume)
    then read_text text r (answer arrays earlier r r.kind) else [])
    ++ read_lines_after text arrays n (earlier ++ r ∷ []) rs

-- the lines of all answered reads of a trace
abbrev pub read_lines : (text : Request → ℕ → List ℕ) → (arrays : ℕ → List Block) → (n : ℕ → ℕ)
    → List Request → List (List ℕ)
read_lines text arrays n asked = read_lines_after text arrays n [] asked

-- the lines one after the other
abbrev pub joined_lines : List (List ℕ) → List ℕ
joined_lines lines = flat_map (λ l. l) lines

-- ---- Images

-- Whatever image is left of each volume, it recovers to what its answered requests wrote to the
-- array at entry, and to a cut of the writes that directly follow, if a part of the volume was at
-- fault.
pub record LeavesCuts (shapes : List Shape) (may_be : Images → Type 0) (entry : Images)
    (asked : List Request) (n : ℕ → ℕ) (is_faulty : ℕ → Type 0) : Type 0 where
  -- the requests that may have been in flight
  pub flight : ℕ → List Request
  pub follow : (v : ℕ) → flight v ≡ take (length (flight v)) (drop (n v) (of_volume v asked))
  pub are_writes : (v : ℕ) → AllByRecursion (λ (r : Request). r.kind ≡ kind.Write) (flight v)
  pub unless : (v : ℕ) → (is_faulty v → ⊥) → flight v ≡ []
  pub cuts : (images : Images) → may_be images → (v : ℕ) → v < length shapes
      → IsCut (recovered_from shapes entry v) (payloads v (take (n v) (of_volume v asked)))
      (payloads v (flight v)) (recovered_from shapes images v)

-- where every image at entry was sound, every image at exit is
abbrev pub KeepsSound : List Shape → (was may_be : Images → Type 0) → Type 0
KeepsSound shapes was may_be = ((images : Images) → was images → AreSound shapes images)
    → (images : Images) → may_be images → AreSound shapes images
