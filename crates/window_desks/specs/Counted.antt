-- What a window counts over all volumes.
use Rattle.std.specs.Prelude.{◌<◌, ◌+◌, ℕ, Bool, List, [], ◌∷◌, length, slice_index_or}
use Rattle.wol_promise.specs.Policy.{Look}
use Rattle.wol_promise.specs.Report.{put_home_by}
use Rattle.request_turns.specs.Counts.{CountsMore, added_between, dropped_by}
use Rattle.request_turns.specs.Turns.{ManagerPass, IsHonest}
use Rattle.request_turns.specs.declared.tally.Tally.{Tally}

-- what the passes' own entries since come to, over all volumes in order
abbrev pub all_between : {D : Type 0} → (Bool → Look → Look → ℕ) → (ps qs : List (ManagerPass D))
    → ℕ
all_between worth [] qs = 0
all_between worth (p ∷ ps) [] = 0
all_between worth (p ∷ ps) (q ∷ qs) = added_between worth p q + all_between worth ps qs

abbrev pub AreHonest : {D : Type 0} → (tells : Bool) → List (ManagerPass D) → Type 0
AreHonest {D} tells ps =
    (k : ℕ) (d : ManagerPass D) → k < length ps → IsHonest tells (slice_index_or ps k d)

-- what they put home and dropped was counted, where they were honest
pub record HaveCounted {D : Type 0} (tells : Bool) (t u : Tally) (ps qs : List (ManagerPass D)) :
    Type 0 where
  pub more : AreHonest tells ps
      → CountsMore (all_between put_home_by ps qs) (all_between dropped_by ps qs) t u
