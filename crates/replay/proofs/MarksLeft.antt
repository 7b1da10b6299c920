-- The marks of the answered reads are those of plain arrays that begin with what the images recovered to as they read.
use Rattle.replay.proofs.Basics.{◌≡◌, ℕ, List, [], Option, None, Some, refl, ap, subst, ◌∙◌, slice_get, option_map_or}
use Rattle.replay.proofs.Terms.{Told, Block, AreLegalNext, recovered_from, Answered, entries_of, answers_of, AreAnsweredBy, lines_are_plain}
use Rattle.replay.proofs.Terms.{Config, IsTold, images_read, shapes_of, History, AreHistories, ArePlainMarks, BeginAsRead, line_of_read}
use Rattle.wol_model.specs.History as history

-- ---- What was told at entry

-- where a bay told before two calls, it tells after them
pub told_through : (P Q R : Told → Told → Type 0) (a b c : Option Told) → IsTold P a b → IsTold Q b c → ((o n : Told) → a ≡ Some o → R o n) → IsTold R a c
told_through P Q R a b c = at a b c
  where
    at : (x y z : Option Told) → IsTold P x y → IsTold Q y z → ((o n : Told) → x ≡ Some o → R o n) → IsTold R x z
    at None y z first next all = subst (λ (t : Option Told). IsTold Q t z) first next
    at (Some o) None z first next all = absurd first
    at (Some o) (Some m) None first next all = absurd next
    at (Some o) (Some m) (Some n) first next all = all o n refl

-- ---- Marks

-- the entries of volume v
abbrev entries_at : List History → ℕ → List history.Entry
entries_at hs v = option_map_or (λ (h : History). entries_of h.notes) (slice_get hs v) []

module _ (config : Config) (answers : List Answered) (hs : List History) (told : Type 0) (is_told : told) (are : AreHistories told config answers hs) (beyond : (v : ℕ) → slice_get hs v ≡ None → answers_of v answers ≡ [])
    (entry : Told) (begun : BeginAsRead config entry hs) where
  abbrev arrays : ℕ → List Block
  arrays v = recovered_from (shapes_of config) (images_read config entry) v

  made : (v : ℕ) → AreAnsweredBy v answers (entries_at hs v)
  made v = at (slice_get hs v) refl
    where
      at : (o : Option History) → slice_get hs v ≡ o → AreAnsweredBy v answers (option_map_or (λ (h : History). entries_of h.notes) o [])
      at None is = rw (beyond v is) refl
      at (Some h) is = (are.each v h is).answered

  legal : (v : ℕ) → AreLegalNext (arrays v) (entries_at hs v)
  legal v = at (slice_get hs v) refl
    where
      at : (o : Option History) → slice_get hs v ≡ o → AreLegalNext (arrays v) (option_map_or (λ (h : History). entries_of h.notes) o [])
      at None is = tt
      at (Some h) is =
          let one = are.each v h is in
          let array : h.base.array ≡ arrays v = (begun v h is).array ∙ ap arrays one.owner in
          subst (λ (a : List Block). AreLegalNext a (entries_of h.notes)) array (one.legal.replies is_told)

  pub marks_left : ArePlainMarks config answers entry
  marks_left = lines_are_plain (line_of_read config) arrays answers (entries_at hs) are.first made legal
