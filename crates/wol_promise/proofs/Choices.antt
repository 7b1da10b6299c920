-- One image of home and one of each held segment.
use Rattle.std.proofs.Common.{◌≡◌, ℕ, List, [], ◌∷◌, ◌++◌, refl, ap, ◌∙◌}
use Rattle.std.specs.List.{AllByRecursion, AllZip}
use Rattle.wol_disk.specs.Disk.{Block}
use Rattle.wol_model.proofs.Images.{kept}
use Rattle.wol_model.specs.Extents.{with_extents}
use Rattle.wol_model.specs.Log.{IsLog}
use Rattle.wol_model.specs.Recovered.{extents_of, recovered}
use Rattle.wol_promise.specs.Manager.{Held, Recovers, extents_held}

module _ {P : Type 0} (of_held : Held P → List Block → Type 0) (owner : ℕ) where
  abbrev pub Choice : List (Held P) → List (List Block) → Type 0
  Choice held images = AllZip of_held held images

  abbrev pub AreLogs : List (Held P) → Type 0
  AreLogs held = AllByRecursion (λ s. (bs : List Block) → of_held s bs → IsLog bs owner s.records) held

  -- whichever images are chosen, their records are the same
  pub chosen_extents : (held : List (Held P)) (images : List (List Block)) → AreLogs held → Choice held images → extents_of owner images ≡ extents_held held
  chosen_extents [] [] logs choice = refl
  chosen_extents [] (bs ∷ images) logs choice = absurd choice
  chosen_extents (s ∷ held) [] logs choice = absurd choice
  chosen_extents (s ∷ held) (bs ∷ images) logs choice = λ i. kept owner bs s.records (logs.0 bs choice.0) i ++ chosen_extents held images logs.1 choice.1 i

  -- so what the records stand for with each image of home is recovered from each choice
  pub recovers_from : (of_home : List Block → Type 0) (held : List (Held P)) (x : List Block) → AreLogs held → ((home : List Block) → of_home home → with_extents home (extents_held held) ≡ x)
      → Recovers of_home of_held owner held (λ y. y ≡ x)
  unfolding recovered with_extents
  recovers_from of_home held x logs stands home segments is choice = ap (with_extents home) (chosen_extents held segments logs choice) ∙ stands home is
