-- Nothing is in flight, and one segment is changed: each choice of images recovers to the array.
use Rattle.std.proofs.Common.{◌≡◌, ◌⊎◌, ⊎_elim, ℕ, Bool, List, [], ◌∷◌, ◌++◌, map, refl, sym, ap, ◌∙◌, arith, append_assoc}
use Rattle.std.specs.List.{AllByRecursion}
use Rattle.std.proofs.lemmas.List.{append-nil}
use Rattle.wol_disk.specs.Disk.{Block}
use Rattle.wol_model.specs.Blocks.{Write, after}
use Rattle.wol_model.specs.Extents.{Extent, CoversNothing, with_extents}
use Rattle.wol_model.specs.History.{IsCut, whole}
use Rattle.wol_model.specs.Holding.{Holds}
use Rattle.wol_model.specs.Log.{Record, IsLog, IsIdle, extent_of}
use Rattle.wol_model.specs.Recovered.{extents_of, recovered}
use Rattle.wol_model.proofs.Images.{kept, idle_none}
use Rattle.wol_model.proofs.Writing.{emptied_lem}
use Rattle.wol_promise.specs.Manager.{Held, extents_held, Recovers}
use Rattle.wol_promise.proofs.Choices.{Choice}
use Rattle.wol_promise.proofs.Retires.{AreEmpty}

-- an image is a log of the segment's records, or idle where none of them keeps a block
abbrev pub IsQuiet : {P : Type 0} → (of_held : Held P → List Block → Type 0) → (owner : ℕ) → Held P → Type 0
IsQuiet of_held owner s = (bs : List Block) → of_held s bs → IsLog bs owner s.records ⊎ (AreEmpty s.records × IsIdle bs)

empty_extents : (rs : List Record) → AreEmpty rs → AllByRecursion CoversNothing (map extent_of rs)
empty_extents [] all = tt
empty_extents (r ∷ rs) all = (all.0, empty_extents rs all.1)

module _ {P : Type 0} (of_home : List Block → Type 0) (of_held : Held P → List Block → Type 0) (owner : ℕ) where
  same_array_then : (home : List Block) (front : List Extent) (held : List (Held P)) (images : List (List Block)) → AllByRecursion (IsQuiet of_held owner) held → Choice of_held owner held images
      → with_extents home (front ++ extents_of owner images) ≡ with_extents home (front ++ extents_held held)
  same_array_then home front [] [] quiet choice = refl
  same_array_then home front [] (bs ∷ images) quiet choice = absurd choice
  same_array_then home front (s ∷ held) [] quiet choice = absurd choice
  same_array_then home front (s ∷ held) (bs ∷ images) quiet choice = ⊎_elim
      (λ log.
      ap (λ (l : List Extent). with_extents home (front ++ (l ++ extents_of owner images))) (kept owner bs s.records log)
      ∙ ap (with_extents home) (sym (append_assoc front (map extent_of s.records) (extents_of owner images)))
      ∙ same_array_then home (front ++ map extent_of s.records) held images quiet.1 choice.1
      ∙ ap (with_extents home) (append_assoc front (map extent_of s.records) (extents_held held)))
      (λ idle.
      ap (λ (l : List Extent). with_extents home (front ++ (l ++ extents_of owner images))) (idle_none owner bs idle.1)
      ∙ same_array_then home front held images quiet.1 choice.1
      ∙ sym (emptied_lem home front (map extent_of s.records) (extents_held held) (empty_extents s.records idle.0)))
      (quiet.0 bs choice.0)

  -- nothing is written that counts
  pub quiet_stops : (a : List Block) (ws flight : List Write) (next : ℕ) (homed : ℕ → Bool) (held : List (Held P)) → AllByRecursion (IsQuiet of_held owner) held
      → ((home : List Block) → of_home home → Holds a ws next home (extents_held held) homed) → Recovers of_home of_held owner held (IsCut a ws flight)
  unfolding recovered
  quiet_stops a ws flight next homed held quiet holds home segments is choice =
      whole 0 (omega arith) (same_array_then home [] held segments quiet choice ∙ (holds home is).stands ∙ ap (after a) (sym (append-nil ws)))
