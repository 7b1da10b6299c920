-- Whatever images the held segments have: all of them logs of their records, or all but one.
use Rattle.std.proofs.Common.{◌≡◌, ◌≤◌, ◌+◌, ℕ, Bool, not, List, [], ◌∷◌, ◌++◌, map, length, refl, sym, ap, subst, ◌∙◌, append_assoc}
use Rattle.std.specs.List.{AllByRecursion}
use Rattle.std.proofs.lemmas.List.{map-append}
use Rattle.wol_disk.specs.Disk.{Block}
use Rattle.wol_model.proofs.Counts.{both}
use Rattle.wol_model.proofs.Images.{kept, idle_none}
use Rattle.wol_model.proofs.Steps.{distinct_less, distinct_swap}
use Rattle.wol_model.specs.Extents.{Extent, IsValid, GivesUp, AreDistinct, covers_of}
use Rattle.wol_model.specs.Log.{Record, IsIdle, IsLog, extent_of}
use Rattle.wol_model.specs.Recovered.{extents_in}
use Rattle.wol_promise.proofs.Choices.{Choice, AreLogs, chosen_extents}
use Rattle.wol_promise.proofs.Lists.{all_joined, all_swap}
use Rattle.wol_promise.proofs.Stops.{Split, split_choice, choice_around}
use Rattle.wol_promise.specs.Manager.{Held, extents_held}
use Rattle.wol_promise.specs.Stands.{LiesInHome, LieInHome, IsSoundOf, idle, log, StaySound}

-- ---- One segment between others

-- fewer records have no twins either
pub apart_without : (front : List Extent) (rs : List Record) (back : List Extent) → AreDistinct (covers_of (front ++ (map extent_of rs ++ back))) → AreDistinct (covers_of (front ++ back))
apart_without front [] back distinct = distinct
apart_without front (r ∷ rs) back distinct = apart_without front rs back (distinct_less front (map extent_of rs ++ back) (extent_of r) distinct)

module _ {P : Type 0} (owner home_blocks : ℕ) (front back : List (Held P)) where
  -- an image of it is sound, and has no twin there
  pub record IsSoundBetween (bs : List Block) : Type 0 where
    pub own : IsSoundOf owner home_blocks bs
    pub distinct : AreDistinct (covers_of (extents_held front ++ (extents_in owner bs ++ extents_held back)))

  -- these records have no twin there
  abbrev pub AreApartBetween : List Record → Type 0
  AreApartBetween rs = AreDistinct (covers_of (extents_held front ++ (map extent_of rs ++ extents_held back)))

  pub sound_log : (bs : List Block) (rs : List Record) → IsLog bs owner rs → AllByRecursion (LiesInHome home_blocks) rs → AreApartBetween rs → IsSoundBetween bs
  sound_log bs rs is within apart = record { own = log rs is within; distinct = subst (λ (l : List Extent). AreDistinct (covers_of (extents_held front ++ (l ++ extents_held back)))) (sym (kept owner bs rs is)) apart }

  pub sound_idle : (bs : List Block) (rs : List Record) → IsIdle bs → AreApartBetween rs → IsSoundBetween bs
  sound_idle bs rs is apart = record {
    own = idle is;
    distinct = subst (λ (l : List Extent). AreDistinct (covers_of (extents_held front ++ (l ++ extents_held back)))) (sym (idle_none owner bs is)) (apart_without (extents_held front) rs (extents_held back) apart);
  }

  -- one record gave up blocks
  pub sound_trimmed : (bs : List Block) (fs : List Record) (r k : Record) (gs : List Record) (given : ℕ → Bool) → GivesUp given (extent_of r) (extent_of k)
      → IsLog bs owner (fs ++ k ∷ gs) → AllByRecursion (LiesInHome home_blocks) (fs ++ r ∷ gs) → AreApartBetween (fs ++ r ∷ gs) → IsSoundBetween bs
  sound_trimmed bs fs r k gs given gives is within apart = sound_log bs (fs ++ k ∷ gs) is (all_swap (LiesInHome home_blocks) (LiesInHome home_blocks) (λ q lies. lies) fs r k gs lies_still within)
      (subst (λ (l : List Extent). AreDistinct (covers_of l)) (sym (joined k))
      (distinct_swap (extents_held front ++ map extent_of fs) (map extent_of gs ++ extents_held back) (extent_of r) (extent_of k) gives.version valid_before
      (subst (λ (l : List Extent). AreDistinct (covers_of l)) (joined r) apart)))
    where
      joined : (q : Record) → extents_held front ++ (map extent_of (fs ++ q ∷ gs) ++ extents_held back) ≡ (extents_held front ++ map extent_of fs) ++ extent_of q ∷ (map extent_of gs ++ extents_held back)
      joined q = ap (λ (l : List Extent). extents_held front ++ (l ++ extents_held back)) (map-append extent_of fs (q ∷ gs))
          ∙ ap (λ (l : List Extent). extents_held front ++ l) (append_assoc (map extent_of fs) (extent_of q ∷ map extent_of gs) (extents_held back))
          ∙ sym (append_assoc (extents_held front) (map extent_of fs) (extent_of q ∷ (map extent_of gs ++ extents_held back)))

      lies_still : LiesInHome home_blocks r → LiesInHome home_blocks k
      lies_still lies = subst (λ (n : ℕ). n + length k.blocks ≤ home_blocks) (sym gives.first) (subst (λ (l : List Block). r.head.first + length l ≤ home_blocks) (sym gives.blocks) lies)

      valid_before : IsValid (extent_of k).cover → IsValid (extent_of r).cover
      valid_before valid = (valid.0, (both ((extent_of r).cover.covers valid.0) (not (given valid.0)) (sym (gives.keeps valid.0) ∙ valid.1)).0)

-- ---- All segments

module _ {P : Type 0} (of_held : Held P → List Block → Type 0) (owner home_blocks : ℕ) where
  each_sound : (held : List (Held P)) (images : List (List Block)) → AreLogs of_held owner held → AllByRecursion (LieInHome home_blocks) held → Choice of_held owner held images → AllByRecursion (IsSoundOf owner home_blocks) images
  each_sound [] [] logs within choice = tt
  each_sound [] (bs ∷ images) logs within choice = absurd choice
  each_sound (s ∷ held) [] logs within choice = absurd choice
  each_sound (s ∷ held) (bs ∷ images) logs within choice = (log s.records (logs.0 bs choice.0) within.0, each_sound held images logs.1 within.1 choice.1)

  -- all are logs of their records
  pub logs_sound : (held : List (Held P)) → AreLogs of_held owner held → AllByRecursion (LieInHome home_blocks) held → AreDistinct (covers_of (extents_held held)) → StaySound of_held owner home_blocks held
  logs_sound held logs within distinct images choice = record {
    each = each_sound held images logs within choice;
    distinct = subst (λ (l : List Extent). AreDistinct (covers_of l)) (sym (chosen_extents of_held owner held images logs choice)) distinct;
  }

  -- all but one
  pub one_sound : (front back : List (Held P)) (s : Held P) → AreLogs of_held owner front → AreLogs of_held owner back → AllByRecursion (LieInHome home_blocks) front → AllByRecursion (LieInHome home_blocks) back
      → ((bs : List Block) → of_held s bs → IsSoundBetween owner home_blocks front back bs) → StaySound of_held owner home_blocks (front ++ s ∷ back)
  one_sound front back s front_logs back_logs front_within back_within images segments choice = record {
    each = subst (AllByRecursion (IsSoundOf owner home_blocks)) (sym split.joined) (all_joined (IsSoundOf owner home_blocks) split.before (split.here ∷ split.later)
        (each_sound front split.before front_logs front_within split.of_front) (here.own, each_sound back split.later back_logs back_within split.of_back));
    distinct = subst (λ (l : List Extent). AreDistinct (covers_of l)) (sym (choice_around of_held owner front back s front_logs back_logs segments split (extents_in owner split.here) refl)) here.distinct;
  }
    where
      split : Split of_held front s back segments
      split = split_choice of_held front s back segments choice

      here : IsSoundBetween owner home_blocks front back split.here
      here = images split.here split.of_here
