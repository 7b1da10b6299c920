-- What a stop leaves within each action of a manager, whatever its parts' images are.
use Rattle.std.proofs.Common.{◌≡◌, ◌⊎◌, ⊎_elim, ◌<◌, ℕ, Bool, true, List, [], ◌∷◌, ◌++◌, None, refl, sym, ap, subst, ◌∙◌, arith, append_assoc}
use Rattle.std.specs.List.{AllByRecursion, AllZip}
use Rattle.std.proofs.lemmas.List.{append-nil}
use Rattle.std.proofs.lemmas.Grind.{flat_map-append}
use Rattle.wol_disk.specs.Disk.{Block, IsBlend}
use Rattle.wol_model.proofs.Overlay.{after_more}
use Rattle.wol_model.proofs.Steps.{all_front, all_back, all_map, home_in_flight, putting_in_flight, giving_up_step}
use Rattle.wol_model.proofs.Writing.{logging_lem}
use Rattle.wol_model.specs.Blocks.{Write, after}
use Rattle.wol_model.specs.Extents.{Extent, with_extents, may_go, covers_of, KeepsAll, write_of, GivesUp, IsUncovered}
use Rattle.wol_model.specs.History.{IsCut, whole}
use Rattle.wol_model.specs.Holding.{Holds, IsData}
use Rattle.wol_model.specs.Recovered.{extents_in, extents_of, recovered}
use Rattle.wol_promise.proofs.Choices.{Choice, AreLogs, chosen_extents}
use Rattle.wol_promise.specs.Manager.{Held, Recovers, extents_held}

as_before : (a : List Block) (ws flight : List Write) (x : List Block) → x ≡ after a ws → IsCut a ws flight x
as_before a ws flight x is = whole 0 (omega arith) (is ∙ ap (after a) (sym (append-nil ws)))

-- a choice for joined lists, in parts
pub record Split {P : Type 0} (of_held : Held P → List Block → Type 0) (front : List (Held P)) (s : Held P) (back : List (Held P)) (images : List (List Block)) : Type 0 where
  pub before : List (List Block)
  pub here : List Block
  pub later : List (List Block)
  pub joined : images ≡ before ++ here ∷ later
  pub of_front : AllZip of_held front before
  pub of_here : of_held s here
  pub of_back : AllZip of_held back later

pub split_choice : {P : Type 0} (of_held : Held P → List Block → Type 0) (front : List (Held P)) (s : Held P) (back : List (Held P)) (images : List (List Block)) → AllZip of_held (front ++ s ∷ back) images → Split of_held front s back images
split_choice of_held [] s back [] choice = absurd choice
split_choice of_held [] s back (bs ∷ images) choice = record { before = []; here = bs; later = images; joined = refl; of_front = tt; of_here = choice.0; of_back = choice.1 }
split_choice of_held (t ∷ front) s back [] choice = absurd choice
split_choice of_held (t ∷ front) s back (bs ∷ images) choice =
    let rest = split_choice of_held front s back images choice.1 in
    record { before = bs ∷ rest.before; here = rest.here; later = rest.later; joined = λ i. bs ∷ rest.joined i; of_front = (choice.0, rest.of_front); of_here = rest.of_here; of_back = rest.of_back }

-- the records of a choice, where one segment's image has these
pub choice_around : {P : Type 0} (of_held : Held P → List Block → Type 0) (owner : ℕ) (front back : List (Held P)) (s : Held P) → AreLogs of_held owner front → AreLogs of_held owner back
    → (segments : List (List Block)) (split : Split of_held front s back segments) (ss : List Extent) → extents_in owner split.here ≡ ss → extents_of owner segments ≡ extents_held front ++ (ss ++ extents_held back)
choice_around of_held owner front back s front_logs back_logs segments split ss same = ap (extents_of owner) split.joined ∙ flat_map-append (extents_in owner) split.before (split.here ∷ split.later)
    ∙ (λ i. chosen_extents of_held owner front split.before front_logs split.of_front i ++ (same i ++ chosen_extents of_held owner back split.later back_logs split.of_back i))

module _ {P : Type 0} (of_home : List Block → Type 0) (of_held : Held P → List Block → Type 0) (owner : ℕ) (a : List Block) (ws : List Write) (next : ℕ) (homed : ℕ → Bool) where
  -- nothing is written
  pub still_stops : (held : List (Held P)) (flight : List Write) → AreLogs of_held owner held
      → ((home : List Block) → of_home home → Holds a ws next home (extents_held held) homed) → Recovers of_home of_held owner held (IsCut a ws flight)
  unfolding recovered with_extents
  still_stops held flight logs holds home segments is choice = as_before a ws flight (recovered owner home segments) (ap (with_extents home) (chosen_extents of_held owner held segments logs choice) ∙ (holds home is).stands)

  -- home is written, where no record covers the blocks
  pub home_stops : (held : List (Held P)) (w : Write) → AreLogs of_held owner held → IsUncovered (extents_held held) w → w.version ≡ None
      → ((x : List Block) → of_home x → (home : List Block) × Holds a ws next home (extents_held held) homed × IsBlend home (after home (w ∷ [])) x) → Recovers of_home of_held owner held (IsCut a ws (w ∷ []))
  unfolding recovered with_extents
  home_stops held w logs uncovered to_home mixed x segments is choice =
      let from = mixed x is in
      subst (IsCut a ws (w ∷ [])) (sym (ap (with_extents x) (chosen_extents of_held owner held segments logs choice))) (home_in_flight a ws next from.0 x (extents_held held) homed w from.1 uncovered to_home from.2)

  -- blocks are put home
  pub putting_stops : (held : List (Held P)) (puts flight : List Write) → AreLogs of_held owner held → IsData (extents_held held) puts
      → ((x : List Block) → of_home x → (home : List Block) × Holds a ws next home (extents_held held) homed × IsBlend home (after home puts) x) → Recovers of_home of_held owner held (IsCut a ws flight)
  unfolding recovered with_extents
  putting_stops held puts flight logs is_data mixed x segments is choice =
      let from = mixed x is in
      as_before a ws flight (recovered owner x segments) (ap (with_extents x) (chosen_extents of_held owner held segments logs choice) ∙ putting_in_flight a ws next from.0 x (extents_held held) homed puts from.1 is_data from.2)

  module _ (front back : List (Held P)) (s : Held P) (front_logs : AreLogs of_held owner front) (back_logs : AreLogs of_held owner back) where
    in_parts : (segments : List (List Block)) → Choice of_held owner (front ++ s ∷ back) segments → Split of_held front s back segments
    in_parts segments choice = split_choice of_held front s back segments choice

    -- a record is appended to one segment
    pub log_stops : (rs : List Extent) (r : Extent) → KeepsAll r → r.cover.version ≡ next
        → ((home : List Block) → of_home home → Holds a ws next home (extents_held front ++ (rs ++ extents_held back)) homed)
        → ((bs : List Block) → of_held s bs → (extents_in owner bs ≡ rs) ⊎ (extents_in owner bs ≡ rs ++ r ∷ [])) → Recovers of_home of_held owner (front ++ s ∷ back) (IsCut a ws (write_of r ∷ []))
    unfolding recovered with_extents
    log_stops rs r keeps is_next holds image home segments is choice = ⊎_elim
        (λ old. as_before a ws (write_of r ∷ []) (recovered owner home segments) (ap (with_extents home) (choice_around of_held owner front back s front_logs back_logs segments (in_parts segments choice) rs old) ∙ (holds home is).stands))
        (λ new. whole 1 (omega arith) (ap (with_extents home) (choice_around of_held owner front back s front_logs back_logs segments (in_parts segments choice) (rs ++ r ∷ []) new ∙ joined)
        ∙ logging_lem home (extents_held front ++ rs) (extents_held back) r keeps (all_front (λ t. t.cover.version < r.cover.version) (extents_held front ++ rs) (extents_held back) (low home is)) (all_back (λ t. t.cover.version < r.cover.version) (extents_held front ++ rs) (extents_held back) (low home is))
        ∙ ap (λ (l : List Extent). after (with_extents home l) (write_of r ∷ [])) (append_assoc (extents_held front) rs (extents_held back))
        ∙ ap (λ (l : List Block). after l (write_of r ∷ [])) (holds home is).stands ∙ sym (after_more a ws (write_of r ∷ []))))
        (image (in_parts segments choice).here (in_parts segments choice).of_here)
      where
        joined : extents_held front ++ ((rs ++ r ∷ []) ++ extents_held back) ≡ (extents_held front ++ rs) ++ r ∷ extents_held back
        joined = ap (λ (l : List Extent). extents_held front ++ l) (append_assoc rs (r ∷ []) (extents_held back)) ∙ sym (append_assoc (extents_held front) rs (r ∷ extents_held back))

        low : (home : List Block) → of_home home → AllByRecursion (λ t. t.cover.version < r.cover.version) ((extents_held front ++ rs) ++ extents_held back)
        low home is = subst (AllByRecursion (λ t. t.cover.version < r.cover.version)) (sym (append_assoc (extents_held front) rs (extents_held back))) (all_map (λ t. t.cover.version < next) (λ t. t.cover.version < r.cover.version) (λ t lt. omega (arith, is_next)) (extents_held front ++ (rs ++ extents_held back)) (holds home is).below)

    -- blocks of a record that may go are given up, or its segment is retired after that
    pub giving_up_stops : (fs gs : List Extent) (r k : Extent) (given : ℕ → Bool) (flight : List Write) → GivesUp given r k
        → ((b : ℕ) → given b ≡ true → may_go (covers_of ((extents_held front ++ fs) ++ r ∷ (gs ++ extents_held back))) homed r.cover b ≡ true)
        → ((home : List Block) → of_home home → Holds a ws next home ((extents_held front ++ fs) ++ r ∷ (gs ++ extents_held back)) homed)
        → ((bs : List Block) → of_held s bs → (extents_in owner bs ≡ fs ++ r ∷ gs) ⊎ (extents_in owner bs ≡ fs ++ k ∷ gs)) → Recovers of_home of_held owner (front ++ s ∷ back) (IsCut a ws flight)
    unfolding recovered with_extents
    giving_up_stops fs gs r k given flight gives may holds image home segments is choice = as_before a ws flight (recovered owner home segments) (⊎_elim
        (λ old. ap (with_extents home) (choice_around of_held owner front back s front_logs back_logs segments (in_parts segments choice) (fs ++ r ∷ gs) old ∙ joined r) ∙ (holds home is).stands)
        (λ new. ap (with_extents home) (choice_around of_held owner front back s front_logs back_logs segments (in_parts segments choice) (fs ++ k ∷ gs) new ∙ joined k) ∙ (giving_up_step a ws next home (extents_held front ++ fs) (gs ++ extents_held back) homed given r k (holds home is) may gives).stands)
        (image (in_parts segments choice).here (in_parts segments choice).of_here))
      where
        joined : (t : Extent) → extents_held front ++ ((fs ++ t ∷ gs) ++ extents_held back) ≡ (extents_held front ++ fs) ++ t ∷ (gs ++ extents_held back)
        joined t = ap (λ (l : List Extent). extents_held front ++ l) (append_assoc fs (t ∷ gs) (extents_held back)) ∙ sym (append_assoc (extents_held front) fs (t ∷ (gs ++ extents_held back)))
