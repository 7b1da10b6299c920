-- What the images of all parts recover to while a volume is opened, and that sound images stay sound.
use Rattle.std.proofs.Common.{◌≡◌, ⊎_elim, ◌⊎◌, ◌+◌, ◌≤◌, ◌-◌, ℕ, zero, suc, Bool, true, false, ◌&&◌, cond, leb, get_or, List, [], ◌∷◌, ◌++◌, map, Option, Some, refl, sym, subst, ◌∙◌}
use Rattle.std.specs.Prelude.{slice_get, IsTrue}
use Rattle.std.specs.List.{AllByRecursion, AllZip, range_with_len}
use Rattle.std.specs.Option.{option_and_then}
use Rattle.wol_disk.specs.Disk.{Block, State, IsImageOf, TellsContent}
use Rattle.wol_model.specs.Blocks.{block_of, overlaid}
use Rattle.wol_model.specs.Extents.{Extent, CoversNothing, newest, newer_of, newest_block, with_extents, marked}
use Rattle.wol_model.specs.Images.{IsSoundSegment, idle, log}
use Rattle.wol_model.specs.Heads.{Shape}
use Rattle.wol_model.specs.Log.{Record, IsLog, IsIdle, extent_of, has_bit, marks_of}
use Rattle.wol_model.specs.Recovered.{recovered, extents_in, extents_of}
use Rattle.wol_model.proofs.Images.{kept, idle_none}
use Rattle.wol_model.proofs.Spellings.{one_log, not_both}
use Rattle.block_cells.proofs.Bits.{has_bit-zero}
use Rattle.spin_model.specs.Spun.{state_of}
use Rattle.spin_model.specs.declared.spun.Spun.{Spun}
use Rattle.manager_recovery.specs.Left.{IsAsBefore, HasNothing, IsLeftOf, Fate, AreFates, IsFateOf, AreSince, RecoversAsBefore, StaysSound, LeavesParts}
use Rattle.manager_recovery.specs.declared.opening.OwnedPart.{OwnedPart}

-- ---- Records that keep nothing

none_at : (places : List ℕ) (i : ℕ) → get_or (map (has_bit 0) places) i false ≡ false
none_at [] i = refl
none_at (p ∷ places) zero = has_bit-zero p
none_at (p ∷ places) (suc i) = none_at places i

pub bare_covers : (r : Record) → r.head.mask ≡ 0 → CoversNothing (extent_of r)
bare_covers r bare b = (λ i. marked r.head.first (marks_of r.head.count (bare i)) b) ∙ at (leb r.head.first b)
  where
    at : (t : Bool) → (t && get_or (marks_of r.head.count 0) (b - r.head.first) false) ≡ false
    at true = none_at (range_with_len 0 r.head.count) (b - r.head.first)
    at false = refl

pub all_bare : (rs : List Record) → AllByRecursion (λ r. r.head.mask ≡ 0) rs → AllByRecursion CoversNothing (map extent_of rs)
all_bare [] all = tt
all_bare (r ∷ rs) all = (bare_covers r all.0, all_bare rs all.1)

-- ---- The newest of each block

abbrev pub newest_of : List Extent → ℕ → Option Extent
newest_of es b = newest (λ (r : Extent). r.cover) es b

pub nothing_front : (es ys : List Extent) (b : ℕ) → AllByRecursion CoversNothing es → newest_of (es ++ ys) b ≡ newest_of ys b
nothing_front [] ys b all = refl
nothing_front (e ∷ es) ys b all =
    (λ i. cond (all.0 b i) (newer_of (λ (r : Extent). r.cover) e (newest_of (es ++ ys) b)) (newest_of (es ++ ys) b)) ∙ nothing_front es ys b all.1

pub same_front : (es ys zs : List Extent) (b : ℕ) → newest_of ys b ≡ newest_of zs b → newest_of (es ++ ys) b ≡ newest_of (es ++ zs) b
same_front [] ys zs b same = same
same_front (e ∷ es) ys zs b same = λ i. cond (e.cover.covers b) (newer_of (λ (r : Extent). r.cover) e (same_front es ys zs b same i)) (same_front es ys zs b same i)

pub same_recovered : (owner : ℕ) (home : List Block) (ss ts : List (List Block)) → ((b : ℕ) → newest_of (extents_of owner ss) b ≡ newest_of (extents_of owner ts) b) → recovered owner home ss ≡ recovered owner home ts
unfolding recovered with_extents newest_block
same_recovered owner home ss ts same = λ i. overlaid home (λ b. option_and_then (λ (r : Extent). block_of r.first r.blocks b) (same b i))

-- ---- Images

module _ {D : Type 0} (state : D → State) (id : ℕ) where
  abbrev Earlier : List (OwnedPart D) → List (List Block) → Type 0
  Earlier os cs = (earlier : List (List Block)) × AllZip (λ (o : OwnedPart D) bs. IsImageOf (state_of state o.part).values bs) os earlier
      × ((b : ℕ) → newest_of (extents_of id cs) b ≡ newest_of (extents_of id earlier) b)

  one_back : (o : OwnedPart D) (os : List (OwnedPart D)) (c : List Block) (cs : List (List Block)) → IsLeftOf id (state_of state o.part).values c → Earlier os cs → Earlier (o ∷ os) (c ∷ cs)
  one_back o os c cs left rest = ⊎_elim same gone left
    where
      same : IsImageOf (state_of state o.part).values c → Earlier (o ∷ os) (c ∷ cs)
      same image = (c ∷ rest.0, (image, rest.1), λ b. same_front (extents_in id c) (extents_of id cs) (extents_of id rest.0) b (rest.2 b))

      gone : ((bs : List Block) × (rs : List Record) × IsImageOf (state_of state o.part).values bs × HasNothing id rs bs × (IsLog c id rs ⊎ IsIdle c)) → Earlier (o ∷ os) (c ∷ cs)
      gone w =
          let bare : AllByRecursion CoversNothing (map extent_of w.1) = all_bare w.1 w.3.nothing in
          let before : AllByRecursion CoversNothing (extents_in id w.0) = subst (AllByRecursion CoversNothing) (sym (kept id w.0 w.1 w.3.log)) bare in
          let now : AllByRecursion CoversNothing (extents_in id c) = ⊎_elim (λ l. subst (AllByRecursion CoversNothing) (sym (kept id c w.1 l)) bare) (λ free. subst (AllByRecursion CoversNothing) (sym (idle_none id c free)) tt) w.4 in (
            w.0 ∷ rest.0,
            (w.2, rest.1),
            λ b.
                nothing_front (extents_in id c) (extents_of id cs) b now ∙ rest.2 b ∙ sym (nothing_front (extents_in id w.0) (extents_of id rest.0) b before),
          )

  images_back : (told : (o : OwnedPart D) → TellsContent (state_of state o.part)) (os : List (OwnedPart D)) (fates : List (Fate D)) (cs : List (List Block)) → AreFates state id os fates → AreSince state os fates cs → Earlier os cs
  images_back told [] [] [] each since = ([], tt, λ b. refl)
  images_back told [] [] (c ∷ cs) each since = absurd since
  images_back told [] (f ∷ fates) cs each since = absurd each
  images_back told (o ∷ os) [] cs each since = absurd each
  images_back told (o ∷ os) (f ∷ fates) [] each since = absurd since
  images_back told (o ∷ os) (f ∷ fates) (c ∷ cs) each since =
      let t = told o in
      one_back o os c cs ((each.0.any_moment t.0 t.1).each c since.0) (images_back told os fates cs each.1 since.1)

  recovers : (told : (o : OwnedPart D) → TellsContent (state_of state o.part)) (old_home new_home : Spun D) (os : List (OwnedPart D)) (fates : List (Fate D)) → IsAsBefore state old_home new_home → AreFates state id os fates → RecoversAsBefore state id old_home new_home os fates
  recovers told old_home new_home os fates home each image segments is since =
      let w = images_back told os fates segments each since in
      (image, w.0, home.any_moment.each image is, w.1, same_recovered id image segments w.0 w.2)

  -- ---- Sound segments

  sound_now : (shapes : List Shape) (views : List (List ℕ)) (logger : ℕ) (rs : List Record) (bs c : List Block) → IsLog bs id rs → IsLog c id rs → IsSoundSegment shapes views logger bs → IsSoundSegment shapes views logger c
  sound_now shapes views logger rs bs c was is (idle free) = absurd (not_both bs id rs free was)
  sound_now shapes views logger rs bs c was is (log owner s ids qs shape view names its within) =
      let same = one_log bs owner id qs rs its was in
      log id s ids rs (subst (λ (v : ℕ). slice_get shapes v ≡ Some s) same.0 shape) (subst (λ (v : ℕ). slice_get views v ≡ Some ids) same.0 view) names is
      (subst (AllByRecursion (λ (r : Record). r.head.first + r.head.count ≤ s.home)) same.1 within)

  stays_sound : (told : (o : OwnedPart D) → TellsContent (state_of state o.part)) (o : OwnedPart D) (f : Fate D) → IsFateOf state id o f → StaysSound state o f
  stays_sound told o f fate shapes views logger were c since =
      let t = told o in
      ⊎_elim (λ image. were c image)
      (λ (w : (bs : List Block) × (rs : List Record) × IsImageOf (state_of state o.part).values bs × HasNothing id rs bs × (IsLog c id rs ⊎ IsIdle c)).
      ⊎_elim (λ l. sound_now shapes views logger w.1 w.0 c w.3.log l (were w.0 w.2)) (λ free. idle free) w.4)
      ((fate.any_moment t.0 t.1).each c since)

  all_sound : (told : (o : OwnedPart D) → TellsContent (state_of state o.part)) (os : List (OwnedPart D)) (fates : List (Fate D)) → AreFates state id os fates → AllZip (StaysSound state) os fates
  all_sound told [] [] each = tt
  all_sound told [] (f ∷ fates) each = absurd each
  all_sound told (o ∷ os) [] each = absurd each
  all_sound told (o ∷ os) (f ∷ fates) each = (stays_sound told o f each.0, all_sound told os fates each.1)

  pub leaves_parts : (tells : Bool) → (IsTrue tells → (o : OwnedPart D) → TellsContent (state_of state o.part)) → (old_home new_home : Spun D) (os : List (OwnedPart D)) (fates : List (Fate D)) → IsAsBefore state old_home new_home
      → AreFates state id os fates → LeavesParts tells state id old_home new_home os fates
  leaves_parts tells told old_home new_home os fates home each = record {
    home = home;
    each = each;
    any_moment = λ t. recovers (told t) old_home new_home os fates home each;
    sound = λ t. all_sound (told t) os fates each;
  }
