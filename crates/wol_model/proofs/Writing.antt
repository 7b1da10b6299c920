-- Records and writes home, as writes of the array.
use Rattle.std.proofs.Common.{◌≡◌, inl, inr, ⊎_elim, ◌<◌, ℕ, Bool, true, false, cond, List, [], ◌∷◌, ◌++◌, Option, None, Some, refl, sym, ap, ◌∙◌}
use Rattle.std.specs.Prelude.{slice_get, unwrap_or, is_some}
use Rattle.std.specs.List.{AllByRecursion}
use Rattle.std.specs.Option.{option_or, option_map, option_and_then}
use mathlib.Core.Path.{fun_ext}
use Rattle.wol_disk.specs.Disk.{Block}
use Rattle.wol_model.proofs.Newest.{newest_of, newest-append, all_below, above_all, none_of_nothing}
use Rattle.wol_model.proofs.Mixed.{IsMixed, mixed_of, blend_of}
use Rattle.wol_model.proofs.Overlay.{after_length, overlay_twice, overlay_get, same_array}
use Rattle.wol_model.specs.Blocks.{Write, block_of, last_written, overlaid, after}
use Rattle.wol_model.specs.Extents.{IsUncovered, Cover, Extent, newer_of, newest, newest_block, with_extents, KeepsAll, write_of}
use Rattle.wol_model.specs.RecoveryLaws.{Logging, Emptied, WritingHome, CutShort, PuttingHome}

abbrev pub hd : Extent → Cover
hd r = r.cover

abbrev pub of : ℕ → Extent → Option Block
of b r = block_of r.first r.blocks b

-- the newest record's block with one record among the others
pub parts : (front back : List Extent) (r : Extent) (b : ℕ) (c : Bool) → r.cover.covers b ≡ c → newest_block (front ++ r ∷ back) b ≡ option_and_then (of b) (newest_of hd (newest hd front b) (cond c (newer_of hd r (newest hd back b)) (newest hd back b)))
unfolding newest_block
parts front back r b c is = ap (option_and_then (of b)) (newest-append hd front (r ∷ back) b) ∙ ap (λ (d : Bool). option_and_then (of b) (newest_of hd (newest hd front b) (cond d (newer_of hd r (newest hd back b)) (newest hd back b)))) is

logged_at : (front back : List Extent) (r : Extent) → KeepsAll r → AllByRecursion (λ s. s.cover.version < r.cover.version) front → AllByRecursion (λ s. s.cover.version < r.cover.version) back
    → (b : ℕ) (o : Option Block) → of b r ≡ o → newest_block (front ++ r ∷ back) b ≡ option_or o (newest_block (front ++ back) b)
unfolding newest_block
logged_at front back r keeps before behind b None is = parts front back r b false (keeps b ∙ ap is_some is) ∙ ap (option_and_then (of b)) (sym (newest-append hd front back b))
logged_at front back r keeps before behind b (Some x) is =
    parts front back r b true (keeps b ∙ ap is_some is)
    ∙ ap (option_and_then (of b)) (above_all hd r (newest hd front b) (newest hd back b) (all_below hd front r.cover.version b before) (all_below hd back r.cover.version b behind)) ∙ is

pub logging_lem : Logging
unfolding with_extents after
logging_lem home front back r keeps before behind =
    ap (overlaid home) (fun_ext (λ b. logged_at front back r keeps before behind b (of b r) refl))
    ∙ sym (overlay_twice home (newest_block (front ++ back)) (last_written (write_of r ∷ [])))

pub emptied_lem : Emptied
unfolding newest_block with_extents
emptied_lem home front empty back nothing = ap (overlaid home) (fun_ext at)
  where
    at : (b : ℕ) → newest_block (front ++ (empty ++ back)) b ≡ newest_block (front ++ back) b
    at b = ap (option_and_then (of b)) (newest-append hd front (empty ++ back) b
        ∙ ap (newest_of hd (newest hd front b)) (newest-append hd empty back b ∙ ap (λ (o : Option Extent). newest_of hd o (newest hd back b)) (none_of_nothing hd empty b nothing))
        ∙ sym (newest-append hd front back b))

pub writing_home_lem : WritingHome
unfolding with_extents after
writing_home_lem home rs w uncovered =
    overlay_twice home (last_written (w ∷ [])) (newest_block rs)
    ∙ ap (overlaid home) (fun_ext (λ b. at b (block_of w.first w.blocks b) (newest_block rs b) refl (uncovered b)))
    ∙ sym (overlay_twice home (newest_block rs) (last_written (w ∷ [])))
  where
    at : (b : ℕ) (o n : Option Block) → block_of w.first w.blocks b ≡ o → (is_some o ≡ true → n ≡ None) → option_or n o ≡ option_or o n
    at b None None is un = refl
    at b None (Some y) is un = refl
    at b (Some x) n is un = ap (λ (m : Option Block). option_or m (Some x)) (un refl)

mixed_short : (home x : List Block) (rs : List Extent) (w : Write) → IsUncovered rs w → IsMixed home (after home (w ∷ [])) x
    → IsMixed (with_extents home rs) (after (with_extents home rs) (w ∷ [])) (with_extents x rs)
unfolding with_extents
mixed_short home x rs w uncovered mixed b = ⊎_elim
    (λ old. inl (overlay_get x (newest_block rs) b ∙ ap (option_map (λ z. unwrap_or (newest_block rs b) z)) old ∙ sym (overlay_get home (newest_block rs) b)))
    (λ new. inr (overlay_get x (newest_block rs) b ∙ ap (option_map (λ z. unwrap_or (newest_block rs b) z)) new ∙ sym (overlay_get (after home (w ∷ [])) (newest_block rs) b) ∙ ap (λ (a : List Block). slice_get a b) (writing_home_lem home rs w uncovered)))
    (mixed b)

pub cut_short_lem : CutShort
cut_short_lem home x rs w uncovered blend =
    blend_of (with_extents home rs) (after (with_extents home rs) (w ∷ [])) (with_extents x rs) (after_length (with_extents home rs) (w ∷ []))
    (mixed_short home x rs w uncovered (mixed_of home (after home (w ∷ [])) x blend))

pub putting_home_lem : PuttingHome
unfolding with_extents after
putting_home_lem home x rs w covered blend = same_array (with_extents x rs) (with_extents home rs) at
  where
    chosen : (o n z : Option Block) → (is_some o ≡ true → is_some n ≡ true) → option_map (λ y. unwrap_or n y) (option_map (λ y. unwrap_or o y) z) ≡ option_map (λ y. unwrap_or n y) z
    chosen o n None cov = refl
    chosen None n (Some y) cov = refl
    chosen (Some x) (Some v) (Some y) cov = refl
    chosen (Some x) None (Some y) cov = absurd (let e : false ≡ true = cov refl in cc)

    at : (b : ℕ) → slice_get (with_extents x rs) b ≡ slice_get (with_extents home rs) b
    at b = overlay_get x (newest_block rs) b ∙ ⊎_elim
        (λ old. ap (option_map (λ z. unwrap_or (newest_block rs b) z)) old)
        (λ new. ap (option_map (λ z. unwrap_or (newest_block rs b) z)) (new ∙ overlay_get home (last_written (w ∷ [])) b) ∙ chosen (block_of w.first w.blocks b) (newest_block rs b) (slice_get home b) (covered b))
        (mixed_of home (after home (w ∷ [])) x blend b) ∙ sym (overlay_get home (newest_block rs) b)
