-- The steps of a volume.
use Rattle.std.proofs.Common.{◌≡◌, ◌≢◌, inr, ⊎_elim, ◌<◌, ℕ, ◌+◌, Bool, true, false, not, ◌&&◌, ◌||◌, List, [], ◌∷◌, ◌++◌, Option, None, Some, refl, sym, ap, ◌∙◌, arith, subst}
use Rattle.std.specs.Prelude.{slice_get, unwrap_or, is_some}
use Rattle.std.specs.List.{AllByRecursion}
use Rattle.std.proofs.lemmas.Option.{same_Some}
use Rattle.std.specs.Option.{option_map, option_and_then}
use Rattle.wol_disk.specs.Disk.{Block}
use Rattle.wol_model.proofs.GivingUp.{giving_up_lem, fate}
use Rattle.wol_model.proofs.Newest.{newest-append}
use Rattle.wol_disk.specs.Disk.{IsBlend}
use Rattle.wol_model.proofs.Mixed.{mixed_of, blend_of}
use Rattle.wol_model.proofs.Overlay.{after_length, overlay_get, same_array, after_more, after_none}
use Rattle.wol_model.proofs.Writing.{hd, of, parts, logging_lem, writing_home_lem, cut_short_lem, emptied_lem}
use Rattle.wol_model.specs.Blocks.{block_of, last_written, overlaid, after}
use Rattle.wol_model.specs.Extents.{Cover, Extent, newest_block, with_extents, covers_of, AreDistinct, IsValid, write_of}
use Rattle.wol_model.specs.History.{torn}
use Rattle.wol_model.specs.Holding.{OpeningStep, LoggingStep, HomeStep, HomeInFlight, PuttingStep, PuttingInFlight, GivingUpStep, EmptyStep, FewerHomed}

-- ---- lists of records

pub all_front : (P : Extent → Type 0) (xs ys : List Extent) → AllByRecursion P (xs ++ ys) → AllByRecursion P xs
all_front P [] ys all = tt
all_front P (x ∷ xs) ys all = (all.0, all_front P xs ys all.1)

pub all_back : (P : Extent → Type 0) (xs ys : List Extent) → AllByRecursion P (xs ++ ys) → AllByRecursion P ys
all_back P [] ys all = all
all_back P (x ∷ xs) ys all = all_back P xs ys all.1

pub all_joined : (P : Extent → Type 0) (xs ys : List Extent) → AllByRecursion P xs → AllByRecursion P ys → AllByRecursion P (xs ++ ys)
all_joined P [] ys a b = b
all_joined P (x ∷ xs) ys a b = (a.0, all_joined P xs ys a.1 b)

pub all_map : (P Q : Extent → Type 0) → ((r : Extent) → P r → Q r) → (xs : List Extent) → AllByRecursion P xs → AllByRecursion Q xs
all_map P Q f [] a = tt
all_map P Q f (x ∷ xs) a = (f x a.0, all_map P Q f xs a.1)

-- the covers that the others are apart from
Apart : Cover → Cover → Type 0
Apart c d = IsValid c → IsValid d → c.version ≢ d.version

covers_all : (P : Cover → Type 0) (xs : List Extent) → AllByRecursion (λ r. P r.cover) xs → AllByRecursion P (covers_of xs)
covers_all P [] a = tt
covers_all P (x ∷ xs) a = (a.0, covers_all P xs a.1)

all_covers : (P : Cover → Type 0) (xs : List Extent) → AllByRecursion P (covers_of xs) → AllByRecursion (λ r. P r.cover) xs
all_covers P [] a = tt
all_covers P (x ∷ xs) a = (a.0, all_covers P xs a.1)

-- one more, apart from each
pub distinct_more : (front back : List Extent) (r : Extent) → AreDistinct (covers_of (front ++ back)) → AllByRecursion (λ s. s.cover.version < r.cover.version) (front ++ back) → AreDistinct (covers_of (front ++ r ∷ back))
distinct_more [] back r d low = (covers_all (λ e. IsValid r.cover → IsValid e → r.cover.version ≢ e.version) back (all_map (λ s. s.cover.version < r.cover.version) (λ s. IsValid r.cover → IsValid s.cover → r.cover.version ≢ s.cover.version) (λ s lt u v. omega arith) back low), d)
distinct_more (x ∷ front) back r d low = (covers_all Q (front ++ r ∷ back) (all_joined (λ s. Q s.cover) front (r ∷ back) (all_front (λ s. Q s.cover) front back old) ((λ u v. let lt : x.cover.version < r.cover.version = low.0 in omega arith), all_back (λ s. Q s.cover) front back old)), distinct_more front back r d.1 low.1)
  where
    Q : Cover → Type 0
    Q e = IsValid x.cover → IsValid e → x.cover.version ≢ e.version

    old : AllByRecursion (λ s. IsValid x.cover → IsValid s.cover → x.cover.version ≢ s.cover.version) (front ++ back)
    old = all_covers (λ e. IsValid x.cover → IsValid e → x.cover.version ≢ e.version) (front ++ back) d.0

pub distinct_swap : (front back : List Extent) (r s : Extent) → s.cover.version ≡ r.cover.version → (IsValid s.cover → IsValid r.cover) → AreDistinct (covers_of (front ++ r ∷ back)) → AreDistinct (covers_of (front ++ s ∷ back))
distinct_swap [] back r s v f d = (
  covers_all (λ e. IsValid s.cover → IsValid e → s.cover.version ≢ e.version) back
      (all_map (λ e. IsValid r.cover → IsValid e.cover → r.cover.version ≢ e.cover.version) (λ e. IsValid s.cover → IsValid e.cover → s.cover.version ≢ e.cover.version) (λ e n a b k. n (f a) b (sym v ∙ k)) back (all_covers (λ e. IsValid r.cover → IsValid e → r.cover.version ≢ e.version) back d.0)),
  d.1,
)
distinct_swap (x ∷ front) back r s v f d = (
  covers_all (λ e. IsValid x.cover → IsValid e → x.cover.version ≢ e.version) (front ++ s ∷ back)
      (all_joined Q front (s ∷ back) (all_front Q front (r ∷ back) old) ((λ a b k. new.0 a (f b) (k ∙ v)), new.1)),
  distinct_swap front back r s v f d.1,
)
  where
    Q : Extent → Type 0
    Q e = IsValid x.cover → IsValid e.cover → x.cover.version ≢ e.cover.version

    old : AllByRecursion (λ e. IsValid x.cover → IsValid e.cover → x.cover.version ≢ e.cover.version) (front ++ r ∷ back)
    old = all_covers (λ e. IsValid x.cover → IsValid e → x.cover.version ≢ e.version) (front ++ r ∷ back) d.0

    new : AllByRecursion (λ e. IsValid x.cover → IsValid e.cover → x.cover.version ≢ e.cover.version) (r ∷ back)
    new = all_back (λ e. IsValid x.cover → IsValid e.cover → x.cover.version ≢ e.cover.version) front (r ∷ back) old

pub distinct_less : (front back : List Extent) (r : Extent) → AreDistinct (covers_of (front ++ r ∷ back)) → AreDistinct (covers_of (front ++ back))
distinct_less [] back r d = d.1
distinct_less (x ∷ front) back r d = (
  covers_all (λ e. IsValid x.cover → IsValid e → x.cover.version ≢ e.version) (front ++ back)
      (all_joined Q front back (all_front Q front (r ∷ back) old) (rest (r ∷ back) (all_back Q front (r ∷ back) old))),
  distinct_less front back r d.1,
)
  where
    Q : Extent → Type 0
    Q e = IsValid x.cover → IsValid e.cover → x.cover.version ≢ e.cover.version

    old : AllByRecursion (λ e. IsValid x.cover → IsValid e.cover → x.cover.version ≢ e.cover.version) (front ++ r ∷ back)
    old = all_covers (λ e. IsValid x.cover → IsValid e → x.cover.version ≢ e.version) (front ++ r ∷ back) d.0

    rest : (rs : List Extent) → AllByRecursion (λ e. IsValid x.cover → IsValid e.cover → x.cover.version ≢ e.cover.version) (r ∷ back) → AllByRecursion (λ e. IsValid x.cover → IsValid e.cover → x.cover.version ≢ e.cover.version) back
    rest rs all = all.1

-- ---- the newest block where one record more or less doesn't count

not_counted : (front back : List Extent) (r : Extent) (b : ℕ) → r.cover.covers b ≡ false → newest_block (front ++ r ∷ back) b ≡ newest_block (front ++ back) b
unfolding newest_block
not_counted front back r b c = parts front back r b false c ∙ ap (option_and_then (of b)) (sym (newest-append hd front back b))

split : (a b : Bool) → (a && not b) ≡ true → (a ≡ true) × (b ≡ false)
split true true e = cc
split true false e = (refl, refl)
split false b e = cc

-- a block over which nothing is laid
unchanged : (a : List Block) (f : ℕ → Option Block) (b : ℕ) (y : Block) → f b ≡ None → slice_get (overlaid a f) b ≡ Some y → slice_get a b ≡ Some y
unchanged a f b y none at = same (slice_get a b) ∙ ap (λ (o : Option Block). option_map (λ z. unwrap_or o z) (slice_get a b)) (sym none) ∙ sym (overlay_get a f b) ∙ at
  where
    same : (o : Option Block) → o ≡ option_map (λ z. unwrap_or None z) o
    same None = refl
    same (Some z) = refl

-- a block over which another is laid
changed : (a : List Block) (f : ℕ → Option Block) (b : ℕ) (x y : Block) → f b ≡ Some x → slice_get (overlaid a f) b ≡ Some y → y ≡ x
changed a f b x y is at = same (slice_get a b) (ap (λ (o : Option Block). option_map (λ z. unwrap_or o z) (slice_get a b)) (sym is) ∙ sym (overlay_get a f b) ∙ at)
  where
    same : (o : Option Block) → option_map (λ z. unwrap_or (Some x) z) o ≡ Some y → y ≡ x
    same None e = cc
    same (Some z) e = sym (same_Some x y e)

-- ---- the steps

pub logging_step : LoggingStep
logging_step a ws next home front back homed r holds keeps is = record {
  stands = logging_lem home front back r keeps (all_front P front back low) (all_back P front back low)
      ∙ ap (λ (x : List Block). after x (write_of r ∷ [])) holds.stands ∙ sym (after_more a ws (write_of r ∷ []));
  is_home = λ b x y h n. let parts_of = split (homed b) (r.cover.covers b) h in holds.is_home b x y parts_of.0 (sym (not_counted front back r b parts_of.1) ∙ n);
  distinct = distinct_more front back r holds.distinct low;
  below = all_joined Q front (r ∷ back) (all_map P Q up front (all_front P front back low)) (omega arith, all_map P Q up back (all_back P front back low));
}
  where
    P : Extent → Type 0
    P s = s.cover.version < r.cover.version

    Q : Extent → Type 0
    Q s = s.cover.version < next + 1

    up : (s : Extent) → s.cover.version < r.cover.version → s.cover.version < next + 1
    up s lt = omega arith

    low : AllByRecursion (λ s. s.cover.version < r.cover.version) (front ++ back)
    low = all_map (λ s. s.cover.version < next) (λ s. s.cover.version < r.cover.version) (λ s lt. omega (arith, is)) (front ++ back) holds.below

pub home_step : HomeStep
unfolding after
home_step a ws next home rs homed w holds uncovered = record {
  stands = writing_home_lem home rs w uncovered ∙ ap (λ (x : List Block). after x (w ∷ [])) holds.stands ∙ sym (after_more a ws (w ∷ []));
  is_home = λ b x y h n at. holds.is_home b x y h n (unchanged home (last_written (w ∷ [])) b y (not_written b x n (block_of w.first w.blocks b) refl) at);
  distinct = holds.distinct;
  below = holds.below;
}
  where
    not_written : (b : ℕ) (x : Block) → newest_block rs b ≡ Some x → (o : Option Block) → block_of w.first w.blocks b ≡ o → block_of w.first w.blocks b ≡ None
    not_written b x n None is = is
    not_written b x n (Some y) is = absurd (let none : newest_block rs b ≡ None = uncovered b (ap is_some is) in let both : Some x ≡ None = sym n ∙ none in cc)

pub home_in_flight : HomeInFlight
home_in_flight a ws next home x rs homed w holds uncovered to_home blend =
    torn w refl to_home
    (subst (λ (l : List Block). IsBlend (after a ws) l (with_extents x rs)) (sym (after_more a ws (w ∷ [])))
    (subst (λ (l : List Block). IsBlend l (after l (w ∷ [])) (with_extents x rs)) holds.stands (cut_short_lem home x rs w uncovered blend)))

pub putting_in_flight : PuttingInFlight
unfolding with_extents after
putting_in_flight a ws next home x rs homed puts holds is_data blend = same_array (with_extents x rs) (with_extents home rs) at ∙ holds.stands
  where
    chosen : (o n z : Option Block) → ((y : Block) → o ≡ Some y → n ≡ Some y) → option_map (λ y. unwrap_or n y) (option_map (λ y. unwrap_or o y) z) ≡ option_map (λ y. unwrap_or n y) z
    chosen o n None same = refl
    chosen None n (Some y) same = refl
    chosen (Some v) n (Some y) same = ap (λ (m : Option Block). Some (unwrap_or m v)) (same v refl) ∙ sym (ap (λ (m : Option Block). Some (unwrap_or m y)) (same v refl))

    at : (b : ℕ) → slice_get (with_extents x rs) b ≡ slice_get (with_extents home rs) b
    at b = overlay_get x (newest_block rs) b ∙ ⊎_elim
        (λ old. ap (option_map (λ z. unwrap_or (newest_block rs b) z)) old)
        (λ new. ap (option_map (λ z. unwrap_or (newest_block rs b) z)) (new ∙ overlay_get home (last_written puts) b) ∙ chosen (last_written puts b) (newest_block rs b) (slice_get home b) (is_data b))
        (mixed_of home (after home puts) x blend b) ∙ sym (overlay_get home (newest_block rs) b)

pub putting_step : PuttingStep
unfolding after
putting_step a ws next home rs homed puts holds is_data = record {
  stands = putting_in_flight a ws next home (after home puts) rs homed puts holds is_data (blend_of home (after home puts) (after home puts) (after_length home puts) (λ b. inr refl));
  is_home = λ b x y h n at. either b x y n at (last_written puts b) refl h;
  distinct = holds.distinct;
  below = holds.below;
}
  where
    or_none : (t : Bool) → (t || false) ≡ true → t ≡ true
    or_none true e = refl
    or_none false e = e

    either : (b : ℕ) (x y : Block) → newest_block rs b ≡ Some x → slice_get (after home puts) b ≡ Some y → (o : Option Block) → last_written puts b ≡ o → (homed b || is_some (last_written puts b)) ≡ true → y ≡ x
    either b x y n at None is h = holds.is_home b x y (or_none (homed b) (ap (λ (o : Option Block). homed b || is_some o) (sym is) ∙ h)) n (unchanged home (last_written puts) b y is at)
    either b x y n at (Some z) is h = changed home (last_written puts) b z y is at ∙ same_Some z x (sym (is_data b z is) ∙ n)

pub giving_up_step : GivingUpStep
giving_up_step a ws next home front back homed given r s holds may gives = record {
  stands = giving_up_lem home front back r s homed given holds.is_home holds.distinct may gives ∙ holds.stands;
  is_home = λ b x y h n at. ⊎_elim
      (λ same. holds.is_home b x y h (sym same ∙ n) at)
      (λ none. absurd (let both : None ≡ Some x = sym none.1 ∙ n in cc))
      (fate front back r s homed given holds.distinct may gives b);
  distinct = distinct_swap front back r s gives.version (λ v. (v.0, kept v.0 v.1)) holds.distinct;
  below = all_joined P front (s ∷ back) (all_front P front (r ∷ back) holds.below) (let rest = all_back P front (r ∷ back) holds.below in (omega (arith, gives.version, rest.0), rest.1));
}
  where
    P : Extent → Type 0
    P t = t.cover.version < next

    kept : (b : ℕ) → s.cover.covers b ≡ true → r.cover.covers b ≡ true
    kept b c = (split (r.cover.covers b) (given b) (sym (gives.keeps b) ∙ c)).0

pub empty_step : EmptyStep
empty_step a ws next home front back homed r holds nothing = record {
  stands = sym (emptied_lem home front (r ∷ []) back (nothing, tt)) ∙ holds.stands;
  is_home = λ b x y h n at. holds.is_home b x y h (not_counted front back r b (nothing b) ∙ n) at;
  distinct = distinct_less front back r holds.distinct;
  below = all_joined P front back (all_front P front (r ∷ back) holds.below) (all_back P front (r ∷ back) holds.below).1;
}
  where
    P : Extent → Type 0
    P t = t.cover.version < next

pub opening_step : OpeningStep
opening_step next home rs distinct below = record { stands = sym (after_none (with_extents home rs)); is_home = λ b x y h n at. absurd (let no : false ≡ true = h in cc); distinct = distinct; below = below }

pub fewer_homed : FewerHomed
fewer_homed a ws next home rs homed fewer holds some = record { stands = holds.stands; is_home = λ b x y h n at. holds.is_home b x y (some b h) n at; distinct = holds.distinct; below = holds.below }
