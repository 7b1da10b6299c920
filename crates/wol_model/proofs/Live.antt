-- What is live, what may go, and what a mask keeps.
use Rattle.std.proofs.Common.{◌≡◌, ◌⊎◌, inl, inr, ⊎_elim, ◌<◌, ◌≤◌, ◌-◌, ◌^◌, ℕ, Bool, true, false, cond, not, ◌&&◌, ◌||◌, List, [], ◌∷◌, map, length, Option, None, Some, refl, sym, ap, ◌∙◌, arith, get_or, eqb, ltb, leb}
use Rattle.std.specs.Prelude.{slice_get, is_some}
use Rattle.std.specs.List.{AllByRecursion}
use Rattle.std.specs.Option.{option_and_then}
use Rattle.std.proofs.lemmas.Nat.Bits.{bit_at_ones}
use Rattle.std.proofs.lemmas.Option.{slice_get-get_or, slice_get_past}
use Rattle.std.proofs.lemmas.Bool.Decides.{nat_tests}
use Rattle.std.proofs.lemmas.Bool.{cases_lt, lt-ltb, le-ltb}
use Rattle.std.proofs.lemmas.List.{get_or_past}
use Rattle.std.proofs.lemmas.List.FromFn.{get_or-map-range_with_len, length-map-range_with_len}
use Rattle.wol_disk.specs.Disk.{Block}
use Rattle.wol_model.proofs.Newest.{Below, above_all, any_parts, or_false, has_same, no_twin}
use Rattle.wol_model.proofs.Writing.{hd, of, parts}
use Rattle.wol_model.specs.Extents.{Cover, newest, newer_of, has_newer, has_older, may_go, covers_of}
use Rattle.wol_model.specs.IndexLaws.{LiveIsNewest, LeastGoesOrIsDue, FullMask}
use Rattle.wol_model.specs.Log.{has_bit, marks_of}

module _ {X : Type 0} (cover : X → Cover) where
  below_cons : (v : ℕ) (x : X) (o : Option X) → ltb v (cover x).version ≡ false → eqb (cover x).version v ≡ false → Below cover v o → Below cover v (newer_of cover x o)
  below_cons v x None n s rest = grind (arith, nat_tests)
  below_cons v x (Some y) n s rest = at (ltb (cover x).version (cover y).version)
    where
      less : (cover x).version < v
      less = grind (arith, nat_tests)

      at : (t : Bool) → Below cover v (cond t (Some y) (Some x))
      at true = rest
      at false = less

  -- where none is newer and none of the same version, the newest one is older
  low_only : (xs : List X) (v b : ℕ) → has_newer (map cover xs) v b ≡ false → has_same (map cover xs) v b ≡ false → Below cover v (newest cover xs b)
  low_only [] v b n s = tt
  low_only (x ∷ xs) v b n s = at (low_only xs v b) ((cover x).covers b) n s
    where
      at : (has_newer (map cover xs) v b ≡ false → has_same (map cover xs) v b ≡ false → Below cover v (newest cover xs b)) → (t : Bool)
          → ((t && ltb v (cover x).version) || has_newer (map cover xs) v b) ≡ false → ((t && eqb (cover x).version v) || has_same (map cover xs) v b) ≡ false
          → Below cover v (cond t (newer_of cover x (newest cover xs b)) (newest cover xs b))
      at rest true n s =
          let nn = or_false (ltb v (cover x).version) (has_newer (map cover xs) v b) n in
          let ss = or_false (eqb (cover x).version v) (has_same (map cover xs) v b) s in
          below_cons v x (newest cover xs b) nn.0 ss.0 (rest nn.1 ss.1)
      at rest false n s = rest n s

pub live_is_newest : LiveIsNewest
live_is_newest front back r b distinct c none = parts front back r b true c ∙ ap (option_and_then (of b)) (above_all hd r (newest hd front b) (newest hd back b)
    (low_only hd front r.cover.version b newer.0 same.0) (low_only hd back r.cover.version b (or_false (r.cover.covers b && ltb r.cover.version r.cover.version) (has_newer (covers_of back) r.cover.version b) newer.1).1 same.1))
  where
    newer : (has_newer (covers_of front) r.cover.version b ≡ false) × (has_newer (covers_of (r ∷ back)) r.cover.version b ≡ false)
    newer = or_false (has_newer (covers_of front) r.cover.version b) (has_newer (covers_of (r ∷ back)) r.cover.version b) (sym (any_parts hd (λ c. c.covers b && ltb r.cover.version c.version) front (r ∷ back)) ∙ none)

    same : (has_same (covers_of front) r.cover.version b ≡ false) × (has_same (covers_of back) r.cover.version b ≡ false)
    same = or_false (has_same (covers_of front) r.cover.version b) (has_same (covers_of back) r.cover.version b) (sym (any_parts hd (λ c. c.covers b && eqb c.version r.cover.version) front back) ∙ no_twin hd front r back b c distinct)

none_older : (cs : List Cover) (v b : ℕ) → AllByRecursion (λ d. v ≤ d.version) cs → has_older cs v b ≡ false
none_older [] v b all = refl
none_older (c ∷ cs) v b all = λ i. here (c.covers b) i || none_older cs v b all.1 i
  where
    here : (t : Bool) → (t && ltb c.version v) ≡ false
    here true = let le : v ≤ c.version = all.0 in grind (arith, nat_tests)
    here false = refl

pub least_goes : LeastGoesOrIsDue
least_goes cs homed c b least covers = at (has_newer cs c.version b) (homed b) refl refl
  where
    at : (n h : Bool) → has_newer cs c.version b ≡ n → homed b ≡ h → (may_go cs homed c b ≡ true) ⊎ ((has_newer cs c.version b ≡ false) × (homed b ≡ false))
    at true h n is = inl (λ i. covers i && (n i || (homed b && not (has_older cs c.version b))))
    at false true n is = inl (λ i. covers i && (n i || (is i && not (none_older cs c.version b least i))))
    at false false n is = inr (n, is)

marks_are : (count i : ℕ) → get_or (marks_of count (2 ^ count - 1)) i false ≡ ltb i count
marks_are count i = ⊎_elim
    (λ inside. get_or-map-range_with_len (has_bit (2 ^ count - 1)) 0 count i i false inside (omega arith) ∙ ap (λ (k : ℕ). eqb k 1) (bit_at_ones count i inside) ∙ sym (lt-ltb i count inside))
    (λ past. get_or_past (marks_of count (2 ^ count - 1)) i false (omega (arith, length-map-range_with_len (has_bit (2 ^ count - 1)) 0 count, past)) ∙ sym (le-ltb i count past))
    (cases_lt i count)

there : (blocks : List Block) (i : ℕ) → ltb i (length blocks) ≡ is_some (slice_get blocks i)
there blocks i = ⊎_elim
    (λ inside. lt-ltb i (length blocks) inside ∙ sym (ap is_some (slice_get-get_or blocks i [] inside)))
    (λ past. le-ltb i (length blocks) past ∙ sym (ap is_some (slice_get_past blocks i past)))
    (cases_lt i (length blocks))

pub full_mask : FullMask
full_mask r counted full b = at (leb r.head.first b)
  where
    at : (t : Bool) → (t && get_or (marks_of r.head.count r.head.mask) (b - r.head.first) false) ≡ is_some (cond t (slice_get r.blocks (b - r.head.first)) None)
    at true = ap (λ (m : ℕ). get_or (marks_of r.head.count m) (b - r.head.first) false) full ∙ marks_are r.head.count (b - r.head.first) ∙ ap (ltb (b - r.head.first)) (sym counted) ∙ there r.blocks (b - r.head.first)
    at false = refl
