-- What contracts see of the program's entries.
use Rattle.std.proofs.Common.{◌≡◌, ◌<◌, ℕ, zero, suc, Bool, true, false, cond, ◌&&◌, ◌||◌, List, [], ◌∷◌, map, length, take, drop, get_or, Some, refl, sym, ap, ◌∙◌, subst, arith, ltb}
use Rattle.std.specs.Prelude.{slice_get, option_map}
use Rattle.std.specs.List.{AllByRecursion, find}
use Rattle.std.proofs.Math.Bool.{and-false, and-true}
use Rattle.std.proofs.lemmas.Bool.{lt-ltb, le-ltb, eqb-true}
use Rattle.std.proofs.lemmas.Option.{slice_get-get_or}
use Rattle.wol_model.specs.Extents.{has_newer, has_older}
use Rattle.wol_model.specs.Index.{listed_in, AreRising, listed_covers, is_homed}
use Rattle.block_cells.specs.Masks.{in_mask}
use Rattle.block_cells.proofs.Marks.{marked-marks_of}
use Rattle.redirect_map.specs.declared.entry.Entry.{Entry}
use Rattle.redirect_map.specs.Index.{cover_at, has_version}
use Rattle.redirect_map.specs.Kept.{seen, keeps, one_keeps, is_version, IsInRange, IsAt}
use Rattle.redirect_map.proofs.Found.{find-map}

pub covers_seen : (e : Entry) (b : ℕ) → IsInRange e → (cover_at (seen e)).covers b ≡ keeps e b
covers_seen e b r = marked-marks_of e.record.lbn e.record.count e.record.keep b r.keep_within

pub homed_seen : (e : Entry) (b : ℕ) → IsInRange e → is_homed (seen e).listed b ≡ in_mask e.record.lbn e.homed b
homed_seen e b r = marked-marks_of e.record.lbn e.record.count e.homed b r.homed_within

-- a fact of each element, at a place
pub all_at : {X : Type 0} (P : X → Type 0) (xs : List X) (k : ℕ) (x : X) → AllByRecursion P xs → slice_get xs k ≡ Some x → P x
all_at P [] k x all e = absurd (cc)
all_at P (y ∷ xs) zero x all e = let f : y ≡ x = cc in subst P f all.0
all_at P (y ∷ xs) (suc k) x all e = all_at P xs k x all.1 e

pub all_from_places : {X : Type 0} (P : X → Type 0) (xs : List X) → ((k : ℕ) (x : X) → slice_get xs k ≡ Some x → P x) → AllByRecursion P xs
all_from_places P [] each = tt
all_from_places P (x ∷ xs) each = (each 0 x refl, all_from_places P xs (λ k y e. each (suc k) y e))

pub all_of_map : {X Y : Type 0} (P : Y → Type 0) (v : X → Y) (xs : List X) → AllByRecursion (λ x. P (v x)) xs → AllByRecursion P (map v xs)
all_of_map P v [] all = tt
all_of_map P v (x ∷ xs) all = (all.0, all_of_map P v xs all.1)

pub all_before_map : {X Y : Type 0} (P : Y → Type 0) (v : X → Y) (xs : List X) → AllByRecursion P (map v xs) → AllByRecursion (λ x. P (v x)) xs
all_before_map P v [] all = tt
all_before_map P v (x ∷ xs) all = (all.0, all_before_map P v xs all.1)

pub all_more : {X : Type 0} (P Q : X → Type 0) → ((x : X) → P x → Q x) → (xs : List X) → AllByRecursion P xs → AllByRecursion Q xs
all_more P Q f [] all = tt
all_more P Q f (x ∷ xs) all = (f x all.0, all_more P Q f xs all.1)

-- where all versions are above v, a newer one covers a block just where one keeps it
all_newer : (v b : ℕ) (items : List Entry) → AllByRecursion (λ w. v < w) (map (λ (e : Entry). e.record.version) items) → AllByRecursion IsInRange items
    → has_newer (listed_covers (listed_in (map seen items))) v b ≡ one_keeps items b
all_newer v b [] above ranges = refl
all_newer v b (x ∷ xs) above ranges = λ i. here i || all_newer v b xs above.1 ranges.1 i
  where
    here : ((cover_at (seen x)).covers b && ltb v x.record.version) ≡ keeps x b
    here = ap (λ (t : Bool). (cover_at (seen x)).covers b && t) (lt-ltb v x.record.version above.0) ∙ and-true ((cover_at (seen x)).covers b) ∙ covers_seen x b ranges.0

-- and where all are at v or above, none is older
none_older : (v b : ℕ) (items : List Entry) → AllByRecursion (λ w. v < w) (map (λ (e : Entry). e.record.version) items) → has_older (listed_covers (listed_in (map seen items))) v b ≡ false
none_older v b [] above = refl
none_older v b (x ∷ xs) above = λ i. here i || none_older v b xs above.1 i
  where
    here : ((cover_at (seen x)).covers b && ltb x.record.version v) ≡ false
    here =
        let less : v < x.record.version = above.0 in
        ap (λ (t : Bool). (cover_at (seen x)).covers b && t) (le-ltb x.record.version v (omega arith)) ∙ and-false ((cover_at (seen x)).covers b)

-- the newer entries are those behind
pub newer_at : (items : List Entry) (k : ℕ) (e : Entry) (b : ℕ) → AreRising (map (λ (d : Entry). d.record.version) items) → AllByRecursion IsInRange items → slice_get items k ≡ Some e
    → has_newer (listed_covers (listed_in (map seen items))) e.record.version b ≡ one_keeps (drop (suc k) items) b
newer_at [] k e b rising ranges at = absurd (cc)
newer_at (x ∷ xs) zero e b rising ranges at =
    let f : x ≡ e = cc in
    subst (λ (d : Entry). (((cover_at (seen x)).covers b && ltb d.record.version x.record.version) || has_newer (listed_covers (listed_in (map seen xs))) d.record.version b) ≡ one_keeps xs b) f
    (λ i. (ap (λ (t : Bool). (cover_at (seen x)).covers b && t) (le-ltb x.record.version x.record.version (omega arith)) ∙ and-false ((cover_at (seen x)).covers b)) i || all_newer x.record.version b xs rising.0 ranges.1 i)
newer_at (x ∷ xs) (suc k) e b rising ranges at =
    let less : x.record.version < e.record.version = all_at (λ (d : Entry). x.record.version < d.record.version) xs k e (all_before_map (λ w. x.record.version < w) (λ (d : Entry). d.record.version) xs rising.0) at in
    λ i. (ap (λ (t : Bool). (cover_at (seen x)).covers b && t) (le-ltb e.record.version x.record.version (omega arith)) ∙ and-false ((cover_at (seen x)).covers b)) i || newer_at xs k e b rising.1 ranges.1 at i

-- the older ones are those before
pub older_at : (items : List Entry) (k : ℕ) (e : Entry) (b : ℕ) → AreRising (map (λ (d : Entry). d.record.version) items) → AllByRecursion IsInRange items → slice_get items k ≡ Some e
    → has_older (listed_covers (listed_in (map seen items))) e.record.version b ≡ one_keeps (take k items) b
older_at [] k e b rising ranges at = absurd (cc)
older_at (x ∷ xs) zero e b rising ranges at =
    let f : x ≡ e = cc in
    subst (λ (d : Entry). (((cover_at (seen x)).covers b && ltb x.record.version d.record.version) || has_older (listed_covers (listed_in (map seen xs))) d.record.version b) ≡ false) f
    (λ i. (ap (λ (t : Bool). (cover_at (seen x)).covers b && t) (le-ltb x.record.version x.record.version (omega arith)) ∙ and-false ((cover_at (seen x)).covers b)) i || none_older x.record.version b xs rising.0 i)
older_at (x ∷ xs) (suc k) e b rising ranges at =
    let less : x.record.version < e.record.version = all_at (λ (d : Entry). x.record.version < d.record.version) xs k e (all_before_map (λ w. x.record.version < w) (λ (d : Entry). d.record.version) xs rising.0) at in
    λ i. (ap (λ (t : Bool). (cover_at (seen x)).covers b && t) (lt-ltb x.record.version e.record.version less) ∙ and-true ((cover_at (seen x)).covers b) ∙ covers_seen x b ranges.0) i || older_at xs k e b rising.1 ranges.1 at i

find_passes : {X : Type 0} (p : X → Bool) (xs : List X) (x : X) → find p xs ≡ Some x → p x ≡ true
find_passes p [] x e = absurd (cc)
find_passes p (y ∷ xs) x e = at (p y) refl e (find_passes p xs x)
  where
    at : (t : Bool) → p y ≡ t → cond t (Some y) (find p xs) ≡ Some x → (find p xs ≡ Some x → p x ≡ true) → p x ≡ true
    at true here f rest = let g : y ≡ x = cc in subst (λ z. p z ≡ true) g here
    at false here f rest = rest f

pub at_place : (items : List Entry) (version k : ℕ) (e : Entry) → find (is_version version) items ≡ slice_get items k → k < length items → e ≡ get_or items k e → IsAt items version k e
at_place items version k e found within is =
    let there : slice_get items k ≡ Some e = slice_get-get_or items k e within ∙ ap Some (sym is) in
    record {
      at = there;
      version_is = eqb-true e.record.version version (find_passes (is_version version) items e (found ∙ there));
      found = find-map (has_version version) seen items ∙ ap (option_map seen) (found ∙ there);
    }
