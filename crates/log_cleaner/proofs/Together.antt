-- Several copies that go to a log together.
use Rattle.std.proofs.Common.{◌≡◌, ◌<◌, ◌≤◌, ◌+◌, ℕ, zero, suc, true, List, [], ◌∷◌, ◌++◌, map, length, take, drop, refl, sym, ap, subst, ◌∙◌, arith}
use Rattle.std.specs.Prelude.{IsSome, slice_range}
use Rattle.std.specs.List.{AllByRecursion}
use Rattle.std.proofs.lemmas.List.{length-drop, take_all}
use Rattle.std.proofs.lemmas.List.Sums.{sum_by-cons}
use Rattle.wol_disk.specs.Disk.{Block}
use Rattle.wol_model.specs.Blocks.{Write}
use Rattle.wol_model.specs.Index.{Listed, is_covered}
use Rattle.wol_model.specs.Placing.{Log}
use Rattle.wol_promise.specs.Policy.{Look, listing, placed}
use Rattle.wol_promise.proofs.Lists.{all_map, all_mapped, all_push}
use Rattle.log_segment.specs.Records.{count_of}
use Rattle.log_segment.specs.declared.item.Item.{Item}
use Rattle.manager.specs.Answers.{log_write}
use Rattle.manager.specs.Groups.{log_writes, placed_all}
use Rattle.manager.proofs.GroupRecords.{count_more, enough_rest, first_long}
use Rattle.log_cleaner.specs.Chunks.{IsCopyOf, NoneHomed, is_within}
use Rattle.log_cleaner.specs.Cleans.{copied_blocks}
use Rattle.log_cleaner.specs.Steps.{AreCopiesAt, AreRead}
use Rattle.log_cleaner.proofs.Stepping.{set_awake}
use Rattle.log_cleaner.proofs.Tidying.{listing_covered, listing_unhomed, newest_, older}

-- ---- Looks

module _ (lane : ℕ) where
  pub all_unhomed : (ws : List Write) (l : Look) → NoneHomed l.listed → NoneHomed (placed_all (Log lane) l ws).listed
  all_unhomed [] l none = none
  all_unhomed (w ∷ ws) l none = all_unhomed ws (placed (Log lane) l w) (listing_unhomed l lane w none)

  pub all_awake : (ws : List Write) (l : Look) → AllByRecursion (λ up. up ≡ true) l.ups → AllByRecursion (λ up. up ≡ true) (placed_all (Log lane) l ws).ups
  all_awake [] l all = all
  all_awake (w ∷ ws) l all = all_awake ws (placed (Log lane) l w) (set_awake l.ups lane all)

  pub all_home : (ws : List Write) (l : Look) → (placed_all (Log lane) l ws).home_up ≡ l.home_up
  all_home [] l = refl
  all_home (w ∷ ws) l = all_home ws (placed (Log lane) l w)

  pub all_next : (ws : List Write) (l : Look) → (placed_all (Log lane) l ws).next ≡ l.next + length ws
  all_next [] l = (let e : l.next ≡ l.next + 0 = omega arith in e)
  all_next (w ∷ ws) l = let rest = all_next ws (placed (Log lane) l w) in omega (arith, rest)

  abbrev pub Covered : List Listed → Write → Type 0
  Covered es w = (b : ℕ) → is_within w.first (length w.blocks) b ≡ true → is_covered es b ≡ true

  pub all_covered : (ws : List Write) (l : Look) → NoneHomed l.listed → AllByRecursion (Covered l.listed) ws → (b : ℕ) → is_covered (placed_all (Log lane) l ws).listed b ≡ is_covered l.listed b
  all_covered [] l none all b = refl
  all_covered (w ∷ ws) l none all b =
      let same = listing_covered l lane w none all.0 in
      all_covered ws (placed (Log lane) l w) (listing_unhomed l lane w none) (all_map (Covered l.listed) (Covered (listing l lane w)) (λ v covered x is. same x ∙ covered x is) ws all.1) b ∙ same b

  -- the new one has the next version
  pub listing_below : (l : Look) (w : Write) → NoneHomed l.listed → AllByRecursion (λ (e : Listed). e.version < l.next) l.listed → AllByRecursion (λ (e : Listed). e.version < l.next + 1) (listing l lane w)
  listing_below l w none below = all_push (λ (e : Listed). e.version < l.next + 1) (map (older l lane w none) l.listed) (newest_ l lane w none)
      (all_mapped (λ (e : Listed). e.version < l.next + 1) (older l lane w none) l.listed (all_map (λ (e : Listed). e.version < l.next) (λ (e : Listed). e.version < l.next + 1) (λ e lt. omega (arith, lt)) l.listed below)) (omega arith)

-- ---- Copies

pub copies_at : (version : ℕ) (items : List Item) (from : List Block) → count_of items ≤ length from → AreCopiesAt version items (log_writes version items from)
copies_at version [] from enough = tt
copies_at version (i ∷ items) from enough = (
  record { first_is = refl; count_is = first_long i items from enough; version_is = refl },
  copies_at (version + 1) items (drop i.count from) (enough_rest i items from enough),
)

pub copies_logged : (version : ℕ) (items : List Item) (from : List Block) → AllByRecursion (λ (w : Write). IsSome w.version) (log_writes version items from)
copies_logged version [] from = tt
copies_logged version (i ∷ items) from = (refl, copies_logged (version + 1) items (drop i.count from))

pub copies_same : (array : List Block) (version : ℕ) (items : List Item) (from : List Block) → count_of items ≤ length from → AreRead array items from → AllByRecursion (IsCopyOf array) (log_writes version items from)
copies_same array version [] from enough read = tt
copies_same array version (i ∷ items) from enough read = (
  read.0 ∙ ap (λ (n : ℕ). slice_range array i.lbn (i.lbn + n)) (sym (first_long i items from enough)),
  copies_same array (version + 1) items (drop i.count from) (enough_rest i items from enough) read.1,
)

pub writes_front : (k version : ℕ) (items : List Item) (from : List Block) → take k (log_writes version items from) ≡ log_writes version (take k items) from
writes_front zero version items from = refl
writes_front (suc k) version [] from = refl
writes_front (suc k) version (i ∷ items) from = λ t. log_write version i.lbn (take i.count from) ∷ writes_front k (version + 1) items (drop i.count from) t

pub read_front : (array : List Block) (k : ℕ) (items : List Item) (from : List Block) → AreRead array items from → AreRead array (take k items) from
read_front array zero items from read = tt
read_front array (suc k) [] from read = tt
read_front array (suc k) (i ∷ items) from read = (read.0, read_front array k items (drop i.count from) read.1)

pub copied_count : (version : ℕ) (items : List Item) (ws : List Write) → AreCopiesAt version items ws → copied_blocks ws ≡ count_of items
copied_count version [] [] are = refl
copied_count version [] (w ∷ ws) are = absurd are
copied_count version (i ∷ items) [] are = absurd are
copied_count version (i ∷ items) (w ∷ ws) are =
    let rest = copied_count (version + 1) items ws are.1 in let a = sum_by-cons (λ (v : Write). length v.blocks) w ws in let b = count_more i items in let c = are.0.count_is in omega (arith, rest, a, b, c)

pub copies_long : (version : ℕ) (items : List Item) (ws : List Write) → AreCopiesAt version items ws → length ws ≡ length items
copies_long version [] [] are = refl
copies_long version [] (w ∷ ws) are = absurd are
copies_long version (i ∷ items) [] are = absurd are
copies_long version (i ∷ items) (w ∷ ws) are = ap suc (copies_long (version + 1) items ws are.1)

-- those of covered chunks are covered
pub copies_covered : (lane : ℕ) (es : List Listed) (version : ℕ) (items : List Item) (ws : List Write) → AreCopiesAt version items ws → AllByRecursion (λ (i : Item). (b : ℕ) → is_within i.lbn i.count b ≡ true → is_covered es b ≡ true) items → AllByRecursion (Covered lane es) ws
copies_covered lane es version [] [] are all = tt
copies_covered lane es version [] (w ∷ ws) are all = absurd are
copies_covered lane es version (i ∷ items) [] are all = absurd are
copies_covered lane es version (i ∷ items) (w ∷ ws) are all = (
  λ b is. all.0 b (subst (λ (n : ℕ). is_within i.lbn n b ≡ true) are.0.count_is (subst (λ (n : ℕ). is_within n (length w.blocks) b ≡ true) are.0.first_is is)),
  copies_covered lane es (version + 1) items ws are.1 all.1,
)

-- ---- Blocks that were read one behind the other

pub read_push : (array : List Block) (items : List Item) (i : Item) (xs run : List Block) → AreRead array items xs → length xs ≡ count_of items → length run ≡ i.count → run ≡ slice_range array i.lbn (i.lbn + length run) → AreRead array (items ++ i ∷ []) (xs ++ run)
read_push array [] i [] run read long count same = (ap (λ (n : ℕ). take n run) (sym count) ∙ take_all (length run) run (omega arith) ∙ same ∙ ap (λ (n : ℕ). slice_range array i.lbn (i.lbn + n)) count, tt)
read_push array [] i (x ∷ xs) run read long count same = absurd (let no : suc (length xs) ≡ 0 = long in omega (arith, no))
read_push array (k ∷ items) i xs run read long count same =
    let e = count_more k items in
    let le : k.count ≤ length xs = omega (arith, e, long) in
    let d = length-drop k.count xs in (
      take_within k.count xs run le ∙ read.0,
      subst (AreRead array (items ++ i ∷ [])) (sym (drop_within k.count xs run le)) (read_push array items i (drop k.count xs) run read.1 (omega (arith, d, e, long)) count same),
    )
  where
    take_within : (n : ℕ) (xs ys : List Block) → n ≤ length xs → take n (xs ++ ys) ≡ take n xs
    take_within zero xs ys le = refl
    take_within (suc n) [] ys le = absurd (omega (arith, le))
    take_within (suc n) (x ∷ xs) ys le = λ t. x ∷ take_within n xs ys (omega (arith, le)) t

    drop_within : (n : ℕ) (xs ys : List Block) → n ≤ length xs → drop n (xs ++ ys) ≡ drop n xs ++ ys
    drop_within zero xs ys le = refl
    drop_within (suc n) [] ys le = absurd (omega (arith, le))
    drop_within (suc n) (x ∷ xs) ys le = drop_within n xs ys (omega (arith, le))
