-- What blocks have in the newest records, and at home.
use Rattle.std.proofs.Common.{◌≡◌, ⊎_elim, ◌<◌, ◌≤◌, ◌+◌, ◌-◌, ℕ, zero, suc, Bool, true, false, cond, ◌&&◌, ◌||◌, List, [], ◌∷◌, ◌++◌, map, length, take, drop, Option, None, Some, refl, sym, ap, subst, ◌∙◌, arith, ltb, leb, length-drop, ◌≢◌, not}
use Rattle.std.specs.Prelude.{Contains, slice_get, is_some, unwrap_or}
use Rattle.std.specs.List.{list_any, count_by, range_with_len, AllByRecursion, cons_option}
use Rattle.std.specs.Option.{option_map, option_and_then, option_or}
use Rattle.std.proofs.lemmas.Option.{same_Some, none-some}
use Rattle.std.proofs.lemmas.Bool.{le-leb, ltb-true, false≢true, cases_lt, lt-leb}
use Rattle.wol_disk.specs.Disk.{Block}
use Rattle.wol_model.specs.Blocks.{block_of, overlaid_from, Write, AreApart, last_written}
use Rattle.wol_model.specs.Extents.{Cover, Extent, newest, newer_of, newest_block, with_extents, covers_of, AreDistinct, has_newer}
use Rattle.wol_model.specs.Index.{Listed, Indexed, listed_in, listed_covers, cover_of, is_covered, AreRising, is_live}
use Rattle.wol_model.specs.Log.{extent_of, has_bit}
use Rattle.wol_model.proofs.Counts.{both, marked_within, not_true}
use Rattle.wol_model.proofs.Live.{live_is_newest}
use Rattle.wol_model.proofs.Newest.{above, newer_is_above}
use Rattle.wol_promise.specs.Manager.{Held, IsBacked, IsIndexOf, extents_held, versions}
use Rattle.wol_promise.proofs.Covers.{any_member, any_found, same_cover, extent_among, held_is_listed}
use Rattle.wol_promise.proofs.Lists.{member_map, member_of, member_front, member_behind, all_member}
use Rattle.block_cells.specs.declared.record.Rec.{Rec}
use Rattle.redirect_map.specs.Index.{cover_at}
use Rattle.wol_promise.proofs.Woken.{covered_is, IsBareRun, IsLaneRun, count_all, count_none}
use Rattle.volume_parts.specs.Entries.{IsSource}
use Rattle.garbage_list.proofs.Nexts.{Answered, answered, unanswered}
use Rattle.wol_promise.proofs.OneMore.{or_none}
use Rattle.volume_parts.specs.Changes.{put_block}

-- ---- the newest of a list

pub newest-map : {X Y : Type 0} (cover : Y → Cover) (f : X → Y) (xs : List X) (b : ℕ) → newest cover (map f xs) b ≡ option_map f (newest (λ x. cover (f x)) xs b)
newest-map cover f [] b = refl
newest-map {X} {Y} cover f (x ∷ xs) b = at ((cover (f x)).covers b) (newest-map cover f xs b)
  where
    newer : (o : Option X) → newer_of cover (f x) (option_map f o) ≡ option_map f (newer_of (λ y. cover (f y)) x o)
    newer None = refl
    newer (Some y) = elim (ltb (cover (f x)).version (cover (f y)).version) as (λ t. cond t (Some (f y)) (Some (f x)) ≡ option_map f (cond t (Some y) (Some x))) [ true ↦ refl | false ↦ refl ]

    at : (t : Bool) → newest cover (map f xs) b ≡ option_map f (newest (λ y. cover (f y)) xs b)
        → cond t (newer_of cover (f x) (newest cover (map f xs) b)) (newest cover (map f xs) b) ≡ option_map f (cond t (newer_of (λ y. cover (f y)) x (newest (λ y. cover (f y)) xs b)) (newest (λ y. cover (f y)) xs b))
    at true rest = ap (newer_of cover (f x)) rest ∙ newer (newest (λ y. cover (f y)) xs b)
    at false rest = rest

-- it is one of the list, and covers the block
pub record IsNewest {X : Type 0} (cover : X → Cover) (xs : List X) (b : ℕ) (x : X) : Type 0 where
  pub among : Contains xs x
  pub covers : (cover x).covers b ≡ true

pub newest_is : {X : Type 0} (cover : X → Cover) (xs : List X) (b : ℕ) (x : X) → newest cover xs b ≡ Some x → IsNewest cover xs b x
newest_is cover [] b x is = absurd (none-some x is)
newest_is {X} cover (y ∷ ys) b x is = at ((cover y).covers b) refl is (newest_is cover ys b x)
  where
    behind : IsNewest cover ys b x → IsNewest cover (y ∷ ys) b x
    behind n = record { among = member_behind y ys x n.among; covers = n.covers }

    here : (cover y).covers b ≡ true → y ≡ x → IsNewest cover (y ∷ ys) b x
    here covers same = record { among = (0, omega arith, same); covers = ap (λ (z : X). (cover z).covers b) (sym same) ∙ covers }

    choose : (cover y).covers b ≡ true → (o : Option X) → newest cover ys b ≡ o → newer_of cover y o ≡ Some x → (newest cover ys b ≡ Some x → IsNewest cover ys b x) → IsNewest cover (y ∷ ys) b x
    choose covers None rest same later = here covers (same_Some y x same)
    choose covers (Some z) rest same later = pick (ltb (cover y).version (cover z).version) same
      where
        pick : (t : Bool) → cond t (Some z) (Some y) ≡ Some x → IsNewest cover (y ∷ ys) b x
        pick true picked = behind (later (rest ∙ picked))
        pick false picked = here covers (same_Some y x picked)

    at : (t : Bool) → (cover y).covers b ≡ t → cond t (newer_of cover y (newest cover ys b)) (newest cover ys b) ≡ Some x → (newest cover ys b ≡ Some x → IsNewest cover ys b x) → IsNewest cover (y ∷ ys) b x
    at true covers same later = choose covers (newest cover ys b) refl same later
    at false covers same later = behind (later same)

-- ---- a member's place

pub record Around {X : Type 0} (xs : List X) (x : X) : Type 0 where
  pub front : List X
  pub back : List X
  pub is : xs ≡ front ++ x ∷ back

pub around_of : {X : Type 0} (xs : List X) (x : X) → Contains xs x → Around xs x
around_of [] x has = absurd (let lt = has.1 in omega arith)
around_of {X} (y ∷ ys) x has = ⊎_elim
    (λ same. record { front = []; back = ys; is = λ i. same i ∷ ys })
    (λ there. let rest = around_of ys x there in record { front = y ∷ rest.front; back = rest.back; is = λ i. y ∷ rest.is i })
    (member_front y ys x has)

-- ---- one block

any_covers : (es : List Listed) (b : ℕ) → list_any (λ (c : Cover). c.covers b) (listed_covers es) ≡ is_covered es b
any_covers [] b = refl
any_covers (e ∷ es) b = λ i. (cover_of e).covers b || any_covers es b i

-- the entries' newest, as listed
pub newest_listed : (indexed : List Indexed) (b : ℕ) → newest cover_of (listed_in indexed) b ≡ option_map (λ (e : Indexed). e.listed) (newest cover_at indexed b)
newest_listed indexed b = newest-map cover_of (λ (e : Indexed). e.listed) indexed b

module _ {P : Type 0} (held : List (Held P)) (indexed : List Indexed) (index : IsIndexOf indexed held) (distinct : AreDistinct (covers_of (extents_held held))) (b : ℕ) where
  -- where the index has no newest record, the held segments have none
  pub bare_block : newest cover_at indexed b ≡ None → newest_block (extents_held held) b ≡ None
  unfolding newest_block
  bare_block none = at (newest (λ (x : Extent). x.cover) (extents_held held) b) refl
    where
      uncovered : list_any (λ (c : Cover). c.covers b) (listed_covers (listed_in indexed)) ≡ true → true ≡ false
      uncovered covered = sym covered ∙ any_covers (listed_in indexed) b ∙ covered_is (listed_in indexed) b ∙ ap is_some (newest_listed indexed b) ∙ ap (λ (o : Option Indexed). is_some (option_map (λ (e : Indexed). e.listed) o)) none

      at : (o : Option Extent) → newest (λ (x : Extent). x.cover) (extents_held held) b ≡ o → option_and_then (λ r. block_of r.first r.blocks b) o ≡ None
      at None is = refl
      at (Some x) is =
          let n = newest_is (λ (y : Extent). y.cover) (extents_held held) b x is in
          let listed = held_is_listed held indexed x.cover index (member_map (λ (y : Extent). y.cover) (extents_held held) x n.among) (b, n.covers) in
          absurd (false≢true (sym (uncovered (any_member (λ (c : Cover). c.covers b) (listed_covers (listed_in indexed)) x.cover listed n.covers))))

  -- where an entry is the newest one, its record is
  pub record_block : (e : Indexed) → newest cover_at indexed b ≡ Some e → (backed : IsBacked held e) → newest_block (extents_held held) b ≡ block_of backed.record_.head.first backed.record_.blocks b
  record_block e is backed =
      ap (λ (l : List Extent). newest_block l b) split.is
      ∙ live_is_newest split.front split.back (extent_of backed.record_) b (subst (λ (l : List Extent). AreDistinct (covers_of l)) split.is distinct) covers
      (ap (λ (l : List Extent). has_newer (covers_of l) backed.record_.head.version b) (sym split.is) ∙ none_newer (has_newer (covers_of (extents_held held)) backed.record_.head.version b) refl)
    where
      r : Extent
      r = extent_of backed.record_

      split : Around (extents_held held) (extent_of backed.record_)
      split = around_of (extents_held held) (extent_of backed.record_) (extent_among held backed.segment backed.record_ backed.is_held (member_of backed.segment.records backed.record_ backed.k backed.is_there))

      same : cover_of e.listed ≡ (extent_of backed.record_).cover
      same = same_cover backed.segment backed.k backed.record_ e backed.is_its

      covers : (extent_of backed.record_).cover.covers b ≡ true
      covers = ap (λ (c : Cover). c.covers b) (sym same) ∙ (newest_is cover_at indexed b e is).covers

      none_newer : (t : Bool) → has_newer (covers_of (extents_held held)) backed.record_.head.version b ≡ t → has_newer (covers_of (extents_held held)) backed.record_.head.version b ≡ false
      none_newer false newer = newer
      none_newer true newer =
          let found = any_found (λ (c : Cover). c.covers b && ltb backed.record_.head.version c.version) (covers_of (extents_held held)) newer in
          let parts = both (found.item.covers b) (ltb backed.record_.head.version found.item.version) found.passes in
          let listed = held_is_listed held indexed found.item index found.among (b, parts.0) in
          let above_it : has_newer (listed_covers (listed_in indexed)) backed.record_.head.version b ≡ true = any_member (λ (c : Cover). c.covers b && ltb backed.record_.head.version c.version) (listed_covers (listed_in indexed)) found.item listed found.passes in
          let is_above : has_newer (listed_covers (listed_in indexed)) backed.record_.head.version b ≡ ltb backed.record_.head.version e.listed.version =
          newer_is_above cover_of (listed_in indexed) backed.record_.head.version b
          ∙ ap (above cover_of backed.record_.head.version) (newest_listed indexed b ∙ ap (option_map (λ (d : Indexed). d.listed)) is) in
          let lt : backed.record_.head.version < e.listed.version = ltb-true backed.record_.head.version e.listed.version (sym is_above ∙ above_it) in
          let version : e.listed.version ≡ backed.record_.head.version = backed.is_its.version in
          absurd (omega arith)

-- ---- a run of blocks

take_covered : (n k : ℕ) (a : List Block) (f : ℕ → Option Block) (blocks : List Block) → n ≤ length a → n ≤ length blocks → ((i : ℕ) → i < n → f (k + i) ≡ slice_get blocks i) → take n (overlaid_from k a f) ≡ take n blocks
take_covered zero k a f blocks long enough is = refl
take_covered (suc n) k [] f blocks long enough is = absurd (omega arith)
take_covered (suc n) k (x ∷ a) f [] long enough is = absurd (omega arith)
take_covered (suc n) k (x ∷ a) f (y ∷ blocks) long enough is =
    let here : f k ≡ Some y = let e : k + 0 ≡ k = omega arith in rw e at (is 0 (omega arith)) in
    let rest : take n (overlaid_from (k + 1) a f) ≡ take n blocks = take_covered n (k + 1) a f blocks (omega arith) (omega arith) (λ i lt. let e : k + 1 + i ≡ k + suc i = omega arith in rw e (is (suc i) (omega arith))) in
    λ j. unwrap_or (here j) x ∷ rest j

take_bare : (n k : ℕ) (a : List Block) (f : ℕ → Option Block) → ((i : ℕ) → i < n → f (k + i) ≡ None) → take n (overlaid_from k a f) ≡ take n a
take_bare zero k a f none = refl
take_bare (suc n) k [] f none = refl
take_bare (suc n) k (x ∷ a) f none =
    let here : f k ≡ None = let e : k + 0 ≡ k = omega arith in rw e at (none 0 (omega arith)) in
    let rest : take n (overlaid_from (k + 1) a f) ≡ take n a = take_bare n (k + 1) a f (λ i lt. let e : k + 1 + i ≡ k + suc i = omega arith in rw e (none (suc i) (omega arith))) in
    λ j. unwrap_or (here j) x ∷ rest j

drop_overlaid : (d k : ℕ) (a : List Block) (f : ℕ → Option Block) → drop d (overlaid_from k a f) ≡ overlaid_from (k + d) (drop d a) f
drop_overlaid zero k a f = let e : k + 0 ≡ k = omega arith in rw e refl
drop_overlaid (suc d) k [] f = refl
drop_overlaid (suc d) k (x ∷ a) f = let e : k + suc d ≡ k + 1 + d = omega arith in rw e (drop_overlaid d (k + 1) a f)

get_dropped : {X : Type 0} (d : ℕ) (xs : List X) (i : ℕ) → slice_get (drop d xs) i ≡ slice_get xs (d + i)
get_dropped zero xs i = let e : 0 + i ≡ i = omega arith in rw e refl
get_dropped (suc d) [] i = refl
get_dropped (suc d) (x ∷ xs) i = let e : suc d + i ≡ suc (d + i) = omega arith in rw e (get_dropped d xs i)

-- a run that no record covers is home's
pub bare_run : (home : List Block) (rs : List Extent) (first n : ℕ) → ((b : ℕ) → first ≤ b → b < first + n → newest_block rs b ≡ None) → take n (drop first (with_extents home rs)) ≡ take n (drop first home)
unfolding with_extents
bare_run home rs first n none = ap (take n) (drop_overlaid first 0 home (newest_block rs)) ∙ take_bare n (0 + first) (drop first home) (newest_block rs) (λ i lt. none (0 + first + i) (omega arith) (omega arith))

-- a run of which one row of blocks is the newest is that part of the row
pub row_run : (home : List Block) (rs : List Extent) (first n at : ℕ) (row : List Block) → first + n ≤ length home → at ≤ first → first + n ≤ at + length row
    → ((b : ℕ) → first ≤ b → b < first + n → newest_block rs b ≡ block_of at row b) → take n (drop first (with_extents home rs)) ≡ take n (drop (first - at) row)
unfolding with_extents
row_run home rs first n at row long le within is = ap (take n) (drop_overlaid first 0 home (newest_block rs))
    ∙ take_covered n (0 + first) (drop first home) (newest_block rs) (drop (first - at) row) (omega (arith, length-drop first home)) (omega (arith, length-drop (first - at) row))
    (λ i lt. is (0 + first + i) (omega arith) (omega arith) ∙ in_row i)
  where
    in_row : (i : ℕ) → block_of at row (0 + first + i) ≡ slice_get (drop (first - at) row) i
    in_row i =
        let le' : leb at (0 + first + i) ≡ true = le-leb at (0 + first + i) (omega arith) in
        let e : 0 + first + i - at ≡ first - at + i = omega arith in
        rw (le', e) (sym (get_dropped (first - at) row i))

-- ---- sources

module _ (es : List Indexed) (first n : ℕ) where
  -- blocks that are read at home
  pub bare_source : IsSource es first n None → (b : ℕ) → first ≤ b → b < first + n → newest cover_at es b ≡ None
  bare_source source b le lt = unanswered (newest cover_at es b) (source b le lt)

  pub bare_run_of : IsSource es first n None → IsBareRun (listed_in es) first n
  bare_run_of source b le lt = newest_listed es b ∙ ap (option_map (λ (e : Indexed). e.listed)) (bare_source source b le lt)

  -- blocks that are read in a record
  pub entry_for : (r : Rec) → IsSource es first n (Some r) → (b : ℕ) → first ≤ b → b < first + n → Answered (newest cover_at es b) r
  entry_for r source b le lt = answered (newest cover_at es b) r (source b le lt)

  pub lane_run_of : (r : Rec) → IsSource es first n (Some r) → IsLaneRun (listed_in es) r.lane first n
  lane_run_of r source b le lt = let a = entry_for r source b le lt in
      (a.entry.listed, newest_listed es b ∙ ap (option_map (λ (e : Indexed). e.listed)) a.is, sym a.record_.lane)

  -- how many of them are covered
  pub bare_count : IsSource es first n None → count_by (is_covered (listed_in es)) (range_with_len first n) ≡ 0
  bare_count source = count_none (is_covered (listed_in es)) first n (λ b le lt. covered_is (listed_in es) b ∙ ap is_some (bare_run_of source b le lt))

  pub log_count : (r : Rec) → IsSource es first n (Some r) → count_by (is_covered (listed_in es)) (range_with_len first n) ≡ n
  log_count r source = count_all (is_covered (listed_in es)) first n (λ b le lt. covered_is (listed_in es) b ∙ ap is_some (lane_run_of r source b le lt).1)

  -- they lie in the record's range
  pub in_record : (r : Rec) → IsSource es first n (Some r) → (b : ℕ) → first ≤ b → b < first + n → (r.lbn ≤ b) × (b < r.lbn + r.count)
  in_record r source b le lt =
      let a = entry_for r source b le lt in
      let w = marked_within a.entry.listed.first a.entry.listed.keep b (newest_is cover_at es b a.entry a.is).covers in
      let f : r.lbn ≡ a.entry.listed.first = a.record_.first in
      let c : r.count ≡ length a.entry.listed.keep = a.record_.count in
      (omega (arith, w.0), omega (arith, w.1))

-- entries of one version are the same
pub same_version : (es : List Indexed) (d e : Indexed) → AreRising (map (λ (x : Indexed). x.listed.version) es) → Contains es d → Contains es e → d.listed.version ≡ e.listed.version → d ≡ e
same_version [] d e rising has has' same = absurd (let lt = has.1 in omega arith)
same_version (x ∷ es) d e rising has has' same = ⊎_elim
    (λ here. ⊎_elim (λ here'. sym here ∙ here')
    (λ there'. let lt : x.listed.version < e.listed.version = later e there' in let v : x.listed.version ≡ d.listed.version = ap (λ (z : Indexed). z.listed.version) here in absurd (omega arith))
    (member_front x es e has'))
    (λ there. ⊎_elim
    (λ here'. let lt : x.listed.version < d.listed.version = later d there in let v : x.listed.version ≡ e.listed.version = ap (λ (z : Indexed). z.listed.version) here' in absurd (omega arith))
    (λ there'. same_version es d e rising.1 there there' same)
    (member_front x es e has'))
    (member_front x es d has)
  where
    later : (y : Indexed) → Contains es y → x.listed.version < y.listed.version
    later y there = all_member (λ (v : ℕ). x.listed.version < v) (map (λ (z : Indexed). z.listed.version) es) y.listed.version rising.0 (member_map (λ (z : Indexed). z.listed.version) es y there)

-- ---- the blocks of a mask, each as a write of its own

abbrev pub puts_from : (i first mask : ℕ) → List Block → List Write
puts_from i first mask [] = []
puts_from i first mask (x ∷ xs) = cond (has_bit mask i) (record { first = first; blocks = x ∷ []; version = None } ∷ puts_from (i + 1) (first + 1) mask xs) (puts_from (i + 1) (first + 1) mask xs)

no_block : (t : Bool) → cond {A = Option Block} t None None ≡ None
no_block true = refl
no_block false = refl

last_more : (i first mask : ℕ) (x : Block) (xs : List Block) (b : ℕ)
    → last_written (puts_from (i + 1) (first + 1) mask xs) b ≡ cond (leb (first + 1) b && has_bit mask (i + 1 + (b - (first + 1)))) (slice_get xs (b - (first + 1))) None
    → last_written (puts_from i first mask (x ∷ xs)) b ≡ cond (leb first b && has_bit mask (i + (b - first))) (slice_get (x ∷ xs) (b - first)) None
last_more i first mask x xs b rest = ⊎_elim before (λ le. ⊎_elim (λ lt. behind lt) (λ ge. here (omega arith)) (cases_lt first b)) (cases_lt b first)
  where
    all : (o : Option Block) → last_written (puts_from (i + 1) (first + 1) mask xs) b ≡ o → block_of first (x ∷ []) b ≡ None → last_written (puts_from i first mask (x ∷ xs)) b ≡ o
    all o is none = by (has_bit mask i)
      where
        by : (t : Bool) → last_written (cond t (record { first = first; blocks = x ∷ []; version = None } ∷ puts_from (i + 1) (first + 1) mask xs) (puts_from (i + 1) (first + 1) mask xs)) b ≡ o
        by true = ap (λ (p : Option Block). option_or p (block_of first (x ∷ []) b)) is ∙ ap (option_or o) none ∙ or_none o
        by false = is

    later : (t : Bool) → leb (first + 1) b ≡ t → last_written (puts_from (i + 1) (first + 1) mask xs) b ≡ cond (t && has_bit mask (i + 1 + (b - (first + 1)))) (slice_get xs (b - (first + 1))) None
    later t is = rest ∙ ap (λ (u : Bool). cond (u && has_bit mask (i + 1 + (b - (first + 1)))) (slice_get xs (b - (first + 1))) None) is

    before : b < first → last_written (puts_from i first mask (x ∷ xs)) b ≡ cond (leb first b && has_bit mask (i + (b - first))) (slice_get (x ∷ xs) (b - first)) None
    before lt =
        let none : leb first b ≡ false = lt-leb first b lt in
        all None (later false (lt-leb (first + 1) b (omega arith))) (ap (λ (t : Bool). cond t (slice_get (x ∷ []) (b - first)) None) none)
        ∙ sym (ap (λ (t : Bool). cond (t && has_bit mask (i + (b - first))) (slice_get (x ∷ xs) (b - first)) None) none)

    here : b ≡ first → last_written (puts_from i first mask (x ∷ xs)) b ≡ cond (leb first b && has_bit mask (i + (b - first))) (slice_get (x ∷ xs) (b - first)) None
    here is =
        let none : last_written (puts_from (i + 1) (first + 1) mask xs) b ≡ None = later false (lt-leb (first + 1) b (omega arith)) in
        let there : leb first b ≡ true = le-leb first b (omega arith) in
        let zero_ : b - first ≡ 0 = omega arith in
        let place : i + 0 ≡ i = omega arith in
        rw (there, zero_, place) (by (has_bit mask i) none there zero_)
      where
        by : (t : Bool) → last_written (puts_from (i + 1) (first + 1) mask xs) b ≡ None → leb first b ≡ true → b - first ≡ 0
            → last_written (cond t (record { first = first; blocks = x ∷ []; version = None } ∷ puts_from (i + 1) (first + 1) mask xs) (puts_from (i + 1) (first + 1) mask xs)) b ≡ cond t (Some x) None
        by true none there zero_ = ap (λ (p : Option Block). option_or p (block_of first (x ∷ []) b)) none ∙ (λ j. cond (there j) (slice_get (x ∷ []) (zero_ j)) None)
        by false none there zero_ = none

    behind : first < b → last_written (puts_from i first mask (x ∷ xs)) b ≡ cond (leb first b && has_bit mask (i + (b - first))) (slice_get (x ∷ xs) (b - first)) None
    behind lt =
        let further : b - first ≡ suc (b - (first + 1)) = omega arith in
        let bit : i + (b - first) ≡ i + 1 + (b - (first + 1)) = omega arith in
        let there : leb first b ≡ true = le-leb first b (omega arith) in
        let there' : leb (first + 1) b ≡ true = le-leb (first + 1) b (omega arith) in
        all (cond (true && has_bit mask (i + 1 + (b - (first + 1)))) (slice_get xs (b - (first + 1))) None) (later true there') ((λ j. cond (there j) (slice_get (x ∷ []) (further j)) None))
        ∙ sym (λ j. cond (there j && has_bit mask (bit j)) (slice_get (x ∷ xs) (further j)) None)

last_from : (i first mask : ℕ) (xs : List Block) (b : ℕ) → last_written (puts_from i first mask xs) b ≡ cond (leb first b && has_bit mask (i + (b - first))) (slice_get xs (b - first)) None
last_from i first mask [] b = sym (no_block (leb first b && has_bit mask (i + (b - first))))
last_from i first mask (x ∷ xs) b = last_more i first mask x xs b (last_from (i + 1) (first + 1) mask xs b)

-- what the last of them has for a block is what is put there
pub last_put : (first mask : ℕ) (blocks : List Block) (b : ℕ) → last_written (puts_from 0 first mask blocks) b ≡ put_block first mask blocks b
last_put first mask blocks b = last_from 0 first mask blocks b ∙ at (leb first b) refl
  where
    at : (t : Bool) → leb first b ≡ t → cond (leb first b && has_bit mask (0 + (b - first))) (slice_get blocks (b - first)) None ≡ put_block first mask blocks b
    at true is = let e : 0 + (b - first) ≡ b - first = omega arith in rw (is, e) refl
    at false is = rw is refl

-- ---- writes of one version

all_version : (P : ℕ → Type 0) (ws : List Write) (w : Write) (n : ℕ) → AllByRecursion P (versions ws) → Contains ws w → w.version ≡ Some n → P n
all_version P [] w n all has is = absurd (let lt = has.1 in omega arith)
all_version P (x ∷ ws) w n all (zero, lt, same) is = by x.version (ap (λ (u : Write). u.version) same ∙ is) all
  where
    by : (o : Option ℕ) → o ≡ Some n → AllByRecursion P (cons_option o (versions ws)) → P n
    by None none each = absurd (none-some n none)
    by (Some u) some each = subst P (same_Some u n some) each.0
all_version P (x ∷ ws) w n all (suc k, lt, same) is = all_version P ws w n (rest x.version all) (k, omega arith, same) is
  where
    rest : (o : Option ℕ) → AllByRecursion P (cons_option o (versions ws)) → AllByRecursion P (versions ws)
    rest None each = each
    rest (Some u) each = each.1

pub same_write : (ws : List Write) (v w : Write) (n : ℕ) → AreApart (versions ws) → Contains ws v → Contains ws w → v.version ≡ Some n → w.version ≡ Some n → v ≡ w
same_write [] v w n apart has has' is is' = absurd (let lt = has.1 in omega arith)
same_write (x ∷ ws) v w n apart has has' is is' = ⊎_elim
    (λ here. ⊎_elim (λ here'. sym here ∙ here') (λ there'. absurd (both_ways w here is there' is')) (member_front x ws w has'))
    (λ there. ⊎_elim (λ here'. absurd (both_ways v here' is' there is)) (λ there'. same_write ws v w n (rest x.version apart) there there' is is') (member_front x ws w has'))
    (member_front x ws v has)
  where
    rest : (o : Option ℕ) → AreApart (cons_option o (versions ws)) → AreApart (versions ws)
    rest None a = a
    rest (Some u) a = a.1

    both_ways : {y : Write} (z : Write) → x ≡ y → y.version ≡ Some n → Contains ws z → z.version ≡ Some n → ⊥
    both_ways {y} z here version has_z version' = by x.version (ap (λ (u : Write). u.version) here ∙ version) apart
      where
        by : (o : Option ℕ) → o ≡ Some n → AreApart (cons_option o (versions ws)) → ⊥
        by None none a = absurd (none-some n none)
        by (Some u) some a = all_version (λ k. u ≢ k) ws z n a.0 has_z version' (same_Some u n some)

-- ---- a live block

-- what the newest record has for a live block of an entry is what the entry's record has
pub live_block : {P : Type 0} (held : List (Held P)) (indexed : List Indexed) (index : IsIndexOf indexed held) (distinct : AreDistinct (covers_of (extents_held held))) (e : Indexed) (backed : IsBacked held e) (b : ℕ)
    → is_live (listed_in indexed) e.listed b ≡ true → newest_block (extents_held held) b ≡ block_of backed.record_.head.first backed.record_.blocks b
live_block {P} held indexed index distinct e backed b live =
    ap (λ (l : List Extent). newest_block l b) split.is
    ∙ live_is_newest split.front split.back (extent_of backed.record_) b (subst (λ (l : List Extent). AreDistinct (covers_of l)) split.is distinct) covers
    (ap (λ (l : List Extent). has_newer (covers_of l) backed.record_.head.version b) (sym split.is) ∙ none_newer (has_newer (covers_of (extents_held held)) backed.record_.head.version b) refl)
  where
    split : Around (extents_held held) (extent_of backed.record_)
    split = around_of (extents_held held) (extent_of backed.record_) (extent_among held backed.segment backed.record_ backed.is_held (member_of backed.segment.records backed.record_ backed.k backed.is_there))

    same : cover_of e.listed ≡ (extent_of backed.record_).cover
    same = same_cover backed.segment backed.k backed.record_ e backed.is_its

    parts : ((cover_of e.listed).covers b ≡ true) × (not (has_newer (listed_covers (listed_in indexed)) e.listed.version b) ≡ true)
    parts = both ((cover_of e.listed).covers b) (not (has_newer (listed_covers (listed_in indexed)) e.listed.version b)) live

    covers : (extent_of backed.record_).cover.covers b ≡ true
    covers = ap (λ (c : Cover). c.covers b) (sym same) ∙ parts.0

    none_newer : (t : Bool) → has_newer (covers_of (extents_held held)) backed.record_.head.version b ≡ t → has_newer (covers_of (extents_held held)) backed.record_.head.version b ≡ false
    none_newer false newer = newer
    none_newer true newer =
        let found = any_found (λ (c : Cover). c.covers b && ltb backed.record_.head.version c.version) (covers_of (extents_held held)) newer in
        let passes = both (found.item.covers b) (ltb backed.record_.head.version found.item.version) found.passes in
        let listed = held_is_listed held indexed found.item index found.among (b, passes.0) in
        let above_it : has_newer (listed_covers (listed_in indexed)) backed.record_.head.version b ≡ true = any_member (λ (c : Cover). c.covers b && ltb backed.record_.head.version c.version) (listed_covers (listed_in indexed)) found.item listed found.passes in
        let above_e : has_newer (listed_covers (listed_in indexed)) e.listed.version b ≡ true = ap (λ (v : ℕ). has_newer (listed_covers (listed_in indexed)) v b) backed.is_its.version ∙ above_it in
        absurd (false≢true (sym (not_true (has_newer (listed_covers (listed_in indexed)) e.listed.version b) parts.1) ∙ above_e))
