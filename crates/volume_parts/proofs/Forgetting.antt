-- A segment is given up with all its records: they leave the index one after another.
use Rattle.std.proofs.Common.{◌≡◌, ◌⊎◌, inl, inr, ⊎_elim, ◌<◌, ◌≤◌, ◌+◌, ◌^◌, ℕ, zero, suc, Bool, true, false, cond, not, ◌&&◌, ◌||◌, List, [], ◌∷◌, ◌++◌, length, Option, Some, None, refl, sym, ap, subst, ◌∙◌, arith, eqb, leb, ltb, bit_and}
use Rattle.std.specs.Prelude.{Contains, IfSome, IsSome, filter, slice_index_or, slice_set}
use Rattle.std.specs.Int.{bit_not, w128}
use Rattle.std.specs.List.{AllByRecursion, list_any}
use Rattle.std.specs.Option.{ForSome}
use Rattle.std.proofs.Math.Nat.{pow-le-pow_right}
use Rattle.std.proofs.lemmas.Bool.{false≢true, eq-eqb, ne_eqb, eqb-true, cases_eq, cases_lt, le-leb, leb-true, lt-ltb}
use Rattle.std.proofs.lemmas.List.Elements.{filter-append}
use Rattle.std.proofs.lemmas.Option.{none-some, same_Some}
use Rattle.wol_model.specs.Extents.{has_newer, has_older}
use Rattle.wol_model.specs.Index.{Indexed, block_numbers, cover_of, goes, has_going, is_homed, keeping, keeps_a_block, listed_covers, listed_in}
use Rattle.wol_model.specs.Log.{has_bit}
use Rattle.wol_model.proofs.Counts.{both, either}
use Rattle.wol_promise.proofs.Covers.{any_found, any_member}
use Rattle.wol_promise.proofs.GiveUps.{newer_in}
use Rattle.wol_promise.proofs.Lists.{all_back, all_front, all_insert, all_map, all_member, member_behind, member_front}
use Rattle.wol_promise.proofs.Wholes.{member_filter, member_unfilter, one_newer}
use Rattle.block_cells.specs.Masks.{IsMask}
use Rattle.block_cells.specs.declared.record.Rec.{Rec}
use Rattle.block_cells.proofs.Bits.{some_bit}
use Rattle.redirect_map.specs.Index.{IsAnswer, IsEntry, IsIndex, changed, entry_at, given_up, has_version}
use Rattle.garbage_list.proofs.Going.{keep_is, some_block}
use Rattle.volume_parts.specs.Changes.{AllGoIn, GoesIn, NoneLiveIn, lies_elsewhere, stays_behind, with_kept}
use Rattle.volume_parts.specs.Entries.{entries_at}
use Rattle.volume_parts.proofs.Entries.{count_mid, one_there, At, Found, among, entry_in, entry_of_version, some_of, given_is, given_list, keep_bits, keep_within, keeps_is, covered_where}

-- the entry of a version is among them
found_among : (es : List Indexed) (version : ℕ) (e : Indexed) → entry_at es version ≡ Some e → Contains es e
found_among [] version e found = absurd (none-some e found)
found_among (x ∷ es) version e found = at (has_version version x) found (found_among es version e)
  where
    at : (t : Bool) → cond t (Some x) (entry_at es version) ≡ Some e → (entry_at es version ≡ Some e → Contains es e) → Contains (x ∷ es) e
    at true is rest = (0, omega arith, same_Some x e is)
    at false is rest = member_behind x es e (rest is)

-- an entry that lies in the segment lies in its lane
pub lane_of : (lane index : ℕ) (d : Indexed) → lies_elsewhere lane index d ≡ false → d.listed.lane ≡ lane
lane_of lane index d leaves = eqb-true d.listed.lane lane (first (eqb d.listed.lane lane) (eqb d.index index) leaves)
  where
    first : (s t : Bool) → not (s && t) ≡ false → s ≡ true
    first true t is = refl
    first false t is = absurd (false≢true (sym is))

lt-leb : (m n : ℕ) → n < m → leb m n ≡ false
lt-leb m n lt = at (leb m n) refl
  where
    at : (t : Bool) → leb m n ≡ t → leb m n ≡ false
    at true is = absurd (let le = leb-true m n is in omega (arith, lt, le))
    at false is = is

-- ---- filters

filter_agree : {X : Type 0} (p q : X → Bool) (xs : List X) → ((x : X) → Contains xs x → p x ≡ q x) → filter p xs ≡ filter q xs
filter_agree p q [] same = refl
filter_agree p q (x ∷ xs) same = (λ i. cond (same x (0, omega arith, refl) i) (x ∷ filter_agree p q xs (λ y has. same y (member_behind x xs y has)) i) (filter_agree p q xs (λ y has. same y (member_behind x xs y has)) i))

filter_all : {X : Type 0} (p : X → Bool) (xs : List X) → AllByRecursion (λ x. p x ≡ true) xs → filter p xs ≡ xs
filter_all p [] all = refl
filter_all p (x ∷ xs) all = (λ i. cond (all.0 i) (x ∷ filter_all p xs all.1 i) (filter_all p xs all.1 i))

filter_twice : {X : Type 0} (p q : X → Bool) (xs : List X) → filter p (filter q xs) ≡ filter (λ x. q x && p x) xs
filter_twice p q [] = refl
filter_twice p q (x ∷ xs) = at (q x) (filter_twice p q xs)
  where
    at : (t : Bool) → filter p (filter q xs) ≡ filter (λ y. q y && p y) xs → filter p (cond t (x ∷ filter q xs) (filter q xs)) ≡ cond (t && p x) (x ∷ filter (λ y. q y && p y) xs) (filter (λ y. q y && p y) xs)
    at true rest = λ i. cond (p x) (x ∷ rest i) (rest i)
    at false rest = rest

each_member : {X : Type 0} (P : X → Type 0) (xs : List X) → ((x : X) → Contains xs x → P x) → AllByRecursion P xs
each_member P [] f = tt
each_member P (x ∷ xs) f = (f x (0, omega arith, refl), each_member P xs (λ y has. f y (member_behind x xs y has)))

later : (a b : Bool) → b ≡ true → (a || b) ≡ true
later true b is = refl
later false b is = is

is_true : (t : Bool) → not t ≡ false → t ≡ true
is_true true is = refl
is_true false is = absurd (false≢true (sym is))

-- ---- the record of one version

none_of : (version : ℕ) (es : List Indexed) → entry_at es version ≡ None → AllByRecursion (λ (d : Indexed). has_version version d ≡ false) es
none_of version [] none = tt
none_of version (x ∷ es) none = at (has_version version x) refl none (none_of version es)
  where
    at : (t : Bool) → has_version version x ≡ t → cond t (Some x) (entry_at es version) ≡ None → (entry_at es version ≡ None → AllByRecursion (λ (d : Indexed). has_version version d ≡ false) es) → AllByRecursion (λ (d : Indexed). has_version version d ≡ false) (x ∷ es)
    at true is found rest = absurd (none-some x (sym found))
    at false is found rest = (is, rest found)

pub none_answered : (es : List Indexed) (version : ℕ) → IsAnswer (entry_at es version) None → entry_at es version ≡ None
none_answered es version is = at (entry_at es version) is
  where
    at : (o : Option Indexed) → IsAnswer o None → o ≡ None
    at None a = refl
    at (Some e) a = absurd a

module _ (lane index version : ℕ) (es : List Indexed) where
  -- where there is none, all stay
  pub one_none : entry_at es version ≡ None → es ≡ filter (stays_behind lane index version) es
  one_none none = sym (filter_all (stays_behind lane index version) es (all_map (λ (d : Indexed). has_version version d ≡ false) (λ (d : Indexed). stays_behind lane index version d ≡ true)
      (λ d is. later (lies_elsewhere lane index d) (not (has_version version d)) (ap not is)) es (none_of version es none)))

  module _ (r : Rec) (f : Found es version r) (is_index : IsIndex es) where
    at : At es version f.entry
    at = entry_of_version es version f.entry is_index.rising f.is

    others_stay : AllByRecursion (λ (d : Indexed). stays_behind lane index version d ≡ true) (at.front ++ at.back)
    others_stay = all_map (λ (d : Indexed). has_version version d ≡ false) (λ (d : Indexed). stays_behind lane index version d ≡ true) (λ d is. later (lies_elsewhere lane index d) (not (has_version version d)) (ap not is)) (at.front ++ at.back) at.others

    -- a record of another segment stays
    pub one_past : (eqb r.lane lane && eqb r.segment index) ≡ false → es ≡ filter (stays_behind lane index version) es
    one_past other = sym (filter_all (stays_behind lane index version) es (subst (AllByRecursion (λ (d : Indexed). stays_behind lane index version d ≡ true)) (sym at.is)
        (all_insert (λ (d : Indexed). stays_behind lane index version d ≡ true) at.front f.entry at.back (ap (λ (t : Bool). t || not (has_version version f.entry)) stays) others_stay)))
      where
        stays : lies_elsewhere lane index f.entry ≡ true
        stays = (λ i. not (eqb (sym f.record_.lane i) lane && eqb (sym f.record_.segment i) index)) ∙ ap not other

    module _ (here : (eqb r.lane lane && eqb r.segment index) ≡ true) (goes_ : IfSome (entry_at es version) (GoesIn lane index es)) where
      leaves : lies_elsewhere lane index f.entry ≡ false
      leaves = (λ i. not (eqb (sym f.record_.lane i) lane && eqb (sym f.record_.segment i) index)) ∙ ap not here

      entry_is : IsEntry (listed_in es) f.entry.listed
      entry_is = entry_in es f.entry is_index (among at)

      all_of : (b : ℕ) → (cover_of f.entry.listed).covers b ≡ true → goes (listed_in es) f.entry.listed b ≡ true
      all_of = some_of (GoesIn lane index es) (entry_at es version) f.entry goes_ f.is leaves

      small : r.keep < 2 ^ 128
      small = let w = f.record_.within in let c = f.record_.count in let e = entry_is.count in let le : r.count ≤ 128 = omega (arith, c, e) in let more = pow-le-pow_right {n = 2} (omega arith) le in omega (arith, w, more)

      -- all that it keeps goes
      bits : IsMask f.entry.listed.first (goes (listed_in es) f.entry.listed) r.keep
      bits i = keep_is f.entry r f.record_ i ∙ whole ((cover_of f.entry.listed).covers (f.entry.listed.first + i))
          (has_newer (listed_covers (listed_in es)) f.entry.listed.version (f.entry.listed.first + i) || (is_homed f.entry.listed (f.entry.listed.first + i) && not (has_older (listed_covers (listed_in es)) f.entry.listed.version (f.entry.listed.first + i))))
          (all_of (f.entry.listed.first + i))
        where
          whole : (c rest : Bool) → (c ≡ true → (c && rest) ≡ true) → c ≡ (c && rest)
          whole true rest so = sym (so refl)
          whole false rest so = refl

      pub is_there : IsSome (entry_at es version)
      is_there = subst IsSome (sym f.is) refl

      pub keeps_some : 0 < r.keep
      keeps_some = ⊎_elim
          (λ (none_ : r.keep ≡ 0). absurd (false≢true (ap not (sym (eq-eqb r.keep 0 none_)) ∙ some_block f.entry.listed (cover_of f.entry.listed).covers r.keep small (keep_is f.entry r f.record_) (λ x covers. covers) ∙ entry_is.keeps)))
          (λ (some : r.keep ≡ 0 → ⊥). omega (arith, some))
          (cases_eq r.keep 0)

      pub all_goes : ForSome (entry_at es version) (λ e. (i : ℕ) → has_bit r.keep i ≡ true → goes (listed_in es) e.listed (e.listed.first + i) ≡ true)
      all_goes e is = let same = same_Some f.entry e (sym f.is ∙ is) in
          subst (λ (d : Indexed). (i : ℕ) → has_bit r.keep i ≡ true → goes (listed_in es) d.listed (d.listed.first + i) ≡ true) same (λ i bit. sym (bits i) ∙ bit)

      -- it keeps nothing then
      nothing : bit_and r.keep (bit_not w128 r.keep) ≡ 0
      nothing = ⊎_elim (λ is. is)
          (λ (some : bit_and r.keep (bit_not w128 r.keep) ≡ 0 → ⊥).
          let le = keep_within es f.entry r f.record_ entry_is.count r.keep small bits in
          let w = f.record_.count in let e = entry_is.count in let short : r.count ≤ 128 = omega (arith, w, e) in let more = pow-le-pow_right {n = 2} (omega arith) short in
          let one = some_bit (bit_and r.keep (bit_not w128 r.keep)) (omega (arith, some)) (omega (arith, le, more)) in
          absurd (false≢true (sym (keep_bits es f.entry r f.record_ entry_is.count r.keep small bits one.0 ∙ apart (has_bit r.keep one.0) (goes (listed_in es) f.entry.listed (f.entry.listed.first + one.0)) (bits one.0)) ∙ one.1)))
          (cases_eq (bit_and r.keep (bit_not w128 r.keep)) 0)
        where
          apart : (s t : Bool) → s ≡ t → (s && not t) ≡ false
          apart true t same = ap not (sym same)
          apart false t same = refl

      none_kept : keeps_a_block (keeping (listed_in es) f.entry.listed) ≡ false
      none_kept = sym (keeps_is es f.entry r f.record_ entry_is.count r.keep small bits) ∙ ap not (eq-eqb (bit_and r.keep (bit_not w128 r.keep)) 0 nothing)

      -- the entry is gone
      others_left : (then_ : List Indexed) → then_ ≡ filter (λ (d : Indexed). keeps_a_block d.listed) (changed version (given_up r.keep) es) → then_ ≡ at.front ++ at.back
      others_left then_ is = is
          ∙ ap (filter (λ (d : Indexed). keeps_a_block d.listed)) (at.then_is (given_up r.keep) ∙ (λ i. at.front ++ given_is es f.entry r f.record_ entry_is.count r.keep small bits i ∷ at.back) ∙ sym (at.then_is (with_kept es)))
          ∙ given_list es version f.entry is_index at false none_kept

      -- the segment has one record less
      pub one_counted : (then_ : List Indexed) → then_ ≡ filter (λ (d : Indexed). keeps_a_block d.listed) (changed version (given_up r.keep) es) → entries_at lane index es ≡ entries_at lane index then_ + 1
      one_counted then_ is = ap (entries_at lane index) at.is ∙ count_mid (λ (d : Indexed). eqb d.listed.lane lane && eqb d.index index) at.front f.entry at.back
          ∙ (λ i. entries_at lane index (sym (others_left then_ is) i) + cond (is_here i) 1 0)
        where
          is_here : (eqb f.entry.listed.lane lane && eqb f.entry.index index) ≡ true
          is_here = (λ i. eqb (sym f.record_.lane i) lane && eqb (sym f.record_.segment i) index) ∙ here

      pub one_gone : (then_ : List Indexed) → then_ ≡ filter (λ (d : Indexed). keeps_a_block d.listed) (changed version (given_up r.keep) es) → then_ ≡ filter (stays_behind lane index version) es
      one_gone then_ is = others_left then_ is
          ∙ sym (ap (filter (stays_behind lane index version)) at.is ∙ filter-append (stays_behind lane index version) at.front (f.entry ∷ at.back)
          ∙ (λ i. filter_all (stays_behind lane index version) at.front (all_front (λ (d : Indexed). stays_behind lane index version d ≡ true) at.front at.back others_stay) i
          ++ cond (gone i) (f.entry ∷ filter (stays_behind lane index version) at.back) (filter_all (stays_behind lane index version) at.back (all_back (λ (d : Indexed). stays_behind lane index version d ≡ true) at.front at.back others_stay) i)))
        where
          gone : stays_behind lane index version f.entry ≡ false
          gone = (λ i. leaves i || not (eq-eqb f.entry.listed.version version at.version_is i))

-- a flag that was set
pub flag_set : (us : List Bool) (k : ℕ) → k < length us → slice_index_or (slice_set us k true) k false ≡ true
flag_set [] k lt = absurd (omega (arith, lt))
flag_set (u ∷ us) zero lt = refl
flag_set (u ∷ us) (suc k) lt = flag_set us k (omega (arith, lt))

-- ---- what entries go

pub older_in : (es : List Indexed) (v b : ℕ) → has_older (listed_covers (listed_in es)) v b ≡ list_any (λ (d : Indexed). (cover_of d.listed).covers b && ltb d.listed.version v) es
older_in [] v b = refl
older_in (e ∷ es) v b = λ i. ((cover_of e.listed).covers b && ltb e.listed.version v) || older_in es v b i

-- what is among those that pass passes
member_passes : {X : Type 0} (p : X → Bool) (xs : List X) (x : X) → Contains (filter p xs) x → p x ≡ true
member_passes {X} p [] x has = absurd (let lt = has.1 in omega arith)
member_passes {X} p (y ∷ ys) x has = at (p y) refl (member_passes p ys x) has
  where
    at : (t : Bool) → p y ≡ t → (Contains (filter p ys) x → p x ≡ true) → Contains (cond t (y ∷ filter p ys) (filter p ys)) x → p x ≡ true
    at true is rest has = ⊎_elim (λ (same : y ≡ x). ap p (sym same) ∙ is) (λ there. rest there) (member_front y (filter p ys) x has)
    at false is rest has = rest has

-- where no record in the segment has a live block, all that they keep may go
pub none_live_go : (lane index : ℕ) (es : List Indexed) → NoneLiveIn lane index es → AllGoIn lane index es
none_live_go lane index es none = each_member (GoesIn lane index es) es (λ d has leaves b keeps.
    let newer = all_member (λ (e : Indexed). lies_elsewhere lane index e ≡ false → (cover_of e.listed).covers b ≡ true → has_newer (listed_covers (listed_in es)) e.listed.version b ≡ true) es d (covered_where lane index es none b) has leaves keeps in
    (λ i. keeps i && (newer i || (is_homed d.listed b && not (has_older (listed_covers (listed_in es)) d.listed.version b)))))

-- ---- underway

-- the entries of the segment of lesser versions are gone
abbrev pub left_from : (lane index from : ℕ) → Indexed → Bool
left_from lane index from e = lies_elsewhere lane index e || leb from e.listed.version

module _ (lane index : ℕ) (old : List Indexed) (go : AllGoIn lane index old) where
  pub forgetting_none : old ≡ filter (left_from lane index 0) old
  forgetting_none = sym (filter_all (left_from lane index 0) old (each_member (λ (d : Indexed). left_from lane index 0 d ≡ true) old (λ d has. later (lies_elsewhere lane index d) (leb 0 d.listed.version) (le-leb 0 d.listed.version (omega arith)))))

  module _ (from : ℕ) (now : List Indexed) (is : now ≡ filter (left_from lane index from) old) where
    here_still : (d : Indexed) → Contains old d → left_from lane index from d ≡ true → Contains now d
    here_still d has stays = subst (λ (l : List Indexed). Contains l d) (sym is) (member_filter (left_from lane index from) old d has stays)

    was_there : (d : Indexed) → Contains now d → Contains old d
    was_there d has = member_unfilter (left_from lane index from) old d (subst (λ (l : List Indexed). Contains l d) is has)

    -- an entry of the segment that is left has no lesser version
    at_least : (d : Indexed) → Contains now d → lies_elsewhere lane index d ≡ false → from ≤ d.listed.version
    at_least d has leaves = leb-true from d.listed.version (second (lies_elsewhere lane index d) (leb from d.listed.version) leaves (member_passes (left_from lane index from) old d (subst (λ (l : List Indexed). Contains l d) is has)))
      where
        second : (s t : Bool) → s ≡ false → (s || t) ≡ true → t ≡ true
        second false t leaves_ passes = passes
        second true t leaves_ passes = absurd (false≢true (sym leaves_))

    -- a newer entry of such a block is there still
    newer_still : (d : Indexed) → Contains now d → lies_elsewhere lane index d ≡ false → (b : ℕ) → has_newer (listed_covers (listed_in old)) d.listed.version b ≡ true → has_newer (listed_covers (listed_in now)) d.listed.version b ≡ true
    newer_still d has leaves b newer =
        let a = one_newer old d.listed.version b newer in let least = at_least d has leaves in let more = a.newer in
        newer_in now d.listed.version b
        ∙ any_member (λ (e : Indexed). (cover_of e.listed).covers b && ltb d.listed.version e.listed.version) now a.entry
        (here_still a.entry a.among (later (lies_elsewhere lane index a.entry) (leb from a.entry.listed.version) (le-leb from a.entry.listed.version (omega (arith, least, more)))))
        (λ i. a.keeps i && lt-ltb d.listed.version a.entry.listed.version a.newer i)

    -- and none that is older was added
    older_before : (version b : ℕ) → has_older (listed_covers (listed_in now)) version b ≡ true → has_older (listed_covers (listed_in old)) version b ≡ true
    older_before version b older =
        let f = any_found (λ (e : Indexed). (cover_of e.listed).covers b && ltb e.listed.version version) now (sym (older_in now version b) ∙ older) in
        older_in old version b ∙ any_member (λ (e : Indexed). (cover_of e.listed).covers b && ltb e.listed.version version) old f.item (was_there f.item f.among) f.passes

    goes_still : (d : Indexed) → Contains now d → GoesIn lane index now d
    goes_still d has leaves b keeps =
        let was = both ((cover_of d.listed).covers b) (has_newer (listed_covers (listed_in old)) d.listed.version b || (is_homed d.listed b && not (has_older (listed_covers (listed_in old)) d.listed.version b)))
        (all_member (GoesIn lane index old) old d go (was_there d has) leaves b keeps) in
        (λ i. keeps i && why (either (has_newer (listed_covers (listed_in old)) d.listed.version b) (is_homed d.listed b && not (has_older (listed_covers (listed_in old)) d.listed.version b)) was.1) i)
      where
        no_older : (s t : Bool) → (t ≡ true → s ≡ true) → not s ≡ true → not t ≡ true
        no_older true s so none = absurd (false≢true none)
        no_older false true so none = absurd (false≢true (so refl))
        no_older false false so none = refl

        why : (has_newer (listed_covers (listed_in old)) d.listed.version b ≡ true) ⊎ ((is_homed d.listed b && not (has_older (listed_covers (listed_in old)) d.listed.version b)) ≡ true)
            → (has_newer (listed_covers (listed_in now)) d.listed.version b || (is_homed d.listed b && not (has_older (listed_covers (listed_in now)) d.listed.version b))) ≡ true
        why (inl newer) = λ i. newer_still d has leaves b newer i || (is_homed d.listed b && not (has_older (listed_covers (listed_in now)) d.listed.version b))
        why (inr home) =
            let parts = both (is_homed d.listed b) (not (has_older (listed_covers (listed_in old)) d.listed.version b)) home in
            later (has_newer (listed_covers (listed_in now)) d.listed.version b) (is_homed d.listed b && not (has_older (listed_covers (listed_in now)) d.listed.version b))
            (λ i. parts.0 i && no_older (has_older (listed_covers (listed_in old)) d.listed.version b) (has_older (listed_covers (listed_in now)) d.listed.version b) (older_before d.listed.version b) parts.1 i)

    pub one_goes : (version : ℕ) → IfSome (entry_at now version) (GoesIn lane index now)
    one_goes version = by (entry_at now version) refl
      where
        by : (o : Option Indexed) → entry_at now version ≡ o → IfSome o (GoesIn lane index now)
        by None none_ = tt
        by (Some e) found = goes_still e (found_among now version e found)

    -- so it has a block that goes
    going : IsIndex now → (d : Indexed) → Contains now d → lies_elsewhere lane index d ≡ false → has_going (listed_in now) d.listed ≡ true
    going is_index d has leaves =
        let f = any_found (cover_of d.listed).covers (block_numbers d.listed) (entry_in now d is_index has).keeps in
        any_member (goes (listed_in now) d.listed) (block_numbers d.listed) f.item f.among (goes_still d has leaves f.item f.passes)

    -- none of the segment is left where none is marked below a version that all are below
    none_left : IsIndex now → ((d : Indexed) → Contains now d → lies_elsewhere lane index d ≡ false → from ≤ d.listed.version → has_going (listed_in now) d.listed ≡ false) → now ≡ filter (lies_elsewhere lane index) old
    none_left is_index quiet = is ∙ filter_agree (left_from lane index from) (lies_elsewhere lane index) old (λ d has. at d has (lies_elsewhere lane index d) refl (leb from d.listed.version) refl)
      where
        at : (d : Indexed) → Contains old d → (t : Bool) → lies_elsewhere lane index d ≡ t → (s : Bool) → leb from d.listed.version ≡ s → (lies_elsewhere lane index d || leb from d.listed.version) ≡ lies_elsewhere lane index d
        at d has true t s le = (λ i. t i || leb from d.listed.version) ∙ sym t
        at d has false t false le = (λ i. lies_elsewhere lane index d || le i) ∙ or_no (lies_elsewhere lane index d)
          where
            or_no : (u : Bool) → (u || false) ≡ u
            or_no true = refl
            or_no false = refl
        at d has false t true le =
            let there = here_still d has (later (lies_elsewhere lane index d) (leb from d.listed.version) le) in
            absurd (false≢true (sym (quiet d there t (leb-true from d.listed.version le)) ∙ going is_index d there t))

    -- none is left where none is counted
    pub forgetting_counted : entries_at lane index now ≡ 0 → now ≡ filter (lies_elsewhere lane index) old
    forgetting_counted none_ = is ∙ filter_agree (left_from lane index from) (lies_elsewhere lane index) old (λ d has. at d has (lies_elsewhere lane index d) refl (leb from d.listed.version) refl)
      where
        at : (d : Indexed) → Contains old d → (t : Bool) → lies_elsewhere lane index d ≡ t → (s : Bool) → leb from d.listed.version ≡ s → (lies_elsewhere lane index d || leb from d.listed.version) ≡ lies_elsewhere lane index d
        at d has true t s le = (λ i. t i || leb from d.listed.version) ∙ sym t
        at d has false t false le = (λ i. t i || le i) ∙ sym t
        at d has false t true le =
            let there = here_still d has (later (lies_elsewhere lane index d) (leb from d.listed.version) le) in
            let some = one_there (λ (e : Indexed). eqb e.listed.lane lane && eqb e.index index) now d there (is_true (eqb d.listed.lane lane && eqb d.index index) t) in
            absurd (omega (arith, some, none_))

    pub forgetting_end : IsIndex now → (lanes : List Bool) → slice_index_or lanes lane false ≡ true
        → AllByRecursion (λ (e : Indexed). from ≤ e.listed.version → slice_index_or lanes e.listed.lane false ≡ true → has_going (listed_in now) e.listed ≡ false) now → now ≡ filter (lies_elsewhere lane index) old
    forgetting_end is_index lanes awake quiet = none_left is_index (λ d has leaves le. all_member (λ (e : Indexed). from ≤ e.listed.version → slice_index_or lanes e.listed.lane false ≡ true → has_going (listed_in now) e.listed ≡ false) now d quiet has le (ap (λ (k : ℕ). slice_index_or lanes k false) (lane_of lane index d leaves) ∙ awake))

    module _ (is_index : IsIndex now) (lanes : List Bool) (awake : slice_index_or lanes lane false ≡ true) (version : ℕ)
        (quiet : AllByRecursion (λ (e : Indexed). from ≤ e.listed.version → e.listed.version < version → slice_index_or lanes e.listed.lane false ≡ true → has_going (listed_in now) e.listed ≡ false) now) where
      none_between : (d : Indexed) → Contains now d → lies_elsewhere lane index d ≡ false → from ≤ d.listed.version → d.listed.version < version → ⊥
      none_between d has leaves le lt = false≢true (sym (all_member (λ (e : Indexed). from ≤ e.listed.version → e.listed.version < version → slice_index_or lanes e.listed.lane false ≡ true → has_going (listed_in now) e.listed ≡ false) now d quiet has le lt
          (ap (λ (k : ℕ). slice_index_or lanes k false) (lane_of lane index d leaves) ∙ awake)) ∙ going is_index d has leaves)

      -- the version lies above all
      pub forgetting_above : AllByRecursion (λ (e : Indexed). e.listed.version < 2 ^ 63) old → 2 ^ 63 ≤ version → now ≡ filter (lies_elsewhere lane index) old
      forgetting_above below high = none_left is_index (λ d has leaves le. absurd (none_between d has leaves le (let lt = all_member (λ (e : Indexed). e.listed.version < 2 ^ 63) old d below (was_there d has) in omega (arith, lt, high))))

      -- one version further
      pub forgetting_more : from ≤ version → (then_ : List Indexed) → then_ ≡ filter (stays_behind lane index version) now → then_ ≡ filter (left_from lane index (version + 1)) old
      forgetting_more le then_ gone = gone ∙ ap (filter (stays_behind lane index version)) is ∙ filter_twice (stays_behind lane index version) (left_from lane index from) old
          ∙ filter_agree (λ d. left_from lane index from d && stays_behind lane index version d) (left_from lane index (version + 1)) old (λ d has. at d has (lies_elsewhere lane index d) refl)
        where
          at : (d : Indexed) → Contains old d → (t : Bool) → lies_elsewhere lane index d ≡ t
              → ((lies_elsewhere lane index d || leb from d.listed.version) && (lies_elsewhere lane index d || not (eqb d.listed.version version))) ≡ (lies_elsewhere lane index d || leb (version + 1) d.listed.version)
          at d has true t = (λ i. (t i || leb from d.listed.version) && (t i || not (eqb d.listed.version version))) ∙ sym (λ i. t i || leb (version + 1) d.listed.version)
          at d has false t = (λ i. (t i || leb from d.listed.version) && (t i || not (eqb d.listed.version version))) ∙ by (cases_lt version d.listed.version) ∙ sym (λ i. t i || leb (version + 1) d.listed.version)
            where
              by : (version < d.listed.version) ⊎ (d.listed.version ≤ version) → (leb from d.listed.version && not (eqb d.listed.version version)) ≡ leb (version + 1) d.listed.version
              by (inl more) = (λ i. le-leb from d.listed.version (omega (arith, le, more)) i && not (ne_eqb d.listed.version version (λ same. omega (arith, more, same)) i)) ∙ sym (le-leb (version + 1) d.listed.version (omega (arith, more)))
              by (inr less) = no_more ∙ sym (lt-leb (version + 1) d.listed.version (omega (arith, less)))
                where
                  no_more : (leb from d.listed.version && not (eqb d.listed.version version)) ≡ false
                  no_more = ⊎_elim
                      (λ (same : d.listed.version ≡ version). (λ i. leb from d.listed.version && not (eq-eqb d.listed.version version same i)) ∙ and_no (leb from d.listed.version))
                      (λ (other : d.listed.version ≡ version → ⊥). by_from (leb from d.listed.version) refl other)
                      (cases_eq d.listed.version version)
                    where
                      and_no : (u : Bool) → (u && false) ≡ false
                      and_no true = refl
                      and_no false = refl

                      by_from : (u : Bool) → leb from d.listed.version ≡ u → (d.listed.version ≡ version → ⊥) → (leb from d.listed.version && not (eqb d.listed.version version)) ≡ false
                      by_from false u other = ap (λ (x : Bool). x && not (eqb d.listed.version version)) u
                      by_from true u other =
                          let there = here_still d has (later (lies_elsewhere lane index d) (leb from d.listed.version) u) in
                          absurd (none_between d there t (leb-true from d.listed.version u) (let e = other in omega (arith, less, e)))
