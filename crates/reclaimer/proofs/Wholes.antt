-- A segment whose records come first goes with all of them: so they give up what they keep one after another.
use Rattle.std.proofs.Common.{◌≡◌, ◌⊎◌, inl, inr, ⊎_elim, ◌<◌, ◌≤◌, ◌+◌, ℕ, Bool, true, false, cond, not, ◌&&◌, ◌||◌, List, [], ◌∷◌, ◌++◌, map, length, Some, None, refl, sym, ap, subst, ◌∙◌, append_assoc, arith, ltb}
use Rattle.std.specs.Prelude.{Contains, filter, position, nat_lt, slice_get, slice_set, slice_index_or}
use Rattle.std.specs.List.{AllByRecursion, prefix_len}
use Rattle.std.proofs.lemmas.Bool.{false≢true, lt-ltb}
use Rattle.std.proofs.lemmas.List.{map-append}
use Rattle.std.proofs.lemmas.List.Elements.{filter-append}
use Rattle.std.proofs.lemmas.Option.{slice_get_within}
use Rattle.wol_model.specs.Extents.{has_newer, has_older}
use Rattle.wol_model.specs.Index.{Listed, Indexed, AreRising, block_numbers, cover_of, goes, has_going, is_homed, keeping, keeps_a_block, left, listed_covers, listed_in}
use Rattle.wol_model.proofs.Counts.{both, either}
use Rattle.wol_model.proofs.Marks.{remarked_is}
use Rattle.wol_promise.specs.Policy.{AreReclaims, Look, gives_up, more, none}
use Rattle.wol_promise.proofs.Covers.{any_found, any_member}
use Rattle.wol_promise.proofs.GiveUps.{newer_in}
use Rattle.wol_promise.proofs.Lists.{all_joined, all_map, all_member, all_mid, all_parts, member_insert}
use Rattle.wol_promise.proofs.Lowering.{given_lowers}
use Rattle.wol_promise.proofs.Retires.{member_without}
use Rattle.wol_promise.proofs.Wholes.{one_newer}
use Rattle.garbage_list.specs.Least.{is_awake}
use Rattle.manager.specs.Reclaim.{AllGoIn, GoesIn, lies_elsewhere}
use Rattle.volume_parts.proofs.Forgetting.{lane_of, older_in}
use Rattle.reclaimer.specs.Wholes.{ComeFirst}
use Rattle.reclaimer.proofs.Counted.{given_taken}
use Rattle.reclaimer.proofs.TakenOff.{Taken, dues_in, each_member, filter_each, taken_none, taken_twice}
pub use Rattle.volume_parts.proofs.Forgetting.{none_live_go}

-- ---- Records that give up what goes, each the first within reach

pub data GivenUp (lanes : List Bool) : List Listed → List Listed → Type 0 where
  stays : (l : List Listed) → GivenUp lanes l l
  gives : (l m : List Listed) (k : ℕ) (e : Listed) → position (λ d. slice_index_or lanes d.lane false && has_going l d) l ≡ Some k → slice_get l k ≡ Some e → has_going l e ≡ true
      → GivenUp lanes (filter keeps_a_block (slice_set l k (keeping l e))) m → GivenUp lanes l m

-- these are steps of reclaim
pub reclaims_of : (lanes : List Bool) (l m : List Listed) → GivenUp lanes l m → (look : Look) → look.ups ≡ lanes → look.listed ≡ l → AreReclaims look (record look { listed = m })
reclaims_of lanes _ _ (stays l) look same listed = subst (λ (x : List Listed). AreReclaims look (record look { listed = x })) listed (none look)
reclaims_of lanes _ _ (gives l m k e first there some rest) look same listed =
    let then_ = record look { listed = filter keeps_a_block (slice_set look.listed k (keeping look.listed e)) } in
    more look then_ (record look { listed = m })
    (gives_up k e (subst (λ (us : List Bool). position (λ d. slice_index_or us d.lane false && has_going look.listed d) look.listed ≡ Some k) (sym same)
    (subst (λ (x : List Listed). position (λ d. slice_index_or lanes d.lane false && has_going x d) x ≡ Some k) (sym listed) first)) (ap (λ (x : List Listed). slice_get x k) listed ∙ there) refl)
    (reclaims_of lanes (filter keeps_a_block (slice_set l k (keeping l e))) m rest then_ same (ap (λ (x : List Listed). filter keeps_a_block (slice_set x k (keeping x e))) listed))

-- no block ceases to be due by it
pub taken_by : (lanes : List Bool) (l m : List Listed) → GivenUp lanes l m → Taken 0 (dues_in l) (dues_in m)
taken_by lanes _ _ (stays l) = taken_none (dues_in l) (dues_in l) refl
taken_by lanes _ _ (gives l m k e first there some rest) =
    let then_ = filter keeps_a_block (slice_set l k (keeping l e)) in
    taken_twice 0 0 (dues_in l) (dues_in then_) (dues_in m) (given_taken l k e there) (taken_by lanes then_ m rest)

-- and no more is left
pub no_more_left : (lanes : List Bool) (l m : List Listed) → GivenUp lanes l m → left m ≤ left l
no_more_left lanes _ _ (stays l) = omega arith
no_more_left lanes _ _ (gives l m k e first there some rest) =
    let lower = given_lowers l k e there some in let less = no_more_left lanes (filter keeps_a_block (slice_set l k (keeping l e))) m rest in
    omega (arith, lower, less)

-- less is left where fewer records are listed
pub less_left : (lanes : List Bool) (l m : List Listed) → GivenUp lanes l m → length m < length l → left m < left l
less_left lanes _ _ (stays l) fewer = absurd (omega (arith, fewer))
less_left lanes _ _ (gives l m k e first there some rest) fewer =
    let lower = given_lowers l k e there some in let less = no_more_left lanes (filter keeps_a_block (slice_set l k (keeping l e))) m rest in
    omega (arith, lower, less)

-- ---- Lists around a record

module _ (x : Indexed) (rest : List Indexed) where
  get_mid : (zs : List Indexed) → slice_get (listed_in (zs ++ x ∷ rest)) (length zs) ≡ Some x.listed
  get_mid [] = refl
  get_mid (z ∷ zs) = get_mid zs

  set_mid : (zs : List Indexed) (y : Listed) → slice_set (listed_in (zs ++ x ∷ rest)) (length zs) y ≡ listed_in zs ++ y ∷ listed_in rest
  set_mid [] y = refl
  set_mid (z ∷ zs) y = λ i. z.listed ∷ set_mid zs y i

  before_mid : (P : Listed → Bool) (zs : List Indexed) → AllByRecursion (λ z. P z.listed ≡ false) zs → P x.listed ≡ true → prefix_len (λ d. not (P d)) (listed_in (zs ++ x ∷ rest)) ≡ length zs
  before_mid P [] all is = λ i. cond (not (is i)) (1 + prefix_len (λ d. not (P d)) (listed_in rest)) 0
  before_mid P (z ∷ zs) all is = (λ i. cond (not (all.0 i)) (1 + prefix_len (λ d. not (P d)) (listed_in (zs ++ x ∷ rest))) 0)
      ∙ (let e = before_mid P zs all.1 is in omega (arith, e))

  first_mid : (P : Listed → Bool) (zs : List Indexed) → AllByRecursion (λ z. P z.listed ≡ false) zs → P x.listed ≡ true → position P (listed_in (zs ++ x ∷ rest)) ≡ Some (length zs)
  first_mid P zs all is =
      let lt = slice_get_within (listed_in (zs ++ x ∷ rest)) (length zs) x.listed (get_mid zs) in
      ap (λ (n : ℕ). cond (nat_lt n (length (listed_in (zs ++ x ∷ rest)))) (Some n) None) (before_mid P zs all is)
      ∙ ap (λ (t : Bool). cond t (Some (length zs)) None) (lt-ltb (length zs) (length (listed_in (zs ++ x ∷ rest))) lt)

  -- it is gone where it keeps none
  gone_mid : (zs : List Indexed) (y : Listed) → keeps_a_block y ≡ false → AllByRecursion (λ (d : Listed). keeps_a_block d ≡ true) (listed_in (zs ++ x ∷ rest))
      → filter keeps_a_block (slice_set (listed_in (zs ++ x ∷ rest)) (length zs) y) ≡ listed_in (zs ++ rest)
  gone_mid zs y none_kept keep =
      let parts = all_parts (λ (d : Listed). keeps_a_block d ≡ true) (listed_in zs) x.listed (listed_in rest) (subst (AllByRecursion (λ (d : Listed). keeps_a_block d ≡ true)) (map-append (λ (e : Indexed). e.listed) zs (x ∷ rest)) keep) in
      ap (filter keeps_a_block) (set_mid zs y) ∙ filter-append keeps_a_block (listed_in zs) (y ∷ listed_in rest)
      ∙ (λ i. filter_each keeps_a_block (listed_in zs) parts.0 i ++ cond (none_kept i) (y ∷ filter keeps_a_block (listed_in rest)) (filter_each keeps_a_block (listed_in rest) parts.1 i))
      ∙ sym (map-append (λ (e : Indexed). e.listed) zs rest)

  rising_mid : (zs : List Indexed) → AreRising (map (λ (d : Indexed). d.listed.version) (zs ++ x ∷ rest)) → AllByRecursion (λ (d : Indexed). x.listed.version < d.listed.version) rest
  rising_mid [] rising = unmapped rest rising.0
    where
      unmapped : (es : List Indexed) → AllByRecursion (λ w. x.listed.version < w) (map (λ (d : Indexed). d.listed.version) es) → AllByRecursion (λ (d : Indexed). x.listed.version < d.listed.version) es
      unmapped [] all = tt
      unmapped (e ∷ es) all = (all.0, unmapped es all.1)
  rising_mid (z ∷ zs) rising = rising_mid zs rising.1

  rising_without : (zs : List Indexed) → AreRising (map (λ (d : Indexed). d.listed.version) (zs ++ x ∷ rest)) → AreRising (map (λ (d : Indexed). d.listed.version) (zs ++ rest))
  rising_without [] rising = rising.1
  rising_without (z ∷ zs) rising = (less zs rising.0, rising_without zs rising.1)
    where
      less : (ys : List Indexed) → AllByRecursion (λ w. z.listed.version < w) (map (λ (d : Indexed). d.listed.version) (ys ++ x ∷ rest)) → AllByRecursion (λ w. z.listed.version < w) (map (λ (d : Indexed). d.listed.version) (ys ++ rest))
      less [] all = all.1
      less (y ∷ ys) all = (all.0, less ys all.1)

-- ---- A record that goes whole

-- the kept blocks of the entry may all go
abbrev pub AllGo : List Indexed → Indexed → Type 0
AllGo es e = (b : ℕ) → (cover_of e.listed).covers b ≡ true → goes (listed_in es) e.listed b ≡ true

-- so it has one that goes
pub some_goes : (es : List Indexed) (e : Indexed) → keeps_a_block e.listed ≡ true → AllGo es e → has_going (listed_in es) e.listed ≡ true
some_goes es e keeps go =
    let f = any_found (cover_of e.listed).covers (block_numbers e.listed) keeps in
    any_member (goes (listed_in es) e.listed) (block_numbers e.listed) f.item f.among (go f.item f.passes)

-- and keeps none then
none_kept : (es : List Indexed) (e : Indexed) → AllGo es e → keeps_a_block (keeping (listed_in es) e.listed) ≡ false
none_kept es e go = at (keeps_a_block (keeping (listed_in es) e.listed)) refl
  where
    at : (t : Bool) → keeps_a_block (keeping (listed_in es) e.listed) ≡ t → keeps_a_block (keeping (listed_in es) e.listed) ≡ false
    at false is = is
    at true is =
        let f = any_found (cover_of (keeping (listed_in es) e.listed)).covers (block_numbers (keeping (listed_in es) e.listed)) is in
        let b = f.item in
        let parts = both ((cover_of e.listed).covers b) (not (goes (listed_in es) e.listed b)) (sym (remarked_is e.listed.first e.listed.keep (λ c m. m && not (goes (listed_in es) e.listed c)) b refl) ∙ f.passes) in
        absurd (false≢true (sym (ap not (go b parts.0)) ∙ parts.1))

module _ (lane index : ℕ) where
  abbrev Elsewhere : Indexed → Type 0
  Elsewhere e = lies_elsewhere lane index e ≡ true

  -- without the oldest record of the segment the others of it may go still
  module _ (zs : List Indexed) (x : Indexed) (rest : List Indexed) (others : AllByRecursion Elsewhere zs) (rising : AreRising (map (λ (d : Indexed). d.listed.version) (zs ++ x ∷ rest))) (go : AllGoIn lane index (zs ++ x ∷ rest)) where
    abbrev old : List Indexed
    old = zs ++ x ∷ rest

    abbrev now : List Indexed
    now = zs ++ rest

    above : (d : Indexed) → Contains now d → lies_elsewhere lane index d ≡ false → x.listed.version < d.listed.version
    above d has leaves = all_member (λ (e : Indexed). lies_elsewhere lane index e ≡ false → x.listed.version < e.listed.version) now d
        (all_joined (λ (e : Indexed). lies_elsewhere lane index e ≡ false → x.listed.version < e.listed.version) zs rest
        (all_map Elsewhere (λ (e : Indexed). lies_elsewhere lane index e ≡ false → x.listed.version < e.listed.version) (λ e is not_. absurd (false≢true (sym not_ ∙ is))) zs others)
        (all_map (λ (e : Indexed). x.listed.version < e.listed.version) (λ (e : Indexed). lies_elsewhere lane index e ≡ false → x.listed.version < e.listed.version) (λ e lt not_. lt) rest (rising_mid x rest zs rising)))
        has leaves

    newer_now : (d : Indexed) → Contains now d → lies_elsewhere lane index d ≡ false → (b : ℕ) → has_newer (listed_covers (listed_in old)) d.listed.version b ≡ true → has_newer (listed_covers (listed_in now)) d.listed.version b ≡ true
    newer_now d has leaves b newer =
        let a = one_newer old d.listed.version b newer in let more = a.newer in let over = above d has leaves in
        ⊎_elim
        (λ there. newer_in now d.listed.version b ∙ any_member (λ (e : Indexed). (cover_of e.listed).covers b && ltb d.listed.version e.listed.version) now a.entry there (λ i. a.keeps i && lt-ltb d.listed.version a.entry.listed.version a.newer i))
        (λ same. absurd (let e : x.listed.version ≡ a.entry.listed.version = ap (λ (c : Indexed). c.listed.version) same in omega (arith, e, more, over)))
        (member_without zs x rest a.entry a.among)

    older_then : (version b : ℕ) → has_older (listed_covers (listed_in now)) version b ≡ true → has_older (listed_covers (listed_in old)) version b ≡ true
    older_then version b older =
        let f = any_found (λ (e : Indexed). (cover_of e.listed).covers b && ltb e.listed.version version) now (sym (older_in now version b) ∙ older) in
        older_in old version b ∙ any_member (λ (e : Indexed). (cover_of e.listed).covers b && ltb e.listed.version version) old f.item (member_insert zs x rest f.item f.among) f.passes

    go_now : AllGoIn lane index (zs ++ rest)
    go_now = each_member (GoesIn lane index now) now goes_now
      where
        no_older : (s t : Bool) → (t ≡ true → s ≡ true) → not s ≡ true → not t ≡ true
        no_older true s so fails = absurd (false≢true fails)
        no_older false true so fails = absurd (false≢true (so refl))
        no_older false false so fails = refl

        later : (s t : Bool) → t ≡ true → (s || t) ≡ true
        later true t is = refl
        later false t is = is

        goes_now : (d : Indexed) → Contains now d → GoesIn lane index now d
        goes_now d has leaves b keeps =
            let was = both ((cover_of d.listed).covers b) (has_newer (listed_covers (listed_in old)) d.listed.version b || (is_homed d.listed b && not (has_older (listed_covers (listed_in old)) d.listed.version b)))
            (all_member (GoesIn lane index old) old d go (member_insert zs x rest d has) leaves b keeps) in
            (λ i. keeps i && why (either (has_newer (listed_covers (listed_in old)) d.listed.version b) (is_homed d.listed b && not (has_older (listed_covers (listed_in old)) d.listed.version b)) was.1) i)
          where
            why : (has_newer (listed_covers (listed_in old)) d.listed.version b ≡ true) ⊎ ((is_homed d.listed b && not (has_older (listed_covers (listed_in old)) d.listed.version b)) ≡ true)
                → (has_newer (listed_covers (listed_in now)) d.listed.version b || (is_homed d.listed b && not (has_older (listed_covers (listed_in now)) d.listed.version b))) ≡ true
            why (inl newer) = λ i. newer_now d has leaves b newer i || (is_homed d.listed b && not (has_older (listed_covers (listed_in now)) d.listed.version b))
            why (inr home) =
                let parts = both (is_homed d.listed b) (not (has_older (listed_covers (listed_in old)) d.listed.version b)) home in
                later (has_newer (listed_covers (listed_in now)) d.listed.version b) (is_homed d.listed b && not (has_older (listed_covers (listed_in now)) d.listed.version b))
                (λ i. parts.0 i && no_older (has_older (listed_covers (listed_in old)) d.listed.version b) (has_older (listed_covers (listed_in now)) d.listed.version b) (older_then d.listed.version b) parts.1 i)

  -- ---- The records of the segment, one after another

  module _ (lanes : List Bool) (awake : slice_index_or lanes lane false ≡ true) where
    abbrev OutOfReach : Indexed → Type 0
    OutOfReach e = is_awake lanes e ≡ false

    abbrev Keeps : Listed → Type 0
    Keeps d = keeps_a_block d ≡ true

    lane_is : (e : Indexed) → lies_elsewhere lane index e ≡ false → is_awake lanes e ≡ true
    lane_is e leaves = ap (λ (k : ℕ). slice_index_or lanes k false) (lane_of lane index e leaves) ∙ awake

    emptied : (zs xs ys : List Indexed) → AllByRecursion OutOfReach zs → AllByRecursion Elsewhere zs
        → AllByRecursion (λ e. lies_elsewhere lane index e ≡ true → is_awake lanes e ≡ false) xs
        → AllGoIn lane index (zs ++ (xs ++ ys)) → AreRising (map (λ (d : Indexed). d.listed.version) (zs ++ (xs ++ ys))) → AllByRecursion Keeps (listed_in (zs ++ (xs ++ ys)))
        → GivenUp lanes (listed_in (zs ++ (xs ++ ys))) (listed_in (zs ++ (filter (lies_elsewhere lane index) xs ++ ys)))
    emptied zs [] ys asleep out others go rising keep = stays (listed_in (zs ++ ys))
    emptied zs (x ∷ xs) ys asleep out others go rising keep = at (lies_elsewhere lane index x) refl (λ zs asleep out go rising keep. emptied zs xs ys asleep out others.1 go rising keep)
      where
        at : (t : Bool) → lies_elsewhere lane index x ≡ t
            → ((zs : List Indexed) → AllByRecursion OutOfReach zs → AllByRecursion Elsewhere zs → AllGoIn lane index (zs ++ (xs ++ ys)) → AreRising (map (λ (d : Indexed). d.listed.version) (zs ++ (xs ++ ys))) → AllByRecursion Keeps (listed_in (zs ++ (xs ++ ys)))
            → GivenUp lanes (listed_in (zs ++ (xs ++ ys))) (listed_in (zs ++ (filter (lies_elsewhere lane index) xs ++ ys))))
            → GivenUp lanes (listed_in (zs ++ (x ∷ (xs ++ ys)))) (listed_in (zs ++ (cond t (x ∷ filter (lies_elsewhere lane index) xs) (filter (lies_elsewhere lane index) xs) ++ ys)))
        at true is rest =
            let was : (zs ++ x ∷ []) ++ (xs ++ ys) ≡ zs ++ (x ∷ (xs ++ ys)) = append_assoc zs (x ∷ []) (xs ++ ys) in
            subst (λ (l : List Indexed). GivenUp lanes (listed_in l) (listed_in (zs ++ (x ∷ (filter (lies_elsewhere lane index) xs ++ ys))))) was
            (subst (λ (l : List Indexed). GivenUp lanes (listed_in ((zs ++ x ∷ []) ++ (xs ++ ys))) (listed_in l)) (append_assoc zs (x ∷ []) (filter (lies_elsewhere lane index) xs ++ ys))
            (rest (zs ++ x ∷ []) (all_joined OutOfReach zs (x ∷ []) asleep (others.0 is, tt)) (all_joined Elsewhere zs (x ∷ []) out (is, tt))
            (subst (AllGoIn lane index) (sym was) go) (subst (λ (l : List Indexed). AreRising (map (λ (d : Indexed). d.listed.version) l)) (sym was) rising) (subst (λ (l : List Indexed). AllByRecursion Keeps (listed_in l)) (sym was) keep)))
        at false is rest =
            let es = zs ++ (x ∷ (xs ++ ys)) in
            let all : AllGo es x = all_mid (GoesIn lane index es) zs x (xs ++ ys) go is in
            let parts = all_parts Keeps (listed_in zs) x.listed (listed_in (xs ++ ys)) (subst (AllByRecursion Keeps) (map-append (λ (e : Indexed). e.listed) zs (x ∷ (xs ++ ys))) keep) in
            let keeps : keeps_a_block x.listed ≡ true = all_mid Keeps (listed_in zs) x.listed (listed_in (xs ++ ys)) (subst (AllByRecursion Keeps) (map-append (λ (e : Indexed). e.listed) zs (x ∷ (xs ++ ys))) keep) in
            let some = some_goes es x keeps all in
            let gone = gone_mid x (xs ++ ys) zs (keeping (listed_in es) x.listed) (none_kept es x all) keep in
            gives (listed_in es) (listed_in (zs ++ (filter (lies_elsewhere lane index) xs ++ ys))) (length zs) x.listed
            (first_mid x (xs ++ ys) (λ d. slice_index_or lanes d.lane false && has_going (listed_in es) d) zs
            (all_map OutOfReach (λ (z : Indexed). (slice_index_or lanes z.listed.lane false && has_going (listed_in es) z.listed) ≡ false) (λ z no i. no i && has_going (listed_in es) z.listed) zs asleep)
            (λ i. lane_is x is i && some i))
            (get_mid x (xs ++ ys) zs) some
            (subst (λ (l : List Listed). GivenUp lanes l (listed_in (zs ++ (filter (lies_elsewhere lane index) xs ++ ys)))) (sym gone)
            (rest zs asleep out (go_now zs x (xs ++ ys) out rising go) (rising_without x (xs ++ ys) zs rising)
            (subst (AllByRecursion Keeps) (sym (map-append (λ (e : Indexed). e.listed) zs (xs ++ ys))) (all_joined Keeps (listed_in zs) (listed_in (xs ++ ys)) parts.0 parts.1))))

    -- all of them
    pub given_whole : (es : List Indexed) → ComeFirst lanes lane index es → AllGoIn lane index es → AreRising (map (λ (d : Indexed). d.listed.version) es) → AllByRecursion Keeps (listed_in es)
        → GivenUp lanes (listed_in es) (listed_in (filter (lies_elsewhere lane index) es))
    given_whole es first go rising keep =
        let all = emptied [] first.front first.back tt tt first.others (subst (AllGoIn lane index) first.is go)
        (subst (λ (l : List Indexed). AreRising (map (λ (d : Indexed). d.listed.version) l)) first.is rising) (subst (λ (l : List Indexed). AllByRecursion Keeps (listed_in l)) first.is keep) in
        let left_ : filter (lies_elsewhere lane index) first.front ++ first.back ≡ filter (lies_elsewhere lane index) es =
        sym (ap (filter (lies_elsewhere lane index)) first.is ∙ filter-append (lies_elsewhere lane index) first.front first.back
        ∙ ap (λ (l : List Indexed). filter (lies_elsewhere lane index) first.front ++ l) (filter_each (lies_elsewhere lane index) first.back first.behind)) in
        subst (λ (l : List Indexed). GivenUp lanes (listed_in l) (listed_in (filter (lies_elsewhere lane index) es))) (sym first.is)
        (subst (λ (l : List Indexed). GivenUp lanes (listed_in (first.front ++ first.back)) (listed_in l)) left_ all)
