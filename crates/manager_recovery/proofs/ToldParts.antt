-- Segments whose disks tell their content: their records, and what a scan has of them.
use Rattle.std.proofs.Common.{◌≡◌, ◌+◌, ◌<◌, ◌≤◌, ℕ, suc, Bool, true, false, not, cond, eqb, ◌||◌, List, [], ◌∷◌, ◌++◌, length, map, Option, None, Some, option_map, refl, sym, ap, subst, ◌∙◌, arith}
use Rattle.std.specs.Prelude.{slice_get, filter, unwrap_or, max}
use Rattle.std.specs.List.{AllByRecursion, AllZip, list_any, flat_map}
use Rattle.std.proofs.lemmas.List.{map-append}
use Rattle.std.proofs.lemmas.Option.{same_Some}
use Rattle.wol_disk.specs.Disk.{State, Block, Values, TellsContent, only, reads, settled}
use Rattle.wol_disk.proofs.Images.{reads_only}
use Rattle.wol_model.specs.Heads.{RecordHead}
use Rattle.wol_model.specs.Log.{Record, IsLog, extent_of}
use Rattle.wol_model.specs.Recovered.{read_log, extents_in, extents_of}
use Rattle.wol_model.proofs.ReadLogs.{log_read}
use Rattle.log_layout.specs.Values.{record_head}
use Rattle.spin_model.specs.Spun.{state_of}
use Rattle.log_scan.specs.Scan.{AreFound}
use Rattle.log_scan.specs.declared.Found.{Found}
use Rattle.log_scan.specs.declared.Scan.{Scan}
use Rattle.wol_promise.specs.Stands.{next_version}
use Rattle.manager_recovery.specs.Left.{IsSameOwned}
use Rattle.manager_recovery.specs.Owned.{read_of, owned_of, all_owned, records_of, records_in, valid_in, writes_in}
use Rattle.manager_recovery.specs.Scanned.{IsScanned, IsSettledPart, has_some, keeps_some, thinned, found_in, all_found, lane_of, record_in, next_found, next_of}
use Rattle.manager_recovery.specs.declared.listing.FoundRecord.{FoundRecord}
use Rattle.manager_recovery.specs.declared.opening.OwnedPart.{OwnedPart}
use Rattle.manager_recovery.proofs.Retired.{log_of}

-- ---- One segment

abbrev pub records_at : {D : Type 0} → (D → State) → (id : ℕ) → OwnedPart D → List Record
records_at state id p = records_of id (owned_of state p)

-- a record keeps a block
abbrev pub keeps : Record → Bool
keeps r = not (eqb r.head.mask 0)

-- each record with its head as it was found
abbrev pub AreHeads : List Record → List Found → Type 0
AreHeads rs fs = AllZip (λ (r : Record) (f : Found). record_head f.head ≡ r.head) rs fs

heads_from : (rs : List Record) (fs : List Found) → ((k : ℕ) (f : Found) → slice_get fs k ≡ Some f → (r : Record) × (slice_get rs k ≡ Some r) × (record_head f.head ≡ r.head)) → length fs ≡ length rs → AreHeads rs fs
heads_from [] [] each long = tt
heads_from [] (f ∷ fs) each long = absurd (omega (arith, long))
heads_from (r ∷ rs) [] each long = absurd (omega (arith, long))
heads_from (r ∷ rs) (f ∷ fs) each long =
    let w = each 0 f refl in
    (w.2 ∙ ap (λ (q : Record). q.head) (sym (same_Some r w.0 w.1)), heads_from rs fs (λ k g is. each (suc k) g is) (omega (arith, long)))

pub record IsTold {D : Type 0} (state : D → State) (id : ℕ) (p : OwnedPart D) (s : Scan) : Type 0 where
  pub vs : List (Values Block)
  pub values : (state_of state p.part).values ≡ Some vs
  pub one : vs ≡ only (reads vs)
  pub reads_ : read_of (state_of state p.part) ≡ reads vs
  pub log : IsLog (reads vs) id (records_at state id p)
  pub found : AreFound (records_at state id p) s.records.items
  pub heads : AreHeads (records_at state id p) s.records.items

pub is_told : {D : Type 0} (state : D → State) (id home : ℕ) (p : OwnedPart D) (s : Scan) → IsScanned state id home p s → TellsContent (state_of state p.part) → IsTold state id p s
is_told state id home p s scanned tells =
    let vs = tells.0 in
    let w = log_of state id home p s scanned vs tells.1 in
    let same : read_of (state_of state p.part) ≡ reads vs = ap (λ (v : Option (List (Values Block))). unwrap_or (option_map reads v) []) tells.1 in
    let log : read_log id (read_of (state_of state p.part)) ≡ Some w.0 = ap (read_log id) same ∙ log_read (reads vs) id w.0 w.1 in
    let records : w.0 ≡ records_at state id p = sym (ap (λ (o : Option (List Record)). unwrap_or o []) log) in
    let found : AreFound (records_at state id p) s.records.items = subst (λ (rs : List Record). AreFound rs s.records.items) records w.2 in record {
      vs = vs;
      values = tells.1;
      one = (scanned.scanned vs tells.1).0;
      reads_ = same;
      log = subst (IsLog (reads vs) id) records w.1;
      found = found;
      heads = heads_from (records_at state id p) s.records.items (λ k f is. let e = found.each k f is in (e.whose, e.there, e.head)) found.all;
    }

pub all_told : {D : Type 0} (state : D → State) (id home : ℕ) (os : List (OwnedPart D)) (ss : List Scan) → ((p : OwnedPart D) → TellsContent (state_of state p.part)) → AllZip (IsScanned state id home) os ss → AllZip (IsTold state id) os ss
all_told state id home [] [] tells zip = tt
all_told state id home [] (s ∷ ss) tells zip = absurd zip
all_told state id home (p ∷ os) [] tells zip = absurd zip
all_told state id home (p ∷ os) (s ∷ ss) tells zip = (is_told state id home p s zip.0 (tells p), all_told state id home os ss tells zip.1)

-- ---- Those that keep a block

same_kept : (r : Record) (f : Found) → record_head f.head ≡ r.head → keeps_some f ≡ keeps r
same_kept r f e = ap (λ (h : RecordHead). not (eqb h.mask 0)) e

pub kept_versions : (rs : List Record) (fs : List Found) → AreHeads rs fs → map (λ (r : Record). r.head.version) (filter keeps rs) ≡ map (λ (f : Found). f.head.version) (filter keeps_some fs)
kept_versions [] [] zip = refl
kept_versions [] (f ∷ fs) zip = absurd zip
kept_versions (r ∷ rs) [] zip = absurd zip
kept_versions (r ∷ rs) (f ∷ fs) zip = (λ i. map (λ (q : Record). q.head.version) (cond (sym (same_kept r f zip.0) i) (r ∷ filter keeps rs) (filter keeps rs))) ∙ at (keeps_some f) (kept_versions rs fs zip.1)
  where
    at : (t : Bool) → map (λ (q : Record). q.head.version) (filter keeps rs) ≡ map (λ (g : Found). g.head.version) (filter keeps_some fs)
        → map (λ (q : Record). q.head.version) (cond t (r ∷ filter keeps rs) (filter keeps rs)) ≡ map (λ (g : Found). g.head.version) (cond t (f ∷ filter keeps_some fs) (filter keeps_some fs))
    at true rest = λ i. (sym (ap (λ (h : RecordHead). h.version) zip.0) i) ∷ rest i
    at false rest = rest

none_filtered : (fs : List Found) → list_any keeps_some fs ≡ false → filter keeps_some fs ≡ []
none_filtered [] none = refl
none_filtered (f ∷ fs) none = at (keeps_some f) none (none_filtered fs)
  where
    at : (t : Bool) → (t || list_any keeps_some fs) ≡ false → (list_any keeps_some fs ≡ false → filter keeps_some fs ≡ []) → cond t (f ∷ filter keeps_some fs) (filter keeps_some fs) ≡ []
    at true none rest = absurd (let bad : true ≡ false = none in cc)
    at false none rest = rest none

nothing_kept : (rs : List Record) (fs : List Found) → AreHeads rs fs → list_any keeps_some fs ≡ false → filter keeps rs ≡ []
nothing_kept [] [] zip none = refl
nothing_kept [] (f ∷ fs) zip none = absurd zip
nothing_kept (r ∷ rs) [] zip none = absurd zip
nothing_kept (r ∷ rs) (f ∷ fs) zip none = (λ i. cond (sym (same_kept r f zip.0) i) (r ∷ filter keeps rs) (filter keeps rs)) ∙ at (keeps_some f) none (nothing_kept rs fs zip.1)
  where
    at : (t : Bool) → (t || list_any keeps_some fs) ≡ false → (list_any keeps_some fs ≡ false → filter keeps rs ≡ []) → cond t (r ∷ filter keeps rs) (filter keeps rs) ≡ []
    at true none rest = absurd (let bad : true ≡ false = none in cc)
    at false none rest = rest none

filter-append : {X : Type 0} (test : X → Bool) (xs ys : List X) → filter test (xs ++ ys) ≡ filter test xs ++ filter test ys
filter-append test [] ys = refl
filter-append test (x ∷ xs) ys = at (test x) (filter-append test xs ys)
  where
    at : (t : Bool) → filter test (xs ++ ys) ≡ filter test xs ++ filter test ys → cond t (x ∷ filter test (xs ++ ys)) (filter test (xs ++ ys)) ≡ cond t (x ∷ filter test xs) (filter test xs) ++ filter test ys
    at true rest = ap (λ l. x ∷ l) rest
    at false rest = rest

-- ---- What stays of all segments

module _ {D : Type 0} (view : List ℕ) where
  pub found_thinned : (os : List (OwnedPart D)) (ss : List Scan) → all_found view (thinned os ss) (filter has_some ss) ≡ all_found view os ss
  found_thinned [] ss = refl
  found_thinned (p ∷ os) [] = refl
  found_thinned (p ∷ os) (s ∷ ss) = at (has_some s) refl (found_thinned os ss)
    where
      at : (t : Bool) → has_some s ≡ t → all_found view (thinned os ss) (filter has_some ss) ≡ all_found view os ss
          → all_found view (cond t (p ∷ thinned os ss) (thinned os ss)) (cond t (s ∷ filter has_some ss) (filter has_some ss)) ≡ found_in view p s ++ all_found view os ss
      at true e rest = ap (λ l. found_in view p s ++ l) rest
      at false e rest = rest ∙ (λ i. map (record_in (lane_of view p.logger) p) (sym (none_filtered s.records.items e) i) ++ all_found view os ss)

module _ {D : Type 0} (state : D → State) (id : ℕ) where
  abbrev pub all_records : List (OwnedPart D) → List Record
  all_records os = flat_map (records_at state id) os

  pub kept_thinned : (os : List (OwnedPart D)) (ss : List Scan) → AllZip (IsTold state id) os ss → filter keeps (all_records (thinned os ss)) ≡ filter keeps (all_records os)
  kept_thinned [] [] zip = refl
  kept_thinned [] (s ∷ ss) zip = absurd zip
  kept_thinned (p ∷ os) [] zip = absurd zip
  kept_thinned (p ∷ os) (s ∷ ss) zip = at (has_some s) refl (kept_thinned os ss zip.1)
    where
      at : (t : Bool) → has_some s ≡ t → filter keeps (all_records (thinned os ss)) ≡ filter keeps (all_records os) → filter keeps (all_records (cond t (p ∷ thinned os ss) (thinned os ss))) ≡ filter keeps (records_at state id p ++ all_records os)
      at true e rest = filter-append keeps (records_at state id p) (all_records (thinned os ss)) ∙ (ap (λ l. filter keeps (records_at state id p) ++ l) rest ∙ sym (filter-append keeps (records_at state id p) (all_records os)))
      at false e rest = rest ∙ ((λ i. sym (nothing_kept (records_at state id p) s.records.items zip.0.heads e) i ++ filter keeps (all_records os)) ∙ sym (filter-append keeps (records_at state id p) (all_records os)))

  -- their versions are those that were found
  pub versions_found : (view : List ℕ) (os : List (OwnedPart D)) (ss : List Scan) → AllZip (IsTold state id) os ss → map (λ (r : Record). r.head.version) (filter keeps (all_records os)) ≡ map (λ (r : FoundRecord). r.entry.version) (all_found view os ss)
  versions_found view [] [] zip = refl
  versions_found view [] (s ∷ ss) zip = absurd zip
  versions_found view (p ∷ os) [] zip = absurd zip
  versions_found view (p ∷ os) (s ∷ ss) zip =
      ap (map (λ (r : Record). r.head.version)) (filter-append keeps (records_at state id p) (all_records os))
      ∙ (map-append (λ (r : Record). r.head.version) (filter keeps (records_at state id p)) (filter keeps (all_records os))
      ∙ ((λ i. (kept_versions (records_at state id p) s.records.items zip.0.heads ∙ sym (in_place (filter keeps_some s.records.items))) i ++ versions_found view os ss zip.1 i)
      ∙ sym (map-append (λ (r : FoundRecord). r.entry.version) (found_in view p s) (all_found view os ss))))
    where
      in_place : (fs : List Found) → map (λ (r : FoundRecord). r.entry.version) (map (record_in (lane_of view p.logger) p) fs) ≡ map (λ (f : Found). f.head.version) fs
      in_place [] = refl
      in_place (f ∷ fs) = ap (λ l. f.head.version ∷ l) (in_place fs)

  -- what settled parts read as is what they read as before
  same_read : (a b : State) → b.values ≡ option_map settled a.values → read_of b ≡ read_of a
  same_read a b e = ap (λ (v : Option (List (Values Block))). unwrap_or (option_map reads v) []) e ∙ at a.values
    where
      at : (o : Option (List (Values Block))) → unwrap_or (option_map reads (option_map settled o)) [] ≡ unwrap_or (option_map reads o) []
      at None = refl
      at (Some vs) = reads_only (reads vs)

  pub records_before : (os ps : List (OwnedPart D)) → AllZip (IsSettledPart state) os ps → records_in id (all_owned state os) ≡ all_records ps
  records_before [] [] zip = refl
  records_before [] (p ∷ ps) zip = absurd zip
  records_before (o ∷ os) [] zip = absurd zip
  records_before (o ∷ os) (p ∷ ps) zip = λ i. unwrap_or (read_log id (sym (same_read (state_of state o.part) (state_of state p.part) zip.0.settled_) i)) [] ++ records_before os ps zip.1 i

  -- what was read back says the same
  pub owned_again : (os ps : List (OwnedPart D)) → AllZip (IsSameOwned state) os ps → AllZip (IsSettledPart state) os ps → all_owned state ps ≡ all_owned state os
  owned_again [] [] same settled_ = refl
  owned_again [] (p ∷ ps) same settled_ = absurd same
  owned_again (o ∷ os) [] same settled_ = absurd same
  owned_again (o ∷ os) (p ∷ ps) same settled_ = λ i. record {
    logger = (same.0.0 i).logger;
    index = (same.0.0 i).index;
    first = (same.0.0 i).first_block;
    blocks = same_read (state_of state o.part) (state_of state p.part) settled_.0.settled_ i;
  } ∷ owned_again os ps same.1 settled_.1 i

  pub extents_are : (os : List (OwnedPart D)) → extents_of id (map (λ (s : Rattle.manager_recovery.specs.Owned.Owned). s.blocks) (all_owned state os)) ≡ map extent_of (records_in id (all_owned state os))
  unfolding extents_in
  extents_are [] = refl
  extents_are (o ∷ os) = ap (λ l. map extent_of (records_at state id o) ++ l) (extents_are os) ∙ sym (map-append extent_of (records_at state id o) (records_in id (all_owned state os)))

-- ---- The next version

next_more : (n : ℕ) (rs : List Record) (fs : List Found) (qs : List Record) → AreHeads rs fs → 1 ≤ n → max n (next_version (rs ++ qs)) ≡ max (next_found n fs) (next_version qs)
next_more n [] [] qs zip least = refl
next_more n [] (f ∷ fs) qs zip least = absurd zip
next_more n (r ∷ rs) [] qs zip least = absurd zip
next_more n (r ∷ rs) (f ∷ fs) qs zip least =
    let v : f.head.version ≡ r.head.version = ap (λ (h : RecordHead). h.version) zip.0 in
    let rest = next_more (max n (f.head.version + 1)) rs fs qs zip.1 (omega (arith, least)) in
    let same : max n (max (r.head.version + 1) (next_version (rs ++ qs))) ≡ max (max n (f.head.version + 1)) (next_version (rs ++ qs)) = omega (arith, v) in
    same ∙ rest

next_found_least : (n : ℕ) (fs : List Found) → n ≤ next_found n fs
next_found_least n [] = omega arith
next_found_least n (f ∷ fs) = let rest = next_found_least (max n (f.head.version + 1)) fs in omega (arith, rest)

pub next_least : (n : ℕ) (ss : List Scan) → n ≤ next_of n ss
next_least n [] = omega arith
next_least n (s ∷ ss) = let a = next_found_least n s.records.items in let b = next_least (next_found n s.records.items) ss in omega (arith, a, b)

next_above : (n : ℕ) (fs : List Found) → AllByRecursion (λ (f : Found). f.head.version < next_found n fs) fs
next_above n [] = tt
next_above n (f ∷ fs) = let rest = next_found_least (max n (f.head.version + 1)) fs in (omega (arith, rest), next_above (max n (f.head.version + 1)) fs)

pub all_above : (n : ℕ) (ss : List Scan) → AllByRecursion (λ (s : Scan). AllByRecursion (λ (f : Found). f.head.version < next_of n ss) s.records.items) ss
all_above n [] = tt
all_above n (s ∷ ss) =
    (weaker s.records.items (next_above n s.records.items) (next_least (next_found n s.records.items) ss), all_above (next_found n s.records.items) ss)
  where
    weaker : (fs : List Found) {a b : ℕ} → AllByRecursion (λ (f : Found). f.head.version < a) fs → a ≤ b → AllByRecursion (λ (f : Found). f.head.version < b) fs
    weaker [] all le = tt
    weaker (f ∷ fs) all le = (let lt = all.0 in omega (arith, lt, le), weaker fs all.1 le)

next_is_from : {D : Type 0} (state : D → State) (id n : ℕ) (os : List (OwnedPart D)) (ss : List Scan) → AllZip (IsTold state id) os ss → 1 ≤ n → next_of n ss ≡ max n (next_version (all_records state id os))
next_is_from state id n [] [] zip least = omega (arith, least)
next_is_from state id n [] (s ∷ ss) zip least = absurd zip
next_is_from state id n (p ∷ os) [] zip least = absurd zip
next_is_from state id n (p ∷ os) (s ∷ ss) zip least =
    let a = next_found_least n s.records.items in
    next_is_from state id (next_found n s.records.items) os ss zip.1 (omega (arith, a, least)) ∙ sym (next_more n (records_at state id p) s.records.items (all_records state id os) zip.0.heads least)

next_one : (rs : List Record) → 1 ≤ next_version rs
next_one [] = omega arith
next_one (r ∷ rs) = let rest = next_one rs in omega (arith, rest)

pub next_is : {D : Type 0} (state : D → State) (id : ℕ) (os : List (OwnedPart D)) (ss : List Scan) → AllZip (IsTold state id) os ss → next_of 1 ss ≡ next_version (all_records state id os)
next_is state id os ss zip = let e = next_is_from state id 1 os ss zip (omega arith) in let one = next_one (all_records state id os) in omega (arith, e, one)
