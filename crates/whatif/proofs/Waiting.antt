-- How long disks let wait.
use Rattle.std.proofs.Common.{◌≡◌, ◌+◌, ◌≤◌, ◌<◌, ℕ, zero, suc, List, [], ◌∷◌, ◌++◌, map, Some, sym, ap, subst, ◌∙◌, arith, max}
use Rattle.std.proofs.lemmas.Option.{none-some, same_Some}
use Rattle.std.specs.Prelude.{slice_get}
use Rattle.std.specs.List.{range_with_len}
use Rattle.std.proofs.lemmas.List.{map-append}
use Rattle.wol_promise.proofs.Lists.{range_push}
use Rattle.wol_model.specs.Journal.{SpindleState}
use Rattle.wol_model.specs.Blocks.{changed_at}
use Rattle.whatif.specs.declared.disk.Disk.{Disk}
use Rattle.whatif.specs.Disks.{AreDisks, IsDisk}
use Rattle.wol_model.specs.Placing.{Place, Full}
use Rattle.wol_promise.specs.Policy.{place_of}
use Rattle.whatif.specs.declared.volume.Volume.{Volume}
use Rattle.whatif.specs.Machine.{accessed, all_accessed, disk_of, write_of, writing}
use Rattle.whatif.specs.Volumes.{IsLate, look_in, reach_in}
use Rattle.whatif.specs.Waits.{lag, lag_among, wait_on}
use Rattle.whatif.proofs.Doing.{read_more}

-- what is so of the disk at a place is so of the spindle there
pub lag_of : (wake n : ℕ) (ds : List Disk) (ss : List SpindleState) (k : ℕ) (d : Disk) → AreDisks ds ss → slice_get ds k ≡ Some d → ((s : SpindleState) → IsDisk d s → n ≡ lag wake s) → n ≡ lag_among wake ss k
lag_of wake n [] ss k d zip is so = absurd (none-some d is)
lag_of wake n (x ∷ ds) [] k d zip is so = absurd zip
lag_of wake n (x ∷ ds) (s ∷ ss) zero d zip is so = so s (subst (λ (y : Disk). IsDisk y s) (same_Some x d is) zip.0)
lag_of wake n (x ∷ ds) (s ∷ ss) (suc k) d zip is so = lag_of wake n ds ss k d zip.1 is so

max_all : (a b c : ℕ) → max a (max b c) ≡ max (max a b) c
max_all a b c = omega arith

-- disks that are used after others
pub wait_more : (t wake : ℕ) (us vs : List ℕ) (ss : List SpindleState) → wait_on t wake (us ++ vs) ss ≡ max (wait_on t wake us ss) (wait_on t wake vs (all_accessed t us ss))
wait_more t wake [] vs ss = omega arith
wait_more t wake (u ∷ us) vs ss =
    let after = changed_at u (accessed t) ss in
    ap (max (lag_among wake after u)) (wait_more t wake us vs after)
    ∙ max_all (lag_among wake after u) (wait_on t wake us after) (wait_on t wake vs (all_accessed t us after))

max_none : (n : ℕ) → max n 0 ≡ n
max_none n = omega arith

max_low : (w m : ℕ) → m ≤ w → w ≡ max w m
max_low w m low = omega (arith, low)

-- one more block is read
pub late_more : (t wake : ℕ) (f : ℕ → ℕ) (first i : ℕ) (ss : List SpindleState) → wait_on t wake (map f (range_with_len first (i + 1))) ss
    ≡ max (wait_on t wake (map f (range_with_len first i)) ss) (lag_among wake (changed_at (f (first + i)) (accessed t) (all_accessed t (map f (range_with_len first i)) ss)) (f (first + i)))
late_more t wake f first i ss =
    let more : i + 1 ≡ suc i = omega arith in
    let before = wait_on t wake (map f (range_with_len first i)) ss in
    ap (λ (n : ℕ). wait_on t wake (map f (range_with_len first n)) ss) more
    ∙ ap (λ (l : List ℕ). wait_on t wake (map f l) ss) (range_push first i)
    ∙ ap (λ (l : List ℕ). wait_on t wake l ss) (map-append f (range_with_len first i) ((first + i) ∷ []))
    ∙ wait_more t wake (map f (range_with_len first i)) (f (first + i) ∷ []) ss
    ∙ ap (max before) (max_none (lag_among wake (changed_at (f (first + i)) (accessed t) (all_accessed t (map f (range_with_len first i)) ss)) (f (first + i))))

-- a disk that was just used has some further blocks of a row: no use of it changes anything, or is waited for longer
module _ (t wake w d : ℕ) (ds : List Disk) (again : (ss : List SpindleState) → AreDisks ds ss → AreDisks ds (changed_at d (accessed t) ss)) (high : (ss : List SpindleState) → AreDisks ds ss → lag_among wake ss d ≤ w) (f : ℕ → ℕ) (first : ℕ) (ss : List SpindleState) where
  pub run_read : (i n : ℕ) → ((b : ℕ) → first + i ≤ b → b < first + i + n → f b ≡ d) → AreDisks ds (all_accessed t (map f (range_with_len first i)) ss) → w ≡ wait_on t wake (map f (range_with_len first i)) ss
      → AreDisks ds (all_accessed t (map f (range_with_len first (i + n))) ss) × (w ≡ wait_on t wake (map f (range_with_len first (i + n))) ss)
  run_read i zero same are late =
      let none : i ≡ i + 0 = omega arith in
      (subst (λ (k : ℕ). AreDisks ds (all_accessed t (map f (range_with_len first k)) ss)) none are, late ∙ ap (λ (k : ℕ). wait_on t wake (map f (range_with_len first k)) ss) none)
  run_read i (suc n) same are late =
      let before = all_accessed t (map f (range_with_len first i)) ss in
      let here : f (first + i) ≡ d = same (first + i) (omega arith) (omega arith) in
      let after : AreDisks ds (changed_at d (accessed t) before) = again before are in
      let next : AreDisks ds (all_accessed t (map f (range_with_len first (i + 1))) ss) = subst (AreDisks ds) (sym (read_more t f first i ss)) (subst (λ (k : ℕ). AreDisks ds (changed_at k (accessed t) before)) (sym here) after) in
      let low : lag_among wake (changed_at (f (first + i)) (accessed t) before) (f (first + i)) ≤ w = subst (λ (k : ℕ). lag_among wake (changed_at k (accessed t) before) k ≤ w) (sym here) (high (changed_at d (accessed t) before) after) in
      let longer : w ≡ wait_on t wake (map f (range_with_len first (i + 1))) ss = max_low w _ low ∙ ap (λ (k : ℕ). max k (lag_among wake (changed_at (f (first + i)) (accessed t) before) (f (first + i)))) late ∙ sym (late_more t wake f first i ss) in
      let rest = run_read (i + 1) n (λ b le lt. same b (omega (arith, le)) (omega (arith, lt))) next longer in
      let all : i + 1 + n ≡ i + suc n = omega arith in
      (subst (λ (k : ℕ). AreDisks ds (all_accessed t (map f (range_with_len first k)) ss)) all rest.0, rest.1 ∙ ap (λ (k : ℕ). wait_on t wake (map f (range_with_len first k)) ss) all)

-- a write waits for the disk of its place
pub late_write : (wake first count : ℕ) (p : Place) (v : Volume) (was is : List Disk) (d wait : ℕ) → place_of [] (look_in v) (write_of first count) ≡ p → disk_of (reach_in v) p ≡ d ∷ []
    → ((t : ℕ) (ss : List SpindleState) → AreDisks was ss → AreDisks is (changed_at d (accessed t) ss)) → ((ss : List SpindleState) → AreDisks is ss → wait ≡ lag_among wake ss d)
    → IsLate wake (writing first count) v was wait
late_write wake first count p v was is d wait at one used lags t ss are =
    lags (changed_at d (accessed t) ss) (used t ss are) ∙ sym (max_none (lag_among wake (changed_at d (accessed t) ss) d))
    ∙ ap (λ (us : List ℕ). wait_on t wake us ss) (sym (ap (disk_of (reach_in v)) at ∙ one))

-- .. and for none where it has none
pub late_nowhere : (wake first count : ℕ) (v : Volume) (was : List Disk) → place_of [] (look_in v) (write_of first count) ≡ Full → IsLate wake (writing first count) v was 0
late_nowhere wake first count v was at t ss are = ap (λ (us : List ℕ). wait_on t wake us ss) (sym (ap (disk_of (reach_in v)) at))
