-- A volume that hasn't the mark of a host hasn't the host, so it is passed over where a host is sought.
use Rattle.std.proofs.Common.{◌≡◌, ℕ, ◌==◌, ◌&&◌, ◌||◌, ◌+◌, ◌-◌, ◌<◌, ◌≤◌, Bool, true, false, nat_lt, List, [], ◌∷◌, length, take, drop, zero, suc, option_map, inl, inr, refl, ap, subst, arith}
use Rattle.std.specs.List.{list_any, position, position_or_len, slice_range}
use Rattle.std.specs.Str.{bytes_eq}
use Rattle.std.proofs.lemmas.Bool.{cases_Bool, eq-eqb, lt-ltb, le-ltb, ltb-true, ltb-false}
use Rattle.std.proofs.lemmas.List.{length-drop, take_rest}
use Rattle.std.proofs.lemmas.Slice.Eq.{bytes_eq-Decides}
use Rattle.wol_config.specs.declared.config.VolumeConf.{VolumeConf}
use Rattle.msr_trace.specs.Hosts.{mark_of}

abbrev pub has_mark : ℕ → VolumeConf → Bool
has_mark mark v = mark_of v.host == mark

abbrev pub is_of : List ℕ → ℕ → VolumeConf → Bool
is_of host disk v = bytes_eq v.host host && v.disk == disk

other_host : (host : List ℕ) (disk : ℕ) (v : VolumeConf) → has_mark (mark_of host) v ≡ false → is_of host disk v ≡ false
other_host host disk v h = elim (cases_Bool (bytes_eq v.host host)) [
  | inr other ↦ rw other refl
  | inl same ↦
      let e : v.host ≡ host = (bytes_eq-Decides v.host host).0 same in
      let is : (mark_of v.host == mark_of host) ≡ true = eq-eqb (mark_of v.host) (mark_of host) (ap mark_of e) in
      absurd (cc (rw is at h))
]

both_none : (a b : Bool) → (a || b) ≡ false → (a ≡ false) × (b ≡ false)
both_none false false h = (refl, refl)
both_none true b h = absurd (cc h)
both_none false true h = absurd (cc h)

none_of_both : {X : Type 0} (p : X → Bool) (xs : List X) (n m : ℕ) → list_any p (take n xs) ≡ false → list_any p (take m (drop n xs)) ≡ false → list_any p (take (n + m) xs) ≡ false
none_of_both p xs zero m first next =
    let same : m ≡ 0 + m = omega arith in
    subst (λ (k : ℕ). list_any p (take k xs) ≡ false) same next
none_of_both p [] (suc n) m first next =
    let same : suc (n + m) ≡ suc n + m = omega arith in
    subst (λ (k : ℕ). list_any p (take k []) ≡ false) same refl
none_of_both p (x ∷ xs) (suc n) m first next =
    let both = both_none (p x) (list_any p (take n xs)) first in
    let same : suc (n + m) ≡ suc n + m = omega arith in
    subst (λ (k : ℕ). list_any p (take k (x ∷ xs)) ≡ false) same (rw (both.0) (none_of_both p xs n m both.1 next))

-- where neither the first n volumes nor the four that follow have the mark, the first n + 4 don't
pub none_more : (mark : ℕ) (vs : List VolumeConf) (n : ℕ) → list_any (has_mark mark) (take n vs) ≡ false → list_any (has_mark mark) (slice_range vs n (n + 4)) ≡ false → list_any (has_mark mark) (take (n + 4) vs) ≡ false
none_more mark vs n first next =
    let four : (n + 4) - n ≡ 4 = omega arith in
    none_of_both (has_mark mark) vs n 4 first (subst (λ (k : ℕ). list_any (has_mark mark) (take k (drop n vs)) ≡ false) four next)

place_past : (host : List ℕ) (disk : ℕ) (vs : List VolumeConf) (n : ℕ) → n ≤ length vs → list_any (has_mark (mark_of host)) (take n vs) ≡ false → position_or_len (is_of host disk) vs ≡ n + position_or_len (is_of host disk) (drop n vs)
place_past host disk vs zero within none = omega arith
place_past host disk [] (suc n) within none = absurd (omega arith)
place_past host disk (v ∷ vs) (suc n) within none =
    let both = both_none (has_mark (mark_of host) v) (list_any (has_mark (mark_of host)) (take n vs)) none in
    rw (other_host host disk v both.0, place_past host disk vs n (omega arith) both.1) (omega arith)

-- where none of the first n volumes has the mark of the host, the volume with the host is sought among the others
pub place_after : (host : List ℕ) (disk : ℕ) (vs : List VolumeConf) (n : ℕ) → n ≤ length vs → list_any (has_mark (mark_of host)) (take n vs) ≡ false → position (is_of host disk) vs ≡ option_map (λ (k : ℕ). n + k) (position (is_of host disk) (slice_range vs n (length vs)))
place_after host disk vs n within none =
    let p : ℕ = position_or_len (is_of host disk) (drop n vs) in
    let past : position_or_len (is_of host disk) vs ≡ n + p = place_past host disk vs n within none in
    let long : length (drop n vs) ≡ length vs - n = length-drop n vs in
    elim (cases_Bool (nat_lt p (length (drop n vs)))) [
      | inl there ↦
          let less : p < length (drop n vs) = ltb-true p (length (drop n vs)) there in
          rw (take_rest vs n, past, there, lt-ltb (n + p) (length vs) (omega arith)) refl
      | inr not_there ↦
          let most : length (drop n vs) ≤ p = ltb-false p (length (drop n vs)) not_there in
          rw (take_rest vs n, past, not_there, le-ltb (n + p) (length vs) (omega arith)) refl
    ]
