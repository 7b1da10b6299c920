-- Whether a chunk is tidy once all was given up that may go is told by the live blocks of one record.
use Rattle.std.proofs.Common.{◌≡◌, ⊎_elim, ◌<◌, ◌≤◌, ◌+◌, ◌-◌, ◌^◌, ℕ, Bool, true, false, not, ◌&&◌, List, [], map, None, Some, refl, sym, ap, subst, ◌∙◌, arith, eqb, leb, ltb}
use Rattle.std.specs.Prelude.{◌↔◌, Contains, IfSome}
use Rattle.std.specs.List.{range_with_len}
use Rattle.std.proofs.lemmas.Bool.{cases_lt, eq-eqb, eqb-true, le-leb, le-ltb, lt-ltb, ltb-true}
use Rattle.std.proofs.lemmas.Nat.{pow_pos}
use Rattle.std.proofs.lemmas.Nat.Bits.{bit_at_ones}
use Rattle.std.specs.Option.{option_map}
use Rattle.wol_model.specs.Extents.{Cover, has_newer, newest}
use Rattle.wol_model.specs.Index.{Listed, Indexed, listed_in, cover_of, is_covered, is_live, listed_covers}
use Rattle.wol_model.specs.Log.{has_bit}
use Rattle.wol_model.proofs.Counts.{marked_within}
use Rattle.wol_model.proofs.Newest.{above, newer_is_above}
use Rattle.wol_promise.proofs.Covers.{any_member}
use Rattle.wol_promise.proofs.Lists.{member_map}
use Rattle.block_cells.specs.Masks.{IsMask, in_mask}
use Rattle.block_cells.specs.declared.record.Rec.{Rec}
use Rattle.block_cells.proofs.Bits.{has_bit-above, small_from_bits}
use Rattle.redirect_map.specs.Index.{IsAnswer, IsIndex, cover_at, entry_at, has_version}
use Rattle.garbage_list.proofs.Nexts.{Answered, answered, unanswered}
use Rattle.manager.proofs.Entries.{among, entry_of_version, same_mask, some_of}
use Rattle.manager.proofs.RunContent.{IsNewest, newest_is, newest_listed}
use Rattle.manager.proofs.RunSources.{same_version}
use Rattle.log_cleaner.specs.Chunks.{BecomesTidy, HasLive, is_within}
use Rattle.log_cleaner.proofs.Finding.{entry_is, found, found_is}
use Rattle.log_cleaner.proofs.Lives.{newer_of_member, same_listed, top_of}
use Rattle.log_cleaner.proofs.Telling.{none_covers, not_found}
use Rattle.log_cleaner.proofs.Tidying.{both_true, both_ways, clash, covers, not_so, within_first}

-- the bits of a number with so many low ones
ones : (count k : ℕ) → has_bit (2 ^ count - 1) k ≡ ltb k count
ones count k = ⊎_elim
    (λ (less : k < count). ap (λ (n : ℕ). eqb n 1) (bit_at_ones count k less) ∙ sym (lt-ltb k count less))
    (λ (more : count ≤ k). has_bit-above (2 ^ count - 1) count k (let some = pow_pos count in omega (arith, some)) more ∙ sym (le-ltb k count more))
    (cases_lt k count)

-- where it is so a record covers the first block
pub becomes_found : (es : List Indexed) (first count : ℕ) → 1 ≤ count → BecomesTidy (listed_in es) first count → IsAnswer (newest cover_at es first) None → ⊥
becomes_found es first count some t a =
    let h = (t.1 first (omega arith)).1 (within_first first count some) in
    clash (is_covered (listed_in es) first) (any_member (λ (d : Listed). covers d first) (listed_in es) h.0 h.1 (top_of (listed_in es) h.0 first h.3).keeps) (none_covers es first a)

-- the newest record of a block is there
pub newest_there : (es : List Indexed) (b : ℕ) (newest_ : Rec) → IsAnswer (newest cover_at es b) (Some newest_) → IsAnswer (entry_at es newest_.version) None → ⊥
newest_there es b newest_ a none =
    let n = answered (newest cover_at es b) newest_ a in
    not_found (has_version newest_.version) es n.entry (unanswered (entry_at es newest_.version) none) (newest_is cover_at es b n.entry n.is).among (eq-eqb n.entry.listed.version newest_.version (sym n.record_.version))

module _ (es : List Indexed) (index : IsIndex es) (first count : ℕ) (some : 1 ≤ count) (few : count ≤ 128) (newest_ : Rec) (a : IsAnswer (newest cover_at es first) (Some newest_)) (r : Rec) (b : IsAnswer (entry_at es newest_.version) (Some r))
    (mask : ℕ) (live : IfSome (entry_at es r.version) (λ e. IsMask e.listed.first (is_live (listed_in es) e.listed) mask))
    (moved : ℕ) (small : moved < 2 ^ 128) (bits : (i : ℕ) → has_bit moved i ≡ (ltb i 128 && in_mask r.lbn mask (first + i))) where
  abbrev L : List Listed
  L = listed_in es

  n : Answered (newest cover_at es first) newest_
  n = answered (newest cover_at es first) newest_ a

  its : IsNewest cover_at es first n.entry
  its = newest_is cover_at es first n.entry n.is

  abbrev e : Listed
  e = (found es index newest_.version r b).entry.listed

  e_is : (found es index newest_.version r b).entry ≡ n.entry
  e_is =
      let at = entry_of_version es newest_.version (found es index newest_.version r b).entry index.rising (found es index newest_.version r b).is in
      same_version es (found es index newest_.version r b).entry n.entry index.rising (among at) its.among (at.version_is ∙ n.record_.version)

  e_among : Contains L e
  e_among = member_map (λ (d : Indexed). d.listed) es (found es index newest_.version r b).entry (subst (Contains es) (sym e_is) its.among)

  keeps_first : covers e first ≡ true
  keeps_first = (λ i. covers (e_is i).listed first) ∙ its.covers

  low : e.first ≤ first
  low = (marked_within e.first e.keep first keeps_first).0

  lbn_is : r.lbn ≡ e.first
  lbn_is = (found es index newest_.version r b).record_.first

  -- the bits are the live blocks from the first one on
  live_at : (k : ℕ) → has_bit moved k ≡ is_live L e (first + k)
  live_at k = bits k ∙ ⊎_elim near far (cases_lt k 128)
    where
      mask_is : (i : ℕ) → has_bit mask i ≡ is_live L e (e.first + i)
      mask_is = some_of (λ (d : Indexed). IsMask d.listed.first (is_live L d.listed) mask) (entry_at es r.version) (found es index newest_.version r b).entry live (found_is es index newest_.version r b)

      near : k < 128 → (ltb k 128 && in_mask r.lbn mask (first + k)) ≡ is_live L e (first + k)
      near less =
          let le : leb r.lbn (first + k) ≡ true = le-leb r.lbn (first + k) (omega (arith, low, lbn_is)) in
          let at : e.first + (first + k - r.lbn) ≡ first + k = omega (arith, low, lbn_is) in
          (λ i. lt-ltb k 128 less i && (le i && has_bit mask (first + k - r.lbn))) ∙ mask_is (first + k - r.lbn) ∙ ap (is_live L e) at

      far : 128 ≤ k → (ltb k 128 && in_mask r.lbn mask (first + k)) ≡ is_live L e (first + k)
      far more = (λ i. le-ltb k 128 more i && in_mask r.lbn mask (first + k)) ∙ sym (not_so (is_live L e (first + k)) (λ is.
          let w = marked_within e.first e.keep (first + k) (top_of L e (first + k) is).keeps in let high = w.1 in let short = (entry_is es index newest_.version r b).count in omega (arith, high, short, more, low)))

  -- a live block of that version is one of the record
  of_version : (v c : ℕ) → v ≡ e.version → HasLive L v c → is_live L e c ≡ true
  of_version v c same h = (λ i. is_live L (same_listed es index e h.0 e_among h.1 (sym same ∙ sym h.2) i) c) ∙ h.3

  has_ : (v c : ℕ) → v ≡ e.version → is_live L e c ≡ true → HasLive L v c
  has_ v c same is = (e, e_among, sym same, is)

  within_is : (c : ℕ) → first ≤ c → is_within first count c ≡ ltb (c - first) count
  within_is c le = both_ways (is_within first count c) (ltb (c - first) count)
      (λ is. let h = ltb-true c (first + count) (both_true (leb first c) (ltb c (first + count)) is).1 in lt-ltb (c - first) count (omega (arith, h, le)))
      (λ is. let h = ltb-true (c - first) count is in λ i. le-leb first c le i && lt-ltb c (first + count) (omega (arith, h, le)) i)

  -- the newest record of a block is the one of which it is live
  version_of : (v : ℕ) → HasLive L v first → v ≡ e.version
  version_of v h =
      let t = top_of L h.0 first h.3 in let is = h.2 in let same = ap (λ (d : Indexed). d.listed.version) e_is in
      ⊎_elim
      (λ (lt : h.0.version < e.version). absurd (t.top e e_among keeps_first lt))
      (λ (ge : e.version ≤ h.0.version). ⊎_elim
      (λ (lt : e.version < h.0.version). absurd (clash (has_newer (listed_covers L) e.version first) (newer_of_member L e.version first h.0 h.1 t.keeps lt)
      (newer_is_above cover_of L e.version first ∙ ap (above cover_of e.version) (newest_listed es first ∙ ap (option_map (λ (d : Indexed). d.listed)) n.is)
      ∙ le-ltb e.version n.entry.listed.version (omega (arith, same)))))
      (λ (le : h.0.version ≤ e.version). (let same_ : v ≡ e.version = omega (arith, le, ge, is) in same_))
      (cases_lt e.version h.0.version))
      (cases_lt h.0.version e.version)

  pub becomes : (eqb moved (2 ^ count - 1) ≡ true) ↔ BecomesTidy (listed_in es) first count
  becomes = (to, from)
    where
      to : eqb moved (2 ^ count - 1) ≡ true → BecomesTidy L first count
      to is = (
        e.version,
        λ c le.
            let place : first + (c - first) ≡ c = omega (arith, le) in
            let same : is_live L e c ≡ is_within first count c =
            ap (is_live L e) (sym place) ∙ sym (live_at (c - first)) ∙ ap (λ (m : ℕ). has_bit m (c - first)) (eqb-true moved (2 ^ count - 1) is) ∙ ones count (c - first) ∙ sym (within_is c le) in
            (λ h. sym same ∙ of_version e.version c refl h, λ inside. has_ e.version c refl (same ∙ inside)),
      )

      from : BecomesTidy L first count → eqb moved (2 ^ count - 1) ≡ true
      from t = eq-eqb moved (2 ^ count - 1) (same_mask 128 moved (2 ^ count - 1) small full (λ i. map (λ (k : ℕ). each k i) (range_with_len 0 128)))
        where
          v : t.0 ≡ e.version
          v = version_of t.0 ((t.1 first (omega arith)).1 (within_first first count some))

          full : 2 ^ count - 1 < 2 ^ 128
          full = small_from_bits (2 ^ count - 1) 128 (λ i more. has_bit-above (2 ^ count - 1) count i (let p = pow_pos count in omega (arith, p)) (omega (arith, more, few)))

          each : (k : ℕ) → has_bit moved k ≡ has_bit (2 ^ count - 1) k
          each k =
              let le : first ≤ first + k = omega arith in
              let off : first + k - first ≡ k = omega arith in
              live_at k ∙ both_ways (is_live L e (first + k)) (is_within first count (first + k))
              (λ is. (t.1 (first + k) le).0 (has_ t.0 (first + k) v is))
              (λ is. of_version t.0 (first + k) v ((t.1 (first + k) le).1 is))
              ∙ within_is (first + k) le ∙ ap (λ (m : ℕ). ltb m count) off ∙ sym (ones count k)
