-- The segments of a manager's lanes, the segments that it is seen to hold, and the records that its index lists among theirs.
use Rattle.rack.proofs.ClosingBasics.{◌≡◌, ◌≢◌, ◌<◌, ◌+◌, ◌^◌, inl, inr, ℕ, Bool, List, [], ◌∷◌, map, Option, Some, None, refl, sym, ap, subst, Contains, unwrap_or, AllByRecursion, ⊎_elim}
use Rattle.rack.proofs.ClosingBasics.{◌∙◌, slice_get}
use Rattle.rack.proofs.ClosingTerms.{Block, Free, Owned, owned_block, Record, IsIdle, IsLog, extent_of, read_log, Held, SaysOwnerOrFree, Spun, part_of, held_in, HeldSegment, Lane, Logs, AllHold}
use Rattle.rack.proofs.ClosingTerms.{AllLanesHold, held_with, all_held, IsAmong, Extent, IsValid, marked, AreRising, Indexed, Listed, listed_in, IsEntryOf, IsFound, IsBacked, IsIndexOf, IsSorted}
use Rattle.rack.proofs.ClosingTerms.{extents_held, IsOfExtent, AreListedOf}
use Rattle.wol_model.specs.Recovered.{extents_in}
use Rattle.wol_model.proofs.ReadLogs.{log_from}
use Rattle.wol_model.proofs.Spellings.{one_segment_head}
use Rattle.wol_promise.proofs.Lists.{all_joined, all_front, all_back}
use Rattle.rack_parts.proofs.Members.{none_in, first_in, later_in, in_cases, in_map, of_map, of_recursion}
use Rattle.manager_recovery.proofs.ByLogger.{among_left, among_right, among_either, among_map, map_among, among_get, among_at}

-- ---- Blocks that are no log of a volume

pub no_log : (v : ℕ) (bs : List Block) → ((rs : List Record) → IsLog bs v rs → ⊥) → extents_in v bs ≡ []
unfolding extents_in
no_log v bs never = go (read_log v bs) refl
  where
    go : (o : Option (List Record)) → read_log v bs ≡ o → map extent_of (unwrap_or (read_log v bs) []) ≡ []
    go None e = ap (λ (o : Option (List Record)). map extent_of (unwrap_or o [])) e
    go (Some rs) e = absurd (never rs (log_from bs v rs e))

-- a free segment is no log
pub not_idle : (owner : ℕ) (bs : List Block) (rs : List Record) → IsIdle bs → IsLog bs owner rs → ⊥
not_idle owner [] rs free log = absurd free
not_idle owner (b ∷ bs) rs free log =
    let first : b ≡ owned_block owner = cc log.joined in
    let same : Free ≡ Owned owner = one_segment_head b Free (Owned owner) (record { in_range = tt; bytes = free }) (record { in_range = log.known; bytes = first }) in
    absurd (cc same)

-- a segment that says it is another volume's, or free, is no log of this one
pub no_log_of_other : (v w : ℕ) (bs : List Block) (rs : List Record) → w < 2 ^ 32 → v ≢ w → SaysOwnerOrFree w bs → IsLog bs v rs → ⊥
no_log_of_other v w [] rs small differs says log = absurd says
no_log_of_other v w (b ∷ bs) rs small differs (inr free) log = not_idle v (b ∷ bs) rs free log
no_log_of_other v w (b ∷ bs) rs small differs (inl owned) log =
    let first : b ≡ owned_block v = cc log.joined in
    let same : Owned v ≡ Owned w = one_segment_head b (Owned v) (Owned w) (record { in_range = log.known; bytes = first }) (record { in_range = small; bytes = owned }) in
    differs (cc same)

-- so it gives that volume no extents
pub not_of_other : (v w : ℕ) (bs : List Block) → w < 2 ^ 32 → v ≢ w → SaysOwnerOrFree w bs → extents_in v bs ≡ []
not_of_other v w bs small differs says = no_log v bs (λ rs log. no_log_of_other v w bs rs small differs says log)

-- ---- What is held

module _ {D : Type 0} where
  each_with : (P : Held (Spun D) → Type 0) (j : ℕ) (hs : List (HeldSegment D)) (logs : List (List Record)) → ((h : HeldSegment D) (rs : List Record) (broken : Bool) → Contains hs h → P (record { part = part_of h.segment; lane = j; index = h.index; broken = broken; records = rs }))
      → AllByRecursion P (held_with j hs logs)
  each_with P j [] logs each = tt
  each_with P j (h ∷ hs) [] each = tt
  each_with P j (h ∷ hs) (rs ∷ logs) each = (each h rs h.segment.broken (first_in h h hs refl), each_with P j hs logs (λ g gs broken has. each g gs broken (later_in h g hs has)))

  -- what holds of each segment of each lane holds of each held one
  pub each_held : (P : Held (Spun D) → Type 0) (j : ℕ) (lanes : List (Lane D)) (logs : Logs)
      → ((i : ℕ) (l : Lane D) (h : HeldSegment D) (rs : List Record) (broken : Bool) → Contains lanes l → Contains (held_in l) h → P (record { part = part_of h.segment; lane = i; index = h.index; broken = broken; records = rs }))
      → AllByRecursion P (all_held j lanes logs)
  each_held P j [] logs each = tt
  each_held P j (l ∷ lanes) [] each = tt
  each_held P j (l ∷ lanes) (ls ∷ logs) each =
      all_joined P (held_with j (held_in l) ls) (all_held (j + 1) lanes logs) (each_with P j (held_in l) ls (λ h rs broken has. each j l h rs broken (first_in l l lanes refl) has))
      (each_held P (j + 1) lanes logs (λ i k h rs broken in_lanes in_held. each i k h rs broken (later_in l k lanes in_lanes) in_held))

  held_at : (P : Held (Spun D) → Type 0) (Q : Type 0) (j : ℕ) (hs : List (HeldSegment D)) (logs : List (List Record)) (R : HeldSegment D → List Record → Type 0) → AllHold R hs logs → AllByRecursion P (held_with j hs logs) → (h : HeldSegment D) → Contains hs h
      → ((rs : List Record) (broken : Bool) → P (record { part = part_of h.segment; lane = j; index = h.index; broken = broken; records = rs }) → Q) → Q
  held_at P Q j [] logs R hold all h has then = absurd (none_in h has)
  held_at P Q j (g ∷ hs) [] R hold all h has then = absurd hold
  held_at P Q j (g ∷ hs) (rs ∷ logs) R hold all h has then = ⊎_elim
      (λ e. then rs g.segment.broken (subst (λ (x : HeldSegment D). P (record { part = part_of x.segment; lane = j; index = x.index; broken = g.segment.broken; records = rs })) e all.0))
      (λ more. held_at P Q j hs logs R hold.1 all.1 h more then)
      (in_cases g h hs has)

  -- and what holds of each held one holds of each segment of each lane
  pub of_held : (P : Held (Spun D) → Type 0) (Q : Type 0) (j : ℕ) (lanes : List (Lane D)) (logs : Logs) (R : HeldSegment D → List Record → Type 0) → AllLanesHold R lanes logs → AllByRecursion P (all_held j lanes logs) → (l : Lane D) (h : HeldSegment D) → Contains lanes l → Contains (held_in l) h
      → ((i : ℕ) (rs : List Record) (broken : Bool) → P (record { part = part_of h.segment; lane = i; index = h.index; broken = broken; records = rs }) → Q) → Q
  of_held P Q j [] logs R hold all l h in_lanes in_held then = absurd (none_in l in_lanes)
  of_held P Q j (k ∷ lanes) [] R hold all l h in_lanes in_held then = absurd hold
  of_held P Q j (k ∷ lanes) (ls ∷ logs) R hold all l h in_lanes in_held then = ⊎_elim
      (λ e. held_at P Q j (held_in k) ls R hold.0 (all_front P (held_with j (held_in k) ls) (all_held (j + 1) lanes logs) all) h (subst (λ (x : Lane D). Contains (held_in x) h) (sym e) in_held) (λ rs broken x. then j rs broken x))
      (λ more. of_held P Q (j + 1) lanes logs R hold.1 (all_back P (held_with j (held_in k) ls) (all_held (j + 1) lanes logs) all) l h more in_held then)
      (in_cases k l lanes in_lanes)

-- The records that an index lists, among the extents of the segments that it is of.

-- ---- The extents of held segments

-- record k of these has the extent
record IsRecordOf (rs : List Record) (x : Extent) : Type 0 where
  k : ℕ
  record_ : Record
  at : slice_get rs k ≡ Some record_
  is : x ≡ extent_of record_

record_of : (rs : List Record) (x : Extent) → IsAmong (map extent_of rs) x → IsRecordOf rs x
record_of rs x has = let r = map_among extent_of rs x has in let at = among_get rs r.0 r.1 in record { k = at.0; record_ = r.0; at = at.1; is = r.2 }

extent_there : (rs : List Record) (k : ℕ) (r : Record) → slice_get rs k ≡ Some r → IsAmong (map extent_of rs) (extent_of r)
extent_there rs k r at = among_map extent_of rs r (among_at rs k r at)

versions_in : (indexed : List Indexed) → map (λ (e : Listed). e.version) (listed_in indexed) ≡ map (λ (e : Indexed). e.listed.version) indexed
versions_in [] = refl
versions_in (e ∷ indexed) = ap (λ l. e.listed.version ∷ l) (versions_in indexed)

module _ {P : Type 0} where
  -- a record of a held segment has it
  record IsHeldRecord (held : List (Held P)) (x : Extent) : Type 0 where
    segment : Held P
    has : Contains held segment
    of_segment : IsRecordOf segment.records x

  held_record : (held : List (Held P)) (x : Extent) → IsAmong (extents_held held) x → IsHeldRecord held x
  held_record [] x has = absurd has
  held_record (s ∷ held) x has = ⊎_elim
      (λ front. record { segment = s; has = first_in s s held refl; of_segment = record_of s.records x front })
      (λ back. let rest = held_record held x back in record { segment = rest.segment; has = later_in s rest.segment held rest.has; of_segment = rest.of_segment })
      (among_either (map extent_of s.records) (extents_held held) x has)

  held_there : (held : List (Held P)) (s : Held P) (k : ℕ) (r : Record) → Contains held s → slice_get s.records k ≡ Some r → IsAmong (extents_held held) (extent_of r)
  held_there [] s k r has at = absurd (none_in s has)
  held_there (y ∷ held) s k r has at = ⊎_elim
      (λ (same : y ≡ s). among_left (map extent_of y.records) (extents_held held) (extent_of r) (extent_there y.records k r (ap (λ (h : Held P). slice_get h.records k) same ∙ at)))
      (λ more. among_right (map extent_of y.records) (extents_held held) (extent_of r) (held_there held s k r more at))
      (in_cases y s held has)

  -- an entry of a record is of its extent
  pub of_record : (s : Held P) (k : ℕ) (r : Record) (e : Indexed) → IsEntryOf s k r e → IsOfExtent (extent_of r) e.listed
  of_record s k r e is = record {
    version = is.version;
    first = is.first;
    keeps = λ b. λ i. marked (is.first i) (is.keep i) b;
  }

  pub listed_held : (indexed : List Indexed) (held : List (Held P)) → IsIndexOf indexed held → IsSorted indexed → AreListedOf (listed_in indexed) (extents_held held)
  listed_held indexed held index sorted = record { each = each; only = only; rising = subst AreRising (sym (versions_in indexed)) sorted.rising }
    where
      each : (x : Extent) → IsAmong (extents_held held) x → IsValid x.cover → (e : Listed) × Contains (listed_in indexed) e × IsOfExtent x e
      each x has valid =
          let h = held_record held x has in
          let o = h.of_segment in
          let found : IsFound indexed h.segment o.k o.record_ =
          of_recursion (λ (s : Held P). (k : ℕ) (r : Record) → slice_get s.records k ≡ Some r → IsValid (extent_of r).cover → IsFound indexed s k r) held h.segment index.each h.has o.k o.record_ o.at
          (subst (λ (y : Extent). IsValid y.cover) o.is valid) in
          (found.entry.listed, in_map (λ (e : Indexed). e.listed) indexed found.entry found.listed, subst (λ (y : Extent). IsOfExtent y found.entry.listed) (sym o.is) (of_record h.segment o.k o.record_ found.entry found.is_its))

      only : (e : Listed) → Contains (listed_in indexed) e → (x : Extent) × IsAmong (extents_held held) x × IsValid x.cover × IsOfExtent x e
      only e has =
          let d = of_map (λ (d : Indexed). d.listed) indexed e has in
          let b : IsBacked held d.0 = of_recursion (IsBacked held) indexed d.0 index.only d.1 in
          (extent_of b.record_, held_there held b.segment b.k b.record_ b.is_held b.is_there, b.valid, subst (λ (l : Listed). IsOfExtent (extent_of b.record_) l) d.2 (of_record b.segment b.k b.record_ d.0 b.is_its))

-- extents among which the same stand
pub listed_same : (listed : List Listed) (xs ys : List Extent) → ((x : Extent) → IsAmong xs x → IsAmong ys x) → ((x : Extent) → IsAmong ys x → IsAmong xs x) → AreListedOf listed xs → AreListedOf listed ys
listed_same listed xs ys to from are = record {
  each = λ x has valid. are.each x (from x has) valid;
  only = λ e has. let o = are.only e has in (o.0, to o.0 o.1, o.2, o.3);
  rising = are.rising;
}
