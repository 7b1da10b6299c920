-- The heads of the records that were found are those in the segments as they read.
use Rattle.std.proofs.Common.{◌≡◌, ◌+◌, ℕ, zero, suc, Bool, true, false, not, cond, eqb, List, [], ◌∷◌, ◌++◌, length, length-append, take, map, Option, None, Some, refl, sym, ap, ◌∙◌, arith, unwrap_or}
use Rattle.std.specs.Prelude.{slice_get, option_map}
use Rattle.std.specs.List.{AllZip, flat_map, filter}
use Rattle.std.proofs.lemmas.List.{map-append}
use Rattle.std.proofs.lemmas.Option.{same_Some}
use Rattle.wol_disk.specs.Disk.{Block, State, Values, TellsContent, reads, settled}
use Rattle.wol_disk.proofs.Images.{reads_only}
use Rattle.wol_model.specs.Log.{Record, written}
use Rattle.wol_model.specs.Heads.{RecordHead}
use Rattle.wol_model.specs.Recovered.{read_log}
use Rattle.wol_model.proofs.ReadLogs.{log_read}
use Rattle.log_layout.specs.Values.{record_head}
use Rattle.log_scan.specs.declared.Found.{Found}
use Rattle.log_scan.specs.declared.Scan.{Scan}
use Rattle.spin_model.specs.Spun.{state_of}
use Rattle.manager_recovery.specs.Owned.{Head, read_of, owned_of, all_owned, records_of, heads_from, heads_of, heads_in}
use Rattle.manager_recovery.specs.Scanned.{IsScanned, IsSeenAgain, IsSettledPart, all_found, found_in, record_in, keeps_some, lane_of, head_of}
use Rattle.manager_recovery.specs.declared.opening.OwnedPart.{OwnedPart}
use Rattle.manager_recovery.proofs.SegmentFaults.{scan_log, told_is}

-- ---- What reads the same

read_settled : (d e : State) → e.values ≡ option_map settled d.values → read_of e ≡ read_of d
read_settled d e is = (λ i. unwrap_or (option_map reads (is i)) []) ∙ at d.values
  where
    at : (o : Option (List (Values Block))) → unwrap_or (option_map reads (option_map settled o)) [] ≡ unwrap_or (option_map reads o) []
    at None = refl
    at (Some vs) = reads_only (reads vs)

module _ {D : Type 0} (state : D → State) where
  owned_same : (o n : OwnedPart D) → IsSeenAgain state o n → IsSettledPart state o n → owned_of state n ≡ owned_of state o
  owned_same o n seen settled_ = λ i. record {
    logger = (seen.same.0 i).logger;
    index = (seen.same.0 i).index;
    first = (seen.same.0 i).first_block;
    blocks = read_settled (state_of state o.part) (state_of state n.part) settled_.settled_ i;
  }

  pub all_same : (os ns : List (OwnedPart D)) → AllZip (IsSeenAgain state) os ns → AllZip (IsSettledPart state) os ns → all_owned state ns ≡ all_owned state os
  all_same [] [] seen settled_ = refl
  all_same [] (n ∷ ns) seen settled_ = absurd seen
  all_same (o ∷ os) [] seen settled_ = absurd seen
  all_same (o ∷ os) (n ∷ ns) seen settled_ = λ i. owned_same o n seen.0 settled_.0 i ∷ all_same os ns seen.1 settled_.1 i

-- ---- The heads of one segment

record FoundFrom (rs : List Record) (fs : List Found) (pos : ℕ) : Type 0 where
  each : (k : ℕ) (f : Found) → slice_get fs k ≡ Some f → (r : Record) × (slice_get rs k ≡ Some r) × (f.pos ≡ pos + length (flat_map written (take k rs))) × (record_head f.head ≡ r.head)
  all : length fs ≡ length rs

module _ {D : Type 0} (state : D → State) (o : OwnedPart D) (lane : ℕ) where
  heads_found : (rs : List Record) (fs : List Found) (pos : ℕ) → FoundFrom rs fs pos → map head_of (map (record_in lane o) (filter keeps_some fs)) ≡ heads_from (owned_of state o) pos rs
  heads_found [] [] pos found = refl
  heads_found [] (f ∷ fs) pos found = absurd (let e : suc (length fs) ≡ 0 = found.all in omega arith)
  heads_found (r ∷ rs) [] pos found = absurd (let e : 0 ≡ suc (length rs) = found.all in omega arith)
  heads_found (r ∷ rs) (f ∷ fs) pos found =
      at (heads_found rs fs (pos + 1 + length r.blocks) behind) (eqb f.head.keep 0) ∙ (λ i. cond (eqb (mask i) 0) rest (head i ∷ rest))
    where
      first : (q : Record) × (slice_get (r ∷ rs) 0 ≡ Some q) × (f.pos ≡ pos + length (flat_map written (take 0 (r ∷ rs)))) × (record_head f.head ≡ q.head)
      first = found.each zero f refl

      its : record_head f.head ≡ r.head
      its = first.3 ∙ ap (λ (q : Record). q.head) (sym (same_Some r first.0 first.1))

      mask : f.head.keep ≡ r.head.mask
      mask = ap (λ (h : RecordHead). h.mask) its

      rest : List Head
      rest = heads_from (owned_of state o) (pos + 1 + length r.blocks) rs

      here : f.pos ≡ pos
      here = let e : f.pos ≡ pos + length (flat_map written (take 0 (r ∷ rs))) = first.2 in omega arith

      head : head_of (record_in lane o f) ≡ record { version = r.head.version; volume = o.logger; block = o.first_block + pos }
      head = λ i. record { version = (its i).version; volume = o.logger; block = o.first_block + here i }

      behind : FoundFrom rs fs (pos + 1 + length r.blocks)
      behind = record {
        each = λ k g is.
            let w = found.each (suc k) g is in
            let long : length (flat_map written (take (suc k) (r ∷ rs))) ≡ suc (length r.blocks) + length (flat_map written (take k rs)) = length-append (written r) (flat_map written (take k rs)) in
            (w.0, w.1, omega (arith, w.2, long), w.3);
        all = let e : suc (length fs) ≡ suc (length rs) = found.all in omega arith;
      }

      at : map head_of (map (record_in lane o) (filter keeps_some fs)) ≡ rest → (b : Bool)
          → map head_of (map (record_in lane o) (cond (not b) (f ∷ filter keeps_some fs) (filter keeps_some fs))) ≡ cond b rest (head_of (record_in lane o f) ∷ rest)
      at same true = same
      at same false = λ i. head_of (record_in lane o f) ∷ same i

-- ---- The heads of all segments

module _ {D : Type 0} (state : D → State) (id home : ℕ) (view : List ℕ) where
  one_segment : (o : OwnedPart D) (s : Scan) → TellsContent (state_of state o.part) → IsScanned state id home o s → map head_of (found_in view o s) ≡ heads_of id (owned_of state o)
  one_segment o s told scanned =
      let w = scan_log (reads told.0) id s scanned.owner (scanned.scanned told.0 told.1).1 in
      let same : records_of id (owned_of state o) ≡ w.0 = (λ i. unwrap_or (read_log id (told_is (state_of state o.part) told.0 told.1 i)) []) ∙ (λ i. unwrap_or (log_read (reads told.0) id w.0 w.1 i) []) in
      heads_found state o (lane_of view o.logger) w.0 s.records.items 1 (record {
        each = λ k f is. (let its = w.2.each k f is in (its.whose, its.there, its.pos, its.head));
        all = w.2.all;
      }) ∙ (λ i. heads_from (owned_of state o) 1 (sym same i))

  pub all_heads : ((o : OwnedPart D) → TellsContent (state_of state o.part)) → (os : List (OwnedPart D)) (ss : List Scan) → AllZip (IsScanned state id home) os ss → map head_of (all_found view os ss) ≡ heads_in id (all_owned state os)
  all_heads told [] [] zip = refl
  all_heads told [] (s ∷ ss) zip = absurd zip
  all_heads told (o ∷ os) [] zip = absurd zip
  all_heads told (o ∷ os) (s ∷ ss) zip =
      map-append head_of (found_in view o s) (all_found view os ss)
      ∙ (λ i. one_segment o s (told o) zip.0 i ++ all_heads told os ss zip.1 i)
