-- The list of records that were found, and the first twins of a sorted one.
use Rattle.std.proofs.Common.{◌≡◌, ◌+◌, ℕ, zero, suc, eqb, Option, unwrap_or, List, [], ◌∷◌, ◌++◌, take, map, Some, None, sym, ap, ◌∙◌, arith}
use Rattle.std.specs.Prelude.{slice_get, position}
use Rattle.std.specs.List.{filter}
use Rattle.log_scan.specs.declared.Found.{Found}
use Rattle.std.proofs.lemmas.Option.{same_Some, none-some}
use Rattle.std.proofs.lemmas.List.{append-nil, append_assoc}
use Rattle.log_scan.specs.declared.Scan.{Scan}
use Rattle.manager_recovery.specs.Scanned.{found_in, all_found, record_in, keeps_some, lane_of}
use Rattle.manager_recovery.specs.declared.opening.OwnedPart.{OwnedPart}
use Rattle.manager_recovery.specs.declared.listing.FoundRecord.{FoundRecord}

pub found_more : {D : Type 0} (view : List ℕ) (os : List (OwnedPart D)) (ss : List Scan) (k : ℕ) (o : OwnedPart D) (s : Scan) → slice_get os k ≡ Some o → slice_get ss k ≡ Some s
    → all_found view (take (k + 1) os) (take (k + 1) ss) ≡ all_found view (take k os) (take k ss) ++ found_in view o s
found_more view [] ss k o s is has = absurd (none-some o is)
found_more view (p ∷ os) [] k o s is has = absurd (none-some s has)
found_more view (p ∷ os) (t ∷ ss) zero o s is has = append-nil (found_in view p t) ∙ (λ i. found_in view (same_Some p o is i) (same_Some t s has i))
found_more view (p ∷ os) (t ∷ ss) (suc k) o s is has =
    let e : suc k + 1 ≡ suc (k + 1) = omega arith in
    (λ i. all_found view (take (e i) (p ∷ os)) (take (e i) (t ∷ ss)))
    ∙ ap (λ (l : List FoundRecord). found_in view p t ++ l) (found_more view os ss k o s is has)
    ∙ sym (append_assoc (found_in view p t) (all_found view (take k os) (take k ss)) (found_in view o s))

pub lane_some : (view : List ℕ) (logger lane place : ℕ) (res : Option ℕ) → res ≡ position (λ id. eqb id logger) view → res ≡ Some place → lane ≡ place → lane ≡ lane_of view logger
lane_some view logger lane place res is some same = same ∙ (λ i. unwrap_or (sym some i) 0) ∙ (λ i. unwrap_or (is i) 0)

pub lane_none : (view : List ℕ) (logger lane : ℕ) (res : Option ℕ) → res ≡ position (λ id. eqb id logger) view → res ≡ None → lane ≡ 0 → lane ≡ lane_of view logger
lane_none view logger lane res is none same = same ∙ (λ i. unwrap_or (sym none i) 0) ∙ (λ i. unwrap_or (is i) 0)

pub found_step : {D : Type 0} (view : List ℕ) (os : List (OwnedPart D)) (ss : List Scan) (k : ℕ) (o : OwnedPart D) (s : Scan) (lane : ℕ) (found : List Found) (old new : List FoundRecord) → slice_get os k ≡ Some o → slice_get ss k ≡ Some s
    → lane ≡ lane_of view o.logger → found ≡ s.records.items → old ≡ all_found view (take k os) (take k ss) → new ≡ old ++ map (record_in lane o) (filter keeps_some found)
    → new ≡ all_found view (take (k + 1) os) (take (k + 1) ss)
found_step view os ss k o s lane found old new is has at same was added =
    added ∙ (λ i. was i ++ map (record_in (at i) o) (filter keeps_some (same i))) ∙ sym (found_more view os ss k o s is has)
