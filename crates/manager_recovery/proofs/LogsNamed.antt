-- The volumes that a refusal names are those in whose images owned segments lie.
use Rattle.std.proofs.Common.{◌≡◌, ℕ, suc, true, List, [], ◌∷◌, map, Some, sym, ap, ◌∙◌, subst, arith}
use Rattle.std.specs.Prelude.{◌==◌, slice_get, option_map, Contains}
use Rattle.std.specs.List.{AllByRecursion, AllZip, filter}
use Rattle.std.proofs.lemmas.List.{map-append, length-map, get_or-map}
use Rattle.std.proofs.lemmas.Option.{slice_get_within, get_or_from_slice_get, slice_get-map}
use Rattle.wol_disk.specs.Disk.{State}
use Rattle.wol_promise.proofs.Lists.{all_joined, all_map}
use Rattle.wol_promise.proofs.Wholes.{all_filtered}
use Rattle.log_scan.specs.declared.Found.{Found}
use Rattle.log_scan.specs.declared.Scan.{Scan}
use Rattle.manager_recovery.specs.Owned.{Head, AreFirstTwins}
use Rattle.manager_recovery.specs.Refused.{IsOnLog}
use Rattle.manager_recovery.specs.Scanned.{IsSeenAgain, all_found, found_in, record_in, keeps_some, lane_of, head_of}
use Rattle.manager_recovery.specs.declared.opening.OwnedPart.{OwnedPart}

first_in : {X : Type 0} (x : X) (xs : List X) → Contains (x ∷ xs) x
first_in x xs = (0, omega arith, λ i. x)

later_in : {X : Type 0} (x y : X) (xs : List X) → Contains xs y → Contains (x ∷ xs) y
later_in x y xs has = (suc has.0, omega (arith, has.1), has.2)

module _ {D : Type 0} where
  -- the segment at a place lies on its log
  pub on_log : (os : List (OwnedPart D)) (k : ℕ) (o : OwnedPart D) (volume : ℕ) → slice_get os k ≡ Some o → o.logger ≡ volume → IsOnLog os volume
  on_log os k o volume here is =
      let at : slice_get (map (λ (p : OwnedPart D). p.logger) os) k ≡ Some volume = slice_get-map (λ (p : OwnedPart D). p.logger) os k ∙ ap (option_map (λ (p : OwnedPart D). p.logger)) here ∙ ap (λ (n : ℕ). Some n) is in
      (k, slice_get_within (map (λ (p : OwnedPart D). p.logger) os) k volume at, get_or_from_slice_get (map (λ (p : OwnedPart D). p.logger) os) k volume volume at)

  -- segments that were read lie where they did
  pub same_loggers : (state : D → State) (os ns : List (OwnedPart D)) → AllZip (IsSeenAgain state) os ns → map (λ (p : OwnedPart D). p.logger) ns ≡ map (λ (p : OwnedPart D). p.logger) os
  same_loggers state [] [] seen = λ i. []
  same_loggers state [] (n ∷ ns) seen = absurd seen
  same_loggers state (o ∷ os) [] seen = absurd seen
  same_loggers state (o ∷ os) (n ∷ ns) seen = let rest = same_loggers state os ns seen.1 in let one = seen.0.same.0 in λ i. (one i).logger ∷ rest i

  heads_on : (lane : ℕ) (o : OwnedPart D) (fs : List Found) (vs : List ℕ) → Contains vs o.logger → AllByRecursion (λ (h : Head). Contains vs h.volume) (map head_of (map (record_in lane o) fs))
  heads_on lane o [] vs has = tt
  heads_on lane o (f ∷ fs) vs has = (has, heads_on lane o fs vs has)

  all_on : (view : List ℕ) (os : List (OwnedPart D)) (ss : List Scan) (vs : List ℕ) → ((p : OwnedPart D) → Contains os p → Contains vs p.logger) → AllByRecursion (λ (h : Head). Contains vs h.volume) (map head_of (all_found view os ss))
  all_on view [] ss vs each = tt
  all_on view (o ∷ os) [] vs each = tt
  all_on view (o ∷ os) (s ∷ ss) vs each =
      subst (AllByRecursion (λ (h : Head). Contains vs h.volume)) (sym (map-append head_of (found_in view o s) (all_found view os ss)))
      (all_joined (λ (h : Head). Contains vs h.volume) (map head_of (found_in view o s)) (map head_of (all_found view os ss))
      (heads_on (lane_of view o.logger) o (filter keeps_some s.records.items) vs (each o (first_in o os))) (all_on view os ss vs (λ p has. each p (later_in o p os has))))

  in_map : (os : List (OwnedPart D)) (p : OwnedPart D) → Contains os p → IsOnLog os p.logger
  in_map os p has = (has.0, let long = length-map os (λ (q : OwnedPart D). q.logger) in omega (arith, long, has.1), get_or-map (λ (q : OwnedPart D). q.logger) os has.0 p p.logger has.1 ∙ ap (λ (q : OwnedPart D). q.logger) has.2)

  -- the first twins among the records that were found
  pub twins_on_logs : (view : List ℕ) (os : List (OwnedPart D)) (ss : List Scan) (one other : Head) → AreFirstTwins (map head_of (all_found view os ss)) one other → IsOnLog os one.volume × IsOnLog os other.volume
  twins_on_logs view os ss one other twins =
      let vs = map (λ (q : OwnedPart D). q.logger) os in
      let all = all_on view os ss vs (in_map os) in
      let two = subst (AllByRecursion (λ (h : Head). Contains vs h.volume)) twins.first_two (all_map (λ (h : Head). ((h.version == one.version) ≡ true) × Contains vs h.volume) (λ (h : Head). Contains vs h.volume) (λ h both. both.1) (filter (λ (h : Head). h.version == one.version) (map head_of (all_found view os ss)))
      (all_filtered (λ (h : Head). Contains vs h.volume) (λ (h : Head). h.version == one.version) (map head_of (all_found view os ss)) all)) in
      (two.0, two.1.0)
