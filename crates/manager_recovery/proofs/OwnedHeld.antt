-- The passes of the lanes hold no segments but the owned ones, while some go to their pools, and then no segments but those of their lanes.
use Rattle.std.proofs.Common.{◌≡◌, ◌≢◌, inl, inr, ⊎_elim, ℕ, zero, suc, Bool, true, false, cond, eqb, List, [], ◌∷◌, ◌++◌, map, Some, option_to_list, sym, ap, subst, ◌∙◌, arith}
use Rattle.std.specs.Prelude.{Contains, slice_get, slice_set}
use Rattle.std.specs.List.{AllByRecursion}
use Rattle.std.proofs.lemmas.Bool.{false≢true, eq-eqb}
use Rattle.std.proofs.lemmas.Bool.Decides.{eqb_tells}
use Rattle.std.proofs.lemmas.List.Elements.{Contains-append_left}
use Rattle.std.proofs.lemmas.Option.{same_Some, none-some}
use Rattle.wol_disk.specs.Disk.{State, IsAmong}
use Rattle.wol_model.specs.Blocks.{AreApart}
use Rattle.turn_lock.specs.Passes.{pass_number, pass_mine}
use Rattle.seg_pool.specs.Holders.{Gave, holds_after}
use Rattle.seg_pool.specs.Operations.{holds}
use Rattle.log_scan.specs.declared.Scan.{Scan}
use Rattle.log_segment.specs.declared.free.FreeSegment.{FreeSegment}
use Rattle.logger.specs.Lanes.{HoldsAll, IsSameLane, logger_of, pool_of}
use Rattle.logger.specs.declared.lane.HeldSegment.{HeldSegment}
use Rattle.logger.specs.declared.lane.Lane.{Lane}
use Rattle.logger.specs.declared.shared.Shared.{Shared}
use Rattle.logger.proofs.AllHeld.{has, has_after}
use Rattle.manager_recovery.specs.Opening.{HoldsOwned, place_of}
use Rattle.manager_recovery.specs.Scanned.{HasGivenNone, AreAdopted, HoldsItsOwn, held_on}
use Rattle.manager_recovery.specs.declared.opening.OwnedPart.{OwnedPart}
use Rattle.manager_recovery.proofs.ByLogger.{among_contains, contains_among}
use Rattle.manager_recovery.proofs.Gifts.{gift}

module _ {D : Type 0} where
  -- each segment that its pass holds is at one of these places
  abbrev pub HoldsAt : List (ℕ × ℕ) → Lane D → Type 0
  HoldsAt ps l = (index : ℕ) → has (pool_of l) index ≡ true → Contains ps (logger_of l, index)

  same_holds : (old new : Lane D) → IsSameLane old new → HasGivenNone old new → (i : ℕ) → has (pool_of new) i ≡ has (pool_of old) i
  same_holds old new same none i = λ k. holds (same.pool.0 k).base (same.pool.1 k) (none k) i

  -- a lane whose pass did nothing at its pool
  pub at_still : (ps : List (ℕ × ℕ)) (old new : Lane D) → IsSameLane old new → HasGivenNone old new → HoldsAt ps old → HoldsAt ps new
  at_still ps old new same none all i holding = subst (λ (v : ℕ). Contains ps (v, i)) (sym same.logger) (all i (sym (same_holds old new same none i) ∙ holding))

  -- ---- One segment goes to its pool

  contains_less : (front : List (OwnedPart D)) (r : OwnedPart D) (back : List (OwnedPart D)) (q : ℕ × ℕ) → (place_of r ≡ q → ⊥) → Contains (map place_of (front ++ r ∷ back)) q → Contains (map place_of (front ++ back)) q
  contains_less [] r back q other (zero, lt, e) = absurd (other e)
  contains_less [] r back q other (suc j, lt, e) = (j, omega arith, e)
  contains_less (x ∷ front) r back q other (zero, lt, e) = (0, omega arith, e)
  contains_less (x ∷ front) r back q other (suc j, lt, e) = let rest = contains_less front r back q other (j, omega arith, e) in (suc rest.0, (let le = rest.1 in omega arith), rest.2)

  module _ (front : List (OwnedPart D)) (r : OwnedPart D) (back : List (OwnedPart D)) where
    other_less : (l : Lane D) → (logger_of l ≡ r.logger → ⊥) → HoldsOwned (front ++ r ∷ back) l → HoldsOwned (front ++ back) l
    other_less l other all i holding = contains_less front r back (logger_of l, i) (λ e. other (sym (ap (λ (p : ℕ × ℕ). p.0) e))) (all i holding)

    others_less : (v : ℕ) → v ≡ r.logger → (ls : List (Lane D)) → AllByRecursion (λ w. v ≢ w) (map logger_of ls) → AllByRecursion (HoldsOwned (front ++ r ∷ back)) ls → AllByRecursion (HoldsOwned (front ++ back)) ls
    others_less v is [] apart all = tt
    others_less v is (l ∷ ls) apart all = (other_less l (λ e. apart.0 (is ∙ sym e)) all.0, others_less v is ls apart.1 all.1)

    module _ (old new : Lane D) (on : logger_of old ≡ r.logger) (same : IsSameLane old new) (gave : pass_mine (pool_of new) ≡ pass_mine (pool_of old) ++ gift (pass_number (pool_of old)) r.index ∷ []) where
      here_less : HoldsOwned (front ++ r ∷ back) old → HoldsOwned (front ++ back) new
      here_less all i holding = ⊎_elim
          (λ e. absurd (false≢true (sym (after ∙ ap (λ (b : Bool). cond b false (has (pool_of old) i)) e.0) ∙ holding)))
          (λ e. subst (λ (v : ℕ). Contains (map place_of (front ++ back)) (v, i)) (sym same.logger)
          (contains_less front r back (logger_of old, i) (λ is. e.1 (ap (λ (p : ℕ × ℕ). p.1) is)) (all i (sym (after ∙ ap (λ (b : Bool). cond b false (has (pool_of old) i)) e.0) ∙ holding))))
          (eqb_tells r.index i)
        where
          after : has (pool_of new) i ≡ holds_after i (has (pool_of old) i) (Gave r.index ∷ [])
          after = has_after (pool_of old) (pool_of new) (Gave r.index) same.pool gave i

      pub all_less : (ls : List (Lane D)) (k : ℕ) → slice_get ls k ≡ Some old → AreApart (map logger_of ls) → AllByRecursion (HoldsOwned (front ++ r ∷ back)) ls → AllByRecursion (HoldsOwned (front ++ back)) (slice_set ls k new)
      all_less [] k is apart all = absurd (none-some old is)
      all_less (l ∷ ls) zero is apart all =
          let e = same_Some l old is in
          (here_less (subst (HoldsOwned (front ++ r ∷ back)) e all.0), others_less (logger_of l) (ap logger_of e ∙ on) ls apart.0 all.1)
      all_less (l ∷ ls) (suc k) is apart all = (other_less l (λ e. elsewhere ls k is apart.0 (e ∙ sym on)) all.0, all_less ls k is apart.1 all.1)
        where
          elsewhere : (ls : List (Lane D)) (k : ℕ) → slice_get ls k ≡ Some old → AllByRecursion (λ w. logger_of l ≢ w) (map logger_of ls) → logger_of l ≢ logger_of old
          elsewhere [] k is others = absurd (none-some old is)
          elsewhere (x ∷ xs) zero is others = λ e. others.0 (e ∙ sym (ap logger_of (same_Some x old is)))
          elsewhere (x ∷ xs) (suc k) is others = elsewhere xs k is others.1

-- ---- The lanes hold their own

module _ {D : Type 0} where
  -- an index is among those of the segments, the first of which is there or isn't
  abbrev AmongIf : HeldSegment D → List (HeldSegment D) → (index : ℕ) → Bool → Type 0
  AmongIf h rest i t = IsAmong (map (λ (x : HeldSegment D). x.index) (cond t (h ∷ rest) rest)) i

  among_behind : (h : HeldSegment D) (rest : List (HeldSegment D)) (i : ℕ) (t : Bool) → IsAmong (map (λ (x : HeldSegment D). x.index) rest) i → AmongIf h rest i t
  among_behind h rest i true among = inr among
  among_behind h rest i false among = among

module _ {D : Type 0} (state : D → State) where
  held_among : (os : List (OwnedPart D)) (ss : List Scan) (hs : List (HeldSegment D)) (v i : ℕ) → AreAdopted state os ss hs → IsAmong (map place_of os) (v, i) → IsAmong (map (λ (h : HeldSegment D). h.index) (held_on v os hs)) i
  held_among [] ss hs v i adopted among = absurd among
  held_among (o ∷ os) [] hs v i adopted among = absurd adopted
  held_among (o ∷ os) (s ∷ ss) [] v i adopted among = absurd adopted
  held_among (o ∷ os) (s ∷ ss) (h ∷ hs) v i adopted among = ⊎_elim
      (λ e. subst (AmongIf h (held_on v os hs) i) (sym (eq-eqb o.logger v (sym (ap (λ (p : ℕ × ℕ). p.0) e)))) (inl (ap (λ (p : ℕ × ℕ). p.1) e ∙ sym adopted.0.index)))
      (λ more. among_behind h (held_on v os hs) i (eqb o.logger v) (held_among os ss hs v i adopted.1 more)) among

  pub holds_own : (shared : Shared D) (os : List (OwnedPart D)) (ss : List Scan) (hs : List (HeldSegment D)) (old new : Lane D) → AreAdopted state os ss hs → HoldsItsOwn state shared os hs old new → HoldsOwned os old → HoldsAll new
  holds_own shared os ss hs old new adopted own all i holding =
      let idx : List (HeldSegment D) → List ℕ = map (λ (h : HeldSegment D). h.index) in
      let among = held_among os ss hs (logger_of old) i adopted (among_contains (map place_of os) (logger_of old, i) (all i (sym (same_holds old new own.same own.pool i) ∙ holding))) in
      let there : Contains (idx (held_on (logger_of new) os hs)) i = contains_among (idx (held_on (logger_of new) os hs)) i (subst (λ (v : ℕ). IsAmong (idx (held_on v os hs)) i) (sym own.same.logger) among) in
      Contains-append_left (idx new.held.items) (map (λ (t : ℕ × FreeSegment D). t.0) (option_to_list new.taken)) i (subst (λ (l : List (HeldSegment D)). Contains (idx l) i) (sym own.held) there)
