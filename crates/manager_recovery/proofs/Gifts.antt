-- What the passes of lanes give to their pools where segments are freed.
use Rattle.std.proofs.Common.{◌≡◌, ◌≢◌, ◌+◌, ℕ, zero, suc, Bool, cond, eqb, List, [], ◌∷◌, ◌++◌, map, Some, refl, sym, ap, subst, ◌∙◌, arith}
use Rattle.std.specs.Prelude.{slice_get, slice_set, reverse, option_map}
use Rattle.std.specs.List.{AllByRecursion, AllZip}
use Rattle.std.proofs.lemmas.Bool.{eq-eqb, ne_eqb}
use Rattle.std.proofs.lemmas.Grind.{reverse_onto}
use Rattle.std.proofs.lemmas.List.{append_assoc, append-nil, map-append}
use Rattle.std.proofs.lemmas.List.Sums.{sum_by-append}
use Rattle.std.proofs.lemmas.Option.{same_Some, slice_get-map}
use Rattle.wol_disk.specs.Disk.{State}
use Rattle.wol_model.specs.Blocks.{AreApart}
use Rattle.turn_lock.specs.Histories.{Entry}
use Rattle.turn_lock.specs.Passes.{pass_number, pass_mine}
use Rattle.seg_pool.specs.Holders.{Gave}
use Rattle.seg_pool.specs.Operations.{operation_of}
use Rattle.log_segment.specs.declared.free.FreeSegment.{FreeSegment}
use Rattle.logger.specs.Lanes.{IsSameLane, logger_of, pool_of}
use Rattle.logger.specs.declared.lane.Lane.{Lane}
use Rattle.logger.specs.declared.shared.Shared.{Shared}
use Rattle.manager.specs.Stands.{takes_in}
use Rattle.manager.specs.declared.base.LaneBase.{LaneBase}
use Rattle.manager.proofs.Lanes.{all_at}
use Rattle.manager_recovery.specs.Left.{Fate, Kept, Freed, HasGiven, IsUsedLane, freed_on}
use Rattle.manager_recovery.specs.Opened.{CountsTakes}
use Rattle.manager_recovery.specs.Scanned.{HasGivenNone, IsSeenAgain}
use Rattle.manager_recovery.specs.declared.opening.OwnedPart.{OwnedPart}

-- the entry of a gift
abbrev pub gift : (pass index : ℕ) → Entry
gift pass index = (pass, operation_of (Gave index))

abbrev pub gifts : (pass : ℕ) → List ℕ → List Entry
gifts pass indexes = map (λ index. (pass, operation_of (Gave index))) (reverse indexes)

gifts_more : (pass index : ℕ) (indexes : List ℕ) → gifts pass (index ∷ indexes) ≡ gifts pass indexes ++ gift pass index ∷ []
gifts_more pass index indexes = ap (map (gift pass)) (reverse_onto indexes index []) ∙ map-append (gift pass) (reverse indexes) (index ∷ [])

takes_append : (es fs : List Entry) → takes_in (es ++ fs) ≡ takes_in es + takes_in fs
takes_append es fs = sum_by-append _ es fs

-- a gift takes nothing
gifts_take : (pass : ℕ) (indexes : List ℕ) → takes_in (map (gift pass) indexes) ≡ 0
gifts_take pass [] = refl
gifts_take pass (index ∷ indexes) = let rest = gifts_take pass indexes in omega (arith, rest)

module _ {D : Type 0} where
  given_takes : (os : List (OwnedPart D)) (fates : List (Fate D)) (old new : Lane D) → HasGiven os fates old new → takes_in (pass_mine (pool_of new)) ≡ takes_in (pass_mine (pool_of old))
  given_takes os fates old new has =
      let given = reverse (freed_on (logger_of old) os fates) in
      let pass = pass_number (pool_of old) in
      let all = ap takes_in has ∙ takes_append (pass_mine (pool_of old)) (map (gift pass) given) in
      let none = gifts_take pass given in
      omega (arith, all, none)

  -- the bases of lanes whose passes only gave count what those took before
  pub counts_takes : (os : List (OwnedPart D)) (fates : List (Fate D)) (base_of : Lane D → LaneBase) → ((l : Lane D) → (base_of l).takes ≡ takes_in (pass_mine (pool_of l)))
      → (xs ys : List (Lane D)) → AllZip (HasGiven os fates) xs ys → AllZip CountsTakes xs (map base_of ys)
  counts_takes os fates base_of counts [] [] zip = tt
  counts_takes os fates base_of counts [] (y ∷ ys) zip = absurd zip
  counts_takes os fates base_of counts (x ∷ xs) [] zip = absurd zip
  counts_takes os fates base_of counts (x ∷ xs) (y ∷ ys) zip = (counts y ∙ given_takes os fates x y zip.0, counts_takes os fates base_of counts xs ys zip.1)

  -- nothing was freed
  pub none_given : (old : Lane D) → HasGiven [] [] old old
  none_given old = sym (append-nil (pass_mine (pool_of old)))

  freed_kept : (logger : ℕ) (os ns : List (OwnedPart D)) → freed_on logger os (map Kept ns) ≡ []
  freed_kept logger [] ns = refl
  freed_kept logger (o ∷ os) [] = refl
  freed_kept logger (o ∷ os) (n ∷ ns) = freed_kept logger os ns

  pub given_kept : (os ns : List (OwnedPart D)) (old new : Lane D) → HasGivenNone old new → HasGiven os (map Kept ns) old new
  given_kept os ns old new none = none ∙ sym (append-nil (pass_mine (pool_of old))) ∙ ap (λ (l : List ℕ). pass_mine (pool_of old) ++ gifts (pass_number (pool_of old)) l) (sym (freed_kept (logger_of old) os ns))

  -- those in front stay, and one could not be freed
  freed_front : (logger : ℕ) (front back : List (OwnedPart D)) (p q : OwnedPart D) (fates : List (Fate D)) → freed_on logger (front ++ q ∷ back) (map Kept front ++ Kept p ∷ fates) ≡ freed_on logger back fates
  freed_front logger [] back p q fates = refl
  freed_front logger (o ∷ front) back p q fates = freed_front logger front back p q fates

  pub given_front : (front back : List (OwnedPart D)) (p q : OwnedPart D) (fates : List (Fate D)) (old new : Lane D) → HasGiven back fates old new → HasGiven (front ++ q ∷ back) (map Kept front ++ Kept p ∷ fates) old new
  given_front front back p q fates old new has = has ∙ ap (λ (l : List ℕ). pass_mine (pool_of old) ++ gifts (pass_number (pool_of old)) l) (sym (freed_front (logger_of old) front back p q fates))

  -- as the segments were read
  freed_seen : (state : D → State) (logger : ℕ) (os ns : List (OwnedPart D)) (fates : List (Fate D)) → AllZip (IsSeenAgain state) os ns → freed_on logger ns fates ≡ freed_on logger os fates
  freed_seen state logger [] [] fates zip = refl
  freed_seen state logger [] (n ∷ ns) fates zip = absurd zip
  freed_seen state logger (o ∷ os) [] fates zip = absurd zip
  freed_seen state logger (o ∷ os) (n ∷ ns) [] zip = refl
  freed_seen state logger (o ∷ os) (n ∷ ns) (Kept part ∷ fates) zip = freed_seen state logger os ns fates zip.1
  freed_seen state logger (o ∷ os) (n ∷ ns) (Freed free ∷ fates) zip =
      let rest = freed_seen state logger os ns fates zip.1 in
      let on : n.logger ≡ o.logger = ap (λ (x : OwnedPart D). x.logger) zip.0.same.0 in
      let index : n.index ≡ o.index = ap (λ (x : OwnedPart D). x.index) zip.0.same.0 in
      λ i. cond (eqb (on i) logger) (index i ∷ rest i) (rest i)

  pub given_seen : (state : D → State) (os ns : List (OwnedPart D)) (fates : List (Fate D)) (a b c : Lane D) → AllZip (IsSeenAgain state) os ns → IsSameLane a b → HasGivenNone a b → HasGiven ns fates b c → HasGiven os fates a c
  given_seen state os ns fates a b c seen same none has =
      has ∙ (λ i. none i ++ gifts (same.pool.1 i) (freed_seen state (same.logger i) os ns fates seen i))

  -- ---- One more was freed

  module _ (p : OwnedPart D) (os : List (OwnedPart D)) (f : FreeSegment D) (fates : List (Fate D)) where
    given_there : (old new : Lane D) → p.logger ≢ logger_of old → HasGiven os fates old new → HasGiven (p ∷ os) (Freed f ∷ fates) old new
    given_there old new other has =
        has ∙ ap (λ (b : Bool). pass_mine (pool_of old) ++ gifts (pass_number (pool_of old)) (cond b (p.index ∷ freed_on (logger_of old) os fates) (freed_on (logger_of old) os fates))) (sym (ne_eqb p.logger (logger_of old) other))

    given_here : (old mid new : Lane D) → p.logger ≡ logger_of old → pass_number (pool_of mid) ≡ pass_number (pool_of old) → pass_mine (pool_of new) ≡ pass_mine (pool_of mid) ++ gift (pass_number (pool_of mid)) p.index ∷ []
        → HasGiven os fates old mid → HasGiven (p ∷ os) (Freed f ∷ fates) old new
    given_here old mid new on number gave has =
        let before = freed_on (logger_of old) os fates in let n = pass_number (pool_of old) in
        gave ∙ (λ i. has i ++ gift (number i) p.index ∷ []) ∙ append_assoc (pass_mine (pool_of old)) (gifts n before) (gift n p.index ∷ [])
        ∙ ap (λ (l : List Entry). pass_mine (pool_of old) ++ l) (sym (gifts_more n p.index before))
        ∙ ap (λ (b : Bool). pass_mine (pool_of old) ++ gifts n (cond b (p.index ∷ before) before)) (sym (eq-eqb p.logger (logger_of old) on))

    others : (xs ys : List (Lane D)) → AllZip IsSameLane xs ys → AllByRecursion (λ w. p.logger ≢ w) (map logger_of ys) → AllZip (HasGiven os fates) xs ys → AllZip (HasGiven (p ∷ os) (Freed f ∷ fates)) xs ys
    others [] [] same other zip = tt
    others [] (y ∷ ys) same other zip = absurd same
    others (x ∷ xs) [] same other zip = absurd same
    others (x ∷ xs) (y ∷ ys) same other zip = (given_there x y (λ e. other.0 (e ∙ sym same.0.logger)) zip.0, others xs ys same.1 other.1 zip.1)

    -- the lane at one place gave it
    pub given_more : (xs ys : List (Lane D)) (place : ℕ) (l m : Lane D) → AllZip IsSameLane xs ys → AreApart (map logger_of ys) → slice_get ys place ≡ Some l → logger_of l ≡ p.logger
        → pass_mine (pool_of m) ≡ pass_mine (pool_of l) ++ gift (pass_number (pool_of l)) p.index ∷ [] → AllZip (HasGiven os fates) xs ys → AllZip (HasGiven (p ∷ os) (Freed f ∷ fates)) xs (slice_set ys place m)
    given_more [] [] place l m same apart at on gave zip = tt
    given_more [] (y ∷ ys) place l m same apart at on gave zip = absurd same
    given_more (x ∷ xs) [] place l m same apart at on gave zip = absurd same
    given_more (x ∷ xs) (y ∷ ys) zero l m same apart at on gave zip =
        let is : y ≡ l = same_Some y l at in
        let on_y : logger_of y ≡ p.logger = ap logger_of is ∙ on in
        let gave_y : pass_mine (pool_of m) ≡ pass_mine (pool_of y) ++ gift (pass_number (pool_of y)) p.index ∷ [] = gave ∙ (λ i. pass_mine (pool_of (sym is i)) ++ gift (pass_number (pool_of (sym is i))) p.index ∷ []) in (
          given_here x y m (sym on_y ∙ same.0.logger) same.0.pool.1 gave_y zip.0,
          others xs ys same.1 (subst (λ (k : ℕ). AllByRecursion (λ w. k ≢ w) (map logger_of ys)) on_y apart.0) zip.1,
        )
    given_more (x ∷ xs) (y ∷ ys) (suc place) l m same apart at on gave zip =
        let there : slice_get (map logger_of ys) place ≡ Some (logger_of l) = slice_get-map logger_of ys place ∙ ap (option_map logger_of) at in
        let other : logger_of y ≢ logger_of l = all_at (λ w. logger_of y ≢ w) (map logger_of ys) place (logger_of l) there apart.0 in
        (given_there x y (λ e. other (same.0.logger ∙ sym e ∙ sym on)) zip.0, given_more xs ys place l m same.1 apart.1 at on gave zip.1)

-- ---- All lanes

pub lanes_same : {D : Type 0} (state : D → State) (shared : Shared D) (id most : ℕ) (xs ys : List (Lane D)) → AllZip (IsUsedLane state shared id most) xs ys → AllZip IsSameLane xs ys
lanes_same state shared id most [] [] zip = tt
lanes_same state shared id most [] (y ∷ ys) zip = absurd zip
lanes_same state shared id most (x ∷ xs) [] zip = absurd zip
lanes_same state shared id most (x ∷ xs) (y ∷ ys) zip = (zip.0.same, lanes_same state shared id most xs ys zip.1)

pub all_given_kept : {D : Type 0} (os ns : List (OwnedPart D)) (xs ys : List (Lane D)) → AllZip HasGivenNone xs ys → AllZip (HasGiven os (map Kept ns)) xs ys
all_given_kept os ns [] [] zip = tt
all_given_kept os ns [] (y ∷ ys) zip = absurd zip
all_given_kept os ns (x ∷ xs) [] zip = absurd zip
all_given_kept os ns (x ∷ xs) (y ∷ ys) zip = (given_kept os ns x y zip.0, all_given_kept os ns xs ys zip.1)

pub all_given_seen : {D : Type 0} (state : D → State) (os ns : List (OwnedPart D)) (fates : List (Fate D)) → AllZip (IsSeenAgain state) os ns → (xs ys zs : List (Lane D)) → AllZip IsSameLane xs ys → AllZip HasGivenNone xs ys → AllZip (HasGiven ns fates) ys zs → AllZip (HasGiven os fates) xs zs
all_given_seen state os ns fates seen [] [] [] same none has = tt
all_given_seen state os ns fates seen [] [] (z ∷ zs) same none has = absurd has
all_given_seen state os ns fates seen [] (y ∷ ys) zs same none has = absurd same
all_given_seen state os ns fates seen (x ∷ xs) [] zs same none has = absurd same
all_given_seen state os ns fates seen (x ∷ xs) (y ∷ ys) [] same none has = absurd has
all_given_seen state os ns fates seen (x ∷ xs) (y ∷ ys) (z ∷ zs) same none has = (given_seen state os ns fates x y z seen same.0 none.0 has.0, all_given_seen state os ns fates seen xs ys zs same.1 none.1 has.1)

pub all_given_front : {D : Type 0} (front back : List (OwnedPart D)) (p q : OwnedPart D) (fates : List (Fate D)) (xs ys : List (Lane D)) → AllZip (HasGiven back fates) xs ys → AllZip (HasGiven (front ++ q ∷ back) (map Kept front ++ Kept p ∷ fates)) xs ys
all_given_front front back p q fates [] [] zip = tt
all_given_front front back p q fates [] (y ∷ ys) zip = absurd zip
all_given_front front back p q fates (x ∷ xs) [] zip = absurd zip
all_given_front front back p q fates (x ∷ xs) (y ∷ ys) zip = (given_front front back p q fates x y zip.0, all_given_front front back p q fates xs ys zip.1)
