-- What a pass's own entries say of the segments that it holds.
use Rattle.std.proofs.Common.{◌≡◌, ◌≢◌, ◌<◌, ℕ, eqb, is_some, arith, Bool, true, false, cond, if◌then◌else◌, List, [], ◌∷◌, ◌++◌, length, map, Option, None, Some, refl, sym, ap, ◌∙◌, subst, ⊎_elim}
use mathlib.Core.List.{map-append}
use Rattle.std.proofs.lemmas.Bool.{eq-eqb, eqb-true, ne_eqb}
use Rattle.std.proofs.lemmas.List.{length-set}
use Rattle.std.proofs.lemmas.Bool.Decides.{eqb_tells}
use Rattle.turn_lock.specs.Histories.{Entry, own}
use Rattle.turn_lock.specs.LockIds.{LockId}
use Rattle.seg_pool.specs.declared.base.Holder.{Holder}
use Rattle.seg_pool.specs.declared.base.Holder.TheVariants.{Elsewhere, InPool, HeldBy}
use Rattle.seg_pool.specs.declared.base.PoolBase.{PoolBase}
use Rattle.seg_pool.specs.declared.pool.Pool.{Pool}
use Rattle.seg_pool.specs.Holders.{PoolUse, Took, Gave, holder, pool_used, MayUsePool, pool_after, ArePoolUses, is_in_pool, is_held_by, holds_after}
use Rattle.seg_pool.specs.Operations.{operation_of, use_of, uses_of, holds}
use Rattle.seg_pool.specs.Pools.{item_at, room_of, StandsFor, holders_after}
use Rattle.seg_pool.proofs.Using.{has_index, holder_here, holder_there, use_of-operation_of}

abbrev use_in : Entry → PoolUse
use_in e = use_of e.1

module _ (hs : List Holder) (i : ℕ) where
  -- who holds an index is told by one use of the pass itself
  own_use : (n : ℕ) (u : PoolUse) → MayUsePool hs n u → is_held_by n (holder (pool_used hs n u) i) ≡ holds_after i (is_held_by n (holder hs i)) (u ∷ [])
  own_use n (Took None) may = refl
  own_use n (Took (Some j)) may = ⊎_elim
      (λ e. ap (is_held_by n) (holder_here hs j i (HeldBy n) (has_index hs j (λ gone. (cc))) (sym e.1)) ∙ (eq-eqb n n refl ∙ sym (ap (λ (b : Bool). if b then true else is_held_by n (holder hs i)) e.0)))
      (λ e. ap (is_held_by n) (holder_there hs j i (HeldBy n) (λ is. e.1 (sym is))) ∙ sym (ap (λ (b : Bool). if b then true else is_held_by n (holder hs i)) e.0))
      (eqb_tells j i)
  own_use n (Gave j) may = ⊎_elim
      (λ e. ap (is_held_by n) (holder_here hs j i InPool (has_index hs j (λ gone. (cc))) (sym e.1)) ∙ sym (ap (λ (b : Bool). if b then false else is_held_by n (holder hs i)) e.0))
      (λ e. ap (is_held_by n) (holder_there hs j i InPool (λ is. e.1 (sym is))) ∙ sym (ap (λ (b : Bool). if b then false else is_held_by n (holder hs i)) e.0))
      (eqb_tells j i)

  -- a use of another pass changes nothing of it
  other_use : (n p : ℕ) (u : PoolUse) → MayUsePool hs p u → eqb p n ≡ false → is_held_by n (holder (pool_used hs p u) i) ≡ is_held_by n (holder hs i)
  other_use n p (Took None) may other = refl
  other_use n p (Took (Some j)) may other = ⊎_elim
      (λ e. ap (is_held_by n) (holder_here hs j i (HeldBy p) (has_index hs j (λ gone. (cc))) (sym e.1)) ∙ (other ∙ sym (ap (is_held_by n) (ap (holder hs) (sym e.1) ∙ may))))
      (λ e. ap (is_held_by n) (holder_there hs j i (HeldBy p) (λ is. e.1 (sym is))))
      (eqb_tells j i)
  other_use n p (Gave j) may other = ⊎_elim
      (λ e. ap (is_held_by n) (holder_here hs j i InPool (has_index hs j (λ gone. (cc))) (sym e.1)) ∙ sym (ap (is_held_by n) (ap (holder hs) (sym e.1) ∙ may) ∙ other))
      (λ e. ap (is_held_by n) (holder_there hs j i InPool (λ is. e.1 (sym is))))
      (eqb_tells j i)

holds_after-cons : (i : ℕ) (b : Bool) (u : PoolUse) (us : List PoolUse) → holds_after i b (u ∷ us) ≡ holds_after i (holds_after i b (u ∷ [])) us
holds_after-cons i b (Took None) us = refl
holds_after-cons i b (Took (Some j)) us = refl
holds_after-cons i b (Gave j) us = refl

holds_after-append : (i : ℕ) (b : Bool) (us vs : List PoolUse) → holds_after i b (us ++ vs) ≡ holds_after i (holds_after i b us) vs
holds_after-append i b [] vs = refl
holds_after-append i b (u ∷ us) vs = holds_after-cons i b u (us ++ vs) ∙ (holds_after-append i (holds_after i b (u ∷ [])) us vs ∙ sym (ap (λ (c : Bool). holds_after i c vs) (holds_after-cons i b u us)))

held_own : (hs : List Holder) (es : List Entry) (n i : ℕ) → ArePoolUses hs (uses_of es) → is_held_by n (holder (pool_after hs (uses_of es)) i) ≡ holds_after i (is_held_by n (holder hs i)) (map use_in (own n es))
held_own hs [] n i are = refl
held_own hs (e ∷ es) n i are = let rest = held_own (pool_used hs e.0 (use_of e.1)) es n i are.1 in ⊎_elim (λ h. here h.0 h.1 rest) (λ h. there h.0 rest) (eqb_tells e.0 n)
  where
    here : eqb e.0 n ≡ true → e.0 ≡ n → is_held_by n (holder (pool_after hs (uses_of (e ∷ es))) i) ≡ holds_after i (is_held_by n (holder (pool_used hs e.0 (use_of e.1)) i)) (map use_in (own n es)) → is_held_by n (holder (pool_after hs (uses_of (e ∷ es))) i) ≡ holds_after i (is_held_by n (holder hs i)) (map use_in (own n (e ∷ es)))
    here same is rest = rest ∙ (ap (λ (b : Bool). holds_after i b (map use_in (own n es))) (ap (λ (p : ℕ). is_held_by p (holder (pool_used hs e.0 (use_of e.1)) i)) (sym is) ∙ (own_use hs i e.0 (use_of e.1) are.0 ∙ ap (λ (p : ℕ). holds_after i (is_held_by p (holder hs i)) (use_of e.1 ∷ [])) is)) ∙ (sym (holds_after-cons i (is_held_by n (holder hs i)) (use_of e.1) (map use_in (own n es))) ∙ sym (ap (λ (b : Bool). holds_after i (is_held_by n (holder hs i)) (map use_in (cond b (e ∷ own n es) (own n es)))) same)))

    there : eqb e.0 n ≡ false → is_held_by n (holder (pool_after hs (uses_of (e ∷ es))) i) ≡ holds_after i (is_held_by n (holder (pool_used hs e.0 (use_of e.1)) i)) (map use_in (own n es)) → is_held_by n (holder (pool_after hs (uses_of (e ∷ es))) i) ≡ holds_after i (is_held_by n (holder hs i)) (map use_in (own n (e ∷ es)))
    there other rest = rest ∙ (ap (λ (b : Bool). holds_after i b (map use_in (own n es))) (other_use hs i n e.0 (use_of e.1) are.0 other) ∙ sym (ap (λ (b : Bool). holds_after i (is_held_by n (holder hs i)) (map use_in (cond b (e ∷ own n es) (own n es)))) other))

-- a pass holds an index exactly where its own entries say so
pub holder_own : (b : PoolBase) (es : List Entry) (n i : ℕ) → ArePoolUses b.holders (uses_of es) → is_held_by n (holder (holders_after b es) i) ≡ holds b n (own n es) i
holder_own b es n i are = held_own b.holders es n i are

of_pass : (n : ℕ) (h : Holder) → is_held_by n h ≡ true → h ≡ HeldBy n
of_pass n InPool is = cc
of_pass n (HeldBy p) is = ap HeldBy (eqb-true p n is)
of_pass n Elsewhere is = cc

pub is_holder : (b : PoolBase) (es : List Entry) (n i : ℕ) → ArePoolUses b.holders (uses_of es) → holds b n (own n es) i ≡ true → holder (holders_after b es) i ≡ HeldBy n
is_holder b es n i are has = of_pass n (holder (holders_after b es) i) (holder_own b es n i are ∙ has)

-- one more entry, whichever number it has
holds_more : (b : PoolBase) (es : List Entry) (n m i : ℕ) (u : PoolUse) → holds b n (es ++ (m, operation_of u) ∷ []) i ≡ holds_after i (holds b n es i) (u ∷ [])
holds_more b es n m i u = ap (holds_after i (is_held_by n (holder b.holders i))) (map-append use_in es ((m, operation_of u) ∷ [])) ∙ (holds_after-append i (is_held_by n (holder b.holders i)) (map use_in es) (use_of (operation_of u) ∷ []) ∙ ap (λ (v : PoolUse). holds_after i (holds b n es i) (v ∷ [])) (use_of-operation_of u))

-- one more entry of the pass
pub holds-push : (b : PoolBase) (es : List Entry) (n i : ℕ) (u : PoolUse) → holds b n (es ++ (n, operation_of u) ∷ []) i ≡ holds_after i (holds b n es i) (u ∷ [])
holds-push b es n i u = holds_more b es n n i u

-- a pass holds what it took
pub holds_taken : (b : PoolBase) (es fs : List Entry) (n m i j : ℕ) → fs ≡ es ++ (m, 1 ∷ j ∷ []) ∷ [] → j ≡ i → holds b n fs i ≡ true
holds_taken b es fs n m i j are is = ap (λ (xs : List Entry). holds b n xs i) are ∙ (holds_more b es n m i (Took (Some j)) ∙ ap (λ (t : Bool). if t then true else holds b n es i) (eq-eqb j i is))

length-pool_after : (hs : List Holder) (us : List (ℕ × PoolUse)) → length (pool_after hs us) ≡ length hs
length-pool_after hs [] = refl
length-pool_after hs (u ∷ us) = length-pool_after (pool_used hs u.0 u.1) us ∙ one u.1
  where
    one : (v : PoolUse) → length (pool_used hs u.0 v) ≡ length hs
    one (Took None) = refl
    one (Took (Some index)) = length-set hs index (HeldBy u.0)
    one (Gave index) = length-set hs index InPool

none_of : {T : Type 0} (o : Option T) → is_some o ≡ false → o ≡ None
none_of None is = refl
none_of (Some x) is = cc

module _ {T : Type 0} (blank : ℕ → ℕ → T → Type 0) (p : Pool T) (b : PoolBase) (es : List Entry) (st : StandsFor blank p b es) where
  -- an index that a pass holds is one of the pool's, and not free
  pub held_within : (n index : ℕ) → holder (holders_after b es) index ≡ HeldBy n → index < room_of p
  held_within n index held =
      let within = has_index (holders_after b es) index (λ gone. (cc)) in let all = length-pool_after b.holders (uses_of es) in let room = st.room in omega arith

  pub held_not_free : (n index : ℕ) → holder (holders_after b es) index ≡ HeldBy n → item_at p index ≡ None
  held_not_free n index held = none_of (item_at p index) (st.free index ∙ ap is_in_pool held)

free_there : (h : Holder) → is_in_pool h ≡ true → h ≡ InPool
free_there InPool is = refl
free_there (HeldBy p) is = cc
free_there Elsewhere is = cc

-- an index that is free no pass holds, and it is one of the pool's
pub not_held : {T : Type 0} (blank : ℕ → ℕ → T → Type 0) (p : Pool T) (l m : LockId PoolBase) (n k : ℕ) (seen mine : List Entry) (i : ℕ) (x : T) → StandsFor blank p m.base seen → m ≡ l → k ≡ n → own k seen ≡ mine → item_at p i ≡ Some x → holds l.base n mine i ≡ false
not_held blank p l m n k seen mine i x st lock number entries has =
    let free = free_there (holder (holders_after m.base seen) i) (sym (st.free i) ∙ ap is_some has) in
    let not : holds m.base k (own k seen) i ≡ false = sym (holder_own m.base seen k i st.legal) ∙ ap (is_held_by k) free in
    subst (λ (es : List Entry). holds l.base n es i ≡ false) entries (subst (λ (j : ℕ). holds l.base j (own k seen) i ≡ false) number (subst (λ (y : LockId PoolBase). holds y.base k (own k seen) i ≡ false) lock not))

pub free_within : {T : Type 0} (blank : ℕ → ℕ → T → Type 0) (p : Pool T) (l m : LockId PoolBase) (seen : List Entry) (i : ℕ) → StandsFor blank p m.base seen → l ≡ m → i < room_of p → i < length l.base.holders
free_within blank p l m seen i st lock lt = let room = st.room in let same : length l.base.holders ≡ length m.base.holders = ap (λ (y : LockId PoolBase). length y.base.holders) lock in omega arith

-- the entries that a pass has seen after its turn
pub legal_after : (l m : LockId PoolBase) (es fs : List Entry) → m ≡ l → fs ≡ es → ArePoolUses l.base.holders (uses_of es) → ArePoolUses m.base.holders (uses_of fs)
legal_after l m es fs lock entries legal = subst (λ (xs : List Entry). ArePoolUses m.base.holders (uses_of xs)) (sym entries) (subst (λ (x : LockId PoolBase). ArePoolUses x.base.holders (uses_of es)) (sym lock) legal)

same_pass : (l m : LockId PoolBase) (es fs : List Entry) (n k i : ℕ) → m ≡ l → k ≡ n → holds l.base n fs i ≡ true → holds m.base k fs i ≡ true
same_pass l m es fs n k i lock number has = subst (λ (x : LockId PoolBase). holds x.base k fs i ≡ true) (sym lock) (subst (λ (j : ℕ). holds l.base j fs i ≡ true) (sym number) has)

-- what a pass holds it holds after taking another, or none
pub kept_taking : (l m : LockId PoolBase) (es fs : List Entry) (n k j i : ℕ) (o : Option ℕ) → m ≡ l → k ≡ n → fs ≡ es ++ (j, operation_of (Took o)) ∷ [] → holds l.base n es i ≡ true → holds m.base k fs i ≡ true
kept_taking l m es fs n k j i o lock number are has =
    same_pass l m es fs n k i lock number (ap (λ (xs : List Entry). holds l.base n xs i) are ∙ (holds_more l.base es n j i (Took o) ∙ (ap (λ (b : Bool). holds_after i b (Took o ∷ [])) has ∙ still o)))
  where
    same : (b : Bool) → (if b then true else true) ≡ true
    same true = refl
    same false = refl

    still : (o : Option ℕ) → holds_after i true (Took o ∷ []) ≡ true
    still None = refl
    still (Some x) = same (eqb x i)

-- and after giving another
pub kept_giving : (l m : LockId PoolBase) (es fs : List Entry) (n k j i index : ℕ) → m ≡ l → k ≡ n → i ≢ index → fs ≡ es ++ (j, operation_of (Gave index)) ∷ [] → holds l.base n es i ≡ true → holds m.base k fs i ≡ true
kept_giving l m es fs n k j i index lock number other are has =
    same_pass l m es fs n k i lock number (ap (λ (xs : List Entry). holds l.base n xs i) are ∙ (holds_more l.base es n j i (Gave index) ∙ (ap (λ (b : Bool). if b then false else holds l.base n es i) (ne_eqb index i (λ is. other (sym is))) ∙ has)))
