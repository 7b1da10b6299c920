-- A pass that holds no index but those of its lane's segments, after a turn of the pool in which it took or gave one.
use Rattle.std.proofs.Common.{◌≡◌, ⊎_elim, ℕ, zero, suc, Bool, true, false, cond, List, [], ◌∷◌, ◌++◌, map, remove, slice_get, Option, Some, None, option_to_list, sym, ap, subst, ◌∙◌, arith, append-nil}
use Rattle.std.specs.Prelude.{Contains}
use Rattle.std.proofs.lemmas.Bool.{false≢true}
use Rattle.std.proofs.lemmas.Bool.Decides.{eqb_tells}
use Rattle.std.proofs.lemmas.List.Elements.{Contains-append_left, Contains-append_right}
use Rattle.std.proofs.lemmas.Option.{none-some, same_Some}
use Rattle.turn_lock.specs.Passes.{pass_lock, pass_number, pass_mine, IsSamePass}
use Rattle.turn_lock.specs.declared.pass.PassOf.{PassOf}
use Rattle.seg_pool.specs.Holders.{PoolUse, Gave, holds_after}
use Rattle.seg_pool.specs.Operations.{operation_of, holds, taken}
use Rattle.seg_pool.specs.declared.base.PoolBase.{PoolBase}
use Rattle.seg_pool.specs.declared.pool.Pool.{Pool}
use Rattle.seg_pool.proofs.Holding.{holds-push}
use Rattle.log_segment.specs.declared.free.FreeSegment.{FreeSegment}
use Rattle.logger.specs.declared.lane.HeldSegment.{HeldSegment}

-- an index is among those of the elements and of others still, where an element of another index is gone
contains_removed : {X : Type 0} (f : X → ℕ) (xs : List X) (ws : List ℕ) (k : ℕ) (x : X) (i : ℕ) → slice_get xs k ≡ Some x → (f x ≡ i → ⊥) → Contains (map f xs ++ ws) i → Contains (map f (remove xs k) ++ ws) i
contains_removed f [] ws k x i is other has = absurd (none-some x is)
contains_removed f (y ∷ ys) ws zero x i is other (zero, lt, e) = absurd (other (ap f (sym (same_Some y x is)) ∙ e))
contains_removed f (y ∷ ys) ws zero x i is other (suc j, lt, e) = (j, omega arith, e)
contains_removed f (y ∷ ys) ws (suc k) x i is other (zero, lt, e) = (0, omega arith, e)
contains_removed f (y ∷ ys) ws (suc k) x i is other (suc j, lt, e) = let rest = contains_removed f ys ws k x i is other (j, omega arith, e) in (suc rest.0, (let le = rest.1 in omega arith), rest.2)

module _ {D : Type 0} where
  -- whether the pass holds an index
  abbrev pub has : PassOf (Pool (FreeSegment D)) PoolBase → ℕ → Bool
  has p index = holds (pass_lock p).base (pass_number p) (pass_mine p) index

  -- it holds no index but these
  abbrev pub HoldsIn : PassOf (Pool (FreeSegment D)) PoolBase → List ℕ → Type 0
  HoldsIn p is = (index : ℕ) → has p index ≡ true → Contains is index

  -- what it holds after one more use
  pub has_after : (p q : PassOf (Pool (FreeSegment D)) PoolBase) (u : PoolUse) → IsSamePass p q → pass_mine q ≡ pass_mine p ++ (pass_number p, operation_of u) ∷ [] → (i : ℕ) → has q i ≡ holds_after i (has p i) (u ∷ [])
  has_after p q u same mine i = (λ k. holds (same.0 k).base (same.1 k) (mine k) i) ∙ holds-push (pass_lock p).base (pass_mine p) (pass_number p) i u

  -- the lane's segments with what a turn gave
  pub all_taking : (p q : PassOf (Pool (FreeSegment D)) PoolBase) (is : List ℕ) (t o : Option (ℕ × FreeSegment D)) → IsSamePass p q → pass_mine q ≡ pass_mine p ++ (pass_number p, operation_of (taken o)) ∷ [] → t ≡ None
      → HoldsIn p (is ++ map (λ (u : ℕ × FreeSegment D). u.0) (option_to_list t)) → HoldsIn q (is ++ map (λ (u : ℕ × FreeSegment D). u.0) (option_to_list o))
  all_taking p q is t o same mine none all i holding = by o (has_after p q (taken o) same mine i)
    where
      before : has p i ≡ true → Contains (is ++ []) i
      before held = subst (λ (x : Option (ℕ × FreeSegment D)). Contains (is ++ map (λ (u : ℕ × FreeSegment D). u.0) (option_to_list x)) i) none (all i held)

      by : (o : Option (ℕ × FreeSegment D)) → has q i ≡ holds_after i (has p i) (taken o ∷ []) → Contains (is ++ map (λ (u : ℕ × FreeSegment D). u.0) (option_to_list o)) i
      by None after = before (sym after ∙ holding)
      by (Some r) after = ⊎_elim
          (λ e. Contains-append_right is (r.0 ∷ []) i (0, omega arith, e.1))
          (λ e. Contains-append_left is (r.0 ∷ []) i (subst (λ (l : List ℕ). Contains l i) (append-nil is) (before (sym (ap (λ (b : Bool). cond b true (has p i)) e.0) ∙ (sym after ∙ holding)))))
          (eqb_tells r.0 i)

  -- and without one that was given back
  pub all_giving : (p q : PassOf (Pool (FreeSegment D)) PoolBase) (items : List (HeldSegment D)) (ws : List ℕ) (k : ℕ) (o : HeldSegment D) (index : ℕ) → IsSamePass p q → pass_mine q ≡ pass_mine p ++ (pass_number p, operation_of (Gave index)) ∷ []
      → slice_get items k ≡ Some o → o.index ≡ index → HoldsIn p (map (λ (h : HeldSegment D). h.index) items ++ ws) → HoldsIn q (map (λ (h : HeldSegment D). h.index) (remove items k) ++ ws)
  all_giving p q items ws k o index same mine there named all i holding = ⊎_elim
      (λ e. absurd (false≢true (sym (after ∙ ap (λ (b : Bool). cond b false (has p i)) e.0) ∙ holding)))
      (λ e. contains_removed (λ (h : HeldSegment D). h.index) items ws k o i there (λ is. e.1 (sym named ∙ is)) (all i (sym (after ∙ ap (λ (b : Bool). cond b false (has p i)) e.0) ∙ holding)))
      (eqb_tells index i)
    where
      after : has q i ≡ holds_after i (has p i) (Gave index ∷ [])
      after = has_after p q (Gave index) same mine i
