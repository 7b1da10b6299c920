-- A pool as one more use is made.
use Rattle.std.proofs.Common.{◌≡◌, ◌≢◌, ◌<◌, ℕ, true, false, List, [], ◌∷◌, ◌++◌, length, None, Some, is_some, get_or, set, refl, sym, ap, ◌∙◌, subst, arith, ⊎_elim, get_or-set_same, get_or-set_other}
use Rattle.std.proofs.lemmas.List.{get_or_past, map-append}
use Rattle.std.proofs.lemmas.Bool.Decides.{eqb_tells, leb_tells}
use Rattle.turn_lock.specs.Histories.{Entry}
use Rattle.seg_pool.specs.declared.base.Holder.{Holder}
use Rattle.seg_pool.specs.declared.base.Holder.TheVariants.{Elsewhere, InPool, HeldBy}
use Rattle.seg_pool.specs.declared.base.PoolBase.{PoolBase}
use Rattle.seg_pool.specs.declared.pool.Pool.{Pool}
use Rattle.seg_pool.specs.declared.pool.Slot.{Slot}
use Rattle.seg_pool.specs.declared.pool.Slot.TheVariants.{Empty}
use Rattle.seg_pool.specs.Holders.{PoolUse, Took, Gave, holder, pool_used, MayUsePool, pool_after, ArePoolUses, is_in_pool}
use Rattle.seg_pool.specs.Operations.{operation_of, use_of, uses_of, entries_of}
use Rattle.seg_pool.specs.Pools.{item_in, note_in, item_at, IsEmptyPool, IsSamePool, ChangesOnly, StandsFor, holders_after}

-- the numbers of a use are read back as that use
pub use_of-operation_of : (u : PoolUse) → use_of (operation_of u) ≡ u
use_of-operation_of (Took None) = refl
use_of-operation_of (Took (Some index)) = refl
use_of-operation_of (Gave index) = refl

pub uses_of-push : (es : List Entry) (n : ℕ) (u : PoolUse) → uses_of (es ++ (n, operation_of u) ∷ []) ≡ uses_of es ++ (n, u) ∷ []
uses_of-push es n u = rw (map-append, use_of-operation_of u)

entries_of-push : (us : List (ℕ × PoolUse)) (n : ℕ) (u : PoolUse) → entries_of (us ++ (n, u) ∷ []) ≡ entries_of us ++ (n, operation_of u) ∷ []
entries_of-push us n u = map-append _ us ((n, u) ∷ [])

pool_after-push : (hs : List Holder) (us : List (ℕ × PoolUse)) (n : ℕ) (u : PoolUse) → pool_after hs (us ++ (n, u) ∷ []) ≡ pool_used (pool_after hs us) n u
pool_after-push hs [] n u = refl
pool_after-push hs (v ∷ us) n u = pool_after-push (pool_used hs v.0 v.1) us n u

uses_more : (hs : List Holder) (us : List (ℕ × PoolUse)) (n : ℕ) (u : PoolUse) → ArePoolUses hs us → MayUsePool (pool_after hs us) n u → ArePoolUses hs (us ++ (n, u) ∷ [])
uses_more hs [] n u are may = (may, tt)
uses_more hs (v ∷ us) n u are may = (are.0, uses_more (pool_used hs v.0 v.1) us n u are.1 may)

pub holders_after-push : (b : PoolBase) (es : List Entry) (n : ℕ) (u : PoolUse) → holders_after b (es ++ (n, operation_of u) ∷ []) ≡ pool_used (holders_after b es) n u
holders_after-push b es n u = ap (pool_after b.holders) (uses_of-push es n u) ∙ pool_after-push b.holders (uses_of es) n u

-- an index that someone has is one of the list
pub has_index : (hs : List Holder) (index : ℕ) → (holder hs index ≡ Elsewhere → ⊥) → index < length hs
has_index hs index some = ⊎_elim (λ past. absurd (some (get_or_past hs index Elsewhere past.1))) (λ within. within.1) (leb_tells (length hs) index)

-- a change of one index: who has it then, and who has another
pub holder_here : (hs : List Holder) (index j : ℕ) (h : Holder) → index < length hs → j ≡ index → holder (set hs index h) j ≡ h
holder_here hs index j h lt is = ap (holder (set hs index h)) is ∙ get_or-set_same hs index h Elsewhere lt

pub holder_there : (hs : List Holder) (index j : ℕ) (h : Holder) → j ≢ index → holder (set hs index h) j ≡ holder hs j
holder_there hs index j h other = get_or-set_other hs index j h Elsewhere other

module _ {T : Type 0} (blank : ℕ → ℕ → T → Type 0) (p q : Pool T) (b : PoolBase) (es : List Entry) (n : ℕ) (st : StandsFor blank p b es) (same : IsSamePool p q) where
  -- it stands for one more entry where its items are those that are free after that use
  stands_more : (u : PoolUse) → MayUsePool (holders_after b es) n u → ((j : ℕ) → is_some (item_at q j) ≡ is_in_pool (holder (pool_used (holders_after b es) n u) j)) → ((j : ℕ) (item : T) → item_at q j ≡ Some item → blank b.volume b.blocks item) → StandsFor blank q b (es ++ (n, operation_of u) ∷ [])
  stands_more u may free items = record {
    volume = same.volume ∙ st.volume;
    blocks = same.blocks ∙ st.blocks;
    room = same.room ∙ st.room;
    spelled = ap entries_of (uses_of-push es n u) ∙ (entries_of-push (uses_of es) n u ∙ ap (λ (xs : List Entry). xs ++ (n, operation_of u) ∷ []) st.spelled);
    legal = subst (ArePoolUses b.holders) (sym (uses_of-push es n u)) (uses_more b.holders (uses_of es) n u st.legal may);
    free = λ j. free j ∙ sym (ap (λ (hs : List Holder). is_in_pool (holder hs j)) (holders_after-push b es n u));
    items = items;
  }

  -- an item was taken
  pub stands_took : (index : ℕ) (item : T) → item_at p index ≡ Some item → ChangesOnly p q index None None → StandsFor blank q b (es ++ (n, operation_of (Took (Some index))) ∷ [])
  stands_took index item had change = stands_more (Took (Some index)) in_pool
      (λ j. ⊎_elim (λ e. free_here j e.1) (λ e. free_there j e.1) (eqb_tells j index))
      (λ j x is. ⊎_elim (λ e. absurd (let none : item_at q j ≡ None = ap (item_at q) e.1 ∙ change.item_here in cc)) (λ e. st.items j x (sym (change.items j e.1) ∙ is)) (eqb_tells j index))
    where
      of_pool : (h : Holder) → is_in_pool h ≡ true → h ≡ InPool
      of_pool InPool is = refl
      of_pool (HeldBy pass) is = cc
      of_pool Elsewhere is = cc

      in_pool : holder (holders_after b es) index ≡ InPool
      in_pool = of_pool (holder (holders_after b es) index) (sym (st.free index) ∙ ap is_some had)

      within : index < length (holders_after b es)
      within = has_index (holders_after b es) index (λ gone. (let i = in_pool in cc))

      free_here : (j : ℕ) → j ≡ index → is_some (item_at q j) ≡ is_in_pool (holder (set (holders_after b es) index (HeldBy n)) j)
      free_here j e = ap is_some (ap (item_at q) e ∙ change.item_here) ∙ sym (ap is_in_pool (holder_here (holders_after b es) index j (HeldBy n) within e))

      free_there : (j : ℕ) → j ≢ index → is_some (item_at q j) ≡ is_in_pool (holder (set (holders_after b es) index (HeldBy n)) j)
      free_there j other = ap is_some (change.items j other) ∙ (st.free j ∙ sym (ap is_in_pool (holder_there (holders_after b es) index j (HeldBy n) other)))

  -- a blank item was given by the pass that held its index
  pub stands_gave : (index : ℕ) (item : T) → blank b.volume b.blocks item → MayUsePool (holders_after b es) n (Gave index) → ChangesOnly p q index (Some item) None → StandsFor blank q b (es ++ (n, operation_of (Gave index)) ∷ [])
  stands_gave index item is_blank held change = stands_more (Gave index) held
      (λ j. ⊎_elim (λ e. free_here j e.1) (λ e. free_there j e.1) (eqb_tells j index))
      (λ j x is. ⊎_elim (λ e. subst (blank b.volume b.blocks) (let here : item_at q j ≡ Some item = ap (item_at q) e.1 ∙ change.item_here in cc) is_blank) (λ e. st.items j x (sym (change.items j e.1) ∙ is)) (eqb_tells j index))
    where
      within : index < length (holders_after b es)
      within = has_index (holders_after b es) index (λ gone. (let i = held in cc))

      free_here : (j : ℕ) → j ≡ index → is_some (item_at q j) ≡ is_in_pool (holder (set (holders_after b es) index InPool) j)
      free_here j e = ap is_some (ap (item_at q) e ∙ change.item_here) ∙ sym (ap is_in_pool (holder_here (holders_after b es) index j InPool within e))

      free_there : (j : ℕ) → j ≢ index → is_some (item_at q j) ≡ is_in_pool (holder (set (holders_after b es) index InPool) j)
      free_there j other = ap is_some (change.items j other) ∙ (st.free j ∙ sym (ap is_in_pool (holder_there (holders_after b es) index j InPool other)))

-- none was taken, since none is free
pub stands_took_none : {T : Type 0} (blank : ℕ → ℕ → T → Type 0) (p : Pool T) (b : PoolBase) (es : List Entry) (n : ℕ) → StandsFor blank p b es → IsEmptyPool p → StandsFor blank p b (es ++ (n, operation_of (Took None)) ∷ [])
stands_took_none blank p b es n st empty = stands_more blank p p b es n st (record { volume = refl; blocks = refl; room = refl }) (Took None) (λ j is. (let f = st.free j in let none : is_some (item_at p j) ≡ false = ap is_some (empty j) in let yes = ap is_in_pool is in cc)) st.free st.items

-- a slot was filled or emptied
pub slot_changed : {T : Type 0} (p q : Pool T) (index : ℕ) (s : Slot T) → index < length p.slots.items → q.slots.items ≡ set p.slots.items index s → ChangesOnly p q index (item_in s) (note_in s)
slot_changed p q index s lt is = record {
  item_here = ap item_in (ap (λ (l : List (Slot _)). get_or l index Empty) is ∙ get_or-set_same p.slots.items index s Empty lt);
  note_here = ap note_in (ap (λ (l : List (Slot _)). get_or l index Empty) is ∙ get_or-set_same p.slots.items index s Empty lt);
  items = λ i other. ap item_in (ap (λ (l : List (Slot _)). get_or l i Empty) is ∙ get_or-set_other p.slots.items index i s Empty other);
  notes = λ i other. ap note_in (ap (λ (l : List (Slot _)). get_or l i Empty) is ∙ get_or-set_other p.slots.items index i s Empty other);
}

-- an index below the room has its slot
pub in_slots : {T : Type 0} (p : Pool T) (index : ℕ) → index < p.room → index < length p.slots.items
in_slots p index lt = let sized = p.sized in let len = p.slots.ok.0 in omega arith
