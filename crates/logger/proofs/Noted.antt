-- What a pass holds of a pool whose lock was just made: the indexes that were noted for it.
use Rattle.std.proofs.Common.{◌≡◌, ℕ, zero, suc, true, List, [], ◌∷◌, map, Some, ap}
use Rattle.std.specs.Prelude.{slice_index_or}
use Rattle.std.proofs.lemmas.Bool.{eqb-true}
use Rattle.seg_pool.specs.Holders.{holder, is_held_by}
use Rattle.seg_pool.specs.Operations.{holds}
use Rattle.seg_pool.specs.Pools.{note_at, note_in, holder_in, base_of}
use Rattle.seg_pool.specs.declared.pool.Pool.{Pool}
use Rattle.seg_pool.specs.declared.pool.Slot.{Slot}
use Rattle.seg_pool.specs.declared.pool.Slot.TheVariants.{Empty, Noted, Free}

module _ {T : Type 0} where
  noted_slot : (s : Slot T) (pass : ℕ) → is_held_by pass (holder_in s) ≡ true → note_in s ≡ Some pass
  noted_slot Empty pass is = cc
  noted_slot (Noted n) pass is = ap Some (eqb-true n pass is)
  noted_slot (Free item) pass is = cc

  noted_at : (slots : List (Slot T)) (index pass : ℕ) → is_held_by pass (holder (map (λ (s : Slot T). holder_in s) slots) index) ≡ true → note_in (slice_index_or slots index Empty) ≡ Some pass
  noted_at [] index pass is = cc
  noted_at (s ∷ slots) zero pass is = noted_slot s pass is
  noted_at (s ∷ slots) (suc index) pass is = noted_at slots index pass is

  pub noted_of : (p : Pool T) (pass index : ℕ) → holds (base_of p) pass [] index ≡ true → note_at p index ≡ Some pass
  noted_of p pass index has = noted_at p.slots.items index pass has
