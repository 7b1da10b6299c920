-- Which lock it is, and its base.
use base.Stored.{Coded, coded×, coded_via}
use Rattle.atomic_table.specs.Seated.{TableId, table_id_coded}

-- two locks are one where their tables are
pub record LockId (B : Type 0) : Type 0 where
  pub table : TableId
  pub base : B

-- a lock's name can be kept where a base can
abbrev pub lock_id_coded : {B : Type 0} → Coded B → Coded (LockId B)
lock_id_coded {B} c = coded_via (coded× table_id_coded c) (λ (r : LockId B). (r.table, r.base))
    (λ x y e i. record { table = (e i).0; base = (e i).1 })
