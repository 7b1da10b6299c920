-- A segment whose claim failed: held, broken and without records.
use Rattle.std.proofs.Common.{ℕ, true, []}
use Rattle.wol_promise.specs.Manager.{Held}

abbrev pub broken_segment : {P : Type 0} → P → (lane index : ℕ) → Held P
broken_segment part lane index = record { part = part; lane = lane; index = index; broken = true; records = [] }
