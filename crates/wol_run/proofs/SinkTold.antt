-- What is told of the sink at an exit.
use Rattle.std.proofs.Common.{◌≡◌, ◌≢◌, ℕ, ◌≤◌, refl, arith}
use Rattle.wol_disk.specs.Disk.{Rose}
use Rattle.wol_run.specs.Tops.{TellsSink}

-- its count is no greater than itself
pub no_greater : (a : ℕ) → a ≤ a
no_greater a = omega arith

-- its count is as it was
pub sink_kept : (a b status : ℕ) → status ≢ 7 → b ≡ a → TellsSink a b status
sink_kept a b status other same = record { cause = λ seven. absurd (other seven); later = omega (arith, same); calm = λ less. absurd (omega (arith, same, less)) }

-- it failed
pub sink_failed : (a b : ℕ) → a ≤ b → Rose a b → TellsSink a b 7
sink_failed a b on rose = record { cause = λ seven. rose; later = on; calm = λ less. refl }
