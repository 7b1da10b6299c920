-- Requests of a volume that a worker serves together.
use Rattle.std.specs.Prelude.{◌≡◌, ◌⊎◌, ◌≤◌, ◌<◌, ℕ, List, All, length, take, sum_by}
use Rattle.trace_windows.specs.declared.request.Request.{Request}
use Rattle.wol_model.specs.declared.trace.Kind.TheVariants as kind

-- each of them writes
abbrev pub AreWrites : List Request → Type 0
AreWrites rs = All (λ (r : Request). r.kind ≡ kind.Write) rs

-- how many blocks they have together
abbrev pub blocks_of : List Request → ℕ
blocks_of rs = sum_by (λ (r : Request). r.count) rs

-- one request, or writes with together at most 128 blocks
abbrev pub IsBatch : List Request → Type 0
IsBatch rs = (length rs ≡ 1) ⊎ (AreWrites rs × (blocks_of rs ≤ 128))

-- so many first ones go together, and more of them would not
pub record IsFirstBatch (rs : List Request) (count : ℕ) : Type 0 where
  pub some : 1 ≤ count
  pub within : count ≤ length rs
  pub batch : IsBatch (take count rs)
  pub longest : (n : ℕ) → count < n → n ≤ length rs → IsBatch (take n rs) → ⊥
