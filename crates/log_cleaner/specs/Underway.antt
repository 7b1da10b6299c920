-- A cleaning underway.
use Rattle.std.specs.Prelude.{◌≡◌, ◌<◌, ◌^◌, ℕ, Bool, true, false, List, [], map, length, Some, Result, Ok, Err}
use Rattle.std.specs.List.{AllByRecursion, range_with_len}
use Rattle.wol_disk.specs.Disk.{State}
use Rattle.wol_model.specs.Blocks.{Write}
use Rattle.wol_model.specs.Index.{Listed, AreRising, listed_in}
use Rattle.manager.specs.declared.manager.Manager.{Manager}
use Rattle.log_cleaner.specs.Chunks.{AreUntidyBehind, IsClean}
use Rattle.log_cleaner.specs.Cleans.{FindsAllEmpty, HasSettled, NoneHasRoom, TidiesBefore, IsChunkOf, IsLeftUntidy, IsOfUntidy, copied_blocks, covered_in}
use Rattle.log_cleaner.specs.Steps.{HasBroken, HasCopied}
use Rattle.log_cleaner.specs.declared.answer.CleanFault.{CleanFault}
use Rattle.log_cleaner.specs.declared.answer.CleanFault.TheVariants.{DiskFault, VersionsSpent, NoMemory}

-- the copies are chunks that weren't tidy among these records, nor behind the copies before them, in
-- order, under versions in order from this one on
pub record AreChunks (covered : ℕ → Bool) (es : List Listed) (most next : ℕ) (copies : List Write) :
    Type 0 where
  pub chunks : AllByRecursion (IsChunkOf covered most) copies
  pub untidy : AllByRecursion (IsOfUntidy es) copies
  pub still_untidy : AreUntidyBehind es [] copies
  pub in_order : AreRising (map (λ w. w.first) copies)
  pub numbered : map (λ w. w.version) copies
      ≡ map (λ v. Some v) (range_with_len next (length copies))

-- these were copied
pub record HasCleanedSome {D : Type 0} (tells : Bool) (state : D → State) (most : ℕ)
    (old new : Manager D) (copies : List Write) : Type 0 where
  pub chunks : AreChunks (covered_in old) (listed_in old.index.entries) most old.next copies
  pub copied : HasCopied tells state old new copies
  pub untouched : copies ≡ [] → new.index.entries ≡ old.index.entries

-- what is so after a refusal
abbrev pub EndsBy : {D : Type 0} → (tells : Bool) → (D → State) → (most : ℕ) → (old new : Manager D)
    → List Write → CleanFault → Type 0
EndsBy tells state most old new copies (DiskFault p) =
    AreChunks (covered_in old) (listed_in old.index.entries) most old.next copies
    × HasBroken tells state old new p copies
EndsBy tells state most old new copies VersionsSpent =
    HasCleanedSome tells state most old new copies × (new.next ≡ 2 ^ 63)
    × IsLeftUntidy (covered_in old) most (listed_in new.index.entries) copies
    × HasSettled (listed_in new.index.entries) copies
EndsBy tells state most old new copies NoMemory =
    HasCleanedSome tells state most old new copies
    × TidiesBefore (covered_in old) most (listed_in new.index.entries) copies
    × HasSettled (listed_in new.index.entries) copies

-- all chunks are tidy, or no log had room for the next
abbrev pub CleansBy : {D : Type 0} → (tells : Bool) → (D → State) → (most : ℕ)
    → (old new : Manager D) → List Write → Result (ℕ × Bool) CleanFault → Type 0
CleansBy tells state most old new copies (Ok r) =
    HasCleanedSome tells state most old new copies × (r.0 ≡ copied_blocks copies)
    × (r.1 ≡ false → IsClean (covered_in old) most (listed_in new.index.entries))
    × (r.1 ≡ true → (new.next < 2 ^ 63) × FindsAllEmpty old new
    × (left : IsLeftUntidy (covered_in old) most (listed_in new.index.entries) copies)
    × NoneHasRoom left.count new)
    × HasSettled (listed_in new.index.entries) copies
CleansBy tells state most old new copies (Err fault) = EndsBy tells state most old new copies fault
