use Rattle.std.proofs.Common.{ℕ, List, ◌++◌, take}
use Rattle.sha2.specs.Hashers.{Holds256}
use Rattle.wol_disk.specs.Disk.{bytes_of}
use Rattle.inspection.proofs.digest.feed.Given as goal

abbrev pub invariant-loop-block : goal.invariant-loop-block
invariant-loop-block l = (message : List ℕ) → Holds256 l.initial.hasher message → Holds256 l.hasher (message ++ bytes_of (take l.block-index l.blocks))
