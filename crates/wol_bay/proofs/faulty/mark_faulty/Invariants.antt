use Rattle.std.proofs.Common.{◌≡◌, ◌≤◌, ◌++◌, drop, length}
use Rattle.std.specs.Prelude.{vec_len, vec_capacity}
use Rattle.wol_disk.specs.Memory.{mem_state}
use Rattle.wol_disk.specs.Stop.{stop_state}
use Rattle.wol_bay.specs.Parts.{faulty_places, faulty_from}
use Rattle.wol_bay.proofs.faulty.mark_faulty.Given as goal

abbrev pub invariant-loop-place : goal.invariant-loop-place
invariant-loop-place l = record {
  marked : faulty_places (λ s. stop_state mem_state s) l.parts ≡ l.places.items ++ faulty_from l.place (λ s. stop_state mem_state s) (drop l.place l.parts);
  few : vec_len l.places ≤ l.place;
  room : length l.parts ≤ vec_capacity l.places;
}
