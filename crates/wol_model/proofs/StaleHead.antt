-- A record's data block that spells a head of version 9 stands behind the gate of a segment that was claimed again, and counts for nothing.
use Rattle.std.proofs.Common.{◌≡◌, ℕ, List, [], ◌∷◌, Some, refl, replicate, length}
use Rattle.wol_disk.specs.Disk.{Block}
use Rattle.wol_model.specs.Heads.{RecordHead, head_block, owned_block, gate_block}
use Rattle.wol_model.specs.Log.{end_of}
use Rattle.wol_model.specs.Recovered.{fields_of, spelled_head, read_log}

abbrev head : ℕ → ℕ → ℕ → RecordHead
head version first count = record { form = 2; owner = 3; version = version; first = first; count = count; mask = 1 }

-- before: a record of two blocks, the second of which spells a head
abbrev before : List Block
before = owned_block 3 ∷ head_block (record { form = 2; owner = 3; version = 1; first = 5; count = 2; mask = 3 }) ∷ (9 ∷ []) ∷ head_block (head 9 0 1) ∷ gate_block ∷ []

-- after: a record of one block at 1, and a gate at 3
abbrev later : List Block
later = owned_block 3 ∷ head_block (head 2 5 1) ∷ (8 ∷ []) ∷ gate_block ∷ head_block (head 9 0 1) ∷ replicate 11 gate_block

has_sixteen : length later ≡ 16
has_sixteen = refl

one_record : read_log 3 later ≡ Some (record { head = head 2 5 1; blocks = (8 ∷ []) ∷ [] } ∷ [])
unfolding spelled_head fields_of head_block owned_block gate_block read_log
one_record = refl

ends_at_3 : end_of (record { head = head 2 5 1; blocks = (8 ∷ []) ∷ [] } ∷ []) ≡ 3
ends_at_3 = refl

-- without the gate at 3 the stale head would count
without_gate : read_log 3 (owned_block 3 ∷ head_block (head 2 5 1) ∷ (8 ∷ []) ∷ head_block (head 9 0 1) ∷ (7 ∷ []) ∷ [])
    ≡ Some (record { head = head 2 5 1; blocks = (8 ∷ []) ∷ [] } ∷ record { head = head 9 0 1; blocks = (7 ∷ []) ∷ [] } ∷ [])
unfolding spelled_head fields_of head_block owned_block gate_block read_log
without_gate = refl
