-- Four records are written as a group, their heads last: whichever heads a stop leaves, some first ones of the group are there.
use Rattle.std.proofs.Common.{◌≡◌, ℕ, List, [], ◌∷◌, Option, Some, refl, length, map}
use Rattle.std.specs.Option.{option_map}
use Rattle.wol_disk.specs.Disk.{Block}
use Rattle.wol_model.specs.Heads.{head_block, owned_block, gate_block}
use Rattle.wol_model.specs.Recovered.{fields_of, spelled_head, read_log}

abbrev head : ℕ → Block
head k = head_block (record { form = 2; owner = 3; version = k; first = k; count = 1; mask = 1 })

abbrev gate : Block
gate = gate_block

abbrev group : Block → Block → Block → Block → List Block
group one two three four = owned_block 3 ∷ one ∷ (1 ∷ []) ∷ two ∷ (2 ∷ []) ∷ three ∷ (3 ∷ []) ∷ four ∷ (4 ∷ []) ∷ gate ∷ []

abbrev count_in : List Block → Option ℕ
count_in bs = option_map length (read_log 3 bs)

first_ones : map count_in (group gate gate gate gate ∷ group (head 1) gate gate gate ∷ group (head 1) (head 2) gate gate ∷ group (head 1) (head 2) (head 3) gate ∷ group (head 1) (head 2) (head 3) (head 4) ∷ [])
    ≡ Some 0 ∷ Some 1 ∷ Some 2 ∷ Some 3 ∷ Some 4 ∷ []
unfolding spelled_head fields_of head_block owned_block gate_block read_log
first_ones = refl

-- the second head alone gives none, and a gap ends the log
with_gaps : map count_in (group gate (head 2) gate gate ∷ group (head 1) gate (head 3) gate ∷ group gate (head 2) (head 3) (head 4) ∷ group (head 1) (head 2) gate (head 4) ∷ [])
    ≡ Some 0 ∷ Some 1 ∷ Some 0 ∷ Some 2 ∷ []
unfolding spelled_head fields_of head_block owned_block gate_block read_log
with_gaps = refl
