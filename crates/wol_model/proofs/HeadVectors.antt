-- The bytes of labels, views, segment heads and record heads of both forms; and blocks that spell no head.
use Rattle.std.proofs.Common.{◌≡◌, ◌^◌, ℕ, [], ◌∷◌, None, Some, refl, take, map}
use Rattle.wol_model.specs.Heads.{label_block, view_block, free_block, owned_block, head_block, RecordHead}
use Rattle.wol_model.specs.Recovered.{fields_of, spelled_head}

label_of_four_segments : take 32 (label_block 0 (record { home = 1000; segments = 4; segment_blocks = 16 }))
    ≡ 0x57 ∷ 0x4f ∷ 0x4c ∷ 0x56 ∷ 0x4f ∷ 0x4c ∷ 0x30 ∷ 0x31 ∷ 0 ∷ 0 ∷ 0 ∷ 0 ∷ 0xe8 ∷ 3 ∷ 0 ∷ 0 ∷ 0 ∷ 0 ∷ 0 ∷ 0 ∷ 4 ∷ 0 ∷ 0 ∷ 0 ∷ 0x10 ∷ 0 ∷ 0 ∷ 0 ∷ 0 ∷ 0 ∷ 0 ∷ 0 ∷ []
unfolding label_block
label_of_four_segments = refl

view_of_two : take 24 (view_block (1 ∷ 0 ∷ [])) ≡ 0x57 ∷ 0x4f ∷ 0x4c ∷ 0x56 ∷ 0x49 ∷ 0x45 ∷ 0x57 ∷ 0x31 ∷ 2 ∷ 0 ∷ 0 ∷ 0 ∷ 1 ∷ 0 ∷ 0 ∷ 0 ∷ 0 ∷ 0 ∷ 0 ∷ 0 ∷ 0 ∷ 0 ∷ 0 ∷ 0 ∷ []
unfolding view_block
view_of_two = refl

free : take 12 free_block ≡ 0x57 ∷ 0x4f ∷ 0x4c ∷ 0x53 ∷ 0x45 ∷ 0x47 ∷ 0x46 ∷ 0x31 ∷ 0 ∷ 0 ∷ 0 ∷ 0 ∷ []
unfolding free_block
free = refl

owned_by_2 : take 16 (owned_block 2) ≡ 0x57 ∷ 0x4f ∷ 0x4c ∷ 0x53 ∷ 0x45 ∷ 0x47 ∷ 0x4f ∷ 0x31 ∷ 2 ∷ 0 ∷ 0 ∷ 0 ∷ 0 ∷ 0 ∷ 0 ∷ 0 ∷ []
unfolding owned_block
owned_by_2 = refl

abbrev head : ℕ → ℕ → RecordHead
head form mask = record { form = form; owner = 0; version = 1; first = 1; count = 4; mask = mask }

form_1 : take 40 (head_block (head 1 15))
    ≡ 0x57 ∷ 0x4f ∷ 0x4c ∷ 0x52 ∷ 0x45 ∷ 0x43 ∷ 0x30 ∷ 0x31 ∷ 1 ∷ 0 ∷ 0 ∷ 0 ∷ 0 ∷ 0 ∷ 0 ∷ 0 ∷ 1 ∷ 0 ∷ 0 ∷ 0 ∷ 0 ∷ 0 ∷ 0 ∷ 0 ∷ 1 ∷ 0 ∷ 0 ∷ 0 ∷ 0 ∷ 0 ∷ 0 ∷ 0 ∷ 4 ∷ 0 ∷ 0 ∷ 0 ∷ 0 ∷ 0 ∷ 0 ∷ 0 ∷ []
unfolding head_block
form_1 = refl

form_2 : take 52 (head_block (head 2 15))
    ≡ 0x57 ∷ 0x4f ∷ 0x4c ∷ 0x52 ∷ 0x45 ∷ 0x43 ∷ 0x30 ∷ 0x32 ∷ 0 ∷ 0 ∷ 0 ∷ 0 ∷ 0 ∷ 0 ∷ 0 ∷ 0 ∷ 1 ∷ 0 ∷ 0 ∷ 0 ∷ 0 ∷ 0 ∷ 0 ∷ 0 ∷ 1 ∷ 0 ∷ 0 ∷ 0 ∷ 0 ∷ 0 ∷ 0 ∷ 0 ∷ 4 ∷ 0 ∷ 0 ∷ 0
    ∷ 15 ∷ 0 ∷ 0 ∷ 0 ∷ 0 ∷ 0 ∷ 0 ∷ 0 ∷ 0 ∷ 0 ∷ 0 ∷ 0 ∷ 0 ∷ 0 ∷ 0 ∷ 0 ∷ []
unfolding head_block
form_2 = refl

-- read back: both forms, one with a part of its blocks kept
read_back : map (λ (h : RecordHead). spelled_head (head_block h)) (head 1 15 ∷ head 1 0 ∷ head 2 15 ∷ head 2 9 ∷ head 2 0 ∷ [])
    ≡ Some (head 1 15) ∷ Some (head 1 0) ∷ Some (head 2 15) ∷ Some (head 2 9) ∷ Some (head 2 0) ∷ []
unfolding spelled_head fields_of head_block
read_back = refl

-- nothing is spelled with a bit at the number of blocks, no or too many blocks, version 0 or 2 ^ 63, or past block 2 ^ 32
abbrev other : ℕ → ℕ → ℕ → RecordHead
other version first count = record { form = 2; owner = 0; version = version; first = first; count = count; mask = 0 }

refused : map (λ (h : RecordHead). spelled_head (head_block h)) (head 2 16 ∷ other 1 0 0 ∷ other 1 0 129 ∷ other 0 0 1 ∷ other (2 ^ 63) 0 1 ∷ other 1 (2 ^ 32) 1 ∷ [])
    ≡ None ∷ None ∷ None ∷ None ∷ None ∷ None ∷ []
unfolding spelled_head fields_of head_block
refused = refl
