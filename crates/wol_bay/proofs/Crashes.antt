-- What a restart leaves of parts in order.
use Rattle.std.proofs.Common.{◌≡◌, ℕ, zero, suc, ◌+◌, ◌<◌, ◌%◌, List, [], ◌∷◌, ◌++◌, length, take, drop, get_or, set, refl, sym, ap, ◌∙◌, append_assoc, arith}
use Rattle.std.proofs.lemmas.List.{take_more_set, append-nil}
use Rattle.std.proofs.lemmas.List.Concat.{flat_map-append}
use Rattle.wol_disk.specs.Disk.{Block, Values, only, fresh}
use Rattle.wol_disk.specs.Record.{chosen, value_at}
use Rattle.wol_disk.specs.Memory.{mem_values}
use Rattle.wol_disk.specs.Stop.{inner_of}
use Rattle.wol_disk.specs.declared.stop.StopDisk.{StopDisk}
use Rattle.wol_disk.specs.declared.memory.MemDisk.{MemDisk}
use Rattle.wol_bay.specs.Stored.{stored_blocks}

drop_none : (n : ℕ) → drop n (let none : List ℕ = [] in none) ≡ []
drop_none zero = refl
drop_none (suc n) = refl

-- what is chosen for two lists of blocks is chosen for the first, and from where it ends for the second
pub chosen_both : (choice : List ℕ) (vs ws : List (Values Block)) → chosen choice (vs ++ ws) ≡ chosen choice vs ++ chosen (drop (length vs) choice) ws
chosen_both choice [] ws = refl
chosen_both [] (v ∷ vs) ws = ap (λ l. v.now ∷ l) (chosen_both [] vs ws ∙ ap (λ (c : List ℕ). chosen [] vs ++ chosen c ws) (drop_none (length vs)))
chosen_both (c ∷ choice) (v ∷ vs) ws = ap (λ l. value_at (c % (length v.earlier + 1)) v ∷ l) (chosen_both choice vs ws)

only_both : (xs ys : List Block) → only (xs ++ ys) ≡ only xs ++ only ys
only_both [] ys = refl
only_both (x ∷ xs) ys = ap (λ l. fresh x ∷ l) (only_both xs ys)

drop_behind : (parts : List (StopDisk MemDisk)) (k : ℕ) (p : StopDisk MemDisk) → drop (suc k) (set parts k p) ≡ drop (suc k) parts
drop_behind [] zero p = refl
drop_behind [] (suc k) p = refl
drop_behind (q ∷ parts) zero p = refl
drop_behind (q ∷ parts) (suc k) p = drop_behind parts k p

blocks_from : (parts : List (StopDisk MemDisk)) (k : ℕ) (part : StopDisk MemDisk) → k < length parts → part ≡ get_or parts k part → stored_blocks (drop k parts) ≡ mem_values (inner_of part) ++ stored_blocks (drop (suc k) parts)
blocks_from [] k part lt is = absurd (omega arith)
blocks_from (q ∷ parts) zero part lt is = ap (λ (p : StopDisk MemDisk). mem_values (inner_of p) ++ stored_blocks parts) (sym is)
blocks_from (q ∷ parts) (suc k) part lt is = blocks_from parts k part (omega arith) is

-- one part more is left as chosen
pub left_more : (want : List (Values Block)) (parts : List (StopDisk MemDisk)) (k : ℕ) (choice rest : List ℕ) (part new : StopDisk MemDisk) → k < length parts → part ≡ get_or parts k part
    → mem_values (inner_of new) ≡ only (chosen choice (mem_values (inner_of part))) → rest ≡ drop (length (mem_values (inner_of part))) choice
    → want ≡ stored_blocks (take k parts) ++ only (chosen choice (stored_blocks (drop k parts)))
    → want ≡ stored_blocks (take (suc k) (set parts k new)) ++ only (chosen rest (stored_blocks (drop (suc k) (set parts k new))))
left_more want parts k choice rest part new lt is left behind so_far =
    let before = stored_blocks (take k parts) in
    let vs = mem_values (inner_of part) in
    let ws = stored_blocks (drop (suc k) parts) in
    let both : only (chosen choice (stored_blocks (drop k parts))) ≡ mem_values (inner_of new) ++ only (chosen rest ws) =
    ap (λ l. only (chosen choice l)) (blocks_from parts k part lt is) ∙ ap only (chosen_both choice vs ws) ∙ only_both (chosen choice vs) (chosen (drop (length vs) choice) ws)
    ∙ ap (λ l. l ++ only (chosen (drop (length vs) choice) ws)) (sym left) ∙ ap (λ (c : List ℕ). mem_values (inner_of new) ++ only (chosen c ws)) (sym behind) in
    let on : suc k ≡ k + 1 = omega arith in
    let front : stored_blocks (take (suc k) (set parts k new)) ≡ before ++ mem_values (inner_of new) =
    ap (λ (n : ℕ). stored_blocks (take n (set parts k new))) on ∙ ap stored_blocks (take_more_set parts k new lt) ∙ flat_map-append (λ part. mem_values (inner_of part)) (take k parts) (new ∷ []) ∙ ap (λ l. before ++ l) (append-nil (mem_values (inner_of new))) in
    so_far ∙ ap (λ l. before ++ l) both ∙ sym (append_assoc before (mem_values (inner_of new)) (only (chosen rest ws)))
    ∙ ap (λ l. l ++ only (chosen rest ws)) (sym front) ∙ ap (λ (l : List (StopDisk MemDisk)). stored_blocks (take (suc k) (set parts k new)) ++ only (chosen rest (stored_blocks l))) (sym (drop_behind parts k new))

pub length-crashed : (choice : List ℕ) (vs : List (Values Block)) → length (only (chosen choice vs)) ≡ length vs
length-crashed choice [] = refl
length-crashed [] (v ∷ vs) = ap suc (length-crashed [] vs)
length-crashed (c ∷ choice) (v ∷ vs) = ap suc (length-crashed choice vs)
