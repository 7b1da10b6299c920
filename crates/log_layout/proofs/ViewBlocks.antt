-- The blocks that spell views.
use Rattle.std.proofs.Common.{◌≡◌, ℕ, zero, suc, ◌+◌, ◌-◌, ◌*◌, ◌^◌, ◌<◌, ◌≤◌, List, [], ◌∷◌, ◌++◌, length, take, drop, get_or, set, replicate, codes, refl, sym, ap, ◌∙◌, arith, get_or-set_same, get_or-set_other, below_more}
use Rattle.std.specs.List.{flat_map, AllByRecursion}
use Rattle.std.proofs.lemmas.List.{drop-drop, get_or-take, length-take-le}
use Rattle.std.proofs.lemmas.Grind.{same_number_lists}
use Rattle.byteorder.specs.Endian.{little_bytes, little_number}
use Rattle.byteorder.specs.Numbers.{little_number-reads_back}
use Rattle.wol_model.specs.Heads.{view_block, SpellsView}

-- each id has four bytes
pub length-ids : (ids : List ℕ) → length (flat_map (little_bytes 4) ids) ≡ 4 * length ids
length-ids [] = refl
length-ids (id ∷ ids) = let more = length-ids ids in omega (arith, more)

-- what the writer leaves is the block of the view
pub view_written : (v ids b : List ℕ) (n : ℕ) → n ≡ length v → ids ≡ v
    → b ≡ codes "WOLVIEW1" ++ little_bytes 4 n ++ flat_map (little_bytes 4) ids ++ replicate (500 - 4 * length ids) 0 → b ≡ view_block v
unfolding view_block
view_written v ids b n counted same e =
    let zeros : 500 - 4 * length v ≡ 512 - length (codes "WOLVIEW1" ++ (little_bytes 4 (length v) ++ flat_map (little_bytes 4) v)) = omega (arith, length-ids v) in
    e ∙ rw (counted, same) (ap (λ z. (codes "WOLVIEW1" ++ (little_bytes 4 (length v) ++ flat_map (little_bytes 4) v)) ++ replicate z 0) zeros)

-- the id at place k, in the four bytes at its place
pub id_back : (ids rest : List ℕ) (k : ℕ) → AllByRecursion (λ id. id < 2 ^ 32) ids → k < length ids → little_number 4 (drop (4 * k) (flat_map (little_bytes 4) ids ++ rest)) ≡ get_or ids k 0
id_back [] rest k small inside = absurd (omega arith)
id_back (id ∷ ids) rest zero small inside = little_number-reads_back 4 id (flat_map (little_bytes 4) ids ++ rest) small.0
id_back (id ∷ ids) rest (suc k) small inside =
    let place : 4 * suc k ≡ 4 + 4 * k = omega arith in
    rw (place, ← drop-drop (4 * k) 4 (flat_map (little_bytes 4) (id ∷ ids) ++ rest)) (id_back ids rest k small.1 (omega arith))

pub spelled_length : (b ids : List ℕ) → SpellsView b ids → little_number 4 (drop 8 b) ≡ length ids
unfolding view_block
spelled_length b ids s =
    ap (λ l. little_number 4 (drop 8 l)) s.bytes
    ∙ little_number-reads_back 4 (length ids) (flat_map (little_bytes 4) ids ++ replicate (512 - length (codes "WOLVIEW1" ++ (little_bytes 4 (length ids) ++ flat_map (little_bytes 4) ids))) 0) (omega (arith, s.in_range.few))

spelled_id : (b ids : List ℕ) (k : ℕ) → SpellsView b ids → k < length ids → little_number 4 (drop (12 + 4 * k) b) ≡ get_or ids k 0
unfolding view_block
spelled_id b ids k s inside =
    let rest = replicate (512 - length (codes "WOLVIEW1" ++ (little_bytes 4 (length ids) ++ flat_map (little_bytes 4) ids))) 0 in
    ap (λ l. little_number 4 (drop (12 + 4 * k) l)) s.bytes
    ∙ ap (little_number 4) (sym (drop-drop (4 * k) 12 (view_block ids)))
    ∙ id_back ids rest k s.in_range.in_range inside

-- the numbers that stand at the places of the ids are the ids
pub spelled_ids : (b ids found : List ℕ) (count : ℕ) → SpellsView b ids → count ≡ little_number 4 (drop 8 b) → count ≤ length found
    → ((k : ℕ) → k < count → get_or found k 0 ≡ little_number 4 (drop (12 + 4 * k) b)) → take count found ≡ ids
spelled_ids b ids found count s counted room each =
    let n : count ≡ length ids = counted ∙ spelled_length b ids s in
    let size : length (take count found) ≡ count = length-take-le count found room in
    same_number_lists (take count found) ids (size ∙ n)
    (λ k inside. let below : k < count = omega (arith, size) in
    get_or-take count found k 0 below ∙ each k below ∙ spelled_id b ids k s (omega (arith, n)))

-- one id more
pub one_more_id : (b found : List ℕ) (i n : ℕ) → i < length found → n ≡ little_number 4 (drop (12 + 4 * i) b)
    → ((k : ℕ) → k < i → get_or found k 0 ≡ little_number 4 (drop (12 + 4 * k) b)) → (k : ℕ) → k < i + 1 → get_or (set found i n) k 0 ≡ little_number 4 (drop (12 + 4 * k) b)
one_more_id b found i n inside here before =
    below_more (λ k. get_or (set found i n) k 0 ≡ little_number 4 (drop (12 + 4 * k) b)) i
    (λ k lower. get_or-set_other found i k n 0 (omega arith) ∙ before k lower)
    (get_or-set_same found i n 0 inside ∙ here)
