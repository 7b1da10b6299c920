-- A whole formatted image: its length, its home, and its segments, which are idle.
use Rattle.std.proofs.Common.{◌≡◌, ℕ, zero, suc, ◌+◌, ◌-◌, ◌*◌, ◌<◌, ◌≤◌, ◌==◌, Bool, true, false, cond, List, [], ◌∷◌, ◌++◌, length, map, replicate, take, drop, Some, refl, sym, ap, ◌∙◌, subst, arith, length-append}
use Rattle.std.specs.List.{AllByRecursion, range_with_len}
use Rattle.std.proofs.lemmas.List.{length-replicate}
use Rattle.std.proofs.Math.Nat.{suc-mul, add-mul}
use Rattle.std.proofs.Math.Seq.{drop-append-add, take-append_seam}
use Rattle.wol_disk.specs.Disk.{Block}
use Rattle.wol_disk.specs.Zeros.{zeros, zero_block}
use Rattle.wol_model.specs.Heads.{Shape, label_block, view_block, free_block}
use Rattle.wol_model.specs.Log.{IsIdle}
use Rattle.wol_model.specs.Images.{image_size, home_of, segment_of, segments_of}
use Rattle.volume_images.specs.Settled.{joined_blocks}
use Rattle.volume_images.specs.Formatted.{formatted, free_segment}

-- n free segments, one behind the other
abbrev free_row : (n blocks : ℕ) → List Block
free_row n blocks = joined_blocks (replicate n (free_segment blocks))

segment_length : (blocks : ℕ) → 1 ≤ blocks → length (free_segment blocks) ≡ blocks
segment_length blocks le = let e = length-replicate (blocks - 1) zero_block in omega (arith, e, le)

row_length : (n blocks : ℕ) → 1 ≤ blocks → length (free_row n blocks) ≡ n * blocks
row_length zero blocks le = let e : 0 ≡ 0 * blocks = omega arith in e
row_length (suc n) blocks le =
    let more = row_length n blocks le in
    let one = segment_length blocks le in
    let all = length-append (free_segment blocks) (free_row n blocks) in
    let e = suc-mul n blocks in
    omega (arith, more, one, all, e)

-- behind i segments there stand the others
drop_row : (i m blocks : ℕ) → 1 ≤ blocks → drop (i * blocks) (free_row (i + m) blocks) ≡ free_row m blocks
drop_row zero m blocks le =
    let e : zero * blocks ≡ 0 = omega arith in
    let f : zero + m ≡ m = omega arith in
    ap (λ (k : ℕ). drop k (free_row (zero + m) blocks)) e ∙ ap (λ (k : ℕ). free_row k blocks) f
drop_row (suc i) m blocks le =
    let s = suc-mul i blocks in
    let one = segment_length blocks le in
    let e : suc i * blocks ≡ length (free_segment blocks) + i * blocks = omega (arith, s, one) in
    let f : suc i + m ≡ suc (i + m) = omega arith in
    ap (λ (k : ℕ). drop k (free_row (suc i + m) blocks)) e ∙ ap (λ (k : ℕ). drop (length (free_segment blocks) + i * blocks) (free_row k blocks)) f
    ∙ drop-append-add (free_segment blocks) (free_row (i + m) blocks) (i * blocks) ∙ drop_row i m blocks le

module _ (id : ℕ) (s : Shape) (ids : List ℕ) (le : 1 ≤ s.segment_blocks) where
  -- behind label and view
  abbrev rest : List Block
  rest = zeros s.home ++ free_row s.segments s.segment_blocks

  is_joined : formatted id s ids ≡ label_block id s ∷ view_block ids ∷ rest
  unfolding formatted
  is_joined = refl

  pub whole_length : length (formatted id s ids) ≡ image_size s
  whole_length =
      let row = row_length s.segments s.segment_blocks le in
      let home = length-replicate s.home zero_block in
      let all = length-append (zeros s.home) (free_row s.segments s.segment_blocks) in
      ap length is_joined ∙ (let e : length (label_block id s ∷ view_block ids ∷ rest) ≡ 2 + s.home + s.segments * s.segment_blocks = omega (arith, row, home, all) in e)

  drop_home : (k : ℕ) → drop (2 + s.home + k) (formatted id s ids) ≡ drop k (free_row s.segments s.segment_blocks)
  drop_home k =
      let home = length-replicate s.home zero_block in
      let e : 2 + s.home + k ≡ suc (suc (length (zeros s.home) + k)) = omega (arith, home) in
      ap (λ (l : List Block). drop (2 + s.home + k) l) is_joined ∙ ap (λ (n : ℕ). drop n (label_block id s ∷ view_block ids ∷ rest)) e
      ∙ drop-append-add (zeros s.home) (free_row s.segments s.segment_blocks) k

  pub whole_home : home_of s (formatted id s ids) ≡ zeros s.home
  whole_home =
      let home = length-replicate s.home zero_block in
      let e : 2 + s.home - 2 ≡ length (zeros s.home) = omega (arith, home) in
      ap (λ (l : List Block). take (2 + s.home - 2) (drop 2 l)) is_joined ∙ ap (λ (n : ℕ). take n rest) e ∙ take-append_seam (zeros s.home) (free_row s.segments s.segment_blocks)

  idle_front : (n : ℕ) (bs more : List Block) → 1 ≤ n → bs ≡ free_block ∷ more → IsIdle (take n bs)
  idle_front zero bs more few e = absurd (omega (arith, few))
  idle_front (suc n) bs more few e = subst (λ (l : List Block). IsIdle (take (suc n) l)) (sym e) refl

  segment_idle : (i : ℕ) → i < s.segments → IsIdle (segment_of s (formatted id s ids) i)
  segment_idle i lt =
      let m = s.segments - (i + 1) in
      let all : s.segments ≡ i + suc m = omega (arith, lt) in
      let more = add-mul i 1 s.segment_blocks in
      let one : 1 * s.segment_blocks ≡ s.segment_blocks = omega arith in
      let few : 1 ≤ 2 + s.home + (i + 1) * s.segment_blocks - (2 + s.home + i * s.segment_blocks) = omega (arith, more, one, le) in
      idle_front (2 + s.home + (i + 1) * s.segment_blocks - (2 + s.home + i * s.segment_blocks)) (drop (2 + s.home + i * s.segment_blocks) (formatted id s ids)) (zeros (s.segment_blocks - 1) ++ free_row m s.segment_blocks) few
      (drop_home (i * s.segment_blocks) ∙ ap (λ (k : ℕ). drop (i * s.segment_blocks) (free_row k s.segment_blocks)) all ∙ drop_row i (suc m) s.segment_blocks le)

  each_idle : (n k : ℕ) → k + n ≤ s.segments → AllByRecursion IsIdle (map (segment_of s (formatted id s ids)) (range_with_len k n))
  each_idle zero k few = tt
  each_idle (suc n) k few = (segment_idle k (omega (arith, few)), each_idle n (k + 1) (omega (arith, few)))

  pub segments_idle : AllByRecursion IsIdle (segments_of s (Some (formatted id s ids)))
  segments_idle = go (length (formatted id s ids) == image_size s)
    where
      go : (b : Bool) → AllByRecursion IsIdle (cond b (map (segment_of s (formatted id s ids)) (range_with_len 0 s.segments)) [])
      go true = each_idle s.segments 0 (omega arith)
      go false = tt
