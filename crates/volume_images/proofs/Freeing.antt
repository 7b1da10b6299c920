-- Segments of zeros that become free ones, one after the other, and the parts of a formatted image.
use Rattle.std.proofs.Common.{◌≡◌, ◌⊎◌, inl, inr, ⊎_elim, ℕ, zero, suc, ◌+◌, ◌-◌, ◌<◌, ◌≤◌, Bool, true, false, List, [], ◌∷◌, ◌++◌, length, map, replicate, get_or, Result, Ok, Err, OnOk, refl, sym, ap, ◌∙◌, arith}
use Rattle.std.specs.Prelude.{slice_get, is_err}
use Rattle.std.proofs.lemmas.List.{get_or_default, get_or-replicate, length-map, length-replicate}
use Rattle.std.proofs.Math.ListN.{get_or-map}
use Rattle.wol_disk.specs.Disk.{Block, State}
use Rattle.wol_disk.specs.Zeros.{zeros, zero_block}
use Rattle.wol_disk.proofs.Images.{put_nothing}
use Rattle.wol_model.specs.Heads.{Shape, view_block, free_block}
use Rattle.wol_bay.specs.Parts.{sizes_of}
use Rattle.logger_view.specs.Stored.{with_label, with_view, with_free_head}
use Rattle.wol_model.specs.Blocks.{changed_at}
use Rattle.volume_images.specs.Settled.{joined_blocks}
use Rattle.volume_images.specs.Formatted.{part_sizes, blank_parts, formatted_parts, formatted, free_segment, HasZeroLabel, IsUnlabelledOrFormatted}

-- the first i of n segments are free
abbrev pub freed : (i n blocks : ℕ) → List (List Block)
freed i n blocks = replicate i (free_segment blocks) ++ replicate (n - i) (zeros blocks)

changed_behind : (change : List Block → List Block) (xs ys : List (List Block)) → changed_at (length xs) change (xs ++ ys) ≡ xs ++ changed_at zero change ys
changed_behind change [] ys = refl
changed_behind change (x ∷ xs) ys = ap (λ l. x ∷ l) (changed_behind change xs ys)

one_more : {A : Type 0} (i : ℕ) (x : A) (rest : List A) → replicate i x ++ x ∷ rest ≡ replicate (suc i) x ++ rest
one_more zero x rest = refl
one_more (suc i) x rest = ap (λ l. x ∷ l) (one_more i x rest)

head_put : (blocks : ℕ) → 1 ≤ blocks → with_free_head (zeros blocks) ≡ free_segment blocks
head_put zero le = absurd (omega arith)
head_put (suc n) le = let e : suc n - 1 ≡ n = omega arith in ap (λ l. free_block ∷ l) (put_nothing zero (zeros n) ∙ ap zeros (sym e))

next_freed : (i n blocks : ℕ) → i < n → 1 ≤ blocks → changed_at i with_free_head (freed i n blocks) ≡ freed (i + 1) n blocks
next_freed i n blocks lt le =
    let left : n - i ≡ suc (n - (i + 1)) = omega (arith, lt) in
    let more : suc i ≡ i + 1 = omega arith in
    let at : i ≡ length (replicate i (free_segment blocks)) = sym (length-replicate i (free_segment blocks)) in
    ap (λ (k : ℕ). changed_at i with_free_head (replicate i (free_segment blocks) ++ replicate k (zeros blocks))) left
    ∙ ap (λ (k : ℕ). changed_at k with_free_head (replicate i (free_segment blocks) ++ replicate (suc (n - (i + 1))) (zeros blocks))) at
    ∙ changed_behind with_free_head (replicate i (free_segment blocks)) (replicate (suc (n - (i + 1))) (zeros blocks))
    ∙ ap (λ bs. replicate i (free_segment blocks) ++ bs ∷ replicate (n - (i + 1)) (zeros blocks)) (head_put blocks le)
    ∙ one_more i (free_segment blocks) (replicate (n - (i + 1)) (zeros blocks))
    ∙ ap (λ (k : ℕ). replicate k (free_segment blocks) ++ replicate (n - (i + 1)) (zeros blocks)) more

behind_two : (change : List Block → List Block) (front home : List Block) (i : ℕ) (rest : List (List Block)) → changed_at (2 + i) change (front ∷ home ∷ rest) ≡ front ∷ home ∷ changed_at i change rest
behind_two change front home i rest = let e : 2 + i ≡ suc (suc i) = omega arith in ap (λ (k : ℕ). changed_at k change (front ∷ home ∷ rest)) e

-- one segment more is free
pub free_step : (front home : List Block) (i n blocks : ℕ) → i < n → 1 ≤ blocks → changed_at (2 + i) with_free_head (front ∷ home ∷ freed i n blocks) ≡ front ∷ home ∷ freed (i + 1) n blocks
free_step front home i n blocks lt le = behind_two with_free_head front home i (freed i n blocks) ∙ ap (λ (l : List (List Block)). front ∷ home ∷ l) (next_freed i n blocks lt le)

pub none_freed : (n blocks : ℕ) → replicate n (zeros blocks) ≡ freed 0 n blocks
none_freed n blocks = let e : n ≡ n - 0 = omega arith in ap (λ (k : ℕ). replicate k (zeros blocks)) e

-- and in the end all are
pub all_freed : (n blocks : ℕ) → freed n n blocks ≡ replicate n (free_segment blocks)
all_freed n blocks = let e : n - n ≡ 0 = omega arith in ap (λ (k : ℕ). replicate n (free_segment blocks) ++ replicate k (zeros blocks)) e ∙ nothing (replicate n (free_segment blocks))
  where
    nothing : (l : List (List Block)) → l ++ [] ≡ l
    nothing [] = refl
    nothing (x ∷ l) = ap (λ m. x ∷ m) (nothing l)

-- the front stays in front
pub in_front : (front home c : List Block) (i : ℕ) (rest : List (List Block)) → (c ≡ joined_blocks (front ∷ home ∷ rest)) ⊎ (c ≡ joined_blocks (changed_at (2 + i) with_free_head (front ∷ home ∷ rest))) → (more : List Block) × (c ≡ front ++ more)
in_front front home c i rest way =
    ⊎_elim
    (λ e. (joined_blocks (home ∷ rest), e))
    (λ e. (joined_blocks (home ∷ changed_at i with_free_head rest), e ∙ ap joined_blocks (behind_two with_free_head front home i rest)))
    way

-- ---- Sizes

module _ {D : Type 0} (state : D → State) where
  pub size_at : (parts : List D) (sizes : List ℕ) (p n : ℕ) (d : D) → p < length parts → sizes_of state parts ≡ sizes → get_or sizes p n ≡ n → (state (get_or parts p d)).size ≡ n
  size_at parts sizes p n d lt e is =
      sym (get_or-map (λ (q : D). (state q).size) parts p d)
      ∙ get_or_default (sizes_of state parts) p (state d).size n (omega (arith, lt, length-map parts (λ (q : D). (state q).size)))
      ∙ ap (λ (l : List ℕ). get_or l p n) e ∙ is

  pub parts_count : (s : Shape) (parts : List D) → sizes_of state parts ≡ part_sizes s → length parts ≡ 2 + s.segments
  parts_count s parts e =
      sym (length-map parts (λ (q : D). (state q).size)) ∙ ap length e
      ∙ (let r : length (replicate s.segments s.segment_blocks) ≡ s.segments = length-replicate s.segments s.segment_blocks in omega (arith, r))

pub segment_size : (s : Shape) (i : ℕ) → i < s.segments → get_or (part_sizes s) (2 + i) s.segment_blocks ≡ s.segment_blocks
segment_size s i lt =
    let e : 2 + i ≡ suc (suc i) = omega arith in
    ap (λ (k : ℕ). get_or (part_sizes s) k s.segment_blocks) e ∙ get_or-replicate s.segments i s.segment_blocks s.segment_blocks lt

each_size : (n blocks : ℕ) → map (λ (bs : List Block). length bs) (replicate n (zeros blocks)) ≡ replicate n blocks
each_size zero blocks = refl
each_size (suc n) blocks = λ i. length-replicate blocks zero_block i ∷ each_size n blocks i

pub blank_sizes : (s : Shape) → map (λ (bs : List Block). length bs) (blank_parts s) ≡ part_sizes s
blank_sizes s = λ i. 2 ∷ length-replicate s.home zero_block i ∷ each_size s.segments s.segment_blocks i

-- ---- The label

zero_first : (x : Block) (c more : List Block) → c ≡ (zero_block ∷ x ∷ []) ++ more → HasZeroLabel c
zero_first x c more e = ap (λ (l : List Block). slice_get l 0) e

-- before the label is written there is none
pub no_label : (x : Block) (c : List Block) (rest : List (List Block)) → c ≡ joined_blocks ((zero_block ∷ x ∷ []) ∷ rest) → HasZeroLabel c
no_label x c rest e = zero_first x c (joined_blocks rest) e

pub no_label_in : (x : Block) (c : List Block) → (more : List Block) × (c ≡ (zero_block ∷ x ∷ []) ++ more) → HasZeroLabel c
no_label_in x c w = zero_first x c w.0 w.1

-- while it is written there is none, or the image is whole
pub label_or_none : (id : ℕ) (s : Shape) (ids : List ℕ) (c : List Block)
    → (c ≡ joined_blocks (with_view ids (zeros 2) ∷ zeros s.home ∷ replicate s.segments (free_segment s.segment_blocks)))
    ⊎ (c ≡ joined_blocks (changed_at 0 (with_label id s) (with_view ids (zeros 2) ∷ zeros s.home ∷ replicate s.segments (free_segment s.segment_blocks))))
    → IsUnlabelledOrFormatted id s ids c
unfolding formatted
label_or_none id s ids c way =
    ⊎_elim (λ e. inl (no_label (view_block ids) c (zeros s.home ∷ replicate s.segments (free_segment s.segment_blocks)) e)) (λ e. inr e) way

pub whole_image : (id : ℕ) (s : Shape) (ids : List ℕ) (c : List Block) → c ≡ joined_blocks (formatted_parts id s ids) → c ≡ formatted id s ids
unfolding formatted
whole_image id s ids c e = e

-- what holds on success holds where there was no error
pub on_success : {T E : Type 0} {P : Type 0} (r : Result T E) (b : Bool) → b ≡ is_err r → b ≡ false → OnOk r P → P
on_success (Ok v) b value fine p = p
on_success (Err e) b value fine p = let f : true ≡ false = sym value ∙ fine in absurd cc
