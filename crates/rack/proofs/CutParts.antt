-- Parts that were cut from an image and read.
use Rattle.rack.proofs.ClosingBasics.{◌≡◌, ⊎_elim, ℕ, zero, suc, ◌+◌, ◌-◌, ◌*◌, ◌<◌, List, [], ◌∷◌, map, take, drop, replicate, get_or, Option, Some, option_map, refl, sym, ap, ◌∙◌, subst, arith}
use Rattle.rack.proofs.ClosingBasics.{slice_range, unwrap_or, take-map, drop-map, drop-drop}
use Rattle.rack.proofs.ClosingTerms.{Block, Values, State, IsImageOf, only, reads, settled, Shape, AreCut, state_of, disk_of, Spun, head_place, part_sizes}
use Rattle.std.proofs.Math.Nat.{suc-mul, add-mul}
use Rattle.wol_disk.proofs.Images.{settled_image, only_image}
use Rattle.manager_recovery.specs.Owned.{read_of}
use Rattle.volume_images.specs.Disks.{disks_of}
use Rattle.volume_images.specs.Reads.{IsOnlyRead}
use Rattle.volume_images.specs.declared.parts.ImageParts.{ImageParts}

pub reads_range : (vs : List (Values Block)) (a b : ℕ) → reads (slice_range vs a b) ≡ slice_range (reads vs) a b
reads_range vs a b = sym (take-map (λ (v : Values Block). v.now) (b - a) (drop a vs)) ∙ ap (take (b - a)) (sym (drop-map (λ (v : Values Block). v.now) a vs))

reads_settled : (vs : List (Values Block)) → reads (settled vs) ≡ reads vs
reads_settled [] = refl
reads_settled (v ∷ vs) = ap (λ (l : List Block). v.now ∷ l) (reads_settled vs)

-- a part that was read reads as it did, and has no image more
module _ (old new : State) (vs : List (Values Block)) (a b : ℕ) (read : IsOnlyRead old new) (told : old.values ≡ Some (slice_range vs a b)) where
  pub cut_reads : read_of new ≡ slice_range (reads vs) a b
  cut_reads =
      let F : Option (List (Values Block)) → List Block = λ o. unwrap_or (option_map reads o) [] in
      ⊎_elim
      (λ (e : new.values ≡ old.values). ap F (e ∙ told) ∙ reads_range vs a b)
      (λ (e : new.values ≡ option_map settled old.values). ap F (e ∙ ap (option_map settled) told) ∙ reads_settled (slice_range vs a b) ∙ reads_range vs a b)
      read.values

  pub cut_had : (c : List Block) → IsImageOf new.values c → IsImageOf (Some (slice_range vs a b)) c
  cut_had c i =
      let P : Option (List (Values Block)) → Type 0 = λ o. IsImageOf o c in
      ⊎_elim
      (λ (e : new.values ≡ old.values). subst P (e ∙ told) i)
      (λ (e : new.values ≡ option_map settled old.values). settled_image (slice_range vs a b) c (subst P (e ∙ ap (option_map settled) told) i))
      read.values

-- one that was synced has no image but what it reads
pub cut_synced : (old new : State) (vs : List (Values Block)) (a b : ℕ) → new.values ≡ option_map settled old.values → old.values ≡ Some (slice_range vs a b) → (c : List Block) → IsImageOf new.values c → c ≡ slice_range (reads vs) a b
cut_synced old new vs a b synced told c is =
    let one : IsImageOf (Some (only (reads (slice_range vs a b)))) c = subst (λ (o : Option (List (Values Block))). IsImageOf o c) (synced ∙ ap (option_map settled) told) is in
    only_image (reads (slice_range vs a b)) c one ∙ reads_range vs a b

module _ {D : Type 0} (state : D → State) where
  cut_row : (vs : List (Values Block)) (n size : ℕ) (qs : List (Spun D)) (j : ℕ) (d : Spun D) → AreCut state (Some vs) (replicate n size) (map (λ (q : Spun D). disk_of q) qs) → j < n
      → (state_of state (get_or qs j d)).values ≡ Some (take size (drop (j * size) vs))
  cut_row vs zero size qs j d cut lt = absurd (omega (arith, lt))
  cut_row vs (suc n) size [] j d cut lt = absurd cut
  cut_row vs (suc n) size (q ∷ qs) zero d cut lt = let none : 0 * size ≡ 0 = omega arith in cut.0.content ∙ ap (λ (m : ℕ). Some (take size (drop m vs))) (sym none)
  cut_row vs (suc n) size (q ∷ qs) (suc j) d cut lt =
      let more = suc-mul j size in
      let at : size + j * size ≡ suc j * size = omega (arith, more) in
      cut_row (drop size vs) n size qs j d cut.1 (omega (arith, lt))
      ∙ ap (λ (l : List (Values Block)). Some (take size l)) (drop-drop (j * size) size vs ∙ ap (λ (m : ℕ). drop m vs) at)

  -- the blocks of each part
  pub record AreCutAt (vs : List (Values Block)) (s : Shape) (p : ImageParts D) : Type 0 where
    pub label : (state_of state p.label).values ≡ Some (slice_range vs 0 2)
    pub home : (state_of state p.home).values ≡ Some (slice_range vs 2 (2 + s.home))
    pub segments : (j : ℕ) (d : Spun D) → j < s.segments → (state_of state (get_or p.segments.items j d)).values ≡ Some (slice_range vs (head_place s j) (head_place s (j + 1)))

  pub cut_at : (vs : List (Values Block)) (s : Shape) (p : ImageParts D) → AreCut state (Some vs) (part_sizes s) (disks_of p) → AreCutAt vs s p
  cut_at vs s p cut =
      let home_size : 2 + s.home - 2 ≡ s.home = omega arith in
      record {
        label = cut.0.content;
        home = cut.1.0.content ∙ ap (λ (n : ℕ). Some (take n (drop 2 vs))) (sym home_size);
        segments = λ j d lt.
            let more = add-mul j 1 s.segment_blocks in
            let one : 1 * s.segment_blocks ≡ s.segment_blocks = omega arith in
            let size : head_place s (j + 1) - head_place s j ≡ s.segment_blocks = omega (arith, more, one) in
            let at : 2 + (s.home + j * s.segment_blocks) ≡ head_place s j = omega arith in
            cut_row (drop s.home (drop 2 vs)) s.segments s.segment_blocks p.segments.items j d cut.1.1 lt
            ∙ ap (λ (l : List (Values Block)). Some (take s.segment_blocks l)) (drop-drop (j * s.segment_blocks) s.home (drop 2 vs) ∙ drop-drop (s.home + j * s.segment_blocks) 2 vs ∙ ap (λ (m : ℕ). drop m vs) at)
            ∙ ap (λ (n : ℕ). Some (take n (drop (head_place s j) vs))) (sym size);
      }
