-- What a disk holds after one of its blocks was written and it was synced.
use Rattle.std.proofs.Common.{◌≡◌, ℕ, ◌≤◌, ◌<◌, ◌^◌, List, [], ◌∷◌, length, Option, Some, option_map, refl, sym, ◌∙◌, ap, subst, arith}
use Rattle.std.specs.Prelude.{slice_get}
use Rattle.std.proofs.lemmas.List.{length-map}
use Rattle.wol_disk.specs.Disk.{Block, Values, State, IsDisk, put, only, reads, IsImageOf}
use Rattle.wol_disk.proofs.Calls.{settled_from}
use Rattle.wol_model.specs.Heads.{Shape, IsShape, label_block, IsViewList, view_block, free_block}
use Rattle.wol_model.specs.Log.{IsIdle}
use Rattle.logger_view.specs.Stored.{HasLabel, HasView}

first_put : (x : Block) (bs : List Block) → 1 ≤ length bs → slice_get (put 0 (x ∷ []) bs) 0 ≡ Some x
first_put x [] le = absurd (omega arith)
first_put x (b ∷ bs) le = refl

second_put : (x : Block) (bs : List Block) → 2 ≤ length bs → slice_get (put 1 (x ∷ []) bs) 1 ≡ Some x
second_put x [] le = absurd (omega arith)
second_put x (a ∷ []) le = absurd (omega arith)
second_put x (a ∷ b ∷ bs) le = refl

-- an image of the disk is what it read as, with the block that was written
record IsPut (at size : ℕ) (x : Block) (c : List Block) : Type 0 where
  pub bs : List Block
  pub long : length bs ≡ size
  pub is : c ≡ put at (x ∷ []) bs

settled_put : (at : ℕ) (x : Block) (c : List Block) {old : State} (new : Option (List (Values Block))) → IsDisk old → new ≡ option_map (λ vs. only (put at (x ∷ []) (reads vs))) old.values → IsImageOf new c → IsPut at old.size x c
settled_put at x c {old} new sound m i =
    let P : Option (List (Values Block)) → Type 0 = λ o. IsImageOf o c in
    let from = settled_from (put at (x ∷ [])) old.values c (subst P m i) in
    record { bs = reads from.0; long = length-map from.0 (λ (v : Values Block). v.now) ∙ sound.each_block from.0 from.1; is = from.2 }

-- every image has the label that was written
pub label_stored : (id : ℕ) (shape : Shape) (x : Block) (c : List Block) {old : State} (new : Option (List (Values Block))) → IsDisk old → 1 ≤ old.size → id < 2 ^ 32 → IsShape shape → x ≡ label_block id shape
    → new ≡ option_map (λ vs. only (put 0 (x ∷ []) (reads vs))) old.values → IsImageOf new c → HasLabel c id shape
label_stored id shape x c {old} new sound size known range is m i =
    let p = settled_put 0 x c new sound m i in
    record { block = x; first = ap (λ (l : List Block). slice_get l 0) p.is ∙ first_put x p.bs (omega (arith, p.long)); spelled = record { id_in_range = known; in_range = range; bytes = is } }

-- every image has the view that was written
pub view_stored : (ids : List ℕ) (x : Block) (c : List Block) {old : State} (new : Option (List (Values Block))) → IsDisk old → 2 ≤ old.size → IsViewList ids → x ≡ view_block ids
    → new ≡ option_map (λ vs. only (put 1 (x ∷ []) (reads vs))) old.values → IsImageOf new c → HasView c ids
view_stored ids x c {old} new sound size range is m i =
    let p = settled_put 1 x c new sound m i in
    record { block = x; second = ap (λ (l : List Block). slice_get l 1) p.is ∙ second_put x p.bs (omega (arith, p.long)); spelled = record { in_range = range; bytes = is } }

idle_put : (x : Block) (bs : List Block) → 1 ≤ length bs → x ≡ free_block → IsIdle (put 0 (x ∷ []) bs)
idle_put x [] le is = absurd (omega arith)
idle_put x (b ∷ bs) le is = is

-- every image says that the segment is free
pub free_stored : (x : Block) (c : List Block) {old : State} (new : Option (List (Values Block))) → IsDisk old → 1 ≤ old.size → x ≡ free_block
    → new ≡ option_map (λ vs. only (put 0 (x ∷ []) (reads vs))) old.values → IsImageOf new c → IsIdle c
free_stored x c {old} new sound size is m i =
    let p = settled_put 0 x c new sound m i in
    subst IsIdle (sym p.is) (idle_put x p.bs (omega (arith, p.long)) is)
