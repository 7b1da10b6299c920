-- An image that went out of its bay blank and comes back.
use Rattle.std.proofs.Common.{◌≡◌, ℕ, zero, suc, ◌+◌, List, [], ◌∷◌, map, replicate, Option, None, Some, option_map, is_some, refl, sym, ap, ◌∙◌, subst, arith}
use Rattle.std.specs.Prelude.{IsSome, IfSome, Contains}
use Rattle.wol_disk.specs.Disk.{Block, State, Values, only, IsImageOf}
use Rattle.wol_disk.specs.Zeros.{zeros}
use Rattle.wol_model.specs.Heads.{Shape}
use Rattle.wol_bay.specs.Bay.{Name, Told, AreNamedApart, sent_out, came_back}
use Rattle.wol_bay.specs.Parts.{AreBlank, blocks_of, sizes_of, faulty_places}
use Rattle.volume_images.specs.Settled.{AreSettled, joined_blocks}
use Rattle.volume_images.specs.Formatted.{part_sizes, blank_parts, formatted_parts, formatted, place_of, IsUnlabelledOrFormatted}
use Rattle.volume_images.specs.Left.{IsTold, CameBack, HasFailed, Unfinished, LeavesFailed, settled_image}
use Rattle.volume_images.specs.declared.fault.PartName.{PartName}
use Rattle.volume_images.specs.declared.fault.PartName.TheVariants as part
use Rattle.wol_bay.proofs.NamedApart.{put_here, put_others}
use Rattle.volume_images.proofs.SettledParts.{settled_joined, settled_quiet, blank_settled, fault_found}

-- ---- Parts that go out

zeros_each : (n blocks : ℕ) → map zeros (replicate n blocks) ≡ replicate n (zeros blocks)
zeros_each zero blocks = refl
zeros_each (suc n) blocks = ap (λ l. zeros blocks ∷ l) (zeros_each n blocks)

module _ {D : Type 0} (state : D → State) where
  pub went_out : (told : Option Told) (s : Shape) (sizes : List ℕ) (parts : List D) → sizes ≡ part_sizes s → AreBlank state told sizes parts → AreSettled state (blank_parts s) parts
  went_out told s sizes parts are blank =
      subst (λ (l : List (List Block)). AreSettled state l parts) (ap (map zeros) are ∙ ap (λ l. zeros 2 ∷ zeros s.home ∷ l) (zeros_each s.segments s.segment_blocks))
      (blank_settled state told sizes parts blank)

  pub sizes_out : (told : Option Told) (sizes : List ℕ) (parts : List D) → AreBlank state told sizes parts → sizes_of state parts ≡ sizes
  sizes_out told [] [] b = refl
  sizes_out told [] (q ∷ ps) b = absurd b
  sizes_out told (n ∷ ns) [] b = absurd b
  sizes_out told (n ∷ ns) (q ∷ ps) b = λ i. b.0.sized i ∷ sizes_out told ns ps b.1 i

-- ---- An image that came back

pub came : (name : Name) (sizes places : List ℕ) (vs : List (Values Block)) (t : Told) → AreNamedApart t → CameBack name (record { blocks = vs; rest = [] }) places t (came_back name (Some vs) places (sent_out name sizes t))
came name sizes places vs t apart = record {
  here = put_here name t.images (record { blocks = vs; rest = [] }) apart;
  others = put_others name t.images (record { blocks = vs; rest = [] }) apart;
  faulty = refl;
}

-- what holds of the image that came back holds of the bay
pub brought_back : (holds : Told → Told → Type 0) (name : Name) (sizes places : List ℕ) (blocks : Option (List (Values Block))) (told mid new : Option Told) → IfSome told (λ t. AreNamedApart t)
    → ((t : Told) → told ≡ Some t → IsSome blocks) → ((t : Told) (vs : List (Values Block)) → blocks ≡ Some vs → AreNamedApart t → holds t (came_back name (Some vs) places (sent_out name sizes t)))
    → mid ≡ option_map (sent_out name sizes) told → new ≡ option_map (came_back name blocks places) mid → IsTold holds told new
brought_back holds name sizes places blocks None mid new apart tells back sent came_is = came_is ∙ ap (option_map (came_back name blocks places)) sent
brought_back holds name sizes places blocks (Some t) mid new apart tells back sent came_is =
    let P : Option Told → Type 0 = λ o. IsTold holds (Some t) o in
    subst P (sym (came_is ∙ ap (option_map (came_back name blocks places)) sent)) (go blocks refl (tells t refl))
  where
    go : (o : Option (List (Values Block))) → blocks ≡ o → IsSome o → holds t (came_back name o places (sent_out name sizes t))
    go None e told = absurd (cc told)
    go (Some vs) e told = back t vs e apart

pub nothing_told : (holds : Told → Told → Type 0) (told new : Option Told) → new ≡ told → ((t : Told) → holds t t) → IsTold holds told new
nothing_told holds None new e same = e
nothing_told holds (Some t) new e same = let P : Option Told → Type 0 = λ o. IsTold holds (Some t) o in subst P (sym e) (same t)

module _ {D : Type 0} (state : D → State) (name : Name) (id : ℕ) (s : Shape) (ids : List ℕ) (parts : List D) where
  -- whole, with no part at fault
  pub whole_back : AreSettled state (formatted_parts id s ids) parts → (sizes : List ℕ) (t : Told) (vs : List (Values Block)) → blocks_of state parts ≡ Some vs → AreNamedApart t
      → CameBack name (settled_image (formatted id s ids)) [] t (came_back name (Some vs) (faulty_places state parts) (sent_out name sizes t))
  unfolding formatted
  whole_back settled sizes t vs e apart =
      let quiet : faulty_places state parts ≡ [] = settled_quiet state 0 (formatted_parts id s ids) parts settled in
      let told : IsSome (blocks_of state parts) = ap is_some e in
      let is : vs ≡ only (joined_blocks (formatted_parts id s ids)) = let both : Some vs ≡ Some (only (joined_blocks (formatted_parts id s ids))) = sym e ∙ settled_joined state (formatted_parts id s ids) parts settled told in cc in
      subst (λ (l : List ℕ). CameBack name (settled_image (formatted id s ids)) [] t (came_back name (Some vs) l (sent_out name sizes t))) (sym quiet)
      (subst (λ (l : List (Values Block)). CameBack name (record { blocks = l; rest = [] }) [] t (came_back name (Some vs) [] (sent_out name sizes t))) is (came name sizes [] vs t apart))

  unfinished_back : (failed : PartName) → ((c : List Block) → IsImageOf (blocks_of state parts) c → IsUnlabelledOrFormatted id s ids c) → HasFailed state parts failed
      → (sizes : List ℕ) (t : Told) (vs : List (Values Block)) → blocks_of state parts ≡ Some vs → AreNamedApart t
      → Unfinished name id s ids failed t (came_back name (Some vs) (faulty_places state parts) (sent_out name sizes t))
  unfinished_back failed images fails sizes t vs e apart = record {
    image = record { blocks = vs; rest = [] };
    places = faulty_places state parts;
    back = came name sizes (faulty_places state parts) vs t apart;
    unfinished = record { whole_blocks = refl; each = λ c i. images c (let P : Option (List (Values Block)) → Type 0 = λ o. IsImageOf o c in subst P (sym e) i) };
    fault = let n : 0 + place_of failed ≡ place_of failed = omega arith in subst (λ (x : ℕ). Contains (faulty_places state parts) x) n (fault_found state 0 parts (place_of failed) fails.within fails.fault);
  }

  -- unfinished, with the named part at fault
  pub failed_back : (failed : PartName) → ((c : List Block) → IsImageOf (blocks_of state parts) c → IsUnlabelledOrFormatted id s ids c) → HasFailed state parts failed
      → (sizes : List ℕ) (t : Told) (vs : List (Values Block)) → blocks_of state parts ≡ Some vs → AreNamedApart t
      → LeavesFailed failed name id s ids t (came_back name (Some vs) (faulty_places state parts) (sent_out name sizes t))
  failed_back part.Bay images fails sizes t vs e apart = absurd (fails.known refl)
  failed_back part.Label images fails sizes t vs e apart = unfinished_back part.Label images fails sizes t vs e apart
  failed_back part.Home images fails sizes t vs e apart = unfinished_back part.Home images fails sizes t vs e apart
  failed_back (part.Segment index) images fails sizes t vs e apart = unfinished_back (part.Segment index) images fails sizes t vs e apart
