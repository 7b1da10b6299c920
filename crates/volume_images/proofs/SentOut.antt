-- An image that went out cut into parts, and comes back read.
use Rattle.std.proofs.Common.{◌≡◌, ℕ, zero, suc, ◌*◌, ◌≤◌, nat_eq, Bool, true, false, cond, List, [], ◌∷◌, length, take, drop, Option, None, Some, option_map, Ok, refl, sym, ap, ◌∙◌, subst, arith}
use Rattle.std.specs.Prelude.{sum}
use Rattle.std.proofs.lemmas.List.{take-append-drop, length-drop}
use Rattle.std.proofs.lemmas.List.Sums.{sum_by-cons}
use Rattle.std.proofs.lemmas.Bool.Decides.{nat_tests}
use Rattle.std.proofs.lemmas.Option.{none-some}
use Rattle.wol_disk.specs.Disk.{Block, Values, State, IsDisk}
use Rattle.wol_bay.specs.Bay.{Image, byte_length}
use Rattle.wol_bay.specs.Parts.{AreCut, joined, blocks_of, sizes_of}
use Rattle.wol_bay.specs.Refusals.{refusal_of, IsAnswered}
use Rattle.wol_bay.specs.declared.fault.BayFault.{BayFault}
use Rattle.wol_bay.specs.declared.fault.BayFault.TheVariants.{Absent, WrongLength}

-- an image that isn't refused is there, with the bytes of its parts
pub record IsWhole (sizes : List ℕ) (o : Option Image) : Type 0 where
  pub image : Image
  pub there : o ≡ Some image
  pub bytes : byte_length image ≡ 512 * sum sizes

not_refused : (sizes : List ℕ) (o : Option Image) → refusal_of sizes o ≡ None → IsWhole sizes o
not_refused sizes None e = absurd (none-some Absent (sym e))
not_refused sizes (Some i) e = go (nat_eq (byte_length i) (512 * sum sizes)) refl e
  where
    go : (b : Bool) → nat_eq (byte_length i) (512 * sum sizes) ≡ b → cond b None (Some (WrongLength (byte_length i))) ≡ None → IsWhole sizes (Some i)
    go true t s = record { image = i; there = refl; bytes = grind (arith, nat_tests, t) }
    go false t s = absurd (none-some (WrongLength (byte_length i)) (sym s))

pub answered_ok : {T : Type 0} (sizes : List ℕ) (o : Option Image) (x : T) → IsAnswered (refusal_of sizes o) (Ok x) → IsWhole sizes o
answered_ok {T} sizes o x a = go (refusal_of sizes o) refl a
  where
    go : (r : Option BayFault) → refusal_of sizes o ≡ r → IsAnswered r (Ok x) → IsWhole sizes o
    go None e a = not_refused sizes o e
    go (Some f) e a = absurd (cc a)

module _ {D : Type 0} (state : D → State) (sound : (d : D) → IsDisk (state d)) where
  pub cut_sizes : (blocks : Option (List (Values Block))) (sizes : List ℕ) (parts : List D) → AreCut state blocks sizes parts → sizes_of state parts ≡ sizes
  cut_sizes blocks [] [] c = refl
  cut_sizes blocks [] (p ∷ ps) c = absurd c
  cut_sizes blocks (n ∷ ns) [] c = absurd c
  cut_sizes blocks (n ∷ ns) (p ∷ ps) c = λ i. c.0.sized i ∷ cut_sizes (option_map (drop n) blocks) ns ps c.1 i

  -- the parts have at least their blocks
  cut_long : (vs : List (Values Block)) (sizes : List ℕ) (parts : List D) → AreCut state (Some vs) sizes parts → sum sizes ≤ length vs
  cut_long vs [] [] c = omega arith
  cut_long vs [] (p ∷ ps) c = absurd c
  cut_long vs (n ∷ ns) [] c = absurd c
  cut_long vs (n ∷ ns) (p ∷ ps) c =
      let one : length (take n vs) ≡ n = (sound p).each_block (take n vs) c.0.content ∙ c.0.sized in
      let more = cut_long (drop n vs) ns ps c.1 in
      let front : length (take n vs) ≤ length vs = take_short n vs in
      let behind = length-drop n vs in
      let all = sum_by-cons (λ x. x) n ns in
      omega (arith, one, more, front, behind, all)
    where
      take_short : (n : ℕ) (vs : List (Values Block)) → length (take n vs) ≤ length vs
      take_short zero vs = omega arith
      take_short (suc n) [] = omega arith
      take_short (suc n) (v ∷ vs) = let more = take_short n vs in omega (arith, more)

  cut_joined : (vs : List (Values Block)) (sizes : List ℕ) (parts : List D) → AreCut state (Some vs) sizes parts → length vs ≡ sum sizes → blocks_of state parts ≡ Some vs
  cut_joined [] [] [] c e = refl
  cut_joined (v ∷ vs) [] [] c e = absurd (omega (arith, e))
  cut_joined vs [] (p ∷ ps) c e = absurd c
  cut_joined vs (n ∷ ns) [] c e = absurd c
  cut_joined vs (n ∷ ns) (p ∷ ps) c e =
      let behind = length-drop n vs in
      let all = sum_by-cons (λ x. x) n ns in
      ap (λ (o : Option (List (Values Block))). joined o (blocks_of state ps)) c.0.content
      ∙ ap (joined (Some (take n vs))) (cut_joined (drop n vs) ns ps c.1 (omega (arith, behind, all, e)))
      ∙ ap Some (take-append-drop n vs)

  -- and just these where the bytes are theirs
  pub record IsCutWhole (sizes : List ℕ) (o : Option Image) (parts : List D) : Type 0 where
    pub image : Image
    pub there : o ≡ Some image
    pub blocks : blocks_of state parts ≡ Some image.blocks
    pub count : length image.blocks ≡ sum sizes
    pub rest : image.rest ≡ []

  pub cut_whole : (sizes : List ℕ) (o : Option Image) (parts : List D) → IsWhole sizes o → AreCut state (option_map (λ i. i.blocks) o) sizes parts → IsCutWhole sizes o parts
  cut_whole sizes o parts whole c =
      let cut : AreCut state (Some whole.image.blocks) sizes parts = subst (λ (p : Option Image). AreCut state (option_map (λ i. i.blocks) p) sizes parts) whole.there c in
      let long = cut_long whole.image.blocks sizes parts cut in
      let count : length whole.image.blocks ≡ sum sizes = omega (arith, whole.bytes, long) in
      let none : length whole.image.rest ≡ 0 = omega (arith, whole.bytes, count) in
      record { image = whole.image; there = whole.there; blocks = cut_joined whole.image.blocks sizes parts cut count; count = count; rest = no_bytes whole.image.rest none }
    where
      no_bytes : (bytes : List ℕ) → length bytes ≡ 0 → bytes ≡ []
      no_bytes [] e = refl
      no_bytes (b ∷ bytes) e = absurd (omega (arith, e))
