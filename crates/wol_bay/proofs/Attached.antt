-- What a bay in memory knows of an image that is asked for.
use Rattle.std.proofs.Common.{◌≡◌, ℕ, ◌+◌, ◌*◌, ◌<◌, Bool, true, false, cond, List, [], ◌∷◌, length, map, Option, None, Some, IfSome, option_map, is_some, get_or, refl, sym, ap, subst, ◌∙◌, arith, length-append, nat_eq}
use Rattle.std.proofs.lemmas.Bool.Decides.{nat_tests}
use Rattle.std.proofs.lemmas.List.{length-map}
use Rattle.std.proofs.lemmas.List.Sums.{sum_by-cons}
use Rattle.std.specs.Prelude.{string_bytes, sum}
use Rattle.std.specs.Str.{bytes_eq}
use Rattle.wol_disk.specs.Memory.{mem_state, mem_values, mem_sound}
use Rattle.wol_disk.specs.Stop.{stop_state, inner_of}
use Rattle.wol_disk.specs.BlockValues.{values_of, all_values}
use Rattle.wol_disk.specs.declared.values.BlockValues.{BlockValues}
use Rattle.wol_disk.specs.declared.stop.StopDisk.{StopDisk}
use Rattle.wol_disk.specs.declared.memory.MemDisk.{MemDisk}
use Rattle.wol_bay.specs.Bay.{Name, Image, at_name, byte_length}
use Rattle.wol_bay.specs.Parts.{sizes_of}
use Rattle.wol_bay.specs.Names.{by_name}
use Rattle.wol_bay.specs.Stored.{stored_blocks}
use Rattle.wol_bay.specs.Refusals.{refusal_of}
use Rattle.wol_bay.specs.MemBay.{named_image}
use Rattle.wol_bay.specs.declared.fault.BayFault.TheVariants.{WrongLength}
use Rattle.wol_bay.specs.declared.held.Image as held
use Rattle.wol_bay.proofs.BayMoves.{at_named}

-- what is told of an image that is there, and of one that isn't
pub told_image : (name : Name) (images : List held.Image) (image : held.Image) → at_name name (by_name (λ i. string_bytes i.name) images) ≡ Some image → at_name name (map named_image images) ≡ Some (named_image image).1
told_image name images image e = at_named (λ i. string_bytes i.name) (λ i. (named_image i).1) name images ∙ ap (option_map (λ i. (named_image i).1)) e

pub told_absent : (name : Name) (images : List held.Image) → at_name name (by_name (λ i. string_bytes i.name) images) ≡ None → at_name name (map named_image images) ≡ None
told_absent name images e = at_named (λ i. string_bytes i.name) (λ i. (named_image i).1) name images ∙ ap (option_map (λ i. (named_image i).1)) e

-- an image that is at its place is refused where its length isn't that of the sizes
pub told_length : (name : Name) (list images : List held.Image) (at : ℕ) (image : held.Image) (sizes : List ℕ) (fits : Bool) → list ≡ images
    → ((i : held.Image) → i ≡ get_or list at i → at_name name (by_name (λ i. string_bytes i.name) list) ≡ Some i)
    → image ≡ get_or images at image → nat_eq image.bytes (512 * sum sizes) ≡ fits
    → cond fits None (Some (WrongLength image.bytes)) ≡ refusal_of sizes (at_name name (map named_image images))
told_length name list images at image sizes fits same found here test =
    let there = subst (λ (l : List held.Image). at_name name (by_name (λ i. string_bytes i.name) l) ≡ Some image) same (found image (here ∙ ap (λ (l : List held.Image). get_or l at image) (sym same))) in
    sym (
    ap (refusal_of sizes) (told_image name images image there) ∙ ap (λ (n : ℕ). cond (nat_eq n (512 * sum sizes)) None (Some (WrongLength n))) (sym image.in_all)
    ∙ ap (λ (t : Bool). cond t None (Some (WrongLength image.bytes))) test
    )

-- parts have as many blocks as their sizes together
pub stored_size : (parts : List (StopDisk MemDisk)) → length (stored_blocks parts) ≡ sum (sizes_of (λ part. stop_state mem_state part) parts)
stored_size [] = refl
stored_size (part ∷ parts) =
    let disk = inner_of part in
    let one : length (mem_values disk) ≡ (mem_state disk).size = (mem_sound disk).each_block (mem_values disk) refl in
    let more : sum (sizes_of (λ part. stop_state mem_state part) (part ∷ parts)) ≡ (mem_state disk).size + sum (sizes_of (λ part. stop_state mem_state part) parts) = sum_by-cons (λ x. x) (mem_state disk).size (sizes_of (λ part. stop_state mem_state part) parts) in
    length-append (mem_values disk) (stored_blocks parts) ∙ ap (λ (n : ℕ). n + length (stored_blocks parts)) one ∙ ap (λ (n : ℕ). (mem_state disk).size + n) (stored_size parts) ∙ sym more

-- fewer bytes than a block stand behind the last block
pub short_rest : (name : Name) (images : List held.Image) (i : Image) → at_name name (map named_image images) ≡ Some i → length i.rest < 512
short_rest name [] i e = let f : false ≡ true = ap is_some e in absurd cc
short_rest name (x ∷ images) i e = go (bytes_eq (string_bytes x.name) name) e (short_rest name images i)
  where
    go : (b : Bool) → cond b (Some (named_image x).1) (at_name name (map named_image images)) ≡ Some i → (at_name name (map named_image images) ≡ Some i → length i.rest < 512) → length i.rest < 512
    go true s rest = let same : (named_image x).1 ≡ i = cc in subst (λ (j : Image). length j.rest < 512) same x.short
    go false s rest = rest s

-- an image that isn't refused has just the blocks of its parts
pub whole : (sizes : List ℕ) (o : Option Image) (list : List BlockValues) → None ≡ refusal_of sizes o → ((i : Image) → o ≡ Some i → length i.rest < 512) → IfSome (option_map (λ i. i.blocks) o) (λ vs. all_values list ≡ vs) → sum sizes ≡ length list
whole sizes None list e short told = let f : false ≡ true = ap is_some e in absurd cc
whole sizes (Some i) list e short told = go (nat_eq (byte_length i) (512 * sum sizes)) refl e
  where
    go : (b : Bool) → nat_eq (byte_length i) (512 * sum sizes) ≡ b → None ≡ cond b None (Some (WrongLength (byte_length i))) → sum sizes ≡ length list
    go false t s = let f : false ≡ true = ap is_some s in absurd cc
    go true t s =
        let few : length i.rest < 512 = short i refl in
        let all : 512 * length i.blocks + length i.rest ≡ 512 * sum sizes = grind (arith, nat_tests) in
        let listed : length list ≡ length i.blocks = sym (length-map list values_of) ∙ ap length told in
        omega (arith, few, all, listed)
