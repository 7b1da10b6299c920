-- What a caller knows that takes one image out and puts it back.
use Rattle.std.proofs.Common.{◌≡◌, ℕ, Bool, true, false, cond, List, [], ◌∷◌, ◌++◌, take, Option, None, Some, option_map, IfSome, IsSome, refl, sym, ap, ◌∙◌, subst}
use Rattle.std.specs.Str.{bytes_eq}
use Rattle.wol_disk.specs.Disk.{State, Values, Block, TellsContent}
use Rattle.wol_bay.specs.Bay.{Name, BayState, Told, at_name, without, outs, IsHome, IsOut, Holds, sent_out, came_back}
use Rattle.wol_bay.specs.Parts.{IsFresh, IsBlank, AreBlank, AreCut, joined, blocks_of, sizes_of}
use Rattle.wol_bay.proofs.NameLists.{is_same, is_out, out_again}

-- after it went out the name is out
pub goes_out : (name : Name) (sizes : List ℕ) (b b' : BayState) → IsHome name b → b'.told ≡ option_map (sent_out name sizes) b.told → IsOut name sizes b'
goes_out name sizes b b' home sent = go b.told home b'.told sent
  where
    go : (t : Option Told) → IfSome t (λ t. at_name name t.out ≡ None) → (t' : Option Told) → t' ≡ option_map (sent_out name sizes) t → IfSome t' (λ t. at_name name t.out ≡ Some sizes)
    go None home t' e = let P : Option Told → Type 0 = λ o. IfSome o (λ t. at_name name t.out ≡ Some sizes) in subst P (sym e) tt
    go (Some t) home t' e = let P : Option Told → Type 0 = λ o. IfSome o (λ t. at_name name t.out ≡ Some sizes) in subst P (sym e) (is_out name t.out sizes home)

-- after it came back the names that are out are those that were
pub comes_home : (name : Name) (sizes : List ℕ) (blocks : Option (List (Values Block))) (places : List ℕ) (b b' b'' : BayState) → IsHome name b → b'.told ≡ option_map (sent_out name sizes) b.told
    → b''.told ≡ option_map (came_back name blocks places) b'.told → outs b'' ≡ outs b
comes_home name sizes blocks places b b' b'' home sent back = ap (option_map (λ t. t.out)) (back ∙ ap (option_map (came_back name blocks places)) sent) ∙ go b.told home
  where
    go : (t : Option Told) → IfSome t (λ t. at_name name t.out ≡ None) → option_map (λ t. t.out) (option_map (came_back name blocks places) (option_map (sent_out name sizes) t)) ≡ option_map (λ t. t.out) t
    go None home = refl
    go (Some t) home = ap Some (out_again name t.out sizes home)

-- of one size there is one part
pub one_part : {D : Type 0} (state : D → State) (told : Option Told) (n : ℕ) (front : List D) (part : D) → AreBlank state told (n ∷ []) (front ++ part ∷ []) → (front ≡ []) × IsBlank n told (state part)
one_part state told n [] part blank = (refl, blank.0)
one_part state told n (p ∷ []) part blank = absurd blank.1
one_part state told n (p ∷ q ∷ front) part blank = absurd blank.1

-- and its size is what it was when it comes back
pub one_size : {D : Type 0} (state : D → State) (n : ℕ) (parts front : List D) (old new : D) → parts ≡ front ++ new ∷ [] → front ≡ [] → (state new).size ≡ (state old).size → (state old).size ≡ n → sizes_of state parts ≡ n ∷ []
one_size {D} state n parts front old new e none same sized = ap (sizes_of state) (e ∙ ap (λ (l : List D). l ++ new ∷ []) none) ∙ ap (λ (m : ℕ). m ∷ []) (same ∙ sized)

pub one_cut : {D : Type 0} (state : D → State) (blocks : Option (List (Values Block))) (n : ℕ) (front : List D) (part : D) → AreCut state blocks (n ∷ []) (front ++ part ∷ []) → (front ≡ []) × IsFresh n (option_map (take n) blocks) (state part)
one_cut state blocks n [] part cut = (refl, cut.0)
one_cut state blocks n (p ∷ []) part cut = absurd cut.1
one_cut state blocks n (p ∷ q ∷ front) part cut = absurd cut.1

-- what is put behind the others is found, unless one of them has its name and is found
pub is_behind : {A : Type 0} (name : Name) (es : List (Name × A)) (a : A) → IsSome (at_name name (es ++ (name, a) ∷ []))
is_behind name [] a = rw (is_same name) refl
is_behind name (x ∷ es) a = go (bytes_eq x.0 name) (is_behind name es a)
  where
    go : (b : Bool) → IsSome (at_name name (es ++ (name, a) ∷ [])) → IsSome (cond b (Some x.1) (at_name name (es ++ (name, a) ∷ [])))
    go true rest = refl
    go false rest = rest

-- parts that tell their blocks tell those of all together
pub all_told : {D : Type 0} (state : D → State) → ((d : D) → TellsContent (state d)) → (parts : List D) → (vs : List (Values Block)) × (blocks_of state parts ≡ Some vs)
all_told state told [] = ([], refl)
all_told {D} state told (part ∷ parts) =
    let one = told part in
    let more = all_told state told parts in
    (one.0 ++ more.0, ap (λ o. joined o (blocks_of state parts)) one.1 ∙ ap (joined (Some one.0)) more.1)

-- and an image of theirs that came back is there
pub is_back : {D : Type 0} (state : D → State) → ((d : D) → TellsContent (state d)) → (parts : List D) (name : Name) (places : List ℕ) (b b' : BayState) → b'.told ≡ option_map (came_back name (blocks_of state parts) places) b.told → Holds name b'
is_back {D} state told parts name places b b' back =
    let all = all_told state told parts in
    go all.0 b.told b'.told (back ∙ ap (λ (o : Option (List (Values Block))). option_map (came_back name o places) b.told) all.1)
  where
    go : (vs : List (Values Block)) (t t' : Option Told) → t' ≡ option_map (came_back name (Some vs) places) t → IfSome t' (λ t. IsSome (at_name name t.images))
    go vs None t' e = let P : Option Told → Type 0 = λ o. IfSome o (λ t. IsSome (at_name name t.images)) in subst P (sym e) tt
    go vs (Some t) t' e = let P : Option Told → Type 0 = λ o. IfSome o (λ t. IsSome (at_name name t.images)) in subst P (sym e) (is_behind name (without name t.images) (record { blocks = vs; rest = [] }))
