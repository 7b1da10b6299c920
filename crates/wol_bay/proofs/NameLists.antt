-- Walks over lists whose entries have names.
use Rattle.std.proofs.Common.{◌≡◌, ℕ, ◌+◌, ◌<◌, suc, Bool, true, false, cond, List, [], ◌∷◌, ◌++◌, length, take, drop, get_or, map, None, Some, is_some, refl, sym, ap, ◌∙◌, add-one, append_assoc}
use Rattle.std.specs.List.{remove}
use Rattle.std.proofs.lemmas.Slice.Eq.{bytes_eq-Decides}
use Rattle.std.proofs.lemmas.List.{get_or_default, length-map, map-append, drop-map, take-map}
use Rattle.std.proofs.Math.ListN.{get_or-map}
use Rattle.std.proofs.Math.Seq.{drop-cons, take-suc}
use Rattle.std.specs.Str.{bytes_eq}
use Rattle.wol_bay.specs.Bay.{Name, at_name, without}

pub is_same : (name : Name) → bytes_eq name name ≡ true
is_same name = (bytes_eq-Decides name name).1 refl

-- where no entry has the name, nothing is taken out
pub without_none : {A : Type 0} (name : Name) (es : List (Name × A)) → at_name name es ≡ None → without name es ≡ es
without_none name [] e = refl
without_none name (x ∷ es) e = go (bytes_eq x.0 name) e (without_none name es)
  where
    go : (b : Bool) → cond b (Some x.1) (at_name name es) ≡ None → (at_name name es ≡ None → without name es ≡ es) → cond b es (x ∷ without name es) ≡ x ∷ es
    go true e rest = let f : true ≡ false = ap is_some e in cc
    go false e rest = ap (λ l. x ∷ l) (rest e)

-- a name that was not there is, once an entry of it is at the end
pub is_out : {A : Type 0} (name : Name) (es : List (Name × A)) (a : A) → at_name name es ≡ None → at_name name (es ++ (name, a) ∷ []) ≡ Some a
is_out name [] a e = rw (is_same name)
is_out name (x ∷ es) a e = go (bytes_eq x.0 name) e (is_out name es a)
  where
    go : (b : Bool) → cond b (Some x.1) (at_name name es) ≡ None → (at_name name es ≡ None → at_name name (es ++ (name, a) ∷ []) ≡ Some a) → cond b (Some x.1) (at_name name (es ++ (name, a) ∷ [])) ≡ Some a
    go true e rest = let f : true ≡ false = ap is_some e in cc
    go false e rest = rest e

-- and taken out again the others are left
pub out_again : {A : Type 0} (name : Name) (es : List (Name × A)) (a : A) → at_name name es ≡ None → without name (es ++ (name, a) ∷ []) ≡ es
out_again name [] a e = rw (is_same name)
out_again name (x ∷ es) a e = go (bytes_eq x.0 name) e (out_again name es a)
  where
    go : (b : Bool) → cond b (Some x.1) (at_name name es) ≡ None → (at_name name es ≡ None → without name (es ++ (name, a) ∷ []) ≡ es) → cond b (es ++ (name, a) ∷ []) (x ∷ without name (es ++ (name, a) ∷ [])) ≡ x ∷ es
    go true e rest = let f : true ≡ false = ap is_some e in cc
    go false e rest = ap (λ l. x ∷ l) (rest e)

-- the element at a place is one
pub same_element : {X : Type 0} (xs : List X) (i : ℕ) (x y : X) → i < length xs → x ≡ get_or xs i x → y ≡ get_or xs i y → x ≡ y
same_element xs i x y lt is also = is ∙ get_or_default xs i x y lt ∙ sym also

module _ {X : Type 0} (name_of : X → Name) (name : Name) (xs : List X) (i : ℕ) (x : X) (h : i < length xs) (is : x ≡ get_or xs i x) where
  abbrev pub f : X → Name × X
  f e = (name_of e, e)

  -- the rest begins with the entry at hand
  here : drop i (map f xs) ≡ f x ∷ drop (suc i) (map f xs)
  here =
      let h' : i < length (map f xs) = rw length-map h in
      drop-cons (map f xs) i (f x) h' ∙ ap (λ (y : Name × X). y ∷ drop (suc i) (map f xs)) (get_or-map f xs i x ∙ ap f (sym is))

  pub value_step : bytes_eq (f x).0 name ≡ false → at_name name (drop i (map f xs)) ≡ at_name name (drop (i + 1) (map f xs))
  value_step e = rw (add-one, here, e)

  pub value_here : bytes_eq (f x).0 name ≡ true → at_name name (drop i (map f xs)) ≡ Some (f x).1
  value_here e = rw (here, e)

  pub without_step : bytes_eq (f x).0 name ≡ false → take i (map f xs) ++ without name (drop i (map f xs)) ≡ take (i + 1) (map f xs) ++ without name (drop (i + 1) (map f xs))
  without_step e =
      let h' : i < length (map f xs) = rw length-map h in
      rw (add-one, here, e, take-suc (map f xs) i (f x) h', get_or-map f xs i x, ← is, append_assoc)

  pub without_here : bytes_eq (f x).0 name ≡ true → take i (map f xs) ++ without name (drop i (map f xs)) ≡ map f (remove xs i)
  without_here e = rw (here, e, map-append f (take i xs) (drop (suc i) xs), take-map f i xs, drop-map f (suc i) xs)
