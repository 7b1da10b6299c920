-- Images by name, of which no two have one name.
use Rattle.std.proofs.Common.{◌≡◌, ◌≢◌, Bool, true, false, cond, List, [], ◌∷◌, ◌++◌, None, Some, refl, sym, ap, ◌∙◌, subst}
use Rattle.std.specs.Str.{bytes_eq}
use Rattle.std.proofs.lemmas.Slice.Eq.{bytes_eq-Decides}
use Rattle.wol_bay.specs.Bay.{Name, AreApart, at_name, without}
use Rattle.wol_bay.proofs.NameLists.{without_none, is_out, out_again}

not_same : (x name : Name) → x ≢ name → bytes_eq x name ≡ false
not_same x name other = go (bytes_eq x name) refl
  where
    go : (b : Bool) → bytes_eq x name ≡ b → b ≡ false
    go true e = absurd (other ((bytes_eq-Decides x name).0 e))
    go false e = refl

module _ {A : Type 0} (name other : Name) (apart : other ≢ name) where
  -- an entry of another name more, or less, is no matter
  pub other_put : (es : List (Name × A)) (a : A) → at_name other (es ++ (name, a) ∷ []) ≡ at_name other es
  other_put [] a = ap (λ (b : Bool). cond b (Some a) None) (not_same name other (λ e. apart (sym e)))
  other_put (x ∷ es) a = ap (λ o. cond (bytes_eq x.0 other) (Some x.1) o) (other_put es a)

  pub other_gone : (es : List (Name × A)) → at_name other (without name es) ≡ at_name other es
  other_gone [] = refl
  other_gone (x ∷ es) = go (bytes_eq x.0 name) refl (other_gone es)
    where
      go : (b : Bool) → bytes_eq x.0 name ≡ b → at_name other (without name es) ≡ at_name other es
          → at_name other (cond b es (x ∷ without name es)) ≡ cond (bytes_eq x.0 other) (Some x.1) (at_name other es)
      go true e more =
          let is : x.0 ≡ name = (bytes_eq-Decides x.0 name).0 e in
          sym (ap (λ (b : Bool). cond b (Some x.1) (at_name other es)) (not_same x.0 other (λ s. apart (sym s ∙ is))))
      go false e more = ap (λ o. cond (bytes_eq x.0 other) (Some x.1) o) more

  -- so it is for what stands behind the first entry of this name
  pub second_put : (es : List (Name × A)) (a : A) → at_name other (without other (es ++ (name, a) ∷ [])) ≡ at_name other (without other es)
  second_put [] a = go (bytes_eq name other) (not_same name other (λ e. apart (sym e)))
    where
      go : (b : Bool) → b ≡ false → at_name other (cond b [] ((name, a) ∷ [])) ≡ None
      go true e = absurd (cc e)
      go false e = other_put [] a
  second_put (x ∷ es) a = go (bytes_eq x.0 other) refl (second_put es a)
    where
      go : (b : Bool) → bytes_eq x.0 other ≡ b → at_name other (without other (es ++ (name, a) ∷ [])) ≡ at_name other (without other es)
          → at_name other (cond b (es ++ (name, a) ∷ []) (x ∷ without other (es ++ (name, a) ∷ []))) ≡ at_name other (cond b es (x ∷ without other es))
      go true e more = other_put es a
      go false e more = ap (λ o. cond (bytes_eq x.0 other) (Some x.1) o) more

  pub second_gone : (es : List (Name × A)) → at_name other (without other (without name es)) ≡ at_name other (without other es)
  second_gone [] = refl
  second_gone (x ∷ es) = go (bytes_eq x.0 name) refl (bytes_eq x.0 other) refl (second_gone es)
    where
      go : (b : Bool) → bytes_eq x.0 name ≡ b → (o : Bool) → bytes_eq x.0 other ≡ o → at_name other (without other (without name es)) ≡ at_name other (without other es)
          → at_name other (without other (cond b es (x ∷ without name es))) ≡ at_name other (cond o es (x ∷ without other es))
      go true e true f more = absurd (apart (sym ((bytes_eq-Decides x.0 other).0 f) ∙ (bytes_eq-Decides x.0 name).0 e))
      go true e false f more = sym (ap (λ (b : Bool). cond b (Some x.1) (at_name other (without other es))) f)
      go false e true f more = ap (λ (b : Bool). at_name other (cond b (without name es) (x ∷ without other (without name es)))) f ∙ other_gone es
      go false e false f more =
          ap (λ (b : Bool). at_name other (cond b (without name es) (x ∷ without other (without name es)))) f ∙ ap (λ o. cond (bytes_eq x.0 other) (Some x.1) o) more

-- names are the same, or they aren't
by_cases : (P : Name → Type 0) (name : Name) → P name → ((n : Name) → n ≢ name → P n) → (n : Name) → P n
by_cases P name same other n = go (bytes_eq n name) refl
  where
    go : (b : Bool) → bytes_eq n name ≡ b → P n
    go true e = subst P (sym ((bytes_eq-Decides n name).0 e)) same
    go false e = other n (λ is. let f : true ≡ false = sym ((bytes_eq-Decides n name).1 is) ∙ e in cc)

module _ {A : Type 0} (name : Name) (es : List (Name × A)) (apart : AreApart es) where
  once : without name (without name es) ≡ without name es
  once = without_none name (without name es) (apart name)

  pub gone_apart : AreApart (without name es)
  gone_apart = by_cases (λ n. at_name n (without n (without name es)) ≡ None) name (ap (at_name name) once ∙ apart name) (λ n differs. second_gone name n differs es ∙ apart n)

  -- an entry of a name that no other has
  pub new_apart : (a : A) → at_name name es ≡ None → AreApart (es ++ (name, a) ∷ [])
  new_apart a none =
      by_cases (λ n. at_name n (without n (es ++ (name, a) ∷ [])) ≡ None) name (ap (at_name name) (out_again name es a none) ∙ none) (λ n differs. second_put name n differs es a ∙ apart n)

module _ {A : Type 0} (name : Name) (es : List (Name × A)) (a : A) (apart : AreApart es) where
  abbrev stored_list : List (Name × A)
  stored_list = without name (without name es) ++ (name, a) ∷ []

  -- an entry stands in the place of another
  pub in_place_apart : AreApart (without name es ++ (name, a) ∷ [])
  in_place_apart = new_apart name (without name es) (gone_apart name es apart) a (apart name)

  pub put_here : at_name name stored_list ≡ Some a
  put_here = ap (λ l. at_name name (l ++ (name, a) ∷ [])) (once name es apart) ∙ is_out name (without name es) a (apart name)

  pub put_others : (other : Name) → other ≢ name → at_name other stored_list ≡ at_name other es
  put_others other differs = other_put name other differs (without name (without name es)) a ∙ other_gone name other differs (without name es) ∙ other_gone name other differs es

  pub put_apart : AreApart stored_list
  put_apart = subst (λ (l : List (Name × A)). AreApart (l ++ (name, a) ∷ [])) (sym (once name es apart)) in_place_apart
