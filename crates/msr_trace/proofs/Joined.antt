-- Fields that are appended one after another are the line's text.
use Rattle.std.proofs.Common.{◌≡◌, ℕ, List, [], ◌∷◌, ◌++◌, refl, ap, ◌∙◌, append_assoc}

-- a field and the byte behind it, and then others
then_others : (v field rest : List ℕ) (end : ℕ) → (v ++ (field ++ end ∷ [])) ++ rest ≡ v ++ (field ++ end ∷ rest)
then_others v field rest end = append_assoc v (field ++ end ∷ []) rest ∙ ap (λ (xs : List ℕ). v ++ xs) (append_assoc field (end ∷ []) rest)

-- the last byte stands behind the whole text
behind : (field rest : List ℕ) (end last : ℕ) → (field ++ end ∷ rest) ++ last ∷ [] ≡ field ++ end ∷ (rest ++ last ∷ [])
behind field rest end last = append_assoc field (end ∷ rest) (last ∷ [])

pub joined : (v a b d e f g h : List ℕ) (end last : ℕ)
    → ((((((v ++ (a ++ end ∷ [])) ++ (b ++ end ∷ [])) ++ (d ++ end ∷ [])) ++ (e ++ end ∷ [])) ++ (f ++ end ∷ [])) ++ (g ++ end ∷ [])) ++ (h ++ last ∷ [])
    ≡ v ++ ((a ++ end ∷ (b ++ end ∷ (d ++ end ∷ (e ++ end ∷ (f ++ end ∷ (g ++ end ∷ h)))))) ++ last ∷ [])
joined v a b d e f g h end last =
    rw (
      behind a (b ++ end ∷ (d ++ end ∷ (e ++ end ∷ (f ++ end ∷ (g ++ end ∷ h))))) end last,
      behind b (d ++ end ∷ (e ++ end ∷ (f ++ end ∷ (g ++ end ∷ h)))) end last,
      behind d (e ++ end ∷ (f ++ end ∷ (g ++ end ∷ h))) end last,
      behind e (f ++ end ∷ (g ++ end ∷ h)) end last,
      behind f (g ++ end ∷ h) end last,
      behind g h end last,
      then_others (((((v ++ (a ++ end ∷ [])) ++ (b ++ end ∷ [])) ++ (d ++ end ∷ [])) ++ (e ++ end ∷ [])) ++ (f ++ end ∷ [])) g (h ++ last ∷ []) end,
      then_others ((((v ++ (a ++ end ∷ [])) ++ (b ++ end ∷ [])) ++ (d ++ end ∷ [])) ++ (e ++ end ∷ [])) f (g ++ end ∷ (h ++ last ∷ [])) end,
      then_others (((v ++ (a ++ end ∷ [])) ++ (b ++ end ∷ [])) ++ (d ++ end ∷ [])) e (f ++ end ∷ (g ++ end ∷ (h ++ last ∷ []))) end,
      then_others ((v ++ (a ++ end ∷ [])) ++ (b ++ end ∷ [])) d (e ++ end ∷ (f ++ end ∷ (g ++ end ∷ (h ++ last ∷ [])))) end,
      then_others (v ++ (a ++ end ∷ [])) b (d ++ end ∷ (e ++ end ∷ (f ++ end ∷ (g ++ end ∷ (h ++ last ∷ []))))) end,
      then_others v a (b ++ end ∷ (d ++ end ∷ (e ++ end ∷ (f ++ end ∷ (g ++ end ∷ (h ++ last ∷ [])))))) end,
    ) refl
