-- What a desk has of its counter as entries are added.
use Rattle.std.proofs.Common.{◌≡◌, ℕ, List, [], ◌∷◌, ◌++◌, ap, ◌∙◌, sym, append_assoc, refl}
use Rattle.turn_lock.specs.Histories.{Entry}
use Rattle.turn_lock_tests.specs.Desks.{uses}

pub uses-push : (m : ℕ) (es : List Entry) (e : Entry) → uses m (es ++ e ∷ []) ≡ uses m es ++ (m, 1 ∷ []) ∷ (m, 2 ∷ []) ∷ []
uses-push m [] e = refl
uses-push m (x ∷ es) e = ap (λ l. (m, 1 ∷ []) ∷ (m, 2 ∷ []) ∷ l) (uses-push m es e)

pub used_once_more : (before mine : List Entry) (m p : ℕ) (es : List Entry) (e : Entry) → mine ≡ before ++ uses m es → p ≡ m
    → (mine ++ (p, 1 ∷ []) ∷ []) ++ (m, 2 ∷ []) ∷ [] ≡ before ++ uses m (es ++ e ∷ [])
used_once_more before mine m p es e is same =
    ap (λ (t : List Entry × ℕ). (t.0 ++ (t.1, 1 ∷ []) ∷ []) ++ (m, 2 ∷ []) ∷ []) (λ i. (is i, same i))
    ∙ (append_assoc (before ++ uses m es) ((m, 1 ∷ []) ∷ []) ((m, 2 ∷ []) ∷ []) ∙ (append_assoc before (uses m es) ((m, 1 ∷ []) ∷ (m, 2 ∷ []) ∷ []) ∙ ap (λ l. before ++ l) (sym (uses-push m es e))))
