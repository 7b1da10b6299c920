-- Words that are joined one after another.
use Rattle.std.proofs.Common.{◌≡◌, ℕ, zero, suc, ◌+◌, ◌<◌, ◌≤◌, List, [], ◌∷◌, ◌++◌, length, map, take, get_or, refl, sym, ap, ◌∙◌, append_assoc, arith}
use Rattle.std.proofs.lemmas.List.{take_more, map-append}
use Rattle.report.specs.declared.words.Word.{Word}
use Rattle.report.specs.Words.{text_of, word_of}

-- one more word stands behind a space
text_of-snoc : (x : List ℕ) (xs : List (List ℕ)) (y : List ℕ) → text_of ((x ∷ xs) ++ y ∷ []) ≡ text_of (x ∷ xs) ++ (32 ∷ y)
text_of-snoc x [] y = refl
text_of-snoc x (x' ∷ xs) y = rw (text_of-snoc x' xs y, append_assoc) refl

-- the first of words stands alone
first_word : (ws : List Word) (i : ℕ) (d : Word) → i < length ws → i ≤ 0
    → text_of (map word_of (take (i + 1) ws)) ≡ text_of (map word_of (take i ws)) ++ word_of (get_or ws i d)
first_word [] i d h none = absurd (omega arith)
first_word (w ∷ ws) zero d h none = refl
first_word (w ∷ ws) (suc i) d h none = absurd (omega arith)

-- each further one stands behind a space
next_word : (ws : List Word) (i : ℕ) (d : Word) → i < length ws → 0 < i
    → text_of (map word_of (take (i + 1) ws)) ≡ text_of (map word_of (take i ws)) ++ (32 ∷ word_of (get_or ws i d))
next_word [] i d h some = absurd (omega arith)
next_word (w ∷ ws) zero d h some = absurd (omega arith)
next_word (w ∷ ws) (suc i) d h some =
    ap (λ (xs : List Word). text_of (map word_of xs)) (take_more (w ∷ ws) (suc i) d h)
    ∙ ap text_of (map-append word_of (take (suc i) (w ∷ ws)) (get_or (w ∷ ws) (suc i) d ∷ []))
    ∙ text_of-snoc (word_of w) (map word_of (take i ws)) (word_of (get_or (w ∷ ws) (suc i) d))

-- a text, a space and a word
spaced : (out text word : List ℕ) → ((out ++ text) ++ 32 ∷ []) ++ word ≡ out ++ (text ++ (32 ∷ word))
spaced out text word = simp append_assoc

-- the first word is put
pub put_first : (ws : List Word) (i : ℕ) (d : Word) (start out new : List ℕ) → i < length ws → i ≤ 0
    → out ≡ start ++ text_of (map word_of (take i ws)) → new ≡ out ++ word_of (get_or ws i d)
    → new ≡ start ++ text_of (map word_of (take (i + 1) ws))
put_first ws i d start out new h none was put =
    put ∙ ap (λ (xs : List ℕ). xs ++ word_of (get_or ws i d)) was
    ∙ append_assoc start (text_of (map word_of (take i ws))) (word_of (get_or ws i d))
    ∙ ap (λ (xs : List ℕ). start ++ xs) (sym (first_word ws i d h none))

-- a further word is put, behind a space
pub put_next : (ws : List Word) (i : ℕ) (d : Word) (start out after new : List ℕ) → i < length ws → 0 < i
    → out ≡ start ++ text_of (map word_of (take i ws)) → after ≡ out ++ 32 ∷ [] → new ≡ after ++ word_of (get_or ws i d)
    → new ≡ start ++ text_of (map word_of (take (i + 1) ws))
put_next ws i d start out after new h some was space put =
    put ∙ ap (λ (xs : List ℕ). xs ++ word_of (get_or ws i d)) space
    ∙ ap (λ (xs : List ℕ). (xs ++ 32 ∷ []) ++ word_of (get_or ws i d)) was
    ∙ spaced start (text_of (map word_of (take i ws))) (word_of (get_or ws i d))
    ∙ ap (λ (xs : List ℕ). start ++ xs) (sym (next_word ws i d h some))
