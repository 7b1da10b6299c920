-- What a pass's own entries say of its token, and how many tokens are out.
use Rattle.std.proofs.Common.{◌≡◌, ◌<◌, ◌≤◌, ℕ, ◌+◌, eqb, Bool, true, false, ◌&&◌, ◌||◌, if◌then◌else◌, List, [], ◌∷◌, ◌++◌, map, max, refl, sym, ap, ◌∙◌, subst, arith, ⊎_elim, cond}
use Rattle.std.specs.Prelude.{nat_le}
use mathlib.Core.List.{map-append}
use Rattle.std.proofs.lemmas.Bool.{eq-eqb}
use Rattle.std.proofs.lemmas.List.Elements.{All-head, All-tail}
use Rattle.std.proofs.lemmas.Bool.Decides.{eqb_tells}
use Rattle.turn_lock.specs.Histories.{Entry, own, AreNumberedBelow}
use Rattle.wol_model.specs.Journal.{Use, Started, Began, Needed, Done, Stayed, SpindleState, new_spindle, is_empty, used, spindle_after, needs_after}
use Rattle.wol_model.specs.declared.journal.Turned.TheVariants.{Down}
use Rattle.spin_model.specs.declared.spindle.SpindleBase.{SpindleBase}
use Rattle.spin_model.specs.Operations.{operation_of, use_of, uses_of, has_token}
use Rattle.spin_model.specs.Spindles.{SpindleView, StandsFor, state_after}
use Rattle.spin_model.proofs.Tokens.{is_in, AreBelow, is_in-others_same, is_in-others_other, length-le_apart, some_in, below-others_kept}
use Rattle.spin_model.proofs.Steps.{tokens_apart}
use Rattle.spin_model.proofs.Using.{use_of-operation_of}

-- the passes with a token, where the journal's start or the rest changes
starts : (b : Bool) (t : ℕ) (s : SpindleState) → (if b then record s { from = t; now = t; last_use = t } else s).needing ≡ s.needing
starts true t s = refl
starts false t s = refl

rests : (b : Bool) (t : ℕ) (s : SpindleState) → (if b then record s { awake = false; journal = s.journal ++ Down (s.last_use + t) ∷ [] } else s).needing ≡ s.needing
rests true t s = refl
rests false t s = refl

-- after a use of the pass itself
own_use : (t : ℕ) (s : SpindleState) (n : ℕ) (u : Use) → is_in n (used t s n u).needing ≡ needs_after (is_in n s.needing) (u ∷ [])
own_use t s n (Started at) = ap (is_in n) (starts (is_empty s.journal) at s)
own_use t s n (Began at) = ap (is_in n) (rests (s.awake && (is_empty s.needing && nat_le (s.last_use + t) (max at s.now))) t (record s { now = max at s.now }))
own_use t s n Needed = ap (λ (b : Bool). b || is_in n s.needing) (eq-eqb n n refl)
own_use t s n Done = is_in-others_same n s.needing
own_use t s n Stayed = refl

-- after a use of another pass
other_use : (t : ℕ) (s : SpindleState) (n p : ℕ) (u : Use) → eqb p n ≡ false → is_in n (used t s p u).needing ≡ is_in n s.needing
other_use t s n p (Started at) e = ap (is_in n) (starts (is_empty s.journal) at s)
other_use t s n p (Began at) e = ap (is_in n) (rests (s.awake && (is_empty s.needing && nat_le (s.last_use + t) (max at s.now))) t (record s { now = max at s.now }))
other_use t s n p Needed e = ap (λ (b : Bool). b || is_in n s.needing) e
other_use t s n p Done e = is_in-others_other n p s.needing e
other_use t s n p Stayed e = refl

needs_after-cons : (b : Bool) (u : Use) (us : List Use) → needs_after b (u ∷ us) ≡ needs_after (needs_after b (u ∷ [])) us
needs_after-cons b (Started t) us = refl
needs_after-cons b (Began t) us = refl
needs_after-cons b Needed us = refl
needs_after-cons b Done us = refl
needs_after-cons b Stayed us = refl

abbrev use_in : Entry → Use
use_in e = use_of e.1

-- a pass has a token exactly where its own entries say so
needing_own : (t : ℕ) (s : SpindleState) (es : List Entry) (n : ℕ) → is_in n (spindle_after t s (uses_of es)).needing ≡ needs_after (is_in n s.needing) (map use_in (own n es))
needing_own t s [] n = refl
needing_own t s (e ∷ es) n = let rest = needing_own t (used t s e.0 (use_of e.1)) es n in ⊎_elim (λ h. here h.0 h.1 rest) (λ h. there h.0 rest) (eqb_tells e.0 n)
  where
    here : eqb e.0 n ≡ true → e.0 ≡ n → is_in n (spindle_after t s (uses_of (e ∷ es))).needing ≡ needs_after (is_in n (used t s e.0 (use_of e.1)).needing) (map use_in (own n es)) → is_in n (spindle_after t s (uses_of (e ∷ es))).needing ≡ needs_after (is_in n s.needing) (map use_in (own n (e ∷ es)))
    here same is rest = rest ∙ (ap (λ (b : Bool). needs_after b (map use_in (own n es))) (ap (λ (p : ℕ). is_in n (used t s p (use_of e.1)).needing) is ∙ own_use t s n (use_of e.1)) ∙ (sym (needs_after-cons (is_in n s.needing) (use_of e.1) (map use_in (own n es))) ∙ sym (ap (λ (b : Bool). needs_after (is_in n s.needing) (map use_in (cond b (e ∷ own n es) (own n es)))) same)))

    there : eqb e.0 n ≡ false → is_in n (spindle_after t s (uses_of (e ∷ es))).needing ≡ needs_after (is_in n (used t s e.0 (use_of e.1)).needing) (map use_in (own n es)) → is_in n (spindle_after t s (uses_of (e ∷ es))).needing ≡ needs_after (is_in n s.needing) (map use_in (own n (e ∷ es)))
    there other rest = rest ∙ (ap (λ (b : Bool). needs_after b (map use_in (own n es))) (other_use t s n e.0 (use_of e.1) other) ∙ sym (ap (λ (b : Bool). needs_after (is_in n s.needing) (map use_in (cond b (e ∷ own n es) (own n es)))) other))

-- a pass has a token exactly where its own entries say so
pub token_own : (b : SpindleBase) (es : List Entry) (n : ℕ) → is_in n (state_after b es).needing ≡ has_token (own n es)
token_own b es n = needing_own b.timeout new_spindle es n

-- the passes with a token are among those that made entries
needing_below : (t k : ℕ) (s : SpindleState) (es : List Entry) → AreBelow k s.needing → AreNumberedBelow k es → AreBelow k (spindle_after t s (uses_of es)).needing
needing_below t k s [] low numbers = low
needing_below t k s (e ∷ es) low numbers = needing_below t k (used t s e.0 (use_of e.1)) es (one (use_of e.1)) (All-tail (λ (x : Entry). x.0 < k) e es numbers)
  where
    first : e.0 < k
    first = All-head (λ (x : Entry). x.0 < k) e es numbers

    one : (u : Use) → AreBelow k (used t s e.0 u).needing
    one (Started at) = subst (AreBelow k) (sym (starts (is_empty s.journal) at s)) low
    one (Began at) = subst (AreBelow k) (sym (rests (s.awake && (is_empty s.needing && nat_le (s.last_use + t) (max at s.now))) t (record s { now = max at s.now }))) low
    one Needed = (first, low)
    one Done = below-others_kept k e.0 s.needing low
    one Stayed = low

-- a pass has at most one token
pub few_tokens : (s : SpindleView) (b : SpindleBase) (es : List Entry) (passes : ℕ) → StandsFor s b es → AreNumberedBelow passes es → s.out ≤ passes
few_tokens s b es passes st numbers =
    let few = length-le_apart passes (state_after b es).needing (tokens_apart b.timeout new_spindle (uses_of es) tt st.legal) (needing_below b.timeout passes new_spindle es tt numbers) in
    let out = st.shows.out in omega arith

-- a token is out where a pass has one
pub token_is_out : (s : SpindleView) (b : SpindleBase) (es : List Entry) (n : ℕ) → StandsFor s b es → has_token (own n es) ≡ true → 0 < s.out
token_is_out s b es n st has = let some = some_in n (state_after b es).needing (token_own b es n ∙ has) in let out = st.shows.out in omega arith

needs_after-append : (b : Bool) (us vs : List Use) → needs_after b (us ++ vs) ≡ needs_after (needs_after b us) vs
needs_after-append b [] vs = refl
needs_after-append b (u ∷ us) vs = needs_after-cons b u (us ++ vs) ∙ (needs_after-append (needs_after b (u ∷ [])) us vs ∙ sym (ap (λ (c : Bool). needs_after c vs) (needs_after-cons b u us)))

-- one more entry of the pass
pub has_token-push : (es : List Entry) (n : ℕ) (u : Use) → has_token (es ++ (n, operation_of u) ∷ []) ≡ needs_after (has_token es) (u ∷ [])
has_token-push es n u = ap (needs_after false) (map-append use_in es ((n, operation_of u) ∷ [])) ∙ (needs_after-append false (map use_in es) (use_of (operation_of u) ∷ []) ∙ ap (λ (v : Use). needs_after (has_token es) (v ∷ [])) (use_of-operation_of u))

-- who starts the account or begins a moment has the token that it had
pub token_started : (es : List Entry) (n t : ℕ) → has_token (es ++ (n, operation_of (Started t)) ∷ []) ≡ has_token es
token_started es n t = has_token-push es n (Started t)

pub token_begun : (es : List Entry) (n t : ℕ) → has_token (es ++ (n, operation_of (Began t)) ∷ []) ≡ has_token es
token_begun es n t = has_token-push es n (Began t)
