-- A history of a volume in which nobody but the worker did anything, and the worker only looked at it.
use Rattle.std.proofs.Common.{◌≡◌, ◌≢◌, ◌⊎◌, inl, inr, ◌<◌, ℕ, zero, suc, Bool, true, false, cond, List, [], ◌∷◌, ◌++◌, length, Option, None, Some, refl, sym, ap, subst, ◌∙◌, arith}
use Rattle.std.specs.Prelude.{slice_get, All, is_some, ◌==◌}
use Rattle.std.proofs.lemmas.Bool.{eq-eqb}
use Rattle.std.proofs.lemmas.List.{map-append}
use Rattle.std.proofs.lemmas.List.Elements.{filter-append}
use Rattle.std.proofs.lemmas.Option.{slice_get_within, get_or_from_slice_get}
use Rattle.turn_lock.specs.Histories.{Entry, own, Begins}
use Rattle.wol_model.specs.Blocks.{Write}
use Rattle.wol_model.specs.History as history
use Rattle.wol_model.specs.History.{worker, helper, keeper, flight_of, flight_from, Operation}
use Rattle.wol_promise.specs.Ruled.{Noted, entries_of}
use Rattle.wol_promise.specs.Code.{noted_of}
use Rattle.manager.specs.Seen.{name_of}
use Rattle.manager.specs.Stands.{notes_of}
use Rattle.manager.specs.declared.part.Part.{Part}
use Rattle.request_turns.specs.Turns.{IsBroken, WasDown}

-- of the element at a place
pub all_at : {X : Type 0} (P : X → Type 0) (xs : List X) (k : ℕ) (x : X) → All P xs → slice_get xs k ≡ Some x → P x
all_at P xs k x all is = subst P (get_or_from_slice_get xs k x x is) (all k x (slice_get_within xs k x is))

-- what stands at a place within a list
pub there_is : {X : Type 0} (xs : List X) (k : ℕ) → k < length xs → (x : X) × (slice_get xs k ≡ Some x)
there_is [] k less = absurd (omega arith)
there_is (x ∷ xs) zero less = (x, refl)
there_is (x ∷ xs) (suc k) less = there_is xs k (omega (arith, less))

-- ---- Whose entries there are

nothing_before : {X : Type 0} (xs ys : List X) → xs ++ ys ≡ [] → xs ≡ []
nothing_before [] ys is = refl
nothing_before (x ∷ xs) ys is = absurd (let no : x ∷ (xs ++ ys) ≡ [] = is in cc)

-- a pass without entries has none in a beginning
own_before : (n : ℕ) (xs ys : List Entry) → Begins xs ys → own n ys ≡ [] → own n xs ≡ []
own_before n xs ys (more, whole) none =
    nothing_before (own n xs) (own n more) (sym (filter-append (λ (e : Entry). e.0 == n) xs more) ∙ ap (λ (zs : List Entry). own n zs) whole ∙ none)

same_number : (n : ℕ) → (n == n) ≡ true
same_number n = eq-eqb n n refl

-- where no pass has an entry there is none
no_entry : (xs : List Entry) → ((n : ℕ) → own n xs ≡ []) → xs ≡ []
no_entry [] none = refl
no_entry (e ∷ es) none =
    let first : own e.0 (e ∷ es) ≡ e ∷ own e.0 es = ap (λ (b : Bool). cond b (e ∷ own e.0 es) (own e.0 es)) (same_number e.0) in
    absurd (let no : e ∷ own e.0 es ≡ [] = sym first ∙ none e.0 in cc)

which : (n : ℕ) → (n ≡ worker) ⊎ (n ≡ helper) ⊎ (n ≡ keeper) ⊎ ((n ≢ worker) × (n ≢ helper) × (n ≢ keeper))
which zero = inl refl
which (suc zero) = inr (inl refl)
which (suc (suc zero)) = inr (inr (inl refl))
which (suc (suc (suc n))) = inr (inr (inr ((λ is. omega (arith, is)), (λ is. omega (arith, is)), (λ is. omega (arith, is)))))

-- so it is before a worker's first turn, where helper and keeper have no entry in all
pub none_before : (xs es : List Entry) → Begins xs es → own worker xs ≡ [] → own helper es ≡ [] → own keeper es ≡ [] → ((n : ℕ) → n ≢ worker → n ≢ helper → n ≢ keeper → own n es ≡ []) → xs ≡ []
none_before xs es begins worked helped kept no_more = no_entry xs by
  where
    by : (n : ℕ) → own n xs ≡ []
    by n = elim (which n) [
      | inl is ↦ subst (λ (k : ℕ). own k xs ≡ []) (sym is) worked
      | inr (inl is) ↦ subst (λ (k : ℕ). own k xs ≡ []) (sym is) (own_before helper xs es begins helped)
      | inr (inr (inl is)) ↦ subst (λ (k : ℕ). own k xs ≡ []) (sym is) (own_before keeper xs es begins kept)
      | inr (inr (inr (a, b, d))) ↦ own_before n xs es begins (no_more n a b d)
    ]

-- a pass whose only entry is the first, or that has none, has none behind it
behind_none : (n : ℕ) (e : Entry) (es : List Entry) → own n (e ∷ es) ≡ [] → own n es ≡ []
behind_none n e es = go (e.0 == n)
  where
    go : (b : Bool) → cond b (e ∷ own n es) (own n es) ≡ [] → own n es ≡ []
    go true is = absurd (cc is)
    go false is = is

behind_one : (n : ℕ) (e : Entry) (es : List Entry) → e.0 ≡ n → own n (e ∷ es) ≡ e ∷ [] → own n es ≡ []
behind_one n e es same is =
    let first : own n (e ∷ es) ≡ e ∷ own n es = ap (λ (b : Bool). cond b (e ∷ own n es) (own n es)) (eq-eqb e.0 n same) in
    let both : e ∷ own n es ≡ e ∷ [] = sym first ∙ is in cc

-- so nothing is behind a worker's one entry
pub only_one : (e : Entry) (more es : List Entry) → e ∷ more ≡ es → e.0 ≡ worker → own worker es ≡ e ∷ [] → own helper es ≡ [] → own keeper es ≡ [] → ((n : ℕ) → n ≢ worker → n ≢ helper → n ≢ keeper → own n es ≡ []) → es ≡ e ∷ []
only_one e more es whole number worked helped kept no_more = sym whole ∙ ap (λ (xs : List Entry). e ∷ xs) (no_entry more by)
  where
    by : (n : ℕ) → own n more ≡ []
    by n = elim (which n) [
      | inl is ↦ subst (λ (k : ℕ). own k more ≡ []) (sym is) (behind_one worker e more number (ap (own worker) whole ∙ worked))
      | inr (inl is) ↦ subst (λ (k : ℕ). own k more ≡ []) (sym is) (behind_none helper e more (ap (own helper) whole ∙ helped))
      | inr (inr (inl is)) ↦ subst (λ (k : ℕ). own k more ≡ []) (sym is) (behind_none keeper e more (ap (own keeper) whole ∙ kept))
      | inr (inr (inr (a, b, d))) ↦ behind_none n e more (ap (own n) whole ∙ no_more n a b d)
    ]

-- and what was down is down behind that one
none_joined : (front : List Noted) (m : Noted) (later : List Noted) → [] ≡ front ++ m ∷ later → ⊥
none_joined [] m later is = absurd (cc is)
none_joined (k ∷ front) m later is = absurd (cc is)

pub one_down : (p : Part) (n : Noted) → WasDown p (n ∷ []) → n.look.down ≡ Some (name_of p)
one_down p n was = go was.front was.note was.later was.notes_are was.down
  where
    go : (front : List Noted) (m : Noted) (later : List Noted) → n ∷ [] ≡ front ++ m ∷ later → m.look.down ≡ Some (name_of p) → n.look.down ≡ Some (name_of p)
    go [] m later is down = let same : n ≡ m = cc is in ap (λ (k : Noted). k.look.down) same ∙ down
    go (k ∷ front) m later is down = absurd (none_joined front m later (let rest : [] ≡ front ++ m ∷ later = cc is in rest))

-- ---- A failed call stays in the history

from_more : (o : Operation) (front whole : Option (List Write)) → (whole ≡ None → front ≡ None) → flight_from o whole ≡ None → flight_from o front ≡ None
from_more (history.Broke ws) front whole more is = absurd (let no : Some ws ≡ None = is in cc)
from_more (history.Wrote ws) front whole more is = more is
from_more (history.Read first reply) front whole more is = more is
from_more history.Kept front whole more is = more is

flight_more : (xs ys : List Noted) → flight_of (entries_of (xs ++ ys)) ≡ None → flight_of (entries_of xs) ≡ None
flight_more [] ys none = refl
flight_more (n ∷ xs) ys none = from_more n.entry.operation (flight_of (entries_of xs)) (flight_of (entries_of (xs ++ ys))) (flight_more xs ys) none

pub broken_still : (xs es : List Entry) → Begins xs es → IsBroken (notes_of xs) → flight_of (entries_of (notes_of es)) ≡ None → ⊥
broken_still xs es (more, whole) broken none =
    let split : notes_of es ≡ notes_of xs ++ notes_of more = sym (ap notes_of whole) ∙ map-append (λ (e : Entry). noted_of e.0 e.1) xs more in
    let calm : flight_of (entries_of (notes_of xs)) ≡ None = flight_more (notes_of xs) (notes_of more) (sym (ap (λ (ns : List Noted). flight_of (entries_of ns)) split) ∙ none) in
    let no : false ≡ true = sym (ap is_some calm) ∙ broken in cc
