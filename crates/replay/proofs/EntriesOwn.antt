-- The entries of a volume's history, pass by pass.
use Rattle.replay.proofs.Basics.{◌≡◌, ◌≢◌, ◌==◌, ℕ, Bool, true, false, cond, List, [], ◌∷◌, map, refl, sym, ap, subst, ◌∙◌, inl, inr}
use Rattle.replay.proofs.Basics.{AllByRecursion, filter, eq-eqb, cases_eq}
use Rattle.replay.proofs.Terms.{Entry, own, helper, keeper, worker, noted_of, Noted, entries_of, noted_is_back, notes_of, coded, pass_kept}
use Rattle.wol_model.specs.History as history

-- what was coded is read back
pub notes_back : (notes : List Noted) → notes_of (map coded notes) ≡ notes
notes_back [] = refl
notes_back (n ∷ notes) = λ i. noted_is_back n i ∷ notes_back notes i

-- those of one pass among the entries
pub own_notes : (n : ℕ) (es : List Entry) → filter (λ (e : history.Entry). e.pass == n) (entries_of (notes_of es)) ≡ entries_of (notes_of (own n es))
own_notes n [] = refl
own_notes n (e ∷ es) =
    let rest : List history.Entry = filter (λ (x : history.Entry). x.pass == n) (entries_of (notes_of es)) in
    ap (λ (k : ℕ). cond (k == n) ((noted_of e.0 e.1).entry ∷ rest) rest) (pass_kept e.0 e.1) ∙ at (e.0 == n) rest (own_notes n es)
  where
    at : (t : Bool) (rest : List history.Entry) → rest ≡ entries_of (notes_of (own n es)) → cond t ((noted_of e.0 e.1).entry ∷ rest) rest ≡ entries_of (notes_of (cond t (e ∷ own n es) (own n es)))
    at true rest same = ap (λ (l : List history.Entry). (noted_of e.0 e.1).entry ∷ l) same
    at false rest same = same

module _ (P : Entry → Type 0) where
  -- what holds of each pass's entries holds of all
  all_own : (es : List Entry) → ((n : ℕ) → AllByRecursion P (own n es)) → AllByRecursion P es
  all_own [] all = tt
  all_own (e ∷ es) all = (first (e.0 == e.0) (eq-eqb e.0 e.0 refl) (all e.0), all_own es (λ n. rest n (e.0 == n) (all n)))
    where
      first : (t : Bool) → t ≡ true → AllByRecursion P (cond t (e ∷ own e.0 es) (own e.0 es)) → P e
      first true is here = here.0
      first false is here = absurd (cc is)

      rest : (n : ℕ) (t : Bool) → AllByRecursion P (cond t (e ∷ own n es) (own n es)) → AllByRecursion P (own n es)
      rest n true here = here.1
      rest n false here = here

  -- those of a volume are of three passes
  pub all_of_three : (es : List Entry) → ((n : ℕ) → n ≢ worker → n ≢ helper → n ≢ keeper → own n es ≡ []) → AllByRecursion P (own worker es) → AllByRecursion P (own helper es) → AllByRecursion P (own keeper es)
      → AllByRecursion P es
  all_of_three es none w h k = all_own es (λ n. elim (cases_eq n worker) [
    | inl is ↦ subst (λ m. AllByRecursion P (own m es)) (sym is) w
    | inr not_worker ↦ elim (cases_eq n helper) [
      | inl is ↦ subst (λ m. AllByRecursion P (own m es)) (sym is) h
      | inr not_helper ↦ elim (cases_eq n keeper) [
        | inl is ↦ subst (λ m. AllByRecursion P (own m es)) (sym is) k
        | inr not_keeper ↦ subst (λ l. AllByRecursion P l) (sym (none n not_worker not_helper not_keeper)) tt
      ]
    ]
  ])

module _ (P : Noted → Type 0) where
  -- a note as an entry
  abbrev pub OfEntry : Entry → Type 0
  OfEntry e = P (noted_of e.0 e.1)

  pub coded_all : (notes : List Noted) → AllByRecursion P notes → AllByRecursion OfEntry (map coded notes)
  coded_all [] all = tt
  coded_all (n ∷ notes) all = (subst P (sym (noted_is_back n)) all.0, coded_all notes all.1)

  pub noted_all : (es : List Entry) → AllByRecursion OfEntry es → AllByRecursion P (notes_of es)
  noted_all [] all = tt
  noted_all (e ∷ es) all = (all.0, noted_all es all.1)

  -- what holds of all notes holds of those of each pass
  pub all_mine : (n : ℕ) (es : List Entry) → AllByRecursion P (notes_of es) → AllByRecursion P (notes_of (own n es))
  all_mine n [] all = tt
  all_mine n (e ∷ es) all = at (e.0 == n) (all_mine n es all.1)
    where
      at : (t : Bool) → AllByRecursion P (notes_of (own n es)) → AllByRecursion P (notes_of (cond t (e ∷ own n es) (own n es)))
      at true rest = (all.0, rest)
      at false rest = rest
