-- The part of label and view while its view is changed.
use Rattle.std.proofs.Common.{◌≡◌, inl, inr, ℕ, List, [], ◌∷◌, Option, None, Some, Ok, Err, option_map, refl, sym, ap, subst, ◌∙◌}
use Rattle.std.specs.Prelude.{IsErrOf}
use Rattle.log_layout.specs.declared.label.Label.{Label}
use Rattle.logger_view.specs.declared.loading.ViewFault.{ViewFault}
use Rattle.logger_view.specs.declared.loading.ViewFault.TheVariants as load
use Rattle.wol_disk.specs.Disk.{AddsSomeOf, Block, Values, State, IsImageOf, LeavesOnly, only, reads, settled}
use Rattle.wol_model.specs.Heads.{view_block}
use Rattle.wol_disk.proofs.Calls.{settled_from}
use Rattle.wol_disk.proofs.Images.{image_reads, reads_only}
use Rattle.wol_disk.proofs.Moments.{then_leaves, widened}
use Rattle.logger_view.specs.Stored.{IsFirstFault, IsWithOrWithout, with_view}
use Rattle.logger_view.proofs.Callers.{same_or_changed}
use Rattle.view_change.specs.Changes.{Allows, Answers, FailsInStore, IsAsked, IsLoaded, MayShow, RefusesView, ShowsChange, changed, refusal_of_load}
use Rattle.view_change.specs.declared.answers.Change.{Change}
use Rattle.view_change.specs.declared.answers.Change.TheVariants.{Add, Remove}
use Rattle.view_change.specs.declared.answers.ChangeRefusal.{ChangeRefusal}
use Rattle.view_change.specs.declared.answers.ChangeRefusal.TheVariants.{Unknown, Itself, Already, NotThere, ViewFull, Damaged, Failed}

-- ---- Moments

-- after a load
once_loaded : {d m : State} (own : ℕ) (change : Change) → LeavesOnly d m (IsImageOf d.values) → LeavesOnly d m (MayShow own change d)
once_loaded own change moments = widened moments (λ c i. inl i)

-- while a view is stored in a part that was loaded
module _ (d m : State) (own : ℕ) (change : Change) (ids new : List ℕ) (synced : m.values ≡ option_map settled d.values) (loaded : (vs : List (Values Block)) → d.values ≡ Some vs → IsLoaded own (reads vs) ids)
    (allows : Allows ids change) (is_new : new ≡ changed change ids) where
  shows : (c : List Block) → IsWithOrWithout (with_view new) m c → MayShow own change d c
  shows c w = go d.values refl
    where
      go : (o : Option (List (Values Block))) → d.values ≡ o → MayShow own change d c
      go None is =
          let P : Option (List (Values Block)) → Type 0 = λ o. IsImageOf o w.0 in
          absurd (subst P (synced ∙ ap (option_map settled) is) w.1)
      go (Some vs) is = elim (same_or_changed (with_view new) m (reads vs) c (synced ∙ ap (option_map settled) is) w) [
        | inl same ↦
            let P : Option (List (Values Block)) → Type 0 = λ o. IsImageOf o c in
            inl (subst P (sym is) (subst (λ (l : List Block). IsImageOf (Some vs) l) (sym same) (image_reads vs)))
        | inr other ↦ inr (record { vs = vs; told = is; ids = ids; loaded = loaded vs is; allowed = allows; is = other ∙ ap (λ (l : List ℕ). with_view l (reads vs)) is_new })
      ]

  pub while_stored : {n : State} → LeavesOnly d m (IsImageOf d.values) → LeavesOnly m n (IsWithOrWithout (with_view new) m) → LeavesOnly d n (MayShow own change d)
  while_stored before behind = then_leaves (once_loaded own change before) behind shows

-- ---- What is left

-- what was stored is the part as it read with the new view
pub now_stored : (d m n : Option (List (Values Block))) (new : List ℕ) → m ≡ option_map settled d → n ≡ option_map (λ vs. only (with_view new (reads vs))) m → n ≡ option_map (λ vs. only (with_view new (reads vs))) d
now_stored None m n new synced is = is ∙ ap (option_map (λ vs. only (with_view new (reads vs)))) synced
now_stored (Some vs) m n new synced is =
    is ∙ ap (option_map (λ vs. only (with_view new (reads vs)))) synced ∙ ap (λ (l : List Block). Some (only (with_view new l))) (reads_only (reads vs))

-- or not, where the store failed
pub fails_in_store : (d : State) (loaded_values : Option (List (Values Block))) (n : State) (own : ℕ) (change : Change) (ids new : List ℕ) → loaded_values ≡ option_map settled d.values → ((vs : List (Values Block)) → d.values ≡ Some vs → IsLoaded own (reads vs) ids) → Allows ids change → new ≡ changed change ids
    → AddsSomeOf 1 (view_block new ∷ []) loaded_values n.values → FailsInStore own change d n
fails_in_store d loaded_values n own change ids new synced loaded allows is_new left = record {
  ids = ids;
  loaded = loaded;
  allowed = allows;
  left = subst (λ (l : List ℕ). AddsSomeOf 1 (view_block l ∷ []) (option_map settled d.values) n.values) is_new (subst (λ (o : Option (List (Values Block))). AddsSomeOf 1 (view_block new ∷ []) o n.values) synced left);
}

-- each image of what was stored shows the new view
pub stored_shows : (own volumes : ℕ) (change : Change) (d n : State) (new : List ℕ) → n.values ≡ option_map (λ vs. only (with_view new (reads vs))) d.values
    → ((vs : List (Values Block)) → d.values ≡ Some vs → Answers own volumes change (reads vs) (Ok new)) → (c : List Block) → IsImageOf n.values c → ShowsChange own change d c
stored_shows own volumes change d n new is answer c i =
    let P : Option (List (Values Block)) → Type 0 = λ o. IsImageOf o c in
    let x = settled_from (with_view new) d.values c (subst P is i) in
    let a = answer x.0 x.1 in
    record { vs = x.0; told = x.1; ids = a.1; loaded = a.2; allowed = a.3; is = x.2 ∙ ap (λ (l : List ℕ). with_view l (reads x.0)) a.4 }

-- ---- Answers

-- label and view could not be loaded
pub load_refused : (own volumes : ℕ) (change : Change) (bs : List Block) (f : ViewFault) → IsAsked own volumes change → ((block : ℕ) → IsErrOf {T = Label × List ℕ} (Err f) (load.Damaged block) → IsFirstFault own bs block)
    → Answers own volumes change bs (Err (refusal_of_load f))
load_refused own volumes change bs (load.Damaged block) asked damaged = (asked, damaged block refl)
load_refused own volumes change bs load.Failed asked damaged = asked

-- a refusal of the view is told
pub refused : (own volumes : ℕ) (change : Change) (bs : List Block) (ids : List ℕ) (e : ChangeRefusal) → IsAsked own volumes change → IsLoaded own bs ids → RefusesView ids change e → Answers own volumes change bs (Err e)
refused own volumes change bs ids (Unknown id) asked loaded is = absurd (none change is)
  where
    none : (c : Change) → RefusesView ids c (Unknown id) → ⊥
    none (Add i) is = is
    none (Remove i) is = is
refused own volumes change bs ids Itself asked loaded is = absurd (none change is)
  where
    none : (c : Change) → RefusesView ids c Itself → ⊥
    none (Add i) is = is
    none (Remove i) is = is
refused own volumes change bs ids (Already id) asked loaded is = (asked, ids, loaded, is)
refused own volumes change bs ids (NotThere id) asked loaded is = (asked, ids, loaded, is)
refused own volumes change bs ids ViewFull asked loaded is = (asked, ids, loaded, is)
refused own volumes change bs ids (Damaged block) asked loaded is = absurd (none change is)
  where
    none : (c : Change) → RefusesView ids c (Damaged block) → ⊥
    none (Add i) is = is
    none (Remove i) is = is
refused own volumes change bs ids Failed asked loaded is = asked
