-- The step of the rule places a write where the model does, whatever the rooms turn out to be.
use Rattle.std.proofs.Common.{◌≡◌, ◌⊎◌, inl, inr, ⊎_elim, ℕ, suc, ◌+◌, Bool, true, false, cond, not, ◌&&◌, List, [], ◌∷◌, Option, None, Some, refl, sym, ap, ◌∙◌, subst, arith}
use Rattle.std.specs.Prelude.{slice_get, IfSome, position}
use Rattle.std.specs.List.{zip, position_from}
use Rattle.std.proofs.lemmas.Iterator.Adapters.{position_from-zero}
use Rattle.offload_policy.specs.declared.Room.{Room}
use Rattle.offload_policy.specs.declared.Room.TheVariants.{Unknown, Yes, No}
use Rattle.offload_policy.specs.declared.Step.{Step}
use Rattle.offload_policy.specs.declared.Step.TheVariants.{Home, WakeHome, Log, WakeLog, Full}
use Rattle.offload_policy.specs.Placing.{may_hold, is_open, log_or, step_of, IsRoom, AreRooms, place_of}
use Rattle.wol_model.specs.Placing.{Place, Home as AtHome, Log as InLog, Full as Nowhere, place, log_or as log_or_in}

-- both find none; or the first one's room isn't known; or it has room, and both find it
pub Agree : ℕ → List Room → Option ℕ → Option ℕ → Type 0
Agree i rooms o q = ((o ≡ None) × (q ≡ None)) ⊎ ((j : ℕ) × (o ≡ Some (i + j)) × ((slice_get rooms j ≡ Some Unknown) ⊎ ((slice_get rooms j ≡ Some Yes) × (q ≡ Some (i + j)))))

later : (i : ℕ) (r : Room) (rooms : List Room) (o q : Option ℕ) → Agree (i + 1) rooms o q → Agree i (r ∷ rooms) o q
unfolding Agree
later i r rooms o q (inl none) = inl none
later i r rooms o q (inr (j, found, room)) =
    let e : i + 1 + j ≡ i + suc j = omega arith in
    inr (suc j, found ∙ ap Some e, ⊎_elim (λ u. inl u) (λ y. inr (y.0, y.1 ∙ ap Some e)) room)

here : (i : ℕ) (r : Room) (rooms : List Room) (q : Option ℕ) → (r ≡ Unknown) ⊎ ((r ≡ Yes) × (q ≡ Some i)) → Agree i (r ∷ rooms) (Some i) q
unfolding Agree
here i r rooms q room =
    let e : i ≡ i + 0 = omega arith in
    inr (0, ap Some e, ⊎_elim (λ u. inl (ap Some u)) (λ y. inr (ap Some y.0, y.1 ∙ ap Some e)) room)

first : (i : ℕ) (w : Bool) (r : Room) (h : Bool) (rooms : List Room) (o q : Option ℕ) → IsRoom r h → Agree (i + 1) rooms o q
    → Agree i (r ∷ rooms) (cond (w && may_hold r) (Some i) o) (cond (w && h) (Some i) q)
first i false r h rooms o q known rest = later i r rooms o q rest
first i true No h rooms o q known rest = subst (λ (b : Bool). Agree i (No ∷ rooms) o (cond b (Some i) q)) (sym known) (later i No rooms o q rest)
first i true Yes h rooms o q known rest = here i Yes rooms (cond h (Some i) q) (inr (refl, ap (λ (b : Bool). cond b (Some i) q) known))
first i true Unknown h rooms o q known rest = here i Unknown rooms (cond h (Some i) q) (inl refl)

none_there : (i : ℕ) (rooms : List Room) → Agree i rooms None None
unfolding Agree
none_there i rooms = inl (refl, refl)

agree_from : (awake : Bool) (i : ℕ) (ups : List Bool) (rooms : List Room) (has : List Bool) → AreRooms rooms has
    → Agree i rooms (position_from (is_open awake) i (zip ups rooms)) (position_from (λ (l : Bool × Bool). cond awake l.0 (not l.0) && l.1) i (zip ups has))
agree_from awake i [] rooms has known = none_there i rooms
agree_from awake i (u ∷ ups) [] [] known = none_there i []
agree_from awake i (u ∷ ups) [] (h ∷ has) known = absurd known
agree_from awake i (u ∷ ups) (r ∷ rooms) [] known = absurd known
agree_from awake i (u ∷ ups) (r ∷ rooms) (h ∷ has) known = first i (cond awake u (not u)) r h rooms _ _ known.0 (agree_from awake (i + 1) ups rooms has known.1)

pub agree : (awake : Bool) (ups : List Bool) (rooms : List Room) (has : List Bool) → AreRooms rooms has
    → Agree 0 rooms (position (is_open awake) (zip ups rooms)) (position (λ (l : Bool × Bool). cond awake l.0 (not l.0) && l.1) (zip ups has))
agree awake ups rooms has known =
    subst (λ (o : Option ℕ). Agree 0 rooms o (position (λ (l : Bool × Bool). cond awake l.0 (not l.0) && l.1) (zip ups has))) (sym (position_from-zero (is_open awake) (zip ups rooms)))
    (subst (λ (q : Option ℕ). Agree 0 rooms (position_from (is_open awake) 0 (zip ups rooms)) q) (sym (position_from-zero (λ (l : Bool × Bool). cond awake l.0 (not l.0) && l.1) (zip ups has)))
    (agree_from awake 0 ups rooms has known))

-- what follows where there is none agrees too
one_more : (rooms : List Room) (log : ℕ → Step) → ((lane : ℕ) → place_of (log lane) ≡ Some (InLog lane)) → (o q : Option ℕ) (other : Step) (p : Place) → Agree 0 rooms o q
    → IfSome (place_of other) (λ x. x ≡ p) → IfSome (place_of (log_or rooms log o other)) (λ x. x ≡ log_or_in q p)
unfolding Agree
one_more rooms log logs o q other p (inl (empty, none)) rest = rw (empty, none) rest
one_more rooms log logs o q other p (inr (j, found, inl unknown)) rest =
    let e : 0 + j ≡ j = omega arith in
    rw (found, e, unknown) tt
one_more rooms log logs o q other p (inr (j, found, inr (room, same))) rest =
    let e : 0 + j ≡ j = omega arith in
    rw (found, same, e, room, logs j) refl

pub agrees : (home_up covered : Bool) (ups : List Bool) (rooms : List Room) (has : List Bool) → AreRooms rooms has
    → IfSome (place_of (step_of home_up covered ups rooms)) (λ p. p ≡ place home_up covered ups has)
agrees home_up covered ups rooms has known = at (home_up && not covered) covered
  where
    last : (c : Bool) → IfSome (place_of (cond c (log_or rooms WakeLog (position (is_open false) (zip ups rooms)) Full) WakeHome)) (λ p. p ≡ cond c (log_or_in (position (λ (l : Bool × Bool). not l.0 && l.1) (zip ups has)) Nowhere) AtHome)
    last true = one_more rooms WakeLog (λ lane. refl) _ _ Full Nowhere (agree false ups rooms has known) refl
    last false = refl

    at : (h c : Bool) → IfSome (place_of (cond h Home (log_or rooms Log (position (is_open true) (zip ups rooms)) (cond c (log_or rooms WakeLog (position (is_open false) (zip ups rooms)) Full) WakeHome))))
        (λ p. p ≡ cond h AtHome (log_or_in (position (λ (l : Bool × Bool). l.0 && l.1) (zip ups has)) (cond c (log_or_in (position (λ (l : Bool × Bool). not l.0 && l.1) (zip ups has)) Nowhere) AtHome)))
    at true c = refl
    at false c = one_more rooms Log (λ lane. refl) _ _ _ _ (agree true ups rooms has known) (last c)

-- so does a step that is the rule's
pub agrees_at : (step : Step) (home_up covered : Bool) (ups : List Bool) (rooms : List Room) (has : List Bool) → step ≡ step_of home_up covered ups rooms → AreRooms rooms has
    → IfSome (place_of step) (λ p. p ≡ place home_up covered ups has)
agrees_at step home_up covered ups rooms has e known = rw e (agrees home_up covered ups rooms has known)
