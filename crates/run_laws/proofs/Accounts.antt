-- The time that a spindle's journal covers.
use Rattle.std.proofs.Common.{◌≡◌, ◌≢◌, ◌⊎◌, ⊎_elim, ◌≤◌, ◌&&◌, ◌+◌, ℕ, Bool, true, false, cond, eqb, leb, max, List, [], ◌∷◌, ◌++◌, map, refl, sym, ap, subst, ◌∙◌, length, arith}
use Rattle.std.specs.List.{filter, AllByRecursion}
use Rattle.std.proofs.lemmas.Bool.{eqb-false}
use Rattle.wol_model.specs.Journal.{Use, Started, Began, Needed, Done, SpindleState, is_empty, new_spindle, rested, spindle_after, used}
use Rattle.wol_model.specs.declared.journal.Turned.{Turned}
use Rattle.wol_model.specs.declared.journal.Turned.TheVariants.{Down, Up}
use Rattle.wol_promise.specs.Spindle.{keeper_uses}
use Rattle.run_laws.specs.Journals.{AccountCovers, NoAccount, OthersAccess, uses_by}
use Rattle.run_laws.proofs.Fronts.{heads, tails}

IsAccess : Use → Type 0
IsAccess u = (u ≡ Needed) ⊎ (u ≡ Done)

-- a rest changes neither the beginning nor the moment
rest_keeps : (timeout : ℕ) (s : SpindleState) → ((rested timeout s).from ≡ s.from) × ((rested timeout s).now ≡ s.now)
rest_keeps timeout s = at (s.awake && (is_empty s.needing && leb (s.last_use + timeout) s.now))
  where
    at : (t : Bool) → ((cond t (record s { awake = false; journal = s.journal ++ Down (s.last_use + timeout) ∷ [] }) s).from ≡ s.from)
        × ((cond t (record s { awake = false; journal = s.journal ++ Down (s.last_use + timeout) ∷ [] }) s).now ≡ s.now)
    at true = (refl, refl)
    at false = (refl, refl)

module _ (timeout keeper : ℕ) where
  -- ---- an access

  access_keeps : (s : SpindleState) (pass : ℕ) (u : Use) → (u ≡ Needed) ⊎ (u ≡ Done) → ((used timeout s pass u).from ≡ s.from) × ((used timeout s pass u).now ≡ s.now)
  access_keeps s pass u is = ⊎_elim
      (λ e. (ap (λ (w : Use). (used timeout s pass w).from) e, ap (λ (w : Use). (used timeout s pass w).now) e))
      (λ e. (ap (λ (w : Use). (used timeout s pass w).from) e, ap (λ (w : Use). (used timeout s pass w).now) e)) is

  -- awake, with nothing written of it
  record Fresh (s : SpindleState) : Type 0 where
    awake : s.awake ≡ true
    none : s.journal ≡ []

  access_fresh : (s : SpindleState) (pass : ℕ) (u : Use) → Fresh s → (u ≡ Needed) ⊎ (u ≡ Done) → Fresh (used timeout s pass u)
  access_fresh s pass u fresh is = ⊎_elim (λ e. subst (λ (w : Use). Fresh (used timeout s pass w)) (sym e) needed) (λ e. subst (λ (w : Use). Fresh (used timeout s pass w)) (sym e) done) is
    where
      needed : Fresh (used timeout s pass Needed)
      needed = record { awake = refl; none = ap (λ (t : Bool). cond t s.journal (s.journal ++ Up s.now ∷ [])) fresh.awake ∙ fresh.none }

      done : Fresh (used timeout s pass Done)
      done = record { awake = fresh.awake; none = fresh.none }

  -- ---- whose a use is

  -- the keeper's first use is this one, or the use is another's
  data Whose (u : ℕ × Use) (uses : List (ℕ × Use)) (mine : List Use) : Type 0 where
    own : (rest : List Use) → mine ≡ u.1 ∷ rest → uses_by keeper uses ≡ rest → Whose u uses mine
    other : (u.1 ≡ Needed) ⊎ (u.1 ≡ Done) → uses_by keeper uses ≡ mine → Whose u uses mine

  whose : (u : ℕ × Use) (uses : List (ℕ × Use)) (mine : List Use) → (u.0 ≢ keeper → (u.1 ≡ Needed) ⊎ (u.1 ≡ Done)) → uses_by keeper (u ∷ uses) ≡ mine → Whose u uses mine
  whose u uses mine access is = at (eqb u.0 keeper) refl is
    where
      at : (t : Bool) → eqb u.0 keeper ≡ t → map (λ (w : ℕ × Use). w.1) (cond t (u ∷ filter (λ (w : ℕ × Use). eqb w.0 keeper) uses) (filter (λ (w : ℕ × Use). eqb w.0 keeper) uses)) ≡ mine → Whose u uses mine
      at true so e = own (uses_by keeper uses) (sym e) refl
      at false so e = other (access (eqb-false u.0 keeper so)) e

  -- ---- windows

  Ends : (start ended : ℕ) → SpindleState → Type 0
  Ends start ended s = (s.from ≡ start) × (s.now ≤ ended)

  windows : (start ended : ℕ) (uses : List (ℕ × Use)) (s : SpindleState) (moments : List ℕ) → OthersAccess keeper uses → uses_by keeper uses ≡ map Began moments → AllByRecursion (λ m. m ≤ ended) moments
      → s.from ≡ start → s.now ≤ ended → ((spindle_after timeout s uses).from ≡ start) × ((spindle_after timeout s uses).now ≤ ended)
  windows start ended [] s moments access is few from now = (from, now)
  windows start ended (u ∷ uses) s moments access is few from now =
      at (λ t ms e f a b. windows start ended uses t ms access.1 e f a b) (whose u uses (map Began moments) access.0 is)
    where
      Goal : Type 0
      Goal = ((spindle_after timeout (used timeout s u.0 u.1) uses).from ≡ start) × ((spindle_after timeout (used timeout s u.0 u.1) uses).now ≤ ended)

      began : ((t : SpindleState) (ms : List ℕ) → uses_by keeper uses ≡ map Began ms → AllByRecursion (λ m. m ≤ ended) ms → t.from ≡ start → t.now ≤ ended → ((spindle_after timeout t uses).from ≡ start) × ((spindle_after timeout t uses).now ≤ ended))
          → (ms : List ℕ) (rest : List Use) → AllByRecursion (λ m. m ≤ ended) ms → map Began ms ≡ u.1 ∷ rest → uses_by keeper uses ≡ rest
          → ((spindle_after timeout (used timeout s u.0 u.1) uses).from ≡ start) × ((spindle_after timeout (used timeout s u.0 u.1) uses).now ≤ ended)
      began further [] rest few front behind = absurd (let l = ap length front in omega (arith, l))
      began further (m ∷ ms) rest few front behind =
          let is_began : u.1 ≡ Began m = sym (heads (Began m) u.1 (map Began ms) rest front) in
          let t = record s { now = max m s.now } in
          let kept = rest_keeps timeout t in
          let few_now : (rested timeout t).now ≤ ended = (let a = few.0 in let e = kept.1 in omega (arith, a, now, e)) in
          subst (λ (w : Use). ((spindle_after timeout (used timeout s u.0 w) uses).from ≡ start) × ((spindle_after timeout (used timeout s u.0 w) uses).now ≤ ended)) (sym is_began)
          (further (rested timeout t) ms (behind ∙ sym (tails (Began m) u.1 (map Began ms) rest front)) few.1 (kept.0 ∙ from) few_now)

      at : ((t : SpindleState) (ms : List ℕ) → uses_by keeper uses ≡ map Began ms → AllByRecursion (λ m. m ≤ ended) ms → t.from ≡ start → t.now ≤ ended → ((spindle_after timeout t uses).from ≡ start) × ((spindle_after timeout t uses).now ≤ ended))
          → Whose u uses (map Began moments) → ((spindle_after timeout (used timeout s u.0 u.1) uses).from ≡ start) × ((spindle_after timeout (used timeout s u.0 u.1) uses).now ≤ ended)
      at further (own rest front behind) = began further moments rest few front behind
      at further (other one behind) =
          let kept = access_keeps s u.0 u.1 one in
          further (used timeout s u.0 u.1) moments behind few (kept.0 ∙ from) (let e = kept.1 in omega (arith, now, e))

  -- ---- before the account

  begins : (start ended : ℕ) (moments : List ℕ) (uses : List (ℕ × Use)) (s : SpindleState) → OthersAccess keeper uses → uses_by keeper uses ≡ keeper_uses start moments → start ≤ ended
      → AllByRecursion (λ m. m ≤ ended) moments → Fresh s → ((spindle_after timeout s uses).from ≡ start) × ((spindle_after timeout s uses).now ≤ ended)
  begins start ended moments [] s access is few all fresh = absurd (let l = ap length is in omega (arith, l))
  begins start ended moments (u ∷ uses) s access is few all fresh =
      at (λ t e f. begins start ended moments uses t access.1 e few all f) (whose u uses (keeper_uses start moments) access.0 is)
    where
      at : ((t : SpindleState) → uses_by keeper uses ≡ keeper_uses start moments → Fresh t → ((spindle_after timeout t uses).from ≡ start) × ((spindle_after timeout t uses).now ≤ ended))
          → Whose u uses (keeper_uses start moments) → ((spindle_after timeout (used timeout s u.0 u.1) uses).from ≡ start) × ((spindle_after timeout (used timeout s u.0 u.1) uses).now ≤ ended)
      at further (other one behind) = further (used timeout s u.0 u.1) behind (access_fresh s u.0 u.1 fresh one)
      at further (own rest front behind) =
          let is_start : u.1 ≡ Started start = sym (heads (Started start) u.1 (map Began moments) rest front) in
          let begun : used timeout s u.0 (Started start) ≡ record s { from = start; now = start; last_use = start }
          = ap (λ (l : List Turned). cond (is_empty l) (record s { from = start; now = start; last_use = start }) s) fresh.none in
          let t = record s { from = start; now = start; last_use = start } in
          subst (λ (w : SpindleState). ((spindle_after timeout w uses).from ≡ start) × ((spindle_after timeout w uses).now ≤ ended)) (sym (ap (used timeout s u.0) is_start ∙ begun))
          (windows start ended uses t moments access.1 (behind ∙ sym (tails (Started start) u.1 (map Began moments) rest front)) all refl few)

  idle : (uses : List (ℕ × Use)) (s : SpindleState) → OthersAccess keeper uses → uses_by keeper uses ≡ [] → ((spindle_after timeout s uses).from ≡ s.from) × ((spindle_after timeout s uses).now ≡ s.now)
  idle [] s access is = (refl, refl)
  idle (u ∷ uses) s access is = at (λ e. idle uses (used timeout s u.0 u.1) access.1 e) (whose u uses [] access.0 is)
    where
      at : (uses_by keeper uses ≡ [] → ((spindle_after timeout (used timeout s u.0 u.1) uses).from ≡ (used timeout s u.0 u.1).from) × ((spindle_after timeout (used timeout s u.0 u.1) uses).now ≡ (used timeout s u.0 u.1).now))
          → Whose u uses [] → ((spindle_after timeout (used timeout s u.0 u.1) uses).from ≡ s.from) × ((spindle_after timeout (used timeout s u.0 u.1) uses).now ≡ s.now)
      at further (own rest front behind) = absurd (let l = ap length front in omega (arith, l))
      at further (other one behind) = let kept = access_keeps s u.0 u.1 one in let rest = further behind in (rest.0 ∙ kept.0, rest.1 ∙ kept.1)

pub account_covers : AccountCovers
account_covers timeout keeper start ended moments uses access is few all = begins timeout keeper start ended moments uses new_spindle access is few all (record { awake = refl; none = refl })

pub no_account : NoAccount
no_account timeout keeper uses access is = idle timeout keeper uses new_spindle access is
