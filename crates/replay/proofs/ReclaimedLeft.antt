-- What reclaim leaves of the histories: behind a window nothing is left to reclaim, and no helper works but beside the requests.
use Rattle.replay.proofs.Basics.{◌≡◌, ◌≢◌, ◌==◌, ℕ, Bool, true, false, cond, List, [], ◌∷◌, ◌++◌, Option, None, Some, refl, sym, ap, subst}
use Rattle.replay.proofs.Basics.{◌∙◌, filter, eq-eqb}
use Rattle.replay.proofs.Terms.{Begins, Entry, own, pass_mine, pass_seen, helper, worker, noted_of, IsIdleLook, Look, HasNoHelp, LeavesIdle}
use Rattle.replay.proofs.Terms.{by_worker, Noted, last_look, noted_is_back, notes_of, StepFault, HasClosed, ManagerPass, IsBroken, coded}
use Rattle.replay.proofs.Terms.{faulty_part, broken_more, down_breaks, last_joined, notes_joined, pass_kept, IsClosed, HelpedIn, Floor}
use Rattle.replay.proofs.Terms.{Reclaim, ServedFromStart, ServedWindow, WasServed, WereServed}
use Rattle.window_desks.specs.declared.request.Reclaim.TheVariants as reclaim

-- ---- The worker

-- the notes of one pass among all
pub own_noted : (n : ℕ) (es : List Entry) → filter (λ (m : Noted). m.entry.pass == n) (notes_of es) ≡ notes_of (own n es)
own_noted n [] = refl
own_noted n (e ∷ es) =
    let rest : List Noted = filter (λ (m : Noted). m.entry.pass == n) (notes_of es) in
    ap (λ (k : ℕ). cond (k == n) (noted_of e.0 e.1 ∷ rest) rest) (pass_kept e.0 e.1) ∙ at (e.0 == n) rest (own_noted n es)
  where
    at : (t : Bool) (rest : List Noted) → rest ≡ notes_of (own n es) → cond t (noted_of e.0 e.1 ∷ rest) rest ≡ notes_of (cond t (e ∷ own n es) (own n es))
    at true rest same = ap (λ (l : List Noted). noted_of e.0 e.1 ∷ l) same
    at false rest same = same

-- the last of the worker's entries
last_idle : (look : Look) (es front : List Entry) (n : Noted) → own worker es ≡ front ++ coded n ∷ [] → IsIdleLook n.look → LeavesIdle look (notes_of es)
last_idle look es front n mine idle =
    let all : by_worker (notes_of es) ≡ notes_of front ++ noted_of n.entry.pass (Rattle.wol_promise.specs.Code.code_of n) ∷ [] = own_noted worker es ∙ ap notes_of mine ∙ notes_joined front (coded n ∷ []) in
    let end : last_look look (by_worker (notes_of es)) ≡ n.look = ap (last_look look) (all ∙ ap (λ (m : Noted). notes_of front ++ m ∷ []) (noted_is_back n)) ∙ last_joined look (notes_of front) (n ∷ []) in
    subst IsIdleLook (sym end) idle

-- a reclaim turn left nothing, unless a call had failed
pub closed_idle : {D : Type 0} (tells : Bool) (mode : Reclaim) → mode ≢ reclaim.Off → (fault : Option StepFault) (p q : ManagerPass D) → IsClosed tells mode fault p q → (look : Look) (es : List Entry) → own worker es ≡ pass_mine q
    → Begins (pass_seen q) es → (IsBroken (notes_of es) → ⊥) → LeavesIdle look (notes_of es)
closed_idle {D} tells mode some fault p q closed look es mine seen whole = at mode some closed
  where
    turned : HasClosed tells fault p q → LeavesIdle look (notes_of es)
    turned c = idle fault refl
      where
        idle : (f : Option StepFault) → fault ≡ f → LeavesIdle look (notes_of es)
        idle None is = last_idle look es (pass_mine p) c.note (mine ∙ c.turned.mine) (c.idle is)
        idle (Some f) is =
            let broken : IsBroken (notes_of es) = subst IsBroken (sym (ap notes_of (sym seen.1) ∙ notes_joined (pass_seen q) seen.0)) (broken_more (notes_of (pass_seen q)) (notes_of seen.0) (down_breaks (faulty_part f) (notes_of (pass_seen q)) (c.cause f is))) in
            absurd (whole broken)

    at : (m : Reclaim) → m ≢ reclaim.Off → IsClosed tells m fault p q → LeavesIdle look (notes_of es)
    at reclaim.Off off c = absurd (off refl)
    at reclaim.Between off c = turned c
    at reclaim.Beside off c = turned c

-- windows that aren't none have a last one
pub last_of : {X : Type 0} (xs : List X) → xs ≢ [] → (front : List X) × (x : X) × (xs ≡ front ++ x ∷ [])
last_of [] some = absurd (some refl)
last_of (x ∷ []) some = ([], x, refl)
last_of (x ∷ y ∷ xs) some = let (front, z, is) = last_of (y ∷ xs) (λ none. cc none) in (x ∷ front, z, ap (λ l. x ∷ l) is)

-- ---- The helper

module _ {D : Type 0} (tells : Bool) (mode : Reclaim) (alone : mode ≢ reclaim.Beside) where
  no_help : (m : Reclaim) (ps qs : List (ManagerPass D)) → m ≢ reclaim.Beside → HelpedIn tells m ps qs → qs ≡ ps
  no_help reclaim.Off ps qs other same = same
  no_help reclaim.Between ps qs other same = same
  no_help reclaim.Beside ps qs other all = absurd (other refl)

  was_alone : (s : ServedWindow) (f : Floor D) (ps : List _) (g : Floor D) (qs : List _) → WasServed tells mode s f ps g qs → g.helpers.items ≡ f.helpers.items
  was_alone s f ps g qs was = no_help mode was.begun.helpers.items g.helpers.items alone was.run.helped ∙ ap (λ (x : Floor D). x.helpers.items) was.only

  were_alone : (ss : List ServedWindow) (f : Floor D) (ps : List _) (g : Floor D) (qs : List _) → WereServed tells mode ss f ps g qs → g.helpers.items ≡ f.helpers.items
  were_alone [] f ps g qs (floor, passes) = ap (λ (x : Floor D). x.helpers.items) floor
  were_alone (s ∷ ss) f ps g qs (h, rs, was, others) = were_alone ss h rs g qs others ∙ was_alone s f ps h rs was

  -- the helper's passes were not used
  pub served_alone : (ss : List ServedWindow) (f : Floor D) (ps : List _) (g : Floor D) (qs : List _) → ServedFromStart tells mode ss f ps g qs → g.helpers.items ≡ f.helpers.items
  served_alone [] f ps g qs (floor, passes) = ap (λ (x : Floor D). x.helpers.items) floor
  served_alone (s ∷ ss) f ps g qs (rs, started, were) = were_alone (s ∷ ss) f rs g qs were

pub none_helped : (es : List Entry) → own helper es ≡ [] → HasNoHelp (notes_of es)
none_helped [] none = tt
none_helped (e ∷ es) none = (
  λ is. (let here : true ≡ (e.0 == helper) = sym (eq-eqb e.0 helper (sym (pass_kept e.0 e.1) ∙ is)) in
      let some : e ∷ own helper es ≡ [] = ap (λ (t : Bool). cond t (e ∷ own helper es) (own helper es)) here ∙ none in absurd (cc some)),
  none_helped es (rest (e.0 == helper) none),
)
  where
    rest : (t : Bool) → cond t (e ∷ own helper es) (own helper es) ≡ [] → own helper es ≡ []
    rest true is = absurd (cc is)
    rest false is = is
