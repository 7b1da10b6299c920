-- The keeper of a volume leaves the records as they are listed.
use Rattle.replay.proofs.Basics.{◌≡◌, ◌≢◌, ◌==◌, ◌<◌, ◌⊎◌, ◌++◌, ℕ, Bool, true, false, cond, List, [], ◌∷◌, length, refl, sym, ap, subst}
use Rattle.replay.proofs.Basics.{◌∙◌, inl, inr, ⊤, slice_index_or, AllByRecursion, eq-eqb, eqb-true, filter-append}
use Rattle.replay.proofs.Terms.{Begins, Entry, own, pass_mine, pass_number, pass_seen, helper, keeper, worker, noted_of, Look, Noted}
use Rattle.replay.proofs.Terms.{last_look, noted_is_back, notes_of, HasBegunVolume, ManagerPass, began, coded, AreOthersIdle, notes_joined}
use Rattle.replay.proofs.Terms.{nothing_more, pass_kept, HaveBegunVolumes, Floor, Reclaim, ServedFromStart, ServedWindow, WasServed}
use Rattle.replay.proofs.Terms.{WereServed}
use Rattle.replay.proofs.EntriesOwn.{all_of_three}
use Rattle.replay.proofs.PassesRuled.{pass_there}
use Rattle.replay.proofs.StationsRan.{EndsOn}

-- ---- Entries

-- each entry of the keeper leaves the records as they were listed
abbrev pub IsKeeperIdle : Look → List Noted → Type 0
IsKeeperIdle l [] = ⊤
IsKeeperIdle l (n ∷ notes) = (n.entry.pass ≡ keeper → n.look.listed ≡ l.listed) × IsKeeperIdle n.look notes

idle_joined : (l : Look) (xs ys : List Noted) → IsKeeperIdle l xs → IsKeeperIdle (last_look l xs) ys → IsKeeperIdle l (xs ++ ys)
idle_joined l [] ys left right = right
idle_joined l (x ∷ xs) ys (first, others) right = (first, idle_joined x.look xs ys others right)

-- where none is of a pass, the first isn't, and none of the others
pub none_first : (n : ℕ) (e : Entry) (es : List Entry) → own n (e ∷ es) ≡ [] → ((noted_of e.0 e.1).entry.pass ≡ n → ⊥) × (own n es ≡ [])
none_first n e es none = at (e.0 == n) refl none
  where
    at : (t : Bool) → (e.0 == n) ≡ t → cond t (e ∷ own n es) (own n es) ≡ [] → ((noted_of e.0 e.1).entry.pass ≡ n → ⊥) × (own n es ≡ [])
    at true is gone = absurd (cc gone)
    at false is gone = (λ mine. (let so : true ≡ false = sym (eq-eqb e.0 n (sym (pass_kept e.0 e.1) ∙ mine)) ∙ is in cc so), gone)

-- where none is the keeper's
idle_none : (l : Look) (es : List Entry) → own keeper es ≡ [] → IsKeeperIdle l (notes_of es)
idle_none l [] none = tt
idle_none l (e ∷ es) none = let (other, rest) = none_first keeper e es none in (λ mine. absurd (other mine), idle_none (noted_of e.0 e.1).look es rest)

pub own_joined : (n : ℕ) (xs ys : List Entry) → own n (xs ++ ys) ≡ own n xs ++ own n ys
own_joined n xs ys = filter-append (λ (e : Entry). e.0 == n) xs ys

own_one : (note : Noted) → note.entry.pass ≡ keeper → own keeper (coded note ∷ []) ≡ coded note ∷ []
own_one note is = ap (λ (t : Bool). cond t (coded note ∷ []) []) (eq-eqb note.entry.pass keeper is)

-- ---- One pass

-- a keeper's pass that left the records as they were listed
pub record IsIdlePass {D : Type 0} (p : ManagerPass D) : Type 0 where
  pub number : pass_number p ≡ keeper
  pub mine : own keeper (pass_seen p) ≡ pass_mine p
  pub idle : IsKeeperIdle (began p).look (notes_of (pass_seen p))

-- behind what a pass saw there are no entries of its own
none_behind : (seen rest mine : List Entry) → own keeper seen ≡ mine → own keeper (seen ++ rest) ≡ mine → own keeper rest ≡ []
none_behind seen rest mine is all = nothing_more (own keeper seen) (own keeper rest) (sym (own_joined keeper seen rest) ∙ all ∙ sym is)

-- so all entries that begin with those are idle
pub idle_through : {D : Type 0} (p : ManagerPass D) (es : List Entry) → IsIdlePass p → Begins (pass_seen p) es → own keeper es ≡ pass_mine p → IsKeeperIdle (began p).look (notes_of es)
idle_through p es is (rest, same) mine =
    let none = none_behind (pass_seen p) rest (pass_mine p) is.mine (ap (own keeper) same ∙ mine) in
    subst (λ (l : List Entry). IsKeeperIdle (began p).look (notes_of l)) same
    (subst (λ (ns : List Noted). IsKeeperIdle (began p).look ns) (sym (notes_joined (pass_seen p) rest))
    (idle_joined (began p).look (notes_of (pass_seen p)) (notes_of rest) is.idle (idle_none (last_look (began p).look (notes_of (pass_seen p))) rest none)))

idle_turn : {D : Type 0} (tells : Bool) (awake : List Bool) (p q : ManagerPass D) → HasBegunVolume tells awake p q → IsIdlePass p → IsIdlePass q
idle_turn {D} tells awake p q b is =
    let t = b.turned in
    let base : began q ≡ began p = ap (λ x. x.base.volume.began) t.same.0 in
    let before : own keeper b.before ≡ pass_mine p = ap (λ (n : ℕ). own n b.before) (sym is.number) ∙ t.others in
    let front = idle_through p b.before is t.begins before in
    let pass : b.note.entry.pass ≡ keeper = t.number ∙ is.number in
    let last : IsKeeperIdle (last_look (began p).look (notes_of b.before)) (notes_of (coded b.note ∷ [])) =
    subst (λ (n : Noted). IsKeeperIdle (last_look (began p).look (notes_of b.before)) (n ∷ [])) (sym (noted_is_back b.note)) (λ mine. b.records, tt) in
    record {
      number = t.same.1 ∙ is.number;
      mine = ap (own keeper) t.seen ∙ own_joined keeper b.before (coded b.note ∷ []) ∙ (λ i. before i ++ own_one b.note pass i) ∙ sym t.mine;
      idle = subst (λ (x : _). IsKeeperIdle x.look (notes_of (pass_seen q))) (sym base)
          (subst (λ (l : List Entry). IsKeeperIdle (began p).look (notes_of l)) (sym t.seen)
          (subst (λ (ns : List Noted). IsKeeperIdle (began p).look ns) (sym (notes_joined b.before (coded b.note ∷ [])))
          (idle_joined (began p).look (notes_of b.before) (notes_of (coded b.note ∷ [])) front last)));
    }

-- ---- On a floor

module _ {D : Type 0} (tells : Bool) (mode : Reclaim) (k : ℕ) (p : ManagerPass D) (client : pass_number p ≡ worker) where
  abbrev pub idle_on : Floor D → Type 0
  idle_on f = (k < length f.keepers.items) × IsIdlePass (slice_index_or f.keepers.items k p)

  begun_idle : (awake : List Bool) (ps qs : List (ManagerPass D)) → HaveBegunVolumes tells awake ps qs → k < length ps → IsIdlePass (slice_index_or ps k p) → (k < length qs) × IsIdlePass (slice_index_or qs k p)
  begun_idle awake ps qs all lt is = (
    pass_there ps qs k p (λ same. (let no : worker ≡ keeper = sym client ∙ same ∙ is.number in absurd (cc no))) (all k p lt).turned.same,
    idle_turn tells awake (slice_index_or ps k p) (slice_index_or qs k p) (all k p lt) is,
  )

  was_idle : (s : ServedWindow) (f : Floor D) (ps : List _) (g : Floor D) (qs : List _) → WasServed tells mode s f ps g qs → idle_on f → idle_on g
  was_idle s f ps g qs was (lt, is) =
      subst (λ x. (k < length x.items) × IsIdlePass (slice_index_or x.items k p)) (sym was.run.keepers) (begun_idle was.awake f.keepers.items was.begun.keepers.items was.volumes lt is)

  were_idle : (ss : List ServedWindow) (f : Floor D) (ps : List _) (g : Floor D) (qs : List _) → WereServed tells mode ss f ps g qs → idle_on f → idle_on g
  were_idle [] f ps g qs were is = subst (λ (x : Floor D). idle_on x) (sym were.0) is
  were_idle (s ∷ ss) f ps g qs (h, rs, was, others) is = were_idle ss h rs g qs others (was_idle s f ps h rs was is)

  served_idle : (ss : List ServedWindow) (f : Floor D) (ps : List _) (g : Floor D) (qs : List _) → ServedFromStart tells mode ss f ps g qs → idle_on f → idle_on g
  served_idle [] f ps g qs were is = subst (λ (x : Floor D). idle_on x) (sym were.0) is
  served_idle (s ∷ ss) f ps g qs (rs, started, were) is = were_idle (s ∷ ss) f rs g qs were is

  pub ended_idle : (ss : List ServedWindow) (f : Floor D) (ps : List _) (g : Floor D) (qs : List _) (h : Floor D) → ServedFromStart tells mode ss f ps g qs → EndsOn tells g h → idle_on f → idle_on h
  ended_idle ss f ps g qs h served (inl same) is = subst (λ (x : Floor D). idle_on x) (sym same) (served_idle ss f ps g qs served is)
  ended_idle ss f ps g qs h served (inr not_run) is = at not_run.keepers (served_idle ss f ps g qs served is)
    where
      at : (h.keepers ≡ g.keepers) ⊎ ((awake : List Bool) × HaveBegunVolumes tells awake g.keepers.items h.keepers.items) → idle_on g → idle_on h
      at (inl same) here = subst (λ x. (k < length x.items) × IsIdlePass (slice_index_or x.items k p)) (sym same) here
      at (inr (awake, begun)) (lt, here) = begun_idle awake g.keepers.items h.keepers.items begun lt here

-- ---- All passes

-- an entry is of one of the three passes
abbrev IsOfThree : Entry → Type 0
IsOfThree e = (e.0 ≡ worker) ⊎ ((e.0 ≡ helper) ⊎ (e.0 ≡ keeper))

own_all : (n : ℕ) (P : Entry → Type 0) → ((e : Entry) → e.0 ≡ n → P e) → (es : List Entry) → AllByRecursion P (own n es)
own_all n P holds [] = tt
own_all n P holds (e ∷ es) = at (e.0 == n) refl (own_all n P holds es)
  where
    at : (t : Bool) → (e.0 == n) ≡ t → AllByRecursion P (own n es) → AllByRecursion P (cond t (e ∷ own n es) (own n es))
    at true is rest = (holds e (eqb-true e.0 n is), rest)
    at false is rest = rest

others_idle : (l : Look) (es : List Entry) → AllByRecursion IsOfThree es → IsKeeperIdle l (notes_of es) → AreOthersIdle l (notes_of es)
others_idle l [] three idle = tt
others_idle l (e ∷ es) (first, others) (here, rest) = (at first, others_idle (noted_of e.0 e.1).look es others rest)
  where
    at : IsOfThree e → ((noted_of e.0 e.1).entry.pass ≡ worker) ⊎ (((noted_of e.0 e.1).entry.pass ≡ helper) ⊎ (((noted_of e.0 e.1).entry.pass ≡ keeper) × ((noted_of e.0 e.1).look.listed ≡ l.listed)))
    at (inl is) = inl (pass_kept e.0 e.1 ∙ is)
    at (inr (inl is)) = inr (inl (pass_kept e.0 e.1 ∙ is))
    at (inr (inr is)) = inr (inr (pass_kept e.0 e.1 ∙ is, here (pass_kept e.0 e.1 ∙ is)))

pub all_others_idle : (l : Look) (es : List Entry) → ((n : ℕ) → n ≢ worker → n ≢ helper → n ≢ keeper → own n es ≡ []) → IsKeeperIdle l (notes_of es) → AreOthersIdle l (notes_of es)
all_others_idle l es none idle = others_idle l es (all_of_three IsOfThree es none (own_all worker IsOfThree (λ e is. inl is) es) (own_all helper IsOfThree (λ e is. inr (inl is)) es) (own_all keeper IsOfThree (λ e is. inr (inr is)) es)) idle
