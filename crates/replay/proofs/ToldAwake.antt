-- What a keeper was told as windows began is what its disk's journal says then.
use Rattle.replay.proofs.Basics.{◌≡◌, ◌==◌, ◌<◌, ◌+◌, ◌++◌, ℕ, Bool, true, false, cond, List, [], ◌∷◌, length, refl, sym, ap, subst, ◌∙◌}
use Rattle.replay.proofs.Basics.{append_assoc, append-nil, length-append, arith, slice_index_or, eq-eqb, map-append, filter-append}
use Rattle.replay.proofs.Terms.{Begins, Entry, own, IsPartOf, IsSamePass, pass_lock, pass_mine, pass_number, pass_seen, Began, Done, Needed}
use Rattle.replay.proofs.Terms.{SpindleState, Started, Stayed, Use, new_spindle, spindle_after, used, operation_of, use_of, uses_of}
use Rattle.replay.proofs.Terms.{state_after, answer_then, answers_by, IsUnused, HasBegun, SpindlePass, Floor, Reclaim}
use Rattle.replay.proofs.Terms.{HasStarted, HaveStarted, ServedFromStart, ServedWindow, WasServed, WereServed, column}
use Rattle.replay.proofs.Accounts.{HasUsed, there_after}
use Rattle.replay.proofs.WorksServed.{awake_in, awake_then}

-- ---- Answers among uses

then_joined : (mine : Bool) (u : Use) (awake : Bool) (xs ys : List Bool) → answer_then mine u awake (xs ++ ys) ≡ answer_then mine u awake xs ++ ys
then_joined true (Began at) awake xs ys = refl
then_joined true (Started at) awake xs ys = refl
then_joined true Needed awake xs ys = refl
then_joined true Done awake xs ys = refl
then_joined true Stayed awake xs ys = refl
then_joined false u awake xs ys = refl

answers_joined : (t : ℕ) (s : SpindleState) (n : ℕ) (us vs : List (ℕ × Use)) → answers_by t s n (us ++ vs) ≡ answers_by t s n us ++ answers_by t (spindle_after t s us) n vs
answers_joined t s n [] vs = refl
answers_joined t s n (u ∷ us) vs =
    ap (λ (l : List Bool). answer_then (u.0 == n) u.1 (used t s u.0 u.1).awake l) (answers_joined t (used t s u.0 u.1) n us vs)
    ∙ then_joined (u.0 == n) u.1 (used t s u.0 u.1).awake (answers_by t (used t s u.0 u.1) n us) (answers_by t (spindle_after t (used t s u.0 u.1) us) n vs)

-- other passes are told nothing
others_told : (t : ℕ) (s : SpindleState) (n : ℕ) (es : List Entry) → own n es ≡ [] → answers_by t s n (uses_of es) ≡ []
others_told t s n [] none = refl
others_told t s n (e ∷ es) none = at (e.0 == n) none (λ rest. others_told t (used t s e.0 (use_of e.1)) n es rest)
  where
    at : (b : Bool) → cond b (e ∷ own n es) (own n es) ≡ [] → (own n es ≡ [] → answers_by t (used t s e.0 (use_of e.1)) n (uses_of es) ≡ [])
        → answer_then b (use_of e.1) (used t s e.0 (use_of e.1)).awake (answers_by t (used t s e.0 (use_of e.1)) n (uses_of es)) ≡ []
    at true gone rest = absurd (cc gone)
    at false gone rest = rest gone

after_joined : (t : ℕ) (s : SpindleState) (us vs : List (ℕ × Use)) → spindle_after t s (us ++ vs) ≡ spindle_after t (spindle_after t s us) vs
after_joined t s [] vs = refl
after_joined t s (u ∷ us) vs = after_joined t (used t s u.0 u.1) us vs

uses_joined : (xs ys : List Entry) → uses_of (xs ++ ys) ≡ uses_of xs ++ uses_of ys
uses_joined xs ys = map-append (λ (e : Entry). (e.0, use_of e.1)) xs ys

entries_told : (t : ℕ) (s : SpindleState) (n : ℕ) (xs ys : List Entry) → answers_by t s n (uses_of (xs ++ ys)) ≡ answers_by t s n (uses_of xs) ++ answers_by t (spindle_after t s (uses_of xs)) n (uses_of ys)
entries_told t s n xs ys = ap (answers_by t s n) (uses_joined xs ys) ∙ answers_joined t s n (uses_of xs) (uses_of ys)

entries_after : (t : ℕ) (s : SpindleState) (xs ys : List Entry) → spindle_after t s (uses_of (xs ++ ys)) ≡ spindle_after t (spindle_after t s (uses_of xs)) (uses_of ys)
entries_after t s xs ys = ap (spindle_after t s) (uses_joined xs ys) ∙ after_joined t s (uses_of xs) (uses_of ys)

own_parts : (n : ℕ) (xs ys : List Entry) → own n (xs ++ ys) ≡ own n xs ++ own n ys
own_parts n xs ys = filter-append (λ (e : Entry). e.0 == n) xs ys

none_left : {X : Type 0} (xs : List X) → length xs ≡ 0 → xs ≡ []
none_left [] is = refl
none_left (x ∷ xs) is = absurd (cc is)

-- ---- A keeper

abbrev pub timeout_of : SpindlePass → ℕ
timeout_of p = (pass_lock p).base.timeout

-- the state of its spindle behind all that it has seen
abbrev seen_state : SpindlePass → SpindleState
seen_state p = state_after (pass_lock p).base (pass_seen p)

-- What it was told since: `steps` entries of its own were made, and where no others of its own stand among those that it has seen since,
-- these are the answers of its spindle.
pub record WasTold (awake : List Bool) (p q : SpindlePass) : Type 0 where
  pub same : IsSamePass p q
  pub more : List Entry
  pub seen : pass_seen q ≡ pass_seen p ++ more
  pub steps : ℕ
  pub made : length (pass_mine q) ≡ length (pass_mine p) + steps
  pub extra : ℕ
  pub count : length (own (pass_number p) more) ≡ steps + extra
  pub told : extra ≡ 0 → answers_by (timeout_of p) (seen_state p) (pass_number p) (uses_of more) ≡ awake

pub told_none : (p : SpindlePass) → WasTold [] p p
told_none p = record { same = (refl, refl); more = []; seen = sym (append-nil (pass_seen p)); steps = 0; made = omega arith; extra = 0; count = refl; told = λ none. refl }

pub told_both : (xs ys : List Bool) (p q r : SpindlePass) → WasTold xs p q → WasTold ys q r → WasTold (xs ++ ys) p r
told_both xs ys p q r a b = record {
  same = (b.same.0 ∙ a.same.0, b.same.1 ∙ a.same.1);
  more = a.more ++ b.more;
  seen = b.seen ∙ ap (λ (l : List Entry). l ++ b.more) a.seen ∙ append_assoc (pass_seen p) a.more b.more;
  steps = a.steps + b.steps;
  made = (let x = a.made in let y = b.made in omega (arith, x, y));
  extra = a.extra + b.extra;
  count = (
      let split = ap length (own_parts (pass_number p) a.more b.more) ∙ length-append (own (pass_number p) a.more) (own (pass_number p) b.more) in
      let x = a.count in
      let y : length (own (pass_number p) b.more) ≡ b.steps + b.extra = ap (λ (n : ℕ). length (own n b.more)) (sym a.same.1) ∙ b.count in
      omega (arith, split, x, y));
  told = λ none. (
      let x = a.told (omega (arith, none)) in
      let y = b.told (omega (arith, none)) in
      let state : spindle_after (timeout_of p) (seen_state p) (uses_of a.more) ≡ seen_state q
      = sym (entries_after (timeout_of p) new_spindle (pass_seen p) a.more) ∙ (λ i. spindle_after ((sym a.same.0) i).base.timeout new_spindle (uses_of ((sym a.seen) i))) in
      let then_ : answers_by (timeout_of p) (spindle_after (timeout_of p) (seen_state p) (uses_of a.more)) (pass_number p) (uses_of b.more) ≡ ys
      = (λ i. answers_by ((sym a.same.0) i).base.timeout (state i) ((sym a.same.1) i) (uses_of b.more)) ∙ y in
      entries_told (timeout_of p) (seen_state p) (pass_number p) a.more b.more ∙ (λ i. x i ++ then_ i));
}

-- one entry of its own, behind those of others
one_step : (p q : SpindlePass) (u : Use) (awake : List Bool) → IsSamePass p q → (before : List Entry) → Begins (pass_seen p) before → pass_seen q ≡ before ++ (pass_number p, operation_of u) ∷ []
    → pass_mine q ≡ pass_mine p ++ (pass_number p, operation_of u) ∷ []
    → (use_of (operation_of u) ≡ u) → answer_then true u (spindle_after (timeout_of p) new_spindle (uses_of (before ++ (pass_number p, operation_of u) ∷ []))).awake [] ≡ awake → WasTold awake p q
one_step p q u awake same before (others, began) seen mine back answer = record {
  same = same;
  more = others ++ x ∷ [];
  seen = seen ∙ ap (λ (l : List Entry). l ++ x ∷ []) (sym began) ∙ append_assoc (pass_seen p) others (x ∷ []);
  steps = 1;
  made = ap length mine ∙ length-append (pass_mine p) (x ∷ []);
  extra = length (own n others);
  count = (
      let split = ap length (own_parts n others (x ∷ [])) ∙ length-append (own n others) (own n (x ∷ [])) in
      let one : length (own n (x ∷ [])) ≡ 1 = ap (λ (b : Bool). length (cond b (x ∷ []) [])) (eq-eqb n n refl) in
      omega (arith, split, one));
  told = λ none. (
      let front = others_told t (seen_state p) n others (none_left (own n others) none) in
      let state : spindle_after t (seen_state p) (uses_of others) ≡ spindle_after t new_spindle (uses_of before) = sym (entries_after t new_spindle (pass_seen p) others) ∙ ap (λ (l : List Entry). spindle_after t new_spindle (uses_of l)) began in
      let last : spindle_after t new_spindle (uses_of (before ++ x ∷ [])) ≡ used t (spindle_after t (seen_state p) (uses_of others)) n u
      = entries_after t new_spindle before (x ∷ []) ∙ (λ i. used t (sym state i) n (back i)) in
      let here : answers_by t (spindle_after t (seen_state p) (uses_of others)) n (uses_of (x ∷ [])) ≡ awake
      = (λ i. answer_then (eq-eqb n n refl i) (back i) (used t (spindle_after t (seen_state p) (uses_of others)) n (back i)).awake [])
      ∙ ap (λ (s : SpindleState). answer_then true u s.awake []) (sym last) ∙ answer in
      entries_told t (seen_state p) n others (x ∷ []) ∙ (λ i. front i ++ here i));
}
  where
    n : ℕ
    n = pass_number p

    t : ℕ
    t = timeout_of p

    x : Entry
    x = (pass_number p, operation_of u)

pub begun_told : (t : ℕ) (a : Bool) (p q : SpindlePass) → HasBegun t a p q → WasTold (a ∷ []) p q
begun_told t a p q b =
    let (before, begins, seen) = b.seen in
    one_step p q (Began t) (a ∷ []) b.same before begins seen b.mine refl
    (ap (λ (x : Bool). x ∷ []) (sym (b.answer ∙ (λ i. (spindle_after (b.same.0 i).base.timeout new_spindle (uses_of (seen i))).awake))))

pub started_told : (at : ℕ) (p q : SpindlePass) → HasStarted at p q → WasTold [] p q
started_told at p q b = let (before, begins, seen) = b.seen in one_step p q (Started at) [] b.same before begins seen b.mine refl refl

-- ---- Windows

module _ {D : Type 0} (tells : Bool) (mode : Reclaim) (k : ℕ) where
  were_told : (ss : List ServedWindow) (f : Floor D) (ps : List SpindlePass) (g : Floor D) (qs : List SpindlePass) (d : SpindlePass) (were : WereServed tells mode ss f ps g qs) → k < length ps
      → WasTold (column k (awake_then tells mode ss f ps g qs were)) (slice_index_or ps k d) (slice_index_or qs k d)
  unfolding awake_then
  were_told [] f ps g qs d (floor, passes) lt = subst (λ (x : List SpindlePass). WasTold [] (slice_index_or ps k d) (slice_index_or x k d)) (sym passes) (told_none (slice_index_or ps k d))
  were_told (s ∷ ss) f ps g qs d (h, rs, was, others) lt =
      let used_ = λ (x : SpindlePass). of_used s f ps h rs was x lt in
      told_both (slice_index_or was.awake k false ∷ []) (column k (awake_then tells mode ss h rs g qs others)) (slice_index_or ps k d) (slice_index_or rs k d) (slice_index_or qs k d)
      (begun_told s.batch.moment (slice_index_or was.awake k false) (slice_index_or ps k d) (slice_index_or rs k d) (was.spindles k false d lt))
      (were_told ss h rs g qs d others (there_after ps rs k d (Began s.batch.moment) lt used_))
    where
      of_used : (s : ServedWindow) (f : Floor D) (ps : List SpindlePass) (h : Floor D) (rs : List SpindlePass) → WasServed tells mode s f ps h rs → (x : SpindlePass) → k < length ps
          → HasUsed (Began s.batch.moment ∷ []) (slice_index_or ps k x) (slice_index_or rs k x)
      of_used s f ps h rs was x lt = let b = was.spindles k false x lt in record { number = b.same.1; mine = b.mine }

  pub served_told : (ss : List ServedWindow) (f : Floor D) (ps : List SpindlePass) (g : Floor D) (qs : List SpindlePass) (d : SpindlePass) (were : ServedFromStart tells mode ss f ps g qs) → k < length ps
      → WasTold (column k (awake_in tells mode ss f ps g qs were)) (slice_index_or ps k d) (slice_index_or qs k d)
  unfolding awake_in
  served_told [] f ps g qs d (floor, passes) lt = subst (λ (x : List SpindlePass). WasTold [] (slice_index_or ps k d) (slice_index_or x k d)) (sym passes) (told_none (slice_index_or ps k d))
  served_told (s ∷ ss) f ps g qs d (rs, started, were) lt =
      let used_ = λ (x : SpindlePass). of_used ps rs started x lt in
      told_both [] (column k (awake_then tells mode (s ∷ ss) f rs g qs were)) (slice_index_or ps k d) (slice_index_or rs k d) (slice_index_or qs k d)
      (started_told s.batch.moment (slice_index_or ps k d) (slice_index_or rs k d) (started k d lt))
      (were_told (s ∷ ss) f rs g qs d were (there_after ps rs k d (Started s.batch.moment) lt used_))
    where
      of_used : (ps rs : List SpindlePass) → HaveStarted s.batch.moment ps rs → (x : SpindlePass) → k < length ps → HasUsed (Started s.batch.moment ∷ []) (slice_index_or ps k x) (slice_index_or rs k x)
      of_used ps rs begun x lt = let b = begun k x lt in record { number = b.same.1; mine = b.mine }

-- all entries of the spindle's lock
pub all_told : (awake : List Bool) (p q : SpindlePass) (entries : List Entry) → IsUnused p → WasTold awake p q → IsPartOf entries q → answers_by (timeout_of q) new_spindle (pass_number q) (uses_of entries) ≡ awake
all_told awake p q entries unused told part =
    let (rest, all) = part.seen in
    let n : ℕ = pass_number p in
    let seen : pass_seen q ≡ told.more = told.seen ∙ ap (λ (l : List Entry). l ++ told.more) unused.seen in
    let whole : told.more ++ rest ≡ entries = ap (λ (l : List Entry). l ++ rest) (sym seen) ∙ all in
    let own_is : own n (told.more ++ rest) ≡ pass_mine q = ap (own n) whole ∙ ap (λ (m : ℕ). own m entries) (sym told.same.1) ∙ part.mine in
    let split = ap length (sym (own_parts n told.more rest)) ∙ ap length own_is in
    let sum = length-append (own n told.more) (own n rest) in
    let count = told.count in
    let made = told.made in
    let fresh : length (pass_mine p) ≡ 0 = ap length unused.mine in
    let no_extra : told.extra ≡ 0 = omega (arith, split, sum, count, made, fresh) in
    let no_rest : own n rest ≡ [] = none_left (own n rest) (omega (arith, split, sum, count, made, fresh)) in
    let start : seen_state p ≡ new_spindle = ap (λ (l : List Entry). state_after (pass_lock p).base l) unused.seen in
    let front : answers_by (timeout_of p) new_spindle n (uses_of told.more) ≡ awake = (λ i. answers_by (timeout_of p) (sym start i) n (uses_of told.more)) ∙ told.told no_extra in
    let behind = others_told (timeout_of p) (spindle_after (timeout_of p) new_spindle (uses_of told.more)) n rest no_rest in
    (λ i. answers_by (told.same.0 i).base.timeout new_spindle (told.same.1 i) (uses_of (sym whole i))) ∙ entries_told (timeout_of p) new_spindle n told.more rest ∙ (λ i. front i ++ behind i) ∙ append-nil awake
