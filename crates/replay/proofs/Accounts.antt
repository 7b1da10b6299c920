-- A spindle's journal covers the account: its keeper began it, and each window of it.
use Rattle.replay.proofs.Basics.{◌≡◌, ◌≢◌, ◌<◌, ◌≤◌, ◌⊎◌, ℕ, zero, suc, Bool, true, false, cond, List, [], ◌∷◌, ◌++◌, length, map, refl}
use Rattle.replay.proofs.Basics.{sym, ap, subst, ◌∙◌, append_assoc, append-nil, length-append, inl, inr, arith, ◌==◌, Contains}
use Rattle.replay.proofs.Basics.{slice_index_or, filter, AllByRecursion, cases_eq, map-append}
use Rattle.replay.proofs.Terms.{Entry, own, pass_number, pass_mine, Use, Started, Began, Needed, Done, Timed, joined, joins}
use Rattle.replay.proofs.Terms.{opened, started, windows_by, windows_from, operation_of, use_of, uses_of, SpindleView, StandsFor}
use Rattle.replay.proofs.Terms.{SpindleBase, keeper_uses, OthersAccess, uses_by, SpindlePass, Floor, Reclaim, HaveStarted, ServedFromStart}
use Rattle.replay.proofs.Terms.{ServedWindow, WasServed, WereServed, HasJournal, amounts_in, new_spindle, spindle_after}
use Rattle.energy.proofs.Summed.{amounts_of_sums}
use Rattle.energy.specs.Sums.{AreSumsOf, amounts_of}
use Rattle.spin_model.specs.Spindles.{state_after, sums_until}
use Rattle.wol_model.specs.declared.journal.Powers.{Powers}
use Rattle.wol_model.specs.Trace.{Window}
use Rattle.spin_model.proofs.Alternating.{journal_alternates}
use Rattle.run_laws.proofs.Accounts.{account_covers, no_account}
use Rattle.trace_windows.specs.Laws.{AreInOrder}
use Rattle.rack_parts.proofs.Members.{is_member}
use Rattle.replay.proofs.RacksServed.{at_place, there_at}

-- ---- What a keeper used

-- these uses were added
pub record HasUsed (uses : List Use) (p q : SpindlePass) : Type 0 where
  pub number : pass_number q ≡ pass_number p
  pub mine : pass_mine q ≡ pass_mine p ++ map (λ (u : Use). (pass_number p, operation_of u)) uses

pub used_both : (us vs : List Use) (p q r : SpindlePass) → HasUsed us p q → HasUsed vs q r → HasUsed (us ++ vs) p r
used_both us vs p q r left right = record {
  number = right.number ∙ left.number;
  mine = right.mine ∙ (λ i. left.mine i ++ map (λ (u : Use). (left.number i, operation_of u)) vs)
      ∙ append_assoc (pass_mine p) (map (λ (u : Use). (pass_number p, operation_of u)) us) (map (λ (u : Use). (pass_number p, operation_of u)) vs)
      ∙ ap (λ (l : List Entry). pass_mine p ++ l) (sym (map-append (λ (u : Use). (pass_number p, operation_of u)) us vs));
}

pub short_or_long : {X : Type 0} (xs : List X) (k : ℕ) → (k < length xs) ⊎ ((d : X) → slice_index_or xs k d ≡ d)
short_or_long [] zero = inr (λ d. refl)
short_or_long [] (suc k) = inr (λ d. refl)
short_or_long (x ∷ xs) zero = inl (omega arith)
short_or_long (x ∷ xs) (suc k) = elim (short_or_long xs k) [
  | inl less ↦ inl (omega (arith, less))
  | inr short ↦ inr short
]

-- a pass that used something is there
pub there_after : (ps qs : List SpindlePass) (k : ℕ) (d : SpindlePass) (u : Use) → k < length ps → ((x : SpindlePass) → HasUsed (u ∷ []) (slice_index_or ps k x) (slice_index_or qs k x)) → k < length qs
there_after ps qs k d u lt used = elim (short_or_long qs k) [
  | inl less ↦ less
  | inr short ↦
      let p : SpindlePass = slice_index_or ps k d in
      let here : slice_index_or ps k p ≡ p = (at_place ps k p (there_at ps k d lt)).1 p in
      let grown : pass_mine (slice_index_or qs k p) ≡ pass_mine (slice_index_or ps k p) ++ (pass_number (slice_index_or ps k p), operation_of u) ∷ [] = (used p).mine in
      let same : length (pass_mine p) ≡ length (pass_mine (slice_index_or ps k p) ++ (pass_number (slice_index_or ps k p), operation_of u) ∷ []) = ap (λ (x : SpindlePass). length (pass_mine x)) (sym (short p)) ∙ ap length grown in
      let long = length-append (pass_mine (slice_index_or ps k p)) ((pass_number (slice_index_or ps k p), operation_of u) ∷ []) in
      let as_long : length (pass_mine (slice_index_or ps k p)) ≡ length (pass_mine p) = ap (λ (x : SpindlePass). length (pass_mine x)) here in
      absurd (omega (arith, same, long, as_long))
]

abbrev pub moments_of : List ServedWindow → List ℕ
moments_of ss = map (λ (s : ServedWindow). s.batch.moment) ss

module _ {D : Type 0} (tells : Bool) (mode : Reclaim) (k : ℕ) where
  were_used : (ss : List ServedWindow) (f : Floor D) (ps : List SpindlePass) (g : Floor D) (qs : List SpindlePass) (d : SpindlePass) → WereServed tells mode ss f ps g qs → k < length ps
      → HasUsed (map Began (moments_of ss)) (slice_index_or ps k d) (slice_index_or qs k d)
  were_used [] f ps g qs d (floor, passes) lt = subst (λ (x : List SpindlePass). HasUsed [] (slice_index_or ps k d) (slice_index_or x k d)) (sym passes) (record { number = refl; mine = sym (append-nil (pass_mine (slice_index_or ps k d))) })
  were_used (s ∷ ss) f ps g qs d (h, rs, was, others) lt =
      let one = λ (x : SpindlePass). used s f ps h rs was x lt in
      used_both (Began s.batch.moment ∷ []) (map Began (moments_of ss)) (slice_index_or ps k d) (slice_index_or rs k d) (slice_index_or qs k d) (one d)
      (were_used ss h rs g qs d others (there_after ps rs k d (Began s.batch.moment) lt one))
    where
      used : (s : ServedWindow) (f : Floor D) (ps : List SpindlePass) (h : Floor D) (rs : List SpindlePass) → WasServed tells mode s f ps h rs → (x : SpindlePass) → k < length ps
          → HasUsed (Began s.batch.moment ∷ []) (slice_index_or ps k x) (slice_index_or rs k x)
      used s f ps h rs was x lt = let b = was.spindles k false x lt in record { number = b.same.1; mine = b.mine }

  -- where there was a window
  pub served_used : (s : ServedWindow) (ss : List ServedWindow) (f : Floor D) (ps : List SpindlePass) (g : Floor D) (qs : List SpindlePass) (d : SpindlePass) → ServedFromStart tells mode (s ∷ ss) f ps g qs → k < length ps
      → HasUsed (keeper_uses s.batch.moment (moments_of (s ∷ ss))) (slice_index_or ps k d) (slice_index_or qs k d)
  served_used s ss f ps g qs d (rs, begun, were) lt =
      let one = λ (x : SpindlePass). start ps rs begun x lt in
      used_both (Started s.batch.moment ∷ []) (map Began (moments_of (s ∷ ss))) (slice_index_or ps k d) (slice_index_or rs k d) (slice_index_or qs k d) (one d)
      (were_used (s ∷ ss) f rs g qs d were (there_after ps rs k d (Started s.batch.moment) lt one))
    where
      start : (ps rs : List SpindlePass) → HaveStarted s.batch.moment ps rs → (x : SpindlePass) → k < length ps → HasUsed (Started s.batch.moment ∷ []) (slice_index_or ps k x) (slice_index_or rs k x)
      start ps rs begun x lt = let b = begun k x lt in record { number = b.same.1; mine = b.mine }

-- ---- Windows

first_moment : (cost : Timed → ℕ) (w : Window) (ls : List Timed) → (v : Window) × (vs : List Window) × (windows_from cost w ls ≡ v ∷ vs) × (v.moment ≡ w.moment)
first_moment cost w [] = (w, [], refl, refl)
first_moment cost w (l ∷ ls) = at (joins w l (cost l)) (first_moment cost (joined w l (cost l)) ls)
  where
    at : (t : Bool) → (v : Window) × (vs : List Window) × (windows_from cost (joined w l (cost l)) ls ≡ v ∷ vs) × (v.moment ≡ w.moment)
        → (v : Window) × (vs : List Window) × (cond t (windows_from cost (joined w l (cost l)) ls) (w ∷ windows_from cost (opened l (cost l)) ls) ≡ v ∷ vs) × (v.moment ≡ w.moment)
    at true next = next
    at false next = (w, windows_from cost (opened l (cost l)) ls, refl, refl)

abbrev window_moments : List Window → List ℕ
window_moments ws = map (λ (w : Window). w.moment) ws

-- the account starts with the first window
pub first_start : (cost : Timed → ℕ) (ts : List Timed) (m : ℕ) (ms : List ℕ) → m ∷ ms ≡ window_moments (windows_by cost ts) → m ≡ started ts
first_start cost [] m ms are = absurd (cc are)
first_start cost (l ∷ ls) m ms are =
    let (v, vs, is, same) = first_moment cost (opened l (cost l)) ls in
    let all : m ∷ ms ≡ v.moment ∷ window_moments vs = are ∙ ap window_moments is in
    let here : m ≡ v.moment = cc all in
    here ∙ same

pub no_start : (cost : Timed → ℕ) (ts : List Timed) → [] ≡ window_moments (windows_by cost ts) → started ts ≡ 0
no_start cost [] are = refl
no_start cost (l ∷ ls) are =
    let (v, vs, is, same) = first_moment cost (opened l (cost l)) ls in
    let all : [] ≡ v.moment ∷ window_moments vs = are ∙ ap window_moments is in
    absurd (cc all)

pub moments_within : (from : ℕ) (ws : List Window) (to : ℕ) → AreInOrder from ws to → AllByRecursion (λ (m : ℕ). m ≤ to) (window_moments ws) × (from ≤ to)
moments_within from [] to order = (tt, order)
moments_within from (w ∷ ws) to (first, others) = let (all, le) = moments_within w.moment ws to others in ((le, all), omega (arith, first, le))

-- ---- One spindle

abbrev pub AreOthers : (keeper : ℕ) → List Entry → Type 0
AreOthers keeper entries = AllByRecursion (λ (e : Entry). e.0 ≢ keeper → (use_of e.1 ≡ Needed) ⊎ (use_of e.1 ≡ Done)) entries

pub others_access : (keeper : ℕ) (entries : List Entry) → AreOthers keeper entries → OthersAccess keeper (uses_of entries)
others_access keeper [] all = tt
others_access keeper (e ∷ entries) (first, others) = (first, others_access keeper entries others)

pub own_uses : (keeper : ℕ) (entries : List Entry) → uses_by keeper (uses_of entries) ≡ map (λ (e : Entry). use_of e.1) (own keeper entries)
own_uses keeper [] = refl
own_uses keeper (e ∷ entries) = at (e.0 == keeper) (own_uses keeper entries)
  where
    at : (t : Bool) → uses_by keeper (uses_of entries) ≡ map (λ (x : Entry). use_of x.1) (own keeper entries)
        → map (λ (u : ℕ × Use). u.1) (cond t ((e.0, use_of e.1) ∷ filter (λ (u : ℕ × Use). u.0 == keeper) (uses_of entries)) (filter (λ (u : ℕ × Use). u.0 == keeper) (uses_of entries)))
        ≡ map (λ (x : Entry). use_of x.1) (cond t (e ∷ own keeper entries) (own keeper entries))
    at true same = ap (λ (l : List Use). use_of e.1 ∷ l) same
    at false same = same

-- who used the spindle of volume k, where a pass of another made no entries unless its view names k
pub named_users : (n k : ℕ) (views : ℕ → List ℕ) (entries : List Entry) → ((m : ℕ) → m ≢ n → m ≢ k → (Contains (views m) k → ⊥) → own m entries ≡ [])
    → (m : ℕ) → m ≢ n → uses_by m (uses_of entries) ≢ [] → (m ≡ k) ⊎ Contains (views m) k
named_users n k views entries none m other some = at (cases_eq m k) (is_member (views m) k)
  where
    at : (m ≡ k) ⊎ (m ≡ k → ⊥) → Contains (views m) k ⊎ (Contains (views m) k → ⊥) → (m ≡ k) ⊎ Contains (views m) k
    at (inl same) member = inl same
    at (inr differs) (inl has) = inr has
    at (inr differs) (inr never) = absurd (some (own_uses m entries ∙ ap (λ (es : List Entry). map (λ (e : Entry). use_of e.1) es) (none m other differs never)))

pub used_back : (n : ℕ) (moments : List ℕ) → map (λ (e : Entry). use_of e.1) (map (λ (u : Use). (n, operation_of u)) (map Began moments)) ≡ map Began moments
used_back n [] = refl
used_back n (m ∷ moments) = ap (λ (l : List Use). Began m ∷ l) (used_back n moments)

-- a spindle whose entries' account lies in this time
has_journal : (s : SpindleView) (b : SpindleBase) (entries : List Entry) {start : ℕ} (ended : ℕ) → StandsFor s b entries → (state_after b entries).from ≡ start → (state_after b entries).now ≤ ended → HasJournal start ended s
has_journal s b entries ended stands from now =
    let moment = stands.shows.moment in
    let le : s.moment ≤ ended = omega (arith, now, moment) in
    subst (λ (x : ℕ). HasJournal x ended s) from (record { moment = le; sums = ((state_after b entries).journal, journal_alternates s b entries ended stands le, stands.shows.sums ended) })

-- what it used is what it used by the journal of its uses
pub amounts_stand : (s : SpindleView) (b : SpindleBase) (entries : List Entry) → StandsFor s b entries → (powers : Powers) (from to : ℕ)
    → amounts_in powers from to s ≡ amounts_of powers from to (spindle_after s.timeout new_spindle (uses_of entries)).journal
amounts_stand s b entries stands powers from to = amounts_of_sums powers from to (sums_until s to) _
    (subst (λ (t : ℕ). AreSumsOf (sums_until s to) (spindle_after t new_spindle (uses_of entries)).journal to) (sym stands.timeout) (stands.shows.sums to))

pub account_journal : (s : SpindleView) (b : SpindleBase) (entries : List Entry) (n start ended : ℕ) (moments : List ℕ) → StandsFor s b entries → AreOthers n entries
    → own n entries ≡ map (λ (u : Use). (n, operation_of u)) (keeper_uses start moments) → start ≤ ended → AllByRecursion (λ (m : ℕ). m ≤ ended) moments → HasJournal start ended s
account_journal s b entries n start ended moments stands others mine le within =
    let by : uses_by n (uses_of entries) ≡ keeper_uses start moments = own_uses n entries ∙ ap (λ (es : List Entry). map (λ (e : Entry). use_of e.1) es) mine ∙ ap (λ (l : List Use). Started start ∷ l) (used_back n moments) in
    let (from, now) = account_covers b.timeout n start ended moments (uses_of entries) (others_access n entries others) by le within in
    has_journal s b entries ended stands from now

pub empty_journal : (s : SpindleView) (b : SpindleBase) (entries : List Entry) (n ended : ℕ) → StandsFor s b entries → AreOthers n entries → own n entries ≡ [] → HasJournal 0 ended s
empty_journal s b entries n ended stands others mine =
    let by : uses_by n (uses_of entries) ≡ [] = own_uses n entries ∙ ap (λ (es : List Entry). map (λ (e : Entry). use_of e.1) es) mine in
    let (from, now) = no_account b.timeout n (uses_of entries) (others_access n entries others) by in
    has_journal s b entries ended stands from (omega (arith, now))
