-- What windows count of reclaim is what their passes' own entries come to.
use Rattle.replay.proofs.Basics.{◌≡◌, ◌≢◌, ◌<◌, ◌≤◌, ◌+◌, ◌-◌, ◌^◌, ℕ, zero, suc, Bool, List, [], ◌∷◌, length, map, min, refl, sym, ap}
use Rattle.replay.proofs.Basics.{subst, ◌∙◌, inl, inr, arith, slice_index_or, sum_by, cases_eq, cases_lt, sum_by-cons}
use Rattle.replay.proofs.Terms.{pass_number, IsFree, Look, put_home_by, Counts, dropped_by, ManagerPass, gains_none, AreHonest, all_between}
use Rattle.replay.proofs.Terms.{workers_of, AreHelped, HelpedIn, Desk, Floor, Reclaim, HaveGained, all_both, gained_honest}
use Rattle.replay.proofs.Terms.{have_gained_both, window_gained, most_count, ServedFromStart, ServedWindow, WasServed, WereServed}
use Rattle.request_turns.proofs.Counting.{between_none}
use Rattle.replay.proofs.FirstsServed.{was_worked}
use Rattle.replay.proofs.PassesRuled.{pass_there}
use Rattle.replay.proofs.RacksServed.{a_member}
use Rattle.window_desks.specs.declared.request.Reclaim.TheVariants as reclaim

-- ---- Passes that did nothing

-- each is in no turn
abbrev pub AreFree : {D : Type 0} → List (ManagerPass D) → Type 0
AreFree {D} ps = (k : ℕ) (d : ManagerPass D) → k < length ps → IsFree (slice_index_or ps k d)

same_gained : {D : Type 0} (tells : Bool) (ps : List (ManagerPass D)) → AreFree ps → HaveGained tells ps ps
same_gained tells [] free = tt
same_gained tells (p ∷ ps) free = (([], [], gains_none tells p (free 0 p (omega arith))), same_gained tells ps (λ k d lt. free (suc k) d (omega (arith, lt))))

none_between : {D : Type 0} (worth : Bool → Look → Look → ℕ) (ps : List (ManagerPass D)) → all_between worth ps ps ≡ 0
none_between worth [] = refl
none_between worth (p ∷ ps) = let one = between_none worth p in let rest = none_between worth ps in omega (arith, one, rest)

-- passes are free behind their turns
still_free : {D : Type 0} (tells : Bool) (ps qs : List (ManagerPass D)) → HaveGained tells ps qs → AreFree qs
still_free tells [] [] gained k d lt = absurd (omega (arith, lt))
still_free tells [] (q ∷ qs) gained k d lt = absurd gained
still_free tells (p ∷ ps) [] gained k d lt = absurd gained
still_free tells (p ∷ ps) (q ∷ qs) gained zero d lt = gained.0.2.free
still_free tells (p ∷ ps) (q ∷ qs) gained (suc k) d lt = still_free tells ps qs gained.1 k d (omega (arith, lt))

-- ---- As many as before

pub no_fewer : (n m : ℕ) → ((k : ℕ) → k < n → k < m) → n ≤ m
no_fewer n m all = elim (cases_lt m n) [
  | inl less ↦ let no = all m less in absurd (omega (arith, no))
  | inr more ↦ more
]

-- counts that stand still at a number
capped_both : (w m x y z most : ℕ) → min w most ≡ min x most → min m most ≡ min y most → z ≡ x + y → min (w + m) most ≡ min z most
capped_both w m x y z most a b c = omega (arith, a, b, c)

module _ {D : Type 0} (tells : Bool) (mode : Reclaim) where
  was_desks : (s : ServedWindow) (f : Floor D) (ps : List _) (g : Floor D) (qs : List _) → WasServed tells mode s f ps g qs → length f.desks.items ≤ length g.desks.items
  was_desks s f ps g qs was = no_fewer (length f.desks.items) (length g.desks.items) (λ k lt. (was_worked tells mode k (a_member f.desks.items k lt).0 s f ps g qs was lt).1)

  were_desks : (ss : List ServedWindow) (f : Floor D) (ps : List _) (g : Floor D) (qs : List _) → WereServed tells mode ss f ps g qs → length f.desks.items ≤ length g.desks.items
  were_desks [] f ps g qs were = let same = ap (λ (x : Floor D). length x.desks.items) were.0 in omega (arith, same)
  were_desks (s ∷ ss) f ps g qs (h, rs, was, others) = let first = was_desks s f ps h rs was in let rest = were_desks ss h rs g qs others in omega (arith, first, rest)

  pub served_desks : (ss : List ServedWindow) (f : Floor D) (ps : List _) (g : Floor D) (qs : List _) → ServedFromStart tells mode ss f ps g qs → length f.desks.items ≤ length g.desks.items
  served_desks [] f ps g qs were = let same = ap (λ (x : Floor D). length x.desks.items) were.0 in omega (arith, same)
  served_desks (s ∷ ss) f ps g qs (rs, started, were) = were_desks (s ∷ ss) f rs g qs were

  -- the helpers of a window, where there are passes with two numbers
  module _ (client other : ManagerPass D) (apart : pass_number client ≢ pass_number other) where
    there_still : (ps qs : List (ManagerPass D)) → AreHelped tells ps qs → (k : ℕ) → k < length ps → k < length qs
    there_still ps qs all k lt = elim (cases_eq (pass_number client) (pass_number (slice_index_or ps k client))) [
      | inl same ↦ pass_there ps qs k other (λ is. apart (same ∙ ap (λ (x : ManagerPass D). pass_number x) (alike ps k client other lt) ∙ sym is)) (all k other lt).gains.same
      | inr unlike ↦ pass_there ps qs k client unlike (all k client lt).gains.same
    ]
      where
        alike : (xs : List (ManagerPass D)) (j : ℕ) (x y : ManagerPass D) → j < length xs → slice_index_or xs j x ≡ slice_index_or xs j y
        alike [] j x y less = absurd (omega (arith, less))
        alike (z ∷ xs) zero x y less = refl
        alike (z ∷ xs) (suc j) x y less = alike xs j x y (omega (arith, less))

    helped_more : (m : Reclaim) (ps qs : List (ManagerPass D)) → HelpedIn tells m ps qs → length ps ≤ length qs
    helped_more reclaim.Off ps qs same = let e = ap length same in omega (arith, e)
    helped_more reclaim.Between ps qs same = let e = ap length same in omega (arith, e)
    helped_more reclaim.Beside ps qs all = no_fewer (length ps) (length qs) (there_still ps qs all)

    was_helpers : (s : ServedWindow) (f : Floor D) (ps : List _) (g : Floor D) (qs : List _) → WasServed tells mode s f ps g qs → length f.helpers.items ≤ length g.helpers.items
    was_helpers s f ps g qs was = helped_more mode f.helpers.items g.helpers.items (subst (λ x. HelpedIn tells mode x.items g.helpers.items) (ap (λ (x : Floor D). x.helpers) was.only) was.run.helped)

    were_helpers : (ss : List ServedWindow) (f : Floor D) (ps : List _) (g : Floor D) (qs : List _) → WereServed tells mode ss f ps g qs → length f.helpers.items ≤ length g.helpers.items
    were_helpers [] f ps g qs were = let same = ap (λ (x : Floor D). length x.helpers.items) were.0 in omega (arith, same)
    were_helpers (s ∷ ss) f ps g qs (h, rs, was, others) = let first = was_helpers s f ps h rs was in let rest = were_helpers ss h rs g qs others in omega (arith, first, rest)

  -- ---- What a window counted

  helpers_gained : (m : Reclaim) (ps qs : List (ManagerPass D)) → HelpedIn tells m ps qs → AreFree ps → length qs ≡ length ps → HaveGained tells ps qs
  helpers_gained reclaim.Off ps qs same free sized = subst (λ l. HaveGained tells ps l) (sym same) (same_gained tells ps free)
  helpers_gained reclaim.Between ps qs same free sized = subst (λ l. HaveGained tells ps l) (sym same) (same_gained tells ps free)
  helpers_gained reclaim.Beside ps qs all free sized = each ps qs sized all
    where
      each : (xs ys : List (ManagerPass D)) → length ys ≡ length xs → AreHelped tells xs ys → HaveGained tells xs ys
      each [] [] same h = tt
      each [] (y ∷ ys) same h = absurd (omega (arith, same))
      each (x ∷ xs) [] same h = absurd (omega (arith, same))
      each (x ∷ xs) (y ∷ ys) same h = let one = h 0 x (omega arith) in ((one.more, one.notes, one.gains), each xs ys (omega (arith, same)) (λ k d lt. h (suc k) d (omega (arith, lt))))

  -- the passes of a floor made turns since, and these come to what was counted
  pub record HaveCounted (blocks records : ℕ) (f g : Floor D) : Type 0 where
    pub workers : HaveGained tells (workers_of f) (workers_of g)
    pub helpers : HaveGained tells f.helpers.items g.helpers.items
    pub blocks_are : min blocks most_count ≡ min (all_between put_home_by (workers_of f) (workers_of g) + all_between put_home_by f.helpers.items g.helpers.items) most_count
    pub records_are : min records most_count ≡ min (all_between dropped_by (workers_of f) (workers_of g) + all_between dropped_by f.helpers.items g.helpers.items) most_count

  -- a floor whose passes are honest, each in no turn
  pub record IsReady (f : Floor D) : Type 0 where
    pub workers : AreHonest tells (workers_of f)
    pub helpers : AreHonest tells f.helpers.items
    pub free : AreFree (workers_of f)
    pub helpers_free : AreFree f.helpers.items

  pub ready_still : (b r : ℕ) (f g : Floor D) → HaveCounted b r f g → IsReady f → IsReady g
  ready_still b r f g c is = record {
    workers = gained_honest tells (workers_of f) (workers_of g) c.workers is.workers;
    helpers = gained_honest tells f.helpers.items g.helpers.items c.helpers is.helpers;
    free = still_free tells (workers_of f) (workers_of g) c.workers;
    helpers_free = still_free tells f.helpers.items g.helpers.items c.helpers;
  }

  counted_none : (f : Floor D) → IsReady f → HaveCounted 0 0 f f
  counted_none f is = record {
    workers = same_gained tells (workers_of f) is.free;
    helpers = same_gained tells f.helpers.items is.helpers_free;
    blocks_are = (let a = none_between put_home_by (workers_of f) in let b = none_between put_home_by f.helpers.items in omega (arith, a, b));
    records_are = (let a = none_between dropped_by (workers_of f) in let b = none_between dropped_by f.helpers.items in omega (arith, a, b));
  }

  counted_window : (s : ServedWindow) (f : Floor D) (ps : List _) (g : Floor D) (qs : List _) → WasServed tells mode s f ps g qs → IsReady f → length g.desks.items ≡ length f.desks.items → length g.helpers.items ≡ length f.helpers.items
      → HaveCounted s.answer.blocks s.answer.records f g
  counted_window s f ps g qs was is desks helpers =
      let begun : was.begun.desks ≡ f.desks = ap (λ (x : Floor D). x.desks) was.only in
      let begun_helpers : was.begun.helpers ≡ f.helpers = ap (λ (x : Floor D). x.helpers) was.only in
      let counts = subst (λ (x : Floor D). AreHonest tells (workers_of x) → AreHonest tells x.helpers.items
      → Counts (all_between put_home_by (workers_of x) (workers_of g) + all_between put_home_by x.helpers.items g.helpers.items)
      (all_between dropped_by (workers_of x) (workers_of g) + all_between dropped_by x.helpers.items g.helpers.items) (record { blocks = s.answer.blocks; records = s.answer.records })) was.only was.run.counted is.workers is.helpers in
      let b = counts.blocks_ in
      let r = counts.records_ in
      record {
        workers = subst (λ x. HaveGained tells (map (λ (d : Desk D). d.worker) x.items) (workers_of g)) begun
            (window_gained tells s.batch.requests s.answer.outcomes.items mode was.begun.desks.items g.desks.items (desks ∙ sym (ap (λ x. length x.items) begun)) was.run.worked);
        helpers = helpers_gained mode f.helpers.items g.helpers.items (subst (λ x. HelpedIn tells mode x.items g.helpers.items) begun_helpers was.run.helped) is.helpers_free helpers;
        blocks_are = capped _ _ b;
        records_are = capped _ _ r;
      }
    where
      capped : (n x : ℕ) → n ≡ min x (2 ^ 64 - 1) → min n most_count ≡ min x most_count
      capped n x is_ = omega (arith, is_)

  counted_both : (b c r t : ℕ) (f g h : Floor D) → HaveCounted b r f g → HaveCounted c t g h → HaveCounted (b + c) (r + t) f h
  counted_both b c r t f g h first then = record {
    workers = have_gained_both tells (workers_of f) (workers_of g) (workers_of h) first.workers then.workers;
    helpers = have_gained_both tells f.helpers.items g.helpers.items h.helpers.items first.helpers then.helpers;
    blocks_are = (let p = all_both tells put_home_by (workers_of f) (workers_of g) (workers_of h) first.workers then.workers in
        let q = all_both tells put_home_by f.helpers.items g.helpers.items h.helpers.items first.helpers then.helpers in
        capped_both b c _ _ _ most_count first.blocks_are then.blocks_are (omega (arith, p, q)));
    records_are = (let p = all_both tells dropped_by (workers_of f) (workers_of g) (workers_of h) first.workers then.workers in
        let q = all_both tells dropped_by f.helpers.items g.helpers.items h.helpers.items first.helpers then.helpers in
        capped_both r t _ _ _ most_count first.records_are then.records_are (omega (arith, p, q)));
  }

  -- ---- All windows

  module _ (client other : ManagerPass D) (apart : pass_number client ≢ pass_number other) where
    were_counted : (ss : List ServedWindow) (f : Floor D) (ps : List _) (g : Floor D) (qs : List _) → WereServed tells mode ss f ps g qs → IsReady f → length g.desks.items ≡ length f.desks.items → length g.helpers.items ≡ length f.helpers.items
        → HaveCounted (sum_by (λ (s : ServedWindow). s.answer.blocks) ss) (sum_by (λ (s : ServedWindow). s.answer.records) ss) f g
    were_counted [] f ps g qs were is desks helpers = subst (λ (x : Floor D). HaveCounted 0 0 f x) (sym were.0) (counted_none f is)
    were_counted (s ∷ ss) f ps g qs (h, rs, was, others) is desks helpers =
        let a = was_desks s f ps h rs was in
        let b = were_desks ss h rs g qs others in
        let c = was_helpers client other apart s f ps h rs was in
        let d = were_helpers client other apart ss h rs g qs others in
        let first = counted_window s f ps h rs was is (omega (arith, a, b, desks)) (omega (arith, c, d, helpers)) in
        let rest = were_counted ss h rs g qs others (ready_still s.answer.blocks s.answer.records f h first is) (omega (arith, a, b, desks)) (omega (arith, c, d, helpers)) in
        let blocks = sum_by-cons (λ (x : ServedWindow). x.answer.blocks) s ss in
        let records = sum_by-cons (λ (x : ServedWindow). x.answer.records) s ss in
        subst (λ (n : ℕ). HaveCounted n (sum_by (λ (x : ServedWindow). x.answer.records) (s ∷ ss)) f g) (sym blocks)
        (subst (λ (n : ℕ). HaveCounted (s.answer.blocks + sum_by (λ (x : ServedWindow). x.answer.blocks) ss) n f g) (sym records)
        (counted_both s.answer.blocks (sum_by (λ (x : ServedWindow). x.answer.blocks) ss) s.answer.records (sum_by (λ (x : ServedWindow). x.answer.records) ss) f h g first rest))

    pub served_reclaimed : (ss : List ServedWindow) (f : Floor D) (ps : List _) (g : Floor D) (qs : List _) → ServedFromStart tells mode ss f ps g qs → IsReady f → length g.desks.items ≡ length f.desks.items → length g.helpers.items ≡ length f.helpers.items
        → HaveCounted (sum_by (λ (s : ServedWindow). s.answer.blocks) ss) (sum_by (λ (s : ServedWindow). s.answer.records) ss) f g
    served_reclaimed [] f ps g qs were is desks helpers = subst (λ (x : Floor D). HaveCounted 0 0 f x) (sym were.0) (counted_none f is)
    served_reclaimed (s ∷ ss) f ps g qs (rs, started, were) is desks helpers = were_counted (s ∷ ss) f rs g qs were is desks helpers
