-- The entries that the passes of a floor made while windows were served follow the rules.
use Rattle.replay.proofs.Basics.{◌≡◌, ◌≢◌, ◌<◌, ℕ, zero, suc, Bool, List, [], ◌∷◌, length, sym, ap, subst, ◌∙◌, arith, inl, inr, IsTrue}
use Rattle.replay.proofs.Basics.{slice_index_or}
use Rattle.replay.proofs.Terms.{pass_number, IsSamePass, helper, keeper, worker, Noted, ManagerPass, Gains, HasTurned, gains_turn}
use Rattle.replay.proofs.Terms.{HaveBegunVolumes, SpindlePass, IsClosed, HasWorked, HelpedIn, Desk, Floor, Reclaim, ServedWindow}
use Rattle.replay.proofs.Terms.{ServedFromStart, WasNotRun, WasServed, WereServed}
use Rattle.replay.proofs.AnswersServed.{desk_there}
use Rattle.replay.proofs.Makes.{Makes, makes_both, makes_none, makes_same}
use Rattle.window_desks.specs.declared.request.Reclaim.TheVariants as reclaim

-- ---- One pass

abbrev pub IsRuled : Noted → Type 0
IsRuled n = IsTrue n.ruled

-- what a pass added since follows the rules
abbrev pub MakesRuled : {D : Type 0} → (p q : ManagerPass D) → Type 0
MakesRuled p q = Makes IsRuled p q

module _ {D : Type 0} where
  module _ (tells : Bool) where
    ruled_gains : (p q : ManagerPass D) (more : List _) (notes : List Noted) → Gains tells p q more notes → MakesRuled p q
    ruled_gains p q more notes g = record { same = g.same; notes = notes; mine = g.mine; all = g.ruled }

    ruled_turn : (p q : ManagerPass D) (before : List _) (n : Noted) → HasTurned tells p q before n → MakesRuled p q
    ruled_turn p q before n t = ruled_gains p q _ (n ∷ []) (gains_turn tells p q before n t)

    ruled_closed : (mode : Reclaim) (fault : _) (p q : ManagerPass D) → IsClosed tells mode fault p q → MakesRuled p q
    ruled_closed reclaim.Off fault p q c = makes_same IsRuled p q c.0
    ruled_closed reclaim.Between fault p q c = ruled_turn p q c.before c.note c.turned
    ruled_closed reclaim.Beside fault p q c = ruled_turn p q c.before c.note c.turned

    ruled_worked : (rs : List _) (os : List _) (mode : Reclaim) (k : ℕ) (d e : Desk D) → HasWorked tells rs os mode k d e → MakesRuled d.worker e.worker
    ruled_worked rs os mode k d e w = makes_both IsRuled d.worker w.middle e.worker (ruled_gains d.worker w.middle w.more w.notes w.gains) (ruled_closed mode e.fault w.middle e.worker w.closed)

  -- a pass is there after others, since a pass with another number can't stand for it
  pub pass_there : (ps qs : List (ManagerPass D)) (k : ℕ) (p : ManagerPass D) → pass_number p ≢ pass_number (slice_index_or ps k p) → IsSamePass (slice_index_or ps k p) (slice_index_or qs k p) → k < length qs
  pass_there ps qs k p other all = at qs k all
    where
      at : (ys : List (ManagerPass D)) (j : ℕ) → IsSamePass (slice_index_or ps k p) (slice_index_or ys j p) → j < length ys
      at [] j same = absurd (other same.1)
      at (y ∷ ys) zero same = omega arith
      at (y ∷ ys) (suc j) same = let rest : j < length ys = at ys j same in omega (arith, rest)

-- ---- The passes of one volume on a floor

module _ {D : Type 0} (tells : Bool) (mode : Reclaim) (k : ℕ) (d : Desk D) (p : ManagerPass D) (client : pass_number p ≡ worker) where
  -- its desk and its other passes, with their numbers
  pub record AreThere (f : Floor D) : Type 0 where
    pub desks : k < length f.desks.items
    pub helpers : k < length f.helpers.items
    pub keepers : k < length f.keepers.items
    pub helper_is : pass_number (slice_index_or f.helpers.items k p) ≡ helper
    pub keeper_is : pass_number (slice_index_or f.keepers.items k p) ≡ keeper

  abbrev pub worker_on : Floor D → ManagerPass D
  worker_on f = (slice_index_or f.desks.items k d).worker

  abbrev pub helper_on : Floor D → ManagerPass D
  helper_on f = slice_index_or f.helpers.items k p

  abbrev pub keeper_on : Floor D → ManagerPass D
  keeper_on f = slice_index_or f.keepers.items k p

  pub record AllRuled (f g : Floor D) : Type 0 where
    pub worker_ : MakesRuled (worker_on f) (worker_on g)
    pub helper_ : MakesRuled (helper_on f) (helper_on g)
    pub keeper_ : MakesRuled (keeper_on f) (keeper_on g)
    pub there : AreThere g

  all_none : (f : Floor D) → AreThere f → AllRuled f f
  all_none f there = record { worker_ = makes_none IsRuled (worker_on f); helper_ = makes_none IsRuled (helper_on f); keeper_ = makes_none IsRuled (keeper_on f); there = there }

  all_then : (f g h : Floor D) → AllRuled f g → AllRuled g h → AllRuled f h
  all_then f g h a b = record {
    worker_ = makes_both IsRuled (worker_on f) (worker_on g) (worker_on h) a.worker_ b.worker_;
    helper_ = makes_both IsRuled (helper_on f) (helper_on g) (helper_on h) a.helper_ b.helper_;
    keeper_ = makes_both IsRuled (keeper_on f) (keeper_on g) (keeper_on h) a.keeper_ b.keeper_;
    there = b.there;
  }

  other_than : (n m : ℕ) → m ≡ n → worker ≢ n → pass_number p ≢ m
  other_than n m is other same = other (sym client ∙ same ∙ is)

  helped : (m : Reclaim) (ps qs : List (ManagerPass D)) → HelpedIn tells m ps qs → k < length ps → pass_number (slice_index_or ps k p) ≡ helper → MakesRuled (slice_index_or ps k p) (slice_index_or qs k p) × (k < length qs)
  helped reclaim.Off ps qs same lt number = (makes_same IsRuled (slice_index_or ps k p) (slice_index_or qs k p) (ap (λ (x : List (ManagerPass D)). slice_index_or x k p) same), rw same lt)
  helped reclaim.Between ps qs same lt number = (makes_same IsRuled (slice_index_or ps k p) (slice_index_or qs k p) (ap (λ (x : List (ManagerPass D)). slice_index_or x k p) same), rw same lt)
  helped reclaim.Beside ps qs all lt number =
      let one = all k p lt in (
        ruled_gains tells (slice_index_or ps k p) (slice_index_or qs k p) one.more one.notes one.gains,
        pass_there ps qs k p (other_than helper (pass_number (slice_index_or ps k p)) number (λ is. cc is)) one.gains.same,
      )

  begun_ruled : (awake : List Bool) (ps qs : List (ManagerPass D)) → HaveBegunVolumes tells awake ps qs → k < length ps → pass_number (slice_index_or ps k p) ≡ keeper → MakesRuled (slice_index_or ps k p) (slice_index_or qs k p) × (k < length qs)
  begun_ruled awake ps qs all lt number =
      let one = all k p lt in (
        ruled_turn tells (slice_index_or ps k p) (slice_index_or qs k p) one.before one.note one.turned,
        pass_there ps qs k p (other_than keeper (pass_number (slice_index_or ps k p)) number (λ is. cc is)) one.turned.same,
      )

  pub was_ruled : (s : ServedWindow) (f : Floor D) (ps : List SpindlePass) (g : Floor D) (qs : List SpindlePass) → WasServed tells mode s f ps g qs → AreThere f → AllRuled f g
  was_ruled s f ps g qs was there =
      let desks : was.begun.desks ≡ f.desks = ap (λ (x : Floor D). x.desks) was.only in
      let helpers : was.begun.helpers ≡ f.helpers = ap (λ (x : Floor D). x.helpers) was.only in
      let less : k < length was.begun.desks.items = rw desks there.desks in
      let help = helped mode f.helpers.items g.helpers.items (subst (λ x. HelpedIn tells mode x.items g.helpers.items) helpers was.run.helped) there.helpers there.helper_is in
      let keep = begun_ruled was.awake f.keepers.items was.begun.keepers.items was.volumes there.keepers there.keeper_is in
      let kept : MakesRuled (keeper_on f) (keeper_on g) = subst (λ x. MakesRuled (keeper_on f) (slice_index_or x.items k p)) (sym was.run.keepers) keep.0 in
      let each = λ (x : Desk D). was.run.worked k x less in
      record {
        worker_ = subst (λ x. MakesRuled (slice_index_or x.items k d).worker (worker_on g)) desks
            (ruled_worked tells s.batch.requests s.answer.outcomes.items mode k (slice_index_or was.begun.desks.items k d) (slice_index_or g.desks.items k d) (each d));
        helper_ = help.0;
        keeper_ = kept;
        there = record {
          desks = desk_there tells s.batch.requests s.answer.outcomes.items mode was.begun.desks.items g.desks.items k d each less;
          helpers = help.1;
          keepers = rw was.run.keepers keep.1;
          helper_is = help.0.same.1 ∙ there.helper_is;
          keeper_is = kept.same.1 ∙ there.keeper_is;
        };
      }

  were_ruled : (ss : List ServedWindow) (f : Floor D) (ps : List SpindlePass) (g : Floor D) (qs : List SpindlePass) → WereServed tells mode ss f ps g qs → AreThere f → AllRuled f g
  were_ruled [] f ps g qs (floor, passes) there = subst (λ (x : Floor D). AllRuled f x) (sym floor) (all_none f there)
  were_ruled (s ∷ ss) f ps g qs (h, rs, was, others) there =
      let first = was_ruled s f ps h rs was there in all_then f h g first (were_ruled ss h rs g qs others first.there)

  pub served_ruled : (ss : List ServedWindow) (f : Floor D) (ps : List SpindlePass) (g : Floor D) (qs : List SpindlePass) → ServedFromStart tells mode ss f ps g qs → AreThere f → AllRuled f g
  served_ruled [] f ps g qs (floor, passes) there = subst (λ (x : Floor D). AllRuled f x) (sym floor) (all_none f there)
  served_ruled (s ∷ ss) f ps g qs (rs, started, were) there = were_ruled (s ∷ ss) f rs g qs were there

  -- nothing was run, though a window may have begun
  pub not_run_ruled : (f g h : Floor D) → AllRuled f g → WasNotRun tells g h → k < length h.desks.items → AllRuled f h
  not_run_ruled f g h a w more = all_then f g h a (record {
    worker_ = makes_same IsRuled (worker_on g) (worker_on h) (w.desks k d a.there.desks).worker_is;
    helper_ = makes_same IsRuled (helper_on g) (helper_on h) (ap (λ x. slice_index_or x.items k p) w.helpers);
    keeper_ = keep.0;
    there = record {
      desks = more;
      helpers = rw w.helpers a.there.helpers;
      keepers = keep.1;
      helper_is = ap (λ x. pass_number (slice_index_or x.items k p)) w.helpers ∙ a.there.helper_is;
      keeper_is = keep.0.same.1 ∙ a.there.keeper_is;
    };
  })
    where
      keep : MakesRuled (keeper_on g) (keeper_on h) × (k < length h.keepers.items)
      keep = elim w.keepers [
        | inl same ↦ (makes_same IsRuled (keeper_on g) (keeper_on h) (ap (λ x. slice_index_or x.items k p) same), rw same a.there.keepers)
        | inr (awake, begun) ↦ begun_ruled awake g.keepers.items h.keepers.items begun a.there.keepers a.there.keeper_is
      ]
