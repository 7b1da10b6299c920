-- Who can let a moment come can let the next one come.
use Rattle.std.proofs.Common.{◌≡◌, ◌≤◌, ◌<◌, ◌++◌, ◌∷◌, [], ℕ, Bool, true, false, List, length, arith, slice_index_or, Option, sym, subst, ◌∙◌, inl, inr}
use Rattle.std.specs.List.{AllByRecursion}
use Rattle.turn_lock.specs.LockIds.{LockId}
use Rattle.turn_lock.specs.Passes.{pass_lock, IsFree, IsSamePass}
use Rattle.wol_model.specs.History.{helper, keeper}
use Rattle.logger.specs.declared.shared.Shared.{Shared}
use Rattle.manager.specs.Stands.{IsShared}
use Rattle.manager.specs.declared.base.LaneBase.{LaneBase}
use Rattle.manager.specs.declared.base.ManagerBase.{ManagerBase}
use Rattle.manager.specs.declared.part.StepFault.{StepFault}
use Rattle.request_turns.specs.Helped.{ManagerLock}
use Rattle.request_turns.specs.Turns.{ManagerPass}
use Rattle.window_desks.specs.Begun.{AreKeepers, HaveBegunVolumes, SpindlePass}
use Rattle.window_desks.specs.Helped.{AreHelped, ArePassesAt, IsCause}
use Rattle.live_serving.specs.Moments.{CanTick, Hands, HasRunOut, HaveTicked, TicksNext, hands}
use Rattle.live_serving.specs.Ticks.{AreInOrder}

module _ {D : Type 0} where
  -- passes that had turns
  abbrev pub AreAgain : List (ManagerPass D) → List (ManagerPass D) → Type 0
  AreAgain ps qs = (k : ℕ) (d : ManagerPass D) → k < length ps → IsSamePass (slice_index_or ps k d) (slice_index_or qs k d) × IsFree (slice_index_or qs k d)

  pub begun_again : (tells : Bool) (awake : List Bool) (ps qs : List (ManagerPass D)) → HaveBegunVolumes tells awake ps qs → AreAgain ps qs
  begun_again tells awake ps qs begun k d lt = let h = begun k d lt in (h.turned.same, h.turned.free)

  pub helped_again : (tells : Bool) (ps qs : List (ManagerPass D)) → AreHelped tells ps qs → AreAgain ps qs
  helped_again tells ps qs helped k d lt = let h = helped k d lt in (h.gains.same, h.gains.free)

  pub at_again : (ls : List (ManagerLock D)) (n : ℕ) (ps qs : List (ManagerPass D)) → length qs ≡ length ps → AreAgain ps qs → ArePassesAt ls n ps → ArePassesAt ls n qs
  at_again ls n ps qs long again at k l d lt =
      let within : k < length ps = subst (λ (m : ℕ). k < m) long lt in
      let a = again k d within in let was = at k l d within in
      record { own = a.0.0 ∙ was.own; free = a.1; number_is = a.0.1 ∙ was.number_is }

  -- what holds of the base of each lock
  pub base_again : (P : ℕ → ManagerBase → Type 0) (ps qs : List (ManagerPass D)) → length qs ≡ length ps → AreAgain ps qs → ((k : ℕ) (d : ManagerPass D) → k < length ps → P k (pass_lock (slice_index_or ps k d)).base)
      → (k : ℕ) (d : ManagerPass D) → k < length qs → P k (pass_lock (slice_index_or qs k d)).base
  base_again P ps qs long again each k d lt =
      let within : k < length ps = subst (λ (m : ℕ). k < m) long lt in
      subst (λ (l : LockId ManagerBase). P k l.base) (sym (again k d within).0.0) (each k d within)

  module _ (ls : List (ManagerLock D)) (shared : Shared D) (h : Hands D) (fault : Option (ℕ × StepFault)) (can : CanTick ls shared h fault) (ss : List SpindlePass) (ss_long : length ss ≡ length h.spindles) (keep : AreKeepers shared ss) where
    -- where the moment didn't come
    pub spindles_still : CanTick ls shared (hands ss h.keepers h.helpers) fault
    spindles_still = record {
      spindles_ = keep;
      keeper_count = can.keeper_count;
      helper_count = can.helper_count;
      volumes = subst (λ (n : ℕ). length ls ≤ n) (sym ss_long) can.volumes;
      few = can.few;
      keepers_ = can.keepers_;
      helpers_ = can.helpers_;
      owners = can.owners;
      views = subst (λ (n : ℕ). (k : ℕ) (d : ManagerPass D) → k < length h.keepers → AllByRecursion (λ (b : LaneBase). b.logger < n) (pass_lock (slice_index_or h.keepers k d)).base.lanes) (sym ss_long) can.views;
      sharing = can.sharing;
      cause = can.cause;
    }

    -- where it came
    pub all_still : (ks hs : List (ManagerPass D)) (fault' : Option (ℕ × StepFault)) → length ks ≡ length h.keepers → length hs ≡ length h.helpers → AreAgain h.keepers ks → AreAgain h.helpers hs → IsCause hs fault' → CanTick ls shared (hands ss ks hs) fault'
    all_still ks hs fault' k_long h_long k_again h_again cause = record {
      spindles_ = keep;
      keeper_count = k_long ∙ can.keeper_count;
      helper_count = h_long ∙ can.helper_count;
      volumes = spindles_still.volumes;
      few = can.few;
      keepers_ = at_again ls keeper h.keepers ks k_long k_again can.keepers_;
      helpers_ = at_again ls helper h.helpers hs h_long h_again can.helpers_;
      owners = base_again (λ k b. b.volume.began.owner ≡ k) h.keepers ks k_long k_again can.owners;
      views = base_again (λ k b. AllByRecursion (λ (x : LaneBase). x.logger < length ss) b.lanes) h.keepers ks k_long k_again spindles_still.views;
      sharing = base_again (λ k b. IsShared shared b) h.helpers hs h_long h_again can.sharing;
      cause = cause;
    }

-- ---- Moments one after another

later : (first last t : ℕ) (moments : List (ℕ × List Bool)) → AreInOrder first moments last → last ≤ t → AreInOrder first moments t
later first last t [] o le = omega (arith, o, le)
later first last t ((m, awake) ∷ moments) o le = (o.0, later m last t moments o.1 le)

one_behind : (first last t : ℕ) (awake : List Bool) (moments : List (ℕ × List Bool)) → AreInOrder first moments last → last ≤ t → AreInOrder first (moments ++ (t, awake) ∷ []) t
one_behind first last t awake [] o le = (omega (arith, o, le), omega (arith))
one_behind first last t awake ((m, up) ∷ moments) o le = (o.0, one_behind m last t awake moments o.1 le)

module _ {T D : Type 0} (gave : T → Option ℕ → T → Type 0) (last_of : T → ℕ) (tells : Bool) (k : T) (s : Hands D) where
  -- moments so far
  pub record SoFar (l : T) (n : Hands D) : Type 0 where
    pub moments : List (ℕ × List Bool)
    pub ticked : HaveTicked gave last_of tells k s moments l n
    pub in_order : AreInOrder (last_of k) moments (last_of l)

  pub none_yet : SoFar k s
  none_yet = record { moments = []; ticked = HaveTicked.none; in_order = omega (arith) }

  module _ (l m : T) (n o : Hands D) (so : SoFar l n) where
    pub one_more : TicksNext gave last_of tells l n m o true → SoFar m o
    one_more (t, came, on, inl (awake, h)) = record {
      moments = so.moments ++ (t, awake) ∷ [];
      ticked = HaveTicked.next so.moments l m n o t awake so.ticked came h;
      in_order = subst (λ (x : ℕ). AreInOrder (last_of k) (so.moments ++ (t, awake) ∷ []) x) (sym on.1) (one_behind (last_of k) (last_of l) t awake so.moments so.in_order on.0);
    }
    one_more (t, came, on, inr same) = record {
      moments = so.moments;
      ticked = subst (λ (x : Hands D). HaveTicked gave last_of tells k s so.moments m x) (sym same) (HaveTicked.missed so.moments l m n t so.ticked came);
      in_order = subst (λ (x : ℕ). AreInOrder (last_of k) so.moments x) (sym on.1) (later (last_of k) (last_of l) t so.moments so.in_order on.0);
    }

    pub ran_out : TicksNext gave last_of tells l n m o false → HasRunOut gave last_of tells k s m o
    ran_out (over, on, same) = record {
      moments = so.moments;
      last = l;
      ticked = subst (λ (x : Hands D). HaveTicked gave last_of tells k s so.moments l x) (sym same) so.ticked;
      over = over;
      in_order = subst (λ (x : ℕ). AreInOrder (last_of k) so.moments x) (sym on) so.in_order;
    }
