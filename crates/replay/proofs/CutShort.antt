-- The accounts of disks where memory ran out as a further window began: what their keepers' passes come to.
use Rattle.replay.proofs.Basics.{◌≡◌, ◌≢◌, ◌⊎◌, ◌++◌, ◌<◌, ℕ, zero, suc, Bool, true, false, cond, not, List, [], ◌∷◌, length, map, refl}
use Rattle.replay.proofs.Basics.{sym, ap, subst, ◌∙◌, Option, Some, inl, inr, append-nil, length-append, arith, All, Contains, slice_get}
use Rattle.replay.proofs.Basics.{slice_index_or, map-append}
use Rattle.replay.proofs.Terms.{State, Began, Done, Needed, Started, Stayed, Use, needs_after, new_spindle, TraceLine, pieces_of, started}
use Rattle.replay.proofs.Terms.{timed, keeper_uses, Entry, own, IsPartOf, pass_lock, pass_mine, pass_number, has_token}
use Rattle.replay.proofs.Terms.{operation_of, use_of, uses_of, SpindleView, StandsFor, SpindleBase, answers_by, BayState, most_of, Config}
use Rattle.replay.proofs.Terms.{targets_of, shapes_of, IsClosedSpindle, IsClosable, IsRack, IsUnused, KeepToViews, Rack}
use Rattle.replay.proofs.Terms.{HasBegun, HaveBegun, HaveBegunVolumes, SpindlePass, Floor, Reclaim, Further, HasStarted}
use Rattle.replay.proofs.Terms.{ServedFromStart, ServedWindow, StartsOnce, WasNotRun, begins_alone, fails_to_begin, is_none_served}
use Rattle.replay.proofs.Terms.{none_further, AreWindowsOf, IsAccountBy, column, started_uses, window_uses}
use Rattle.wol_model.specs.Trace.{windows}
use Rattle.replay.proofs.Accounts.{AreOthers, HasUsed, amounts_stand, first_start, moments_of, named_users, others_access, own_uses, served_used, short_or_long, used_both}
use Rattle.replay.proofs.Closed.{kept_by}
use Rattle.replay.proofs.RacksServed.{at_place, there_at}
use Rattle.replay.proofs.ToldAwake.{WasTold, all_told, begun_told, served_told, started_told, timeout_of, told_both, told_none}
use Rattle.replay.proofs.Serving.{served_moments}
use Rattle.replay.proofs.StationsRan.{EndsOn}
use Rattle.replay.proofs.WorksServed.{awake_in, awake_last, awake_last_begun, awake_last_kept, awake_last_none}
use Rattle.replay.specs.Summed as summed

-- ---- One pass

-- these uses were added, and so it was told
pub record HasReached (by : List Use) (told : List Bool) (p q : SpindlePass) : Type 0 where
  pub used : HasUsed by p q
  pub was : WasTold told p q

pub reached_none : (p : SpindlePass) → HasReached [] [] p p
reached_none p = record { used = record { number = refl; mine = sym (append-nil (pass_mine p)) }; was = told_none p }

reached_both : (us vs : List Use) (xs ys : List Bool) (p q r : SpindlePass) → HasReached us xs p q → HasReached vs ys q r → HasReached (us ++ vs) (xs ++ ys) p r
reached_both us vs xs ys p q r a b = record { used = used_both us vs p q r a.used b.used; was = told_both xs ys p q r a.was b.was }

reached_started : (at : ℕ) (p q : SpindlePass) → HasStarted at p q → HasReached (Started at ∷ []) [] p q
reached_started at p q s = record { used = record { number = s.same.1; mine = s.mine }; was = started_told at p q s }

reached_begun : (t : ℕ) (a : Bool) (p q : SpindlePass) → HasBegun t a p q → HasReached (Began t ∷ []) (a ∷ []) p q
reached_begun t a p q b = record { used = record { number = b.same.1; mine = b.mine }; was = begun_told t a p q b }

-- ---- Passes in order

-- a pass that used something is there
there_behind : (ps qs : List SpindlePass) (k : ℕ) (d : SpindlePass) (u : Use) (us : List Use) → k < length ps → ((x : SpindlePass) → HasUsed (u ∷ us) (slice_index_or ps k x) (slice_index_or qs k x)) → k < length qs
there_behind ps qs k d u us lt used = elim (short_or_long qs k) [
  | inl less ↦ less
  | inr short ↦
      let p : SpindlePass = slice_index_or ps k d in
      let here : slice_index_or ps k p ≡ p = (at_place ps k p (there_at ps k d lt)).1 p in
      let more : List Entry = map (λ (v : Use). (pass_number (slice_index_or ps k p), operation_of v)) us in
      let grown : pass_mine (slice_index_or qs k p) ≡ pass_mine (slice_index_or ps k p) ++ (pass_number (slice_index_or ps k p), operation_of u) ∷ more = (used p).mine in
      let same : length (pass_mine p) ≡ length (pass_mine (slice_index_or ps k p) ++ (pass_number (slice_index_or ps k p), operation_of u) ∷ more) = ap (λ (x : SpindlePass). length (pass_mine x)) (sym (short p)) ∙ ap length grown in
      let long = length-append (pass_mine (slice_index_or ps k p)) ((pass_number (slice_index_or ps k p), operation_of u) ∷ more) in
      let as_long : length (pass_mine (slice_index_or ps k p)) ≡ length (pass_mine p) = ap (λ (x : SpindlePass). length (pass_mine x)) here in
      absurd (omega (arith, same, long, as_long))
]

-- the account was started where it wasn't
abbrev starts : (has_started : Bool) → (moment : ℕ) → List Use
starts has_started moment = cond has_started [] (Started moment ∷ [])

starts_reached : (k : ℕ) (has_started : Bool) (moment : ℕ) (ps start : List SpindlePass) (d : SpindlePass) → StartsOnce has_started moment ps start → k < length ps
    → HasReached (starts has_started moment) [] (slice_index_or ps k d) (slice_index_or start k d)
starts_reached k true moment ps start d same lt = subst (λ (x : List SpindlePass). HasReached [] [] (slice_index_or ps k d) (slice_index_or x k d)) (sym same) (reached_none (slice_index_or ps k d))
starts_reached k false moment ps start d begun lt = reached_started moment (slice_index_or ps k d) (slice_index_or start k d) (begun k d lt)

starts_there : (k : ℕ) (has_started : Bool) (moment : ℕ) (ps start : List SpindlePass) (d : SpindlePass) → StartsOnce has_started moment ps start → k < length ps → k < length start
starts_there k true moment ps start d same lt = subst (λ (x : List SpindlePass). k < length x) (sym same) lt
starts_there k false moment ps start d begun lt = there_behind ps start k d (Started moment) [] lt (λ x. (reached_started moment (slice_index_or ps k x) (slice_index_or start k x) (begun k x lt)).used)

started_is : (start moment : ℕ) (ss : List ServedWindow) → window_uses start (moments_of ss) ++ starts (not (is_none_served ss)) moment ≡ started_uses start moment (moments_of ss)
started_is start moment [] = refl
started_is start moment (s ∷ ss) = append-nil (keeper_uses start (moments_of (s ∷ ss)))

module _ {D : Type 0} (tells : Bool) (mode : Reclaim) (k start : ℕ) where
  served_there : (ss : List ServedWindow) (f : Floor D) (ps : List SpindlePass) (g : Floor D) (qs : List SpindlePass) (d : SpindlePass) → ServedFromStart tells mode ss f ps g qs → k < length ps → k < length qs
  served_there [] f ps g qs d (floor, passes) lt = subst (λ (x : List SpindlePass). k < length x) (sym passes) lt
  served_there (s ∷ ss) f ps g qs d served lt = there_behind ps qs k d (Started s.batch.moment) (map Began (moments_of (s ∷ ss))) lt (λ x. served_used tells mode k s ss f ps g qs x served lt)

  served_reached : (ss : List ServedWindow) (f : Floor D) (ps : List SpindlePass) (g : Floor D) (qs : List SpindlePass) (d : SpindlePass) (served : ServedFromStart tells mode ss f ps g qs) → k < length ps
      → ((s : ServedWindow) (rest : List ServedWindow) → ss ≡ s ∷ rest → s.batch.moment ≡ start)
      → HasReached (window_uses start (moments_of ss)) (column k (awake_in tells mode ss f ps g qs served)) (slice_index_or ps k d) (slice_index_or qs k d)
  served_reached [] f ps g qs d served lt first = record {
    used = subst (λ (x : List SpindlePass). HasUsed [] (slice_index_or ps k d) (slice_index_or x k d)) (sym served.1) (reached_none (slice_index_or ps k d)).used;
    was = served_told tells mode k [] f ps g qs d served lt;
  }
  served_reached (s ∷ ss) f ps g qs d served lt first = record {
    used = subst (λ (t : ℕ). HasUsed (keeper_uses t (moments_of (s ∷ ss))) (slice_index_or ps k d) (slice_index_or qs k d)) (first s ss refl) (served_used tells mode k s ss f ps g qs d served lt);
    was = served_told tells mode k (s ∷ ss) f ps g qs d served lt;
  }

  -- .. and the account was started
  module _ (ss : List ServedWindow) (f : Floor D) (ps : List SpindlePass) (g : Floor D) (ms : List SpindlePass) (served : ServedFromStart tells mode ss f ps g ms) (lt : k < length ps)
      (first : (s : ServedWindow) (rest : List ServedWindow) → ss ≡ s ∷ rest → s.batch.moment ≡ start) (moment : ℕ) (begun : List SpindlePass) (once : StartsOnce (not (is_none_served ss)) moment ms begun) where
    abbrev by : List Use
    by = started_uses start moment (moments_of ss)

    abbrev told : List Bool
    told = column k (awake_in tells mode ss f ps g ms served)

    begun_there : (d : SpindlePass) → k < length begun
    begun_there d = starts_there k (not (is_none_served ss)) moment ms begun d once (served_there ss f ps g ms d served lt)

    begun_reached : (d : SpindlePass) → HasReached by told (slice_index_or ps k d) (slice_index_or begun k d)
    begun_reached d =
        let both = reached_both (window_uses start (moments_of ss)) (starts (not (is_none_served ss)) moment) told [] (slice_index_or ps k d) (slice_index_or ms k d) (slice_index_or begun k d)
        (served_reached ss f ps g ms d served lt first) (starts_reached k (not (is_none_served ss)) moment ms begun d once (served_there ss f ps g ms d served lt)) in
        subst (λ (us : List Use). HasReached us told (slice_index_or ps k d) (slice_index_or begun k d)) (started_is start moment ss)
        (subst (λ (xs : List Bool). HasReached (window_uses start (moments_of ss) ++ starts (not (is_none_served ss)) moment) xs (slice_index_or ps k d) (slice_index_or begun k d)) (append-nil told) both)

    -- a further window began at each disk
    pub all_reached : (awake : List Bool) (qs : List SpindlePass) → HaveBegun moment awake begun qs → (d : SpindlePass)
        → HasReached (by ++ Began moment ∷ []) (column k (awake_in tells mode ss f ps g ms served ++ awake ∷ [])) (slice_index_or ps k d) (slice_index_or qs k d)
    all_reached awake qs have d =
        subst (λ (xs : List Bool). HasReached (by ++ Began moment ∷ []) xs (slice_index_or ps k d) (slice_index_or qs k d)) (sym (map-append (λ (a : List Bool). slice_index_or a k false) (awake_in tells mode ss f ps g ms served) (awake ∷ [])))
        (reached_both by (Began moment ∷ []) told (slice_index_or awake k false ∷ []) (slice_index_or ps k d) (slice_index_or begun k d) (slice_index_or qs k d) (begun_reached d)
        (reached_begun moment (slice_index_or awake k false) (slice_index_or begun k d) (slice_index_or qs k d) (have k false d (begun_there d))))

    -- .. or at none
    pub none_begun : (config : Config) (views : ℕ → List ℕ) (s : SpindleView) (qs : List SpindlePass) (d : SpindlePass)
        → ((us : List Use) (xs : List Bool) → HasReached us xs (slice_index_or ps k d) (slice_index_or qs k d) → IsAccountBy config views k us xs s) → qs ≡ begun → IsAccountBy config views k by told s
    none_begun config views s qs d account same = account by told (subst (λ (x : List SpindlePass). HasReached by told (slice_index_or ps k d) (slice_index_or x k d)) (sym same) (begun_reached d))

-- ---- The account of a disk

use_back : (u : Use) → use_of (operation_of u) ≡ u
use_back (Started at) = refl
use_back (Began at) = refl
use_back Needed = refl
use_back Done = refl
use_back Stayed = refl

uses_back : (n : ℕ) (us : List Use) → map (λ (e : Entry). use_of e.1) (map (λ (u : Use). (n, operation_of u)) us) ≡ us
uses_back n [] = refl
uses_back n (u ∷ us) = λ i. use_back u i ∷ uses_back n us i

account_reached : (config : Config) (views : ℕ → List ℕ) (k : ℕ) (s : SpindleView) (b : SpindleBase) (entries : List Entry) (o p : SpindlePass) (us : List Use) (xs : List Bool) → IsUnused o → HasReached us xs o p → StandsFor s b entries
    → AreOthers (pass_number p) entries → IsPartOf entries p → (pass_lock p).base ≡ b → s.volume ≡ k → s.timeout ≡ config.timeout → ((m : ℕ) → m ≢ pass_number p → has_token (own m entries) ≡ false)
    → ((m : ℕ) → m ≢ pass_number p → m ≢ k → (Contains (views m) k → ⊥) → own m entries ≡ []) → IsAccountBy config views k us xs s
account_reached config views k s b entries o p us xs unused reached stands others part base volume timeout ended users =
    let mine : pass_mine p ≡ map (λ (u : Use). (pass_number p, operation_of u)) us =
    reached.used.mine ∙ (λ i. unused.mine i ++ map (λ (u : Use). (sym reached.used.number i, operation_of u)) us) in
    let told : answers_by (timeout_of p) new_spindle (pass_number p) (uses_of entries) ≡ xs = all_told xs o p entries unused reached.was part in
    let now : answers_by b.timeout new_spindle (pass_number p) (uses_of entries) ≡ xs = subst (λ (x : SpindleBase). answers_by x.timeout new_spindle (pass_number p) (uses_of entries) ≡ xs) base told in
    record {
      volume = volume;
      timeout_is = timeout;
      uses = uses_of entries;
      legal = rw stands.timeout stands.legal;
      amounts = amounts_stand s b entries stands;
      keeper = pass_number p;
      kept = own_uses (pass_number p) entries ∙ ap (λ (es : List Entry). map (λ (e : Entry). use_of e.1) es) (part.mine ∙ mine) ∙ uses_back (pass_number p) us;
      others = others_access (pass_number p) entries others;
      done = λ m other. ap (needs_after false) (own_uses m entries) ∙ ended m other;
      users = named_users (pass_number p) k views entries users;
      answers = rw stands.timeout now;
    }

-- by what its keeper's pass reached
pub record AccountOf {D : Type 0} (config : Config) (views : ℕ → List ℕ) (old new : Rack D) (k : ℕ) (s : SpindleView) : Type 0 where
  pub pass : SpindlePass
  pub there : slice_get new.keepers.items k ≡ Some pass
  pub less : k < length old.keepers.items
  pub so : (us : List Use) (xs : List Bool) → HasReached us xs (slice_index_or old.keepers.items k pass) pass → IsAccountBy config views k us xs s

module _ {D : Type 0} (state : D → State) (config : Config) (views : ℕ → List ℕ) (b : BayState) (old new : Rack D) (is : IsRack state config b old) (unused : All (λ (p : SpindlePass). IsUnused p) old.keepers.items) (closable : IsClosable state config b new)
    (keep : KeepToViews views new) (spindles : List SpindleView) (count : length spindles ≡ length (shapes_of config)) (each : (k : ℕ) (s : SpindleView) → slice_get spindles k ≡ Some s → IsClosedSpindle new k s) where
  pub account_of : (k : ℕ) (s : SpindleView) → slice_get spindles k ≡ Some s → AccountOf config views old new k s
  account_of k s there =
      let c = kept_by state config b new closable spindles count k s there (each k s there) in
      let less : k < length old.keepers.items = (let lt = (at_place spindles k s there).0 in omega (arith, lt, count, is.keepers.0)) in
      record {
        pass = c.pass;
        there = c.keeper;
        less = less;
        so = λ us xs reached. account_reached config views k s c.base c.entries (slice_index_or old.keepers.items k c.pass) c.pass us xs (unused k c.pass less) reached c.stands c.others c.part
            c.base_is c.volume c.timeout_is c.ended (c.users views keep);
      }

-- the account starts with the first window
pub first_is : (config : Config) (lines : List (Option TraceLine)) (ss : List ServedWindow) → AreWindowsOf config lines ss → (s : ServedWindow) (rest : List ServedWindow) → ss ≡ s ∷ rest → s.batch.moment ≡ started (timed lines)
unfolding windows
first_is config lines ss are s rest is =
    first_start (pieces_of (most_of config) (targets_of config)) (timed lines) s.batch.moment (moments_of rest) (sym (ap moments_of is) ∙ served_moments config (windows (most_of config) (targets_of config) lines) ss are)

-- ---- How it ended

module _ {D : Type 0} (tells : Bool) (mode : Reclaim) (has_started : Bool) (h : Floor D) (ms : List SpindlePass) (g : Floor D) (qs : List SpindlePass) where
  -- nothing more was done, or of a further window no request was run
  abbrev pub EndsThere : Type 0
  EndsThere = ((g ≡ h) × (qs ≡ ms)) ⊎ WasNotRun tells h g

  keepers_then : Further tells has_started h ms g qs → (g.keepers ≡ h.keepers) ⊎ ((awake : List Bool) × HaveBegunVolumes tells awake h.keepers.items g.keepers.items)
  keepers_then (none_further same passes) = inl same
  keepers_then (fails_to_begin moment start same once failed) = inl same
  keepers_then (begins_alone moment start awake once begun volumes) = inr (awake, volumes)

  with_keepers : WasNotRun tells h g → Further tells has_started h ms g qs → WasNotRun tells h g
  with_keepers not_run further = record { desks = not_run.desks; helpers = not_run.helpers; locks = not_run.locks; keepers = keepers_then further }

  pub ends_so : EndsThere → Further tells has_started h ms g qs → EndsOn tells h g
  ends_so (inl (floor, passes)) further = inl floor
  ends_so (inr not_run) further = inr (with_keepers not_run further)

  pub none_told : (floor : g ≡ h) (passes : qs ≡ ms) (further : Further tells has_started h ms g qs) → awake_last tells mode h g (ends_so (inl (floor, passes)) further) ≡ []
  unfolding ends_so
  none_told floor passes further = awake_last_none tells mode h g floor

  pub kept_told : (not_run : WasNotRun tells h g) (same : g.keepers ≡ h.keepers) (passes : qs ≡ ms) → awake_last tells mode h g (ends_so (inr not_run) (none_further same passes)) ≡ []
  unfolding ends_so with_keepers keepers_then
  kept_told not_run same passes = awake_last_kept tells mode h g (with_keepers not_run (none_further same passes)) same refl

  pub failed_told : (not_run : WasNotRun tells h g) (moment : ℕ) (start : List SpindlePass) (same : g.keepers ≡ h.keepers) (once : StartsOnce has_started moment ms start) (failed : qs ≡ start)
      → awake_last tells mode h g (ends_so (inr not_run) (fails_to_begin moment start same once failed)) ≡ []
  unfolding ends_so with_keepers keepers_then
  failed_told not_run moment start same once failed = awake_last_kept tells mode h g (with_keepers not_run (fails_to_begin moment start same once failed)) same refl

  pub begun_last : (not_run : WasNotRun tells h g) (moment : ℕ) (start : List SpindlePass) (awake : List Bool) (once : StartsOnce has_started moment ms start) (begun : HaveBegun moment awake start qs)
      (volumes : HaveBegunVolumes tells awake h.keepers.items g.keepers.items) → awake_last tells mode h g (ends_so (inr not_run) (begins_alone moment start awake once begun volumes)) ≡ awake ∷ []
  unfolding ends_so with_keepers keepers_then
  begun_last not_run moment start awake once begun volumes = awake_last_begun tells mode h g (with_keepers not_run (begins_alone moment start awake once begun volumes)) awake volumes refl
