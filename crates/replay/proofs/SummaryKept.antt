-- The summary of a trace that was served to its end: each disk used what it used by the journal of its uses, and the keeper's are those of the account.
use Rattle.replay.proofs.Basics.{◌≡◌, ◌≢◌, ◌++◌, ◌<◌, ◌-◌, ℕ, Bool, false, List, [], ◌∷◌, length, map, sym, ap, subst, ◌∙◌, Option, Some}
use Rattle.replay.proofs.Basics.{append-nil, arith, All, Contains, slice_get, slice_index_or}
use Rattle.replay.proofs.Terms.{Started, Use, needs_after, new_spindle, answers_by, uses_by, TraceLine, pieces_of, requests, started, timed}
use Rattle.replay.proofs.Terms.{keeper_uses, Entry, own, IsPartOf, pass_mine, pass_number, has_token, operation_of}
use Rattle.replay.proofs.Terms.{use_of, uses_of, SpindleView, StandsFor, SpindleBase, targets_of, printed_names, summary_text, SpindlePass}
use Rattle.replay.proofs.Terms.{Floor, State, BayState, Config, shapes_of, IsClosedSpindle, IsClosable, IsRack, IsUnused, KeepToViews, Rack}
use Rattle.replay.proofs.Terms.{all_amounts, ServedFromStart, ServedWindow, AreWindowsOf, ServesWhole, IsAccount, IsAccountBy, IsSummary, column}
use Rattle.replay.proofs.Terms.{Counted, Given, Options, most_of}
use Rattle.wol_model.specs.Trace.{Window, windows}
use Rattle.replay.proofs.Accounts.{AreOthers, amounts_stand, first_start, moments_of, named_users, others_access, own_uses, used_back}
use Rattle.replay.proofs.AllAsked.{AreAllCounted}
use Rattle.replay.proofs.Closed.{kept_by, served_mine}
use Rattle.replay.proofs.RacksServed.{at_place}
use Rattle.replay.proofs.Serving.{served_moments}
use Rattle.replay.proofs.ToldAwake.{timeout_of}

-- ---- One spindle

module _ (config : Config) (views : ℕ → List ℕ) (k : ℕ) (s : SpindleView) (b : SpindleBase) (entries : List Entry) (n start : ℕ) (awake : List (List Bool)) (stands : StandsFor s b entries) (others : AreOthers n entries) (volume : s.volume ≡ k)
    (timeout_is : s.timeout ≡ config.timeout) (answers : answers_by b.timeout new_spindle n (uses_of entries) ≡ column k awake) (ended : (m : ℕ) → m ≢ n → has_token (own m entries) ≡ false)
    (users : (m : ℕ) → m ≢ n → m ≢ k → (Contains (views m) k → ⊥) → own m entries ≡ []) where
  all_done : (m : ℕ) → m ≢ n → needs_after false (uses_by m (uses_of entries)) ≡ false
  all_done m other = ap (needs_after false) (own_uses m entries) ∙ ended m other

  -- its journal is an account by what its keeper did
  account : (by : List Use) → uses_by n (uses_of entries) ≡ by → IsAccountBy config views k by (column k awake) s
  account by kept = record {
    volume = volume;
    timeout_is = timeout_is;
    uses = uses_of entries;
    legal = rw stands.timeout stands.legal;
    amounts = amounts_stand s b entries stands;
    keeper = n;
    kept = kept;
    others = others_access n entries others;
    done = all_done;
    users = named_users n k views entries users;
    answers = rw stands.timeout answers;
  }

  pub account_kept : (w : ℕ) (moments : List ℕ) → own n entries ≡ map (λ (u : Use). (n, operation_of u)) (keeper_uses start (w ∷ moments)) → IsAccount config views k start (w ∷ moments) awake s
  account_kept w moments mine = account (keeper_uses start (w ∷ moments)) (own_uses n entries ∙ ap (λ (es : List Entry). map (λ (e : Entry). use_of e.1) es) mine ∙ ap (λ (l : List Use). Started start ∷ l) (used_back n (w ∷ moments)))

  pub account_empty : own n entries ≡ [] → IsAccount config views k start [] awake s
  account_empty mine = account [] (own_uses n entries ∙ ap (λ (es : List Entry). map (λ (e : Entry). use_of e.1) es) mine)

-- ---- All of them

module _ {D S : Type 0} (state : D → State) (tells : Bool) (left : S → Option (List ℕ)) (config : Config) (options : Options) (start now : Given S) (b : BayState) (old new : Rack D) (faults faults' : ℕ) (printed printed' : Option (List ℕ))
    (is : IsRack state config b old) (unused : All (λ (p : SpindlePass). IsUnused p) old.keepers.items) (awake : List (List Bool)) (views : ℕ → List ℕ) where
  spindle_account : (lines : List (Option TraceLine)) (ss : List ServedWindow) (f g : Floor D) → ServedFromStart tells options.reclaim ss f old.keepers.items g new.keepers.items
      → moments_of ss ≡ map (λ (w : Window). w.moment) (windows (most_of config) (targets_of config) lines) → (k : ℕ) (s : SpindleView) (base : SpindleBase) (entries : List Entry) (p : SpindlePass)
      → k < length old.keepers.items → slice_get new.keepers.items k ≡ Some p → StandsFor s base entries → AreOthers (pass_number p) entries → own (pass_number p) entries ≡ pass_mine p
      → s.volume ≡ k → s.timeout ≡ config.timeout → answers_by base.timeout new_spindle (pass_number p) (uses_of entries) ≡ column k awake → ((m : ℕ) → m ≢ pass_number p → has_token (own m entries) ≡ false)
      → ((m : ℕ) → m ≢ pass_number p → m ≢ k → (Contains (views m) k → ⊥) → own m entries ≡ []) → IsAccount config views k (started (timed lines)) (moments_of ss) awake s
  unfolding windows
  spindle_account lines [] f g (floor, passes) moments k s base entries p lt there stands others mine volume timeout_is answers ended users =
      let was : slice_index_or old.keepers.items k p ≡ p = ap (λ (x : List SpindlePass). slice_index_or x k p) (sym passes) ∙ (at_place new.keepers.items k p there).1 p in
      let none : pass_mine p ≡ [] = ap (λ (x : SpindlePass). pass_mine x) (sym was) ∙ (unused k p lt).mine in
      account_empty config views k s base entries (pass_number p) (started (timed lines)) awake stands others volume timeout_is answers ended users (mine ∙ none)
  spindle_account lines (w ∷ ss) f g served_ moments k s base entries p lt there stands others mine volume timeout_is answers ended users =
      let all = served_mine tells options.reclaim k w ss f old.keepers.items g new.keepers.items p served_ lt unused there in
      let first : w.batch.moment ≡ started (timed lines) = first_start (pieces_of (most_of config) (targets_of config)) (timed lines) w.batch.moment (moments_of ss) moments in
      account_kept config views k s base entries (pass_number p) (started (timed lines)) awake stands others volume timeout_is answers ended users w.batch.moment (moments_of ss)
      (subst (λ (t : ℕ). own (pass_number p) entries ≡ map (λ (u : Use). (pass_number p, operation_of u)) (keeper_uses t (moments_of (w ∷ ss)))) first (mine ∙ all))

  module _ (lines : List (Option TraceLine)) (ss : List ServedWindow) (are : AreWindowsOf config lines ss) (f g : Floor D) (from_start : ServedFromStart tells options.reclaim ss f old.keepers.items g new.keepers.items)
      (closable : IsClosable state config b new) (keep : KeepToViews views new) (spindles : List SpindleView) (count : length spindles ≡ length (shapes_of config)) (each : (k : ℕ) (s : SpindleView) → slice_get spindles k ≡ Some s → IsClosedSpindle new k s) where
    pub accounts_of : ((k : ℕ) (p : SpindlePass) (entries : List Entry) → k < length old.keepers.items → slice_get new.keepers.items k ≡ Some p → IsPartOf entries p
        → answers_by (timeout_of p) new_spindle (pass_number p) (uses_of entries) ≡ column k awake) → (k : ℕ) (s : SpindleView) → slice_get spindles k ≡ Some s → IsAccount config views k (started (timed lines)) (moments_of ss) awake s
    accounts_of told k s there =
        let c = kept_by state config b new closable spindles count k s there (each k s there) in
        let less : k < length old.keepers.items = (let lt = (at_place spindles k s there).0 in omega (arith, lt, count, is.keepers.0)) in
        spindle_account lines ss f g from_start (served_moments config (windows (most_of config) (targets_of config) lines) ss are) k s c.base c.entries c.pass less c.keeper
        c.stands c.others c.part.mine c.volume c.timeout_is
        (subst (λ (x : SpindleBase). answers_by x.timeout new_spindle (pass_number c.pass) (uses_of c.entries) ≡ column k awake) c.base_is (told k c.pass c.entries less c.keeper c.part)) c.ended (c.users views keep)

  module _ (f g : Floor D) (counted : Counted) (w : ServesWhole tells left config options start now f old.keepers.items g new.keepers.items counted faults faults' printed printed')
      (closable : IsClosable state config b new) (keep : KeepToViews views new) (spindles : List SpindleView) (count : length spindles ≡ length (shapes_of config)) (each : (k : ℕ) (s : SpindleView) → slice_get spindles k ≡ Some s → IsClosedSpindle new k s) where
    pub summary_now : ((k : ℕ) (p : SpindlePass) (entries : List Entry) → k < length old.keepers.items → slice_get new.keepers.items k ≡ Some p → IsPartOf entries p
        → answers_by (timeout_of p) new_spindle (pass_number p) (uses_of entries) ≡ column k awake) → AreAllCounted (requests (most_of config) (targets_of config) w.lines) w.served → length spindles ≡ length config.volumes.items
        → IsSummary config views w.lines (w.served ++ []) awake (summary_text counted.totals (printed_names config.volumes.items) (all_amounts config.powers counted.started counted.ended spindles))
    summary_now told all sized = subst (λ (ss : List ServedWindow). IsSummary config views w.lines ss awake (summary_text counted.totals (printed_names config.volumes.items) (all_amounts config.powers counted.started counted.ended spindles))) (sym (append-nil w.served)) (record {
      totals = counted.totals;
      line_count = w.line_count;
      blank = w.blank;
      skipped = w.skipped;
      span = w.span ∙ (λ i. w.ended_ i - w.started_ i);
      counted = w.totals_;
      reads = w.totals_.reads ∙ all.reads;
      writes = w.totals_.writes ∙ all.writes;
      disks = record {
        spindles = spindles;
        count = sized;
        each = accounts_of w.lines w.served w.are f g w.from_start closable keep spindles count each told;
      };
      text_is = λ i. summary_text counted.totals (printed_names config.volumes.items) (all_amounts config.powers (w.started_ i) (w.ended_ i) spindles);
    })
