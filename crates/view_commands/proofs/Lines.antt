-- A change of a view is told by names, with the line that is printed.
use Rattle.std.proofs.Common.{◌≡◌, inl, inr, ℕ, Bool, false, List, Option, None, Some, Result, Ok, Err, refl, sym, ap, subst, arith}
use Rattle.std.specs.Prelude.{IfOk}
use Rattle.wol_disk.specs.Disk.{State, Rose}
use Rattle.wol_bay.specs.Bay.{BayState, Told}
use Rattle.wol_config.specs.declared.config.Config.{Config}
use Rattle.report.specs.declared.fault.Fault.{Fault}
use Rattle.report.specs.declared.fault.Fault.TheVariants.{Memory, Volume}
use Rattle.rack.specs.Troubles.{trouble_of}
use Rattle.volume_images.specs.Left.{IsTold}
use Rattle.rack.specs.Opens.{KeepsAllSound, LeavesAll}
use Rattle.rack.proofs.KeptLogs.{logs_stay}
use Rattle.inspection.specs.Runs.{MayComplete}
use Rattle.view_change.specs.declared.answers.Change.{Change}
use Rattle.view_commands.specs.Orders.{AreNamed, change_of}
use Rattle.view_commands.specs.Printed.{PrintsView}
use Rattle.view_commands.specs.Runs.{ChangesOpen, ChangesVolume, ChangesView, Completes, FailsFor}
use Rattle.view_commands.specs.Runs as runs
use Rattle.view_commands.specs.Views.{BecomesBy, ChangesViewOf, HasViewIn}
use Rattle.view_commands.specs.declared.order.Order.{Order}
use Rattle.view_commands.specs.declared.order.Stop.{Stop}
use Rattle.view_commands.specs.declared.order.Stop.TheVariants as stop
use Rattle.view_commands.specs.declared.order.ViewRefusal.{ViewRefusal}
use Rattle.view_commands.proofs.Sessions.{told_by}

-- ---- A view that was changed and printed

module _ (config : Config) (volume : ℕ) (asked : Change) (view line : List ℕ) (entry left : Told) where
  printed_of : (result : Result (Unit {0}) Stop) → ((r : ViewRefusal) → result ≡ Err (stop.Refused r) → ⊥) → ChangesViewOf {T = List ℕ} config volume asked (Ok line) view entry left → ChangesViewOf config volume asked result view entry left
  printed_of result never is = record { ids = is.ids; at_entry = is.at_entry; becomes = go result never; others = is.others }
    where
      go : (r : Result (Unit {0}) Stop) → ((x : ViewRefusal) → r ≡ Err (stop.Refused x) → ⊥) → BecomesBy r config volume asked is.ids view left
      go (Ok done) never = is.becomes
      go (Err stop.Sink) never = is.becomes
      go (Err (stop.Refused r)) never = absurd (never r refl)
      go (Err (stop.Fault f)) never = λ images may. inr (is.becomes.0, subst (HasViewIn images volume) is.becomes.1 (is.becomes.2 images may))

  failed_of : (e : Stop) → ChangesViewOf {T = List ℕ} config volume asked (Err e) view entry left → ChangesViewOf {T = Unit {0}} config volume asked (Err e) view entry left
  failed_of e is = record { ids = is.ids; at_entry = is.at_entry; becomes = go e is.becomes; others = is.others }
    where
      go : (s : Stop) → BecomesBy {T = List ℕ} (Err s) config volume asked is.ids view left → BecomesBy {T = Unit {0}} (Err s) config volume asked is.ids view left
      go stop.Sink by = by
      go (stop.Refused r) by = by
      go (stop.Fault f) by = by

module _ {D : Type 0} (tells : Bool) (state : D → State) (config : Config) (order : Order) (volume logger : ℕ) (named : AreNamed config order volume logger) (old new : BayState) where
  abbrev asked : Change
  asked = change_of order.verb logger

  -- all were open, and the view was printed, or not for want of memory or since the sink failed
  pub printed_open : (view : List ℕ) (r : Result (List ℕ) Stop) → r ≡ Ok view → ChangesVolume tells state config volume asked old new r → (result : Result (Unit {0}) Stop) (faults faults' : ℕ) (printed printed' : Option (List ℕ))
      → PrintsView config volume view result faults faults' printed printed' → ((x : ViewRefusal) → result ≡ Err (stop.Refused x) → ⊥) → ((f : Fault) → result ≡ Err (stop.Fault f) → f ≡ Memory)
      → ChangesView tells state config order old new faults faults' printed printed' result
  printed_open view r ok (runs.never_opened leaves) result faults faults' printed printed' prints never memory = absurd (cc ok)
  printed_open view r ok (runs.one_closed k f first leaves) result faults faults' printed printed' prints never memory = absurd (cc ok)
  printed_open view r ok (runs.all_open same_r line is opens) result faults faults' printed printed' prints never memory =
      let same : view ≡ line = (let P : Result (List ℕ) Stop → Type 0 = λ x. IfOk x (λ its. its ≡ line) in subst P ok is) in
      let open_ok : ChangesOpen tells config volume asked line old new (Ok view) = subst (ChangesOpen tells config volume asked line old new) ok opens in
      runs.opened volume logger line result named (subst (λ (l : List ℕ). PrintsView config volume l result faults faults' printed printed') same prints) (record {
        arrays = open_ok.arrays;
        views = λ telling. told_by (ChangesViewOf {T = List ℕ} config volume asked (Ok view) line) (ChangesViewOf config volume asked result line) (λ entry left is. printed_of config volume asked line view entry left result never is) old.told new.told (open_ok.views telling);
        there = open_ok.there;
        fails = λ f failed. subst (FailsFor tells config volume old new) (sym (memory f failed)) tt;
        known = λ x refused of_words. never x refused;
      })

  -- it ended before the view was printed
  pub ended_view : (e : Stop) → (e ≡ stop.Sink → ⊥) → (r : Result (List ℕ) Stop) → r ≡ Err e → ChangesVolume tells state config volume asked old new r → (faults : ℕ) (printed : Option (List ℕ))
      → ChangesView tells state config order old new faults faults printed printed (Err e)
  ended_view e no_sink r is_err (runs.never_opened leaves) faults printed =
      let same : stop.Fault Memory ≡ e = cc is_err in
      subst (λ (x : Stop). ChangesView tells state config order old new faults faults printed printed (Err x)) same (runs.no_memory volume logger named (refl, refl) leaves)
  ended_view e no_sink r is_err (runs.one_closed k f first leaves) faults printed =
      let same : stop.Fault (Volume k (trouble_of f)) ≡ e = cc is_err in
      subst (λ (x : Stop). ChangesView tells state config order old new faults faults printed printed (Err x)) same (runs.closed volume logger k f named (refl, refl) first leaves)
  ended_view e no_sink r is_err (runs.all_open same_r line is opens) faults printed =
      let open_err : ChangesOpen tells config volume asked line old new (Err e) = subst (ChangesOpen tells config volume asked line old new) is_err opens in
      runs.opened volume logger line (Err e) named (prints e no_sink) (record {
        arrays = open_err.arrays;
        views = λ telling. told_by (ChangesViewOf {T = List ℕ} config volume asked (Err e) line) (ChangesViewOf {T = Unit {0}} config volume asked (Err e) line) (λ entry left was. failed_of config volume asked line line entry left e was) old.told new.told (open_err.views telling);
        there = open_err.there;
        fails = λ f failed. (let same : e ≡ stop.Fault f = cc failed in open_err.fails f (ap (λ (x : Stop). Err x) same));
        known = λ x refused. (let same : e ≡ stop.Refused x = cc refused in open_err.known x (ap (λ (y : Stop). Err y) same));
      })
    where
      prints : (s : Stop) → (s ≡ stop.Sink → ⊥) → PrintsView config volume line (Err s) faults faults printed printed
      prints stop.Sink not = absurd (not refl)
      prints (stop.Refused x) not = (refl, refl)
      prints (stop.Fault f) not = (refl, refl)

-- ---- Where nothing was opened

-- what is left is what was there
pub leaves_same : {D : Type 0} (tells : Bool) (state : D → State) (config : Config) (b b' : BayState) (o : Option Told) → IsTold (LeavesAll tells state config b b') o o
leaves_same tells state config b b' None = refl
leaves_same tells state config b b' (Some t) = record {
  refused = λ k. false;
  cause = λ k v at no. absurd (cc no);
  kept = λ k v at or c may. may;
  there = λ images is v was. was images is;
  opened = λ v. false;
  are_opened = λ v no. absurd (cc no);
  left = λ images is v there. (images, is, record { but = refl; all = λ or. refl });
  logs = λ k v at or. logs_stay config k t t (λ name c may. may);
}

pub sound_same : (config : Config) (o : Option Told) → IsTold (KeepsAllSound config) o o
sound_same config None = refl
sound_same config (Some t) = λ all images left. all images left

-- ---- Completeness

-- a sink that isn't asked doesn't fail
pub still_completes : (tells : Bool) (config : Config) (old new : BayState) (sink sink' : ℕ) → MayComplete tells config old new sink sink' → MayComplete tells config old new 0 0
still_completes tells config old new sink sink' m = record {
  telling = m.telling;
  entry = m.entry;
  entry_is = m.entry_is;
  sound = m.sound;
  bay_calm = m.bay_calm;
  sink_calm = λ rose. elim rose [ inl less ↦ omega (arith, less) | inr most ↦ omega (arith, most) ];
}

pub completes_as : (e : Stop) → Completes {T = List ℕ} (Err e) → Completes {T = Unit {0}} (Err e)
completes_as e (inl ok) = absurd (cc ok)
completes_as e (inr (inl (r, is))) = inr (inl (r, ap (λ (x : Stop). Err x) (let same : e ≡ stop.Refused r = cc is in same)))
completes_as e (inr (inr is)) = inr (inr (ap (λ (x : Stop). Err x) (let same : e ≡ stop.Fault Memory = cc is in same)))

-- what is printed of a changed view
pub prints_complete : (config : Config) (volume : ℕ) (view : List ℕ) (result : Result (Unit {0}) Stop) (faults faults' : ℕ) (printed printed' : Option (List ℕ)) → PrintsView config volume view result faults faults' printed printed' → (Rose faults faults' → ⊥)
    → ((x : ViewRefusal) → result ≡ Err (stop.Refused x) → ⊥) → ((f : Fault) → result ≡ Err (stop.Fault f) → f ≡ Memory) → Completes result
prints_complete config volume view (Ok done) faults faults' printed printed' prints calm never memory = inl refl
prints_complete config volume view (Err stop.Sink) faults faults' printed printed' prints calm never memory = absurd (calm prints.0)
prints_complete config volume view (Err (stop.Refused x)) faults faults' printed printed' prints calm never memory = absurd (never x refl)
prints_complete config volume view (Err (stop.Fault f)) faults faults' printed printed' prints calm never memory = inr (inr (ap (λ (g : Fault). Err (stop.Fault g)) (memory f refl)))
