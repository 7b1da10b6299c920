-- The account holds of each run.
use Rattle.replay.proofs.Basics.{◌≡◌, ◌⊎◌, ◌++◌, ℕ, Bool, List, Option, None, Some, Result, Ok, Err, inl, inr, ⊤, IsTrue}
use Rattle.replay.proofs.Terms.{State, BayState, Told, TraceLine, joined_lines, Config, IsTold, ArePools, BeginAsRead, History, IsHistory}
use Rattle.replay.proofs.Terms.{answers_in, view_at, LeavesImages, Replayed, Replays, status_in, ServedWindow, IsSummaryOf, PrintsRun}
use Rattle.replay.proofs.Terms.{Given, Options, Stop}
use Rattle.replay.specs.Account.{Account, EndsWithSummary, KeepsAccount}
use Rattle.replay.proofs.HeadlineKept.{closed_yet, no_memory_yet, to_the_end}
use Rattle.replay.proofs.Statuses.{not_success}
use Rattle.replay.specs.Replays as replays
use Rattle.replay.specs.Summed as summed
use Rattle.replay.specs.declared.stop.Stop.TheVariants as stop

-- a run that came to the end of its trace printed the summary
summary_printed : {S T : Type 0} (left : S → Option (List ℕ)) (config : Config) (views : ℕ → List ℕ) (start now : Given S) (lines : List (Option TraceLine)) (windows : List ServedWindow) (awake : List (List Bool)) (result : Result T Stop) (text : List ℕ) (told : List (List ℕ))
    (faults faults' : ℕ) (taken taken' : Option (List ℕ)) → IsSummaryOf left config views start now lines windows awake result text → PrintsRun result told text faults faults' taken taken' → status_in result ≡ 0
    → EndsWithSummary config views lines windows awake taken taken'
summary_printed left config views start now lines windows awake (Ok done) text told faults faults' taken taken' (summed.of_all _ _ all summary) (calm, is) at_end = (joined_lines told, text, summary, is)
summary_printed left config views start now lines windows awake (Err stop.Sink) text told faults faults' taken taken' summary prints at_end = absurd (cc at_end)
summary_printed left config views start now lines windows awake (Err (stop.Fault f)) text told faults faults' taken taken' summary prints at_end = absurd (not_success f at_end)

-- the disks, by the status
short_or_not : {A B : Type 0} {n : ℕ} → A ⊎ ((n ≡ 9) × B) → A ⊎ (((n ≡ 7) ⊎ (n ≡ 9)) × B)
short_or_not (inl all) = inl all
short_or_not (inr (is, short)) = inr (inr is, short)

told_twice : (P Q X : Told → Told → Type 0) (a b : Option Told) → IsTold P a b → IsTold Q a b → ((o n : Told) → P o n → Q o n → X o n) → IsTold X a b
told_twice P Q X None b p q all = p
told_twice P Q X (Some o) None p q all = p
told_twice P Q X (Some o) (Some n) p q all = all o n p q

module _ {S T : Type 0} (tells : Bool) (left : S → Option (List ℕ)) (config : Config) (options : Options) (start now : Given S) (old new : BayState) (result : Result T Stop) (sink sink' : ℕ) (taken taken' : Option (List ℕ))
    (r : Replays tells left config options start now old new result sink sink' taken taken') (telling : IsTrue tells) where
  history_told : (v : ℕ) (h : History) → IsHistory (IsTrue tells) (answers_in (r.earlier ++ r.last)) v h → IsHistory ⊤ (answers_in (r.earlier ++ r.last)) v h
  history_told v h is = record {
    owner = is.owner;
    opening = is.opening;
    legal = record { replies = λ told. is.legal.replies telling; breaks = is.legal.breaks; helpers = is.legal.helpers; ruled = is.legal.ruled };
    ruled = is.ruled;
    answered = is.answered;
  }

  account_kept : IsTold (λ entry exit. Account left config options.reclaim start now entry exit (status_in result) taken taken') old.told new.told
  account_kept = told_twice (λ entry exit. BeginAsRead config entry r.histories × ArePools config entry r.pools) (LeavesImages tells config (answers_in (r.earlier ++ r.last)) r.histories) (λ entry exit. Account left config options.reclaim start now entry exit (status_in result) taken taken') old.told new.told
      (told_twice (λ entry exit. BeginAsRead config entry r.histories) (λ entry exit. ArePools config entry r.pools) (λ entry exit. BeginAsRead config entry r.histories × ArePools config entry r.pools) old.told new.told (r.begun telling) (r.are_pools telling) (λ o n begun pools. (begun, pools)))
      (r.images telling)
      (λ entry exit first leaves. record {
        lines = r.run;
        given = (r.more, r.given);
        all = λ is. to_the_end left config start now r.run r.last old.faults new.faults sink sink' result r.ends is;
        windows = r.earlier ++ r.last;
        are = r.windows_;
        awake = r.awake;
        pools = r.pools;
        shared = first.1;
        histories = r.histories;
        count = r.are.count;
        each_volume = λ v h here. record {
          begun = first.0 v h here;
          history = history_told v h (r.are.each v h here);
          passed = r.passed v h here;
          taken = r.taken v h here;
          works = r.worked.each v h here;
          alone = λ other. r.reclaims.alone other v h here;
          left = λ images left. (leaves.distinct v h here images left, λ intact. (leaves.listed v h here intact images left, leaves.on_loggers v h here intact images left));
        };
        disks = short_or_not r.disks;
        unbroken = r.unbroken;
        printed = summary_printed left config (view_at r.histories) start now r.run (r.earlier ++ r.last) r.awake result r.summary _ sink sink' taken taken' r.summary_is r.prints;
        placed = r.placed;
        reclaimed = r.reclaimed;
      })

pub keeps_account : {D S T : Type 0} (tells : Bool) (state : D → State) (left : S → Option (List ℕ)) (config : Config) (options : Options) (start now : Given S) (old new : BayState) (sink sink' : ℕ) (taken taken' : Option (List ℕ)) (result : Result T Stop)
    → Replayed tells state left config options start now old new sink sink' taken taken' result → KeepsAccount tells state left config options.reclaim start now old new (status_in result) taken taken'
keeps_account tells state left config options start now old new sink sink' taken taken' _ (replays.no_memory asks leaves) = inl (no_memory_yet tells state config start now old new sink sink' taken taken' asks leaves.bay)
keeps_account tells state left config options start now old new sink sink' taken taken' _ (replays.closed k f asks first leaves) = inl (closed_yet tells state config start now old new sink sink' taken taken' k f asks leaves.bay)
keeps_account tells state left config options start now old new sink sink' taken taken' result (replays.ran _ r) = inr (λ telling. account_kept tells left config options start now old new result sink sink' taken taken' r telling)
