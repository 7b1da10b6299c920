-- The account holds of the program's runs, by the text and the status that end them.
use Rattle.std.proofs.Common.{◌≡◌, ◌≢◌, ◌⊎◌, ◌==◌, ℕ, Bool, true, false, List, ◌++◌, Option, Result, inl, inr, ◌∙◌}
use Rattle.std.proofs.lemmas.Bool.Decides.{eqb_tells}
use Rattle.wol_disk.specs.Disk.{State}
use Rattle.wol_bay.specs.Bay.{BayState}
use Rattle.wol_config.specs.declared.config.Config.{Config}
use Rattle.window_desks.specs.declared.request.Reclaim.{Reclaim}
use Rattle.replay.specs.Account.{Account, KeepsAccount}
use Rattle.replay.specs.Replays.{status_in}
use Rattle.replay.specs.declared.given.Given.{Given}
use Rattle.replay.specs.declared.session.Options.{Options}
use Rattle.replay.specs.declared.stop.Stop.{Stop}
use Rattle.replay.proofs.AccountKept.{keeps_account}
use Rattle.wol_run.specs.Replaying.{EndsReplay, GivenLines, IsReplay}
use Rattle.wol_run.proofs.HeadlineTold.{not_begun_ends, of_success, on_told, same_status, same_taken}

-- two statuses are one, or the second is that of a sink that failed, or of want of memory
told_short : {A B : Type 0} {m n : ℕ} → A ⊎ (((m ≡ 7) ⊎ (m ≡ 9)) × B) → (n ≢ 7 → n ≢ 9 → n ≡ m) → A ⊎ (((n ≡ 7) ⊎ (n ≡ 9)) × B)
told_short (inl all) same = inl all
told_short {A} {B} {m} {n} (inr (is, short)) same = inr (at (eqb_tells n 7) (eqb_tells n 9), short)
  where
    at : (((n == 7) ≡ true) × (n ≡ 7)) ⊎ (((n == 7) ≡ false) × (n ≢ 7)) → (((n == 9) ≡ true) × (n ≡ 9)) ⊎ (((n == 9) ≡ false) × (n ≢ 9)) → (n ≡ 7) ⊎ (n ≡ 9)
    at (inl seven) nine = inl seven.1
    at (inr not_7) (inl nine) = inr nine.1
    at (inr not_7) (inr not_9) = elim is [
      | inl seven ↦ absurd (not_7.1 (same not_7.1 not_9.1 ∙ seven))
      | inr nine ↦ absurd (not_9.1 (same not_7.1 not_9.1 ∙ nine))
    ]

module _ {D S T : Type 0} (tells : Bool) (state : D → State) (left : S → Option (List ℕ)) (config : Config) (mode : Reclaim) (start now : Given S) (old new : BayState) (result : Result T Stop) (status : ℕ) (taken then taken' : Option (List ℕ)) where
  account_ends : KeepsAccount tells state left config mode start now old new (status_in result) taken then → EndsReplay config result status then taken' → KeepsAccount tells state left config mode start now old new status taken taken'
  account_ends (inl none) ends = inl (not_begun_ends tells state config start now old new result status taken then taken' none ends)
  account_ends (inr keeps) ends = inr (λ telling. on_told
      (λ entry exit. Account left config mode start now entry exit (status_in result) taken then) (λ entry exit. Account left config mode start now entry exit status taken taken') old.told new.told (keeps telling)
      (λ entry exit a. record {
        lines = a.lines;
        given = a.given;
        all = λ zero_is. a.all (of_success config result status then taken' ends zero_is);
        windows = a.windows;
        are = a.are;
        awake = a.awake;
        pools = a.pools;
        shared = a.shared;
        histories = a.histories;
        count = a.count;
        each_volume = a.each_volume;
        disks = told_short a.disks (λ not_7 not_9. same_status config result status then taken' ends not_7 not_9);
        unbroken = λ zero_is. a.unbroken (of_success config result status then taken' ends zero_is);
        printed = λ zero_is. (
            let (before, summary, is, appends) = a.printed (of_success config result status then taken' ends zero_is) in
            (before, summary, is, same_taken config result status taken then taken' (before ++ summary) ends zero_is appends));
        placed = a.placed;
        reclaimed = a.reclaimed;
      }))

pub account_kept : {D : Type 0} (tells : Bool) (state : D → State) (options : Options) (config : Config) (start : GivenLines) (left_of_trace : Option (List ℕ)) (old new : BayState) (sink sink' status : ℕ) (taken taken' : Option (List ℕ))
    → (run : IsReplay tells state options config start left_of_trace old new sink sink' status taken taken') → KeepsAccount tells state (λ bytes. bytes) config options.reclaim start run.now old new status taken taken'
account_kept tells state options config start left_of_trace old new sink sink' status taken taken' run = account_ends tells state (λ bytes. bytes) config options.reclaim start run.now old new run.over.result status taken run.over.printed_then taken'
    (keeps_account tells state (λ bytes. bytes) config options start run.now old new sink run.over.sink_then taken run.over.printed_then run.over.result run.replayed) run.over.ends
