-- All volumes of a bay were looked at.
use Rattle.std.proofs.Common.{◌≡◌, ℕ, Bool, List, [], Option, None, Some, Result, Err, refl, sym, ap, ◌∙◌, arith}
use Rattle.std.proofs.lemmas.Option.{slice_get_within}
use Rattle.wol_disk.specs.Disk.{State}
use Rattle.wol_bay.specs.Bay.{BayState}
use Rattle.wol_config.specs.declared.config.Config.{Config}
use Rattle.wol_io.proofs.Appending.{appends_none, keeps_same}
use Rattle.report.specs.declared.trouble.Trouble.{Trouble}
use Rattle.spin_model.specs.Spindles.{SpindleView}
use Rattle.rack_parts.specs.declared.rack.Rack.{Rack}
use Rattle.rack.specs.BayRuns.{QuietRun}
use Rattle.rack.proofs.RunLaws.{quiet_of}
use Rattle.rack.specs.Sessions.{OpensAndCloses}
use Rattle.rack.proofs.RacksAgain.{closable_again}
use Rattle.rack.proofs.Since.{not_out}
use Rattle.inspection.specs.Lines.{PrintsVolumes}
use Rattle.inspection.specs.Runs.{Inspects}
use Rattle.inspection.specs.declared.asked.Asked.{Asked}
use Rattle.inspection.specs.declared.calls.Stop.{Stop}
use Rattle.inspection.specs.declared.calls.Stop.TheVariants.{Memory}
use Rattle.inspection.proofs.Quiet.{all_quiet}
use Rattle.inspection.proofs.Telling.{refused_is, told_of}

-- no volume was opened for want of memory
pub nothing_told : {D : Type 0} (tells : Bool) (state : D → State) (config : Config) (asked : Asked) (old new : BayState) (result : Result (Option Trouble) Stop) (faults : ℕ) (printed : Option (List ℕ)) → result ≡ Err Memory → QuietRun tells config old new
    → Inspects tells state config asked old new result faults faults printed printed
nothing_told tells state config asked old new result faults printed is run = record {
  told = [];
  looked = record {
    run = run;
    out = [];
    are_out = λ some. absurd (some refl);
    missing = λ some. absurd (some refl);
    few = omega arith;
    each = λ k t no. absurd (let e : None ≡ Some t = no in cc);
  };
  prints = rw is (refl, appends_none printed printed (keeps_same printed));
}

-- the volumes were opened, printed and closed
pub inspected : {D : Type 0} (tells : Bool) (state : D → State) (config : Config) (asked : Asked) (did : Rack D → Rack D → Type 0) (old new : BayState) (spindles : List SpindleView)
    (session : OpensAndCloses tells state config did old new spindles) (result : Result (Option Trouble) Stop) (faults faults' : ℕ) (printed printed' : Option (List ℕ))
    → PrintsVolumes tells state config asked session.before session.after result faults faults' printed printed'
    → Inspects tells state config asked old new result faults faults' printed printed'
inspected {D} tells state config asked did old new spindles session result faults faults' printed printed' prints = record {
  told = prints.told;
  looked = record {
    -- a look writes nothing
    run = record {
      run = session.runs.run;
      quiet = quiet_of tells config old new session.after session.runs (closable_again state config session.before session.after session.again session.bay session.opened.rack).stations
          (all_quiet session.before.stations.items session.after.stations.items prints.same.each session.opened.fresh);
    };
    out = session.before.rest.images.items;
    are_out = λ some. refused_is tells state config asked did old new spindles session;
    missing = λ some k v at gone. session.missing k v at (not_out session.before.rest.images.items k (sym (ap (λ (f : ℕ → Bool). f k) (refused_is tells state config asked did old new spindles session)) ∙ gone));
    few = prints.are.few;
    each = λ k t at. told_of tells state config asked did old new spindles session k t
        (let within = slice_get_within prints.told k t at in let few = prints.are.few in omega (arith, within, few)) (prints.are.each k t at);
  };
  prints = prints.prints;
}
