use Rattle.std.proofs.Common.{◌≡◌, Bool, List, false, length, slice_index_or, ap, ◌∙◌}
use Rattle.logger.specs.Lanes.{logger_of}
use Rattle.request_turns.proofs.Waking.{told_flags, told_already}
use Rattle.request_turns.proofs.begin.tell.Goals as goal

pub returns-then-is_told : goal.returns-then-is_told
returns-then-is_told g c = told_already _ _ c.args.volume c.args.awake.now c.args.manager.now (c.is_told.ensures.0 c.if-is_told.true)

pub returns : goal.returns
returns g c =
    let n : length c.ups-lanes.result.now ≡ length c.args.manager.now.lanes.items = ap length c.ups-lanes.ensures ∙ c.requires.ready.ready.flags in record {
      leaves = c.begin.ensures.stands;
      flags = c.begin.ensures.unchanged ∙ ap (λ (ups : List Bool). record c.args.manager.now { home_up = slice_index_or c.args.awake.now c.args.volume false; ups = record { items = ups } })
          (told_flags c.flags-ups.result c.ups-lanes.result.now _ logger_of (λ v. slice_index_or c.args.awake.now v false) n c.flags-ups.ensures);
    }
