use Rattle.std.proofs.Common.{◌≡◌, ℕ, List, subst}
use Rattle.wol_disk.specs.Disk.{Block}
use Rattle.logger_view.specs.Stored.{IsFirstFault}
use Rattle.logger_view.proofs.loading.load.Goals as goal

pub returns-in-Err-clause-damaged : goal.returns-in-Err-clause-damaged
returns-in-Err-clause-damaged g c vs block is e =
    let same : c.in-Err.block ≡ block = cc in
    let P : ℕ → Type 0 = λ n. IsFirstFault c.args.own c.in_ok-blocks.blocks n in
    let Q : List Block → Type 0 = λ bs. IsFirstFault c.args.own bs block in
    subst Q (c.in_ok-blocks.ensures.content vs is) (subst P same c.in-Err.ensures.damaged)
