use Rattle.std.proofs.lemmas.Result.{IfOk-weaker}
use Rattle.command_words.proofs.Gaining.{gains_more, gains_one}
use Rattle.command_words.proofs.application.of_volume.Goals as goal

pub returns : goal.returns
returns c =
    let one = c.in_ok-of_pair.ensures in
    IfOk-weaker c.arg.result _ _ (λ made h. gains_more _ _ _ _ _ one (gains_one c.in_ok-of_pair.field-0 made c.positional.result _ c.positional.ensures.rule c.positional.ensures.global h)) c.arg.ensures
