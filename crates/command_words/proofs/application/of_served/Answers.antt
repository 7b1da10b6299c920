use Rattle.std.proofs.lemmas.Result.{IfOk-weaker}
use Rattle.command_words.proofs.Gaining.{gains_more, gains_one}
use Rattle.command_words.proofs.application.of_served.Goals as goal

pub returns : goal.returns
returns c =
    IfOk-weaker c.arg.result _ _ (λ made h. gains_more _ _ _ _ _ c.in_ok-of_name.ensures (gains_one c.in_ok-of_name.field-0 made c.option.result _ c.option.ensures.rule c.option.ensures.global h)) c.arg.ensures
