use Rattle.std.proofs.lemmas.Result.{IfOk-weaker}
use Rattle.command_words.proofs.Gaining.{gains_more, gains_one}
use Rattle.command_words.proofs.application.of_pair.Goals as goal

pub returns : goal.returns
returns c =
    let one = gains_one c.args.command c.in_ok-arg.field-0 c.positional.result _ c.positional.ensures.rule c.positional.ensures.global c.in_ok-arg.ensures in
    IfOk-weaker c.arg-2.result _ _ (λ made h. gains_more _ _ _ _ _ one (gains_one c.in_ok-arg.field-0 made c.positional-2.result _ c.positional-2.ensures.rule c.positional-2.ensures.global h)) c.arg-2.ensures
