use Rattle.std.proofs.lemmas.Result.{IfOk-weaker}
use Rattle.command_words.proofs.Gaining.{gains_more, gains_one}
use Rattle.command_words.proofs.application.of_what_if.Goals as goal

pub returns : goal.returns
returns c =
    let first = gains_one c.args.command c.in_ok-arg.field-0 c.option.result _ c.option.ensures.rule c.option.ensures.global c.in_ok-arg.ensures in
    let second = gains_one c.in_ok-arg.field-0 c.in_ok-arg-2.field-0 c.flag.result _ c.flag.ensures.rule c.flag.ensures.global c.in_ok-arg-2.ensures in
    IfOk-weaker c.arg-3.result _ _ (λ made h. gains_more _ _ _ _ _ (gains_more _ _ _ _ _ first second) (gains_one c.in_ok-arg-2.field-0 made c.flag-2.result _ c.flag-2.ensures.rule c.flag-2.ensures.global h)) c.arg-3.ensures
