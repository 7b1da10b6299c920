use Rattle.std.proofs.lemmas.Result.{IfOk-weaker}
use Rattle.command_words.proofs.Gaining.{gains_one}
use Rattle.command_words.proofs.application.of_name.Goals as goal

pub returns : goal.returns
returns c =
    IfOk-weaker c.arg.result _ _ (λ made h. gains_one c.args.command made c.positional.result _ c.positional.ensures.rule c.positional.ensures.global h) c.arg.ensures
