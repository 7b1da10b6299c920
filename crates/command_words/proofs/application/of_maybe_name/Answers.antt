use Rattle.std.proofs.lemmas.Result.{IfOk-weaker}
use Rattle.command_words.proofs.Gaining.{gains_one}
use Rattle.command_words.proofs.application.of_maybe_name.Goals as goal

pub returns : goal.returns
returns c =
    IfOk-weaker c.arg.result _ _ (λ made h. gains_one c.args.command made c.new.result _ c.new.ensures.rule c.new.ensures.optional.1 h) c.arg.ensures
