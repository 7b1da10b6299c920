use Rattle.std.proofs.Common.{◌∙◌, Some, ap}
use Rattle.clap.specs.Words.{Rule, rule_of}
use Rattle.clap.specs.declared.builder.Arg.{Arg}
use Rattle.clap.specs.declared.builder.ArgAction.TheVariants.{SetTrue}
use Rattle.command_words.proofs.application.flag.Goals as goal

pub returns-clause-rule : goal.returns-clause-rule
returns-clause-rule c = ap rule_of c.action.ensures ∙ ap (λ (r : Rule). record r { action = Some SetTrue }) c.option.ensures.rule

pub returns-clause-global : goal.returns-clause-global
returns-clause-global c = ap (λ (a : Arg). a.global) c.action.ensures ∙ c.option.ensures.global
