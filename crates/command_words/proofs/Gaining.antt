-- A command with an argument more has no global argument more.
use Rattle.std.proofs.Common.{◌≡◌, ◌∙◌, ◌||◌, false, ap}
use Rattle.std.proofs.Math.Bool.{or-false}
use Rattle.clap.specs.Built.{AddsArg}
use Rattle.clap.specs.Words.{App, Rule, app_of, rule_of, with_rule}
use Rattle.clap.specs.declared.builder.Arg.{Arg}
use Rattle.clap.specs.declared.builder.Command.{Command}
use Rattle.clap.specs.declared.builder.Command.TheViews.{out-Command}
use Rattle.command_words.specs.Application.{Gains}

pub gains_one : (before after : Command) (a : Arg) (rule : Rule) → rule_of a ≡ rule → a.global ≡ false → AddsArg before a after → Gains (λ app. with_rule app rule) before after
gains_one before after a rule is own added = record {
  app = added.shape own ∙ ap (with_rule (app_of before)) is;
  globals = added.globals ∙ ap (λ b. (out-Command before).has_globals || b) own ∙ or-false (out-Command before).has_globals;
}

pub gains_more : (first then_ : App → App) (before mid after : Command) → Gains first before mid → Gains then_ mid after → Gains (λ app. then_ (first app)) before after
gains_more first then_ before mid after one more = record { app = more.app ∙ ap then_ one.app; globals = more.globals ∙ one.globals }
