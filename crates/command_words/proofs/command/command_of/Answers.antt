use Rattle.std.proofs.Common.{◌≡◌, List, map}
use Rattle.std.specs.Prelude.{string_bytes}
use Rattle.clap.specs.Words.{Text, app_of, found_of, rows_of}
use Rattle.clap.specs.declared.ArgMatches.TheViews.{out-ArgMatches}
use Rattle.command_words.specs.Commands.{AsksNothing}
use Rattle.command_words.specs.declared.command.WordsFault.TheVariants.{NotACommand}
use Rattle.command_words.proofs.Asked.{asked_for, asked_nothing, refused, same_err, side_by_side, was_none}
use Rattle.command_words.proofs.command.command_of.Goals as goal

pub returns-in-Err-clause-refused : goal.returns-in-Err-clause-refused
returns-in-Err-clause-refused c =
    let words : List Text = map (string_bytes {Z = Rattle.std.proofs.Common.Global}) c.args.words.now in
    λ is. refused (app_of c.in-Ok.application) words c.in-Err.error c.in-Ok.ensures c.in-Err.ensures.kinds (c.fault_of.ensures.refused (same_err c.fault_of.result NotACommand is))

pub returns-clause-refused : goal.returns-clause-refused
returns-clause-refused c =
    let rows = rows_of (found_of c.in-Some.matches.now) in
    let met = side_by_side (out-ArgMatches c.in-Ok-try_get_matches_from.matches).subcommand c.in-Some.name.now rows c.in-Some.ensures.name c.in-Some.ensures.rows in
    λ is. asked_nothing (app_of c.in-Ok.application) _ c.in-Ok-try_get_matches_from.matches c.in-Some.name.now rows c.in-Ok.ensures c.in-Ok-try_get_matches_from.ensures.matches met
    (was_none c.read.result c.ok_or.result NotACommand NotACommand (AsksNothing c.in-Some.name.now rows) c.ok_or.ensures.value is c.read.ensures.none)

pub returns-clause-ok : goal.returns-clause-ok
returns-clause-ok c =
    let rows = rows_of (found_of c.in-Some.matches.now) in
    let met = side_by_side (out-ArgMatches c.in-Ok-try_get_matches_from.matches).subcommand c.in-Some.name.now rows c.in-Some.ensures.name c.in-Some.ensures.rows in
    asked_for (app_of c.in-Ok.application) _ c.in-Ok-try_get_matches_from.matches c.in-Some.name.now rows c.read.result c.ok_or.result NotACommand c.in-Ok.ensures c.in-Ok-try_get_matches_from.ensures.kinds c.in-Ok-try_get_matches_from.ensures.matches met c.ok_or.ensures.value c.read.ensures.some
