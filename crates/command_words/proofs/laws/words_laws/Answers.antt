use Rattle.command_words.proofs.laws.words_laws.Goals as goal
use Rattle.command_words.proofs.Spelled.{each_is_named, spelled_is_command}
use Rattle.command_words.proofs.Unique.{commands_are_one}

pub returns-clause-spelled : goal.returns-clause-spelled
returns-clause-spelled c = spelled_is_command

pub returns-clause-named : goal.returns-clause-named
returns-clause-named c = each_is_named

pub returns-clause-one : goal.returns-clause-one
returns-clause-one c = commands_are_one
