use Rattle.std.proofs.Common.{◌≡◌, ◌∙◌, sym, subst, codes, List}
use Rattle.clap.specs.Words.{Row, Text, found_of, rows_of}
use Rattle.solo.specs.Volume.{target_of}
use Rattle.command_words.specs.Commands.{AsksNothing, HasValues, name_of}
use Rattle.command_words.specs.Values.{named_by, served_by}
use Rattle.command_words.specs.declared.command.Command.{Command}
use Rattle.command_words.specs.declared.command.Command.TheVariants.{Nbd, Serve, Solo, ViewAdd, ViewRemove}
use Rattle.command_words.proofs.Unique.{by_name}
use Rattle.command_words.proofs.command.read.Goals as goal

-- a command of this name has values of its own, and there are none
none_asked : {T : Type 0} (name key : Text) (rows : List Row) (make : T → Command) → ((d : Command) → key ≡ name_of d → (x : T) × (d ≡ make x)) → ((x : T) → ¬ HasValues rows (make x)) → name ≡ key → AsksNothing name rows
none_asked name key rows make of_name none is d asks =
    let (x, at) = of_name d (sym is ∙ asks.named) in
    none x (subst (HasValues rows) at asks.values)

pub returns-in_err-volume_of-in-solo-clause-none : goal.returns-in_err-volume_of-in-solo-clause-none
returns-in_err-volume_of-in-solo-clause-none c =
    rw c.from_residual.ensures (none_asked c.args.name.now (codes "solo") (rows_of (found_of c.args.matches.now)) Solo (by_name (codes "solo")) (λ x. c.in_err-volume_of-in-solo.ensures.none (target_of x)) c.in-solo.is)

pub returns-in_err-names_of-in-text-clause-none : goal.returns-in_err-names_of-in-text-clause-none
returns-in_err-names_of-in-text-clause-none c =
    rw c.from_residual-in_err-names_of-in-text.ensures (none_asked c.args.name.now (codes "view-add") (rows_of (found_of c.args.matches.now)) ViewAdd (by_name (codes "view-add")) (λ x. c.in_err-names_of-in-text.ensures.none (named_by x)) c.in-text.is)

pub returns-in_err-names_of-in-text-2-clause-none : goal.returns-in_err-names_of-in-text-2-clause-none
returns-in_err-names_of-in-text-2-clause-none c =
    rw c.from_residual-in_err-names_of-in-text-2.ensures (none_asked c.args.name.now (codes "view-remove") (rows_of (found_of c.args.matches.now)) ViewRemove (by_name (codes "view-remove")) (λ x. c.in_err-names_of-in-text-2.ensures.none (named_by x)) c.in-text-2.is)

pub returns-in_err-served_of-in-nbd-clause-none : goal.returns-in_err-served_of-in-nbd-clause-none
returns-in_err-served_of-in-nbd-clause-none c =
    rw c.from_residual-in_err-served_of-in-nbd.ensures (none_asked c.args.name.now (codes "nbd") (rows_of (found_of c.args.matches.now)) Nbd (by_name (codes "nbd")) (λ x. c.in_err-served_of-in-nbd.ensures.none (served_by x)) c.in-nbd.is)
