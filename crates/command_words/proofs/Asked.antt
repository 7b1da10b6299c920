-- What a parse of the words says of the command that they ask for.
use Rattle.std.proofs.Common.{◌≡◌, ◌∙◌, inl, inr, true, refl, sym, ap, ap₂, subst, List, [], Option, Some, None, option_map, true≢false, is_some, Result, Ok, Err, IfNone, IfOk, IfSome}
use Rattle.std.specs.Prelude.{Box, is_ok, unwrap_or}
use Rattle.std.specs.Option.{ok_or}
use Rattle.std.specs.Box.{box_value}
use Rattle.clap.proofs.OnLiterals.{clap_on_literals}
use Rattle.clap.specs.Words.{App, HasKind, HasMatchesOf, Kinds, Row, Text, fault_of, is_simple, is_simple_and_free, kind_of, subcommand_of, subcommand_rows, subcommand_rows_of}
use Rattle.clap.specs.declared.Error.{Error}
use Rattle.clap.specs.declared.parser.matches.SubCommand.{SubCommand}
use Rattle.clap.specs.declared.ArgMatches.{ArgMatches}
use Rattle.clap.specs.declared.ArgMatches.TheViews.{out-SubCommand}
use Rattle.clap.specs.declared.error.ErrorKind.TheVariants.{OutOfMemory}
use Rattle.command_words.specs.Application.{the_app}
use Rattle.command_words.specs.Commands.{Asks, AsksNothing, IsCommand, NoCommand}
use Rattle.command_words.specs.declared.command.Command.{Command}
use Rattle.command_words.specs.declared.command.WordsFault.{WordsFault}

the_app_is_simple : is_simple the_app ≡ true
unfolding clap_on_literals
the_app_is_simple = refl

the_app_is_free : is_simple_and_free the_app ≡ true
unfolding clap_on_literals
the_app_is_free = refl

-- an error without any kind is want of memory
no_other : (e : Error) → HasKind [] e → kind_of e ≡ OutOfMemory
no_other e (inl memory) = memory
no_other e (inr none) = absurd none

-- words that ask for a command are refused for want of memory alone
pub refused : (app : App) (words : List Text) (e : Error) → app ≡ the_app → (is_simple_and_free app ≡ true → HasKind (fault_of app words) e) → ¬ (kind_of e ≡ OutOfMemory) → NoCommand words
refused app words e is kinds other command asked =
    let has : HasKind (fault_of the_app words) e = subst (λ (a : App). HasKind (fault_of a words) e) is (kinds (ap is_simple_and_free is ∙ the_app_is_free)) in
    other (no_other e (subst (λ (ks : Kinds). HasKind ks e) asked.taken has))

-- words of which the parse made a command ask for it
pub asked_for : (app : App) (words : List Text) (m : ArgMatches) (name : Text) (rows : List Row) (o : Option Command) (r : Result Command WordsFault) (e : WordsFault) → app ≡ the_app
    → (is_simple_and_free app ≡ true → fault_of app words ≡ []) → HasMatchesOf app words m → subcommand_rows_of m ≡ Some (name, rows) → r ≡ ok_or o e → IfSome o (Asks name rows) → IfOk r (IsCommand words)
asked_for app words m name rows None r e is free matches met same asks = subst (λ (x : Result Command WordsFault). IfOk x (IsCommand words)) (sym same) tt
asked_for app words m name rows (Some command) r e is free matches met same asks = subst (λ (x : Result Command WordsFault). IfOk x (IsCommand words)) (sym same) (record {
  taken = ap (λ (a : App). fault_of a words) (sym is) ∙ free (ap is_simple_and_free is ∙ the_app_is_free);
  name = name;
  rows = rows;
  met = ap (λ (a : App). subcommand_of a words) (sym is) ∙ sym (matches (ap is_simple is ∙ the_app_is_simple)).1 ∙ met;
  asks = asks;
})

-- words of which the parse made nothing that is a command ask for none
pub asked_nothing : (app : App) (words : List Text) (m : ArgMatches) (name : Text) (rows : List Row) → app ≡ the_app → HasMatchesOf app words m
    → subcommand_rows_of m ≡ Some (name, rows) → AsksNothing name rows → NoCommand words
asked_nothing app words m name rows is matches met none command asked =
    let made : subcommand_of the_app words ≡ Some (name, rows) = ap (λ (a : App). subcommand_of a words) (sym is) ∙ sym (matches (ap is_simple is ∙ the_app_is_simple)).1 ∙ met in
    let same : Some (asked.name, asked.rows) ≡ Some (name, rows) = sym asked.met ∙ made in
    let names : asked.name ≡ name = ap (λ (o : Option (Text × List Row)). (unwrap_or o ([], [])).0) same in
    let found : asked.rows ≡ rows = ap (λ (o : Option (Text × List Row)). (unwrap_or o ([], [])).1) same in
    none command (subst (λ (n : Text). Asks n rows command) names (subst (λ (rs : List Row). Asks asked.name rs command) found asked.asks))

-- ---- the answers in between

abbrev err_or : {T E : Type 0} → E → Result T E → E
err_or e (Ok x) = e
err_or e (Err f) = f

pub same_err : {T E : Type 0} (e f : E) → ◌≡◌ {A = Result T E} (Err e) (Err f) → e ≡ f
same_err e f is = ap (err_or e) is

-- an answer that became an error was none
pub was_none : {T E : Type 0} (o : Option T) (r : Result T E) (e f : E) (P : Type 0) → r ≡ ok_or o e → r ≡ Err f → IfNone o P → P
was_none None r e f P value is none = none
was_none (Some x) r e f P value is none = absurd (true≢false (ap is_ok (sym value ∙ is)))

-- the name and the rows of a subcommand, side by side
pub side_by_side : {Z : Type 0} (o : Option (Box SubCommand Z)) (name : Text) (rows : List Row) → Some name ≡ option_map (λ b. (out-SubCommand (box_value b)).name.now) o
    → Some rows ≡ option_map (λ p. p.1) (subcommand_rows o) → subcommand_rows o ≡ Some (name, rows)
side_by_side None name rows n r = absurd (true≢false (ap is_some n))
side_by_side (Some b) name rows n r = ap₂ (λ x y. Some (x, y)) (ap (λ o. unwrap_or o name) (sym n)) (ap (λ o. unwrap_or o rows) (sym r))
