-- Words with the names of volumes are commands.
use Rattle.std.proofs.Common.{◌≡◌, ◌∙◌, refl, ap, List, [], ◌∷◌, ◌++◌, codes}
use Rattle.clap.proofs.OnLiterals.{clap_on_literals}
use Rattle.clap.specs.Simple.{Shape, built}
use Rattle.clap.specs.Words.{Row, Text, new_app}
use Rattle.command_words.specs.Application.{the_app, with_maybe_name, with_name, with_names}
use Rattle.command_words.specs.Commands.{HasValues, IsCommand, name_of}
use Rattle.command_words.specs.Table.{Form, IsOfName, IsOfNames, MayStand, Named, bare, behind_dashes, formed}
use Rattle.command_words.specs.Values.{HasNames, HasServed, missing_by}
use Rattle.command_words.specs.declared.command.Command.{Command}
use Rattle.command_words.specs.declared.command.Command.TheVariants.{FormatMissing}
use Rattle.command_words.specs.declared.command.MissingName.{MissingName}
use Rattle.command_words.proofs.Rows.{given_row}
use Rattle.command_words.proofs.Steps.{MayPlace}
use Rattle.command_words.proofs.Subcommands.{Enters}
use Rattle.command_words.proofs.Taken.{Takes, asks_for, built_sub, enters, maybe_placed, none_placed, one_placed, takes_placed}
use Rattle.command_words.proofs.Words.{plain_name}

abbrev pub name_rows : Text → List Row
name_rows name = given_row (codes "NAME") name ∷ []

abbrev names_rows : Text → Text → List Row
names_rows volume logger = given_row (codes "NAME") volume ∷ given_row (codes "LOGGER") logger ∷ []

-- a name that may stand may be placed
pub may_place : (form : Form) (name : Text) → MayStand form name → MayPlace form name
may_place bare name may = plain_name name may
may_place behind_dashes name may = tt

-- names behind what begins them
pub formed_of : (form : Form) (names : List Text) → formed form names ≡ formed form [] ++ names
formed_of bare names = refl
formed_of behind_dashes names = refl

-- ---- A name that may be left out

abbrev of_maybe : Shape
of_maybe = built_sub (with_maybe_name (new_app (codes "format")))

takes_maybe : (missing : MissingName) (form : Form) (name : Text) → MayPlace form name → Takes (codes "format") (formed form [] ++ name ∷ []) (name_rows name)
unfolding clap_on_literals
takes_maybe missing form name may =
    takes_placed (codes "format") of_maybe form (formed form [] ++ name ∷ []) (name_rows name) 2 (enters (FormatMissing missing)) refl
    (maybe_placed of_maybe form (codes "NAME") name 1 (formed form []) [] (none_placed of_maybe form) refl refl refl may) refl

pub missing_is_command : (words : List Text) (missing : MissingName) → IsOfName (codes "format") words (missing_by missing) → IsCommand words (FormatMissing missing)
missing_is_command words missing is =
    let name : Text = missing_by missing in
    asks_for words (codes "format") (formed is.form [] ++ name ∷ []) (name_rows name) (FormatMissing missing) (is.spelled ∙ ap (λ (ws : List Text). codes "format" ∷ ws) (formed_of is.form (name ∷ [])))
    (takes_maybe missing is.form name (may_place is.form name is.named))
    (record { named = refl; values = refl })

module _ (words : List Text) (c : Command) where
  -- ---- One name

  abbrev of_name : Shape
  of_name = built_sub (with_name (new_app (name_of c)))

  takes_name : (form : Form) (name : Text) → MayPlace form name → Enters (built the_app) (name_of c) of_name → Takes (name_of c) (formed form [] ++ name ∷ []) (name_rows name)
  unfolding clap_on_literals
  takes_name form name may enters =
      takes_placed (name_of c) of_name form (formed form [] ++ name ∷ []) (name_rows name) 2 enters refl
      (one_placed of_name form (codes "NAME") name 1 (formed form []) [] (none_placed of_name form) refl refl refl may) refl

  pub name_is_command : (name : Text) → Enters (built the_app) (name_of c) of_name → IsOfName (name_of c) words name → (HasServed (name_rows name) name → HasValues (name_rows name) c) → IsCommand words c
  name_is_command name enters is values =
      asks_for words (name_of c) (formed is.form [] ++ name ∷ []) (name_rows name) c (is.spelled ∙ ap (λ (ws : List Text). name_of c ∷ ws) (formed_of is.form (name ∷ [])))
      (takes_name is.form name (may_place is.form name is.named) enters)
      (record { named = refl; values = values refl })

  -- ---- Two names

  abbrev of_names : Shape
  of_names = built_sub (with_names (new_app (name_of c)))

  takes_names : (form : Form) (volume logger : Text) → MayPlace form volume → MayPlace form logger → Enters (built the_app) (name_of c) of_names
      → Takes (name_of c) ((formed form [] ++ volume ∷ []) ++ logger ∷ []) (names_rows volume logger)
  unfolding clap_on_literals
  takes_names form volume logger may_1 may_2 enters =
      let one = one_placed of_names form (codes "NAME") volume 1 (formed form []) [] (none_placed of_names form) refl refl refl may_1 in
      let all = one_placed of_names form (codes "LOGGER") logger 2 (formed form [] ++ volume ∷ []) (name_rows volume) one refl refl refl may_2 in
      takes_placed (name_of c) of_names form ((formed form [] ++ volume ∷ []) ++ logger ∷ []) (names_rows volume logger) 3 enters refl all refl

  pub names_are_command : (named : Named) → Enters (built the_app) (name_of c) of_names → IsOfNames (name_of c) words named → (HasNames (names_rows named.volume named.logger) named → HasValues (names_rows named.volume named.logger) c)
      → IsCommand words c
  names_are_command named enters is values =
      asks_for words (name_of c) ((formed is.form [] ++ named.volume ∷ []) ++ named.logger ∷ []) (names_rows named.volume named.logger) c
      (is.spelled ∙ ap (λ (ws : List Text). name_of c ∷ ws) (two_of is.form named.volume named.logger))
      (takes_names is.form named.volume named.logger (may_place is.form named.volume is.volume) (may_place is.form named.logger is.logger) enters)
      (record { named = refl; values = values (record { volume = refl; logger = refl }) })
    where
      two_of : (form : Form) (volume logger : Text) → formed form (volume ∷ logger ∷ []) ≡ (formed form [] ++ volume ∷ []) ++ logger ∷ []
      two_of bare volume logger = refl
      two_of behind_dashes volume logger = refl
