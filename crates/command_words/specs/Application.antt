-- The program as a command of `clap`: what its parse reads of it.
use Rattle.std.specs.Prelude.{◌≡◌, true, [], Some, codes}
use Rattle.clap.specs.Words.{App, Rule, Text, app_of, new_app, new_rule, with_rule, with_subcommand}
use Rattle.clap.specs.Simple.{new_shape}
use Rattle.clap.specs.declared.builder.ArgAction.TheVariants.{SetTrue}
use Rattle.clap.specs.declared.builder.Command.{Command}
use Rattle.clap.specs.declared.builder.Command.TheViews.{out-Command}

-- an argument that is known by its place, and has to be given
abbrev pub positional_rule : Text → Rule
positional_rule name = record (new_rule name) { required = true }

-- an option that has a value
abbrev pub option_rule : Text → Rule
option_rule name = record (new_rule name) { long = Some name }

-- an option without one
abbrev pub flag_rule : Text → Rule
flag_rule name = record (option_rule name) { action = Some SetTrue }

-- the command gains arguments, none of which is one of its subcommands too
pub record Gains (arguments : App → App) (before after : Command) : Type 0 where
  pub app : app_of after ≡ arguments (app_of before)
  pub globals : (out-Command after).has_globals ≡ (out-Command before).has_globals

-- the command with two arguments of these names
abbrev pub with_pair : (first second : Text) → App → App
with_pair first second a = with_rule (with_rule a (positional_rule first)) (positional_rule second)

-- the command with the arguments that name a volume
abbrev pub with_volume : App → App
with_volume a =
    with_rule (with_pair (codes "HOST") (codes "DISK") a) (positional_rule (codes "BLOCKS"))

-- the command with the arguments that name a generated trace
abbrev pub with_trace : App → App
with_trace a = with_pair (codes "SEED") (codes "LINES") a

-- the command with the arguments that name a volume and one that logs for it
abbrev pub with_names : App → App
with_names a = with_pair (codes "NAME") (codes "LOGGER") a

-- the command with the argument that names a volume of the configuration
abbrev pub with_name : App → App
with_name a = with_rule a (positional_rule (codes "NAME"))

-- the command with an argument that may name a volume of the configuration
abbrev pub with_maybe_name : App → App
with_maybe_name a = with_rule a (new_rule (codes "NAME"))

-- the command with the argument that names a volume of the configuration, and the option of how long
-- it waits
abbrev pub with_served : App → App
with_served a = with_rule (with_name a) (option_rule (codes "wait"))

-- the command with the options of what is printed of policies, and by which timeout
abbrev pub with_what_if : App → App
with_what_if a =
    with_rule (with_rule (with_rule a (option_rule (codes "timeout")))
    (flag_rule (codes "long"))) (flag_rule (codes "volumes"))

-- the command with the options of a run over a trace
abbrev pub with_options : App → App
with_options a =
    with_rule (with_rule (with_rule a (option_rule (codes "workers")))
    (option_rule (codes "reclaim"))) (flag_rule (codes "each"))

-- the program with no subcommand yet: one has to be given, and there is no help and no version
abbrev pub bare_app : App
bare_app = record {
  top = record (new_shape (codes "wol")) {
    no_binary_name = true;
    disable_help_flag = true;
    disable_help_subcommand = true;
    disable_version_flag = true;
    subcommand_required = true;
  };
  subs = [];
}

-- the program
abbrev pub the_app : App
the_app =
    with_subcommand (with_subcommand (with_subcommand (with_subcommand (with_subcommand
    (with_subcommand (with_subcommand (with_subcommand (with_subcommand (with_subcommand
    (with_subcommand (with_subcommand (with_subcommand bare_app
    (with_volume (new_app (codes "solo"))).top)
    (with_maybe_name (new_app (codes "format"))).top)
    (with_options (new_app (codes "replay"))).top)
    (new_app (codes "check")).top)
    (new_app (codes "dump")).top)
    (with_trace (new_app (codes "gen"))).top)
    (with_what_if (new_app (codes "whatif"))).top)
    (with_names (new_app (codes "view-add"))).top)
    (with_names (new_app (codes "view-remove"))).top)
    (new_app (codes "clean")).top)
    (with_name (new_app (codes "nbd"))).top)
    (with_served (new_app (codes "serve"))).top)
    (with_options (with_trace (new_app (codes "soak")))).top
