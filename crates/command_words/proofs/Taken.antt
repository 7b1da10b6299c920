-- What `clap` takes: words behind the name of a command, alone or with arguments by their places.
use Rattle.std.proofs.Common.{◌≡◌, ◌∙◌, ℕ, true, false, refl, ap, ap₂, arith, List, [], ◌∷◌, ◌++◌, Some, None, codes}
use Rattle.std.specs.Prelude.{decimal}
use Rattle.std.specs.List.{fold}
use Rattle.clap.proofs.OnLiterals.{clap_on_literals}
use Rattle.clap.specs.Faults.{check_fault, defaults_fault}
use Rattle.clap.specs.Kinds.{or_else}
use Rattle.clap.specs.Simple.{Shape, built, built_leaf, inherited}
use Rattle.clap.specs.Walk.{Held, Walk, arg_by_id, arg_by_index, has_row, next_position, nothing_held, with_default}
use Rattle.clap.specs.Words.{App, Row, Rule, Text, fault_of, new_app, subcommand_of}
use Rattle.solo.specs.Volume.{target_of}
use Rattle.solo.specs.declared.volume.Volume.{Volume}
use Rattle.command_words.specs.Application.{bare_app, the_app, with_maybe_name, with_name, with_names, with_options, with_served, with_trace, with_volume, with_what_if}
use Rattle.command_words.specs.Commands.{Asks, HasValues, IsCommand, name_of}
use Rattle.wol_model.specs.Trace.{Target}
use Rattle.command_words.specs.Table.{Form, IsAlone, IsGen, IsSolo, bare, formed}
use Rattle.command_words.specs.declared.command.Command.{Command}
use Rattle.command_words.specs.declared.command.Command.TheVariants.{Solo, Format, FormatMissing, Replay, Gen, Soak, WhatIf, ViewAdd, ViewRemove, Nbd, Serve}
use Rattle.command_words.specs.declared.command.Generated.{Generated}
use Rattle.command_words.proofs.Rows.{given_row}
use Rattle.command_words.proofs.Steps.{Holds, Leads, MayPlace, by_form, filled, filled_holds, form_leads, leads_nowhere, leads_on, standing, standing_in, valued}
use Rattle.command_words.proofs.Subcommands.{Enters, entered_calm, entered_rows, level_calm, rows_at_end}
use Rattle.command_words.proofs.Words.{IsPlain, plain_decimal, plain_host}

-- a subcommand as building leaves it
abbrev pub built_sub : App → Shape
built_sub a = built_leaf (inherited bare_app.top a.top)

pub nothing_holds : (s : Shape) → Holds s [] nothing_held
nothing_holds s = record { counted = refl; calm = refl }

-- `clap` takes the words, and makes these rows of them
pub record Takes (name : Text) (words : List Text) (rows : List Row) : Type 0 where
  pub calm : fault_of the_app (name ∷ words) ≡ []
  pub met : subcommand_of the_app (name ∷ words) ≡ Some (name, rows)

pub takes : (name : Text) (s : Shape) (words : List Text) (rows : List Row) (after : Walk) → Enters (built the_app) name s → s.name ≡ name
    → Leads s (standing 1 nothing_held) words after → Holds s rows after.held
    → or_else (defaults_fault rows s.rules) (check_fault s (fold with_default rows s.rules) false) ≡ []
    → Takes name words (fold with_default rows s.rules)
takes name s words rows after enters named leads holds ends = record {
  calm = entered_calm (built the_app) name s words enters (level_calm s words rows after leads holds ends);
  met = entered_rows (built the_app) name s words enters ∙ ap₂ (λ n rs. Some (n, rs)) named (rows_at_end s words rows after leads holds);
}

-- ---- The names of the commands

-- the subcommand of a command, as it is told
abbrev pub told_of : Command → App
told_of (Solo volume) = with_volume (new_app (codes "solo"))
told_of Format = with_maybe_name (new_app (codes "format"))
told_of (FormatMissing missing) = with_maybe_name (new_app (codes "format"))
told_of (Replay options) = with_options (new_app (codes "replay"))
told_of (Gen asked) = with_trace (new_app (codes "gen"))
told_of (Soak asked options) = with_options (with_trace (new_app (codes "soak")))
told_of (ViewAdd names) = with_names (new_app (codes "view-add"))
told_of (ViewRemove names) = with_names (new_app (codes "view-remove"))
told_of (Nbd served) = with_name (new_app (codes "nbd"))
told_of (Serve served patience) = with_served (new_app (codes "serve"))
told_of (WhatIf options) = with_what_if (new_app (codes "whatif"))
told_of c = new_app (name_of c)

-- its name enters it
pub enters : (c : Command) → Enters (built the_app) (name_of c) (built_sub (told_of c))
unfolding clap_on_literals
enters (Solo volume) = record { turn = refl; stops = refl; found = refl; ends = refl }
enters c = record { turn = refl; stops = refl; found = refl; ends = refl }

-- the words ask for the command
pub asks_for : (words : List Text) (name : Text) (rest : List Text) (rows : List Row) (command : Command) → words ≡ name ∷ rest → Takes name rest rows → Asks name rows command
    → IsCommand words command
asks_for words name rest rows command is taken asks = record {
  taken = ap (fault_of the_app) is ∙ taken.calm;
  name = name;
  rows = rows;
  met = ap (subcommand_of the_app) is ∙ taken.met;
  asks = asks;
}

-- `format` of all volumes
pub format_is_command : (words : List Text) → IsAlone (codes "format") words → IsCommand words Format
unfolding clap_on_literals
format_is_command words is =
    let s : Shape = built_sub (with_maybe_name (new_app (codes "format"))) in
    asks_for words (codes "format") [] [] Format is (takes (codes "format") s [] [] (standing 1 nothing_held) (enters Format) refl (leads_nowhere s (standing 1 nothing_held)) (nothing_holds s) refl)
    (record { named = refl; values = λ name given. cc given })

-- a command without arguments
pub alone : (words : List Text) (c : Command) → Enters (built the_app) (name_of c) (built_sub (new_app (name_of c))) → IsAlone (name_of c) words → HasValues [] c → IsCommand words c
unfolding clap_on_literals
alone words c enters is values =
    let s : Shape = built_sub (new_app (name_of c)) in
    asks_for words (name_of c) [] [] c is (takes (name_of c) s [] [] (standing 1 nothing_held) enters refl (leads_nowhere s (standing 1 nothing_held)) (nothing_holds s) refl) (record { named = refl; values = values })

-- ---- Arguments by their places

abbrev pub placed_arg : Text → ℕ → Rule
placed_arg name position = valued name None (Some position) true

-- one that may be left out
abbrev pub maybe_arg : Text → ℕ → Rule
maybe_arg name position = valued name None (Some position) false

-- arguments by their places lead the walk to this place, and are held as these rows
pub record Placed (s : Shape) (form : Form) (position : ℕ) (words : List Text) (rows : List Row) : Type 0 where
  pub held : Held
  pub leads : Leads s (standing 1 nothing_held) words (standing_in form position held)
  pub holds : Holds s rows held

pub none_placed : (s : Shape) (form : Form) → Placed s form 1 (formed form []) []
none_placed s form = record { held = nothing_held; leads = form_leads s form 1 nothing_held; holds = nothing_holds s }

pub one_placed : (s : Shape) (form : Form) (name v : Text) (position : ℕ) (words : List Text) (rows : List Row) → Placed s form position words rows → has_row name rows ≡ false
    → arg_by_id s.rules name ≡ Some (placed_arg name position) → arg_by_index s.rules position ≡ Some (placed_arg name position) → MayPlace form v
    → Placed s form (next_position (placed_arg name position) position) (words ++ v ∷ []) (rows ++ given_row name v ∷ [])
one_placed s form name v position words rows before none by_id by_index may = record {
  held = filled s name v before.held;
  leads = leads_on s (standing 1 nothing_held) (standing_in form position before.held) (standing_in form (next_position (placed_arg name position) position) (filled s name v before.held)) words (v ∷ []) before.leads
      (by_form s name None (Some position) true rows before.held v before.holds none form position by_index may);
  holds = filled_holds s name None (Some position) true rows before.held v before.holds none by_id;
}

pub maybe_placed : (s : Shape) (form : Form) (name v : Text) (position : ℕ) (words : List Text) (rows : List Row) → Placed s form position words rows → has_row name rows ≡ false
    → arg_by_id s.rules name ≡ Some (maybe_arg name position) → arg_by_index s.rules position ≡ Some (maybe_arg name position) → MayPlace form v
    → Placed s form (next_position (maybe_arg name position) position) (words ++ v ∷ []) (rows ++ given_row name v ∷ [])
maybe_placed s form name v position words rows before none by_id by_index may = record {
  held = filled s name v before.held;
  leads = leads_on s (standing 1 nothing_held) (standing_in form position before.held) (standing_in form (next_position (maybe_arg name position) position) (filled s name v before.held)) words (v ∷ []) before.leads
      (by_form s name None (Some position) false rows before.held v before.holds none form position by_index may);
  holds = filled_holds s name None (Some position) false rows before.held v before.holds none by_id;
}

pub takes_placed : (name : Text) (s : Shape) (form : Form) (words : List Text) (rows : List Row) (position : ℕ) → Enters (built the_app) name s → s.name ≡ name → Placed s form position words rows
    → or_else (defaults_fault rows s.rules) (check_fault s (fold with_default rows s.rules) false) ≡ [] → Takes name words (fold with_default rows s.rules)
takes_placed name s form words rows position enters named placed ends = takes name s words rows (standing_in form position placed.held) enters named placed.leads placed.holds ends

-- ---- `solo`

abbrev solo_rows : Text → Text → Text → List Row
solo_rows host disk blocks = given_row (codes "HOST") host ∷ given_row (codes "DISK") disk ∷ given_row (codes "BLOCKS") blocks ∷ []

takes_solo : (volume : Volume) (host disk blocks : Text) → IsPlain host → IsPlain disk → IsPlain blocks → Takes (codes "solo") (host ∷ disk ∷ blocks ∷ []) (solo_rows host disk blocks)
unfolding clap_on_literals
takes_solo volume host disk blocks plain_1 plain_2 plain_3 =
    let s : Shape = built_sub (with_volume (new_app (codes "solo"))) in
    let one = one_placed s bare (codes "HOST") host 1 [] [] (none_placed s bare) refl refl refl plain_1 in
    let two = one_placed s bare (codes "DISK") disk 2 (host ∷ []) (given_row (codes "HOST") host ∷ []) one refl refl refl plain_2 in
    let all = one_placed s bare (codes "BLOCKS") blocks 3 (host ∷ disk ∷ []) (given_row (codes "HOST") host ∷ given_row (codes "DISK") disk ∷ []) two refl refl refl plain_3 in
    takes_placed (codes "solo") s bare (host ∷ disk ∷ blocks ∷ []) (solo_rows host disk blocks) 4 (enters (Solo volume)) refl all refl

pub solo_is_command : (words : List Text) (volume : Volume) → IsSolo words (target_of volume) → IsCommand words (Solo volume)
solo_is_command words volume is =
    let target : Target = target_of volume in
    asks_for words (codes "solo") (target.host ∷ decimal target.disk ∷ decimal target.home ∷ []) (solo_rows target.host (decimal target.disk) (decimal target.home)) (Solo volume) is.spelled
    (takes_solo volume target.host (decimal target.disk) (decimal target.home) (plain_host target.host is.host) (plain_decimal target.disk (omega (arith, is.disk))) (plain_decimal target.home (omega (arith, is.blocks.1))))
    (record {
      named = refl;
      values = record { host = refl; name = is.host; disk = refl; small = is.disk; blocks = refl; some = is.blocks.0; most = is.blocks.1 };
    })

-- ---- `gen`

abbrev gen_rows : Text → Text → List Row
gen_rows seed lines = given_row (codes "SEED") seed ∷ given_row (codes "LINES") lines ∷ []

takes_gen : (asked : Generated) (seed lines : Text) → IsPlain seed → IsPlain lines → Takes (codes "gen") (seed ∷ lines ∷ []) (gen_rows seed lines)
unfolding clap_on_literals
takes_gen asked seed lines plain_1 plain_2 =
    let s : Shape = built_sub (with_trace (new_app (codes "gen"))) in
    let one = one_placed s bare (codes "SEED") seed 1 [] [] (none_placed s bare) refl refl refl plain_1 in
    let all = one_placed s bare (codes "LINES") lines 2 (seed ∷ []) (given_row (codes "SEED") seed ∷ []) one refl refl refl plain_2 in
    takes_placed (codes "gen") s bare (seed ∷ lines ∷ []) (gen_rows seed lines) 3 (enters (Gen asked)) refl all refl

pub gen_is_command : (words : List Text) (asked : Generated) → IsGen words asked → IsCommand words (Gen asked)
gen_is_command words asked is =
    asks_for words (codes "gen") (decimal asked.seed ∷ decimal asked.lines ∷ []) (gen_rows (decimal asked.seed) (decimal asked.lines)) (Gen asked) is.spelled
    (takes_gen asked (decimal asked.seed) (decimal asked.lines) (plain_decimal asked.seed (omega (arith, is.seed))) (plain_decimal asked.lines (omega (arith, is.lines))))
    (record { named = refl; values = record { seed = refl; seeds = is.seed; lines = refl; most = is.lines } })
