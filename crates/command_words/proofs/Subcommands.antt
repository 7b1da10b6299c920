-- A subcommand is entered by its name, and the words after the name are its own.
use Rattle.std.proofs.Common.{◌≡◌, ◌∙◌, true, false, refl, sym, ap, ap₂, List, [], ◌∷◌, ◌++◌, append-nil, Option, Some, option_map, is_some}
use Rattle.std.specs.List.{find, fold}
use Rattle.std.specs.Option.{option_map_or}
use Rattle.clap.specs.Faults.{built_fault, check_fault, defaults_fault, entered_fault, level_fault, settle_fault, turn_fault, walk_fault}
use Rattle.clap.specs.Kinds.{or_else}
use Rattle.clap.specs.Simple.{Shape, entered, label_of, names_of, rows_at}
use Rattle.clap.specs.Walk.{Names, Walk, answers_to, finished, nothing_held, rows_after, settled, stop_after, walk, walk_from, walked, with_default}
use Rattle.clap.specs.Words.{App, Row, Text}
use Rattle.clap.proofs.WalkLemmas.{walk_stopped}
use Rattle.command_words.proofs.Steps.{Holds, Leads, standing}

-- after a subcommand's name the words are not the command's own
stopped_calm : (s : Shape) (names : Names) (w : Walk) (name : Text) (seen words : List Text) → walk_fault s names (record w { stopped = Some (name, seen) }) words ≡ []
unfolding walk_fault walked
stopped_calm s names w name seen [] = refl
stopped_calm s names w name seen (word ∷ words) = stopped_calm s names w name (seen ++ word ∷ []) words

-- the name enters the subcommand s of the built command a
pub record Enters (a : App) (name : Text) (s : Shape) : Type 0 where
  pub turn : turn_fault a.top (names_of a) (walk_from nothing_held) name ≡ []
  pub stops : walked a.top.rules (names_of a) (walk_from nothing_held) name ≡ record (walk_from nothing_held) { stopped = Some (name, []) }
  pub found : find (λ s. answers_to name (label_of s)) a.subs ≡ Some s
  pub ends : or_else (defaults_fault [] a.top.rules) (check_fault a.top (finished a.top.rules nothing_held) true) ≡ []

module _ (a : App) (name : Text) (s : Shape) (words : List Text) (enters : Enters a name s) where
  stopped_walk : walk a.top.rules (names_of a) nothing_held (name ∷ words) ≡ record (walk_from nothing_held) { stopped = Some (name, words) }
  stopped_walk = ap (λ (w : Walk). fold (walked a.top.rules (names_of a)) w words) enters.stops ∙ sym (walk_stopped a.top.rules (names_of a) (walk_from nothing_held) name [] words)

  own_calm : walk_fault a.top (names_of a) (walk_from nothing_held) (name ∷ words) ≡ []
  unfolding walk_fault
  own_calm = ap₂ (λ kinds (w : Walk). or_else kinds (walk_fault a.top (names_of a) w words)) enters.turn enters.stops ∙ stopped_calm a.top (names_of a) (walk_from nothing_held) name [] words

  pub entered_calm : level_fault s [] nothing_held words false [] ≡ [] → built_fault a nothing_held (name ∷ words) ≡ []
  entered_calm below =
      ap₂ (λ kinds (w : Walk). or_else kinds (or_else (entered_fault a w.stopped) (or_else (settle_fault a.top.rules a.top.args_override_self w.held)
      (or_else (defaults_fault (settled a.top.rules w.held).rows a.top.rules) (check_fault a.top (finished a.top.rules w.held) (is_some (entered a w.stopped))))))) own_calm stopped_walk
      ∙ ap (λ (o : Option Shape). or_else (option_map_or (λ (t : Shape). level_fault t [] nothing_held words false []) o [])
      (or_else (defaults_fault [] a.top.rules) (check_fault a.top (finished a.top.rules nothing_held) (is_some (option_map (λ (t : Shape). rows_at t words) o))))) enters.found
      ∙ ap₂ or_else below enters.ends

  pub entered_rows : entered a (stop_after a.top.rules (names_of a) (name ∷ words)) ≡ Some (s.name, rows_after s.rules [] words)
  entered_rows = ap (λ (w : Walk). entered a w.stopped) stopped_walk ∙ ap (option_map (λ (t : Shape). rows_at t words)) enters.found

-- the words of a subcommand, at their end
module _ (s : Shape) (words : List Text) (rows : List Row) (after : Walk) (leads : Leads s (standing 1 nothing_held) words after) (holds : Holds s rows after.held) where
  last : walk s.rules [] nothing_held words ≡ after
  last = ap (fold (walked s.rules []) (standing 1 nothing_held)) (sym (append-nil words)) ∙ leads.there []

  all_calm : walk_fault s [] (walk_from nothing_held) words ≡ []
  unfolding walk_fault
  all_calm = ap (walk_fault s [] (standing 1 nothing_held)) (sym (append-nil words)) ∙ leads.calm []

  pub rows_at_end : rows_after s.rules [] words ≡ fold with_default rows s.rules
  rows_at_end = ap (λ (w : Walk). finished s.rules w.held) last ∙ ap (λ (rs : List Row). fold with_default rs s.rules) holds.counted

  pub level_calm : or_else (defaults_fault rows s.rules) (check_fault s (fold with_default rows s.rules) false) ≡ [] → level_fault s [] nothing_held words false [] ≡ []
  level_calm ends =
      ap₂ (λ kinds (w : Walk). or_else kinds (or_else (settle_fault s.rules s.args_override_self w.held)
      (or_else (defaults_fault (settled s.rules w.held).rows s.rules) (check_fault s (finished s.rules w.held) false)))) all_calm last
      ∙ ap₂ (λ kinds (rs : List Row). or_else kinds (or_else (defaults_fault rs s.rules) (check_fault s (fold with_default rs s.rules) false))) holds.calm holds.counted
      ∙ ends
