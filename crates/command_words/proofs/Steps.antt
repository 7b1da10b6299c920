-- The walk over the words of a subcommand, argument by argument.
use Rattle.std.proofs.Common.{◌≡◌, ◌∙◌, ℕ, Bool, true, false, refl, ap, ap₂, cond, List, [], ◌∷◌, ◌++◌, append_assoc, Option, Some, None, codes, not, ◌&&◌, nat_lt}
use Rattle.std.specs.Option.{option_map_or}
use Rattle.std.specs.List.{fold}
use Rattle.std.specs.Str.{bytes_eq}
use Rattle.std.proofs.Math.Bool.{and-false}
use Rattle.clap.specs.Lexer.{long_of}
use Rattle.clap.specs.Faults.{bundle_fault, flag_word_fault, long_fault, other_fault, positional_fault, react_fault, settle_fault, step_fault, stray_fault, turn_fault, use_fault, walk_fault, word_fault}
use Rattle.clap.specs.Kinds.{or_else}
use Rattle.clap.specs.declared.error.ErrorKind.TheVariants as kind
use Rattle.clap.specs.Walk.{Held, Step, Waiting, Walk, after_flag, after_step, arg_by_id, arg_by_index, arg_by_long, has_row, idle, is_pending, long_met, long_or_other, next, next_position, option, option_word, plain_word, pushed, reacted, settled, short_or_plain, subcommand_met, subcommand_or_other, to_positional, trailing, used, used_by_id, value, walked, word_met}
use Rattle.clap.specs.Simple.{Shape}
use Rattle.clap.specs.Words.{Row, Rule, Text, new_rule}
use Rattle.clap.specs.declared.builder.ArgAction.TheVariants.{Set, SetTrue}
use Rattle.clap.specs.declared.builder.ValueParser.TheVariants as vp
use Rattle.std.specs.Bool.{⊤}
use Rattle.command_words.specs.Table.{Form, bare, behind_dashes, formed}
use Rattle.command_words.proofs.Rows.{added_anew, given_row}
use Rattle.command_words.proofs.Words.{IsPlain}

-- an argument with one value, as building leaves it
abbrev pub valued : Text → Option Text → Option ℕ → Bool → Rule
valued name long index required = record (new_rule name) {
  long = long;
  index = index;
  action = Some Set;
  range = Some (record { start_inclusive = 1; end_inclusive = 1 });
  parser = Some vp.String;
  required = required;
}

-- an option without a value, as building leaves it
abbrev pub switch : Text → Rule
switch name = record (new_rule name) {
  long = Some name;
  action = Some SetTrue;
  range = Some (record { start_inclusive = 0; end_inclusive = 0 });
  defaults = codes "false" ∷ [];
  missing = codes "true" ∷ [];
  parser = Some vp.Bool;
}

-- a value that the form allows
abbrev pub MayPlace : Form → Text → Type 0
MayPlace bare v = IsPlain v
MayPlace behind_dashes v = ⊤

-- between two arguments
abbrev pub standing : ℕ → Held → Walk
standing position h = record { held = h; waiting = idle; position = position; is_trailing = false; stopped = None }

-- the same behind `--`, where each word is a value
abbrev pub is_behind : Form → Bool
is_behind bare = false
is_behind behind_dashes = true

abbrev pub standing_in : Form → ℕ → Held → Walk
standing_in form position h = record (standing position h) { is_trailing = is_behind form }

-- the rows are these once the argument whose value was read last counts, and it may count
pub record Holds (s : Shape) (rows : List Row) (h : Held) : Type 0 where
  pub counted : (settled s.rules h).rows ≡ rows
  pub calm : settle_fault s.rules s.args_override_self h ≡ []

-- the words lead the walk from one place to another, with no fault
pub record Leads (s : Shape) (w : Walk) (words : List Text) (after : Walk) : Type 0 where
  pub calm : (rest : List Text) → walk_fault s [] w (words ++ rest) ≡ walk_fault s [] after rest
  pub there : (rest : List Text) → fold (walked s.rules []) w (words ++ rest) ≡ fold (walked s.rules []) after rest

pub leads_nowhere : (s : Shape) (w : Walk) → Leads s w [] w
leads_nowhere s w = record { calm = λ rest. refl; there = λ rest. refl }

pub leads_on : (s : Shape) (a b c : Walk) (xs ys : List Text) → Leads s a xs b → Leads s b ys c → Leads s a (xs ++ ys) c
leads_on s a b c xs ys first second = record {
  calm = λ rest. ap (walk_fault s [] a) (append_assoc xs ys rest) ∙ first.calm (ys ++ rest) ∙ second.calm rest;
  there = λ rest. ap (fold (walked s.rules []) a) (append_assoc xs ys rest) ∙ first.there (ys ++ rest) ∙ second.there rest;
}

-- one word
leads_one : (s : Shape) (w after : Walk) (word : Text) → turn_fault s [] w word ≡ [] → walked s.rules [] w word ≡ after → Leads s w (word ∷ []) after
unfolding walk_fault
leads_one s w after word calm is = record {
  calm = λ rest. ap₂ (λ kinds (v : Walk). or_else kinds (walk_fault s [] v rest)) calm is;
  there = λ rest. ap (λ (v : Walk). fold (walked s.rules []) v rest) is;
}

-- the names begin: behind `--`, in that form
pub form_leads : (s : Shape) (form : Form) (position : ℕ) (h : Held) → Leads s (standing position h) (formed form []) (standing_in form position h)
unfolding walked
form_leads s bare position h = leads_nowhere s (standing position h)
form_leads s behind_dashes position h = leads_one s (standing position h) (standing_in behind_dashes position h) (codes "--") refl refl

-- a word by what it is
met_as : (s : Shape) (waiting : Waiting) (position : ℕ) (h h' : Held) (word : Text) (step : Step) (after : Walk)
    → word_met s.rules [] false waiting position word h ≡ (h', step) → word_fault s [] false waiting word h ≡ [] → step_fault s position h' step ≡ []
    → after_step s.rules word (record (standing position h) { waiting = waiting }) h' step ≡ after
    → Leads s (record (standing position h) { waiting = waiting }) (word ∷ []) after
unfolding walked
met_as s waiting position h h' word step after met calm calm_step is =
    let w : Walk = record (standing position h) { waiting = waiting } in
    leads_one s w after word
    (ap₂ or_else calm (ap (λ (m : Held × Step). step_fault s position m.0 m.1) met ∙ calm_step))
    (ap (λ (m : Held × Step). after_step s.rules word w m.0 m.1) met ∙ is)

-- a word that is no flag
module _ (s : Shape) (position : ℕ) (h : Held) (v : Text) (plain : IsPlain v) where
  plain_met : (waiting : Waiting) → (found : Held × Step) → subcommand_met [] waiting v ≡ None → plain_word s.rules waiting v h ≡ found → word_met s.rules [] false waiting position v h ≡ found
  plain_met waiting found none is =
      ap (λ o. subcommand_or_other s.rules o waiting position v h) none
      ∙ ap (λ b. cond b (h, trailing position) (long_or_other s.rules waiting v (long_of v) h)) plain.dashes
      ∙ ap (λ o. long_or_other s.rules waiting v o h) plain.long
      ∙ ap (λ o. short_or_plain s.rules waiting v o h) plain.short
      ∙ is

  plain_calm : (waiting : Waiting) → subcommand_met [] waiting v ≡ None → word_fault s [] false waiting v h ≡ []
  plain_calm waiting none =
      ap (λ o. other_fault s o v h) none
      ∙ ap (λ b. cond b [] (flag_word_fault s.rules s.args_override_self (long_of v) v h)) plain.dashes
      ∙ ap (λ o. flag_word_fault s.rules s.args_override_self o v h) plain.long
      ∙ ap (λ o. option_map_or (λ flags. bundle_fault s.rules s.args_override_self flags h) o []) plain.short

-- a word that is an option's name, maybe with a value
module _ (s : Shape) (position : ℕ) (h : Held) (word name : Text) (v : Option Text) (a : Rule) (dashes : bytes_eq word (45 ∷ 45 ∷ []) ≡ false)
    (long : long_of word ≡ Some (name, v)) (by_long : arg_by_long s.rules name ≡ Some a) where
  long_is : (h' : Held) (step : Step) → after_flag s.rules idle word (long_met s.rules (Some a) v h).0 (long_met s.rules (Some a) v h).1 ≡ (h', step)
      → word_met s.rules [] false idle position word h ≡ (h', step)
  long_is h' step is =
      ap (λ b. cond b (h, trailing position) (long_or_other s.rules idle word (long_of word) h)) dashes
      ∙ ap (λ o. long_or_other s.rules idle word o h) long
      ∙ ap (λ o. after_flag s.rules idle word (long_met s.rules o v h).0 (long_met s.rules o v h).1) by_long
      ∙ is

  long_calm : long_fault s.rules s.args_override_self (Some a) v h ≡ [] → word_fault s [] false idle word h ≡ []
  long_calm calm =
      ap (λ b. cond b [] (flag_word_fault s.rules s.args_override_self (long_of word) word h)) dashes
      ∙ ap (λ o. flag_word_fault s.rules s.args_override_self o word h) long
      ∙ ap (λ o. long_fault s.rules s.args_override_self o v h) by_long
      ∙ calm

-- what is held where the argument's value was read last
abbrev pub filled : Shape → Text → Text → Held → Held
filled s name v h = record (settled s.rules h) { pending = Some (name, v ∷ []) }

module _ (s : Shape) (name : Text) (given : Option Text) (index : Option ℕ) (required : Bool) (rows : List Row) (h : Held) (v : Text)
    (holds : Holds s rows h) (none : has_row name rows ≡ false) where
  abbrev arg : Rule
  arg = valued name given index required

  use_calm : use_fault s.args_override_self arg (v ∷ []) (settled s.rules h).rows ≡ []
  use_calm = ap (λ b. or_else (cond (b && not s.args_override_self) (kind.ArgumentConflict ∷ []) []) []) (ap (has_row name) holds.counted ∙ none)

  used_is : used arg (v ∷ []) (settled s.rules h).rows ≡ rows ++ given_row name v ∷ []
  used_is = ap (used arg (v ∷ [])) holds.counted ∙ added_anew name v rows none

  pub filled_holds : arg_by_id s.rules name ≡ Some arg → Holds s (rows ++ given_row name v ∷ []) (filled s name v h)
  filled_holds by_id = record {
    counted = ap (λ o. used_by_id o (v ∷ []) (settled s.rules h).rows) by_id ∙ used_is;
    calm = ap (λ o. option_map_or (λ (a : Rule). use_fault s.args_override_self a (v ∷ []) (settled s.rules h).rows) o []) by_id ∙ use_calm;
  }

  pub reacted_holds : Holds s (rows ++ given_row name v ∷ []) (reacted s.rules arg (v ∷ []) h)
  reacted_holds = record { counted = used_is; calm = refl }

  react_calm : react_fault s.rules s.args_override_self arg (v ∷ []) h ≡ []
  react_calm = ap (λ kinds. or_else kinds (use_fault s.args_override_self arg (v ∷ []) (settled s.rules h).rows)) holds.calm ∙ use_calm

  -- a value in its place
  pub by_place : (position : ℕ) → arg_by_index s.rules position ≡ Some arg → IsPlain v → Leads s (standing position h) (v ∷ []) (standing (next_position arg position) (filled s name v h))
  by_place position by_index plain =
      met_as s idle position h h v value _ (plain_met s position h v plain idle (h, value) refl refl) (plain_calm s position h v plain idle refl)
      (ap (λ o. option_map_or (λ (a : Rule). positional_fault s.rules s.args_override_self a h) o (stray_fault s)) by_index
      ∙ ap (λ b. cond b [] (settle_fault s.rules s.args_override_self h)) (and-false (is_pending arg h.pending)) ∙ holds.calm)
      (ap (λ o. to_positional s.rules o v (standing position h) h) by_index
      ∙ ap (λ b. standing (next_position arg position) (pushed name v (cond b h (settled s.rules h)))) (and-false (is_pending arg h.pending)))

  -- a value in its place behind `--`
  by_place_behind : (position : ℕ) → arg_by_index s.rules position ≡ Some arg
      → Leads s (standing_in behind_dashes position h) (v ∷ []) (standing_in behind_dashes (next_position arg position) (filled s name v h))
  unfolding walked
  by_place_behind position by_index =
      leads_one s (standing_in behind_dashes position h) _ v
      (ap (λ o. option_map_or (λ (a : Rule). positional_fault s.rules s.args_override_self a h) o (stray_fault s)) by_index
      ∙ ap (λ b. cond b [] (settle_fault s.rules s.args_override_self h)) (and-false (is_pending arg h.pending)) ∙ holds.calm)
      (ap (λ o. to_positional s.rules o v (standing_in behind_dashes position h) h) by_index
      ∙ ap (λ b. standing_in behind_dashes (next_position arg position) (pushed name v (cond b h (settled s.rules h)))) (and-false (is_pending arg h.pending)))

  -- a value in its place, in either form
  pub by_form : (form : Form) (position : ℕ) → arg_by_index s.rules position ≡ Some arg → MayPlace form v
      → Leads s (standing_in form position h) (v ∷ []) (standing_in form (next_position arg position) (filled s name v h))
  by_form bare position by_index plain = by_place position by_index plain
  by_form behind_dashes position by_index plain = by_place_behind position by_index

  -- `--name value`
  pub by_next : (position : ℕ) (word id : Text) → bytes_eq word (45 ∷ 45 ∷ []) ≡ false → long_of word ≡ Some (id, None) → arg_by_long s.rules id ≡ Some arg
      → arg_by_id s.rules name ≡ Some arg → bytes_eq name name ≡ true → IsPlain v → Leads s (standing position h) (word ∷ v ∷ []) (standing position (filled s name v h))
  by_next position word id dashes long by_long by_id same plain =
      let h1 : Held = record (settled s.rules h) { pending = Some (name, []) } in
      let first = met_as s idle position h h1 word (next (option name)) (record (standing position h1) { waiting = option name })
      (long_is s position h word id None arg dashes long by_long h1 (next (option name)) refl)
      (long_calm s position h word id None arg dashes long by_long holds.calm) refl refl in
      let second = met_as s (option name) position h1 (filled s name v h) v (next idle) (standing position (filled s name v h))
      (plain_met s position h1 v plain (option name) (filled s name v h, next idle) refl
      (ap (λ o. ((option_word o name v h1).0, next (option_word o name v h1).1)) by_id
      ∙ ap (λ b. (filled s name v h, next (cond (nat_lt (cond b 1 0) 1) (option name) idle))) same))
      (plain_calm s position h1 v plain (option name) refl) refl refl in
      leads_on s _ _ _ (word ∷ []) (v ∷ []) first second

  -- `--name=value`
  pub by_same : (position : ℕ) (word id : Text) → bytes_eq word (45 ∷ 45 ∷ []) ≡ false → long_of word ≡ Some (id, Some v) → arg_by_long s.rules id ≡ Some arg
      → Leads s (standing position h) (word ∷ []) (standing position (reacted s.rules arg (v ∷ []) h))
  by_same position word id dashes long by_long =
      met_as s idle position h (reacted s.rules arg (v ∷ []) h) word (next idle) (standing position (reacted s.rules arg (v ∷ []) h))
      (long_is s position h word id (Some v) arg dashes long by_long _ (next idle) refl)
      (long_calm s position h word id (Some v) arg dashes long by_long react_calm) refl refl

-- `--name` of an option without a value
module _ (s : Shape) (name : Text) (rows : List Row) (h : Held) (holds : Holds s rows h) (none : has_row name rows ≡ false) where
  switch_calm : use_fault s.args_override_self (switch name) [] (settled s.rules h).rows ≡ []
  switch_calm = ap (λ b. or_else (cond (b && not s.args_override_self) (kind.ArgumentConflict ∷ []) []) []) (ap (has_row name) holds.counted ∙ none)

  switch_is : used (switch name) [] (settled s.rules h).rows ≡ rows ++ given_row name (codes "true") ∷ []
  switch_is = ap (used (switch name) []) holds.counted ∙ added_anew name (codes "true") rows none

  pub switched_holds : Holds s (rows ++ given_row name (codes "true") ∷ []) (reacted s.rules (switch name) [] h)
  switched_holds = record { counted = switch_is; calm = refl }

  pub by_name : (position : ℕ) (word id : Text) → bytes_eq word (45 ∷ 45 ∷ []) ≡ false → long_of word ≡ Some (id, None) → arg_by_long s.rules id ≡ Some (switch name)
      → Leads s (standing position h) (word ∷ []) (standing position (reacted s.rules (switch name) [] h))
  by_name position word id dashes long by_long =
      met_as s idle position h (reacted s.rules (switch name) [] h) word (next idle) (standing position (reacted s.rules (switch name) [] h))
      (long_is s position h word id None (switch name) dashes long by_long _ (next idle) refl)
      (long_calm s position h word id None (switch name) dashes long by_long
      (ap (λ kinds. or_else kinds (use_fault s.args_override_self (switch name) [] (settled s.rules h).rows)) holds.calm ∙ switch_calm)) refl refl
