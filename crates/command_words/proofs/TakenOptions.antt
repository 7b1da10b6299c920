-- The words of the table with the options of a run are commands.
use Rattle.std.proofs.Common.{◌≡◌, ◌∙◌, ◌||◌, ℕ, Bool, true, false, not, refl, sym, ap, ap₂, subst, arith, List, [], ◌∷◌, ◌++◌, map, append_assoc, append-nil, Option, Some, None, codes, true≢false}
use Rattle.std.specs.Prelude.{decimal}
use Rattle.std.proofs.lemmas.List.{map-append}
use Rattle.std.specs.List.{AllByRecursion, flat_map, fold}
use Rattle.std.specs.Option.{option_map_or}
use Rattle.std.specs.Str.{bytes_eq}
use Rattle.clap.specs.Facts.{explicit_source}
use Rattle.clap.specs.Faults.{check_fault, defaults_fault}
use Rattle.clap.specs.Kinds.{check_kinds, or_else}
use Rattle.clap.specs.Simple.{Shape}
use Rattle.clap.specs.Walk.{has_row, nothing_held, with_default}
use Rattle.clap.specs.Words.{Row, Rule, Text, new_app}
use Rattle.command_words.specs.Application.{with_options, with_trace}
use Rattle.command_words.specs.Commands.{IsCommand}
use Rattle.command_words.specs.Table.{Given, IsReplay, IsSoak, words_of}
use Rattle.command_words.specs.declared.command.Command.TheVariants.{Replay, Soak}
use Rattle.command_words.specs.declared.command.Generated.{Generated}
use Rattle.command_words.specs.declared.command.Options.{Options}
use Rattle.command_words.proofs.AnyOrder.{AreToCome, IsOther, Use, come_past, named, others_all, row_of_use, used_all, words_of_use}
use Rattle.command_words.proofs.Defaults.{calm_end, calm_flag, calm_past, first_in, flag_aside, rows_past}
use Rattle.command_words.proofs.Rows.{given_row, passed_over, row_of_name}
use Rattle.command_words.proofs.RunOptions.{TakesOptions, has_options, lines_is_none, no_lines, no_seed, past_lines, past_seed, rows-append, rows_of_given, seed_is_none, to_come_of, use_of, with_each, words_of_all}
use Rattle.command_words.proofs.Steps.{Holds, Leads, by_place, filled, filled_holds, leads_on, standing, switch}
use Rattle.command_words.proofs.Taken.{Takes, asks_for, built_sub, enters, nothing_holds, placed_arg, takes}
use Rattle.command_words.proofs.Words.{IsPlain, plain_decimal}

-- ---- `replay`

abbrev replay : Shape
replay = built_sub (with_options (new_app (codes "replay")))

replay_options : TakesOptions (built_sub (with_options (new_app (codes "replay"))))
replay_options = record { workers_long = refl; workers_id = refl; reclaim_long = refl; reclaim_id = refl; each_long = refl }

replay_calm : (rows : List Row) → defaults_fault rows replay.rules ≡ []
replay_calm rows =
    calm_past (codes "workers") (Some (codes "workers")) None false rows (named (codes "reclaim") ∷ switch (codes "each") ∷ [])
    ∙ calm_past (codes "reclaim") (Some (codes "reclaim")) None false rows (switch (codes "each") ∷ [])
    ∙ calm_flag (codes "each") rows []
    ∙ calm_end (with_each rows)

replay_rows : (rows : List Row) → fold with_default rows replay.rules ≡ with_each rows
replay_rows rows =
    rows_past (codes "workers") (Some (codes "workers")) None false rows (named (codes "reclaim") ∷ switch (codes "each") ∷ [])
    ∙ rows_past (codes "reclaim") (Some (codes "reclaim")) None false rows (switch (codes "each") ∷ [])

replay_ends : (rows : List Row) → or_else (defaults_fault rows replay.rules) (check_fault replay (fold with_default rows replay.rules) false) ≡ []
replay_ends rows = ap (λ kinds. or_else kinds (check_fault replay (fold with_default rows replay.rules) false)) (replay_calm rows)

takes_replay : (options : Options) (uses : List Use) → AreToCome replay [] uses → Takes (codes "replay") (flat_map words_of_use uses) (with_each (map row_of_use uses))
takes_replay options uses to_come =
    let all = used_all replay 1 [] nothing_held uses [] (nothing_holds replay) (subst (AreToCome replay []) (sym (append-nil uses)) to_come) in
    subst (Takes (codes "replay") (flat_map words_of_use uses)) (replay_rows (map row_of_use uses))
    (takes (codes "replay") replay (flat_map words_of_use uses) (map row_of_use uses) (standing 1 all.comes.there) (enters (Replay options)) refl all.comes.leads all.comes.holds (replay_ends (map row_of_use uses)))

pub replay_is_command : (words : List Text) (options : Options) → IsReplay words options → IsCommand words (Replay options)
replay_is_command words options is =
    asks_for words (codes "replay") (flat_map words_of_use (map use_of is.given)) (with_each (rows_of_given is.given)) (Replay options) (is.spelled ∙ ap (λ (ws : List Text). codes "replay" ∷ ws) (words_of_all is.given))
    (takes_replay options (map use_of is.given) (to_come_of replay replay_options is.given options is.as_given))
    (record { named = refl; values = has_options (rows_of_given is.given) is.given options is.as_given (λ name seed lines. refl) })

-- ---- `soak`

abbrev soak : Shape
soak = built_sub (with_options (with_trace (new_app (codes "soak"))))

soak_options : TakesOptions (built_sub (with_options (with_trace (new_app (codes "soak")))))
soak_options = record { workers_long = refl; workers_id = refl; reclaim_long = refl; reclaim_id = refl; each_long = refl }

abbrev three : List Rule
three = named (codes "workers") ∷ named (codes "reclaim") ∷ switch (codes "each") ∷ []

soak_calm : (rows : List Row) → defaults_fault rows soak.rules ≡ []
soak_calm rows =
    calm_past (codes "SEED") None (Some 1) true rows (placed_arg (codes "LINES") 2 ∷ three)
    ∙ calm_past (codes "LINES") None (Some 2) true rows three
    ∙ replay_calm rows

soak_rows : (rows : List Row) → fold with_default rows soak.rules ≡ with_each rows
soak_rows rows =
    rows_past (codes "SEED") None (Some 1) true rows (placed_arg (codes "LINES") 2 ∷ three)
    ∙ rows_past (codes "LINES") None (Some 2) true rows three
    ∙ replay_rows rows

abbrev pub is_told : Option Row → Bool
is_told o = option_map_or (λ (r : Row). explicit_source r.source) o false

-- both arguments are given
soak_checks : (rows : List Row) (seed lines : Text) → row_of_name (codes "SEED") rows ≡ Some (given_row (codes "SEED") seed) → row_of_name (codes "LINES") rows ≡ Some (given_row (codes "LINES") lines)
    → check_fault soak rows false ≡ []
soak_checks rows seed lines seed_is lines_is = ap₂ (λ o q. check_kinds false false (not (is_told o) || (not (is_told q) || false))) seed_is lines_is

none_of_both : (name : Text) (xs ys : List Row) → has_row name xs ≡ false → has_row name ys ≡ false → has_row name (xs ++ ys) ≡ false
none_of_both name [] ys e h = h
none_of_both name (x ∷ xs) ys e h = go (bytes_eq x.id name) refl (λ rest. none_of_both name xs ys rest h)
  where
    go : (b : Bool) → bytes_eq x.id name ≡ b → (has_row name xs ≡ false → has_row name (xs ++ ys) ≡ false) → has_row name (x ∷ xs ++ ys) ≡ false
    go true is more = absurd (true≢false (rw is at e))
    go false is more =
        let rest : has_row name xs ≡ false = rw is at e in
        rw is (more rest)

-- the rows of a seed and a number of lines among options
abbrev soak_found : List Given → Text → List Given → Text → List Given → List Row
soak_found before seed between lines behind =
    rows_of_given before ++ given_row (codes "SEED") seed ∷ (rows_of_given between ++ given_row (codes "LINES") lines ∷ rows_of_given behind)

-- the words behind the command
abbrev soak_words : List Given → Text → List Given → Text → List Given → List Text
soak_words before seed between lines behind =
    flat_map words_of_use (map use_of before) ++ seed ∷ (flat_map words_of_use (map use_of between) ++ lines ∷ flat_map words_of_use (map use_of behind))

regrouped : (a b c : List Row) (s l : Row) → (((a ++ s ∷ []) ++ b) ++ l ∷ []) ++ c ≡ a ++ s ∷ (b ++ l ∷ c)
regrouped a b c s l = append_assoc ((a ++ s ∷ []) ++ b) (l ∷ []) c ∙ append_assoc (a ++ s ∷ []) b (l ∷ c) ∙ append_assoc a (s ∷ []) (b ++ l ∷ c)

module _ (before between behind : List Given) (seed lines : Text) where
  abbrev rows_found : List Row
  rows_found = soak_found before seed between lines behind

  seed_found : row_of_name (codes "SEED") rows_found ≡ Some (given_row (codes "SEED") seed)
  seed_found = past_seed before (given_row (codes "SEED") seed ∷ (rows_of_given between ++ given_row (codes "LINES") lines ∷ rows_of_given behind))

  lines_found : row_of_name (codes "LINES") rows_found ≡ Some (given_row (codes "LINES") lines)
  lines_found = past_lines before (given_row (codes "SEED") seed ∷ (rows_of_given between ++ given_row (codes "LINES") lines ∷ rows_of_given behind))
      ∙ past_lines between (given_row (codes "LINES") lines ∷ rows_of_given behind)

  options_found : (name : Text) → bytes_eq (codes "SEED") name ≡ false → bytes_eq (codes "LINES") name ≡ false
      → row_of_name name rows_found ≡ row_of_name name (rows_of_given (before ++ (between ++ behind)))
  options_found name no_seed no_lines =
      let a = rows_of_given before in
      let b = rows_of_given between in
      let c = rows_of_given behind in
      passed_over name a (given_row (codes "SEED") seed) (b ++ given_row (codes "LINES") lines ∷ c) no_seed
      ∙ ap (row_of_name name) (sym (append_assoc a b (given_row (codes "LINES") lines ∷ c)))
      ∙ passed_over name (a ++ b) (given_row (codes "LINES") lines) c no_lines
      ∙ ap (row_of_name name) (append_assoc a b c ∙ ap (λ rs. a ++ rs) (sym (rows-append between behind)) ∙ sym (rows-append before (between ++ behind)))

  soak_ends : or_else (defaults_fault rows_found soak.rules) (check_fault soak (fold with_default rows_found soak.rules) false) ≡ []
  soak_ends =
      ap₂ (λ kinds rs. or_else kinds (check_fault soak rs false)) (soak_calm rows_found) (soak_rows rows_found)
      ∙ soak_checks (with_each rows_found) seed lines (flag_aside (codes "each") rows_found (codes "SEED") refl ∙ seed_found) (flag_aside (codes "each") rows_found (codes "LINES") refl ∙ lines_found)

  abbrev uses_before : List Use
  uses_before = map use_of before

  abbrev uses_between : List Use
  uses_between = map use_of between

  abbrev uses_behind : List Use
  uses_behind = map use_of behind

  all_uses : map use_of (before ++ (between ++ behind)) ≡ uses_before ++ (uses_between ++ uses_behind)
  all_uses = map-append use_of before (between ++ behind) ∙ ap (λ (us : List Use). uses_before ++ us) (map-append use_of between behind)

  takes_soak : (asked : Generated) (options : Options) → IsPlain seed → IsPlain lines → AreToCome soak [] (map use_of (before ++ (between ++ behind)))
      → Takes (codes "soak") (soak_words before seed between lines behind) (with_each rows_found)
  takes_soak asked options plain_1 plain_2 to_come =
      let a = rows_of_given before in
      let b = rows_of_given between in
      let c = rows_of_given behind in
      let first = used_all soak 1 [] nothing_held uses_before (uses_between ++ uses_behind) (nothing_holds soak) (subst (AreToCome soak []) all_uses to_come) in
      let h1 = first.comes.there in
      let h2 = filled soak (codes "SEED") seed h1 in
      let rows_2 : List Row = a ++ given_row (codes "SEED") seed ∷ [] in
      let holds_2 : Holds soak rows_2 h2 = filled_holds soak (codes "SEED") None (Some 1) true a h1 seed first.comes.holds (no_seed before) refl in
      let leads_2 : Leads soak (standing 1 h1) (seed ∷ []) (standing 2 h2) = by_place soak (codes "SEED") None (Some 1) true a h1 seed first.comes.holds (no_seed before) 1 refl plain_1 in
      let seeds_apart : AllByRecursion (IsOther soak (codes "SEED") seed a) (uses_between ++ uses_behind) =
      subst (AllByRecursion (IsOther soak (codes "SEED") seed a)) (map-append use_of between behind) (others_all Given use_of (IsOther soak (codes "SEED") seed a) seed_is_none (between ++ behind)) in
      let second = used_all soak 2 rows_2 h2 uses_between uses_behind holds_2 (come_past soak (codes "SEED") seed a (uses_between ++ uses_behind) seeds_apart first.to_come) in
      let h3 = second.comes.there in
      let rows_3 : List Row = rows_2 ++ b in
      let none : has_row (codes "LINES") rows_3 ≡ false = none_of_both (codes "LINES") rows_2 b (none_of_both (codes "LINES") a (given_row (codes "SEED") seed ∷ []) (no_lines before) refl) (no_lines between) in
      let h4 = filled soak (codes "LINES") lines h3 in
      let rows_4 : List Row = rows_3 ++ given_row (codes "LINES") lines ∷ [] in
      let holds_4 : Holds soak rows_4 h4 = filled_holds soak (codes "LINES") None (Some 2) true rows_3 h3 lines second.comes.holds none refl in
      let leads_4 : Leads soak (standing 2 h3) (lines ∷ []) (standing 3 h4) = by_place soak (codes "LINES") None (Some 2) true rows_3 h3 lines second.comes.holds none 2 refl plain_2 in
      let lines_apart : AllByRecursion (IsOther soak (codes "LINES") lines rows_3) uses_behind = others_all Given use_of (IsOther soak (codes "LINES") lines rows_3) lines_is_none behind in
      let third = used_all soak 3 rows_4 h4 uses_behind [] holds_4
      (subst (AreToCome soak rows_4) (sym (append-nil uses_behind)) (come_past soak (codes "LINES") lines rows_3 uses_behind lines_apart second.to_come)) in
      let h5 = third.comes.there in
      let leads : Leads soak (standing 1 nothing_held) (soak_words before seed between lines behind) (standing 3 h5) =
      leads_on soak (standing 1 nothing_held) (standing 1 h1) (standing 3 h5) (flat_map words_of_use uses_before) (seed ∷ (flat_map words_of_use uses_between ++ lines ∷ flat_map words_of_use uses_behind)) first.comes.leads
      (leads_on soak (standing 1 h1) (standing 2 h2) (standing 3 h5) (seed ∷ []) (flat_map words_of_use uses_between ++ lines ∷ flat_map words_of_use uses_behind) leads_2
      (leads_on soak (standing 2 h2) (standing 2 h3) (standing 3 h5) (flat_map words_of_use uses_between) (lines ∷ flat_map words_of_use uses_behind) second.comes.leads
      (leads_on soak (standing 2 h3) (standing 3 h4) (standing 3 h5) (lines ∷ []) (flat_map words_of_use uses_behind) leads_4 third.comes.leads))) in
      let holds : Holds soak rows_found h5 = subst (λ rs. Holds soak rs h5) (regrouped a b c (given_row (codes "SEED") seed) (given_row (codes "LINES") lines)) third.comes.holds in
      subst (Takes (codes "soak") (soak_words before seed between lines behind)) (soak_rows rows_found)
      (takes (codes "soak") soak (soak_words before seed between lines behind) rows_found (standing 3 h5) (enters (Soak asked options)) refl leads holds soak_ends)

-- the words as they are documented
same_soak : (before between behind : List Given) (seed lines : Text)
    → flat_map words_of before ++ seed ∷ (flat_map words_of between ++ lines ∷ flat_map words_of behind) ≡ soak_words before seed between lines behind
same_soak before between behind seed lines =
    ap₂ (λ (xs ys : List Text). xs ++ seed ∷ ys) (words_of_all before)
    (ap₂ (λ (xs ys : List Text). xs ++ lines ∷ ys) (words_of_all between) (words_of_all behind))

pub soak_is_command : (words : List Text) (asked : Generated) (options : Options) → IsSoak words asked options → IsCommand words (Soak asked options)
soak_is_command words asked options is =
    let seed : Text = decimal asked.seed in
    let lines : Text = decimal asked.lines in
    let rows : List Row = soak_found is.before seed is.between lines is.behind in
    asks_for words (codes "soak") (soak_words is.before seed is.between lines is.behind) (with_each rows) (Soak asked options)
    (is.spelled ∙ ap (λ (ws : List Text). codes "soak" ∷ ws) (same_soak is.before is.between is.behind seed lines))
    (takes_soak is.before is.between is.behind seed lines asked options (plain_decimal asked.seed (omega (arith, is.seed))) (plain_decimal asked.lines (omega (arith, is.lines)))
    (to_come_of soak soak_options (is.before ++ (is.between ++ is.behind)) options is.as_given))
    (record {
      named = refl;
      values = (
        record {
          seed = ap first_in (flag_aside (codes "each") rows (codes "SEED") refl ∙ seed_found is.before is.between is.behind seed lines);
          seeds = is.seed;
          lines = ap first_in (flag_aside (codes "each") rows (codes "LINES") refl ∙ lines_found is.before is.between is.behind seed lines);
          most = is.lines;
        },
        has_options rows (is.before ++ (is.between ++ is.behind)) options is.as_given (options_found is.before is.between is.behind seed lines),
      );
    })
