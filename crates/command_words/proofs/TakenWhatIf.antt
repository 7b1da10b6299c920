-- The words of `whatif` are a command.
use Rattle.std.proofs.Common.{◌≡◌, ◌∙◌, ◌<◌, ◌≤◌, ◌^◌, ℕ, true, false, refl, sym, ap, subst, arith, cond, List, [], ◌∷◌, map, append-nil, Option, None, Some, option_map, codes}
use Rattle.std.specs.Bool.{⊤}
use Rattle.std.specs.Prelude.{IfSome, decimal}
use Rattle.std.specs.List.{AllByRecursion, flat_map, fold}
use Rattle.clap.specs.Faults.{check_fault, defaults_fault}
use Rattle.clap.specs.Kinds.{or_else}
use Rattle.clap.specs.Simple.{Shape}
use Rattle.clap.specs.Walk.{nothing_held, with_default}
use Rattle.clap.specs.Words.{Row, Text, new_app}
use Rattle.command_words.specs.Application.{with_what_if}
use Rattle.command_words.specs.Commands.{IsCommand}
use Rattle.command_words.specs.Table.{AreAllDifferent, IsWhatIf, Place, ShowDifferent, Shown, long, long_in, next_word, same_word, shown_words, timeout, timeout_in, volumes, volumes_in}
use Rattle.command_words.specs.Values.{HasTimeout, HasWhatIf}
use Rattle.command_words.specs.declared.command.Command.TheVariants.{WhatIf}
use Rattle.command_words.specs.declared.command.WhatIfOptions.{WhatIfOptions}
use Rattle.command_words.proofs.AnyOrder.{AreApart, AreToCome, Offers, Use, all_new, apart_all, flag, offered_all, option, row_of_use, used_all, words_all, words_of_use}
use Rattle.command_words.proofs.Defaults.{calm_end, calm_flag, calm_past, first_in, flag_aside, has_flag, rows_past, with_flag}
use Rattle.command_words.proofs.Rows.{given_row, row_of_name}
use Rattle.command_words.proofs.Steps.{standing, switch}
use Rattle.command_words.proofs.Taken.{Takes, asks_for, built_sub, enters, nothing_holds, takes}
use Rattle.command_words.proofs.Words.{plain_decimal}

abbrev what_if : Shape
what_if = built_sub (with_what_if (new_app (codes "whatif")))

abbrev use_of : Shown → Use
use_of long = flag (codes "long")
use_of volumes = flag (codes "volumes")
use_of (timeout place ms) = option place (codes "timeout") (decimal ms)

-- a number of milliseconds that is written as it is
abbrev IsSmall : Shown → Type 0
IsSmall long = ⊤
IsSmall volumes = ⊤
IsSmall (timeout place ms) = ms < 2 ^ 64

offers : (g : Shown) → IsSmall g → Offers what_if (use_of g)
offers long small = record { dashes = refl; long = refl; by_long = refl }
offers volumes small = record { dashes = refl; long = refl; by_long = refl }
offers (timeout place ms) small = record {
  dashes = refl;
  long = refl;
  by_long = refl;
  by_id = refl;
  own = refl;
  plain = plain_decimal ms small;
  dashes_same = refl;
  long_same = refl;
}

same_words : (g : Shown) → shown_words g ≡ words_of_use (use_of g)
same_words long = refl
same_words volumes = refl
same_words (timeout next_word ms) = refl
same_words (timeout same_word ms) = refl

names_differ : (g k : Shown) → ShowDifferent g k → AreApart (use_of g) (use_of k)
names_differ long long h = absurd h
names_differ long volumes h = refl
names_differ long (timeout q n) h = refl
names_differ volumes long h = refl
names_differ volumes volumes h = absurd h
names_differ volumes (timeout q n) h = refl
names_differ (timeout p m) long h = refl
names_differ (timeout p m) volumes h = refl
names_differ (timeout p m) (timeout q n) h = absurd h

none_but_small : (p : Place) (m : ℕ) (given : List Shown) → AllByRecursion (ShowDifferent (timeout p m)) given → AllByRecursion IsSmall given
none_but_small p m [] h = tt
none_but_small p m (long ∷ rest) h = (tt, none_but_small p m rest h.1)
none_but_small p m (volumes ∷ rest) h = (tt, none_but_small p m rest h.1)
none_but_small p m (timeout q n ∷ rest) h = absurd h.0

are_small : (given : List Shown) → AreAllDifferent ShowDifferent given → IfSome (timeout_in given) (λ ms. (1 ≤ ms) × (ms ≤ 86400000)) → AllByRecursion IsSmall given
are_small [] h most = tt
are_small (long ∷ rest) h most = (tt, are_small rest h.1 most)
are_small (volumes ∷ rest) h most = (tt, are_small rest h.1 most)
are_small (timeout p m ∷ rest) h most = (omega (arith, most.1), none_but_small p m rest h.0)

-- ---- What the rows say

abbrev rows_of : List Shown → List Row
rows_of given = map row_of_use (map use_of given)

named_long : (given : List Shown) → row_of_name (codes "long") (rows_of given) ≡ cond (long_in given) (Some (given_row (codes "long") (codes "true"))) None
named_long [] = refl
named_long (long ∷ rest) = refl
named_long (volumes ∷ rest) = named_long rest
named_long (timeout place ms ∷ rest) = named_long rest

named_volumes : (given : List Shown) → row_of_name (codes "volumes") (rows_of given) ≡ cond (volumes_in given) (Some (given_row (codes "volumes") (codes "true"))) None
named_volumes [] = refl
named_volumes (long ∷ rest) = named_volumes rest
named_volumes (volumes ∷ rest) = refl
named_volumes (timeout place ms ∷ rest) = named_volumes rest

named_timeout : (given : List Shown) → row_of_name (codes "timeout") (rows_of given) ≡ option_map (λ ms. given_row (codes "timeout") (decimal ms)) (timeout_in given)
named_timeout [] = refl
named_timeout (long ∷ rest) = named_timeout rest
named_timeout (volumes ∷ rest) = named_timeout rest
named_timeout (timeout place ms ∷ rest) = refl

timeout_said : (o : Option ℕ) → first_in (option_map (λ ms. given_row (codes "timeout") (decimal ms)) o) ≡ option_map decimal o
timeout_said None = refl
timeout_said (Some ms) = refl

abbrev with_flags : List Row → List Row
with_flags rows = with_flag (codes "volumes") (with_flag (codes "long") rows)

module _ (words : List Text) (options : WhatIfOptions) (is : IsWhatIf words options) where
  abbrev rows : List Row
  rows = rows_of is.given

  has_timeout : HasTimeout (with_flags rows) options.timeout_ms
  has_timeout = record {
    given = ap first_in (flag_aside (codes "volumes") (with_flag (codes "long") rows) (codes "timeout") refl ∙ flag_aside (codes "long") rows (codes "timeout") refl ∙ named_timeout is.given)
        ∙ timeout_said (timeout_in is.given) ∙ ap (option_map decimal) is.timeout;
    range = is.range;
  }

  has_values : HasWhatIf (with_flags rows) options
  has_values =
      let told = has_flag (codes "long") rows refl options.long (named_long is.given ∙ ap (λ b. cond b (Some (given_row (codes "long") (codes "true"))) None) is.long) in
      let same = ap first_in (flag_aside (codes "volumes") (with_flag (codes "long") rows) (codes "long") refl) in
      record {
        long = (λ yes. same ∙ told.0 yes, λ found. told.1 (sym same ∙ found));
        volumes = has_flag (codes "volumes") (with_flag (codes "long") rows) refl options.volumes
            (flag_aside (codes "long") rows (codes "volumes") refl ∙ named_volumes is.given ∙ ap (λ b. cond b (Some (given_row (codes "volumes") (codes "true"))) None) is.volumes);
        timeout = has_timeout;
      }

-- ---- The words

calm : (rows : List Row) → defaults_fault rows what_if.rules ≡ []
calm rows =
    calm_past (codes "timeout") (Some (codes "timeout")) None false rows (switch (codes "long") ∷ switch (codes "volumes") ∷ [])
    ∙ calm_flag (codes "long") rows (switch (codes "volumes") ∷ [])
    ∙ calm_flag (codes "volumes") (with_flag (codes "long") rows) []
    ∙ calm_end (with_flags rows)

finished_rows : (rows : List Row) → fold with_default rows what_if.rules ≡ with_flags rows
finished_rows rows = rows_past (codes "timeout") (Some (codes "timeout")) None false rows (switch (codes "long") ∷ switch (codes "volumes") ∷ [])

takes_what_if : (options : WhatIfOptions) (uses : List Use) → AreToCome what_if [] uses → Takes (codes "whatif") (flat_map words_of_use uses) (with_flags (map row_of_use uses))
takes_what_if options uses to_come =
    let all = used_all what_if 1 [] nothing_held uses [] (nothing_holds what_if) (subst (AreToCome what_if []) (sym (append-nil uses)) to_come) in
    subst (Takes (codes "whatif") (flat_map words_of_use uses)) (finished_rows (map row_of_use uses))
    (takes (codes "whatif") what_if (flat_map words_of_use uses) (map row_of_use uses) (standing 1 all.comes.there) (enters (WhatIf options)) refl all.comes.leads all.comes.holds
    (ap (λ kinds. or_else kinds (check_fault what_if (fold with_default (map row_of_use uses) what_if.rules) false)) (calm (map row_of_use uses))))

pub what_if_is_command : (words : List Text) (options : WhatIfOptions) → IsWhatIf words options → IsCommand words (WhatIf options)
what_if_is_command words options is =
    let uses : List Use = map use_of is.given in
    let to_come : AreToCome what_if [] uses = record {
      different = apart_all Shown use_of shown_words ShowDifferent names_differ is.given is.different;
      fresh = all_new uses;
      offered = offered_all Shown use_of shown_words ShowDifferent what_if IsSmall offers is.given
          (are_small is.given is.different (subst (λ (o : Option ℕ). IfSome o (λ ms. (1 ≤ ms) × (ms ≤ 86400000))) (sym is.timeout) is.range));
    } in
    asks_for words (codes "whatif") (flat_map words_of_use uses) (with_flags (map row_of_use uses)) (WhatIf options)
    (is.spelled ∙ ap (λ (ws : List Text). codes "whatif" ∷ ws) (words_all Shown use_of shown_words ShowDifferent same_words is.given))
    (takes_what_if options uses to_come)
    (record { named = refl; values = has_values words options is })
