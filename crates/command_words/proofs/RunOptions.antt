-- The options of a run over a trace, as they are used, and what their rows say.
use Rattle.std.proofs.Common.{◌≡◌, ◌∙◌, ◌<◌, ◌≤◌, ◌^◌, ℕ, false, true, refl, sym, ap, subst, arith, cond, List, [], ◌∷◌, ◌++◌, map, Option, Some, None, option_map, codes}
use Rattle.std.specs.Bool.{⊤}
use Rattle.std.specs.Prelude.{decimal, unwrap_or}
use Rattle.std.proofs.lemmas.Fmt.{decimal_digit}
use Rattle.std.proofs.lemmas.List.{map-append}
use Rattle.std.specs.List.{AllByRecursion, flat_map}
use Rattle.std.specs.Str.{bytes_eq}
use Rattle.clap.specs.Walk.{arg_by_id, arg_by_long, has_row}
use Rattle.clap.specs.Simple.{Shape}
use Rattle.clap.specs.Words.{Row, Text}
use Rattle.command_words.specs.Table.{AreAllDifferent, AreDifferent, AreOptions, Given, Place, each, each_in, mode_in, mode_text, next_word, reclaim, same_word, words_of, workers, workers_in}
use Rattle.command_words.specs.Values.{HasMode, HasOptions, HasWorkers}
use Rattle.command_words.specs.declared.command.Mode.{Mode}
use Rattle.command_words.specs.declared.command.Mode.TheVariants.{Between}
use Rattle.command_words.specs.declared.command.Options.{Options}
use Rattle.command_words.proofs.AnyOrder.{AreApart, AreToCome, Offers, Use, all_new, apart_all, flag, name_of_use, named, offered_all, option, row_of_use, words_all, words_of_use}
use Rattle.command_words.proofs.Defaults.{first_in, flag_aside, has_flag, with_flag}
use Rattle.command_words.proofs.Rows.{given_row, row_of_name}
use Rattle.command_words.proofs.Steps.{switch}
use Rattle.command_words.proofs.Words.{plain_decimal, plain_mode}

abbrev pub use_of : Given → Use
use_of (workers place n) = option place (codes "workers") (decimal n)
use_of (reclaim place mode) = option place (codes "reclaim") (mode_text mode)
use_of each = flag (codes "each")

abbrev pub rows_of_given : List Given → List Row
rows_of_given given = map row_of_use (map use_of given)

pub rows-append : (xs ys : List Given) → rows_of_given (xs ++ ys) ≡ rows_of_given xs ++ rows_of_given ys
rows-append xs ys = ap (map row_of_use) (map-append use_of xs ys) ∙ map-append row_of_use (map use_of xs) (map use_of ys)

-- the subcommand has the options of a run over a trace
pub record TakesOptions (s : Shape) : Type 0 where
  pub workers_long : arg_by_long s.rules (codes "workers") ≡ Some (named (codes "workers"))
  pub workers_id : arg_by_id s.rules (codes "workers") ≡ Some (named (codes "workers"))
  pub reclaim_long : arg_by_long s.rules (codes "reclaim") ≡ Some (named (codes "reclaim"))
  pub reclaim_id : arg_by_id s.rules (codes "reclaim") ≡ Some (named (codes "reclaim"))
  pub each_long : arg_by_long s.rules (codes "each") ≡ Some (switch (codes "each"))

-- a number of workers that is written as it is
abbrev pub IsSmall : Given → Type 0
IsSmall (workers place n) = n < 2 ^ 64
IsSmall (reclaim place mode) = ⊤
IsSmall each = ⊤

offers : (s : Shape) → TakesOptions s → (g : Given) → IsSmall g → Offers s (use_of g)
offers s o (workers place n) small = record {
  dashes = refl;
  long = refl;
  by_long = o.workers_long;
  by_id = o.workers_id;
  own = refl;
  plain = plain_decimal n small;
  dashes_same = refl;
  long_same = refl;
}
offers s o (reclaim place mode) small = record {
  dashes = refl;
  long = refl;
  by_long = o.reclaim_long;
  by_id = o.reclaim_id;
  own = refl;
  plain = plain_mode mode;
  dashes_same = refl;
  long_same = refl;
}
offers s o each small = record { dashes = refl; long = refl; by_long = o.each_long }

same_words : (g : Given) → words_of g ≡ words_of_use (use_of g)
same_words (workers next_word n) = refl
same_words (workers same_word n) = refl
same_words (reclaim next_word mode) = refl
same_words (reclaim same_word mode) = refl
same_words each = refl

pub words_of_all : (given : List Given) → flat_map words_of given ≡ flat_map words_of_use (map use_of given)
words_of_all given = words_all Given use_of words_of AreDifferent same_words given

names_differ : (g k : Given) → AreDifferent g k → AreApart (use_of g) (use_of k)
names_differ (workers p n) (workers q m) h = absurd h
names_differ (workers p n) (reclaim q mode) h = refl
names_differ (workers p n) each h = refl
names_differ (reclaim p mode) (workers q m) h = refl
names_differ (reclaim p mode) (reclaim q other) h = absurd h
names_differ (reclaim p mode) each h = refl
names_differ each (workers q m) h = refl
names_differ each (reclaim q mode) h = refl
names_differ each each h = absurd h

none_but_small : (p : Place) (n : ℕ) (given : List Given) → AllByRecursion (AreDifferent (workers p n)) given → AllByRecursion IsSmall given
none_but_small p n [] h = tt
none_but_small p n (workers q m ∷ rest) h = absurd h.0
none_but_small p n (reclaim q mode ∷ rest) h = (tt, none_but_small p n rest h.1)
none_but_small p n (each ∷ rest) h = (tt, none_but_small p n rest h.1)

are_small : (given : List Given) → AreAllDifferent AreDifferent given → unwrap_or (workers_in given) 1 ≤ 64 → AllByRecursion IsSmall given
are_small [] h most = tt
are_small (workers p n ∷ rest) h most = (omega arith, none_but_small p n rest h.0)
are_small (reclaim p mode ∷ rest) h most = (tt, are_small rest h.1 most)
are_small (each ∷ rest) h most = (tt, are_small rest h.1 most)

-- the given options may all come
pub to_come_of : (s : Shape) → TakesOptions s → (given : List Given) (options : Options) → AreOptions given options → AreToCome s [] (map use_of given)
to_come_of s o given options are = record {
  different = apart_all Given use_of words_of AreDifferent names_differ given are.different;
  fresh = all_new (map use_of given);
  offered = offered_all Given use_of words_of AreDifferent s IsSmall (offers s o) given (are_small given are.different (subst (λ n. n ≤ 64) (sym are.workers) are.range.1));
}

-- ---- what the rows of options say

named_workers : (given : List Given) → row_of_name (codes "workers") (rows_of_given given) ≡ option_map (λ n. given_row (codes "workers") (decimal n)) (workers_in given)
named_workers [] = refl
named_workers (workers place n ∷ rest) = refl
named_workers (reclaim place mode ∷ rest) = named_workers rest
named_workers (each ∷ rest) = named_workers rest

named_mode : (given : List Given) → row_of_name (codes "reclaim") (rows_of_given given) ≡ option_map (λ mode. given_row (codes "reclaim") (mode_text mode)) (mode_in given)
named_mode [] = refl
named_mode (workers place n ∷ rest) = named_mode rest
named_mode (reclaim place mode ∷ rest) = refl
named_mode (each ∷ rest) = named_mode rest

named_each : (given : List Given) → row_of_name (codes "each") (rows_of_given given) ≡ cond (each_in given) (Some (given_row (codes "each") (codes "true"))) None
named_each [] = refl
named_each (workers place n ∷ rest) = named_each rest
named_each (reclaim place mode ∷ rest) = named_each rest
named_each (each ∷ rest) = refl

-- a value in its place is none of theirs
pub past_seed : (given : List Given) (more : List Row) → row_of_name (codes "SEED") (rows_of_given given ++ more) ≡ row_of_name (codes "SEED") more
past_seed [] more = refl
past_seed (workers place n ∷ rest) more = past_seed rest more
past_seed (reclaim place mode ∷ rest) more = past_seed rest more
past_seed (each ∷ rest) more = past_seed rest more

pub past_lines : (given : List Given) (more : List Row) → row_of_name (codes "LINES") (rows_of_given given ++ more) ≡ row_of_name (codes "LINES") more
past_lines [] more = refl
past_lines (workers place n ∷ rest) more = past_lines rest more
past_lines (reclaim place mode ∷ rest) more = past_lines rest more
past_lines (each ∷ rest) more = past_lines rest more

pub no_seed : (given : List Given) → has_row (codes "SEED") (rows_of_given given) ≡ false
no_seed [] = refl
no_seed (workers place n ∷ rest) = no_seed rest
no_seed (reclaim place mode ∷ rest) = no_seed rest
no_seed (each ∷ rest) = no_seed rest

pub no_lines : (given : List Given) → has_row (codes "LINES") (rows_of_given given) ≡ false
no_lines [] = refl
no_lines (workers place n ∷ rest) = no_lines rest
no_lines (reclaim place mode ∷ rest) = no_lines rest
no_lines (each ∷ rest) = no_lines rest

pub seed_is_none : (g : Given) → bytes_eq (codes "SEED") (name_of_use (use_of g)) ≡ false
seed_is_none (workers place n) = refl
seed_is_none (reclaim place mode) = refl
seed_is_none each = refl

pub lines_is_none : (g : Given) → bytes_eq (codes "LINES") (name_of_use (use_of g)) ≡ false
lines_is_none (workers place n) = refl
lines_is_none (reclaim place mode) = refl
lines_is_none each = refl

workers_said : (o : Option ℕ) → unwrap_or (first_in (option_map (λ n. given_row (codes "workers") (decimal n)) o)) (codes "1") ≡ decimal (unwrap_or o 1)
workers_said None = sym (decimal_digit 1 (omega arith))
workers_said (Some n) = refl

mode_said : (o : Option Mode) → unwrap_or (first_in (option_map (λ mode. given_row (codes "reclaim") (mode_text mode)) o)) (codes "between") ≡ mode_text (unwrap_or o Between)
mode_said None = refl
mode_said (Some mode) = refl

abbrev pub with_each : List Row → List Row
with_each rows = with_flag (codes "each") rows

module _ (rows : List Row) (given : List Given) (options : Options) (are : AreOptions given options)
    (said : (name : Text) → bytes_eq (codes "SEED") name ≡ false → bytes_eq (codes "LINES") name ≡ false → row_of_name name rows ≡ row_of_name name (rows_of_given given)) where
  has_workers : HasWorkers (with_each rows) options.workers
  has_workers = record {
    given = ap (λ o. unwrap_or (first_in o) (codes "1")) (flag_aside (codes "each") rows (codes "workers") refl ∙ said (codes "workers") refl refl ∙ named_workers given)
        ∙ workers_said (workers_in given) ∙ ap decimal are.workers;
    some = are.range.0;
    most = are.range.1;
  }

  has_mode : HasMode (with_each rows) options.reclaim
  has_mode = ap (λ o. unwrap_or (first_in o) (codes "between")) (flag_aside (codes "each") rows (codes "reclaim") refl ∙ said (codes "reclaim") refl refl ∙ named_mode given)
      ∙ mode_said (mode_in given) ∙ ap mode_text are.reclaim

  pub has_options : HasOptions (with_each rows) options
  has_options = record {
    workers = has_workers;
    reclaim = has_mode;
    each = has_flag (codes "each") rows refl options.each
        (said (codes "each") refl refl ∙ named_each given ∙ ap (λ b. cond b (Some (given_row (codes "each") (codes "true"))) None) are.each);
  }
