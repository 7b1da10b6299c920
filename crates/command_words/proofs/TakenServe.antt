-- The words of `serve` are a command.
use Rattle.std.proofs.Common.{◌≡◌, ◌∙◌, ◌≤◌, ℕ, false, true, refl, sym, ap, arith, List, [], ◌∷◌, ◌++◌, map, append-nil, subst, Option, None, Some, option_map, codes}
use Rattle.std.specs.Prelude.{decimal, unwrap_or, option_and_then, slice_get}
use Rattle.std.proofs.lemmas.Fmt.{decimal_digit, decimal_step}
use Rattle.std.specs.List.{AllByRecursion, flat_map, fold}
use Rattle.clap.proofs.OnLiterals.{clap_on_literals}
use Rattle.clap.specs.Faults.{check_fault, defaults_fault}
use Rattle.clap.specs.Kinds.{or_else}
use Rattle.clap.specs.Simple.{Shape}
use Rattle.clap.specs.Walk.{first_of, has_row, nothing_held, with_default}
use Rattle.clap.specs.Words.{Row, Text, new_app}
use Rattle.command_words.specs.Application.{with_served}
use Rattle.command_words.specs.Commands.{IsCommand}
use Rattle.command_words.specs.Table.{Form, IsServe, MayServe, Order, Place, bare, formed, name_first, next_word, option_first, same_word, serve_words, wait_words}
use Rattle.command_words.specs.Values.{HasWait, served_by}
use Rattle.command_words.specs.declared.command.Command.TheVariants.{Serve}
use Rattle.command_words.specs.declared.command.Patience.{Patience}
use Rattle.command_words.specs.declared.command.ServedName.{ServedName}
use Rattle.command_words.proofs.AnyOrder.{AreToCome, IsOther, Use, come_past, option, row_of_use, used_all, words_of_use}
use Rattle.command_words.proofs.Rows.{given_row}
use Rattle.command_words.proofs.Steps.{Holds, Leads, MayPlace, by_form, filled, filled_holds, form_leads, leads_on, standing, standing_in}
use Rattle.command_words.proofs.Taken.{Takes, asks_for, built_sub, enters, none_placed, nothing_holds, one_placed, takes}
use Rattle.command_words.proofs.TakenNames.{formed_of, may_place, name_rows}
use Rattle.command_words.proofs.Words.{plain_decimal, plain_name}

abbrev serve : Shape
serve = built_sub (with_served (new_app (codes "serve")))

abbrev uses_of : Option (Place × ℕ) → List Use
uses_of None = []
uses_of (Some g) = option g.0 (codes "wait") (decimal g.1) ∷ []

same_wait : (given : Option (Place × ℕ)) → wait_words given ≡ flat_map words_of_use (uses_of given)
same_wait None = refl
same_wait (Some (next_word, n)) = refl
same_wait (Some (same_word, n)) = refl

-- the option may come
to_come_of : (given : Option (Place × ℕ)) (seconds : ℕ) → unwrap_or (option_map (λ g. g.1) given) 10 ≡ seconds → seconds ≤ 3600 → AreToCome serve [] (uses_of given)
to_come_of None seconds is most = record { different = tt; fresh = tt; offered = tt }
to_come_of (Some g) seconds is most = record {
  different = (tt, tt);
  fresh = (refl, tt);
  offered = (
    record {
      dashes = refl;
      long = refl;
      by_long = refl;
      by_id = refl;
      own = refl;
      plain = plain_decimal g.1 (omega (arith, is, most));
      dashes_same = refl;
      long_same = refl;
    },
    tt,
  );
}

-- the option's row beside the name's
abbrev rows_in : Order → List Row → Text → List Row
rows_in name_first rows name = name_rows name ++ rows
rows_in (option_first form) rows name = rows ++ name_rows name

abbrev found_in : Order → Option (Place × ℕ) → Text → List Row
found_in order given name = rows_in order (map row_of_use (uses_of given)) name

-- the words, with what begins the name apart
abbrev words_in : Order → List Text → Text → List Text
words_in name_first words name = name ∷ words
words_in (option_first form) words name = words ++ (formed form [] ++ name ∷ [])

same_words : (order : Order) (given : Option (Place × ℕ)) (name : Text) → serve_words order (wait_words given) name ≡ words_in order (flat_map words_of_use (uses_of given)) name
same_words name_first given name = ap (λ (ws : List Text). name ∷ ws) (same_wait given)
same_words (option_first form) given name =
    ap (λ (ws : List Text). ws ++ formed form (name ∷ [])) (same_wait given) ∙ ap (λ (ws : List Text). flat_map words_of_use (uses_of given) ++ ws) (formed_of form (name ∷ []))

abbrev form_of : Order → Form
form_of name_first = bare
form_of (option_first form) = form

may_serve : (order : Order) (name : Text) → MayServe order name → MayPlace (form_of order) name
may_serve name_first name may = plain_name name may
may_serve (option_first form) name may = may_place form name may

no_name : (given : Option (Place × ℕ)) → has_row (codes "NAME") (map row_of_use (uses_of given)) ≡ false
no_name None = refl
no_name (Some g) = refl

other_name : (given : Option (Place × ℕ)) (name : Text) → AllByRecursion (IsOther serve (codes "NAME") name []) (uses_of given)
other_name None name = tt
other_name (Some g) name = (refl, tt)

ends : (order : Order) (given : Option (Place × ℕ)) (name : Text)
    → or_else (defaults_fault (found_in order given name) serve.rules) (check_fault serve (fold with_default (found_in order given name) serve.rules) false) ≡ []
unfolding defaults_fault clap_on_literals
ends name_first None name = refl
ends name_first (Some g) name = refl
ends (option_first form) None name = refl
ends (option_first form) (Some g) name = refl

same_found : (order : Order) (given : Option (Place × ℕ)) (name : Text) → fold with_default (found_in order given name) serve.rules ≡ found_in order given name
unfolding clap_on_literals
same_found name_first None name = refl
same_found name_first (Some g) name = refl
same_found (option_first form) None name = refl
same_found (option_first form) (Some g) name = refl

takes_in : (served : ServedName) (patience : Patience) (order : Order) (given : Option (Place × ℕ)) (name : Text) → AreToCome serve [] (uses_of given) → MayPlace (form_of order) name
    → Takes (codes "serve") (words_in order (flat_map words_of_use (uses_of given)) name) (fold with_default (found_in order given name) serve.rules)
unfolding clap_on_literals
takes_in served patience name_first given name to_come plain =
    let uses : List Use = uses_of given in
    let one = one_placed serve bare (codes "NAME") name 1 [] [] (none_placed serve bare) refl refl refl plain in
    let more = used_all serve 2 (name_rows name) one.held uses [] one.holds
    (subst (AreToCome serve (name_rows name)) (sym (append-nil uses)) (come_past serve (codes "NAME") name [] uses (other_name given name) to_come)) in
    takes (codes "serve") serve (name ∷ flat_map words_of_use uses) (found_in name_first given name) (standing 2 more.comes.there) (enters (Serve served patience)) refl
    (leads_on serve (standing 1 nothing_held) (standing 2 one.held) (standing 2 more.comes.there) (name ∷ []) (flat_map words_of_use uses) one.leads more.comes.leads)
    more.comes.holds (ends name_first given name)
takes_in served patience (option_first form) given name to_come may =
    let uses : List Use = uses_of given in
    let rows : List Row = map row_of_use uses in
    let first = used_all serve 1 [] nothing_held uses [] (nothing_holds serve) (subst (AreToCome serve []) (sym (append-nil uses)) to_come) in
    let h1 = first.comes.there in
    let h2 = filled serve (codes "NAME") name h1 in
    let place : Leads serve (standing_in form 1 h1) (name ∷ []) (standing_in form 2 h2) = by_form serve (codes "NAME") None (Some 1) true rows h1 name first.comes.holds (no_name given) form 1 refl may in
    takes (codes "serve") serve (flat_map words_of_use uses ++ (formed form [] ++ name ∷ [])) (found_in (option_first form) given name) (standing_in form 2 h2) (enters (Serve served patience)) refl
    (leads_on serve (standing 1 nothing_held) (standing 1 h1) (standing_in form 2 h2) (flat_map words_of_use uses) (formed form [] ++ name ∷ []) first.comes.leads
    (leads_on serve (standing 1 h1) (standing_in form 1 h1) (standing_in form 2 h2) (formed form []) (name ∷ []) (form_leads serve form 1 h1) place))
    (filled_holds serve (codes "NAME") None (Some 1) true rows h1 name first.comes.holds (no_name given) refl) (ends (option_first form) given name)

name_said : (order : Order) (given : Option (Place × ℕ)) (name : Text) → first_of (codes "NAME") (found_in order given name) ≡ Some name
name_said name_first None name = refl
name_said name_first (Some g) name = refl
name_said (option_first form) None name = refl
name_said (option_first form) (Some g) name = refl

ten : codes "10" ≡ decimal 10
ten = sym (decimal_step 10 (omega arith) (omega arith) ∙ ap (λ (ds : Text). ds ++ 48 ∷ []) (decimal_digit 1 (omega arith)))

wait_said : (order : Order) (given : Option (Place × ℕ)) (name : Text) → unwrap_or (first_of (codes "wait") (found_in order given name)) (codes "10") ≡ decimal (unwrap_or (option_map (λ g. g.1) given) 10)
wait_said name_first None name = ten
wait_said name_first (Some g) name = refl
wait_said (option_first form) None name = ten
wait_said (option_first form) (Some g) name = refl

pub serve_is_command : (words : List Text) (served : ServedName) (patience : Patience) → IsServe words (served_by served) patience → IsCommand words (Serve served patience)
serve_is_command words served patience is =
    let name : Text = served_by served in
    let rows : List Row = found_in is.order is.given name in
    asks_for words (codes "serve") (words_in is.order (flat_map words_of_use (uses_of is.given)) name) rows (Serve served patience)
    (is.spelled ∙ ap (λ (ws : List Text). codes "serve" ∷ ws) (same_words is.order is.given name))
    (subst (Takes (codes "serve") (words_in is.order (flat_map words_of_use (uses_of is.given)) name)) (same_found is.order is.given name)
    (takes_in served patience is.order is.given name (to_come_of is.given patience.seconds is.seconds is.range) (may_serve is.order name is.named)))
    (record {
      named = refl;
      values = (
        name_said is.order is.given name,
        record { given = wait_said is.order is.given name ∙ ap decimal is.seconds; most = is.range },
      );
    })
