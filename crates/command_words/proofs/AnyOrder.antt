-- Options in any order.
use Rattle.std.proofs.Common.{◌≡◌, ℕ, false, true, refl, sym, subst, List, [], ◌∷◌, ◌++◌, map, append_assoc, append-nil, Some, None, ap₂, codes}
use Rattle.std.specs.Bool.{⊤}
use Rattle.std.specs.List.{AllByRecursion, flat_map}
use Rattle.std.specs.Str.{bytes_eq}
use Rattle.clap.specs.Lexer.{long_of}
use Rattle.clap.specs.Walk.{Held, arg_by_id, arg_by_long, has_row, reacted}
use Rattle.clap.specs.Simple.{Shape}
use Rattle.clap.specs.Words.{Row, Rule, Text}
use Rattle.command_words.specs.Table.{AreAllDifferent, Place, next_word, option_words, same_word}
use Rattle.command_words.proofs.Rows.{given_row, has_more}
use Rattle.command_words.proofs.Steps.{Holds, Leads, by_name, by_next, by_same, filled, filled_holds, leads_nowhere, leads_on, reacted_holds, standing, switch, switched_holds, valued}
use Rattle.command_words.proofs.Words.{IsPlain}

-- an option as it is used: a name, with a value or without
pub data Use : Type 0 where
  flag : Text → Use
  option : Place → Text → Text → Use

abbrev pub name_of_use : Use → Text
name_of_use (flag name) = name
name_of_use (option place name value) = name

abbrev pub row_of_use : Use → Row
row_of_use (flag name) = given_row name (codes "true")
row_of_use (option place name value) = given_row name value

abbrev pub words_of_use : Use → List Text
words_of_use (flag name) = (45 ∷ 45 ∷ name) ∷ []
words_of_use (option place name value) = option_words place (45 ∷ 45 ∷ name) value

abbrev pub named : Text → Rule
named name = valued name (Some name) None false

-- the subcommand has the flag
pub record HasFlag (s : Shape) (name : Text) : Type 0 where
  pub dashes : bytes_eq (45 ∷ 45 ∷ name) (45 ∷ 45 ∷ []) ≡ false
  pub long : long_of (45 ∷ 45 ∷ name) ≡ Some (name, None)
  pub by_long : arg_by_long s.rules name ≡ Some (switch name)

-- the subcommand has the option, whose value may be this
pub record HasOption (s : Shape) (name value : Text) : Type 0 where
  pub dashes : bytes_eq (45 ∷ 45 ∷ name) (45 ∷ 45 ∷ []) ≡ false
  pub long : long_of (45 ∷ 45 ∷ name) ≡ Some (name, None)
  pub by_long : arg_by_long s.rules name ≡ Some (named name)
  pub by_id : arg_by_id s.rules name ≡ Some (named name)
  pub own : bytes_eq name name ≡ true
  pub plain : IsPlain value
  pub dashes_same : bytes_eq ((45 ∷ 45 ∷ name) ++ 61 ∷ value) (45 ∷ 45 ∷ []) ≡ false
  pub long_same : long_of ((45 ∷ 45 ∷ name) ++ 61 ∷ value) ≡ Some (name, Some value)

abbrev pub Offers : Shape → Use → Type 0
Offers s (flag name) = HasFlag s name
Offers s (option place name value) = HasOption s name value

-- the walk comes to these rows
pub record Comes (s : Shape) (position : ℕ) (h : Held) (words : List Text) (rows : List Row) : Type 0 where
  pub there : Held
  pub holds : Holds s rows there
  pub leads : Leads s (standing position h) words (standing position there)

-- no row has the name of an option that comes
abbrev pub IsNew : List Row → Use → Type 0
IsNew rows u = has_row (name_of_use u) rows ≡ false

-- one option
used_one : (s : Shape) (position : ℕ) (rows : List Row) (h : Held) (u : Use) → Offers s u → Holds s rows h → IsNew rows u → Comes s position h (words_of_use u) (rows ++ row_of_use u ∷ [])
used_one s position rows h (flag name) o holds none = record {
  there = reacted s.rules (switch name) [] h;
  holds = switched_holds s name rows h holds none;
  leads = by_name s name rows h holds none position (45 ∷ 45 ∷ name) name o.dashes o.long o.by_long;
}
used_one s position rows h (option next_word name value) o holds none = record {
  there = filled s name value h;
  holds = filled_holds s name (Some name) None false rows h value holds none o.by_id;
  leads = by_next s name (Some name) None false rows h value holds none position (45 ∷ 45 ∷ name) name o.dashes o.long o.by_long o.by_id o.own o.plain;
}
used_one s position rows h (option same_word name value) o holds none = record {
  there = reacted s.rules (named name) (value ∷ []) h;
  holds = reacted_holds s name (Some name) None false rows h value holds none;
  leads = by_same s name (Some name) None false rows h value holds none position ((45 ∷ 45 ∷ name) ++ 61 ∷ value) name o.dashes_same o.long_same o.by_long;
}

abbrev pub AreApart : Use → Use → Type 0
AreApart u v = bytes_eq (name_of_use u) (name_of_use v) ≡ false

row_name : (u : Use) (name : Text) → bytes_eq (name_of_use u) name ≡ false → bytes_eq (row_of_use u).id name ≡ false
row_name (flag n) name e = e
row_name (option place n value) name e = e

still_new : (rows : List Row) (u : Use) (rest : List Use) → AllByRecursion (IsNew rows) rest → AllByRecursion (AreApart u) rest
    → AllByRecursion (IsNew (rows ++ row_of_use u ∷ [])) rest
still_new rows u [] new apart = tt
still_new rows u (v ∷ rest) new apart =
    (has_more (name_of_use v) rows (row_of_use u) new.0 (row_name u (name_of_use v) apart.0), still_new rows u rest new.1 apart.1)

-- the options that come: they differ, none was given yet, and the subcommand has them
pub record AreToCome (s : Shape) (rows : List Row) (uses : List Use) : Type 0 where
  pub different : AreAllDifferent AreApart uses
  pub fresh : AllByRecursion (IsNew rows) uses
  pub offered : AllByRecursion (Offers s) uses

-- options, before others
pub record ComesTo (s : Shape) (position : ℕ) (h : Held) (words : List Text) (rows : List Row) (more : List Use) : Type 0 where
  pub comes : Comes s position h words rows
  pub to_come : AreToCome s rows more

pub used_all : (s : Shape) (position : ℕ) (rows : List Row) (h : Held) (uses more : List Use) → Holds s rows h → AreToCome s rows (uses ++ more)
    → ComesTo s position h (flat_map words_of_use uses) (rows ++ map row_of_use uses) more
used_all s position rows h [] more holds to_come = record {
  comes = record {
    there = h;
    holds = subst (λ (rs : List Row). Holds s rs h) (sym (append-nil rows)) holds;
    leads = leads_nowhere s (standing position h);
  };
  to_come = subst (λ (rs : List Row). AreToCome s rs more) (sym (append-nil rows)) to_come;
}
used_all s position rows h (u ∷ uses) more holds to_come =
    let first = used_one s position rows h u to_come.offered.0 holds to_come.fresh.0 in
    let left : AreToCome s (rows ++ row_of_use u ∷ []) (uses ++ more) = record {
      different = to_come.different.1;
      fresh = still_new rows u (uses ++ more) to_come.fresh.1 to_come.different.0;
      offered = to_come.offered.1;
    } in
    let rest = used_all s position (rows ++ row_of_use u ∷ []) first.there uses more first.holds left in
    let whole : ComesTo s position h (flat_map words_of_use (u ∷ uses)) ((rows ++ row_of_use u ∷ []) ++ map row_of_use uses) more = record {
      comes = record {
        there = rest.comes.there;
        holds = rest.comes.holds;
        leads = leads_on s _ _ _ (words_of_use u) (flat_map words_of_use uses) first.leads rest.comes.leads;
      };
      to_come = rest.to_come;
    } in
    subst (λ (rs : List Row). ComesTo s position h (flat_map words_of_use (u ∷ uses)) rs more) (append_assoc rows (row_of_use u ∷ []) (map row_of_use uses)) whole

-- a value in its place is no option
module _ (s : Shape) (name value : Text) (rows : List Row) where
  -- none of the options has the name
  abbrev pub IsOther : Use → Type 0
  IsOther u = bytes_eq name (name_of_use u) ≡ false

  new_past : (uses : List Use) → AllByRecursion IsOther uses → AllByRecursion (IsNew rows) uses → AllByRecursion (IsNew (rows ++ given_row name value ∷ [])) uses
  new_past [] other new = tt
  new_past (u ∷ rest) other new = (has_more (name_of_use u) rows (given_row name value) new.0 other.0, new_past rest other.1 new.1)

  pub come_past : (uses : List Use) → AllByRecursion IsOther uses → AreToCome s rows uses → AreToCome s (rows ++ given_row name value ∷ []) uses
  come_past uses other to_come = record { different = to_come.different; fresh = new_past uses other to_come.fresh; offered = to_come.offered }

pub all_new : (uses : List Use) → AllByRecursion (IsNew []) uses
all_new [] = tt
all_new (u ∷ rest) = (refl, all_new rest)

-- ---- options of a kind of their own, as they are used

module _ (G : Type 0) (use_of : G → Use) (words : G → List Text) (Differ : G → G → Type 0) where
  pub words_all : ((g : G) → words g ≡ words_of_use (use_of g)) → (gs : List G) → flat_map words gs ≡ flat_map words_of_use (map use_of gs)
  words_all same [] = refl
  words_all same (g ∷ rest) = ap₂ (λ (xs ys : List Text). xs ++ ys) (same g) (words_all same rest)

  apart_from : ((g k : G) → Differ g k → AreApart (use_of g) (use_of k)) → (g : G) (gs : List G) → AllByRecursion (Differ g) gs → AllByRecursion (AreApart (use_of g)) (map use_of gs)
  apart_from apart g [] h = tt
  apart_from apart g (k ∷ rest) h = (apart g k h.0, apart_from apart g rest h.1)

  pub apart_all : ((g k : G) → Differ g k → AreApart (use_of g) (use_of k)) → (gs : List G) → AreAllDifferent Differ gs → AreAllDifferent AreApart (map use_of gs)
  apart_all apart [] h = tt
  apart_all apart (g ∷ rest) h = (apart_from apart g rest h.0, apart_all apart rest h.1)

  pub offered_all : (s : Shape) (P : G → Type 0) → ((g : G) → P g → Offers s (use_of g)) → (gs : List G) → AllByRecursion P gs → AllByRecursion (Offers s) (map use_of gs)
  offered_all s P offers [] h = tt
  offered_all s P offers (g ∷ rest) h = (offers g h.0, offered_all s P offers rest h.1)

pub others_all : (G : Type 0) (use_of : G → Use) (Q : Use → Type 0) → ((g : G) → Q (use_of g)) → (gs : List G) → AllByRecursion Q (map use_of gs)
others_all G use_of Q each [] = tt
others_all G use_of Q each (g ∷ rest) = (each g, others_all G use_of Q each rest)
