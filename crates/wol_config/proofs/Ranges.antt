-- What a key without a fault says of its value.
use Rattle.std.proofs.Common.{◌≡◌, ◌≢◌, ℕ, ◌≤◌, Bool, true, false, cond, ◌&&◌, List, [], length, Option, Some, None, option_map, unwrap_or, pos, negsuc, refl, arith}
use Rattle.std.specs.List.{list_all}
use Rattle.std.proofs.lemmas.Bool.{and_parts, leb-true}
use Rattle.toml.specs.Data.{Data, string, integer, float, boolean, datetime, array, table}
use Rattle.wol_config.specs.declared.key.Key.{Key}
use Rattle.wol_config.specs.declared.key.Key.TheVariants.{TimeoutMs}
use Rattle.wol_config.specs.declared.config.ConfigFault.{ConfigFault}
use Rattle.wol_config.specs.declared.config.ConfigFault.TheVariants.{Missing, WrongKind, OutOfRange}
use Rattle.wol_config.specs.Keys.{Rule, number_from_to, text_of, tables_from_to, texts_up_to, may_miss, is_between, is_within, is_table, is_text, items_in, judged}
use Rattle.wol_config.specs.Documents.{number_of, list_of}
use Rattle.wol_config.specs.Documents as document

clear : (t : Bool) (e : ConfigFault) → cond t None (Some e) ≡ None → t ≡ true
clear true e h = refl
clear false e h = absurd (let f : Some e ≡ None = h in cc)

faulty : {X : Type 0} (e : ConfigFault) → Some e ≡ None → X
faulty e h = absurd (let f : Some e ≡ None = h in cc)

between : (least most n : ℕ) → is_between least most n ≡ true → (least ≤ n) × (n ≤ most)
between least most n h = let (low, high) = and_parts _ _ h in (leb-true least n low, leb-true n most high)

there : (key : Key) → may_miss key ≡ false → cond (may_miss key) None (Some (Missing key)) ≡ None → ⊥
there key must h = let e : Some (Missing key) ≡ None = rw must at h in cc

pub number_in_range : (key : Key) (least most : ℕ) (o : Option Data) → may_miss key ≡ false → judged (number_from_to least most) key o ≡ None
    → (least ≤ unwrap_or (option_map number_of o) 0) × (unwrap_or (option_map number_of o) 0 ≤ most)
number_in_range key least most None must h = absurd (there key must h)
number_in_range key least most (Some (integer (pos n))) must h = between least most n (clear (is_between least most n) (OutOfRange key) h)
number_in_range key least most (Some (integer (negsuc n))) must h = faulty (OutOfRange key) h
number_in_range key least most (Some (string s)) must h = faulty (WrongKind key) h
number_in_range key least most (Some (float x)) must h = faulty (WrongKind key) h
number_in_range key least most (Some (boolean b)) must h = faulty (WrongKind key) h
number_in_range key least most (Some (datetime t)) must h = faulty (WrongKind key) h
number_in_range key least most (Some (array ds)) must h = faulty (WrongKind key) h
number_in_range key least most (Some (table ms)) must h = faulty (WrongKind key) h

-- the number of a key that may be missing
pub number_or_default : (key : Key) (least most default : ℕ) (o : Option Data) → (least ≤ default) × (default ≤ most) → judged (number_from_to least most) key o ≡ None
    → (least ≤ unwrap_or (option_map number_of o) default) × (unwrap_or (option_map number_of o) default ≤ most)
number_or_default key least most default None within h = within
number_or_default key least most default (Some (integer (pos n))) within h = between least most n (clear (is_between least most n) (OutOfRange key) h)
number_or_default key least most default (Some (integer (negsuc n))) within h = faulty (OutOfRange key) h
number_or_default key least most default (Some (string s)) within h = faulty (WrongKind key) h
number_or_default key least most default (Some (float x)) within h = faulty (WrongKind key) h
number_or_default key least most default (Some (boolean b)) within h = faulty (WrongKind key) h
number_or_default key least most default (Some (datetime t)) within h = faulty (WrongKind key) h
number_or_default key least most default (Some (array ds)) within h = faulty (WrongKind key) h
number_or_default key least most default (Some (table ms)) within h = faulty (WrongKind key) h

pub text_in_range : (key : Key) (most : ℕ) (good : ℕ → Bool) (o : Option Data) → may_miss key ≡ false → judged (text_of most good) key o ≡ None
    → (1 ≤ length (unwrap_or (option_map document.text_of o) [])) × (length (unwrap_or (option_map document.text_of o) []) ≤ most) × (list_all good (unwrap_or (option_map document.text_of o) []) ≡ true)
text_in_range key most good None must h = absurd (there key must h)
text_in_range key most good (Some (string s)) must h =
    let (size, all) = and_parts (is_between 1 most (length s)) (list_all good s) (clear (is_between 1 most (length s) && list_all good s) (OutOfRange key) h) in
    let (low, high) = between 1 most (length s) size in (low, high, all)
text_in_range key most good (Some (integer z)) must h = faulty (WrongKind key) h
text_in_range key most good (Some (float x)) must h = faulty (WrongKind key) h
text_in_range key most good (Some (boolean b)) must h = faulty (WrongKind key) h
text_in_range key most good (Some (datetime t)) must h = faulty (WrongKind key) h
text_in_range key most good (Some (array ds)) must h = faulty (WrongKind key) h
text_in_range key most good (Some (table ms)) must h = faulty (WrongKind key) h

listed : (kind : Bool) (least most : ℕ) (n : ℕ) (key : Key) → cond kind (cond (is_between least most n) None (Some (OutOfRange key))) (Some (WrongKind key)) ≡ None → (least ≤ n) × (n ≤ most)
listed true least most n key h = between least most n (clear (is_between least most n) (OutOfRange key) h)
listed false least most n key h = faulty (WrongKind key) h

pub tables_in_range : (key : Key) (least most : ℕ) (o : Option Data) → may_miss key ≡ false → judged (tables_from_to least most) key o ≡ None
    → (least ≤ length (unwrap_or (option_map list_of o) [])) × (length (unwrap_or (option_map list_of o) []) ≤ most)
tables_in_range key least most None must h = absurd (there key must h)
tables_in_range key least most (Some (array ds)) must h = listed (list_all is_table (items_in ds)) least most (length (items_in ds)) key h
tables_in_range key least most (Some (string s)) must h = faulty (WrongKind key) h
tables_in_range key least most (Some (integer z)) must h = faulty (WrongKind key) h
tables_in_range key least most (Some (float x)) must h = faulty (WrongKind key) h
tables_in_range key least most (Some (boolean b)) must h = faulty (WrongKind key) h
tables_in_range key least most (Some (datetime t)) must h = faulty (WrongKind key) h
tables_in_range key least most (Some (table ms)) must h = faulty (WrongKind key) h

pub texts_in_range : (key : Key) (most : ℕ) (o : Option Data) → may_miss key ≡ false → judged (texts_up_to most) key o ≡ None
    → length (unwrap_or (option_map list_of o) []) ≤ most
texts_in_range key most None must h = absurd (there key must h)
texts_in_range key most (Some (array ds)) must h = (listed (list_all is_text (items_in ds)) 0 most (length (items_in ds)) key h).1
texts_in_range key most (Some (string s)) must h = faulty (WrongKind key) h
texts_in_range key most (Some (integer z)) must h = faulty (WrongKind key) h
texts_in_range key most (Some (float x)) must h = faulty (WrongKind key) h
texts_in_range key most (Some (boolean b)) must h = faulty (WrongKind key) h
texts_in_range key most (Some (datetime t)) must h = faulty (WrongKind key) h
texts_in_range key most (Some (table ms)) must h = faulty (WrongKind key) h
