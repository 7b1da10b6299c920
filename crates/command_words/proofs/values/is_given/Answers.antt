use Rattle.std.proofs.Common.{◌≡◌, ◌∙◌, ◌↔◌, Bool, Option, Some, None, sym, ap, IsTrue, codes, true≢false}
use Rattle.std.specs.Prelude.{unwrap_or}
use Rattle.std.specs.Str.{bytes_eq}
use Rattle.std.proofs.lemmas.Slice.Eq.{bytes_eq-Decides}
use Rattle.clap.specs.Words.{Text, first_of, found_of, rows_of}
use Rattle.command_words.proofs.values.is_given.Goals as goal

-- what a value or its default says, where the default is another text
flag_is : (b : Bool) (text : Text) (o : Option Text) → b ≡ bytes_eq text (codes "true") → text ≡ unwrap_or o (codes "false") → IsTrue b ↔ (o ≡ Some (codes "true"))
flag_is b text None test is = (
  λ yes. absurd (true≢false (sym yes ∙ test ∙ ap (λ t. bytes_eq t (codes "true")) is)),
  λ some. absurd (true≢false (sym (ap (λ o. bytes_eq (unwrap_or o (codes "false")) (codes "true")) some))),
)
flag_is b text (Some value) test is = (
  λ yes. ap Some (sym is ∙ (bytes_eq-Decides text (codes "true")).0 (sym test ∙ yes)),
  λ some. test ∙ ap (λ t. bytes_eq t (codes "true")) (is ∙ ap (λ o. unwrap_or o (codes "false")) some),
)

pub returns : goal.returns
returns c = flag_is c.eq.result c.value_or.result.now (first_of c.args.name.now (rows_of (found_of c.args.matches.now))) c.eq.ensures c.value_or.ensures
