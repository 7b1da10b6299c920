use Rattle.std.proofs.Common.{◌≡◌, sym}
use Rattle.std.proofs.lemmas.Fmt.{parse-decimal}
use Rattle.std.proofs.lemmas.Slice.Eq.{bytes_eq-Decides}
use Rattle.command_words.proofs.values.number.Goals as goal

pub returns-in_default : goal.returns-in_default
returns-in_default c n small = (
  λ none. absurd (cc none),
  λ spelled.
      let parsed = parse-decimal 64 n c.args.word.now c.parse.result small small spelled c.parse.ensures.value.0 in
      absurd (cc (parsed, c.in_default.is)),
)

pub returns-then-eq : goal.returns-then-eq
returns-then-eq c n small =
    let text : c.format.result.now ≡ c.args.word.now = (bytes_eq-Decides c.format.result.now c.args.word.now).0 (sym c.if-eq.ensures) in (
      λ same. cc (same, text, c.format.ensures.text),
      λ spelled. cc (parse-decimal 64 n c.args.word.now c.parse.result small small spelled c.parse.ensures.value.0, c.in-Ok.is),
    )

pub returns-else-eq : goal.returns-else-eq
returns-else-eq c n small = (
  λ none. absurd (cc none),
  λ spelled.
      let parsed = parse-decimal 64 n c.args.word.now c.parse.result small small spelled c.parse.ensures.value.0 in
      let number : c.in-Ok.number ≡ n = cc (parsed, c.in-Ok.is) in
      let text : c.format.result.now ≡ c.args.word.now = cc (number, spelled, c.format.ensures.text) in
      let equal = (bytes_eq-Decides c.format.result.now c.args.word.now).1 text in
      absurd (cc (equal, c.eq.ensures, c.if-eq.false)),
)
