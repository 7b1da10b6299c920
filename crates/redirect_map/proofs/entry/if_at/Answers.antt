use Rattle.std.proofs.Common.{◌≡◌, ◌<◌, find, length, subst, sym, ap, ◌∙◌, ℕ, Some, arith}
use Rattle.std.specs.Prelude.{slice_get}
use Rattle.std.proofs.lemmas.Option.{slice_get-get_or}
use Rattle.redirect_map.specs.Kept.{is_version}
use Rattle.redirect_map.proofs.Answering.{same_version}
use Rattle.redirect_map.proofs.entry.if_at.Goals as goal

pub returns-then-index-version : goal.returns-then-index-version
returns-then-index-version c =
    let within : c.args.place < length c.args.entries.now.items = omega (arith, c.if-place-len.true, c.len.ensures, c.args.entries.now.ok.0) in
    let at : slice_get c.args.entries.now.items c.args.place ≡ Some c.index.result.now = slice_get-get_or c.args.entries.now.items c.args.place c.index.result.now within ∙ ap Some (sym c.index.ensures) in
    (within, subst (λ (v : ℕ). find (is_version v) c.args.entries.now.items ≡ Some c.index.result.now) c.if-index-version.true (same_version c.args.entries.now.items c.args.place c.index.result.now c.requires at) ∙ sym at)
