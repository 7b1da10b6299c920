use Rattle.std.proofs.Common.{◌∙◌, sym, Some, ap}
use Rattle.std.proofs.lemmas.Option.{slice_get-get_or}
use Rattle.redirect_map.proofs.entry.with_version.Goals as goal

pub returns-in_err-place : goal.returns-in_err-place
returns-in_err-place c = c.from_residual.ensures ∙ sym c.in_err-place.ensures.none

pub returns : goal.returns
returns c = sym (c.in_ok-place.ensures.found.1 ∙ slice_get-get_or c.args.entries.now.items c.in_ok-place.place c.index.result.now c.in_ok-place.ensures.found.0 ∙ ap Some (sym c.index.ensures))
