use Rattle.std.proofs.Common.{◌≡◌, ◌<◌, find, length, subst, sym, ap, ◌∙◌, ℕ, Some, arith}
use Rattle.std.specs.Prelude.{slice_get}
use Rattle.std.proofs.lemmas.Option.{slice_get-get_or}
use Rattle.redirect_map.specs.declared.entry.Entry.{Entry}
use Rattle.redirect_map.specs.Kept.{is_version}
use Rattle.redirect_map.proofs.Answering.{same_version}
use Rattle.redirect_map.proofs.Search.{not_there}
use Rattle.redirect_map.proofs.entry.searched.Goals as goal
use Rattle.redirect_map.proofs.entry.searched.Goals.{else-place-len-via-then-place-len+else-index-version, else-place-len-via-else-place-len}

blank : Entry
blank = record { «record» = record { version = 0; lbn = 0; count = 0; keep = 0; lane = 0; segment = 0; pos = 0 }; homed = 0 }

pub returns-then-index-version-clause-found : goal.returns-then-index-version-clause-found
returns-then-index-version-clause-found c =
    let within : c.below-place.result < length c.args.entries.now.items = omega (arith, c.if-place-len.true, c.len.ensures, c.args.entries.now.ok.0) in
    let at : slice_get c.args.entries.now.items c.below-place.result ≡ Some c.index.result.now = slice_get-get_or c.args.entries.now.items c.below-place.result c.index.result.now within ∙ ap Some (sym c.index.ensures) in
    (within, subst (λ (v : ℕ). find (is_version v) c.args.entries.now.items ≡ Some c.index.result.now) c.if-index-version.true (same_version c.args.entries.now.items c.below-place.result c.index.result.now c.requires at) ∙ sym at)

pub returns-else-place-len-clause-none : goal.returns-else-place-len-clause-none
returns-else-place-len-clause-none c = elim c.else-place-len.branch [
  | else-place-len-via-then-place-len+else-index-version w ↦ not_there c.args.entries.now.items c.args.version c.below-place.result w.index.result.now c.requires c.below-place.ensures.parted (λ within same. w.if-index-version.false (ap (λ (e : Entry). e.record.version) w.index.ensures ∙ same))
  | else-place-len-via-else-place-len w ↦ not_there c.args.entries.now.items c.args.version c.below-place.result blank c.requires c.below-place.ensures.parted (λ within same. absurd (omega (arith, within, w.if-place-len.false, c.len.ensures, c.args.entries.now.ok.0)))
]
