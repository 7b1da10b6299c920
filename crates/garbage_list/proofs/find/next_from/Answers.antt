use Rattle.std.proofs.Common.{sym, ◌∙◌, arith}
use Rattle.wol_model.specs.Index.{Indexed, listed_in}
use Rattle.redirect_map.specs.Index.{has_sought, entry_at}
use Rattle.garbage_list.specs.Least.{has_awake, from_on}
use Rattle.garbage_list.proofs.Finding.{first_told, none_at, none_through, none_below, none_left, none_last, none_next, nothing_first, none_before, told_on}
use Rattle.garbage_list.proofs.Going.{version_is}
use Rattle.garbage_list.proofs.find.next_from.Goals as goal

pub returns-then-is_empty : goal.returns-then-is_empty
returns-then-is_empty c = none_next (from_on c.args.start (has_awake c.args.sought c.args.lanes.now c.args.index.now.entries)) c.args.index.now.entries
    (nothing_first (from_on c.args.start (has_awake c.args.sought c.args.lanes.now c.args.index.now.entries)) c.args.index.now.entries (sym c.is_empty.ensures ∙ c.if-is_empty.true))

pub loop-version-init : goal.loop-version-init
loop-version-init c = record { none = none_before c.args.start (has_awake c.args.sought c.args.lanes.now c.args.index.now.entries) c.args.index.now.entries; above = omega arith }

pub returns-in-Some-told : goal.returns-in-Some-told
returns-in-Some-told c = let es = c.args.index.now.entries in let test = has_awake c.args.sought c.args.lanes.now es in
    first_told (from_on c.args.start test) es c.in-Some.version c.in-Some-told.found c.told.ensures.index.rising
    (sym c.in-Some-told.is ∙ c.told.ensures.told ∙ sym (told_on c.args.start test c.in-Some.version (entry_at es c.in-Some.version) (omega (arith, c.loop-version.invariant.above, c.in-Some.ensures.from)) (version_is es c.in-Some.version)))
    (none_below c.args.start c.args.lanes.now (λ (e : Indexed). has_sought c.args.sought (listed_in es) e.listed) c.loop-version.from c.in-Some.version es c.loop-version.invariant.none c.in-Some.ensures.least)

pub returns-then-version-last : goal.returns-then-version-last
returns-then-version-last c = let es = c.args.index.now.entries in let test = has_awake c.args.sought c.args.lanes.now es in
    none_next (from_on c.args.start test) es
    (none_last (from_on c.args.start test) c.in-Some.version c.last_version-last.result es c.if-version-last.true c.last_version-last.ensures
    (none_below c.args.start c.args.lanes.now (λ (e : Indexed). has_sought c.args.sought (listed_in es) e.listed) c.loop-version.from c.in-Some.version es c.loop-version.invariant.none c.in-Some.ensures.least)
    (none_at (from_on c.args.start test) es c.in-Some.version c.told.ensures.index.rising
    (sym c.in_default-told.is ∙ c.told.ensures.told ∙ sym (told_on c.args.start test c.in-Some.version (entry_at es c.in-Some.version) (omega (arith, c.loop-version.invariant.above, c.in-Some.ensures.from)) (version_is es c.in-Some.version)))))

pub loop-version-preserved : goal.loop-version-preserved
loop-version-preserved c = let es = c.args.index.now.entries in let test = has_awake c.args.sought c.args.lanes.now es in record {
  none = none_through (from_on c.args.start test) c.in-Some.version es
      (none_below c.args.start c.args.lanes.now (λ (e : Indexed). has_sought c.args.sought (listed_in es) e.listed) c.loop-version.from c.in-Some.version es c.loop-version.invariant.none c.in-Some.ensures.least)
      (none_at (from_on c.args.start test) es c.in-Some.version c.told.ensures.index.rising
      (sym c.in_default-told.is ∙ c.told.ensures.told ∙ sym (told_on c.args.start test c.in-Some.version (entry_at es c.in-Some.version) (omega (arith, c.loop-version.invariant.above, c.in-Some.ensures.from)) (version_is es c.in-Some.version))));
  above = omega (arith, c.loop-version.invariant.above, c.in-Some.ensures.from);
}

pub returns : goal.returns
returns c = let es = c.args.index.now.entries in
    none_next (from_on c.args.start (has_awake c.args.sought c.args.lanes.now es)) es
    (none_left c.args.start c.args.lanes.now (λ (e : Indexed). has_sought c.args.sought (listed_in es) e.listed) c.loop-version.from es c.loop-version.invariant.none c.in_default.ensures.none)
