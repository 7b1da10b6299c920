use Rattle.std.proofs.Common.{◌≡◌, true, false, refl, arith, rules}
use Rattle.std.proofs.lemmas.Option.{slice_get_within}
use Rattle.cleaning.proofs.Testing.{none_here, none_homed_in, some_here, up_to, version_there}
use Rattle.cleaning.proofs.test.none_homed.Goals as goal

pub homed-requires : goal.homed-requires
homed-requires c = version_there c.args.index.now.entries c.len-place-end.ensures.index c.loop-place.place c.at.result (omega arith) c.at.ensures

pub returns-then-homed-ne0 : goal.returns-then-homed-ne0
returns-then-homed-ne0 c = (
  λ no. absurd (let wrong : false ≡ true = no in cc),
  λ none. absurd (some_here c.args.index.now.entries c.len-place-end.ensures.index c.loop-place.place c.at.result (omega arith) c.at.ensures c.homed.result c.homed.ensures.value (search rules) (λ empty. search rules) none),
)

pub loop-place-preserved : goal.loop-place-preserved
loop-place-preserved c = up_to c.args.index.now.entries c.loop-place.place c.loop-place.invariant
    (none_here c.args.index.now.entries c.len-place-end.ensures.index c.loop-place.place c.at.result (omega arith) c.at.ensures c.homed.result c.homed.ensures.value (search rules))

pub returns : goal.returns
returns c = (
  λ yes. none_homed_in c.args.index.now.entries (λ k e at. c.loop-place.invariant k e (let lt = slice_get_within c.args.index.now.entries k e at in omega arith) at),
  λ none. refl,
)
