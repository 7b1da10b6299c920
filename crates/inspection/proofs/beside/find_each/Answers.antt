use Rattle.std.proofs.Common.{◌<◌, length, refl, sym, ◌∙◌, arith}
use Rattle.std.proofs.lemmas.List.{get_or-set_other}
use Rattle.std.proofs.lemmas.Option.{slice_get_read, get_or_from_slice_get}
use Rattle.inspection.proofs.Halves.{found_next}
use Rattle.inspection.proofs.beside.find_each.Goals as goal

pub find_one-requires-clause-ahead : goal.find_one-requires-clause-ahead
find_one-requires-clause-ahead g c =
    let i = c.loop-k.invariant in let k = c.loop-k.k in
    let within : k < length c.args.stations.now = (let t = c.loop-k-test.true in let a = c.loop-k.auto.stations in omega arith) in
    rw (i.ahead k c.index-stations-k.result (omega arith), i.nothing k c.index-findings-k.result (omega arith)) (c.requires.ahead.each k c.index-stations-k.result c.index-findings-k.result within)

pub loop-k-preserved : goal.loop-k-preserved
loop-k-preserved g c =
    let i = c.loop-k.invariant in let k = c.loop-k.k in
    let t = c.loop-k-test.true in let a = c.loop-k.auto.stations in let b = c.loop-k.auto.findings in let n = c.requires.ahead.count in
    let within : k < length c.loop-k.stations = omega arith in
    let within_findings : k < length c.loop-k.findings = omega arith in
    let there = slice_get_read c.loop-k.stations (length c.loop-k.stations) k c.index-stations-k.result refl within c.index-stations-k.is in
    record {
      found = found_next _ _ _ _ c.loop-k.stations c.loop-k.findings k _ _ within within_findings i.found
          (λ s. rw (sym (i.ahead k s (omega arith)) ∙ get_or_from_slice_get c.loop-k.stations k c.index-stations-k.result s there ∙ c.index-stations-k.is) c.find_one.ensures);
      ahead = λ j s more. get_or-set_other c.loop-k.stations k j _ s (λ is. omega (arith, more, is)) ∙ i.ahead j s (omega (arith, more));
      nothing = λ j f more. get_or-set_other c.loop-k.findings k j _ f (λ is. omega (arith, more, is)) ∙ i.nothing j f (omega (arith, more));
    }

pub returns : goal.returns
returns g c =
    let i = c.loop-k.invariant in let t = c.loop-k-test.false in let a = c.loop-k.auto.stations in
    record { each = λ k s f less. i.found k s f (omega arith) }
