use Rattle.std.proofs.Common.{Some, get_or, refl, ap, ◌∙◌, arith}
use Rattle.std.proofs.lemmas.List.{with_items_is}
use Rattle.std.proofs.lemmas.Option.{slice_get_read, slice_get_within}
use Rattle.inspection.specs.declared.beside.Finding.{Finding}
use Rattle.inspection.proofs.Ahead.{at_still, keeps_self}
use Rattle.inspection.proofs.AsFound.{fault_by, finding_by}
use Rattle.inspection.proofs.found.append_found.Goals as goal

pub find_through-requires-clause-going : goal.find_through-requires-clause-going
find_through-requires-clause-going g c κs inside =
    let value = c.as_mut_slice-stations.ensures.value in
    record { stations = rw value c.requires.rack.stations; before = c.requires.going.0; going = rw value c.requires.going.1 }

pub find_through-requires-clause-place : goal.find_through-requires-clause-place
find_through-requires-clause-place g c κs inside =
    let p = rw c.deref.ensures.value at c.place_of-place.ensures in
    rw c.as_mut_slice-stations.ensures.value (slice_get_within c.args.rack.now.stations.items c.place_of-place.result p.0 p.1.there)

pub append_finding-requires-clause-known : goal.append_finding-requires-clause-known
append_finding-requires-clause-known g c κs inside =
    let p = rw c.deref.ensures.value at c.place_of-place.ensures in
    let going = c.find_through.ensures.found.going c.requires.going.0 (rw c.as_mut_slice-stations.ensures.value c.requires.going.1) in
    (going.found c.place_of-place.result p.0 c.index-findings-place.result c.find_through.ensures.place).known κs inside

pub returns-in_default : goal.returns-in_default
returns-in_default g c =
    let v = c.args.rack.now.stations in let d = c.find_through.new.stations in
    let e = with_items_is v d (c.find_through.auto.stations ∙ c.as_mut_slice-stations.ensures.len) in
    let p = rw c.deref.ensures.value at c.place_of-place.ensures in
    let going = c.find_through.ensures.found.going c.requires.going.0 (rw c.as_mut_slice-stations.ensures.value c.requires.going.1) in
    let at = at_still g.D.Disk.tells g.D.Disk.state c.args.config.now c.requires.going.0 v.items d c.args.findings.now c.find_through.new.findings c.args.found.now c.find_through.result c.requires.going.1 going c.args.volume c.place_of-place.result p.0 p.1 in
    record {
      rest = refl;
      more = c.find_through.ensures.more;
      found = rw e (rw c.as_mut_slice-stations.ensures.value at c.find_through.ensures.found);
      told = finding_by c.args.config.now _ c.find_through.new.findings c.find_through.result c.args.volume c.place_of-place.result (get_or d c.place_of-place.result p.0) (rw e at) c.find_through.ensures.place
          (get_or c.find_through.new.findings c.place_of-place.result c.index-findings-place.result) (ap (λ (f : Finding). get_or c.find_through.new.findings c.place_of-place.result f) c.index-findings-place.is)
          c.append_finding.result c.args.out.now.items c.append_finding.new.out.items c.requires.empty c.append_finding.ensures.told c.append_finding.ensures.text;
    }

pub append_fault-requires-clause-names : goal.append_fault-requires-clause-names
append_fault-requires-clause-names g c =
    c.requires.rack.known c.args.volume c.in-Some.fault
    (slice_get_read c.args.rack.now.faults.items _ c.args.volume c.index.result.now refl (omega (arith, c.requires.rack.count, c.requires.volume)) c.index.ensures ∙ ap Some c.in-Some.is)

pub returns : goal.returns
returns g c = record {
  rest = refl;
  more = omega arith;
  found = record { going = λ before going. going; keeps = keeps_self _ _ _ };
  told = fault_by c.args.config.now c.args.rack.now c.args.findings.now c.args.found.now c.args.volume c.in-Some.fault c.append_fault.result c.append_fault.new.out.items
      (slice_get_read c.args.rack.now.faults.items _ c.args.volume c.index.result.now refl (omega (arith, c.requires.rack.count, c.requires.volume)) c.index.ensures ∙ ap Some c.in-Some.is)
      c.append_fault.ensures.trouble (rw c.requires.empty at c.append_fault.ensures.text);
}
