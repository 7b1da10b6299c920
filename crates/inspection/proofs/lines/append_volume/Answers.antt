use Rattle.std.proofs.Common.{Some, refl, ap, ◌∙◌, arith}
use Rattle.std.proofs.lemmas.Option.{slice_get_read}
use Rattle.inspection.proofs.AsFound.{fault_told}
use Rattle.inspection.proofs.SameRacks.{rack_self}
use Rattle.inspection.proofs.lines.append_volume.Goals as goal

pub returns : goal.returns
returns g c = record {
  same = rack_self _;
  others = λ place s is other. is;
  ok = fault_told _ _ _ _ _ _ _ c.in-Some.fault _ _ (slice_get_read c.args.rack.now.faults.items _ c.args.volume c.index.result.now refl (omega (arith, c.requires.rack.count, c.requires.volume)) c.index.ensures ∙ ap Some c.in-Some.is)
      c.append_fault.ensures.trouble (rw c.requires.empty at c.append_fault.ensures.text);
  err = rw c.requires.empty at c.append_fault.ensures.err;
}
