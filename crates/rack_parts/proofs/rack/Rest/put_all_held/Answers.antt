use Rattle.rack_parts.proofs.Basics.{None, is_some, sym, ap, ◌∙◌, arith, get_or_read}
use Rattle.rack_parts.proofs.Returned.{none_yet, next_may, one_more, all_went}
use Rattle.rack_parts.proofs.rack.Rest.put_all_held.Goals as goal

pub loop-volume-init : goal.loop-volume-init
loop-volume-init g c = record { back = none_yet c.args.id c.args.self.now }

pub put_held-requires : goal.put_held-requires
put_held-requires g c = next_may c.args.id c.args.self.now c.requires c.loop-volume.volume c.loop-volume.self c.loop-volume.invariant.back
    (omega (arith, c.loop-volume-test.true, c.len-volume-end.ensures, c.args.self.now.passes.ok.0, c.loop-volume.invariant.back.rows.count))
    (sym (ap is_some (get_or_read c.args.self.now.images.items c.args.id c.index.result.now c.requires.within.1 c.index.ensures None)) ∙ sym c.is_some.ensures ∙ c.if-is_some.true)

pub loop-volume-preserved : goal.loop-volume-preserved
loop-volume-preserved g c = record { back = one_more c.args.id c.args.self.now c.requires c.loop-volume.volume c.loop-volume.self c.put_held.new.self c.loop-volume.invariant.back c.put_held.ensures }

pub returns-after-loop-volume : goal.returns-after-loop-volume
returns-after-loop-volume g c = all_went c.args.id c.args.self.now c.requires c.loop-volume.volume c.loop-volume.self c.loop-volume.invariant.back
    (omega (arith, c.loop-volume-test.false, c.len-volume-end.ensures, c.args.self.now.passes.ok.0, c.loop-volume.invariant.back.rows.count))
