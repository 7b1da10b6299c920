use Rattle.rack_parts.proofs.Basics.{length, get_or, ap, subst, ◌∙◌, sym, with_items_is, option_and_then, slice_get-get_or}
use Rattle.rack_parts.proofs.Terms.{StandsClosed, spindle_in, VolumePasses}
use Rattle.rack_parts.proofs.SpindlesClosed.{spindles_kept, spindle_stands, all_passes}
use Rattle.rack_parts.proofs.Members.{is_there}
use Rattle.rack_parts.proofs.rack.Rest.close_spindle.Goals as goal

pub gather_spindles-room-requires-clause-there : goal.gather_spindles-room-requires-clause-there
gather_spindles-room-requires-clause-there g c =
    rw c.deref_mut.ensures.value
    (λ v d within.
    let p = c.requires.passes.each v within in
    is_there (spindle_in (get_or c.args.self.now.passes.items v d) c.args.id) p.0 (sym (ap (option_and_then (λ (q : VolumePasses g.row.D.Denot). spindle_in q c.args.id)) (slice_get-get_or c.args.self.now.passes.items v d within)) ∙ p.1))

pub close-requires-clause-passes : goal.close-requires-clause-passes
close-requires-clause-passes g c =
    rw c.push_reserved.ensures.items
    (all_passes c.args.self.now c.args.id c.args.lock c.args.keeper c.requires.passes c.gather_spindles-room.new.passes c.gather_spindles-room.result.items (rw c.deref_mut.ensures.value at c.gather_spindles-room.ensures.taken))

pub returns-clause-spindle : goal.returns-clause-spindle
returns-clause-spindle g c =
    subst (StandsClosed c.args.self.now c.args.id c.args.lock c.args.keeper) (sym c.new.ensures)
    (spindle_stands c.args.self.now c.args.id c.args.lock c.args.keeper c.requires.passes c.gather_spindles-room.new.passes c.gather_spindles-room.result.items (rw c.deref_mut.ensures.value at c.gather_spindles-room.ensures.taken)
    c.close.result c.close.ensures.0 c.close.ensures.1 (rw c.push_reserved.ensures.items at c.close.ensures.2))

pub returns-clause-rows : goal.returns-clause-rows
returns-clause-rows g c =
    let taken = rw c.deref_mut.ensures.value at c.gather_spindles-room.ensures.taken in
    let items = with_items_is c.args.self.now.passes c.gather_spindles-room.new.passes (c.gather_spindles-room.ensures.taken.count ∙ c.deref_mut.ensures.len) in
    record { count = ap length items ∙ taken.count; each = λ v d within. rw items (taken.each v d c.args.keeper within).rest }

pub returns-clause-others : goal.returns-clause-others
returns-clause-others g c =
    let items = with_items_is c.args.self.now.passes c.gather_spindles-room.new.passes (c.gather_spindles-room.ensures.taken.count ∙ c.deref_mut.ensures.len) in
    λ v k differs. rw items (spindles_kept c.args.self.now c.args.id c.args.lock c.args.keeper c.requires.passes c.gather_spindles-room.new.passes c.gather_spindles-room.result.items (rw c.deref_mut.ensures.value at c.gather_spindles-room.ensures.taken) v k differs)
