use Rattle.std.proofs.Common.{◌∙◌, ap, ◌-◌}
use Rattle.std.specs.List.{filter}
use Rattle.redirect_map.specs.Listing.{is_listed}
use Rattle.redirect_map.proofs.Listing.{popped_few, places_dropped, places_listed, filter_twice}
use Rattle.redirect_map.proofs.list.Entries.tidy.Goals as goal

pub overflow_sub-self : goal.overflow_sub-self
overflow_sub-self c = popped_few c.self.inside.places.items c.drop_last-popped.new.places.items c.self.inside.dead c.drop_last-popped.result c.self.invariant c.drop_last-popped.ensures.items c.drop_last-popped.ensures.count

pub invariant_of-self : goal.invariant_of-self
invariant_of-self c = places_listed c.drop_last-popped.new.places.items c.drop_dead.new.places.items (c.self.inside.dead - c.drop_last-popped.result)
    (places_dropped c.self.inside.places.items c.drop_last-popped.new.places.items c.self.inside.dead c.drop_last-popped.result c.self.invariant c.drop_last-popped.ensures.items c.drop_last-popped.ensures.first c.drop_last-popped.ensures.count) c.drop_dead.ensures.items

pub invariant_of-self-else-self-len : goal.invariant_of-self-else-self-len
invariant_of-self-else-self-len c = places_dropped c.self.inside.places.items c.drop_last-popped.new.places.items c.self.inside.dead c.drop_last-popped.result c.self.invariant c.drop_last-popped.ensures.items c.drop_last-popped.ensures.first c.drop_last-popped.ensures.count

pub returns-then-self-len-clause-items : goal.returns-then-self-len-clause-items
returns-then-self-len-clause-items c = rw (← c.self.view_is) (ap (filter is_listed) c.drop_dead.ensures.items ∙ filter_twice c.drop_last-popped.new.places.items ∙ c.drop_last-popped.ensures.items)
