use Rattle.std.proofs.Common.{refl, nat_eq}
use Rattle.std.specs.HashMap.{get}
use Rattle.redirect_map.specs.Marks.{mask_of}
use Rattle.redirect_map.proofs.Marked.{all_kept}
use Rattle.redirect_map.proofs.index.Index.reserve.Goals as goal

pub invariant_of-self : goal.invariant_of-self
invariant_of-self c = all_kept c.self.inside.entries.items c.reserve.new.self.items (get nat_eq c.self.inside.blocks) (get nat_eq c.self.inside.blocks) (mask_of c.self.inside.marks) (mask_of c.self.inside.marks) c.self.inside.homes c.reserve.ensures.items (λ b. refl) (λ v. refl) c.self.invariant

pub invariant_of-self-in_err-reserve-2 : goal.invariant_of-self-in_err-reserve-2
invariant_of-self-in_err-reserve-2 c = all_kept c.self.inside.entries.items c.reserve.new.self.items (get nat_eq c.self.inside.blocks) (get nat_eq c.reserve-2.new.self) (mask_of c.self.inside.marks) (mask_of c.self.inside.marks) c.self.inside.homes c.reserve.ensures.items c.reserve-2.ensures.entries.2 (λ v. refl) c.self.invariant

pub invariant_of-self-in_err-reserve-3 : goal.invariant_of-self-in_err-reserve-3
invariant_of-self-in_err-reserve-3 c = all_kept c.self.inside.entries.items c.reserve.new.self.items (get nat_eq c.self.inside.blocks) (get nat_eq c.reserve-2.new.self) (mask_of c.self.inside.marks) (mask_of c.reserve-3.new.self) c.self.inside.homes c.reserve.ensures.items c.reserve-2.ensures.entries.2 c.reserve-3.ensures.masks c.self.invariant

pub invariant_of-self-2 : goal.invariant_of-self-2
invariant_of-self-2 c = all_kept c.self.inside.entries.items c.reserve.new.self.items (get nat_eq c.self.inside.blocks) (get nat_eq c.reserve-2.new.self) (mask_of c.self.inside.marks) (mask_of c.reserve-3.new.self) c.self.inside.homes c.reserve.ensures.items c.reserve-2.ensures.entries.2 c.reserve-3.ensures.masks c.self.invariant
