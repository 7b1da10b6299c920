use Rattle.std.proofs.Common.{◌≡◌, true, false, None, sym, ap, subst, ◌∙◌, List}
use Rattle.std.specs.Prelude.{string_bytes}
use Rattle.wol_bay.specs.Bay.{at_name}
use Rattle.wol_bay.specs.Names.{by_name}
use Rattle.wol_bay.specs.Refusals.{refusal_of}
use Rattle.wol_bay.specs.declared.held.Image as held
use Rattle.wol_bay.proofs.Attached.{told_length, told_absent}
use Rattle.wol_bay.proofs.memory.MemBay.refusal.Goals as goal

pub returns-in_default : goal.returns-in_default
returns-in_default c =
    let there = subst (λ (l : List held.Image). at_name c.args.name.now (by_name (λ i. string_bytes i.name) l) ≡ None) c.deref.ensures.value c.in_default.ensures.none in
    record { fault = sym (ap (refusal_of c.args.sizes.now) (told_absent c.args.name.now c.args.self.now.images.items there)) }

pub returns-then-is_length : goal.returns-then-is_length
returns-then-is_length c = record { fault = told_length c.args.name.now _ _ c.in-Some.at c.index.result.now c.args.sizes.now true c.deref.ensures.value c.in-Some.ensures.value c.index.ensures (sym c.is_length.ensures ∙ c.if-is_length.true) }

pub returns-else-is_length : goal.returns-else-is_length
returns-else-is_length c = record { fault = told_length c.args.name.now _ _ c.in-Some.at c.index.result.now c.args.sizes.now false c.deref.ensures.value c.in-Some.ensures.value c.index.ensures (sym c.is_length.ensures ∙ c.if-is_length.false) }
