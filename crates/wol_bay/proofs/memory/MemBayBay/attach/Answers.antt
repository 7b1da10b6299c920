use Rattle.std.proofs.Common.{length, map, ap, sym, ◌∙◌}
use Rattle.wol_bay.specs.Bay.{at_name}
use Rattle.wol_bay.specs.MemBay.{named_image}
use Rattle.wol_bay.proofs.Attached.{whole, short_rest}
use Rattle.wol_bay.proofs.memory.MemBayBay.attach.Goals as goal

pub cut_parts-requires : goal.cut_parts-requires
cut_parts-requires c =
    let name = c.args.name.now in
    let images = c.args.self.now.images.items in
    whole c.args.sizes.now (at_name name (map named_image images)) c.in-Ok.values.items c.in_default.ensures.fault (short_rest name images) c.in-Ok.ensures ∙ sym (ap length c.deref.ensures.value)
