use Rattle.rack.proofs.Basics.{length, subst, arith, slice_get_within, get_or_from_slice_get}
use Rattle.rack.proofs.Terms.{IsHome, VolumeConf}
use Rattle.rack.proofs.ImagesSent.{all_back, all_whole, back_others, names_out, others_then, sent_others}
use Rattle.rack.proofs.survey.survey_images.Goals as goal

pub give_back-requires-clause-images : goal.give_back-requires-clause-images
give_back-requires-clause-images g c = λ k s r shape here. (c.in-Ok.ensures.asked.out k s r shape here).rest

pub give_back-requires-clause-whole : goal.give_back-requires-clause-whole
give_back-requires-clause-whole g c =
    all_whole g.B.Part.Disk.tells g.B.Part.Disk.state c.args.config.now (g.B.Bay.state c.args.bay.now) (g.B.Bay.state c.open_images-opened.new.bay) (length c.args.config.now.volumes.items) c.in-Ok.field-0 c.in-Ok.ensures.asked (omega arith)

pub give_back-requires-clause-out : goal.give_back-requires-clause-out
give_back-requires-clause-out g c = λ k v at there.
    let home = subst (λ (w : VolumeConf). IsHome w.name (g.B.Bay.state c.args.bay.now)) (get_or_from_slice_get c.args.config.now.volumes.items k v v at) (c.requires.home k v (slice_get_within c.args.config.now.volumes.items k v at)) in
    names_out c.args.config.now c.requires.config c.in-Ok.field-0.out.items (length c.args.config.now.volumes.items) k v (g.B.Bay.state c.args.bay.now) (g.B.Bay.state c.open_images-opened.new.bay) at there home c.in-Ok.ensures.out

pub returns-in-Ok-clause-back : goal.returns-in-Ok-clause-back
returns-in-Ok-clause-back g c =
    all_back g.B.Part.Disk.tells g.B.Part.Disk.state g.met.B.Part.Disk.told c.args.config.now (g.B.Bay.state c.args.bay.now) (g.B.Bay.state c.open_images-opened.new.bay) (g.B.Bay.state c.give_back.new.bay) (length c.args.config.now.volumes.items) c.in-Ok.field-0
    c.in-Ok.ensures.asked c.in-Ok.ensures.out c.give_back.ensures.back c.requires.home c.give_back.ensures.home c.give_back.ensures.counts

pub returns-in-Ok-clause-others : goal.returns-in-Ok-clause-others
returns-in-Ok-clause-others g c =
    others_then c.args.config.now (g.B.Bay.state c.args.bay.now).told (g.B.Bay.state c.open_images-opened.new.bay).told (g.B.Bay.state c.give_back.new.bay).told
    (sent_others c.args.config.now c.in-Ok.field-0.out.items (length c.args.config.now.volumes.items) (g.B.Bay.state c.args.bay.now) (g.B.Bay.state c.open_images-opened.new.bay) c.in-Ok.ensures.out)
    (back_others c.args.config.now c.in-Ok.field-0.out.items g.B.Part.Disk.state (g.B.Bay.state c.open_images-opened.new.bay).told (g.B.Bay.state c.give_back.new.bay).told c.give_back.ensures.back)
