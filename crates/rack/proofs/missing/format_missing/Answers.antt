use Rattle.rack.proofs.Basics.{◌≡◌, [], ℕ, Err, sym, ap, ◌∙◌, subst, get_or_from_slice_get}
use Rattle.rack.proofs.Terms.{Config, IsHome, IsTold, LeavesNoMore, Shape, VolumeConf, shape_in, shape_of}
use Rattle.volume_images.specs.Formatted.{formatted}
use Rattle.volume_images.specs.Left.{CameBack, LeavesImage, settled_image}
use Rattle.volume_images.proofs.InOrder.{home_kept}
use Rattle.rack.specs.Missing.{LeavesMissing}
use Rattle.rack.specs.declared.missing.MissingFault.TheVariants.{Format}
use Rattle.rack.proofs.MissingImage.{failed_left, few_heads, made_behind, not_there, refuses, told_on}
use Rattle.rack.proofs.missing.format_missing.Goals as goal

pub hindrance-requires-clause-few : goal.hindrance-requires-clause-few
hindrance-requires-clause-few g c = few_heads g.B.Part.Disk.tells g.B.Part.Disk.state c.args.config.now (g.B.Bay.state c.args.bay.now) (g.B.Bay.state c.survey_images.new.bay) c.in-Ok.survey c.in-Ok.ensures.asked c.requires.config

pub returns-in-Some-clause-refused : goal.returns-in-Some-clause-refused
returns-in-Some-clause-refused g c =
    let some = c.in-Some.ensures.some in
    refuses g.B.Part.Disk.tells g.B.Part.Disk.state c.args.config.now (g.B.Bay.state c.args.bay.now) (g.B.Bay.state c.survey_images.new.bay) c.in-Ok.survey c.in-Ok.ensures.asked c.args.id some.0 some.1 c.in-Some.fault some.2

pub format_image-requires-clause-home : goal.format_image-requires-clause-home
format_image-requires-clause-home g c =
    home_kept c.index-volume.result.now.name (g.B.Bay.state c.args.bay.now) (g.B.Bay.state c.survey_images.new.bay) c.in-Ok.ensures.back.outs
    (subst (λ (w : VolumeConf). IsHome w.name (g.B.Bay.state c.args.bay.now)) (sym c.index-volume.ensures) (c.requires.home c.args.id c.index-volume.result.now c.requires.within))

pub returns-in-Ok-format_image-clause-left : goal.returns-in-Ok-format_image-clause-left
returns-in-Ok-format_image-clause-left g c = λ v at telling.
    let config : Config = c.args.config.now in
    let b' = (g.B.Bay.state c.survey_images.new.bay).told in
    let new = (g.B.Bay.state c.format_image.new.bay).told in
    let v_is : c.index-volume.result.now ≡ v = c.index-volume.ensures ∙ get_or_from_slice_get config.volumes.items c.args.id v c.index-volume.result.now at in
    let shape_is : shape_of c.label_of-label.result ≡ shape_in config v = c.label_of-label.ensures.shape v ∙ ap (shape_in config) (get_or_from_slice_get config.volumes.items c.args.id v v at) in
    let one = subst (λ (w : VolumeConf). IsTold (CameBack w.name (settled_image (formatted c.label_of-label.result.id (shape_of c.label_of-label.result) w.view)) []) b' new) v_is c.in-Ok-format_image.ensures.left in
    let two = subst (λ (i : ℕ). IsTold (CameBack v.name (settled_image (formatted i (shape_of c.label_of-label.result) v.view)) []) b' new) c.label_of-label.ensures.id one in
    let back = subst (λ (s : Shape). IsTold (CameBack v.name (settled_image (formatted c.args.id s v.view)) []) b' new) shape_is two in
    made_behind g.B.Part.Disk.tells g.B.Part.Disk.state config (g.B.Bay.state c.args.bay.now) (g.B.Bay.state c.survey_images.new.bay) c.in-Ok.survey c.in-Ok.ensures.asked c.requires.config c.args.id v at telling
    (g.met.B.Part.Disk.told telling) g.met.B.Part.Disk.sound c.in_default.ensures.none new (c.in-Ok.ensures.back.left telling) back

pub returns-clause-left : goal.returns-clause-left
returns-clause-left g c = λ v at telling.
    let config : Config = c.args.config.now in
    let e = c.in-Err-format_image.fault in
    let b' = (g.B.Bay.state c.survey_images.new.bay).told in
    let new = (g.B.Bay.state c.format_image.new.bay).told in
    let v_is : c.index-volume.result.now ≡ v = c.index-volume.ensures ∙ get_or_from_slice_get config.volumes.items c.args.id v c.index-volume.result.now at in
    let shape_is : shape_of c.label_of-label.result ≡ shape_in config v = c.label_of-label.ensures.shape v ∙ ap (shape_in config) (get_or_from_slice_get config.volumes.items c.args.id v v at) in
    let one = subst (λ (w : VolumeConf). IsTold (LeavesImage (Err e) w.name c.label_of-label.result.id (shape_of c.label_of-label.result) w.view) b' new) v_is c.in-Err-format_image.ensures.left in
    let two = subst (λ (i : ℕ). IsTold (LeavesImage (Err e) v.name i (shape_of c.label_of-label.result) v.view) b' new) c.label_of-label.ensures.id one in
    let left = subst (λ (s : Shape). IsTold (LeavesImage (Err e) v.name c.args.id s v.view) b' new) shape_is two in
    told_on LeavesNoMore (LeavesImage (Err e) v.name c.args.id (shape_in config v) v.view) (LeavesMissing config c.args.id v (Err (Format e))) (g.B.Bay.state c.args.bay.now).told b' new
    (λ x y z told now less image.
    failed_left config c.args.id v e x y z
    (not_there g.B.Part.Disk.tells g.B.Part.Disk.state config (g.B.Bay.state c.args.bay.now) (g.B.Bay.state c.survey_images.new.bay) c.in-Ok.survey c.in-Ok.ensures.asked c.requires.config c.args.id v at telling (g.met.B.Part.Disk.told telling) g.met.B.Part.Disk.sound c.in_default.ensures.none x told)
    less image) (c.in-Ok.ensures.back.left telling) left
