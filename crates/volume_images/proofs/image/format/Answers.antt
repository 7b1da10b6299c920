use Rattle.std.proofs.Common.{◌≡◌, ◌+◌, [], length, get_or, sym, ap, ◌∙◌, subst, Ok, Err, arith}
use Rattle.std.proofs.lemmas.Result.{err_from_is_err_and}
use Rattle.wol_bay.specs.Bay.{IsHome}
use Rattle.wol_config.specs.declared.config.VolumeConf.{VolumeConf}
use Rattle.volume_images.specs.Left.{CameBack, LeavesImage, settled_image}
use Rattle.volume_images.specs.Formatted.{formatted}
use Rattle.wol_model.specs.Images.{Images, AreSound, recovered_from}
use Rattle.volume_images.specs.Volumes.{shape_in, shapes_of}
use Rattle.volume_images.specs.Formats.{FormatsFirst, LeavesImages, LosesNone, LeavesSound, LeavesZeros}
use Rattle.volume_images.proofs.InOrder.{home_kept, told_then, told_weaker, formats_more, ends_with, loses_none}
use Rattle.volume_images.proofs.SoundImages.{one_choice, are_sound, are_zeros}
use Rattle.volume_images.proofs.image.format.Goals as goal

pub format_image-requires-clause-home : goal.format_image-requires-clause-home
format_image-requires-clause-home g c =
    let vs = c.args.config.now.volumes.items in
    let v = c.volume-item.result in
    let is : v ≡ get_or vs c.loop-id.id v = rw c.deref-volume-items.ensures.value at c.volume-item.is in
    home_kept v.name (g.B.Bay.state c.args.bay.now) (g.B.Bay.state c.loop-id.bay) c.loop-id.invariant.home
    (subst (λ (w : VolumeConf). IsHome w.name (g.B.Bay.state c.args.bay.now)) (sym is) (c.requires.home c.loop-id.id v (omega arith)))

pub loop-id-preserved : goal.loop-id-preserved
loop-id-preserved g c =
    let config = c.args.config.now in
    let vs = config.volumes.items in
    let v = c.volume-item.result in
    let i = c.loop-id.id in
    let is : v ≡ get_or vs i v = rw c.deref-volume-items.ensures.value at c.volume-item.is in
    record {
      home = c.format_image.ensures.home ∙ c.loop-id.invariant.home;
      left = told_then (FormatsFirst config i) (CameBack v.name (settled_image (formatted i (shape_in config v) v.view)) []) (FormatsFirst config (i + 1))
          (g.B.Bay.state c.args.bay.now).told (g.B.Bay.state c.loop-id.bay).told (g.B.Bay.state c.format_image.new.bay).told
          (λ x y z first back. formats_more config c.requires.config i v x y z (omega arith) is first back)
          c.loop-id.invariant.left c.in_ok-format_image.ensures.left;
      calm = c.in_ok-format_image.ensures.calm (λ n p e. cc e) ∙ c.loop-id.invariant.calm;
    }

pub returns-in_err-format_image-clause-left : goal.returns-in_err-format_image-clause-left
returns-in_err-format_image-clause-left g c =
    let config = c.args.config.now in
    let vs = config.volumes.items in
    let v = c.volume-item.result in
    let i = c.loop-id.id in
    let is : v ≡ get_or vs i v = rw c.deref-volume-items.ensures.value at c.volume-item.is in
    let p = err_from_is_err_and c.from_residual.result c.from_residual.ensures.1 in
    let e = c.in_err-format_image.field-0.0 in
    let answer : c.from_residual.result ≡ Err e = p.1 ∙ ap Err p.2 in
    rw answer (told_then (FormatsFirst config i) (LeavesImage (Err e) v.name i (shape_in config v) v.view) (LeavesImages config (Err e))
    (g.B.Bay.state c.args.bay.now).told (g.B.Bay.state c.loop-id.bay).told (g.B.Bay.state c.format_image.new.bay).told
    (λ x y z first left. ends_with config c.requires.config e i v x y z (omega arith) is (λ n q same. c.in_err-format_image.ensures.volume n q (ap Err same)) first left)
    c.loop-id.invariant.left c.in_err-format_image.ensures.left)

pub returns-in_err-format_image-clause-any_exit : goal.returns-in_err-format_image-clause-any_exit
returns-in_err-format_image-clause-any_exit g c =
    told_weaker (LeavesImages c.args.config.now c.from_residual.result) (LosesNone c.args.config.now) (g.B.Bay.state c.args.bay.now).told (g.B.Bay.state c.format_image.new.bay).told
    (λ x y left. loses_none c.args.config.now c.requires.config c.from_residual.result x y left) (returns-in_err-format_image-clause-left g c)

pub returns-clause-any_exit : goal.returns-clause-any_exit
returns-clause-any_exit g c =
    let config = c.args.config.now in
    let e : c.loop-id.id ≡ length config.volumes.items = omega arith in
    told_weaker (FormatsFirst config c.loop-id.id) (LosesNone config) (g.B.Bay.state c.args.bay.now).told (g.B.Bay.state c.loop-id.bay).told
    (λ x y first. loses_none config c.requires.config (Ok tt) x y (subst (λ n. FormatsFirst config n x y) e first)) c.loop-id.invariant.left

pub returns-clause-sound : goal.returns-clause-sound
returns-clause-sound g c =
    let config = c.args.config.now in
    let e : c.loop-id.id ≡ length config.volumes.items = omega arith in
    told_weaker (FormatsFirst config c.loop-id.id) (LeavesSound config) (g.B.Bay.state c.args.bay.now).told (g.B.Bay.state c.loop-id.bay).told
    (λ x y first. λ images left.
    subst (λ (l : Images). AreSound (shapes_of config) l) (sym (one_choice config x y images (subst (λ n. FormatsFirst config n x y) e first) left)) (are_sound config c.requires.config)) c.loop-id.invariant.left

pub returns-clause-zeros : goal.returns-clause-zeros
returns-clause-zeros g c =
    let config = c.args.config.now in
    let e : c.loop-id.id ≡ length config.volumes.items = omega arith in
    told_weaker (FormatsFirst config c.loop-id.id) (LeavesZeros config) (g.B.Bay.state c.args.bay.now).told (g.B.Bay.state c.loop-id.bay).told
    (λ x y first. λ images left v s at.
    ap (λ (l : Images). recovered_from (shapes_of config) l v) (one_choice config x y images (subst (λ n. FormatsFirst config n x y) e first) left) ∙ are_zeros config c.requires.config v s at) c.loop-id.invariant.left
