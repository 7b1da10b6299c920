use Rattle.std.proofs.Common.{◌≡◌, ◌∙◌, ◌++◌, inl, [], Option, Some, option_map, sym, ap}
use Rattle.std.specs.Prelude.{slice_get, unwrap_or}
use Rattle.std.proofs.lemmas.Option.{slice_get-get_or}
use Rattle.wol_config.specs.declared.config.VolumeConf.{VolumeConf}
use Rattle.wol_model.specs.Images.{image_size}
use Rattle.volume_images.specs.Volumes.{shape_in}
use Rattle.report.specs.Summaries.{format_text}
use Rattle.wol_run.specs.Adding.{made_line}
use Rattle.wol_run.proofs.adding.tell_made.Goals as goal

pub returns-in-Ok-clause-content : goal.returns-in-Ok-clause-content
returns-in-Ok-clause-content g c =
    let config = c.args.config.now in
    let items = config.volumes.items in
    let v : VolumeConf = c.index-volume.result.now in
    let at : slice_get items c.args.id ≡ Some v = slice_get-get_or items c.args.id v c.requires.within ∙ ap (λ (w : VolumeConf). Some w) (sym c.index-volume.ensures) in
    let line : made_line config c.args.id ≡ format_text v.name (image_size (shape_in config v)) =
    ap (λ (o : Option VolumeConf). unwrap_or (option_map (λ (w : VolumeConf). format_text w.name (image_size (shape_in config w))) o) []) at in
    inl (rw (c.deref.ensures.value ∙ c.in-Ok.ensures.ok ∙ ap (λ l. l ++ format_text v.name c.image_size.result) c.new-line.ensures.items, c.image_size.ensures, sym line) at c.end_with.ensures.content)
