use Rattle.std.proofs.Common.{◌≡◌, take}
use Rattle.std.specs.List.{flat_map}
use Rattle.wol_model.specs.Images.{image_size}
use Rattle.volume_images.specs.Volumes.{shape_in}
use Rattle.report.specs.Summaries.{format_text}
use Rattle.wol_run.proofs.formatting.lines_of.Given as goal

abbrev pub invariant-loop-volume : goal.invariant-loop-volume
invariant-loop-volume l = l.lines.items ≡ flat_map (λ v. format_text v.name (image_size (shape_in l.config v))) (take l.volume-index l.config.volumes.items)
