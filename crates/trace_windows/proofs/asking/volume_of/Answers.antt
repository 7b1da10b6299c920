use Rattle.std.proofs.Common.{sym, ◌∙◌}
use Rattle.std.specs.Prelude.{◌&&◌, ◌==◌}
use Rattle.std.specs.Str.{bytes_eq}
use Rattle.trace_gen.specs.Generated.{target_of}
use Rattle.wol_model.specs.Trace.{Target}
use Rattle.wol_config.proofs.Names.{position-map}
use Rattle.trace_windows.proofs.asking.volume_of.Goals as goal

pub returns-clause-value : goal.returns-clause-value
returns-clause-value c =
    c.place_of.ensures.value ∙ sym (position-map (λ (t : Target). bytes_eq t.host c.args.line.now.host && t.disk == c.args.line.now.disk) target_of c.args.volumes.now)
