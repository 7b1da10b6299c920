use Rattle.trace_gen.proofs.Found.{lines_have_volumes}
use Rattle.trace_gen.proofs.Kept.{times_are_kept, times_rise}
use Rattle.trace_gen.proofs.ReadAgain.{text_is_read}
use Rattle.trace_gen.proofs.Written.{lines_are_writable, lines_ask_blocks}
use Rattle.trace_gen.proofs.laws.generated_laws.Goals as goal

pub returns : goal.returns
returns c = record {
  writable = lines_are_writable;
  read = text_is_read;
  volumes = lines_have_volumes;
  blocks = lines_ask_blocks;
  rise = times_rise;
  kept = times_are_kept;
}
