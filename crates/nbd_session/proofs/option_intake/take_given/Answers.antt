use Rattle.std.proofs.Common.{rules}
use Rattle.wol_disk.specs.declared.disk.Failed.{Failed}
use Rattle.nbd_session.proofs.Takings.{too_long}
use Rattle.nbd_session.proofs.option_intake.take_given.Goals as goal

pub returns-then-length-gt-MOST_BYTES-clause-content : goal.returns-then-length-gt-MOST_BYTES-clause-content
returns-then-length-gt-MOST_BYTES-clause-content g c =
    too_long Failed c.args.head.now c.args.room.now (g.S.Source.left c.args.input.now) c.read_u32-length.result c.requires.head c.requires.magic (search rules) c.if-length-gt-MOST_BYTES.true
