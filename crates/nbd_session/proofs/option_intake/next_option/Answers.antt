use Rattle.std.proofs.Common.{◌≡◌, length, arith, rules}
use Rattle.wol_disk.specs.declared.disk.Failed.{Failed}
use Rattle.nbd_session.specs.Options.{HasMagic}
use Rattle.nbd_session.proofs.Takings.{given_option, whole_room}
use Rattle.nbd_session.proofs.option_intake.next_option.Goals as goal

pub returns-clause-content : goal.returns-clause-content
returns-clause-content g c =
    let head = c.fill_room.new.room in
    let size : length head ≡ 16 = omega (arith, c.fill_room.auto.room) in
    let whole = whole_room head 16 c.in_ok-count.count size (omega (arith, c.in_ok-count.ensures.content.0)) c.if-count-lt-HEAD_BYTES.false in
    let magic : HasMagic head = search rules in
    given_option Failed head c.take_given.new.room (g.S.Source.left c.args.input.now) (g.S.Source.left c.fill_room.new.input) (g.S.Source.left c.take_given.new.input) size magic (rw whole at c.in_ok-count.ensures.content.1) (omega (arith, c.take_given.auto.room, c.requires))
    c.take_given.result c.take_given.ensures.content
