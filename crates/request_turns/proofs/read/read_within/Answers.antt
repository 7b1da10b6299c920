use Rattle.turn_lock.specs.Passes.{pass_lock}
use Rattle.std.proofs.Common.{refl}
use Rattle.request_turns.proofs.Taking.{can_be_asked}
use Rattle.request_turns.proofs.ReadNotes.{read_note, has_read}
use Rattle.request_turns.proofs.read.read_within.Goals as goal

pub read-answer-requires : goal.read-answer-requires
read-answer-requires g c = let l = pass_lock c.args.pass.now in let a = can_be_asked c.args.shared.now _ _ c.args.turn.value l l _ refl c.requires.value.keeps c.args.lbn _ c.requires.blocks in
    record { ready = a.ready; at = a.at; count = (a.some, a.few); fits = a.fits }

pub leave_read-requires-clause-value : goal.leave_read-requires-clause-value
leave_read-requires-clause-value g c =
    let v = c.requires.value in let r = c.read-answer.ensures in
    r.stands _ _ _ c.requires.client (read_note _ _ _ _ _ _ _ v.look _ c.read-answer.auto.out r.look r.down (λ h. (r.unchanged h).0)) v.keeps

pub returns : goal.returns
returns g c =
    let r = c.read-answer.ensures in let l = c.leave_read.ensures in
    has_read _ _ c.args.turn.value c.read-answer.new.self _ c.read-answer.new.out c.read-answer.result c.args.pass.now _ _ c.read-answer.auto.out c.requires.value r.look r.logged r.all r.down (λ h. (r.unchanged h).0) (λ d h. (r.cause d h).0) l.left l.broken
