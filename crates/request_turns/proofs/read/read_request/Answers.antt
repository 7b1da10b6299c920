use Rattle.std.proofs.Common.{rules, ◌≡◌, ◌∙◌, ℕ, List, length, sym, subst}
use Rattle.wol_disk.specs.Disk.{Block}
use Rattle.request_turns.specs.Tried.{HasReplied}
use Rattle.request_turns.proofs.Payloads.{kept_length}
use Rattle.request_turns.proofs.read.read_request.Goals as goal

pub invariant_of-payload : goal.invariant_of-payload
invariant_of-payload g c = (kept_length c.payload.inside.blocks _ 128 c.payload.invariant.0, c.payload.invariant.1)

pub returns : goal.returns
returns g c = let r = c.read-answer.ensures in let out = c.read-answer.new.out in let rq = c.args.request.now in let a = c.read-answer.result in let m = c.args.m.now in let n = c.read-answer.new.self in
    let counted : length out ≡ rq.count = search rules in
    subst (λ (bs : List Block). HasReplied g.D.Disk.tells g.D.Disk.state rq.lbn rq.count a c.outcome_of.result bs m n) (sym c.reply_of.ensures)
    (subst (λ (k : ℕ). HasReplied g.D.Disk.tells g.D.Disk.state rq.lbn k a c.outcome_of.result out m n) (sym c.read-answer.auto.out ∙ counted) (record {
      long = c.read-answer.auto.out;
      outcome_is = c.outcome_of.ensures;
      stands = r.stands;
      look = r.look;
      logged = r.logged;
      all = r.all;
      down = r.down;
      unchanged = λ h. (r.unchanged h).0;
      failed = λ d h. (r.cause d h).0;
    }))
