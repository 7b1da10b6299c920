use Rattle.request_turns.proofs.drain.drain_anew.Goals as goal

pub returns : goal.returns
returns g c = let r = c.drain-answer.ensures in
    record { drained_ = r.drained; refused = r.refused; down = r.down; none = c.new-done.result; fresh = c.new-done.ensures; taken = r.taken; keeps = r.keeps; broke = r.broke }
