use Rattle.request_turns.proofs.group.try_some.Goals as goal

pub returns : goal.returns
returns g c = let r = c.write_some.ensures in record { run = r.run; placed = r.placed; down = r.down; versions = r.versions; fault = r.fault; unchanged = r.unchanged }
