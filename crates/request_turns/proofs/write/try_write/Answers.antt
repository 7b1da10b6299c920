use Rattle.request_turns.proofs.write.try_write.Goals as goal

pub returns : goal.returns
returns g c = let r = c.write.ensures in record { stands = r.stands; placed = r.placed; look = r.look; down = r.down; versions = r.versions; fault = r.fault }
