use Rattle.std.specs.Prelude.{vec_len}
use Rattle.request_workers.proofs.hands.+serve_shared.Given as goal

abbrev pub decreases-serve_shared : goal.decreases-serve_shared
decreases-serve_shared g l = vec_len l.crew.now.seats
