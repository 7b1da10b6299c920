use Rattle.std.proofs.Common.{◌∷◌, Some, ap, ◌∙◌, sym}
use Rattle.atomic_table.specs.Table.{rest}
use Rattle.turn_lock.proofs.lock.TurnLock.take_value.Goals as goal

pub exchange-requires : goal.exchange-requires
exchange-requires g c = let s = c.requires.slot in (c.requires.own, (Some s.0, s.1 ∙ ap (λ r. (0, Some s.0) ∷ rest r) (sym s.1)))
