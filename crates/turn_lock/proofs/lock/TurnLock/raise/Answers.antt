use Rattle.std.proofs.Common.{rules, ◌++◌, ◌∷◌, [], Some, ap, ◌∙◌, subst}
use Rattle.turn_lock.proofs.TurnSteps.{raises}
use Rattle.turn_lock.proofs.lock.TurnLock.raise.Goals as goal

pub fetch_add-requires : goal.fetch_add-requires
fetch_add-requires g c =
    let based = c.args.self.now.based in let v = c.args.seat.now.me.0 in let slot = c.requires.slot in (
      search rules,
      search rules,
      raises g.T.Object.stands c.args.self.now.table.shared.key.base.value _ _ _ _ c.requires.turn.0 slot.0 g.N.Named.operation c.requires.turn.1
          slot.1 (c.requires.based ∙ ap Some based)
          (subst (λ (z : g.row.T-Base.Denot). g.T.Object.stands slot.0 z (v.seen ++ (v.number, g.N.Named.operation) ∷ [])) based (c.requires.value slot.0 slot.1)),
    )
