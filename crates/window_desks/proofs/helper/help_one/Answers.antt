use Rattle.std.proofs.Common.{inl, inr, ⊎_elim}
use Rattle.window_desks.proofs.Counted.{helped_counted}
use Rattle.window_desks.proofs.HelpTurn.{kept_helped, on_ok, refused_before, helped_both, down_helped, cause_of}
use Rattle.window_desks.proofs.helper.help_one.Goals as goal

pub returns-clause-helped : goal.returns-clause-helped
returns-clause-helped g c = helped_both _ _ _ _ (helped_both _ _ _ _ c.fetch_turn-fetched.ensures.helped c.put_turn-put.ensures.helped) c.drop_turn-dropped.ensures.helped

pub returns-clause-fault : goal.returns-clause-fault
returns-clause-fault g c f some =
    let put = c.put_turn-put.ensures in let dropped = c.drop_turn-dropped.ensures in
    ⊎_elim
    (λ third. ⊎_elim
    (λ second. ⊎_elim inl (λ t. inr (t.0, down_helped _ _ _ _ dropped.helped (down_helped _ _ _ _ put.helped (cause_of _ c.fetch_turn-fetched.result f.1 c.fetch_turn-fetched.ensures.cause t.1)))) (c.took-fetched.ensures.fault f second))
    (λ t. inr (t.0, down_helped _ _ _ _ dropped.helped (cause_of _ c.put_turn-put.result f.1 put.cause t.1)))
    (c.took-put.ensures.fault f third))
    (λ t. inr (t.0, cause_of _ c.drop_turn-dropped.result f.1 dropped.cause t.1))
    (c.took-dropped.ensures.fault f some)

pub returns-clause-counted : goal.returns-clause-counted
returns-clause-counted g c =
    let f = c.fetch_turn-fetched.ensures in let put = c.put_turn-put.ensures in let dropped = c.drop_turn-dropped.ensures in
    rw c.took-dropped.ensures.tally
    (helped_counted _ _ _ _ _ _ _ (helped_both _ _ _ _ f.helped put.helped) dropped.helped
    (helped_counted _ _ _ _ _ _ _ f.helped put.helped (f.counted c.args.help.now.tally) (rw c.took-fetched.ensures.tally at put.counted))
    (rw c.took-put.ensures.tally at dropped.counted))

pub returns-clause-all_kept : goal.returns-clause-all_kept
returns-clause-all_kept g c none =
    let f = c.fetch_turn-fetched.ensures in let put = c.put_turn-put.ensures in let dropped = c.drop_turn-dropped.ensures in
    let second = refused_before _ _ c.took-dropped.ensures.kept none in let first = refused_before _ _ c.took-put.ensures.kept second in
    kept_helped _ _ _ _ (helped_both _ _ _ _ f.helped put.helped) dropped.helped
    (kept_helped _ _ _ _ f.helped put.helped (on_ok c.fetch_turn-fetched.result f.kept (c.took-fetched.ensures.none first)) (on_ok c.put_turn-put.result put.kept (c.took-put.ensures.none second)))
    (on_ok c.drop_turn-dropped.result dropped.kept (c.took-dropped.ensures.none none))
