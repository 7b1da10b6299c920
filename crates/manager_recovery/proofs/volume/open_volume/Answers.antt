use Rattle.manager_recovery.proofs.volume.open_volume.Goals as goal

pub returns-in-Ok-clause-ok : goal.returns-in-Ok-clause-ok
returns-in-Ok-clause-ok g c = c.manager_of.ensures.opens c.args.opening c.in-Ok.ensures.ok c.recover.ensures.parts

pub returns-in-Ok-clause-calm : goal.returns-in-Ok-clause-calm
returns-in-Ok-clause-calm g c = c.manager_of.ensures.calm c.args.opening c.requires.ready c.in-Ok.ensures.ok
