-- What is told of each machine.
use Rattle.comparison.proofs.Telling.{tells, tells_all, tells_four}
use Rattle.comparison.proofs.machines.Machines.tell.Goals as goal

pub returns-in_default : goal.returns-in_default
returns-in_default c =
    tells_four c.tell-in_default-3.result c.args.details c.args.config.now c.args.self c.args.to c.args.out.now.items c.tell-in_default-3.new.out.items c.in_default.is
    (tells c.tell-in_default-3.result c.args.self c.args.to c.args.out.now.items c.tell.new.out.items c.tell-in_default.new.out.items c.tell-in_default-2.new.out.items c.tell-in_default-3.new.out.items c.in_ok-tell.ensures.ok c.in_ok-tell-2.ensures.ok c.in_ok-tell-3.ensures.ok c.tell-in_default-3.ensures.ok)

pub returns : goal.returns
returns c =
    tells_all c.tell-6.result c.args.details c.args.config.now c.args.self c.in-Some.views c.args.to c.args.out.now.items c.tell-2.new.out.items c.tell-3.new.out.items c.tell-4.new.out.items c.tell-5.new.out.items c.tell-6.new.out.items c.in-Some.is
    (λ from ws run. c.in_ok-tell-4.ensures from ws run) (λ from ws run. c.in_ok-tell-5.ensures from ws run) (λ from ws run. c.in_ok-tell-6.ensures from ws run) (λ from ws run. c.in_ok-tell-7.ensures from ws run) (λ from ws run. c.tell-6.ensures from ws run)
