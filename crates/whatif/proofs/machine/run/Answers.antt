-- A window is run.
use Rattle.std.proofs.Common.{◌+◌, ℕ, Bool, List, cond, length, map, sym, subst}
use Rattle.wol_model.specs.Journal.{SpindleState, Began, used}
use Rattle.whatif.specs.Disks.{AreDisks}
use Rattle.whatif.specs.Waits.{AreFewIn}
use Rattle.whatif.specs.Policies.{machine_after, setting_of, waits_by}
use Rattle.whatif.specs.Machine.{begun}
use Rattle.whatif.proofs.Turning.{begun_stands, window_stands}
use Rattle.whatif.proofs.Waited.{waits_more}
use Rattle.whatif.proofs.machine.run.Goals as goal

pub serve_all-requires-clause-tallies : goal.serve_all-requires-clause-tallies
serve_all-requires-clause-tallies c = subst (λ (n : ℕ). AreFewIn n c.args.asked c.args.tallies.now) (sym c.show_disks.auto.volumes) c.requires.tallies

pub returns-clause-tallies : goal.returns-clause-tallies
returns-clause-tallies c = subst (λ (n : ℕ). AreFewIn n (c.args.asked + length c.args.asks.now) c.serve_all.new.tallies) c.show_disks.auto.volumes c.in_ok-serve_all.ensures.tallies

pub returns-clause-run : goal.returns-clause-run
returns-clause-run c = λ p c' from ws rules was.
    let at = c.args.at in let r = c.args.rules.now in
    let began = λ (ss : List SpindleState) (are : AreDisks c.args.disks.now ss).
    subst (λ (b : Bool). AreDisks c.begin_if.new.disks (cond b (map (λ d. used c'.timeout d 0 (Began at)) ss) ss)) rules.sleeps
    (subst (λ (t : ℕ). AreDisks c.begin_if.new.disks (cond r.sleeps (map (λ d. used t d 0 (Began at)) ss) ss)) rules.timeout (c.begin_if.ensures.began ss are)) in
    window_stands p c' from ws at c.args.asks.now c.args.volumes.now c.show_disks.new.volumes c.serve_all.new.volumes c.reclaim_all.new.volumes c.args.disks.now c.begin_if.new.disks c.serve_all.new.disks c.reclaim_all.new.disks r.timeout rules.timeout
    (begun_stands (setting_of p c') at c.args.volumes.now c.show_disks.new.volumes c.args.disks.now c.begin_if.new.disks (machine_after p c' from ws) was began (λ ss are. c.show_disks.ensures.seen ss are))
    c.show_disks.auto.volumes c.serve_all.auto.volumes was (c.in_ok-serve_all.ensures.turns) c.reclaim_all.ensures.turns

pub returns-clause-waits : goal.returns-clause-waits
returns-clause-waits c = λ p c' from ws rules was told.
    let at = c.args.at in let r = c.args.rules.now in
    let began = λ (ss : List SpindleState) (are : AreDisks c.args.disks.now ss).
    subst (λ (b : Bool). AreDisks c.begin_if.new.disks (cond b (map (λ d. used c'.timeout d 0 (Began at)) ss) ss)) rules.sleeps
    (subst (λ (t : ℕ). AreDisks c.begin_if.new.disks (cond r.sleeps (map (λ d. used t d 0 (Began at)) ss) ss)) rules.timeout (c.begin_if.ensures.began ss are)) in
    waits_more p c' from ws (record { moment = at; asks = c.args.asks.now }) r.wake c.args.tallies.now c.serve_all.new.tallies rules.wake told
    (λ are. c.in_ok-serve_all.ensures.waits c'.timeout (begun (setting_of p c') at (machine_after p c' from ws)) (waits_by p c' from ws)
    (begun_stands (setting_of p c') at c.args.volumes.now c.show_disks.new.volumes c.args.disks.now c.begin_if.new.disks (machine_after p c' from ws) was began (λ ss are. c.show_disks.ensures.seen ss are)) are)
