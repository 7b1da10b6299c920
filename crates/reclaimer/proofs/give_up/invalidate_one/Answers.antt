-- A step in which blocks are given up, or none may go.
use Rattle.std.proofs.Common.{◌≡◌, Bool, true, false, rules, refl, sym, subst, ◌∙◌}
use Rattle.redirect_map.specs.Index.{Contents, IsIndex}
use Rattle.manager.proofs.Calm.{none_home}
use Rattle.manager.specs.Reclaim.{Always}
use Rattle.manager.specs.Seen.{look_of_manager}
use Rattle.manager.proofs.ReadThrough.{never_some}
use Rattle.reclaimer.proofs.CountedGone.{whole_counts, part_counts, less_left, fails_counts}
use Rattle.reclaimer.proofs.GiveUp.{Going, going_of, goes_of, there_of, given_whole, given_part, given_fails, reclaims}
use Rattle.reclaimer.proofs.Moments.{within, at_rest, tried_within}
use Rattle.reclaimer.proofs.Reach.{within_own}
use Rattle.reclaimer.proofs.TakenOff.{nothing_taken}
use Rattle.reclaimer.proofs.give_up.invalidate_one.Given as given
use Rattle.reclaimer.proofs.give_up.invalidate_one.Goals.{In-Some-going}
use Rattle.reclaimer.proofs.give_up.invalidate_one.Goals as goal

-- the record that is next
next : (g : given.Over) (c : In-Some-going g) → Going c.args.m.now c.in-Some-going.record
next g c = going_of c.args.m.now c.in-Some-going.record c.index.result.now c.ups.result.now c.index.ensures c.ups.ensures c.in-Some-going.ensures.index c.in-Some-going.ensures.answer

sound : (g : given.Over) (c : In-Some-going g) → IsIndex c.args.m.now.index.entries
sound g c = subst (λ (i : Contents). IsIndex i.entries) c.index.ensures c.in-Some-going.ensures.index

pub returns-in-Some-clause-any_moment : goal.returns-in-Some-clause-any_moment
returns-in-Some-clause-any_moment g c told = at_rest g.D.Disk.tells g.D.Disk.state g.met.D.Disk.sound Always told c.args.m.now

pub going-requires : goal.going-requires
going-requires g c = within_own g.D.Disk.state c.args.m.now c.requires.ready (sym c.down.ensures ∙ never_some c.down.result c.in_default.not-Some) c.index.result.now c.index.ensures c.ups.result.now c.ups.ensures

pub returns-in_default-going-clause-any_moment : goal.returns-in_default-going-clause-any_moment
returns-in_default-going-clause-any_moment g c told = at_rest g.D.Disk.tells g.D.Disk.state g.met.D.Disk.sound Always told c.args.m.now

pub drop_rec-requires-clause-there : goal.drop_rec-requires-clause-there
drop_rec-requires-clause-there g c = there_of (next g (goal.at.drop_rec-requires-clause-there g c).In-Some-going)

pub drop_rec-requires-clause-goes : goal.drop_rec-requires-clause-goes
drop_rec-requires-clause-goes g c = goes_of c.args.m.now c.in-Some-going.record (next g (goal.at.drop_rec-requires-clause-goes g c).In-Some-going)

pub returns-in-Ok-true-clause-gone : goal.returns-in-Ok-true-clause-gone
returns-in-Ok-true-clause-gone g c =
    let e = c.in-Ok-true.ensures in let is : c.in-Ok-true.field-0 ≡ true = search rules in
    given_whole g.D.Disk.state c.args.m.now c.drop_rec.new.self _ (next g (goal.at.returns-in-Ok-true-clause-gone g c).In-Some-going) _ refl e.dropped (sym is ∙ e.gone)

pub returns-in-Ok-true-clause-look : goal.returns-in-Ok-true-clause-look
returns-in-Ok-true-clause-look g c =
    let e = c.in-Ok-true.ensures in
    reclaims g.D.Disk.state c.args.m.now c.drop_rec.new.self _ (next g (goal.at.returns-in-Ok-true-clause-look g c).In-Some-going) _ refl e.dropped (e.fault.1 ∙ sym e.fault.0)

pub returns-in-Ok-true-clause-any_moment : goal.returns-in-Ok-true-clause-any_moment
returns-in-Ok-true-clause-any_moment g c told = within g.D.Disk.tells g.D.Disk.state g.met.D.Disk.sound Always c.args.m.now c.drop_rec.new.self (c.in-Ok-true.ensures.any_moment told)

pub returns-in-Ok-false-clause-gone : goal.returns-in-Ok-false-clause-gone
returns-in-Ok-false-clause-gone g c =
    let e = c.in-Ok-false.ensures in let is : c.in-Ok-false.field-0 ≡ false = search rules in
    given_part g.D.Disk.state c.args.m.now c.drop_rec.new.self _ (next g (goal.at.returns-in-Ok-false-clause-gone g c).In-Some-going) _ refl e.dropped (sym is ∙ e.gone)

pub returns-in-Ok-false-clause-look : goal.returns-in-Ok-false-clause-look
returns-in-Ok-false-clause-look g c =
    let e = c.in-Ok-false.ensures in
    reclaims g.D.Disk.state c.args.m.now c.drop_rec.new.self _ (next g (goal.at.returns-in-Ok-false-clause-look g c).In-Some-going) _ refl e.dropped (e.fault.1 ∙ sym e.fault.0)

pub returns-in-Ok-false-clause-any_moment : goal.returns-in-Ok-false-clause-any_moment
returns-in-Ok-false-clause-any_moment g c told = within g.D.Disk.tells g.D.Disk.state g.met.D.Disk.sound Always c.args.m.now c.drop_rec.new.self (c.in-Ok-false.ensures.any_moment told)

pub returns-in-Err-clause-gone : goal.returns-in-Err-clause-gone
returns-in-Err-clause-gone g c =
    let e = c.in-Err.ensures in
    given_fails g.D.Disk.state c.args.m.now c.drop_rec.new.self _ (next g (goal.at.returns-in-Err-clause-gone g c).In-Some-going) c.in-Err.fault e.fault e.dropped

pub returns-in-Err-clause-any_moment : goal.returns-in-Err-clause-any_moment
returns-in-Err-clause-any_moment g c told =
    tried_within g.D.Disk.tells g.D.Disk.state g.met.D.Disk.sound Always Bool told c.args.m.now c.drop_rec.new.self c.in-Err.fault c.in-Err.ensures.fault c.in-Err.ensures.any_moment

pub returns-in-Some-clause-counted : goal.returns-in-Some-clause-counted
returns-in-Some-clause-counted g c = nothing_taken (look_of_manager c.args.m.now) (look_of_manager c.args.m.now) refl

pub returns-in_default-going-clause-counted : goal.returns-in_default-going-clause-counted
returns-in_default-going-clause-counted g c = nothing_taken (look_of_manager c.args.m.now) (look_of_manager c.args.m.now) refl

pub returns-in-Ok-true-clause-counted : goal.returns-in-Ok-true-clause-counted
returns-in-Ok-true-clause-counted g c =
    let s = (goal.at.returns-in-Ok-true-clause-counted g c).In-Some-going in let e = c.in-Ok-true.ensures in let is : c.in-Ok-true.field-0 ≡ true = search rules in
    whole_counts g.D.Disk.state c.args.m.now c.drop_rec.new.self _ (next g s) (sound g s) _ refl e.dropped (sym is ∙ e.gone)

pub returns-in-Ok-true-clause-lowers : goal.returns-in-Ok-true-clause-lowers
returns-in-Ok-true-clause-lowers g c =
    let s = (goal.at.returns-in-Ok-true-clause-lowers g c).In-Some-going in
    less_left g.D.Disk.state c.args.m.now c.drop_rec.new.self _ (next g s) (sound g s) _ refl c.in-Ok-true.ensures.dropped

pub returns-in-Ok-false-clause-counted : goal.returns-in-Ok-false-clause-counted
returns-in-Ok-false-clause-counted g c =
    let s = (goal.at.returns-in-Ok-false-clause-counted g c).In-Some-going in let e = c.in-Ok-false.ensures in let is : c.in-Ok-false.field-0 ≡ false = search rules in
    part_counts g.D.Disk.state c.args.m.now c.drop_rec.new.self _ (next g s) (sound g s) _ refl e.dropped (sym is ∙ e.gone)

pub returns-in-Ok-false-clause-lowers : goal.returns-in-Ok-false-clause-lowers
returns-in-Ok-false-clause-lowers g c =
    let s = (goal.at.returns-in-Ok-false-clause-lowers g c).In-Some-going in
    less_left g.D.Disk.state c.args.m.now c.drop_rec.new.self _ (next g s) (sound g s) _ refl c.in-Ok-false.ensures.dropped

pub returns-in-Err-clause-counted : goal.returns-in-Err-clause-counted
returns-in-Err-clause-counted g c =
    let e = c.in-Err.ensures in
    fails_counts g.D.Disk.state c.args.m.now c.drop_rec.new.self _ (next g (goal.at.returns-in-Err-clause-counted g c).In-Some-going) c.in-Err.fault e.fault e.dropped

pub returns-in_default-going-clause-calm : goal.returns-in_default-going-clause-calm
returns-in_default-going-clause-calm g c = none_home g.D.Disk.state c.args.m.now c.args.m.now c.requires.ready refl refl
