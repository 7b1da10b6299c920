use Rattle.std.proofs.Common.{rules, ◌≡◌, ℕ, Bool, true, false, Option, Ok, refl, subst, arith}
use Rattle.manager.specs.Seen.{look_of_manager}
use Rattle.reclaimer.specs.Wholes.{CountsGroup, HasGivenGroup, LowersGroup}
use Rattle.request_turns.proofs.Reclaiming.{nothing_yet, refused, gives_more, gave_group}
use Rattle.request_turns.proofs.StepNotes.{on_failed}
use Rattle.request_turns.proofs.reclaim.give_up.Goals as goal

pub steps-init : goal.steps-init
steps-init g c = record {
  reclaims = nothing_yet _ _ _ c.args.tally.now c.args.m.now c.requires.ready c.requires.at;
  same = λ _. refl;
  no_more = omega arith;
  fewer = λ is. absurd (let no : false ≡ true = is in cc);
}

pub steps-preserved : goal.steps-preserved
steps-preserved g c =
    let e = c.in_ok-records.ensures in let i = c.steps.invariant in let m = c.steps.m in let n = c.give_up_group.new.m in
    gives_more _ _ _ _ _ _ _ _ _ _ i
    (gave_group _ _ _ m n c.in-Some.records _ _ e.ready e.at e.look (subst (λ (x : Option ℕ). CountsGroup (Ok x) (look_of_manager m) (look_of_manager n)) c.in-Some.is e.counted) e.keeps c.count.ensures
    (subst (λ (x : Option ℕ). HasGivenGroup (Ok x) m n) c.in-Some.is e.given))
    (subst (λ (x : Option ℕ). LowersGroup (Ok x) m n) c.in-Some.is e.lowers)

pub returns-in_err-records-clause-reclaims : goal.returns-in_err-records-clause-reclaims
returns-in_err-records-clause-reclaims g c = let i = c.steps.invariant in let r = c.in_err-records.ensures in let f = c.in_err-records.field-0.0 in
    let so = refused _ _ _ _ _ _ _ i.reclaims c.give_up_group.new.m (Option ℕ) {U = Bool} f r.ready r.at r.fault (on_failed (Option ℕ) Bool f _ _ (λ then b notes n w note k. then b notes n tt note (i.reclaims.keeps b notes tt k)) r.broke) in
    search rules
