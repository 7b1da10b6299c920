use Rattle.std.proofs.Common.{◌≡◌, ◌≤◌, ◌+◌, ◌-◌, ◌∙◌, ◌++◌, ℕ, List, ap, subst, rules, arith}
use Rattle.manager.specs.declared.station.Station.{Station}
use Rattle.inspection.specs.Findings.{HasFoundMore}
use Rattle.inspection.specs.declared.beside.Finding.{Finding}
use Rattle.inspection.proofs.Ahead.{has_more, run_ahead}
use Rattle.inspection.proofs.beside.find_through.Goals as goal

pub find_parts-requires-clause-ahead : goal.find_parts-requires-clause-ahead
find_parts-requires-clause-ahead g c κs inside =
    let s1 = c.split_at_mut-ahead in let s2 = c.split_at_mut-run in let f1 = c.split_at_mut-ahead_findings in let f2 = c.split_at_mut-run_findings in
    let vs = s1.ensures.value ∙ ap (λ (x : List (Station g.row.D.Denot)). s1.result.0.now ++ x) s2.ensures.value in
    let vf = f1.ensures.value ∙ ap (λ (x : List Finding). f1.result.0.now ++ x) f2.ensures.value in
    run_ahead g.D.Disk.tells g.D.Disk.state c.args.config.now c.requires.going.before s1.result.0.now s2.result.0.now s2.result.1.now f1.result.0.now f2.result.0.now f2.result.1.now c.args.found (c.min-until.result - c.args.found)
    s1.ensures.front_len s2.ensures.front_len f1.ensures.front_len f2.ensures.front_len (rw (vs, vf) at c.requires.going.going) c.args.shared.now (rw vs at c.requires.going.stations)

pub returns-clause-found : goal.returns-clause-found
returns-clause-found g c =
    let s1 = c.split_at_mut-ahead in let s2 = c.split_at_mut-run in let f1 = c.split_at_mut-ahead_findings in let f2 = c.split_at_mut-run_findings in
    let vs = s1.ensures.value ∙ ap (λ (x : List (Station g.row.D.Denot)). s1.result.0.now ++ x) s2.ensures.value in
    let vf = f1.ensures.value ∙ ap (λ (x : List Finding). f1.result.0.now ++ x) f2.ensures.value in
    let until = c.min-until.result in
    let past : c.args.found ≤ until = search rules in
    let ends : c.args.found + (until - c.args.found) ≡ until = omega (arith, past) in
    rw (vs, vf) (subst (λ (n : ℕ). HasFoundMore g.D.Disk.tells g.D.Disk.state c.args.config.now (s1.result.0.now ++ (s2.result.0.now ++ s2.result.1.now)) (s1.result.0.now ++ (c.find_parts.new.stations ++ s2.result.1.now)) (f1.result.0.now ++ (f2.result.0.now ++ f2.result.1.now)) (f1.result.0.now ++ (c.find_parts.new.findings ++ f2.result.1.now)) c.args.found n) ends
    (has_more g.D.Disk.tells g.D.Disk.state c.args.config.now c.requires.going.before s1.result.0.now s2.result.0.now s2.result.1.now f1.result.0.now f2.result.0.now f2.result.1.now c.args.found (until - c.args.found)
    s1.ensures.front_len s2.ensures.front_len f1.ensures.front_len f2.ensures.front_len (rw (vs, vf) at c.requires.going.going) c.find_parts.new.stations c.find_parts.new.findings
    (c.find_parts.auto.stations ∙ s2.ensures.front_len) (c.find_parts.auto.findings ∙ f2.ensures.front_len) c.find_parts.ensures))
