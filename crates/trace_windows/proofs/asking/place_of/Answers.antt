use Rattle.std.proofs.Common.{◌≡◌, ◌+◌, false, ℕ, take, option_map, sym, ap, subst, ◌∙◌}
use Rattle.std.specs.List.{list_any}
use Rattle.msr_trace.specs.Hosts.{mark_of}
use Rattle.trace_windows.proofs.Marking.{has_mark, place_after}
use Rattle.trace_windows.proofs.asking.place_of.Goals as goal

pub returns-in_err-place-clause-value : goal.returns-in_err-place-clause-value
returns-in_err-place-clause-value c =
    let n : ℕ = c.before_mark-start.result in
    let none : list_any (has_mark (mark_of c.args.line.now.host)) (take n c.args.volumes.now) ≡ false = subst (λ (m : ℕ). list_any (has_mark m) (take n c.args.volumes.now) ≡ false) c.mark.ensures c.before_mark-start.ensures.none in
    c.from_residual.ensures ∙ sym (place_after c.args.line.now.host c.args.line.now.disk c.args.volumes.now n c.before_mark-start.ensures.within none ∙ ap (option_map (λ (k : ℕ). n + k)) (sym c.in_err-place.ensures.value))

pub returns-clause-value : goal.returns-clause-value
returns-clause-value c =
    let n : ℕ = c.before_mark-start.result in
    let none : list_any (has_mark (mark_of c.args.line.now.host)) (take n c.args.volumes.now) ≡ false = subst (λ (m : ℕ). list_any (has_mark m) (take n c.args.volumes.now) ≡ false) c.mark.ensures c.before_mark-start.ensures.none in
    sym (place_after c.args.line.now.host c.args.line.now.disk c.args.volumes.now n c.before_mark-start.ensures.within none ∙ ap (option_map (λ (k : ℕ). n + k)) (sym c.in_ok-place.ensures.value))
