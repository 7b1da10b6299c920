-- One volume more was looked at.
use Rattle.std.proofs.Common.{◌≡◌, ◌<◌, ℕ, true, false, not, ◌&&◌, eqb, List, [], ◌∷◌, ◌++◌, length, sym, ap, subst, ◌∙◌, length-append, arith}
use Rattle.std.specs.List.{AllByRecursion}
use Rattle.wol_promise.proofs.Lists.{all_push}
use Rattle.whatif.specs.Policies.{allows}
use Rattle.whatif.proofs.New.{filtered_no, filtered_yes}
use Rattle.whatif.proofs.views.others_of.Goals.{then-logs_for+in_ok-push, else-logs_for}
use Rattle.whatif.proofs.views.others_of.Goals as goal

pub loop-logger-preserved : goal.loop-logger-preserved
loop-logger-preserved c =
    let i = c.loop-logger.invariant in let k = c.loop-logger.logger in
    let test = λ (w : ℕ). not (eqb c.args.volume w) && allows c.args.policy c.args.volumes.now c.args.volume w in
    elim c.if-logs_for.branch [
      | then-logs_for+in_ok-push w ↦ rw w.loggers-is (
          let items : w.push.new.self.items ≡ c.loop-logger.loggers.items ++ k ∷ [] = w.in_ok-push.ensures.items in
          let yes : test k ≡ true = sym c.logs_for.ensures ∙ w.if-logs_for.true in record {
            loggers = items ∙ ap (λ (l : List ℕ). l ++ k ∷ []) i.loggers ∙ sym (filtered_yes test k yes);
            within = subst (AllByRecursion (λ d. d < length c.args.volumes.now)) (sym items) (all_push (λ d. d < length c.args.volumes.now) c.loop-logger.loggers.items k i.within c.loop-logger-test.true);
            few = (let few = i.few in let long = ap length items in omega (arith, few, long, length-append c.loop-logger.loggers.items (k ∷ [])));
          })
      | else-logs_for w ↦ rw w.loggers-is (
          let no : test k ≡ false = sym c.logs_for.ensures ∙ w.if-logs_for.false in record {
            loggers = i.loggers ∙ sym (filtered_no test k no);
            within = i.within;
            few = (let few = i.few in omega (arith, few));
          })
    ]
