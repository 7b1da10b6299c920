use Rattle.std.proofs.Common.{◌≡◌, ◌++◌, inr, ℕ, Result, Err, sym, ap, ◌∙◌, rules}
use Rattle.std.proofs.lemmas.List.{append-nil}
use Rattle.manager.specs.declared.part.Place.{Place}
use Rattle.manager.specs.declared.part.WriteRefusal.{WriteRefusal}
use Rattle.group_commit.specs.Commits.{count_told, places_told}
use Rattle.group_commit.proofs.write_many.Goals as goal

pub returns-in_err-count-clause-committed : goal.returns-in_err-count-clause-committed
returns-in_err-count-clause-committed g c =
    let r = c.write_run.ensures in
    let was : c.write_run.result ≡ Err c.in_err-count.field-0.0 = search rules in
    let told : c.from_residual.result ≡ Err c.in_err-count.field-0.0 = search rules in
    inr (record {
      told = c.write_run.result;
      counts = told ∙ ap count_told (sym was);
      adds = c.reserve.ensures.items ∙ sym (append-nil c.args.places.now.items) ∙ ap (λ (t : Result (ℕ × Place) WriteRefusal). c.args.places.now.items ++ places_told t) (sym was);
      tried = r.run.0;
      run = r.run.1;
      all = r.run.2;
      tells_run = r.told;
    })
