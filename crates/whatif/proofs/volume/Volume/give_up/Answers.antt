-- One record gives up the blocks that may go.
use Rattle.std.proofs.Common.{[], ◌∷◌, ◌≡◌, Bool, List, Option, None, Some, length, refl, subst, sym, ap, ◌∙◌, arith}
use Rattle.std.specs.Prelude.{IfNone}
use Rattle.std.specs.List.{AllByRecursion}
use Rattle.wol_model.specs.Index.{Indexed, left, listed_in, goes}
use Rattle.block_cells.specs.Masks.{IsMask}
use Rattle.redirect_map.specs.Index.{entry_at, IsAnswer}
use Rattle.garbage_list.specs.Least.{first_version, can_go}
use Rattle.whatif.specs.Logs.{Gives}
use Rattle.whatif.specs.declared.store.Given.{Given}
use Rattle.whatif.specs.Machine.{give_up, give_step, next_to_go}
use Rattle.whatif.specs.Volumes.{IsLogged, look_in, reach_in, give_answer}
use Rattle.whatif.proofs.Steps.{count_few, some_of, give_answered, give_less, given_logged, with_index, no_give, step_none}
use Rattle.whatif.proofs.volume.Volume.give_up.Goals as goal

pub returns-in_err-version-clause-step : goal.returns-in_err-version-clause-step
returns-in_err-version-clause-step c =
    let v = c.args.self.now in
    subst (λ (o : Option Given). give_step (reach_in v) (look_in v) ≡ give_answer (look_in v) o) (sym c.from_residual.ensures) (step_none (give_up (reach_in v)) (look_in v) _ (no_give v (subst (λ (us : List Bool). first_version (can_go us v.index.entries) v.index.entries ≡ None) c.as_slice.ensures.value (sym c.in_err-version.ensures.value))))

pub returns-in_err-version-clause-none : goal.returns-in_err-version-clause-none
returns-in_err-version-clause-none c =
    let v = c.args.self.now in
    subst (λ (o : Option Given). IfNone o ((next_to_go (look_in v) ≡ None) × (v ≡ v))) (sym c.from_residual.ensures) (no_give v (subst (λ (us : List Bool). first_version (can_go us v.index.entries) v.index.entries ≡ None) c.as_slice.ensures.value (sym c.in_err-version.ensures.value)), refl)

pub trim-requires-clause-goes : goal.trim-requires-clause-goes
trim-requires-clause-goes c e is i set =
    let es = c.args.self.now.index.entries in
    sym (some_of (λ (d : Indexed). IsMask d.listed.first (goes (listed_in es) d.listed) c.may_go-mask.result) (entry_at es c.in_ok-version.version) e c.may_go-mask.ensures.value is i) ∙ set

pub given-given-requires : goal.given-given-requires
given-given-requires c =
    let v = c.args.self.now in
    count_few v.index.entries c.in_ok-version.version c.in_ok-record.record c.find.ensures.index (subst (IsAnswer (entry_at v.index.entries c.in_ok-version.version)) c.in_ok-record.was c.find.ensures.value)

pub returns-clause-stays : goal.returns-clause-stays
returns-clause-stays c =
    let v = c.args.self.now in
    with_index v c.trim.new.self c.give.new.self (Gives c.given-given.result ∷ []) c.requires.volume c.requires.settled (subst (λ (l : List Indexed). AllByRecursion (IsLogged (length v.ups.items) v.next) l) (sym c.trim.ensures.entries) (given_logged _ v.next c.in_ok-version.version c.may_go-mask.result v.index.entries c.requires.volume.logged)) (c.give.ensures.kept v.next v.loggers.items c.requires.volume.store_) c.give.ensures.moved

pub returns-clause-step : goal.returns-clause-step
returns-clause-step c =
    let v = c.args.self.now in
    let there : IsAnswer (entry_at v.index.entries c.in_ok-version.version) (Some c.in_ok-record.record) = subst (IsAnswer (entry_at v.index.entries c.in_ok-version.version)) c.in_ok-record.was c.find.ensures.value in
    give_answered v c.in_ok-version.version c.in_ok-record.record c.may_go-mask.result c.index.result.now c.trim.new.self c.given-given.result c.requires.volume c.find.ensures.index there
    (subst (λ (us : List Bool). first_version (can_go us v.index.entries) v.index.entries ≡ Some c.in_ok-version.version) c.as_slice.ensures.value (sym c.in_ok-version.ensures.value)) c.may_go-mask.ensures.value c.trim.ensures.entries c.index.ensures c.given-given.ensures

pub returns-clause-lowers : goal.returns-clause-lowers
returns-clause-lowers c =
    let v = c.args.self.now in
    let there : IsAnswer (entry_at v.index.entries c.in_ok-version.version) (Some c.in_ok-record.record) = subst (IsAnswer (entry_at v.index.entries c.in_ok-version.version)) c.in_ok-record.was c.find.ensures.value in
    let less = give_less (reach_in v) v.ups.items v.next v.index.entries c.find.ensures.index c.in_ok-version.version c.in_ok-record.record there
    (subst (λ (us : List Bool). first_version (can_go us v.index.entries) v.index.entries ≡ Some c.in_ok-version.version) c.as_slice.ensures.value (sym c.in_ok-version.ensures.value)) v.home_up c.may_go-mask.result c.may_go-mask.ensures.value in
    let same = ap (λ (l : List Indexed). left (listed_in l)) c.trim.ensures.entries in
    omega (arith, less, same)
