-- The due blocks of one record go home.
use Rattle.std.proofs.Common.{[], ◌≡◌, ◌+◌, ⊎_elim, Bool, ℕ, true, List, Option, None, Some, length, refl, subst, sym, ap, ◌∙◌, bit_or, arith, rules}
use Rattle.std.specs.Prelude.{IfNone}
use Rattle.std.specs.List.{AllByRecursion}
use Rattle.wol_model.specs.Index.{Indexed, left, listed_in, is_due, is_live}
use Rattle.wol_model.specs.Log.{has_bit}
use Rattle.wol_model.proofs.Counts.{both, either}
use Rattle.block_cells.specs.Masks.{IsMask}
use Rattle.block_cells.proofs.Bits.{has_bit-or}
use Rattle.redirect_map.specs.Index.{entry_at, IsAnswer}
use Rattle.garbage_list.specs.Least.{first_version, can_go_home}
use Rattle.whatif.specs.Machine.{put_home, put_step, next_due}
use Rattle.whatif.specs.Volumes.{IsLogged, look_in, reach_in, put_answer}
use Rattle.whatif.proofs.Steps.{some_of, put_answered, put_less, homed_logged, with_index, no_put, step_none}
use Rattle.whatif.proofs.volume.Volume.put_home.Goals as goal

pub returns-in_err-version-clause-step : goal.returns-in_err-version-clause-step
returns-in_err-version-clause-step c =
    let v = c.args.self.now in
    subst (λ (o : Option ℕ). put_step (reach_in v) (look_in v) ≡ put_answer (reach_in v) (look_in v) o) (sym c.from_residual.ensures) (step_none (put_home (reach_in v)) (look_in v) _ (no_put (reach_in v) v (subst (λ (us : List Bool). first_version (can_go_home us v.index.entries) v.index.entries ≡ None) c.as_slice.ensures.value (sym c.in_err-version.ensures.value))))

pub returns-in_err-version-clause-none : goal.returns-in_err-version-clause-none
returns-in_err-version-clause-none c =
    let v = c.args.self.now in
    subst (λ (o : Option ℕ). IfNone o ((next_due (look_in v) ≡ None) × (v ≡ v))) (sym c.from_residual.ensures) (no_put (reach_in v) v (subst (λ (us : List Bool). first_version (can_go_home us v.index.entries) v.index.entries ≡ None) c.as_slice.ensures.value (sym c.in_err-version.ensures.value)), refl)

pub set_homed-requires-clause-live : goal.set_homed-requires-clause-live
set_homed-requires-clause-live c e is i set =
    let es = c.args.self.now.index.entries in
    ⊎_elim
    (λ was. some_of (λ (d : Indexed). (j : ℕ) → has_bit c.homed.result j ≡ true → is_live (listed_in es) d.listed (d.listed.first + j) ≡ true) (entry_at es c.in_ok-version.version) e c.homed.ensures.live is i was)
    (λ now. (both (is_live (listed_in es) e.listed (e.listed.first + i)) _ (sym (some_of (λ (d : Indexed). IsMask d.listed.first (is_due (listed_in es) d.listed) c.due.result) (entry_at es c.in_ok-version.version) e c.due.ensures.value is i) ∙ now)).0)
    (either (has_bit c.homed.result i) (has_bit c.due.result i) (sym (has_bit-or c.homed.result c.due.result i) ∙ set))

pub returns-clause-stays : goal.returns-clause-stays
returns-clause-stays c =
    let v = c.args.self.now in
    with_index v c.set_homed.new.self v.store [] c.requires.volume c.requires.settled (subst (λ (l : List Indexed). AllByRecursion (IsLogged (length v.ups.items) v.next) l) (sym c.set_homed.ensures.entries) (homed_logged _ v.next c.in_ok-version.version (bit_or c.homed.result c.due.result) v.index.entries c.requires.volume.logged)) c.requires.volume.store_ refl

pub returns-clause-step : goal.returns-clause-step
returns-clause-step c =
    let v = c.args.self.now in let up : v.home_up ≡ true = search (rules, c.if-not-self.false) in
    let there : IsAnswer (entry_at v.index.entries c.in_ok-version.version) (Some c.in_ok-record.record) = subst (IsAnswer (entry_at v.index.entries c.in_ok-version.version)) c.in_ok-record.was c.find.ensures.value in
    put_answered v c.in_ok-version.version c.in_ok-record.record c.homed.result c.due.result c.index.result.now c.set_homed.new.self up c.requires.volume c.find.ensures.index there
    (subst (λ (us : List Bool). first_version (can_go_home us v.index.entries) v.index.entries ≡ Some c.in_ok-version.version) c.as_slice.ensures.value (sym c.in_ok-version.ensures.value)) c.homed.ensures.value c.due.ensures.value c.set_homed.ensures.entries c.index.ensures

pub returns-clause-lowers : goal.returns-clause-lowers
returns-clause-lowers c =
    let v = c.args.self.now in
    let there : IsAnswer (entry_at v.index.entries c.in_ok-version.version) (Some c.in_ok-record.record) = subst (IsAnswer (entry_at v.index.entries c.in_ok-version.version)) c.in_ok-record.was c.find.ensures.value in
    let less = put_less (reach_in v) v.ups.items v.next v.index.entries c.find.ensures.index c.in_ok-version.version c.in_ok-record.record there
    (subst (λ (us : List Bool). first_version (can_go_home us v.index.entries) v.index.entries ≡ Some c.in_ok-version.version) c.as_slice.ensures.value (sym c.in_ok-version.ensures.value)) c.homed.result c.due.result c.homed.ensures.value c.due.ensures.value in
    let same = ap (λ (l : List Indexed). left (listed_in l)) c.set_homed.ensures.entries in
    omega (arith, less, same)
