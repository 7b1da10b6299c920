use Rattle.std.proofs.Common.{◌≡◌, List, ℕ, true, false, Some, None, inr, get_or, refl, sym, ap, subst, ◌∙◌}
use Rattle.toml.specs.Data.{Members}
use Rattle.toml.specs.View.{view as view_data}
use Rattle.wol_config.specs.declared.key.Key.TheVariants.{Name, View}
use Rattle.wol_config.specs.declared.config.VolumeConf.{VolumeConf}
use Rattle.wol_config.specs.declared.config.ConfigFault.TheVariants.{BadView}
use Rattle.wol_config.specs.Keys.{key_fault}
use Rattle.wol_config.specs.Documents.{members_of, text_at, view_in, volume_in, names_of, numbers_named, is_good_view}
use Rattle.wol_config.specs.Tables.{members_in, names_in, texts_in}
use Rattle.wol_config.proofs.SetViews.{faultless_view, names_stay, texts_are_view, name_at, done_more, good_next, bad_here, not_good}
use Rattle.wol_config.proofs.views.set_views.Goals as goal

pub returns-in_err-texts-clause-err : goal.returns-in_err-texts-clause-err
returns-in_err-texts-clause-err c =
    let none = faultless_view c.args.tables.now c.loop-i.i c.index-tables-i.result c.loop-i-test.true c.index-tables-i.is c.requires.faultless in
    let some = subst (λ (m : Members). key_fault View m ≡ Some c.in_err-texts.field-0.0) c.as_members.ensures c.in_err-texts.ensures.err in
    absurd (let e : None ≡ Some c.in_err-texts.field-0.0 = sym none ∙ some in cc)

pub loop-i-preserved : goal.loop-i-preserved
loop-i-preserved c =
    let ts = c.args.tables.now in
    let v = c.index-tables-i.result in
    let names : names_of c.loop-i.volumes ≡ names_in ts = names_stay (members_in ts) (names_in ts) c.loop-i.volumes c.loop-i.i c.loop-i.invariant.done in
    let view : view_in (members_of (view_data v)) ≡ texts_in c.in_ok-texts.texts.now = texts_are_view (members_of (view_data v)) c.in_ok-texts.texts.now (rw (← c.as_members.ensures) c.in_ok-texts.ensures.ok) in
    let good : is_good_view (names_in ts) c.loop-i.i (view_in (members_of (view_data v))) ≡ true = rw (← names, view) c.in-Some.ensures.0 in
    let same : get_or c.loop-i.volumes c.loop-i.i c.index-volumes-i.result ≡ volume_in (members_of (view_data v)) =
    name_at ts c.loop-i.i v c.loop-i.volumes c.index-volumes-i.result c.loop-i-test.true c.index-tables-i.is c.loop-i.invariant.done in
    let numbers : c.in-Some.view ≡ numbers_named (names_in ts) (view_in (members_of (view_data v))) = c.in-Some.ensures.1 ∙ rw (names, view) refl in
    record {
      done = done_more ts c.loop-i.i v c.loop-i.volumes _ c.loop-i-test.true c.index-tables-i.is c.loop-i.invariant.done
          (λ j. record (same j) { view = numbers j });
      left = c.loop-i.invariant.left ∙ good_next ts c.loop-i.i v c.loop-i-test.true c.index-tables-i.is good;
    }

pub returns-in-None-clause-err : goal.returns-in-None-clause-err
returns-in-None-clause-err c =
    let ts = c.args.tables.now in
    let v = c.index-tables-i.result in
    let names : names_of c.loop-i.volumes ≡ names_in ts = names_stay (members_in ts) (names_in ts) c.loop-i.volumes c.loop-i.i c.loop-i.invariant.done in
    let view : view_in (members_of (view_data v)) ≡ texts_in c.in_ok-texts.texts.now = texts_are_view (members_of (view_data v)) c.in_ok-texts.texts.now (rw (← c.as_members.ensures) c.in_ok-texts.ensures.ok) in
    let bad : is_good_view (names_in ts) c.loop-i.i (view_in (members_of (view_data v))) ≡ false =
    not_good (is_good_view (names_in ts) c.loop-i.i (view_in (members_of (view_data v)))) (λ good. c.in-None.ensures (rw (names, ← view) good)) in
    let same : get_or c.loop-i.volumes c.loop-i.i c.index-volumes-i-in-None.result ≡ volume_in (members_of (view_data v)) =
    name_at ts c.loop-i.i v c.loop-i.volumes c.index-volumes-i-in-None.result c.loop-i-test.true c.index-tables-i.is c.loop-i.invariant.done in
    let name : c.in_ok-name-in-None.name ≡ text_at Name (members_of (view_data v)) = c.in_ok-name-in-None.ensures ∙ c.as_str.ensures ∙ ap (λ (w : VolumeConf). w.name) same in
    inr (c.loop-i.invariant.left ∙ bad_here ts c.loop-i.i v c.loop-i-test.true c.index-tables-i.is bad ∙ ap (λ (n : List ℕ). Some (BadView c.loop-i.i n)) (sym name))
