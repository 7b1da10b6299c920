use Rattle.std.proofs.Common.{◌≡◌, ◌≤◌, Some, true, take, length, sym, ap, subst, ◌∙◌, arith}
use Rattle.std.proofs.lemmas.List.{length-map}
use Rattle.wol_config.specs.declared.config.VolumeConf.{VolumeConf}
use Rattle.wol_config.specs.Documents.{names_of, numbers_named}
use Rattle.wol_config.specs.Tables.{texts_in}
use Rattle.wol_config.proofs.Names.{unknown_is_bad, own_is_bad, view_answer}
use Rattle.wol_config.proofs.views.view_of.Goals as goal
use Rattle.wol_config.proofs.views.view_of.Goals.{in_default-via-in-Some+else-number-own, in_default-via-in_default}

pub returns-in_default : goal.returns-in_default
returns-in_default c good =
    let names = names_of c.args.volumes.now in
    elim c.in_default.branch [
      | in_default-via-in-Some+else-number-own w ↦
          own_is_bad names c.args.own c.args.texts.now c.loop-i.i c.index-texts-i.result c.as_text.result.now c.loop-i-test.true c.index-texts-i.is c.as_text.ensures
          (ap Some (sym w.if-number-own.false) ∙ sym w.in-Some.is ∙ c.number_named.ensures.found) good
      | in_default-via-in_default w ↦
          unknown_is_bad names c.args.own c.args.texts.now c.loop-i.i c.index-texts-i.result c.as_text.result.now c.loop-i-test.true c.index-texts-i.is c.as_text.ensures
          (sym w.in_default.is ∙ c.number_named.ensures.found) good
    ]

pub returns : goal.returns
returns c =
    let names = names_of c.args.volumes.now in
    let room : length names ≤ 64 = rw (length-map c.args.volumes.now (λ (v : VolumeConf). v.name)) c.requires.volumes in
    view_answer c.new.result names c.args.own c.args.texts.now c.loop-i.ids c.loop-i.i (omega arith) c.requires.few room
    c.loop-i.invariant.known c.loop-i.invariant.others c.loop-i.invariant.found c.new.ensures
