use Rattle.std.proofs.Common.{◌≡◌, ◌<◌, length, refl, sym, ◌∙◌, arith}
use Rattle.wol_config.specs.Documents.{names_of}
use Rattle.report.specs.Names.{name_at}
use Rattle.cleaning.specs.Lines.{clean_line}
use Rattle.std.proofs.lemmas.Result.{err_from_is_err_and}
use Rattle.wol_io.proofs.Appending.{appends_none, keeps_same}
use Rattle.cleaning.proofs.Going.{all_cleaned, begins, cut_line, goes_on, name_is, no_line, one_line, refused_next, worked_more}
use Rattle.cleaning.proofs.Stations.{can_still}
use Rattle.cleaning.proofs.calls.clean_open.Goals as goal

pub loop-volume-init : goal.loop-volume-init
loop-volume-init g c = record { empty = c.new-text.ensures.items; calm = refl; underway = begins _ _ _ _ _ _ (appends_none _ _ (keeps_same _)) }

pub clean_volume-requires-clause-can : goal.clean_volume-requires-clause-can
clean_volume-requires-clause-can g c = can_still _ _ _ c.loop-volume.invariant.underway.worked c.requires.can

pub returns-in-Err-clause-worked : goal.returns-in-Err-clause-worked
returns-in-Err-clause-worked g c = worked_more _ _ _ _ _ _ _ _ _ c.loop-volume.invariant.underway (omega arith) c.clean_volume.ensures.worked c.clean_volume.ensures.others

pub returns-in-Err-clause-cleans : goal.returns-in-Err-clause-cleans
returns-in-Err-clause-cleans g c =
    let a = c.in-Err.ensures in
    rw c.stop_of.ensures (refused_next _ _ _ _ _ _ _ _ _ c.loop-volume.invariant.underway (omega arith) a.worked a.others _ _ _ a.cleans c.loop-volume.invariant.calm)

pub returns-in_err-append_cleaned-clause-worked : goal.returns-in_err-append_cleaned-clause-worked
returns-in_err-append_cleaned-clause-worked g c = worked_more _ _ _ _ _ _ _ _ _ c.loop-volume.invariant.underway (omega arith) c.clean_volume.ensures.worked c.clean_volume.ensures.others

pub returns-in_err-append_cleaned-clause-cleans : goal.returns-in_err-append_cleaned-clause-cleans
returns-in_err-append_cleaned-clause-cleans g c =
    let p = err_from_is_err_and c.from_residual.result c.from_residual.ensures.1 in
    let a = c.in-Ok.ensures in
    rw (p.1, p.2) (no_line _ _ _ _ _ _ _ _ _ c.loop-volume.invariant.underway (omega arith) a.worked a.others _ a.cleans _ _ c.loop-volume.invariant.calm)

pub returns-in_err-write-clause-worked : goal.returns-in_err-write-clause-worked
returns-in_err-write-clause-worked g c = worked_more _ _ _ _ _ _ _ _ _ c.loop-volume.invariant.underway (omega arith) c.clean_volume.ensures.worked c.clean_volume.ensures.others

-- the text is the line of the volume
pub returns-in_err-write-clause-cleans : goal.returns-in_err-write-clause-cleans
returns-in_err-write-clause-cleans g c =
    let p = err_from_is_err_and c.from_residual-in_err-write.result c.from_residual-in_err-write.ensures.1 in
    let a = c.in-Ok.ensures in let u = c.loop-volume.invariant.underway in let within : c.loop-volume.volume < length c.args.config.now.volumes.items = omega arith in
    let line : c.append_cleaned.new.out.items ≡ clean_line (name_at (names_of c.args.config.now.volumes.items) c.loop-volume.volume) c.in-Ok.cleaned
    = one_line _ _ _ _ _ c.loop-volume.invariant.empty c.in_ok-append_cleaned.ensures.ok (c.as_bytes.ensures ∙ sym (name_is _ _ _ within c.index.ensures)) in
    rw (p.1, p.2) (cut_line _ _ _ _ _ _ _ _ _ u within a.worked a.others c.in-Ok.cleaned a.cleans _ _ _
    (rw c.loop-volume.invariant.calm at c.in_err-write.ensures.cause) (rw (c.deref.ensures.value, line) at c.in_err-write.ensures.content))

pub loop-volume-preserved : goal.loop-volume-preserved
loop-volume-preserved g c =
    let a = c.in-Ok.ensures in let u = c.loop-volume.invariant.underway in let within : c.loop-volume.volume < length c.args.config.now.volumes.items = omega arith in
    let line : c.append_cleaned.new.out.items ≡ clean_line (name_at (names_of c.args.config.now.volumes.items) c.loop-volume.volume) c.in-Ok.cleaned
    = one_line _ _ _ _ _ c.loop-volume.invariant.empty c.in_ok-append_cleaned.ensures.ok (c.as_bytes.ensures ∙ sym (name_is _ _ _ within c.index.ensures)) in
    record {
      empty = c.clear.ensures.items;
      calm = c.in_ok-write.ensures.calm ∙ c.loop-volume.invariant.calm;
      underway = goes_on _ _ _ _ _ _ _ _ _ u within a.worked a.others c.in-Ok.cleaned a.cleans _ (rw (c.deref.ensures.value, line) at c.in_ok-write.ensures.content);
    }

pub returns-clause-cleans : goal.returns-clause-cleans
returns-clause-cleans g c =
    let i = c.loop-volume.invariant in
    all_cleaned _ _ _ _ _ c.loop-volume.volume _ _ _ _ i.underway (omega arith) i.calm
