use Rattle.std.proofs.Common.{Option, subst, true, false}
use Rattle.std.proofs.lemmas.Bool.{and_from, and_right}
use Rattle.wol_model.specs.Index.{Indexed, listed_in}
use Rattle.block_cells.specs.declared.record.Rec.{Rec}
use Rattle.redirect_map.specs.Index.{entry_at, IsAnswer, has_sought}
use Rattle.garbage_list.proofs.Finding.{answer_there, lane_there, told_none, told_asleep, told_by}
use Rattle.garbage_list.proofs.find.told.Goals as goal

pub returns-in_err-record-clause-told : goal.returns-in_err-record-clause-told
returns-in_err-record-clause-told c = rw c.from_residual.ensures (told_none _ c.args.version (entry_at c.args.index.now.entries c.args.version) (subst (λ (o : Option Rec). IsAnswer (entry_at c.args.index.now.entries c.args.version) o) c.in_err-record.was c.find.ensures.value))

pub bounds-lanes-record : goal.bounds-lanes-record
bounds-lanes-record c = lane_there c.args.lanes.now c.args.index.now.entries c.args.version c.in_ok-record.record c.requires (subst (λ (o : Option Rec). IsAnswer (entry_at c.args.index.now.entries c.args.version) o) c.in_ok-record.was c.find.ensures.value)

pub has-requires : goal.has-requires
has-requires c = answer_there c.args.index.now.entries c.args.version c.in_ok-record.record (subst (λ (o : Option Rec). IsAnswer (entry_at c.args.index.now.entries c.args.version) o) c.in_ok-record.was c.find.ensures.value)

pub returns-then-not-lanes-record-clause-told : goal.returns-then-not-lanes-record-clause-told
returns-then-not-lanes-record-clause-told c = told_asleep c.args.lanes.now (λ (e : Indexed). has_sought c.args.sought (listed_in c.args.index.now.entries) e.listed) c.args.version (entry_at c.args.index.now.entries c.args.version) c.in_ok-record.record
    (subst (λ (o : Option Rec). IsAnswer (entry_at c.args.index.now.entries c.args.version) o) c.in_ok-record.was c.find.ensures.value) c.if-not-lanes-record.true

pub returns-then-not-has-clause-told : goal.returns-then-not-has-clause-told
returns-then-not-has-clause-told c = told_by c.args.lanes.now c.args.version (entry_at c.args.index.now.entries c.args.version) c.in_ok-record.record (λ (e : Indexed). has_sought c.args.sought (listed_in c.args.index.now.entries) e.listed) c.has.result false
    (subst (λ (o : Option Rec). IsAnswer (entry_at c.args.index.now.entries c.args.version) o) c.in_ok-record.was c.find.ensures.value)
    c.has.ensures (and_right _ _ c.if-not-has.true)

pub returns-clause-told : goal.returns-clause-told
returns-clause-told c = told_by c.args.lanes.now c.args.version (entry_at c.args.index.now.entries c.args.version) c.in_ok-record.record (λ (e : Indexed). has_sought c.args.sought (listed_in c.args.index.now.entries) e.listed) c.has.result true
    (subst (λ (o : Option Rec). IsAnswer (entry_at c.args.index.now.entries c.args.version) o) c.in_ok-record.was c.find.ensures.value)
    c.has.ensures (and_from _ _ c.if-not-lanes-record.false c.if-not-has.false)

pub returns-in_err-record-clause-index : goal.returns-in_err-record-clause-index
returns-in_err-record-clause-index c = c.find.ensures.index
