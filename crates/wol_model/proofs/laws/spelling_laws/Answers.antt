use Rattle.wol_model.proofs.laws.spelling_laws.Goals as goal
use Rattle.wol_model.proofs.Spellings.{one_label, one_view, one_segment_head, one_record_head, gate_is_no_head, reading_heads}

pub returns-clause-label : goal.returns-clause-label
returns-clause-label c = one_label

pub returns-clause-view : goal.returns-clause-view
returns-clause-view c = one_view

pub returns-clause-segment : goal.returns-clause-segment
returns-clause-segment c = one_segment_head

pub returns-clause-record : goal.returns-clause-record
returns-clause-record c = one_record_head

pub returns-clause-gate : goal.returns-clause-gate
returns-clause-gate c = gate_is_no_head

pub returns-clause-reading : goal.returns-clause-reading
returns-clause-reading c = reading_heads
