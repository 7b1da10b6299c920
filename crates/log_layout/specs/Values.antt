-- The values of this crate as those that blocks spell.
use Rattle.wol_model.specs.Heads.{Shape, SegmentHead, RecordHead}
use Rattle.wol_model.specs.Heads as head
use Rattle.log_layout.specs.declared.label.Label.{Label}
use Rattle.log_layout.specs.declared.segment.SegHead.{SegHead}
use Rattle.log_layout.specs.declared.segment.SegHead.TheVariants.{Free, Owned}
use Rattle.log_layout.specs.declared.record.RecHead.{RecHead}

-- the sizes that a label says
abbrev pub shape_of : Label → Shape
shape_of v = record { home = v.home; segments = v.segments; segment_blocks = v.segment_blocks }

abbrev pub segment_head : SegHead → SegmentHead
segment_head Free = head.Free
segment_head (Owned owner) = head.Owned owner

-- block i of the record is kept where bit i of `keep` is set
abbrev pub record_head : RecHead → RecordHead
record_head v = record {
  form = v.form;
  owner = v.owner;
  version = v.version;
  first = v.lbn;
  count = v.count;
  mask = v.keep;
}
