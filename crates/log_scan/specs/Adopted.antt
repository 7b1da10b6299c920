-- A part as the segment that it is.
use Rattle.std.specs.Prelude.{⊤, ◌==◌, not, ℕ, List}
use Rattle.std.specs.List.{count_by}
use Rattle.log_segment.specs.declared.free.FreeSegment.{FreeSegment}
use Rattle.log_segment.specs.declared.segment.Segment.{Segment}
use Rattle.log_segment.specs.Segment.{part_of, free_part}
use Rattle.spin_model.specs.declared.spun.Spun.{Spun}
use Rattle.log_scan.specs.declared.Found.{Found}
use Rattle.log_scan.specs.declared.adopted.Adopted.{Adopted}
use Rattle.log_scan.specs.declared.adopted.Adopted.TheVariants.{Free, Held}

-- where the part is a free segment, and where a volume owns it
abbrev pub IfFree : {D : Type 0} → Adopted D → (FreeSegment D → Type 0) → Type 0
IfFree (Free seg) P = P seg
IfFree (Held seg) P = ⊤

abbrev pub IfHeld : {D : Type 0} → Adopted D → (Segment D → Type 0) → Type 0
IfHeld (Free seg) P = ⊤
IfHeld (Held seg) P = P seg

abbrev pub adopted_part : {D : Type 0} → Adopted D → Spun D
adopted_part (Free seg) = free_part seg
adopted_part (Held seg) = part_of seg

-- how many of the records found keep a block
abbrev pub count_kept : List Found → ℕ
count_kept found = count_by (λ f. not (f.head.keep == 0)) found
