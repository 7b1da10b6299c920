-- What is told at the end of a run.
use Rattle.std.proofs.Common.{◌≡◌, inl, inr, ℕ, List, Option, Ok, Err, refl, arith}
use Rattle.msr_trace.specs.declared.format.BadLine.{BadLine}
use Rattle.wol_disk.specs.Disk.{Block, Rose, Values}
use Rattle.wol_bay.specs.Bay.{Told}
use Rattle.wol_model.specs.Trace.{Target}
use Rattle.solo.specs.declared.fault.Fault.{Fault}
use Rattle.solo.specs.declared.fault.Fault.TheVariants as fault
use Rattle.solo.specs.Images.{PartCameBackFaulty, RunsInBay}
use Rattle.solo.specs.Runs.{EndsBy}
use Rattle.wol_run.specs.Tops.{AreCalm, HasBadLine, HasCause, HasMoreLines, RunsSolo, TellsFault, TellsStatus}

-- what a fault comes of
module _ (told told' : Option Told) (bay bay' source source' : ℕ) where
  pub has_cause : (e : Fault) → (e ≡ fault.Disk → Rose bay bay' × PartCameBackFaulty told told') → (e ≡ fault.Bay → Rose bay bay') → (e ≡ fault.Source → Rose source source')
      → ((e ≡ fault.Bay → ⊥) → (e ≡ fault.Disk → ⊥) → bay' ≡ bay) → ((e ≡ fault.Source → ⊥) → source' ≡ source) → HasCause e told told' bay bay' source source'
  has_cause fault.Bay disk image trace still unread = (image refl, unread (λ is. cc is))
  has_cause fault.Disk disk image trace still unread = ((disk refl).0, (disk refl).1, unread (λ is. cc is))
  has_cause fault.Source disk image trace still unread = (trace refl, still (λ is. cc is) (λ is. cc is))
  has_cause fault.Sink disk image trace still unread = (still (λ is. cc is) (λ is. cc is), unread (λ is. cc is))
  has_cause fault.NoMemory disk image trace still unread = (still (λ is. cc is) (λ is. cc is), unread (λ is. cc is))
  has_cause fault.Spent disk image trace still unread = (still (λ is. cc is) (λ is. cc is), unread (λ is. cc is))
  has_cause (fault.BadLine line why) disk image trace still unread = (still (λ is. cc is) (λ is. cc is), unread (λ is. cc is))

-- ---- Texts

-- a bad line was met, and then there was no memory for its text
no_memory_instead : (line : ℕ) (why : BadLine) (target : Target) (trace left : Option (List ℕ)) (array : Option (List Block)) (old new : Option (List ℕ)) (values : Option (List (Values Block)))
    → EndsBy (fault.BadLine line why) target trace left array old new values → EndsBy fault.NoMemory target trace left array old new values
no_memory_instead line why target trace left array old new values (lines, more, has, number, held, taken, answered) = inr (inl (inl (lines, held, taken, answered)))

module _ (target : Target) (trace left : Option (List ℕ)) (told told' : Option Told) (bay bay' source source' status : ℕ) (old mid new : Option (List ℕ)) where
  pub told_fault : (T : Type 0) (e : Fault) → HasCause e told told' bay bay' source source' → TellsFault e status mid new → RunsInBay {T = T} target trace left told told' (Err e) old mid → RunsSolo target trace left told told' bay bay' source source' status old new
  told_fault T (fault.BadLine line why) cause (inl tells) (array, begins, values, images, ends) = (array, begins, values, inr (fault.BadLine line why, cause, (images, mid, ends, tells)))
  told_fault T (fault.BadLine line why) cause (inr tells) (array, begins, values, images, ends) =
      (array, begins, values, inr (fault.NoMemory, cause, (inr images, mid, no_memory_instead line why target trace left array old mid values ends, tells)))
  told_fault T fault.Bay cause tells (array, begins, values, images, ends) = (array, begins, values, inr (fault.Bay, cause, (images, mid, ends, tells)))
  told_fault T fault.Disk cause tells (array, begins, values, images, ends) = (array, begins, values, inr (fault.Disk, cause, (images, mid, ends, tells)))
  told_fault T fault.Sink cause tells (array, begins, values, images, ends) = (array, begins, values, inr (fault.Sink, cause, (images, mid, ends, tells)))
  told_fault T fault.Source cause tells (array, begins, values, images, ends) = (array, begins, values, inr (fault.Source, cause, (images, mid, ends, tells)))
  told_fault T fault.NoMemory cause tells (array, begins, values, images, ends) = (array, begins, values, inr (fault.NoMemory, cause, (images, mid, ends, tells)))
  told_fault T fault.Spent cause tells (array, begins, values, images, ends) = (array, begins, values, inr (fault.Spent, cause, (images, mid, ends, tells)))

pub told_done : {T : Type 0} (x : T) (target : Target) (trace left : Option (List ℕ)) (told told' : Option Told) (bay bay' source source' : ℕ) (old new : Option (List ℕ)) → AreCalm bay bay' source source' → RunsInBay target trace left told told' (Ok x) old new
    → RunsSolo target trace left told told' bay bay' source source' 0 old new
told_done x target trace left told told' bay bay' source source' old new calm (array, begins, values, images, ends) = (array, begins, values, inl (calm, (refl, images, ends)))

-- ---- What the statuses of the trace come of

pub comes_of_bad_line : (T : Type 0) (e : Fault) (status : ℕ) (target : Target) (trace left : Option (List ℕ)) (told told' : Option Told) (old mid : Option (List ℕ)) → TellsStatus e status → status ≡ 3 → RunsInBay {T = T} target trace left told told' (Err e) old mid → HasBadLine trace
comes_of_bad_line T e status target trace left told told' old mid (inr (inl is)) three runs = absurd (omega (arith, is, three))
comes_of_bad_line T e status target trace left told told' old mid (inr (inr is)) three runs = absurd (omega (arith, is, three))
comes_of_bad_line T (fault.BadLine line why) status target trace left told told' old mid (inl is) three (array, begins, values, images, (lines, more, has, number, held, taken, all)) = (lines, why, more, has)
comes_of_bad_line T fault.Bay status target trace left told told' old mid (inl is) three runs = absurd (omega (arith, is, three))
comes_of_bad_line T fault.Disk status target trace left told told' old mid (inl is) three runs = absurd (omega (arith, is, three))
comes_of_bad_line T fault.Sink status target trace left told told' old mid (inl is) three runs = absurd (omega (arith, is, three))
comes_of_bad_line T fault.Source status target trace left told told' old mid (inl is) three runs = absurd (omega (arith, is, three))
comes_of_bad_line T fault.NoMemory status target trace left told told' old mid (inl is) three runs = absurd (omega (arith, is, three))
comes_of_bad_line T fault.Spent status target trace left told told' old mid (inl is) three runs = absurd (omega (arith, is, three))

pub comes_of_lines : (T : Type 0) (e : Fault) (status : ℕ) (target : Target) (trace left : Option (List ℕ)) (told told' : Option Told) (old mid : Option (List ℕ)) → TellsStatus e status → status ≡ 10 → RunsInBay {T = T} target trace left told told' (Err e) old mid → HasMoreLines trace
comes_of_lines T e status target trace left told told' old mid (inr (inl is)) ten runs = absurd (omega (arith, is, ten))
comes_of_lines T e status target trace left told told' old mid (inr (inr is)) ten runs = absurd (omega (arith, is, ten))
comes_of_lines T fault.Spent status target trace left told told' old mid (inl is) ten (array, begins, values, images, (lines, next, more, has, number, held, taken, all)) = (lines, next, more, has, number)
comes_of_lines T (fault.BadLine line why) status target trace left told told' old mid (inl is) ten runs = absurd (omega (arith, is, ten))
comes_of_lines T fault.Bay status target trace left told told' old mid (inl is) ten runs = absurd (omega (arith, is, ten))
comes_of_lines T fault.Disk status target trace left told told' old mid (inl is) ten runs = absurd (omega (arith, is, ten))
comes_of_lines T fault.Sink status target trace left told told' old mid (inl is) ten runs = absurd (omega (arith, is, ten))
comes_of_lines T fault.Source status target trace left told told' old mid (inl is) ten runs = absurd (omega (arith, is, ten))
comes_of_lines T fault.NoMemory status target trace left told told' old mid (inl is) ten runs = absurd (omega (arith, is, ten))
