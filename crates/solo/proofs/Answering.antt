-- Requests answered one after another, and what the sink took of them.
use Rattle.std.proofs.Common.{◌≡◌, ℕ, List, [], ◌∷◌, ◌++◌, Option, None, Some, Result, Ok, Err, refl, sym, subst, append_assoc, append-nil}
use Rattle.std.specs.Io.KnownBytes.{Appends, Keeps}
use Rattle.wol_disk.specs.Disk.{Block, Values}
use Rattle.wol_io.specs.Streams.{AppendsFront}
use Rattle.wol_io.proofs.Appending.{keeps_same, appends_none, appends_both}
use Rattle.wol_model.specs.Trace.{Request}
use Rattle.solo.specs.declared.fault.Fault.{Fault}
use Rattle.solo.specs.declared.fault.Fault.TheVariants as fault
use Rattle.wol_model.specs.declared.trace.Kind.TheVariants as kind
use Rattle.solo.specs.Texts.{AreMarks, read_text}
use Rattle.solo.specs.Served.{Answered, AnsweredFront, ComesAfter, IsOnlyDisk, IsSettled, LeavesCutOf, LeftBy, Serves, content_after, content_of}
use Rattle.solo.proofs.Cuts.{cuts_after, settled_cuts}
use Rattle.solo.proofs.Marks.{OnVolume, content_both, content_none, marked, marks_both, read_lines_append, write_marks}

-- none
none_marks : (a : List Block) → AreMarks (Some a) [] []
unfolding Rattle.wol_model.specs.Trace.plain
none_marks a = refl

pub answered_none : (array : Option (List Block)) (old new : Option (List ℕ)) → Keeps old new → Answered array [] old new
answered_none None old new kept = ([], tt, appends_none old new kept)
answered_none (Some a) old new kept = ([], none_marks a, appends_none old new kept)

-- others after some
pub answered_both : (array : Option (List Block)) (rs ss : List Request) (old mid new : Option (List ℕ)) → OnVolume ss → Answered array rs old mid → Answered (content_after rs array) ss mid new → Answered array (rs ++ ss) old new
answered_both array rs ss old mid new on (ms, are, took) (ns, are', took') =
    (ms ++ ns, marks_both array rs ss ms ns on are are', rw (read_lines_append rs ss ms ns (marked array rs ms are)) (appends_both old mid new _ _ took took'))

-- a stop after requests that were answered, and before others
after_others : (rs ss first : List Request) (r : Request) → ComesAfter first r ss → ComesAfter (rs ++ first) r (rs ++ ss)
after_others rs ss first r (rest, split) = (rest, rw (split, append_assoc) refl)

before_others : (rs more first : List Request) (r : Request) → ComesAfter first r rs → ComesAfter first r (rs ++ more)
before_others rs more first r (rest, split) = (rest ++ more, rw (split, append_assoc) refl)

on_first : (ss first : List Request) (r : Request) → ComesAfter first r ss → OnVolume ss → OnVolume first
on_first ss first r (rest, split) on = front first (r ∷ rest) (rw split at on) where
  front : (first rest : List Request) → OnVolume (first ++ rest) → OnVolume first
  front [] rest on = tt
  front (r ∷ first) rest on = (on.0, front first rest on.1)

pub left_after : (e : Fault) (array : Option (List Block)) (rs ss : List Request) (old mid new : Option (List ℕ)) (values : Option (List (Values Block))) → OnVolume ss → Answered array rs old mid → LeftBy e (content_after rs array) ss mid new values → LeftBy e array (rs ++ ss) old new values
left_after fault.Disk array rs ss old mid new values on done (first, r, next, answered, cuts) =
    (rs ++ first, r, after_others rs ss first r next, answered_both array rs first old mid new (on_first ss first r next on) done answered, cuts_after array rs first (r ∷ []) values cuts)
left_after fault.NoMemory array rs ss old mid new values on done (first, r, next, is, answered, cuts) =
    (rs ++ first, r, after_others rs ss first r next, is, answered_both array rs first old mid new (on_first ss first r next on) done answered, cuts_after array rs first [] values cuts)
left_after fault.Sink array rs ss old mid new values on done (first, r, next, is, cuts, printed, answered, front) = (
  rs ++ first,
  r,
  after_others rs ss first r next,
  is,
  cuts_after array rs first [] values cuts,
  printed,
  answered_both array rs first old mid printed (on_first ss first r next on) done answered,
  subst (λ (now : Option (List Block)). AnsweredFront now (r ∷ []) printed new) (sym (content_both rs first array)) front,
)
left_after fault.Bay array rs ss old mid new values on done left = left
left_after (fault.BadLine line why) array rs ss old mid new values on done left = left
left_after fault.Spent array rs ss old mid new values on done left = left
left_after fault.Source array rs ss old mid new values on done left = left

pub left_before : (e : Fault) (array : Option (List Block)) (rs more : List Request) (old new : Option (List ℕ)) (values : Option (List (Values Block))) → LeftBy e array rs old new values → LeftBy e array (rs ++ more) old new values
left_before fault.Disk array rs more old new values (first, r, next, answered, cuts) = (first, r, before_others rs more first r next, answered, cuts)
left_before fault.NoMemory array rs more old new values (first, r, next, is, answered, cuts) = (first, r, before_others rs more first r next, is, answered, cuts)
left_before fault.Sink array rs more old new values (first, r, next, is, cuts, printed, answered, front) = (first, r, before_others rs more first r next, is, cuts, printed, answered, front)
left_before fault.Bay array rs more old new values left = left
left_before (fault.BadLine line why) array rs more old new values left = left
left_before fault.Spent array rs more old new values left = left
left_before fault.Source array rs more old new values left = left

-- one request
pub answered_read : (array : Option (List Block)) (r : Request) (found : ℕ) (old new : Option (List ℕ)) → AreMarks array (r ∷ []) (Some found ∷ []) → Appends old new (read_text r found) → Answered array (r ∷ []) old new
answered_read array r found old new are took = (Some found ∷ [], are, rw append-nil took)

-- a request that left the disk as it was
pub left_out : (r : Request) (flight : List Request) (values mid : Option (List (Values Block))) (old : Option (List ℕ)) → IsSettled values → mid ≡ values
    → ComesAfter [] r (r ∷ []) × Answered (content_of values) [] old old × LeavesCutOf (content_of values) [] flight mid
left_out r flight values mid old settled same =
    (([], refl), answered_none (content_of values) old old (keeps_same old), rw same (settled_cuts values flight settled))

pub left_in_sink : (r : Request) (found : ℕ) (values mid : Option (List (Values Block))) (old new : Option (List ℕ)) → IsSettled values → mid ≡ values → r.kind ≡ kind.Read
    → AreMarks (content_of values) (r ∷ []) (Some found ∷ []) → AppendsFront old new (read_text r found) → LeftBy fault.Sink (content_of values) (r ∷ []) old new mid
left_in_sink r found values mid old new settled same is are front =
    let (next, answered, cuts) = left_out r [] values mid old settled same in
    let printed : AnsweredFront (content_of values) (r ∷ []) old new = (Some found ∷ [], are, rw append-nil front) in
    ([], r, next, is, cuts, old, answered, subst (λ (now : Option (List Block)). AnsweredFront now (r ∷ []) old new) (sym (content_none (content_of values))) printed)

pub write_served : {T : Type 0} (array : Option (List Block)) (r : Request) (result : Result T Fault) (old : Option (List ℕ)) (values : Option (List (Values Block))) → r.kind ≡ kind.Write → IsOnlyDisk result
    → LeavesCutOf array [] (r ∷ []) values → Serves array (r ∷ []) result old old values
write_served array r (Ok x) old values is only cuts = (None ∷ [], write_marks array r is, appends_none old old (keeps_same old))
write_served array r (Err e) old values is only cuts = rw only ([], r, ([], refl), answered_none array old old (keeps_same old), cuts)
