-- What requests leave of a disk and of a sink.
use Rattle.std.specs.Prelude.{◌≡◌, ℕ, ◌≤◌, ⊤, List, [], ◌∷◌, ◌++◌, Option, None, Some, option_map, Result, MatchResult}
use Rattle.std.specs.Io.KnownBytes.{Appends}
use Rattle.wol_disk.specs.Disk.{Block, IsImageOf, Rose, Values, only, reads}
use Rattle.wol_io.specs.Streams.{AppendsFront}
use Rattle.wol_model.specs.Blocks.{after}
use Rattle.wol_model.specs.History.{IsCut}
use Rattle.wol_model.specs.Trace.{Request, payloads}
use Rattle.wol_model.specs.declared.trace.Kind.TheVariants as kind
use Rattle.solo.specs.declared.fault.Fault.{Fault}
use Rattle.solo.specs.declared.fault.Fault.TheVariants as fault
use Rattle.solo.specs.Texts.{AreMarks, read_lines}

-- what a disk reads as, where it tells its content
abbrev pub content_of : Option (List (Values Block)) → Option (List Block)
content_of values = option_map reads values

-- the same after the writes among requests
abbrev pub content_after : List Request → Option (List Block) → Option (List Block)
content_after rs array = option_map (λ a. after a (payloads 0 rs)) array

-- each block of a disk has one value, as after a sync
abbrev pub IsSettled : Option (List (Values Block)) → Type 0
IsSettled values = values ≡ option_map only (content_of values)

-- A stop leaves the array after the answered writes, and maybe some blocks of the write in flight:
-- where the array was told, a disk is there that tells its blocks.
abbrev pub LeavesCutOf : (array : Option (List Block)) → (answered flight : List Request)
    → (values : Option (List (Values Block))) → Type 0
LeavesCutOf None answered flight values = ⊤
LeavesCutOf (Some a) answered flight None = ⊥
LeavesCutOf (Some a) answered flight (Some vs) = (image : List Block) → IsImageOf (Some vs) image
    → IsCut a (payloads 0 answered) (payloads 0 flight) image

-- the sink took the lines of the reads
abbrev pub Answered : (array : Option (List Block)) → List Request → (old new : Option (List ℕ))
    → Type 0
Answered array rs old new =
    (marks : List (Option ℕ)) × AreMarks array rs marks × Appends old new (read_lines rs marks)

-- .. or a front of them
abbrev pub AnsweredFront : (array : Option (List Block)) → List Request
    → (old new : Option (List ℕ)) → Type 0
AnsweredFront array rs old new =
    (marks : List (Option ℕ)) × AreMarks array rs marks × AppendsFront old new (read_lines rs marks)

-- of these requests this one comes directly after the first ones
abbrev pub ComesAfter : (first : List Request) → Request → List Request → Type 0
ComesAfter first r rs = (rest : List Request) × (rs ≡ first ++ r ∷ rest)

-- How requests end that weren't all answered: all before one were, and at that one the disk, the
-- sink or memory failed. It may be in flight where a call of the disk failed, and nothing
-- elsewhere; a sink that failed took a front of its line.
abbrev pub LeftBy : Fault → (array : Option (List Block)) → List Request
    → (old new : Option (List ℕ)) → (values : Option (List (Values Block))) → Type 0
LeftBy fault.Disk array rs old new values =
    (first : List Request) × (r : Request) × ComesAfter first r rs
    × Answered array first old new × LeavesCutOf array first (r ∷ []) values
LeftBy fault.NoMemory array rs old new values =
    (first : List Request) × (r : Request) × ComesAfter first r rs × (r.kind ≡ kind.Read)
    × Answered array first old new × LeavesCutOf array first [] values
LeftBy fault.Sink array rs old new values =
    (first : List Request) × (r : Request) × ComesAfter first r rs × (r.kind ≡ kind.Read)
    × LeavesCutOf array first [] values
    × (mid : Option (List ℕ)) × Answered array first old mid
    × AnsweredFront (content_after first array) (r ∷ []) mid new
LeftBy fault.Bay array rs old new values = ⊥
LeftBy (fault.BadLine line why) array rs old new values = ⊥
LeftBy fault.Spent array rs old new values = ⊥
LeftBy fault.Source array rs old new values = ⊥

-- what requests in order leave of the sink, and of the disk where they weren't all answered
abbrev pub Serves : {T : Type 0} → (array : Option (List Block)) → List Request → Result T Fault
    → (old new : Option (List ℕ)) → (values : Option (List (Values Block))) → Type 0
Serves array rs result old new values =
    MatchResult result (λ _. Answered array rs old new) (λ e. LeftBy e array rs old new values)

-- a count of faults never falls: it rose where a call is answered so, and is else as before
pub record Counts (failed : Type 0) (before now : ℕ) : Type 0 where
  pub cause : failed → Rose before now
  pub calm : ¬ failed → now ≡ before
  pub later : before ≤ now

-- the only refusal is that of the disk
abbrev pub IsOnlyDisk : {T : Type 0} → Result T Fault → Type 0
IsOnlyDisk result = MatchResult result (λ _. ⊤) (λ e. e ≡ fault.Disk)
