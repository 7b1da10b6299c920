-- What is printed of a run.
use Rattle.std.specs.Prelude.{◌≡◌, ℕ, ⊤, List, [], ◌∷◌, ◌++◌, codes, decimal, Option, None, Some}
use Rattle.wol_disk.specs.Disk.{Block}
use Rattle.wol_model.specs.Trace.{Request, plain}
use Rattle.wol_model.specs.declared.trace.Kind.{Kind}
use Rattle.wol_model.specs.declared.trace.Kind.TheVariants as kind
use Rattle.solo.specs.declared.tally.Tally.{Tally}

-- the line of a read: its line in the trace, its first block, the number of its blocks, and the
-- mark of what it read
unfoldable pub read_text : Request → (mark : ℕ) → List ℕ
read_text r mark =
    codes "read " ++ (decimal r.line ++ (codes " "
    ++ (decimal r.first
    ++ (codes " " ++ (decimal r.count ++ (codes " " ++ (decimal mark ++ codes "\n")))))))

-- a read has a mark, and is printed; a write has none
abbrev pub text_of : Request → (mark : Option ℕ) → List ℕ
text_of r None = []
text_of r (Some mark) = read_text r mark

-- the lines of the reads among requests, in order, with a mark or none for each request
abbrev pub read_lines : List Request → (marks : List (Option ℕ)) → List ℕ
read_lines [] marks = []
read_lines (r ∷ rs) [] = []
read_lines (r ∷ rs) (mark ∷ marks) = text_of r mark ++ read_lines rs marks

-- a mark for a read, and none for a write
abbrev pub HasMark : Kind → Option ℕ → Type 0
HasMark kind.Read None = ⊥
HasMark kind.Read (Some mark) = ⊤
HasMark kind.Write None = ⊤
HasMark kind.Write (Some mark) = ⊥

abbrev pub HaveMarks : List Request → List (Option ℕ) → Type 0
HaveMarks [] [] = ⊤
HaveMarks [] (mark ∷ marks) = ⊥
HaveMarks (r ∷ rs) [] = ⊥
HaveMarks (r ∷ rs) (mark ∷ marks) = HasMark r.kind mark × HaveMarks rs marks

-- the marks of requests: those that the plain array answers, where it is told
abbrev pub AreMarks : (array : Option (List Block)) → List Request → List (Option ℕ) → Type 0
AreMarks None rs marks = HaveMarks rs marks
AreMarks (Some array) rs marks = marks ≡ plain (λ _. array) rs

-- the last line
unfoldable pub summary_text : Tally → List ℕ
summary_text t =
    codes "solo lines " ++ (decimal t.lines
    ++ (codes " blank " ++ (decimal t.blank ++ (codes " skipped " ++ (decimal t.skipped
    ++ (codes " reads "
    ++ (decimal t.reads ++ (codes " writes " ++ (decimal t.writes ++ codes "\n")))))))))
