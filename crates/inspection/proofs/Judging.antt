-- What is told of a volume, by the answer of the look at it.
use Rattle.std.proofs.Common.{◌≡◌, ◌⊎◌, inl, inr, ℕ, Bool, List, [], ◌++◌, Option, None, Some, Result, Ok, Err, refl, sym, ap, subst, ◌∙◌}
use Rattle.std.specs.Prelude.{OnErr}
use Rattle.wol_disk.specs.Disk.{State}
use Rattle.wol_config.specs.declared.config.Config.{Config}
use Rattle.manager.specs.declared.part.Part.{Part}
use Rattle.inspection.specs.declared.fault.DumpFault.{DumpFault}
use Rattle.inspection.specs.declared.fault.DumpFault.TheVariants.{DiskFault, Down, NoMemory}
use Rattle.report.specs.declared.trouble.Trouble.{Trouble}
use Rattle.rack.specs.Troubles.{trouble_of_part}
use Rattle.rack_parts.specs.declared.rack.Rack.{Rack}
use Rattle.inspection.specs.Lines.{IsTelling, LooksAtVolume, trouble_line, trouble_told}
use Rattle.inspection.specs.declared.asked.Asked.{Asked}

module _ {D : Type 0} (tells : Bool) (state : D → State) (config : Config) (asked : Asked) (r q : Rack D) (k : ℕ) where
  abbrev Looks : Result (Unit {0}) DumpFault → List ℕ → Type 0
  Looks answer text = LooksAtVolume tells state config asked r q k answer text

  -- where that is told of a part, the line of the part is behind nothing
  telling_part : (answer : Result (Unit {0}) DumpFault) (p : Part) (before text : List ℕ) (o : Option Trouble) (t : Trouble) → (answer ≡ Err (DiskFault p)) ⊎ (answer ≡ Err (Down p)) → Looks answer before → before ≡ [] → o ≡ Some (trouble_of_part p) → o ≡ Some t
      → text ≡ before ++ trouble_line config k t → IsTelling tells state config asked r q k (record { trouble = o; text = text })
  telling_part answer p before text o t failed looks empty is some line =
      let same : t ≡ trouble_of_part p = (let e : Some t ≡ Some (trouble_of_part p) = sym some ∙ is in cc) in
      inr (inr (record {
        part = p;
        answer = answer;
        is_answer = failed;
        looked = subst (Looks answer) empty looks;
        trouble = is;
        text = line ∙ ap (λ (x : List ℕ). x ++ trouble_line config k t) empty ∙ ap (trouble_line config k) same;
      }))

  -- a call of a disk failed
  pub telling_failed : (answer : Result (Unit {0}) DumpFault) (before text : List ℕ) (o : Option Trouble) (t : Trouble) → Looks answer before → OnErr answer (before ≡ []) → o ≡ trouble_told answer → o ≡ Some t
      → text ≡ before ++ trouble_line config k t → IsTelling tells state config asked r q k (record { trouble = o; text = text })
  telling_failed (Ok done) before text o t looks empty is some line = absurd (let no : None ≡ Some t = sym is ∙ some in cc)
  telling_failed (Err (DiskFault p)) before text o t looks empty is some line = telling_part (Err (DiskFault p)) p before text o t (inl refl) looks empty is some line
  telling_failed (Err (Down p)) before text o t looks empty is some line = telling_part (Err (Down p)) p before text o t (inr refl) looks empty is some line
  telling_failed (Err NoMemory) before text o t looks empty is some line = absurd (let no : None ≡ Some t = sym is ∙ some in cc)

  -- it is in order
  pub telling_order : (answer : Result (Unit {0}) DumpFault) (text : List ℕ) (o : Option Trouble) → Looks answer text → o ≡ trouble_told answer → (answer ≡ Err NoMemory → ⊥) → o ≡ None
      → IsTelling tells state config asked r q k (record { trouble = o; text = text })
  telling_order (Ok done) text o looks is memory none = inr (inl (record { looked = looks; trouble = none }))
  telling_order (Err (DiskFault p)) text o looks is memory none = absurd (let no : Some (trouble_of_part p) ≡ None = sym is ∙ none in cc)
  telling_order (Err (Down p)) text o looks is memory none = absurd (let no : Some (trouble_of_part p) ≡ None = sym is ∙ none in cc)
  telling_order (Err NoMemory) text o looks is memory none = absurd (memory refl)
