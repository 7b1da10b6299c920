-- What is printed of the volumes that were cleaned.
use Rattle.std.specs.Prelude.{ℕ, ◌+◌, Bool, true, false, List, [], ◌∷◌, ◌++◌, codes, decimal}
use Rattle.wol_config.specs.Documents.{names_of}
use Rattle.wol_config.specs.declared.config.Config.{Config}
use Rattle.report.specs.Names.{name_at}
use Rattle.report.specs.Words.{line_of}
use Rattle.report.specs.declared.fault.Fault.{Fault}
use Rattle.report.specs.declared.fault.Fault.TheVariants.{Memory, Versions, Volume}
use Rattle.rack.specs.Troubles.{trouble_of_part}
use Rattle.log_cleaner.specs.declared.answer.Cleaned.{Cleaned}
use Rattle.log_cleaner.specs.declared.answer.CleanFault.{CleanFault}
use Rattle.log_cleaner.specs.declared.answer.CleanFault.TheVariants.{DiskFault, VersionsSpent, NoMemory}

-- the word behind the others where room was missing
abbrev pub full_words : Bool → List (List ℕ)
full_words true = codes "full" ∷ []
full_words false = []

-- the line of a volume of this name: how many records it had and has, and how many blocks were
-- copied
abbrev pub clean_line : (name : List ℕ) → Cleaned → List ℕ
clean_line name c = line_of (codes "clean" ∷ name ∷ codes "records" ∷ decimal c.before ∷ codes "to"
    ∷ decimal c.after ∷ codes "copied" ∷ decimal c.copied ∷ full_words c.full)

-- the lines of these volumes, from this number on
abbrev pub lines_from : (number : ℕ) → Config → List Cleaned → List ℕ
lines_from number config [] = []
lines_from number config (c ∷ cs) = clean_line (name_at (names_of config.volumes.items) number) c
    ++ lines_from (number + 1) config cs

-- the lines of the first volumes
abbrev pub lines_of : Config → List Cleaned → List ℕ
lines_of config cs = lines_from 0 config cs

-- what ends the command where the volume with this number was refused
abbrev pub fault_of : (number : ℕ) → CleanFault → Fault
fault_of number (DiskFault p) = Volume number (trouble_of_part p)
fault_of number VersionsSpent = Versions number
fault_of number NoMemory = Memory
