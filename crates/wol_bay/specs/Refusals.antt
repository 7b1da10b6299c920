-- Why an image doesn't go out as parts of these sizes.
use Rattle.std.specs.Prelude.{◌≡◌, ◌*◌, ◌⊎◌, ℕ, nat_eq, sum, List, Option, None, Some, option_map, option_and_then, Result, IfErr, IsErrOf, if◌then◌else◌}
use Rattle.wol_disk.specs.Disk.{Block, Values}
use Rattle.wol_bay.specs.Bay.{Name, Image, Told, at_name, byte_length}
use Rattle.wol_bay.specs.declared.fault.BayFault.{BayFault}
use Rattle.wol_bay.specs.declared.fault.BayFault.TheVariants.{Absent, WrongLength, Failed, NoMemory}

-- the image is there and has as many bytes as the parts together
abbrev pub refusal_of : List ℕ → Option Image → Option BayFault
refusal_of sizes None = Some Absent
refusal_of sizes (Some i) =
    if nat_eq (byte_length i) (512 * sum sizes) then None else Some (WrongLength (byte_length i))

abbrev pub refusal : Name → List ℕ → Told → Option BayFault
refusal name sizes t = refusal_of sizes (at_name name t.images)

-- a bay answers that, and else at most that it failed or had no memory
abbrev pub IsAnswered : {T : Type 0} → Option BayFault → Result T BayFault → Type 0
IsAnswered (Some fault) result = IsErrOf result fault
IsAnswered None result = IfErr result (λ e. (e ≡ Failed) ⊎ (e ≡ NoMemory))

-- the blocks of an image, where the bay tells them
abbrev pub blocks_at : Name → Option Told → Option (List (Values Block))
blocks_at name told = option_and_then (λ t. option_map (λ i. i.blocks) (at_name name t.images)) told
