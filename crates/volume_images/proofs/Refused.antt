-- An image that a bay didn't make, and one that came back with a fault.
use Rattle.std.proofs.Common.{◌≡◌, ◌≢◌, ◌⊎◌, inl, inr, ⊎_elim, ℕ, ◌+◌, ◌-◌, ◌^◌, ◌<◌, ◌≤◌, List, [], length, Option, Some, Err, refl, ap, subst, arith}
use Rattle.std.specs.Prelude.{IsSome, IsErrOf, Contains}
use Rattle.wol_disk.specs.Disk.{State, Rose}
use Rattle.wol_model.specs.Heads.{Shape}
use Rattle.wol_bay.specs.Bay.{Name, Told}
use Rattle.wol_bay.specs.Parts.{AreBlank, blocks_of, faulty_places}
use Rattle.wol_bay.specs.declared.fault.BayFault.{BayFault}
use Rattle.wol_bay.specs.declared.fault.BayFault.TheVariants as bay
use Rattle.volume_images.specs.Formatted.{place_of}
use Rattle.volume_images.specs.Left.{HasFailed, LeavesImage, fault_of_bay}
use Rattle.volume_images.specs.declared.fault.PartName.{PartName}
use Rattle.volume_images.specs.declared.fault.PartName.TheVariants as part
use Rattle.volume_images.specs.declared.fault.RackFault.TheVariants.{Failed}
use Rattle.volume_images.proofs.SettledParts.{blank_told, fault_found}

-- ---- A bay that didn't make it

pub leaves_all : (e : BayFault) (name : Name) (id : ℕ) (s : Shape) (ids : List ℕ) (t : Told) → LeavesImage (Err (fault_of_bay id e)) name id s ids t t
leaves_all bay.NoMemory name id s ids t = refl
leaves_all bay.Failed name id s ids t = refl
leaves_all bay.Absent name id s ids t = refl
leaves_all (bay.WrongLength bytes) name id s ids t = refl

pub names_volume : (e : BayFault) (id n : ℕ) (p : PartName) → fault_of_bay id e ≡ Failed n p → n ≡ id
names_volume bay.NoMemory id n p is = absurd (cc is)
names_volume bay.Failed id n p is = cc
names_volume bay.Absent id n p is = cc
names_volume (bay.WrongLength bytes) id n p is = cc

pub bay_rose : (e : BayFault) (id n old new : ℕ) (p : PartName) → (e ≡ bay.Failed) ⊎ (e ≡ bay.NoMemory) → (e ≡ bay.Failed → Rose old new) → fault_of_bay id e ≡ Failed n p → Rose old new
bay_rose bay.NoMemory id n old new p ways rose is = absurd (cc is)
bay_rose bay.Failed id n old new p ways rose is = rose refl
bay_rose bay.Absent id n old new p ways rose is = absurd (⊎_elim (λ (f : bay.Absent ≡ bay.Failed). cc f) (λ (f : bay.Absent ≡ bay.NoMemory). cc f) ways)
bay_rose (bay.WrongLength bytes) id n old new p ways rose is = absurd (⊎_elim (λ (f : bay.WrongLength bytes ≡ bay.Failed). cc f) (λ (f : bay.WrongLength bytes ≡ bay.NoMemory). cc f) ways)

pub bay_calm : (e : BayFault) (id old new : ℕ) → ((e ≡ bay.Failed → ⊥) → new ≡ old) → ((n : ℕ) (p : PartName) → fault_of_bay id e ≡ Failed n p → ⊥) → new ≡ old
bay_calm bay.NoMemory id old new calm none = calm (λ (f : bay.NoMemory ≡ bay.Failed). cc f)
bay_calm bay.Failed id old new calm none = absurd (none id part.Bay refl)
bay_calm bay.Absent id old new calm none = absurd (none id part.Bay refl)
bay_calm (bay.WrongLength bytes) id old new calm none = absurd (none id part.Bay refl)

-- ---- Parts that came back

pub rose_since : (old mid new : ℕ) → old ≤ mid → Rose mid new → Rose old new
rose_since old mid new le rose = ⊎_elim (λ (lt : mid < new). inl (omega (arith, le, lt))) (λ (top : 2 ^ 64 - 1 ≤ new). inr top) rose

pub not_empty : (xs : List ℕ) (x : ℕ) → Contains xs x → xs ≢ []
not_empty xs x there e = let n : length xs ≡ 0 = ap length e in omega (arith, n, there.1)

module _ {D : Type 0} (state : D → State) where
  pub some_fault : (parts : List D) (p : PartName) → HasFailed state parts p → faulty_places state parts ≢ []
  some_fault parts p fails = not_empty (faulty_places state parts) (0 + place_of p) (fault_found state 0 parts (place_of p) fails.within fails.fault)

  pub blank_tells : (told : Option Told) (sizes : List ℕ) (parts : List D) → AreBlank state told sizes parts → (t : Told) → told ≡ Some t → IsSome (blocks_of state parts)
  blank_tells told sizes parts blank t e = blank_told state t sizes parts (subst (λ (o : Option Told). AreBlank state o sizes parts) e blank)

pub same_error : {T E : Type 0} {x y : E} → IsErrOf {T = T} (Err x) y → x ≡ y
same_error e = cc
