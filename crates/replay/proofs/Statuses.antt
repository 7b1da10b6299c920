-- No fault has the status of success, or that of a sink that failed.
use Rattle.replay.proofs.Basics.{◌≡◌, ◌≢◌, ℕ, Bool, true, false, refl, sym, ap, ◌∙◌, ◌==◌, ◌||◌}
use Rattle.replay.proofs.Terms.{status_of, Fault, Trouble}
use Rattle.wol_config.specs.declared.config.ConfigFault.{ConfigFault}
use Rattle.report.specs.Troubles.{trouble_status}
use Rattle.wol_config.specs.declared.config.ConfigFault.TheVariants as config
use Rattle.report.specs.declared.fault.Fault.TheVariants as fault
use Rattle.report.specs.declared.trouble.Trouble.TheVariants as trouble

-- the statuses that no fault has
abbrev is_without_fault : ℕ → Bool
is_without_fault status = (status == 0) || (status == 7)

trouble_has : (t : Trouble) → is_without_fault (trouble_status t) ≡ false
trouble_has trouble.Absent = refl
trouble_has (trouble.Length bytes) = refl
trouble_has trouble.LabelDiffers = refl
trouble_has (trouble.Damaged volume block) = refl
trouble_has (trouble.Twins v first w second) = refl
trouble_has (trouble.OutsideView logger segment) = refl
trouble_has (trouble.LoggerMissing id) = refl
trouble_has trouble.Bay = refl
trouble_has trouble.Label = refl
trouble_has trouble.Home = refl
trouble_has (trouble.Segment logger index) = refl

config_has : (why : ConfigFault) → is_without_fault (status_of (fault.Config why)) ≡ false
config_has config.NoMemory = refl
config_has why = refl

fault_has : (f : Fault) → is_without_fault (status_of f) ≡ false
fault_has fault.Words = refl
fault_has (fault.Config why) = config_has why
fault_has (fault.Line line why) = refl
fault_has (fault.Volume volume t) = trouble_has t
fault_has fault.ConfigSource = refl
fault_has fault.TraceSource = refl
fault_has fault.Memory = refl
fault_has fault.Lines = refl
fault_has (fault.Versions volume) = refl

other_status : (f : Fault) (status : ℕ) → is_without_fault status ≡ true → status_of f ≢ status
other_status f status none is = let no : true ≡ false = sym none ∙ ap is_without_fault (sym is) ∙ fault_has f in absurd (cc no)

pub not_success : (f : Fault) → status_of f ≢ 0
not_success f = other_status f 0 refl

pub not_sink : (f : Fault) → status_of f ≢ 7
not_sink f = other_status f 7 refl
