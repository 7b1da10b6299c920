-- What follows from the run of a bay.
use Rattle.rack.proofs.ClosingBasics.{◌≡◌, ℕ, Bool, false, List, Option, Some, ap, sym, ◌∙◌, subst, slice_get, All, All-contains}
use Rattle.rack.proofs.ClosingTerms.{BayState, IsQuiet, IsStation, Rack, Block, Told, Images, image_of, accepted, all_segments, home_in, writes, entries_of, Config, shapes_of, images_read, recovered_but}
use Rattle.wol_model.specs.History.{in_flight}
use Rattle.wol_model.specs.Heads.{Shape}
use Rattle.wol_model.specs.Images.{recovered_from}
use Rattle.wol_model.specs.Recovered.{recovered}
use Rattle.rack.specs.BayRuns.{History, HoldsVolume, QuietRun, WasBegun, WritesNothing}
use Rattle.rack.specs.Laws.{QuietKeeps}
use Rattle.rack.specs.RackRuns.{RunsRack}
use Rattle.rack.proofs.FinalImages.{cut_none}
use Rattle.rack.proofs.LeftImage.{accepted_same}
use Rattle.rack.proofs.Unbroken.{writes_nothing}

-- a volume whose image isn't refused recovers from the images that aren't as from all where those that are give no segments
accepted_array : (shapes : List Shape) (refused : ℕ → Bool) (images : Images) (v : ℕ) → refused v ≡ false → recovered_from shapes (accepted refused images) v ≡ recovered_but shapes refused images v
unfolding recovered_from
accepted_array shapes refused images v own = ap (λ (i : Option (List Block)). recovered v (home_in (slice_get shapes v) i) (all_segments shapes (accepted refused images))) (accepted_same refused images v own)

-- to an open volume whose history wrote nothing nothing was done
pub quiet_keeps : QuietKeeps
quiet_keeps config refused h entry images was holds quiet =
    cut_none h.base.array (writes (entries_of h.notes)) (in_flight (entries_of h.notes)) (recovered_but (shapes_of config) refused images h.base.owner) quiet.none quiet.calm holds.array
    ∙ was.begun.array ∙ accepted_array (shapes_of config) refused (images_read config entry) h.base.owner was.own

-- nor was anything written where no station wrote
pub quiet_of : {D : Type 0} (tells : Bool) (config : Config) (old new : BayState) (r : Rack D) (runs : RunsRack tells config old new r) → All (λ s. IsStation s) r.stations.items → All (λ s. IsQuiet s) r.stations.items
    → (v : ℕ) (h : History) → runs.run.histories v ≡ Some h → WritesNothing h
quiet_of tells config old new r runs stations quiet v h at =
    let (s, has, id, its) = runs.only v h at in
    writes_nothing s h (All-contains (λ t. IsStation t) r.stations.items s stations has) its (All-contains (λ t. IsQuiet t) r.stations.items s quiet has)

pub quiet_run : {D : Type 0} (tells : Bool) (config : Config) (old new : BayState) (r : Rack D) → RunsRack tells config old new r → All (λ s. IsStation s) r.stations.items → All (λ s. IsQuiet s) r.stations.items → QuietRun tells config old new
quiet_run tells config old new r runs stations quiet = record { run = runs.run; quiet = quiet_of tells config old new r runs stations quiet }
