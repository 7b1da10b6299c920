-- A rack with which nothing was done.
use Rattle.std.proofs.Common.{◌≡◌, List, [], ◌∷◌, refl, sym, subst}
use Rattle.std.specs.Prelude.{All, Bool, IsTrue, Result, Ok, Err, IfOk, OnErr}
use Rattle.std.specs.List.{AllZip}
use Rattle.wol_disk.specs.Disk.{State}
use Rattle.wol_bay.specs.Bay.{BayState}
use Rattle.wol_config.specs.declared.config.Config.{Config}
use Rattle.spin_model.specs.Spindles.{SpindleView}
use Rattle.volume_images.specs.Left.{IsTold}
use Rattle.rack.specs.Closes.{IsQuiet}
use Rattle.rack.specs.Opens.{LeavesAll}
use Rattle.rack.proofs.OpenedAll.{quiet_stations}
use Rattle.rack_parts.specs.declared.rack.Rack.{Rack}
use Rattle.rack.specs.Again.{IsRackAgain}
use Rattle.rack.specs.Sessions.{OpensAndCloses}

each_self : {X : Type 0} (R : X → X → Type 0) → ((x : X) → R x x) → (xs : List X) → AllZip R xs xs
each_self R self [] = tt
each_self R self (x ∷ xs) = (self x, each_self R self xs)

-- it has all that it came with
pub again_self : {D : Type 0} (r : Rack D) → IsRackAgain r r
again_self r = record {
  only = refl;
  keepers = each_self _ (λ p. record { same = (refl, refl); free = λ f. f }) r.keepers.items;
  stations = each_self _ (λ s. record { id = refl; lock = refl; passes = λ p. p }) r.stations.items;
}

-- and each image that it leaves recovers to what it did
pub left_idle : {D : Type 0} (tells : Bool) (state : D → State) (config : Config) (old new : BayState) (spindles : List SpindleView)
    → OpensAndCloses tells state config (λ before after. after ≡ before) old new spindles → IsTrue tells → IsTold (LeavesAll tells state config old new) old.told new.told
left_idle tells state config old new spindles session telling =
    session.left telling (subst (λ (r : Rack _). All (λ s. IsQuiet s) r.stations.items) (sym session.done) (quiet_stations session.before.stations.items session.opened.fresh))

-- whether it could be opened or not
pub left_either : {C E : Type 0} (spindles_of : C → List SpindleView) {D : Type 0} (tells : Bool) (state : D → State) (config : Config) (old new : BayState) (answer : Result C E)
    → IfOk answer (λ c. OpensAndCloses tells state config (λ before after. after ≡ before) old new (spindles_of c))
    → OnErr answer (IsTrue tells → IsTold (LeavesAll tells state config old new) old.told new.told)
    → IsTrue tells → IsTold (LeavesAll tells state config old new) old.told new.told
left_either spindles_of tells state config old new (Ok c) did left = left_idle tells state config old new (spindles_of c) did
left_either spindles_of tells state config old new (Err e) did left = left
