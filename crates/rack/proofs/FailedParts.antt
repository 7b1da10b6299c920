-- The part that refuses a volume: it is here with a fault, or it came back with one.
use Rattle.rack.proofs.Basics.{◌≡◌, ◌⊎◌, inl, inr, ⊎_elim, ℕ, List, ◌++◌, length, Option, Some, sym, ap, subst, ◌∙◌, append_assoc, arith, Bool, slice_get, length-map, Contains-append_right}
use Rattle.rack.proofs.Basics.{slice_get_within}
use Rattle.rack.proofs.Terms.{State, Rose, BayState, Name, Told, Config, VolumeConf, Part, DiskFault, IsTold, shape_in, shapes_of, ImageFault, CameBackFaulty, HasFaultAt, HasFaultIn}
use Rattle.rack.proofs.Terms.{HasFaultyPart, IsNamedHere, IsPartHere, ListsFaulty, part_named, place_in, AreRefused, HasFaulty, HasNewFault, fault_in_image, IsImageOut, Rack, Rest, Refused}
use Rattle.rack.proofs.Terms.{IsCallFault}
use Rattle.wol_promise.specs.Policy.{PartName}
use Rattle.rack.proofs.Places.{some_at}
use Rattle.rack.proofs.NewFaults.{told_each}
use Rattle.rack.proofs.Asking.{told_then}
use Rattle.manager.specs.declared.part.Part.TheVariants as part
use Rattle.volume_images.specs.declared.reading.ImageFault.TheVariants as fault

-- a fault of a disk that refuses an image comes of a call that failed
pub call_failed : (k : ℕ) (p : Part) (f : ImageFault) → Refused (DiskFault p) ≡ fault_in_image k f → IsCallFault f
call_failed k p (fault.Damaged block) e = absurd (cc e)
call_failed k p fault.LabelDiffers e = absurd (cc e)
call_failed k p fault.LabelFault e = absurd (cc e)
call_failed k p (fault.SegmentFault index) e = tt

-- the part of a name is a part
pub fault_in : {D : Type 0} (state : D → State) (r : Rest D) (name : Part) → HasFaultAt state r name → HasFaultIn state r
fault_in {D} state r name has = record { part = has.part; here = go name has.here; fault = has.fault }
  where
    go : (n : Part) → IsNamedHere r n has.part → IsPartHere r has.part
    go (part.Home volume) x = inl (volume, x.0, x.1, inr x.2)
    go (part.Segment volume index) x = inr (volume, index, x)

-- a volume that is refused for a fault of a disk: a part is here that had one, or the bay's count rose
pub part_failed : {D : Type 0} (tells : Rattle.std.specs.Prelude.Bool) (state : D → State) (config : Config) (old new : BayState) (r : Rack D) → length r.faults.items ≡ length (shapes_of config) → AreRefused tells state config old new r
    → ((k : ℕ) (p : Part) → slice_get r.faults.items k ≡ Some (Some (Refused (DiskFault p))) → IsImageOut r.rest.images.items k → HasFaultAt state r.rest p)
    → (k : ℕ) (p : Part) → slice_get r.faults.items k ≡ Some (Some (Refused (DiskFault p))) → HasFaultIn state r.rest ⊎ Rose old.faults new.faults
part_failed tells state config old new r count refused failed k p at =
    let within = slice_get_within r.faults.items k (Some (Refused (DiskFault p))) at in
    let v = some_at config.volumes.items k (let n = length-map config.volumes.items (shape_in config) in omega (arith, within, count, n)) in
    ⊎_elim
    (λ image. inr (image.cause (call_failed k p image.image_fault image.is_fault)))
    (λ opening. inl (fault_in state r.rest p (failed k p at opening.is_out)))
    (refused k v.0 (Refused (DiskFault p)) v.1 at)

-- closing lists more parts
pub gained_parts : {D : Type 0} (state : D → State) (config : Config) (r : Rest D) (o n : Option Told) → IsTold (ListsFaulty state config r) o n → IsTold HasFaulty o n
gained_parts state config r o n = told_each (ListsFaulty state config r) HasFaulty o n (λ x y l. (l.more, l.more_is))

-- a part that came back with a fault since opening did so since entry
pub faulty_since : (tells : Bool) (config : Config) (owner : ℕ) (view : List ℕ) (name : PartName) (e o n : Option Told) → IsTold HasFaulty e o → IsTold (HasFaultyPart tells config owner view name) o n
    → IsTold (HasFaultyPart tells config owner view name) e n
faulty_since tells config owner view name e o n = told_then HasFaulty (HasFaultyPart tells config owner view name) (HasFaultyPart tells config owner view name) e o n (λ x y z is had part. record {
  more = had.0 ++ part.more;
  more_is = part.more_is ∙ ap (λ (fs : List (Name × ℕ)). fs ++ part.more) had.1 ∙ append_assoc x.faulty had.0 part.more;
  conf = part.conf;
  conf_is = part.conf_is;
  among = Contains-append_right had.0 part.more (part.conf.name, place_in (part_named owner name)) part.among;
  lies = part.lies;
})

-- a part of this image that failed came back with a fault
image_part : (config : Config) (k : ℕ) (p : Part) (v : VolumeConf) (f : ImageFault) (old new : Told) → slice_get config.volumes.items k ≡ Some v → Refused (DiskFault p) ≡ fault_in_image k f → HasNewFault v.name f old new → CameBackFaulty config p old new
image_part config k p v (fault.Damaged block) old new at e has = absurd (cc e)
image_part config k p v fault.LabelDiffers old new at e has = absurd (cc e)
image_part config k p v fault.LabelFault old new at e has = absurd (cc e)
image_part config k p v (fault.SegmentFault index) old new at e has =
    let same : p ≡ part.Segment k index = cc e in
    subst (λ (q : Part). CameBackFaulty config q old new) (sym same) (has.more, has.more_is, (v, at, has.among))

-- The part that refuses a volume came back with a fault, once the rack was closed.
pub part_came_back : {D : Type 0} (tells : Rattle.std.specs.Prelude.Bool) (state : D → State) (config : Config) (old bay new : BayState) (r : Rack D) → length r.faults.items ≡ length (shapes_of config) → AreRefused tells state config old new r
    → ((k : ℕ) (p : Part) → slice_get r.faults.items k ≡ Some (Some (Refused (DiskFault p))) → IsImageOut r.rest.images.items k → HasFaultAt state r.rest p)
    → IsTold HasFaulty old.told bay.told → IsTold (ListsFaulty state config r.rest) bay.told new.told
    → (k : ℕ) (p : Part) → slice_get r.faults.items k ≡ Some (Some (Refused (DiskFault p))) → IsTold (CameBackFaulty config p) old.told new.told
part_came_back tells state config old bay new r count refused failed first then k p at =
    let within = slice_get_within r.faults.items k (Some (Refused (DiskFault p))) at in
    let v = some_at config.volumes.items k (let n = length-map config.volumes.items (shape_in config) in omega (arith, within, count, n)) in
    ⊎_elim
    (λ image. told_each (HasNewFault v.0.name image.image_fault) (CameBackFaulty config p) old.told new.told
    (λ x y has. image_part config k p v.0 image.image_fault x y v.1 image.is_fault has) (image.faulty (call_failed k p image.image_fault image.is_fault)))
    (λ opening. told_then HasFaulty (ListsFaulty state config r.rest) (CameBackFaulty config p) old.told bay.told new.told (λ x y z is had lists.
    let found = lists.each p (failed k p at opening.is_out) in (
      had.0 ++ lists.more,
      lists.more_is ∙ ap (λ (fs : List (Name × ℕ)). fs ++ lists.more) had.1 ∙ append_assoc x.faulty had.0 lists.more,
      (found.0, found.1, Contains-append_right had.0 lists.more (found.0.name, place_in p) found.2),
    )) first then)
    (refused k v.0 (Refused (DiskFault p)) v.1 at)
