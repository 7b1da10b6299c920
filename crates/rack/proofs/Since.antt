-- What opening, a work and closing come to, told of the bay before them.
use Rattle.std.proofs.Common.{◌≡◌, ◌<◌, ◌≤◌, ◌++◌, ◌⊎◌, inl, inr, ℕ, zero, suc, Bool, true, false, not, List, [], ◌∷◌, length, map, Option, None, Some, is_some, refl, sym, ap, subst, ◌∙◌, arith}
use Rattle.std.specs.Prelude.{All, Contains, IfSome, IsTrue, slice_get, slice_index_or}
use Rattle.std.specs.Option.{option_map}
use Rattle.std.proofs.lemmas.List.{length-map}
use Rattle.std.proofs.lemmas.Option.{slice_get_within, slice_get-get_or, get_or_from_slice_get}
use Rattle.wol_disk.specs.Disk.{State, Rose}
use Rattle.wol_model.specs.Images.{AreSound}
use Rattle.wol_bay.specs.Bay.{BayState, Name, Told, at_name, outs}
use Rattle.wol_config.specs.declared.config.Config.{Config}
use Rattle.wol_config.specs.declared.config.VolumeConf.{VolumeConf}
use Rattle.spin_model.specs.Spindles.{SpindleView}
use Rattle.manager.specs.declared.part.Part.{Part}
use Rattle.manager.specs.declared.station.Station.{Station}
use Rattle.manager_recovery.specs.declared.refusal.OpenRefusal.TheVariants.{DiskFault}
use Rattle.volume_images.specs.Left.{IsTold}
use Rattle.volume_images.specs.Volumes.{NoneOut, images_read, shape_in, shapes_of}
use Rattle.rack.specs.Closes.{AreLeftOfParts, CameBackFaulty, HasFaultAt, HasFaultIn, IsQuiet, LeavesOpen, LeavesUnopened, LeavesVolumes, ListsFaulty, has_station, is_kept_home}
use Rattle.rack.specs.Closing.{LeavesNoneOut}
use Rattle.rack.specs.Opens.{AreRefused, BeganWith, HasFaulty, KeepsAllSound, KeepsOthers, LeavesAll, RefusesVolume, WereThere}
use Rattle.rack.specs.Rests.{out_names, IsImageOut, image_here}
use Rattle.rack.specs.Owners.{HadRefused}
use Rattle.rack.specs.Racks.{IsOpenBase, IsRack, IsStation, base_of_station}
use Rattle.rack_parts.specs.declared.rack.ImageRest.{ImageRest}
use Rattle.rack_parts.specs.declared.rack.Rack.{Rack}
use Rattle.rack_parts.specs.declared.rack.Rest.{Rest}
use Rattle.rack_parts.specs.declared.volume_fault.VolumeFault.{VolumeFault}
use Rattle.rack_parts.specs.declared.volume_fault.VolumeFault.TheVariants as fault
use Rattle.rack.proofs.Asking.{refuses_later, rose_on}
use Rattle.rack.proofs.FailedParts.{part_came_back, part_failed}
use Rattle.rack.proofs.NewFaults.{told_each, told_with}
use Rattle.rack.proofs.StillThere.{kept_home, there_left}
use Rattle.rack.proofs.ImagesSent.{none_named}
use Rattle.rack.specs.RackRuns.{BeganIn, RunsRack}
use Rattle.rack.specs.Again.{IsRackAgain}
use Rattle.rack.specs.Sessions.{IsClosed, IsOpened, OpensAndCloses}
use Rattle.rack.proofs.RacksAgain.{began_again, rest_again, views_again}

-- ---- Names that are out

none_told : (config : Config) (o : Option Told) → IfSome (option_map (λ (t : Told). t.out) o) (λ os. All (λ (v : VolumeConf). at_name v.name os ≡ None) config.volumes.items)
    → All (λ (v : VolumeConf). IfSome o (λ t. at_name v.name t.out ≡ None)) config.volumes.items
none_told config None none = λ k d within. tt
none_told config (Some t) none = none

-- where the same names are out, none of the configuration is
pub none_out_still : (config : Config) (b d : BayState) → outs d ≡ outs b → NoneOut config b → NoneOut config d
none_out_still config b d same none =
    none_told config d.told (subst (λ (os : Option (List (Name × List ℕ))). IfSome os (λ names. All (λ (v : VolumeConf). at_name v.name names ≡ None) config.volumes.items)) (sym same) (none_named config b none))

-- the names that went out came back
pub home_again : {D : Type 0} (config : Config) (b d e : BayState) (r q : Rack D) → q.rest ≡ r.rest → NoneOut config b
    → outs d ≡ option_map (λ (os : List (Name × List ℕ)). os ++ out_names config config.volumes.items r.rest.images.items) (outs b) → LeavesNoneOut config q.rest.images.items (outs d) (outs e) → outs e ≡ outs b
home_again {D} config b d e r q rest none out home = home.again (outs b) (none_named config b none)
    (out ∙ ap (λ (w : Rest D). option_map (λ (os : List (Name × List ℕ)). os ++ out_names config config.volumes.items w.images.items) (outs b)) (sym rest))

-- ---- What is told in two steps

if_some : (P Q : Told → Type 0) (o : Option Told) → ((t : Told) → P t → Q t) → IfSome o P → IfSome o Q
if_some P Q None each is = tt
if_some P Q (Some t) each is = each t is

-- a step, and another behind it
told_then : (H Q R : Told → Told → Type 0) (e o n : Option Told) → IsTold H e o → IsTold Q o n → ((t x y : Told) → H t x → Q x y → R t y) → IsTold R e n
told_then H Q R None None n had told then = told
told_then H Q R None (Some o) n had told then = absurd (cc had)
told_then H Q R (Some e) None n had told then = absurd had
told_then H Q R (Some e) (Some o) None had told then = absurd told
told_then H Q R (Some e) (Some o) (Some n) had told then = then e o n had told

-- and the other is told with what was told before the first
told_since : (W : Told → Type 0) (H P Q R : Told → Told → Type 0) (e o n : Option Told) → IfSome e W → IsTold H e o → IsTold Q o n
    → ((t : Told) → W t → IsTold (λ x y. H t x → P t y) o n) → ((t x y : Told) → H t x → Q x y → P t y → R t y) → IsTold R e n
told_since W H P Q R None None n was had told closing then = told
told_since W H P Q R None (Some o) n was had told closing then = absurd (cc had)
told_since W H P Q R (Some e) None n was had told closing then = absurd had
told_since W H P Q R (Some e) (Some o) None was had told closing then = absurd told
told_since W H P Q R (Some e) (Some o) (Some n) was had told closing then = then e o n had told (closing e was had)

if_both : (V W : Told → Type 0) (o : Option Told) → IfSome o V → IfSome o W → IfSome o (λ t. V t × W t)
if_both V W None v w = tt
if_both V W (Some t) v w = (v, w)

pub rose_before : (a b d : ℕ) → a ≤ b → Rose b d → Rose a d
rose_before a b d less (inl more) = inl (omega (arith, less, more))
rose_before a b d less (inr last) = inr last

-- ---- Why an image isn't out

none_here : {D : Type 0} (k : ℕ) → image_here {D = D} [] k ≡ None
none_here zero = refl
none_here (suc k) = refl

-- a volume whose image isn't out is refused whatever other images are
pub refused_alone : {D : Type 0} (tells : Bool) (state : D → State) (config : Config) (out : List (Option (ImageRest D))) (old new : BayState) (k : ℕ) (v : VolumeConf) (f : VolumeFault) → image_here out k ≡ None
    → RefusesVolume tells state config out old new k v f → RefusesVolume tells state config [] old new k v f
refused_alone tells state config out old new k v fault.Absent home (not_out, says) = (none_here k, says)
refused_alone tells state config out old new k v (fault.WrongLength bytes) home (not_out, says) = (none_here k, says)
refused_alone tells state config out old new k v fault.BayFailed home ((not_out, says), rose) = ((none_here k, says), rose)
refused_alone tells state config out old new k v fault.LabelFault home refused = record { not_out = none_here k; image_fault = refused.image_fault; is_fault = refused.is_fault; said = refused.said; cause = refused.cause; faulty = refused.faulty }
refused_alone tells state config out old new k v (fault.Refused r) home (inl refused) = inl (record { not_out = none_here k; image_fault = refused.image_fault; is_fault = refused.is_fault; said = refused.said; cause = refused.cause; faulty = refused.faulty })
refused_alone tells state config out old new k v (fault.Refused r) home (inr refused) = absurd (let no : true ≡ false = sym refused.is_out ∙ ap is_some home in cc no)

-- the element at a place of a list that was mapped
pub unmapped : {X Y : Type 0} (f : X → Y) (xs : List X) (k : ℕ) (y : Y) → slice_get (map f xs) k ≡ Some y → (x : X) × (slice_get xs k ≡ Some x) × (f x ≡ y)
unmapped f [] k y is = absurd (cc is)
unmapped f (x ∷ xs) zero y is = (x, refl, cc is)
unmapped f (x ∷ xs) (suc k) y is = unmapped f xs k y is

-- of the element at a place
pub all_at : {X : Type 0} (P : X → Type 0) (xs : List X) (k : ℕ) (x : X) → All P xs → slice_get xs k ≡ Some x → P x
all_at P xs k x all is = subst P (get_or_from_slice_get xs k x x is) (all k x (slice_get_within xs k x is))

-- a volume with a station has its image out
pub out_of : {D : Type 0} (state : D → State) (config : Config) (b : BayState) (r : Rack D) → IsRack state config b r → (k : ℕ) → Contains (map (λ (w : Station D). w.id) r.stations.items) k → IsImageOut r.rest.images.items k
out_of {D} state config b r is k (j, less, at) =
    let (s, there, id) = unmapped (λ (w : Station D). w.id) r.stations.items j k (slice_get-get_or (map (λ (w : Station D). w.id) r.stations.items) j k less ∙ ap (λ (n : ℕ). Some n) at) in
    let station = all_at (λ (w : Station D). IsStation w) r.stations.items j s is.stations there in
    let base = all_at (λ (w : Station D). IsOpenBase config r.shared r.rest.images.items (base_of_station w)) r.stations.items j s is.bases there in
    subst (λ (n : ℕ). IsImageOut r.rest.images.items n) (station.id ∙ id) base.out

-- an image that isn't out was refused
pub refused_missing : {D : Type 0} (tells : Bool) (state : D → State) (config : Config) (bay old new : BayState) (r : Rack D) → IsRack state config bay r → AreRefused tells state config old new r
    → (k : ℕ) (v : VolumeConf) → slice_get config.volumes.items k ≡ Some v → image_here r.rest.images.items k ≡ None → (f : VolumeFault) × RefusesVolume tells state config r.rest.images.items old new k v f
refused_missing tells state config bay old new r is refused k v conf none_out = at (slice_index_or r.faults.items k None) refl
  where
    within : k < length (shapes_of config)
    within = let less = slice_get_within config.volumes.items k v conf in omega (arith, less, length-map config.volumes.items (shape_in config))

    at : (o : Option VolumeFault) → slice_index_or r.faults.items k None ≡ o → (f : VolumeFault) × RefusesVolume tells state config r.rest.images.items old new k v f
    at None none = absurd (let no : true ≡ false = sym (out_of state config bay r is k ((is.faults k within).0 none)) ∙ ap is_some none_out in cc no)
    at (Some f) some = (f, refused k v f conf (slice_get-get_or r.faults.items k None (let count = is.fault_count in omega (arith, within, count)) ∙ ap (λ (o : Option VolumeFault). Some o) some))

-- where no image of the volume is out, none is here
pub not_out : {D : Type 0} (images : List (Option (ImageRest D))) (k : ℕ) → is_kept_home images k ≡ true → image_here images k ≡ None
not_out {D} images k home = at (image_here images k) home
  where
    at : (o : Option (ImageRest D)) → not (is_some o) ≡ true → o ≡ None
    at None so = refl
    at (Some x) so = absurd (cc so)

-- ---- The whole

module _ {D : Type 0} (tells : Bool) (state : D → State) (config : Config) (old bay new : BayState) (r q : Rack D) (again : IsRackAgain r q) (opened : IsOpened tells state config old bay r)
    (sooner : old.faults ≤ bay.faults) (later : bay.faults ≤ new.faults) (kept : IsTrue tells → IsTold (HadRefused config q.rest.images.items) bay.told new.told) where
  -- what the rack that came back began with
  began : IsTrue tells → IfSome old.told (λ t. BeganWith state config t q × WereThere config q.rest.images.items t)
  began telling = if_both (λ t. BeganWith state config t q) (λ t. WereThere config q.rest.images.items t) old.told
      (if_some (λ t. BeganWith state config t r) (λ t. BeganWith state config t q) old.told (λ t is. began_again state config r q again t is) (opened.began telling))
      (subst (λ (w : Rest D). IfSome old.told (λ t. WereThere config w.images.items t)) (sym (rest_again state config r q again)) (opened.there telling))

  had : IsTrue tells → IsTold (HadRefused config q.rest.images.items) old.told bay.told
  had telling = subst (λ (w : Rest D). IsTold (HadRefused config w.images.items) old.told bay.told) (sym (rest_again state config r q again)) (opened.kept telling)

  -- the rack that came back began with the bay's images
  pub began_in : IsTold (KeepsOthers config) old.told bay.told → BeganIn tells state config old bay q
  began_in others = record {
    began = λ telling. if_some (λ t. BeganWith state config t q × WereThere config q.rest.images.items t) (λ t. BeganWith state config t q) old.told (λ t both. both.0) (began telling);
    there = λ telling. if_some (λ t. BeganWith state config t q × WereThere config q.rest.images.items t) (λ t. WereThere config q.rest.images.items t) old.told (λ t both. both.1) (began telling);
    kept = had;
    faulty = opened.faulty;
    others = others;
    counts = sooner;
  }

  then_kept : (t x y : Told) → HadRefused config q.rest.images.items t x → HadRefused config q.rest.images.items x y → HadRefused config q.rest.images.items t y
  then_kept t x y first then k v conf none c may = first k v conf none c (then k v conf none c may)

  -- what closing says of what the rack began with
  since : (P R : Told → Told → Type 0) → IsTrue tells
      → ((t : Told) → BeganWith state config t q → WereThere config q.rest.images.items t → IsTold (λ x y. HadRefused config q.rest.images.items t x → P t y) bay.told new.told)
      → ((t y : Told) → HadRefused config q.rest.images.items t y → P t y → R t y) → IsTold R old.told new.told
  since P R telling closing then =
      told_since (λ t. BeganWith state config t q × WereThere config q.rest.images.items t) (HadRefused config q.rest.images.items) P (HadRefused config q.rest.images.items) R old.told bay.told new.told
      (began telling) (had telling) (kept telling) (λ t both. closing t both.0 both.1) (λ t x y first back is. then t y (then_kept t x y first back) is)

  pub sound_since : IsTrue tells
      → ((t : Told) → BeganWith state config t q → WereThere config q.rest.images.items t → IsTold (λ x y. HadRefused config q.rest.images.items t x → KeepsAllSound config t y) bay.told new.told)
      → IsTold (KeepsAllSound config) old.told new.told
  sound_since telling closing = since (KeepsAllSound config) (KeepsAllSound config) telling closing (λ t y stays sound. sound)

  module _ (refused : AreRefused tells state config old bay r) (gained : IsTold HasFaulty bay.told new.told) where
    refused_since : AreRefused tells state config old new r
    refused_since k v f conf at = refuses_later tells state config r.rest.images.items old bay new k v f later gained (refused k v f conf at)

    -- an image that isn't out was refused
    missing : (k : ℕ) (v : VolumeConf) → slice_get config.volumes.items k ≡ Some v → image_here r.rest.images.items k ≡ None → (f : VolumeFault) × RefusesVolume tells state config r.rest.images.items old new k v f
    missing k v conf none_out = refused_missing tells state config bay old new r opened.rack refused_since k v conf none_out

    cause : (k : ℕ) (v : VolumeConf) → slice_get config.volumes.items k ≡ Some v → is_kept_home r.rest.images.items k ≡ true → (f : VolumeFault) × RefusesVolume {D = D} tells state config [] old new k v f
    cause k v conf home = let none = not_out r.rest.images.items k home in let (f, why) = missing k v conf none in (f, refused_alone tells state config r.rest.images.items old new k v f none why)

    leaves : (t y : Told) → HadRefused config q.rest.images.items t y → LeavesVolumes config q t y × AreLeftOfParts state config q y × WereThere config q.rest.images.items t → LeavesAll tells state config old new t y
    leaves t y stays both =
        let stayed = subst (λ (w : Rest D). HadRefused config w.images.items t y) (rest_again state config r q again) stays in
        let were = subst (λ (w : Rest D). WereThere config w.images.items t) (rest_again state config r q again) both.2 in
        let all = subst (λ (w : Rack D). LeavesVolumes config w t y) again.only both.0 in
        record {
          refused = is_kept_home r.rest.images.items;
          cause = cause;
          kept = λ k v conf or c may. stayed k v conf (kept_home config r.rest.images.items t were k v conf or) c may;
          opened = has_station q;
          are_opened = all.are_opened;
          left = λ images left v there. all.each images left v;
          logs = λ k v conf or. all.logs k (inr (kept_home config r.rest.images.items t were k v conf or));
          there = λ images left v was. there_left state config q t y stays both.1 images left v was;
        }

    pub opens_and_closes : (did : (before after : Rack D) → Type 0) (spindles : List SpindleView) → did r q → IsClosed tells state config bay new q spindles
        → ((k : ℕ) (p : Part) → slice_get r.faults.items k ≡ Some (Some (fault.Refused (DiskFault p))) → IsImageOut r.rest.images.items k → HasFaultAt state r.rest p)
        → (IsTrue tells → IfSome old.told (λ t. AreSound (shapes_of config) (images_read config t) → (HasFaultIn state r.rest → ⊥) → (Rose old.faults bay.faults → ⊥)
        → (k : ℕ) → k < length (shapes_of config) → slice_get r.faults.items k ≡ Some None))
        → (HasFaultIn state q.rest → Rose bay.faults new.faults)
        → ((t : Told) → IsTrue tells → BeganWith state config t q → All (λ (s : Station D). IsQuiet s) q.stations.items → IsTold (λ x y. LeavesOpen config q t y) bay.told new.told)
        → ((t : Told) → IsTrue tells → BeganWith state config t q → WereThere config q.rest.images.items t → All (λ (s : Station D). IsQuiet s) q.stations.items
        → IsTold (λ x y. HadRefused config q.rest.images.items t x → LeavesVolumes config q t y) bay.told new.told)
        → ((t : Told) → IsTrue tells → BeganWith state config t q → WereThere config q.rest.images.items t
        → IsTold (λ x y. HadRefused config q.rest.images.items t x → LeavesUnopened config q t y) bay.told new.told)
        → RunsRack tells config old new q → OpensAndCloses tells state config did old new spindles
    opens_and_closes did spindles done closed failed complete risen left_open volumes unopened runs = record {
      bay = bay;
      before = r;
      after = q;
      opened = opened;
      done = done;
      again = again;
      users = (opened.rack.users.0, views_again state config r q again opened.rack.users.0 opened.rack.users.1);
      closed = closed;
      runs = runs;
      sooner = sooner;
      later = later;
      refused = refused_since;
      failed = λ k p at. elim (part_failed tells state config old bay r opened.rack.fault_count refused failed k p at) [
        | inl has ↦ risen_since has
        | inr rose ↦ rose_on old.faults bay.faults new.faults rose later
      ];
      part = λ k p at. part_came_back tells state config old bay new r opened.rack.fault_count refused_since failed opened.faulty lists_first k p at;
      missing = missing;
      kept = λ telling. subst (λ (w : Rest D). IsTold (HadRefused config w.images.items) old.told new.told) (rest_again state config r q again)
          (told_then (HadRefused config q.rest.images.items) (HadRefused config q.rest.images.items) (HadRefused config q.rest.images.items) old.told bay.told new.told (had telling) (kept telling) then_kept);
      complete = λ telling. if_some
          (λ t. AreSound (shapes_of config) (images_read config t) → (HasFaultIn state r.rest → ⊥) → (Rose old.faults bay.faults → ⊥) → (k : ℕ) → k < length (shapes_of config) → slice_get r.faults.items k ≡ Some None)
          (λ t. AreSound (shapes_of config) (images_read config t) → (Rose old.faults new.faults → ⊥) → (k : ℕ) → k < length (shapes_of config) → slice_get r.faults.items k ≡ Some None)
          old.told (λ t all sound calm. all sound (λ has. calm (risen_since has)) (λ rose. calm (rose_on old.faults bay.faults new.faults rose later))) (complete telling);
      left_open = λ telling quiet. since (LeavesOpen config q) (LeavesOpen config q) telling
          (λ t began there. weaker (λ x. HadRefused config q.rest.images.items t x) (LeavesOpen config q t) bay.told new.told (left_open t telling began quiet)) (λ t y stays is. is);
      left_unopened = λ telling. since (LeavesUnopened config q) (LeavesUnopened config q) telling (λ t began there. unopened t telling began there) (λ t y stays is. is);
      left = λ telling quiet. since (λ t y. LeavesVolumes config q t y × AreLeftOfParts state config q y × WereThere config q.rest.images.items t) (LeavesAll tells state config old new) telling
          (λ t began there. told_each (λ x y. (HadRefused config q.rest.images.items t x → LeavesVolumes config q t y) × AreLeftOfParts state config q y)
          (λ x y. HadRefused config q.rest.images.items t x → LeavesVolumes config q t y × AreLeftOfParts state config q y × WereThere config q.rest.images.items t) bay.told new.told (λ x y both had. (both.0 had, both.1, there))
          (told_with (λ x y. HadRefused config q.rest.images.items t x → LeavesVolumes config q t y) (λ x y. AreLeftOfParts state config q y) bay.told new.told (volumes t telling began there quiet) (closed.parts telling))) leaves;
    }
      where
        -- closing lists what was here when the rack was opened
        lists_first : IsTold (ListsFaulty state config r.rest) bay.told new.told
        lists_first = subst (λ (w : Rest D). IsTold (ListsFaulty state config w) bay.told new.told) (rest_again state config r q again) closed.lists

        risen_since : HasFaultIn state r.rest → Rose old.faults new.faults
        risen_since has = rose_before old.faults bay.faults new.faults sooner (risen (subst (λ (w : Rest D). HasFaultIn state w) (sym (rest_again state config r q again)) has))

        weaker : (H P : Told → Type 0) (o n : Option Told) → IsTold (λ x y. P y) o n → IsTold (λ x y. H x → P y) o n
        weaker H P None n is = is
        weaker H P (Some o) None is = is
        weaker H P (Some o) (Some n) is = λ had. is
