-- Where nothing was done with a rack, each volume that was opened keeps its records.
use Rattle.std.proofs.Common.{◌≡◌, ◌≢◌, ◌<◌, ℕ, zero, suc, Bool, false, cond, List, [], ◌∷◌, length, map, Option, None, Some, refl, sym, ap, subst, ◌∙◌, arith}
use Rattle.std.specs.Prelude.{IfSome, IsTrue, All, Contains, not, slice_get, slice_index_or}
use Rattle.std.proofs.lemmas.Bool.{eq-eqb}
use Rattle.std.proofs.lemmas.Option.{slice_get-get_or}
use Rattle.wol_disk.specs.Disk.{State}
use Rattle.turn_lock.specs.Histories.{Entry, own}
use Rattle.wol_bay.specs.Bay.{BayState, Told}
use Rattle.wol_model.specs.History.{flight_of, helper, keeper, worker}
use Rattle.wol_model.specs.Recovered.{extents_of}
use Rattle.wol_promise.specs.Manager.{Base}
use Rattle.wol_promise.specs.Ruled.{entries_of, last_look}
use Rattle.wol_promise.proofs.Lists.{all_map}
use Rattle.wol_config.specs.declared.config.Config.{Config}
use Rattle.manager.specs.Stands.{notes_of}
use Rattle.manager.specs.declared.station.Station.{Station}
use Rattle.volume_images.specs.Left.{IsTold}
use Rattle.volume_images.specs.Volumes.{shapes_of}
use Rattle.rack.specs.Closes.{AreListedOf, IsClosedVolume, RecoversTo, is_kept_home, segments_out}
use Rattle.rack.specs.Opens.{BeganWith, HasFaulty}
use Rattle.rack.specs.Owners.{IsBegun, WasOpened, images_taken}
use Rattle.rack.specs.Racks.{AreUnused, IsOpenBase, IsRack, IsStation, IsUnused, base_of_station}
use Rattle.rack.specs.Rests.{IsImageOut}
use Rattle.rack_parts.specs.declared.rack.ImageRest.{ImageRest}
use Rattle.rack_parts.specs.declared.rack.Rack.{Rack}
use Rattle.rack.specs.NotOpened.{LeavesAsOpened, LeavesOpened}
use Rattle.rack.proofs.Since.{all_at, out_of, unmapped}

-- where no pass has an entry there is none
no_entries : (es : List Entry) → ((n : ℕ) → own n es ≡ []) → es ≡ []
no_entries [] none = refl
no_entries (e ∷ es) none =
    let first : own e.0 (e ∷ es) ≡ e ∷ own e.0 es = ap (λ (b : Bool). cond b (e ∷ own e.0 es) (own e.0 es)) (eq-eqb e.0 e.0 refl) in
    absurd (let no : e ∷ own e.0 es ≡ [] = sym first ∙ none e.0 in cc no)

-- a pass is one of a volume's three, or another
of_passes : (P : ℕ → Type 0) → P worker → P helper → P keeper → ((n : ℕ) → n ≢ worker → n ≢ helper → n ≢ keeper → P n) → (n : ℕ) → P n
of_passes P w h k others zero = w
of_passes P w h k others (suc zero) = h
of_passes P w h k others (suc (suc zero)) = k
of_passes P w h k others (suc (suc (suc n))) = others (suc (suc (suc n))) (λ is. omega (arith, is)) (λ is. omega (arith, is)) (λ is. omega (arith, is))

-- what holds of what is left, where it was told at entry what the volumes began with
told_behind : (W P : Told → Type 0) (R : Told → Told → Type 0) (o b n : Option Told) → IfSome o W → IsTold HasFaulty o b → IsTold (λ x y. P y) b n → ((t y : Told) → W t → P y → R t y) → IsTold R o n
told_behind W P R None None n was had is each = is
told_behind W P R None (Some b) n was had is each = absurd (cc had)
told_behind W P R (Some o) None n was had is each = absurd had
told_behind W P R (Some o) (Some b) None was had is each = absurd is
told_behind W P R (Some o) (Some b) (Some n) was had is each = each o n was is

module _ {D : Type 0} (state : D → State) (config : Config) (bay : BayState) (r : Rack D) (is : IsRack state config bay r) where
  abbrev out : List (Option (ImageRest D))
  out = r.rest.images.items

  -- ---- The station of a volume

  module _ (place : ℕ) (s : Station D) (there : slice_get r.stations.items place ≡ Some s) where
    abbrev base : Base
    base = (base_of_station s).volume.began

    pub station : IsStation s
    station = all_at IsStation r.stations.items place s is.stations there

    -- its volume was opened
    abbrev pub was_opened : (t : Told) → BeganWith state config t r → WasOpened config (is_kept_home out) t s.id
    was_opened t began = record {
      base = base;
      owner = station.id;
      begun = all_at (λ (x : Station D). IsBegun config (images_taken config out t) (base_of_station x).volume.began) r.stations.items place s began.stations there;
      loggers = all_map (IsImageOut out) (λ l. is_kept_home out l ≡ false) (λ l is_out. ap not is_out) base.view (all_at (λ (x : Station D). IsOpenBase config r.shared out (base_of_station x)) r.stations.items place s is.bases there).loggers_out;
    }

    module _ (tells : Bool) (new : BayState) (fresh : AreUnused r.stations.items) (ends : IsClosedVolume tells config out bay new s) where
      unused : IsUnused s.worker × IsUnused s.helper × IsUnused s.keeper
      unused = all_at (λ (u : Station D). IsUnused u.worker × IsUnused u.helper × IsUnused u.keeper) r.stations.items place s fresh there

      -- no pass had a turn
      none : ends.entries ≡ []
      none = no_entries ends.entries (of_passes (λ n. own n ends.entries ≡ [])
          (subst (λ (n : ℕ). own n ends.entries ≡ []) station.worker_.number_is (ends.worker_part.mine ∙ unused.0.mine))
          (subst (λ (n : ℕ). own n ends.entries ≡ []) station.helper_.number_is (ends.helper_part.mine ∙ unused.1.mine))
          (subst (λ (n : ℕ). own n ends.entries ≡ []) station.keeper_.number_is (ends.keeper_part.mine ∙ unused.2.mine)) ends.no_more)

      -- its records are those with which it was opened
      pub left_as_opened : (t y : Told) → BeganWith state config t r → RecoversTo config out s ends.entries y → LeavesAsOpened config out s.id t y
      left_as_opened t y began recovers = record {
        was = was_opened t began;
        records = λ images left. subst (λ (es : List Entry). AreListedOf (last_look base.look (notes_of es)).listed (extents_of s.id (segments_out config out images))) none
            (recovers.listed images left calm);
        distinct = recovers.distinct;
        on_loggers = λ images left e has. recovers.on_loggers images left calm e (subst (λ (es : List Entry). Contains (last_look base.look (notes_of es)).listed e) (sym none) has);
      }
        where
          calm : flight_of (entries_of (notes_of ends.entries)) ≡ None
          calm = ap (λ (es : List Entry). flight_of (entries_of (notes_of es))) none

  -- ---- A volume without a fault

  -- the station that it has
  pub station_at : (j : ℕ) → j < length (shapes_of config) → slice_index_or r.faults.items j None ≡ None → (place : ℕ) × (s : Station D) × (slice_get r.stations.items place ≡ Some s) × (s.id ≡ j)
  station_at j lt none =
      let (place, less, id) = (is.faults j lt).0 none in
      let (s, there, same) = unmapped (λ (s : Station D). s.id) r.stations.items place j (slice_get-get_or (map (λ (s : Station D). s.id) r.stations.items) place j less ∙ ap (λ (n : ℕ). Some n) id) in
      (place, s, there, same)

  -- its image is out
  pub opened_out : (j : ℕ) → j < length (shapes_of config) → slice_index_or r.faults.items j None ≡ None → IsImageOut out j
  opened_out j lt none = out_of state config bay r is j ((is.faults j lt).0 none)

  -- it was opened
  pub opened_at : (t : Told) → BeganWith state config t r → (j : ℕ) → j < length (shapes_of config) → slice_index_or r.faults.items j None ≡ None → WasOpened config (is_kept_home out) t j
  opened_at t began j lt none = let (place, s, there, same) = station_at j lt none in subst (WasOpened config (is_kept_home out) t) same (was_opened place s there t began)

  module _ (tells : Bool) (old new : BayState) (began : IsTrue tells → IfSome old.told (λ t. BeganWith state config t r)) (fresh : AreUnused r.stations.items) (gained : IsTold HasFaulty old.told bay.told)
      (closed : All (IsClosedVolume tells config out bay new) r.stations.items) where
    pub leaves_opened : (j : ℕ) → j < length (shapes_of config) → slice_index_or r.faults.items j None ≡ None → LeavesOpened tells config out old new j
    leaves_opened j lt none = (opened_out j lt none, λ telling. told telling)
      where
        told : IsTrue tells → IsTold (LeavesAsOpened config out j) old.told new.told
        told telling =
            let (place, s, there, same) = station_at j lt none in
            let ends = all_at (IsClosedVolume tells config out bay new) r.stations.items place s closed there in
            subst (λ (n : ℕ). IsTold (LeavesAsOpened config out n) old.told new.told) same
            (told_behind (λ t. BeganWith state config t r) (RecoversTo config out s ends.entries) (LeavesAsOpened config out s.id) old.told bay.told new.told (began telling) gained (ends.recovers telling) (left_as_opened place s there tells new fresh ends))
