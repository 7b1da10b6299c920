-- The station of a volume, found among all and looked at.
use Rattle.std.proofs.Common.{◌≡◌, ◌<◌, ◌≤◌, ◌+◌, ℕ, Bool, List, [], length, Some, Result, get_or, refl, sym, ap, subst, ◌∙◌, arith, below_more}
use Rattle.std.specs.Prelude.{slice_get, slice_set, Contains}
use Rattle.std.specs.Option.{option_map}
use Rattle.std.specs.declared.alloc.Global.{Global}
use Rattle.std.specs.declared.vec.Vec.{Vec}
use Rattle.std.proofs.lemmas.List.{length-map}
use Rattle.std.proofs.lemmas.Option.{slice_get_read, slice_get-map, get_or_from_slice_get, same_Some}
use Rattle.wol_disk.specs.Disk.{State}
use Rattle.wol_config.specs.declared.config.Config.{Config}
use Rattle.manager.specs.declared.station.Station.{Station}
use Rattle.manager.proofs.Lanes.{get_set, get_other}
use Rattle.inspection.specs.declared.fault.DumpFault.{DumpFault}
use Rattle.rack_parts.specs.declared.rack.Rack.{Rack}
use Rattle.inspection.specs.Looks.{LooksAt}
use Rattle.inspection.specs.Racks.{numbers_of, IsSameStation, IsSameRack, IsStationAt}
use Rattle.inspection.specs.Lines.{LooksAtVolume}
use Rattle.inspection.specs.declared.asked.Asked.{Asked}
use Rattle.inspection.proofs.SameRacks.{rack_set}
use Rattle.inspection.proofs.Unhelped.{there_is}

module _ {D : Type 0} (stations : List (Station D)) (volume : ℕ) where
  -- none of the first so many is the volume's
  abbrev pub NoneBelow : (place : ℕ) → Type 0
  NoneBelow place = (k : ℕ) (s : Station D) → k < place → slice_get stations k ≡ Some s → s.id ≡ volume → ⊥

  pub found : (place : ℕ) (s : Station D) → place < length stations → s ≡ get_or stations place s → (get_or stations place s).id ≡ volume → IsStationAt stations volume place s
  found place s within is number = record { there = slice_get_read stations (length stations) place s refl within is; id = ap (λ (t : Station D). t.id) is ∙ number }

  pub one_more : (place : ℕ) (d : Station D) → NoneBelow place → ((get_or stations place d).id ≡ volume → ⊥) → NoneBelow (place + 1)
  one_more place d none other k s less = below_more (λ (j : ℕ). (t : Station D) → slice_get stations j ≡ Some t → t.id ≡ volume → ⊥) place (λ j less t. none j t less)
      (λ t is number. other (ap (λ (u : Station D). u.id) (get_or_from_slice_get stations place t d is) ∙ number)) k less s

  pub not_all : (place : ℕ) → NoneBelow place → length stations ≤ place → Contains (numbers_of stations) volume → ⊥
  not_all place none all (k, within, is) =
      let s = there_is stations k (let long = length-map stations (λ (s : Station D). s.id) in omega (arith, long, within)) in
      let number : slice_get (numbers_of stations) k ≡ Some s.0.id = slice_get-map (λ (s : Station D). s.id) stations k ∙ ap (option_map (λ (s : Station D). s.id)) s.1 in
      none k s.0 (let long = length-map stations (λ (s : Station D). s.id) in omega (arith, long, within, all)) s.1 (sym (get_or_from_slice_get (numbers_of stations) k s.0.id volume number) ∙ is)

module _ {D : Type 0} (tells : Bool) (state : D → State) (config : Config) (asked : Asked) (r : Rack D) (ts : Vec (Station D) Global) (place volume : ℕ) (s b t : Station D) (at : IsStationAt r.stations.items volume place s)
    (was : b ≡ get_or r.stations.items place b) (same : IsSameStation b t) (set : ts.items ≡ slice_set r.stations.items place t) where
  is_s : b ≡ s
  is_s = was ∙ get_or_from_slice_get r.stations.items place s b at.there

  same_s : IsSameStation s t
  same_s = subst (λ (u : Station D). IsSameStation u t) is_s same

  pub looked_same : IsSameRack r (record r { stations = ts })
  looked_same = rack_set r ts place s t at.there same_s set

  pub looked_others : (k : ℕ) (u : Station D) → slice_get r.stations.items k ≡ Some u → (u.id ≡ volume → ⊥) → slice_get ts.items k ≡ Some u
  looked_others k u is other = ap (λ (ss : List (Station D)). slice_get ss k) set ∙ (get_other r.stations.items place k t
      (λ here. other (ap (λ (v : Station D). v.id) (same_Some u s (sym is ∙ ap (slice_get r.stations.items) here ∙ at.there)) ∙ at.id)) ∙ is)

  pub looked_at : (answer : Result (Unit {0}) DumpFault) (before text : List ℕ) → before ≡ [] → LooksAt tells state config asked b.id b.worker t.worker answer before text
      → LooksAtVolume tells state config asked r (record r { stations = ts }) volume answer text
  looked_at answer before text empty looks = record {
    place = place;
    station = s;
    is_station = at;
    pass = t.worker;
    now = ap (λ (ss : List (Station D)). slice_get ss place) set ∙ get_set r.stations.items place s t at.there ∙ ap Some same_s.same;
    looks = subst (λ (n : ℕ). LooksAt tells state config asked n s.worker t.worker answer [] text) at.id
        (subst (λ (u : Station D). LooksAt tells state config asked u.id u.worker t.worker answer [] text) is_s
        (subst (λ (x : List ℕ). LooksAt tells state config asked b.id b.worker t.worker answer x text) empty looks));
  }
