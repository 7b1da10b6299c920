-- A volume that was drained has an entry of that alone; it lists no record behind it, or the part that it names came back with a fault.
use Rattle.std.proofs.Common.{◌≡◌, ◌++◌, ℕ, Bool, List, [], ◌∷◌, None, Some, Result, Ok, refl, sym, ap, ◌∙◌, subst, append_assoc}
use Rattle.std.proofs.lemmas.Option.{same_Some}
use Rattle.wol_disk.specs.Disk.{State}
use Rattle.wol_bay.specs.Bay.{BayState}
use Rattle.wol_config.specs.declared.config.Config.{Config}
use Rattle.turn_lock.specs.Histories.{Entry, own}
use Rattle.turn_lock.specs.Passes.{pass_mine, pass_seen}
use Rattle.wol_model.specs.History.{helper, keeper, flight_of}
use Rattle.wol_promise.specs.Policy.{Look, PartName}
use Rattle.wol_promise.specs.Ruled.{Noted, entries_of, last_look}
use Rattle.manager.specs.Seen.{name_of}
use Rattle.manager.specs.Stands.{notes_of}
use Rattle.manager.specs.declared.part.Part.{Part}
use Rattle.manager.specs.declared.part.StepFault.{StepFault}
use Rattle.manager.specs.declared.station.Station.{Station}
use Rattle.request_turns.specs.Turns.{WasDown, coded, notes_seen}
use Rattle.request_turns.proofs.Gaining.{down_breaks}
use Rattle.request_turns.proofs.Noting.{notes_at}
use Rattle.rack.specs.Closes.{HasFaultyPart, IsClosedVolume, part_named}
use Rattle.rack.specs.Racks.{IsStation, IsUnused, base_of_station}
use Rattle.rack_parts.specs.declared.rack.Rack.{Rack}
use Rattle.rack.proofs.FailedParts.{faulty_since}
use Rattle.rack.specs.Sessions.{OpensAndCloses}
use Rattle.spin_model.specs.Spindles.{SpindleView}
use Rattle.rack.specs.Troubles.{trouble_of_part}
use Rattle.rack.proofs.Named.{named_alike}
use Rattle.volume_images.specs.Left.{IsTold}
use Rattle.inspection.proofs.Unhelped.{all_at, broken_still, none_before, one_down, only_one}
use Rattle.view_change.specs.Drained.{HasDrainedAll}
use Rattle.view_commands.specs.Drains.{IsDrained}

module _ {D : Type 0} (tells : Bool) (state : D → State) (config : Config) (did : Rack D → Rack D → Type 0) (old new : BayState) (spindles : List SpindleView) (session : OpensAndCloses tells state config did old new spindles)
    (volume : ℕ) (answer : Result (ℕ × ℕ) StepFault) (drained : IsDrained tells state session.before session.after volume answer) where
  abbrev s : Station D
  s = drained.station

  abbrev pub ends : IsClosedVolume tells config session.after.rest.images.items session.bay new (record s { worker = drained.pass })
  ends = all_at (IsClosedVolume tells config session.after.rest.images.items session.bay new) session.after.stations.items drained.place (record s { worker = drained.pass }) session.closed.stations drained.now

  station : IsStation s
  station = all_at IsStation session.before.stations.items drained.place s session.opened.rack.stations drained.is_station.there

  unused : IsUnused s.worker × IsUnused s.helper × IsUnused s.keeper
  unused = all_at (λ (u : Station D). IsUnused u.worker × IsUnused u.helper × IsUnused u.keeper) session.before.stations.items drained.place s session.opened.fresh drained.is_station.there

  abbrev d : HasDrainedAll tells state s.worker drained.pass answer
  d = drained.drained

  helped : own helper ends.entries ≡ []
  helped = subst (λ (n : ℕ). own n ends.entries ≡ []) station.helper_.number_is (ends.helper_part.mine ∙ unused.1.mine)

  kept : own keeper ends.entries ≡ []
  kept = subst (λ (n : ℕ). own n ends.entries ≡ []) station.keeper_.number_is (ends.keeper_part.mine ∙ unused.2.mine)

  -- nobody had done anything before
  nothing : d.before ≡ []
  nothing = none_before d.before ends.entries
      (let b = ends.worker_part.seen in (coded d.note ∷ b.0, sym (append_assoc d.before (coded d.note ∷ []) b.0) ∙ ap (λ (es : List Entry). es ++ b.0) (sym d.seen) ∙ b.1))
      (subst (λ (n : ℕ). own n d.before ≡ []) station.worker_.number_is (d.others ∙ unused.0.mine)) helped kept ends.no_more

  seen_is : pass_seen drained.pass ≡ coded d.note ∷ []
  seen_is = d.seen ∙ ap (λ (es : List Entry). es ++ coded d.note ∷ []) nothing

  -- and nothing was done behind it
  only : ends.entries ≡ coded d.note ∷ []
  only =
      let more = ends.worker_part.seen in
      only_one (coded d.note) more.0 ends.entries (ap (λ (es : List Entry). es ++ more.0) (sym seen_is) ∙ more.1) (ap (λ (n : Noted). n.entry.pass) d.is_note ∙ station.worker_.number_is)
      (subst (λ (n : ℕ). own n ends.entries ≡ pass_mine drained.pass) (d.same.1 ∙ station.worker_.number_is) ends.worker_part.mine ∙ d.mine ∙ ap (λ (es : List Entry). es ++ coded d.note ∷ []) unused.0.mine)
      helped kept ends.no_more

  one_note : notes_of (coded d.note ∷ []) ≡ d.note ∷ []
  one_note = notes_at [] d.note.entry.pass d.note refl

  notes_are : notes_of ends.entries ≡ d.note ∷ []
  notes_are = ap notes_of only ∙ one_note

  -- so the part that was down is the one of the volume that came back with a fault
  pub came : (p : Part) → WasDown p (notes_seen drained.pass)
      → (name : PartName) × (trouble_of_part p ≡ trouble_of_part (part_named volume name)) × IsTold (HasFaultyPart tells config volume (base_of_station s).volume.began.view name) old.told new.told
  came p was =
      let down : d.note.look.down ≡ Some (name_of p) = one_down p d.note (subst (WasDown p) (ap notes_of seen_is ∙ one_note) was) in
      let (name, last, told) = ends.faulty (broken_still (pass_seen drained.pass) ends.entries ends.worker_part.seen (down_breaks p (notes_seen drained.pass) was)) in
      let same : name ≡ name_of p = same_Some name (name_of p) (sym last ∙ ap (λ (ns : List Noted). (last_look (base_of_station s).volume.began.look ns).down) notes_are ∙ down) in (
        name,
        named_alike volume p ∙ ap (λ (n : PartName). trouble_of_part (part_named volume n)) (sym same),
        subst (λ (v : ℕ). IsTold (HasFaultyPart tells config v (base_of_station s).volume.began.view name) old.told new.told) drained.is_station.id
            (faulty_since tells config s.id (base_of_station s).volume.began.view name old.told session.bay.told new.told session.opened.faulty told),
      )

module _ {D : Type 0} (tells : Bool) (state : D → State) (config : Config) (did : Rack D → Rack D → Type 0) (old new : BayState) (spindles : List SpindleView) (session : OpensAndCloses tells state config did old new spindles)
    (volume : ℕ) (counts : ℕ × ℕ) (drained : IsDrained tells state session.before session.after volume (Ok counts)) where
  abbrev notes : List Noted
  notes = notes_of (ends tells state config did old new spindles session volume (Ok counts) drained).entries

  one : notes ≡ drained.drained.note ∷ []
  one = notes_are tells state config did old new spindles session volume (Ok counts) drained

  -- no call of a disk had failed
  pub unbroken : flight_of (entries_of notes) ≡ None
  unbroken =
      ap (λ (ns : List Noted). flight_of (entries_of ns)) one
      ∙ ap (λ (n : Noted). flight_of (entries_of (n ∷ []))) drained.drained.is_note

  -- and no record is listed
  pub lists_none : (last_look (base_of_station drained.station).volume.began.look notes).listed ≡ []
  lists_none =
      ap (λ (ns : List Noted). (last_look (base_of_station drained.station).volume.began.look ns).listed) one
      ∙ ap (λ (l : Look). l.listed) drained.drained.bare.1
