-- The volumes are printed one after another, looked at alone or side by side.
use Rattle.std.proofs.Common.{◌≡◌, ◌<◌, ◌≤◌, ◌+◌, ℕ, Bool, List, [], ◌∷◌, ◌++◌, length, Option, None, Result, Ok, ◌∙◌, arith}
use Rattle.std.specs.Io.KnownBytes.{Appends}
use Rattle.wol_disk.specs.Disk.{State}
use Rattle.wol_disk.specs.declared.disk.NoMemory.{NoMemory}
use Rattle.wol_io.specs.Streams.{AppendsFront}
use Rattle.wol_config.specs.declared.config.Config.{Config}
use Rattle.report.specs.declared.trouble.Trouble.{Trouble}
use Rattle.rack_parts.specs.declared.rack.Rack.{Rack}
use Rattle.inspection.specs.Racks.{IsSameRack}
use Rattle.inspection.specs.Lines.{PrintsVolumes, Telling, AreTellings, text_of, first_of}
use Rattle.inspection.specs.Findings.{AppendsNext, AreAhead, HasRoom}
use Rattle.inspection.specs.declared.asked.Asked.{Asked}
use Rattle.inspection.specs.declared.asked.Asked.TheVariants.{Check, Dump}
use Rattle.inspection.specs.declared.beside.Finding.{Finding}
use Rattle.inspection.proofs.Ahead.{rack_found}
use Rattle.inspection.proofs.AsFound.{ArePrinted, front_next, next_printed, none_printed, still_printed, tellings_next, tellings_so}
use Rattle.inspection.proofs.Printing.{Underway, begins, front_more, goes_on, tellings_more, tellings_still}
use Rattle.inspection.proofs.SameRacks.{rack_then}

module _ {D : Type 0} (tells : Bool) (state : D → State) (config : Config) where
  -- the first i volumes were printed
  abbrev pub ArePrintedSo : Asked → (r q : Rack D) → List Finding → (n i : ℕ) → Option Trouble → (printed now : Option (List ℕ)) → Type 0
  ArePrintedSo Check r q fs n i first printed now = ArePrinted tells state config r q fs n i first printed now
  ArePrintedSo Dump r q fs n i first printed now = Underway tells state config Dump r q i first printed now

  pub none_yet : (asked : Asked) (r : Rack D) (fs : List Finding) (printed now : Option (List ℕ)) → HasRoom asked (length r.stations.items) fs → Appends printed now [] → ArePrintedSo asked r r fs 0 0 None printed now
  none_yet Check r fs printed now room nothing = none_printed tells state config r fs printed now room.0 room.1 nothing
  none_yet Dump r fs printed now room nothing = begins tells state config Dump r printed now nothing

  module _ (r q : Rack D) (fs : List Finding) (n i : ℕ) (first : Option Trouble) (printed now : Option (List ℕ)) where
    pub same_so : (asked : Asked) → ArePrintedSo asked r q fs n i first printed now → IsSameRack r q
    same_so Check u = rack_found tells state config r q fs n u.rest u.going
    same_so Dump u = u.same

    pub ahead_so : (asked : Asked) → ArePrintedSo asked r q fs n i first printed now → AreAhead tells state config asked q.stations.items fs n
    ahead_so Check u = (r.stations.items, u.going)
    ahead_so Dump u = tt

    pub few_so : (asked : Asked) → ArePrintedSo asked r q fs n i first printed now → i ≤ length config.volumes.items
    few_so Check u = u.so_far.few
    few_so Dump u = u.so_far.few

    -- all were printed
    pub printed_all : (asked : Asked) → ArePrintedSo asked r q fs n i first printed now → i ≡ length config.volumes.items → (faults faults' : ℕ) → faults' ≡ faults → PrintsVolumes tells state config asked r q (Ok first) faults faults' printed now
    printed_all Check u all faults faults' calm = record { same = same_so Check u; later = omega (arith, calm); told = u.so_far.told; are = tellings_so tells state config r q fs n i first printed now u; prints = (u.so_far.count ∙ all, u.so_far.first_is, calm, u.so_far.prints) }
    printed_all Dump u all faults faults' calm =
        record { same = u.same; later = omega (arith, calm); told = u.so_far.told; are = record { few = rw u.so_far.count u.so_far.few; each = u.so_far.each }; prints = (u.so_far.count ∙ all, u.so_far.first_is, calm, u.so_far.prints) }

    module _ (p : Rack D) (hs : List Finding) (m : ℕ) where
      -- what was told, after the text of the next volume was appended or not
      pub record AreTold (asked : Asked) : Type 0 where
        pub same : IsSameRack r p
        pub told : List Telling
        pub are : AreTellings tells state config asked r p told
        pub prints : Appends printed now (text_of told)

      pub still_told : (asked : Asked) → ArePrintedSo asked r q fs n i first printed now → (result : Result (Option Trouble) NoMemory) (text : List ℕ) → AppendsNext tells state config asked q p fs hs n m i result text → AreTold asked
      still_told Check u result text a =
          let s = still_printed tells state config r q fs n i first printed now u p hs m a.rest a.more a.found.keeps (a.found.going r.stations.items u.going) in
          record { same = rack_found tells state config r p hs m s.rest s.going; told = s.so_far.told; are = tellings_so tells state config r p hs m i first printed now s; prints = s.so_far.prints }
      still_told Dump u result text a =
          record { same = rack_then r q p u.same a.same; told = u.so_far.told; are = tellings_still tells state config Dump r q p i first printed now u a.same a.others; prints = u.so_far.prints }

      module _ (trouble : Option Trouble) (text : List ℕ) where
        -- with the text of the next volume, of which a front or the whole is printed
        pub record GoesOn (asked : Asked) : Type 0 where
          pub same : IsSameRack r p
          pub told : List Telling
          pub are : AreTellings tells state config asked r p told
          pub front : (later : Option (List ℕ)) → AppendsFront now later text → AppendsFront printed later (text_of told)
          pub next : (later : Option (List ℕ)) → Appends now later text → ArePrintedSo asked r p hs m (i + 1) (first_of first trouble) printed later

        abbrev t : Telling
        t = record { trouble = trouble; text = text }

        pub goes_so : i < length config.volumes.items → (asked : Asked) → ArePrintedSo asked r q fs n i first printed now → AppendsNext {E = NoMemory} tells state config asked q p fs hs n m i (Ok trouble) text → GoesOn asked
        goes_so within Check u a =
            let s = still_printed tells state config r q fs n i first printed now u p hs m a.rest a.more a.found.keeps (a.found.going r.stations.items u.going) in
            record {
              same = rack_found tells state config r p hs m s.rest s.going;
              told = s.so_far.told ++ t ∷ [];
              are = tellings_next tells state config r p hs m i first printed now s within t a.told;
              front = front_next tells state config r p hs m i first printed now s within t a.told;
              next = next_printed tells state config r p hs m i first printed now s within t a.told;
            }
        goes_so within Dump u a = record {
          same = rack_then r q p u.same a.same;
          told = u.so_far.told ++ t ∷ [];
          are = tellings_more tells state config Dump r q p i first printed now u a.same a.others within t a.ok;
          front = front_more tells state config Dump r q p i first printed now u a.same a.others within t a.ok;
          next = goes_on tells state config Dump r q p i first printed now u a.same a.others within t a.ok;
        }
