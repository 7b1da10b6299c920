-- What was found side by side is told and printed.
use Rattle.std.proofs.Common.{◌≡◌, inl, inr, ◌<◌, ◌≤◌, ◌+◌, ℕ, Bool, List, [], ◌∷◌, ◌++◌, length, Option, None, Some, Result, Ok, Err, get_or, refl, sym, ap, subst, ◌∙◌, arith, append-nil, length-append}
use Rattle.std.specs.Prelude.{slice_get, IfOk, OnOk}
use Rattle.std.specs.Io.KnownBytes.{Appends}
use Rattle.std.proofs.lemmas.Option.{slice_get-get_or, slice_get_within, get_or_from_slice_get}
use Rattle.wol_disk.specs.Disk.{State}
use Rattle.wol_disk.specs.declared.disk.NoMemory.{NoMemory}
use Rattle.wol_io.specs.Streams.{AppendsFront}
use Rattle.wol_io.proofs.Appending.{appends_none, front_last, keeps_same}
use Rattle.wol_config.specs.declared.config.Config.{Config}
use Rattle.manager.specs.declared.station.Station.{Station}
use Rattle.inspection.specs.declared.fault.DumpFault.TheVariants as dump
use Rattle.report.specs.declared.trouble.Trouble.{Trouble}
use Rattle.rack.specs.Troubles.{trouble_of}
use Rattle.rack_parts.specs.declared.rack.Rack.{Rack}
use Rattle.rack_parts.specs.declared.volume_fault.VolumeFault.{VolumeFault}
use Rattle.inspection.specs.Looks.{LooksAt}
use Rattle.inspection.specs.Racks.{IsStationAt}
use Rattle.inspection.specs.Lines.{PrintsVolumes, Telling, IsTelling, AreTellings, LooksAtVolume, text_of, first_of, trouble_line, trouble_told}
use Rattle.inspection.specs.Findings.{AreEmpty, AreFoundTo, HasFound, IsToldBy, KeepsFound, TellsFound, lines_of}
use Rattle.inspection.specs.declared.asked.Asked.{Asked}
use Rattle.inspection.specs.declared.asked.Asked.TheVariants.{Check}
use Rattle.inspection.specs.declared.beside.Finding.{Finding}
use Rattle.inspection.specs.declared.calls.Stop.{Stop}
use Rattle.inspection.specs.declared.calls.Stop.TheVariants.{Memory}
use Rattle.inspection.proofs.Ahead.{none_found}
use Rattle.inspection.proofs.Judging.{telling_failed, telling_order}
use Rattle.inspection.proofs.Printing.{HaveTold, last_or_before, none_told, one_told, text_last}
use Rattle.inspection.proofs.SameRacks.{rack_self}

-- ---- One volume

-- a volume without a station
pub fault_told : {D : Type 0} (tells : Bool) (state : D → State) (config : Config) (asked : Asked) (r q : Rack D) (k : ℕ) (fault : VolumeFault) (result : Result (Option Trouble) NoMemory) (text : List ℕ)
    → slice_get r.faults.items k ≡ Some (Some fault) → IfOk result (λ t. t ≡ Some (trouble_of fault)) → OnOk result (text ≡ trouble_line config k (trouble_of fault))
    → IfOk result (λ t. IsTelling tells state config asked r q k (record { trouble = t; text = text }))
fault_told tells state config asked r q k fault (Ok t) text is trouble line = inl (record { fault = fault; is_fault = is; trouble = trouble; text = line })
fault_told tells state config asked r q k fault (Err e) text is trouble line = tt

module _ {D : Type 0} (config : Config) (q : Rack D) (fs : List Finding) (n k : ℕ) where
  -- so it is told
  pub fault_by : (fault : VolumeFault) (result : Result (Option Trouble) NoMemory) (text : List ℕ)
      → slice_get q.faults.items k ≡ Some (Some fault) → IfOk result (λ t. t ≡ Some (trouble_of fault)) → OnOk result (text ≡ trouble_line config k (trouble_of fault))
      → IfOk result (λ t. IsToldBy config q fs n k (record { trouble = t; text = text }))
  fault_by fault (Ok t) text is trouble line = inl (record { fault = fault; is_fault = is; trouble = trouble; text = line })
  fault_by fault (Err e) text is trouble line = tt

  -- a volume with a station
  pub finding_by : (place : ℕ) (t : Station D) (at : IsStationAt q.stations.items k place t) (within : place < n) (f : Finding) (is_f : f ≡ get_or fs place f) (result : Result (Option Trouble) NoMemory) (before text : List ℕ) → before ≡ []
      → IfOk result (λ o. (o ≡ trouble_told f.answer) × (f.answer ≡ Err dump.NoMemory → ⊥))
      → IfOk result (λ o. text ≡ (before ++ f.text.items) ++ lines_of config k o) → IfOk result (λ o. IsToldBy config q fs n k (record { trouble = o; text = text }))
  finding_by place t at within f is_f (Ok o) before text empty told line = inr (record {
    place = place;
    station = t;
    is_station = at;
    within = within;
    finding = f;
    is_finding = is_f;
    trouble = told.0;
    memory = told.1;
    text = line ∙ ap (λ (x : List ℕ). (x ++ f.text.items) ++ lines_of config k o) empty;
  })
  finding_by place t at within f is_f (Err e) before text empty told line = tt

-- what was told stays so while more is found
pub told_still : {D : Type 0} (config : Config) (q p : Rack D) (fs hs : List Finding) (n m k : ℕ) (t : Telling) → p ≡ record q { stations = p.stations } → n ≤ m → KeepsFound n q.stations.items p.stations.items fs hs
    → IsToldBy config q fs n k t → IsToldBy config p hs m k t
told_still config q p fs hs n m k t rest more keeps (inl fault) = inl (record {
  fault = fault.fault;
  is_fault = ap (λ (w : Rack _). slice_get w.faults.items k) rest ∙ fault.is_fault;
  trouble = fault.trouble;
  text = fault.text;
})
told_still config q p fs hs n m k t rest more keeps (inr found) =
    let at = found.is_station in
    let within = slice_get_within q.stations.items found.place found.station at.there in
    inr (record {
      place = found.place;
      station = found.station;
      is_station = record {
        there = slice_get-get_or p.stations.items found.place found.station (let long = keeps.long in omega (arith, long, within))
            ∙ ap (λ (s : Station _). Some s) (keeps.stations found.place found.station found.within ∙ get_or_from_slice_get q.stations.items found.place found.station found.station at.there);
        id = at.id;
      };
      within = (let less = found.within in omega (arith, less, more));
      finding = found.finding;
      is_finding = found.is_finding ∙ sym (keeps.findings found.place found.finding found.within);
      trouble = found.trouble;
      memory = found.memory;
      text = found.text;
    })

module _ {D : Type 0} (tells : Bool) (state : D → State) (config : Config) (r q : Rack D) (fs : List Finding) (n : ℕ) (rest : q ≡ record r { stations = q.stations })
    (going : AreFoundTo tells state config r.stations.items q.stations.items fs n) (k : ℕ) (t : Telling) where
  module _ (found : TellsFound config q fs n k t) where
    abbrev s : Station D
    s = get_or r.stations.items found.place found.station

    found_here : HasFound tells state config s found.station found.finding
    found_here = subst (λ (g : Finding). HasFound tells state config s found.station g) (sym found.is_finding)
        (subst (λ (u : Station D). HasFound tells state config s u (get_or fs found.place found.finding)) (get_or_from_slice_get q.stations.items found.place found.station found.station found.is_station.there)
        (going.found found.place found.station found.finding found.within))

    number : s.id ≡ k
    number = sym (ap (λ (u : Station D). u.id) found_here.same.same) ∙ found.is_station.id

    looked : LooksAtVolume tells state config Check r q k found.finding.answer found.finding.text.items
    looked = record {
      place = found.place;
      station = s;
      is_station = record { there = slice_get-get_or r.stations.items found.place found.station (let less = found.within in let all = going.within in omega (arith, less, all)); id = number };
      pass = found.station.worker;
      now = found.is_station.there ∙ ap (λ (u : Station D). Some u) found_here.same.same;
      looks = subst (λ (i : ℕ). LooksAt tells state config Check i s.worker found.station.worker found.finding.answer [] found.finding.text.items) number found_here.looks;
    }

    judged : (o : Option Trouble) (text : List ℕ) → o ≡ trouble_told found.finding.answer → text ≡ found.finding.text.items ++ lines_of config k o → IsTelling tells state config Check r q k (record { trouble = o; text = text })
    judged None text told line =
        telling_order tells state config Check r q k found.finding.answer text None (subst (λ (x : List ℕ). LooksAtVolume tells state config Check r q k found.finding.answer x) (sym (line ∙ append-nil found.finding.text.items)) looked) told found.memory refl
    judged (Some trouble) text told line =
        telling_failed tells state config Check r q k found.finding.answer found.finding.text.items text (Some trouble) trouble looked found_here.err told refl line

  -- what is told by what was found
  pub told_so : IsToldBy config q fs n k t → IsTelling tells state config Check r q k t
  told_so (inl fault) = inl (record {
    fault = fault.fault;
    is_fault = ap (λ (w : Rack D). slice_get w.faults.items k) (sym rest) ∙ fault.is_fault;
    trouble = fault.trouble;
    text = fault.text;
  })
  told_so (inr found) = judged found t.trouble t.text found.trouble found.text

-- ---- One after another

module _ {D : Type 0} (tells : Bool) (state : D → State) (config : Config) (r : Rack D) where
  -- the first i volumes were printed, and the first n stations looked at
  pub record ArePrinted (q : Rack D) (fs : List Finding) (n i : ℕ) (first : Option Trouble) (printed now : Option (List ℕ)) : Type 0 where
    pub rest : q ≡ record r { stations = q.stations }
    pub going : AreFoundTo tells state config r.stations.items q.stations.items fs n
    pub so_far : HaveTold config (IsToldBy config q fs n) i first printed now

  pub none_printed : (fs : List Finding) (printed now : Option (List ℕ)) → length fs ≡ length r.stations.items → AreEmpty fs → Appends printed now [] → ArePrinted r fs 0 0 None printed now
  none_printed fs printed now count empty nothing = record {
    rest = refl;
    going = none_found tells state config r.stations.items fs count empty;
    so_far = none_told config (IsToldBy config r fs 0) printed now nothing;
  }

  module _ (q : Rack D) (fs : List Finding) (n i : ℕ) (first : Option Trouble) (printed now : Option (List ℕ)) (u : ArePrinted q fs n i first printed now) where
    -- they were told of the rack as it was at first
    pub tellings_so : AreTellings tells state config Check r q u.so_far.told
    tellings_so = record { few = rw u.so_far.count u.so_far.few; each = λ k t is. told_so tells state config r q fs n u.rest u.going k t (u.so_far.each k t is) }

    -- more was found meanwhile
    module _ (p : Rack D) (hs : List Finding) (m : ℕ) (rest : p ≡ record q { stations = p.stations }) (more : n ≤ m) (keeps : KeepsFound n q.stations.items p.stations.items fs hs)
        (going : AreFoundTo tells state config r.stations.items p.stations.items hs m) where
      pub still_printed : ArePrinted p hs m i first printed now
      still_printed = record {
        rest = rest ∙ ap (λ (w : Rack D). record w { stations = p.stations }) u.rest;
        going = going;
        so_far = record {
          told = u.so_far.told;
          count = u.so_far.count;
          few = u.so_far.few;
          each = λ k t is. told_still config q p fs hs n m k t rest more keeps (u.so_far.each k t is);
          first_is = u.so_far.first_is;
          prints = u.so_far.prints;
        };
      }

    module _ (within : i < length config.volumes.items) (t : Telling) (telling : IsToldBy config q fs n i t) where
      each_next : (k : ℕ) (v : Telling) → slice_get (u.so_far.told ++ t ∷ []) k ≡ Some v → IsToldBy config q fs n k v
      each_next k v is = elim (last_or_before u.so_far.told t k v is) [
        | inl before ↦ u.so_far.each k v before
        | inr (at, is_t) ↦ subst (λ (w : Telling). IsToldBy config q fs n k w) (sym is_t) (subst (λ (j : ℕ). IsToldBy config q fs n j t) (sym (at ∙ u.so_far.count)) telling)
      ]

      pub tellings_next : AreTellings tells state config Check r q (u.so_far.told ++ t ∷ [])
      tellings_next = record { few = omega (arith, length-append u.so_far.told (t ∷ []), u.so_far.count, within); each = λ k v is. told_so tells state config r q fs n u.rest u.going k v (each_next k v is) }

      pub front_next : (later : Option (List ℕ)) → AppendsFront now later t.text → AppendsFront printed later (text_of (u.so_far.told ++ t ∷ []))
      front_next later front = rw (text_last u.so_far.told t) (front_last printed now later (text_of u.so_far.told) t.text u.so_far.prints front)

      pub next_printed : (later : Option (List ℕ)) → Appends now later t.text → ArePrinted q fs n (i + 1) (first_of first t.trouble) printed later
      next_printed later more = record {
        rest = u.rest;
        going = u.going;
        so_far = one_told config (IsToldBy config q fs n) (IsToldBy config q fs n) i first printed now u.so_far t within each_next later more;
      }

-- there was no memory for any
pub nothing_found : {D : Type 0} (tells : Bool) (state : D → State) (config : Config) (asked : Asked) (r : Rack D) (result : Result (Option Trouble) Stop) (faults : ℕ) (printed : Option (List ℕ)) → result ≡ Err Memory
    → PrintsVolumes tells state config asked r r result faults faults printed printed
nothing_found tells state config asked r result faults printed is = record {
  same = rack_self r;
  later = omega arith;
  told = [];
  are = record { few = omega arith; each = λ k t no. absurd (let e : None ≡ Some t = no in cc) };
  prints = rw is (refl, appends_none printed printed (keeps_same printed));
}
