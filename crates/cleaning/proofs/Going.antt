-- The volumes are cleaned one after another.
use Rattle.std.proofs.Common.{◌≡◌, inl, inr, ◌<◌, ◌≤◌, ◌+◌, ℕ, zero, suc, Bool, List, [], ◌∷◌, ◌++◌, length, get_or, option_map, Option, None, Some, Result, Ok, Err, refl, sym, ap, subst, ◌∙◌, arith, append-nil, append_assoc, length-append}
use Rattle.std.specs.Prelude.{slice_get}
use Rattle.std.specs.Io.KnownBytes.{Appends}
use Rattle.std.proofs.lemmas.Option.{get_or_from_slice_get, slice_get-map, slice_get_read, slice_get_within, same_Some}
use Rattle.wol_disk.specs.Disk.{Rose, State}
use Rattle.wol_io.specs.Streams.{AppendsFront}
use Rattle.wol_io.proofs.Appending.{appends_both, front_last}
use Rattle.wol_config.specs.Documents.{names_of}
use Rattle.wol_config.specs.declared.config.Config.{Config}
use Rattle.wol_config.specs.declared.config.VolumeConf.{VolumeConf}
use Rattle.manager.specs.declared.station.Station.{Station}
use Rattle.manager.proofs.ReadThrough.{zip_back}
use Rattle.report.specs.Names.{name_at}
use Rattle.report.specs.declared.fault.Fault.TheVariants.{Memory}
use Rattle.rack_parts.specs.declared.rack.Rack.{Rack}
use Rattle.replay.specs.declared.stop.Stop.TheVariants as stop
use Rattle.log_cleaner.specs.declared.answer.Cleaned.{Cleaned}
use Rattle.log_cleaner.specs.declared.answer.CleanFault.{CleanFault}
use Rattle.inspection.proofs.Printing.{last_or_before}
use Rattle.cleaning.specs.Lines.{clean_line, fault_of, lines_from, lines_of}
use Rattle.cleaning.specs.Racks.{CleansAll, CleansFirst, CleansStation, IsSameButWorked, IsWorked, all_ok, whole, refused, no_memory, sink_failed}
use Rattle.cleaning.proofs.Stations.{worked_self, worked_then}

-- ---- Lists

lines_last : (n : ℕ) (config : Config) (cs : List Cleaned) (c : Cleaned) → lines_from n config (cs ++ c ∷ []) ≡ lines_from n config cs ++ clean_line (name_at (names_of config.volumes.items) (n + length cs)) c
lines_last n config [] c = append-nil _ ∙ ap (λ (k : ℕ). clean_line (name_at (names_of config.volumes.items) k) c) (omega arith)
lines_last n config (d ∷ cs) c =
    ap (λ (l : List ℕ). clean_line (name_at (names_of config.volumes.items) n) d ++ l) (lines_last (n + 1) config cs c)
    ∙ sym (append_assoc (clean_line (name_at (names_of config.volumes.items) n) d) (lines_from (n + 1) config cs) _)
    ∙ ap (λ (k : ℕ). (clean_line (name_at (names_of config.volumes.items) n) d ++ lines_from (n + 1) config cs) ++ clean_line (name_at (names_of config.volumes.items) k) c) (omega arith)

ok_last : (cs : List Cleaned) (c : Cleaned) → all_ok (cs ++ c ∷ []) ≡ all_ok cs ++ Ok c ∷ []
ok_last [] c = refl
ok_last (d ∷ cs) c = ap (λ (rs : List (Result Cleaned CleanFault)). Ok d ∷ rs) (ok_last cs c)

pub ok_length : (cs : List Cleaned) → length (all_ok cs) ≡ length cs
ok_length [] = refl
ok_length (c ∷ cs) = ap suc (ok_length cs)

pub ok_at : (cs : List Cleaned) (k : ℕ) (c : Cleaned) → slice_get cs k ≡ Some c → slice_get (all_ok cs) k ≡ Some (Ok c)
ok_at [] k c is = absurd (let no : None ≡ Some c = is in cc)
ok_at (d ∷ cs) zero c is = ap (λ (x : Cleaned). Some (Ok x)) (same_Some d c is)
ok_at (d ∷ cs) (suc k) c is = ok_at cs k c is

-- the name of the volume that was read at a place
pub name_is : (vs : List VolumeConf) (k : ℕ) (v : VolumeConf) → k < length vs → v ≡ get_or vs k v → name_at (names_of vs) k ≡ v.name
name_is vs k v within read =
    let there = slice_get_read vs (length vs) k v refl within read in
    get_or_from_slice_get (names_of vs) k v.name [] (slice_get-map (λ (w : VolumeConf). w.name) vs k ∙ ap (option_map (λ (w : VolumeConf). w.name)) there)

-- what was appended to nothing is the line of the volume of this name
pub one_line : (old new name its : List ℕ) (c : Cleaned) → old ≡ [] → new ≡ old ++ clean_line its c → its ≡ name → new ≡ clean_line name c
one_line old new name its c empty appended named = appended ∙ ap (λ (l : List ℕ). l ++ clean_line its c) empty ∙ ap (λ (l : List ℕ). clean_line l c) named

-- ---- One volume more

module _ {D : Type 0} (tells : Bool) (state : D → State) (config : Config) where
  -- the stations of other volumes stay as they are
  abbrev pub LeavesOthers : (q p : Rack D) (n : ℕ) → Type 0
  LeavesOthers q p n = (k : ℕ) → (k ≡ n → ⊥) → slice_get p.stations.items k ≡ slice_get q.stations.items k

  pub first_none : (r : Rack D) → CleansFirst tells state config r r []
  first_none r = record { few = omega arith; each = λ k a is. absurd (let no : None ≡ Some a = is in cc); others = λ k s least is. is }

  pub first_more : (r q p : Rack D) (done : List (Result Cleaned CleanFault)) (a : Result Cleaned CleanFault) (n : ℕ) → length done ≡ n → n < length config.volumes.items → IsWorked r q → CleansFirst tells state config r q done
      → LeavesOthers q p n → CleansStation tells state config q p n a → CleansFirst tells state config r p (done ++ a ∷ [])
  first_more r q p done a n count within worked first others now = record { few = omega (arith, length-append done (a ∷ []), count, within); each = each; others = others_then }
    where
      was : (s : Station D) × (slice_get r.stations.items n ≡ Some s) × IsSameButWorked s now.station
      was = zip_back IsSameButWorked r.stations.items q.stations.items n now.station worked.each now.there

      same : was.0 ≡ now.station
      same = same_Some was.0 now.station (sym (first.others n was.0 (omega (arith, count)) was.1) ∙ now.there)

      last : CleansStation tells state config r p n a
      last = record { station = now.station; there = was.1 ∙ ap Some same; pass = now.pass; now = now.now; cleans = now.cleans }

      each : (k : ℕ) (b : Result Cleaned CleanFault) → slice_get (done ++ a ∷ []) k ≡ Some b → CleansStation tells state config r p k b
      each k b is = elim (last_or_before done a k b is) [
        | inl before ↦
            let c = first.each k b before in
            let lt = slice_get_within done k b before in
            record { station = c.station; there = c.there; pass = c.pass; now = others k (λ at. omega (arith, at, lt, count)) ∙ c.now; cleans = c.cleans }
        | inr (at, is_a) ↦ subst (λ (m : ℕ). CleansStation tells state config r p m b) (sym (at ∙ count)) (subst (CleansStation tells state config r p n) (sym is_a) last)
      ]

      others_then : (k : ℕ) (s : Station D) → length (done ++ a ∷ []) ≤ k → slice_get r.stations.items k ≡ Some s → slice_get p.stations.items k ≡ Some s
      others_then k s least is =
          let long = length-append done (a ∷ []) in
          others k (λ at. omega (arith, at, least, long, count)) ∙ first.others k s (omega (arith, least, long)) is

  -- ---- The loop

  -- the first n volumes were cleaned
  pub record Underway (r q : Rack D) (n : ℕ) (printed now : Option (List ℕ)) : Type 0 where
    pub worked : IsWorked r q
    pub told : List Cleaned
    pub count : length told ≡ n
    pub first : CleansFirst tells state config r q (all_ok told)
    pub prints : Appends printed now (lines_of config told)

  pub begins : (r : Rack D) (printed now : Option (List ℕ)) → Appends printed now [] → Underway r r 0 printed now
  begins r printed now nothing = record { worked = worked_self r; told = []; count = refl; first = first_none r; prints = nothing }

  module _ (r q p : Rack D) (n : ℕ) (printed now : Option (List ℕ)) (u : Underway r q n printed now) (within : n < length config.volumes.items) (worked : IsWorked q p) (others : LeavesOthers q p n) where
    pub worked_more : IsWorked r p
    worked_more = worked_then r q p u.worked worked

    oks : length (all_ok u.told) ≡ n
    oks = ok_length u.told ∙ u.count

    -- the next was refused
    pub refused_next : (sink sink' : ℕ) (f : CleanFault) → CleansStation tells state config q p n (Err f) → sink' ≡ sink → CleansAll tells state config r p sink sink' printed now (Err (stop.Fault (fault_of n f)))
    refused_next sink sink' f cleans calm = subst (λ (m : ℕ). CleansAll tells state config r p sink sink' printed now (Err (stop.Fault (fault_of m f)))) u.count
        (refused u.told f (first_more r q p (all_ok u.told) (Err f) n oks within u.worked u.first others cleans) calm u.prints)

    module _ (c : Cleaned) (cleans : CleansStation tells state config q p n (Ok c)) where
      first_ok : CleansFirst tells state config r p (all_ok (u.told ++ c ∷ []))
      first_ok = subst (CleansFirst tells state config r p) (sym (ok_last u.told c)) (first_more r q p (all_ok u.told) (Ok c) n oks within u.worked u.first others cleans)

      -- its line
      line : List ℕ
      line = clean_line (name_at (names_of config.volumes.items) n) c

      lines_then : lines_of config (u.told ++ c ∷ []) ≡ lines_of config u.told ++ clean_line (name_at (names_of config.volumes.items) n) c
      lines_then = let at : 0 + length u.told ≡ n = (let e = u.count in omega (arith, e)) in
          lines_last 0 config u.told c ∙ ap (λ (k : ℕ). lines_of config u.told ++ clean_line (name_at (names_of config.volumes.items) k) c) at

      pub no_line : (sink sink' : ℕ) → sink' ≡ sink → CleansAll tells state config r p sink sink' printed now (Err (stop.Fault Memory))
      no_line sink sink' calm = no_memory u.told c first_ok calm u.prints

      pub cut_line : (sink sink' : ℕ) (later : Option (List ℕ)) → Rose sink sink' → AppendsFront now later (clean_line (name_at (names_of config.volumes.items) n) c) → CleansAll tells state config r p sink sink' printed later (Err stop.Sink)
      cut_line sink sink' later rose front = sink_failed u.told c first_ok rose (subst (AppendsFront printed later) (sym lines_then) (front_last printed now later (lines_of config u.told) (clean_line (name_at (names_of config.volumes.items) n) c) u.prints front))

      pub goes_on : (later : Option (List ℕ)) → Appends now later (clean_line (name_at (names_of config.volumes.items) n) c) → Underway r p (n + 1) printed later
      goes_on later more = record {
        worked = worked_more;
        told = u.told ++ c ∷ [];
        count = length-append u.told (c ∷ []) ∙ ap (λ (m : ℕ). m + 1) u.count;
        first = first_ok;
        prints = subst (Appends printed later) (sym lines_then) (appends_both printed now later (lines_of config u.told) (clean_line (name_at (names_of config.volumes.items) n) c) u.prints more);
      }

  -- all were cleaned
  pub all_cleaned : (r q : Rack D) (n : ℕ) (printed now : Option (List ℕ)) (sink sink' : ℕ) → Underway r q n printed now → n ≡ length config.volumes.items → sink' ≡ sink → CleansAll tells state config r q sink sink' printed now (Ok tt)
  all_cleaned r q n printed now sink sink' u all calm = whole u.told u.first (u.count ∙ all) calm u.prints
