-- The volumes are printed one after another.
use Rattle.std.proofs.Common.{◌≡◌, ◌≢◌, ◌⊎◌, inl, inr, ◌<◌, ◌≤◌, ◌+◌, ℕ, zero, suc, Bool, List, [], ◌∷◌, ◌++◌, length, Option, None, Some, Result, Ok, Err, refl, sym, ap, subst, ◌∙◌, arith, append-nil, length-append}
use Rattle.std.specs.Prelude.{slice_get}
use Rattle.std.specs.Io.KnownBytes.{Appends}
use Rattle.std.proofs.lemmas.Option.{slice_get_within, same_Some}
use Rattle.wol_disk.specs.Disk.{State}
use Rattle.wol_io.specs.Streams.{AppendsFront}
use Rattle.wol_io.proofs.Appending.{appends_both, front_last}
use Rattle.wol_config.specs.declared.config.Config.{Config}
use Rattle.manager.specs.declared.station.Station.{Station}
use Rattle.manager.proofs.ReadThrough.{zip_back}
use Rattle.inspection.specs.declared.fault.DumpFault.{DumpFault}
use Rattle.report.specs.declared.trouble.Trouble.{Trouble}
use Rattle.rack_parts.specs.declared.rack.Rack.{Rack}
use Rattle.inspection.specs.Racks.{IsSameStation, IsSameRack, LeavesOthers}
use Rattle.inspection.specs.Lines.{Telling, IsTelling, AreTellings, LooksAtVolume, text_of, first_of, first_trouble}
use Rattle.inspection.specs.declared.asked.Asked.{Asked}
use Rattle.inspection.proofs.SameRacks.{rack_self, rack_then}

-- ---- Lists of tellings

pub text_last : (ts : List Telling) (t : Telling) → text_of (ts ++ t ∷ []) ≡ text_of ts ++ t.text
text_last [] t = append-nil t.text
text_last (u ∷ ts) t = ap (λ (x : List ℕ). u.text ++ x) (text_last ts t) ∙ sym (Rattle.std.proofs.Common.append_assoc u.text (text_of ts) t.text)

first_nothing : (o : Option Trouble) → first_of o None ≡ o
first_nothing None = refl
first_nothing (Some t) = refl

first_after : (o p q : Option Trouble) → first_of o (first_of p q) ≡ first_of (first_of o p) q
first_after None p q = refl
first_after (Some t) p q = refl

pub first_last : (ts : List Telling) (t : Telling) → first_trouble (ts ++ t ∷ []) ≡ first_of (first_trouble ts) t.trouble
first_last [] t = first_nothing t.trouble
first_last (u ∷ ts) t = ap (λ (o : Option Trouble). first_of u.trouble o) (first_last ts t) ∙ first_after u.trouble (first_trouble ts) t.trouble

-- an element of a list with one more
pub last_or_before : {X : Type 0} (xs : List X) (x : X) (k : ℕ) (y : X) → slice_get (xs ++ x ∷ []) k ≡ Some y → (slice_get xs k ≡ Some y) ⊎ ((k ≡ length xs) × (y ≡ x))
last_or_before [] x zero y is = inr (refl, sym (same_Some x y is))
last_or_before [] x (suc k) y is = absurd (let no : None ≡ Some y = is in cc)
last_or_before (z ∷ xs) x zero y is = inl is
last_or_before (z ∷ xs) x (suc k) y is = elim (last_or_before xs x k y is) [
  | inl before ↦ inl before
  | inr (at, same) ↦ inr (ap suc at, same)
]

-- ---- What was told of some first volumes

-- each of the first i was told as this says, and printed
pub record HaveTold (config : Config) (Tells : ℕ → Telling → Type 0) (i : ℕ) (first : Option Trouble) (printed now : Option (List ℕ)) : Type 0 where
  pub told : List Telling
  pub count : length told ≡ i
  pub few : i ≤ length config.volumes.items
  pub each : (k : ℕ) (t : Telling) → slice_get told k ≡ Some t → Tells k t
  pub first_is : first ≡ first_trouble told
  pub prints : Appends printed now (text_of told)

pub none_told : (config : Config) (Tells : ℕ → Telling → Type 0) (printed now : Option (List ℕ)) → Appends printed now [] → HaveTold config Tells 0 None printed now
none_told config Tells printed now nothing = record {
  told = [];
  count = refl;
  few = omega arith;
  each = λ k t is. absurd (let no : None ≡ Some t = is in cc);
  first_is = refl;
  prints = nothing;
}

pub one_told : (config : Config) (Tells Later : ℕ → Telling → Type 0) (i : ℕ) (first : Option Trouble) (printed now : Option (List ℕ)) (u : HaveTold config Tells i first printed now) (t : Telling) → i < length config.volumes.items
    → ((k : ℕ) (v : Telling) → slice_get (u.told ++ t ∷ []) k ≡ Some v → Later k v) → (later : Option (List ℕ)) → Appends now later t.text → HaveTold config Later (i + 1) (first_of first t.trouble) printed later
one_told config Tells Later i first printed now u t within each later more = record {
  told = u.told ++ t ∷ [];
  count = length-append u.told (t ∷ []) ∙ ap (λ (j : ℕ). j + 1) u.count;
  few = omega (arith, within);
  each = each;
  first_is = ap (λ (o : Option Trouble). first_of o t.trouble) u.first_is ∙ sym (first_last u.told t);
  prints = rw (text_last u.told t) (appends_both printed now later (text_of u.told) t.text u.prints more);
}

-- ---- What was told stays so

module _ {D : Type 0} (tells : Bool) (state : D → State) (config : Config) (asked : Asked) where
  look_still : (r q p : Rack D) (n k : ℕ) (answer : Result (Unit {0}) DumpFault) (text : List ℕ) → LeavesOthers q p n → (k ≡ n → ⊥) → LooksAtVolume tells state config asked r q k answer text
      → LooksAtVolume tells state config asked r p k answer text
  look_still r q p n k answer text others apart look = record {
    place = look.place;
    station = look.station;
    is_station = look.is_station;
    pass = look.pass;
    now = others look.place (record look.station { worker = look.pass }) look.now (λ same. apart (sym look.is_station.id ∙ same));
    looks = look.looks;
  }

  telling_still : (r q p : Rack D) (n k : ℕ) (t : Telling) → LeavesOthers q p n → (k ≡ n → ⊥) → IsTelling tells state config asked r q k t → IsTelling tells state config asked r p k t
  telling_still r q p n k t others apart (inl fault) = inl fault
  telling_still r q p n k t others apart (inr (inl order)) = inr (inl (record { looked = look_still r q p n k (Ok tt) t.text others apart order.looked; trouble = order.trouble }))
  telling_still r q p n k t others apart (inr (inr failed)) = inr (inr (record {
    part = failed.part;
    answer = failed.answer;
    is_answer = failed.is_answer;
    looked = look_still r q p n k failed.answer [] others apart failed.looked;
    trouble = failed.trouble;
    text = failed.text;
  }))

  -- the stations of later volumes are as they were
  abbrev pub HasUntouched : (r q : Rack D) (n : ℕ) → Type 0
  HasUntouched r q n = (place : ℕ) (s : Station D) → slice_get r.stations.items place ≡ Some s → n ≤ s.id → slice_get q.stations.items place ≡ Some s

  -- what is told of a volume that was untouched is told of the rack as it was at first
  look_first : (r q p : Rack D) (n : ℕ) (answer : Result (Unit {0}) DumpFault) (text : List ℕ) → IsSameRack r q → HasUntouched r q n → LooksAtVolume tells state config asked q p n answer text
      → LooksAtVolume tells state config asked r p n answer text
  look_first r q p n answer text same untouched look =
      let was = zip_back IsSameStation r.stations.items q.stations.items look.place look.station same.each look.is_station.there in
      let number : was.0.id ≡ n = sym (ap (λ (w : Station D). w.id) was.2.same) ∙ look.is_station.id in
      let there : slice_get q.stations.items look.place ≡ Some was.0 = untouched look.place was.0 was.1 (omega (arith, number)) in
      let is : was.0 ≡ look.station = same_Some was.0 look.station (sym there ∙ look.is_station.there) in
      record {
        place = look.place;
        station = look.station;
        is_station = record { there = was.1 ∙ ap Some is; id = look.is_station.id };
        pass = look.pass;
        now = look.now;
        looks = look.looks;
      }

  telling_first : (r q p : Rack D) (n : ℕ) (t : Telling) → IsSameRack r q → HasUntouched r q n → IsTelling tells state config asked q p n t → IsTelling tells state config asked r p n t
  telling_first r q p n t same untouched (inl fault) = inl (record {
    fault = fault.fault;
    is_fault = ap (λ (w : Rack D). slice_get w.faults.items n) (sym same.same) ∙ fault.is_fault;
    trouble = fault.trouble;
    text = fault.text;
  })
  telling_first r q p n t same untouched (inr (inl order)) = inr (inl (record { looked = look_first r q p n (Ok tt) t.text same untouched order.looked; trouble = order.trouble }))
  telling_first r q p n t same untouched (inr (inr failed)) = inr (inr (record {
    part = failed.part;
    answer = failed.answer;
    is_answer = failed.is_answer;
    looked = look_first r q p n failed.answer [] same untouched failed.looked;
    trouble = failed.trouble;
    text = failed.text;
  }))

  -- ---- The loop

  -- the first n volumes were printed
  pub record Underway (r q : Rack D) (n : ℕ) (first : Option Trouble) (printed now : Option (List ℕ)) : Type 0 where
    pub same : IsSameRack r q
    pub untouched : HasUntouched r q n
    pub so_far : HaveTold config (IsTelling tells state config asked r q) n first printed now

  pub begins : (r : Rack D) (printed now : Option (List ℕ)) → Appends printed now [] → Underway r r 0 None printed now
  begins r printed now nothing = record {
    same = rack_self r;
    untouched = λ place s is least. is;
    so_far = none_told config (IsTelling tells state config asked r r) printed now nothing;
  }

  module _ (r q p : Rack D) (n : ℕ) (first : Option Trouble) (printed now : Option (List ℕ)) (u : Underway r q n first printed now) (same : IsSameRack q p) (others : LeavesOthers q p n) where
    -- those that were told, after a further look
    pub tellings_still : AreTellings tells state config asked r p u.so_far.told
    tellings_still = record {
      few = rw u.so_far.count u.so_far.few;
      each = λ k t is. telling_still r q p n k t others (λ at. let within = slice_get_within u.so_far.told k t is in omega (arith, within, at, u.so_far.count)) (u.so_far.each k t is);
    }

    -- there was no memory for the next
    pub stopped : IsSameRack r p × AreTellings tells state config asked r p u.so_far.told
    stopped = (rack_then r q p u.same same, tellings_still)

    module _ (within : n < length config.volumes.items) (t : Telling) (telling : IsTelling tells state config asked q p n t) where
      each_more : (k : ℕ) (v : Telling) → slice_get (u.so_far.told ++ t ∷ []) k ≡ Some v → IsTelling tells state config asked r p k v
      each_more k v is = elim (last_or_before u.so_far.told t k v is) [
        | inl before ↦ tellings_still.each k v before
        | inr (at, is_t) ↦ subst (λ (w : Telling). IsTelling tells state config asked r p k w) (sym is_t)
            (subst (λ (m : ℕ). IsTelling tells state config asked r p m t) (sym (at ∙ u.so_far.count)) (telling_first r q p n t u.same u.untouched telling))
      ]

      -- with the next
      pub tellings_more : AreTellings tells state config asked r p (u.so_far.told ++ t ∷ [])
      tellings_more = record { few = omega (arith, length-append u.so_far.told (t ∷ []), u.so_far.count, within); each = each_more }

      -- a front of it was printed
      pub front_more : (later : Option (List ℕ)) → AppendsFront now later t.text → AppendsFront printed later (text_of (u.so_far.told ++ t ∷ []))
      front_more later front = rw (text_last u.so_far.told t) (front_last printed now later (text_of u.so_far.told) t.text u.so_far.prints front)

      -- it was printed
      pub goes_on : (later : Option (List ℕ)) → Appends now later t.text → Underway r p (n + 1) (first_of first t.trouble) printed later
      goes_on later more = record {
        same = rack_then r q p u.same same;
        untouched = λ place s is least. others place s (u.untouched place s is (omega (arith, least))) (λ at. omega (arith, at, least));
        so_far = one_told config (IsTelling tells state config asked r q) (IsTelling tells state config asked r p) n first printed now u.so_far t within each_more later more;
      }
