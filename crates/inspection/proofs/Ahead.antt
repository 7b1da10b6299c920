-- A run of stations behind those that were looked at.
use Rattle.std.proofs.Common.{◌≡◌, ◌⊎◌, inl, inr, ◌<◌, ◌≤◌, ◌+◌, ◌-◌, ℕ, zero, suc, Bool, List, [], ◌∷◌, ◌++◌, length, get_or, refl, sym, ap, subst, ◌∙◌, arith, length-append}
use Rattle.std.specs.Prelude.{All}
use Rattle.std.specs.List.{AllZip}
use Rattle.std.proofs.lemmas.List.{get_or_append_left, get_or-append-add}
use Rattle.std.proofs.lemmas.Option.{slice_get-get_or, slice_get_within, get_or_from_slice_get}
use Rattle.wol_disk.specs.Disk.{State}
use Rattle.wol_config.specs.declared.config.Config.{Config}
use Rattle.logger.specs.declared.shared.Shared.{Shared}
use Rattle.manager.specs.declared.station.Station.{Station}
use Rattle.rack.specs.Racks.{IsStation, base_of_station}
use Rattle.rack_parts.specs.declared.rack.Rack.{Rack}
use Rattle.inspection.specs.Looks.{IsConfiguredBase}
use Rattle.inspection.specs.Racks.{IsSameRack, IsSameStation, IsStationAt}
use Rattle.inspection.specs.Findings.{AreEmpty, AreFoundTo, CanAllBeLookedAt, HasFound, HasFoundMore, HaveFound, KeepsFound}
use Rattle.inspection.specs.declared.beside.Finding.{Finding}
use Rattle.inspection.proofs.Halves.{below_or_past}
use Rattle.inspection.proofs.SameRacks.{station_self}

-- ---- Lists in three parts

in_first : {X : Type 0} (xs ys : List X) (n k : ℕ) (d : X) → length xs ≡ n → k < n → get_or (xs ++ ys) k d ≡ get_or xs k d
in_first xs ys n k d is less = get_or_append_left xs ys d k (omega (arith, is, less))

in_second : {X : Type 0} (xs ys zs : List X) (n k : ℕ) (d : X) → length xs ≡ n → k < length ys → get_or (xs ++ (ys ++ zs)) (n + k) d ≡ get_or ys k d
in_second xs ys zs n k d is less = ap (λ (m : ℕ). get_or (xs ++ (ys ++ zs)) (m + k) d) (sym is) ∙ (get_or-append-add xs (ys ++ zs) k d ∙ get_or_append_left ys zs d k less)

in_third : {X : Type 0} (xs ys zs : List X) (n m k : ℕ) (d : X) → length xs ≡ n → length ys ≡ m → get_or (xs ++ (ys ++ zs)) (n + (m + k)) d ≡ get_or zs k d
in_third xs ys zs n m k d is js =
    ap (λ (i : ℕ). get_or (xs ++ (ys ++ zs)) (i + (m + k)) d) (sym is) ∙ (get_or-append-add xs (ys ++ zs) (m + k) d ∙ (ap (λ (i : ℕ). get_or (ys ++ zs) (i + k) d) (sym js) ∙ get_or-append-add ys zs k d))

long_three : {X : Type 0} (xs ys zs : List X) → length (xs ++ (ys ++ zs)) ≡ length xs + (length ys + length zs)
long_three xs ys zs = length-append xs (ys ++ zs) ∙ ap (λ (n : ℕ). length xs + n) (length-append ys zs)

-- ---- The run

module _ {D : Type 0} (tells : Bool) (state : D → State) (config : Config) (ss a b d : List (Station D)) (fa fb fd : List Finding) (n m : ℕ) (is_a : length a ≡ n) (is_b : length b ≡ m) (is_fa : length fa ≡ n) (is_fb : length fb ≡ m)
    (going : AreFoundTo tells state config ss (a ++ (b ++ d)) (fa ++ (fb ++ fd)) n) where
  pub run_ahead : (shared : Shared D) → All (λ (s : Station D). IsStation s × IsConfiguredBase config shared (base_of_station s)) (a ++ (b ++ d)) → CanAllBeLookedAt config shared b fb
  run_ahead shared all = record {
    count = omega (arith, is_b, is_fb);
    each = λ k s f less.
        let is_s = in_second a b d n k s is_a less in
        let is_f = in_second fa fb fd n k f is_fa (omega (arith, less, is_b, is_fb)) in
        let ours = subst (λ (t : Station D). IsStation t × IsConfiguredBase config shared (base_of_station t)) is_s (all (n + k) s (let long = long_three a b d in omega (arith, long, less, is_a))) in
        record {
          station = ours.0;
          base = ours.1;
          empty = subst (λ (h : Finding). h.text.items ≡ []) is_f (going.nothing (n + k) f (omega arith) (let long = long_three fa fb fd in omega (arith, long, less, is_fa, is_fb, is_b)));
        };
  }

  module _ (b' : List (Station D)) (fb' : List Finding) (is_b' : length b' ≡ m) (is_fb' : length fb' ≡ m) where
    pub run_keeps : KeepsFound n (a ++ (b ++ d)) (a ++ (b' ++ d)) (fa ++ (fb ++ fd)) (fa ++ (fb' ++ fd))
    run_keeps = record {
      long = (let x = long_three a b d in let y = long_three a b' d in omega (arith, x, y, is_b, is_b'));
      stations = λ k s less. in_first a (b' ++ d) n k s is_a less ∙ sym (in_first a (b ++ d) n k s is_a less);
      findings = λ k f less. in_first fa (fb' ++ fd) n k f is_fa less ∙ sym (in_first fa (fb ++ fd) n k f is_fa less);
    }

    module _ (run : HaveFound tells state config b b' fb') where
      found_at : (k : ℕ) (s : Station D) (f : Finding) → k < n + m → (k < n) ⊎ (n ≤ k) → HasFound tells state config (get_or ss k s) (get_or (a ++ (b' ++ d)) k s) (get_or (fa ++ (fb' ++ fd)) k f)
      found_at k s f less (inl low) = rw (run_keeps.stations k s low, run_keeps.findings k f low) (going.found k s f low)
      found_at k s f less (inr past) =
          let j = k - n in
          let is : n + j ≡ k = omega (arith, past) in
          let low : j < length b = omega (arith, less, past, is_b) in
          let first : get_or b j s ≡ get_or ss (n + j) s = sym (in_second a b d n j s is_a low) ∙ going.ahead (n + j) s (omega arith) in
          let second = in_second a b' d n j s is_a (omega (arith, low, is_b, is_b')) in
          let third = in_second fa fb' fd n j f is_fa (omega (arith, low, is_b, is_fb')) in
          subst (λ (i : ℕ). HasFound tells state config (get_or ss i s) (get_or (a ++ (b' ++ d)) i s) (get_or (fa ++ (fb' ++ fd)) i f)) is
          (rw (second, third) (subst (λ (t : Station D). HasFound tells state config t (get_or b' j s) (get_or fb' j f)) first (run.each j s f low)))

      pub run_found : AreFoundTo tells state config ss (a ++ (b' ++ d)) (fa ++ (fb' ++ fd)) (n + m)
      run_found = record {
        long = run_keeps.long ∙ going.long;
        count = (let x = long_three fa fb fd in let y = long_three fa fb' fd in let old = going.count in omega (arith, x, y, old, is_fb, is_fb'));
        within = (let x = long_three a b d in let old = going.long in omega (arith, x, old, is_a, is_b));
        found = λ k s f less. found_at k s f less (below_or_past k n);
        ahead = λ k s past.
            let j = k - (n + m) in
            let is : n + (m + j) ≡ k = omega (arith, past) in
            subst (λ (i : ℕ). get_or (a ++ (b' ++ d)) i s ≡ get_or ss i s) is
            (in_third a b' d n m j s is_a is_b' ∙ (sym (in_third a b d n m j s is_a is_b) ∙ going.ahead (n + (m + j)) s (omega arith)));
        nothing = λ k f past less.
            let j = k - (n + m) in
            let is : n + (m + j) ≡ k = omega (arith, past) in
            subst (λ (i : ℕ). (get_or (fa ++ (fb' ++ fd)) i f).text.items ≡ []) is
            (subst (λ (h : Finding). h.text.items ≡ []) (in_third fa fb fd n m j f is_fa is_fb ∙ sym (in_third fa fb' fd n m j f is_fa is_fb'))
            (going.nothing (n + (m + j)) f (omega arith) (let x = long_three fa fb fd in let y = long_three fa fb' fd in omega (arith, x, y, less, is, is_fb, is_fb'))));
      }

-- a run was looked at, and what was found before stays
pub has_more : {D : Type 0} (tells : Bool) (state : D → State) (config : Config) (ss a b d : List (Station D)) (fa fb fd : List Finding) (n m : ℕ) (is_a : length a ≡ n) (is_b : length b ≡ m) (is_fa : length fa ≡ n) (is_fb : length fb ≡ m)
    → AreFoundTo tells state config ss (a ++ (b ++ d)) (fa ++ (fb ++ fd)) n → (b' : List (Station D)) (fb' : List Finding) (is_b' : length b' ≡ m) (is_fb' : length fb' ≡ m) → HaveFound tells state config b b' fb'
    → HasFoundMore tells state config (a ++ (b ++ d)) (a ++ (b' ++ d)) (fa ++ (fb ++ fd)) (fa ++ (fb' ++ fd)) n (n + m)
has_more tells state config ss a b d fa fb fd n m is_a is_b is_fa is_fb going b' fb' is_b' is_fb' run = record {
  going = λ before was. run_found tells state config before a b d fa fb fd n m is_a is_b is_fa is_fb was b' fb' is_b' is_fb' run;
  keeps = run_keeps tells state config ss a b d fa fb fd n m is_a is_b is_fa is_fb going b' fb' is_b' is_fb';
}

-- ---- At the first

module _ {D : Type 0} (tells : Bool) (state : D → State) (config : Config) (ss : List (Station D)) where
  pub none_found : (fs : List Finding) → length fs ≡ length ss → AreEmpty fs → AreFoundTo tells state config ss ss fs 0
  none_found fs count empty = record {
    long = refl;
    count = count;
    within = omega arith;
    found = λ k s f less. absurd (omega (arith, less));
    ahead = λ k s past. refl;
    nothing = λ k f past less. empty k f less;
  }

pub keeps_self : {D : Type 0} (n : ℕ) (ss : List (Station D)) (fs : List Finding) → KeepsFound n ss ss fs fs
keeps_self n ss fs = record { long = refl; stations = λ k s less. refl; findings = λ k f less. refl }

-- ---- The rack

zip_each : {X : Type 0} (P : X → X → Type 0) (xs ys : List X) → length ys ≡ length xs → ((k : ℕ) (x : X) → k < length xs → P (get_or xs k x) (get_or ys k x)) → AllZip P xs ys
zip_each P [] [] long each = tt
zip_each P [] (y ∷ ys) long each = absurd (let no : suc (length ys) ≡ 0 = long in omega (arith, no))
zip_each P (x ∷ xs) [] long each = absurd (let no : 0 ≡ suc (length xs) = long in omega (arith, no))
zip_each P (x ∷ xs) (y ∷ ys) long each =
    (each 0 x (omega arith), zip_each P xs ys (let e : suc (length ys) ≡ suc (length xs) = long in omega (arith, e)) (λ k d less. each (suc k) d (omega (arith, less))))

-- some finding stands at each place
finding_at : (fs : List Finding) (k : ℕ) → k < length fs → Finding
finding_at [] k less = absurd (omega (arith, less))
finding_at (f ∷ fs) k less = f

-- ---- The same station at each place

module _ {D : Type 0} (tells : Bool) (state : D → State) (config : Config) (ss : List (Station D)) where
  same_at : (ts : List (Station D)) (fs : List Finding) (n : ℕ) → AreFoundTo tells state config ss ts fs n → (k : ℕ) (s : Station D) → k < length ss → (k < n) ⊎ (n ≤ k) → IsSameStation (get_or ss k s) (get_or ts k s)
  same_at ts fs n going k s less (inl low) = (going.found k s (finding_at fs k (let count = going.count in omega (arith, count, less))) low).same
  same_at ts fs n going k s less (inr past) = rw (going.ahead k s past) (station_self (get_or ss k s))

  id_at : (ts : List (Station D)) (fs : List Finding) (n : ℕ) → AreFoundTo tells state config ss ts fs n → (k : ℕ) (s : Station D) → k < length ss → (get_or ts k s).id ≡ (get_or ss k s).id
  id_at ts fs n going k s less = ap (λ (t : Station D). t.id) (same_at ts fs n going k s less (below_or_past k n)).same

  -- the station of a volume stands where it stood
  pub at_still : (ts us : List (Station D)) (fs hs : List Finding) (n m : ℕ) → AreFoundTo tells state config ss ts fs n → AreFoundTo tells state config ss us hs m → (number place : ℕ) (s : Station D) → IsStationAt ts number place s
      → IsStationAt us number place (get_or us place s)
  at_still ts us fs hs n m first then number place s at =
      let within = slice_get_within ts place s at.there in
      let less : place < length ss = (let long = first.long in omega (arith, within, long)) in
      record {
        there = slice_get-get_or us place s (let long = then.long in omega (arith, less, long));
        id = id_at us hs m then place s less ∙ (sym (id_at ts fs n first place s less) ∙ (ap (λ (t : Station D). t.id) (get_or_from_slice_get ts place s s at.there) ∙ at.id));
      }

pub rack_found : {D : Type 0} (tells : Bool) (state : D → State) (config : Config) (r q : Rack D) (fs : List Finding) (n : ℕ) → q ≡ record r { stations = q.stations } → AreFoundTo tells state config r.stations.items q.stations.items fs n
    → IsSameRack r q
rack_found {D} tells state config r q fs n rest going = record {
  same = rest;
  each = zip_each IsSameStation r.stations.items q.stations.items going.long (λ k s less. same_at tells state config r.stations.items q.stations.items fs n going k s less (below_or_past k n));
}
