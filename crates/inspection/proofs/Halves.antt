-- Two halves of the stations, and what was found at each.
use Rattle.std.proofs.Common.{◌≡◌, ◌⊎◌, inl, inr, ◌<◌, ◌≤◌, ◌+◌, ◌-◌, ℕ, zero, suc, Bool, List, [], ◌∷◌, ◌++◌, length, get_or, refl, sym, ap, subst, ◌∙◌, arith, length-append}
use Rattle.std.specs.Prelude.{slice_set}
use Rattle.std.specs.List.{AllZip}
use Rattle.std.specs.declared.alloc.Global.{Global}
use Rattle.std.specs.declared.vec.Vec.{Vec}
use Rattle.std.proofs.lemmas.List.{get_or_append_left, get_or-append-add, get_or-append_right, get_or-set_other, get_or-set_same}
use Rattle.wol_disk.specs.Disk.{State}
use Rattle.wol_config.specs.declared.config.Config.{Config}
use Rattle.logger.specs.declared.shared.Shared.{Shared}
use Rattle.manager.specs.declared.station.Station.{Station}
use Rattle.rack_parts.specs.declared.rack.Rack.{Rack}
use Rattle.inspection.specs.Racks.{CanLook, IsSameRack, IsSameStation}
use Rattle.inspection.specs.Findings.{CanAllBeLookedAt, AreEmpty, HasFound, HaveFound, CanBeLookedAt}
use Rattle.inspection.specs.declared.beside.Finding.{Finding}

pub below_or_past : (a b : ℕ) → (a < b) ⊎ (b ≤ a)
below_or_past a zero = inr (omega arith)
below_or_past zero (suc b) = inl (omega arith)
below_or_past (suc a) (suc b) = elim (below_or_past a b) [
  | inl less ↦ inl (omega (arith, less))
  | inr least ↦ inr (omega (arith, least))
]

module _ {D : Type 0} (config : Config) (shared : Shared D) (ss ts : List (Station D)) (fs hs : List Finding) (same : length fs ≡ length ss) where
  pub ahead_front : CanAllBeLookedAt config shared (ss ++ ts) (fs ++ hs) → CanAllBeLookedAt config shared ss fs
  ahead_front all = record {
    count = same;
    each = λ k s f less.
        subst (λ (t : Station D). CanBeLookedAt config shared t (get_or fs k f)) (get_or_append_left ss ts s k less)
        (subst (λ (h : Finding). CanBeLookedAt config shared (get_or (ss ++ ts) k s) h) (get_or_append_left fs hs f k (omega (arith, less, same)))
        (all.each k s f (let long = length-append ss ts in omega (arith, less, long))));
  }

  pub ahead_back : CanAllBeLookedAt config shared (ss ++ ts) (fs ++ hs) → CanAllBeLookedAt config shared ts hs
  ahead_back all = record {
    count = (let n = all.count in let x = length-append ss ts in let y = length-append fs hs in omega (arith, n, x, y, same));
    each = λ k s f less.
        subst (λ (t : Station D). CanBeLookedAt config shared t (get_or hs k f)) (get_or-append-add ss ts k s)
        (subst (λ (h : Finding). CanBeLookedAt config shared (get_or (ss ++ ts) (length ss + k) s) h) (ap (λ (n : ℕ). get_or (fs ++ hs) (n + k) f) (sym same) ∙ get_or-append-add fs hs k f)
        (all.each (length ss + k) s f (let long = length-append ss ts in omega (arith, less, long))));
  }

module _ {D : Type 0} (tells : Bool) (state : D → State) (config : Config) (ss ts ss' ts' : List (Station D)) (fs hs : List Finding) (same : length fs ≡ length ss) (same' : length ss' ≡ length ss) where
  -- what was found at both halves was found at all
  pub found_both : HaveFound tells state config ss ss' fs → HaveFound tells state config ts ts' hs → HaveFound tells state config (ss ++ ts) (ss' ++ ts') (fs ++ hs)
  found_both front back = record {
    each = λ k s f less. elim (below_or_past k (length ss)) [
      | inl low ↦
          let a = get_or_append_left ss ts s k low in
          let b = get_or_append_left ss' ts' s k (omega (arith, low, same')) in
          let d = get_or_append_left fs hs f k (omega (arith, low, same)) in
          rw (a, b, d) (front.each k s f low)
      | inr high ↦
          let a = get_or-append_right ss ts (length ss) k s refl high in
          let b = get_or-append_right ss' ts' (length ss) k s same' high in
          let d = get_or-append_right fs hs (length ss) k f same high in
          rw (a, b, d) (back.each (k - length ss) s f (let long = length-append ss ts in omega (arith, less, high, long)))
    ];
  }

-- one more station was looked at
module _ {D : Type 0} (tells : Bool) (state : D → State) (config : Config) (ss ts : List (Station D)) (fs : List Finding) (k : ℕ) (t : Station D) (f : Finding) (within_ts : k < length ts) (within_fs : k < length fs) where
  pub found_next : ((j : ℕ) (s : Station D) (h : Finding) → j < k → HasFound tells state config (get_or ss j s) (get_or ts j s) (get_or fs j h))
      → ((s : Station D) → HasFound tells state config (get_or ss k s) t f)
      → (j : ℕ) (s : Station D) (h : Finding) → j < k + 1 → HasFound tells state config (get_or ss j s) (get_or (slice_set ts k t) j s) (get_or (slice_set fs k f) j h)
  found_next before here j s h less = elim (below_or_past j k) [
    | inl low ↦
        let a = get_or-set_other ts k j t s (λ is. omega (arith, low, is)) in
        let b = get_or-set_other fs k j f h (λ is. omega (arith, low, is)) in
        rw (a, b) (before j s h low)
    | inr past ↦
        let at : j ≡ k = omega (arith, less, past) in
        let a = get_or-set_same ts k t s within_ts in
        let b = get_or-set_same fs k f h within_fs in
        rw (at, a, b) (here s)
  ]
