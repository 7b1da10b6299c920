-- The volumes of a rack that are opened in order.
use Rattle.rack.proofs.Basics.{◌≡◌, ◌≢◌, inl, inr, ⊎_elim, ℕ, ◌+◌, ◌<◌, ◌≤◌, Bool, List, length, Option, None, Some, sym, ap, ◌∙◌, arith, is_some, cases_lt, none-some, slice_get_within}
use Rattle.rack.proofs.Basics.{get_or_from_slice_get}
use Rattle.rack.proofs.Terms.{State, BayState, Told, Config, shapes_of, said_at, view_at, fault_at, IsOpeningRack, HasBegun, AreRefusedBelow, HaveFaults, AreRefused, IsRack, image_here}
use Rattle.rack.proofs.Terms.{Said, Rack}
use Rattle.rack.proofs.Places.{some_at}
use Rattle.rack.proofs.Cases.{none_or}
use Rattle.rack.proofs.Openable.{ids_below}

module _ {D : Type 0} (tells : Bool) (state : D → State) (config : Config) (said : List (Option Said)) (r : Rack D) where
  module _ (b : BayState) (n : ℕ) (o : IsOpeningRack state config b said n r) where
    module _ (within : n < length (shapes_of config)) (none : said_at said n ≡ None) where
      -- a volume that says nothing has no image that is out
      pub not_out : image_here r.rest.images.items n ≡ None
      not_out = none_or (image_here r.rest.images.items n) (λ image e. let s = some_at (shapes_of config) n within in let own = o.says n s.0 s.1 (ap is_some e) in none-some own.0 (sym none ∙ own.1))

      faulty : fault_at r.faults.items n ≢ None
      faulty e = let there = (o.tried.further n (omega arith) within).0 e in let f = ap is_some not_out in cc (there, f)

      -- such a volume is passed over
      pub passed : IsOpeningRack state config b said (n + 1) r
      passed = record {
        being = o.being;
        station_room = let h = o.station_room in omega (arith, h);
        manager_room = let h = o.manager_room in omega (arith, h);
        tried = record {
          count = o.tried.count;
          known = o.tried.known;
          below = λ k s lt. let h = o.tried.below k s lt in omega (arith, h);
          tried = λ k lt.
              ⊎_elim
              (λ (less : k < n). o.tried.tried k less)
              (λ (more : n ≤ k).
              let e : n ≡ k = omega (arith, lt, more) in
              (λ fine. absurd (faulty (ap (λ (j : ℕ). fault_at r.faults.items j) e ∙ fine)), λ has. let h = ids_below state config b said n r o k has in absurd (omega (arith, h, more))))
              (cases_lt k n);
          further = λ k le lt. o.tried.further k (omega (arith, le)) lt;
        };
        untouched = record {
          passes = λ v k p le here. o.untouched.passes v k p (omega (arith, le)) here;
          here = λ v k i own image le says owned here. o.untouched.here v k i own image (omega (arith, le)) says owned here;
        };
      }

      pub refused_passed : (b0 b1 : BayState) → AreRefusedBelow tells state config b0 b1 n r → AreRefusedBelow tells state config b0 b1 (n + 1) r
      refused_passed b0 b1 below k v f or at is =
          ⊎_elim
          (λ (lt : k < n + 1).
          ⊎_elim
          (λ (less : k < n). below k v f (inl less) at is)
          (λ (more : n ≤ k). let e : n ≡ k = omega (arith, lt, more) in below k v f (inr (ap (λ (j : ℕ). image_here r.rest.images.items j) (sym e) ∙ not_out)) at is)
          (cases_lt k n))
          (λ none'. below k v f (inr none') at is)
          or

      pub failed_passed : HaveFaults state said n r → HaveFaults state said (n + 1) r
      failed_passed have k p lt out is =
          ⊎_elim
          (λ (less : k < n). have k p less out is)
          (λ (more : n ≤ k). let e : n ≡ k = omega (arith, lt, more) in let none = ap is_some (ap (λ (j : ℕ). image_here r.rest.images.items j) (sym e) ∙ not_out) in absurd (cc (none, out)))
          (cases_lt k n)

    -- when all were tried the rack is whole
    pub whole : n ≡ length (shapes_of config) → IsRack state config b r
    whole all = record {
      closable = o.closable;
      fault_count = o.tried.count;
      faults = λ k lt. o.tried.tried k (omega (arith, lt, all));
      known = o.tried.known;
      users = (view_at said, o.users);
    }

  pub begun_passed : (t : Told) (n : ℕ) → HasBegun state config t said n r → HasBegun state config t said (n + 1) r
  begun_passed t n h = record {
    began = h.began;
    cut = record {
      says = h.cut.says;
      homes = λ k v i image p le. h.cut.homes k v i image p (omega (arith, le));
      segments = λ owner k j v i own image p le. h.cut.segments owner k j v i own image p (omega (arith, le));
    };
  }

  pub all_refused : (b0 b1 : BayState) (n : ℕ) → length r.faults.items ≡ n → AreRefusedBelow tells state config b0 b1 n r → AreRefused tells state config b0 b1 r
  all_refused b0 b1 n count below k v f at is = below k v f (inl (let w = slice_get_within r.faults.items k (Some f) is in omega (arith, w, count))) at (get_or_from_slice_get r.faults.items k (Some f) None is)
