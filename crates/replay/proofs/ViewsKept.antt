-- The volumes of a rack that was served kept to the views of their histories.
use Rattle.replay.proofs.Basics.{◌≡◌, ◌≢◌, ◌<◌, ◌≤◌, ◌⊎◌, inl, inr, ℕ, Bool, List, [], length, None, Option, Some, sym, ap, subst, ◌∙◌}
use Rattle.replay.proofs.Basics.{arith, All, Contains, option_and_then, slice_index_or, cases_lt, length-map, none-some, slice_get_past}
use Rattle.replay.proofs.Terms.{BayState, Config, State, shapes_of, pass_mine, Spindle, SpindleBase, ManagerBase, Station, AreStations}
use Rattle.replay.proofs.Terms.{IsClosedVolume, IsRack, KeepToViews, base_of_station, spindle_pass, Rack, Rest, view_at, locks_of}
use Rattle.turn_lock.specs.declared.pass.PassOf.{PassOf}
use Rattle.rack.specs.Rests.{pool_pass}
use Rattle.rack_parts.specs.declared.rack.VolumePasses.{VolumePasses}
use Rattle.replay.proofs.HistoriesLeft.{histories_of, view_there}
use Rattle.replay.proofs.RacksServed.{a_member, there_at}
use Rattle.replay.proofs.RunLeft.{base_same}

-- stations with the same locks are as many
pub locks_count : {D : Type 0} (news olds : List (Station D)) → locks_of news ≡ locks_of olds → length news ≡ length olds
locks_count news olds locks = sym (length-map news (λ (s : Station _). s.lock)) ∙ ap length locks ∙ length-map olds (λ (s : Station _). s.lock)

module _ {D : Type 0} (state : D → State) (tells : Bool) (config : Config) (opened left_ : BayState) (r q : Rack D) (is : IsRack state config opened r) (rest : q.rest ≡ r.rest)
    (locks : locks_of q.stations.items ≡ locks_of r.stations.items) (olds : AreStations r.stations.items) (news : AreStations q.stations.items) (counted : length r.stations.items ≡ length (shapes_of config))
    (same_count : length q.stations.items ≡ length r.stations.items) (closed : All (IsClosedVolume tells config q.rest.images.items opened left_) q.stations.items) where
  abbrev views : ℕ → List ℕ
  views = view_at (histories_of tells config q.rest.images.items opened left_ q.stations.items closed)

  -- a volume's view is the one that its station was opened with
  view_kept : (v : ℕ) (d : Station D) → v < length q.stations.items → is.users.0 v ≡ views v
  view_kept v d lt =
      let less : v < length r.stations.items = omega (arith, lt, same_count) in
      let base : base_of_station (slice_index_or q.stations.items v d) ≡ base_of_station (slice_index_or r.stations.items v d)
      = base_same r.stations.items q.stations.items locks v (slice_index_or r.stations.items v d) (slice_index_or q.stations.items v d) (there_at r.stations.items v d less) (there_at q.stations.items v d lt) in
      ap is.users.0 (sym (olds v d less).id) ∙ is.users.1.opened v d less ∙ ap (λ (b : ManagerBase). b.volume.began.view) (sym base)
      ∙ sym (view_there tells config q.rest.images.items opened left_ q.stations.items closed v d lt)

  -- past the volumes there is no pass
  none_past : (v k : ℕ) → length q.stations.items ≤ v → spindle_pass r.rest v k ≡ None
  none_past v k past =
      ap (λ (o : Option (VolumePasses D)). option_and_then (λ p. slice_index_or p.spindles.items k None) o) (slice_get_past r.rest.passes.items v (omega (arith, past, same_count, counted, is.rest.parts.count)))

  no_pool_past : (v k : ℕ) → length q.stations.items ≤ v → pool_pass r.rest v k ≡ None
  no_pool_past v k past =
      ap (λ (o : Option (VolumePasses D)). option_and_then (λ p. slice_index_or p.pools.items k None) o) (slice_get_past r.rest.passes.items v (omega (arith, past, same_count, counted, is.rest.parts.count)))

  pub keep_views : KeepToViews views q
  keep_views = record {
    opened = λ v d lt. ap views (news v d lt).id ∙ view_there tells config q.rest.images.items opened left_ q.stations.items closed v d lt;
    unused = λ v k p other never here. at v k p other never (ap (λ (x : Rest D). spindle_pass x v k) (sym rest) ∙ here) (cases_lt v (length q.stations.items));
    unused_pools = λ v k p never here.
        let was = ap (λ (x : Rest D). pool_pass x v k) (sym rest) ∙ here in
        elim (cases_lt v (length q.stations.items)) [
          | inl lt ↦ is.users.1.unused_pools v k p (λ has. never (subst (λ (xs : List ℕ). Contains xs k) (view_kept v (a_member q.stations.items v lt).0 lt) has)) was
          | inr past ↦ absurd (none-some p (sym (no_pool_past v k past) ∙ was))
        ];
  }
    where
      at : (v k : ℕ) (p : PassOf Spindle SpindleBase) → v ≢ k → (Contains (views v) k → ⊥) → spindle_pass r.rest v k ≡ Some p → (v < length q.stations.items) ⊎ (length q.stations.items ≤ v) → pass_mine p ≡ []
      at v k p other never here (inl lt) =
          let (s, there) = a_member q.stations.items v lt in
          is.users.1.unused v k p other (λ has. never (subst (λ (xs : List ℕ). Contains xs k) (view_kept v s lt) has)) here
      at v k p other never here (inr past) = absurd (none-some p (sym (none_past v k past) ∙ here))
