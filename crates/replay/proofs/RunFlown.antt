-- What a rack began with stays in a run, and what is told of the whole run.
use Rattle.replay.proofs.Basics.{◌≡◌, ◌<◌, ◌+◌, ◌⊎◌, ℕ, Bool, List, length, sym, ap, subst, ◌∙◌, Option, None, Some, inl, inr, arith}
use Rattle.replay.proofs.Basics.{Contains, IfSome, slice_get, slice_index_or, length-map}
use Rattle.replay.proofs.Terms.{State, BayState, Image, Told, at_name, Config, VolumeConf, Shared, ManagerBase, Station, AreStations}
use Rattle.replay.proofs.Terms.{IsMoved, Floor, Reclaim, IsTold, shape_in, shapes_of, BeganWith, HadSegmentBefore, IsGone, IsLeftHere}
use Rattle.replay.proofs.Terms.{WereThere, BeganInPlace, HadRefused, IsBegun, images_taken, AreUnused, base_of_station}
use Rattle.replay.proofs.Terms.{IsSegmentHere, held_here, image_here, ImageRest, Rack, Rest, answers_in, locks_of, ServedFromStart}
use Rattle.replay.proofs.Terms.{ServedWindow}
use Rattle.wol_model.specs.Heads.{Free, Owned, Shape}
use Rattle.wol_model.specs.Log.{Record}
use Rattle.spin_model.specs.declared.spun.Spun.{Spun}
use Rattle.manager_recovery.specs.Left.{HasNothing}
use Rattle.volume_images.specs.Accepted.{HasHead, head_place}
use Rattle.replay.proofs.RacksServed.{a_member, at_place, there_at}
use Rattle.replay.proofs.RunLeft.{base_same}

-- what a rack began with stays, whatever its passes did since
module _ {D : Type 0} (state : D → State) (config : Config) (r q : Rack D) (rest : q.rest ≡ r.rest) (shared : q.shared ≡ r.shared) (locks : locks_of q.stations.items ≡ locks_of r.stations.items) (olds : AreStations r.stations.items) (news : AreStations q.stations.items) where
  same_count : length q.stations.items ≡ length r.stations.items
  same_count = sym (length-map q.stations.items (λ (s : Station D). s.lock)) ∙ ap length locks ∙ length-map r.stations.items (λ (s : Station D). s.lock)

  id_of : (ss : List (Station D)) → AreStations ss → (v : ℕ) (s : Station D) → slice_get ss v ≡ Some s → s.id ≡ v
  id_of ss all v s there = let (less, is) = at_place ss v s there in subst (λ (x : Station D). x.id ≡ v) (is s) (all v s less).id

  begun_still : (t : Told) → BeganWith state config t r → (k : ℕ) (d : Station D) → k < length q.stations.items → IsBegun config (images_taken config q.rest.images.items t) (base_of_station (slice_index_or q.stations.items k d)).volume.began
  begun_still t with k d lt =
      let (old, was) = a_member r.stations.items k (omega (arith, lt, same_count)) in
      let (within, old_is) = at_place r.stations.items k old was in
      let base : base_of_station (slice_index_or q.stations.items k d) ≡ base_of_station old = base_same r.stations.items q.stations.items locks k old (slice_index_or q.stations.items k d) was (there_at q.stations.items k d lt) in
      let here = subst (λ (s : Station D). IsBegun config (images_taken config r.rest.images.items t) (base_of_station s).volume.began) (old_is old) (with.stations k old within) in
      subst (λ (x : Rest D). IsBegun config (images_taken config x.images.items t) (base_of_station (slice_index_or q.stations.items k d)).volume.began) (sym rest)
      (subst (λ (b : ManagerBase). IsBegun config (images_taken config r.rest.images.items t) b.volume.began) (sym base) here)

  placed_still : (t : Told) → BeganWith state config t r → (k : ℕ) (d : Station D) → k < length q.stations.items → BeganInPlace config (images_taken config q.rest.images.items t) (base_of_station (slice_index_or q.stations.items k d))
  placed_still t with k d lt =
      let (old, was) = a_member r.stations.items k (omega (arith, lt, same_count)) in
      let (within, old_is) = at_place r.stations.items k old was in
      let base : base_of_station (slice_index_or q.stations.items k d) ≡ base_of_station old = base_same r.stations.items q.stations.items locks k old (slice_index_or q.stations.items k d) was (there_at q.stations.items k d lt) in
      let here = subst (λ (s : Station D). BeganInPlace config (images_taken config r.rest.images.items t) (base_of_station s)) (old_is old) (with.placed k old within) in
      subst (λ (x : Rest D). BeganInPlace config (images_taken config x.images.items t) (base_of_station (slice_index_or q.stations.items k d))) (sym rest)
      (subst (BeganInPlace config (images_taken config r.rest.images.items t)) (sym base) here)

  gone_still : (shape : Shape) (before : Image) (i : ℕ) → IsGone (length (shapes_of config)) shape before r.stations.items i → IsGone (length (shapes_of config)) shape before q.stations.items i
  gone_still shape before i gone = record { was = gone.was; had = gone.had; said = said gone.said }
    where
      said : HasHead (length (shapes_of config)) gone.was Free ⊎ ((station : Station D) × Contains r.stations.items station × HasHead (length (shapes_of config)) gone.was (Owned station.id)) ⊎ ((owner : ℕ) × (rs : List Record) × HasNothing owner rs gone.was)
          → HasHead (length (shapes_of config)) gone.was Free ⊎ ((station : Station D) × Contains q.stations.items station × HasHead (length (shapes_of config)) gone.was (Owned station.id)) ⊎ ((owner : ℕ) × (rs : List Record) × HasNothing owner rs gone.was)
      said (inl free) = inl free
      said (inr (inl (s, (j, less, is), head))) =
          let was : slice_get r.stations.items j ≡ Some s = there_at r.stations.items j s less ∙ ap (λ (x : Station D). Some x) is in
          let (new, now) = a_member q.stations.items j (omega (arith, less, same_count)) in
          let (within, place) = at_place q.stations.items j new now in
          let same : s.id ≡ new.id = id_of r.stations.items olds j s was ∙ sym (id_of q.stations.items news j new now) in
          inr (inl (new, (j, within, place new), subst (λ (n : ℕ). HasHead (length (shapes_of config)) gone.was (Owned n)) same head))
      said (inr (inr nothing)) = inr (inr nothing)

  pub began_still : (t : Told) → BeganWith state config t r → BeganWith state config t q
  began_still t with = record {
    stations = begun_still t with;
    placed = placed_still t with;
    left = subst (λ (x : Rest D). (k : ℕ) (v : VolumeConf) (before : Image) (image : ImageRest D) → slice_get config.volumes.items k ≡ Some v → at_name v.name t.images ≡ Some before
        → image_here x.images.items k ≡ Some image → IsLeftHere state (shape_in config v) before image) (sym rest) with.left;
    held = subst (λ (x : Rest D). (w k i : ℕ) (v : VolumeConf) (before : Image) (p : Spun D) → slice_get config.volumes.items k ≡ Some v → at_name v.name t.images ≡ Some before
        → Contains (held_here x w k) (i, p) → HadSegmentBefore state before (head_place (shape_in config v) i) (head_place (shape_in config v) (i + 1)) p) (sym rest) with.held;
    gone = λ k i v before image conf at here lt none. gone_still (shape_in config v) before i
        (with.gone k i v before image conf at (subst (λ (x : Rest D). image_here x.images.items k ≡ Some image) rest here) lt (λ p is. none p (subst (λ (x : Rest D). IsSegmentHere x k i p) (sym rest) is)));
    pools = λ k v l image conf lock here. with.pools k v l image conf (ap (λ (x : Shared D). slice_get x.pools.items k) (sym shared) ∙ lock) (subst (λ (x : Rest D). image_here x.images.items k ≡ Some image) rest here);
  }

-- what closing tells of the images at entry, where those that aren't out were as they are now
module _ {D : Type 0} (state : D → State) (config : Config) (q : Rack D) (P Q : Told → Told → Type 0) where
  through : (e o n : Option Told) → IfSome e (λ t. BeganWith state config t q) → IfSome e (λ t. WereThere config q.rest.images.items t) → IsTold (HadRefused config q.rest.images.items) e o
      → IsTold Q o n
      → ((t : Told) → BeganWith state config t q → WereThere config q.rest.images.items t → IsTold (λ old new. HadRefused config q.rest.images.items t old → P t new) o n) → IsTold P e n
  through None None n began there kept told since = told
  through None (Some o) n began there kept told since = absurd (cc kept)
  through (Some e) None n began there kept told since = absurd kept
  through (Some e) (Some o) None began there kept told since = absurd told
  through (Some e) (Some o) (Some n) began there kept told since = since e began there kept

  pub run_told : (entry opened left_ : BayState) → IfSome entry.told (λ t. BeganWith state config t q) → IfSome entry.told (λ t. WereThere config q.rest.images.items t)
      → IsTold (HadRefused config q.rest.images.items) entry.told opened.told → IsTold Q opened.told left_.told
      → ((t : Told) → BeganWith state config t q → WereThere config q.rest.images.items t → IsTold (λ old new. HadRefused config q.rest.images.items t old → P t new) opened.told left_.told)
      → IsTold P entry.told left_.told
  run_told entry opened left_ began there kept told since = through entry.told opened.told left_.told began there kept told since
