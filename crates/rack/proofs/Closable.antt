-- What the steps of closing a rack need, from what the rack promises.
use Rattle.rack.proofs.ClosingBasics.{◌≡◌, ◌<◌, ◌≤◌, ◌+◌, ◌⊎◌, inl, inr, ℕ, List, [], length, Option, Some, None, refl, sym, ap, ◌∙◌, subst, arith, Contains, All, IsSome, slice_get, none-some}
use Rattle.rack.proofs.ClosingBasics.{slice_get_within, ⊎_elim, IfSome, All-contains, same_Some}
use Rattle.rack.proofs.ClosingTerms.{State, Shape, BayState, Config, lock_id, TurnLock, PoolBase, Pool, FreeSegment, shapes_of, image_here, pool_pass, spindle_pass, held_here, IsPart}
use Rattle.rack.proofs.ClosingTerms.{IsImageRest, AreImageRests, IsPassAt, AreLocks, OnlyAccess, IsRest, IsClosable, AreKeepers, CanCloseStations, CanClosePool, CanClosePools, CanCloseSpindles}
use Rattle.rack.proofs.ClosingTerms.{KeepsSpindles, RefillsAll, AreComplete, ImageRest, Rack, Rest, Spun}
use Rattle.turn_lock.specs.declared.pass.PassOf.{PassOf}
use Rattle.spin_model.specs.declared.spindle.Spindle.{Spindle}
use Rattle.spin_model.specs.declared.spindle.SpindleBase.{SpindleBase}
use Rattle.logger.specs.declared.shared.Shared.{Shared}
use Rattle.std.specs.Prelude.{vec_capacity}
use Rattle.rack_parts.specs.Closing.{IsRefilledAll}
use Rattle.rack_parts.proofs.Members.{a_value, none_in, element_at, here_within}

module _ {D : Type 0} {state : D → State} {config : Config} where
  pub stations_may : {b : BayState} {r : Rack D} → IsClosable state config b r → CanCloseStations state config r.shared r.stations.items r.rest
  stations_may {b} {r} can = record { each = can.stations; rising = can.rising; bases = can.bases; locks = can.locks; rest = can.rest; accesses = can.accesses }

  module _ {shared : Shared D} {rest : Rest D} (locks : AreLocks config shared) (is : IsRest state config shared [] rest) where
    abbrev volumes : ℕ
    volumes = length (shapes_of config)

    nobody : (x : ℕ × ℕ) → Contains {X = ℕ × ℕ} [] x → ⊥
    nobody x has = none_in x has

    pool_may : (k : ℕ) (z : Shape) (l : TurnLock (Pool (FreeSegment D)) PoolBase) → slice_get (shapes_of config) k ≡ Some z → slice_get shared.pools.items k ≡ Some l → CanClosePool state volumes k z l rest
    pool_may k z l at there =
        let below : k < volumes = slice_get_within (shapes_of config) k z at in
        record {
          lock = locks.pools k z l at there;
          count = is.parts.count;
          rows = is.parts.rows;
          below = below;
          image_count = is.parts.images.0;
          passes = λ v less.
              let p = a_value (pool_pass rest v k) ((is.parts.pools.here v k (omega (arith, less, is.parts.count)) (slice_get_within shared.pools.items k l there)).1 (nobody (v, k))) in
              (p.0, p.1, is.parts.pools.each v k l p.0 there p.1);
          image = λ n here. is.parts.images.1 k z n at here;
          known = λ i n here within. is.parts.placed.known k i l n there here within;
          known_passes = λ i n held. let x = is.parts.placed.known_passes k i n l there held in omega (arith, x, (locks.pools k z l at there).passes);
          here = λ i n here within.
              let x = is.parts.placed.here k i n here within in
              (λ some. (x.0 some).0, λ h. x.1 (h, nobody (k, i)));
          others = λ i none. is.parts.placed.others k i l there none;
          held = λ v i has. is.parts.returned.held v k i has;
          once = λ v. is.parts.returned.once v k;
          parts = λ v. is.parts.returned.parts v k z at;
          out = λ v none. is.parts.returned.out v k none;
        }

    pub pools_may : CanClosePools state config shared.pools.items rest
    pools_may = record {
      few = omega (arith, locks.pool_count);
      each = pool_may;
      room_count = is.rooms.pool_count ∙ sym locks.pool_count;
      rooms = is.rooms.pools;
    }

    pub spindles_may : (keepers : List (PassOf Spindle SpindleBase)) (cur : Rest D) → AreKeepers config shared keepers → OnlyAccess rest → KeepsSpindles rest cur → cur.rooms ≡ record rest.rooms { pools = cur.rooms.pools } → CanCloseSpindles shared.spindles.items keepers cur
    spindles_may keepers cur are only kept rooms = record {
      keeper_count = are.0 ∙ sym locks.spindle_count;
      passes = λ k l p at has.
          let lock = locks.spindles k l at in
          record {
            count = lock.passes ∙ ap (λ (n : ℕ). n + 1) (sym (kept.count ∙ is.parts.count));
            each = λ v less.
                let x = a_value (spindle_pass rest v k) ((is.parts.spindles.here v k (omega (arith, less, kept.count)) (slice_get_within shared.spindles.items k l at)).1 (nobody_there v k)) in
                (x.0, kept.spindles v k ∙ x.1, is.parts.spindles.each v k l x.0 at x.1);
            keeper_ = subst (λ (n : ℕ). IsPassAt l n p) (sym (kept.count ∙ is.parts.count)) (are.1 k l p at has);
            accesses = λ v q there. only v k q (sym (kept.spindles v k) ∙ there);
            settled = λ v q there. is.parts.spindles.settled v k q (sym (kept.spindles v k) ∙ there);
          };
      room_count = ap (λ r. length r.spindles.items) rooms ∙ is.rooms.spindle_count ∙ sym locks.spindle_count;
      rooms = subst (λ r. All (λ row. (row.items ≡ []) × (length cur.passes.items + 1 ≤ vec_capacity row)) r.spindles.items) (sym rooms)
          (subst (λ (n : ℕ). All (λ row. (row.items ≡ []) × (n + 1 ≤ vec_capacity row)) rest.rooms.spindles.items) (sym (kept.count ∙ is.parts.count)) is.rooms.spindles);
      closed = subst (λ r. length r.closed.items + length shared.spindles.items ≤ vec_capacity r.closed) (sym rooms)
          (let none = ap length is.rooms.closed.0 in omega (arith, none, is.rooms.closed.1, locks.spindle_count));
    }
      where
        nobody_there : (v k : ℕ) → Contains {X = ℕ × ℕ} [] (v, k) ⊎ ((v ≡ k) × Contains {X = ℕ} [] v) → ⊥
        nobody_there v k (inl has) = none_in (v, k) has
        nobody_there v k (inr has) = none_in v has.1

    was_of : (blocks k : ℕ) (o new : Option (ImageRest D)) (n : ImageRest D) → RefillsAll state blocks rest k o new → new ≡ Some n → (r : ImageRest D) × (o ≡ Some r) × IsRefilledAll state blocks rest k r n
    was_of blocks k None new n x here = absurd (none-some n (sym x ∙ here))
    was_of blocks k (Some r) new n x here = (r, refl, subst (λ (q : ImageRest D). IsRefilledAll state blocks rest k r q) (same_Some x.0 n (sym x.1 ∙ here)) x.2)

    -- the images once all pools are closed
    module _ (cur : Rest D) (count : length cur.images.items ≡ length rest.images.items) (filled : (k : ℕ) (f : TurnLock (Pool (FreeSegment D)) PoolBase) → slice_get shared.pools.items k ≡ Some f → RefillsAll state (lock_id f).base.blocks rest k (image_here rest.images.items k) (image_here cur.images.items k)) where
      abbrev pub blocks_at : ℕ → ℕ
      blocks_at k = blocks_in (slice_get shared.pools.items k)
        where
          blocks_in : {D : Type 0} → Option (TurnLock (Pool (FreeSegment D)) PoolBase) → ℕ
          blocks_in None = 0
          blocks_in (Some f) = (lock_id f).base.blocks

      -- an image that is out, and what was here of it
      pub image_was : (k : ℕ) (n : ImageRest D) → image_here cur.images.items k ≡ Some n → (r : ImageRest D) × (image_here rest.images.items k ≡ Some r) × IsRefilledAll state (blocks_at k) rest k r n
      image_was k n here =
          let within = here_within cur.images.items k n here in
          let f = element_at shared.pools.items k (omega (arith, within, count, is.parts.images.0, locks.pool_count)) in
          was_of (blocks_at k) k (image_here rest.images.items k) (image_here cur.images.items k) n (rw f.1 (filled k f.0 f.1)) here

      pub images_whole : AreComplete cur.images.items
      images_whole k n here =
          let was = image_was k n here in
          record { home = subst (λ (h : Option (Spun D)). IsSome h) (sym was.2.same.home) ((is.parts.homes k was.0 was.1).1 (λ has. none_in k has)); segments = was.2.all }

      pub images_rest : AreImageRests state config cur.images.items
      images_rest = (count ∙ is.parts.images.0, each)
        where
          each : (k : ℕ) (z : Shape) (n : ImageRest D) → slice_get (shapes_of config) k ≡ Some z → image_here cur.images.items k ≡ Some n → IsImageRest state k z n
          each k z n at here =
              let was = image_was k n here in
              let rest_of = is.parts.images.1 k z was.0 at was.1 in
              let below = slice_get_within (shapes_of config) k z at in
              let f = element_at shared.pools.items k (omega (arith, below, locks.pool_count)) in
              let size : blocks_at k ≡ z.segment_blocks = rw f.1 (locks.pools k z f.0 at f.1).blocks in
              record {
                label = subst (IsPart state k 2) (sym was.2.same.label) rest_of.label;
                home = subst (λ h. IfSome h (IsPart state k z.home)) (sym was.2.same.home) rest_of.home;
                count = was.2.same.count ∙ rest_of.count;
                segments = λ i p there. ⊎_elim
                    (λ same. rest_of.segments i p same)
                    (λ more. ⊎_elim
                    (λ v. All-contains (λ (h : ℕ × Spun D). IsPart state k z.segment_blocks h.1) (held_here rest v.0 k) (i, p) (is.parts.returned.parts v.0 k z at) v.1)
                    (λ b. record { of_volume = b.part.of_volume; sized = b.part.sized ∙ size })
                    more)
                    (was.2.only i p there);
                row = subst (λ w. (w.items ≡ []) × (z.segments ≤ vec_capacity w)) (sym was.2.same.row) rest_of.row;
                room = subst (λ w. (w.items ≡ []) × (2 + z.segments ≤ vec_capacity w)) (sym was.2.same.room) rest_of.room;
              }
