-- What is said of one answer, said of another.
use Rattle.std.proofs.Common.{◌≡◌, ◌+◌, ◌++◌, ℕ, suc, List, [], ◌∷◌, length, drop, Result, Ok, Err, OnOk, OnErr, IfOk, IsErr, refl, sym, ap, subst}
use Rattle.std.proofs.lemmas.Result.{on_err_weaker}
use Rattle.wol_disk.specs.Disk.{Block, State, LeavesOnly, Rose}
use Rattle.wol_disk.specs.declared.disk.Failed.{Failed}
use Rattle.wol_disk.proofs.Moments.{widened}
use Rattle.wol_model.specs.Log.{Record, HasFirstOf}
use Rattle.log_segment.specs.Records.{group_of}
use Rattle.log_segment.specs.Segment.{IsWhole, IsSame, Breaks, Holds, disk_of, owner_of, valid_of}
use Rattle.log_segment.specs.declared.item.Item.{Item}
use Rattle.log_segment.specs.declared.free.FreeSegment.{FreeSegment}
use Rattle.log_segment.specs.declared.segment.Segment.{Segment}
use Rattle.logger.specs.Lanes.{Grown, Claimed, IsSpot, spot_result}
use Rattle.logger.specs.declared.lane.HeldSegment.{HeldSegment}

pub on_err : {T E P : Type 0} (r : Result T E) → (IsErr r → P) → OnErr r P
on_err (Ok x) p = tt
on_err (Err e) p = p refl

pub on_ok_any : {T E : Type 0} (P : Type 0) (r : Result T E) → P → OnOk r P
on_ok_any P (Ok x) p = p
on_ok_any P (Err e) p = tt

pub spot_is : (index pos : ℕ) (w : Result ℕ Failed) → IfOk w (λ p. p ≡ pos) → IsSpot index pos (spot_result index w)
spot_is index pos (Ok p) is = (refl, is)
spot_is index pos (Err e) is = refl

-- a group has a record for each item
pub length-group_of : (owner version : ℕ) (items : List Item) (from : List Block) → length (group_of owner version items from) ≡ length items
length-group_of owner version [] from = refl
length-group_of owner version (i ∷ items) from = ap suc (length-group_of owner (version + 1) items (drop i.count from))

module _ {D : Type 0} (state : D → State) where
  -- what an append says of a segment of this owner
  pub grown_of : {T E : Type 0} (o n : HeldSegment D) (owner version : ℕ) (items : List Item) (from : List Block) (w : Result T E) → owner_of o.segment ≡ owner → n.index ≡ o.index → IsSame o.segment n.segment
      → ((rs : List Record) → Holds state o.segment rs → OnOk w (Holds state n.segment (rs ++ group_of (owner_of o.segment) version items from)))
      → OnOk w (valid_of n.segment ≡ valid_of o.segment + length items) → OnOk w (IsWhole n.segment) → OnErr w (Breaks o.segment n.segment)
      → ((rs : List Record) → Holds state o.segment rs → LeavesOnly (disk_of state o.segment) (disk_of state n.segment) (λ c. HasFirstOf c (owner_of o.segment) rs (group_of (owner_of o.segment) version items from)))
      → (IsErr w → Rose (disk_of state o.segment).faults (disk_of state n.segment).faults) → OnOk w ((disk_of state n.segment).faults ≡ (disk_of state o.segment).faults)
      → Grown state o n (group_of owner version items from) w
  grown_of o n owner version items from w owned index same ok valid whole err moments cause calm = record {
    index = index;
    same = same;
    ok = λ rs h. subst (λ (u : ℕ). OnOk w (Holds state n.segment (rs ++ group_of u version items from))) owned (ok rs h);
    valid = subst (λ (k : ℕ). OnOk w (valid_of n.segment ≡ valid_of o.segment + k)) (sym (length-group_of owner version items from)) valid;
    whole = whole;
    broken = on_err_weaker w (λ b. b.broken) err;
    any_moment = λ rs h. widened (moments rs h) (λ d first. subst (λ (u : ℕ). HasFirstOf d (owner_of o.segment) rs (group_of u version items from)) owned first);
    cause = on_err w cause;
    calm = calm;
  }

  pub grown_spot : (o n : HeldSegment D) (added : List Record) (index : ℕ) (w : Result ℕ Failed) → Grown state o n added w → Grown state o n added (spot_result index w)
  grown_spot o n added index (Ok p) g = record { index = g.index; same = g.same; ok = g.ok; valid = g.valid; whole = g.whole; broken = g.broken; any_moment = g.any_moment; cause = g.cause; calm = g.calm }
  grown_spot o n added index (Err e) g = record { index = g.index; same = g.same; ok = g.ok; valid = g.valid; whole = g.whole; broken = g.broken; any_moment = g.any_moment; cause = g.cause; calm = g.calm }

  pub claimed_spot : (owner : ℕ) (o : FreeSegment D) (n : Segment D) (added : List Record) (index : ℕ) (w : Result ℕ Failed) → Claimed state owner o n added w → Claimed state owner o n added (spot_result index w)
  claimed_spot owner o n added index (Ok p) g = record { shape = g.shape; volume = g.volume; owned = g.owned; blocks = g.blocks; claimed = g.claimed; ok = g.ok; valid = g.valid; whole = g.whole; broken = g.broken; any_moment = g.any_moment; cause = g.cause; calm = g.calm }
  claimed_spot owner o n added index (Err e) g = record { shape = g.shape; volume = g.volume; owned = g.owned; blocks = g.blocks; claimed = g.claimed; ok = g.ok; valid = g.valid; whole = g.whole; broken = g.broken; any_moment = g.any_moment; cause = g.cause; calm = g.calm }
