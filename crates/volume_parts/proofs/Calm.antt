-- Lanes of which no count of faults rose.
use Rattle.std.proofs.Common.{◌≡◌, ⊎_elim, ℕ, List, [], ◌∷◌, ◌++◌, map, Some, Ok, sym, ap, subst, ◌∙◌}
use Rattle.std.specs.Prelude.{Contains, slice_get, slice_set, Result}
use Rattle.std.specs.Option.{option_to_list}
use Rattle.std.proofs.lemmas.Bool.{false≢true}
use Rattle.std.proofs.lemmas.List.Elements.{Contains-append_left}
use Rattle.std.proofs.lemmas.Option.{same_Some}
use Rattle.wol_disk.specs.Disk.{State, Block}
use Rattle.wol_model.specs.Blocks.{AreApart}
use Rattle.wol_model.specs.Heads.{RecordHead}
use Rattle.wol_model.specs.Log.{Record}
use Rattle.wol_promise.proofs.Lists.{member_of}
use Rattle.log_segment.specs.Segment.{disk_of}
use Rattle.log_segment.specs.declared.free.FreeSegment.{FreeSegment}
use Rattle.logger.specs.Lanes.{IsLane, ReadFrom, Trimmed, in_place, to_pool, not_freed, held_in, taken_in}
use Rattle.logger.specs.declared.lane.HeldSegment.{HeldSegment}
use Rattle.logger.specs.declared.lane.Lane.{Lane}
use Rattle.logger.specs.declared.lane.Spot.{Spot}
use Rattle.logger.proofs.Places.{same_segment}
use Rattle.volume_parts.specs.Reads.{AreCalm}
use Rattle.volume_parts.specs.Puts.{PutIn, to_held, to_new}
use Rattle.volume_parts.proofs.Elements.{get_set, get_other, get_of, same_or_not, get_removed}

module _ {D : Type 0} (state : D → State) where
  abbrev faults_of : HeldSegment D → ℕ
  faults_of h = (disk_of state h.segment).faults

  -- of those of a lane no two have one index
  one_of : (hs : List (HeldSegment D)) (ws : List ℕ) → AreApart (map (λ (h : HeldSegment D). h.index) hs ++ ws) → (s t : HeldSegment D) → Contains hs s → Contains hs t → t.index ≡ s.index → t ≡ s
  one_of hs ws apart s t has_s has_t same = let a = get_of hs s has_s in let b = get_of hs t has_t in same_segment hs ws b.0 a.0 t s apart b.1 a.1 same

  -- all of them are as they were
  pub calm_among : (all : List (HeldSegment D)) (ws : List ℕ) → AreApart (map (λ (h : HeldSegment D). h.index) all ++ ws) → (old new : List (HeldSegment D))
      → ((s : HeldSegment D) → Contains old s → Contains all s) → ((t : HeldSegment D) → Contains new t → Contains all t) → AreCalm state old new
  calm_among all ws apart old new was is s t has_s has_t same = ap faults_of (one_of all ws apart s t (was s has_s) (is t has_t) same)

  -- one of them is another
  pub calm_set : (hs : List (HeldSegment D)) (ws : List ℕ) (i : ℕ) (o n : HeldSegment D) → AreApart (map (λ (h : HeldSegment D). h.index) hs ++ ws) → slice_get hs i ≡ Some o → n.index ≡ o.index
      → (disk_of state n.segment).faults ≡ (disk_of state o.segment).faults → AreCalm state hs (slice_set hs i n)
  calm_set hs ws i o n apart at index calm s t has_s has_t same =
      let a = get_of hs s has_s in let b = get_of (slice_set hs i n) t has_t in
      ⊎_elim
      (λ here.
      let is : n ≡ t = same_Some n t (sym (get_set hs i o n at) ∙ ap (slice_get (slice_set hs i n)) (sym here) ∙ b.1) in
      let was : o ≡ s = same_segment hs ws i a.0 o s apart at a.1 (sym index ∙ (ap (λ (h : HeldSegment D). h.index) is ∙ same)) in
      ap faults_of (sym is) ∙ (calm ∙ ap faults_of was))
      (λ other. ap faults_of (same_segment hs ws b.0 a.0 t s apart (sym (get_other hs i b.0 n other) ∙ b.1) a.1 same))
      (same_or_not b.0 i)

  -- ---- lanes

  pub calm_self : (l : Lane D) → IsLane state l → AreCalm state (held_in l) (held_in l)
  calm_self l is = calm_among (held_in l) (map (λ (t : ℕ × FreeSegment D). t.0) (option_to_list (taken_in l))) is.apart (held_in l) (held_in l) (λ s has. has) (λ t has. has)

  pub calm_read : {T E : Type 0} (o n : Lane D) (spot : Spot) (skip : ℕ) (before after : List Block) (res : Result T E) → IsLane state o → (r : ReadFrom state o n spot skip before after res)
      → (disk_of state r.new_segment.segment).faults ≡ (disk_of state r.old_segment.segment).faults → AreCalm state (held_in o) (held_in n)
  calm_read o n spot skip before after res is r calm = subst (AreCalm state (held_in o)) (sym r.held)
      (calm_set (held_in o) (map (λ (t : ℕ × FreeSegment D). t.0) (option_to_list (taken_in o))) r.place r.old_segment r.new_segment is.apart r.there r.index calm)

  pub calm_put : {first : ℕ} (o n : Lane D) (count : ℕ) (added : List Record) (spot : Spot) → IsLane state o → IsLane state n → PutIn state o n first count added (Ok spot) → AreCalm state (held_in o) (held_in n)
  calm_put o n count added spot was is (to_held i old new one at space held grown spot_is) = subst (AreCalm state (held_in o)) (sym held)
      (calm_set (held_in o) (map (λ (t : ℕ × FreeSegment D). t.0) (option_to_list (taken_in o))) i old new was.apart at grown.index grown.calm)
  calm_put o n count added spot was is (to_new f new none blank held claimed spot_is) =
      calm_among (held_in n) (map (λ (t : ℕ × FreeSegment D). t.0) (option_to_list (taken_in n))) is.apart (held_in o) (held_in n)
      (λ s has. subst (λ (hs : List (HeldSegment D)). Contains hs s) (sym held) (Contains-append_left (held_in o) (new ∷ []) s has)) (λ t has. has)

  pub calm_trim : {T E : Type 0} (o n : Lane D) (spot : Spot) (head : RecordHead) (keep : ℕ) (x : T) → IsLane state o → Trimmed {T = T} {E = E} state o n spot head keep (Ok x) → AreCalm state (held_in o) (held_in n)
  calm_trim o n spot head keep x is (in_place i old new at named held pool cut) = subst (AreCalm state (held_in o)) (sym held)
      (calm_set (held_in o) (map (λ (t : ℕ × FreeSegment D). t.0) (option_to_list (taken_in o))) i old new is.apart at cut.index cut.calm)
  calm_trim o n spot head keep x is (to_pool i old free at named held pool ok gave) =
      calm_among (held_in o) (map (λ (t : ℕ × FreeSegment D). t.0) (option_to_list (taken_in o))) is.apart (held_in o) (held_in n) (λ s has. has)
      (λ t has. let at = get_of (held_in n) t has in
      let was = get_removed (held_in o) i at.0 t (ap (λ (hs : List (HeldSegment D)). slice_get hs at.0) (sym held) ∙ at.1) in member_of (held_in o) t was.0 was.1)
  calm_trim o n spot head keep x is (not_freed i old new at named held pool err stayed) = absurd (false≢true err)
