-- Held segments with room.
use Rattle.std.proofs.Common.{◌≡◌, ◌⊎◌, inl, inr, ⊎_elim, ◌<◌, ◌≤◌, ◌+◌, ◌-◌, ℕ, zero, suc, true, false, is_some, List, [], ◌∷◌, length, get_or, take, slice_get, Option, Some, None, MatchOption, refl, sym, ap, subst, ◌∙◌, arith, get_or-take, length-take}
use Rattle.std.proofs.lemmas.Bool.Decides.{leb_tells}
use Rattle.std.proofs.lemmas.Option.{get_or_from_slice_get, same_Some}
use Rattle.log_segment.specs.Segment.{room_of}
use Rattle.log_segment.specs.declared.item.Item.{Item}
use Rattle.logger.specs.Lanes.{HasRoom, HasNoRoom, IsFirstWithRoom, IsFit, held_in, pool_blocks, first_count}
use Rattle.logger.specs.declared.lane.HeldSegment.{HeldSegment}
use Rattle.logger.specs.declared.lane.Lane.{Lane}
use Rattle.logger.proofs.Held.{there_get, within}

module _ {D : Type 0} where
  -- none so far, and the next one has it
  pub first_at : (count : ℕ) (hs : List (HeldSegment D)) (k room : ℕ) (h : HeldSegment D) → k < length hs → h ≡ get_or hs k h → ((j : ℕ) (d : HeldSegment D) → j < k → room_of (get_or hs j d).segment < count) → room ≡ room_of h.segment → count ≤ room
      → IsFirstWithRoom count hs k
  first_at count hs k room h lt is none same fits = record {
    segment = h;
    there = there_get hs k h lt is;
    room = subst (λ n. count ≤ n) same fits;
    before = λ j d below. let few : j < k = omega (arith, below, length-take k hs) in subst (λ (x : HeldSegment D). room_of x.segment < count) (sym (get_or-take k hs j d few)) (none j d few);
  }

  -- none so far, nor the next one
  pub none_more : (count : ℕ) (hs : List (HeldSegment D)) (k room : ℕ) (h : HeldSegment D) → k < length hs → h ≡ get_or hs k h → ((j : ℕ) (d : HeldSegment D) → j < k → room_of (get_or hs j d).segment < count) → room ≡ room_of h.segment → room < count
      → (j : ℕ) (d : HeldSegment D) → j < k + 1 → room_of (get_or hs j d).segment < count
  none_more count hs k room h lt is none same small j d below = ⊎_elim (λ less. none j d less) (λ here. at here) (cases j k below)
    where
      cases : (j k : ℕ) → j < k + 1 → (j < k) ⊎ (j ≡ k)
      cases zero zero below = inr refl
      cases zero (suc k) below = inl (omega arith)
      cases (suc j) zero below = absurd (omega arith)
      cases (suc j) (suc k) below = ⊎_elim (λ less. inl (omega arith)) (λ here. inr (ap suc here)) (cases j k (omega arith))

      at : j ≡ k → room_of (get_or hs j d).segment < count
      at here = subst (λ (x : HeldSegment D). room_of x.segment < count) (sym (ap (λ n. get_or hs n d) here ∙ get_or_from_slice_get hs k h d (there_get hs k h lt is))) (subst (λ n. n < count) same small)

  -- what was found, or that nothing was
  pub found_some : (count : ℕ) (hs : List (HeldSegment D)) (o : Option ℕ) → MatchOption o (HasNoRoom count hs) (IsFirstWithRoom count hs) → is_some o ≡ true → HasRoom count hs
  found_some count hs None m is = cc
  found_some count hs (Some k) m is = (k, m)

  pub found_none : (count : ℕ) (hs : List (HeldSegment D)) (o : Option ℕ) → MatchOption o (HasNoRoom count hs) (IsFirstWithRoom count hs) → is_some o ≡ false → HasNoRoom count hs
  found_none count hs None m is = m
  found_none count hs (Some k) m is = cc

  -- a place with room is not one without
  pub not_both : (count : ℕ) (hs : List (HeldSegment D)) → HasRoom count hs → HasNoRoom count hs → ⊥
  not_both count hs has none =
      let f = has.1 in let small = none has.0 f.segment (within hs has.0 f.segment f.there) in
      let same : room_of (get_or hs has.0 f.segment).segment ≡ room_of f.segment.segment = ap (λ (x : HeldSegment D). room_of x.segment) (get_or_from_slice_get hs has.0 f.segment f.segment f.there) in
      let room = f.room in omega arith

  -- two first places are one
  first_places : (count : ℕ) (hs : List (HeldSegment D)) (j k : ℕ) → IsFirstWithRoom count hs j → IsFirstWithRoom count hs k → j < k → ⊥
  first_places count hs j k a b lt =
      let in_hs = within hs k b.segment b.there in
      let inside : j < length (take k hs) = omega (arith, length-take k hs) in
      let small = b.before j a.segment inside in
      let same : room_of (get_or (take k hs) j a.segment).segment ≡ room_of a.segment.segment = ap (λ (x : HeldSegment D). room_of x.segment) (get_or-take k hs j a.segment lt ∙ get_or_from_slice_get hs j a.segment a.segment a.there) in
      let room = a.room in omega arith

  pub same_first : (count : ℕ) (hs : List (HeldSegment D)) (j k : ℕ) → IsFirstWithRoom count hs j → IsFirstWithRoom count hs k → j ≡ k
  same_first count hs j k a b = ⊎_elim (λ lt. absurd (first_places count hs j k a b lt)) (λ ge. ⊎_elim (λ lt. absurd (first_places count hs k j b a lt)) (λ le. omega arith) (below k j)) (below j k)
    where
      below : (j k : ℕ) → (j < k) ⊎ (k ≤ j)
      below zero zero = inr (omega arith)
      below zero (suc k) = inl (omega arith)
      below (suc j) zero = inr (omega arith)
      below (suc j) (suc k) = ⊎_elim (λ lt. inl (omega arith)) (λ ge. inr (omega arith)) (below j k)

  -- the first place with room, or none
  room_cons : (count : ℕ) (h : HeldSegment D) (hs : List (HeldSegment D)) → room_of h.segment < count → HasRoom count hs ⊎ HasNoRoom count hs → HasRoom count (h ∷ hs) ⊎ HasNoRoom count (h ∷ hs)
  room_cons count h hs small rest = ⊎_elim (λ has. inl (suc has.0, record { segment = has.1.segment; there = has.1.there; room = has.1.room; before = after_cons (take has.0 hs) has.1.before })) (λ none. inr (after_cons hs none)) rest
    where
      after_cons : (gs : List (HeldSegment D)) → HasNoRoom count gs → HasNoRoom count (h ∷ gs)
      after_cons gs none zero d lt = small
      after_cons gs none (suc j) d lt = none j d (omega arith)

  pub decide_room : (count : ℕ) (hs : List (HeldSegment D)) → HasRoom count hs ⊎ HasNoRoom count hs
  decide_room count [] = inr (λ j d lt. absurd (omega arith))
  decide_room count (h ∷ hs) = ⊎_elim (λ yes. inl (0, record { segment = h; there = refl; room = yes.1; before = λ j d lt. absurd (omega arith) })) (λ no. room_cons count h hs no.1 (decide_room count hs)) (leb_tells count (room_of h.segment))

  -- where no held segment has room there is a taken one
  pub taken_then : {T : Type 0} (count : ℕ) (hs : List (HeldSegment D)) (t : Option T) → HasRoom count hs ⊎ (is_some t ≡ true) → HasNoRoom count hs → is_some t ≡ true
  taken_then count hs t secured none = ⊎_elim (λ has. absurd (not_both count hs has none)) (λ some. some) secured

  -- how many blocks fit into the first segment with room
  pub fit_held : (count fit : ℕ) (l : Lane D) (k : ℕ) (f : IsFirstWithRoom count (held_in l) k) → fit ≡ room_of f.segment.segment → IsFit count fit l
  fit_held count fit l k f is = record {
    held = λ j e. is ∙ ap (λ (h : HeldSegment D). room_of h.segment) (same_Some f.segment e.segment (sym f.there ∙ (ap (slice_get (held_in l)) (same_first count (held_in l) k j f e) ∙ e.there)));
    unclaimed = λ none. absurd (not_both count (held_in l) (k, f) none);
  }

  -- and into the taken one
  pub fit_taken : (count fit : ℕ) (l : Lane D) → HasNoRoom count (held_in l) → fit + 2 ≡ pool_blocks l → IsFit count fit l
  fit_taken count fit l none is = record { held = λ k f. absurd (not_both count (held_in l) (k, f) none); unclaimed = λ _. is }

  -- as many blocks as were asked for fit
  pub some_fit : (count : ℕ) (l : Lane D) → count + 2 ≤ pool_blocks l → (fit : ℕ) × IsFit count fit l × (count + 0 ≤ fit)
  some_fit count l le = ⊎_elim
      (λ has. (room_of has.1.segment.segment, fit_held count (room_of has.1.segment.segment) l has.0 has.1 refl, (let room = has.1.room in omega arith)))
      (λ none. (pool_blocks l - 2, fit_taken count (pool_blocks l - 2) l none (omega arith), omega arith))
      (decide_room count (held_in l))

  -- a group that fits has its room in the segment that it goes to
  pub group_room : (count fit total : ℕ) (l : Lane D) (k : ℕ) (f : IsFirstWithRoom count (held_in l) k) (o : HeldSegment D) → IsFit count fit l → total ≤ fit → slice_get (held_in l) k ≡ Some o → total ≤ room_of o.segment
  group_room count fit total l k f o is le there =
      let fits = is.held k f in let same : room_of f.segment.segment ≡ room_of o.segment = ap (λ (h : HeldSegment D). room_of h.segment) (same_Some f.segment o (sym f.there ∙ there)) in omega arith

-- the first item
pub first_is : (items : List Item) (d : Item) → 1 ≤ length items → (get_or items 0 d).count ≡ first_count items
first_is [] d some = absurd (omega arith)
first_is (i ∷ items) d some = refl
