-- The owned segments of a volume go out, and all that it is opened of.
use Rattle.rack_parts.proofs.Basics.{◌≡◌, ◌<◌, ◌≤◌, ◌+◌, ⊎_elim, inr, ℕ, Bool, true, false, List, [], ◌∷◌, ◌++◌, length, map, take, drop, cond, Option, None, Some, refl, sym, ap}
use Rattle.rack_parts.proofs.Basics.{subst, ◌∙◌, arith, option_map, inl, is_some, ◌≢◌, All-map, option_and_then, All, Contains, slice_get, slice_index_or, slice_set, IsSome}
use Rattle.rack_parts.proofs.Basics.{IfSome, All-weaker, AllByRecursion, cases_eq, cases_Bool, false≢true, eq-eqb, eqb-true, append_assoc, map-append, length_push}
use Rattle.rack_parts.proofs.Basics.{take-append-drop, take_all, get_or-set_same, get_or-set_other, length-set, append-nil, length-append, take_more, All-nil, All-push}
use Rattle.rack_parts.proofs.Basics.{Contains-append_left, Contains-push, All-append, All-contains, Contains-append_right, Contains-append_cases, same_Some, get_or_from_slice_get}
use Rattle.rack_parts.proofs.Basics.{slice_get_within, slice_get-map, none-some, with_item, Global, Vec}
use Rattle.rack_parts.proofs.Terms.{Shape, Spun, SegHead, Free, Owned, AreInOrder, IsBefore, place_of, OwnedPart, segment_here, image_here, IsRow, spindle_pass, is_owned_by}
use Rattle.rack_parts.proofs.Terms.{count_owners, IsSameBut, TakesOwners, TakesOne, owned_in, TakesOwnedIn, owned_total, KeepsImage, segment_in, in_image, IsOwnedPlace, IsTakenOf}
use Rattle.rack_parts.proofs.Terms.{TakesOwnedOf, CanTakeOwnedOf, AreOwnedHere, TakesOwned, HasPlace, KeepsPlace, TakesLanes, CanTake, loggers_out, ImageRest, Config, VolumeConf}
use Rattle.rack_parts.proofs.Terms.{shape_in, shapes_of, Said, Rest, State, Lane, VolumePasses}
use Rattle.std.specs.Prelude.{sum_by}
use Rattle.std.proofs.lemmas.List.Elements.{All-filter, recursion_from_All}
use Rattle.std.proofs.lemmas.List.Sums.{sum_by-append, count_by_more_yes, count_by_more_no, sum_by_push}
use Rattle.volume_images.specs.Accepted.{head_place}
use Rattle.wol_promise.proofs.Lists.{all_joined}
use Rattle.rack_parts.proofs.Members.{all_member, element_at, none_in, of_map}
use Rattle.rack_parts.proofs.Returned.{keeps_image, same_but_then, keeps_image_then}
use Rattle.rack_parts.proofs.LanesMoved.{all_both, place_then}

-- ---- The owned segments of a volume go out of an image

-- the test of a head says whose it is
pub owner_of_true : (v : ℕ) (h : SegHead) → is_owned_by v h ≡ true → h ≡ Owned v
owner_of_true v Free is = absurd (false≢true is)
owner_of_true v (Owned o) is = ap (λ (n : ℕ). Owned n) (eqb-true o v is)

pub true_of_owner : (v : ℕ) (h : SegHead) → h ≡ Owned v → is_owned_by v h ≡ true
true_of_owner v h is = ap (is_owned_by v) is ∙ eq-eqb v v refl

-- more places behind all of these
in_order_append : (ps qs : List (ℕ × ℕ)) → AreInOrder ps → AreInOrder qs → AllByRecursion (λ p. AllByRecursion (IsBefore p) qs) ps → AreInOrder (ps ++ qs)
in_order_append [] qs ordered later before = later
in_order_append (p ∷ ps) qs ordered later before = (all_joined (IsBefore p) ps qs ordered.0 before.0, in_order_append ps qs ordered.1 later before.1)

map_all : {X : Type 0} {Y : Type 0} (P : Y → Type 0) (f : X → Y) (xs : List X) → All (λ x. P (f x)) xs → AllByRecursion P (map f xs)
map_all P f xs all = recursion_from_All P (map f xs) (All-map P f xs all)

pub sum_front : {X : Type 0} (f : X → ℕ) (xs : List X) (n : ℕ) → sum_by f (take n xs) ≤ sum_by f xs
sum_front f xs n =
    let e = ap (sum_by f) (take-append-drop n xs) in let a = sum_by-append f (take n xs) (drop n xs) in
    omega (arith, e, a)

module _ {D : Type 0} (s : Shape) (v k : ℕ) (heads : List SegHead) where
  -- the segments below n went out
  pub record AreTakenTo (old new : ImageRest D) (os : List (OwnedPart D)) (n : ℕ) : Type 0 where
    pub same : IsSameBut old new
    pub count : length os ≡ count_owners v (take n heads)
    pub in_order : AreInOrder (map place_of os)
    pub before : All (λ (o : OwnedPart D). o.index < n) os
    pub loggers : All (λ (o : OwnedPart D). o.logger ≡ k) os
    pub each : All (λ (o : OwnedPart D). (slice_get heads o.index ≡ Some (Owned v)) × (segment_here old o.index ≡ Some o.part)) os
    pub first : All (λ (o : OwnedPart D). o.first_block ≡ head_place s o.index) os
    pub all : (i : ℕ) → i < n → slice_get heads i ≡ Some (Owned v) → Contains (map place_of os) (k, i)
    pub gone : (i : ℕ) → i < n → slice_get heads i ≡ Some (Owned v) → segment_here new i ≡ None
    pub others : (i : ℕ) → (i < n → slice_get heads i ≡ Some (Owned v) → ⊥) → segment_here new i ≡ segment_here old i

  pub taken_none : (r : ImageRest D) → AreTakenTo r r [] 0
  taken_none r =
      let before = All-nil (λ (o : OwnedPart D). o.index < 0) in
      let loggers = All-nil (λ (o : OwnedPart D). o.logger ≡ k) in
      let each = All-nil (λ (o : OwnedPart D). (slice_get heads o.index ≡ Some (Owned v)) × (segment_here r o.index ≡ Some o.part)) in
      let first = All-nil (λ (o : OwnedPart D). o.first_block ≡ head_place s o.index) in
      let all : (i : ℕ) → i < 0 → slice_get heads i ≡ Some (Owned v) → Contains {X = ℕ × ℕ} [] (k, i) = λ i lt. absurd (omega (arith, lt)) in
      let gone : (i : ℕ) → i < 0 → slice_get heads i ≡ Some (Owned v) → segment_here r i ≡ None = λ i lt. absurd (omega (arith, lt)) in
      assumption

  module _ (old new newer : ImageRest D) (os : List (OwnedPart D)) (n : ℕ) (h : SegHead) (so_far : AreTakenTo old new os n) (is : slice_get heads n ≡ Some h) (count : length heads ≡ length old.segments.items) where
    within : n < length heads
    within = slice_get_within heads n h is

    here_is : (i : ℕ) → i ≡ n → slice_get heads i ≡ Some (Owned v) → is_owned_by v h ≡ true
    here_is i e owned = true_of_owner v h (same_Some h (Owned v) (sym is ∙ ap (slice_get heads) (sym e) ∙ owned))

    -- the segment at n is there still
    pub still_here : segment_here new n ≡ segment_here old n
    still_here = so_far.others n (λ lt. absurd (omega (arith, lt)))

    pub fewer_taken : is_owned_by v h ≡ true → length os < count_owners v heads
    fewer_taken is_own =
        let more = count_by_more_yes (is_owned_by v) heads n h within (ap (is_owned_by v) (get_or_from_slice_get heads n h h is) ∙ is_own) in
        let front = sum_front (λ (x : SegHead). cond (is_owned_by v x) 1 0) heads (n + 1) in
        omega (arith, more, front, so_far.count)

    wider : All (λ (o : OwnedPart D). o.index < n + 1) os
    wider = All-weaker (λ (o : OwnedPart D). o.index < n) (λ (o : OwnedPart D). o.index < n + 1) (λ o lt. omega (arith, lt)) os so_far.before

    skip : is_owned_by v h ≡ false → AreTakenTo old new os (n + 1)
    skip is_other =
        let other : (i : ℕ) → i < n + 1 → slice_get heads i ≡ Some (Owned v) → i < n = λ i lt owned. ⊎_elim (λ e. absurd (false≢true (sym is_other ∙ here_is i e owned))) (λ ne. omega (arith, lt, ne)) (cases_eq i n) in
        let size : length os ≡ count_owners v (take (n + 1) heads) = so_far.count ∙ sym (count_by_more_no (is_owned_by v) heads n h within (ap (is_owned_by v) (get_or_from_slice_get heads n h h is) ∙ is_other)) in
        let before = wider in
        let all : (i : ℕ) → i < n + 1 → slice_get heads i ≡ Some (Owned v) → Contains (map place_of os) (k, i) = λ i lt owned. so_far.all i (other i lt owned) owned in
        let gone : (i : ℕ) → i < n + 1 → slice_get heads i ≡ Some (Owned v) → segment_here new i ≡ None = λ i lt owned. so_far.gone i (other i lt owned) owned in
        let others : (i : ℕ) → (i < n + 1 → slice_get heads i ≡ Some (Owned v) → ⊥) → segment_here new i ≡ segment_here old i = λ i none. so_far.others i (λ lt owned. none (omega (arith, lt)) owned) in
        assumption

    more : (o : OwnedPart D) → is_owned_by v h ≡ true → place_of o ≡ (k, n) → o.first_block ≡ head_place s n → segment_here new n ≡ Some o.part → IsSameBut new newer
        → newer.segments.items ≡ slice_set new.segments.items n None → AreTakenTo old newer (os ++ o ∷ []) (n + 1)
    more o is_own place first there same set =
        let index : o.index ≡ n = ap (λ (p : ℕ × ℕ). p.1) place in
        let logger : o.logger ≡ k = ap (λ (p : ℕ × ℕ). p.0) place in
        let h_is : h ≡ Owned v = owner_of_true v h is_own in
        let places : map place_of (os ++ o ∷ []) ≡ map place_of os ++ (k, n) ∷ [] = map-append place_of os (o ∷ []) ∙ ap (λ (p : ℕ × ℕ). map place_of os ++ p ∷ []) place in
        let in_new : n < length new.segments.items = let w = within in omega (arith, w, count, so_far.same.count) in
        let read : (i : ℕ) → segment_here newer i ≡ slice_index_or (slice_set new.segments.items n None) i None = λ i. ap (λ (l : List (Option (Spun D))). slice_index_or l i None) set in
        record {
          same = same_but_then old new newer so_far.same same;
          count = length_push os o ∙ ap (λ (m : ℕ). m + 1) so_far.count ∙ sym (count_by_more_yes (is_owned_by v) heads n h within (ap (is_owned_by v) (get_or_from_slice_get heads n h h is) ∙ is_own));
          in_order = subst AreInOrder (sym places) (in_order_append (map place_of os) ((k, n) ∷ []) so_far.in_order (tt, tt) (map_all (λ p. AllByRecursion (IsBefore p) ((k, n) ∷ [])) place_of os
              (all_both (λ (p : OwnedPart D). p.logger ≡ k) (λ (p : OwnedPart D). p.index < n) (λ (p : OwnedPart D). AllByRecursion (IsBefore (place_of p)) ((k, n) ∷ [])) os (λ p e lt. (inr (e, lt), tt)) so_far.loggers so_far.before)));
          before = All-push (λ (p : OwnedPart D). p.index < n + 1) os o wider (omega (arith, index));
          loggers = All-push (λ (p : OwnedPart D). p.logger ≡ k) os o so_far.loggers logger;
          each = All-push (λ (p : OwnedPart D). (slice_get heads p.index ≡ Some (Owned v)) × (segment_here old p.index ≡ Some p.part)) os o so_far.each
              (ap (slice_get heads) index ∙ is ∙ ap (λ (g : SegHead). Some g) h_is, ap (segment_here old) index ∙ sym still_here ∙ there);
          first = All-push (λ (p : OwnedPart D). p.first_block ≡ head_place s p.index) os o so_far.first (first ∙ ap (head_place s) (sym index));
          all = λ i lt owned. subst (λ (l : List (ℕ × ℕ)). Contains l (k, i)) (sym places) (⊎_elim
              (λ e. subst (λ (x : ℕ). Contains (map place_of os ++ (k, n) ∷ []) (k, x)) (sym e) (Contains-push (map place_of os) (k, n)))
              (λ ne. Contains-append_left (map place_of os) ((k, n) ∷ []) (k, i) (so_far.all i (omega (arith, lt, ne)) owned))
              (cases_eq i n));
          gone = λ i lt owned. read i ∙ ⊎_elim
              (λ e. ap (λ (x : ℕ). slice_index_or (slice_set new.segments.items n None) x None) e ∙ get_or-set_same new.segments.items n None None in_new)
              (λ ne. get_or-set_other new.segments.items n i None None ne ∙ so_far.gone i (omega (arith, lt, ne)) owned)
              (cases_eq i n);
          others = λ i none. read i ∙ get_or-set_other new.segments.items n i None None (λ e. none (omega (arith, e)) (ap (slice_get heads) e ∙ is ∙ ap (λ (g : SegHead). Some g) h_is))
              ∙ so_far.others i (λ lt owned. none (omega (arith, lt)) owned);
        }

    pub taken_next : (before after base : List (OwnedPart D)) → before ≡ base ++ os → TakesOne s k (is_owned_by v h) new newer n before after → (us : List (OwnedPart D)) × (after ≡ base ++ us) × AreTakenTo old newer us (n + 1)
    taken_next before after base was takes = ⊎_elim
        (λ is_true.
        let t = subst (λ (b : Bool). TakesOne s k b new newer n before after) is_true takes in
        (os ++ t.0 ∷ [], t.1 ∙ ap (λ (l : List (OwnedPart D)). l ++ t.0 ∷ []) was ∙ append_assoc base os (t.0 ∷ []), more t.0 is_true t.2 t.3 t.4 t.5 t.6))
        (λ is_false.
        let t = subst (λ (b : Bool). TakesOne s k b new newer n before after) is_false takes in
        (os, t.1 ∙ was, rw t.0 (skip is_false)))
        (cases_Bool (is_owned_by v h))

  pub taken_all : (old new : ImageRest D) (os : List (OwnedPart D)) (n : ℕ) → AreTakenTo old new os n → length heads ≤ n → (length os ≡ count_owners v heads) × TakesOwners s old new v k heads os
  taken_all old new os n so_far end =
      let below : (i : ℕ) → slice_get heads i ≡ Some (Owned v) → i < n = λ i owned. (let w = slice_get_within heads i (Owned v) owned in omega (arith, w, end)) in
      let all : (i : ℕ) → slice_get heads i ≡ Some (Owned v) → Contains (map place_of os) (k, i) = λ i owned. so_far.all i (below i owned) owned in
      let gone : (i : ℕ) → slice_get heads i ≡ Some (Owned v) → segment_here new i ≡ None = λ i owned. so_far.gone i (below i owned) owned in
      let others : (i : ℕ) → slice_get heads i ≢ Some (Owned v) → segment_here new i ≡ segment_here old i = λ i other. so_far.others i (λ lt owned. other owned) in
      (so_far.count ∙ ap (count_owners v) (take_all n heads end), assumption)

-- ---- The owned segments of one image went out of a rest

-- the shape of a volume of the configuration
pub shape_at : (config : Config) (k : ℕ) (s : Shape) → k < length config.volumes.items → ((d : VolumeConf) → s ≡ shape_in config (slice_index_or config.volumes.items k d)) → slice_get (shapes_of config) k ≡ Some s
shape_at config k s lt is =
    let v = element_at config.volumes.items k lt in
    slice_get-map (shape_in config) config.volumes.items k ∙ ap (option_map (shape_in config)) v.1
    ∙ ap (λ (x : Shape). Some x) (ap (shape_in config) (sym (get_or_from_slice_get config.volumes.items k v.0 v.0 v.1)) ∙ sym (is v.0))

module _ {D : Type 0} where
  -- what one image gave, behind those before
  abbrev pub Gave : (v k : ℕ) → Shape → List SegHead → (old new : ImageRest D) → (before after : List (OwnedPart D)) → Type 0
  Gave v k shape heads old new before after = (more : List (OwnedPart D)) × (after ≡ before ++ more) × (length more ≡ count_owners v heads) × TakesOwners shape old new v k heads more

  pub took_of : (config : Config) (r : Rest D) (v k : ℕ) (s : Said) (shape : Shape) (was new : Option (ImageRest D)) (before after : List (OwnedPart D))
      → k < length r.images.items → was ≡ image_here r.images.items k → slice_get (shapes_of config) k ≡ Some shape → IsSome was → IsSome new
      → IfSome was (λ o. IfSome new (λ n. Gave v k shape s.heads.items o n before after))
      → (more : List (OwnedPart D)) × (after ≡ before ++ more) × (length more ≡ owned_in v (Some s))
      × TakesOwnedIn config r (record { images = with_item r.images k new; passes = r.passes; rooms = r.rooms }) v k s more
  took_of config r v k s shape None new before after within was_is shape_is some new_some gave = absurd (false≢true some)
  took_of config r v k s shape (Some o) None before after within was_is shape_is some new_some gave = absurd (false≢true new_some)
  took_of config r v k s shape (Some o) (Some n) before after within was_is shape_is some new_some gave = (
    gave.0,
    gave.1,
    gave.2,
    record {
      passes = refl;
      rooms = refl;
      count = length-set r.images.items k (Some n);
      images = λ j other. get_or-set_other r.images.items k j (Some n) None other;
      before = o;
      was = sym was_is;
      after = n;
      is = get_or-set_same r.images.items k (Some n) None within;
      shape = shape;
      shape_is = shape_is;
      takes = gave.3;
    },
  )

-- ---- The owned segments of a volume go out of all images

pub total_next : (v : ℕ) (said : List (Option Said)) (n : ℕ) (o : Option Said) → slice_get said n ≡ Some o → owned_total v (take (n + 1) said) ≡ owned_total v (take n said) + owned_in v o
total_next v said n o is =
    ap (owned_total v) (take_more said n o (slice_get_within said n o is) ∙ ap (λ (x : Option Said). take n said ++ x ∷ []) (get_or_from_slice_get said n o o is)) ∙ sum_by_push (owned_in v) (take n said) o

module _ {D : Type 0} (config : Config) (said : List (Option Said)) (v : ℕ) where
  -- those on the first loggers went out
  pub record AreOwnedTo (old new : Rest D) (os : List (OwnedPart D)) (n : ℕ) : Type 0 where
    pub passes : new.passes ≡ old.passes
    pub rooms : new.rooms ≡ old.rooms
    pub count : length new.images.items ≡ length old.images.items
    pub images : (k : ℕ) → KeepsImage (image_here old.images.items k) (image_here new.images.items k)
    pub total : length os ≡ owned_total v (take n said)
    pub in_order : AreInOrder (map place_of os)
    pub before : All (λ (o : OwnedPart D). o.logger < n) os
    pub each : All (IsTakenOf config old said v) os
    pub all : (k i : ℕ) → k < n → IsOwnedPlace said v k i → Contains (map place_of os) (k, i)
    pub gone : (k i : ℕ) → Contains (map place_of os) (k, i) → segment_in new k i ≡ None
    pub others : (k i : ℕ) → (Contains (map place_of os) (k, i) → ⊥) → segment_in new k i ≡ segment_in old k i
    pub left : (k : ℕ) → n ≤ k → image_here new.images.items k ≡ image_here old.images.items k

  pub owned_to_none : (r : Rest D) → AreOwnedTo r r [] 0
  owned_to_none r =
      let images : (k : ℕ) → KeepsImage (image_here r.images.items k) (image_here r.images.items k) = λ k. keeps_image (image_here r.images.items k) in
      let before = All-nil (λ (o : OwnedPart D). o.logger < 0) in
      let each = All-nil (IsTakenOf config r said v) in
      let all : (k i : ℕ) → k < 0 → IsOwnedPlace said v k i → Contains {X = ℕ × ℕ} [] (k, i) = λ k i lt. absurd (omega (arith, lt)) in
      let gone : (k i : ℕ) → Contains {X = ℕ × ℕ} [] (k, i) → segment_in r k i ≡ None = λ k i has. absurd (none_in (k, i) has) in
      assumption

  module _ (old new newer : Rest D) (os : List (OwnedPart D)) (n : ℕ) (so_far : AreOwnedTo old new os n) where
    -- the image at n is as it was
    pub still_at : image_here new.images.items n ≡ image_here old.images.items n
    still_at = so_far.left n (omega arith)

    pub may_take_of : (o : Option Said) → slice_get said n ≡ Some o → AreOwnedHere old said v → CanTakeOwnedOf new v n o
    may_take_of None is here = tt
    may_take_of (Some s) is here =
        let out = here.out n s is in (
          out.0,
          still_at ∙ out.1,
          out.2,
          out.3,
          λ i owner. ap is_some (sym (ap (λ (x : Option (ImageRest D)). in_image x i) out.1)) ∙ here.here n i (s, is, owner),
        )

    wider_to : All (λ (o : OwnedPart D). o.logger < n + 1) os
    wider_to = All-weaker (λ (o : OwnedPart D). o.logger < n) (λ (o : OwnedPart D). o.logger < n + 1) (λ o lt. omega (arith, lt)) os so_far.before

    before_other : (i : ℕ) → Contains (map place_of os) (n, i) → ⊥
    before_other i has =
        let o = of_map place_of os (n, i) has in
        omega (arith, All-contains (λ (p : OwnedPart D). p.logger < n) os o.0 so_far.before o.1, ap (λ (p : ℕ × ℕ). p.0) o.2)

    module _ (s : Said) (is : slice_get said n ≡ Some (Some s)) (more : List (OwnedPart D)) (size : length more ≡ owned_in v (Some s)) (t : TakesOwnedIn config new newer v n s more) where
      here_now : (i : ℕ) → segment_in newer n i ≡ segment_here t.after i
      here_now i = ap (λ (x : Option (ImageRest D)). in_image x i) t.is

      here_was : (i : ℕ) → segment_in new n i ≡ segment_here t.before i
      here_was i = ap (λ (x : Option (ImageRest D)). in_image x i) t.was

      here_old : (i : ℕ) → segment_in old n i ≡ segment_here t.before i
      here_old i = ap (λ (x : Option (ImageRest D)). in_image x i) (sym still_at ∙ t.was)

      taken : (o : OwnedPart D) → o.logger ≡ n → (slice_get s.heads.items o.index ≡ Some (Owned v)) × (segment_here t.before o.index ≡ Some o.part) → o.first_block ≡ head_place t.shape o.index → IsTakenOf config old said v o
      taken o logger head first = record {
        here = ap (λ (k : ℕ). segment_in old k o.index) logger ∙ here_old o.index ∙ head.1;
        saying = s;
        said_is = ap (slice_get said) logger ∙ is;
        head = head.0;
        first = λ x shape. first ∙ ap (λ (y : Shape). head_place y o.index) (same_Some t.shape x (sym t.shape_is ∙ ap (slice_get (shapes_of config)) (sym logger) ∙ shape));
      }

      joined : map place_of (os ++ more) ≡ map place_of os ++ map place_of more
      joined = map-append place_of os more

      -- a place of these is one of logger n, whose head names the owner
      named : (k i : ℕ) → Contains (map place_of more) (k, i) → (k ≡ n) × (slice_get s.heads.items i ≡ Some (Owned v))
      named k i has =
          let o = of_map place_of more (k, i) has in
          let logger = All-contains (λ (p : OwnedPart D). p.logger ≡ n) more o.0 t.takes.loggers o.1 in
          let head = All-contains (λ (p : OwnedPart D). (slice_get s.heads.items p.index ≡ Some (Owned v)) × (segment_here t.before p.index ≡ Some p.part)) more o.0 t.takes.each o.1 in
          (sym (ap (λ (p : ℕ × ℕ). p.0) o.2) ∙ logger, ap (slice_get s.heads.items) (sym (ap (λ (p : ℕ × ℕ). p.1) o.2)) ∙ head.0)

      pub owned_to_more : AreOwnedTo old newer (os ++ more) (n + 1)
      owned_to_more = record {
        passes = t.passes ∙ so_far.passes;
        rooms = t.rooms ∙ so_far.rooms;
        count = t.count ∙ so_far.count;
        images = λ k. keeps_image_then (image_here old.images.items k) (image_here new.images.items k) (image_here newer.images.items k) (so_far.images k)
            (⊎_elim (λ (e : k ≡ n). rw (e, t.was, t.is) (t.after, refl, t.takes.same)) (λ other. rw (t.images k other) (keeps_image (image_here new.images.items k))) (cases_eq k n));
        total = length-append os more ∙ ap (λ (m : ℕ). m + length more) so_far.total ∙ ap (λ (m : ℕ). owned_total v (take n said) + m) size ∙ sym (total_next v said n (Some s) is);
        in_order = subst AreInOrder (sym joined) (in_order_append (map place_of os) (map place_of more) so_far.in_order t.takes.in_order (map_all (λ p. AllByRecursion (IsBefore p) (map place_of more)) place_of os
            (All-weaker (λ (o : OwnedPart D). o.logger < n) (λ (o : OwnedPart D). AllByRecursion (IsBefore (place_of o)) (map place_of more)) (λ o lt. map_all (IsBefore (place_of o)) place_of more
            (All-weaker (λ (m : OwnedPart D). m.logger ≡ n) (λ (m : OwnedPart D). IsBefore (place_of o) (place_of m)) (λ m e. inl (omega (arith, lt, e))) more t.takes.loggers)) os so_far.before)));
        before = All-append (λ (o : OwnedPart D). o.logger < n + 1) os more wider_to (All-weaker (λ (o : OwnedPart D). o.logger ≡ n) (λ (o : OwnedPart D). o.logger < n + 1) (λ o e. omega (arith, e)) more t.takes.loggers);
        each = All-append (IsTakenOf config old said v) os more so_far.each (λ j d within. taken (slice_index_or more j d) (t.takes.loggers j d within) (t.takes.each j d within) (t.takes.first j d within));
        all = λ k i lt owned. subst (λ (l : List (ℕ × ℕ)). Contains l (k, i)) (sym joined) (⊎_elim
            (λ e. Contains-append_right (map place_of os) (map place_of more) (k, i)
            (subst (λ (x : ℕ). Contains (map place_of more) (x, i)) (sym e) (t.takes.all i (subst (λ (x : Said). slice_get x.heads.items i ≡ Some (Owned v))
            (sym (same_Some s owned.0 (same_Some (Some s) (Some owned.0) (sym is ∙ ap (slice_get said) (sym e) ∙ owned.1)))) owned.2))))
            (λ other. Contains-append_left (map place_of os) (map place_of more) (k, i) (so_far.all k i (omega (arith, lt, other)) owned))
            (cases_eq k n));
        gone = λ k i has. ⊎_elim
            (λ first. ap (λ (x : Option (ImageRest D)). in_image x i) (t.images k (λ e. before_other i (subst (λ (x : ℕ). Contains (map place_of os) (x, i)) e first))) ∙ so_far.gone k i first)
            (λ second. let at = named k i second in ap (λ (x : ℕ). segment_in newer x i) at.0 ∙ here_now i ∙ t.takes.gone i at.1)
            (Contains-append_cases (map place_of os) (map place_of more) (k, i) (subst (λ (l : List (ℕ × ℕ)). Contains l (k, i)) joined has));
        others = λ k i none.
            let none_first : Contains (map place_of os) (k, i) → ⊥ = λ has. none (subst (λ (l : List (ℕ × ℕ)). Contains l (k, i)) (sym joined) (Contains-append_left (map place_of os) (map place_of more) (k, i) has)) in
            let none_second : Contains (map place_of more) (k, i) → ⊥ = λ has. none (subst (λ (l : List (ℕ × ℕ)). Contains l (k, i)) (sym joined) (Contains-append_right (map place_of os) (map place_of more) (k, i) has)) in
            ⊎_elim
            (λ e. ap (λ (x : ℕ). segment_in newer x i) e ∙ here_now i ∙ t.takes.others i (λ owned. none_second (subst (λ (x : ℕ). Contains (map place_of more) (x, i)) (sym e) (t.takes.all i owned)))
            ∙ sym (here_was i) ∙ ap (λ (x : ℕ). segment_in new x i) (sym e))
            (λ other. ap (λ (x : Option (ImageRest D)). in_image x i) (t.images k other))
            (cases_eq k n)
            ∙ so_far.others k i none_first;
        left = λ k behind. t.images k (λ e. absurd (omega (arith, e, behind))) ∙ so_far.left k (omega (arith, behind));
      }

    pub owned_to_same : slice_get said n ≡ Some None → newer ≡ new → AreOwnedTo old newer os (n + 1)
    owned_to_same is same =
        let total : length os ≡ owned_total v (take (n + 1) said) = so_far.total ∙ (let t = total_next v said n None is in omega (arith, t)) in
        let before = wider_to in
        let all : (k i : ℕ) → k < n + 1 → IsOwnedPlace said v k i → Contains (map place_of os) (k, i) = λ k i lt owned. ⊎_elim
        (λ e. absurd (none-some owned.0 (same_Some None (Some owned.0) (sym is ∙ ap (slice_get said) (sym e) ∙ owned.1))))
        (λ other. so_far.all k i (omega (arith, lt, other)) owned)
        (cases_eq k n) in
        let left : (k : ℕ) → n + 1 ≤ k → image_here new.images.items k ≡ image_here old.images.items k = λ k behind. so_far.left k (omega (arith, behind)) in
        rw same assumption

    pub owned_to_next : (o : Option Said) → slice_get said n ≡ Some o → (more : List (OwnedPart D)) → length more ≡ owned_in v o → TakesOwnedOf config new newer v n o more → AreOwnedTo old newer (os ++ more) (n + 1)
    owned_to_next None is more size t = subst (λ (l : List (OwnedPart D)). AreOwnedTo old newer l (n + 1)) (sym (ap (λ (m : List (OwnedPart D)). os ++ m) t.1 ∙ append-nil os)) (owned_to_same is t.0)
    owned_to_next (Some s) is more size t = owned_to_more s is more size t

  pub owned_to_all : (old new : Rest D) (os : List (OwnedPart D)) (n : ℕ) → AreOwnedTo old new os n → length said ≤ n → TakesOwned config old new said v os
  owned_to_all old new os n so_far end =
      let all : (k i : ℕ) → IsOwnedPlace said v k i → Contains (map place_of os) (k, i) = λ k i owned. so_far.all k i (let w = slice_get_within said k (Some owned.0) owned.1 in omega (arith, w, end)) owned in
      assumption

-- ---- What a volume is opened of goes out

module _ {D : Type 0} where
  -- owned segments are there as long as the images are the same
  pub owned_here_then : (a b : Rest D) (said : List (Option Said)) (v : ℕ) → b.images ≡ a.images → AreOwnedHere a said v → AreOwnedHere b said v
  owned_here_then a b said v same here = record {
    count = here.count ∙ ap (λ (x : Vec (Option (ImageRest D)) Global). length x.items) (sym same);
    out = λ k s is. (let o = here.out k s is in (o.0, ap (λ (x : Vec (Option (ImageRest D)) Global). image_here x.items k) same ∙ o.1, o.2, o.3));
    here = λ k i owned. ap (λ (x : Vec (Option (ImageRest D)) Global). is_some (in_image (image_here x.items k) i)) same ∙ here.here k i owned;
  }

  -- a volume that the view doesn't name is none of its loggers
  pub not_logger : (r : Rest D) (view : List ℕ) (v : ℕ) → (Contains view v → ⊥) → All (λ l. v ≢ l) (loggers_out r view)
  not_logger r view v others = All-filter (λ k. is_some (image_here r.images.items k)) (λ l. v ≢ l) view (all_member (λ l. v ≢ l) view (λ l has e. others (subst (Contains view) (sym e) has)))

  module _ (state : D → State) (config : Config) (old mid last : Rest D) (said : List (Option Said)) (v : ℕ) (view : List ℕ) (lanes : List (Lane D)) (os : List (OwnedPart D))
      (can : CanTake config old said v view) (takes : TakesLanes state config old mid v (loggers_out old view) lanes) (owned : TakesOwned config mid last said v os) where
    own : KeepsPlace old mid v v
    own = takes.passes.others v v (λ same. not_logger old view v can.others)

    same_images : mid.images.items ≡ old.images.items
    same_images = ap (λ (x : Vec (Option (ImageRest D)) Global). x.items) takes.passes.images

    pub home_place : HasPlace last v v
    home_place =
        let at_mid = place_then old mid v v takes.passes.rows can.own in
        record {
          row = subst (λ (x : Vec (VolumePasses D) Global). v < length x.items) (sym owned.passes) at_mid.row;
          volumes = at_mid.volumes;
          rows = subst (λ (x : Vec (VolumePasses D) Global). All (λ p. IsRow at_mid.volumes p) x.items) (sym owned.passes) at_mid.rows;
          within = at_mid.within;
        }

    pub spindle_same : spindle_pass last v v ≡ spindle_pass old v v
    spindle_same = ap (λ (x : Vec (VolumePasses D) Global). option_and_then (λ (p : VolumePasses D). slice_index_or p.spindles.items v None) (slice_get x.items v)) owned.passes ∙ own.spindle

    pub image_mid : image_here mid.images.items v ≡ Some can.image
    image_mid = ap (λ (is : List (Option (ImageRest D))). image_here is v) same_images ∙ can.out

    kept : KeepsImage (Some can.image) (image_here last.images.items v)
    kept = subst (λ (x : Option (ImageRest D)). KeepsImage x (image_here last.images.items v)) image_mid (owned.images v)

    pub image_there : IsSome (image_here last.images.items v)
    image_there = ap is_some kept.1

    pub home_there : IfSome (image_here last.images.items v) (λ r. IsSome r.home)
    home_there = subst (λ (x : Option (ImageRest D)). IfSome x (λ r. IsSome r.home)) (sym kept.1) (ap is_some kept.2.home ∙ can.home)

    -- the home that goes out is the one that was there
    pub home_same : (home : Spun D) → ((r : ImageRest D) → image_here last.images.items v ≡ Some r → r.home ≡ Some home) → (image : ImageRest D) → image_here old.images.items v ≡ Some image → image.home ≡ Some home
    home_same home was image is =
        let same : can.image ≡ image = same_Some can.image image (sym can.out ∙ is) in
        ap (λ (r : ImageRest D). r.home) (sym same) ∙ sym kept.2.home ∙ was kept.0 kept.1
