-- What a volume was opened with comes back, and the segments of its lanes go to their places.
use Rattle.rack_parts.proofs.Basics.{◌≡◌, ◌≢◌, ◌<◌, ⊎_elim, ℕ, List, [], ◌∷◌, ◌++◌, length, Option, None, Some, refl, sym, ap, arith, subst, ◌∙◌, All, IsSome, IfSome, slice_set}
use Rattle.rack_parts.proofs.Basics.{Global, Vec, cases_eq, false≢true, length-set, get_or-set_same, get_or-set_other, All-nil, All-push, All-weaker, ◌+◌, map, option_and_then}
use Rattle.rack_parts.proofs.Basics.{◌≤◌, Contains, slice_get, slice_index_or, AllByRecursion, with_item, map-append, length_push, All-from_recursion, All-contains}
use Rattle.rack_parts.proofs.Basics.{Contains-append_left, Contains-push, cases_lt, slice_get_past}
use Rattle.rack_parts.proofs.Terms.{State, PassOf, Spindle, SpindleBase, Spun, logger_of, Lane, ManagerParts, place_of, OwnedPart, image_here, IsFilled, IsBarePlace, PutsLanes}
use Rattle.rack_parts.proofs.Terms.{CanPutLanes, ChangesHome, with_home, PutsManager, IsSameBut, KeepsImage, segment_in, IsOwedPlace, PutsOwned, CanPutOwned, ImageRest, Rest}
use Rattle.rack_parts.proofs.Terms.{AreApart, get_other, get_set, HasPlace, list_of, segment_here, pool_pass, spindle_pass, held_here, indexes_here, IsImageOut, KeepsRows}
use Rattle.rack_parts.proofs.Terms.{in_image, CanPutHeld, PutsHeld, PopsHeld, VolumePasses, CanPutAllHeld, PutsAllHeld}
use Rattle.rack_parts.proofs.LanesMoved.{all_both, pairs_last, pairs_front, rows_then, place_then, row_is, held_found, row_set, at_changed}
use Rattle.rack_parts.proofs.Members.{here_within, all_last, all_front, segment_in_image, a_value, all_member, in_map, none_in}
use Rattle.std.proofs.lemmas.List.Elements.{recursion_from_All}

module _ {D : Type 0} where
  -- ---- A manager

  module _ (a b : Rest D) (v : ℕ) (home : Option (Spun D)) (spindle : Option (PassOf Spindle SpindleBase)) (changes : ChangesHome a b v home spindle) where
    pub bare_after : (k : ℕ) → v ≢ k → IsBarePlace a v k → IsBarePlace b v k
    bare_after k other bare = record {
      place = place_then a b v k changes.rows bare.place;
      pool = changes.pools v k ∙ bare.pool;
      spindle = changes.spindles v k (λ same e. other (sym e)) ∙ bare.spindle;
      held = changes.held v k ∙ bare.held;
    }

    pub lanes_after : (state : D → State) (lanes : List (Lane D)) → All (λ l. v ≢ logger_of l) lanes → CanPutLanes state a v lanes → CanPutLanes state b v lanes
    lanes_after state lanes others can = record {
      whole = can.whole;
      bare = all_both (λ (l : Lane D). v ≢ logger_of l) (λ (l : Lane D). IsBarePlace a v (logger_of l)) (λ (l : Lane D). IsBarePlace b v (logger_of l)) lanes (λ l other bare. bare_after (logger_of l) other bare) others can.bare;
      apart = can.apart;
    }

  pub manager_put : (a b c : Rest D) (v : ℕ) (parts : ManagerParts D) → ChangesHome a b v (Some parts.home) (Some parts.spindle) → PutsLanes b c v parts.lanes.items
      → All (λ l. v ≢ logger_of l) parts.lanes.items → PutsManager a c v parts
  manager_put a b c v parts home lanes others =
      let same_images : c.images.items ≡ b.images.items = ap (λ (x : Vec (Option (ImageRest D)) Global). x.items) lanes.images in
      let own = lanes.others v v (λ same. others) in
      record {
        count = ap length same_images ∙ home.count;
        image = ap (λ (is : List (Option (ImageRest D))). image_here is v) same_images ∙ home.image;
        images = λ k other. ap (λ (is : List (Option (ImageRest D))). image_here is k) same_images ∙ home.images k other;
        rooms = lanes.rooms ∙ home.rooms;
        rows = rows_then a b c home.rows lanes.rows;
        spindle = own.spindle ∙ home.spindle_here;
        back = lanes.back;
        others = λ w k other.
            let keeps = lanes.others w k (λ same. (other same).1) in
            record {
              pool = keeps.pool ∙ home.pools w k;
              spindle = keeps.spindle ∙ home.spindles w k (λ same. (other same).0);
              held = keeps.held ∙ home.held w k;
            };
        own_pool = own.pool ∙ home.pools v v;
        own_held = own.held ∙ home.held v v;
      }

  -- ---- Segments

  -- one segment came to its place
  pub record PutsOne (old new : Rest D) (k i : ℕ) (part : Spun D) : Type 0 where
    pub count : length new.images.items ≡ length old.images.items
    pub images : (j : ℕ) → KeepsImage (image_here old.images.items j) (image_here new.images.items j)
    pub image_others : (j : ℕ) → j ≢ k → image_here new.images.items j ≡ image_here old.images.items j
    pub back : segment_in new k i ≡ Some part
    pub others : (j n : ℕ) → (j ≡ k → n ≢ i) → segment_in new j n ≡ segment_in old j n

  pub keeps_image : (o : Option (ImageRest D)) → KeepsImage o o
  keeps_image None = refl
  keeps_image (Some r) = (r, refl, assumption)

  pub same_but_then : (a b c : ImageRest D) → IsSameBut a b → IsSameBut b c → IsSameBut a c
  same_but_then a b c p q = record { label = q.label ∙ p.label; home = q.home ∙ p.home; count = q.count ∙ p.count; row = q.row ∙ p.row; room = q.room ∙ p.room }

  -- a segment came
  pub filled_same : (a b : ImageRest D) (i : ℕ) (part : Spun D) → IsFilled a b i part → IsSameBut a b
  filled_same a b i part fill =
      let count : length b.segments.items ≡ length a.segments.items = ap length fill.segments ∙ length-set a.segments.items i (Some part) in
      assumption

  pub keeps_image_then : (a b c : Option (ImageRest D)) → KeepsImage a b → KeepsImage b c → KeepsImage a c
  keeps_image_then None b c p q = rw p at q
  keeps_image_then (Some r) b c p q =
      let next = subst (λ (o : Option (ImageRest D)). KeepsImage o c) p.1 q in
      (next.0, next.1, same_but_then r p.0 next.0 p.2 next.2)

  pub one_put : (old new : Rest D) (k i : ℕ) (r n : ImageRest D) (part : Spun D) → new.images.items ≡ slice_set old.images.items k (Some n)
      → image_here old.images.items k ≡ Some r → IsFilled r n i part → i < length r.segments.items → PutsOne old new k i part
  one_put old new k i r n part set out fill within =
      let at : image_here new.images.items k ≡ Some n = rw set (get_or-set_same old.images.items k (Some n) None (here_within old.images.items k r out)) in
      let there : (j : ℕ) → j ≢ k → image_here new.images.items j ≡ image_here old.images.items j = λ j other. rw set (get_or-set_other old.images.items k j (Some n) None other) in
      record {
        count = ap length set ∙ length-set old.images.items k (Some n);
        images = λ j. ⊎_elim (λ (e : j ≡ k). rw (e, at, out) (n, refl, filled_same r n i part fill)) (λ other. rw (there j other) (keeps_image (image_here old.images.items j))) (cases_eq j k);
        image_others = there;
        back = rw (at, fill.segments) (get_or-set_same r.segments.items i (Some part) None within);
        others = λ j m other. ⊎_elim (λ (e : j ≡ k). rw (e, at, out, fill.segments) (get_or-set_other r.segments.items i m (Some part) None (other e))) (λ far. rw (there j far)) (cases_eq j k);
      }

  -- the same by the clauses of a place that is filled
  pub one_put_at : (old new : Rest D) (k i : ℕ) (r : ImageRest D) (image : Option (ImageRest D)) (part : Spun D) → new.images.items ≡ slice_set old.images.items k image
      → image_here old.images.items k ≡ Some r → IsSome image → IfSome image (λ m. IsFilled r m i part) → i < length r.segments.items → PutsOne old new k i part
  one_put_at old new k i r None part set out some fill within = absurd (false≢true some)
  one_put_at old new k i r (Some n) part set out some fill within = one_put old new k i r n part set out fill within

  -- ---- Owned segments

  -- these are left: once they come back all have come back
  pub record AreOwnedPutSoFar (old new : Rest D) (all left : List (OwnedPart D)) : Type 0 where
    pub can : CanPutOwned new left
    pub then_all : (last : Rest D) → PutsOwned new last left → PutsOwned old last all

  pub owned_none : (r : Rest D) (all : List (OwnedPart D)) → CanPutOwned r all → AreOwnedPutSoFar r r all all
  owned_none r all can = record { can = can; then_all = λ last puts. puts }

  owed_then : (new newer : Rest D) (k i : ℕ) (part : Spun D) (o : OwnedPart D) → PutsOne new newer k i part → place_of o ≢ (k, i) → IsOwedPlace new o → IsOwedPlace newer o
  owed_then new newer k i part o one other owed =
      let keeps = subst (λ (x : Option (ImageRest D)). KeepsImage x (image_here newer.images.items o.logger)) owed.out (one.images o.logger) in
      record {
        image = keeps.0;
        out = keeps.1;
        within = omega (arith, keeps.2.count, owed.within);
        empty = sym (segment_in_image newer o.logger keeps.0 keeps.1 o.index) ∙ one.others o.logger o.index (λ e f. other (λ j. (e j, f j))) ∙ segment_in_image new o.logger owed.image owed.out o.index ∙ owed.empty;
      }

  module _ (old new : Rest D) (all rest : List (OwnedPart D)) (o : OwnedPart D) (so_far : AreOwnedPutSoFar old new all (rest ++ o ∷ [])) where
    pub last_owed : IsOwedPlace new o
    last_owed = all_last (IsOwedPlace new) rest o so_far.can.places

    pub owned_next : (newer : Rest D) → newer.passes ≡ new.passes → newer.rooms ≡ new.rooms → PutsOne new newer o.logger o.index o.part → AreOwnedPutSoFar old newer all rest
    owned_next newer passes rooms one =
        let apart = pairs_last (λ (m n : OwnedPart D). place_of m ≢ place_of n) rest o so_far.can.apart in
        record {
          can = record {
            places = all_both (IsOwedPlace new) (λ (m : OwnedPart D). place_of m ≢ place_of o) (IsOwedPlace newer) rest (λ m owed other. owed_then new newer o.logger o.index o.part m one other owed)
                (all_front (IsOwedPlace new) rest o so_far.can.places) apart;
            apart = pairs_front (λ (m n : OwnedPart D). place_of m ≢ place_of n) rest o so_far.can.apart;
          };
          then_all = λ last puts. so_far.then_all last (record {
            passes = puts.passes ∙ passes;
            rooms = puts.rooms ∙ rooms;
            count = puts.count ∙ one.count;
            images = λ k. keeps_image_then (image_here new.images.items k) (image_here newer.images.items k) (image_here last.images.items k) (one.images k) (puts.images k);
            back = All-push (λ (d : OwnedPart D). segment_in last d.logger d.index ≡ Some d.part) rest o puts.back (puts.others o.logger o.index apart ∙ one.back);
            others = λ k i other. puts.others k i (all_front (λ (d : OwnedPart D). place_of d ≢ (k, i)) rest o other)
                ∙ one.others k i (λ e f. all_last (λ (d : OwnedPart D). place_of d ≢ (k, i)) rest o other (λ j. (sym e j, sym f j)));
          });
        }

  pub owned_all : (old new : Rest D) (all : List (OwnedPart D)) → AreOwnedPutSoFar old new all [] → PutsOwned old new all
  owned_all old new all so_far =
      let images : (k : ℕ) → KeepsImage (image_here new.images.items k) (image_here new.images.items k) = λ k. keeps_image (image_here new.images.items k) in
      let back = All-nil (λ (o : OwnedPart D). segment_in new o.logger o.index ≡ Some o.part) in
      so_far.then_all new assumption

  -- a home that comes back changes no place of a segment
  pub owed_after : (a b c : Rest D) (v : ℕ) (home : Spun D) (spindle : Option (PassOf Spindle SpindleBase)) (lanes : List (Lane D)) (os : List (OwnedPart D)) → ChangesHome a b v (Some home) spindle → PutsLanes b c v lanes → CanPutOwned a os → CanPutOwned c os
  owed_after a b c v home spindle lanes os changes puts can = record { places = All-weaker (IsOwedPlace a) (IsOwedPlace c) one os can.places; apart = can.apart }
    where
      same_images : c.images.items ≡ b.images.items
      same_images = ap (λ (x : Vec (Option (ImageRest D)) Global). x.items) puts.images

      one : (o : OwnedPart D) → IsOwedPlace a o → IsOwedPlace c o
      one o owed = ⊎_elim
          (λ e. record {
            image = record owed.image { home = Some home };
            out = ap (λ (is : List (Option (ImageRest D))). image_here is o.logger) same_images ∙ ap (image_here b.images.items) e ∙ changes.image ∙ ap (with_home (Some home)) (ap (image_here a.images.items) (sym e) ∙ owed.out);
            within = owed.within;
            empty = owed.empty;
          })
          (λ other. record { image = owed.image; out = ap (λ (is : List (Option (ImageRest D))). image_here is o.logger) same_images ∙ changes.images o.logger other ∙ owed.out; within = owed.within; empty = owed.empty })
          (cases_eq o.logger v)

-- ---- The segments that came back with a lane go to their places

-- the last of different numbers is none of those before it, and these are different
pub apart_last : (xs : List ℕ) (x : ℕ) → AreApart (xs ++ x ∷ []) → AreApart xs × AllByRecursion (λ y. y ≢ x) xs
apart_last [] x apart = (tt, tt)
apart_last (y ∷ ys) x apart =
    let rest = apart_last ys x apart.1 in
    let all = All-from_recursion (λ w. y ≢ w) (ys ++ x ∷ []) apart.0 in
    ((recursion_from_All (λ w. y ≢ w) ys (all_front (λ w. y ≢ w) ys x all), rest.0), (all_last (λ w. y ≢ w) ys x all, rest.1))

module _ {D : Type 0} where
  abbrev index_of : (ℕ × Spun D) → ℕ
  index_of h = h.0

  -- those that are left may go to their places: once they are there all are
  pub record AreHeldSoFar (old new : Rest D) (v k : ℕ) : Type 0 where
    pub can : CanPutHeld new v k
    pub then_all : (last : Rest D) → PutsHeld new last v k → PutsHeld old last v k

  pub held_none : (r : Rest D) (v k : ℕ) → CanPutHeld r v k → AreHeldSoFar r r v k
  held_none r v k can = record { can = can; then_all = λ last puts. puts }

  -- a row with another list at place k
  abbrev pub row_held : VolumePasses D → (k : ℕ) → Vec (ℕ × Spun D) Global → VolumePasses D
  row_held row k held = record { pools = row.pools; spindles = row.spindles; held = with_item row.held k held }

  -- a list lost its last segment
  pub held_popped : (old new : Rest D) (v k : ℕ) (row : VolumePasses D) (list left : Vec (ℕ × Spun D) Global) (h : ℕ × Spun D)
      → HasPlace old v k → row ≡ slice_index_or old.passes.items v row → list ≡ slice_index_or row.held.items k list → list.items ≡ left.items ++ h ∷ []
      → new.images ≡ old.images → new.rooms ≡ old.rooms → new.passes.items ≡ slice_set old.passes.items v (row_held row k left) → PopsHeld old new v k h
  held_popped old new v k row list left h place read found popped images rooms set =
      let is = row_is old v k row place read in
      let was = held_found old v k k row list place read refl found in
      let done = row_set old new v k row (row_held row k left) place read set (search (get_other, length-set)) in
      let now : held_here new v k ≡ left.items = done.held ∙ ap list_of (get_set row.held.items k list left was.0) in
      record {
        images = images;
        rooms = rooms;
        rows = done.rows;
        held = was.1 ∙ popped ∙ ap (λ (l : List (ℕ × Spun D)). l ++ h ∷ []) (sym now);
        held_others = λ w j other. (done.others w j other).held;
        pools = λ w j. at_changed (λ (p : VolumePasses D). slice_index_or p.pools.items j None) old.passes.items new.passes.items v row (row_held row k left) is set w (λ same. refl);
        spindles = λ w j. at_changed (λ (p : VolumePasses D). slice_index_or p.spindles.items j None) old.passes.items new.passes.items v row (row_held row k left) is set w (λ same. refl);
      }

  -- the last segment goes to its place
  module _ (old new mid : Rest D) (v k : ℕ) (so_far : AreHeldSoFar old new v k) (h : ℕ × Spun D) (pops : PopsHeld new mid v k h) where
    abbrev left : List (ℕ × Spun D)
    left = held_here mid v k

    indexes_was : indexes_here new v k ≡ map index_of left ++ h.0 ∷ []
    indexes_was = ap (map index_of) pops.held ∙ map-append index_of left (h ∷ [])

    pub place_within : h.0 < length so_far.can.image.segments.items
    place_within = all_last (λ i. i < length so_far.can.image.segments.items) (map index_of left) h.0 (rw indexes_was at so_far.can.within)

    pub place_free : segment_here so_far.can.image h.0 ≡ None
    place_free = all_last (λ i. segment_here so_far.can.image i ≡ None) (map index_of left) h.0 (rw indexes_was at so_far.can.empty)

    mid_images : mid.images.items ≡ new.images.items
    mid_images = ap (λ (x : Vec (Option (ImageRest D)) Global). x.items) pops.images

    pub mid_out : image_here mid.images.items k ≡ Some so_far.can.image
    mid_out = ap (λ (is : List (Option (ImageRest D))). image_here is k) mid_images ∙ so_far.can.out

    pub held_next : (newer : Rest D) → newer.passes ≡ mid.passes → newer.rooms ≡ mid.rooms → PutsOne mid newer k h.0 h.1 → AreHeldSoFar old newer v k
    held_next newer passes rooms one =
        let keeps = subst (λ (o : Option (ImageRest D)). KeepsImage o (image_here newer.images.items k)) mid_out (one.images k) in
        let now : held_here newer v k ≡ left = rw passes in
        let indexes_now : indexes_here newer v k ≡ map index_of left = ap (map index_of) now in
        let apart = apart_last (map index_of left) h.0 (subst AreApart indexes_was so_far.can.apart) in
        let other : All (λ i. i ≢ h.0) (map index_of left) = All-from_recursion (λ i. i ≢ h.0) (map index_of left) apart.1 in
        let rows : KeepsRows new newer = record { count = ap (λ (ps : Vec (VolumePasses D) Global). length ps.items) passes ∙ pops.rows.count; rows = λ n all. rw passes (pops.rows.rows n all) } in
        record {
          can = record {
            place = place_then new newer v k rows so_far.can.place;
            image = keeps.0;
            out = keeps.1;
            within = rw (indexes_now, keeps.2.count) (all_front (λ i. i < length so_far.can.image.segments.items) (map index_of left) h.0 (rw indexes_was at so_far.can.within));
            empty = rw indexes_now
                (all_both (λ i. segment_here so_far.can.image i ≡ None) (λ i. i ≢ h.0) (λ i. segment_here keeps.0 i ≡ None) (map index_of left)
                (λ i empty differs. sym (segment_in_image newer k keeps.0 keeps.1 i) ∙ one.others k i (λ e. differs) ∙ segment_in_image mid k so_far.can.image mid_out i ∙ empty)
                (all_front (λ i. segment_here so_far.can.image i ≡ None) (map index_of left) h.0 (rw indexes_was at so_far.can.empty)) other);
            apart = subst AreApart (sym indexes_now) apart.0;
          };
          then_all = λ last puts. so_far.then_all last (record {
            rooms = puts.rooms ∙ rooms ∙ pops.rooms;
            rows = rows_then new newer last rows puts.rows;
            count = puts.count ∙ one.count ∙ ap length mid_images;
            image = keeps_image_then (image_here new.images.items k) (image_here newer.images.items k) (image_here last.images.items k) (rw mid_images at (one.images k)) puts.image;
            images = λ j differs. puts.images j differs ∙ one.image_others j differs ∙ ap (λ (is : List (Option (ImageRest D))). image_here is j) mid_images;
            back = rw pops.held (All-push (λ (d : ℕ × Spun D). segment_in last k d.0 ≡ Some d.1) left h (rw now at puts.back)
                (puts.others h.0 (λ has. All-contains (λ i. i ≢ h.0) (map index_of left) h.0 other (rw indexes_now at has) refl) ∙ one.back));
            others = λ i none.
                puts.others i (λ has. none (rw indexes_was (Contains-append_left (map index_of left) (h.0 ∷ []) i (rw indexes_now at has))))
                ∙ one.others k i (λ same e. none (rw (indexes_was, e) (Contains-push (map index_of left) h.0))) ∙ ap (λ (is : List (Option (ImageRest D))). in_image (image_here is k) i) mid_images;
            held = puts.held;
            held_others = λ w j differs. puts.held_others w j differs ∙ rw passes (pops.held_others w j differs);
            pools = λ w j. puts.pools w j ∙ rw passes (pops.pools w j);
            spindles = λ w j. puts.spindles w j ∙ rw passes (pops.spindles w j);
          });
        }

    pub one_less : length (held_here new v k) ≡ length (held_here mid v k) + 1
    one_less = ap length pops.held ∙ length_push left h

  pub held_all : (old new : Rest D) (v k : ℕ) → AreHeldSoFar old new v k → held_here new v k ≡ [] → PutsHeld old new v k
  held_all old new v k so_far none =
      let image = keeps_image (image_here new.images.items k) in
      let back : All (λ (h : ℕ × Spun D). segment_in new k h.0 ≡ Some h.1) (held_here new v k) = rw none (All-nil (λ (h : ℕ × Spun D). segment_in new k h.0 ≡ Some h.1)) in
      so_far.then_all new assumption

-- ---- The segments that came back with lanes go to their places, one volume's after another's

module _ {D : Type 0} (k : ℕ) (init : Rest D) where
  -- those of the first n volumes are in their places
  pub record AreBackOf (n : ℕ) (cur : Rest D) : Type 0 where
    pub rooms : cur.rooms ≡ init.rooms
    pub rows : KeepsRows init cur
    pub count : length cur.images.items ≡ length init.images.items
    pub image : KeepsImage (image_here init.images.items k) (image_here cur.images.items k)
    pub images : (j : ℕ) → j ≢ k → image_here cur.images.items j ≡ image_here init.images.items j
    pub back : (v i : ℕ) (p : Spun D) → v < n → Contains (held_here init v k) (i, p) → segment_in cur k i ≡ Some p
    pub others : (i : ℕ) → ((v : ℕ) → v < n → Contains (indexes_here init v k) i → ⊥) → segment_in cur k i ≡ segment_in init k i
    pub gone : (v : ℕ) → v < n → held_here cur v k ≡ []
    pub left : (v : ℕ) → n ≤ v → held_here cur v k ≡ held_here init v k
    pub held_others : (v j : ℕ) → j ≢ k → held_here cur v j ≡ held_here init v j
    pub pools : (v j : ℕ) → pool_pass cur v j ≡ pool_pass init v j
    pub spindles : (v j : ℕ) → spindle_pass cur v j ≡ spindle_pass init v j

  pub none_yet : AreBackOf 0 init
  none_yet =
      let image = keeps_image (image_here init.images.items k) in
      let back : (v i : ℕ) (p : Spun D) → v < 0 → Contains (held_here init v k) (i, p) → segment_in init k i ≡ Some p = λ v i p less has. absurd (omega (arith, less)) in
      let gone : (v : ℕ) → v < 0 → held_here init v k ≡ [] = λ v less. absurd (omega (arith, less)) in
      assumption

  past_held : (r : Rest D) (v : ℕ) → length r.passes.items ≤ v → held_here r v k ≡ []
  past_held r v past = ap (λ (o : Option (VolumePasses D)). list_of (option_and_then (λ p. slice_get p.held.items k) o)) (slice_get_past r.passes.items v past)

  module _ (can : CanPutAllHeld init k) where
    -- the next list may go
    pub next_may : (n : ℕ) (cur : Rest D) → AreBackOf n cur → n < length cur.passes.items → IsImageOut init.images.items k → CanPutHeld cur n k
    next_may n cur so_far below out =
        let r = a_value (image_here init.images.items k) out in
        let m = subst (λ (o : Option (ImageRest D)). KeepsImage o (image_here cur.images.items k)) r.1 so_far.image in
        let same = so_far.left n (omega arith) in
        record {
          place = record { row = below; volumes = can.volumes; rows = so_far.rows.rows can.volumes can.rows; within = can.within.0 };
          image = m.0;
          out = m.1;
          within = all_member (λ i. i < length m.0.segments.items) (indexes_here cur n k) (λ i has.
              let x = can.indexes n i r.0 r.1 (rw same at has) in omega (arith, x.0, m.2.count));
          empty = all_member (λ i. segment_here m.0 i ≡ None) (indexes_here cur n k) (λ i has.
              let was : Contains (indexes_here init n k) i = rw same at has in
              sym (segment_in_image cur k m.0 m.1 i) ∙ so_far.others i (λ v less earlier. can.apart v n i (λ e. absurd (omega (arith, less, e))) earlier was)
              ∙ segment_in_image init k r.0 r.1 i ∙ (can.indexes n i r.0 r.1 was).1);
          apart = rw same (can.once n);
        }

    -- one list more went
    pub one_more : (n : ℕ) (cur new : Rest D) → AreBackOf n cur → PutsHeld cur new n k → AreBackOf (n + 1) new
    one_more n cur new so_far put = record {
      rooms = put.rooms ∙ so_far.rooms;
      rows = rows_then init cur new so_far.rows put.rows;
      count = put.count ∙ so_far.count;
      image = keeps_image_then (image_here init.images.items k) (image_here cur.images.items k) (image_here new.images.items k) so_far.image put.image;
      images = λ j differs. put.images j differs ∙ so_far.images j differs;
      back = back;
      others = λ i none. put.others i (λ has. none n (omega arith) (was_listed i has)) ∙ so_far.others i (λ v less. none v (omega (arith, less)));
      gone = λ v less. ⊎_elim (λ e. rw e put.held) (λ differs. put.held_others v k (λ e. absurd (differs e)) ∙ so_far.gone v (omega (arith, less, differs))) (cases_eq v n);
      left = λ v past. put.held_others v k (λ e. absurd (omega (arith, past, e))) ∙ so_far.left v (omega (arith, past));
      held_others = λ v j differs. put.held_others v j (λ e. differs) ∙ so_far.held_others v j differs;
      pools = λ v j. put.pools v j ∙ so_far.pools v j;
      spindles = λ v j. put.spindles v j ∙ so_far.spindles v j;
    }
      where
        same : held_here cur n k ≡ held_here init n k
        same = so_far.left n (omega arith)

        was_listed : (i : ℕ) → Contains (indexes_here cur n k) i → Contains (indexes_here init n k) i
        was_listed i has = rw same at has

        back : (v i : ℕ) (p : Spun D) → v < n + 1 → Contains (held_here init v k) (i, p) → segment_in new k i ≡ Some p
        back v i p less has = ⊎_elim
            (λ e. All-contains (λ (h : ℕ × Spun D). segment_in new k h.0 ≡ Some h.1) (held_here cur n k) (i, p) put.back (rw same (rw e at has)))
            (λ differs. put.others i (λ now. can.apart v n i differs (in_map (λ (h : ℕ × Spun D). h.0) (held_here init v k) (i, p) has) (was_listed i now))
            ∙ so_far.back v i p (omega (arith, less, differs)) has)
            (cases_eq v n)

    -- all of them went
    pub all_went : (n : ℕ) (cur : Rest D) → AreBackOf n cur → length cur.passes.items ≤ n → PutsAllHeld init cur k
    all_went n cur so_far all =
        let back : (v i : ℕ) (p : Spun D) → Contains (held_here init v k) (i, p) → segment_in cur k i ≡ Some p = λ v i p has. ⊎_elim
        (λ less. so_far.back v i p less has)
        (λ past. absurd (none_in (i, p) (rw (past_held init v (omega (arith, past, all, so_far.rows.count))) at has)))
        (cases_lt v n) in
        let others : (i : ℕ) → ((v : ℕ) → Contains (indexes_here init v k) i → ⊥) → segment_in cur k i ≡ segment_in init k i = λ i none. so_far.others i (λ v less. none v) in
        let held : (v : ℕ) → held_here cur v k ≡ [] = λ v. ⊎_elim (λ less. so_far.gone v less) (λ past. past_held cur v (omega (arith, past, all))) (cases_lt v n) in
        assumption
