-- What the parts of an image say, said of the whole image.
use Rattle.std.proofs.Common.{◌≡◌, ◌⊎◌, inl, inr, ⊎_elim, ℕ, zero, suc, ◌+◌, ◌-◌, ◌*◌, ◌<◌, ◌≤◌, List, [], ◌∷◌, ◌++◌, length, map, take, drop, get_or, Option, None, Some, option_map, refl, sym, ap, ◌∙◌, subst, arith}
use Rattle.std.specs.Prelude.{slice_get, All}
use Rattle.std.proofs.lemmas.List.{length-map, map-append}
use Rattle.std.proofs.lemmas.Option.{slice_get-map, slice_get_within, slice_get-get_or, none-some, same_Some}
use Rattle.std.proofs.Math.Nat.{suc-mul, add-mul}
use Rattle.std.proofs.Math.Seq.{drop-append-add, take-append_seam}
use Rattle.wol_disk.specs.Disk.{Block, Values, State, IsDisk, reads}
use Rattle.wol_model.specs.Heads.{Shape, SegmentHead}
use Rattle.wol_model.specs.Images.{segment_of}
use Rattle.wol_bay.specs.Parts.{joined, blocks_of}
use Rattle.spin_model.specs.Spun.{state_of, disk_of}
use Rattle.spin_model.specs.declared.spun.Spun.{Spun}
use Rattle.log_layout.specs.Values.{segment_head}
use Rattle.log_layout.specs.declared.segment.SegHead.{SegHead}
use Rattle.logger_view.specs.Stored.{HasLabel, HasView, HasNoLabel, HasNoView, NamesItself, IsFirstFault}
use Rattle.logger_view.proofs.Callers.{label_in_front, view_in_front}
use Rattle.volume_images.specs.declared.parts.ImageParts.{ImageParts}
use Rattle.volume_images.specs.declared.reading.ImageFault.{ImageFault}
use Rattle.volume_images.specs.declared.reading.ImageFault.TheVariants as fault
use Rattle.volume_images.specs.Accepted.{HasHead, HasOwnLabel, HasOtherLabel, IsAccepted, IsImageFault}
use Rattle.volume_images.specs.Disks.{disks_of}
use Rattle.volume_images.specs.Heads.{SayHeads}
use Rattle.volume_images.specs.ImageParts.{ArePartsOf, MayOpen, MayNotOpen}

-- ---- Blocks in front of others

front_get : (bs rest : List Block) (k : ℕ) → k < length bs → slice_get (bs ++ rest) k ≡ slice_get bs k
front_get [] rest k lt = absurd (omega arith)
front_get (b ∷ bs) rest zero lt = refl
front_get (b ∷ bs) rest (suc k) lt = front_get bs rest k (omega (arith, lt))

module _ (bs rest : List Block) (two : length bs ≡ 2) where
  label_back : (id : ℕ) (s : Shape) → HasLabel (bs ++ rest) id s → HasLabel bs id s
  label_back id s l = record { block = l.block; first = sym (front_get bs rest 0 (omega (arith, two))) ∙ l.first; spelled = l.spelled }

  view_back : (ids : List ℕ) → HasView (bs ++ rest) ids → HasView bs ids
  view_back ids v = record { block = v.block; second = sym (front_get bs rest 1 (omega (arith, two))) ∙ v.second; spelled = v.spelled }

  pub own_in_front : (own : ℕ) (s : Shape) (ids : List ℕ) → HasOwnLabel own s bs ids → HasOwnLabel own s (bs ++ rest) ids
  own_in_front own s ids h = record { label = label_in_front bs rest own s h.label; view = view_in_front bs rest ids h.view; others = h.others }

  pub other_in_front : (own : ℕ) (s : Shape) → HasOtherLabel own s bs → HasOtherLabel own s (bs ++ rest)
  other_in_front own s h = record {
    id = h.id;
    shape = h.shape;
    ids = h.ids;
    label = label_in_front bs rest h.id h.shape h.label;
    view = view_in_front bs rest h.ids h.view;
    others = h.others;
    differs = h.differs;
  }

  pub fault_in_front : (own block : ℕ) → IsFirstFault own bs block → IsFirstFault own (bs ++ rest) block
  fault_in_front own block f =
      ⊎_elim
      (λ (first : (block ≡ 0) × HasNoLabel bs). inl (first.0, λ id s l. first.1 id s (label_back id s l)))
      (λ (second : (block ≡ 1) × ((id : ℕ) × (shape : Shape) × HasLabel bs id shape) × (HasNoView bs ⊎ NamesItself own bs)).
      inr (
        second.0,
        (second.1.0, second.1.1, label_in_front bs rest second.1.0 second.1.1 second.1.2),
        ⊎_elim (λ (none : HasNoView bs). inl (λ ids v. none ids (view_back ids v))) (λ (named : NamesItself own bs). inr (named.0, view_in_front bs rest named.0 named.1, named.2)) second.2,
      ))
      f

-- ---- Parts of a whole

-- what is told of blocks in a row is told of both
record AreBoth (a b : Option (List (Values Block))) (vs : List (Values Block)) : Type 0 where
  pub front : List (Values Block)
  pub back : List (Values Block)
  pub first : a ≡ Some front
  pub second : b ≡ Some back
  pub is : vs ≡ front ++ back

both_of : (a b : Option (List (Values Block))) (vs : List (Values Block)) → joined a b ≡ Some vs → AreBoth a b vs
both_of None b vs e = absurd (none-some vs e)
both_of (Some xs) None vs e = absurd (none-some vs e)
both_of (Some xs) (Some ys) vs e = record { front = xs; back = ys; first = refl; second = refl; is = sym (same_Some (xs ++ ys) vs e) }

reads_both : (xs ys : List (Values Block)) → reads (xs ++ ys) ≡ reads xs ++ reads ys
reads_both xs ys = map-append (λ (v : Values Block). v.now) xs ys

module _ {D : Type 0} (state : D → State) (sound : (d : D) → IsDisk (state d)) where
  told_length : (d : D) (vs : List (Values Block)) → (state d).values ≡ Some vs → length (reads vs) ≡ (state d).size
  told_length d vs e = length-map vs (λ (v : Values Block). v.now) ∙ (sound d).each_block vs e

  -- one segment of a row
  record IsInRow (blocks : ℕ) (segments : List (Spun D)) (row : List (Values Block)) (i : ℕ) (d : Spun D) : Type 0 where
    pub values : List (Values Block)
    pub told : (state_of state (get_or segments i d)).values ≡ Some values
    pub there : take blocks (drop (i * blocks) (reads row)) ≡ reads values

  in_row : (blocks : ℕ) (segments : List (Spun D)) (row : List (Values Block)) (i : ℕ) (d : Spun D) → All (λ (q : Spun D). (state_of state q).size ≡ blocks) segments
      → blocks_of state (map (λ (q : Spun D). disk_of q) segments) ≡ Some row → i < length segments → IsInRow blocks segments row i d
  in_row blocks [] row i d sizes e lt = absurd (omega arith)
  in_row blocks (q ∷ qs) row zero d sizes e lt =
      let both = both_of (state (disk_of q)).values (blocks_of state (map (λ (p : Spun D). disk_of p) qs)) row e in
      let long : length (reads both.front) ≡ blocks = told_length (disk_of q) both.front both.first ∙ sizes 0 d lt in
      let none : 0 * blocks ≡ 0 = omega arith in
      record {
        values = both.front;
        told = both.first;
        there = ap (λ (n : ℕ). take blocks (drop n (reads row))) none ∙ ap (λ (l : List (Values Block)). take blocks (reads l)) both.is ∙ ap (take blocks) (reads_both both.front both.back)
            ∙ ap (λ (n : ℕ). take n (reads both.front ++ reads both.back)) (sym long) ∙ take-append_seam (reads both.front) (reads both.back);
      }
  in_row blocks (q ∷ qs) row (suc i) d sizes e lt =
      let both = both_of (state (disk_of q)).values (blocks_of state (map (λ (p : Spun D). disk_of p) qs)) row e in
      let long : length (reads both.front) ≡ blocks = told_length (disk_of q) both.front both.first ∙ sizes 0 d (omega arith) in
      let more = in_row blocks qs both.back i d (λ k p below. sizes (suc k) p (omega (arith, below))) both.second (omega (arith, lt)) in
      let s = suc-mul i blocks in
      let at : suc i * blocks ≡ length (reads both.front) + i * blocks = omega (arith, s, long) in
      record {
        values = more.values;
        told = more.told;
        there = ap (λ (n : ℕ). take blocks (drop n (reads row))) at ∙ ap (λ (l : List (Values Block)). take blocks (drop (length (reads both.front) + i * blocks) (reads l))) both.is
            ∙ ap (λ (l : List Block). take blocks (drop (length (reads both.front) + i * blocks) l)) (reads_both both.front both.back)
            ∙ ap (take blocks) (drop-append-add (reads both.front) (reads both.back) (i * blocks)) ∙ more.there;
      }

  module _ (volume : ℕ) (s : Shape) (p : ImageParts D) (are : ArePartsOf state volume s p) (vs : List (Values Block)) (all : blocks_of state (disks_of p) ≡ Some vs) where
    abbrev behind : List D
    behind = disk_of p.home ∷ map (λ (q : Spun D). disk_of q) p.segments.items

    cut : AreBoth (state (disk_of p.label)).values (blocks_of state behind) vs
    cut = both_of (state (disk_of p.label)).values (blocks_of state behind) vs all

    cut_home : AreBoth (state (disk_of p.home)).values (blocks_of state (map (λ (q : Spun D). disk_of q) p.segments.items)) cut.back
    cut_home = both_of (state (disk_of p.home)).values (blocks_of state (map (λ (q : Spun D). disk_of q) p.segments.items)) cut.back cut.second

    -- the first part is in front
    whole_is : reads vs ≡ reads cut.front ++ reads cut.back
    whole_is = ap (λ (l : List (Values Block)). reads l) cut.is ∙ reads_both cut.front cut.back

    two : length (reads cut.front) ≡ 2
    two = told_length (disk_of p.label) cut.front cut.first ∙ are.label

    home_long : length (reads cut_home.front) ≡ s.home
    home_long = told_length (disk_of p.home) cut_home.front cut_home.first ∙ are.home

    behind_home : (k : ℕ) → drop (2 + s.home + k) (reads vs) ≡ drop k (reads cut_home.back)
    behind_home k =
        let e : 2 + s.home + k ≡ length (reads cut.front) + (length (reads cut_home.front) + k) = omega (arith, two, home_long) in
        ap (λ (l : List Block). drop (2 + s.home + k) l) whole_is
        ∙ ap (λ (n : ℕ). drop n (reads cut.front ++ reads cut.back)) e
        ∙ drop-append-add (reads cut.front) (reads cut.back) (length (reads cut_home.front) + k)
        ∙ ap (λ (l : List (Values Block)). drop (length (reads cut_home.front) + k) (reads l)) cut_home.is
        ∙ ap (λ (l : List Block). drop (length (reads cut_home.front) + k) l) (reads_both cut_home.front cut_home.back)
        ∙ drop-append-add (reads cut_home.front) (reads cut_home.back) k

    -- a segment of the whole is what its part reads as
    record IsSegmentPart (i : ℕ) (d : Spun D) : Type 0 where
      pub values : List (Values Block)
      pub told : (state_of state (get_or p.segments.items i d)).values ≡ Some values
      pub is : segment_of s (reads vs) i ≡ reads values

    segment_part : (i : ℕ) (d : Spun D) → i < s.segments → IsSegmentPart i d
    segment_part i d lt =
        let row = in_row s.segment_blocks p.segments.items cut_home.back i d are.segments cut_home.second (omega (arith, lt, are.count)) in
        let more = add-mul i 1 s.segment_blocks in
        let one : 1 * s.segment_blocks ≡ s.segment_blocks = omega arith in
        let size : 2 + s.home + (i + 1) * s.segment_blocks - (2 + s.home + i * s.segment_blocks) ≡ s.segment_blocks = omega (arith, more, one) in
        record {
          values = row.values;
          told = row.told;
          is = ap (λ (n : ℕ). take n (drop (2 + s.home + i * s.segment_blocks) (reads vs))) size ∙ ap (take s.segment_blocks) (behind_home (i * s.segment_blocks)) ∙ row.there;
        }

    -- ---- The whole image

    head_of_whole : (volumes i : ℕ) (heads : List SegHead) (n : ℕ) (g : SegHead) → i < n → n ≤ s.segments → SayHeads state volumes p.segments.items n heads → slice_get heads i ≡ Some g
        → HasHead volumes (segment_of s (reads vs) i) (segment_head g)
    head_of_whole volumes i heads n g lt few say at =
        let one = segment_part i p.label (omega (arith, lt, few)) in
        subst (λ (bs : List Block). HasHead volumes bs (segment_head g)) (sym one.is) (say.each i p.label one.values g lt one.told at)

    -- the segments before one of them have heads in the whole
    heads_before : (volumes index : ℕ) (heads : List SegHead) → index < s.segments → SayHeads state volumes p.segments.items index heads
        → (i : ℕ) → i < index → (h : SegmentHead) × HasHead volumes (segment_of s (reads vs) i) h
    heads_before volumes index heads index_in say i lt =
        let here : i < length heads = omega (arith, lt, say.count) in
        let g = get_or heads i (nothing heads here) in
        (segment_head g, head_of_whole volumes i heads index g lt (omega (arith, index_in)) say (slice_get-get_or heads i (nothing heads here) here))
      where
        nothing : {i : ℕ} (heads : List SegHead) → i < length heads → SegHead
        nothing [] lt = absurd (omega arith)
        nothing (g ∷ heads) lt = g

    pub accepted : (volumes own : ℕ) (ids : List ℕ) (heads : List SegHead) → MayOpen state volumes own s p ids heads → IsAccepted volumes own s (reads vs) ids (map segment_head heads)
    accepted volumes own ids heads may = record {
      named = subst (λ (bs : List Block). HasOwnLabel own s bs ids) (sym whole_is) (own_in_front (reads cut.front) (reads cut.back) two own s ids (may.label cut.front cut.first));
      count = length-map heads segment_head ∙ may.of_segments.count;
      each = λ i h at. each_head i h (slice_get heads i) refl (sym (slice_get-map segment_head heads i) ∙ at);
    }
      where
        each_head : (i : ℕ) (h : SegmentHead) (o : Option SegHead) → slice_get heads i ≡ o → option_map segment_head o ≡ Some h → HasHead volumes (segment_of s (reads vs) i) h
        each_head i h None at is = absurd (none-some h is)
        each_head i h (Some g) at is =
            let lt : i < length heads = slice_get_within heads i g at in
            subst (λ (k : SegmentHead). HasHead volumes (segment_of s (reads vs) i) k) (same_Some (segment_head g) h is)
            (head_of_whole volumes i heads s.segments g (omega (arith, lt, may.of_segments.count)) (omega arith) may.of_segments at)

    pub refused : (volumes own : ℕ) (new : ImageParts D) (f : ImageFault) → MayNotOpen state volumes own s p new f → IsImageFault volumes own s (reads vs) f
    refused volumes own new (fault.Damaged block) may =
        ⊎_elim
        (λ first. inl (subst (λ (bs : List Block). IsFirstFault own bs block) (sym whole_is) (fault_in_front (reads cut.front) (reads cut.back) two own block (first cut.front cut.first))))
        (λ behind.
        let label = behind.label cut.front cut.first in
        let d = behind.segment in
        let index_in : d.index < s.segments = omega (arith, d.within, are.count) in
        let at = segment_part d.index p.label index_in in
        inr (
          d.index,
          d.place,
          record {
            ids = label.0;
            named = subst (λ (bs : List Block). HasOwnLabel own s bs label.0) (sym whole_is) (own_in_front (reads cut.front) (reads cut.back) two own s label.0 label.1);
            within = index_in;
            before = heads_before volumes d.index d.heads index_in d.before;
            headless = λ h has. d.headless p.label at.values at.told h (subst (λ (bs : List Block). HasHead volumes bs h) at.is has);
          },
        ))
        may
    refused volumes own new fault.LabelDiffers may =
        subst (λ (bs : List Block). HasOtherLabel own s bs) (sym whole_is) (other_in_front (reads cut.front) (reads cut.back) two own s (may cut.front cut.first))
    refused volumes own new fault.LabelFault may = tt
    refused volumes own new (fault.SegmentFault index) may =
        let label = may.label cut.front cut.first in
        let index_in : index < s.segments = omega (arith, may.rose.0, are.count) in
        record {
          ids = label.0;
          named = subst (λ (bs : List Block). HasOwnLabel own s bs label.0) (sym whole_is) (own_in_front (reads cut.front) (reads cut.back) two own s label.0 label.1);
          within = index_in;
          before = heads_before volumes index may.heads index_in may.before;
        }
