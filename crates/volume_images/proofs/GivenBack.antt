-- An image that was read: what it says, and what is left of it in its bay.
use Rattle.std.proofs.Common.{◌≡◌, ◌≢◌, ⊎_elim, ℕ, zero, suc, ◌+◌, ◌<◌, List, [], ◌∷◌, ◌++◌, length, map, get_or, Option, None, Some, option_map, is_some, IfSome, Ok, refl, sym, ap, ◌∙◌, subst, arith}
use Rattle.std.specs.Prelude.{IsSome, Contains, sum, replicate}
use Rattle.std.proofs.lemmas.List.Sums.{sum_by-cons}
use Rattle.std.proofs.lemmas.List.Folds.{sum_by-replicate}
use Rattle.wol_disk.specs.Disk.{Block, Values, State, IsDisk, IsImage, IsImageOf, settled, reads}
use Rattle.wol_disk.proofs.Images.{settled_image}
use Rattle.wol_model.specs.Heads.{Shape}
use Rattle.wol_model.specs.Images.{image_size}
use Rattle.wol_bay.specs.Bay.{Name, Image, Told, BayState, AreNamedApart, at_name, sent_out, came_back}
use Rattle.wol_bay.specs.Parts.{joined, blocks_of, faulty_places}
use Rattle.wol_bay.specs.Refusals.{refusal, IsAnswered, blocks_at}
use Rattle.spin_model.specs.Spun.{state_of, disk_of}
use Rattle.spin_model.specs.declared.spun.Spun.{Spun}
use Rattle.volume_images.specs.declared.attach.OutParts.{OutParts}
use Rattle.volume_images.specs.declared.attach.OutImage.{OutImage}
use Rattle.volume_images.specs.declared.parts.ImageParts.{ImageParts}
use Rattle.volume_images.specs.declared.reading.ImageFault.{ImageFault}
use Rattle.volume_images.specs.declared.reading.ImageFault.TheVariants as fault
use Rattle.volume_images.specs.declared.opening.ImageRefusal.TheVariants.{Fault}
use Rattle.volume_images.specs.Accepted.{IsAccepted}
use Rattle.log_layout.specs.Values.{segment_head}
use Rattle.volume_images.specs.Disks.{disks_of}
use Rattle.volume_images.specs.Formatted.{part_sizes}
use Rattle.volume_images.specs.ImageParts.{IsReadImage, MayNotOpen}
use Rattle.volume_images.specs.Left.{IsTold}
use Rattle.volume_images.specs.Reads.{IsOnlyRead}
use Rattle.volume_images.specs.Refusals.{SaysSo, IsFaultAt, IsCallFault, GaveBack, Refuses}
use Rattle.volume_images.specs.Sent.{IsSentOut, IsOpenable, IsGivenBack}
use Rattle.volume_images.proofs.Bays.{came}
use Rattle.volume_images.proofs.ReadOut.{sent_parts}
use Rattle.volume_images.proofs.SentOut.{IsCutWhole, answered_ok, cut_whole}
use Rattle.volume_images.proofs.SettledParts.{cut_image, both_told, told_both, fault_found}
use Rattle.volume_images.proofs.Refused.{not_empty}
use Rattle.volume_images.proofs.Stored.{rose_above}
use Rattle.volume_images.proofs.WholeReads.{accepted, refused}

-- the parts of an image have all of its blocks
pub all_sizes : (s : Shape) → sum (part_sizes s) ≡ image_size s
all_sizes s =
    let one = sum_by-cons (λ x. x) 2 (s.home ∷ replicate s.segments s.segment_blocks) in
    let two = sum_by-cons (λ x. x) s.home (replicate s.segments s.segment_blocks) in
    let more = sum_by-replicate (λ x. x) s.segments s.segment_blocks in
    omega (arith, one, two, more)

-- ---- No new image

image_both : (vs ws : List (Values Block)) (c d : List Block) → IsImage vs c → IsImage ws d → IsImage (vs ++ ws) (c ++ d)
image_both [] ws [] d i j = j
image_both [] ws (x ∷ c) d i j = absurd i
image_both (v ∷ vs) ws [] d i j = absurd i
image_both (v ∷ vs) ws (x ∷ c) d i j = (i.0, image_both vs ws c d i.1 j)

pub joined_image : (a b : Option (List (Values Block))) (c d : List Block) → IsImageOf a c → IsImageOf b d → IsImageOf (joined a b) (c ++ d)
joined_image None b c d i j = absurd i
joined_image (Some vs) None c d i j = absurd j
joined_image (Some vs) (Some ws) c d i j = image_both vs ws c d i j

settled_of : (o : Option (List (Values Block))) (c : List Block) → IsImageOf (option_map settled o) c → IsImageOf o c
settled_of None c i = i
settled_of (Some vs) c i = settled_image vs c i

one_image : (old new : State) (c : List Block) → IsOnlyRead old new → IsImageOf new.values c → IsImageOf old.values c
one_image old new c read i =
    let P : Option (List (Values Block)) → Type 0 = λ o. IsImageOf o c in
    ⊎_elim (λ e. subst P e i) (λ e. settled_of old.values c (subst P e i)) read.values

one_told : (old new : State) → IsOnlyRead old new → IsSome old.values → IsSome new.values
one_told old new read told = ⊎_elim (λ e. ap is_some e ∙ told) (λ e. ap is_some e ∙ go old.values told) read.values
  where
    go : (o : Option (List (Values Block))) → IsSome o → IsSome (option_map settled o)
    go None t = t
    go (Some vs) t = refl

module _ {D : Type 0} (state : D → State) where
  abbrev disks : List (Spun D) → List D
  disks segments = map (λ (q : Spun D). disk_of q) segments

  row_images : (ys zs : List (Spun D)) (c : List Block) → length zs ≡ length ys → ((k : ℕ) (d : Spun D) → k < length ys → IsOnlyRead (state_of state (get_or ys k d)) (state_of state (get_or zs k d)))
      → IsImageOf (blocks_of state (disks zs)) c → IsImageOf (blocks_of state (disks ys)) c
  row_images [] [] c same each i = i
  row_images [] (z ∷ zs) c same each i = absurd (omega (arith, same))
  row_images (y ∷ ys) [] c same each i = absurd (omega (arith, same))
  row_images (y ∷ ys) (z ∷ zs) c same each i =
      let cut = cut_image (state (disk_of z)).values (blocks_of state (disks zs)) c i in
      let P : List Block → Type 0 = λ l. IsImageOf (joined (state (disk_of y)).values (blocks_of state (disks ys))) l in
      subst P (sym cut.is) (joined_image (state (disk_of y)).values (blocks_of state (disks ys)) cut.first cut.rest
      (one_image (state (disk_of y)) (state (disk_of z)) cut.first (each 0 y (omega arith)) cut.in_front)
      (row_images ys zs cut.rest (omega (arith, same)) (λ k d lt. each (suc k) d (omega (arith, lt))) cut.behind))

  row_told : (ys zs : List (Spun D)) → length zs ≡ length ys → ((k : ℕ) (d : Spun D) → k < length ys → IsOnlyRead (state_of state (get_or ys k d)) (state_of state (get_or zs k d)))
      → IsSome (blocks_of state (disks ys)) → IsSome (blocks_of state (disks zs))
  row_told [] [] same each told = told
  row_told [] (z ∷ zs) same each told = absurd (omega (arith, same))
  row_told (y ∷ ys) [] same each told = absurd (omega (arith, same))
  row_told (y ∷ ys) (z ∷ zs) same each told =
      let both = both_told (state (disk_of y)).values (blocks_of state (disks ys)) told in
      told_both (state (disk_of z)).values (blocks_of state (disks zs)) (one_told (state (disk_of y)) (state (disk_of z)) (each 0 y (omega arith)) both.0)
      (row_told ys zs (omega (arith, same)) (λ k d lt. each (suc k) d (omega (arith, lt))) both.1)

  -- an image that was read has no new image
  pub read_images : (old new : ImageParts D) (c : List Block) → IsReadImage state old new → IsImageOf (blocks_of state (disks_of new)) c → IsImageOf (blocks_of state (disks_of old)) c
  read_images old new c read i =
      let behind_new : Option (List (Values Block)) = blocks_of state (disk_of new.home ∷ disks new.segments.items) in
      let behind_old : Option (List (Values Block)) = blocks_of state (disk_of old.home ∷ disks old.segments.items) in
      let cut = cut_image (state (disk_of new.label)).values behind_new c i in
      let cut_home = cut_image (state (disk_of new.home)).values (blocks_of state (disks new.segments.items)) cut.rest cut.behind in
      let P : List Block → Type 0 = λ l. IsImageOf (joined (state (disk_of old.label)).values behind_old) l in
      let Q : List Block → Type 0 = λ l. IsImageOf behind_old l in
      let H : Spun D → Type 0 = λ q. IsImageOf (state (disk_of q)).values cut_home.first in
      subst P (sym cut.is) (joined_image (state (disk_of old.label)).values behind_old cut.first cut.rest
      (one_image (state (disk_of old.label)) (state (disk_of new.label)) cut.first read.label cut.in_front)
      (subst Q (sym cut_home.is) (joined_image (state (disk_of old.home)).values (blocks_of state (disks old.segments.items)) cut_home.first cut_home.rest (subst H read.home cut_home.in_front)
      (row_images old.segments.items new.segments.items cut_home.rest read.segments.count read.segments.each cut_home.behind))))

  -- and tells what it told
  pub read_told : (old new : ImageParts D) → IsReadImage state old new → IsSome (blocks_of state (disks_of old)) → IsSome (blocks_of state (disks_of new))
  read_told old new read told =
      let both = both_told (state (disk_of old.label)).values (blocks_of state (disk_of old.home ∷ disks old.segments.items)) told in
      let behind = both_told (state (disk_of old.home)).values (blocks_of state (disks old.segments.items)) both.1 in
      let H : Spun D → Type 0 = λ q. IsSome (state (disk_of q)).values in
      told_both (state (disk_of new.label)).values (blocks_of state (disk_of new.home ∷ disks new.segments.items)) (one_told (state (disk_of old.label)) (state (disk_of new.label)) read.label both.0)
      (told_both (state (disk_of new.home)).values (blocks_of state (disks new.segments.items)) (subst H (sym read.home) behind.0) (row_told old.segments.items new.segments.items read.segments.count read.segments.each behind.1))

  -- ---- Faults

  segment_disk : (segments : List (Spun D)) (k : ℕ) (d : Spun D) (e : D) → k < length segments → get_or (disks segments) k e ≡ disk_of (get_or segments k d)
  segment_disk [] k d e lt = absurd (omega arith)
  segment_disk (q ∷ qs) zero d e lt = refl
  segment_disk (q ∷ qs) (suc k) d e lt = segment_disk qs k d e (omega (arith, lt))

  fault_at : (volumes own : ℕ) (s : Shape) (old new : ImageParts D) (f : ImageFault) → IsReadImage state old new → MayNotOpen state volumes own s old new f → IsFaultAt f (faulty_places state (disks_of new))
  fault_at volumes own s old new (fault.Damaged block) read may = tt
  fault_at volumes own s old new fault.LabelDiffers read may = tt
  fault_at volumes own s old new fault.LabelFault read may =
      let rose : 0 < (state (disk_of new.label)).faults = rose_above (state_of state old.label).faults (state_of state new.label).faults may in
      fault_found state 0 (disks_of new) 0 (omega arith) (λ d. rose)
  fault_at volumes own s old new (fault.SegmentFault index) read may =
      let below : index < length new.segments.items = omega (arith, may.rose.0, read.segments.count) in
      let long = length_disks new.segments.items in
      let at : 2 + index ≡ suc (suc index) = omega arith in
      let rose : 0 < (state_of state (get_or new.segments.items index new.label)).faults = rose_above (state_of state (get_or old.segments.items index new.label)).faults (state_of state (get_or new.segments.items index new.label)).faults (may.rose.1 new.label) in
      let none : 0 + (2 + index) ≡ 2 + index = omega arith in
      subst (λ (x : ℕ). Contains (faulty_places state (disks_of new)) x) none
      (fault_found state 0 (disks_of new) (2 + index) (omega (arith, below, long))
      (λ d. subst (λ (k : ℕ). 0 < (state (get_or (disks_of new) k d)).faults) (sym at) (subst (λ (q : D). 0 < (state q).faults) (sym (segment_disk new.segments.items index new.label d below)) rose)))
    where
      length_disks : (segments : List (Spun D)) → length (disks segments) ≡ length segments
      length_disks [] = refl
      length_disks (q ∷ qs) = ap suc (length_disks qs)

  -- so the list of faulty parts isn't empty
  pub call_faults : (volumes own : ℕ) (s : Shape) (old new : ImageParts D) (f : ImageFault) → IsCallFault f → IsReadImage state old new → MayNotOpen state volumes own s old new f → faulty_places state (disks_of new) ≢ []
  call_faults volumes own s old new (fault.Damaged block) call read may = absurd call
  call_faults volumes own s old new fault.LabelDiffers call read may = absurd call
  call_faults volumes own s old new fault.LabelFault call read may = not_empty (faulty_places state (disks_of new)) 0 (fault_at volumes own s old new fault.LabelFault read may)
  call_faults volumes own s old new (fault.SegmentFault index) call read may = not_empty (faulty_places state (disks_of new)) (2 + index) (fault_at volumes own s old new (fault.SegmentFault index) read may)

  -- ---- In the bay

  module _ (sound : (d : D) → IsDisk (state d)) (volumes own : ℕ) (s : Shape) (name : Name) (out : OutParts D) where
    whole_of : (t : Told) → IsSentOut state own s (blocks_at name (Some t)) out → IsAnswered (refusal name (part_sizes s) t) (Ok out) → IsCutWhole state sound (part_sizes s) (at_name name t.images) (disks_of out.image)
    whole_of t sent answered = cut_whole state sound (part_sizes s) (at_name name t.images) (disks_of out.image) (answered_ok (part_sizes s) (at_name name t.images) out answered) sent.cut

    -- what may be opened says so
    pub says_so : (told : Option Told) (image : OutImage D) → IsSentOut state own s (blocks_at name told) out → IfSome told (λ t. IsAnswered (refusal name (part_sizes s) t) (Ok out)) → IsOpenable state volumes own s out.image image
        → IfSome told (SaysSo volumes own s name image)
    says_so None image sent answered may = tt
    says_so (Some t) image sent answered may =
        let whole = whole_of t sent answered in
        record { image = whole.image; there = whole.there; rest = whole.rest; size = whole.count ∙ all_sizes s; accepted = accepted state sound own s out.image (sent_parts state sound own s (blocks_at name (Some t)) out sent) whole.image.blocks whole.blocks volumes own image.view image.heads.items may.may }

    -- what is refused is there as it was
    pub gave_back : (old mid new : BayState) (f : ImageFault) → IfSome old.told (λ t. AreNamedApart t) → IsSentOut state own s (blocks_at name old.told) out → IfSome old.told (λ t. IsAnswered (refusal name (part_sizes s) t) (Ok out))
        → mid.told ≡ option_map (sent_out name (part_sizes s)) old.told → IsGivenBack state volumes own s name out.image mid new f → IsTold (Refuses volumes own s name (Fault f)) old.told new.told
    gave_back old mid new f apart sent answered went given = go old.told apart sent answered (given.back ∙ ap (option_map (came_back name blocks places)) went)
      where
        blocks : Option (List (Values Block))
        blocks = blocks_of state (disks_of given.after)

        places : List ℕ
        places = faulty_places state (disks_of given.after)

        there : (t : Told) → IsSentOut state own s (blocks_at name (Some t)) out → IsAnswered (refusal name (part_sizes s) t) (Ok out) → (o : Option (List (Values Block))) → blocks ≡ o → IsSome o → AreNamedApart t
            → GaveBack volumes own s name f t (came_back name o places (sent_out name (part_sizes s) t))
        there t sent answered None e told apart = absurd (cc told)
        there t sent answered (Some ws) e told apart =
            let whole = whole_of t sent answered in
            let I : Option (List (Values Block)) → List Block → Type 0 = λ o c. IsImageOf o c in
            record {
              before = whole.image;
              there = whole.there;
              complete = whole.rest;
              size = whole.count ∙ all_sizes s;
              refused = refused state sound own s out.image (sent_parts state sound own s (blocks_at name (Some t)) out sent) whole.image.blocks whole.blocks volumes own given.after f given.refused;
              after = record { blocks = ws; rest = [] };
              places = places;
              back = came name (part_sizes s) places ws t apart;
              rest = sym whole.rest;
              images = λ c i. subst (λ (o : Option (List (Values Block))). I o c) whole.blocks (read_images out.image given.after c given.read (subst (λ (o : Option (List (Values Block))). I o c) (sym e) i));
              fault = fault_at volumes own s out.image given.after f given.read given.refused;
            }

        go : (told : Option Told) → IfSome told (λ t. AreNamedApart t) → IsSentOut state own s (blocks_at name told) out → IfSome told (λ t. IsAnswered (refusal name (part_sizes s) t) (Ok out))
            → new.told ≡ option_map (came_back name blocks places) (option_map (sent_out name (part_sizes s)) told) → IsTold (Refuses volumes own s name (Fault f)) told new.told
        go None apart sent answered e = e
        go (Some t) apart sent answered e =
            let whole = whole_of t sent answered in
            let P : Option Told → Type 0 = λ o. IsTold (Refuses volumes own s name (Fault f)) (Some t) o in
            let told : IsSome blocks = read_told out.image given.after given.read (ap is_some whole.blocks) in
            subst P (sym e) (there t sent answered blocks refl told apart)
