-- The next image is taken out, or refused; and what a bay tells while images go out of it in order, and when they go back at once.
use Rattle.rack.proofs.Basics.{◌≡◌, ◌≢◌, ℕ, zero, suc, ◌+◌, ◌<◌, ◌≤◌, Bool, true, false, cond, List, [], ◌∷◌, ◌++◌, length, Option, None, Some, option_map, IfSome, Result, Ok, Err, IfOk}
use Rattle.rack.proofs.Basics.{IfErr, refl, sym, ap, ◌∙◌, subst, arith, append_assoc, ◌⊎◌, inl, inr, ⊎_elim, ◌-◌, ◌*◌, map, take, drop, get_or, slice_get, is_some, All, slice_range, IsTrue}
use Rattle.rack.proofs.Basics.{none-some, same_Some, slice_get-map, suc-mul, take_all, length-map, get_or-map, get_or_past, set, vec_capacity, append-nil, with_item, cases_eq, length-set}
use Rattle.rack.proofs.Basics.{get_or-set_same, get_or-set_other, All-set, Contains, IsErrOf, Global, Vec, IsSome}
use Rattle.rack.proofs.Terms.{State, Block, Values, TellsContent, IsImage, IsImageOf, Name, Image, Told, BayState, at_name, outs, sent_out, IsHome, IsOut, IsValid, Config, VolumeConf}
use Rattle.rack.proofs.Terms.{part_sizes, IsTold, shape_in, MayLeave, NoneOut, shapes_of, image_here, IsImageOut, out_names, StayedAs, StayedSo, HasSentOut, IsBackAtOnce, IsNextOpened}
use Rattle.rack.proofs.Terms.{IsNextRefused, AreCutOf, AreAsked, HasAllBack, LeavesNoMore, image_by, Said, VolumeFault, ImageRest, image_reads, Shape, image_size, blocks_of, state_of}
use Rattle.rack.proofs.Terms.{disk_of, Spun, IsComplete, GivesBack, LeavesNoneOut, IsTogether, KeepsOthers, pass_lock, pass_number, pass_seen, pass_mine, IsPassOf, IsFree, IsSamePass}
use Rattle.rack.proofs.Terms.{PassOf, Entry, has_token, operation_of, AreAccesses, Spindle, SpindleBase, IsInOrder, AreSettled, AreSpindlesOf, IsSpindleLock, segment_here, IsPart}
use Rattle.rack.proofs.Terms.{IsImageRest, Issued, IsDisk, reads, Rose, each_place, AreCut, blocks_at, refusal, segment_head, SegHead, volume_of, HasHead, IsAccepted, head_place}
use Rattle.rack.proofs.Terms.{IsImageFault, IsCutOpenable, SaysSo, GaveBack, IsCallFault, IsFaultAt, IsAsRead, fault_in_image, fault_of_image, HasFaulty, IsFaultAmong, HasNewFault}
use Rattle.rack.proofs.Terms.{RefusesVolume, RefusesImage, IsSaidOf, HaveHeads, IsCutOf, WasAtEntry, IsLaidOut, BayFault, Absent, WrongLength, BayFailed}
use Rattle.std.specs.Str.{bytes_eq}
use Rattle.std.proofs.lemmas.Slice.Eq.{bytes_eq-Decides}
use Rattle.wol_bay.proofs.NamedApart.{other_gone}
use Rattle.wol_bay.proofs.OneImage.{all_told}
use Rattle.volume_images.proofs.SettledParts.{cut_image}
use Rattle.rack.specs.declared.images.Images.{Images}
use Rattle.rack.proofs.Places.{still_there, at_less, at_new, some_at, both_slices}
use Rattle.rack.proofs.Asking.{SameAt, told_then}
use Rattle.rack.proofs.CutParts.{reads_range, cut_reads, cut_had, cut_synced, cut_at}
use Rattle.rack.proofs.Names.{cases_name, names_differ}
use Rattle.rack.proofs.NewFaults.{told_each}
use Rattle.rack_parts.proofs.Members.{here_within, in_map, element_at}
use Rattle.rack_parts.proofs.GivenBack.{none_names}
use Rattle.wol_model.specs.Journal.{Needed, Done}
use Rattle.volume_images.specs.Disks.{disks_of}
use Rattle.volume_images.specs.ImageParts.{ArePartsOf}
use Rattle.volume_images.specs.Reads.{IsOnlyRead}
use Rattle.volume_images.specs.Refusals.{Refuses}
use Rattle.volume_images.specs.declared.attach.OutImage.{OutImage}
use Rattle.volume_images.proofs.HeadSteps.{only_same}
use Rattle.volume_images.proofs.ReadOut.{parts_of, read_parts}
use Rattle.volume_images.proofs.SentOut.{cut_sizes}
use Rattle.volume_images.specs.declared.opening.ImageRefusal.{ImageRefusal}
use Rattle.volume_images.specs.declared.reading.ImageFault.{ImageFault}
use Rattle.wol_bay.specs.declared.fault.BayFault.TheVariants as bay
use Rattle.volume_images.specs.declared.opening.ImageRefusal.TheVariants as refusal
use Rattle.volume_images.specs.declared.reading.ImageFault.TheVariants as fault

-- ---- A pass of a spindle that was used among those of its lock

-- a pass made no turn, or two of an access
abbrev pub Uses : (p q : PassOf Spindle SpindleBase) → Type 0
Uses p q = (pass_mine q ≡ pass_mine p) ⊎ (pass_mine q ≡ pass_mine p ++ (pass_number p, operation_of Needed) ∷ (pass_number p, operation_of Done) ∷ [])

more_accesses : (n : ℕ) (es : List Entry) → AreAccesses es → AreAccesses (es ++ (n, operation_of Needed) ∷ (n, operation_of Done) ∷ [])
more_accesses n [] all = (inl refl, (inr refl, tt))
more_accesses n (e ∷ es) all = (all.0, more_accesses n es all.1)

still_accesses : (p q : PassOf Spindle SpindleBase) → AreAccesses (pass_mine p) → Uses p q → AreAccesses (pass_mine q)
still_accesses p q all uses = ⊎_elim (λ (e : pass_mine q ≡ pass_mine p). subst AreAccesses (sym e) all) (λ (e : pass_mine q ≡ pass_mine p ++ (pass_number p, operation_of Needed) ∷ (pass_number p, operation_of Done) ∷ []). subst AreAccesses (sym e) (more_accesses (pass_number p) (pass_mine p) all)) uses

-- what holds of each element by its place, once the one at n is another
set_places : {X : Type 0} (P : ℕ → X → Type 0) (xs : List X) (n : ℕ) (y : X) → n < length xs → P n y → ((k : ℕ) (d : X) → k < length xs → P k (get_or xs k d)) → (k : ℕ) (d : X) → k < length (set xs n y) → P k (get_or (set xs n y) k d)
set_places P xs n y lt now each k d within = ⊎_elim
    (λ (e : k ≡ n). subst (λ (j : ℕ). P j (get_or (set xs n y) j d)) (sym e) (subst (P n) (sym (get_or-set_same xs n y d lt)) now))
    (λ (other : k ≡ n → ⊥). subst (P k) (sym (get_or-set_other xs n k y d other)) (each k d (omega (arith, within, length-set xs n y))))
    (cases_eq k n)

pub used_pass : (i : Issued Spindle SpindleBase) (n : ℕ) (p q : PassOf Spindle SpindleBase) → p ≡ get_or i.passes.items n p → IsSamePass p q → IsFree q → has_token (pass_mine q) ≡ false
    → n + 1 < length i.passes.items → Uses p q → IsInOrder i × AreSettled n i → IsInOrder (record i { passes = with_item i.passes n q }) × AreSettled n (record i { passes = with_item i.passes n q })
used_pass i n p q is same free settled below uses old = let lt : n < length i.passes.items = omega (arith, below) in (
  record {
    whole = record {
      count = length-set i.passes.items n q ∙ old.0.whole.count;
      each = All-set (λ x. IsPassOf i.lock x × IsFree x) i.passes.items n q (same.0 ∙ ap (λ x. pass_lock x) is ∙ (old.0.whole.each n p lt).0, free) old.0.whole.each;
    };
    numbered = set_places (λ k x. pass_number x ≡ k) i.passes.items n q lt (same.1 ∙ ap (λ x. pass_number x) is ∙ old.0.numbered n p lt) old.0.numbered;
  },
  record {
    settled = All-set (λ x. has_token (pass_mine x) ≡ false) i.passes.items n q settled old.1.settled;
    accesses = All-set (λ x. AreAccesses (pass_mine x)) i.passes.items n q (still_accesses p q (subst (λ x. AreAccesses (pass_mine x)) (sym is) (old.1.accesses n p lt)) uses) old.1.accesses;
    others = λ k d other within. ap (λ x. pass_mine x) (get_or-set_other i.passes.items n k q d other) ∙ old.1.others k d other (omega (arith, within, length-set i.passes.items n q));
    last = λ k d count.
        let size = length-set i.passes.items n q in
        subst (λ x. (pass_seen x ≡ []) × (pass_mine x ≡ [])) (sym (get_or-set_other i.passes.items n k q d (λ e. omega (arith, e, below, count, size)))) (old.1.last k d (omega (arith, count, size)));
  },
)

-- one of the spindles was used
pub used_spindle : (volumes timeout : ℕ) (xs : List (Issued Spindle SpindleBase)) (i : ℕ) (x y : Issued Spindle SpindleBase) → AreSpindlesOf volumes timeout xs → i < length xs → y.lock ≡ (get_or xs i x).lock → IsInOrder y × AreSettled i y
    → AreSpindlesOf volumes timeout (set xs i y)
used_spindle volumes timeout xs i x y old lt lock ok = record {
  each = All-set (λ z. IsInOrder z) xs i y ok.0 old.each;
  spindles = set_places (λ k z. IsSpindleLock volumes k timeout z.lock) xs i y lt (subst (λ l. IsSpindleLock volumes i timeout l) (sym lock) (old.spindles i x lt)) old.spindles;
  settled = set_places (λ k z. AreSettled k z) xs i y lt ok.1 old.settled;
}

-- ---- An image that was just taken out: its parts, and what they say

module _ {D : Type 0} (state : D → State) (sound : (d : D) → IsDisk (state d)) (volumes k : ℕ) (s : Shape) (blocks : Option (List (Values Block))) (o : OutImage D) (cut : IsCutOpenable state volumes k s blocks o) where
  sized_before : ArePartsOf state k s cut.before
  sized_before =
      let of = cut.openable.of_volume in
      let read = cut.openable.read in
      parts_of state k s cut.before (cut_sizes state sound blocks (part_sizes s) (disks_of cut.before) cut.cut)
      (record {
        label = sym read.label_volume ∙ of.label;
        home = sym (ap (λ (q : Spun D). volume_of q) read.home) ∙ of.home;
        segments = λ i d lt. sym (read.segments.volume i d lt) ∙ of.segments i d (omega (arith, lt, read.segments.count));
      })

  pub sized : ArePartsOf state k s o.parts.image
  sized = read_parts state k s cut.before o.parts.image sized_before cut.openable.read

module _ {D : Type 0} (state : D → State) (sound : (d : D) → IsDisk (state d)) (volumes k : ℕ) (s : Shape) (blocks : Option (List (Values Block))) (o : OutImage D) (said : Said) (r : ImageRest D)
    (cut : IsCutOpenable state volumes k s blocks o) (laid : IsLaidOut o said r) where
  abbrev row : List (Spun D)
  row = o.parts.image.segments.items

  are : ArePartsOf state k s o.parts.image
  are = sized state sound volumes k s blocks o cut

  -- a segment that is here is that of the row
  laid_at : (i : ℕ) (p : Spun D) → segment_here r i ≡ Some p → (i < length row) × (get_or row i p ≡ p)
  laid_at i p here =
      let at : get_or (map (λ (q : Spun D). Some q) row) i None ≡ Some p = sym (ap (λ (l : List (Option (Spun D))). get_or l i None) laid.segments) ∙ here in
      let lt : i < length row = let l = here_within (map (λ (q : Spun D). Some q) row) i p at in omega (arith, l, length-map row (λ (q : Spun D). Some q)) in
      (lt, same_Some (get_or row i p) p (sym (get_or-map (λ (q : Spun D). Some q) row i p None lt) ∙ at))

  laid_count : length r.segments.items ≡ length row
  laid_count = ap (λ (l : List (Option (Spun D))). length l) laid.segments ∙ length-map row (λ (q : Spun D). Some q)

  -- the parts that are here, with their room
  pub next_rest : IsImageRest state k s r
  next_rest = record {
    label = subst (λ (q : Spun D). IsPart state k 2 q) (sym laid.label) (record { of_volume = are.of_volume.label; sized = are.label });
    home = subst (λ (h : Option (Spun D)). IfSome h (IsPart state k s.home)) (sym laid.home) (record { of_volume = are.of_volume.home; sized = are.home });
    count = laid_count ∙ are.count;
    segments = λ i p here.
        let at = laid_at i p here in
        subst (λ (q : Spun D). IsPart state k s.segment_blocks q) at.1 (record { of_volume = are.of_volume.segments i p at.0; sized = are.segments i p at.0 });
    row = (laid.row.0, omega (arith, laid.row.1, are.count));
    room = subst (λ (room : Vec D Global). (room.items ≡ []) × (2 + s.segments ≤ vec_capacity room)) (sym laid.room) (cut.openable.empty, cut.openable.room);
  }

  pub next_all : IsComplete r
  next_all = record {
    home = ap is_some laid.home;
    segments = λ i lt.
        let within : i < length row = omega (arith, lt, laid_count) in
        let q = (element_at row i within).0 in
        ap (λ (l : List (Option (Spun D))). is_some (get_or l i None)) laid.segments ∙ ap is_some (get_or-map (λ (q : Spun D). Some q) row i q None within);
  }

  pub next_says : IsSaidOf volumes k s said
  next_says = record {
    others = subst (λ (ids : List ℕ). Contains ids k → ⊥) (sym laid.view) cut.openable.may.others;
    count = ap (λ (hs : Vec SegHead Global). length hs.items) laid.heads ∙ cut.openable.may.of_segments.count;
    configured = λ i h at. cut.openable.may.of_segments.configured i h (sym (ap (λ (hs : Vec SegHead Global). slice_get hs.items i) laid.heads) ∙ at);
  }

  pub next_heads : HaveHeads state volumes said r
  next_heads = λ i p h here said_is.
      let at = laid_at i p here in
      subst (λ (q : Spun D). (c : List Block) → IsImageOf (state_of state q).values c → HasHead volumes c (segment_head h)) at.1
      (cut.openable.always i p h at.0 (sym (ap (λ (hs : Vec SegHead Global). slice_get hs.items i) laid.heads) ∙ said_is))

  -- its parts are cut from the image at entry
  module _ (image : Image) (blocks_are : blocks ≡ Some image.blocks) where
    at_entry : (a b : ℕ) (old new : Spun D) → IsOnlyRead (state_of state old) (state_of state new) → (state_of state old).values ≡ Some (slice_range image.blocks a b) → IsCutOf state image a b new
    at_entry a b old new read told = record {
      reads_as = cut_reads (state_of state old) (state_of state new) image.blocks a b read told;
      had = cut_had (state_of state old) (state_of state new) image.blocks a b read told;
    }

    pub next_cut : AreCutOf state s image r
    next_cut =
        let at = cut_at state image.blocks s cut.before (subst (λ (bs : Option (List (Values Block))). AreCut state bs (part_sizes s) (disks_of cut.before)) blocks_are cut.cut) in
        let read = cut.openable.read in
        record {
          label = subst (λ (q : Spun D). IsAsRead state image 0 2 q) (sym laid.label) (cut_synced (state_of state cut.before.label) (state_of state o.parts.image.label) image.blocks 0 2 cut.openable.synced at.label);
          home = λ p here.
              let is : o.parts.image.home ≡ p = same_Some o.parts.image.home p (sym laid.home ∙ here) in
              subst (λ (q : Spun D). IsCutOf state image 2 (2 + s.home) q) (sym read.home ∙ is)
              (at_entry 2 (2 + s.home) cut.before.home cut.before.home (only_same (state_of state cut.before.home) (sound _)) at.home);
          segments = λ j p here.
              let there = laid_at j p here in
              let below : j < length cut.before.segments.items = omega (arith, there.0, read.segments.count) in
              subst (λ (q : Spun D). IsCutOf state image (head_place s j) (head_place s (j + 1)) q) there.1
              (at_entry (head_place s j) (head_place s (j + 1)) (get_or cut.before.segments.items j p) (get_or row j p) (read.segments.each j p below)
              (at.segments j p (omega (arith, below, (sized_before state sound volumes k s blocks o cut).count))));
        }

-- the image of a volume was there at entry
pub next_entry : {D : Type 0} (state : D → State) → ((d : D) → IsDisk (state d)) → (config : Config) (t : Told) (k : ℕ) (v : VolumeConf) (told : Option Told) (o : OutImage D) (said : Said) (r : ImageRest D) → told ≡ Some t
    → IsCutOpenable state (length (shapes_of config)) k (shape_in config v) (blocks_at v.name told) o → IsLaidOut o said r → IfSome told (SaysSo (length (shapes_of config)) k (shape_in config v) v.name o)
    → WasAtEntry state config t k v said r
next_entry state sound config t k v told o said r is cut laid says =
    let so : SaysSo (length (shapes_of config)) k (shape_in config v) v.name o t = subst (λ (x : Option Told). IfSome x (SaysSo (length (shapes_of config)) k (shape_in config v) v.name o)) is says in
    let blocks : blocks_at v.name told ≡ Some so.image.blocks = ap (λ (x : Option Told). blocks_at v.name x) is ∙ ap (λ (i : Option Image). option_map (λ (j : Image). j.blocks) i) so.there in
    record {
      image = so.image;
      there = so.there;
      says = record {
        whole = so.rest;
        size = so.size;
        accepted = subst (λ (hs : Vec SegHead Global). IsAccepted (length (shapes_of config)) k (shape_in config v) (reads so.image.blocks) said.view (map segment_head hs.items)) (sym laid.heads)
            (subst (λ (ids : List ℕ). IsAccepted (length (shapes_of config)) k (shape_in config v) (reads so.image.blocks) ids (map segment_head o.heads.items)) (sym laid.view) so.accepted);
      };
      cut = next_cut state sound (length (shapes_of config)) k (shape_in config v) (blocks_at v.name told) o said r cut laid so.image blocks;
    }

-- ---- An image that was refused, and is in its bay

-- no further part came back with a fault
pub no_more : (t : Told) → HasFaulty t t
no_more t = ([], sym (append-nil t.faulty))

module _ {D : Type 0} (tells : Bool) (state : D → State) (config : Config) (b b' : BayState) (k : ℕ) (v : VolumeConf) where
  abbrev volumes : ℕ
  volumes = length (shapes_of config)

  abbrev shape : Shape
  shape = shape_in config v

  bay_answer : (answer : Option BayFault) (o o' : Option Told) → IsTold (λ old new. (refusal v.name (part_sizes shape) old ≡ answer) × (new ≡ old)) o o' → IfSome o (λ t. refusal v.name (part_sizes shape) t ≡ answer)
  bay_answer answer None o' h = tt
  bay_answer answer (Some t) None h = absurd h
  bay_answer answer (Some t) (Some t') h = h.0

  gave : (f : ImageFault) (t : Told) (o o' : Option Told) → IsTold (GaveBack volumes k shape v.name f) o o' → o ≡ Some t
      → (i : Image) × (at_name v.name t.images ≡ Some i) × (i.rest ≡ []) × (length i.blocks ≡ image_size shape) × IsImageFault volumes k shape (reads i.blocks) f
  gave f t None o' h is = absurd (cc is)
  gave f t (Some u) None h is = absurd h
  gave f t (Some u) (Some u') h is =
      let same : u ≡ t = cc in
      (h.before, sym (ap (λ (x : Told). at_name v.name x.images) same) ∙ h.there, h.complete, h.size, h.refused)

  among_places : (f : ImageFault) (places : List ℕ) → IsFaultAt f places → IsFaultAmong v.name f (each_place v.name places)
  among_places (fault.Damaged block) places is = tt
  among_places fault.LabelDiffers places is = tt
  among_places fault.LabelFault places is = in_map (λ (place : ℕ). (v.name, place)) places 0 is
  among_places (fault.SegmentFault index) places is = in_map (λ (place : ℕ). (v.name, place)) places (2 + index) is

  of_image : (f : ImageFault) → IsTold (GaveBack volumes k shape v.name f) b.told b'.told → (IsCallFault f → Rose b.faults b'.faults) → RefusesImage {D = D} config [] b b' k v (fault_in_image k f)
  of_image f h cause = record {
    not_out = refl;
    image_fault = f;
    is_fault = refl;
    said = λ t told. gave f t b.told b'.told h told;
    cause = cause;
    faulty = λ call. told_each (GaveBack volumes k shape v.name f) (HasNewFault v.name f) b.told b'.told
        (λ x y g. record { more = each_place v.name g.places; more_is = g.back.faulty; among = among_places f g.places g.fault }) h;
  }

  by_fault : (f : ImageFault) → RefusesImage {D = D} config [] b b' k v (fault_in_image k f) → RefusesVolume {D = D} tells state config [] b b' k v (fault_in_image k f)
  by_fault (fault.Damaged block) r = inl r
  by_fault fault.LabelDiffers r = inl r
  by_fault fault.LabelFault r = r
  by_fault (fault.SegmentFault index) r = inl r

  -- why the volume is refused
  pub next_refuses : {T : Type 0} (r : ImageRefusal) (f : VolumeFault) → fault_of_image k r ≡ Some f → IsTold (Refuses volumes k shape v.name r) b.told b'.told
      → (IsErrOf {T = T} (Err r) refusal.BayFailed → Rose b.faults b'.faults) → ((g : ImageFault) → IsErrOf {T = T} (Err r) (refusal.Fault g) → IsCallFault g → Rose b.faults b'.faults)
      → RefusesVolume {D = D} tells state config [] b b' k v f
  next_refuses refusal.Absent f is h bay_cause part_cause = let e : Absent ≡ f = cc in subst (λ (x : VolumeFault). RefusesVolume {D = D} tells state config [] b b' k v x) e (refl, bay_answer (Some bay.Absent) b.told b'.told h)
  next_refuses (refusal.WrongLength bytes) f is h bay_cause part_cause =
      let e : WrongLength bytes ≡ f = cc in subst (λ (x : VolumeFault). RefusesVolume {D = D} tells state config [] b b' k v x) e (refl, bay_answer (Some (bay.WrongLength bytes)) b.told b'.told h)
  next_refuses refusal.BayFailed f is h bay_cause part_cause =
      let e : BayFailed ≡ f = cc in subst (λ (x : VolumeFault). RefusesVolume {D = D} tells state config [] b b' k v x) e ((refl, bay_answer None b.told b'.told h), bay_cause refl)
  next_refuses (refusal.Fault g) f is h bay_cause part_cause =
      let e : fault_in_image k g ≡ f = cc in
      subst (λ (x : VolumeFault). RefusesVolume {D = D} tells state config [] b b' k v x) e (by_fault g (of_image g h (part_cause g refl)))
  next_refuses refusal.NoMemory f is h bay_cause part_cause = absurd (cc is)

  may_less : (before after : Image) → after.rest ≡ before.rest → ((c : List Block) → IsImage after.blocks c → IsImage before.blocks c) → (c : Option (List Block)) → MayLeave (Some after) c → MayLeave (Some before) c
  may_less before after rest images None may = λ none. may (rest ∙ none)
  may_less before after rest images (Some c) may = (sym rest ∙ may.0, images c may.1)

  all_stayed : (t t' : Told) → t' ≡ t → StayedAs v.name t t'
  all_stayed t t' same = subst (λ (x : Told). StayedAs v.name t x) (sym same) (record { here = λ c may. may; others = λ other differs. refl; faulty = no_more t })

  stayed : (r : ImageRefusal) (t t' : Told) → Refuses volumes k shape v.name r t t' → StayedAs v.name t t'
  stayed refusal.Absent t t' h = all_stayed t t' h.1
  stayed (refusal.WrongLength bytes) t t' h = all_stayed t t' h.1
  stayed refusal.BayFailed t t' h = all_stayed t t' h.1
  stayed (refusal.Fault f) t t' h = record {
    here = λ c may.
        let now : MayLeave (Some h.after) c = subst (λ (i : Option Image). MayLeave i c) h.back.here may in
        subst (λ (i : Option Image). MayLeave i c) (sym h.there) (may_less h.before h.after h.rest h.images c now);
    others = h.back.others;
    faulty = (each_place v.name h.places, h.back.faulty);
  }
  stayed refusal.NoMemory t t' h = all_stayed t t' h

  pub next_stayed : (r : ImageRefusal) (o o' : Option Told) → IsTold (Refuses volumes k shape v.name r) o o' → IsTold (StayedAs v.name) o o'
  next_stayed r o o' = told_each (Refuses volumes k shape v.name r) (StayedAs v.name) o o' (stayed r)

-- where there is no memory all is as it was
pub back_at_once : (volumes own k : ℕ) (s : Shape) (name : Name) (r : ImageRefusal) (o o' : Option Told) → fault_of_image k r ≡ None → IsTold (Refuses volumes own s name r) o o' → IsTold (λ old new. new ≡ old) o o'
back_at_once volumes own k s name refusal.Absent o o' is h = absurd (cc is)
back_at_once volumes own k s name (refusal.WrongLength bytes) o o' is h = absurd (cc is)
back_at_once volumes own k s name refusal.BayFailed o o' is h = absurd (cc is)
back_at_once volumes own k s name (refusal.Fault f) o o' is h = absurd (cc is)
back_at_once volumes own k s name refusal.NoMemory o o' is h = h

pub untouched : (o : Option Told) → IsTold (λ old new. new ≡ old) o o
untouched None = refl
untouched (Some t) = refl

-- ---- What a bay tells while images go out of it in order

-- where the same images are out their names are the same
pub names_alike : {D : Type 0} (config : Config) (vs : List VolumeConf) (xs ys : List (Option (ImageRest D))) → ((k : ℕ) → is_some (image_here xs k) ≡ is_some (image_here ys k)) → out_names config vs xs ≡ out_names config vs ys
names_alike config [] xs ys same = refl
names_alike config (v ∷ vs) [] [] same = refl
names_alike {D} config (v ∷ vs) [] (None ∷ ys) same = sym (none_names D config vs) ∙ names_alike config vs [] ys (λ k. same (suc k))
names_alike config (v ∷ vs) [] (Some y ∷ ys) same = absurd (let e = same 0 in cc (e))
names_alike {D} config (v ∷ vs) (None ∷ xs) [] same = names_alike config vs xs [] (λ k. same (suc k)) ∙ none_names D config vs
names_alike config (v ∷ vs) (Some x ∷ xs) [] same = absurd (let e = same 0 in cc (e))
names_alike config (v ∷ vs) (None ∷ xs) (None ∷ ys) same = names_alike config vs xs ys (λ k. same (suc k))
names_alike config (v ∷ vs) (None ∷ xs) (Some y ∷ ys) same = absurd (let e = same 0 in cc (e))
names_alike config (v ∷ vs) (Some x ∷ xs) (None ∷ ys) same = absurd (let e = same 0 in cc (e))
names_alike config (v ∷ vs) (Some x ∷ xs) (Some y ∷ ys) same = ap (λ (l : List (Name × List ℕ)). (v.name, part_sizes (shape_in config v)) ∷ l) (names_alike config vs xs ys (λ k. same (suc k)))

outs_more : (names : List (Name × List ℕ)) (name : Name) (sizes : List ℕ) (o o1 o2 : Option Told) → option_map (λ t. t.out) o1 ≡ option_map (λ os. os ++ names) (option_map (λ t. t.out) o) → o2 ≡ option_map (sent_out name sizes) o1
    → option_map (λ t. t.out) o2 ≡ option_map (λ os. os ++ (names ++ (name, sizes) ∷ [])) (option_map (λ t. t.out) o)
outs_more names name sizes o o1 o2 so_far sent = ap (option_map (λ t. t.out)) sent ∙ one o1 ∙ ap (option_map (λ os. os ++ (name, sizes) ∷ [])) so_far ∙ both o
  where
    one : (o1 : Option Told) → option_map (λ t. t.out) (option_map (sent_out name sizes) o1) ≡ option_map (λ os. os ++ (name, sizes) ∷ []) (option_map (λ t. t.out) o1)
    one None = refl
    one (Some t) = refl

    both : (o : Option Told) → option_map (λ os. os ++ (name, sizes) ∷ []) (option_map (λ os. os ++ names) (option_map (λ t. t.out) o)) ≡ option_map (λ os. os ++ (names ++ (name, sizes) ∷ [])) (option_map (λ t. t.out) o)
    both None = refl
    both (Some t) = ap Some (append_assoc t.out names ((name, sizes) ∷ []))

module _ {D : Type 0} (config : Config) where
  pub out_push : (vs : List VolumeConf) (images : List (Option (ImageRest D))) (v : VolumeConf) (r : ImageRest D) → slice_get vs (length images) ≡ Some v
      → out_names config vs (images ++ Some r ∷ []) ≡ out_names config vs images ++ (v.name, part_sizes (shape_in config v)) ∷ []
  out_push [] images v r at = absurd (none-some v at)
  out_push (w ∷ vs) [] v r at = let is : w ≡ v = same_Some w v at in
      ap (λ (l : List (Name × List ℕ)). (w.name, part_sizes (shape_in config w)) ∷ l) (none_names D config vs) ∙ ap (λ (u : VolumeConf). (u.name, part_sizes (shape_in config u)) ∷ []) is
  out_push (w ∷ vs) (None ∷ images) v r at = out_push vs images v r at
  out_push (w ∷ vs) (Some i ∷ images) v r at = ap (λ (l : List (Name × List ℕ)). (w.name, part_sizes (shape_in config w)) ∷ l) (out_push vs images v r at)

  pub out_none : (vs : List VolumeConf) (images : List (Option (ImageRest D))) → out_names config vs (images ++ None ∷ []) ≡ out_names config vs images
  out_none [] images = refl
  out_none (w ∷ vs) [] = none_names D config vs
  out_none (w ∷ vs) (None ∷ images) = out_none vs images
  out_none (w ∷ vs) (Some i ∷ images) = ap (λ (l : List (Name × List ℕ)). (w.name, part_sizes (shape_in config w)) ∷ l) (out_none vs images)

  -- ---- One image more was asked for

  module _ (valid : IsValid config) (out : List (Option (ImageRest D))) (n : ℕ) (v : VolumeConf) (count : length out ≡ n) (at : slice_get config.volumes.items n ≡ Some v) where
    -- what was there before is there until now
    pub same_until : (o o1 : Option Told) → IsTold (StayedSo config out n) o o1 → IsTold (SameAt v.name) o o1
    same_until None o1 s = s
    same_until (Some t) None s = s
    same_until (Some t) (Some t1) s = (s.further n v (omega arith) at, s.faulty)

    other_names : (k : ℕ) (w : VolumeConf) → n + 1 ≤ k → slice_get config.volumes.items k ≡ Some w → w.name ≢ v.name
    other_names k w le found = names_differ config valid k n w v found at (λ e. omega (arith, le, e))

    not_before : (y : Option (ImageRest D)) (name : Name) → ((k : ℕ) (w : VolumeConf) → IsImageOut (out ++ y ∷ []) k → slice_get config.volumes.items k ≡ Some w → w.name ≡ name → ⊥)
        → (k : ℕ) (w : VolumeConf) → IsImageOut out k → slice_get config.volumes.items k ≡ Some w → w.name ≡ name → ⊥
    not_before y name not k w there found is = not k w (still_there out y k there) found is

    stayed_sent : (r : ImageRest D) (o o1 o2 : Option Told) → IsTold (StayedSo config out n) o o1 → o2 ≡ option_map (sent_out v.name (part_sizes (shape_in config v))) o1 → IsTold (StayedSo config (out ++ Some r ∷ []) (n + 1)) o o2
    stayed_sent r None o1 o2 s sent = sent ∙ ap (option_map (sent_out v.name (part_sizes (shape_in config v)))) s
    stayed_sent r (Some t) None o2 s sent = absurd s
    stayed_sent r (Some t) (Some t1) o2 s sent =
        subst (λ (o : Option Told). IsTold (StayedSo config (out ++ Some r ∷ []) (n + 1)) (Some t) o) (sym sent)
        (record {
          stayed = λ name not c may.
              let here : IsImageOut (out ++ Some r ∷ []) n = ap is_some (at_new out (Some r) n count) in
              let differs : name ≢ v.name = λ is. not n v here at (sym is) in
              s.stayed name (not_before (Some r) name not) c (subst (λ (i : Option Image). MayLeave i c) (other_gone v.name name differs t1.images) may);
          further = λ k w le found. other_gone v.name w.name (other_names k w le found) t1.images ∙ s.further k w (omega (arith, le)) found;
          faulty = s.faulty;
          unfaulty = λ all. s.unfaulty (λ k lt. ap is_some (sym (at_less out (Some r) n count k lt)) ∙ all k (omega (arith, lt)));
          others = λ name not. other_gone v.name name (not n v at) t1.images ∙ s.others name not;
        })

    pub sent_more : (r : ImageRest D) (b b1 b2 : BayState) → HasSentOut config out n b b1 → b2.told ≡ option_map (sent_out v.name (part_sizes (shape_in config v))) b1.told → b1.faults ≤ b2.faults → HasSentOut config (out ++ Some r ∷ []) (n + 1) b b2
    sent_more r b b1 b2 so_far sent counts = record {
      outs = outs_more (out_names config config.volumes.items out) v.name (part_sizes (shape_in config v)) b.told b1.told b2.told so_far.outs sent
          ∙ ap (λ (names : List (Name × List ℕ)). option_map (λ os. os ++ names) (outs b)) (sym (out_push config.volumes.items out v r (ap (λ (j : ℕ). slice_get config.volumes.items j) count ∙ at)));
      stayed = stayed_sent r b.told b1.told b2.told so_far.stayed sent;
      counts = omega (arith, so_far.counts, counts);
    }

    stayed_refused : (o o1 o2 : Option Told) → IsTold (StayedSo config out n) o o1 → IsTold (StayedAs v.name) o1 o2 → IsTold (StayedSo config (out ++ None ∷ []) (n + 1)) o o2
    stayed_refused o o1 o2 = told_then (StayedSo config out n) (StayedAs v.name) (StayedSo config (out ++ None ∷ []) (n + 1)) o o1 o2
        (λ t t1 t2 is s left. record {
          stayed = λ name not c may.
              let before = s.stayed name (not_before None name not) c in
              cases_name name v.name
              (λ same. before (subst (λ (m : Name). MayLeave (at_name m t1.images) c) (sym same) (left.here c (subst (λ (m : Name). MayLeave (at_name m t2.images) c) same may))))
              (λ other. before (subst (λ (i : Option Image). MayLeave i c) (left.others name other) may));
          further = λ k w le found. left.others w.name (other_names k w le found) ∙ s.further k w (omega (arith, le)) found;
          faulty = (s.faulty.0 ++ left.faulty.0, left.faulty.1 ∙ ap (λ (fs : List (Name × ℕ)). fs ++ left.faulty.0) s.faulty.1 ∙ append_assoc t.faulty s.faulty.0 left.faulty.0);
          unfaulty = λ all. absurd (let there = all n (omega arith) in let none = ap is_some (at_new out None n count) in cc (there, none));
          others = λ name not. left.others name (not n v at) ∙ s.others name not;
        })

    pub refused_more : (b b1 b2 : BayState) → HasSentOut config out n b b1 → outs b2 ≡ outs b1 → IsTold (StayedAs v.name) b1.told b2.told → b1.faults ≤ b2.faults → HasSentOut config (out ++ None ∷ []) (n + 1) b b2
    refused_more b b1 b2 so_far same left counts = record {
      outs = same ∙ so_far.outs ∙ ap (λ (names : List (Name × List ℕ)). option_map (λ os. os ++ names) (outs b)) (sym (out_none config.volumes.items out));
      stayed = stayed_refused b.told b1.told b2.told so_far.stayed left;
      counts = omega (arith, so_far.counts, counts);
    }

    pub sent_on : (tells : Bool) (state : D → State) (opened : Result (Said × ImageRest D) VolumeFault) (out' : List (Option (ImageRest D))) (b b1 b2 : BayState) → HasSentOut config out n b b1 → out' ≡ out ++ image_by opened ∷ []
        → IfOk opened (λ pair. (w : VolumeConf) → slice_get config.volumes.items n ≡ Some w → IsNextOpened tells state config n w b1 b2 pair.0 pair.1)
        → IfErr opened (λ fault. (w : VolumeConf) → slice_get config.volumes.items n ≡ Some w → IsNextRefused {D = D} tells state config n w b1 b2 fault) → HasSentOut config out' (n + 1) b b2
    sent_on tells state (Ok pair) out' b b1 b2 so_far is ok err =
        let next = ok v at in subst (λ (l : List (Option (ImageRest D))). HasSentOut config l (n + 1) b b2) (sym is) (sent_more pair.1 b b1 b2 so_far next.sent next.counts)
    sent_on tells state (Err fault) out' b b1 b2 so_far is ok err =
        let next = err v at in subst (λ (l : List (Option (ImageRest D))). HasSentOut config l (n + 1) b b2) (sym is) (refused_more b b1 b2 so_far next.outs next.left next.counts)

  -- before the first
  pub none_sent : (b : BayState) → HasSentOut {D = D} config [] 0 b b
  none_sent b = record { outs = same (outs b); stayed = stays b.told; counts = omega arith }
    where
      same : (o : Option (List (Name × List ℕ))) → o ≡ option_map (λ os. os ++ out_names {D = D} config config.volumes.items []) o
      same None = refl
      same (Some os) = ap Some (sym (ap (λ (l : List (Name × List ℕ)). os ++ l) (none_names D config config.volumes.items) ∙ Rattle.std.proofs.Common.append-nil os))

      stays : (o : Option Told) → IsTold (StayedSo {D = D} config [] 0) o o
      stays None = refl
      stays (Some t) = record { stayed = λ name not c may. may; further = λ k w le found. refl; faulty = no_more t; unfaulty = λ all. refl; others = λ name not. refl }

-- no name of the configuration is among those that are out
pub none_named : (config : Config) (b : BayState) → NoneOut config b → IfSome (outs b) (λ os. All (λ (v : VolumeConf). at_name v.name os ≡ None) config.volumes.items)
none_named config b home = go b.told home
  where
    go : (o : Option Told) → All (λ (v : VolumeConf). IfSome o (λ t. at_name v.name t.out ≡ None)) config.volumes.items
        → IfSome (option_map (λ t. t.out) o) (λ os. All (λ (v : VolumeConf). at_name v.name os ≡ None) config.volumes.items)
    go None all = tt
    go (Some t) all = λ k d lt. all k d lt

-- ---- A name that isn't out

pub not_this : (x name : Name) → x ≢ name → bytes_eq x name ≡ false
not_this x name other = go (bytes_eq x name) refl
  where
    go : (b : Bool) → bytes_eq x name ≡ b → b ≡ false
    go true e = absurd (other ((bytes_eq-Decides x name).0 e))
    go false e = refl

not_named : {D : Type 0} (config : Config) (name : Name) (vs : List VolumeConf) (out : List (Option (ImageRest D))) → ((k : ℕ) (w : VolumeConf) → IsImageOut out k → slice_get vs k ≡ Some w → w.name ≢ name) → at_name name (out_names config vs out) ≡ None
not_named config name [] out other = refl
not_named config name (v ∷ vs) [] other = refl
not_named config name (v ∷ vs) (None ∷ out) other = not_named config name vs out (λ k w there at. other (suc k) w there at)
not_named config name (v ∷ vs) (Some r ∷ out) other =
    ap (λ (b : Bool). cond b (Some (part_sizes (shape_in config v))) (at_name name (out_names config vs out))) (not_this v.name name (other 0 v refl refl))
    ∙ not_named config name vs out (λ k w there at. other (suc k) w there at)

-- a name behind others that don't have it
behind_others : {A : Type 0} (name : Name) (es fs : List (Name × A)) → at_name name es ≡ None → at_name name (es ++ fs) ≡ at_name name fs
behind_others name [] fs none = refl
behind_others {A} name (e ∷ es) fs none = go (bytes_eq e.0 name) none (λ n. behind_others name es fs n)
  where
    go : (b : Bool) → cond b (Some e.1) (at_name name es) ≡ None → (at_name name es ≡ None → at_name name (es ++ fs) ≡ at_name name fs) → cond b (Some e.1) (at_name name (es ++ fs)) ≡ at_name name fs
    go true n more = absurd (none-some e.1 (sym n))
    go false n more = more n

-- a name that was home, once these went out
out_then : (name : Name) (names : List (Name × List ℕ)) (x : Option (List ℕ)) (o o1 : Option Told) → at_name name names ≡ x → IfSome o (λ t. at_name name t.out ≡ None) → option_map (λ t. t.out) o1 ≡ option_map (λ os. os ++ names) (option_map (λ t. t.out) o)
    → IfSome o1 (λ t. at_name name t.out ≡ x)
out_then name names x o None at home e = tt
out_then name names x None (Some t1) at home e = absurd (cc e)
out_then name names x (Some t) (Some t1) at home e =
    let same : t1.out ≡ t.out ++ names = cc in
    ap (at_name name) same ∙ behind_others name t.out names home ∙ at

-- a name whose image isn't out is home
pub names_home : {D : Type 0} (config : Config) → IsValid config → (out : List (Option (ImageRest D))) (n k : ℕ) (v : VolumeConf) (b b1 : BayState) → slice_get config.volumes.items k ≡ Some v → image_here out k ≡ None → IsHome v.name b → HasSentOut config out n b b1 → IsHome v.name b1
names_home config valid out n k v b b1 at none home sent = out_then v.name (out_names config config.volumes.items out) None b.told b1.told (not_named config v.name config.volumes.items out other) home sent.outs
  where
    other : (j : ℕ) (w : VolumeConf) → IsImageOut out j → slice_get config.volumes.items j ≡ Some w → w.name ≢ v.name
    other j w there found = names_differ config valid j k w v found at (λ is. let e : is_some (image_here out j) ≡ false = ap (λ (m : ℕ). is_some (image_here out m)) is ∙ ap is_some none in cc (e, there))

-- the next name isn't out yet
pub next_home : {D : Type 0} (config : Config) → IsValid config → (out : List (Option (ImageRest D))) (n : ℕ) (v : VolumeConf) (b b1 : BayState) → length out ≡ n → slice_get config.volumes.items n ≡ Some v → IsHome v.name b → HasSentOut config out n b b1 → IsHome v.name b1
next_home config valid out n v b b1 count at = names_home config valid out n n v b b1 at (get_or_past out n None (omega (arith, count)))

is_same_name : (x : Name) → bytes_eq x x ≡ true
is_same_name x = (bytes_eq-Decides x x).1 refl

named_out : {D : Type 0} (config : Config) (vs : List VolumeConf) (out : List (Option (ImageRest D))) (k : ℕ) (v : VolumeConf) → slice_get vs k ≡ Some v → IsImageOut out k
    → ((j : ℕ) (w : VolumeConf) → j < k → slice_get vs j ≡ Some w → w.name ≢ v.name) → at_name v.name (out_names config vs out) ≡ Some (part_sizes (shape_in config v))
named_out config [] out k v at there other = absurd (none-some v at)
named_out config (w ∷ vs) [] k v at there other = absurd (cc there)
named_out config (w ∷ vs) (None ∷ out) zero v at there other = absurd (cc there)
named_out config (w ∷ vs) (Some r ∷ out) zero v at there other =
    let is : w ≡ v = same_Some w v at in
    ap (λ (u : VolumeConf). at_name v.name ((u.name, part_sizes (shape_in config u)) ∷ out_names config vs out)) is
    ∙ ap (λ (b : Bool). cond b (Some (part_sizes (shape_in config v))) (at_name v.name (out_names config vs out))) (is_same_name v.name)
named_out config (w ∷ vs) (None ∷ out) (suc k) v at there other = named_out config vs out k v at there (λ j u lt found. other (suc j) u (omega (arith, lt)) found)
named_out config (w ∷ vs) (Some r ∷ out) (suc k) v at there other =
    ap (λ (b : Bool). cond b (Some (part_sizes (shape_in config w))) (at_name v.name (out_names config vs out))) (not_this w.name v.name (other 0 w (omega arith) refl))
    ∙ named_out config vs out k v at there (λ j u lt found. other (suc j) u (omega (arith, lt)) found)

-- the names of the images that are out are out
pub names_out : {D : Type 0} (config : Config) → IsValid config → (out : List (Option (ImageRest D))) (n k : ℕ) (v : VolumeConf) (b b1 : BayState) → slice_get config.volumes.items k ≡ Some v → IsImageOut out k → IsHome v.name b → HasSentOut config out n b b1
    → IsOut v.name (part_sizes (shape_in config v)) b1
names_out config valid out n k v b b1 at there home sent = out_then v.name (out_names config config.volumes.items out) (Some (part_sizes (shape_in config v))) b.told b1.told
    (named_out config config.volumes.items out k v at there (λ j w lt found. names_differ config valid j k w v found at (λ is. omega (arith, lt, is)))) home sent.outs

-- the next image wasn't taken out, and all is as it was
pub sent_same : {D : Type 0} (config : Config) (out : List (Option (ImageRest D))) (n : ℕ) (b b1 b2 : BayState) → HasSentOut config out n b b1 → IsBackAtOnce b1 b2 → HasSentOut config out n b b2
sent_same config out n b b1 b2 so_far back = record {
  outs = back.outs ∙ so_far.outs;
  stayed = told_then (StayedSo config out n) (λ old new. new ≡ old) (StayedSo config out n) b.told b1.told b2.told (λ t t1 t2 is s same. subst (λ (x : Told). StayedSo config out n t x) (sym same) s) so_far.stayed back.same;
  counts = let c = so_far.counts in let d = back.counts in omega (arith, c, d);
}

-- ---- Images that were only read and went back to their bay

module _ {D : Type 0} (state : D → State) where
  rows_image : (size : ℕ) (bs : List (Values Block)) (at : ℕ) (ps : List (Spun D)) (x : List Block)
      → ((j : ℕ) (d : Spun D) → j < length ps → (c : List Block) → IsImageOf (state_of state (get_or ps j d)).values c → IsImage (slice_range bs (at + j * size) (at + (j + 1) * size)) c)
      → IsImageOf (blocks_of state (map (λ (p : Spun D). disk_of p) ps)) x → IsImage (slice_range bs at (at + length ps * size)) x
  rows_image size bs at [] x each i =
      let none : at + 0 * size - at ≡ 0 = omega arith in
      subst (λ (n : ℕ). IsImage (take n (drop at bs)) x) (sym none) i
  rows_image size bs at (p ∷ ps) x each i =
      let cut = cut_image (state_of state p).values (blocks_of state (map (λ (q : Spun D). disk_of q) ps)) x i in
      let one : at + 0 * size ≡ at = omega arith in
      let next : at + (0 + 1) * size ≡ at + size = omega arith in
      let first : IsImage (slice_range bs at (at + size)) cut.first =
      subst (λ (n : ℕ). IsImage (slice_range bs at n) cut.first) next (subst (λ (n : ℕ). IsImage (slice_range bs n (at + (0 + 1) * size)) cut.first) one (each 0 p (omega arith) cut.first cut.in_front)) in
      let more : IsImage (slice_range bs (at + size) (at + size + length ps * size)) cut.rest =
      rows_image size bs (at + size) ps cut.rest
      (λ j d lt c image.
      let s = suc-mul j size in
      let t = suc-mul (j + 1) size in
      let low : at + suc j * size ≡ at + size + j * size = omega (arith, s) in
      let up_is : suc j + 1 ≡ suc (j + 1) = omega arith in
      let up : at + suc (j + 1) * size ≡ at + size + (j + 1) * size = omega (arith, t) in
      let high : at + (suc j + 1) * size ≡ at + size + (j + 1) * size = ap (λ (n : ℕ). at + n * size) up_is ∙ up in
      subst (λ (n : ℕ). IsImage (slice_range bs (at + size + j * size) n) c) high (subst (λ (n : ℕ). IsImage (slice_range bs n (at + (suc j + 1) * size)) c) low (each (suc j) d (omega (arith, lt)) c image)))
      cut.behind in
      let l = suc-mul (length ps) size in
      let end : at + size + length ps * size ≡ at + suc (length ps) * size = omega (arith, l) in
      subst (λ (y : List Block). IsImage (slice_range bs at (at + suc (length ps) * size)) y) (sym cut.is)
      (subst (λ (n : ℕ). IsImage (slice_range bs at n) (cut.first ++ cut.rest)) end
      (both_slices bs at (at + size) (at + size + length ps * size) cut.first cut.rest (omega arith) (omega arith) first more))

  -- an image of the parts together is one of the image at entry
  whole_image : (s : Shape) (i : Image) (r : ImageRest D) (disks : List D) (x : List Block) → AreCutOf state s i r → IsTogether r disks → length r.segments.items ≡ s.segments → length i.blocks ≡ image_size s
      → IsImageOf (blocks_of state disks) x → IsImage i.blocks x
  whole_image s i r disks x cut all count size image =
      let rows : List D = map (λ (p : Spun D). disk_of p) all.segments in
      let now : IsImageOf (blocks_of state (disk_of r.label ∷ disk_of all.home ∷ rows)) x = subst (λ (l : List D). IsImageOf (blocks_of state l) x) all.disks_are image in
      let front = cut_image (state_of state r.label).values (blocks_of state (disk_of all.home ∷ rows)) x now in
      let home = cut_image (state_of state all.home).values (blocks_of state rows) front.rest front.behind in
      let at : ℕ = 2 + s.home in
      let n : ℕ = length all.segments in
      let long : n ≡ s.segments = sym (length-map all.segments (λ (p : Spun D). Some p)) ∙ sym (ap (λ (l : List (Option (Spun D))). length l) all.segments_are) ∙ count in
      let behind : IsImage (slice_range i.blocks at (at + n * s.segment_blocks)) home.rest =
      rows_image s.segment_blocks i.blocks at all.segments home.rest
      (λ j d lt c im.
      let here : get_or r.segments.items j None ≡ Some (get_or all.segments j d) = ap (λ (l : List (Option (Spun D))). get_or l j None) all.segments_are ∙ get_or-map (λ (p : Spun D). Some p) all.segments j d None lt in
      (cut.segments j (get_or all.segments j d) here).had c im) home.behind in
      let with_home : IsImage (slice_range i.blocks 2 (at + n * s.segment_blocks)) (home.first ++ home.rest) =
      both_slices i.blocks 2 at (at + n * s.segment_blocks) home.first home.rest (omega arith) (omega arith) ((cut.home all.home all.home_is).had home.first home.in_front) behind in
      let whole : IsImage (slice_range i.blocks 0 (at + n * s.segment_blocks)) (front.first ++ (home.first ++ home.rest)) =
      both_slices i.blocks 0 2 (at + n * s.segment_blocks) front.first (home.first ++ home.rest) (omega arith) (omega arith) (subst (λ (c : List Block). IsImage (slice_range i.blocks 0 2) c) (reads_range i.blocks 0 2 ∙ sym (cut.label front.first front.in_front)) (image_reads (slice_range i.blocks 0 2))) with_home in
      let end : at + n * s.segment_blocks ≡ length i.blocks = ap (λ (m : ℕ). at + m * s.segment_blocks) long ∙ sym size in
      let is : x ≡ front.first ++ (home.first ++ home.rest) = front.is ∙ ap (λ (l : List Block). front.first ++ l) home.is in
      let full : slice_range i.blocks 0 (at + n * s.segment_blocks) ≡ i.blocks = ap (λ (m : ℕ). slice_range i.blocks 0 m) end ∙ take_all (length i.blocks - 0) i.blocks (omega arith) in
      subst (λ (y : List Block). IsImage i.blocks y) (sym is) (subst (λ (vs : List (Values Block)). IsImage vs (front.first ++ (home.first ++ home.rest))) full whole)

-- a name is that of an image that is out, or of none
record IsFound {D : Type 0} (vs : List VolumeConf) (out : List (Option (ImageRest D))) (name : Name) : Type 0 where
  pub volume : ℕ
  pub conf : VolumeConf
  pub image : ImageRest D
  pub known : slice_get vs volume ≡ Some conf
  pub here : image_here out volume ≡ Some image
  pub named : name ≡ conf.name

module _ {D : Type 0} (vs : List VolumeConf) (out : List (Option (ImageRest D))) (name : Name) (w : VolumeConf) (o : Option (ImageRest D)) where
  found_later : IsFound vs out name → IsFound (w ∷ vs) (o ∷ out) name
  found_later found = record { volume = suc found.volume; conf = found.conf; image = found.image; known = found.known; here = found.here; named = found.named }

  not_later : (IsSome o → name ≢ w.name) → ((k : ℕ) (v : VolumeConf) → slice_get vs k ≡ Some v → IsImageOut out k → name ≢ v.name) → (k : ℕ) (v : VolumeConf) → slice_get (w ∷ vs) k ≡ Some v → IsImageOut (o ∷ out) k → name ≢ v.name
  not_later first not zero v at there = λ e. first there (e ∙ ap (λ (u : VolumeConf). u.name) (sym (same_Some w v at)))
  not_later first not (suc k) v at there = not k v at there

find_name : {D : Type 0} (vs : List VolumeConf) (out : List (Option (ImageRest D))) (name : Name) → IsFound vs out name ⊎ ((k : ℕ) (v : VolumeConf) → slice_get vs k ≡ Some v → IsImageOut out k → name ≢ v.name)
find_name [] out name = inr (λ k v at. absurd (none-some v at))
find_name (w ∷ vs) [] name = inr (λ k v at there. absurd (cc there))
find_name (w ∷ vs) (None ∷ out) name = ⊎_elim
    (λ found. inl (found_later vs out name w None found))
    (λ (not : (k : ℕ) (v : VolumeConf) → slice_get vs k ≡ Some v → IsImageOut out k → name ≢ v.name). inr (not_later vs out name w None (λ there. absurd (cc there)) not))
    (find_name vs out name)
find_name (w ∷ vs) (Some r ∷ out) name = cases_name name w.name
    (λ e. inl (record { volume = 0; conf = w; image = r; known = refl; here = refl; named = e }))
    (λ other. ⊎_elim
    (λ found. inl (found_later vs out name w (Some r) found))
    (λ (not : (k : ℕ) (v : VolumeConf) → slice_get vs k ≡ Some v → IsImageOut out k → name ≢ v.name). inr (not_later vs out name w (Some r) (λ there. other) not))
    (find_name vs out name))

module _ {D : Type 0} (tells : Bool) (state : D → State) (told : IsTrue tells → (d : D) → TellsContent (state d)) (config : Config) (b b1 b2 : BayState) (n : ℕ) (i : Images D)
    (asked : AreAsked tells state config b b1 n i) (sent : HasSentOut config i.out.items n b b1) (back : IsTold (GivesBack state config i.out.items 0) b1.told b2.told) where
  left : IsTrue tells → (t t1 t2 : Told) → b.told ≡ Some t → StayedSo config i.out.items n t t1 → GivesBack state config i.out.items 0 t1 t2 → LeavesNoMore t t2
  left telling t t1 t2 is s g = λ name c may.
      ⊎_elim
      (λ found. at_found name c may found)
      (λ (not : (k : ℕ) (v : VolumeConf) → slice_get config.volumes.items k ≡ Some v → IsImageOut i.out.items k → name ≢ v.name).
      s.stayed name (λ k v there at e. not k v at there (sym e)) c (subst (λ (x : Option Image). MayLeave x c) (g.others name (λ k v le at there. not k v at there)) may))
      (find_name config.volumes.items i.out.items name)
    where
      at_found : (name : Name) (c : Option (List Block)) → MayLeave (at_name name t2.images) c → IsFound config.volumes.items i.out.items name → MayLeave (at_name name t.images) c
      at_found name c may f =
          let shape : slice_get (shapes_of config) f.volume ≡ Some (shape_in config f.conf) = slice_get-map (shape_in config) config.volumes.items f.volume ∙ ap (option_map (shape_in config)) f.known in
          let out = asked.out f.volume (shape_in config f.conf) f.image shape f.here in
          let entry = asked.entry telling t is f.volume f.conf out.said f.image f.known out.said_is f.here in
          let stored = g.back f.volume f.conf f.image (omega arith) f.known f.here in
          let all = all_told state (told telling) stored.disks in
          let now : at_name name t2.images ≡ Some (record { blocks = all.0; rest = [] }) = ap (λ (m : Name). at_name m t2.images) f.named ∙ stored.stored all.0 all.1 in
          let was : at_name name t.images ≡ Some entry.image = ap (λ (m : Name). at_name m t.images) f.named ∙ entry.there in
          subst (λ (x : Option Image). MayLeave x c) (sym was) (go c all.0 (subst (λ (x : Option Image). MayLeave x c) now may) stored.disks all.1 entry.image entry.says.whole
          (λ x image. whole_image state (shape_in config f.conf) entry.image f.image stored.disks x entry.cut stored.together out.rest.count entry.says.size image))
        where
          go : (c : Option (List Block)) (ws : List (Values Block)) → MayLeave (Some (record { blocks = ws; rest = [] })) c → (disks : List D) → blocks_of state disks ≡ Some ws → (j : Image) → j.rest ≡ []
              → ((x : List Block) → IsImageOf (blocks_of state disks) x → IsImage j.blocks x) → MayLeave (Some j) c
          go None ws may disks e j rest images = absurd (may refl)
          go (Some x) ws may disks e j rest images = (rest, images x (subst (λ (o : Option (List (Values Block))). IsImageOf o x) (sym e) may.1))

  pub all_back : NoneOut config b → LeavesNoneOut config i.out.items (outs b1) (outs b2) → b1.faults ≤ b2.faults → HasAllBack tells b b2
  all_back home none counts = record {
    outs = none.again (outs b) (none_named config b home) sent.outs;
    left = λ telling. told_then (StayedSo config i.out.items n) (GivesBack state config i.out.items 0) LeavesNoMore b.told b1.told b2.told (left telling) sent.stayed back;
    counts = let c = sent.counts in omega (arith, c, counts);
  }

-- all parts of the images that are out are here
pub all_whole : {D : Type 0} (tells : Bool) (state : D → State) (config : Config) (b b1 : BayState) (n : ℕ) (i : Images D) → AreAsked tells state config b b1 n i → n ≤ length config.volumes.items
    → (k : ℕ) (r : ImageRest D) → image_here i.out.items k ≡ Some r → IsComplete r
all_whole tells state config b b1 n i asked le k r here =
    let lt = here_within i.out.items k r here in
    let count = asked.out_count in
    let long = length-map config.volumes.items (shape_in config) in
    let s = some_at (shapes_of config) k (omega (arith, lt, count, le, long)) in
    (asked.out k s.0 r s.1 here).all

-- where nothing was taken out all is in the bay
pub nothing_out : (tells : Bool) (b : BayState) → HasAllBack tells b b
nothing_out tells b = record { outs = refl; left = λ telling. go b.told; counts = omega arith }
  where
    go : (o : Option Told) → IsTold LeavesNoMore o o
    go None = refl
    go (Some t) = λ name c may. may

-- ---- Images of names that aren't configured are as they were, whatever is done with the others

pub others_same : (config : Config) (o : Option Told) → IsTold (KeepsOthers config) o o
others_same config None = refl
others_same config (Some t) = λ name not. refl

pub others_then : (config : Config) (e o n : Option Told) → IsTold (KeepsOthers config) e o → IsTold (KeepsOthers config) o n → IsTold (KeepsOthers config) e n
others_then config e o n = told_then (KeepsOthers config) (KeepsOthers config) (KeepsOthers config) e o n (λ x y z is first then name not. then name not ∙ first name not)

module _ {D : Type 0} (config : Config) (out : List (Option (ImageRest D))) where
  pub back_others : (state : D → State) (o n : Option Told) → IsTold (GivesBack state config out 0) o n → IsTold (KeepsOthers config) o n
  back_others state o n = told_each (GivesBack state config out 0) (KeepsOthers config) o n (λ x y g name not. g.others name (λ k v le at there. not k v at))

  pub sent_others : (n : ℕ) (b b1 : BayState) → HasSentOut config out n b b1 → IsTold (KeepsOthers config) b.told b1.told
  sent_others n b b1 sent = told_each (StayedSo config out n) (KeepsOthers config) b.told b1.told (λ x y s. s.others) sent.stayed
