-- Volumes whose images at entry are sound as they read: they are refused only for a failed call, and opened again.
use Rattle.rack.proofs.ClosingBasics.{◌≡◌, ◌≢◌, ℕ, suc, ◌+◌, ◌<◌, ◌≤◌, ◌^◌, ◌==◌, ◌&&◌, Bool, true, false, not, cond, eqb, List, [], ◌∷◌, ◌++◌, length, map, Option, None, Some, refl, sym, ap}
use Rattle.rack.proofs.ClosingBasics.{◌∙◌, subst, arith, ⊎_elim, ◌*◌, get_or, option_map, ◌⊎◌, is_some, IfSome, slice_get, unwrap_or, filter, Contains, slice_index_or, IsTrue, sum}
use Rattle.rack.proofs.ClosingBasics.{find, AllByRecursion, range_with_len, position_or_len, eq-eqb, eqb-true, cases_lt, lt-ltb, length-append, map-append, length-map, filter-append}
use Rattle.rack.proofs.ClosingBasics.{All-contains, same_Some, none-some, slice_get-map, slice_get_within, slice_get-get_or, get_or_from_slice_get, fails_before_first}
use Rattle.rack.proofs.ClosingBasics.{Contains-append_right}
use Rattle.rack.proofs.ClosingTerms.{Block, State, Rose, reads, Image, Told, BayState, at_name, byte_length, Extent, Cover, AreDistinct, covers_of, Shape, owned_block, free_block, SpellsView}
use Rattle.rack.proofs.ClosingTerms.{Images, image_of, image_size, segment_of, segments_of, all_segments, IsSoundSegment, IsSoundImage, AreSound, accepted, Record, IsIdle, IsLog, IsNamed}
use Rattle.rack.proofs.ClosingTerms.{extent_of, extents_of, log_read, one_segment_head, one_log, one_label, one_view, Config, VolumeConf, HasView, Part, Station, Head, records_of, records_in}
use Rattle.rack.proofs.ClosingTerms.{heads_from, heads_of, heads_in, with_version, IsFault, LiesWithin, AreFirstTwins, owned_of, all_owned, HasHead, IsImageFault, part_sizes, shape_in, shapes_of}
use Rattle.rack.proofs.ClosingTerms.{image_read, images_read, IsSegmentIn, IsOwnedIn, AreOwnedIn, images_taken, IsOpeningOf, fault_in_image, RefusesVolume, RefusesImage, RefusesOpening, RefusesBay}
use Rattle.rack.proofs.ClosingTerms.{AreRefused, NamesVolumes, IsRack, IsOpenBase, IsStation, base_of_station, image_here, IsImageOut, ImageRest, VolumeFault, Absent, WrongLength, Refused}
use Rattle.rack.proofs.ClosingTerms.{LabelFault, BayFailed, is_kept_home, HasFaultIn, IsOfFailedCall, RefusesSound, OpensAllAgain, Rack}
use Rattle.wol_bay.specs.Refusals.{refusal, refusal_of}
use Rattle.wol_bay.specs.declared.fault.BayFault.{BayFault}
use Rattle.wol_model.specs.Extents.{IsValid as IsValidCover}
use Rattle.wol_model.specs.Recovered.{extents_in}
use Rattle.wol_model.specs.Images.IsSoundSegment.{idle, log}
use Rattle.wol_config.specs.Configs.{IsValid}
use Rattle.log_layout.specs.Values.{shape_of}
use Rattle.manager_recovery.specs.Owned.{Owned}
use Rattle.manager_recovery.proofs.Lists.{all_get}
use Rattle.manager_recovery.proofs.OpenedIndex.{keeps_valid}
use Rattle.manager_recovery.specs.Refused.{Refuses, first_outside, is_named, head_at}
use Rattle.manager_recovery.specs.declared.opening.Opening.{Opening}
use Rattle.manager_recovery.specs.declared.opening.OwnedPart.{OwnedPart}
use Rattle.manager_recovery.specs.declared.refusal.OpenRefusal.{OpenRefusal}
use Rattle.volume_images.specs.declared.reading.ImageFault.{ImageFault}
use Rattle.rack_parts.proofs.Members.{later_in, of_recursion, in_map, first_in, no_value, of_map, element_at}
use Rattle.manager_recovery.proofs.ByLogger.{all_among, among_map}
use Rattle.rack.proofs.OwnedSegments.{extents_owned, range_has}
use Rattle.rack.proofs.SameOut.{out_bit}
use Rattle.rack.proofs.SoundBefore.{Fewer, none, fewer_same, fewer_images, fewer_distinct, segments_are}
use Rattle.rack.proofs.LeftImage.{read_cases, read_here, accepted_is, accepted_same, accepted_gone, accepted_count}
use Rattle.wol_promise.proofs.Lists.{all_joined}
use Rattle.wol_model.proofs.Counts.{both as both_true}
use Rattle.volume_images.proofs.GivenBack.{all_sizes}
use Rattle.rack.proofs.NewFaults.{image_said}
use Rattle.rack.proofs.SoundClosed.{reads_are_left}
use Rattle.rack.proofs.Cases.{by_option}
use Rattle.wol_model.specs.Heads as head
use Rattle.manager_recovery.specs.Owned as owned
use Rattle.wol_bay.specs.declared.fault.BayFault.TheVariants as bay
use Rattle.manager_recovery.specs.declared.refusal.OpenRefusal.TheVariants as opening
use Rattle.volume_images.specs.declared.reading.ImageFault.TheVariants as image_fault

-- What sound images say of the segments that a volume owns.

-- ---- Records that keep a block

abbrev keeps : Record → Bool
keeps r = not (eqb r.head.mask 0)

abbrev has_version : (n : ℕ) → Record → Bool
has_version n r = keeps r && eqb r.head.version n

-- the heads of a segment's records of one version are as many as the records
heads_of_segment : (n : ℕ) (s : Owned) (pos : ℕ) (rs : List Record) → length (with_version n (heads_from s pos rs)) ≡ length (filter (has_version n) rs)
heads_of_segment n s pos [] = refl
heads_of_segment n s pos (r ∷ rs) = at (eqb r.head.mask 0) (heads_of_segment n s (pos + 1 + length r.blocks) rs)
  where
    rest : List Head
    rest = heads_from s (pos + 1 + length r.blocks) rs

    more : (t : Bool) → length (with_version n rest) ≡ length (filter (has_version n) rs) → (h : Head) → length (cond t (h ∷ with_version n rest) (with_version n rest)) ≡ length (cond t (r ∷ filter (has_version n) rs) (filter (has_version n) rs))
    more true e h = ap suc e
    more false e h = e

    at : (t : Bool) → length (with_version n rest) ≡ length (filter (has_version n) rs)
        → length (with_version n (cond t rest (record { version = r.head.version; volume = s.logger; block = s.first + pos } ∷ rest))) ≡ length (cond (not t && eqb r.head.version n) (r ∷ filter (has_version n) rs) (filter (has_version n) rs))
    at true e = e
    at false e = more (eqb r.head.version n) e (record { version = r.head.version; volume = s.logger; block = s.first + pos })

-- and so of all segments
heads_kept : (v n : ℕ) (os : List Owned) → length (with_version n (heads_in v os)) ≡ length (filter (has_version n) (records_in v os))
heads_kept v n [] = refl
heads_kept v n (o ∷ os) =
    let heads = ap length (filter-append (λ (h : Head). h.version == n) (heads_of v o) (heads_in v os)) ∙ length-append (with_version n (heads_of v o)) (with_version n (heads_in v os)) in
    let records = ap length (filter-append (has_version n) (records_of v o) (records_in v os)) ∙ length-append (filter (has_version n) (records_of v o)) (filter (has_version n) (records_in v os)) in
    let one = heads_of_segment n o 1 (records_of v o) in
    let rest = heads_kept v n os in
    heads ∙ omega (arith, one, rest) ∙ sym records

-- the extents of the segments are those of their records
extents_records : (v : ℕ) (os : List Owned) → extents_of v (map (λ (o : Owned). o.blocks) os) ≡ map extent_of (records_in v os)
unfolding extents_in
extents_records v [] = refl
extents_records v (o ∷ os) = ap (λ (es : List Extent). map extent_of (records_of v o) ++ es) (extents_records v os) ∙ sym (map-append extent_of (records_of v o) (records_in v os))

-- of distinct ones at most one has a version
none_later : (v : ℕ) (r : Record) (rs : List Record) → IsValidCover (extent_of r).cover → AllByRecursion (IsNamed v) rs → AllByRecursion (λ (d : Cover). IsValidCover (extent_of r).cover → IsValidCover d → r.head.version ≢ d.version) (covers_of (map extent_of rs))
    → length (filter (has_version r.head.version) rs) ≡ 0
none_later v r [] valid named apart = refl
none_later v r (q ∷ rs) valid named apart = at (has_version r.head.version q) refl (none_later v r rs valid named.1 apart.1)
  where
    at : (t : Bool) → has_version r.head.version q ≡ t → length (filter (has_version r.head.version) rs) ≡ 0 → length (cond t (q ∷ filter (has_version r.head.version) rs) (filter (has_version r.head.version) rs)) ≡ 0
    at false e rest = rest
    at true e rest =
        let both = both_true (keeps q) (eqb q.head.version r.head.version) e in
        absurd (apart.0 valid (keeps_valid v q named.0 both.0) (sym (eqb-true q.head.version r.head.version both.1)))

kept_once : (v n : ℕ) (rs : List Record) → AllByRecursion (IsNamed v) rs → AreDistinct (covers_of (map extent_of rs)) → length (filter (has_version n) rs) ≤ 1
kept_once v n [] named distinct = omega arith
kept_once v n (r ∷ rs) named distinct = at (has_version n r) refl (kept_once v n rs named.1 distinct.1)
  where
    at : (t : Bool) → has_version n r ≡ t → length (filter (has_version n) rs) ≤ 1 → length (cond t (r ∷ filter (has_version n) rs) (filter (has_version n) rs)) ≤ 1
    at false e rest = rest
    at true e rest =
        let both = both_true (keeps r) (eqb r.head.version n) e in
        let none = none_later v r rs (keeps_valid v r named.0 both.0) named.1 distinct.0 in
        let same : length (filter (has_version r.head.version) rs) ≡ length (filter (has_version n) rs) = ap (λ (m : ℕ). length (filter (has_version m) rs)) (eqb-true r.head.version n both.1) in
        omega (arith, none, same)

-- ---- The segments

module _ (shapes : List Shape) (images : Images) (sound : AreSound shapes images) where
  -- a volume's image and view
  pub record IsSoundHere (k : ℕ) (s : Shape) (image : List Block) : Type 0 where
    pub ids : List ℕ
    pub view_is : slice_get sound.views k ≡ Some ids
    pub is : IsSoundImage shapes sound.views k s ids image

  pub sound_here : (k : ℕ) (s : Shape) (image : List Block) → slice_get shapes k ≡ Some s → image_of images k ≡ Some image → IsSoundHere k s image
  sound_here k s image shape there =
      let w = sound.each k s shape in
      let read : image_of images k ≡ Some w.0 = ap (λ (x : Option (Option (List Block))). unwrap_or x None) w.2 in
      let same : w.0 ≡ image = same_Some w.0 image (sym read ∙ there) in
      record { ids = w.1; view_is = w.3; is = subst (IsSoundImage shapes sound.views k s w.1) same w.4 }

  pub segment_sound : (k : ℕ) (s : Shape) (image : List Block) (i : ℕ) → slice_get shapes k ≡ Some s → image_of images k ≡ Some image → i < s.segments → IsSoundSegment shapes sound.views k (segment_of s image i)
  segment_sound k s image i shape there within =
      let here = (sound_here k s image shape there).is in
      all_among (IsSoundSegment shapes sound.views k) (map (segment_of s image) (range_with_len 0 s.segments)) (segment_of s image i) (subst (AllByRecursion (IsSoundSegment shapes sound.views k)) (segments_are s image here.sized) here.segments)
      (among_map (segment_of s image) (range_with_len 0 s.segments) i (range_has 0 s.segments i (omega arith) (omega (arith, within))))

  -- ---- The segments of one volume

  module _ (v : ℕ) (known : v < 2 ^ 32) where
    -- an owned segment is a log of its volume, on a logger of its view, with records that lie in it
    pub record IsSoundLog (o : Owned) : Type 0 where
      pub shape : Shape
      pub ids : List ℕ
      pub records : List Record
      pub shape_is : slice_get shapes v ≡ Some shape
      pub view_is : slice_get sound.views v ≡ Some ids
      pub on : Contains ids o.logger
      pub log : IsLog o.blocks v records
      pub within : AllByRecursion (LiesWithin shape.home) records

    pub sound_log : (o : Owned) → IsOwnedIn shapes images v o → IsSoundLog o
    sound_log o is = let s = is.segment in of_segment o.blocks is.rest is.owner (subst (IsSoundSegment shapes sound.views o.logger) (sym s.blocks_are) (segment_sound o.logger s.shape s.image o.index s.shape_is s.there s.within)) refl
      where
        of_segment : (bs rest : List Block) → bs ≡ owned_block v ∷ rest → IsSoundSegment shapes sound.views o.logger bs → o.blocks ≡ bs → IsSoundLog o
        of_segment bs rest owner (idle empty) same =
            let first : owned_block v ≡ free_block = subst IsIdle owner empty in
            let bad : head.Free ≡ head.Owned v = one_segment_head (owned_block v) head.Free (head.Owned v) (record { in_range = tt; bytes = first }) (record { in_range = known; bytes = refl }) in
            absurd (cc bad)
        of_segment bs rest owner (log w s ids rs shape view on is_log within) same =
            let joined : owned_block w ∷ _ ≡ owned_block v ∷ rest = sym is_log.joined ∙ owner in
            let first : owned_block w ≡ owned_block v = cc joined in
            let heads : head.Owned w ≡ head.Owned v = one_segment_head (owned_block w) (head.Owned w) (head.Owned v) (record { in_range = is_log.known; bytes = refl }) (record { in_range = known; bytes = first }) in
            let e : w ≡ v = cc heads in
            record {
              shape = s;
              ids = ids;
              records = rs;
              shape_is = subst (λ (n : ℕ). slice_get shapes n ≡ Some s) e shape;
              view_is = subst (λ (n : ℕ). slice_get sound.views n ≡ Some ids) e view;
              on = on;
              log = subst (λ (xs : List Block). IsLog xs v rs) (sym same) (subst (λ (n : ℕ). IsLog bs n rs) e is_log);
              within = within;
            }

    -- no such segment is at fault
    pub no_fault : (home block : ℕ) (o : Owned) (is : IsSoundLog o) → home ≡ is.shape.home → IsFault v home o block → ⊥
    no_fault home block o is home_is (owned.no_head p damaged first e) = damaged.no_log v is.records is.log
    no_fault home block o is home_is (owned.past_end rs k other passes e) =
        let same = (one_log o.blocks v v rs is.records other is.log).1 in
        let lies = all_get (LiesWithin is.shape.home) is.records k passes.record_ (ap (λ (l : List Record). slice_get l k) (sym same) ∙ passes.there) is.within in
        let past = passes.passes in
        omega (arith, lies, past, home_is)

    named : (o : Owned) → IsSoundLog o → AllByRecursion (IsNamed v) (records_of v o)
    named o is = subst (AllByRecursion (IsNamed v)) (sym (ap (λ (x : Option (List Record)). unwrap_or x []) (log_read o.blocks v is.records is.log))) is.log.named

    all_named : (os : List Owned) → ((o : Owned) → Contains os o → IsSoundLog o) → AllByRecursion (IsNamed v) (records_in v os)
    all_named [] each = tt
    all_named (o ∷ os) each = all_joined (IsNamed v) (records_of v o) (records_in v os) (named o (each o (0, omega arith, refl))) (all_named os (λ x has. each x (later_in o x os has)))

    -- no two records that keep blocks have one version, in images of which no two have
    pub no_twins_in : (others : Images) (sized : (k : ℕ) (s : Shape) (image : List Block) → slice_get shapes k ≡ Some s → image_of others k ≡ Some image → length image ≡ image_size s)
        → AreDistinct (covers_of (extents_of v (all_segments shapes others))) → (os : List Owned) → AreOwnedIn shapes others v os → ((o : Owned) → Contains os o → IsSoundLog o)
        → (one other : Head) → AreFirstTwins (heads_in v os) one other → ⊥
    no_twins_in others sized apart os are logs one other twins =
        let extents = extents_owned shapes others v os sized are in
        let distinct : AreDistinct (covers_of (map extent_of (records_in v os)))
        = subst (λ (es : List Extent). AreDistinct (covers_of es)) (extents ∙ extents_records v os) apart in
        let few = kept_once v one.version (records_in v os) (all_named os logs) distinct in
        let same = heads_kept v one.version os in
        let two = ap length twins.first_two in
        omega (arith, few, same, two)

-- A volume whose images at entry are sound as they read: neither its image nor its opening is refused for what they say.

-- ---- Lists

pub never_found : {X : Type 0} (test : X → Bool) (xs : List X) → ((x : X) → Contains xs x → test x ≡ false) → find test xs ≡ None
never_found test [] each = refl
never_found test (x ∷ xs) each = ap (λ (t : Bool). cond t (Some x) (find test xs)) (each x (first_in x x xs refl)) ∙ never_found test xs (λ y has. each y (later_in x y xs has))

-- a view names the loggers that it has
pub has_name : (view : List ℕ) (logger : ℕ) → Contains view logger → is_named view logger ≡ true
has_name view logger has =
    ⊎_elim
    (λ (past : has.0 < position_or_len test view).
    let fails = fails_before_first test view has.0 logger past in
    let passes : test (get_or view has.0 logger) ≡ true = eq-eqb (get_or view has.0 logger) logger has.2 in
    absurd (cc (fails, passes)))
    (λ (found : position_or_len test view ≤ has.0).
    let below : position_or_len test view < length view = let l = has.1 in omega (arith, found, l) in
    ap (λ (t : Bool). is_some (cond t (Some (position_or_len test view)) None)) (lt-ltb (position_or_len test view) (length view) below))
    (cases_lt has.0 (position_or_len test view))
  where
    test : ℕ → Bool
    test id = id == logger

-- an image that reads has whole blocks
record IsReadAs (o : Option Image) (c : List Block) : Type 0 where
  pub image : Image
  pub there : o ≡ Some image
  pub whole : image.rest ≡ []
  pub blocks : reads image.blocks ≡ c

read_back : (o : Option Image) (c : List Block) → image_read o ≡ Some c → IsReadAs o c
read_back None c is = absurd (none-some c is)
read_back (Some i) c is = ⊎_elim
    (λ r. record { image = i; there = refl; whole = r.0; blocks = same_Some (reads i.blocks) c (sym r.1 ∙ is) })
    (λ r. absurd (none-some c (sym r.1 ∙ is)))
    (read_cases i)

-- ---- Refusals

-- a call failed: what is said of it, and what of a logger whose image is missing
abbrev pub IsCallRefusal : (missing : ℕ → Type 0) (old new : BayState) → VolumeFault → Type 0
IsCallRefusal missing old new BayFailed = Rose old.faults new.faults
IsCallRefusal missing old new LabelFault = Rose old.faults new.faults
IsCallRefusal missing old new (Refused (opening.LoggerMissing id)) = missing id
IsCallRefusal missing old new (Refused (opening.DiskFault p)) = Unit {0}
IsCallRefusal missing old new f = ⊥

module _ (config : Config) (valid : IsValid config) (t : Told) (sound : AreSound (shapes_of config) (images_read config t)) where
  abbrev shapes : List Shape
  shapes = shapes_of config

  -- a volume's image at entry
  pub record IsSoundAt (k : ℕ) (v : VolumeConf) : Type 0 where
    pub image : Image
    pub there : at_name v.name t.images ≡ Some image
    pub whole : image.rest ≡ []
    pub shape_is : slice_get shapes k ≡ Some (shape_in config v)
    pub read : image_of (images_read config t) k ≡ Some (reads image.blocks)
    pub here : IsSoundHere shapes (images_read config t) sound k (shape_in config v) (reads image.blocks)

  pub sound_at : (k : ℕ) (v : VolumeConf) → slice_get config.volumes.items k ≡ Some v → IsSoundAt k v
  sound_at k v at =
      let shape : slice_get shapes k ≡ Some (shape_in config v) = slice_get-map (shape_in config) config.volumes.items k ∙ ap (option_map (shape_in config)) at in
      let w = sound.each k (shape_in config v) shape in
      let got : image_of (images_read config t) k ≡ Some w.0 = ap (λ (x : Option (Option (List Block))). unwrap_or x None) w.2 in
      let back = read_back (at_name v.name t.images) w.0 (sym (read_here config t k v at) ∙ got) in
      let read : image_of (images_read config t) k ≡ Some (reads back.image.blocks) = got ∙ ap (λ (bs : List Block). Some bs) (sym back.blocks) in
      record {
        image = back.image;
        there = back.there;
        whole = back.whole;
        shape_is = shape;
        read = read;
        here = sound_here shapes (images_read config t) sound k (shape_in config v) (reads back.image.blocks) shape read;
      }

  -- no bay refuses it
  pub goes_out : (k : ℕ) (v : VolumeConf) (x : IsSoundAt k v) → refusal v.name (part_sizes (shape_in config v)) t ≡ None
  goes_out k v x =
      let size = x.here.is.sized in
      let long = length-map x.image.blocks (λ b. b.now) in
      let parts = all_sizes (shape_in config v) in
      let none = ap length x.whole in
      let bytes : byte_length x.image ≡ 512 * sum (part_sizes (shape_in config v)) = omega (arith, size, long, parts, none) in
      ap (refusal_of (part_sizes (shape_in config v))) x.there
      ∙ ap (λ (b : Bool). cond b None (Some (bay.WrongLength (byte_length x.image)))) (eq-eqb (byte_length x.image) (512 * sum (part_sizes (shape_in config v))) bytes)

  pub volumes_known : (k : ℕ) → k < length shapes → k < 2 ^ 32
  volumes_known k lt = let c = valid.count in let m = length-map config.volumes.items (shape_in config) in omega (arith, lt, c, m)

  -- it has the view that it says
  pub view_of : (k : ℕ) (v : VolumeConf) (x : IsSoundAt k v) (ids : List ℕ) → HasView (reads x.image.blocks) ids → ids ≡ x.here.ids
  view_of k v x ids has =
      let view = x.here.is.view in
      let same : has.block ≡ view.0 = same_Some has.block view.0 (sym has.second ∙ view.1) in
      one_view view.0 ids x.here.ids (subst (λ (b : Block). SpellsView b ids) same has.spelled) view.2

  -- each of its segments has a head
  has_head : (k i : ℕ) (bs : List Block) → IsSoundSegment shapes sound.views k bs → (h : head.SegmentHead) × HasHead (length shapes) bs h
  has_head k i [] (idle empty) = absurd empty
  has_head k i (b ∷ bs) (idle empty) = (head.Free, record { block = b; first = refl; spelled = record { in_range = tt; bytes = empty }; configured = tt })
  has_head k i bs (log owner s ids rs shape view on is_log within) =
      (head.Owned owner, record { block = owned_block owner; first = ap (λ (l : List Block). slice_get l 0) is_log.joined; spelled = record { in_range = is_log.known; bytes = refl }; configured = slice_get_within shapes owner s shape })

  pub no_image_fault : (missing : ℕ → Type 0) (k : ℕ) (v : VolumeConf) (x : IsSoundAt k v) (e : ImageFault) (old new : BayState) → (Rattle.volume_images.specs.Refusals.IsCallFault e → Rose old.faults new.faults)
      → IsImageFault (length shapes) k (shape_in config v) (reads x.image.blocks) e → IsCallRefusal missing old new (fault_in_image k e)
  no_image_fault missing k v x (image_fault.Damaged block) old new cause is =
      let label = x.here.is.label in
      let view = x.here.is.view in
      ⊎_elim
      (λ first. ⊎_elim
      (λ no_label. no_label.1 k (shape_in config v) (record { block = label.0; first = label.1; spelled = label.2 }))
      (λ no_view. ⊎_elim
      (λ (none : Rattle.logger_view.specs.Stored.HasNoView (reads x.image.blocks)). none x.here.ids (record { block = view.0; second = view.1; spelled = view.2 }))
      (λ (itself : Rattle.logger_view.specs.Stored.NamesItself k (reads x.image.blocks)).
      let has : Contains x.here.ids k = subst (λ (ids : List ℕ). Contains ids k) (view_of k v x itself.0 itself.1) itself.2 in
      (of_recursion (λ (id : ℕ). (id < length shapes) × (id ≢ k)) x.here.ids k view.3 has).1 refl)
      no_view.2)
      first)
      (λ headless.
      let h = headless.2 in
      let some = has_head k headless.0 (segment_of (shape_in config v) (reads x.image.blocks) headless.0)
      (segment_sound shapes (images_read config t) sound k (shape_in config v) (reads x.image.blocks) headless.0 x.shape_is x.read h.within) in
      h.headless some.0 some.1)
      is
  no_image_fault missing k v x image_fault.LabelDiffers old new cause is =
      let label = x.here.is.label in
      let same : is.label.block ≡ label.0 = same_Some is.label.block label.0 (sym is.label.first ∙ label.1) in
      let both = one_label label.0 is.id k is.shape (shape_in config v) (subst (λ (b : Block). head.SpellsLabel b is.id is.shape) same is.label.spelled) label.2 in
      is.differs both.0 both.1
  no_image_fault missing k v x image_fault.LabelFault old new cause is = cause tt
  no_image_fault missing k v x (image_fault.SegmentFault index) old new cause is = tt

-- Of images that are sound as they read, a volume is refused only for a failed call, also where others aren't out.

-- the records of those that are taken are some of all
taken_distinct : (every_shape : List Shape) (refused : ℕ → Bool) (images : Images) (v : ℕ) → AreDistinct (covers_of (extents_of v (all_segments every_shape images))) → AreDistinct (covers_of (extents_of v (all_segments every_shape (accepted refused images))))
taken_distinct every_shape refused images v = fewer_distinct (extents_of v (all_segments every_shape (accepted refused images))) (extents_of v (all_segments every_shape images))
    (fewer_images v every_shape (accepted refused images) images (accepted_count 0 refused images) (λ k s at. go k s (refused k) refl))
  where
    go : (k : ℕ) (s : Shape) (t : Bool) → refused k ≡ t → Fewer (extents_of v (segments_of s (image_of (accepted refused images) k))) (extents_of v (segments_of s (image_of images k)))
    go k s true e = subst (λ (c : Option (List Block)). Fewer (extents_of v (segments_of s c)) (extents_of v (segments_of s (image_of images k)))) (sym (accepted_gone refused images k e)) (none (extents_of v (segments_of s (image_of images k))))
    go k s false e = subst (λ (c : Option (List Block)). Fewer (extents_of v (segments_of s c)) (extents_of v (segments_of s (image_of images k)))) (sym (accepted_same refused images k e)) (fewer_same (extents_of v (segments_of s (image_of images k))))

-- what is found passes, and is one of the list
found : {X : Type 0} (test : X → Bool) (xs : List X) (x : X) → find test xs ≡ Some x → (test x ≡ true) × Contains xs x
found test [] x is = absurd (none-some x is)
found {X} test (y ∷ ys) x is = go (found test ys x) (test y) refl is
  where
    go : (find test ys ≡ Some x → (test x ≡ true) × Contains ys x) → (t : Bool) → test y ≡ t → cond t (Some y) (find test ys) ≡ Some x → (test x ≡ true) × Contains (y ∷ ys) x
    go rest true passes is = let same = same_Some y x is in (ap test (sym same) ∙ passes, first_in y x ys same)
    go rest false fails is = let later = rest is in (later.0, later_in y x ys later.1)

-- a refusal for a failed call is one
of_call : {D : Type 0} (n : ℕ) (out : List (Option (ImageRest D))) (old new : BayState) (f : VolumeFault) → IsCallRefusal (λ id. (id < n) × (image_here out id ≡ None)) old new f → IsOfFailedCall out old new f
of_call n out old new (Refused (opening.LoggerMissing id)) why = why.1
of_call n out old new f why = why

module _ {D : Type 0} (tells : Bool) (telling : IsTrue tells) (state : D → State) (config : Config) (valid : IsValid config) (t : Told) (sound : AreSound (shapes_of config) (images_read config t)) (out : List (Option (ImageRest D))) where
  abbrev every_shape : List Shape
  every_shape = shapes_of config

  abbrev images : Images
  images = images_read config t

  -- a logger of the view whose image isn't out
  abbrev IsMissing : ℕ → Type 0
  IsMissing id = (id < length every_shape) × (image_here out id ≡ None)

  module _ (k : ℕ) (v : VolumeConf) (at : slice_get config.volumes.items k ≡ Some v) (o n : Opening D) (is_out : is_some (image_here out k) ≡ true) (is : IsOpeningOf state config out (images_taken config out t) k o) where
    x : IsSoundAt config valid t sound k v
    x = sound_at config valid t sound k v at

    known : k < 2 ^ 32
    known = volumes_known config valid t sound k (slice_get_within every_shape k (shape_in config v) x.shape_is)

    abbrev os : List Owned
    os = all_owned state o.owned.items

    there_too : {s : Owned} → IsSegmentIn every_shape (images_taken config out t) s → IsSegmentIn every_shape images s
    there_too {s} is = record { image = is.image; shape = is.shape; there = (accepted_is (is_kept_home out) images s.logger is.image is.there).1; shape_is = is.shape_is; within = is.within; blocks_are = is.blocks_are; first_is = is.first_is }

    log_of : (s : Owned) → Contains os s → IsSoundLog every_shape images sound k known s
    log_of s has =
        let its = All-contains (IsOwnedIn every_shape (images_taken config out t) k) os s is.owned.each has in
        sound_log every_shape images sound k known s
        (record { segment = there_too its.segment; rest = its.rest; owner = its.owner })

    read_own : image_of (images_taken config out t) k ≡ Some (reads x.image.blocks)
    read_own = accepted_same (is_kept_home out) images k (ap not is_out) ∙ x.read

    same_view : o.view ≡ x.here.ids
    same_view = view_of config valid t sound k v x o.view (is.view (reads x.image.blocks) read_own)

    none_outside : first_outside o.view o.owned.items ≡ None
    none_outside = never_found (λ (p : OwnedPart D). not (is_named o.view p.logger)) o.owned.items
        (λ p has.
        let its = log_of (owned_of state p) (in_map (owned_of state) o.owned.items p has) in
        let ids : its.ids ≡ o.view = same_Some its.ids x.here.ids (sym its.view_is ∙ x.here.view_is) ∙ sym same_view in
        ap not (has_name o.view p.logger (subst (λ (l : List ℕ). Contains l p.logger) ids its.on)))

    opening_of : (r : OpenRefusal) → Refuses tells state o n r → NamesVolumes (length every_shape) (Refused r) → (old new : BayState) → IsCallRefusal IsMissing old new (Refused r)
    opening_of opening.LabelDiffers r names old new = r is.label
    opening_of (opening.LoggerMissing id) r names old new =
        let absent = found (λ (j : ℕ). not (slice_index_or o.present.items j false)) o.view id r.1 in
        let gone : not (is_some (image_here out id)) ≡ true = ap not (sym (ap (λ (l : List Bool). slice_index_or l id false) is.present ∙ out_bit out id)) ∙ absent.0 in
        let named = of_recursion (λ (j : ℕ). (j < length every_shape) × (j ≢ k)) x.here.ids id x.here.is.view.3 (subst (λ (ids : List ℕ). Contains ids id) same_view absent.1) in
        (named.0, no_value (image_here out id) (λ there. cc (gone, there)))
    opening_of (opening.OutsideView logger segment) r names old new = none-some r.2.0 (sym none_outside ∙ r.2.1)
    opening_of (opening.Damaged volume block) r names old new =
        let first = r.1 telling in
        let has : Contains os first.segment = subst (λ (l : List Owned). Contains l first.segment) (sym first.split) (Contains-append_right first.before (first.segment ∷ first.after) first.segment (first_in first.segment first.segment first.after refl)) in
        let its = log_of first.segment has in
        let home : o.want.home ≡ its.shape.home = ap (λ (s : Shape). s.home) (same_Some (shape_of o.want) its.shape (sym is.shape ∙ its.shape_is)) in
        no_fault every_shape images sound k known o.want.home block first.segment its home (subst (λ (w : ℕ). IsFault w o.want.home first.segment block) is.id first.fault)
    opening_of (opening.Twins first_volume first second_volume second) r names old new =
        let twins = r.1 telling in
        no_twins_in every_shape images sound k known (images_taken config out t) (λ j s c shape there. (sound_here every_shape images sound j s c shape (accepted_is (is_kept_home out) images j c there).1).is.sized)
        (taken_distinct every_shape (is_kept_home out) images k (sound.distinct k (slice_get_within every_shape k (shape_in config v) x.shape_is))) os is.owned log_of
        (head_at twins.version first_volume first) (head_at twins.version second_volume second)
        (subst (λ (w : ℕ). AreFirstTwins (heads_in w os) (head_at twins.version first_volume first) (head_at twins.version second_volume second)) is.id twins.twins)
    opening_of (opening.DiskFault p) r names old new = tt
    opening_of opening.NoMemory r names old new = names

  module _ (old new : BayState) (told : old.told ≡ Some t) where
    pub refused_by : (missing : ℕ → Type 0) (k : ℕ) (v : VolumeConf) (f : VolumeFault) → slice_get config.volumes.items k ≡ Some v
        → ((o : OpenRefusal) → RefusesOpening tells state config out old k o → NamesVolumes (length every_shape) (Refused o) → IsCallRefusal missing old new (Refused o))
        → NamesVolumes (length every_shape) f → RefusesVolume tells state config out old new k v f → IsCallRefusal missing old new f
    refused_by missing k v f at opens names why = go f names why
      where
        bay_of : (answer : Option BayFault) → RefusesBay config out old k v answer → answer ≡ None
        bay_of answer why =
            let says = subst (λ (o : Option Told). IfSome o (λ t. refusal v.name (part_sizes (shape_in config v)) t ≡ answer)) told why.1 in
            sym says ∙ goes_out config valid t sound k v (sound_at config valid t sound k v at)

        in_image : (f : VolumeFault) → RefusesImage config out old new k v f → IsCallRefusal missing old new f
        in_image f why =
            let x = sound_at config valid t sound k v at in
            let said = image_said config old new out k v f t told why x.image x.there in
            subst (IsCallRefusal missing old new) (sym why.is_fault) (no_image_fault config valid t sound missing k v x why.image_fault old new why.cause said)

        go : (f : VolumeFault) → NamesVolumes (length every_shape) f → RefusesVolume tells state config out old new k v f → IsCallRefusal missing old new f
        go Absent names why = none-some bay.Absent (sym (bay_of (Some bay.Absent) why))
        go (WrongLength bytes) names why = none-some (bay.WrongLength bytes) (sym (bay_of (Some (bay.WrongLength bytes)) why))
        go BayFailed names why = why.1
        go LabelFault names why = in_image LabelFault why
        go (Refused o) names why = ⊎_elim (in_image (Refused o)) (λ r. opens o r names) why

    pub refused_call : (k : ℕ) (v : VolumeConf) (f : VolumeFault) → slice_get config.volumes.items k ≡ Some v → NamesVolumes (length every_shape) f → RefusesVolume tells state config out old new k v f
        → IsCallRefusal IsMissing old new f
    refused_call k v f at = refused_by IsMissing k v f at (λ o r names. opening_of k v at r.before r.after r.is_out (r.of t telling told) o r.refuses names old new)

pub refuses_sound : {D : Type 0} (tells : Bool) (state : D → State) → RefusesSound tells state
refuses_sound tells state telling config valid out old new t told sound k v f at names why =
    of_call (length (shapes_of config)) out old new f (refused_call tells telling state config valid t sound out old new told k v f at names why)

-- Where the images at entry are sound as they read, a volume is refused only where a call failed.

module _ {D : Type 0} (config : Config) (valid : IsValid config) (t : Told) (sound : AreSound (shapes_of config) (images_read config t)) (tells : Bool) (telling : IsTrue tells) (state : D → State) (old new : BayState) (told : old.told ≡ Some t) (r : Rack D) (rack : IsRack state config new r) (refused : AreRefused tells state config old new r) where
  abbrev out : List (Option (ImageRest D))
  out = r.rest.images.items

  module _ (failed : (k : ℕ) (p : Part) → slice_get r.faults.items k ≡ Some (Some (Refused (opening.DiskFault p))) → HasFaultIn state r.rest ⊎ Rose old.faults new.faults)
      (no_part : HasFaultIn state r.rest → ⊥) (calm : Rose old.faults new.faults → ⊥) where
    no_call : (missing : ℕ → Type 0) → ((id : ℕ) → missing id → ⊥) → (k : ℕ) (f : VolumeFault) → slice_get r.faults.items k ≡ Some (Some f) → IsCallRefusal missing old new f → ⊥
    no_call missing never k BayFailed is why = calm why
    no_call missing never k LabelFault is why = calm why
    no_call missing never k (Refused (opening.LoggerMissing id)) is why = never id why
    no_call missing never k (Refused (opening.DiskFault p)) is why = ⊎_elim no_part calm (failed k p is)
    no_call missing never k f is why = why

    volume : (k : ℕ) → k < length (shapes_of config) → (v : VolumeConf) × (slice_get config.volumes.items k ≡ Some v)
    volume k lt = element_at config.volumes.items k (let n = length-map config.volumes.items (shape_in config) in omega (arith, lt, n))

    fault_there : (k : ℕ) → k < length (shapes_of config) → (f : VolumeFault) → slice_index_or r.faults.items k None ≡ Some f → slice_get r.faults.items k ≡ Some (Some f)
    fault_there k lt f is = slice_get-get_or r.faults.items k None (let n = rack.fault_count in omega (arith, lt, n)) ∙ ap (λ (x : Option VolumeFault). Some x) is

    all_out : (k : ℕ) → k < length (shapes_of config) → IsImageOut out k
    all_out k lt = go (image_here out k) refl (slice_index_or r.faults.items k None) refl
      where
        go : (i : Option (ImageRest D)) → image_here out k ≡ i → (f : Option VolumeFault) → slice_index_or r.faults.items k None ≡ f → IsImageOut out k
        go (Some image) e f is = ap is_some e
        go None e (Some f) is =
            let v = volume k lt in
            let there = fault_there k lt f is in
            absurd (no_call (λ id. ⊥) (λ id never. never) k f there (refused_by tells telling state config valid t sound out old new told (λ id. ⊥) k v.0 f v.1
            (λ o opens names. absurd (let is = opens.is_out in let no = ap is_some e in cc (no, is))) (rack.known k f there) (refused k v.0 f v.1 there)))
        go None e None is =
            let has = of_map (λ (s : Station D). s.id) r.stations.items k ((rack.faults k lt).0 is) in
            let base = All-contains (λ (s : Station D). IsOpenBase config r.shared out (base_of_station s)) r.stations.items has.0 rack.bases has.1 in
            let station = All-contains (λ (s : Station D). IsStation s) r.stations.items has.0 rack.stations has.1 in
            subst (IsImageOut out) (station.id ∙ has.2) base.out

    -- so each volume is open
    pub opens_all : (k : ℕ) → k < length (shapes_of config) → slice_get r.faults.items k ≡ Some None
    opens_all k lt = by_option (slice_index_or r.faults.items k None)
        (λ is. slice_get-get_or r.faults.items k None (let n = rack.fault_count in omega (arith, lt, n)) ∙ ap (λ (x : Option VolumeFault). Some x) is)
        (λ f is.
        let v = volume k lt in
        let there = fault_there k lt f is in
        absurd (no_call (λ id. (id < length (shapes_of config)) × (image_here out id ≡ None))
        (λ id gone. let there = all_out id gone.0 in let none = ap is_some gone.1 in cc (there, none)) k f there
        (refused_call tells telling state config valid t sound out old new told k v.0 f v.1 (rack.known k f there) (refused k v.0 f v.1 there))))

-- Sound images are opened again.

pub opens_all_again : {D : Type 0} (tells : Bool) (state : D → State) → OpensAllAgain tells state
opens_all_again {D} tells state telling config valid closed last entry t q calm keeps sound k lt =
    let sound_now = keeps sound (images_read config t) (reads_are_left config t) in
    let open_ = opens_all config valid t sound_now tells telling state closed last calm.left_is q calm.rack calm.refused calm.failed calm.no_fault calm.calm k lt in
    let none : slice_index_or q.faults.items k None ≡ None = get_or_from_slice_get q.faults.items k None None open_ in
    let has = of_map (λ (s : Station D). s.id) q.stations.items k ((calm.rack.faults k lt).0 none) in
    (has.0, has.1, has.2)
