-- What a survey of all images says of a volume, and what is left where the image of that volume is made behind it.
use Rattle.rack.proofs.Basics.{◌≡◌, ◌≢◌, ◌⊎◌, inl, inr, ⊎_elim, ℕ, zero, suc, ◌+◌, ◌<◌, ◌≤◌, ◌^◌, Bool, List, [], ◌∷◌, ◌++◌, length, map, Option, None, Some, option_map, IfSome, Ok, Err, refl, sym, ap, ◌∙◌, subst, arith}
use Rattle.rack.proofs.Basics.{slice_get, Contains, IsTrue, same_Some, none-some, slice_get_within, slice_get-map, slice_get-get_or, get_or_from_slice_get, cases_eq, true, false, cond, eqb, ◌*◌}
use Rattle.rack.proofs.Terms.{State, Block, IsDisk, TellsContent, IsImage, IsImageOf, Image, Told, BayState, at_name, Shape, Images, image_of, image_size, segment_of, Config, VolumeConf, IsValid, IsTold}
use Rattle.rack.proofs.Terms.{state_of, HasHead, SegHead, Free, Owned, segment_head, shape_in, shapes_of, MayLeave, AreLeft, image_here, segment_here, ImageRest, Said, VolumeFault, GivesBack, HasFaulty, Absent, part_sizes, refusal, refusal_of}
use Rattle.rack.proofs.Terms.{RefusesVolume, WasAccepted, said_at, fault_at, WasAtEntry, LeavesNoMore}
use Rattle.std.specs.List.{range_with_len}
use Rattle.rack.proofs.ClosingBasics.{flat_map-append}
use Rattle.std.specs.Prelude.{sum}
use Rattle.wol_bay.specs.Bay.{byte_length}
use Rattle.wol_bay.specs.declared.fault.BayFault.TheVariants as bay
use Rattle.wol_disk.specs.Zeros.{zeros}
use Rattle.wol_model.specs.Extents.{with_extents}
use Rattle.wol_model.specs.Heads.{Owned as OwnedHead}
use Rattle.wol_model.specs.Images.{all_segments, home_in, recovered_from, segments_of}
use Rattle.wol_model.specs.Recovered.{extents_in, extents_of, recovered}
use Rattle.wol_model.proofs.Images.{idle_none}
use Rattle.wol_config.specs.Configs.{IsValidVolume}
use Rattle.volume_images.specs.Formatted.{formatted}
use Rattle.volume_images.specs.Left.{CameBack, LeavesImage, Unfinished, settled_image}
use Rattle.volume_images.specs.declared.fault.PartName.{PartName}
use Rattle.volume_images.specs.declared.fault.PartName.TheVariants as part
use Rattle.volume_images.specs.declared.fault.RackFault.{RackFault}
use Rattle.volume_images.specs.declared.fault.RackFault.TheVariants as rack_fault
use Rattle.volume_images.proofs.InOrder.{whole_unfinished}
use Rattle.volume_images.proofs.SoundImages.{no_extents, none_kept, one_left, whole_sound}
use Rattle.volume_images.proofs.WholeImages.{segments_idle, whole_home}
use Rattle.rack_parts.proofs.GivenBack.{all_told, left_segment, left_size}
use Rattle.rack_parts.proofs.Members.{a_value, here_within}
use Rattle.rack.specs.Missing.{HadNoSegmentOf, HasSegmentOf, LeavesMissing, NamesInView, RefusesMissing}
use Rattle.rack.specs.Surveying.{Hinders, HindersNot, Surveys}
use Rattle.rack.specs.Surveying as hinder
use Rattle.rack.specs.Opening.{IsOut}
use Rattle.rack.specs.declared.missing.MissingFault.{MissingFault}
use Rattle.rack.specs.declared.missing.MissingFault.TheVariants.{Format}
use Rattle.rack.specs.declared.survey.Survey.{Survey}
use Rattle.rack.proofs.Asking.{refuses_later}
use Rattle.rack.proofs.HeldSegments.{no_log}
use Rattle.rack.proofs.KeptLogs.{owner_of_log}
use Rattle.rack.proofs.LeftImage.{may_at, volume_at}
use Rattle.rack.proofs.Names.{names_differ}
use Rattle.rack.proofs.NewFaults.{told_each}
use Rattle.rack.proofs.Places.{some_at}
use Rattle.rack.proofs.SameRecovered.{segments_are}
use Rattle.rack.proofs.TakenBack.{idle_of_free}

-- ---- Segments, by their heads

-- a segment whose head names another volume, or none, has no record of this one
other_head : (volumes v : ℕ) (bs : List Block) (h : SegHead) → HasHead volumes bs (segment_head h) → (h ≡ Owned v → ⊥) → extents_in v bs ≡ []
other_head volumes v bs Free head other = idle_none v bs (idle_of_free volumes bs head)
other_head volumes v bs (Owned w) head other = no_log v bs (λ rs log. other (ap Owned (sym (owner_of_log volumes w v bs rs head log))))

owned_is : (h : SegHead) (v : ℕ) → segment_head h ≡ OwnedHead v → h ≡ Owned v
owned_is Free v is = absurd (cc is)
owned_is (Owned w) v is = cc is

-- a list of heads has the head that its list of values has
owner_among : (v : ℕ) (heads : List SegHead) → Contains (map segment_head heads) (OwnedHead v) → Contains heads (Owned v)
owner_among v heads (i, within, is) = go (slice_get heads i) refl (sym (slice_get-map segment_head heads i) ∙ slice_get-get_or (map segment_head heads) i (OwnedHead v) within ∙ ap Some is)
  where
    go : (o : Option SegHead) → slice_get heads i ≡ o → option_map segment_head o ≡ Some (OwnedHead v) → Contains heads (Owned v)
    go None at e = absurd (none-some (OwnedHead v) e)
    go (Some h) at e =
        let same : h ≡ Owned v = owned_is h v (same_Some (segment_head h) (OwnedHead v) e) in
        let here : slice_get heads i ≡ Some (Owned v) = at ∙ ap Some same in
        (i, slice_get_within heads i (Owned v) here, get_or_from_slice_get heads i (Owned v) (Owned v) here)

-- segments in a row without a record
row_none : (v : ℕ) (s : Shape) (c : List Block) (from count : ℕ) → ((i : ℕ) → i < from + count → extents_in v (segment_of s c i) ≡ []) → extents_of v (map (segment_of s c) (range_with_len from count)) ≡ []
row_none v s c from zero each = refl
row_none v s c from (suc count) each = λ i. each from (omega arith) i ++ row_none v s c (from + 1) count (λ j lt. each j (omega (arith, lt))) i

-- and those of all images
all_none : (v : ℕ) (shapes : List Shape) (images : Images) → ((k : ℕ) (s : Shape) → slice_get shapes k ≡ Some s → extents_of v (segments_of s (image_of images k)) ≡ []) → extents_of v (all_segments shapes images) ≡ []
all_none v [] images each = refl
all_none v (s ∷ shapes) [] each = refl
all_none v (s ∷ shapes) (c ∷ images) each =
    flat_map-append (extents_in v) (segments_of s c) (all_segments shapes images) ∙ (λ i. each 0 s refl i ++ all_none v shapes images (λ k t at. each (suc k) t at) i)

-- what was told before, where it is told now
told_before : (P : Told → Told → Type 0) (o n : Option Told) (t : Told) → n ≡ Some t → IsTold P o n → (x : Told) × P x t
told_before P None n t is holds = absurd (none-some t (sym holds ∙ is))
told_before P (Some x) None t is holds = absurd holds
told_before P (Some x) (Some y) t is holds = (x, subst (P x) (same_Some y t is) holds)

-- ---- A survey

module _ {D : Type 0} (tells : Bool) (state : D → State) (config : Config) (b b' : BayState) (s : Survey) (is : Surveys {D = D} tells state config b b' s) where
  pub fault_count : length s.faults.items ≡ length config.volumes.items
  fault_count = ap length is.faults ∙ is.asked.fault_count

  pub said_count : length s.said.items ≡ length config.volumes.items
  said_count = ap length is.said ∙ is.asked.said_count

  fault_is : (k : ℕ) → fault_at s.faults.items k ≡ fault_at is.taken.faults.items k
  fault_is k = ap (λ (l : List (Option VolumeFault)). fault_at l k) is.faults

  said_is : (k : ℕ) → said_at s.said.items k ≡ said_at is.taken.said.items k
  said_is k = ap (λ (l : List (Option Said)). said_at l k) is.said

  shape_at : (k : ℕ) (v : VolumeConf) → slice_get config.volumes.items k ≡ Some v → slice_get (shapes_of config) k ≡ Some (shape_in config v)
  shape_at k v at = slice_get-map (shape_in config) config.volumes.items k ∙ ap (option_map (shape_in config)) at

  module _ (k : ℕ) (v : VolumeConf) (at : slice_get config.volumes.items k ≡ Some v) where
    -- an image that was refused
    pub refused_for : (f : VolumeFault) → fault_at s.faults.items k ≡ Some f → RefusesVolume {D = D} tells state config [] b b' k v f
    refused_for f has = go (image_here is.taken.out.items k) refl
      where
        go : (o : Option (ImageRest D)) → image_here is.taken.out.items k ≡ o → RefusesVolume {D = D} tells state config [] b b' k v f
        go None none =
            let r = is.asked.refused k v (slice_get_within config.volumes.items k v at) at none in
            let same : r.fault ≡ f = same_Some r.fault f (sym r.fault_is ∙ sym (fault_is k) ∙ has) in
            refuses_later tells state config [] b is.during b' k v f is.counts (told_each (GivesBack state config is.taken.out.items 0) HasFaulty is.during.told b'.told (λ x y g. (g.more, g.faulty)) is.given)
            (subst (RefusesVolume {D = D} tells state config [] b is.during k v) same r.refuses)
        go (Some r) here = absurd (none-some f (sym (is.asked.out k (shape_in config v) r (shape_at k v at) here).no_fault ∙ sym (fault_is k) ∙ has))

    -- and one that wasn't
    module _ (none : fault_at s.faults.items k ≡ None) where
      was_out : (r : ImageRest D) × (image_here is.taken.out.items k ≡ Some r) × IsOut state (length (shapes_of config)) k (shape_in config v) is.taken r
      was_out = go (image_here is.taken.out.items k) refl
        where
          go : (o : Option (ImageRest D)) → image_here is.taken.out.items k ≡ o → (r : ImageRest D) × (image_here is.taken.out.items k ≡ Some r) × IsOut state (length (shapes_of config)) k (shape_in config v) is.taken r
          go None not =
              let r = is.asked.refused k v (slice_get_within config.volumes.items k v at) at not in
              absurd (none-some r.fault (sym none ∙ fault_is k ∙ r.fault_is))
          go (Some r) here = (r, here, is.asked.out k (shape_in config v) r (shape_at k v at) here)

      abbrev own : Said
      own = was_out.2.said

      own_is : said_at s.said.items k ≡ Some own
      own_is = said_is k ∙ was_out.2.said_is

      module _ (telling : IsTrue tells) (t : Told) (told : b.told ≡ Some t) where
        entry : WasAtEntry state config t k v own was_out.0
        entry = is.asked.entry telling t told k v own was_out.0 at was_out.2.said_is was_out.1

        pub accepted_there : WasAccepted config t k v
        accepted_there = (entry.image, entry.there, entry.says.whole, entry.says.size, own.view, map segment_head own.heads.items, entry.says.accepted)

        pub no_segment_at : (id : ℕ) → HindersNot id k (said_at s.said.items k) (fault_at s.faults.items k) → k ≢ id → HadNoSegmentOf config t id k v
        no_segment_at id not other = (entry.image, entry.there, own.view, map segment_head own.heads.items, entry.says.accepted, λ named. not.unnamed other own own_is named, λ has. not.none_of other own own_is (owner_among id own.heads.items has))

        pub named_at : (id : ℕ) (said : Said) → said_at s.said.items k ≡ Some said → Contains said.view id → NamesInView config t id k v
        named_at id said said_so named =
            let same : said ≡ own = same_Some said own (sym said_so ∙ own_is) in
            (entry.image, entry.there, own.view, entry.says.accepted.named.view, subst (λ (x : Said). Contains x.view id) same named)

        pub segment_at : (id : ℕ) (said : Said) (index : ℕ) → said_at s.said.items k ≡ Some said → slice_get said.heads.items index ≡ Some (Owned id) → HasSegmentOf config t id k v index
        segment_at id said index said_so head =
            let same : said ≡ own = same_Some said own (sym said_so ∙ own_is) in
            let here : slice_get own.heads.items index ≡ Some (Owned id) = subst (λ (x : Said). slice_get x.heads.items index ≡ Some (Owned id)) same head in
            (entry.image, entry.there, entry.says.accepted.each index (OwnedHead id) (slice_get-map segment_head own.heads.items index ∙ ap (option_map segment_head) here))

      -- whatever a crash leaves of it now, its segments have the heads that were read
      module _ (tell : (d : D) → TellsContent (state d)) (sound : (d : D) → IsDisk (state d)) (id : ℕ) (not : HindersNot id k (said_at s.said.items k) (fault_at s.faults.items k)) (other : k ≢ id) (now : Told) (told : b'.told ≡ Some now) where
        pub no_record : (c : Option (List Block)) → MayLeave (at_name v.name now.images) c → extents_of id (segments_of (shape_in config v) c) ≡ []
        no_record None may = refl
        no_record (Some c) may =
            let z : Shape = shape_in config v in
            let r : ImageRest D = was_out.0 in
            let out = was_out.2 in
            let given = told_before (GivesBack state config is.taken.out.items 0) is.during.told b'.told now told is.given in
            let stored = given.1.back k v r (omega arith) at was_out.1 in
            let vs = all_told state tell stored.disks in
            let image : IsImage vs.0 c = (subst (λ (o : Option Image). MayLeave o (Some c)) (stored.stored vs.0 vs.1) may).1 in
            let size : length c ≡ image_size z = left_size state sound k z r out.rest stored.disks stored.together vs.0 vs.1 c image in
            ap (extents_of id) (segments_are z c size) ∙ row_none id z c 0 z.segments (λ i lt.
            let count : length r.segments.items ≡ z.segments = out.rest.count in
            let p = a_value (segment_here r i) (out.all.segments i (omega (arith, lt, count))) in
            let heads : length own.heads.items ≡ z.segments = out.says.count in
            let h = some_at own.heads.items i (omega (arith, lt, heads)) in
            let part : IsImageOf (state_of state p.0).values (segment_of z c i) = left_segment state sound k z r out.rest stored.disks stored.together vs.0 vs.1 c image i p.0 p.1 in
            other_head (length (shapes_of config)) id (segment_of z c i) h.0 (out.heads i p.0 h.0 p.1 h.1 (segment_of z c i) part)
            (λ same. not.none_of other own own_is
            (let here : slice_get own.heads.items i ≡ Some (Owned id) = h.1 ∙ ap Some same in
            (i, slice_get_within own.heads.items i (Owned id) here, get_or_from_slice_get own.heads.items i (Owned id) (Owned id) here))))

  -- an image says of few segments
  pub few_heads : IsValid config → (k : ℕ) (own : Said) → said_at s.said.items k ≡ Some own → length own.heads.items < 2 ^ 32
  few_heads valid k own said =
      let count = said_count in
      let lt : k < length s.said.items = here_within s.said.items k own said in
      let within : k < length config.volumes.items = omega (arith, lt, count) in
      let v = some_at config.volumes.items k within in
      let few : v.0.segments ≤ 1024 = subst (λ (w : VolumeConf). w.segments ≤ 1024) (get_or_from_slice_get config.volumes.items k v.0 v.0 v.1) (valid.volumes k v.0 within).segments in
      go v.0 v.1 within few (image_here is.taken.out.items k) refl
    where
      go : (v : VolumeConf) → slice_get config.volumes.items k ≡ Some v → k < length config.volumes.items → v.segments ≤ 1024 → (o : Option (ImageRest D)) → image_here is.taken.out.items k ≡ o → length own.heads.items < 2 ^ 32
      go v at within few None none = absurd (none-some own (sym (is.asked.refused k v within at none).unsaid ∙ sym (said_is k) ∙ said))
      go v at within few (Some r) here =
          let o = is.asked.out k (shape_in config v) r (shape_at k v at) here in
          let same : o.said ≡ own = same_Some o.said own (sym o.said_is ∙ sym (said_is k) ∙ said) in
          let count : length own.heads.items ≡ v.segments = subst (λ (x : Said). length x.heads.items ≡ v.segments) same o.says.count in
          omega (arith, count, few)

-- ---- What is left

module _ (config : Config) (id : ℕ) (v : VolumeConf) where
  -- where nothing was written, whatever the answer
  pub left_as_was : (e : MissingFault) (o n : Option Told) → IsTold LeavesNoMore o n → IsTold (LeavesMissing config id v (Err e)) o n
  left_as_was e o n less = told_each LeavesNoMore (LeavesMissing config id v (Err e)) o n
      (λ x y no_more. record { others = λ name other c may. no_more name c may; own = inl (λ c may. no_more v.name c may); made = tt }) less

  unfinished_left : (n : ℕ) (p : PartName) (old mid new : Told) → at_name v.name old.images ≡ None → LeavesNoMore old mid → Unfinished v.name id (shape_in config v) v.view p mid new → LeavesMissing config id v (Err (Format (rack_fault.Failed n p))) old new
  unfinished_left n p old mid new absent less left = record {
    others = λ name other c may. less name c (subst (λ (o : Option Image). MayLeave o c) (left.back.others name other) may);
    own = inr (tt, absent, left.image, left.back.here, left.unfinished);
    made = tt;
  }

  same_left : (e : MissingFault) (old mid new : Told) → LeavesNoMore old mid → new ≡ mid → LeavesMissing config id v (Err e) old new
  same_left e old mid new less same = record {
    others = λ name other c may. less name c (subst (λ (t : Told). MayLeave (at_name name t.images) c) same may);
    own = inl (λ c may. less v.name c (subst (λ (t : Told). MayLeave (at_name v.name t.images) c) same may));
    made = tt;
  }

  -- a format that was begun and failed
  pub failed_left : (e : RackFault) (old mid new : Told) → at_name v.name old.images ≡ None → LeavesNoMore old mid → LeavesImage (Err e) v.name id (shape_in config v) v.view mid new → LeavesMissing config id v (Err (Format e)) old new
  failed_left rack_fault.NoMemory old mid new absent less left = same_left (Format rack_fault.NoMemory) old mid new less left
  failed_left (rack_fault.Failed n part.Bay) old mid new absent less left = same_left (Format (rack_fault.Failed n part.Bay)) old mid new less left
  failed_left (rack_fault.Failed n part.Label) old mid new absent less left = unfinished_left n part.Label old mid new absent less left
  failed_left (rack_fault.Failed n part.Home) old mid new absent less left = unfinished_left n part.Home old mid new absent less left
  failed_left (rack_fault.Failed n (part.Segment i)) old mid new absent less left = unfinished_left n (part.Segment i) old mid new absent less left

  abbrev whole : List Block
  whole = formatted id (shape_in config v) v.view

  -- the image is made: no segment has a record of the volume
  module _ (valid : IsValid config) (at : slice_get config.volumes.items id ≡ Some v) (mid new : Told) (back : CameBack v.name (settled_image whole) [] mid new)
      (names : (k : ℕ) (w : VolumeConf) → slice_get config.volumes.items k ≡ Some w → k ≢ id → w.name ≢ v.name)
      (none : (k : ℕ) (w : VolumeConf) → slice_get config.volumes.items k ≡ Some w → k ≢ id → (c : Option (List Block)) → MayLeave (at_name w.name mid.images) c → extents_of id (segments_of (shape_in config w) c) ≡ []) where
    few : 1 ≤ config.segment_blocks
    few = omega (arith, valid.segment_blocks.0)

    module _ (images : Images) (left : AreLeft config new images) where
      here : image_of images id ≡ Some whole
      here = one_left whole (at_name v.name new.images) (image_of images id) back.here (may_at config new images left id v at)

      each : (k : ℕ) (s : Shape) → slice_get (shapes_of config) k ≡ Some s → extents_of id (segments_of s (image_of images k)) ≡ []
      each k s is = ⊎_elim
          (λ (same : k ≡ id).
          let shape : s ≡ shape_in config v = same_Some s (shape_in config v) (sym is ∙ ap (λ (n : ℕ). slice_get (shapes_of config) n) same ∙ slice_get-map (shape_in config) config.volumes.items id ∙ ap (option_map (shape_in config)) at) in
          let image : image_of images k ≡ Some whole = ap (image_of images) same ∙ here in
          (λ i. extents_of id (segments_of (shape i) (image i))) ∙ none_kept id (segments_of (shape_in config v) (Some whole)) (segments_idle id (shape_in config v) v.view few))
          (λ (other : k ≡ id → ⊥).
          let w = volume_at config k s is in
          let may : MayLeave (at_name w.0.name mid.images) (image_of images k) = subst (λ (o : Option Image). MayLeave o (image_of images k)) (back.others w.0.name (names k w.0 w.1 other)) (may_at config new images left k w.0 w.1) in
          subst (λ (z : Shape). extents_of id (segments_of z (image_of images k)) ≡ []) w.2 (none k w.0 w.1 other (image_of images k) may))
          (cases_eq k id)

      pub made_zeros : recovered_from (shapes_of config) images id ≡ zeros v.home
      unfolding recovered_from recovered
      made_zeros =
          let shape : slice_get (shapes_of config) id ≡ Some (shape_in config v) = slice_get-map (shape_in config) config.volumes.items id ∙ ap (option_map (shape_in config)) at in
          let home : home_in (slice_get (shapes_of config) id) (image_of images id) ≡ zeros v.home =
          (λ i. home_in (shape i) (here i)) ∙ whole_home id (shape_in config v) v.view few in
          let extents : extents_of id (all_segments (shapes_of config) images) ≡ [] = all_none id (shapes_of config) images each in
          (λ i. with_extents (home i) (extents i)) ∙ no_extents (zeros v.home)

    pub made_left : (old : Told) → LeavesNoMore old mid → at_name v.name old.images ≡ None
        → ((k : ℕ) (w : VolumeConf) → slice_get config.volumes.items k ≡ Some w → k ≢ id → HadNoSegmentOf config old id k w) → LeavesMissing config id v (Ok tt) old new
    made_left old less absent no_segment =
        let within = slice_get_within config.volumes.items id v at in
        let valid_volume : IsValidVolume (length config.volumes.items) id v = subst (IsValidVolume (length config.volumes.items) id) (get_or_from_slice_get config.volumes.items id v v at) (valid.volumes id v within) in
        let few_volumes = valid.count.1 in
        record {
          others = λ name other c may. less name c (subst (λ (o : Option Image). MayLeave o c) (back.others name other) may);
          own = inr (tt, absent, settled_image whole, back.here, whole_unfinished config valid id v);
          made = record {
            absent = absent;
            no_segment = no_segment;
            made = back.here;
            sound = λ views. whole_sound config valid views id v (omega (arith, within, few_volumes)) valid_volume;
            zeros_ = λ images left. made_zeros images left;
          };
        }

-- ---- What the survey says of the image that is to be made

-- what is told of a bay once it tells
by_told : (o : Option Told) (P : Told → Type 0) → ((t : Told) → o ≡ Some t → P t) → IfSome o P
by_told None P each = tt
by_told (Some t) P each = each t refl

-- two steps, told of what was before the first
pub told_on : (P Q R : Told → Told → Type 0) (e o n : Option Told) → ((x y z : Told) → e ≡ Some x → o ≡ Some y → P x y → Q y z → R x z) → IsTold P e o → IsTold Q o n → IsTold R e n
told_on P Q R None None n each first then = then
told_on P Q R None (Some o) n each first then = absurd (cc first)
told_on P Q R (Some e) None n each first then = absurd first
told_on P Q R (Some e) (Some o) None each first then = absurd then
told_on P Q R (Some e) (Some o) (Some n) each first then = each e o n refl refl first then

-- an image that isn't handed out since it isn't there isn't there
absent_is : (sizes : List ℕ) (image : Option Image) → refusal_of sizes image ≡ Some bay.Absent → image ≡ None
absent_is sizes None is = refl
absent_is sizes (Some i) is = go (eqb (byte_length i) (512 * sum sizes)) is
  where
    go : (t : Bool) → cond t None (Some (bay.WrongLength (byte_length i))) ≡ Some bay.Absent → Some i ≡ None
    go true e = absurd (cc e)
    go false e = absurd (cc e)

module _ {D : Type 0} (tells : Bool) (state : D → State) (config : Config) (b b' : BayState) (s : Survey) (is : Surveys {D = D} tells state config b b' s) where
  within_faults : (k : ℕ) (v : VolumeConf) → slice_get config.volumes.items k ≡ Some v → k < length s.faults.items
  within_faults k v at = let count = fault_count tells state config b b' s is in let lt = slice_get_within config.volumes.items k v at in omega (arith, count, lt)

  volume_of : (k : ℕ) → k < length s.faults.items → (v : VolumeConf) × (slice_get config.volumes.items k ≡ Some v)
  volume_of k lt = let count = fault_count tells state config b b' s is in some_at config.volumes.items k (omega (arith, count, lt))

  -- what stands in the way is why the image isn't made
  pub refuses : (id k : ℕ) → k < length s.faults.items → (f : MissingFault) → Hinders id k (said_at s.said.items k) (fault_at s.faults.items k) f → RefusesMissing {D = D} tells state config id b b' f
  refuses id k lt f (hinder.refused g has not_absent) =
      let v = volume_of k lt in
      (not_absent, v.0, v.1, refused_for tells state config b b' s is k v.0 v.1 g has)
  refuses id k lt f (hinder.there same none) =
      let v = volume_of k lt in (
        v.0,
        ap (λ (n : ℕ). slice_get config.volumes.items n) (sym same) ∙ v.1,
        λ telling. by_told b.told (λ t. WasAccepted config t id v.0) (λ t told. subst (λ (n : ℕ). WasAccepted config t n v.0) same (accepted_there tells state config b b' s is k v.0 v.1 none telling t told)),
      )
  refuses id k lt f (hinder.in_view own other none said named) =
      let v = volume_of k lt in (
        other,
        v.0,
        v.1,
        λ telling. by_told b.told (λ t. NamesInView config t id k v.0) (λ t told. named_at tells state config b b' s is k v.0 v.1 none telling t told id own said named),
      )
  refuses id k lt f (hinder.segment own index other none said head) =
      let v = volume_of k lt in (
        other,
        v.0,
        v.1,
        λ telling. by_told b.told (λ t. HasSegmentOf config t id k v.0 index) (λ t told. segment_at tells state config b b' s is k v.0 v.1 none telling t told id own index said head),
      )

  module _ (valid : IsValid config) (id : ℕ) (v : VolumeConf) (at : slice_get config.volumes.items id ≡ Some v) (telling : IsTrue tells) (tell : (d : D) → TellsContent (state d)) (sound : (d : D) → IsDisk (state d))
      (free : (k : ℕ) → k < length s.faults.items → HindersNot id k (said_at s.said.items k) (fault_at s.faults.items k)) where
    pub not_there : (t : Told) → b.told ≡ Some t → at_name v.name t.images ≡ None
    not_there t told =
        let r = refused_for tells state config b b' s is id v at Absent ((free id (within_faults id v at)).own refl) in
        absent_is (part_sizes (shape_in config v)) (at_name v.name t.images) (subst (λ (o : Option Told). IfSome o (λ u. refusal v.name (part_sizes (shape_in config v)) u ≡ Some bay.Absent)) told r.1)

    pub made_behind : (new : Option Told) → IsTold LeavesNoMore b.told b'.told → IsTold (CameBack v.name (settled_image (formatted id (shape_in config v) v.view)) []) b'.told new → IsTold (LeavesMissing config id v (Ok tt)) b.told new
    made_behind new less back = told_on LeavesNoMore (CameBack v.name (settled_image (formatted id (shape_in config v) v.view)) []) (LeavesMissing config id v (Ok tt)) b.told b'.told new
        (λ x y z told now no_more came.
        made_left config id v valid at y z came
        (λ k w there other. names_differ config valid k id w v there at other)
        (λ k w there other c may. let not = free k (within_faults k w there) in no_record tells state config b b' s is k w there (not.other other) tell sound id not other y now c may)
        x no_more (not_there x told)
        (λ k w there other. let not = free k (within_faults k w there) in no_segment_at tells state config b b' s is k w there (not.other other) telling x told id not other))
        less back
