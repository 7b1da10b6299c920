-- What was taken out for a rack; and images that went back to their bay after want of memory for the pools.
use Rattle.rack.proofs.Basics.{◌≡◌, ⊎_elim, ℕ, ◌+◌, ◌<◌, ◌≤◌, Bool, List, [], ◌∷◌, ◌++◌, length, Option, None, Some, option_map, IfSome, refl, sym, ap, ◌∙◌, subst, arith, ◌≢◌, ◌⊎◌, inl, inr}
use Rattle.rack.proofs.Basics.{◌*◌, true, false, map, is_some, not, get_or_from_slice_get, none-some, same_Some, slice_get_within, slice_get-map, slice_get, IsSome, slice_index_or, slice_range}
use Rattle.rack.proofs.Basics.{IsTrue, length-map, with_items, with_items_is}
use Rattle.rack.proofs.Terms.{Block, State, IsDisk, TellsContent, IsImage, IsImageOf, reads, image_reads, BayState, outs, Image, Told, at_name, Shape, IsIdle, Images, image_of, segment_of}
use Rattle.rack.proofs.Terms.{IsSoundSegment, AreSound, Config, VolumeConf, IsValid, segment_head, SegHead, Free, Owned, Spun, state_of, HasHead, shape_in, shapes_of, NoneOut, MayLeave}
use Rattle.rack.proofs.Terms.{AreLeft, IsTold, image_here, segment_here, IsImageRest, out_names, IsComplete, LeavesNoneOut, GivesBack, IsThere, LeavesAll, KeepsAllSound, HasFaulty}
use Rattle.rack.proofs.Terms.{RefusesVolume, WereThere, AreAsked, HasSentOut, said_at, StayedSo, LeavesNoMore, WasAtEntry, CanIssue, Restores, IsRestored, Said, ImageRest, RecoversSame, VolumeFault}
use Rattle.wol_model.specs.Recovered.{extents_in}
use Rattle.wol_model.proofs.Images.{idle_none}
use Rattle.rack_parts.proofs.Members.{a_value, here_within}
use Rattle.rack.specs.BayRuns.{BayLeft, KeepsHome, QuietRun, SegmentFate, kept as left_as_was, used}
use Rattle.rack.specs.Opens.{KeepsOthers, front_of}
use Rattle.rack.proofs.BayRuns.{left_of_less, no_history, run_of_none}
use Rattle.rack.proofs.KeptLogs.{image_slice}
use Rattle.rack.proofs.LoggersNamed.{image_is_read}
use Rattle.volume_images.specs.Accepted.{head_place}
use Rattle.volume_images.specs.Volumes.{images_read}
use Rattle.rack.proofs.Places.{some_at, both_slices, slice_join}
use Rattle.rack.proofs.Names.{names_differ}
use Rattle.rack.proofs.CutParts.{reads_range}
use Rattle.rack.proofs.KeptImages.{IsKeptImage, AreTwo, IsBefore, kept_before, before_same, before_all}
use Rattle.rack.proofs.LeftImage.{IsLeftNow, left_image, may_at, out_taken, volume_at}
use Rattle.rack.proofs.NewFaults.{told_each}
use Rattle.rack.proofs.SameRecovered.{SegmentsKeep, keeping}
use Rattle.rack.proofs.SoundBefore.{sound_before}
use Rattle.rack.proofs.Cases.{by_option, none_or, some_or}
use Rattle.rack.specs.Opens.{KeepsViews}
use Rattle.rack.specs.Owners.{IsSegmentOf, KeepsLog, blocks_of_segment}
use Rattle.rack.proofs.KeptLogs.{log_may, logs_stay, owned_not_idle}
use Rattle.rack.specs.declared.images.Images.{Images as Asked}
use Rattle.rack.proofs.Asking.{refuses_later, told_then}
use Rattle.rack.proofs.ImagesSent.{names_alike, none_named}
use Rattle.rack.proofs.StillThere.{WasThere, conf_there, kept_home, there_may}
use Rattle.rack.specs.Opening.{IsOut, BringsAllBack}

-- What was taken out for a rack, from which it is set up.

-- a segment with a free head is idle
pub idle_of_free : (volumes : ℕ) (c : List Block) → HasHead volumes c (segment_head Free) → IsIdle c
idle_of_free volumes c head = go c head.first
  where
    go : (bs : List Block) → slice_get bs 0 ≡ Some head.block → IsIdle bs
    go [] is = absurd (none-some head.block is)
    go (b ∷ bs) is = same_Some b head.block is ∙ head.spelled.bytes

-- a head is free or names an owner
by_head : {P : Type 0} (said : Said) (j : ℕ) → j < length said.heads.items → (slice_get said.heads.items j ≡ Some Free → P) → ((owner : ℕ) → slice_get said.heads.items j ≡ Some (Owned owner) → P) → P
by_head {P} said j lt free owned = let x = some_at said.heads.items j lt in by x.0 x.1
  where
    by : (h : SegHead) → slice_get said.heads.items j ≡ Some h → P
    by Free e = free e
    by (Owned owner) e = owned owner e

-- ---- Where no image may be left that might not have been before

left_less : (config : Config) (old new : Told) → LeavesNoMore old new → (images : Images) → AreLeft config new images → AreLeft config old images
left_less config old new less images left = record { count = left.count; each = λ k d lt. less (slice_index_or config.volumes.items k d).name (image_of images k) (left.each k d lt) }

abbrev no_one : ℕ → Bool
no_one k = false

none_opened : {X : Type 0} (v : ℕ) → no_one v ≡ true → X
none_opened v is = absurd (cc (is))

module _ {D : Type 0} (tells : Bool) (state : D → State) (config : Config) (b b' : BayState) where
  all_less : (old new : Told) → LeavesNoMore old new → LeavesAll tells state config b b' old new
  all_less old new less = record {
    refused = no_one;
    cause = λ k v at is. absurd (cc (is));
    kept = λ k v at or c may. less v.name c may;
    opened = no_one;
    are_opened = λ v is. none_opened v is;
    left = λ images left v there. (images, left_less config old new less images left, record { but = refl; all = λ or. refl });
    logs = λ v conf at or. logs_stay config v old new less;
    there = λ images left v all. all images (left_less config old new less images left);
  }

  sound_less : (old new : Told) → LeavesNoMore old new → KeepsAllSound config old new
  sound_less old new less all images left = all images (left_less config old new less images left)

  views_less : (old new : Told) → LeavesNoMore old new → KeepsViews config old new
  views_less old new less images left k v at blocks here = inl (less v.name (Some blocks) (subst (MayLeave (at_name v.name new.images)) here (may_at config new images left k v at)))

  told_less : {P : Told → Told → Type 0} → ((old new : Told) → LeavesNoMore old new → P old new) → IsTold LeavesNoMore b.told b'.told → IsTold P b.told b'.told
  told_less {P} each = told_each LeavesNoMore P b.told b'.told each

  pub left_back : IsTold LeavesNoMore b.told b'.told → IsTold (LeavesAll tells state config b b') b.told b'.told
  left_back = told_less all_less

  pub sound_back : IsTold LeavesNoMore b.told b'.told → IsTold (KeepsAllSound config) b.told b'.told
  sound_back = told_less sound_less

  pub views_back : IsTold LeavesNoMore b.told b'.told → IsTold (KeepsViews config) b.told b'.told
  views_back = told_less views_less

  pub run_back : (IsTrue tells → IsTold LeavesNoMore b.told b'.told) → IsTold (KeepsOthers config) b.told b'.told → b.faults ≤ b'.faults → QuietRun tells config b b'
  run_back less others counts = run_of_none tells config b b' (λ k. true) (λ telling. told_less {P = BayLeft config (λ k. true) no_history} (left_of_less config) (less telling)) others counts

  pub brought_back : outs b' ≡ outs b → (IsTrue tells → IsTold LeavesNoMore b.told b'.told) → IsTold (KeepsOthers config) b.told b'.told → b.faults ≤ b'.faults → BringsAllBack tells state config b b'
  brought_back home less others counts = record { run = run_back less others counts; home = home; left = λ telling. left_back (less telling); sound = λ telling. sound_back (less telling); views = λ telling. views_back (less telling) }

-- nothing was done
pub nothing_done : (o : Option Told) → IsTold LeavesNoMore o o
nothing_done None = refl
nothing_done (Some t) = λ name c may. may

-- ---- After want of memory for the pools

-- one segment is as it was, or idle as it was
abbrev KeepsSegment : (k : ℕ) → (now was : List Block) → Type 0
KeepsSegment k now was = (now ≡ was) ⊎ (IsIdle now × IsIdle was)

-- the front is as it was
abbrev KeepsFront : (k : ℕ) → (now was : List Block) → Type 0
KeepsFront k now was = was ≡ now

keeps_front : (k i : ℕ) (now was : List Block) → KeepsFront k now was → i < 2 → slice_get was i ≡ slice_get now i
keeps_front k i now was same lt = ap (λ (l : List Block). slice_get l i) same

same_front : (v : ℕ) (now was : List Block) → KeepsFront v now was → was ≡ now
same_front v now was same = same

keeps_extents : (v k : ℕ) (c d : List Block) → KeepsSegment k c d → extents_in v c ≡ extents_in v d
keeps_extents v k c d keeps = ⊎_elim (λ (same : c ≡ d). ap (extents_in v) same) (λ idle. idle_none v c idle.0 ∙ sym (idle_none v d idle.1)) keeps

keeps_sound : (shapes : List Shape) (views : List (List ℕ)) (k : ℕ) (c d : List Block) → KeepsSegment k c d → IsSoundSegment shapes views k d → IsSoundSegment shapes views k c
keeps_sound shapes views k c d keeps sound = ⊎_elim (λ (same : c ≡ d). subst (IsSoundSegment shapes views k) (sym same) sound) (λ idle. IsSoundSegment.idle idle.0) keeps

-- ---- What was taken out

module _ {D : Type 0} (tells : Bool) (state : D → State) (config : Config) (b b1 : BayState) (i : Asked D)
    (asked : AreAsked tells state config b b1 (length config.volumes.items) i) where
  -- what isn't out says nothing
  pub unsaid : (k : ℕ) (s : Shape) → slice_get (shapes_of config) k ≡ Some s → image_here i.out.items k ≡ None → said_at i.said.items k ≡ None
  unsaid k s is none = let v = volume_at config k s is in (asked.refused k v.0 (slice_get_within config.volumes.items k v.0 v.1) v.1 none).unsaid

  -- the pools may be made
  pub may_issue : (k : ℕ) (s : Shape) → slice_get (shapes_of config) k ≡ Some s → CanIssue state (length config.volumes.items) k s (said_at i.said.items k) (image_here i.out.items k)
  may_issue k s is = go (said_at i.said.items k) (image_here i.out.items k) refl refl
    where
      go : (o : Option Said) (p : Option (ImageRest D)) → said_at i.said.items k ≡ o → image_here i.out.items k ≡ p → CanIssue state (length config.volumes.items) k s o p
      go None None e f = tt
      go (Some said) None e f = absurd (none-some said (sym (unsaid k s is f) ∙ e))
      go None (Some r) e f = let out = asked.out k s r is f in absurd (none-some out.said (sym e ∙ out.said_is))
      go (Some said) (Some r) e f =
          let out = asked.out k s r is f in
          let same : out.said ≡ said = same_Some out.said said (sym out.said_is ∙ e) in
          let many = length-map config.volumes.items (shape_in config) in
          subst (λ (x : Said). CanIssue state (length config.volumes.items) k s (Some x) (Some r)) same
          (record {
            count = out.says.count;
            segments = record {
              count = out.rest.count ∙ sym out.says.count;
              here = λ j lt. out.all.segments j (let c = out.says.count in let d = out.rest.count in omega (arith, lt, c, d));
              blank = λ j p free here.
                  let there : segment_here r j ≡ Some p = get_or_from_slice_get r.segments.items j (Some p) None here in
                  record {
                    part = out.rest.segments j p there;
                    idle = λ c image. idle_of_free (length (shapes_of config)) c (out.heads j p Free there free c image);
                  };
            };
            owners = λ j owner owned. subst (λ (n : ℕ). owner < n) many (out.says.configured j (Owned owner) owned);
          })

  -- ---- After want of memory for the pools

  module _ (new lent : List (Option (ImageRest D))) (saids : List (Option Said)) (long : length new ≡ length lent) (lent_are : lent ≡ i.out.items) (saids_are : saids ≡ i.said.items)
      (gave : (k : ℕ) → Restores state k config.segment_blocks (slice_index_or saids k None) (slice_index_or lent k None) (slice_index_or new k None)) where
    -- the images that go back
    abbrev pub out : List (Option (ImageRest D))
    out = (with_items i.out new).items

    out_is : out ≡ new
    out_is = with_items_is i.out new (let count = long ∙ ap length lent_are in omega (arith, count, i.out.ok.0))

    restores : (k : ℕ) → Restores state k config.segment_blocks (said_at i.said.items k) (image_here i.out.items k) (image_here out k)
    restores k = subst (λ (l : List (Option (ImageRest D))). Restores state k config.segment_blocks (said_at i.said.items k) (image_here i.out.items k) (image_here l k)) (sym out_is)
        (subst (λ (l : List (Option (ImageRest D))). Restores state k config.segment_blocks (said_at i.said.items k) (slice_index_or l k None) (slice_index_or new k None)) lent_are
        (subst (λ (l : List (Option Said)). Restores state k config.segment_blocks (slice_index_or l k None) (slice_index_or lent k None) (slice_index_or new k None)) saids_are (gave k)))

    same_out : (o : Option Said) (blocks k : ℕ) (old new : Option (ImageRest D)) → Restores state k blocks o old new → is_some new ≡ is_some old
    same_out None blocks k old new e = ap is_some e
    same_out (Some said) blocks k None new e = ap is_some e
    same_out (Some said) blocks k (Some r) None e = absurd e
    same_out (Some said) blocks k (Some r) (Some n) e = refl

    pub same_here : (k : ℕ) → is_some (image_here out k) ≡ is_some (image_here i.out.items k)
    same_here k = same_out (said_at i.said.items k) config.segment_blocks k (image_here i.out.items k) (image_here out k) (restores k)

    -- an image that is out was out, and has its parts again
    pub restored : (k : ℕ) (s : Shape) (n : ImageRest D) → slice_get (shapes_of config) k ≡ Some s → image_here out k ≡ Some n
        → (q : ImageRest D) × (image_here i.out.items k ≡ Some q) × (of : IsOut state (length (shapes_of config)) k s i q) × IsRestored state k config.segment_blocks of.said q n
    restored k s n is here =
        let q = some_or (image_here i.out.items k) (λ e. let f = same_here k in let g = ap is_some e in let h = ap is_some here in cc (f, g, h)) in
        let of = asked.out k s q.0 is q.1 in
        let back = subst (λ (x : Option (ImageRest D)). Restores state k config.segment_blocks (Some of.said) (Some q.0) x) here
        (subst (λ (x : Option (ImageRest D)). Restores state k config.segment_blocks (Some of.said) x (image_here out k)) q.1 (subst (λ (x : Option Said). Restores state k config.segment_blocks x (image_here i.out.items k) (image_here out k)) of.said_is (restores k))) in
        (q.0, q.1, of, back)

    -- an image with all of its parts again
    pub record IsWholeAgain (k : ℕ) (s : Shape) (n : ImageRest D) : Type 0 where
      pub rest : IsImageRest state k s n
      pub all : IsComplete n

    pub again : (k : ℕ) (s : Shape) (n : ImageRest D) → slice_get (shapes_of config) k ≡ Some s → image_here out k ≡ Some n → IsWholeAgain k s n
    again k s n is here =
        let x = restored k s n is here in
        let was = x.2 in
        let said = was.said in
        let restored = x.3 in
        let heads = was.says.count in
        record {
          rest = record {
            label = subst (Rattle.rack_parts.specs.Rests.IsPart state k 2) (sym restored.same.label) was.rest.label;
            home = subst (λ (h : Option (Spun D)). IfSome h (Rattle.rack_parts.specs.Rests.IsPart state k s.home)) (sym restored.same.home) was.rest.home;
            count = restored.same.count ∙ was.rest.count;
            segments = λ j p there. by_head said j (let l = here_within n.segments.items j p there in let c = restored.same.count in let d = was.rest.count in omega (arith, l, c, d, heads))
                (λ free. let found = restored.free j free in
                subst (λ (m : ℕ). Rattle.rack_parts.specs.Rests.IsPart state k m p) (sym blocks) (subst (Rattle.rack_parts.specs.Rests.IsPart state k config.segment_blocks) (same_Some found.0 p (sym found.1 ∙ there)) found.2.part))
                (λ owner owned. was.rest.segments j p (sym (restored.owned j owner owned) ∙ there));
            row = subst (λ x. (x.items ≡ []) × (s.segments ≤ Rattle.std.specs.Prelude.vec_capacity x)) (sym restored.same.row) was.rest.row;
            room = subst (λ x. (x.items ≡ []) × (2 + s.segments ≤ Rattle.std.specs.Prelude.vec_capacity x)) (sym restored.same.room) was.rest.room;
          };
          all = record {
            home = subst (λ (h : Option (Spun D)). IsSome h) (sym restored.same.home) was.all.home;
            segments = λ j lt. by_head said j (let c = restored.same.count in let d = was.rest.count in omega (arith, lt, c, d, heads))
                (λ free. ap is_some (restored.free j free).1)
                (λ owner owned. ap is_some (restored.owned j owner owned) ∙ was.all.segments j (let c = restored.same.count in omega (arith, lt, c)));
          };
        }
      where
        blocks : s.segment_blocks ≡ config.segment_blocks
        blocks = let v = volume_at config k s is in ap (λ (x : Shape). x.segment_blocks) (sym v.2)

    pub whole_again : (k : ℕ) (r : ImageRest D) → image_here out k ≡ Some r → IsComplete r
    whole_again k r here =
        let lt = here_within out k r here in
        let s = some_at (shapes_of config) k (let m = length-map config.volumes.items (shape_in config) in let c = ap length out_is ∙ long ∙ ap length lent_are ∙ asked.out_count in omega (arith, lt, c, m)) in
        (again k s.0 r s.1 here).all

    -- the names of those that are out are the same
    pub same_names : out_names config config.volumes.items out ≡ out_names config config.volumes.items i.out.items
    same_names = names_alike config config.volumes.items out i.out.items same_here

    -- nothing of the configuration is out any more
    pub home_again : NoneOut config b → HasSentOut config i.out.items (length config.volumes.items) b b1 → (b2 : BayState) → LeavesNoneOut config out (outs b1) (outs b2) → outs b2 ≡ outs b
    home_again home sent b2 none = none.again (outs b) (none_named config b home) (sent.outs ∙ ap (λ names. option_map (λ os. os ++ names) (outs b)) (sym same_names))

    -- Images that went back to their bay after want of memory for the pools, in which free segments may be other blank ones.

    module _ (valid : IsValid config) (b2 : BayState) (sent : HasSentOut config i.out.items (length config.volumes.items) b b1) (back : IsTold (GivesBack state config out 0) b1.told b2.told) (counts : b1.faults ≤ b2.faults) where
      -- an image that isn't out gives no segments
      abbrev pub not_taken : ℕ → Bool
      not_taken k = not (is_some (image_here i.out.items k))

      shape_is : (k : ℕ) (conf : VolumeConf) → slice_get config.volumes.items k ≡ Some conf → slice_get (shapes_of config) k ≡ Some (shape_in config conf)
      shape_is k conf at = slice_get-map (shape_in config) config.volumes.items k ∙ ap (option_map (shape_in config)) at

      cause : (k : ℕ) (v : VolumeConf) → slice_get config.volumes.items k ≡ Some v → not_taken k ≡ true → (f : VolumeFault) × RefusesVolume {D = D} tells state config [] b b2 k v f
      cause k v at is =
          let none = none_or (image_here i.out.items k) (λ r e. let f = ap is_some e in cc (f, is)) in
          let why = asked.refused k v (slice_get_within config.volumes.items k v at) at none in (
            why.fault,
            refuses_later tells state config [] b b1 b2 k v why.fault counts
                (told_each (GivesBack state config out 0) HasFaulty b1.told b2.told (λ x y g. (g.more, g.faulty)) back) why.refuses,
          )

      -- an image with its parts as they were, but for free segments
      record IsBack (k : ℕ) (conf : VolumeConf) (t : Told) (n : ImageRest D) : Type 0 where
        pub own : Said
        pub was : ImageRest D
        pub restored : IsRestored state k config.segment_blocks own was n
        pub entry : WasAtEntry state config t k conf own was
        pub heads : length own.heads.items ≡ (shape_in config conf).segments
        pub complete : (j : ℕ) → j < (shape_in config conf).segments → IsSome (segment_here was j)

      module _ (telling : IsTrue tells) (tell_all : (d : D) → TellsContent (state d)) (sound : (d : D) → IsDisk (state d)) (t t1 t2 : Told) (is : b.told ≡ Some t)
          (stayed : StayedSo config i.out.items (length config.volumes.items) t t1) (given : GivesBack state config out 0 t1 t2) where
        is_back : (k : ℕ) (conf : VolumeConf) (n : ImageRest D) → slice_get config.volumes.items k ≡ Some conf → image_here out k ≡ Some n → IsBack k conf t n
        is_back k conf n at here =
            let x = restored k (shape_in config conf) n (shape_is k conf at) here in
            record {
              own = x.2.said;
              was = x.0;
              restored = x.3;
              entry = asked.entry telling t is k conf x.2.said x.0 at x.2.said_is x.1;
              heads = x.2.says.count;
              complete = λ j lt. x.2.all.segments j (let c = x.2.rest.count in omega (arith, lt, c));
            }

        -- each image that was out might be opened as it read
        were_there : WereThere config i.out.items t
        were_there k conf at out =
            let q = some_or (image_here i.out.items k) (λ e. let none = ap is_some e in cc (none, out)) in
            let of = asked.out k (shape_in config conf) q.0 (shape_is k conf at) q.1 in
            let w = asked.entry telling t is k conf of.said q.0 at of.said_is q.1 in
            (w.image, w.there, w.says.whole, w.says.size, of.said.view, map segment_head of.said.heads.items, w.says.accepted)

        -- a refused image may be left only as before
        refused_kept : (k : ℕ) (conf : VolumeConf) → slice_get config.volumes.items k ≡ Some conf → not_taken k ≡ true → (c : Option (List Block)) → MayLeave (at_name conf.name t2.images) c → MayLeave (at_name conf.name t.images) c
        refused_kept k conf at is_not c may =
            let differs : (j : ℕ) (w : VolumeConf) → slice_get config.volumes.items j ≡ Some w → is_some (image_here i.out.items j) ≡ true → conf.name ≢ w.name =
            λ j w found there. names_differ config valid k j conf w at found (λ (e : k ≡ j). let f = ap (λ (m : ℕ). is_some (image_here i.out.items m)) e in cc (f, there, is_not)) in
            let same = given.others conf.name (λ j w le found there. differs j w found (sym (same_here j) ∙ there)) in
            stayed.stayed conf.name (λ j w there found e. differs j w found there (sym e)) c (subst (λ (x : Option Image). MayLeave x c) same may)

        module _ (images : Images) (left : AreLeft config t2 images) where
          kept : (k : ℕ) (conf : VolumeConf) → slice_get config.volumes.items k ≡ Some conf → not_taken k ≡ false → IsKeptImage (KeepsFront k) (KeepsSegment k) (shape_in config conf) (at_name conf.name t.images) (image_of images k)
          kept k conf at taken = go (image_here out k) refl
            where
              s : Shape
              s = shape_in config conf

              go : (o : Option (ImageRest D)) → image_here out k ≡ o → IsKeptImage (KeepsFront k) (KeepsSegment k) s (at_name conf.name t.images) (image_of images k)
              go None e = absurd (let same = same_here k in let f = ap is_some e in cc (same, f, taken))
              go (Some n) e =
                  let ba = is_back k conf n at e in
                  let whole = again k s n (shape_is k conf at) e in
                  let now = left_image state tell_all sound config t2 images left k s n (shape_is k conf at) whole.rest given.more (λ v of. given.back k v n (omega arith) of e) in
                  let before = ba.entry.image in
                  let home = a_value n.home whole.all.home in
                  record {
                    entered = record { image = before; there = ba.entry.there; whole = ba.entry.says.whole; size = ba.entry.says.size };
                    now = now.0;
                    is = now.1;
                    sized = now.2.size;
                    front = (
                      slice_range now.0 0 (2 + s.home),
                      subst (λ (c : List Block). IsImage (slice_range before.blocks 0 (2 + s.home)) c) (slice_join now.0 0 2 (2 + s.home) (omega arith) (omega arith))
                          (both_slices before.blocks 0 2 (2 + s.home) (slice_range now.0 0 2) (slice_range now.0 2 (2 + s.home)) (omega arith) (omega arith)
                          (subst (λ (c : List Block). IsImage (slice_range before.blocks 0 2) c)
                          (reads_range before.blocks 0 2 ∙ sym (ba.entry.cut.label (slice_range now.0 0 2) (subst (λ (p : Spun D). IsImageOf (state_of state p).values (slice_range now.0 0 2)) ba.restored.same.label now.2.label)))
                          (image_reads (slice_range before.blocks 0 2)))
                          ((ba.entry.cut.home home.0 (sym ba.restored.same.home ∙ home.1)).had (slice_range now.0 2 (2 + s.home)) (now.2.home home.0 home.1))),
                      refl,
                    );
                    segments = λ j lt. segment ba now.0 now.2 j lt;
                  }
                where
                  segment : (ba : IsBack k conf t n) (c : List Block) (now : IsLeftNow state s n c) (j : ℕ) → j < s.segments
                      → (was : List Block) × IsImage (slice_range ba.entry.image.blocks (2 + s.home + j * s.segment_blocks) (2 + s.home + (j + 1) * s.segment_blocks)) was × ((segment_of s c j ≡ was) ⊎ (IsIdle (segment_of s c j) × IsIdle was))
                  segment ba c now j lt = by_head ba.own j (let h = ba.heads in omega (arith, h, lt))
                      (λ e.
                      let p = ba.restored.free j e in
                      let first : ℕ = 2 + s.home + j * s.segment_blocks in
                      let behind : ℕ = 2 + s.home + (j + 1) * s.segment_blocks in
                      let was : List Block = slice_range (reads ba.entry.image.blocks) first behind in (
                        was,
                        subst (λ (x : List Block). IsImage (slice_range ba.entry.image.blocks first behind) x) (reads_range ba.entry.image.blocks first behind) (image_reads (slice_range ba.entry.image.blocks first behind)),
                        inr (
                          p.2.idle (segment_of s c j) (now.segments j p.0 p.1),
                          idle_of_free (length (shapes_of config)) was (ba.entry.says.accepted.each j (segment_head Free) (slice_get-map segment_head ba.own.heads.items j ∙ ap (option_map segment_head) e)),
                        ),
                      ))
                      (λ owner e.
                      let p = a_value (segment_here ba.was j) (ba.complete j lt) in
                      (segment_of s c j, (ba.entry.cut.segments j p.0 p.1).had (segment_of s c j) (now.segments j p.0 (ba.restored.owned j owner e ∙ p.1)), inl refl))

          still : (k : ℕ) (conf : VolumeConf) → slice_get config.volumes.items k ≡ Some conf → not_taken k ≡ true → MayLeave (at_name conf.name t.images) (image_of images k)
          still k conf at is_not = refused_kept k conf at is_not (image_of images k) (may_at config t2 images left k conf at)

          -- label and view are those that an image had as it read, or it is left as it might have been
          back_front : (k : ℕ) (conf : VolumeConf) → slice_get config.volumes.items k ≡ Some conf → (blocks : List Block) → image_of images k ≡ Some blocks
              → MayLeave (at_name conf.name t.images) (Some blocks) ⊎ ((image : Image) × (at_name conf.name t.images ≡ Some image) × (slice_range blocks 0 2 ≡ slice_range (reads image.blocks) 0 2))
          back_front k conf at blocks here = by_option (image_here out k)
              (λ none. inl (subst (MayLeave (at_name conf.name t.images)) here (still k conf at (ap not (sym (same_here k) ∙ ap is_some none)))))
              (λ n e.
              let ba = is_back k conf n at e in
              let whole = again k (shape_in config conf) n (shape_is k conf at) e in
              let now = left_image state tell_all sound config t2 images left k (shape_in config conf) n (shape_is k conf at) whole.rest given.more (λ v of. given.back k v n (omega arith) of e) in
              let label = ba.entry.cut.label (slice_range now.0 0 2) (subst (λ (p : Spun D). IsImageOf (state_of state p).values (slice_range now.0 0 2)) ba.restored.same.label now.2.label) in
              let same : now.0 ≡ blocks = same_Some now.0 blocks (sym now.1 ∙ here) in
              inr (ba.entry.image, ba.entry.there, subst (λ (c : List Block). slice_range c 0 2 ≡ slice_range (reads ba.entry.image.blocks) 0 2) same label))

          -- each image that was there is there
          back_there : (v : ℕ) → WasThere config t v → IsThere (shapes_of config) images v
          back_there v all = go (not_taken v) refl
            where
              conf : (z : Shape) × (conf : VolumeConf) × (slice_get (shapes_of config) v ≡ Some z) × (slice_get config.volumes.items v ≡ Some conf)
              conf = conf_there config t v all

              go : (o : Bool) → not_taken v ≡ o → IsThere (shapes_of config) images v
              go true e = there_may config t images v conf.1 conf.3 (still v conf.1 conf.3 e) all
              go false e = let k = kept v conf.1 conf.3 e in (shape_in config conf.1, k.now, shape_is v conf.1 conf.3, k.is, k.sized)

          before : (was : Images) × IsBefore KeepsFront KeepsSegment config t not_taken images kept still was
          before = kept_before KeepsFront KeepsSegment config t not_taken images kept still

          back_recovers : (v : ℕ) → (was : Images) × AreLeft config t was × RecoversSame config not_taken (no_one v) images was v
          back_recovers v =
              let keeps : (k : ℕ) (c d : List Block) → KeepsSegment k c d → SegmentsKeep v c d = λ k c d keeps n. ap (λ es. keeping n es) (keeps_extents v k c d keeps) in (
                before.0,
                before.1.left,
                record {
                  but = before_same KeepsFront KeepsSegment config t not_taken images kept still before.0 before.1 v (same_front v) left.count keeps;
                  all = λ or. before_all KeepsFront KeepsSegment config t not_taken images kept still before.0 before.1 v (same_front v) left.count keeps;
                },
              )

          -- each segment of a volume is as it might have been before, since none was freed
          back_logs : (v k i : ℕ) (logger : VolumeConf) (entry : Image) (blocks : List Block) → slice_get config.volumes.items k ≡ Some logger → at_name logger.name t.images ≡ Some entry → image_of images k ≡ Some blocks → i < logger.segments
              → IsSegmentOf (length (shapes_of config)) v (blocks_of_segment (shape_in config logger) entry i) ⊎ HasHead (length (shapes_of config)) (segment_of (shape_in config logger) blocks i) (segment_head (Owned v)) → KeepsLog v (blocks_of_segment (shape_in config logger) entry i) (segment_of (shape_in config logger) blocks i)
          back_logs v k i logger entry blocks found was here lt own = go (not_taken k) refl
            where
              go : (o : Bool) → not_taken k ≡ o → KeepsLog v (blocks_of_segment (shape_in config logger) entry i) (segment_of (shape_in config logger) blocks i)
              go true e = log_may config v t images k i logger entry blocks (still k logger found e) was here
              go false e =
                  let kept_ = kept k logger found e in
                  let same : kept_.now ≡ blocks = same_Some kept_.now blocks (sym kept_.is ∙ here) in
                  let image : kept_.entered.image ≡ entry = same_Some kept_.entered.image entry (sym kept_.entered.there ∙ was) in
                  let segment = kept_.segments i lt in
                  let had : IsImage (blocks_of_segment (shape_in config logger) entry i) segment.0 = subst (λ (x : Image). IsImage (blocks_of_segment (shape_in config logger) x i) segment.0) image segment.1 in
                  ⊎_elim
                  (λ (as_was : segment_of (shape_in config logger) kept_.now i ≡ segment.0).
                  inl (subst (IsImage (blocks_of_segment (shape_in config logger) entry i)) (sym as_was ∙ ap (λ (c : List Block). segment_of (shape_in config logger) c i) same) had))
                  (λ idle. absurd (⊎_elim
                  (λ of. owned_not_idle (length (shapes_of config)) v segment.0 (of segment.0 had) idle.1)
                  (λ head. owned_not_idle (length (shapes_of config)) v (segment_of (shape_in config logger) kept_.now i)
                  (subst (λ (c : List Block). HasHead (length (shapes_of config)) (segment_of (shape_in config logger) c i) (segment_head (Owned v))) (sym same) head) idle.0)
                  own))
                  segment.2

          -- so each has its fate
          back_fate : (k i : ℕ) (logger : VolumeConf) (entry : Image) (blocks : List Block) → slice_get config.volumes.items k ≡ Some logger → at_name logger.name t.images ≡ Some entry → image_of images k ≡ Some blocks → i < logger.segments
              → SegmentFate (length (shapes_of config)) no_history k (blocks_of_segment (shape_in config logger) entry i) (segment_of (shape_in config logger) blocks i)
          back_fate k i logger entry blocks found was here lt = go (not_taken k) refl
            where
              go : (o : Bool) → not_taken k ≡ o → SegmentFate (length (shapes_of config)) no_history k (blocks_of_segment (shape_in config logger) entry i) (segment_of (shape_in config logger) blocks i)
              go true e =
                  let may = subst (λ (c : Option (List Block)). MayLeave (at_name logger.name t.images) c) here (still k logger found e) in
                  let both = subst (λ (o : Option Image). MayLeave o (Some blocks)) was may in
                  left_as_was (image_slice entry.blocks blocks (head_place (shape_in config logger) i) (head_place (shape_in config logger) (i + 1)) both.1)
              go false e =
                  let kept_ = kept k logger found e in
                  let same : kept_.now ≡ blocks = same_Some kept_.now blocks (sym kept_.is ∙ here) in
                  let image : kept_.entered.image ≡ entry = same_Some kept_.entered.image entry (sym kept_.entered.there ∙ was) in
                  let segment = kept_.segments i lt in
                  let had : IsImage (blocks_of_segment (shape_in config logger) entry i) segment.0 = subst (λ (x : Image). IsImage (blocks_of_segment (shape_in config logger) x i) segment.0) image segment.1 in
                  subst (λ (c : List Block). SegmentFate (length (shapes_of config)) no_history k (blocks_of_segment (shape_in config logger) entry i) (segment_of (shape_in config logger) c i)) same
                  (⊎_elim
                  (λ (as_was : segment_of (shape_in config logger) kept_.now i ≡ segment.0). left_as_was (subst (IsImage (blocks_of_segment (shape_in config logger) entry i)) (sym as_was) had))
                  (λ idle. used segment.0 had (inl idle.1) (inl idle.0))
                  segment.2)

          -- label, view and home are as they might have been
          back_home : (v : ℕ) → KeepsHome config v t images
          back_home v conf entry blocks found was here = go (not_taken v) refl
            where
              go : (o : Bool) → not_taken v ≡ o → IsImage (slice_range entry.blocks 0 (2 + conf.home)) (slice_range blocks 0 (2 + conf.home))
              go true e =
                  let may = subst (λ (c : Option (List Block)). MayLeave (at_name conf.name t.images) c) here (still v conf found e) in
                  let both = subst (λ (o : Option Image). MayLeave o (Some blocks)) was may in
                  image_slice entry.blocks blocks 0 (2 + conf.home) both.1
              go false e =
                  let kept_ = kept v conf found e in
                  let same : kept_.now ≡ blocks = same_Some kept_.now blocks (sym kept_.is ∙ here) in
                  let image : kept_.entered.image ≡ entry = same_Some kept_.entered.image entry (sym kept_.entered.there ∙ was) in
                  subst (λ (i : Image). IsImage (slice_range i.blocks 0 (2 + conf.home)) (slice_range blocks 0 (2 + conf.home))) image
                  (subst (IsImage (slice_range kept_.entered.image.blocks 0 (2 + conf.home))) (kept_.front.2 ∙ ap (λ (c : List Block). slice_range c 0 (2 + conf.home)) same) kept_.front.1)

          -- an image that was out is there
          there_again : (k : ℕ) (conf : VolumeConf) → slice_get config.volumes.items k ≡ Some conf → not_taken k ≡ false → IsThere (shapes_of config) images k
          there_again k conf at taken = let kept_ = kept k conf at taken in (shape_in config conf, kept_.now, shape_is k conf at, kept_.is, kept_.sized)

          -- label and view of an image that was out are as they read
          front_again : (k : ℕ) (conf : VolumeConf) → slice_get config.volumes.items k ≡ Some conf → not_taken k ≡ false → option_map front_of (image_of images k) ≡ option_map front_of (image_of (images_read config t) k)
          front_again k conf at taken =
              let x = some_or (image_here out k) (λ e. let same = same_here k in let f = ap is_some e in cc (same, f, taken)) in
              let ba = is_back k conf x.0 at x.1 in
              let whole = again k (shape_in config conf) x.0 (shape_is k conf at) x.1 in
              let now = left_image state tell_all sound config t2 images left k (shape_in config conf) x.0 (shape_is k conf at) whole.rest given.more (λ v of. given.back k v x.0 (omega arith) of x.1) in
              let label = ba.entry.cut.label (slice_range now.0 0 2) (subst (λ (p : Spun D). IsImageOf (state_of state p).values (slice_range now.0 0 2)) ba.restored.same.label now.2.label) in
              ap (option_map front_of) now.1 ∙ ap (λ (c : List Block). Some c) label ∙ sym (ap (option_map front_of) (image_is_read config t k conf ba.entry.image at ba.entry.there ba.entry.says.whole))

          back_sound : ((was : Images) → AreLeft config t was → AreSound (shapes_of config) was) → AreSound (shapes_of config) images
          back_sound all =
              sound_before KeepsFront KeepsSegment (shapes_of config) images before.0 (left.count ∙ sym before.1.left.count) each keeps_front keeps_extents (keeps_sound (shapes_of config))
              (all before.0 before.1.left)
            where
              each : (k : ℕ) (s : Shape) → slice_get (shapes_of config) k ≡ Some s → (image_of before.0 k ≡ image_of images k) ⊎ AreTwo (KeepsFront k) (KeepsSegment k) s (image_of images k) (image_of before.0 k)
              each k s at =
                  let conf = volume_at config k s at in
                  by conf.0 conf.1 conf.2 (not_taken k) refl
                where
                  by : (conf : VolumeConf) → slice_get config.volumes.items k ≡ Some conf → shape_in config conf ≡ s → (o : Bool) → not_taken k ≡ o → (image_of before.0 k ≡ image_of images k) ⊎ AreTwo (KeepsFront k) (KeepsSegment k) s (image_of images k) (image_of before.0 k)
                  by conf at same true e = inl (before.1.same k conf at e)
                  by conf at same false e = inr (subst (λ (z : Shape). AreTwo (KeepsFront k) (KeepsSegment k) z (image_of images k) (image_of before.0 k)) same (before.1.two k conf at e))

      module _ (tell_all : IsTrue tells → (d : D) → TellsContent (state d)) (sound : (d : D) → IsDisk (state d)) where
        back_told : {P : Told → Told → Type 0} → ((t t1 t2 : Told) → b.told ≡ Some t → StayedSo config i.out.items (length config.volumes.items) t t1 → GivesBack state config out 0 t1 t2 → P t t2) → IsTold P b.told b2.told
        back_told {P} each = told_then (StayedSo config i.out.items (length config.volumes.items)) (GivesBack state config out 0) P b.told b1.told b2.told each sent.stayed back

        pub left_again : IsTrue tells → IsTold (LeavesAll tells state config b b2) b.told b2.told
        left_again telling = back_told (λ t t1 t2 is stayed given. record {
          refused = not_taken;
          cause = cause;
          kept = λ k v at or. refused_kept telling (tell_all telling) sound t t1 t2 is stayed given k v at
              (ap (λ (o : Option (ImageRest D)). not (is_some o)) (kept_home config i.out.items t (were_there telling (tell_all telling) sound t t1 t2 is stayed given) k v at or));
          opened = no_one;
          are_opened = λ v is_open. none_opened v is_open;
          left = λ images left v there. back_recovers telling (tell_all telling) sound t t1 t2 is stayed given images left v;
          logs = λ v conf at or images left k i logger before blocks found was here lt own. back_logs telling (tell_all telling) sound t t1 t2 is stayed given images left v k i logger before blocks found was here lt own;
          there = λ images left v all. back_there telling (tell_all telling) sound t t1 t2 is stayed given images left v all;
        })

        pub run_again : IsTold (KeepsOthers config) b.told b2.told → b.faults ≤ b2.faults → QuietRun tells config b b2
        run_again others more = run_of_none tells config b b2 not_taken (λ telling. back_told {P = BayLeft config not_taken no_history} (λ t t1 t2 is stayed given. record {
          accepted_ = λ k v at taken. were_there telling (tell_all telling) sound t t1 t2 is stayed given k v at (out_taken i.out.items k taken);
          kept = λ k v at gone c may. refused_kept telling (tell_all telling) sound t t1 t2 is stayed given k v at gone c may;
          begun = λ v h at. absurd (none-some h at);
          each = λ images left. record {
            fronts = λ k lt taken. let (conf, at) = some_at config.volumes.items k lt in front_again telling (tell_all telling) sound t t1 t2 is stayed given images left k conf at taken;
            segments = λ k j logger before blocks found was here lt. back_fate telling (tell_all telling) sound t t1 t2 is stayed given images left k j logger before blocks found was here lt;
            there = λ k lt taken. let (conf, at) = some_at config.volumes.items k lt in there_again telling (tell_all telling) sound t t1 t2 is stayed given images left k conf at taken;
            homes = λ v none. back_home telling (tell_all telling) sound t t1 t2 is stayed given images left v;
            opened = λ v h at. absurd (none-some h at);
            others = λ v none. let x = back_recovers telling (tell_all telling) sound t t1 t2 is stayed given images left v in (x.0, x.1, x.2.all (inl refl));
          };
        })) others more

        pub sound_again : IsTrue tells → IsTold (KeepsAllSound config) b.told b2.told
        sound_again telling = back_told (λ t t1 t2 is stayed given all images left. back_sound telling (tell_all telling) sound t t1 t2 is stayed given images left all)

        pub views_again : IsTrue tells → IsTold (KeepsViews config) b.told b2.told
        views_again telling = back_told (λ t t1 t2 is stayed given images left k conf at blocks here. back_front telling (tell_all telling) sound t t1 t2 is stayed given images left k conf at blocks here)
