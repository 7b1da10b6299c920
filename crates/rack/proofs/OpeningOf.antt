-- The opening of a volume is one of the images as they read.
use Rattle.rack.proofs.Basics.{◌≡◌, ℕ, ◌^◌, ◌<◌, length, Some, option_map, sym, ap, ◌∙◌, subst, arith, not, List, ◌∷◌, Option, None, slice_get, is_some, All}
use Rattle.rack.proofs.Basics.{Contains, length-map, same_Some, slice_get-map, get_or_from_slice_get, none-some, slice_get-get_or}
use Rattle.rack.proofs.Terms.{Shape, owned_block, IsValid, Config, VolumeConf, shape_in, shapes_of, images_read, Block, State, reads, Images, image_of, image_size, home_of}
use Rattle.rack.proofs.Terms.{segment_of, one_segment_head, Image, Told, BayState, at_name, shape_of, segment_head, SegHead, Free, Owned, HasView, state_of, AreInOrder, place_of, read_of}
use Rattle.rack.proofs.Terms.{owned_of, all_owned, Opening, OwnedPart, said_at, SaysOf, AreStillCut, IsOpeningRack, images_taken, IsOwnedIn, IsOpeningOf, TakesOpening, IsOwnedPlace}
use Rattle.rack.proofs.Terms.{image_here, Said, ImageRest, Rack, Rest}
use Rattle.rack.proofs.Places.{some_at}
use Rattle.rack.proofs.LeftImage.{accepted_gone, accepted_same, volume_at}
use Rattle.rack.proofs.LoggersNamed.{image_is_read}
use Rattle.rack_parts.proofs.Members.{all_member, of_map, in_map, map_map, here_within}
use Rattle.rack.proofs.Openable.{IsInImage, image_id, first_block, owned_in_image}
use Rattle.rack.proofs.Cases.{some_or}
use Rattle.wol_model.specs.Heads as head
use Rattle.manager_recovery.specs.Owned as owned

-- ---- The opening that was taken out is that of its volume in the images as they read at entry

-- one of the segments of these images, by its place
same_owned : (shapes : List Shape) (images : Images) (v : ℕ) (a b : owned.Owned) → IsOwnedIn shapes images v a → IsOwnedIn shapes images v b → a.logger ≡ b.logger → a.index ≡ b.index → a ≡ b
same_owned shapes images v a b one_owned other_owned logger index =
    let one = one_owned.segment in
    let other = other_owned.segment in
    let image : one.image ≡ other.image = same_Some one.image other.image (sym one.there ∙ ap (image_of images) logger ∙ other.there) in
    let shape : one.shape ≡ other.shape = same_Some one.shape other.shape (sym one.shape_is ∙ ap (slice_get shapes) logger ∙ other.shape_is) in
    let first : a.first ≡ b.first = one.first_is ∙ (λ i. Rattle.volume_images.specs.Accepted.head_place (shape i) (index i)) ∙ sym other.first_is in
    let blocks : a.blocks ≡ b.blocks = one.blocks_are ∙ (λ i. segment_of (shape i) (image i) (index i)) ∙ sym other.blocks_are in
    λ i. record { logger = logger i; index = index i; first = first i; blocks = blocks i }

module _ {D : Type 0} (state : D → State) (config : Config) (valid : IsValid config) (b : BayState) (said : List (Option Said)) (id : ℕ) (r : Rack D) (own : Said)
    (ready : IsOpeningRack state config b said id r) (lt : id < length (shapes_of config)) (at : slice_get said id ≡ Some (Some own)) (view : List ℕ) (own_view : own.view ≡ view)
    (new : Rest D) (o : Opening D) (takes : TakesOpening state config r.rest new said id view o) (t : Told) (cut : AreStillCut state config t id said r.rest) where
  abbrev pub images : Images
  images = images_taken config r.rest.images.items t

  -- an image that is out, as it read at entry
  pub record IsReadAt (k : ℕ) (x : ImageRest D) : Type 0 where
    pub conf : VolumeConf
    pub conf_is : slice_get config.volumes.items k ≡ Some conf
    pub shape_is : slice_get (shapes_of config) k ≡ Some (shape_in config conf)
    pub saying : Said
    pub said_is : said_at said k ≡ Some saying
    pub entry : Image
    pub there : at_name conf.name t.images ≡ Some entry
    pub says : SaysOf (length (shapes_of config)) k (shape_in config conf) entry saying
    pub read : image_of images k ≡ Some (reads entry.blocks)

  pub read_at : (k : ℕ) (x : ImageRest D) → image_here r.rest.images.items k ≡ Some x → IsReadAt k x
  read_at k x here =
      let within : k < length (shapes_of config) = let n = ready.closable.rest.parts.images.0 in let l = here_within r.rest.images.items k x here in omega (arith, n, l) in
      let shape = some_at (shapes_of config) k within in
      let conf = volume_at config k shape.0 shape.1 in
      let says = ready.says k shape.0 shape.1 (ap is_some here) in
      let entry = cut.says k conf.0 says.0 conf.1 says.1 in
      let kept : image_of images k ≡ image_of (images_read config t) k
      = accepted_same (λ (n : ℕ). not (is_some (image_here r.rest.images.items n))) (images_read config t) k (ap (λ (x : Option (ImageRest D)). not (is_some x)) here) in
      let read = image_is_read config t k conf.0 entry.0 conf.1 entry.1 entry.2.whole in
      record {
        conf = conf.0;
        conf_is = conf.1;
        shape_is = shape.1 ∙ ap (λ (s : Shape). Some s) (sym conf.2);
        saying = says.0;
        said_is = says.1;
        entry = entry.0;
        there = entry.1;
        says = entry.2;
        read = kept ∙ read;
      }

  -- an image of them is of one that is out
  pub image_out : (k : ℕ) (image : List Block) → image_of images k ≡ Some image → (x : ImageRest D) × (image_here r.rest.images.items k ≡ Some x)
  image_out k image is = some_or (image_here r.rest.images.items k) (λ e.
      let none : image_of images k ≡ None
      = accepted_gone (λ (n : ℕ). not (is_some (image_here r.rest.images.items n))) (images_read config t) k (ap (λ (x : Option (ImageRest D)). not (is_some x)) e) in
      none-some image (sym none ∙ is))

  -- each has its volume's length
  pub sized : (k : ℕ) (s : Shape) (image : List Block) → slice_get (shapes_of config) k ≡ Some s → image_of images k ≡ Some image → length image ≡ image_size s
  sized k s image shape is =
      let x = image_out k image is in
      let at_k = read_at k x.0 x.1 in
      let same : shape_in config at_k.conf ≡ s = same_Some (shape_in config at_k.conf) s (sym at_k.shape_is ∙ shape) in
      let blocks : reads at_k.entry.blocks ≡ image = same_Some (reads at_k.entry.blocks) image (sym at_k.read ∙ is) in
      ap length (sym blocks) ∙ length-map at_k.entry.blocks (λ v. v.now) ∙ at_k.says.size ∙ ap image_size same

  -- ---- The segments that the volume owns

  owned_in : (p : OwnedPart D) → IsInImage state config valid b said id r own ready lt at view new o takes p → IsOwnedIn (shapes_of config) images id (owned_of state p)
  owned_in p is =
      let at_k = read_at p.logger is.image is.out in
      let same : shape_in config at_k.conf ≡ is.shape = same_Some (shape_in config at_k.conf) is.shape (sym at_k.shape_is ∙ is.shape_is) in
      let saying : at_k.saying ≡ is.saying = same_Some at_k.saying is.saying (sym at_k.said_is ∙ is.said_is) in
      let in_said : slice_get at_k.saying.heads.items p.index ≡ Some (Owned id) = ap (λ (x : Said). slice_get x.heads.items p.index) saying ∙ is.head in
      let part = cut.segments id p.logger p.index at_k.conf at_k.entry at_k.saying is.image p.part (omega arith) at_k.conf_is at_k.there at_k.said_is in_said is.out is.there in
      let blocks : read_of (state_of state p.part) ≡ segment_of (shape_in config at_k.conf) (reads at_k.entry.blocks) p.index = part.reads_as in
      let has = at_k.says.accepted.each p.index (head.Owned id) (slice_get-map segment_head at_k.saying.heads.items p.index ∙ ap (option_map segment_head) in_said) in
      let split = first_block (segment_of (shape_in config at_k.conf) (reads at_k.entry.blocks) p.index) has.block has.first in
      record {
        segment = record {
          image = reads at_k.entry.blocks;
          shape = is.shape;
          there = at_k.read;
          shape_is = is.shape_is;
          within = is.within;
          blocks_are = blocks ∙ ap (λ (s : Shape). segment_of s (reads at_k.entry.blocks) p.index) same;
          first_is = is.first;
        };
        rest = split.0;
        owner = blocks ∙ split.1 ∙ ap (λ (x : Block). x ∷ split.0) has.spelled.bytes;
      }

  each_owned : All (IsOwnedIn (shapes_of config) images id) (all_owned state o.owned.items)
  each_owned = all_member (IsOwnedIn (shapes_of config) images id) (all_owned state o.owned.items)
      (λ x has.
      let from = of_map (owned_of state) o.owned.items x has in
      subst (IsOwnedIn (shapes_of config) images id) from.2 (owned_in from.0 (owned_in_image state config valid b said id r own ready lt at view new o takes from.0 from.1)))

  -- what reads as owned by the volume has such a head
  head_of : (k i : ℕ) (x : ImageRest D) (at_k : IsReadAt k x) (rest : List Block) → i < (shape_in config at_k.conf).segments → segment_of (shape_in config at_k.conf) (reads at_k.entry.blocks) i ≡ owned_block id ∷ rest → slice_get at_k.saying.heads.items i ≡ Some (Owned id)
  head_of k i x at_k rest within is =
      let n = at_k.says.accepted.count in
      let l = length-map at_k.saying.heads.items segment_head in
      let h = some_at at_k.saying.heads.items i (omega (arith, within, n, l)) in
      let has = at_k.says.accepted.each i (segment_head h.0) (slice_get-map segment_head at_k.saying.heads.items i ∙ ap (option_map segment_head) h.1) in
      let first : has.block ≡ owned_block id = same_Some has.block (owned_block id) (sym has.first ∙ ap (λ (l : List Block). slice_get l 0) is) in
      let known : id < 2 ^ 32 = let c = valid.count in let m = length-map config.volumes.items (shape_in config) in omega (arith, lt, c, m) in
      let same : segment_head h.0 ≡ head.Owned id = one_segment_head has.block (segment_head h.0) (head.Owned id) has.spelled (record { in_range = known; bytes = first }) in
      h.1 ∙ ap (λ (x : SegHead). Some x) (go h.0 same)
    where
      go : (h : SegHead) → segment_head h ≡ head.Owned id → h ≡ Owned id
      go Free e = absurd (cc e)
      go (Owned w) e = let n : w ≡ id = cc e in ap Owned n

  all_of_them : (x : owned.Owned) → IsOwnedIn (shapes_of config) images id x → Contains (all_owned state o.owned.items) x
  all_of_them x reads_so =
      let is = reads_so.segment in
      let out = image_out x.logger is.image is.there in
      let at_k = read_at x.logger out.0 out.1 in
      let same : shape_in config at_k.conf ≡ is.shape = same_Some (shape_in config at_k.conf) is.shape (sym at_k.shape_is ∙ is.shape_is) in
      let image : reads at_k.entry.blocks ≡ is.image = same_Some (reads at_k.entry.blocks) is.image (sym at_k.read ∙ is.there) in
      let few : (shape_in config at_k.conf).segments ≡ is.shape.segments = ap (λ (s : Shape). s.segments) same in
      let within = is.within in
      let blocks : segment_of (shape_in config at_k.conf) (reads at_k.entry.blocks) x.index ≡ owned_block id ∷ reads_so.rest = (λ i. segment_of (same i) (image i) x.index) ∙ sym is.blocks_are ∙ reads_so.owner in
      let says_so = head_of x.logger x.index out.0 at_k reads_so.rest (omega (arith, few, within)) blocks in
      let place : IsOwnedPlace said id x.logger x.index = (at_k.saying, slice_get-get_or said x.logger None (here_within said x.logger at_k.saying at_k.said_is) ∙ ap Some at_k.said_is, says_so) in
      let from = of_map place_of o.owned.items (x.logger, x.index) (takes.owned.all x.logger x.index place) in
      let has : Contains (all_owned state o.owned.items) (owned_of state from.0) = in_map (owned_of state) o.owned.items from.0 from.1 in
      let of_part = Rattle.std.proofs.lemmas.List.Elements.All-contains (IsOwnedIn (shapes_of config) images id) (all_owned state o.owned.items) (owned_of state from.0) each_owned has in
      subst (λ (y : owned.Owned). Contains (all_owned state o.owned.items) y)
      (same_owned (shapes_of config) images id (owned_of state from.0) x of_part reads_so (ap (λ (p : ℕ × ℕ). p.0) from.2) (ap (λ (p : ℕ × ℕ). p.1) from.2)) has

  pub opening_of : IsOpeningOf state config r.rest.images.items images id o
  opening_of =
      let own_image = image_id state config valid b said id r own ready lt at in
      let at_id = read_at id own_image.0 own_image.1 in
      let same : shape_in config at_id.conf ≡ shape_of o.want = same_Some (shape_in config at_id.conf) (shape_of o.want) (sym at_id.shape_is ∙ takes.shape) in
      let own_is : at_id.saying ≡ own = same_Some at_id.saying own (sym at_id.said_is ∙ Rattle.std.proofs.lemmas.Option.get_or_from_slice_get said id (Some own) None at) in
      let views : at_id.saying.view ≡ o.view = ap (λ (x : Said). x.view) own_is ∙ own_view ∙ sym takes.view_is in
      let home = cut.homes id at_id.conf at_id.entry own_image.0 o.home (omega arith) at_id.conf_is at_id.there own_image.1 (takes.home_was own_image.0 own_image.1) in
      record {
        id = takes.id;
        shape = takes.shape;
        label = takes.label;
        view = λ image is.
            subst (λ (bs : List Block). HasView bs o.view) (same_Some (reads at_id.entry.blocks) image (sym at_id.read ∙ is))
            (subst (λ (ids : List ℕ). HasView (reads at_id.entry.blocks) ids) views at_id.says.accepted.named.view);
        present = takes.present;
        most = takes.most;
        home = λ image is. home.reads_as ∙ (λ i. home_of (same i) (same_Some (reads at_id.entry.blocks) image (sym at_id.read ∙ is) i));
        owned = record {
          in_order = subst AreInOrder (sym (map_map (owned_of state) (λ (x : owned.Owned). (x.logger, x.index)) o.owned.items)) takes.owned.in_order;
          each = each_owned;
          all = all_of_them;
        };
      }
