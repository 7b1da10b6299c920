-- The logs of a volume that wasn't opened stay, whether its own image is there or not.
use Rattle.rack.proofs.ClosingBasics.{◌≡◌, ◌⊎◌, inl, inr, ⊎_elim, ◌-◌, ◌+◌, ◌<◌, ℕ, zero, suc, List, [], ◌∷◌, length, take, drop, Option, Some, None, false, is_some, sym, ap, ◌∙◌, subst, slice_get, slice_range, same_Some}
use Rattle.rack.proofs.ClosingBasics.{All-contains}
use Rattle.rack.proofs.ClosingTerms.{Block, Values, IsImage, Name, Image, Told, at_name, BayState, State, Free, Owned, owned_block, Images, image_of, segment_of, Record, IsLog, IsIdle}
use Rattle.rack.proofs.ClosingTerms.{one_segment_head, Config, VolumeConf, Spun, HasNothing, HasHead, head_place, MayLeave, shape_in, shapes_of, ComesFrom, from_here, from_pool, from_manager}
use Rattle.rack.proofs.ClosingTerms.{has_station, IsStation, IsOpenBase, base_of_station, image_here, IsImageOut, IsSegmentHere, ImageRest, Rack, KeepsLog, KeepsLogs, IsLogOfOther, IsKeptOrIdle, IsSegmentOf, blocks_of_segment}
use Rattle.rack.proofs.Cases.{by_option}
use Rattle.rack.proofs.LeftImage.{may_at}
use Rattle.rack.proofs.LeftVolumes.{IsOver, no_station, shape_at}
use Rattle.rack.proofs.SoundBefore.{IsClosed}

-- ---- Heads of segments

-- a segment of a volume isn't free
pub owned_not_idle : (volumes v : ℕ) (c : List Block) → HasHead volumes c (Owned v) → IsIdle c → ⊥
owned_not_idle volumes v [] head idle = absurd idle
owned_not_idle volumes v (b ∷ c) head idle =
    let first : head.block ≡ b = same_Some head.block b (sym head.first) in
    let same : Owned v ≡ Free = one_segment_head head.block (Owned v) Free head.spelled (record { in_range = tt; bytes = first ∙ idle }) in
    absurd (cc same)

-- nor another's
one_owner : (volumes v w : ℕ) (c : List Block) → HasHead volumes c (Owned v) → HasHead volumes c (Owned w) → v ≡ w
one_owner volumes v w c one two =
    let same : two.block ≡ one.block = same_Some two.block one.block (sym two.first ∙ one.first) in
    cc (one_segment_head one.block (Owned v) (Owned w) one.spelled (record { in_range = two.spelled.in_range; bytes = sym same ∙ two.spelled.bytes }))

-- and no other's log
pub owner_of_log : (volumes v w : ℕ) (c : List Block) (rs : List Record) → HasHead volumes c (Owned v) → IsLog c w rs → w ≡ v
owner_of_log volumes v w c rs head log =
    let first : head.block ≡ owned_block w = same_Some head.block (owned_block w) (sym head.first ∙ ap (λ (l : List Block). slice_get l 0) log.joined) in
    cc (one_segment_head head.block (Owned v) (Owned w) head.spelled (record { in_range = log.known; bytes = first }))

-- ---- Parts of images

image_take : (n : ℕ) (vs : List (Values Block)) (c : List Block) → IsImage vs c → IsImage (take n vs) (take n c)
image_take zero vs c is = tt
image_take (suc n) [] [] is = tt
image_take (suc n) [] (x ∷ c) is = absurd is
image_take (suc n) (v ∷ vs) [] is = absurd is
image_take (suc n) (v ∷ vs) (x ∷ c) is = (is.0, image_take n vs c is.1)

image_drop : (n : ℕ) (vs : List (Values Block)) (c : List Block) → IsImage vs c → IsImage (drop n vs) (drop n c)
image_drop zero vs c is = is
image_drop (suc n) [] [] is = tt
image_drop (suc n) [] (x ∷ c) is = absurd is
image_drop (suc n) (v ∷ vs) [] is = absurd is
image_drop (suc n) (v ∷ vs) (x ∷ c) is = image_drop n vs c is.1

pub image_slice : (vs : List (Values Block)) (c : List Block) (a b : ℕ) → IsImage vs c → IsImage (slice_range vs a b) (slice_range c a b)
image_slice vs c a b is = image_take (b - a) (drop a vs) (drop a c) (image_drop a vs c is)

-- ---- Images that may be left only as before

module _ (config : Config) (v : ℕ) (old : Told) (images : Images) (k i : ℕ) (logger : VolumeConf) (before : Image) (blocks : List Block) where
  pub log_may : MayLeave (at_name logger.name old.images) (image_of images k) → at_name logger.name old.images ≡ Some before → image_of images k ≡ Some blocks
      → KeepsLog v (blocks_of_segment (shape_in config logger) before i) (segment_of (shape_in config logger) blocks i)
  log_may may was here =
      let both = subst (λ (o : Option Image). MayLeave o (Some blocks)) was (subst (λ (c : Option (List Block)). MayLeave (at_name logger.name old.images) c) here may) in
      inl (image_slice before.blocks blocks (head_place (shape_in config logger) i) (head_place (shape_in config logger) (i + 1)) both.1)

pub logs_stay : (config : Config) (v : ℕ) (old new : Told) → ((name : Name) (c : Option (List Block)) → MayLeave (at_name name new.images) c → MayLeave (at_name name old.images) c) → KeepsLogs config v old new
logs_stay config v old new less images left k i logger before blocks at was here lt own =
    log_may config v old images k i logger before blocks (less logger.name (image_of images k) (may_at config new images left k logger at)) was here

-- ---- A rack that was closed

module _ {D : Type 0} {state : D → State} {config : Config} {b : BayState} {r : Rack D} {entry new : Told} {images : Images} (over : IsOver state config b r entry new images) where
  open over use {can, began, still, parts, left}

  -- a volume whose image isn't out has no station
  image_closed : (v : ℕ) → image_here r.rest.images.items v ≡ None → IsClosed r v
  image_closed v none s has same =
      let base = All-contains (λ t. IsOpenBase config r.shared r.rest.images.items (base_of_station t)) r.stations.items s can.bases has in
      let owner = (All-contains (λ t. IsStation t) r.stations.items s can.stations has).id in
      let out : IsImageOut r.rest.images.items v = subst (λ (n : ℕ). IsImageOut r.rest.images.items n) (owner ∙ sym same) base.out in
      let gone = ap is_some none in
      cc (out, gone)

  module _ (v : ℕ) (closed : IsClosed r v) (k i : ℕ) (logger : VolumeConf) (before : Image) (at : slice_get config.volumes.items k ≡ Some logger) (was : at_name logger.name entry.images ≡ Some before)
      (lt : i < logger.segments) where
    abbrev Keeps : List Block → Type 0
    Keeps left_ = KeepsLog v (blocks_of_segment (shape_in config logger) before i) left_

    -- the volume's it was, or is
    abbrev IsOwn : List Block → Type 0
    IsOwn left_ = IsSegmentOf (length (shapes_of config)) v (blocks_of_segment (shape_in config logger) before i) ⊎ HasHead (length (shapes_of config)) left_ (Owned v)

    -- its volume had nothing in it
    had_nothing : (owner : ℕ) (rs : List Record) (c left_ : List Block) → IsImage (blocks_of_segment (shape_in config logger) before i) c → HasNothing owner rs c → owner ≡ v → IsKeptOrIdle owner rs left_ ⊎ IsLogOfOther v left_ → Keeps left_
    had_nothing owner rs c left_ image has same is = let both = subst (λ (w : ℕ). HasNothing w rs c × (IsKeptOrIdle w rs left_ ⊎ IsLogOfOther v left_)) same (has, is) in inr (c, rs, image, both.0, both.1)

    log_of : (m : ImageRest D) → image_here r.rest.images.items k ≡ Some m → (left_ : List Block) → IsOwn left_ → ComesFrom state r k i left_ → Keeps left_
    log_of m here left_ own from = go from own
      where
        -- a segment that isn't here is no longer the volume's
        gone : ((p : Spun D) → IsSegmentHere r.rest k i p → ⊥) → IsIdle left_ ⊎ IsLogOfOther v left_ → IsOwn left_ → Keeps left_
        gone never (inl idle) (inr head) = absurd (owned_not_idle _ v left_ head idle)
        gone never (inr log) (inr head) = absurd (log.2 (owner_of_log _ v log.0 left_ log.1 head log.3))
        gone never is (inl own) =
            let g = began.gone k i logger before m at was here lt never in
            let head = own g.was g.had in
            ⊎_elim
            (λ (free : HasHead _ g.was Free). absurd (let no : Owned v ≡ Free = one_segment_head head.block (Owned v) Free head.spelled (record { in_range = tt; bytes = same_Some head.block free.block (sym head.first ∙ free.first) ∙ free.spelled.bytes }) in cc no))
            (λ more. ⊎_elim
            (λ x. absurd (closed x.0 x.1 (one_owner _ v x.0.id g.was head x.2)))
            (λ x. had_nothing x.0 x.1 g.was left_ g.had x.2 (owner_of_log _ v x.0 g.was x.1 head x.2.log) (⊎_elim (λ idle. inl (inr idle)) (λ log. inr log) is))
            more)
            g.said

        kept : (owner : ℕ) (bs : List Block) (rs : List Record) → IsImage (blocks_of_segment (shape_in config logger) before i) bs → HasNothing owner rs bs → IsKeptOrIdle owner rs left_ → IsOwn left_ → Keeps left_
        kept owner bs rs image has is (inl own) = had_nothing owner rs bs left_ image has (owner_of_log _ v owner bs rs (own bs image) has.log) (inl is)
        kept owner bs rs image has (inl log) (inr head) = had_nothing owner rs bs left_ image has (owner_of_log _ v owner left_ rs head log) (inl (inl log))
        kept owner bs rs image has (inr idle) (inr head) = absurd (owned_not_idle _ v left_ head idle)

        go : ComesFrom state r k i left_ → IsOwn left_ → Keeps left_
        go (from_pool never idle) own = gone never (inl idle) own
        go (from_manager never s has view (inl idle) unbroken) own = gone never (inl idle) own
        go (from_manager never s has view (inr log) unbroken) own = gone never (inr (s.id, log.records, (λ e. closed s has (sym e)), log.log)) own
        go (from_here p place image) own =
            let had = ⊎_elim (λ x. (began.left k logger before x.0 at was x.1).segments i p x.2 left_ image) (λ x. began.held x.0 k i logger before p at was x.1 left_ image) place in
            ⊎_elim (λ same. inl same) (λ less. kept had.0 less.0 less.1 less.2 less.3 less.4 own) had.1

    log_left : (blocks : List Block) → image_of images k ≡ Some blocks → IsOwn (segment_of (shape_in config logger) blocks i) → Keeps (segment_of (shape_in config logger) blocks i)
    log_left blocks here own = by_option (image_here r.rest.images.items k)
        (λ none. log_may config v entry images k i logger before blocks (still k logger at none (image_of images k) (may_at config new images left k logger at)) was here)
        (λ m out.
        let x = parts images left k (shape_in config logger) m (shape_at over k logger at) out in
        let same : x.0 ≡ blocks = same_Some x.0 blocks (sym x.1 ∙ here) in
        subst (λ (c : List Block). IsOwn (segment_of (shape_in config logger) c i) → Keeps (segment_of (shape_in config logger) c i)) same (λ o. log_of m out (segment_of (shape_in config logger) x.0 i) o (x.2.segments i lt)) own)

  pub logs_closed : (v : ℕ) → IsClosed r v → (k i : ℕ) (logger : VolumeConf) (before : Image) (blocks : List Block) → slice_get config.volumes.items k ≡ Some logger → at_name logger.name entry.images ≡ Some before
      → image_of images k ≡ Some blocks → i < logger.segments
      → IsSegmentOf (length (shapes_of config)) v (blocks_of_segment (shape_in config logger) before i) ⊎ HasHead (length (shapes_of config)) (segment_of (shape_in config logger) blocks i) (Owned v)
      → KeepsLog v (blocks_of_segment (shape_in config logger) before i) (segment_of (shape_in config logger) blocks i)
  logs_closed v closed k i logger before blocks at was here lt own = log_left v closed k i logger before at was lt blocks here own

  pub unopened_closed : (v : ℕ) → (has_station r v ≡ false) ⊎ (image_here r.rest.images.items v ≡ None) → IsClosed r v
  unopened_closed v or = ⊎_elim (λ none. no_station r v none) (λ none. image_closed v none) or
