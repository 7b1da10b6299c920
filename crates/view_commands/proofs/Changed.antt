-- The view in one image was changed, behind the closing of all: what is left of arrays and views, told of the bay at entry.
use Rattle.std.proofs.Common.{◌≡◌, ◌≢◌, ◌⊎◌, inl, inr, ◌<◌, ◌≤◌, ◌^◌, ◌++◌, ℕ, Bool, true, List, [], ◌∷◌, length, not, ◌==◌, Option, None, Some, option_map, Result, Ok, Err, sym, ap, ◌∙◌, subst, arith}
use Rattle.std.specs.Prelude.{slice_get, slice_set, slice_range, slice_index_or, filter, Contains}
use Rattle.std.specs.List.{AllByRecursion}
use Rattle.std.proofs.lemmas.Bool.{cases_eq}
use Rattle.std.proofs.lemmas.List.{length-map, length-set}
use Rattle.std.proofs.lemmas.List.Elements.{Contains-append_left}
use Rattle.std.proofs.lemmas.Option.{same_Some, slice_get-map, slice_get-get_or, slice_get_within, get_or_from_slice_get}
use Rattle.wol_disk.specs.Disk.{Block, reads}
use Rattle.wol_bay.specs.Bay.{Image, Name, Told, at_name}
use Rattle.wol_config.specs.Configs.{IsValid}
use Rattle.wol_config.specs.declared.config.Config.{Config}
use Rattle.wol_config.specs.declared.config.VolumeConf.{VolumeConf}
use Rattle.wol_model.specs.Heads.{Shape, IsViewList}
use Rattle.wol_model.specs.Images.{Images, image_of, image_size, recovered_from, segment_of, NamesOthers, AreSound}
use Rattle.wol_model.specs.Log.{Record, IsLog}
use Rattle.logger_view.specs.Stored.{HasView, with_view}
use Rattle.logger_view.proofs.Callers.{same_view}
use Rattle.wol_promise.proofs.Lists.{all_map}
use Rattle.wol_promise.proofs.Wholes.{all_filtered}
use Rattle.manager.proofs.Lanes.{get_set, get_other}
use Rattle.volume_images.specs.Volumes.{AreLeft, MayLeave, images_read, shape_in, shapes_of}
use Rattle.rack.specs.Opens.{IsThere, KeepsAllSound}
use Rattle.rack.proofs.Names.{names_differ}
use Rattle.rack.proofs.SoundBefore.{at_front, some_image}
use Rattle.inspection.proofs.Unhelped.{there_is}
use Rattle.report.specs.declared.fault.Fault.{Fault}
use Rattle.view_change.specs.Changes.{Allows, changed, id_of}
use Rattle.view_change.specs.declared.answers.Change.{Change}
use Rattle.view_change.specs.declared.answers.Change.TheVariants.{Add, Remove}
use Rattle.view_change.proofs.Ids.{view_with, view_without}
use Rattle.rack.specs.Sessions.{KeepsArrays}
use Rattle.view_commands.specs.Images.{AnswersFront, ChangesImage, LeavesBy, LeavesNewView, front_of}
use Rattle.view_commands.specs.Views.{BecomesBy, ChangesViewOf, HasViewIn, KeepsOtherViews, LeavesThere, MayChange, MayNotChange}
use Rattle.view_commands.specs.declared.order.Stop.{Stop}
use Rattle.view_commands.specs.declared.order.Stop.TheVariants as stop
use Rattle.view_commands.specs.declared.order.ViewRefusal.{ViewRefusal}
use Rattle.view_commands.specs.declared.order.ViewRefusal.TheVariants.{Itself}
use Rattle.view_commands.proofs.Kept.{KeepsFronts, entry_reads, read_at, read_some, reads_left, view_now, view_then, within_images}
use Rattle.view_commands.proofs.Shown.{AllThere, OnlyView, recovers_same, shown_there, shows_view, sound_shown}

-- a logger comes
abbrev pub IsAddition : Change → Type 0
IsAddition (Add logger) = Unit {0}
IsAddition (Remove logger) = ⊥

-- whatever images a crash leaves, no segment of theirs is a log of the volume
abbrev pub HasNoLog : Config → (volume : ℕ) → Told → Type 0
HasNoLog config volume left = (images : Images) → AreLeft config left images → (k i : ℕ) (s : Shape) (c : List Block) (rs : List Record) → slice_get (shapes_of config) k ≡ Some s → image_of images k ≡ Some c → i < s.segments
    → IsLog (segment_of s c i) volume rs → ⊥

-- ---- Ids

-- the new view is one
changed_is_view : (change : Change) (ids : List ℕ) → IsViewList ids → Allows ids change → id_of change < 2 ^ 32 → IsViewList (changed change ids)
changed_is_view (Add id) ids is (none, room) fits = view_with ids id is none room fits
changed_is_view (Remove id) ids is has fits = view_without (λ other. not (other == id)) ids is

all_then : {X : Type 0} (P : X → Type 0) (xs : List X) (x : X) → AllByRecursion P xs → P x → AllByRecursion P (xs ++ x ∷ [])
all_then P [] y all h = (h, tt)
all_then P (x ∷ xs) y all h = (all.0, all_then P xs y all.1 h)

-- and names configured volumes other than its own
changed_names : (n volume : ℕ) (change : Change) (ids : List ℕ) → NamesOthers n volume ids → id_of change < n → id_of change ≢ volume → NamesOthers n volume (changed change ids)
changed_names n volume (Add id) ids all less other = all_then (λ i. (i < n) × (i ≢ volume)) ids id all (less, other)
changed_names n volume (Remove id) ids all less other =
    let Names : ℕ → Type 0 = λ i. (i < n) × (i ≢ volume) in let stays : ℕ → Bool = λ i. not (i == id) in
    all_map (λ i. (stays i ≡ true) × Names i) Names (λ i is. is.1) (filter stays ids) (all_filtered Names stays ids all)

-- a logger that comes leaves the others
still_has : (change : Change) → IsAddition change → (ids : List ℕ) (k : ℕ) → Contains ids k → Contains (changed change ids) k
still_has (Add id) is ids k has = Contains-append_left ids (id ∷ []) k has
still_has (Remove id) is ids k has = absurd is

-- ---- Images

module _ (config : Config) (valid : IsValid config) (volume : ℕ) (v : VolumeConf) (conf : slice_get config.volumes.items volume ≡ Some v) (asked : Change) (fits : id_of asked < length config.volumes.items)
    (entry mid new : Told) (fronts : KeepsFronts config entry mid) (ids : List ℕ) (at_entry : HasViewIn (images_read config entry) volume ids) where
  abbrev shapes : List Shape
  shapes = shapes_of config

  shape_at : (k : ℕ) (w : VolumeConf) → slice_get config.volumes.items k ≡ Some w → slice_get shapes k ≡ Some (shape_in config w)
  shape_at k w at = slice_get-map (shape_in config) config.volumes.items k ∙ ap (option_map (shape_in config)) at

  conf_at : (k : ℕ) (s : Shape) → slice_get shapes k ≡ Some s → (w : VolumeConf) × (slice_get config.volumes.items k ≡ Some w) × (shape_in config w ≡ s)
  conf_at k s is =
      let lt = slice_get_within shapes k s is in
      let long = length-map config.volumes.items (shape_in config) in
      let found = there_is config.volumes.items k (omega (arith, lt, long)) in
      (found.0, found.1, same_Some (shape_in config found.0) s (sym (shape_at k found.0 found.1) ∙ is))

  all_there : (images : Images) → AreLeft config mid images → AllThere shapes images
  all_there images left k s at =
      let w = conf_at k s at in
      let f = fronts images left k w.0 w.1 in
      (f.blocks, f.here, f.sized ∙ ap image_size w.2)

  -- the view that an image which is left shows is that at entry
  same_ids : (images : Images) → AreLeft config mid images → (others : List ℕ) → HasViewIn images volume others → others ≡ ids
  same_ids images left others has =
      let f = fronts images left volume v conf in
      let then = view_then config entry images volume v conf f others has in
      let reads_are = entry_reads config entry images volume v conf f in
      let same : at_entry.0 ≡ reads f.was.0.blocks = same_Some at_entry.0 (reads f.was.0.blocks) (sym at_entry.1 ∙ reads_are) in
      same_view (reads f.was.0.blocks) others ids then (subst (λ (c : List Block). HasView c ids) same at_entry.2)

  is_view : IsViewList ids
  is_view = at_entry.2.spelled.in_range

  new_is_view : Allows ids asked → IsViewList (changed asked ids)
  new_is_view allows = let few = valid.count.1 in changed_is_view asked ids is_view allows (omega (arith, fits, few))

  -- ---- An image that is left comes of one that was left

  -- it shows the new view in the place of that of one that was left
  record IsShown (images : Images) : Type 0 where
    before : Images
    left : AreLeft config mid before
    only : OnlyView shapes volume (changed asked ids) images before
    may : MayChange volume asked ids

  module _ (others_same : (other : Name) → other ≢ v.name → at_name other new.images ≡ at_name other mid.images) where
    left_of_other : (images : Images) → AreLeft config new images → (k : ℕ) (d : VolumeConf) → k < length config.volumes.items → k ≢ volume
        → MayLeave (at_name (slice_index_or config.volumes.items k d).name mid.images) (image_of images k)
    left_of_other images left k d lt other =
        let w = slice_index_or config.volumes.items k d in
        let at : slice_get config.volumes.items k ≡ Some w = slice_get-get_or config.volumes.items k d lt in
        subst (λ o. MayLeave o (image_of images k)) (others_same w.name (names_differ config valid k volume w v at conf other)) (left.each k d lt)

    name_here : (k : ℕ) (d : VolumeConf) → k ≡ volume → slice_index_or config.volumes.items k d ≡ v
    name_here k d same = ap (λ (n : ℕ). slice_index_or config.volumes.items n d) same ∙ get_or_from_slice_get config.volumes.items volume v d conf

    -- it is one that was left
    left_same : (images : Images) → AreLeft config new images → MayLeave (at_name v.name mid.images) (image_of images volume) → AreLeft config mid images
    left_same images left may = record {
      count = left.count;
      each = λ k d lt. elim (cases_eq k volume) [
        | inl same ↦
            let P : VolumeConf → Type 0 = λ w. MayLeave (at_name w.name mid.images) (image_of images k) in
            subst P (sym (name_here k d same)) (subst (λ (n : ℕ). MayLeave (at_name v.name mid.images) (image_of images n)) (sym same) may)
        | inr other ↦ left_of_other images left k d lt other
      ];
    }

    -- or it shows the new view
    left_shown : (images : Images) → AreLeft config new images → LeavesNewView v.name volume asked mid (image_of images volume) → IsShown images
    left_shown images left (blocks, is, shows) =
        let before = slice_set images volume (Some shows.before) in
        let within : volume < length images = within_images images volume blocks is in
        let here : image_of before volume ≡ Some shows.before =
        ap (λ (o : Option (Option (List Block))). Rattle.std.specs.Prelude.unwrap_or o None) (get_set images volume (slice_index_or images volume None) (Some shows.before) (slice_get-get_or images volume None within)) in
        let elsewhere : (k : ℕ) → k ≢ volume → image_of before k ≡ image_of images k =
        λ k other. ap (λ (o : Option (Option (List Block))). Rattle.std.specs.Prelude.unwrap_or o None) (get_other images volume k (Some shows.before) other) in
        let left_before : AreLeft config mid before = record {
          count = length-set images volume (Some shows.before) ∙ left.count;
          each = λ k d lt. elim (cases_eq k volume) [
            | inl same ↦
                let P : VolumeConf → Type 0 = λ w. MayLeave (at_name w.name mid.images) (image_of before k) in
                let o : image_of before k ≡ Some shows.before = ap (image_of before) same ∙ here in
                subst P (sym (name_here k d same)) (subst (λ (x : Option (List Block)). MayLeave (at_name v.name mid.images) x) (sym o) shows.had)
            | inr other ↦
                subst (λ (x : Option (List Block)). MayLeave (at_name (slice_index_or config.volumes.items k d).name mid.images) x) (sym (elsewhere k other)) (left_of_other images left k d lt other)
          ];
        } in
        let f = fronts before left_before volume v conf in
        let same : shows.ids ≡ ids = same_ids before left_before shows.ids (shows.before, here, shows.loaded.view) in
        record {
          before = before;
          left = left_before;
          only = record {
            shape = shape_in config v;
            shape_is = shape_at volume v conf;
            count = sym (length-set images volume (Some shows.before));
            others = λ k other. sym (elsewhere k other);
            was = shows.before;
            was_is = here;
            sized = ap length (same_Some shows.before f.blocks (sym here ∙ f.here)) ∙ f.sized;
            now_is = is ∙ ap Some (shows.is ∙ ap (λ (l : List ℕ). with_view (changed asked l) shows.before) same);
          };
          may = subst (MayChange volume asked) same shows.may;
        }

  -- ---- What is left of each volume

  shown_view : (images : Images) → IsShown images → HasViewIn images volume (changed asked ids)
  shown_view images is =
      let long : 2 ≤ length is.only.was = omega (arith, is.only.sized) in
      (with_view (changed asked ids) is.only.was, is.only.now_is, shows_view (changed asked ids) is.only.was long (new_is_view is.may.allowed))

  all_there_shown : (images : Images) → IsShown images → AllThere shapes images
  all_there_shown images is = shown_there shapes volume (changed asked ids) images is.before is.only (all_there is.before is.left)

  -- it is one that was left, or it shows the new view
  abbrev IsEither : Images → Type 0
  IsEither images = AreLeft config mid images ⊎ IsShown images

  module _ (images : Images) (either : IsEither images) where
    array_is : KeepsArrays config entry mid → (n : ℕ) → n < length shapes → recovered_from shapes images n ≡ recovered_from shapes (images_read config entry) n
    array_is arrays n lt = elim either [
      | inl left ↦ arrays images left n lt
      | inr shown ↦ recovers_same shapes volume (changed asked ids) images shown.before shown.only (all_there shown.before shown.left) n ∙ arrays shown.before shown.left n lt
    ]

    view_is : HasViewIn images volume ids ⊎ (MayChange volume asked ids × HasViewIn images volume (changed asked ids))
    view_is = elim either [
      | inl left ↦ inl (view_now config entry images volume v conf (fronts images left volume v conf) ids at_entry)
      | inr shown ↦ inr (shown.may, shown_view images shown)
    ]

    there_is_each : (n : ℕ) → n < length shapes → IsThere shapes images n
    there_is_each n lt =
        let long : length shapes ≡ length config.volumes.items = length-map config.volumes.items (shape_in config) in
        let w = there_is config.volumes.items n (omega (arith, lt, long)) in
        let at = shape_at n w.0 w.1 in
        elim either [
          | inl left ↦ let c = all_there images left n (shape_in config w.0) at in (shape_in config w.0, c.0, at, c.1, c.2)
          | inr shown ↦ let c = all_there_shown images shown n (shape_in config w.0) at in (shape_in config w.0, c.0, at, c.1, c.2)
        ]

    other_is : (other : ℕ) (its : List ℕ) → other ≢ volume → HasViewIn (images_read config entry) other its → HasViewIn images other its
    other_is other its differs has =
        let within = within_images (images_read config entry) other has.0 has.1 in
        let long = (reads_left config entry).count in
        let w = there_is config.volumes.items other (omega (arith, within, long)) in
        elim either [
          | inl left ↦ view_now config entry images other w.0 w.1 (fronts images left other w.0 w.1) its has
          | inr shown ↦
              let before = view_now config entry shown.before other w.0 w.1 (fronts shown.before shown.left other w.0 w.1) its has in
              (before.0, shown.only.others other differs ∙ before.1, before.2)
        ]

  -- sound images stay sound, where a logger that has a log of the volume stays in its view
  sound_is : (images : Images) (shown : IsShown images) → AreSound shapes shown.before
      → ((k i : ℕ) (s : Shape) (c : List Block) (rs : List Record) → slice_get shapes k ≡ Some s → image_of shown.before k ≡ Some c → i < s.segments → Contains ids k → IsLog (segment_of s c i) volume rs → Contains (changed asked ids) k)
      → AreSound shapes images
  sound_is images shown sound keeps =
      let long : length shapes ≡ length config.volumes.items = length-map config.volumes.items (shape_in config) in
      let was = sound.each volume shown.only.shape shown.only.shape_is in
      let view = was.4.view in
      let has : HasViewIn shown.before volume was.1 = (was.0, some_image shown.before volume was.0 was.2, record { block = view.0; second = view.1; spelled = view.2 }) in
      let names : NamesOthers (length shapes) volume ids = subst (NamesOthers (length shapes) volume) (same_ids shown.before shown.left was.1 has) view.3 in
      sound_shown shapes volume (changed asked ids) images shown.before shown.only sound (new_is_view shown.may.allowed) (changed_names (length shapes) volume asked ids names (omega (arith, fits, long)) shown.may.other)
      (λ old old_view k i s c rs at here lt contains lies.
      let same : old ≡ ids = same_ids shown.before shown.left old (shown.only.was, shown.only.was_is, old_view) in
      keeps k i s c rs at here lt (subst (λ (l : List ℕ). Contains l k) same contains) lies)

  -- ---- By the answer

  module _ (result : Result (List ℕ) Stop) (change : ChangesImage v.name volume asked result mid new) where
    origin : (images : Images) → AreLeft config new images → IsEither images
    origin images left = go result (change.left (image_of images volume) here)
      where
        here : MayLeave (at_name v.name new.images) (image_of images volume)
        here =
            let P : VolumeConf → Type 0 = λ w. MayLeave (at_name w.name new.images) (image_of images volume) in
            subst P (get_or_from_slice_get config.volumes.items volume v v conf) (left.each volume v (slice_get_within config.volumes.items volume v conf))

        go : (r : Result (List ℕ) Stop) → LeavesBy r v.name volume asked mid (image_of images volume) → IsEither images
        go (Ok view) by = inr (left_shown change.others images left by)
        go (Err (stop.Refused refusal)) by = inl (left_same change.others images left by)
        go (Err (stop.Fault fault)) (inl by) = inl (left_same change.others images left by)
        go (Err (stop.Fault fault)) (inr by) = inr (left_shown change.others images left by)
        go (Err stop.Sink) by = absurd by

    pub arrays_left : KeepsArrays config entry mid → KeepsArrays config entry new
    arrays_left arrays images left n lt = array_is images (origin images left) arrays n lt

    pub there_left : LeavesThere config new
    there_left images left n lt = there_is_each images (origin images left) n lt

    others_left : KeepsOtherViews config volume entry new
    others_left other its differs has images left = other_is images (origin images left) other its differs has

    -- the image that was handed out
    image_is : (i : Image) × (at_name v.name mid.images ≡ Some i) × ((its : List ℕ) → HasView (front_of i) its → its ≡ ids)
    image_is =
        let images = images_read config mid in
        let left = reads_left config mid in
        let f = fronts images left volume v conf in
        let found = read_some (at_name v.name mid.images) f.blocks (sym (read_at config mid volume v conf) ∙ f.here) in (
          found.0,
          found.1,
          λ its view. same_ids images left its (
            f.blocks,
            f.here,
            record {
              block = view.block;
              second = ap (λ (c : List Block). slice_get c 1) (sym found.3) ∙ sym (at_front 2 1 (reads found.0.blocks) (omega arith)) ∙ view.second;
              spelled = view.spelled;
            },
          ),
        )

    shown_of : (images : Images) → AreLeft config new images → LeavesNewView v.name volume asked mid (image_of images volume) → HasViewIn images volume (changed asked ids)
    shown_of images left by = shown_view images (left_shown change.others images left by)

    here_left : (images : Images) → AreLeft config new images → MayLeave (at_name v.name new.images) (image_of images volume)
    here_left images left =
        let P : VolumeConf → Type 0 = λ w. MayLeave (at_name w.name new.images) (image_of images volume) in
        subst P (get_or_from_slice_get config.volumes.items volume v v conf) (left.each volume v (slice_get_within config.volumes.items volume v conf))

    becomes : (view : List ℕ) → Rattle.std.specs.Prelude.IfOk result (λ is. is ≡ view) → BecomesBy result config volume asked ids view new
    becomes view is = go result is (change.answer image_is.0 image_is.1) (λ images left. change.left (image_of images volume) (here_left images left))
      where
        refusal_is : (r : ViewRefusal) → (r ≡ Itself) × (id_of asked ≡ volume) → MayNotChange volume asked ids r
        refusal_is r (is, same) = subst (MayNotChange volume asked ids) (sym is) (itself asked same)
          where
            itself : (c : Change) → id_of c ≡ volume → MayNotChange volume c ids Itself
            itself (Add id) same = same
            itself (Remove id) same = same

        go : (r : Result (List ℕ) Stop) → Rattle.std.specs.Prelude.IfOk r (λ is. is ≡ view) → AnswersFront volume asked (front_of image_is.0) r
            → ((images : Images) → AreLeft config new images → LeavesBy r v.name volume asked mid (image_of images volume)) → BecomesBy r config volume asked ids view new
        go (Ok its) is (old, loaded, may, new_is) leaves =
            let same : old ≡ ids = image_is.2 old loaded.view in
            let view_new : view ≡ changed asked ids = sym is ∙ new_is ∙ ap (changed asked) same in (
              subst (MayChange volume asked) same may,
              view_new,
              λ images left. subst (HasViewIn images volume) (sym view_new) (shown_of images left (leaves images left)),
            )
        go (Err (stop.Refused r)) is (inl own) leaves =
            (refusal_is r own, λ images left. view_now config entry images volume v conf (fronts images (left_same change.others images left (leaves images left)) volume v conf) ids at_entry)
        go (Err (stop.Refused r)) is (inr (old, loaded, cause)) leaves = (
          subst (λ (l : List ℕ). MayNotChange volume asked l r) (image_is.2 old loaded.view) cause,
          λ images left. view_now config entry images volume v conf (fronts images (left_same change.others images left (leaves images left)) volume v conf) ids at_entry,
        )
        go (Err (stop.Fault f)) is answer leaves = λ images left. view_is images (origin images left)
        go (Err stop.Sink) is answer leaves = absurd answer

    pub views_left : (view : List ℕ) → Rattle.std.specs.Prelude.IfOk result (λ is. is ≡ view) → ChangesViewOf config volume asked result view entry new
    views_left view is = record { ids = ids; at_entry = at_entry; becomes = becomes view is; others = others_left }

    -- where a logger comes, sound images stay sound
    pub sound_left : IsAddition asked → KeepsAllSound config entry mid → KeepsAllSound config entry new
    sound_left addition sound all images left = elim (origin images left) [
      | inl was ↦ sound all images was
      | inr shown ↦ sound_is images shown (sound all shown.before shown.left) (λ k i s c rs at here lt has lies. still_has asked addition ids k has)
    ]

    -- where a logger goes, sound images stay sound if none has a log of the volume
    pub sound_gone : HasNoLog config volume mid → KeepsAllSound config entry mid → KeepsAllSound config entry new
    sound_gone none sound all images left = elim (origin images left) [
      | inl was ↦ sound all images was
      | inr shown ↦ sound_is images shown (sound all shown.before shown.left) (λ k i s c rs at here lt has lies. absurd (none shown.before shown.left k i s c rs at here lt lies))
    ]

  pub there_kept : LeavesThere config mid
  there_kept images left n lt = there_is_each images (inl left) n lt

  -- where nothing was changed since, views are those at entry
  pub views_kept : {T : Type 0} (f : Fault) (view : List ℕ) → ChangesViewOf {T = T} config volume asked (Err (stop.Fault f)) view entry mid
  views_kept f view = record {
    ids = ids;
    at_entry = at_entry;
    becomes = λ images left. inl (view_now config entry images volume v conf (fronts images left volume v conf) ids at_entry);
    others = λ other its differs has images left. other_is images (inl left) other its differs has;
  }
