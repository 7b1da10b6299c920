-- Blocks that are laid home without a sync, and a sync of home: what the manager keeps up, what it stands for where that failed, and what a stop leaves.
use Rattle.std.proofs.Common.{◌≡◌, inl, ⊎_elim, ◌<◌, ◌+◌, ℕ, Bool, true, false, ◌||◌, List, [], ◌∷◌, ◌++◌, length, Option, None, Some, refl, sym, ap, subst, ◌∙◌, replicate}
use Rattle.std.specs.Prelude.{⊤, IsTrue, is_some, option_map}
use Rattle.std.proofs.lemmas.Bool.{false≢true}
use Rattle.std.proofs.lemmas.List.{length-replicate}
use Rattle.std.proofs.lemmas.Option.{none-some, same_Some}
use Rattle.std.specs.Option.{option_or}
use mathlib.Core.Path.{fun_ext}
use Rattle.turn_lock.specs.Passes.{IsSamePass}
use Rattle.turn_lock.specs.declared.pass.PassOf.{PassOf}
use Rattle.wol_disk.specs.Disk.{State, Block, Values, IsDisk, IsImageOf, IsBlend, LeavesOnly, Rose, only, reads, settled}
use Rattle.wol_disk.proofs.Images.{reads_only}
use Rattle.wol_disk.proofs.Moments.{then_leaves}
use Rattle.wol_model.specs.Blocks.{Write, last_written, overlaid, after}
use Rattle.wol_model.specs.Extents.{Extent}
use Rattle.wol_model.specs.History.{Broke, writes}
use Rattle.wol_model.specs.Holding.{IsData, Holds as HoldsArray}
use Rattle.wol_model.specs.Index.{Indexed, listed_in, is_due}
use Rattle.wol_model.specs.Log.{has_bit}
use Rattle.wol_model.proofs.Mixed.{mixed_of, blend_of}
use Rattle.wol_model.proofs.Overlay.{after_none, overlay_twice}
use Rattle.wol_model.proofs.Steps.{putting_step, putting_in_flight}
use Rattle.wol_promise.specs.Manager.{Parts, ManagerSeen, Base, extents_held, is_homed_in}
use Rattle.wol_promise.specs.Ruled.{Noted, entries_of, last_look}
use Rattle.wol_promise.specs.Stands.{Upholds, IsDataOf, StopsSafely}
use Rattle.wol_promise.proofs.HomeWrites.{places_with_home}
use Rattle.wol_promise.proofs.Kept.{other_flags}
use Rattle.wol_promise.proofs.OneMore.{last_more}
use Rattle.wol_promise.proofs.Puts.{put_breaks}
use Rattle.wol_promise.proofs.Stops.{putting_stops}
use Rattle.spin_model.specs.Spun.{state_of, volume_of}
use Rattle.spin_model.specs.declared.spindle.Spindle.{Spindle}
use Rattle.spin_model.specs.declared.spindle.SpindleBase.{SpindleBase}
use Rattle.spin_model.specs.declared.spun.Spun.{Spun}
use Rattle.log_segment.specs.Segment.{Holds}
use Rattle.manager.specs.Reading.{IsReadThrough}
use Rattle.std.specs.List.{AllByRecursion}
use Rattle.redirect_map.specs.Index.{Contents, changed, entry_at}
use Rattle.manager.specs.Reclaim.{put_block, with_put, AreHome, IsPartlyPut}
use Rattle.manager.specs.Seen.{Logs, AllLanesHold, parts_of, seen, all_held, down_of, look_of_manager}
use Rattle.manager.specs.Stands.{Keeps, Stands, IsReady, IsInVolume, IsPlacedIn, IsNote, entries_at, nones_at}
use Rattle.manager.specs.Stops.{ImageSince, HeldSince}
use Rattle.manager.specs.declared.base.ManagerBase.{ManagerBase}
use Rattle.manager.specs.declared.manager.Manager.{Manager}
use Rattle.manager.specs.declared.part.Part.TheVariants.{Home}
use Rattle.volume_parts.proofs.Contents.{puts_from, last_put}
use Rattle.volume_parts.proofs.Entries.{At, all_changed, count_changed}
use Rattle.volume_parts.proofs.Lanes.{counted_as}
use Rattle.manager.proofs.Frames.{none_passed}
use Rattle.manager.proofs.Moments.{stops_so}
use Rattle.manager.proofs.ReadContent.{unbroken, upholds_up}
use Rattle.manager.proofs.ReadKeeps.{held_read}
use Rattle.manager.proofs.ReadStops.{logs, moved}
use Rattle.manager.proofs.StoreHome.{partly_image, data_of, put_keeps}
use Rattle.manager.proofs.WentHome.{risen, home_failed}
use Rattle.volume_parts.proofs.Held.{moved_extents}

-- ---- the model's step: blocks of the newest records that are home, or not yet

pub blend_holds : (a : List Block) (ws : List Write) (next : ℕ) (home x : List Block) (rs : List Extent) (homed : ℕ → Bool) (puts : List Write)
    → HoldsArray a ws next home rs homed → IsData rs puts → IsBlend home (after home puts) x → HoldsArray a ws next x rs homed
blend_holds a ws next home x rs homed puts h is_data blend = record {
  stands = putting_in_flight a ws next home x rs homed puts h is_data blend;
  is_home = λ b y z marked newest at. ⊎_elim
      (λ old. h.is_home b y z marked newest (sym old ∙ at))
      (λ new. (putting_step a ws next home rs homed puts h is_data).is_home b y z (λ i. marked i || is_some (last_written puts b)) newest (sym new ∙ at))
      (mixed_of home (after home puts) x blend b);
  distinct = h.distinct;
  below = h.below;
}

no_data : (rs : List Extent) → IsData rs []
no_data rs b x is = absurd (none-some x is)

same_blend : (x : List Block) → IsBlend x (after x []) x
same_blend x = blend_of x (after x []) x (ap length (after_none x)) (λ b. inl refl)

-- ---- home is another part, each image of which holds the array

module _ {P : Type 0} (parts : Parts P) (base : Base) (m : ManagerSeen P) (part : P) (size : parts.size part ≡ parts.size m.home) (volume : parts.volume part ≡ parts.volume m.home) (puts : List Write) where
  pub home_laid : (notes : List Noted) (ws : List Write) → Upholds parts base m notes ws None → m.down ≡ None
      → (parts.told → IsData (extents_held m.held) puts)
      → ((x : List Block) → parts.may_be part x → (home : List Block) × parts.may_be m.home home × IsBlend home (after home puts) x)
      → Upholds parts base (record m { home = part }) notes ws None
  home_laid notes ws u up is_data images = record {
    began = u.began;
    history = u.history;
    lie = u.lie;
    versioned = u.versioned;
    known = u.known;
    places = places_with_home parts base m.home part m.held m.ups size volume u.places;
    is_down = u.is_down;
    failed = λ name is. absurd (let no : None ≡ Some name = sym up ∙ is in cc);
    calm = λ none. let c = u.calm none in record {
      unbroken = c.unbroken;
      untaken = c.untaken;
      sorted = c.sorted;
      below = c.below;
      placed = c.placed;
      whole = λ told. let w = c.whole told in record {
        logs = w.logs;
        distinct = w.distinct;
        index = w.index;
        holds = λ x is. let from = images x is in
            blend_holds base.array ws m.next from.0 x (extents_held m.held) (is_homed_in m.indexed) puts (w.holds from.0 from.1) (is_data told) from.2;
      };
    };
    sound = λ told some. absurd (false≢true some);
    cut = λ told fl is. absurd (let no : None ≡ Some fl = is in cc);
  }

-- ---- the manager

module _ {D : Type 0} (tells : Bool) (state : D → State) (m : Manager D) (b : ManagerBase) (notes : List Noted) (kp : Keeps tells state m b notes) (up : m.down ≡ None) (puts : List Write)
    (is_data : IsTrue tells → IsData (extents_held (all_held 0 m.lanes.items kp.logs)) puts)
    (part : Spun D) (spindle : PassOf Spindle SpindleBase) (volume : volume_of part ≡ volume_of m.home) (size : (state_of state part).size ≡ (state_of state m.home).size) (pass : IsSamePass m.spindle spindle)
    (images : (c : List Block) → IsImageOf (state_of state part).values c → (home : List Block) × IsImageOf (state_of state m.home).values home × IsBlend home (after home puts) c) where
  pub laid_keeps : IsReady state (record m { home = part; spindle = spindle; home_up = true }) → Keeps tells state (record m { home = part; spindle = spindle; home_up = true }) b notes
  laid_keeps ready = record {
    logs = kp.logs;
    held = kp.held;
    upholds = subst (Upholds (parts_of tells state) b.volume.began (record (seen m kp.logs) { home = part; home_up = true }) notes (writes (entries_of notes))) (sym (unbroken tells state m b notes kp up))
        (other_flags (parts_of tells state) b.volume.began (record (seen m kp.logs) { home = part }) true m.ups.items notes (writes (entries_of notes)) None
        (home_laid (parts_of tells state) b.volume.began (seen m kp.logs) part size volume puts notes (writes (entries_of notes)) (upholds_up tells state m b notes kp up) (ap down_of up) is_data
        (λ x may. let from = images x may.1 in (from.0, (may.0, from.1), from.2))) refl);
    in_use = kp.in_use;
    passed = kp.passed;
    taken = kp.taken;
    still = kp.still;
    ready = ready;
    locks = let l = kp.locks in record { pass = pass.0 ∙ l.pass; number = pass.1 ∙ l.number; each = l.each; owner = l.owner; most_ = l.most_; view = l.view };
  }

  pub laid_fails : (n : Noted) → IsNote (last_look b.volume.began.look notes) (Broke []) [] (look_of_manager (record m { home_up = true; down = Some (Home m.id) })) n → Rose (state_of state m.home).faults (state_of state part).faults
      → IsReady state (record m { home = part; spindle = spindle; home_up = true; down = Some (Home m.id) })
      → Stands tells state (record m { home = part; spindle = spindle; home_up = true; down = Some (Home m.id) }) b (notes ++ n ∷ [])
  laid_fails n note rose ready = record {
    keeps = home_failed tells state m b notes kp part spindle pass (notes ++ n ∷ [])
        (put_breaks (parts_of tells state) b.volume.began (seen m kp.logs) part size volume puts true m.ups.items notes n refl (upholds_up tells state m b notes kp up) (unbroken tells state m b notes kp up)
        note.operation_is note.drain is_data
        (λ x may. let from = images x may.1 in (from.0, (may.0, from.1), from.2))
        (risen (state_of state m.home).faults (state_of state part).faults rose)).upholds (none_passed (nones_at m.lanes.items b.lanes) notes n note.passed_is kp.passed) ready;
    look = last_more b.volume.began.look notes n ∙ note.look_is;
  }

-- ---- blocks of a record

module _ {D : Type 0} (tells : Bool) (state : D → State) (m : Manager D) (b : ManagerBase) (notes : List Noted) (kp : Keeps tells state m b notes) (up : m.down ≡ None)
    (version mask : ℕ) (blocks : List Block) (e : Indexed) (at : At m.index.entries version e) (count : length blocks ≡ length e.listed.keep)
    (due : (i : ℕ) → has_bit mask i ≡ true → is_due (listed_in m.index.entries) e.listed (e.listed.first + i) ≡ true)
    (data_ : IsTrue tells → IsDataOf b.volume.began (writes (entries_of notes)) version e.listed.first blocks)
    (part : Spun D) (spindle : PassOf Spindle SpindleBase) (volume : volume_of part ≡ volume_of m.home) (size : (state_of state part).size ≡ (state_of state m.home).size) (pass : IsSamePass m.spindle spindle)
    (partly : (c : List Block) → IsImageOf (state_of state part).values c → IsPartlyPut (state_of state m.home).values (put_block e.listed.first mask blocks) c) where
  pub lay_keeps : IsReady state (record m { home = part; spindle = spindle; home_up = true }) → Keeps tells state (record m { home = part; spindle = spindle; home_up = true }) b notes
  lay_keeps ready = laid_keeps tells state m b notes kp up (puts_from 0 e.listed.first mask blocks) (data_of tells state m b notes kp up version mask blocks e at count due data_) part spindle volume size pass
      (λ c is. partly_image (state_of state m.home).values e.listed.first mask blocks c (partly c is)) ready

-- ---- a sync

module _ {D : Type 0} (tells : Bool) (state : D → State) (m : Manager D) (b : ManagerBase) (notes : List Noted) (kp : Keeps tells state m b notes) (up : m.down ≡ None)
    (part : Spun D) (spindle : PassOf Spindle SpindleBase) (volume : volume_of part ≡ volume_of m.home) (size : (state_of state part).size ≡ (state_of state m.home).size) (pass : IsSamePass m.spindle spindle)
    (images : (c : List Block) → IsImageOf (state_of state part).values c → IsImageOf (state_of state m.home).values c) where
  as_blend : (c : List Block) → IsImageOf (state_of state part).values c → (home : List Block) × IsImageOf (state_of state m.home).values home × IsBlend home (after home []) c
  as_blend c is = (c, images c is, same_blend c)

  pub sync_keeps : IsReady state (record m { home = part; spindle = spindle; home_up = true }) → Keeps tells state (record m { home = part; spindle = spindle; home_up = true }) b notes
  sync_keeps ready = laid_keeps tells state m b notes kp up [] (λ told. no_data (extents_held (all_held 0 m.lanes.items kp.logs))) part spindle volume size pass as_blend ready

  pub sync_fails : (n : Noted) → IsNote (last_look b.volume.began.look notes) (Broke []) [] (look_of_manager (record m { home_up = true; down = Some (Home m.id) })) n → Rose (state_of state m.home).faults (state_of state part).faults
      → IsReady state (record m { home = part; spindle = spindle; home_up = true; down = Some (Home m.id) })
      → Stands tells state (record m { home = part; spindle = spindle; home_up = true; down = Some (Home m.id) }) b (notes ++ n ∷ [])
  sync_fails n note rose ready = laid_fails tells state m b notes kp up [] (λ told. no_data (extents_held (all_held 0 m.lanes.items kp.logs))) part spindle volume size pass as_blend n note rose ready

module _ {D : Type 0} (tells : Bool) (state : D → State) (sound : (d : D) → IsDisk (state d)) (told : IsTrue tells) (was old : Manager D) (read : IsReadThrough state was old) (ready : IsReady state old) (up : was.down ≡ None)
    (b : ManagerBase) (notes : List Noted) (kp : Keeps tells state was b notes) (part : Spun D)
    (leaves : LeavesOnly (state_of state old.home) (state_of state part) (IsImageOf (state_of state old.home).values)) where
  same_extents : extents_held (all_held 0 old.lanes.items kp.logs) ≡ extents_held (all_held 0 was.lanes.items kp.logs)
  same_extents = moved_extents state b.volume.began.owner (all_held 0 was.lanes.items kp.logs) (all_held 0 old.lanes.items kp.logs) (moved tells state sound told was b notes kp old read ready up)

  image_of : (x : List Block) → ImageSince state was.home part x → IsImageOf (state_of state was.home).values x
  image_of x image = (then_leaves {P = IsImageOf (state_of state was.home).values} read.home.any_moment leaves
      (λ c is. subst (λ (o : Option (List (Values Block))). IsImageOf o c) read.home.values is)).each x image

  pub sync_stops : (before after_ : Logs) → AllLanesHold (λ h rs. ⊤) was.lanes.items before → AllLanesHold (λ h rs. ⊤) old.lanes.items after_
      → StopsSafely (ImageSince state was.home part) (HeldSince state (all_held 0 was.lanes.items before) None) b.volume.began (entries_of notes) (all_held 0 old.lanes.items after_) []
  sync_stops = stops_so tells state sound told was b notes kp up None (ImageSince state was.home part) old.lanes.items kp.logs []
      (λ h rs. IsTrue tells → old.down ≡ None → Holds state h.segment rs) (held_read tells state was old b notes read ready up kp)
      (putting_stops (ImageSince state was.home part) (HeldSince state (all_held 0 was.lanes.items kp.logs) None) b.volume.began.owner b.volume.began.array (writes (entries_of notes)) was.next (is_homed_in was.index.entries)
      (all_held 0 old.lanes.items kp.logs) [] [] (logs tells state sound told was b notes kp old read ready up)
      (no_data (extents_held (all_held 0 old.lanes.items kp.logs)))
      (λ x image. (
        x,
        subst (λ (rs : List Extent). HoldsArray b.volume.began.array (writes (entries_of notes)) was.next x rs (is_homed_in was.index.entries)) (sym same_extents)
            ((((upholds_up tells state was b notes kp up).calm refl).whole told).holds x (told, image_of x image)),
        same_blend x,
      )))

-- ---- marks

-- an entry with other marks of home has its place, and all else, as before
module _ {D : Type 0} (state : D → State) (m : Manager D) (version mask : ℕ) (index : Contents) (entries : index.entries ≡ changed version (with_put mask) m.index.entries) (ready : IsReady state m) where
  each_marked : (P : Indexed → Type 0) → ((d : Indexed) → P d → P (with_put mask d)) → AllByRecursion P m.index.entries → AllByRecursion P index.entries
  each_marked P so all = subst (AllByRecursion P) (sym entries) (all_changed P version (with_put mask) so m.index.entries all)

  same_counts : (k i : ℕ) → entries_at k i index.entries ≡ entries_at k i m.index.entries
  same_counts k i = ap (entries_at k i) entries ∙ count_changed _ version (with_put mask) (λ d. refl) m.index.entries

  pub ready_marked : (m.down ≡ None) → IsReady state (record m { index = index })
  ready_marked up = record {
    ready = ready.ready;
    next = ready.next;
    below = each_marked (λ (d : Indexed). d.listed.version < m.next) (λ d lt. lt) ready.below;
    ranges = each_marked (IsInVolume (state_of state m.home).size) (λ d is. record { least = is.least; lies = is.lies }) ready.ranges;
    up = λ _. let u = ready.up up in record {
      whole = u.whole;
      placed = each_marked (IsPlacedIn m.lanes.items) (λ d is. record { lane = is.lane; segment = is.segment; lane_is = is.lane_is; held = is.held; index = is.index; behind = is.behind; within = is.within }) u.placed;
      counted = counted_as m.lanes.items m.index.entries index.entries same_counts u.counted;
    };
  }

-- ---- what home reads as

both_same : (o p : Option Block) → ((x y : Block) → o ≡ Some x → p ≡ Some y → x ≡ y) → option_or p o ≡ option_or o p
both_same None None same = refl
both_same None (Some y) same = refl
both_same (Some x) None same = refl
both_same (Some x) (Some y) same = ap Some (sym (same x y refl refl))

same_twice : (o : Option Block) → option_or o o ≡ o
same_twice None = refl
same_twice (Some x) = refl

-- blocks that were laid
pub laid_there : (old new : Option (List (Values Block))) (over : ℕ → Option Block) → option_map reads new ≡ option_map (λ vs. overlaid (reads vs) over) old → option_map (λ vs. overlaid (reads vs) over) new ≡ option_map reads new
laid_there old None over is = refl
laid_there None (Some ws) over is = absurd (none-some (reads ws) (sym is))
laid_there (Some vs) (Some ws) over is =
    let e = same_Some (reads ws) (overlaid (reads vs) over) is in
    ap Some (ap (λ (l : List Block). overlaid l over) e ∙ overlay_twice (reads vs) over over ∙ ap (λ (f : ℕ → Option Block). overlaid (reads vs) f) (fun_ext (λ b. same_twice (over b))) ∙ sym e)

-- others, which agree with them where both are
pub laid_still : (old new : Option (List (Values Block))) (over other : ℕ → Option Block) → ((b : ℕ) (x y : Block) → over b ≡ Some x → other b ≡ Some y → x ≡ y) → option_map reads new ≡ option_map (λ vs. overlaid (reads vs) over) old
    → option_map (λ vs. overlaid (reads vs) other) old ≡ option_map reads old → option_map (λ vs. overlaid (reads vs) other) new ≡ option_map reads new
laid_still old None over other agree is was = refl
laid_still None (Some ws) over other agree is was = absurd (none-some (reads ws) (sym is))
laid_still (Some vs) (Some ws) over other agree is was =
    let e = same_Some (reads ws) (overlaid (reads vs) over) is in
    let before = same_Some (overlaid (reads vs) other) (reads vs) was in
    ap Some (ap (λ (l : List Block). overlaid l other) e ∙ overlay_twice (reads vs) over other
    ∙ ap (λ (f : ℕ → Option Block). overlaid (reads vs) f) (fun_ext (λ b. both_same (over b) (other b) (agree b)))
    ∙ sym (overlay_twice (reads vs) other over) ∙ ap (λ (l : List Block). overlaid l over) before ∙ sym e)

-- a sync
pub synced_there : (old new : Option (List (Values Block))) (over : ℕ → Option Block) → new ≡ option_map settled old → option_map (λ vs. overlaid (reads vs) over) old ≡ option_map reads old → option_map (λ vs. overlaid (reads vs) over) new ≡ option_map reads new
synced_there None new over is was = ap (option_map (λ vs. overlaid (reads vs) over)) is ∙ sym (ap (option_map reads) is)
synced_there (Some vs) new over is was =
    ap (option_map (λ ws. overlaid (reads ws) over)) is ∙ ap Some (ap (λ (l : List Block). overlaid l over) (reads_only (reads vs))) ∙ was ∙ sym (ap (option_map reads) is ∙ ap Some (reads_only (reads vs)))

pub settled_twice : (old new : Option (List (Values Block))) → new ≡ option_map settled old → new ≡ option_map settled new
settled_twice None new is = is ∙ sym (ap (option_map settled) is)
settled_twice (Some vs) new is = is ∙ ap (λ (l : List Block). Some (only l)) (sym (reads_only (reads vs))) ∙ sym (ap (option_map settled) is)

pub home_there : (v : Option (List (Values Block))) (over : ℕ → Option Block) → v ≡ option_map settled v → option_map (λ vs. overlaid (reads vs) over) v ≡ option_map reads v → v ≡ option_map (λ vs. only (overlaid (reads vs) over)) v
home_there None over settles was = refl
home_there (Some vs) over settles was = settles ∙ ap (option_map only) (sym was)

-- the blocks of two records that are due agree
pub agree_due : {D : Type 0} (tells : Bool) (state : D → State) (m : Manager D) (b : ManagerBase) (notes : List Noted) (kp : Keeps tells state m b notes) (up : m.down ≡ None) → IsTrue tells
    → (v w : ℕ) (xs : List Block) (e : Indexed) → At m.index.entries v e → length xs ≡ length e.listed.keep → ((i : ℕ) → has_bit w i ≡ true → is_due (listed_in m.index.entries) e.listed (e.listed.first + i) ≡ true) → IsDataOf b.volume.began (writes (entries_of notes)) v e.listed.first xs
    → (v' w' : ℕ) (ys : List Block) (e' : Indexed) → At m.index.entries v' e' → length ys ≡ length e'.listed.keep → ((i : ℕ) → has_bit w' i ≡ true → is_due (listed_in m.index.entries) e'.listed (e'.listed.first + i) ≡ true) → IsDataOf b.volume.began (writes (entries_of notes)) v' e'.listed.first ys
    → (k : ℕ) (x y : Block) → put_block e.listed.first w xs k ≡ Some x → put_block e'.listed.first w' ys k ≡ Some y → x ≡ y
agree_due tells state m b notes kp up told v w xs e at count due data_ v' w' ys e' at' count' due' data_' k x y is is' =
    same_Some x y
    (sym (data_of tells state m b notes kp up v w xs e at count due (λ t. data_) told k x (last_put e.listed.first w xs k ∙ is))
    ∙ data_of tells state m b notes kp up v' w' ys e' at' count' due' (λ t. data_') told k y (last_put e'.listed.first w' ys k ∙ is'))

-- what is home is marked
pub mark_keeps : {D : Type 0} (tells : Bool) (state : D → State) (m : Manager D) (b : ManagerBase) (notes : List Noted) (kp : Keeps tells state m b notes) (up : m.down ≡ None) (awake : m.home_up ≡ true) (version mask : ℕ) (e : Indexed) (at : At m.index.entries version e)
    (is : entry_at m.index.entries version ≡ Some e) (due : (i : ℕ) → has_bit mask i ≡ true → is_due (listed_in m.index.entries) e.listed (e.listed.first + i) ≡ true) (index : Contents) (entries : index.entries ≡ changed version (with_put mask) m.index.entries)
    (there : AreHome tells state m version mask b notes) → IsReady state (record m { index = index }) → Keeps tells state (record m { index = index }) b notes
mark_keeps tells state m b notes kp up awake version mask e at is due index entries there ready = by tells refl
  where
    ready_up : IsReady state (record m { index = index; home_up = true })
    ready_up = subst (λ (u : Bool). IsReady state (record m { index = index; home_up = u })) awake ready

    then_ : (blocks : List Block) → length blocks ≡ length e.listed.keep → (IsTrue tells → IsDataOf b.volume.began (writes (entries_of notes)) version e.listed.first blocks)
        → (IsTrue tells → (state_of state m.home).values ≡ option_map (λ vs. only (overlaid (reads vs) (put_block e.listed.first mask blocks))) (state_of state m.home).values) → Keeps tells state (record m { index = index }) b notes
    then_ blocks count data_ values = subst (λ (u : Bool). Keeps tells state (record m { index = index; home_up = u }) b notes) (sym awake)
        (put_keeps tells state m b notes kp up version mask blocks e at count due data_ m.home m.spindle index refl refl (refl, refl) entries values ready_up)

    by : (t : Bool) → tells ≡ t → Keeps tells state (record m { index = index }) b notes
    by true told = let has = there.0 told e is in then_ has.0 has.1 (λ t. has.2) (λ t. home_there (state_of state m.home).values (put_block e.listed.first mask has.0) (there.1 told) has.3)
    by false not = then_ (replicate (length e.listed.keep) []) (length-replicate (length e.listed.keep) []) (λ told. absurd (let no : false ≡ true = sym not ∙ told in cc)) (λ told. absurd (let no : false ≡ true = sym not ∙ told in cc))
