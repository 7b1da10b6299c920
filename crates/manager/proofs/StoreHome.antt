-- Due blocks of one record that are put home: what the manager keeps up, what it stands for where that failed, and what a stop leaves.
use Rattle.std.proofs.Common.{◌≡◌, ◌<◌, ◌≤◌, ◌+◌, ◌-◌, ℕ, zero, suc, Bool, true, false, List, [], ◌∷◌, ◌++◌, length, Option, None, Some, refl, sym, ap, subst, ◌∙◌, arith, leb}
use Rattle.std.specs.Prelude.{⊤, IsTrue, Contains, slice_get, is_some, option_map, if◌then◌else◌}
use Rattle.std.specs.List.{AllByRecursion}
use Rattle.std.proofs.lemmas.Bool.{leb-true, le-leb, and_parts}
use Rattle.std.proofs.lemmas.List.{append-nil}
use mathlib.Core.Path.{fun_ext}
use Rattle.turn_lock.specs.Passes.{pass_mine, IsFree, IsSamePass}
use Rattle.turn_lock.specs.declared.pass.PassOf.{PassOf}
use Rattle.wol_disk.specs.Disk.{State, Block, Values, IsDisk, IsImageOf, IsBlend, LeavesOnly, Rose, only, reads}
use Rattle.wol_disk.proofs.Calls.{settled_from}
use Rattle.wol_disk.proofs.Images.{image_reads}
use Rattle.wol_disk.proofs.Moments.{then_leaves, widened}
use Rattle.wol_model.specs.Blocks.{Write, AreApart, block_of, last_written, overlaid, after}
use Rattle.wol_model.specs.Extents.{Extent, IsValid}
use Rattle.wol_model.specs.History.{Broke, writes, flight_of}
use Rattle.wol_model.specs.Holding.{IsData, Holds as HoldsArray}
use Rattle.wol_model.specs.Index.{Indexed, listed_in, is_due, is_live, cover_of}
use Rattle.wol_model.specs.Log.{Record, has_bit, extent_of}
use Rattle.wol_model.proofs.Counts.{both, marked_within}
use Rattle.wol_promise.specs.Manager.{Held, IsBacked, extents_held, is_homed_in, WasWritten}
use Rattle.wol_promise.specs.Ruled.{Noted, entries_of, last_look}
use Rattle.wol_promise.specs.Stands.{Upholds, IsDataOf, IsWhole, StopsSafely}
use Rattle.wol_promise.proofs.Kept.{other_flags}
use Rattle.wol_promise.proofs.Known.{versions_joined}
use Rattle.wol_promise.proofs.Lists.{all_member, member_of}
use Rattle.wol_promise.proofs.OneMore.{last_more}
use Rattle.wol_promise.proofs.Puts.{put_home, home_put, put_breaks}
use Rattle.wol_promise.proofs.Stops.{putting_stops}
use Rattle.spin_model.specs.Operations.{has_token}
use Rattle.spin_model.specs.Spun.{state_of, volume_of}
use Rattle.spin_model.specs.declared.spindle.Spindle.{Spindle}
use Rattle.spin_model.specs.declared.spindle.SpindleBase.{SpindleBase}
use Rattle.spin_model.specs.declared.spun.Spun.{Spun}
use Rattle.log_segment.specs.Segment.{Holds}
use Rattle.block_cells.specs.Masks.{in_mask}
use Rattle.redirect_map.specs.Index.{Contents, changed}
use Rattle.manager.specs.Accesses.{HasUsedOnce}
use Rattle.manager.specs.Reading.{IsReadThrough}
use Rattle.manager.specs.Reclaim.{put_block, IsPartlyPut, with_put}
use Rattle.manager.specs.Seen.{Logs, AllLanesHold, parts_of, seen, all_held, down_of, look_of_manager}
use Rattle.manager.specs.Stands.{Keeps, Stands, IsReady, IsInVolume, IsPlacedIn, IsNote, entries_at, nones_at, AreStill}
use Rattle.manager.specs.Stops.{ImageSince, HeldSince}
use Rattle.manager.specs.declared.base.ManagerBase.{ManagerBase}
use Rattle.manager.specs.declared.manager.Manager.{Manager}
use Rattle.manager.specs.declared.part.Part.{Part}
use Rattle.manager.specs.declared.part.Part.TheVariants.{Home}
use Rattle.volume_parts.proofs.Entries.{all_changed, count_changed, At, among, still_changed}
use Rattle.volume_parts.proofs.Lanes.{counted_as}
use Rattle.manager.proofs.Frames.{none_passed, ready_used}
use Rattle.volume_parts.proofs.Contents.{puts_from, last_put, same_write, live_block}
use Rattle.manager.proofs.Moments.{stops_so}
use Rattle.volume_parts.proofs.Accesses.{blend_none}
use Rattle.manager.proofs.ReadContent.{unbroken, upholds_up}
use Rattle.manager.proofs.ReadKeeps.{held_read}
use Rattle.manager.proofs.ReadStops.{logs, moved}
use Rattle.volume_parts.proofs.Held.{moved_extents}
use Rattle.manager.proofs.WentHome.{risen, home_failed}

-- ---- the manager between its calls

-- an entry with other marks of home has its place, and all else, as before
module _ {D : Type 0} (state : D → State) (m : Manager D) (version mask : ℕ) (part : Spun D) (spindle : PassOf Spindle SpindleBase) (home_up : Bool) (index : Contents) (down : Option Part)
    (volume : volume_of part ≡ volume_of m.home) (size : (state_of state part).size ≡ (state_of state m.home).size) (pass : IsSamePass m.spindle spindle) (free : IsFree spindle) (settled : has_token (pass_mine spindle) ≡ false) (used : HasUsedOnce m.spindle spindle)
    (entries : index.entries ≡ changed version (with_put mask) m.index.entries) (ready : IsReady state m) where
  each_put : (P : Indexed → Type 0) → ((d : Indexed) → P d → P (with_put mask d)) → AllByRecursion P m.index.entries → AllByRecursion P index.entries
  each_put P so all = subst (AllByRecursion P) (sym entries) (all_changed P version (with_put mask) so m.index.entries all)

  same_counts : (k i : ℕ) → entries_at k i index.entries ≡ entries_at k i m.index.entries
  same_counts k i = ap (entries_at k i) entries ∙ count_changed _ version (with_put mask) (λ d. refl) m.index.entries

  pub ready_put : (m.down ≡ None) → IsReady state (record m { home = part; spindle = spindle; home_up = home_up; index = index; down = down })
  ready_put up = record {
    ready = ready_used state m part spindle volume size pass free settled used ready.ready;
    next = ready.next;
    below = each_put (λ (d : Indexed). d.listed.version < m.next) (λ d lt. lt) ready.below;
    ranges = subst (λ (n : ℕ). AllByRecursion (IsInVolume n) index.entries) (sym size) (each_put (IsInVolume (state_of state m.home).size) (λ d is. record { least = is.least; lies = is.lies }) ready.ranges);
    up = λ _. let u = ready.up up in record {
      whole = u.whole;
      placed = each_put (IsPlacedIn m.lanes.items) (λ d is. record { lane = is.lane; segment = is.segment; lane_is = is.lane_is; held = is.held; index = is.index; behind = is.behind; within = is.within }) u.placed;
      counted = counted_as m.lanes.items m.index.entries index.entries same_counts u.counted;
    };
  }

-- ---- what is put home

last_is : (first mask : ℕ) (blocks : List Block) → last_written (puts_from 0 first mask blocks) ≡ put_block first mask blocks
last_is first mask blocks = fun_ext (last_put first mask blocks)

after_puts : (home : List Block) (first mask : ℕ) (blocks : List Block) → after home (puts_from 0 first mask blocks) ≡ overlaid home (put_block first mask blocks)
unfolding after
after_puts home first mask blocks = ap (overlaid home) (last_is first mask blocks)

-- the images of a part on which the blocks were put and synced, and of one where that may have stopped
put_image : (old new : Option (List (Values Block))) (first mask : ℕ) (blocks bs : List Block) → new ≡ option_map (λ vs. only (overlaid (reads vs) (put_block first mask blocks))) old → IsImageOf new bs
    → (home : List Block) × IsImageOf old home × (bs ≡ after home (puts_from 0 first mask blocks))
put_image old new first mask blocks bs is image =
    let P : Option (List (Values Block)) → Type 0 = λ o. IsImageOf o bs in
    let found = settled_from (λ (l : List Block). overlaid l (put_block first mask blocks)) old bs (subst P is image) in
    let Q : Option (List (Values Block)) → Type 0 = λ o. IsImageOf o (reads found.0) in
    (reads found.0, subst Q (sym found.1) (image_reads found.0), found.2 ∙ sym (after_puts (reads found.0) first mask blocks))

pub partly_image : (old : Option (List (Values Block))) (first mask : ℕ) (blocks c : List Block) → IsPartlyPut old (put_block first mask blocks) c → (home : List Block) × IsImageOf old home × IsBlend home (after home (puts_from 0 first mask blocks)) c
partly_image old first mask blocks c put = (put.0, put.1, (let P : List Block → Type 0 = λ l. IsBlend put.0 l c in subst P (sym (after_puts put.0 first mask blocks)) put.2))

-- a block that is put: its place in the mask and among the blocks
record IsPutAt (first mask : ℕ) (blocks : List Block) (b : ℕ) (x : Block) : Type 0 where
  masked : in_mask first mask b ≡ true
  there : block_of first blocks b ≡ Some x

put_at : (first mask : ℕ) (blocks : List Block) (b : ℕ) (x : Block) → put_block first mask blocks b ≡ Some x → IsPutAt first mask blocks b x
put_at first mask blocks b x is = at (in_mask first mask b) refl is
  where
    at : (t : Bool) → in_mask first mask b ≡ t → (if t then block_of first blocks b else None) ≡ Some x → IsPutAt first mask blocks b x
    at true masked there = record { masked = masked; there = there }
    at false masked there = absurd (let e : None ≡ Some x = there in cc)

module _ (first mask : ℕ) where
  -- a block of the mask by its bit
  pub bit_of : (P : ℕ → Type 0) → ((i : ℕ) → has_bit mask i ≡ true → P (first + i)) → (b : ℕ) → in_mask first mask b ≡ true → P b
  bit_of P each b is =
      let parts = and_parts (leb first b) (has_bit mask (b - first)) is in
      let le : first ≤ b = leb-true first b parts.0 in
      let same : first + (b - first) ≡ b = omega arith in
      subst P same (each (b - first) parts.1)

-- ---- the record's data

some_inside : {X : Type 0} (xs : List X) (i : ℕ) → i < length xs → is_some (slice_get xs i) ≡ true
some_inside [] i lt = absurd (omega arith)
some_inside (x ∷ xs) zero lt = refl
some_inside (x ∷ xs) (suc i) lt = some_inside xs i (omega arith)

module _ {D : Type 0} (tells : Bool) (state : D → State) (m : Manager D) (b : ManagerBase) (notes : List Noted) (kp : Keeps tells state m b notes) (up : m.down ≡ None)
    (version mask : ℕ) (blocks : List Block) (e : Indexed) (at : At m.index.entries version e) (count : length blocks ≡ length e.listed.keep)
    (due : (i : ℕ) → has_bit mask i ≡ true → is_due (listed_in m.index.entries) e.listed (e.listed.first + i) ≡ true)
    (data_ : IsTrue tells → IsDataOf b.volume.began (writes (entries_of notes)) version e.listed.first blocks) where
  abbrev ws : List Write
  ws = writes (entries_of notes)

  abbrev held : List (Held (Spun D))
  held = all_held 0 m.lanes.items kp.logs

  pub due_in : (blk : ℕ) → in_mask e.listed.first mask blk ≡ true → is_due (listed_in m.index.entries) e.listed blk ≡ true
  due_in = bit_of e.listed.first mask (λ blk. is_due (listed_in m.index.entries) e.listed blk ≡ true) due

  pub whole_up : IsTrue tells → IsWhole (parts_of tells state) b.volume.began (writes (entries_of notes)) m.next m.home (all_held 0 m.lanes.items kp.logs) m.index.entries
  whole_up told = ((upholds_up tells state m b notes kp up).calm refl).whole told

  module _ (told : IsTrue tells) where
    backed : IsBacked held e
    backed = all_member (IsBacked held) m.index.entries e (whole_up told).index.only (among at)

    was : WasWritten (b.volume.began.records ++ (ws ++ [])) backed.record_
    was = all_member (λ (r : Record). IsValid (extent_of r).cover → WasWritten (b.volume.began.records ++ (ws ++ [])) r) backed.segment.records backed.record_
        (all_member (λ (s : Held (Spun D)). AllByRecursion (λ (r : Record). IsValid (extent_of r).cover → WasWritten (b.volume.began.records ++ (ws ++ [])) r) s.records) held backed.segment
        ((upholds_up tells state m b notes kp up).known told).written backed.is_held)
        (member_of backed.segment.records backed.record_ backed.k backed.is_there) backed.valid

    same_blocks : blocks ≡ backed.record_.blocks
    same_blocks =
        let d = data_ told in
        let none : b.volume.began.records ++ (ws ++ []) ≡ b.volume.began.records ++ ws = ap (λ (l : List Write). b.volume.began.records ++ l) (append-nil ws) in
        sym d.data_ ∙ ap (λ (w : Write). w.blocks) (same_write (b.volume.began.records ++ ws) d.write was.0 version
        (subst (λ (l : List ℕ). AreApart l) (sym (versions_joined b.volume.began.records ws)) (upholds_up tells state m b notes kp up).versioned.apart)
        d.known (subst (λ (l : List Write). Contains l was.0) none was.1) d.named (was.2.version ∙ ap Some (sym backed.is_its.version ∙ at.version_is)))
        ∙ was.2.blocks

  -- what is put is what the newest records have
  pub data_of : IsTrue tells → IsData (extents_held (all_held 0 m.lanes.items kp.logs)) (puts_from 0 e.listed.first mask blocks)
  data_of told blk x is =
      let p = put_at e.listed.first mask blocks blk x (sym (last_put e.listed.first mask blocks blk) ∙ is) in
      let w = whole_up told in
      let live = (both (is_live (listed_in m.index.entries) e.listed blk) _ (due_in blk p.masked)).0 in
      live_block held m.index.entries w.index w.distinct e (backed told) blk live
      ∙ sym (λ i. block_of ((backed told).is_its.first i) (same_blocks told i) blk) ∙ p.there

  -- each block of the mask is put
  all_put : IsTrue tells → (blk : ℕ) → in_mask e.listed.first mask blk ≡ true → is_some (last_written (puts_from 0 e.listed.first mask blocks) blk) ≡ true
  all_put told blk is =
      let covers = (both ((cover_of e.listed).covers blk) _ (both (is_live (listed_in m.index.entries) e.listed blk) _ (due_in blk is)).0).0 in
      let range = marked_within e.listed.first e.listed.keep blk covers in
      let le : leb e.listed.first blk ≡ true = le-leb e.listed.first blk range.0 in
      let inside : blk - e.listed.first < length blocks = omega (arith, range.0, range.1, count) in
      ap is_some (last_put e.listed.first mask blocks blk ∙ ap (λ (t : Bool). if t then block_of e.listed.first blocks blk else None) is ∙ ap (λ (t : Bool). if t then slice_get blocks (blk - e.listed.first) else None) le)
      ∙ some_inside blocks (blk - e.listed.first) inside

  module _ (part : Spun D) (spindle : PassOf Spindle SpindleBase) (index : Contents) (volume : volume_of part ≡ volume_of m.home) (size : (state_of state part).size ≡ (state_of state m.home).size) (pass : IsSamePass m.spindle spindle) where
    -- the blocks are home, and the index says so
    pub put_keeps : index.entries ≡ changed version (with_put mask) m.index.entries
        → (IsTrue tells → (state_of state part).values ≡ option_map (λ vs. only (overlaid (reads vs) (put_block e.listed.first mask blocks))) (state_of state m.home).values)
        → IsReady state (record m { home = part; spindle = spindle; index = index; home_up = true }) → Keeps tells state (record m { home = part; spindle = spindle; index = index; home_up = true }) b notes
    put_keeps entries is ready = record {
      logs = kp.logs;
      held = kp.held;
      upholds = subst (λ (es : List Indexed). Upholds (parts_of tells state) b.volume.began (record (seen m kp.logs) { home = part; home_up = true; indexed = es }) notes (writes (entries_of notes)) (flight_of (entries_of notes))) (sym (entries ∙ at.then_is (with_put mask)))
          (subst (Upholds (parts_of tells state) b.volume.began (record (seen m kp.logs) { home = part; home_up = true; indexed = put_home at.front e at.back (λ blk. in_mask e.listed.first mask blk) }) notes (writes (entries_of notes))) (sym (unbroken tells state m b notes kp up))
          (other_flags (parts_of tells state) b.volume.began (record (seen m kp.logs) { home = part; indexed = put_home at.front e at.back (λ blk. in_mask e.listed.first mask blk) }) true m.ups.items notes (writes (entries_of notes)) None
          (home_put (parts_of tells state) b.volume.began (seen m kp.logs) part size volume (puts_from 0 e.listed.first mask blocks) notes (writes (entries_of notes)) at.front e at.back (λ blk. in_mask e.listed.first mask blk) (upholds_up tells state m b notes kp up) (ap down_of up) at.is due_in data_of all_put
          (λ x may. let from = put_image (state_of state m.home).values (state_of state part).values e.listed.first mask blocks x (is may.0) may.1 in (from.0, (may.0, from.1), from.2))) refl));
      in_use = kp.in_use;
      passed = kp.passed;
      taken = kp.taken;
      still = subst (AreStill b.volume.places b.volume.began.next) (sym entries)
          (still_changed b.volume.places b.volume.began.next version (with_put mask) (λ d. record { version = refl; first = refl; lane = refl; index = refl; pos = refl }) m.index.entries kp.still);
      ready = ready;
      locks = let l = kp.locks in record { pass = pass.0 ∙ l.pass; number = pass.1 ∙ l.number; each = l.each; owner = l.owner; most_ = l.most_; view = l.view };
    }

    -- a disk call failed
    pub put_fails : (n : Noted) → IsNote (last_look b.volume.began.look notes) (Broke []) [] (look_of_manager (record m { home_up = true; down = Some (Home m.id) })) n
        → ((c : List Block) → IsImageOf (state_of state part).values c → IsPartlyPut (state_of state m.home).values (put_block e.listed.first mask blocks) c) → Rose (state_of state m.home).faults (state_of state part).faults
        → IsReady state (record m { home = part; spindle = spindle; home_up = true; down = Some (Home m.id) })
        → Stands tells state (record m { home = part; spindle = spindle; home_up = true; down = Some (Home m.id) }) b (notes ++ n ∷ [])
    put_fails n note partly rose ready =
        record {
          keeps = home_failed tells state m b notes kp part spindle pass (notes ++ n ∷ [])
              (put_breaks (parts_of tells state) b.volume.began (seen m kp.logs) part size volume (puts_from 0 e.listed.first mask blocks) true m.ups.items notes n refl (upholds_up tells state m b notes kp up) (unbroken tells state m b notes kp up)
              note.operation_is note.drain data_of
              (λ x may. let from = partly_image (state_of state m.home).values e.listed.first mask blocks x (partly x may.1) in (from.0, (may.0, from.1), from.2))
              (risen (state_of state m.home).faults (state_of state part).faults rose)).upholds (none_passed (nones_at m.lanes.items b.lanes) notes n note.passed_is kp.passed) ready;
          look = last_more b.volume.began.look notes n ∙ note.look_is;
        }

-- ---- at any moment

module _ {D : Type 0} (tells : Bool) (state : D → State) (sound : (d : D) → IsDisk (state d)) (told : IsTrue tells) (was old : Manager D) (read : IsReadThrough state was old) (ready : IsReady state old) (up : was.down ≡ None)
    (b : ManagerBase) (notes : List Noted) (kp : Keeps tells state was b notes)
    (version mask : ℕ) (blocks : List Block) (e : Indexed) (at : At old.index.entries version e) (count : length blocks ≡ length e.listed.keep)
    (due : (i : ℕ) → has_bit mask i ≡ true → is_due (listed_in old.index.entries) e.listed (e.listed.first + i) ≡ true)
    (data_ : IsTrue tells → IsDataOf b.volume.began (writes (entries_of notes)) version e.listed.first blocks) (part : Spun D)
    (leaves : LeavesOnly (state_of state old.home) (state_of state part) (IsPartlyPut (state_of state old.home).values (put_block e.listed.first mask blocks))) where
  same_index : old.index.entries ≡ was.index.entries
  same_index = ap (λ (c : Contents). c.entries) read.index

  at_was : At was.index.entries version e
  at_was = subst (λ (l : List Indexed). At l version e) same_index at

  due_was : (i : ℕ) → has_bit mask i ≡ true → is_due (listed_in was.index.entries) e.listed (e.listed.first + i) ≡ true
  due_was = subst (λ (l : List Indexed). (i : ℕ) → has_bit mask i ≡ true → is_due (listed_in l) e.listed (e.listed.first + i) ≡ true) same_index due

  -- the records are the same still
  same_extents : extents_held (all_held 0 old.lanes.items kp.logs) ≡ extents_held (all_held 0 was.lanes.items kp.logs)
  same_extents = moved_extents state b.volume.began.owner (all_held 0 was.lanes.items kp.logs) (all_held 0 old.lanes.items kp.logs) (moved tells state sound told was b notes kp old read ready up)

  -- an image of home since the earlier moment
  image_of : (x : List Block) → ImageSince state was.home part x → IsPartlyPut (state_of state was.home).values (put_block e.listed.first mask blocks) x
  image_of x image = (then_leaves {P = IsPartlyPut (state_of state was.home).values (put_block e.listed.first mask blocks)} first_ leaves
      (λ c partly. (partly.0, subst (λ (o : Option (List (Values Block))). IsImageOf o partly.0) read.home.values partly.1, partly.2))).each x image
    where
      first_ : LeavesOnly (state_of state was.home) (state_of state old.home) (IsPartlyPut (state_of state was.home).values (put_block e.listed.first mask blocks))
      first_ = widened read.home.any_moment (λ c is. (c, is, blend_none (put_block e.listed.first mask blocks) c))

  pub put_stops : (before after_ : Logs) → AllLanesHold (λ h rs. ⊤) was.lanes.items before → AllLanesHold (λ h rs. ⊤) old.lanes.items after_
      → StopsSafely (ImageSince state was.home part) (HeldSince state (all_held 0 was.lanes.items before) None) b.volume.began (entries_of notes) (all_held 0 old.lanes.items after_) []
  put_stops = stops_so tells state sound told was b notes kp up None (ImageSince state was.home part) old.lanes.items kp.logs []
      (λ h rs. IsTrue tells → old.down ≡ None → Holds state h.segment rs) (held_read tells state was old b notes read ready up kp)
      (putting_stops (ImageSince state was.home part) (HeldSince state (all_held 0 was.lanes.items kp.logs) None) b.volume.began.owner b.volume.began.array (writes (entries_of notes)) was.next (is_homed_in was.index.entries)
      (all_held 0 old.lanes.items kp.logs) (puts_from 0 e.listed.first mask blocks) [] (logs tells state sound told was b notes kp old read ready up)
      (subst (λ (rs : List Extent). IsData rs (puts_from 0 e.listed.first mask blocks)) (sym same_extents) (data_of tells state was b notes kp up version mask blocks e at_was count due_was data_ told))
      (λ x image. let from = partly_image (state_of state was.home).values e.listed.first mask blocks x (image_of x image) in (
        from.0,
        subst (λ (rs : List Extent). HoldsArray b.volume.began.array (writes (entries_of notes)) was.next from.0 rs (is_homed_in was.index.entries)) (sym same_extents)
            ((whole_up tells state was b notes kp up version mask blocks e at_was count due_was data_ told).holds from.0 (told, from.1)),
        from.2,
      )))
