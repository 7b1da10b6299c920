-- A read of one record, and a read in the midst of its runs.
use Rattle.std.proofs.Common.{◌≡◌, ◌<◌, ◌≤◌, ◌+◌, ◌-◌, ℕ, Bool, List, length, None, Some, get_or, refl, sym, ap, subst, ◌∙◌, arith, ◌++◌, take, drop, length-take, length-drop}
use Rattle.std.specs.Prelude.{Contains, slice_get, slice_set, IsTrue, slice_range}
use Rattle.std.specs.List.{AllByRecursion, count_by, range_with_len}
use Rattle.std.specs.Vec.{with_item}
use Rattle.std.proofs.lemmas.Option.{same_Some, slice_get_read, slice_get_within}
use Rattle.wol_disk.specs.Disk.{State, Block, IsDisk}
use Rattle.wol_model.specs.Extents.{newest}
use Rattle.wol_promise.proofs.Lists.{all_map}
use Rattle.log_segment.specs.Segment.{blocks_of, valid_of}
use Rattle.block_cells.specs.declared.record.Rec.{Rec}
use Rattle.redirect_map.specs.Index.{cover_at}
use Rattle.logger.specs.Lanes.{IsLane, HoldsAll, IsSameLane, AreWhole, held_in, taken_in}
use Rattle.logger.specs.declared.lane.HeldSegment.{HeldSegment}
use Rattle.logger.specs.declared.lane.Lane.{Lane}
use Rattle.manager.specs.Reading.{IsSource, IsReadThrough, NeedsSources}
use Rattle.manager.specs.Stands.{IsReady, entries_at, IsReadyLane, IsPlacedIn, Keeps, IsHome}
use Rattle.manager.specs.declared.manager.Manager.{Manager}
use Rattle.volume_parts.proofs.Lanes.{counted_set, ready_set, placed_set}
use Rattle.volume_parts.proofs.Elements.{all_at, all_set}
use Rattle.volume_parts.proofs.Contents.{newest_is, entry_for, in_record}
use Rattle.garbage_list.proofs.Nexts.{Answered}
use Rattle.std.proofs.Math.Seq.{take-add}
use Rattle.std.proofs.lemmas.List.{drop-drop}
use Rattle.std.proofs.lemmas.Slice.{take-put_mid}
use borrow.Rule.Slice.PartMut.{put_mid}
use Rattle.wol_model.specs.Blocks.{after}
use Rattle.wol_model.specs.History.{writes}
use Rattle.wol_model.specs.Index.{listed_in, is_covered}
use Rattle.wol_promise.specs.Policy.{Look, woken}
use Rattle.wol_promise.specs.Ruled.{Noted, entries_of}
use Rattle.logger.specs.declared.shared.Shared.{Shared}
use Rattle.manager.specs.Causes.{NoneRose}
use Rattle.manager.specs.Seen.{look_of_manager}
use Rattle.manager.specs.declared.base.ManagerBase.{ManagerBase}
use Rattle.manager.specs.declared.part.Sources.{Sources}
use Rattle.manager.proofs.Calm.{none_home, none_then}
use Rattle.manager.proofs.FetchRec.{RecordSpot, spot_for}
use Rattle.manager.proofs.ReadKeeps.{keeps_read}
use Rattle.manager.proofs.ReadThrough.{through_self, through_then}
use Rattle.manager.proofs.RunSources.{needs_nothing, needs_more}
use Rattle.wol_promise.proofs.Woken.{count_joined, woken_none, woken_more}

-- ---- the spot of a run

-- the segment that the index names for a run of blocks
pub record Spotted {D : Type 0} (m : Manager D) (r : Rec) (first n : ℕ) (lane : Lane D) : Type 0 where
  pub spot : RecordSpot m r lane
  pub behind : r.lbn ≤ first
  pub short : first - r.lbn < r.count
  pub fits : r.pos + 1 + (first - r.lbn) + n ≤ blocks_of spot.segment.segment

module _ {D : Type 0} (state : D → State) (m : Manager D) (ready : IsReady state m) (up : m.down ≡ None) where
  pub spotted : (r : Rec) (first n : ℕ) → 1 ≤ n → IsSource m.index.entries first n (Some r) → (l : Lane D) × Spotted m r first n l
  spotted r first n some source = (
    at.0,
    record {
      spot = at.1;
      behind = begins.0;
      short = (let a = begins.0 in let b = begins.1 in omega arith);
      fits = (let a = begins.0 in let b = ends.1 in let f = at.1.fits in omega arith);
    },
  )
    where
      entry : Answered (newest cover_at m.index.entries first) r
      entry = entry_for m.index.entries first n r source first (omega arith) (omega arith)

      at : (l : Lane D) × RecordSpot m r l
      at = spot_for state m ready up entry.entry r entry.record_ (newest_is cover_at m.index.entries first entry.entry entry.is).among

      begins : (r.lbn ≤ first) × (first < r.lbn + r.count)
      begins = in_record m.index.entries first n r source first (omega arith) (omega arith)

      ends : (r.lbn ≤ first + n - 1) × (first + n - 1 < r.lbn + r.count)
      ends = in_record m.index.entries first n r source (first + n - 1) (omega arith) (omega arith)

  -- in the lane that the code reaches
  pub spotted_in : (r : Rec) (first n : ℕ) → 1 ≤ n → IsSource m.index.entries first n (Some r) → (l : Lane D) → l ≡ get_or m.lanes.items r.lane l → Spotted m r first n l
  spotted_in r first n some source l is =
      let s = spotted r first n some source in
      let lt = slice_get_within m.lanes.items r.lane s.0 s.1.spot.lane_is in
      subst (Spotted m r first n) (same_Some s.0 l (sym s.1.spot.lane_is ∙ slice_get_read m.lanes.items (length m.lanes.items) r.lane l refl lt is)) s.1

  -- ready again with another lane at one place
  pub ready_after : (k : ℕ) (l l' : Lane D) (ups : List Bool) → slice_get m.lanes.items k ≡ Some l → IsSameLane l l' → IsLane state l' → (HoldsAll l → HoldsAll l') → taken_in l' ≡ taken_in l → AreWhole (held_in l')
      → ((h : HeldSegment D) → Contains (held_in l) h → (t : HeldSegment D) × Contains (held_in l') t × (t.index ≡ h.index) × (blocks_of t.segment ≡ blocks_of h.segment)) → AllByRecursion (λ (h : HeldSegment D). valid_of h.segment ≡ entries_at k h.index m.index.entries) (held_in l') → length ups ≡ length m.ups.items
      → IsReady state (record m { lanes = with_item m.lanes k l'; ups = record { items = ups } })
  ready_after k l l' ups lane_is same is all taken whole stays counted flags = record {
    ready = ready_set state m.id m.most m.lanes.items k l l' lane_is same ready.ready is all (taken ∙ (all_at (IsReadyLane state m.id m.most) m.lanes.items k l lane_is ready.ready.each).untaken) flags;
    next = ready.next;
    below = ready.below;
    ranges = ready.ranges;
    up = λ none. let u = ready.up up in record {
      whole = all_set (λ (q : Lane D). AreWhole (held_in q)) m.lanes.items k l' u.whole whole;
      placed = all_map (IsPlacedIn m.lanes.items) (IsPlacedIn (slice_set m.lanes.items k l')) (placed_set m.lanes.items k l l' lane_is stays) m.index.entries u.placed;
      counted = counted_set m.lanes.items k l l' m.index.entries m.index.entries lane_is (λ j index other. refl) counted u.counted;
    };
  }

-- the first `done` blocks from `first` on were read into `out`
pub record HasRead {D : Type 0} (tells : Bool) (state : D → State) (shared : Shared D) (old now : Manager D) (first total done : ℕ) (out : List Block) (sources : Sources) : Type 0 where
  pub ready : IsReady state now
  pub at_home : IsHome shared now
  pub within : done ≤ total
  pub read : IsReadThrough state old now
  pub calm : NoneRose state old now
  pub look : look_of_manager now ≡ woken (look_of_manager old) first done
  pub needs : NeedsSources old now first done
  pub content : IsTrue tells → (b : ManagerBase) (notes : List Noted) → Keeps tells state old b notes
      → take done out ≡ slice_range (after b.volume.began.array (writes (entries_of notes))) first (first + done)
  pub logged : sources.logged ≡ count_by (is_covered (listed_in old.index.entries)) (range_with_len first done)
  pub all : sources.home + sources.logged ≡ done

-- a run is as long as it was found
pub part_length : (done count : ℕ) (out : List Block) → done + count ≤ length out → length (take (done + count - done) (drop done out)) ≡ count
part_length done count out le = omega (arith, length-take (done + count - done) (drop done out), length-drop done out)

module _ {D : Type 0} (tells : Bool) (state : D → State) (sound : (d : D) → IsDisk (state d)) (shared : Shared D) (old : Manager D) (first total : ℕ) where
  -- before the first run
  pub nothing_read : (out : List Block) → IsReady state old → IsHome shared old → HasRead tells state shared old old first total 0 out (record { home = 0; logged = 0 })
  nothing_read out ready at_home = record {
    ready = ready;
    at_home = at_home;
    within = omega arith;
    read = through_self state sound old;
    calm = none_home state old old ready refl refl;
    look = sym (woken_none (look_of_manager old) first);
    needs = needs_nothing old first;
    content = λ told b notes keeps. let e : first + 0 - first ≡ 0 = omega arith in rw e refl;
    logged = refl;
    all = omega arith;
  }

  -- one run more
  module _ (mid new : Manager D) (done count n : ℕ) (long : n ≡ count) (out run : List Block) (sources more : Sources) (so_far : HasRead tells state shared old mid first total done out sources) (up : old.down ≡ None)
      (ready : IsReady state new) (at_home : IsHome shared new) (read : IsReadThrough state mid new) (look : look_of_manager new ≡ woken (look_of_manager mid) (first + done) n)
      (needs : NeedsSources mid new (first + done) n) where
    pub still_read : IsReadThrough state old new
    still_read = through_then state sound old mid new so_far.read read

    pub needs_too : NeedsSources old new first (done + count)
    needs_too = subst (λ (k : ℕ). NeedsSources old new first (done + k)) long (needs_more state old mid new so_far.read first done n so_far.needs needs)

    module _ (content : IsTrue tells → (b : ManagerBase) (notes : List Noted) → Keeps tells state mid b notes → run ≡ slice_range (after b.volume.began.array (writes (entries_of notes))) (first + done) (first + done + n))
        (logged : more.logged ≡ count_by (is_covered (listed_in mid.index.entries)) (range_with_len (first + done) n)) (all : more.home + more.logged ≡ n)
        (calm : NoneRose state mid new) (within : done + count ≤ total) (inside : total ≡ length out) (same_length : length run ≡ n) where
      pub run_read : HasRead tells state shared old new first total (done + count) (put_mid done (done + count - done) out run) (record { home = sources.home + more.home; logged = sources.logged + more.logged })
      run_read = record {
        ready = ready;
        at_home = at_home;
        within = within;
        read = still_read;
        calm = none_then state old mid new so_far.read so_far.calm calm;
        look = look ∙ ap (λ (l : Look). woken l (first + done) n) so_far.look ∙ woken_more (look_of_manager old) first done n ∙ ap (λ (k : ℕ). woken (look_of_manager old) first (done + k)) long;
        needs = needs_too;
        content = λ told b notes keeps.
            let a = after b.volume.began.array (writes (entries_of notes)) in
            let e : first + done - first ≡ done = omega arith in
            let f : first + done + n - (first + done) ≡ count = omega arith in
            let h : first + (done + count) - first ≡ done + count = omega arith in
            take-put_mid done (done + count - done) out run (done + count) (omega (arith, long, same_length)) (omega arith)
            ∙ (λ i. (so_far.content told b notes keeps ∙ ap (λ (k : ℕ). take k (drop first a)) e) i
            ++ (content told b notes (keeps_read tells state old mid b notes so_far.read so_far.ready up keeps) ∙ ap (λ (k : ℕ). take k (drop (first + done) a)) f ∙ ap (take count) (sym (drop-drop done first a))) i)
            ∙ sym (take-add done count (drop first a)) ∙ ap (λ (k : ℕ). take k (drop first a)) (sym h);
        logged =
            let l = logged ∙ (λ i. count_by (is_covered (listed_in (so_far.read.index i).entries)) (range_with_len (first + done) (long i))) in
            omega (arith, so_far.logged, l, count_joined (is_covered (listed_in old.index.entries)) first done count);
        all = omega (arith, so_far.all, all, long);
      }
