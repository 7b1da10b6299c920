-- A write that went home, and one that failed there.
use Rattle.std.proofs.Common.{◌≡◌, ◌⊎◌, inl, inr, ⊎_elim, ◌<◌, ◌≤◌, ◌+◌, ◌-◌, ℕ, zero, suc, Bool, true, false, ◌||◌, List, [], ◌∷◌, ◌++◌, length, Option, None, Some, refl, sym, ap, subst, ◌∙◌, arith}
use Rattle.std.specs.Prelude.{⊤, IsTrue, is_some, option_map, slice_get, nat_le, if◌then◌else◌}
use Rattle.std.specs.List.{list_any, range_with_len}
use Rattle.std.proofs.lemmas.Bool.{leb-true}
use Rattle.wol_disk.specs.Disk.{State, Block, Values, IsDisk, IsImageOf, IsBlend, LeavesOnly, Rose, only, put, reads}
use Rattle.wol_disk.proofs.Calls.{settled_from}
use Rattle.wol_disk.proofs.Images.{image_reads}
use Rattle.turn_lock.specs.Passes.{IsSamePass}
use Rattle.turn_lock.specs.declared.pass.PassOf.{PassOf}
use Rattle.spin_model.specs.Spun.{state_of, volume_of}
use Rattle.spin_model.specs.declared.spindle.Spindle.{Spindle}
use Rattle.spin_model.specs.declared.spindle.SpindleBase.{SpindleBase}
use Rattle.spin_model.specs.declared.spun.Spun.{Spun}
use Rattle.log_segment.specs.Segment.{Holds}
use Rattle.wol_model.specs.Blocks.{block_of, after}
use Rattle.wol_model.specs.Extents.{IsUncovered, covers_of, AreDistinct, newest}
use Rattle.wol_model.specs.History.{Wrote, Broke, worker, writes, flight_of}
use Rattle.wol_model.specs.Index.{Indexed, listed_in, is_covered}
use Rattle.wol_model.proofs.Arrays.{after_put}
use Rattle.wol_promise.specs.Manager.{Held, HomePart, IsIndexOf, extents_held, is_homed_in}
use Rattle.wol_promise.specs.Ruled.{Noted, HasPassed, last_look, entries_of}
use Rattle.wol_promise.specs.Stands.{Upholds, IsWhole, LiesInVolume, StopsSafely}
use Rattle.wol_promise.proofs.HomeWrites.{home_more, home_breaks}
use Rattle.wol_promise.proofs.OneMore.{last_more}
use Rattle.wol_promise.proofs.Stops.{home_stops}
use Rattle.redirect_map.specs.Index.{cover_at}
use Rattle.manager.specs.Accesses.{IsTornFrom}
use Rattle.manager.specs.Answers.{home_write}
use Rattle.manager.specs.Seen.{Logs, AllLanesHold, parts_of, seen, all_held, down_of, look_of_manager}
use Rattle.manager.specs.Stands.{Keeps, Stands, IsReady, IsNote, nones_at}
use Rattle.manager.specs.Stops.{ImageSince, HeldSince}
use Rattle.manager.specs.declared.base.ManagerBase.{ManagerBase}
use Rattle.manager.specs.declared.manager.Manager.{Manager}
use Rattle.manager.specs.declared.part.Part.{Part}
use Rattle.manager.specs.declared.part.Part.TheVariants.{Home}
use Rattle.volume_parts.proofs.Lanes.{lanes_map}
use Rattle.manager.proofs.Moments.{stops_so, still_logs}
use Rattle.manager.proofs.ReadContent.{unbroken, upholds_up}
use Rattle.volume_parts.proofs.Contents.{bare_block, newest_listed}
use Rattle.wol_promise.proofs.Woken.{covered_is}
use Rattle.manager.proofs.ReadyLanes.{down_counts}

-- ---- blocks that no record covers

none_left : (s t : Bool) → (s || t) ≡ false → (s ≡ false) × (t ≡ false)
none_left false t e = (refl, e)
none_left true t e = absurd (let no : true ≡ false = e in cc)

none_in : (p : ℕ → Bool) (a n : ℕ) → list_any p (range_with_len a n) ≡ false → (b : ℕ) → a ≤ b → b < a + n → p b ≡ false
none_in p a zero none b le lt = absurd (omega arith)
none_in p a (suc n) none b le lt =
    let both = none_left (p a) (list_any p (range_with_len (a + 1) n)) none in
    ⊎_elim (λ same. subst (λ (k : ℕ). p k ≡ false) same both.0) (λ past. none_in p (a + 1) n both.1 b past (omega arith)) (at_or_past a b le)
  where
    at_or_past : (a b : ℕ) → a ≤ b → (a ≡ b) ⊎ (a + 1 ≤ b)
    at_or_past zero zero le = inl refl
    at_or_past zero (suc b) le = inr (omega arith)
    at_or_past (suc a) zero le = absurd (omega arith)
    at_or_past (suc a) (suc b) le = ⊎_elim (λ e. inl (ap suc e)) (λ l. inr (omega arith)) (at_or_past a b (omega arith))

get_inside : (xs : List Block) (i : ℕ) → is_some (slice_get xs i) ≡ true → i < length xs
get_inside [] i is = absurd (let no : false ≡ true = is in cc)
get_inside (x ∷ xs) zero is = omega arith
get_inside (x ∷ xs) (suc i) is = let lt = get_inside xs i is in omega arith

inside_block : (first : ℕ) (blocks : List Block) (b : ℕ) → is_some (block_of first blocks b) ≡ true → (first ≤ b) × (b < first + length blocks)
inside_block first blocks b is = at (nat_le first b) refl
  where
    at : (t : Bool) → nat_le first b ≡ t → (first ≤ b) × (b < first + length blocks)
    at true le = (leb-true first b le, (let le' : first ≤ b = leb-true first b le in let lt : b - first < length blocks = get_inside blocks (b - first) (subst (λ (t : Bool). is_some (if t then slice_get blocks (b - first) else None) ≡ true) le is) in omega arith))
    at false le = absurd (let no : false ≡ true = subst (λ (t : Bool). is_some (if t then slice_get blocks (b - first) else None) ≡ true) le is in cc)

none_of : {X Y : Type 0} (f : X → Y) (o : Option X) → is_some (option_map f o) ≡ false → o ≡ None
none_of f None is = refl
none_of f (Some x) is = absurd (let no : true ≡ false = is in cc)

pub uncovered_range : {P : Type 0} (held : List (Held P)) (indexed : List Indexed) (first : ℕ) (blocks : List Block) → IsIndexOf indexed held → AreDistinct (covers_of (extents_held held))
    → list_any (is_covered (listed_in indexed)) (range_with_len first (length blocks)) ≡ false → IsUncovered (extents_held held) (home_write first blocks)
uncovered_range held indexed first blocks index distinct bare b inside =
    let within = inside_block first blocks b inside in
    bare_block held indexed index distinct b (none_of (λ (e : Indexed). e.listed) (newest cover_at indexed b)
    (sym (ap is_some (newest_listed indexed b)) ∙ (sym (covered_is (listed_in indexed) b) ∙ none_in (is_covered (listed_in indexed)) first (length blocks) bare b within.0 within.1)))

-- ---- home's images

pub stored_image : (old new : Option (List (Values Block))) (at : ℕ) (xs bs : List Block) → new ≡ option_map (λ vs. only (put at xs (reads vs))) old → IsImageOf new bs
    → (home : List Block) × IsImageOf old home × (bs ≡ after home (home_write at xs ∷ []))
stored_image old new at xs bs is image =
    let P : Option (List (Values Block)) → Type 0 = λ o. IsImageOf o bs in
    let found = settled_from (put at xs) old bs (subst P is image) in
    let Q : Option (List (Values Block)) → Type 0 = λ o. IsImageOf o (reads found.0) in
    (reads found.0, subst Q (sym found.1) (image_reads found.0), found.2 ∙ sym (after_put (reads found.0) (home_write at xs)))

pub torn_image : (old : Option (List (Values Block))) (at : ℕ) (xs c : List Block) → IsTornFrom old at xs c → (home : List Block) × IsImageOf old home × IsBlend home (after home (home_write at xs ∷ [])) c
torn_image old at xs c torn = (torn.0, torn.1, (let P : List Block → Type 0 = λ l. IsBlend torn.0 l c in subst P (sym (after_put torn.0 (home_write at xs))) torn.2))

pub risen : (old new : ℕ) → Rose old new → 0 < new
risen old new rose = ⊎_elim (λ lt. omega arith) (λ most. omega arith) rose

-- what is kept up where a disk call of home failed
pub home_failed : {D : Type 0} (tells : Bool) (state : D → State) (m : Manager D) (b : ManagerBase) (notes : List Noted) (keeps : Keeps tells state m b notes) (part : Spun D) (spindle : PassOf Spindle SpindleBase) → IsSamePass m.spindle spindle → (then_ : List Noted)
    → Upholds (parts_of tells state) b.volume.began (record (seen m keeps.logs) { home = part; home_up = true; down = Some HomePart }) then_ (writes (entries_of then_)) (flight_of (entries_of then_)) → HasPassed (nones_at m.lanes.items b.lanes) then_
    → IsReady state (record m { home = part; spindle = spindle; home_up = true; down = Some (Home m.id) }) → Keeps tells state (record m { home = part; spindle = spindle; home_up = true; down = Some (Home m.id) }) b then_
home_failed tells state m b notes keeps part spindle pass then_ upholds passed ready =
    let failed : Part = Home m.id in record {
      logs = keeps.logs;
      held = lanes_map (λ h rs. IsTrue tells → m.down ≡ None → Holds state h.segment rs) (λ h rs. IsTrue tells → Some failed ≡ None → Holds state h.segment rs)
          (λ h rs holds told is. absurd (let no : Some failed ≡ None = is in cc)) m.lanes.items keeps.logs keeps.held;
      upholds = upholds;
      in_use = λ told is. absurd (let no : Some failed ≡ None = is in cc);
      passed = passed;
      taken = let t = keeps.taken in let c = down_counts m.down in omega (arith, t, c);
      still = keeps.still;
      ready = ready;
      locks = let l = keeps.locks in record { pass = pass.0 ∙ l.pass; number = pass.1 ∙ l.number; each = l.each; owner = l.owner; most_ = l.most_; view = l.view };
    }

-- ---- the entry

module _ {D : Type 0} (tells : Bool) (state : D → State) (m : Manager D) (b : ManagerBase) (notes : List Noted) (keeps : Keeps tells state m b notes) (up : m.down ≡ None)
    (first : ℕ) (blocks : List Block) (bare : list_any (is_covered (listed_in m.index.entries)) (range_with_len first (length blocks)) ≡ false) (fits : first + length blocks ≤ (state_of state m.home).size) where
  abbrev told_ : Type 0
  told_ = IsTrue tells

  pub whole_up : told_ → IsWhole (parts_of tells state) b.volume.began (writes (entries_of notes)) m.next m.home (all_held 0 m.lanes.items keeps.logs) m.index.entries
  whole_up told = ((upholds_up tells state m b notes keeps up).calm refl).whole told

  pub uncovered_up : told_ → IsUncovered (extents_held (all_held 0 m.lanes.items keeps.logs)) (home_write first blocks)
  uncovered_up told = let w = whole_up told in uncovered_range (all_held 0 m.lanes.items keeps.logs) m.index.entries first blocks w.index w.distinct bare

  lies : LiesInVolume b.volume.began.home_blocks (home_write first blocks)
  lies = let size = (upholds_up tells state m b notes keeps up).places.home_size in subst (λ (k : ℕ). first + length blocks ≤ k) size fits

  -- stopped at any moment, it leaves a cut
  pub home_stopped : (sound : (d : D) → IsDisk (state d)) → told_ → (part : Spun D) → LeavesOnly (state_of state m.home) (state_of state part) (IsTornFrom (state_of state m.home).values first blocks)
      → (before after : Logs) → AllLanesHold (λ h rs. ⊤) m.lanes.items before → AllLanesHold (λ h rs. ⊤) m.lanes.items after
      → StopsSafely (ImageSince state m.home part) (HeldSince state (all_held 0 m.lanes.items before) None) b.volume.began (entries_of notes) (all_held 0 m.lanes.items after) (home_write first blocks ∷ [])
  home_stopped sound told part leaves = stops_so tells state sound told m b notes keeps up None (ImageSince state m.home part) m.lanes.items keeps.logs (home_write first blocks ∷ []) (λ h rs. IsTrue tells → m.down ≡ None → Holds state h.segment rs) keeps.held
      (home_stops (ImageSince state m.home part) (HeldSince state (all_held 0 m.lanes.items keeps.logs) None) b.volume.began.owner b.volume.began.array (writes (entries_of notes)) m.next (is_homed_in m.index.entries) (all_held 0 m.lanes.items keeps.logs) (home_write first blocks)
      (still_logs tells state sound told m b notes keeps up None) (uncovered_up told) refl
      (λ x image. let torn = torn_image (state_of state m.home).values first blocks x (leaves.each x image) in (torn.0, (whole_up told).holds torn.0 (told, torn.1), torn.2)))

  module _ (part : Spun D) (spindle : PassOf Spindle SpindleBase) (volume : volume_of part ≡ volume_of m.home) (size : (state_of state part).size ≡ (state_of state m.home).size) (pass : IsSamePass m.spindle spindle)
      (n : Noted) (client : n.entry.pass ≡ worker) (passed : HasPassed (nones_at m.lanes.items b.lanes) (notes ++ n ∷ [])) where
    -- it was written and synced
    pub home_stands : (ps : List ℕ) → IsNote (last_look b.volume.began.look notes) (Wrote (home_write first blocks ∷ [])) ps (look_of_manager (record m { home_up = true })) n
        → (state_of state part).values ≡ option_map (λ vs. only (put first blocks (reads vs))) (state_of state m.home).values
        → IsReady state (record m { home = part; spindle = spindle; home_up = true }) → Stands tells state (record m { home = part; spindle = spindle; home_up = true }) b (notes ++ n ∷ [])
    home_stands ps note is ready = record {
      keeps = record {
        logs = keeps.logs;
        held = keeps.held;
        upholds = (home_more (parts_of tells state) b.volume.began (seen m keeps.logs) part size volume notes n (home_write first blocks) (upholds_up tells state m b notes keeps up) (unbroken tells state m b notes keeps up) client refl uncovered_up lies
            (ap down_of up) note.operation_is
            (λ bs may. let from = stored_image (state_of state m.home).values (state_of state part).values first blocks bs is may.1 in (from.0, (may.0, from.1), from.2))
            note.follows note.look_is).upholds;
        in_use = keeps.in_use;
        passed = passed;
        taken = keeps.taken;
        still = keeps.still;
        ready = ready;
        locks = let l = keeps.locks in record { pass = pass.0 ∙ l.pass; number = pass.1 ∙ l.number; each = l.each; owner = l.owner; most_ = l.most_; view = l.view };
      };
      look = last_more b.volume.began.look notes n ∙ note.look_is;
    }

    -- a disk call failed
    pub home_fails : (ps : List ℕ) → IsNote (last_look b.volume.began.look notes) (Broke (home_write first blocks ∷ [])) ps (look_of_manager (record m { home_up = true; down = Some (Home m.id) })) n
        → ((c : List Block) → IsImageOf (state_of state part).values c → IsTornFrom (state_of state m.home).values first blocks c) → Rose (state_of state m.home).faults (state_of state part).faults
        → IsReady state (record m { home = part; spindle = spindle; home_up = true; down = Some (Home m.id) })
        → Stands tells state (record m { home = part; spindle = spindle; home_up = true; down = Some (Home m.id) }) b (notes ++ n ∷ [])
    home_fails ps note torn rose ready =
        record {
          keeps = home_failed tells state m b notes keeps part spindle pass (notes ++ n ∷ [])
              (home_breaks (parts_of tells state) b.volume.began (seen m keeps.logs) part size volume notes n (home_write first blocks) (upholds_up tells state m b notes keeps up) (unbroken tells state m b notes keeps up) client refl uncovered_up lies
              note.operation_is note.drain
              (λ x may. let from = torn_image (state_of state m.home).values first blocks x (torn x may.1) in (from.0, (may.0, from.1), from.2))
              (risen (state_of state m.home).faults (state_of state part).faults rose)).upholds passed ready;
          look = last_more b.volume.began.look notes n ∙ note.look_is;
        }
