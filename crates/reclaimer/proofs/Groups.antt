-- Records whose due blocks were laid home one after another, and then are marked as home.
use Rattle.std.proofs.Common.{◌≡◌, ⊎_elim, ◌<◌, ◌≤◌, ◌+◌, ◌*◌, ℕ, zero, suc, Bool, true, false, cond, not, ◌&&◌, List, [], ◌∷◌, ◌++◌, map, length, take, drop, Option, None, Some, Result, Ok, Err, refl, sym, ap, subst, ◌∙◌, arith, eqb, length-append}
use Rattle.std.specs.Prelude.{find, filter, IsSome, IsTrue, replicate, slice_index_or, if◌then◌else◌}
use Rattle.std.specs.List.{AllByRecursion, AllZip, list_any}
use Rattle.std.specs.Option.{ForSome}
use Rattle.std.proofs.lemmas.Bool.{and_parts, ne_eqb, eqb-true}
use Rattle.std.proofs.lemmas.Option.{none-some, same_Some}
use Rattle.wol_disk.specs.Disk.{State, IsDisk, Rose}
use Rattle.wol_model.specs.Extents.{Cover, has_newer}
use Rattle.wol_model.specs.Index.{Listed, Indexed, listed_in, listed_covers, cover_of, is_homed, is_due, has_due, AreRising}
use Rattle.wol_model.specs.Log.{has_bit}
use Rattle.wol_promise.specs.Ruled.{Noted}
use Rattle.wol_promise.proofs.Lists.{all_map, all_member}
use Rattle.spin_model.specs.Spun.{state_of}
use Rattle.spin_model.specs.declared.spun.Spun.{Spun}
use Rattle.block_cells.specs.declared.record.Rec.{Rec}
use Rattle.redirect_map.specs.Index.{Contents, entry_at, has_version, changed, HasVersion, IsAnswer, IsIndex}
use Rattle.garbage_list.specs.Least.{can_go_home, from_on, is_awake}
use Rattle.garbage_list.proofs.Nexts.{answered, found_passes, first_of_all}
use Rattle.manager.specs.Causes.{NoneRose, PartRose}
use Rattle.manager.specs.Reading.{IsReadThrough, LaneRead}
use Rattle.manager.specs.Reclaim.{AreDue, AreHome, AreLaid, HasFetched, KeepsOn, Always, TellsStep, with_put}
use Rattle.manager.specs.Seen.{look_of_manager}
use Rattle.manager.specs.Stands.{Keeps, IsReady, IsHome}
use Rattle.manager.specs.Stops.{HoldsOn}
use Rattle.manager.specs.declared.base.ManagerBase.{ManagerBase}
use Rattle.manager.specs.declared.manager.Manager.{Manager}
use Rattle.manager.specs.declared.part.Part.{Part}
use Rattle.manager.specs.declared.part.Part.TheVariants.{Home, Segment}
use Rattle.manager.specs.declared.part.StepFault.{StepFault}
use Rattle.manager.specs.declared.part.StepFault.TheVariants.{DiskFault, Down}
use Rattle.manager.proofs.Calm.{none_then}
use Rattle.manager.proofs.ReadThrough.{rose_through, zip_then}
use Rattle.volume_parts.proofs.PartReads.{home_self, lane_then, lanes_self}
use Rattle.reclaimer.specs.Groups.{lanes_of, LaysEach, LaysRecord, ReadsLanes, IsToMark, marked, none, more}
use Rattle.reclaimer.specs.declared.group.Laid.{Laid}
use Rattle.reclaimer.proofs.Firsts.{versions_of, below}

-- ---- Lanes that were read, beside home

module _ {D : Type 0} (state : D → State) (sound : (d : D) → IsDisk (state d)) where
  through_lanes : (old m : Manager D) → AllZip (LaneRead state) old.lanes.items m.lanes.items → IsReadThrough state old (record old { lanes = m.lanes })
  through_lanes old m lanes = record { same = record { id = refl; most = refl }; home = home_self state sound old.home; spindle = (refl, refl); lanes = lanes; index = refl; next = refl; rooms = refl; down = refl }

  pub reads_itself : (m : Manager D) → ReadsLanes state m m
  reads_itself m = record { id = refl; lanes = lanes_self state sound m.lanes.items }

  pub reads_then : (k l m : Manager D) → ReadsLanes state k l → ReadsLanes state l m → ReadsLanes state k m
  reads_then k l m a b = record { id = b.id ∙ a.id; lanes = zip_then (LaneRead state) (lane_then state sound) k.lanes.items l.lanes.items m.lanes.items a.lanes b.lanes }

  module _ (old m new : Manager D) (reads : ReadsLanes state old m) (first : NoneRose state old m) where
    -- no count rose
    pub calm_then : NoneRose state m new → NoneRose state old new
    calm_then next = none_then state old (record old { lanes = m.lanes }) new (through_lanes old m reads.lanes) (record { home = refl; held = first.held }) (record { home = next.home ∙ first.home; held = next.held })

    -- one did
    rose_then : (p : Part) → PartRose state m new p → PartRose state old new p
    rose_then (Home volume) r = (r.0 ∙ reads.id, subst (λ (n : ℕ). Rose n (state_of state new.home).faults) first.home r.1)
    rose_then (Segment volume index) r = rose_through state sound old (record old { lanes = m.lanes }) new (through_lanes old m reads.lanes) (Segment volume index) r

    pub fault_then : (T U : Type 0) (fault : StepFault) → old.down ≡ None → m.down ≡ None → TellsStep {T = T} state (Err fault) m new → TellsStep {T = U} state (Err fault) old new
    fault_then T U (DiskFault p) up up_m told = (up, told.1, rose_then p told.2)
    fault_then T U (Down p) up up_m told = absurd (none-some p (sym up_m ∙ told.0))

-- ---- Other records than the one that is marked

module _ (version mask : ℕ) where
  covers_stay : (es : List Indexed) → listed_covers (listed_in (changed version (with_put mask) es)) ≡ listed_covers (listed_in es)
  covers_stay [] = refl
  covers_stay (e ∷ es) = λ i. at (eqb e.listed.version version) i ∷ covers_stay es i
    where
      at : (t : Bool) → cover_of (cond t (with_put mask e) e).listed ≡ cover_of e.listed
      at true = refl
      at false = refl

  pub entry_stays : (es : List Indexed) (v : ℕ) → (v ≡ version → ⊥) → entry_at (changed version (with_put mask) es) v ≡ entry_at es v
  entry_stays [] v other = refl
  entry_stays (e ∷ es) v other = at (entry_stays es v other) (eqb e.listed.version version) refl
    where
      at : entry_at (changed version (with_put mask) es) v ≡ entry_at es v → (t : Bool) → eqb e.listed.version version ≡ t → entry_at (cond t (with_put mask e) e ∷ changed version (with_put mask) es) v ≡ entry_at (e ∷ es) v
      at rest true is =
          let differs : eqb e.listed.version v ≡ false = ne_eqb e.listed.version v (λ same. other (sym same ∙ eqb-true e.listed.version version is)) in
          (λ i. cond (differs i) (Some (with_put mask e)) (rest i)) ∙ sym (λ i. cond (differs i) (Some e) (entry_at es v))
      at rest false is = λ i. cond (eqb e.listed.version v) (Some e) (rest i)

  due_stays : (es : List Indexed) (e : Listed) (b : ℕ) → is_due (listed_in (changed version (with_put mask) es)) e b ≡ is_due (listed_in es) e b
  due_stays es e b = λ i. ((cover_of e).covers b && not (has_newer (covers_stay es i) e.version b)) && not (is_homed e b)

  pub mark_stays : (es : List Indexed) (p : Laid) → (p.version ≡ version → ⊥) → IsToMark es p → IsToMark (changed version (with_put mask) es) p
  mark_stays es p other to = record {
    there = subst IsSome (sym (entry_stays es p.version other)) to.there;
    due = λ e is i bit. due_stays es e.listed (e.listed.first + i) ∙ to.due e (sym (entry_stays es p.version other) ∙ is) i bit;
    some = to.some;
    fits = to.fits;
  }

  pub home_stays : {D : Type 0} (tells : Bool) (state : D → State) (m n : Manager D) (b : ManagerBase) (notes : List Noted) (v w : ℕ) → n.home ≡ m.home → n.index.entries ≡ changed version (with_put mask) m.index.entries → (v ≡ version → ⊥)
      → AreHome tells state m v w b notes → AreHome tells state n v w b notes
  home_stays {D} tells state m n b notes v w home index other are = subst (λ (p : Spun D). AreHome tells state (record n { home = p }) v w b notes) (sym home)
      ((λ told e is. are.0 told e (sym (entry_stays m.index.entries v other) ∙ ap (λ (l : List Indexed). entry_at l v) (sym index) ∙ is)), are.1)

-- ---- Marks, one after another

pub marked_more : (ps : List Laid) (p : Laid) (es : List Indexed) → marked (ps ++ p ∷ []) es ≡ changed p.version (with_put p.mask) (marked ps es)
marked_more [] p es = refl
marked_more (q ∷ ps) p es = marked_more ps p (changed q.version (with_put q.mask) es)

versions_drop : (i : ℕ) (ps : List Laid) → AreRising (map (λ (p : Laid). p.version) ps) → AreRising (map (λ (p : Laid). p.version) (drop i ps))
versions_drop zero ps rising = rising
versions_drop (suc i) [] rising = tt
versions_drop (suc i) (p ∷ ps) rising = versions_drop i ps rising.1

-- the versions behind one that is next differ from it
pub later_differ : (i : ℕ) (ps : List Laid) (p : Laid) → AreRising (map (λ (q : Laid). q.version) ps) → drop i ps ≡ p ∷ drop (i + 1) ps → AllByRecursion (λ (q : Laid). q.version ≡ p.version → ⊥) (drop (i + 1) ps)
later_differ i ps p rising is = each (drop (i + 1) ps) (subst (λ (qs : List Laid). AreRising (map (λ (q : Laid). q.version) qs)) is (versions_drop i ps rising)).0
  where
    each : (qs : List Laid) → AllByRecursion (λ w. p.version < w) (map (λ (q : Laid). q.version) qs) → AllByRecursion (λ (q : Laid). q.version ≡ p.version → ⊥) qs
    each [] all = tt
    each (q ∷ qs) all = ((λ same. let lt : p.version < q.version = all.0 in omega arith), each qs all.1)

pub all_both : {X : Type 0} (P Q R : X → Type 0) (xs : List X) → ((x : X) → P x → Q x → R x) → AllByRecursion P xs → AllByRecursion Q xs → AllByRecursion R xs
all_both P Q R [] so ps qs = tt
all_both P Q R (x ∷ xs) so ps qs = (so x ps.0 qs.0, all_both P Q R xs so ps.1 qs.1)

pub all_pushed : {X : Type 0} (P : X → Type 0) (xs : List X) (x : X) → AllByRecursion P xs → P x → AllByRecursion P (xs ++ x ∷ [])
all_pushed P [] x all is = (is, tt)
all_pushed P (y ∷ ys) x all is = (all.0, all_pushed P ys x all.1 is)

pub rising_pushed : (ps : List Laid) (p : Laid) → AreRising (map (λ (q : Laid). q.version) ps) → AllByRecursion (λ (q : Laid). q.version < p.version) ps → AreRising (map (λ (q : Laid). q.version) (ps ++ p ∷ []))
rising_pushed [] p rising less = (tt, tt)
rising_pushed (q ∷ ps) p rising less = (further q ps rising.0 less.0, rising_pushed ps p rising.1 less.1)
  where
    further : (q : Laid) (ps : List Laid) → AllByRecursion (λ w. q.version < w) (map (λ (r : Laid). r.version) ps) → q.version < p.version → AllByRecursion (λ w. q.version < w) (map (λ (r : Laid). r.version) (ps ++ p ∷ []))
    further q [] all lt = (lt, tt)
    further q (r ∷ ps) all lt = (all.0, further q ps all.1 lt)

pub same_many : {D : Type 0} (state : D → State) (old : Manager D) (es : List Indexed) (group : List Laid) (m : Manager D) → LaysEach state old es group m → length es ≡ length group
same_many state old es group m none = refl
same_many state old es group m (more ds ps k n e mask rest lays) =
    let r = same_many state old ds ps k rest in let a = length-append ds (e ∷ []) in let b = length-append ps (record { version = e.listed.version; mask = mask } ∷ []) in omega (arith, r, a, b)
