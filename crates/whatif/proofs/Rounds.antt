-- All steps of a kind, done in a loop.
use Rattle.std.proofs.Common.{◌≡◌, ◌<◌, ℕ, false, List, length, Option, None, Some, refl, sym, ap, subst, ◌∙◌, ◌++◌, []}
use Rattle.std.specs.List.{AllByRecursion}
use Rattle.wol_model.specs.Index.{left, listed_in}
use Rattle.wol_model.specs.Journal.{SpindleState}
use Rattle.wol_promise.specs.Policy.{Look}
use Rattle.whatif.specs.declared.disk.Disk.{Disk}
use Rattle.whatif.specs.declared.volume.Volume.{Volume}
use Rattle.whatif.specs.Disks.{AreDisks, IsKept, moments_of}
use Rattle.whatif.specs.Machine.{Action, Reach, all_accessed, repeated}
use Rattle.whatif.specs.Volumes.{HasDone, IsVolume, IsWithin, StaysOpen, look_in, reach_in, store_in}
use Rattle.whatif.specs.Logs.{Move, all_moved}
use Rattle.whatif.proofs.Doing.{Goes, goes_first, goes_last, goes_on, moved_more, same_length, same_within}

module _ (step : Reach → Look → Option Action) (start : Volume) (was : List Disk) where
  -- what is kept of the volume and the disks that some steps led to
  pub record AreDone (v : Volume) (ds : List Disk) : Type 0 where
    pub volume : IsVolume v
    pub settled : v.settled ≡ false
    pub reach : reach_in v ≡ reach_in start
    pub next : v.next ≡ start.next
    pub within : IsWithin (length ds) (reach_in v)
    pub kept : AllByRecursion IsKept ds
    pub moments : moments_of ds ≡ moments_of was
    pub done : List Move
    pub goes : Goes (step (reach_in start)) (look_in start) (look_in v) was ds done
    pub store : store_in v.store ≡ all_moved done (store_in start.store)

  pub none_done : IsVolume start → start.settled ≡ false → IsWithin (length was) (reach_in start) → AllByRecursion IsKept was → AreDone start was
  none_done volume settled within kept = record { volume = volume; settled = settled; reach = refl; next = refl; within = within; kept = kept; moments = refl; done = []; store = refl; goes = goes_first (step (reach_in start)) (look_in start) was }

  -- one more step was done, and used these disks
  pub one_more : (v w : Volume) (ds es : List Disk) (uses : List ℕ) (moves : List Move) → AreDone v ds → StaysOpen moves v w → step (reach_in v) (look_in v) ≡ Some (record { look = look_in w; uses = uses; moves = moves })
      → left (listed_in w.index.entries) < left (listed_in v.index.entries) → AllByRecursion IsKept es → moments_of es ≡ moments_of ds → ((t : ℕ) (ss : List SpindleState) → AreDisks ds ss → AreDisks es (all_accessed t uses ss)) → AreDone w es
  one_more v w ds es uses moves i stays some lowers kept moments used =
      let a : Action = record { look = look_in w; uses = uses; moves = moves } in record {
        volume = stays.volume;
        settled = stays.settled;
        reach = stays.reach ∙ i.reach;
        next = stays.next ∙ i.next;
        within = same_within (length ds) (length es) (reach_in w) (same_length ds es moments) (subst (IsWithin (length ds)) (sym stays.reach) i.within);
        kept = kept;
        moments = moments ∙ i.moments;
        store = stays.store ∙ ap (all_moved moves) i.store ∙ sym (moved_more i.done moves (store_in start.store));
        done = i.done ++ moves;
        goes = goes_on (step (reach_in start)) (look_in start) (look_in v) was ds es i.done a i.goes (subst (λ (r : Reach). step r (look_in v) ≡ Some a) i.reach some) lowers used;
      }

  -- there is no further one
  pub all_done : (v w : Volume) (ds : List Disk) → AreDone v ds → w ≡ v → step (reach_in start) (look_in v) ≡ None → HasDone (λ r l. repeated (left l.listed) (step r) l) start w was ds
  all_done v w ds i same none =
      let last = goes_last (step (reach_in start)) (look_in start) (look_in v) was ds i.done i.goes none in
      record {
        reach = ap reach_in same ∙ i.reach;
        look = ap look_in same ∙ last.0;
        store = ap (λ (x : Volume). store_in x.store) same ∙ i.store ∙ ap (λ (ms : List Move). all_moved ms (store_in start.store)) (sym last.1);
        disks = last.2;
      }
