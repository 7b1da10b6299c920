-- All volumes of a bay were cleaned: what was done with its rack is told of the bay.
use Rattle.std.proofs.Common.{◌≡◌, ◌+◌, ◌⊎◌, inl, inr, ◌<◌, ◌≤◌, ℕ, zero, suc, Bool, List, [], ◌∷◌, ◌++◌, length, map, Option, None, Some, Result, Ok, Err, refl, sym, ap, subst, ◌∙◌, arith, length-append}
use Rattle.std.specs.Prelude.{IfSome, IsTrue, slice_get}
use Rattle.std.specs.List.{AllByRecursion}
use Rattle.std.proofs.lemmas.Bool.{cases_lt}
use Rattle.std.proofs.lemmas.List.{length-map, map-append}
use Rattle.wol_disk.specs.Disk.{State}
use Rattle.wol_bay.specs.Bay.{BayState, Told}
use Rattle.wol_model.specs.Blocks.{Write}
use Rattle.wol_model.specs.Images.{Images, recovered_from}
use Rattle.wol_model.specs.Index.{AreRising, is_covered, listed_in}
use Rattle.wol_promise.specs.Manager.{Base}
use Rattle.wol_promise.specs.Policy.{Look}
use Rattle.wol_promise.specs.Stands.{IsOpening}
use Rattle.wol_promise.proofs.Lists.{all_mapped, all_push}
use Rattle.wol_config.specs.declared.config.Config.{Config}
use Rattle.manager.specs.Stands.{Stands}
use Rattle.manager.specs.declared.base.ManagerBase.{ManagerBase}
use Rattle.manager.specs.Seen.{name_of}
use Rattle.manager.specs.declared.manager.Manager.{Manager}
use Rattle.manager.specs.declared.part.Part.{Part}
use Rattle.manager.specs.declared.station.Station.{Station}
use Rattle.volume_images.specs.Left.{IsTold}
use Rattle.volume_images.specs.Volumes.{AreLeft, images_read, shape_in, shapes_of}
use Rattle.rack.specs.Closes.{AreLeftOfParts, RecoversTo}
use Rattle.rack.proofs.FailedParts.{faulty_since}
use Rattle.rack.specs.Opens.{BeganWith, HasFaulty}
use Rattle.rack.specs.Owners.{IsBegun}
use Rattle.rack_parts.specs.declared.rack.Rack.{Rack}
use Rattle.rack.specs.Sessions.{KeepsArrays, OpensAndCloses}
use Rattle.spin_model.specs.Spindles.{SpindleView}
use Rattle.rack.specs.NotOpened.{first_closed}
use Rattle.replay.specs.declared.stop.Stop.{Stop}
use Rattle.replay.proofs.MarksLeft.{told_through}
use Rattle.replay.proofs.RacksServed.{a_member, station_count}
use Rattle.log_cleaner.specs.Chunks.{IsChunk}
use Rattle.log_cleaner.specs.Cleans.{HasCleaned, IsChunkOf}
use Rattle.log_cleaner.specs.declared.answer.Cleaned.{Cleaned}
use Rattle.log_cleaner.specs.declared.answer.CleanFault.{CleanFault}
use Rattle.log_cleaner.specs.declared.answer.CleanFault.TheVariants.{DiskFault, VersionsSpent, NoMemory}
use Rattle.log_cleaner.proofs.Cleaning.{rising_push}
use Rattle.inspection.specs.Logs.{LeavesDistinct, LeavesLogs}
use Rattle.cleaning.specs.Racks.{CleansAll, CleansFirst, CleansRack, CleansStation, all_ok}
use Rattle.cleaning.specs.Racks as racks
use Rattle.cleaning.specs.Runs.{AreCleaned, CleansBay, CleansVolume, Completes, EndsFor, LacksVersions, LeavesFrom, LeavesVolume, MayComplete}
use Rattle.cleaning.specs.Runs as runs
use Rattle.cleaning.specs.Turns.{operation_of}
use Rattle.cleaning.proofs.Going.{ok_at, ok_length}
use Rattle.cleaning.proofs.Volumes as volumes
use Rattle.wol_config.specs.Configs.{most_of}

-- ---- Versions

chunk_of : Write → ℕ × ℕ
chunk_of w = (w.first, length w.blocks)

firsts : (ws : List Write) → map (λ (c : ℕ × ℕ). c.0) (map chunk_of ws) ≡ map (λ (w : Write). w.first) ws
unfolding chunk_of
firsts [] = refl
firsts (w ∷ ws) = ap (λ (l : List ℕ). w.first ∷ l) (firsts ws)

-- what a volume lacks whose versions were spent
pub lacks_versions : {D : Type 0} (tells : Bool) (state : D → State) (most : ℕ) (old new : Manager D) (b : ManagerBase) → Stands tells state old b [] → IsOpening b.volume.began → HasCleaned tells state most old new (Err VersionsSpent) → LacksVersions most b.volume.began
unfolding chunk_of
lacks_versions tells state most old new b stands opening has =
    let left = has.tells_.4 in
    let covered : (n : ℕ) → is_covered (Rattle.wol_model.specs.Index.listed_in old.index.entries) n ≡ is_covered b.volume.began.look.listed n = λ n. ap (λ (l : Look). is_covered l.listed n) (sym stands.look) in
    let same : Rattle.log_cleaner.specs.Cleans.covered_in old ≡ is_covered b.volume.began.look.listed = ap (λ (l : Look). is_covered l.listed) (sym stands.look) in
    let next : b.volume.began.next ≡ old.next = sym opening.next ∙ ap (λ (l : Look). l.next) stands.look in
    let spent = has.tells_.3 in record {
      chunks = map chunk_of has.copies ++ (left.first, left.count) ∷ [];
      each = subst (λ (f : ℕ → Bool). AllByRecursion (λ (c : ℕ × ℕ). IsChunk f most c.0 c.1) (map chunk_of has.copies ++ (left.first, left.count) ∷ [])) same
          (all_push (λ (c : ℕ × ℕ). IsChunk (Rattle.log_cleaner.specs.Cleans.covered_in old) most c.0 c.1) (map chunk_of has.copies) (left.first, left.count)
          (all_mapped (λ (c : ℕ × ℕ). IsChunk (Rattle.log_cleaner.specs.Cleans.covered_in old) most c.0 c.1) chunk_of has.copies has.chunks) left.chunk);
      apart = subst AreRising (sym (map-append (λ (c : ℕ × ℕ). c.0) (map chunk_of has.copies) ((left.first, left.count) ∷ []) ∙ ap (λ (l : List ℕ). l ++ left.first ∷ []) (firsts has.copies)))
          (rising_push (map (λ (w : Write). w.first) has.copies) left.first has.in_order (all_mapped (λ (u : ℕ). u < left.first) (λ (w : Write). w.first) has.copies left.behind));
      beyond = let l = length-append (map chunk_of has.copies) ((left.first, left.count) ∷ []) in let m = length-map has.copies chunk_of in omega (arith, l, m, spent, next);
    }

-- ---- What is told in two steps

-- what is told of the last
pub told_of : (P Q : Told → Type 0) → ((y : Told) → P y → Q y) → (o n : Option Told) → IsTold (λ x y. P y) o n → IsTold (λ x y. Q y) o n
told_of P Q f None n is = is
told_of P Q f (Some o) None is = is
told_of P Q f (Some o) (Some n) is = f n is

pub later_told : (P : Told → Type 0) (e o n : Option Told) → IsTold HasFaulty e o → IsTold (λ x y. P y) o n → IsTold (λ x y. P y) e n
later_told P None None n had is = is
later_told P None (Some o) n had is = absurd (cc had)
later_told P (Some e) None n had is = absurd had
later_told P (Some e) (Some o) None had is = absurd is
later_told P (Some e) (Some o) (Some n) had is = is

module _ {D : Type 0} (tells : Bool) (state : D → State) (config : Config) (did : Rack D → Rack D → Type 0) (old new : BayState) (spindles : List SpindleView) (session : OpensAndCloses tells state config did old new spindles)
    (open_ : first_closed 0 session.before.faults.items ≡ None) where
  -- ---- One volume

  module _ (k : ℕ) (answer : Result Cleaned CleanFault) (c : CleansStation tells state config session.before session.after k answer) where
    abbrev s : Station D
    s = c.station

    abbrev base : ManagerBase
    base = Rattle.rack.specs.Racks.base_of_station s

    began_at : (t n : Told) → old.told ≡ Some t → IsTrue tells → IsBegun config (images_read config t) base.volume.began
    began_at t n is telling = volumes.begun_of tells state config did old new spindles session open_ k s c.there c.pass c.now t
        (subst (λ (o : Option Told). IfSome o (λ x. BeganWith state config x session.before)) is (session.opened.began telling))

    broke : (p : Part) → answer ≡ Err (DiskFault p) → c.cleans.note.entry.operation ≡ Rattle.wol_model.specs.History.Broke c.cleans.copies
    broke p is = c.cleans.operation ∙ ap (operation_of c.cleans.copies) is

    -- what closing says of what is left
    abbrev recovers_to : Told → Type 0
    recovers_to y = RecoversTo config session.after.rest.images.items (record s { worker = c.pass }) (volumes.ends tells state config did old new spindles session open_ k s c.there c.pass c.now).entries y

    pub cleans_volume : CleansVolume tells state config old new k answer
    cleans_volume = record {
      base = base;
      owner = volumes.owner tells state config did old new spindles session open_ k s c.there c.pass c.now;
      begun = λ telling. told_through HasFaulty (λ x y. AreLeftOfParts state config session.after y) (λ t n. IsBegun config (images_read config t) base.volume.began) old.told session.bay.told new.told
          session.opened.faulty (session.closed.parts telling) (λ t n is. began_at t n is telling);
      opened = c.cleans.opened;
      stood = volumes.stood tells state config did old new spindles session open_ k s c.there c.pass c.now answer c.cleans;
      after = c.cleans.after;
      cleans = (volumes.done tells state config did old new spindles session open_ k s c.there c.pass c.now answer c.cleans).0;
      note = c.cleans.note;
      pass = volumes.its tells state config did old new spindles session open_ k s c.there c.pass c.now answer c.cleans;
      operation = volumes.operation tells state config did old new spindles session open_ k s c.there c.pass c.now answer c.cleans;
      stands = volumes.stands tells state config did old new spindles session open_ k s c.there c.pass c.now answer c.cleans;
      distinct = λ telling. later_told (LeavesDistinct config k) old.told session.bay.told new.told session.opened.faulty
          (told_of recovers_to (LeavesDistinct config k)
          (volumes.distinct_left tells state config did old new spindles session open_ k s c.there c.pass c.now)
          session.bay.told new.told ((volumes.ends tells state config did old new spindles session open_ k s c.there c.pass c.now).recovers telling));
      logs = λ sure telling. later_told (LeavesLogs config k base.volume.began.view (listed_in c.cleans.after.index.entries)) old.told session.bay.told new.told session.opened.faulty
          (told_of recovers_to (LeavesLogs config k base.volume.began.view (listed_in c.cleans.after.index.entries))
          (volumes.logs_cleaned tells state config did old new spindles session open_ k s c.there c.pass c.now answer c.cleans sure)
          session.bay.told new.told ((volumes.ends tells state config did old new spindles session open_ k s c.there c.pass c.now).recovers telling));
      cause = λ p is. volumes.rose tells state config did old new spindles session open_ k s c.there c.pass c.now answer c.cleans c.cleans.copies (broke p is);
      faulty = λ p is. faulty_since tells config k base.volume.began.view (name_of p) old.told session.bay.told new.told session.opened.faulty
          (volumes.faulty tells state config did old new spindles session open_ k s c.there c.pass c.now answer c.cleans p is);
      spent = λ is. lacks_versions tells state (most_of config) c.cleans.opened c.cleans.after base (volumes.stood tells state config did old new spindles session open_ k s c.there c.pass c.now answer c.cleans)
          (volumes.ends tells state config did old new spindles session open_ k s c.there c.pass c.now).opening
          (subst (HasCleaned tells state (most_of config) c.cleans.opened c.cleans.after) is (volumes.done tells state config did old new spindles session open_ k s c.there c.pass c.now answer c.cleans).0);
    }

  -- ---- A volume that wasn't cleaned

  module _ (v : ℕ) (s : Station D) (there : slice_get session.before.stations.items v ≡ Some s) (now : slice_get session.after.stations.items v ≡ Some (record s { worker = s.worker })) where
    abbrev left_base : Base
    left_base = (Rattle.rack.specs.Racks.base_of_station s).volume.began

    pub leaves_volume : LeavesVolume tells config old new v
    leaves_volume = record {
      base = left_base;
      owner = volumes.owner tells state config did old new spindles session open_ v s there s.worker now;
      begun = λ telling. told_through HasFaulty (λ x y. AreLeftOfParts state config session.after y) (λ t n. IsBegun config (images_read config t) left_base) old.told session.bay.told new.told
          session.opened.faulty (session.closed.parts telling) (λ t n is. volumes.begun_of tells state config did old new spindles session open_ v s there s.worker now t
          (subst (λ (o : Option Told). IfSome o (λ x. BeganWith state config x session.before)) is (session.opened.began telling)));
      logs = λ telling. later_told (LeavesLogs config v left_base.view left_base.look.listed) old.told session.bay.told new.told session.opened.faulty
          (told_of (λ y. RecoversTo config session.after.rest.images.items (record s { worker = s.worker }) (volumes.ends tells state config did old new spindles session open_ v s there s.worker now).entries y) (LeavesLogs config v left_base.view left_base.look.listed)
          (volumes.logs_kept tells state config did old new spindles session open_ v s there s.worker now (volumes.unused tells state config did old new spindles session open_ v s there s.worker now).0.mine
          (volumes.station tells state config did old new spindles session open_ v s there s.worker now).worker_.number_is)
          session.bay.told new.told ((volumes.ends tells state config did old new spindles session open_ v s there s.worker now).recovers telling));
    }

  -- those behind the ones with answers
  rest_left : (answers : List (Result Cleaned CleanFault)) (n : ℕ) → length answers ≤ n → CleansFirst tells state config session.before session.after answers → LeavesFrom tells state config old new 0 0 None None n
  rest_left answers n few first v least lt =
      let count = station_count state config session.bay session.before session.opened.rack open_ in
      let s = a_member session.before.stations.items v (omega (arith, lt, count, length-map config.volumes.items (shape_in config))) in
      leaves_volume v s.0 s.1 (first.others v s.0 (omega (arith, few, least)) s.1)

  -- ---- The arrays

  abbrev LeftBy : (Told → Type 0) → Type 0
  LeftBy P = IsTold (λ x y. P y) session.bay.told new.told

  -- where these first volumes were cleaned, each volume recovers to what it did
  module _ (telling : IsTrue tells) (answers : List (Result Cleaned CleanFault)) (first : CleansFirst tells state config session.before session.after answers) where
    at_volume : (v : ℕ) → v < length (shapes_of config) → (s : Station D) × (slice_get session.before.stations.items v ≡ Some s)
    at_volume v lt = a_member session.before.stations.items v (let n = station_count state config session.bay session.before session.opened.rack open_ in omega (arith, lt, n))

    -- what closing says of a volume
    record Closed (v : ℕ) (y : Told) : Type 0 where
      kept : (t : Told) → BeganWith state config t session.before → (images : Images) → AreLeft config y images → recovered_from (shapes_of config) images v ≡ recovered_from (shapes_of config) (images_read config t) v

    closed_at : (v : ℕ) → v < length (shapes_of config) → LeftBy (Closed v)
    closed_at v lt = by (cases_lt v (length answers))
      where
        by : (v < length answers) ⊎ (length answers ≤ v) → LeftBy (Closed v)
        by (inl less) =
            let a = a_member answers v less in let c = first.each v a.0 a.1 in
            told_of (λ y. RecoversTo config session.after.rest.images.items (record c.station { worker = c.pass }) (volumes.ends tells state config did old new spindles session open_ v c.station c.there c.pass c.now).entries y) (Closed v)
            (λ y recovers. record { kept = λ t with images left_. volumes.cleaned_kept tells state config did old new spindles session open_ v c.station c.there c.pass c.now a.0 c.cleans telling t y with recovers images left_ })
            session.bay.told new.told ((volumes.ends tells state config did old new spindles session open_ v c.station c.there c.pass c.now).recovers telling)
        by (inr more) =
            let s = at_volume v lt in
            let now : slice_get session.after.stations.items v ≡ Some (record s.0 { worker = s.0.worker }) = first.others v s.0 more s.1 in
            let unused = volumes.unused tells state config did old new spindles session open_ v s.0 s.1 s.0.worker now in
            told_of (λ y. RecoversTo config session.after.rest.images.items (record s.0 { worker = s.0.worker }) (volumes.ends tells state config did old new spindles session open_ v s.0 s.1 s.0.worker now).entries y) (Closed v)
            (λ y recovers. record {
              kept = λ t with images left_. volumes.untouched_kept tells state config did old new spindles session open_ v s.0 s.1 s.0.worker now unused.0.mine
                  (volumes.station tells state config did old new spindles session open_ v s.0 s.1 s.0.worker now).worker_.number_is t y with recovers images left_;
            })
            session.bay.told new.told ((volumes.ends tells state config did old new spindles session open_ v s.0 s.1 s.0.worker now).recovers telling)

    through : (e o n : Option Told) → IsTold HasFaulty e o → IfSome e (λ t. BeganWith state config t session.before) → IsTold (λ x y. AreLeftOfParts state config session.after y) o n
        → ((v : ℕ) → v < length (shapes_of config) → IsTold (λ x y. Closed v y) o n) → IsTold (KeepsArrays config) e n
    through None None n had was told each = told
    through None (Some o) n had was told each = absurd (cc had)
    through (Some e) None n had was told each = absurd had
    through (Some e) (Some o) None had was told each = absurd told
    through (Some e) (Some o) (Some n) had was told each = λ images left_ v lt. (each v lt).kept e was images left_

    pub arrays_kept : IsTold (KeepsArrays config) old.told new.told
    arrays_kept = through old.told session.bay.told new.told session.opened.faulty (session.opened.began telling) (session.closed.parts telling) closed_at

  -- ---- How it ended

  first_of : (told : List Cleaned) → CleansFirst tells state config session.before session.after (all_ok told) → AreCleaned tells state config old new 0 0 None None told
  first_of told first = (
    (let n = first.few in omega (arith, n, ok_length told)),
    λ k c is. cleans_volume k (Ok c) (first.each k (Ok c) (ok_at told k c is)),
  )

  one_more : (told : List Cleaned) (c : Cleaned) → length (all_ok (told ++ c ∷ [])) ≤ length told + 1
  one_more told c = omega (arith, ok_length (told ++ c ∷ []), length-append told (c ∷ []))

  -- those before a refused one
  before_last : (told : List Cleaned) (f : CleanFault) → CleansFirst tells state config session.before session.after (all_ok told ++ Err f ∷ []) → (AreCleaned tells state config old new 0 0 None None told) × (length told < length config.volumes.items) × CleansVolume tells state config old new (length told) (Err f)
  before_last told f first =
      let n = first.few in let l = length-append (all_ok told) (Err f ∷ []) in let o = ok_length told in (
        (omega (arith, n, l, o), λ k c is. cleans_volume k (Ok c) (first.each k (Ok c) (front (all_ok told) (Err f) k (Ok c) (ok_at told k c is)))),
        omega (arith, n, l, o),
        subst (λ (m : ℕ). CleansVolume tells state config old new m (Err f)) o (cleans_volume (length (all_ok told)) (Err f) (first.each (length (all_ok told)) (Err f) (at_end (all_ok told) (Err f)))),
      )
    where
      front : {X : Type 0} (xs : List X) (x : X) (k : ℕ) (y : X) → slice_get xs k ≡ Some y → slice_get (xs ++ x ∷ []) k ≡ Some y
      front [] x k y is = absurd (let no : None ≡ Some y = is in cc)
      front (z ∷ xs) x zero y is = is
      front (z ∷ xs) x (suc k) y is = front xs x k y is

      at_end : {X : Type 0} (xs : List X) (x : X) → slice_get (xs ++ x ∷ []) (length xs) ≡ Some x
      at_end [] x = refl
      at_end (z ∷ xs) x = at_end xs x

  module _ (sink sink' : ℕ) (printed printed' : Option (List ℕ)) where
    pub ends_for : (answer : Result (Unit {0}) Stop) → CleansAll tells state config session.before session.after sink sink' printed printed' answer → EndsFor tells state config old new sink sink' printed printed' answer
    ends_for answer (racks.whole told first all calm prints) = runs.whole told (first_of told first) all calm prints
    ends_for answer (racks.refused told f first calm prints) = let b = before_last told f first in runs.refused told f b.0 (b.1, rest_left (all_ok told ++ Err f ∷ []) (length told + 1) (omega (arith, length-append (all_ok told) (Err f ∷ []), ok_length told)) first) b.2 calm prints
    ends_for answer (racks.no_memory told c first calm prints) = runs.no_memory told c (first_of (told ++ c ∷ []) first, rest_left (all_ok (told ++ c ∷ [])) (length told + 1) (one_more told c) first) calm prints
    ends_for answer (racks.sink_failed told c first rose front) = runs.sink_failed told c (first_of (told ++ c ∷ []) first, rest_left (all_ok (told ++ c ∷ [])) (length told + 1) (one_more told c) first) rose front

    -- which volumes were cleaned, however it ended
    first_in : (answer : Result (Unit {0}) Stop) → CleansAll tells state config session.before session.after sink sink' printed printed' answer → (answers : List (Result Cleaned CleanFault)) × CleansFirst tells state config session.before session.after answers
    first_in answer (racks.whole told first all calm prints) = (all_ok told, first)
    first_in answer (racks.refused told f first calm prints) = (all_ok told ++ Err f ∷ [], first)
    first_in answer (racks.no_memory told c first calm prints) = (all_ok (told ++ c ∷ []), first)
    first_in answer (racks.sink_failed told c first rose front) = (all_ok (told ++ c ∷ []), first)

    pub kept_by : (answer : Result (Unit {0}) Stop) → CleansAll tells state config session.before session.after sink sink' printed printed' answer → IsTrue tells → IsTold (KeepsArrays config) old.told new.told
    kept_by answer all telling = let f = first_in answer all in arrays_kept telling f.0 f.1

    -- ---- When it comes to its end

    pub run_completes : (answer : Result (Unit {0}) Stop) → EndsFor tells state config old new sink sink' printed printed' answer → MayComplete tells config old new sink sink' → Completes answer
    run_completes answer (runs.whole told are all calm prints) m = inl refl
    run_completes answer (runs.refused told (DiskFault p) are within last calm prints) m = absurd (m.looks.bay_calm (last.cause p refl))
    run_completes answer (runs.refused told VersionsSpent are within last calm prints) m = absurd (m.versions last.base.volume.began
        (at_entry (subst (λ (o : Option Told). IsTold (λ t n. IsBegun config (images_read config t) last.base.volume.began) o new.told) m.looks.entry_is (last.begun m.looks.telling))) (last.spent refl))
      where
        at_entry : IsTold (λ t n. IsBegun config (images_read config t) last.base.volume.began) (Some m.looks.entry) new.told → IsBegun config (images_read config m.looks.entry) last.base.volume.began
        at_entry told = by new.told told
          where
            by : (n : Option Told) → IsTold (λ t n. IsBegun config (images_read config t) last.base.volume.began) (Some m.looks.entry) n → IsBegun config (images_read config m.looks.entry) last.base.volume.began
            by None is = absurd is
            by (Some n) is = is
    run_completes answer (runs.refused told NoMemory are within last calm prints) m = inr refl
    run_completes answer (runs.no_memory told c are calm prints) m = inr refl
    run_completes answer (runs.sink_failed told c are rose front) m = absurd (m.looks.sink_calm rose)
