-- A volume of a rack all of whose volumes were open: what it began with, what its history is, and what it recovers to.
use Rattle.std.proofs.Common.{◌≡◌, ◌≢◌, ◌⊎◌, inl, inr, ◌<◌, ◌≤◌, ◌+◌, ℕ, Bool, true, false, List, [], ◌∷◌, ◌++◌, length, map, Option, None, Some, is_some, Result, Ok, Err, refl, sym, ap, subst, ◌∙◌, arith, append_assoc}
use Rattle.std.proofs.lemmas.Option.{same_Some}
use Rattle.std.specs.Prelude.{All, IfSome, IsSome, IsTrue, slice_get, unwrap_or}
use Rattle.std.specs.List.{AllByRecursion}
use Rattle.wol_disk.specs.Disk.{Block, Rose, State}
use Rattle.turn_lock.specs.Histories.{Entry, own, Begins}
use Rattle.turn_lock.specs.LockIds.{LockId}
use Rattle.turn_lock.specs.Passes.{pass_lock, pass_number, pass_seen, pass_mine}
use Rattle.wol_bay.specs.Bay.{BayState, Told}
use Rattle.wol_model.specs.Blocks.{Write}
use Rattle.wol_model.specs.History.{Broke, flight_of, worker, helper, keeper}
use Rattle.wol_model.specs.Extents.{AreDistinct, covers_of}
use Rattle.wol_model.specs.Images.{Images, all_segments, recovered_from}
use Rattle.wol_model.specs.Index.{Listed, is_homed, listed_in}
use Rattle.wol_model.specs.Recovered.{extents_of}
use Rattle.wol_model.proofs.Overlay.{after_none}
use Rattle.wol_promise.specs.Policy.{Look, PartName}
use Rattle.wol_promise.specs.Ruled.{Noted, entries_of, last_look}
use Rattle.wol_promise.specs.Stands.{IsOpened as IsOpenedRecord, IsOpening}
use Rattle.wol_promise.proofs.Lists.{all_map}
use Rattle.wol_config.specs.declared.config.Config.{Config}
use Rattle.manager.specs.Seen.{down_of, look_of_manager, name_of}
use Rattle.manager.specs.Stands.{Stands, notes_of}
use Rattle.manager.specs.declared.base.ManagerBase.{ManagerBase}
use Rattle.manager.specs.declared.manager.Manager.{Manager}
use Rattle.manager.specs.declared.part.Part.{Part}
use Rattle.manager.specs.declared.station.Station.{Station}
use Rattle.request_turns.specs.Turns.{ManagerPass, coded}
use Rattle.request_turns.proofs.Noting.{notes_at}
use Rattle.volume_images.specs.Left.{IsTold}
use Rattle.volume_images.specs.Volumes.{AreLeft, images_read, shapes_of}
use Rattle.rack.specs.Closes.{AreListedOf, HasFaultyPart, IsClosedVolume, IsOnLogger, RecoversTo, recovered_out, segments_out}
use Rattle.rack.specs.Opens.{BeganWith}
use Rattle.rack.specs.Owners.{IsBegun, images_taken}
use Rattle.rack.specs.Racks.{IsStation, IsUnused, base_of_station}
use Rattle.rack.specs.Rests.{IsImageOut}
use Rattle.rack_parts.specs.declared.rack.Rack.{Rack}
use Rattle.rack_parts.specs.declared.rack.Rest.{Rest}
use Rattle.rack.specs.Sessions.{OpensAndCloses}
use Rattle.inspection.specs.Logs.{LeavesDistinct, LeavesLogs}
use Rattle.rack.proofs.RacksAgain.{rest_again}
use Rattle.rack.proofs.Since.{rose_before}
use Rattle.spin_model.specs.Spindles.{SpindleView}
use Rattle.rack.specs.NotOpened.{first_closed}
use Rattle.rack.proofs.AllOut.{accepted_all, recovered_all, taken_all}
use Rattle.rack.proofs.FirstClosed.{none_closed}
use Rattle.rack.proofs.OpenedKept.{opened_out}
use Rattle.replay.proofs.RacksServed.{at_place, each_station}
use Rattle.log_cleaner.specs.Chunks.{NoneHomed}
use Rattle.log_cleaner.specs.Cleans.{CanClean, HasCleaned, TellsCleaned}
use Rattle.log_cleaner.specs.declared.answer.Cleaned.{Cleaned}
use Rattle.log_cleaner.specs.declared.answer.CleanFault.{CleanFault}
use Rattle.log_cleaner.specs.declared.answer.CleanFault.TheVariants.{DiskFault}
use Rattle.inspection.proofs.Unhelped.{all_at, none_before}
use Rattle.cleaning.specs.Turns.{CleansIn, CleansOrLeaves, cleaned, left, operation_of}
use Rattle.cleaning.proofs.Histories.{no_entries, none_cut, note_cut, note_done, one_entry}
use Rattle.wol_config.specs.Configs.{most_of}

-- ---- A manager as it was opened

-- it can be cleaned
pub can_be_cleaned : {D : Type 0} (tells : Bool) (state : D → State) (m : Manager D) (b : ManagerBase) → Stands tells state m b [] → IsOpening b.volume.began → CanClean m
can_be_cleaned {D} tells state m b stands opening = record {
  up = up m.down (stands.keeps.upholds.is_down);
  unhomed = subst (λ (l : Look). NoneHomed l.listed) stands.look (all_map (IsOpenedRecord b.volume.began) (λ (e : Listed). (n : ℕ) → is_homed e n ≡ false) (λ e is n. unmarked e.first e.homed is.unhomed n) b.volume.began.look.listed opening.listed);
  awake = subst (λ (l : Look). AllByRecursion (λ (u : Bool). u ≡ true) l.ups) stands.look opening.ups;
}
  where
    up : (p : Option Part) → is_some (Rattle.manager.specs.Seen.down_of p) ≡ false → p ≡ None
    up None is = refl
    up (Some p) is = absurd (let no : true ≡ false = is in cc)

    get_none : (ms : List Bool) → AllByRecursion (λ (x : Bool). x ≡ false) ms → (k : ℕ) → Rattle.std.specs.Prelude.slice_index_or ms k false ≡ false
    get_none [] all k = refl
    get_none (x ∷ ms) all Rattle.std.proofs.Common.zero = all.0
    get_none (x ∷ ms) all (Rattle.std.proofs.Common.suc k) = get_none ms all.1 k

    unmarked : (first : ℕ) (ms : List Bool) → AllByRecursion (λ (x : Bool). x ≡ false) ms → (n : ℕ) → Rattle.wol_model.specs.Extents.marked first ms n ≡ false
    unmarked first ms all n = by (Rattle.std.proofs.Common.leb first n)
      where
        by : (t : Bool) → (Rattle.std.proofs.Common.◌&&◌ t (Rattle.std.specs.Prelude.slice_index_or ms (Rattle.std.proofs.Common.◌-◌ n first) false)) ≡ false
        by true = get_none ms all (Rattle.std.proofs.Common.◌-◌ n first)
        by false = refl

-- so it was, if it was in its turn
pub has_done : {D : Type 0} (tells : Bool) (state : D → State) (most : ℕ) (old new : Manager D) (copies : List Write) (result : Result Cleaned CleanFault) → CleansOrLeaves tells state most old new copies result → CanClean old
    → (has : HasCleaned tells state most old new result) × (copies ≡ has.copies)
has_done tells state most old new copies result (cleaned r can has) sure = (has, refl)
has_done tells state most old new copies result (left cannot same) sure = absurd (cannot sure)

-- ---- One volume of a rack

module _ {D : Type 0} (tells : Bool) (state : D → State) (config : Config) (did : Rack D → Rack D → Type 0) (old new : BayState) (spindles : List SpindleView) (session : OpensAndCloses tells state config did old new spindles)
    (open_ : first_closed 0 session.before.faults.items ≡ None) where
  abbrev pub before : Rack D
  before = session.before

  abbrev pub after : Rack D
  after = session.after

  -- the images of all volumes are out
  pub all_out : (k : ℕ) → k < length (shapes_of config) → IsImageOut before.rest.images.items k
  all_out k lt = opened_out state config session.bay before session.opened.rack k lt (none_closed 0 before.faults.items open_ k)

  pub all_out_after : (k : ℕ) → k < length (shapes_of config) → IsImageOut after.rest.images.items k
  all_out_after k lt = subst (λ (r : Rest D). IsImageOut r.images.items k) (sym (rest_again state config before after session.again)) (all_out k lt)

  module _ (v : ℕ) (s : Station D) (there : slice_get before.stations.items v ≡ Some s) (pass : ManagerPass D) (now : slice_get after.stations.items v ≡ Some (record s { worker = pass })) where
    pub ends : IsClosedVolume tells config after.rest.images.items session.bay new (record s { worker = pass })
    ends = all_at (IsClosedVolume tells config after.rest.images.items session.bay new) after.stations.items v (record s { worker = pass }) session.closed.stations now

    pub station : IsStation s
    station = all_at IsStation before.stations.items v s session.opened.rack.stations there

    pub unused : IsUnused s.worker × IsUnused s.helper × IsUnused s.keeper
    unused = all_at (λ (u : Station D). IsUnused u.worker × IsUnused u.helper × IsUnused u.keeper) before.stations.items v s session.opened.fresh there

    pub number : s.id ≡ v
    number = let (less, at) = at_place before.stations.items v s there in subst (λ (x : Station D). x.id ≡ v) (at s) (each_station state config session.bay before session.opened.rack open_ v s less).id

    pub owner : (base_of_station s).volume.began.owner ≡ v
    owner = station.id ∙ number

    pub based : (pass_lock s.worker).base ≡ base_of_station s
    based = ap (λ (l : LockId ManagerBase). l.base) station.worker_.own

    helped : own helper ends.entries ≡ []
    helped = subst (λ (n : ℕ). own n ends.entries ≡ []) station.helper_.number_is (ends.helper_part.mine ∙ unused.1.mine)

    kept : own keeper ends.entries ≡ []
    kept = subst (λ (n : ℕ). own n ends.entries ≡ []) station.keeper_.number_is (ends.keeper_part.mine ∙ unused.2.mine)

    -- it began with what the images at entry recover to
    pub begun_of : (t : Told) → BeganWith state config t before → IsBegun config (images_read config t) (base_of_station s).volume.began
    begun_of t with = subst (λ (images : Images). IsBegun config images (base_of_station s).volume.began) (taken_all config before.rest.images.items all_out t)
        (all_at (λ (w : Station D). IsBegun config (images_taken config before.rest.images.items t) (base_of_station w).volume.began) before.stations.items v s with.stations there)

    -- what images recover to, where the history recovers to what it began with
    array_kept : (t y : Told) → BeganWith state config t before → ((images : Images) → AreLeft config y images → recovered_out config after.rest.images.items images s.id ≡ (base_of_station s).volume.began.array)
        → (images : Images) → AreLeft config y images → recovered_from (shapes_of config) images v ≡ recovered_from (shapes_of config) (images_read config t) v
    array_kept t y with recovers images left_ =
        ap (λ (n : ℕ). recovered_from (shapes_of config) images n) (sym number)
        ∙ sym (recovered_all config after.rest.images.items all_out_after images left_.count s.id)
        ∙ recovers images left_
        ∙ (begun_of t with).array
        ∙ ap (λ (n : ℕ). recovered_from (shapes_of config) (images_read config t) n) owner

    -- its records in all images
    listed_all : (records : List Listed) (images : Images) → length images ≡ length config.volumes.items → AreListedOf records (extents_of s.id (segments_out config after.rest.images.items images)) → AreListedOf records (extents_of v (all_segments (shapes_of config) images))
    listed_all records images count listed =
        subst (λ (is : Images). AreListedOf records (extents_of v (all_segments (shapes_of config) is))) (accepted_all config after.rest.images.items all_out_after images count)
        (subst (λ (n : ℕ). AreListedOf records (extents_of n (segments_out config after.rest.images.items images))) number listed)

    -- no two of them have one version
    pub distinct_left : (y : Told) → RecoversTo config after.rest.images.items (record s { worker = pass }) ends.entries y → LeavesDistinct config v y
    distinct_left y recovers images left_ =
        subst (λ (is : Images). AreDistinct (covers_of (extents_of v (all_segments (shapes_of config) is)))) (accepted_all config after.rest.images.items all_out_after images left_.count)
        (subst (λ (n : ℕ). AreDistinct (covers_of (extents_of n (segments_out config after.rest.images.items images)))) number (recovers.distinct images left_))

    -- where no call failed, the logs that are left have the records of the last look
    logs_left : (y : Told) → RecoversTo config after.rest.images.items (record s { worker = pass }) ends.entries y → flight_of (entries_of (notes_of ends.entries)) ≡ None
        → LeavesLogs config v (base_of_station s).volume.began.view (last_look (base_of_station s).volume.began.look (notes_of ends.entries)).listed y
    logs_left y recovers calm = record {
      records = λ images left_. listed_all (last_look (base_of_station s).volume.began.look (notes_of ends.entries)).listed images left_.count (recovers.listed images left_ calm);
      distinct = distinct_left y recovers;
      on_loggers = λ images left_ e among. subst (λ (n : ℕ). IsOnLogger (shapes_of config) images n (base_of_station s).volume.began.view e) number (recovers.on_loggers images left_ calm e among);
    }

    -- a volume that had no turn
    module _ (unworked : pass_mine pass ≡ []) (its : pass_number pass ≡ worker) where
      none : ends.entries ≡ []
      none = no_entries ends.entries (subst (λ (n : ℕ). own n ends.entries ≡ []) its (ends.worker_part.mine ∙ unworked)) helped kept ends.no_more

      pub untouched_kept : (t y : Told) → BeganWith state config t before → RecoversTo config after.rest.images.items (record s { worker = pass }) ends.entries y → (images : Images) → AreLeft config y images
          → recovered_from (shapes_of config) images v ≡ recovered_from (shapes_of config) (images_read config t) v
      untouched_kept t y with recovers = array_kept t y with (λ images left_. none_cut (base_of_station s).volume.began.array _
          (subst (λ (es : List Entry). Rattle.wol_model.specs.History.IsCut (base_of_station s).volume.began.array (Rattle.wol_model.specs.History.writes (entries_of (notes_of es))) (unwrap_or (flight_of (entries_of (notes_of es))) [])
          (recovered_out config after.rest.images.items images s.id)) none (recovers.cut images left_)))

      -- the logs that are left have the records with which it was opened
      pub logs_kept : (y : Told) → RecoversTo config after.rest.images.items (record s { worker = pass }) ends.entries y → LeavesLogs config v (base_of_station s).volume.began.view (base_of_station s).volume.began.look.listed y
      logs_kept y recovers =
          subst (λ (es : List Entry). LeavesLogs config v (base_of_station s).volume.began.view (last_look (base_of_station s).volume.began.look (notes_of es)).listed y) none
          (logs_left y recovers (ap (λ (es : List Entry). flight_of (entries_of (notes_of es))) none))

    -- a volume that was cleaned
    module _ (result : Result Cleaned CleanFault) (c : CleansIn tells state (most_of config) s.worker pass result) where
      pub nothing : c.before ≡ []
      nothing = none_before c.before ends.entries
          (let b = ends.worker_part.seen in (coded c.note ∷ b.0, sym (append_assoc c.before (coded c.note ∷ []) b.0) ∙ ap (λ (es : List Entry). es ++ b.0) (sym c.added.seen) ∙ b.1))
          (subst (λ (n : ℕ). own n c.before ≡ []) station.worker_.number_is (c.added.others ∙ unused.0.mine)) helped kept ends.no_more

      seen : pass_seen pass ≡ coded c.note ∷ []
      seen = c.added.seen ∙ ap (λ (es : List Entry). es ++ coded c.note ∷ []) nothing

      pub its : c.note.entry.pass ≡ worker
      its = c.added.number ∙ station.worker_.number_is

      pub one : ends.entries ≡ coded c.note ∷ []
      one = one_entry ends.entries (coded c.note) its (subst (λ (es : List Entry). Begins es ends.entries) seen ends.worker_part.seen)
          (subst (λ (n : ℕ). own n ends.entries ≡ coded c.note ∷ []) (c.added.same.1 ∙ station.worker_.number_is) (ends.worker_part.mine ∙ c.added.mine ∙ ap (λ (es : List Entry). es ++ coded c.note ∷ []) unused.0.mine)) helped kept ends.no_more

      notes : notes_of ends.entries ≡ c.note ∷ []
      notes = ap notes_of one ∙ notes_at [] c.note.entry.pass c.note refl

      pub stood : Stands tells state c.opened (base_of_station s) []
      stood = subst (λ (b : ManagerBase). Stands tells state c.opened b []) based (subst (λ (es : List Entry). Stands tells state c.opened (pass_lock s.worker).base (notes_of es)) nothing c.stood)

      pub stands : Stands tells state c.after (base_of_station s) (c.note ∷ [])
      stands = subst (λ (b : ManagerBase). Stands tells state c.after b (c.note ∷ [])) based (subst (λ (es : List Entry). Stands tells state c.after (pass_lock s.worker).base (notes_of es ++ c.note ∷ [])) nothing c.stands)

      pub done : (has : HasCleaned tells state (most_of config) c.opened c.after result) × (c.copies ≡ has.copies)
      done = has_done tells state (most_of config) c.opened c.after c.copies result c.did (can_be_cleaned tells state c.opened (base_of_station s) stood ends.opening)

      pub operation : c.note.entry.operation ≡ operation_of done.0.copies result
      operation = c.operation ∙ ap (λ (ws : List Write). operation_of ws result) done.1

      pub cleaned_kept : IsTrue tells → (t y : Told) → BeganWith state config t before → RecoversTo config after.rest.images.items (record s { worker = pass }) ends.entries y → (images : Images) → AreLeft config y images
          → recovered_from (shapes_of config) images v ≡ recovered_from (shapes_of config) (images_read config t) v
      cleaned_kept telling t y with recovers = array_kept t y with (λ images left_. note_cut (base_of_station s).volume.began.array c.note _ done.0.copies result operation
          (subst (λ (a : List Block). AllByRecursion (Rattle.log_cleaner.specs.Chunks.IsCopyOf a) done.0.copies) (after_none (base_of_station s).volume.began.array) (done.0.copied.same telling (base_of_station s) [] stood.keeps))
          done.0.copied.logged
          (subst (λ (ns : List Noted). Rattle.wol_model.specs.History.IsCut (base_of_station s).volume.began.array (Rattle.wol_model.specs.History.writes (entries_of ns)) (unwrap_or (flight_of (entries_of ns)) [])
          (recovered_out config after.rest.images.items images s.id)) notes (recovers.cut images left_)))

      -- where none failed, the logs that are left have the records of the manager
      pub logs_cleaned : ((p : Part) → result ≢ Err (DiskFault p)) → (y : Told) → RecoversTo config after.rest.images.items (record s { worker = pass }) ends.entries y
          → LeavesLogs config v (base_of_station s).volume.began.view (listed_in c.after.index.entries) y
      logs_cleaned sure y recovers =
          let calm = note_done c.note done.0.copies result operation sure in
          subst (λ (l : Look). LeavesLogs config v (base_of_station s).volume.began.view l.listed y) stands.look
          (subst (λ (ns : List Noted). LeavesLogs config v (base_of_station s).volume.began.view (last_look (base_of_station s).volume.began.look ns).listed y) notes
          (logs_left y recovers (ap (λ (ns : List Noted). flight_of (entries_of ns)) notes ∙ calm)))

      -- where a call of a disk failed
      broke : (copies : List Write) → c.note.entry.operation ≡ Broke copies → flight_of (entries_of (notes_of ends.entries)) ≡ None → ⊥
      broke copies is calm = (let no : Some copies ≡ None = sym (ap (λ (o : _). flight_of (record { pass = c.note.entry.pass; operation = o } ∷ [])) is) ∙ sym (ap (λ (ns : List Noted). flight_of (entries_of ns)) notes) ∙ calm in cc)

      pub rose : (copies : List Write) → c.note.entry.operation ≡ Broke copies → Rose old.faults new.faults
      rose copies is = rose_before old.faults session.bay.faults new.faults session.sooner (ends.cause (broke copies is))

      -- the part of it that is told came back with a fault
      pub faulty : (p : Part) → result ≡ Err (DiskFault p) → IsTold (HasFaultyPart tells config v (base_of_station s).volume.began.view (name_of p)) session.bay.told new.told
      faulty p is =
          let (name, last, told) = ends.faulty (broke done.0.copies (operation ∙ ap (operation_of done.0.copies) is)) in
          let cleaned_ = subst (TellsCleaned tells state (most_of config) c.opened c.after done.0.copies) is done.0.tells_ in
          let down : (last_look (base_of_station s).volume.began.look (notes_of ends.entries)).down ≡ Some (name_of p)
          = ap (λ (ns : List Noted). (last_look (base_of_station s).volume.began.look ns).down) notes ∙ ap (λ (l : Look). l.down) stands.look ∙ ap down_of cleaned_.0 in
          let same : name ≡ name_of p = same_Some name (name_of p) (sym last ∙ down) in
          subst (λ (n : PartName). IsTold (HasFaultyPart tells config v (base_of_station s).volume.began.view n) session.bay.told new.told) same
          (subst (λ (n : ℕ). IsTold (HasFaultyPart tells config n (base_of_station s).volume.began.view name) session.bay.told new.told) number told)
