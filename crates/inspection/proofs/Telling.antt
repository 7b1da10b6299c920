-- What was told of a rack's volumes is told of its bay's.
use Rattle.std.proofs.Common.{◌≡◌, ◌≢◌, ◌⊎◌, inl, inr, ◌<◌, ◌≤◌, ℕ, Bool, List, [], ◌∷◌, ◌++◌, length, Option, None, Some, Result, Ok, Err, refl, sym, ap, subst, ◌∙◌, arith}
use Rattle.std.specs.Prelude.{Contains, slice_get, slice_index_or, IfSome, IsTrue}
use Rattle.std.specs.List.{AllByRecursion}
use Rattle.std.proofs.lemmas.List.{length-map}
use Rattle.std.proofs.lemmas.Option.{get_or_from_slice_get, slice_get_within}
use Rattle.turn_lock.specs.Histories.{Entry, own}
use Rattle.turn_lock.specs.LockIds.{LockId}
use Rattle.turn_lock.specs.Passes.{pass_lock, pass_mine, pass_seen}
use Rattle.wol_disk.specs.Disk.{Block, State, Rose}
use Rattle.wol_bay.specs.Bay.{BayState, Told}
use Rattle.wol_config.specs.declared.config.Config.{Config}
use Rattle.wol_config.specs.declared.config.VolumeConf.{VolumeConf}
use Rattle.wol_config.specs.Documents.{names_of}
use Rattle.wol_model.specs.Images.{accepted, recovered_from}
use Rattle.wol_model.proofs.Overlay.{after_none}
use Rattle.wol_model.specs.History.{Operation, flight_from, flight_of, helper, keeper}
use Rattle.wol_model.specs.Index.{Indexed, Listed}
use Rattle.wol_promise.proofs.Lists.{all_member}
use Rattle.wol_promise.specs.Policy.{Look}
use Rattle.wol_promise.specs.Manager.{Base}
use Rattle.wol_promise.specs.Ruled.{Noted, entries_of, last_look}
use Rattle.wol_promise.specs.Stands.{IsOpening}
use Rattle.manager.specs.Seen.{name_of}
use Rattle.manager.specs.Stands.{AreStill, Stands, notes_of}
use Rattle.manager.specs.declared.part.Part.{Part}
use Rattle.manager.specs.declared.base.ManagerBase.{ManagerBase}
use Rattle.manager.specs.declared.manager.Manager.{Manager}
use Rattle.manager.specs.declared.station.Station.{Station}
use Rattle.manager_recovery.specs.Opened.{StandsInOwned}
use Rattle.manager_recovery.specs.Owned.{Owned}
use Rattle.inspection.specs.Texts.{check_text}
use Rattle.inspection.specs.Volumes.{held_segments}
use Rattle.inspection.specs.declared.fault.DumpFault.{DumpFault}
use Rattle.inspection.specs.declared.fault.DumpFault.TheVariants as dump
use Rattle.report.specs.Names.{name_at}
use Rattle.report.specs.Troubles.{trouble_status}
use Rattle.report.specs.declared.trouble.Trouble.{Trouble}
use Rattle.rack.specs.Troubles.{trouble_of, trouble_of_part}
use Rattle.rack.proofs.Named.{named_alike}
use Rattle.request_turns.specs.Turns.{IsBroken, WasDown, coded}
use Rattle.request_turns.proofs.Gaining.{down_breaks}
use Rattle.request_turns.proofs.Noting.{notes_at}
use Rattle.volume_images.specs.Volumes.{images_read, shape_in, shapes_of}
use Rattle.rack.specs.Closes.{is_kept_home}
use Rattle.rack.specs.Opens.{BeganWith}
use Rattle.rack.specs.Owners.{BeganInPlace, IsBegun, StandAsRead, images_taken}
use Rattle.rack.specs.Racks.{IsStation, IsUnused, NamesVolumes, base_of_station}
use Rattle.rack.specs.BayRuns.{BayRun, History, IsUnbroken}
use Rattle.rack.specs.RackRuns.{IsHistoryOf}
use Rattle.rack.proofs.Cases.{none_or}
use Rattle.rack_parts.proofs.Members.{in_map}
use Rattle.rack_parts.specs.declared.rack.Rack.{Rack}
use Rattle.rack_parts.specs.declared.rack.Rest.{Rest}
use Rattle.rack_parts.specs.declared.volume_fault.VolumeFault.{VolumeFault}
use Rattle.rack.specs.Sessions.{OpensAndCloses}
use Rattle.rack.proofs.RacksAgain.{numbers_again, rest_again}
use Rattle.spin_model.specs.Spindles.{SpindleView}
use Rattle.inspection.specs.Looks.{AppendsAsked, BreaksIn}
use Rattle.inspection.specs.Lines.{Telling, TellsFailed, IsTelling, LooksAtVolume, trouble_line}
use Rattle.inspection.specs.Racks.{numbers_of}
use Rattle.inspection.specs.Runs.{AreLinesOf, IsInOrder, IsToldOf}
use Rattle.inspection.specs.declared.asked.Asked.{Asked}
use Rattle.inspection.specs.declared.asked.Asked.TheVariants.{Check, Dump}
use Rattle.inspection.proofs.Opened.{rose_of}
use Rattle.inspection.proofs.Unhelped.{all_at, broken_still, none_before, one_down, only_one, there_is}

-- entries that stand still stand where those did
still_placed : (v : ℕ) (view : List ℕ) (owned : List Owned) (places : List Indexed) (next now : ℕ) → next ≡ now → (es : List Indexed) → AllByRecursion (λ (e : Indexed). e.listed.version < now) es → AreStill places next es
    → AllByRecursion (StandsInOwned v view owned) places → AllByRecursion (StandsInOwned v view owned) es
still_placed v view owned places next now same [] below still each = tt
still_placed v view owned places next now same (e ∷ es) below still each = (here, still_placed v view owned places next now same es below.1 still.1 each)
  where
    here : StandsInOwned v view owned e
    here =
        let lt : e.listed.version < now = below.0 in
        let stood = still.0 (omega (arith, lt, same)) in
        let was : StandsInOwned v view owned stood.0 = all_member (StandsInOwned v view owned) places stood.0 each stood.1 in
        let at = stood.2 in
        record {
          segment = was.segment;
          owned = was.owned;
          lane = ap (slice_get view) at.lane ∙ was.lane;
          index = at.index ∙ was.index;
          k = was.k;
          record_ = was.record_;
          there = was.there;
          version = at.version ∙ was.version;
          first = at.first ∙ was.first;
          pos = at.pos ∙ was.pos;
        }

module _ {D : Type 0} (tells : Bool) (state : D → State) (config : Config) (asked : Asked) (did : Rack D → Rack D → Type 0) (old new : BayState) (spindles : List SpindleView) (session : OpensAndCloses tells state config did old new spindles) where
  -- the rack as it was opened, and as it was closed
  abbrev pub before : Rack D
  before = session.before

  abbrev pub after : Rack D
  after = session.after

  abbrev pub run : BayRun tells config old new
  run = session.runs.run

  -- the images that were refused are those that aren't out
  pub refused_is : run.refused ≡ is_kept_home before.rest.images.items
  refused_is = session.runs.refused ∙ ap (λ (r : Rest D). is_kept_home r.images.items) (rest_again state config before after session.again)

  -- a fault of a disk that is told is counted
  counted : (k : ℕ) (v : VolumeConf) (f : VolumeFault) → slice_get config.volumes.items k ≡ Some v → slice_get before.faults.items k ≡ Some (Some f) → trouble_status (trouble_of f) ≡ 4 → Rose old.faults new.faults
  counted k v f conf at =
      rose_of tells state config before.rest.images.items old new k v f (length (shapes_of config)) (session.opened.rack.known k f at) (session.refused k v f conf at)
      (λ p disk. session.failed k p (at ∙ ap (λ (g : VolumeFault). Some (Some g)) disk))

  -- a volume with a fault has no history
  no_history : (k : ℕ) (f : VolumeFault) → k < length config.volumes.items → slice_get before.faults.items k ≡ Some (Some f) → run.histories k ≡ None
  no_history k f within at = none_or (run.histories k) (λ h is.
      let (s, has, id, its) = session.runs.only k h is in
      let same : numbers_of after.stations.items ≡ numbers_of before.stations.items = numbers_again before.stations.items after.stations.items session.again.stations in
      let there : Contains (numbers_of before.stations.items) k = subst (λ (ns : List ℕ). Contains ns k) same (subst (Contains (numbers_of after.stations.items)) id (in_map (λ (t : Station D). t.id) after.stations.items s has)) in
      let opened : slice_index_or before.faults.items k None ≡ None = (session.opened.rack.faults k (omega (arith, within, length-map config.volumes.items (shape_in config)))).1 there in
      let no : Some f ≡ None = sym (get_or_from_slice_get before.faults.items k (Some f) None at) ∙ opened in
      cc no)

  module _ (k : ℕ) (answer : Result (Unit {0}) DumpFault) (text : List ℕ) (look : LooksAtVolume tells state config asked before after k answer text) where
    abbrev s : Station D
    s = look.station

    abbrev t : Station D
    t = record s { worker = look.pass }

    -- its history
    ran : (h : History) × (run.histories s.id ≡ Some h) × IsHistoryOf t h
    ran = session.runs.of t (look.place, slice_get_within after.stations.items look.place t look.now, get_or_from_slice_get after.stations.items look.place t t look.now)

    abbrev history : History
    history = ran.0

    abbrev its : IsHistoryOf t history
    its = ran.2

    has_history : run.histories k ≡ Some history
    has_history = subst (λ (v : ℕ). run.histories v ≡ Some history) look.is_station.id ran.1

    station : IsStation s
    station = all_at IsStation before.stations.items look.place s session.opened.rack.stations look.is_station.there

    abbrev AllUnused : Station D → Type 0
    AllUnused u = IsUnused u.worker × IsUnused u.helper × IsUnused u.keeper

    unused : AllUnused s
    unused = all_at AllUnused before.stations.items look.place s session.opened.fresh look.is_station.there

    helped : own helper its.entries ≡ []
    helped = subst (λ (n : ℕ). own n its.entries ≡ []) station.helper_.number_is (its.helper_part.mine ∙ unused.1.mine)

    kept : own keeper its.entries ≡ []
    kept = subst (λ (n : ℕ). own n its.entries ≡ []) station.keeper_.number_is (its.keeper_part.mine ∙ unused.2.mine)

    -- nobody had looked at it, or done anything else, before
    nothing : look.looks.before ≡ []
    nothing =
        none_before look.looks.before its.entries
        (let b = its.worker_part.seen in let e = look.looks.added.seen in (coded look.looks.note ∷ b.0, sym (Rattle.std.proofs.Common.append_assoc look.looks.before (coded look.looks.note ∷ []) b.0) ∙ ap (λ (es : List Entry). es ++ b.0) (sym e) ∙ b.1))
        (subst (λ (n : ℕ). own n look.looks.before ≡ []) station.worker_.number_is (look.looks.added.others ∙ unused.0.mine))
        helped kept its.no_more

    owner : (base_of_station s).volume.began.owner ≡ k
    owner = station.id ∙ look.is_station.id

    based : (pass_lock s.worker).base ≡ base_of_station s
    based = ap (λ (l : LockId ManagerBase). l.base) station.worker_.own

    -- its turn is all that was done
    one_note : history.notes ≡ look.looks.note ∷ []
    one_note =
        let more = its.worker_part.seen in
        let added = look.looks.added in
        let seen_is : pass_seen look.pass ≡ coded look.looks.note ∷ [] = added.seen ∙ ap (λ (es : List Entry). es ++ coded look.looks.note ∷ []) nothing in
        let only : its.entries ≡ coded look.looks.note ∷ [] =
        only_one (coded look.looks.note) more.0 its.entries (ap (λ (es : List Entry). es ++ more.0) (sym seen_is) ∙ more.1) (added.number ∙ station.worker_.number_is)
        (subst (λ (n : ℕ). own n its.entries ≡ pass_mine look.pass) (added.same.1 ∙ station.worker_.number_is) its.worker_part.mine ∙ added.mine ∙ ap (λ (es : List Entry). es ++ coded look.looks.note ∷ []) unused.0.mine)
        helped kept its.no_more in
        its.notes ∙ ap notes_of only ∙ notes_at [] look.looks.note.entry.pass look.looks.note refl

    -- what its turn broke is broken in the end
    broke : IsBroken (notes_of (pass_seen look.pass)) → IsUnbroken history → ⊥
    broke broken up = broken_still (pass_seen look.pass) its.entries its.worker_part.seen broken (sym (ap (λ (ns : List Noted). flight_of (entries_of ns)) its.notes) ∙ up)

    -- the part that was down is the one that is down in the end
    came : (p : Part) → WasDown p (notes_of (pass_seen look.pass)) → (last_look history.base.look history.notes).down ≡ Some (name_of p)
    came p was =
        let added = look.looks.added in
        let seen : notes_of (pass_seen look.pass) ≡ look.looks.note ∷ [] = ap notes_of (added.seen ∙ ap (λ (es : List Entry). es ++ coded look.looks.note ∷ []) nothing) ∙ notes_at [] look.looks.note.entry.pass look.looks.note refl in
        ap (λ (ns : List Noted). (last_look history.base.look ns).down) one_note ∙ one_down p look.looks.note (subst (WasDown p) seen was)

  -- a manager that stands for no entries lists the records that keep blocks
  listed_is : (t : Told) (m : Manager D) (b : ManagerBase) → IsBegun config (images_taken config before.rest.images.items t) b.volume.began → Stands tells state m b [] → length m.index.entries ≡ length b.volume.began.records
  listed_is t m b begun stands = sym (length-map m.index.entries (λ e. e.listed)) ∙ ap (λ (l : Look). length l.listed) (sym stands.look) ∙ begun.listed

  -- each of its records stands where it stood, and there the images have it
  places_of : (t : Told) (k : ℕ) (m : Manager D) (b : ManagerBase) → b.volume.began.owner ≡ k → b.volume.began.look.next ≡ b.volume.began.next → BeganInPlace config (images_taken config before.rest.images.items t) b → Stands tells state m b []
      → StandAsRead config (images_taken config before.rest.images.items t) k b.volume.began.view m.index.entries
  places_of t k m b is next placed stands = subst (λ (v : ℕ). StandAsRead config (images_taken config before.rest.images.items t) v b.volume.began.view m.index.entries) is (record {
    owned = placed.owned;
    are_owned = placed.are_owned;
    each = still_placed b.volume.began.owner b.volume.began.view placed.owned b.volume.places b.volume.began.next m.next (sym next ∙ ap (λ (l : Look). l.next) stands.look) m.index.entries stands.keeps.ready.below stands.keeps.still placed.each;
  })

  lines_of : (asked' : Asked) (t : Told) (k : ℕ) (m : Manager D) (b : ManagerBase) (text : List ℕ) → b.volume.began.owner ≡ k → IsBegun config (images_taken config before.rest.images.items t) b.volume.began → Stands tells state m b []
      → AppendsAsked config asked' k m b [] [] text → AreLinesOf config asked' (images_taken config before.rest.images.items t) k b.volume.began m text
  lines_of Check t k m b text is is_begun stands lines =
      lines
      ∙ ap (λ (a : List Block). check_text (name_at (names_of config.volumes.items) k) a (length m.index.entries) (held_segments m))
      (after_none b.volume.began.array ∙ is_begun.array ∙ ap (λ (v : ℕ). recovered_from (shapes_of config) (images_taken config before.rest.images.items t) v) is)
      ∙ ap (λ (n : ℕ). check_text (name_at (names_of config.volumes.items) k) (recovered_from (shapes_of config) (images_taken config before.rest.images.items t) k) n (held_segments m)) (listed_is t m b is_begun stands)
  lines_of Dump t k m b text is is_begun stands lines = lines

  module _ (k : ℕ) (text : List ℕ) (look : LooksAtVolume tells state config asked before after k (Ok tt) text) where
    abbrev done : History
    done = history k (Ok tt) text look

    abbrev opened : ManagerBase
    opened = base_of_station look.station

    begins : opened.volume.began ≡ done.base
    begins = sym (its k (Ok tt) text look).base

    -- the manager that was looked at stood for no entries
    stood : Stands tells state look.looks.manager opened []
    stood = subst (λ (b : ManagerBase). Stands tells state look.looks.manager b []) (based k (Ok tt) text look)
        (subst (λ (es : List Entry). Stands tells state look.looks.manager (pass_lock look.station.worker).base (notes_of es)) (nothing k (Ok tt) text look) look.looks.stands)

    calm : IsUnbroken done
    calm = ap (λ (ns : List Noted). flight_of (entries_of ns)) (one_note k (Ok tt) text look) ∙ ap (λ (o : Operation). flight_from o None) look.looks.operation

    same_listed : (last_look done.base.look done.notes).listed ≡ done.base.look.listed
    same_listed = ap (λ (ns : List Noted). (last_look done.base.look ns).listed) (one_note k (Ok tt) text look) ∙ look.looks.listed ∙ sym (ap (λ (l : Look). l.listed) stood.look) ∙ ap (λ (b : Base). b.look.listed) begins

    -- its lines are those of what it began with
    in_order : (t : Told) → IsTrue tells → BeganWith state config t before → IsInOrder tells state config asked (images_taken config before.rest.images.items t) k done text
    in_order t told is =
        let begun = all_at (λ (s : Station D). IsBegun config (images_taken config before.rest.images.items t) (base_of_station s).volume.began) before.stations.items look.place look.station is.stations look.is_station.there in
        let places = places_of t k look.looks.manager opened (owner k (Ok tt) text look) opening.next
        (all_at (λ (s : Station D). BeganInPlace config (images_taken config before.rest.images.items t) (base_of_station s)) before.stations.items look.place look.station is.placed look.is_station.there) stood in
        let lines = lines_of asked t k look.looks.manager opened text (owner k (Ok tt) text look) begun stood
        (subst (λ (b : ManagerBase). AppendsAsked config asked k look.looks.manager b [] [] text) (based k (Ok tt) text look)
        (subst (λ (es : List Entry). AppendsAsked config asked k look.looks.manager (pass_lock look.station.worker).base (notes_of es) [] text) (nothing k (Ok tt) text look) (look.looks.content told))) in record {
          base = opened;
          began = begins;
          manager = look.looks.manager;
          stands = stood;
          places = subst (λ (b : Base). StandAsRead config (images_taken config before.rest.images.items t) k b.view look.looks.manager.index.entries) begins places;
          lines_ = subst (λ (b : Base). AreLinesOf config asked (images_taken config before.rest.images.items t) k b look.looks.manager text) begins lines;
        }
      where
        opening : IsOpening opened.volume.began
        opening = subst IsOpening (sym begins) (run.runs k done (has_history k (Ok tt) text look)).opening

    tells_lines : IsTrue tells → IfSome old.told (λ t. IsInOrder tells state config asked (accepted run.refused (images_read config t)) k done text)
    tells_lines told = go old.told (session.opened.began told)
      where
        go : (o : Option Told) → IfSome o (λ t. BeganWith state config t before) → IfSome o (λ t. IsInOrder tells state config asked (accepted run.refused (images_read config t)) k done text)
        go None is = tt
        go (Some t) is = subst (λ (f : ℕ → Bool). IsInOrder tells state config asked (accepted f (images_read config t)) k done text) (sym refused_is) (in_order t told is)

  was_down : (answer : Result (Unit {0}) DumpFault) (part : _) → (answer ≡ Err (dump.DiskFault part)) ⊎ (answer ≡ Err (dump.Down part)) → (notes : List Noted) → BreaksIn answer notes → WasDown part notes
  was_down answer part (inl is) notes b = subst (λ (a : Result (Unit {0}) DumpFault). BreaksIn a notes) is b
  was_down answer part (inr is) notes b = subst (λ (a : Result (Unit {0}) DumpFault). BreaksIn a notes) is b

  down_of : (k : ℕ) (t : Telling) (is : TellsFailed tells state config asked before after k t) → WasDown is.part (notes_of (pass_seen is.looked.pass))
  down_of k t is = was_down is.answer is.part is.is_answer (notes_of (pass_seen is.looked.pass)) is.looked.looks.broken

  broken_of : (k : ℕ) (t : Telling) (is : TellsFailed tells state config asked before after k t) → IsUnbroken (history k is.answer [] is.looked) → ⊥
  broken_of k t is = broke k is.answer [] is.looked (down_breaks is.part _ (down_of k t is))

  -- a volume a call of whose disks failed
  pub part_rose : (k : ℕ) (t : Telling) → TellsFailed tells state config asked before after k t → Rose old.faults new.faults
  part_rose k t is = (run.runs k (history k is.answer [] is.looked) (has_history k is.answer [] is.looked)).cause (broken_of k t is)

  -- what was told of a volume
  pub told_of : (k : ℕ) (t : Telling) → k < length config.volumes.items → IsTelling tells state config asked before after k t → IsToldOf tells state config asked before.rest.images.items run.refused run.histories old new k t
  told_of k t within (inl fault) =
      let v = there_is config.volumes.items k within in inl (record {
        closed = no_history k fault.fault within fault.is_fault;
        conf = v.0;
        is_conf = v.1;
        fault = fault.fault;
        names = subst (λ (n : ℕ). NamesVolumes n fault.fault) (length-map config.volumes.items (shape_in config)) (session.opened.rack.known k fault.fault fault.is_fault);
        rose = counted k v.0 fault.fault v.1 fault.is_fault;
        part = λ p disk. session.part k p (fault.is_fault ∙ ap (λ (g : VolumeFault). Some (Some g)) disk);
        refuses = session.refused k v.0 fault.fault v.1 fault.is_fault;
        trouble = fault.trouble;
        text = fault.text;
      })
  told_of k t within (inr (inl order)) = inr (inl (record {
    history = done k t.text order.looked;
    opened = has_history k (Ok tt) t.text order.looked;
    unbroken = calm k t.text order.looked;
    listed = same_listed k t.text order.looked;
    lines_ = tells_lines k t.text order.looked;
    trouble = order.trouble;
  }))
  told_of k t within (inr (inr is)) = inr (inr (record {
    history = history k is.answer [] is.looked;
    opened = has_history k is.answer [] is.looked;
    broken = broken_of k t is;
    name = name_of is.part;
    down = came k is.answer [] is.looked is.part (down_of k t is);
    trouble = is.trouble ∙ ap (λ (x : Trouble). Some x) (named_alike k is.part);
    text = is.text ∙ ap (trouble_line config k) (named_alike k is.part);
  }))
