-- What the change of a view behind the closing of all volumes comes to, told of the bay at entry.
use Rattle.std.proofs.Common.{◌≡◌, inl, inr, ◌<◌, ◌≤◌, ℕ, ◌+◌, Bool, false, List, [], ◌∷◌, length, take, Option, None, Some, option_map, Result, Ok, Err, refl, sym, ap, ◌∙◌, subst, arith}
use Rattle.std.specs.Prelude.{slice_get, IfOk, IfSome, IsTrue}
use Rattle.std.proofs.lemmas.List.{length-map}
use Rattle.std.proofs.lemmas.Option.{same_Some, slice_get-map, slice_get_within}
use Rattle.wol_disk.specs.Disk.{Block, Rose, State, Values, reads}
use Rattle.wol_bay.specs.Bay.{BayState, Image, Told, at_name}
use Rattle.wol_config.specs.Configs.{IsValid}
use Rattle.wol_config.specs.declared.config.Config.{Config}
use Rattle.wol_config.specs.declared.config.VolumeConf.{VolumeConf}
use Rattle.wol_model.specs.Images.{Images, image_of, accepted_from, all_segments, home_in, recovered_from, AreSound}
use Rattle.wol_model.specs.Recovered.{recovered}
use Rattle.logger_view.specs.Stored.{IsFirstFault}
use Rattle.logger_view.proofs.Callers.{no_fault}
use Rattle.report.specs.declared.fault.Fault.{Fault}
use Rattle.report.specs.declared.fault.Fault.TheVariants as report
use Rattle.report.specs.declared.trouble.Trouble.{Trouble}
use Rattle.report.specs.declared.trouble.Trouble.TheVariants as trouble
use Rattle.spin_model.specs.Spindles.{SpindleView}
use Rattle.volume_images.specs.Left.{IsTold}
use Rattle.volume_images.specs.Volumes.{images_read, shape_in, shapes_of}
use Rattle.rack.specs.Opens.{KeepsAllSound, LeavesAll, WasAccepted}
use Rattle.rack.specs.Owners.{recovered_but}
use Rattle.rack_parts.specs.declared.rack.Rack.{Rack}
use Rattle.rack.proofs.SoundBefore.{some_image}
use Rattle.rack.specs.Sessions.{KeepsArrays, OpensAndCloses}
use Rattle.rack.proofs.FirstClosed.{first_is, first_unopened}
use Rattle.rack.proofs.Since.{rose_before}
use Rattle.rack.proofs.ViewsKept.{views_kept as views_as_before}
use Rattle.inspection.specs.Racks.{IsSameRack}
use Rattle.inspection.specs.Runs.{MayComplete}
use Rattle.inspection.proofs.Quiet.{all_quiet}
use Rattle.inspection.proofs.SameRacks.{rack_self}
use Rattle.view_change.specs.Changes.{id_of}
use Rattle.view_change.specs.declared.answers.Change.{Change}
use Rattle.view_change.specs.declared.answers.Change.TheVariants.{Add, Remove}
use Rattle.view_commands.specs.Drains.{AllOpen, TellsChange, TellsDrain, TellsRack}
use Rattle.view_commands.specs.Drains as drains
use Rattle.view_commands.specs.Images.{ChangesImage, ChangesInBay, FailsOnImage, IsDamagedAt, IsNotWhole, IsWhole, front_of}
use Rattle.view_commands.specs.Orders.{IsOfWords}
use Rattle.view_commands.specs.Runs.{ChangesOpen, ChangesVolume, Completes, FailsFor, FailsWith}
use Rattle.view_commands.specs.Runs as runs
use Rattle.view_commands.specs.Views.{ChangesViewOf, HasViewIn, IsDamagedIn, LeavesThere}
use Rattle.view_commands.specs.declared.order.Stop.{Stop}
use Rattle.view_commands.specs.declared.order.Stop.TheVariants as stop
use Rattle.view_commands.specs.declared.order.ViewRefusal.{ViewRefusal}
use Rattle.view_commands.proofs.Changed.{HasNoLog, IsAddition, arrays_left, sound_gone, sound_left, there_kept, there_left, views_kept, views_left}
use Rattle.view_commands.proofs.Kept.{HasFront, KeepsFronts, entry_reads, front_fault, read_at, read_some, reads_left, view_at_entry}
use Rattle.view_commands.proofs.Names.{not_named}
use Rattle.view_commands.proofs.Sessions.{arrays, drain_fails, drain_rose, fronts, told_by}

-- ---- Arrays that are kept are those of images at entry

accepted_none : (from : ℕ) (images : Images) → accepted_from from (λ k. false) images ≡ images
accepted_none from [] = refl
accepted_none from (c ∷ images) = ap (λ (l : Images). c ∷ l) (accepted_none (from + 1) images)

none_refused : (config : Config) (images : Images) (v : ℕ) → recovered_but (shapes_of config) (λ k. false) images v ≡ recovered_from (shapes_of config) images v
unfolding recovered_from
none_refused config images v = ap (λ (l : Images). recovered v (home_in (slice_get (shapes_of config) v) (image_of images v)) (all_segments (shapes_of config) l)) (accepted_none 0 images)

-- each image was there, and might be opened as it read
abbrev pub WereAccepted : Config → Told → Type 0
WereAccepted config entry = (k : ℕ) (v : VolumeConf) → slice_get config.volumes.items k ≡ Some v → WasAccepted config entry k v

pub leaves_all : {D : Type 0} (tells : Bool) (state : D → State) (config : Config) (b b' : BayState) (entry left : Told) → KeepsArrays config entry left → LeavesThere config left → WereAccepted config entry
    → LeavesAll tells state config b b' entry left
leaves_all tells state config b b' entry left arrays_are all_there accepted = record {
  there = λ images is v was. (let before = was (images_read config entry) (reads_left config entry) in all_there images is v (slice_get_within (shapes_of config) v before.0 before.2));
  refused = λ k. false;
  cause = λ k v at no. absurd (cc no);
  kept = λ k v at or. absurd (elim or [ inl bad ↦ cc bad | inr never ↦ never (accepted k v at) ]);
  logs = λ k v at or. absurd (elim or [ inl bad ↦ cc bad | inr never ↦ never (accepted k v at) ]);
  opened = λ v. false;
  are_opened = λ v no. absurd (cc no);
  left = λ images is v there.
      let same = arrays_are images is v (slice_get_within (shapes_of config) v there.0 there.2) in (
        images_read config entry,
        reads_left config entry,
        record { but = none_refused config images v ∙ same ∙ sym (none_refused config (images_read config entry) v); all = λ or. same },
      );
}

-- ---- What is told from entry to exit

-- what is told of two steps
pub told_then : (P Q R : Told → Told → Type 0) → ((x y z : Told) → P x y → Q y z → R x z) → (o m n : Option Told) → IsTold P o m → IsTold Q m n → IsTold R o n
told_then P Q R f None None n p q = q
told_then P Q R f None (Some m) n p q = absurd (cc p)
told_then P Q R f (Some o) None n p q = absurd p
told_then P Q R f (Some o) (Some m) None p q = absurd q
told_then P Q R f (Some o) (Some m) (Some n) p q = f o m n p q

told_both : (P Q : Told → Told → Type 0) → (o n : Option Told) → IsTold P o n → IsTold Q o n → IsTold (λ x y. P x y × Q x y) o n
told_both P Q None n p q = p
told_both P Q (Some o) None p q = p
told_both P Q (Some o) (Some n) p q = (p, q)

-- the view that is told
pub view_of : Result (List ℕ) Stop → List ℕ
view_of (Ok view) = view
view_of (Err e) = []

view_is : (result : Result (List ℕ) Stop) → IfOk result (λ is. is ≡ view_of result)
unfolding view_of
view_is (Ok view) = refl
view_is (Err e) = tt

-- labels and views are those at entry, and arrays too
abbrev Keeps : Config → (entry mid : Told) → Type 0
Keeps config entry mid = KeepsFronts config entry mid × KeepsArrays config entry mid

module _ (config : Config) (valid : IsValid config) (volume : ℕ) (v : VolumeConf) (conf : slice_get config.volumes.items volume ≡ Some v) (asked : Change) (fits : id_of asked < length config.volumes.items) where
  front_at : (entry mid : Told) → KeepsFronts config entry mid → HasFront config entry (images_read config mid) volume v
  front_at entry mid is = is (images_read config mid) (reads_left config mid) volume v conf

  at_entry : (entry mid : Told) (is : KeepsFronts config entry mid) → HasViewIn (images_read config entry) volume (front_at entry mid is).ids
  at_entry entry mid is = view_at_entry config entry (images_read config mid) volume v conf (front_at entry mid is)

  -- the image is whole
  whole : (entry mid : Told) → KeepsFronts config entry mid → IsWhole config v mid
  whole entry mid is =
      let f = front_at entry mid is in
      let found = read_some (at_name v.name mid.images) f.blocks (sym (read_at config mid volume v conf) ∙ f.here) in
      record { image = found.0; there = found.1; rest = found.2; size = sym (length-map found.0.blocks (λ (x : Values Block). x.now)) ∙ ap length found.3 ∙ f.sized }

  -- a first fault of its label and view was there at entry
  damaged_then : (entry mid : Told) → KeepsFronts config entry mid → (block : ℕ) → ((i : Image) → at_name v.name mid.images ≡ Some i → IsFirstFault volume (front_of i) block) → IsDamagedIn (images_read config entry) volume block
  damaged_then entry mid is block damaged =
      let f = front_at entry mid is in
      let found = read_some (at_name v.name mid.images) f.blocks (sym (read_at config mid volume v conf) ∙ f.here) in
      let fault = subst (λ (c : List Block). IsFirstFault volume (take 2 c) block) found.3 (damaged found.0 found.1) in
      (reads f.was.0.blocks, entry_reads config entry (images_read config mid) volume v conf f, front_fault f.blocks (reads f.was.0.blocks) f.front volume block fault)

  -- sound images have none
  sound_whole : (entry : Told) → AreSound (shapes_of config) (images_read config entry) → (block : ℕ) → IsDamagedIn (images_read config entry) volume block → ⊥
  sound_whole entry sound block (image, is, fault) =
      let shape = slice_get-map (shape_in config) config.volumes.items volume ∙ ap (option_map (shape_in config)) conf in
      let was = sound.each volume (shape_in config v) shape in
      let same : was.0 ≡ image = same_Some was.0 image (sym (some_image (images_read config entry) volume was.0 was.2) ∙ is) in
      let label = was.4.label in
      let view = was.4.view in
      let fault' = subst (λ (c : List Block). IsFirstFault volume c block) (sym same) fault in
      no_fault volume was.0 volume (shape_in config v) was.1 block (record { block = label.0; first = label.1; spelled = label.2 }) (record { block = view.0; second = view.1; spelled = view.2 })
      (λ has. not_named (length (shapes_of config)) volume was.1 view.3 has.0 has.1 has.2) fault'

  module _ {D : Type 0} (tells : Bool) (state : D → State) (did : Rack D → Rack D → Type 0) (old mid : BayState) (spindles : List SpindleView) (session : OpensAndCloses tells state config did old mid spindles)
      (all_open : AllOpen session.before.faults.items) (same : IsSameRack session.before session.after) where
    kept : IsTrue tells → IsTold (Keeps config) old.told mid.told
    kept telling = told_both (KeepsFronts config) (KeepsArrays config) old.told mid.told
        (fronts tells state config did old mid spindles session all_open same telling) (arrays tells state config did old mid spindles session all_open same telling)

    -- ---- Nothing was changed since

    pub ended : (f : Fault) → FailsFor tells config volume old mid f → ChangesVolume tells state config volume asked old mid (Err (stop.Fault f))
    ended f fails = runs.all_open (Err (stop.Fault f)) [] tt (record {
      arrays = arrays tells state config did old mid spindles session all_open same;
      views = λ telling. told_by (Keeps config) (ChangesViewOf config volume asked (Err (stop.Fault f)) []) (λ entry left is. views_kept config valid volume v conf asked fits entry left left is.0 (front_at entry left is.0).ids (at_entry entry left is.0) f []) old.told mid.told (kept telling);
      there = λ telling. told_by (Keeps config) (λ entry left. LeavesThere config left) (λ entry left is. there_kept config valid volume v conf asked fits entry left left is.0 (front_at entry left is.0).ids (at_entry entry left is.0)) old.told mid.told (kept telling);
      fails = λ g is. (let same_f : f ≡ g = cc is in subst (FailsFor tells config volume old mid) same_f fails);
      known = λ r is. absurd (cc is);
    })

    -- ---- The view was changed behind that

    module _ (new : BayState) (result : Result (List ℕ) Stop) (changes : ChangesInBay tells config volume v asked mid new result)
        (later : old.faults ≤ mid.faults) where
      through : (R : Told → Told → Type 0) → ((o m n : Told) → Keeps config o m → ChangesImage v.name volume asked result m n → R o n) → IsTrue tells → IsTold R old.told new.told
      through R f telling = told_then (Keeps config) (ChangesImage v.name volume asked result) R (λ o m n is change. f o m n is change) old.told mid.told new.told (kept telling) (changes.left telling)

      pub arrays_through : IsTrue tells → IsTold (KeepsArrays config) old.told new.told
      arrays_through = through (KeepsArrays config) (λ o m n is change. arrays_left config valid volume v conf asked fits o m n is.0 (front_at o m is.0).ids (at_entry o m is.0) result change is.1)

      pub there_through : IsTrue tells → IsTold (λ entry left. LeavesThere config left) old.told new.told
      there_through = through (λ entry left. LeavesThere config left) (λ o m n is change. there_left config valid volume v conf asked fits o m n is.0 (front_at o m is.0).ids (at_entry o m is.0) result change)

      pub all_through : IsTrue tells → IsTold (λ x y. KeepsArrays config x y × LeavesThere config y × WereAccepted config x) old.told new.told
      all_through = through (λ x y. KeepsArrays config x y × LeavesThere config y × WereAccepted config x) (λ o m n is change. (
        arrays_left config valid volume v conf asked fits o m n is.0 (front_at o m is.0).ids (at_entry o m is.0) result change is.1,
        there_left config valid volume v conf asked fits o m n is.0 (front_at o m is.0).ids (at_entry o m is.0) result change,
        λ k w at. (is.0 (images_read config m) (reads_left config m) k w at).was,
      ))

      -- what was told of the image is told of its volume
      untold : (f : Fault) → result ≡ Err (stop.Fault f) → IsNotWhole tells config v mid → IsTrue tells → IsTold (λ entry left. ⊥) old.told new.told
      untold f is not telling = go old.told mid.told new.told (kept telling) (changes.left telling) (not telling)
        where
          go : (o m n : Option Told) → IsTold (Keeps config) o m → IsTold (ChangesImage v.name volume asked result) m n → IfSome m (λ t. IsWhole config v t → ⊥) → IsTold (λ entry left. ⊥) o n
          go None None n p q not_whole = q
          go None (Some m) n p q not_whole = absurd (cc p)
          go (Some o) None n p q not_whole = absurd p
          go (Some o) (Some m) None p q not_whole = absurd q
          go (Some o) (Some m) (Some n) p q not_whole = not_whole (whole o m p.0)

      damaged : (block : ℕ) → IsDamagedAt tells volume v mid block → IsTrue tells → IsTold (λ entry left. IsDamagedIn (images_read config entry) volume block) old.told new.told
      damaged block is telling = go old.told mid.told new.told (kept telling) (changes.left telling) (is telling)
        where
          go : (o m n : Option Told) → IsTold (Keeps config) o m → IsTold (ChangesImage v.name volume asked result) m n
              → IfSome m (λ t. (i : Image) → at_name v.name t.images ≡ Some i → IsFirstFault volume (front_of i) block) → IsTold (λ entry left. IsDamagedIn (images_read config entry) volume block) o n
          go None None n p q is = q
          go None (Some m) n p q is = absurd (cc p)
          go (Some o) None n p q is = absurd p
          go (Some o) (Some m) None p q is = absurd q
          go (Some o) (Some m) (Some n) p q is = damaged_then o m p.0 block is

      fails_for : (f : Fault) → result ≡ Err (stop.Fault f) → FailsOnImage tells config volume v mid new f → FailsFor tells config volume old new f
      fails_for report.Memory is why = tt
      fails_for (report.Volume number trouble.Bay) is (at, rose) = (at, runs.bay (rose_before old.faults mid.faults new.faults later rose))
      fails_for (report.Volume number trouble.Label) is (at, rose) = (at, runs.label (rose_before old.faults mid.faults new.faults later rose))
      fails_for (report.Volume number trouble.Absent) is (at, not) = (at, runs.untold trouble.Absent (λ e. omega (arith, e)) (untold (report.Volume number trouble.Absent) is not))
      fails_for (report.Volume number (trouble.Length bytes)) is (at, not) = (at, runs.untold (trouble.Length bytes) (λ e. omega (arith, e)) (untold (report.Volume number (trouble.Length bytes)) is not))
      fails_for (report.Volume number (trouble.Damaged other block)) is (at, (same', why)) = (at, subst (λ (n : ℕ). FailsWith tells config volume old new (trouble.Damaged n block)) (sym same') (runs.damaged block (damaged block why)))
      fails_for (report.Volume number trouble.LabelDiffers) is (at, why) = absurd why
      fails_for (report.Volume number (trouble.Twins a b c d)) is (at, why) = absurd why
      fails_for (report.Volume number (trouble.OutsideView a b)) is (at, why) = absurd why
      fails_for (report.Volume number (trouble.LoggerMissing a)) is (at, why) = absurd why
      fails_for (report.Volume number trouble.Home) is (at, why) = absurd why
      fails_for (report.Volume number (trouble.Segment a b)) is (at, why) = absurd why
      fails_for report.Words is why = absurd why
      fails_for (report.Config why') is why = absurd why
      fails_for (report.Line line why') is why = absurd why
      fails_for report.ConfigSource is why = absurd why
      fails_for report.TraceSource is why = absurd why
      fails_for report.Lines is why = absurd why
      fails_for (report.Versions number) is why = absurd why

      pub changed_open : ((r : ViewRefusal) → result ≡ Err (stop.Refused r) → IsOfWords r → ⊥) → ChangesVolume tells state config volume asked old new result
      changed_open known = runs.all_open result (view_of result) (view_is result) (record {
        arrays = arrays_through;
        views = through (ChangesViewOf config volume asked result (view_of result))
            (λ o m n is change. views_left config valid volume v conf asked fits o m n is.0 (front_at o m is.0).ids (at_entry o m is.0) result change (view_of result) (view_is result));
        there = there_through;
        fails = λ f is. fails_for f is (changes.fails f is);
        known = known;
      })

      pub sound_through : IsAddition asked → (IsTrue tells → IsTold (KeepsAllSound config) old.told mid.told) → IsTrue tells → IsTold (KeepsAllSound config) old.told new.told
      sound_through addition sound telling =
          told_then (λ x y. Keeps config x y × KeepsAllSound config x y) (ChangesImage v.name volume asked result) (KeepsAllSound config)
          (λ o m n is change. sound_left config valid volume v conf asked fits o m n is.0.0 (front_at o m is.0.0).ids (at_entry o m is.0.0) result change addition is.1) old.told mid.told new.told
          (told_both (Keeps config) (KeepsAllSound config) old.told mid.told (kept telling) (sound telling)) (changes.left telling)

      -- also where a logger goes, if none has a log of the volume
      pub sound_gone_through : (IsTrue tells → IsTold (λ x y. HasNoLog config volume y) old.told mid.told) → (IsTrue tells → IsTold (KeepsAllSound config) old.told mid.told) → IsTrue tells → IsTold (KeepsAllSound config) old.told new.told
      sound_gone_through none sound telling =
          told_then (λ x y. (Keeps config x y × KeepsAllSound config x y) × HasNoLog config volume y) (ChangesImage v.name volume asked result) (KeepsAllSound config)
          (λ o m n is change. sound_gone config valid volume v conf asked fits o m n is.0.0.0 (front_at o m is.0.0.0).ids (at_entry o m is.0.0.0) result change is.1 is.0.1) old.told mid.told new.told
          (told_both (λ x y. Keeps config x y × KeepsAllSound config x y) (λ x y. HasNoLog config volume y) old.told mid.told (told_both (Keeps config) (KeepsAllSound config) old.told mid.told (kept telling) (sound telling)) (none telling))
          (changes.left telling)

      -- where nothing stood in its way, the view was changed or refused
      pub changed_completes : (result ≡ Err stop.Sink → ⊥) → (mid.faults ≤ new.faults) → MayComplete tells config old new 0 0 → Completes result
      changed_completes no_sink behind m = go result refl
        where
          mid_kept : (o : Option Told) → IsTold (Keeps config) (Some m.entry) o → (t : Told) × (o ≡ Some t) × Keeps config m.entry t
          mid_kept None is = absurd is
          mid_kept (Some t) is = (t, refl, is)

          at_mid : (t : Told) × (mid.told ≡ Some t) × Keeps config m.entry t
          at_mid =
              let P : Option Told → Type 0 = λ o. IsTold (Keeps config) o mid.told in
              mid_kept mid.told (subst P m.entry_is (kept m.telling))

          calm : Rose mid.faults new.faults → ⊥
          calm rose = m.bay_calm (rose_before old.faults mid.faults new.faults later rose)

          not_whole : IsNotWhole tells config v mid → ⊥
          not_whole not =
              let P : Option Told → Type 0 = λ o. IfSome o (λ t. IsWhole config v t → ⊥) in
              subst P at_mid.1 (not m.telling) (whole m.entry at_mid.0 at_mid.2.0)

          undamaged : (block : ℕ) → IsDamagedAt tells volume v mid block → ⊥
          undamaged block is =
              let P : Option Told → Type 0 = λ o. IfSome o (λ t. (i : Image) → at_name v.name t.images ≡ Some i → IsFirstFault volume (front_of i) block) in
              sound_whole m.entry m.sound block (damaged_then m.entry at_mid.0 at_mid.2.0 block (subst P at_mid.1 (is m.telling)))

          never : (number : ℕ) (t : Trouble) → FailsOnImage tells config volume v mid new (report.Volume number t) → ⊥
          never number trouble.Bay (at, rose) = calm rose
          never number trouble.Label (at, rose) = calm rose
          never number trouble.Absent (at, not) = not_whole not
          never number (trouble.Length bytes) (at, not) = not_whole not
          never number (trouble.Damaged other block) (at, (same', why)) = undamaged block why
          never number trouble.LabelDiffers (at, why) = why
          never number (trouble.Twins a b c d) (at, why) = why
          never number (trouble.OutsideView a b) (at, why) = why
          never number (trouble.LoggerMissing a) (at, why) = why
          never number trouble.Home (at, why) = why
          never number (trouble.Segment a b) (at, why) = why

          of_fault : (f : Fault) → FailsOnImage tells config volume v mid new f → Completes {T = List ℕ} (Err (stop.Fault f))
          of_fault report.Memory why = inr (inr refl)
          of_fault (report.Volume number t) why = absurd (never number t why)
          of_fault report.Words why = absurd why
          of_fault (report.Config why') why = absurd why
          of_fault (report.Line line why') why = absurd why
          of_fault report.ConfigSource why = absurd why
          of_fault report.TraceSource why = absurd why
          of_fault report.Lines why = absurd why
          of_fault (report.Versions number) why = absurd why

          go : (r : Result (List ℕ) Stop) → result ≡ r → Completes r
          go (Ok view) is = inl refl
          go (Err (stop.Refused r)) is = inr (inl (r, refl))
          go (Err (stop.Fault f)) is = of_fault f (changes.fails f is)
          go (Err stop.Sink) is = absurd (no_sink is)

  -- ---- The work ended it

  module _ {D : Type 0} (tells : Bool) (state : D → State) (old new : BayState) (spindles : List SpindleView) (f : Fault)
      (session : OpensAndCloses tells state config (λ before after. TellsRack tells state asked volume before after (Err f)) old new spindles) where
    abbrev before : Rack D
    before = session.before

    abbrev after : Rack D
    after = session.after

    same_of : TellsRack tells state asked volume before after (Err f) → IsSameRack before after
    same_of (drains.closed fault is same told) = subst (IsSameRack before) (sym same) (rack_self before)
    same_of (drains.open_ all_open same tells_change) = same

    pub left_of : IsTrue tells → IsTold (LeavesAll tells state config old new) old.told new.told
    left_of telling = session.left telling (all_quiet before.stations.items after.stations.items (same_of session.done).each session.opened.fresh)

    pub ended_of : (IsTrue tells → IsTold (KeepsAllSound config) old.told new.told) → ChangesVolume tells state config volume asked old new (Err (stop.Fault f))
    ended_of sound = go session.done
      where
        did : Rack D → Rack D → Type 0
        did = λ x y. TellsRack tells state asked volume x y (Err f)

        go : TellsRack tells state asked volume before after (Err f) → ChangesVolume tells state config volume asked old new (Err (stop.Fault f))
        go (drains.closed fault is same told) =
            let same_f : f ≡ fault = cc told in
            let first = first_unopened tells state config (λ x y. TellsRack tells state asked volume x y (Err f)) old new spindles session same fault is in
            subst (λ (g : Fault). ChangesVolume tells state config volume asked old new (Err (stop.Fault g))) (sym (same_f ∙ first.2)) (runs.one_closed first.0 first.1 first.3 (record { bay = record { left = left_of; sound = sound }; views = views_as_before tells state config (λ x y. TellsRack tells state asked volume x y (Err f)) old new spindles session }))
        go (drains.open_ all_open same tells_change) = behind asked refl tells_change
          where
            behind : (c : Change) → asked ≡ c → TellsChange tells state c volume before after (Err f) → ChangesVolume tells state config volume asked old new (Err (stop.Fault f))
            behind (Add logger) is tells_add = absurd (cc (tells_add.1))
            behind (Remove logger) is (drains.done counts drained told) = absurd (cc told)
            behind (Remove logger) is (drains.refused fault drained told) =
                let same_f : f ≡ report.Volume volume (drains.trouble_of_step fault) = cc told in
                ended tells state (λ x y. TellsRack tells state asked volume x y (Err f)) old new spindles session all_open same f
                (subst (FailsFor tells config volume old new) (sym same_f) (refl, drain_fails tells state config (λ x y. TellsRack tells state asked volume x y (Err f)) old new spindles session all_open same volume fault drained))
            behind (Remove logger) is (drains.no_memory unchanged told) =
                let same_f : f ≡ report.Memory = cc told in
                ended tells state (λ x y. TellsRack tells state asked volume x y (Err f)) old new spindles session all_open same f (subst (FailsFor tells config volume old new) (sym same_f) tt)

    pub ended_completes : MayComplete tells config old new 0 0 → Completes {T = List ℕ} (Err (stop.Fault f))
    ended_completes m = go session.done
      where
        open_ : (k : ℕ) → k < length (shapes_of config) → slice_get before.faults.items k ≡ Some None
        open_ =
            let each = subst (λ (x : Option Told). IfSome x (λ t. AreSound (shapes_of config) (images_read config t) → (Rose old.faults new.faults → ⊥)
            → (k : ℕ) → k < length (shapes_of config) → slice_get before.faults.items k ≡ Some None)) m.entry_is (session.complete m.telling) in
            each m.sound m.bay_calm

        go : TellsRack tells state asked volume before after (Err f) → Completes {T = List ℕ} (Err (stop.Fault f))
        go (drains.closed fault is same told) =
            let first = first_is 0 before.faults.items fault is in
            let within = slice_get_within before.faults.items first.k (Some first.fault_) first.here in
            absurd (cc (sym (open_ first.k (omega (arith, within, session.opened.rack.fault_count))) ∙ first.here))
        go (drains.open_ all_open same tells_change) = behind asked tells_change
          where
            behind : (c : Change) → TellsChange tells state c volume before after (Err f) → Completes {T = List ℕ} (Err (stop.Fault f))
            behind (Add logger) tells_add = absurd (cc (tells_add.1))
            behind (Remove logger) (drains.done counts drained told) = absurd (cc told)
            behind (Remove logger) (drains.refused fault drained told) =
                absurd (m.bay_calm (drain_rose tells state config (λ x y. TellsRack tells state asked volume x y (Err f)) old new spindles session all_open same volume fault drained))
            behind (Remove logger) (drains.no_memory unchanged told) = (let same_f : f ≡ report.Memory = cc told in inr (inr (ap (λ (g : Fault). Err (stop.Fault g)) same_f)))
