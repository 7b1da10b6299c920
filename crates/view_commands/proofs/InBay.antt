-- An image goes out of its bay in two parts, the first of which is changed, and comes back.
use Rattle.std.proofs.Common.{◌≡◌, ◌≢◌, ◌⊎◌, inl, inr, ◌<◌, ℕ, zero, Bool, true, nat_lt, cond, List, [], ◌∷◌, length, map, drop, Option, None, Some, option_map, Result, Ok, Err, refl, sym, ap, subst, ◌∙◌, arith}
use Rattle.std.specs.Prelude.{IfErr, IfOk, IfSome, IsErrOf, IsTrue}
use Rattle.std.proofs.lemmas.Bool.Decides.{nat_tests}
use Rattle.wol_disk.specs.Disk.{Block, State, TellsContent, Values, IsDisk, LeavesOnly, Rose, only, reads, settled}
use Rattle.wol_bay.specs.Bay.{AreNamedApart, BayState, Image, Told, at_name, came_back, sent_out}
use Rattle.wol_bay.specs.Parts.{AreCut, blocks_of, faulty_from, faulty_places, sizes_of}
use Rattle.wol_bay.specs.Refusals.{IsAnswered, blocks_at, refusal}
use Rattle.wol_config.specs.declared.config.Config.{Config}
use Rattle.wol_config.specs.declared.config.VolumeConf.{VolumeConf}
use Rattle.logger_view.specs.Stored.{IsFirstFault, with_view}
use Rattle.report.specs.declared.fault.Fault.{Fault}
use Rattle.report.specs.declared.fault.Fault.TheVariants.{Volume}
use Rattle.report.specs.declared.trouble.Trouble.TheVariants as trouble
use Rattle.spin_model.specs.Spun.{disk_of, state_of}
use Rattle.spin_model.specs.declared.spun.Spun.{Spun}
use Rattle.volume_images.specs.Disks.{disks_of}
use Rattle.volume_images.specs.declared.parts.ImageParts.{ImageParts}
use Rattle.view_change.specs.Changes.{Answers, MayShow, id_of}
use Rattle.view_change.specs.declared.answers.Change.{Change}
use Rattle.view_change.specs.declared.answers.ChangeRefusal.{ChangeRefusal}
use Rattle.view_change.specs.declared.answers.ChangeRefusal.TheVariants as change
use Rattle.view_commands.specs.Images.{ChangesInBay, FailsOnImage, IsDamagedAt, front_of, stop_of, told_as}
use Rattle.view_commands.specs.Orders.{IsOfWords}
use Rattle.view_commands.specs.declared.order.ViewRefusal.{ViewRefusal}
use Rattle.view_commands.specs.declared.order.ViewRefusal.TheVariants.{Itself, Already, NotThere, ViewFull}
use Rattle.view_commands.specs.declared.order.Stop.TheVariants as stop
use Rattle.view_commands.proofs.Images.{ChangesPart, damaged_at, image_changed}

-- ---- The parts

cut_none : {D : Type 0} (state : D → State) (blocks : Option (List (Values Block))) (ps : List D) → AreCut state blocks [] ps → ps ≡ []
cut_none state blocks [] cut = refl
cut_none state blocks (p ∷ ps) cut = absurd cut

pub two_long : {D : Type 0} (state : D → State) (blocks : Option (List (Values Block))) (m : ℕ) (ps : List D) → AreCut state blocks (2 ∷ m ∷ []) ps → length ps ≡ 2
two_long state blocks m [] cut = absurd cut
two_long state blocks m (p ∷ []) cut = absurd cut.1
two_long state blocks m (p ∷ q ∷ []) cut = refl
two_long state blocks m (p ∷ q ∷ r ∷ ps) cut = absurd cut.1.1

module _ {D : Type 0} (state : D → State) (image : ImageParts D) (blocks : Option (List (Values Block))) (m : ℕ) (ps : List D) (are : disks_of image ≡ ps) (cut : AreCut state blocks (2 ∷ m ∷ []) ps) where
  none_more : map (λ (q : Spun D). disk_of q) image.segments.items ≡ []
  none_more = cut_none state (option_map (drop m) (option_map (drop 2) blocks)) (map (λ (q : Spun D). disk_of q) image.segments.items) (subst (AreCut state blocks (2 ∷ m ∷ [])) (sym are) cut).1.1

  -- there are two
  pub two_parts : disks_of image ≡ disk_of image.label ∷ disk_of image.home ∷ []
  two_parts = ap (λ (qs : List D). disk_of image.label ∷ disk_of image.home ∷ qs) none_more

  pub two_cut : AreCut state blocks (2 ∷ m ∷ []) (disk_of image.label ∷ disk_of image.home ∷ [])
  two_cut = subst (AreCut state blocks (2 ∷ m ∷ [])) (sym are ∙ two_parts) cut

  pub label_size : (state_of state image.label).size ≡ 2
  label_size = two_cut.0.sized

  module _ (label : Spun D) (size : (state_of state label).size ≡ (state_of state image.label).size) (final : List D) (back : final ≡ disks_of (record image { label = label })) where
    pub final_is : final ≡ disk_of label ∷ disk_of image.home ∷ []
    final_is = back ∙ ap (λ (qs : List D). disk_of label ∷ disk_of image.home ∷ qs) none_more

    pub sizes_back : sizes_of state final ≡ 2 ∷ m ∷ []
    sizes_back =
        ap (sizes_of state) final_is
        ∙ ap (λ (n : ℕ). n ∷ (state_of state image.home).size ∷ []) (size ∙ label_size)
        ∙ ap (λ (n : ℕ). 2 ∷ n ∷ []) two_cut.1.0.sized

-- ---- The change of the first part

pub part_changed : (own volumes : ℕ) (asked : Change) (d e : State) (r : Result (List ℕ) ChangeRefusal) → ((vs : List (Values Block)) → d.values ≡ Some vs → Answers own volumes asked (reads vs) r) → LeavesOnly d e (MayShow own asked d) → IsDisk e
    → IfOk r (λ new. e.values ≡ option_map (λ vs. only (with_view new (reads vs))) d.values) → IfErr r (λ refused. refused ≢ change.Failed → (e.values ≡ d.values) ⊎ (e.values ≡ option_map settled d.values))
    → (IsErrOf r change.Failed → Rose d.faults e.faults) → ChangesPart own volumes asked d e r
part_changed own volumes asked d e r answer moments disk stored unwritten cause = record {
  answer = answer;
  any_moment = λ c i. moments.each c (disk.counts_now d.clock c moments.later i);
  stored = λ new is. (let P : Result (List ℕ) ChangeRefusal → Type 0 = λ x. IfOk x (λ view. e.values ≡ option_map (λ vs. only (with_view view (reads vs))) d.values) in subst P is stored);
  unwritten = λ refused is. (let P : Result (List ℕ) ChangeRefusal → Type 0 = λ x. IfErr x (λ f. f ≢ change.Failed → (e.values ≡ d.values) ⊎ (e.values ≡ option_map settled d.values)) in subst P is unwritten);
  cause = λ is. (let P : Result (List ℕ) ChangeRefusal → Type 0 = λ x. IsErrOf x change.Failed in cause (subst P (sym is) refl));
}

-- a refusal of the view isn't one of the words
known_of : (own : ℕ) (e : ChangeRefusal) → ((id : ℕ) → e ≡ change.Unknown id → ⊥) → (r : ViewRefusal) → stop_of own e ≡ stop.Refused r → IsOfWords r → ⊥
known_of own (change.Unknown id) never r is of_words = never id refl
known_of own change.Itself never r is of_words = (let same : Itself ≡ r = cc is in subst IsOfWords (sym same) of_words)
known_of own (change.Already id) never r is of_words = (let same : Already ≡ r = cc is in subst IsOfWords (sym same) of_words)
known_of own (change.NotThere id) never r is of_words = (let same : NotThere ≡ r = cc is in subst IsOfWords (sym same) of_words)
known_of own change.ViewFull never r is of_words = (let same : ViewFull ≡ r = cc is in subst IsOfWords (sym same) of_words)
known_of own (change.Damaged block) never r is of_words = absurd (cc is)
known_of own change.Failed never r is of_words = absurd (cc is)

pub known_as : (own : ℕ) (answer : Result (List ℕ) ChangeRefusal) → ((id : ℕ) → answer ≡ Err (change.Unknown id) → ⊥) → (r : ViewRefusal) → told_as own answer ≡ Err (stop.Refused r) → IsOfWords r → ⊥
known_as own (Ok view) never r is of_words = absurd (cc is)
known_as own (Err e) never r is of_words = known_of own e (λ id same. never id (ap Err same)) r (let same : stop_of own e ≡ stop.Refused r = cc is in same) of_words

-- and never a fault of a sink
not_sink : (own : ℕ) (e : ChangeRefusal) → stop_of own e ≡ stop.Sink → ⊥
not_sink own (change.Unknown id) is = absurd (cc is)
not_sink own change.Itself is = absurd (cc is)
not_sink own (change.Already id) is = absurd (cc is)
not_sink own (change.NotThere id) is = absurd (cc is)
not_sink own change.ViewFull is = absurd (cc is)
not_sink own (change.Damaged block) is = absurd (cc is)
not_sink own change.Failed is = absurd (cc is)

pub told_no_sink : (own : ℕ) (answer : Result (List ℕ) ChangeRefusal) → told_as own answer ≡ Err stop.Sink → ⊥
told_no_sink own (Ok view) is = absurd (cc is)
told_no_sink own (Err e) is = not_sink own e (let same : stop_of own e ≡ stop.Sink = cc is in same)

-- a count that rose from nothing isn't nothing
risen : (n : ℕ) → Rose 0 n → nat_lt 0 n ≡ true
risen n (inl more) = grind (arith, nat_tests, more)
risen n (inr most) = (let more : 0 < n = omega (arith, most) in grind (arith, nat_tests, more))

-- a first part whose count rose came back with a fault
pub fault_places : {D : Type 0} (state : D → State) (q r : D) → Rose 0 (state q).faults → faulty_places state (q ∷ r ∷ []) ≢ []
fault_places state q r rose = λ none.
    let first : faulty_places state (q ∷ r ∷ []) ≡ zero ∷ faulty_from 1 state (r ∷ []) = ap (λ (b : Bool). cond b (zero ∷ faulty_from 1 state (r ∷ [])) (faulty_from 1 state (r ∷ []))) (risen (state q).faults rose) in
    cc (sym first ∙ none)

-- ---- The bay

module _ {D : Type 0} (tells : Bool) (state : D → State) (sound : (d : D) → IsDisk (state d)) (told : IsTrue tells → (d : D) → TellsContent (state d)) (config : Config) (own volumes : ℕ) (v : VolumeConf) (asked : Change) (fits : id_of asked < volumes) (m : ℕ)
    (old mid new : BayState) (p q r : D) (cut : AreCut state (blocks_at v.name old.told) (2 ∷ m ∷ []) (p ∷ r ∷ [])) {T : Type 0} (x : T) (answered : IfSome old.told (λ t. IsAnswered (refusal v.name (2 ∷ m ∷ []) t) (Ok x)))
    (sent : mid.told ≡ option_map (sent_out v.name (2 ∷ m ∷ [])) old.told) (back : new.told ≡ option_map (came_back v.name (blocks_of state (q ∷ r ∷ [])) (faulty_places state (q ∷ r ∷ []))) mid.told)
    (calm : mid.faults ≡ old.faults) (cause : faulty_places state (q ∷ r ∷ []) ≢ [] → Rose mid.faults new.faults) where
  fails_in : (res : Result (List ℕ) ChangeRefusal) (part : ChangesPart own volumes asked (state p) (state q) res) (f : Fault) → told_as own res ≡ Err (stop.Fault f) → FailsOnImage tells config own v old new f
  fails_in res part f is = go res refl is
    where
      damaged : (block : ℕ) → res ≡ Err (change.Damaged block) → IsDamagedAt tells own v old block
      damaged block same telling = at old.told refl
        where
          at : (o : Option Told) → old.told ≡ o → IfSome o (λ t. (i : Image) → at_name v.name t.images ≡ Some i → IsFirstFault own (front_of i) block)
          at None none = tt
          at (Some t) some = λ i there. damaged_at state sound (told telling) v.name own volumes asked fits m old mid new p q r cut x answered sent back res part block same t some i there

      rose : res ≡ Err change.Failed → Rose old.faults new.faults
      rose same =
          let from_zero : Rose 0 (state q).faults = subst (λ (n : ℕ). Rose n (state q).faults) cut.0.quiet (part.cause same) in
          subst (λ (n : ℕ). Rose n new.faults) calm (cause (fault_places state q r from_zero))

      go : (y : Result (List ℕ) ChangeRefusal) → res ≡ y → told_as own y ≡ Err (stop.Fault f) → FailsOnImage tells config own v old new f
      go (Ok view) same is = absurd (cc is)
      go (Err (change.Unknown id)) same is = absurd (cc is)
      go (Err change.Itself) same is = absurd (cc is)
      go (Err (change.Already id)) same is = absurd (cc is)
      go (Err (change.NotThere id)) same is = absurd (cc is)
      go (Err change.ViewFull) same is = absurd (cc is)
      go (Err (change.Damaged block)) same is =
          let same_f : Volume own (trouble.Damaged own block) ≡ f = cc is in
          subst (FailsOnImage tells config own v old new) same_f (refl, (refl, damaged block same))
      go (Err change.Failed) same is =
          let same_f : Volume own trouble.Label ≡ f = cc is in
          subst (FailsOnImage tells config own v old new) same_f (refl, rose same)

  -- the view was changed, or it wasn't, by the answer
  pub in_bay : IfSome old.told (λ t. AreNamedApart t) → (res : Result (List ℕ) ChangeRefusal) → ChangesPart own volumes asked (state p) (state q) res → ChangesInBay tells config own v asked old new (told_as own res)
  in_bay apart res part = record {
    left = λ telling. image_changed state sound (told telling) v.name own volumes asked fits m old mid new p q r cut x answered sent back res part apart;
    fails = fails_in res part;
  }
