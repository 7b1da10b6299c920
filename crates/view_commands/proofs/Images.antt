-- An image whose view was changed comes back to its bay.
use Rattle.std.proofs.Common.{◌≡◌, ◌≢◌, ◌⊎◌, inl, inr, ◌<◌, ◌*◌, ◌+◌, ℕ, zero, Bool, true, false, nat_eq, cond, List, [], ◌∷◌, ◌++◌, length, take, Option, None, Some, option_map, Result, Ok, Err, refl, sym, ap, subst, ◌∙◌, arith}
use Rattle.std.specs.Prelude.{sum, IfSome, IsSome, is_some}
use Rattle.std.proofs.lemmas.Bool.Decides.{nat_tests}
use Rattle.std.proofs.lemmas.List.{length-map, take-map}
use Rattle.wol_disk.specs.Disk.{Block, State, TellsContent, Values, IsDisk, IsImageOf, Rose, only, put, reads, settled}
use Rattle.wol_disk.proofs.Images.{image_reads, settled_image}
use Rattle.wol_bay.specs.Bay.{AreNamedApart, BayState, Image, Name, Told, at_name, byte_length, came_back, sent_out}
use Rattle.wol_bay.specs.Parts.{AreCut, blocks_of, faulty_places, joined}
use Rattle.wol_bay.specs.Refusals.{IsAnswered, blocks_at, refusal, refusal_of}
use Rattle.wol_bay.specs.declared.fault.BayFault.{BayFault}
use Rattle.wol_bay.specs.declared.fault.BayFault.TheVariants as bay
use Rattle.wol_bay.proofs.OneImage.{all_told}
use Rattle.wol_config.specs.declared.config.Config.{Config}
use Rattle.wol_config.specs.declared.config.VolumeConf.{VolumeConf}
use Rattle.wol_model.specs.Heads.{view_block}
use Rattle.wol_model.specs.Images.{image_size}
use Rattle.logger_view.specs.Stored.{IsFirstFault, with_view}
use Rattle.logger_view.proofs.Callers.{label_in_front, view_in_front}
use Rattle.volume_images.specs.Left.{IsTold}
use Rattle.volume_images.specs.Volumes.{MayLeave, shape_in}
use Rattle.volume_images.proofs.Bays.{came}
use Rattle.volume_images.proofs.GivenBack.{joined_image}
use Rattle.volume_images.proofs.SentOut.{IsCutWhole, answered_ok, cut_whole}
use Rattle.volume_images.proofs.SettledParts.{cut_image}
use Rattle.view_change.specs.Changes.{Answers, IsAsked, IsLoaded, MayShow, RefusesView, ShowsChange, changed, id_of}
use Rattle.view_change.specs.declared.answers.Change.{Change}
use Rattle.view_change.specs.declared.answers.Change.TheVariants.{Add, Remove}
use Rattle.view_change.specs.declared.answers.ChangeRefusal.{ChangeRefusal}
use Rattle.view_change.specs.declared.answers.ChangeRefusal.TheVariants as change
use Rattle.view_change.proofs.LabelPart.{stored_shows}
use Rattle.view_commands.specs.Images.{AnswersFront, ChangesImage, ChangesInBay, FailsOnImage, IsNotWhole, IsWhole, LeavesBy, LeavesNewView, ShowsNewView, fault_of_bay, front_of, stop_of, told_as}
use Rattle.view_commands.specs.declared.order.Stop.TheVariants as stop

-- ---- Two parts

nothing_put : (l : List Block) → put zero [] l ≡ l
nothing_put [] = refl
nothing_put (y ∷ l) = refl

put_in_front : (x : Block) (bs rest : List Block) → length bs ≡ 2 → put 1 (x ∷ []) bs ++ rest ≡ put 1 (x ∷ []) (bs ++ rest)
put_in_front x [] rest two = absurd (omega (arith, two))
put_in_front x (a ∷ []) rest two = absurd (omega (arith, two))
put_in_front x (a ∷ b ∷ []) rest two = ap (λ (l : List Block). a ∷ x ∷ l) (sym (nothing_put rest))
put_in_front x (a ∷ b ∷ c ∷ bs) rest two = absurd (omega (arith, two))

-- what a load found in the front of an image it has
loaded_in_front : (own : ℕ) (bs rest : List Block) (ids : List ℕ) → IsLoaded own bs ids → IsLoaded own (bs ++ rest) ids
loaded_in_front own bs rest ids is = record {
  labelled = (is.labelled.0, is.labelled.1, label_in_front bs rest is.labelled.0 is.labelled.1 is.labelled.2);
  view = view_in_front bs rest ids is.view;
  others = is.others;
}

-- ---- Answers

may_not : (own : ℕ) (asked : Change) (ids : List ℕ) → id_of asked ≢ own → (e : ChangeRefusal) → RefusesView ids asked e → (bs : List Block) → IsLoaded own bs ids → AnswersFront own asked bs (Err (stop_of own e))
may_not own (Add id) ids other (change.Already other_id) is bs loaded = inr (ids, loaded, (other, is.1))
may_not own (Add id) ids other change.ViewFull is bs loaded = inr (ids, loaded, (other, is.0, is.1))
may_not own (Remove id) ids other (change.NotThere other_id) is bs loaded = inr (ids, loaded, (other, is.1))
may_not own (Add id) ids other (change.Unknown other_id) is bs loaded = absurd is
may_not own (Add id) ids other change.Itself is bs loaded = absurd is
may_not own (Add id) ids other (change.NotThere other_id) is bs loaded = absurd is
may_not own (Add id) ids other (change.Damaged block) is bs loaded = absurd is
may_not own (Add id) ids other change.Failed is bs loaded = absurd is
may_not own (Remove id) ids other (change.Unknown other_id) is bs loaded = absurd is
may_not own (Remove id) ids other change.Itself is bs loaded = absurd is
may_not own (Remove id) ids other (change.Already other_id) is bs loaded = absurd is
may_not own (Remove id) ids other change.ViewFull is bs loaded = absurd is
may_not own (Remove id) ids other (change.Damaged block) is bs loaded = absurd is
may_not own (Remove id) ids other change.Failed is bs loaded = absurd is

pub answers_front : (own volumes : ℕ) (asked : Change) → id_of asked < volumes → (bs : List Block) (r : Result (List ℕ) ChangeRefusal) → Answers own volumes asked bs r → AnswersFront own asked bs (told_as own r)
answers_front own volumes asked fits bs (Ok new) (is, ids, loaded, allows, made) = (ids, loaded, record { other = is.1; allowed = allows }, made)
answers_front own volumes asked fits bs (Err (change.Unknown id)) is = absurd (let past = is.1 in omega (arith, fits, past))
answers_front own volumes asked fits bs (Err change.Itself) is = inl (refl, is.1)
answers_front own volumes asked fits bs (Err (change.Already id)) (is, ids, loaded, why) = may_not own asked ids is.1 (change.Already id) why bs loaded
answers_front own volumes asked fits bs (Err (change.NotThere id)) (is, ids, loaded, why) = may_not own asked ids is.1 (change.NotThere id) why bs loaded
answers_front own volumes asked fits bs (Err change.ViewFull) (is, ids, loaded, why) = may_not own asked ids is.1 change.ViewFull why bs loaded
answers_front own volumes asked fits bs (Err (change.Damaged block)) is = tt
answers_front own volumes asked fits bs (Err change.Failed) is = tt

-- ---- The bay

-- what holds of the image that came back holds of the bay
brought_back : (holds : Told → Told → Type 0) (name : Name) (sizes places : List ℕ) (blocks : Option (List (Values Block))) (told mid new : Option Told) → IfSome told (λ t. AreNamedApart t)
    → IsSome blocks → ((t : Told) (vs : List (Values Block)) → told ≡ Some t → blocks ≡ Some vs → AreNamedApart t → holds t (came_back name (Some vs) places (sent_out name sizes t)))
    → mid ≡ option_map (sent_out name sizes) told → new ≡ option_map (came_back name blocks places) mid → IsTold holds told new
brought_back holds name sizes places blocks None mid new apart tells back sent came_is = came_is ∙ ap (option_map (came_back name blocks places)) sent
brought_back holds name sizes places blocks (Some t) mid new apart tells back sent came_is =
    let P : Option Told → Type 0 = λ o. IsTold holds (Some t) o in
    subst P (sym (came_is ∙ ap (option_map (came_back name blocks places)) sent)) (go blocks refl tells)
  where
    go : (o : Option (List (Values Block))) → blocks ≡ o → IsSome o → holds t (came_back name o places (sent_out name sizes t))
    go None e told = absurd (let no : false ≡ true = told in cc)
    go (Some vs) e told = back t vs refl e apart

-- where the bay is as it was
stayed : (holds : Told → Told → Type 0) (told new : Option Told) → new ≡ told → ((t : Told) → told ≡ Some t → holds t t) → IsTold holds told new
stayed holds None new e same = e
stayed holds (Some t) new e same = let P : Option Told → Type 0 = λ o. IsTold holds (Some t) o in subst P (sym e) (same t refl)

module _ {D : Type 0} (state : D → State) (sound : (d : D) → IsDisk (state d)) (name : Name) (own : ℕ) (asked : Change) (sizes : List ℕ) (t : Told) (p q r : D) (cut : IsCutWhole state sound sizes (at_name name t.images) (p ∷ r ∷ [])) (two : (state p).size ≡ 2) where
  -- an image of the parts before is one of the image
  was_left : (c : List Block) → IsImageOf (blocks_of state (p ∷ r ∷ [])) c → MayLeave (at_name name t.images) (Some c)
  was_left c i =
      let P : Option Image → Type 0 = λ o. MayLeave o (Some c) in
      let Q : Option (List (Values Block)) → Type 0 = λ o. IsImageOf o c in
      subst P (sym cut.there) (cut.rest, subst Q cut.blocks i)

  shows_new : id_of asked ≢ own → (first rest : List Block) → IsImageOf (joined (state r).values (Some [])) rest → ShowsChange own asked (state p) first → ShowsNewView name own asked t (first ++ rest)
  shows_new other first rest behind s =
      let long : length (reads s.vs) ≡ 2 = length-map s.vs (λ (v : Values Block). v.now) ∙ (sound p).each_block s.vs s.told ∙ two in
      let P : Option (List (Values Block)) → Type 0 = λ o. IsImageOf o (reads s.vs) in record {
        before = reads s.vs ++ rest;
        had = was_left (reads s.vs ++ rest) (joined_image (state p).values (joined (state r).values (Some [])) (reads s.vs) rest (subst P (sym s.told) (image_reads s.vs)) behind);
        ids = s.ids;
        loaded = loaded_in_front own (reads s.vs) rest s.ids s.loaded;
        may = record { other = other; allowed = s.allowed };
        is = ap (λ (l : List Block). l ++ rest) s.is ∙ put_in_front (view_block (changed asked s.ids)) (reads s.vs) rest long;
      }

  module _ (vs : List (Values Block)) (places : List ℕ) (e : blocks_of state (q ∷ r ∷ []) ≡ Some vs) (apart : AreNamedApart t) where
    abbrev new : Told
    new = came_back name (Some vs) places (sent_out name sizes t)

    -- an image that is left now, by its two parts
    parts_of_left : (P : Option (List Block) → Type 0)
        → ((first rest : List Block) → IsImageOf (state q).values first → IsImageOf (joined (state r).values (Some [])) rest → P (Some (first ++ rest))) → (c : Option (List Block)) → MayLeave (at_name name new.images) c → P c
    parts_of_left P by c may = go c (let Q : Option Image → Type 0 = λ o. MayLeave o c in subst Q (came name sizes places vs t apart).here may)
      where
        go : (c : Option (List Block)) → MayLeave (Some (record { blocks = vs; rest = [] })) c → P c
        go None some = absurd (some refl)
        go (Some c) (none, i) =
            let Q : Option (List (Values Block)) → Type 0 = λ o. IsImageOf o c in
            let x = cut_image (state q).values (joined (state r).values (Some [])) c (subst Q (sym e) i) in
            subst (λ (l : List Block). P (Some l)) (sym x.is) (by x.first x.rest x.in_front x.behind)

    -- where nothing was written
    left_as_was : ((c : List Block) → IsImageOf (state q).values c → IsImageOf (state p).values c) → (c : Option (List Block)) → MayLeave (at_name name new.images) c → MayLeave (at_name name t.images) c
    left_as_was same = parts_of_left (λ c. MayLeave (at_name name t.images) c)
        (λ first rest i behind. was_left (first ++ rest) (joined_image (state p).values (joined (state r).values (Some [])) first rest (same first i) behind))

    -- where a store failed
    left_either : id_of asked ≢ own → ((c : List Block) → IsImageOf (state q).values c → MayShow own asked (state p) c)
        → (c : Option (List Block)) → MayLeave (at_name name new.images) c → MayLeave (at_name name t.images) c ⊎ LeavesNewView name own asked t c
    left_either other moment = parts_of_left (λ c. MayLeave (at_name name t.images) c ⊎ LeavesNewView name own asked t c) (λ first rest i behind. elim (moment first i) [
      | inl was ↦ inl (was_left (first ++ rest) (joined_image (state p).values (joined (state r).values (Some [])) first rest was behind))
      | inr s ↦ inr (first ++ rest, refl, shows_new other first rest behind s)
    ])

    -- where it is stored
    left_shown : id_of asked ≢ own → ((c : List Block) → IsImageOf (state q).values c → ShowsChange own asked (state p) c) → (c : Option (List Block)) → MayLeave (at_name name new.images) c → LeavesNewView name own asked t c
    left_shown other each = parts_of_left (λ c. LeavesNewView name own asked t c) (λ first rest i behind. (first ++ rest, refl, shows_new other first rest behind (each first i)))

-- ---- What was changed

-- what the change of the part of label and view comes to
pub record ChangesPart (own volumes : ℕ) (asked : Change) (d e : State) (result : Result (List ℕ) ChangeRefusal) : Type 0 where
  pub answer : (vs : List (Values Block)) → d.values ≡ Some vs → Answers own volumes asked (reads vs) result
  pub any_moment : (c : List Block) → IsImageOf e.values c → MayShow own asked d c
  pub stored : (new : List ℕ) → result ≡ Ok new → e.values ≡ option_map (λ vs. only (with_view new (reads vs))) d.values
  pub unwritten : (refusal : ChangeRefusal) → result ≡ Err refusal → refusal ≢ change.Failed → (e.values ≡ d.values) ⊎ (e.values ≡ option_map settled d.values)
  pub cause : result ≡ Err change.Failed → Rose d.faults e.faults

unwritten_image : (d e : Option (List (Values Block))) → (e ≡ d) ⊎ (e ≡ option_map settled d) → (c : List Block) → IsImageOf e c → IsImageOf d c
unwritten_image d e (inl same) c i = let Q : Option (List (Values Block)) → Type 0 = λ o. IsImageOf o c in subst Q same i
unwritten_image None e (inr same) c i = let Q : Option (List (Values Block)) → Type 0 = λ o. IsImageOf o c in subst Q same i
unwritten_image (Some vs) e (inr same) c i = let Q : Option (List (Values Block)) → Type 0 = λ o. IsImageOf o c in settled_image vs c (subst Q same i)

module _ {D : Type 0} (state : D → State) (sound : (d : D) → IsDisk (state d)) (told : (d : D) → TellsContent (state d)) (name : Name) (own volumes : ℕ) (asked : Change) (fits : id_of asked < volumes) (rest_size : ℕ)
    (old mid new : BayState) (p q r : D) (cut : AreCut state (blocks_at name old.told) (2 ∷ rest_size ∷ []) (p ∷ r ∷ [])) {T : Type 0} (x : T) (answered : IfSome old.told (λ t. IsAnswered (refusal name (2 ∷ rest_size ∷ []) t) (Ok x)))
    (sent : mid.told ≡ option_map (sent_out name (2 ∷ rest_size ∷ [])) old.told) (back : new.told ≡ option_map (came_back name (blocks_of state (q ∷ r ∷ [])) (faulty_places state (q ∷ r ∷ []))) mid.told)
    (result : Result (List ℕ) ChangeRefusal) (part : ChangesPart own volumes asked (state p) (state q) result) where
  abbrev sizes : List ℕ
  sizes = 2 ∷ rest_size ∷ []

  whole_at : (t : Told) → old.told ≡ Some t → IsCutWhole state sound sizes (at_name name t.images) (p ∷ r ∷ [])
  whole_at t is =
      let A : Option Told → Type 0 = λ o. AreCut state (blocks_at name o) sizes (p ∷ r ∷ []) in
      let B : Option Told → Type 0 = λ o. IfSome o (λ t. IsAnswered (refusal name sizes t) (Ok x)) in
      cut_whole state sound sizes (at_name name t.images) (p ∷ r ∷ []) (answered_ok sizes (at_name name t.images) x (subst B is answered)) (subst A is cut)

  label_values : (t : Told) (i : Image) → old.told ≡ Some t → at_name name t.images ≡ Some i → (state p).values ≡ Some (take 2 i.blocks)
  label_values t i is there =
      let A : Option Told → Type 0 = λ o. AreCut state (blocks_at name o) sizes (p ∷ r ∷ []) in
      let B : Option Image → Type 0 = λ o. AreCut state (option_map (λ (j : Image). j.blocks) o) sizes (p ∷ r ∷ []) in
      (subst B there (subst A is cut)).0.content

  front_answer : (t : Told) (i : Image) → old.told ≡ Some t → at_name name t.images ≡ Some i → Answers own volumes asked (front_of i) result
  front_answer t i is there = subst (λ (bs : List Block). Answers own volumes asked bs result) (sym (take-map (λ (v : Values Block). v.now) 2 i.blocks)) (part.answer (take 2 i.blocks) (label_values t i is there))

  left_by : (t : Told) (is : old.told ≡ Some t) (vs : List (Values Block)) → blocks_of state (q ∷ r ∷ []) ≡ Some vs → AreNamedApart t
      → (res : Result (List ℕ) ChangeRefusal) → result ≡ res → (c : Option (List Block))
      → MayLeave (at_name name (came_back name (Some vs) (faulty_places state (q ∷ r ∷ [])) (sent_out name sizes t)).images) c → LeavesBy (told_as own res) name own asked t c
  left_by t is vs e apart res same = go res same
    where
      here : IsCutWhole state sound sizes (at_name name t.images) (p ∷ r ∷ [])
      here = whole_at t is

      size : (state p).size ≡ 2
      size = cut.0.sized

      answer : Answers own volumes asked (front_of here.image) result
      answer = front_answer t here.image is here.there

      same_as_was : (refusal : ChangeRefusal) → result ≡ Err refusal → refusal ≢ change.Failed → (c : Option (List Block))
          → MayLeave (at_name name (came_back name (Some vs) (faulty_places state (q ∷ r ∷ [])) (sent_out name sizes t)).images) c → MayLeave (at_name name t.images) c
      same_as_was refusal is_refused not_failed = left_as_was state sound name own asked sizes t p q r here size vs (faulty_places state (q ∷ r ∷ [])) e apart
          (unwritten_image (state p).values (state q).values (part.unwritten refusal is_refused not_failed))

      go : (res : Result (List ℕ) ChangeRefusal) → result ≡ res → (c : Option (List Block))
          → MayLeave (at_name name (came_back name (Some vs) (faulty_places state (q ∷ r ∷ [])) (sent_out name sizes t)).images) c → LeavesBy (told_as own res) name own asked t c
      go (Ok view) ok =
          let ok_answer : Answers own volumes asked (front_of here.image) (Ok view) = subst (Answers own volumes asked (front_of here.image)) ok answer in
          left_shown state sound name own asked sizes t p q r here size vs (faulty_places state (q ∷ r ∷ [])) e apart ok_answer.0.1
          (stored_shows own volumes asked (state p) (state q) view (part.stored view ok) (λ ws values. subst (Answers own volumes asked (reads ws)) ok (part.answer ws values)))
      go (Err (change.Unknown id)) said = same_as_was (change.Unknown id) said (λ x. cc x)
      go (Err change.Itself) said = same_as_was change.Itself said (λ x. cc x)
      go (Err (change.Already id)) said = same_as_was (change.Already id) said (λ x. cc x)
      go (Err (change.NotThere id)) said = same_as_was (change.NotThere id) said (λ x. cc x)
      go (Err change.ViewFull) said = same_as_was change.ViewFull said (λ x. cc x)
      go (Err (change.Damaged block)) said = λ c may. inl (same_as_was (change.Damaged block) said (λ x. cc x) c may)
      go (Err change.Failed) said =
          let failed : IsAsked own volumes asked = subst (Answers own volumes asked (front_of here.image)) said answer in
          left_either state sound name own asked sizes t p q r here size vs (faulty_places state (q ∷ r ∷ [])) e apart failed.1 part.any_moment

  changes_at : (t : Told) (vs : List (Values Block)) → old.told ≡ Some t → blocks_of state (q ∷ r ∷ []) ≡ Some vs → AreNamedApart t
      → ChangesImage name own asked (told_as own result) t (came_back name (Some vs) (faulty_places state (q ∷ r ∷ [])) (sent_out name sizes t))
  changes_at t vs is e apart =
      let back_again = came name sizes (faulty_places state (q ∷ r ∷ [])) vs t apart in record {
        others = back_again.others;
        answer = λ i there. answers_front own volumes asked fits (front_of i) result (front_answer t i is there);
        left = left_by t is vs e apart result refl;
      }

  -- the image came back with its view changed, or as it was
  pub image_changed : IfSome old.told (λ t. AreNamedApart t) → IsTold (ChangesImage name own asked (told_as own result)) old.told new.told
  image_changed apart = brought_back (ChangesImage name own asked (told_as own result)) name sizes (faulty_places state (q ∷ r ∷ [])) (blocks_of state (q ∷ r ∷ [])) old.told mid.told new.told apart
      (let all = all_told state told (q ∷ r ∷ []) in ap is_some all.1) changes_at sent back

  -- a block that is told as damaged is the first at fault
  pub damaged_at : (block : ℕ) → result ≡ Err (change.Damaged block) → (t : Told) → old.told ≡ Some t → (i : Image) → at_name name t.images ≡ Some i → IsFirstFault own (front_of i) block
  damaged_at block said t is i there =
      let answer : Answers own volumes asked (front_of i) (Err (change.Damaged block)) = subst (Answers own volumes asked (front_of i)) said (front_answer t i is there) in
      answer.1

-- ---- An image that wasn't handed out

-- one of the length of its parts is refused for a failed call, or want of memory
whole_handed : (T : Type 0) (sizes : List ℕ) (i : Image) (e : BayFault) → length i.blocks ≡ sum sizes → i.rest ≡ [] → IsAnswered {T = T} (refusal_of sizes (Some i)) (Err e) → (e ≡ bay.Failed) ⊎ (e ≡ bay.NoMemory)
whole_handed T sizes i e count rest answered = go (nat_eq (byte_length i) (512 * sum sizes)) refl answered
  where
    bytes : byte_length i ≡ 512 * sum sizes
    bytes = let none : length i.rest ≡ 0 = ap length rest in omega (arith, count, none)

    go : (b : Bool) → nat_eq (byte_length i) (512 * sum sizes) ≡ b → IsAnswered {T = T} (cond b None (Some (bay.WrongLength (byte_length i)))) (Err e) → (e ≡ bay.Failed) ⊎ (e ≡ bay.NoMemory)
    go true is answered = answered
    go false is answered = absurd (grind (arith, nat_tests, is, bytes))

-- nothing was changed, and the bay is as it was
pub handed_none : (tells : Bool) (config : Config) (volume : ℕ) (v : VolumeConf) (asked : Change) (old new : BayState) (e : BayFault) (rest_size : ℕ) (T : Type 0) → 2 + rest_size ≡ image_size (shape_in config v)
    → new.told ≡ old.told → IfSome old.told (λ t. IsAnswered {T = T} (refusal v.name (2 ∷ rest_size ∷ []) t) (Err e)) → (e ≡ bay.Failed → Rose old.faults new.faults)
    → ChangesInBay tells config volume v asked old new (Err (stop.Fault (fault_of_bay volume e)))
handed_none tells config volume v asked old new e rest_size T size same answered cause = record {
  left = λ telling. stayed (ChangesImage v.name volume asked (Err (stop.Fault (fault_of_bay volume e)))) old.told new.told same
      (λ t is. record { others = λ other differs. refl; answer = λ i there. tt; left = λ c may. inl may });
  fails = λ f is. let same_f : fault_of_bay volume e ≡ f = cc is in subst (FailsOnImage tells config volume v old new) same_f (fails e refl);
}
  where
    not_whole : (g : BayFault) → e ≡ g → (g ≡ bay.Failed → ⊥) → (g ≡ bay.NoMemory → ⊥) → IsNotWhole tells config v old
    not_whole g is one two telling = go old.told answered
      where
        go : (o : Option Told) → IfSome o (λ t. IsAnswered {T = T} (refusal v.name (2 ∷ rest_size ∷ []) t) (Err e)) → IfSome o (λ t. IsWhole config v t → ⊥)
        go None all = tt
        go (Some t) all = λ whole.
            let B : Option Image → Type 0 = λ o. IsAnswered {T = T} (refusal_of (2 ∷ rest_size ∷ []) o) (Err e) in
            let sums : length whole.image.blocks ≡ sum (2 ∷ rest_size ∷ []) = omega (arith, whole.size, size) in
            elim (whole_handed T (2 ∷ rest_size ∷ []) whole.image e sums whole.rest (subst B whole.there all)) [
              | inl failed ↦ one (sym is ∙ failed)
              | inr memory ↦ two (sym is ∙ memory)
            ]

    fails : (g : BayFault) → e ≡ g → FailsOnImage tells config volume v old new (fault_of_bay volume g)
    fails bay.NoMemory is = tt
    fails bay.Absent is = (refl, not_whole bay.Absent is (λ x. cc x) (λ x. cc x))
    fails (bay.WrongLength bytes) is = (refl, not_whole (bay.WrongLength bytes) is (λ x. cc x) (λ x. cc x))
    fails bay.Failed is = (refl, cause is)
