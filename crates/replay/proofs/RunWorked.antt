-- What the worker and the keeper of each closed volume did in the windows of a run.
use Rattle.replay.proofs.Basics.{◌≡◌, ◌≢◌, ◌==◌, ◌≤◌, ◌⊎◌, ◌++◌, ℕ, Bool, false, List, [], ◌∷◌, length, map, refl, sym, ap}
use Rattle.replay.proofs.Basics.{subst, ◌∙◌, Option, None, Some, is_some, length-append, inl, inr, arith, All, IsTrue, slice_get}
use Rattle.replay.proofs.Basics.{slice_index_or, AllByRecursion, filter, option_map_or}
use Rattle.replay.proofs.Terms.{BayState, Write, Kept, flight_of, helper, keeper, worker, noted_of, Look, HasNoHelp, by_worker, IsDrained}
use Rattle.replay.proofs.Terms.{Noted, entries_of, last_look, Config, Entry, own, IsFree, pass_mine, pass_number, pass_seen, notes_of}
use Rattle.replay.proofs.Terms.{Station, IsBroken, KeptStay, ManagerPass, began, coded, notes_seen, AreOthersIdle, kept_join, notes_joined}
use Rattle.replay.proofs.Terms.{nothing_more, IsMoved, Desk, Floor, Reclaim, IsClosedVolume, AreUnused, IsUnused}
use Rattle.replay.proofs.Terms.{base_of_station, ImageRest, History, is_broken, is_broken_at, ServedFromStart, ServedWindow, WentWell}
use Rattle.replay.proofs.Terms.{AreBegun, AreWorked, AreWorks, DrainsAlone, KeepsRecords, LackedIn, WorksAs, by_keeper}
use Rattle.replay.proofs.EntriesOwn.{OfEntry, all_of_three, coded_all, noted_all, notes_back}
use Rattle.replay.proofs.HistoriesLeft.{histories_of}
use Rattle.replay.proofs.KeeperIdle.{none_first, own_joined}
use Rattle.replay.proofs.RacksServed.{at_place}
use Rattle.replay.proofs.ReclaimPlaced.{honest_unused, none_noted, others_idle}
use Rattle.replay.proofs.ReclaimedLeft.{own_noted}
use Rattle.replay.proofs.StationsRan.{AreNumbered, EndsOn, desk, first, moved_at, worker_same}
use Rattle.replay.proofs.VolumesRan.{HasRan, has_ran}
use Rattle.replay.proofs.UnbrokenServed.{IsWholeNote, MakesWhole, served_whole, whole_flight}
use Rattle.replay.proofs.WindowBroken.{broken_in}
use Rattle.replay.proofs.WorksServed.{BeginsOn, WorksOn, all_begins, awake_count, awake_few, awake_in, awake_last, served_works}
use Rattle.window_desks.specs.declared.request.Reclaim.TheVariants as reclaim

-- ---- Where nothing is reclaimed

-- entries that aren't the worker's
kept_rest : (lacked : Write → Type 0) (l : Look) (es : List Entry) → own worker es ≡ [] → KeptStay lacked l (notes_of es)
kept_rest lacked l [] none = tt
kept_rest lacked l (e ∷ es) none = let (other, rest) = none_first worker e es none in (λ mine kept. absurd (other mine), kept_rest lacked (noted_of e.0 e.1).look es rest)

drains_alone : (lacked : Write → Type 0) (l : Look) (notes : List Noted) → KeptStay lacked l notes → AreOthersIdle l notes → HasNoHelp notes → DrainsAlone lacked l notes
drains_alone lacked l [] stay idle none = tt
drains_alone lacked l (n ∷ notes) (stay, stays) (idle, idles) (none, nones) = (λ kept. at idle kept, drains_alone lacked n.look notes stays idles nones)
  where
    at : (n.entry.pass ≡ worker) ⊎ ((n.entry.pass ≡ helper) ⊎ ((n.entry.pass ≡ keeper) × (n.look.listed ≡ l.listed))) → n.entry.operation ≡ Kept → (n.look.listed ≡ l.listed) ⊎ ((w : Write) × lacked w × IsDrained n.passed l w n.look)
    at (inl mine) kept = elim (stay mine kept) [
      | inl same ↦ inl (ap (λ (x : Look). x.listed) same)
      | inr drains ↦ inr drains
    ]
    at (inr (inl helped)) kept = absurd (none helped)
    at (inr (inr (keeps, same))) kept = inl same

-- ---- The keeper

keeps_records : (l : Look) (notes : List Noted) → AreOthersIdle l notes → KeepsRecords l notes
keeps_records l [] idle = tt
keeps_records l (n ∷ notes) (idle, idles) = (λ keeps. at keeps idle, keeps_records n.look notes idles)
  where
    at : n.entry.pass ≡ keeper → (n.entry.pass ≡ worker) ⊎ ((n.entry.pass ≡ helper) ⊎ ((n.entry.pass ≡ keeper) × (n.look.listed ≡ l.listed))) → n.look.listed ≡ l.listed
    at keeps (inl works) = let no : worker ≡ keeper = sym works ∙ keeps in absurd (cc no)
    at keeps (inr (inl helps)) = let no : helper ≡ keeper = sym helps ∙ keeps in absurd (cc no)
    at keeps (inr (inr (is, same))) = same

-- ---- Closed volumes

module _ {D : Type 0} (tells : Bool) (mode : Reclaim) (config : Config) (out : List (Option (ImageRest D))) (opened left_ : BayState) (olds news : List (Station D)) (closed : All (IsClosedVolume tells config out opened left_) news)
    (before middle after : Floor D) (ps qs : List _) (moved : IsMoved olds before) (back : IsMoved news after) (ss : List ServedWindow) (served : ServedFromStart tells mode ss before ps middle qs) (ends : EndsOn tells middle after)
    (unused : AreUnused olds) (numbers : (v : ℕ) (s : Station D) → slice_get olds v ≡ Some s → AreNumbered s) (new_numbers : (v : ℕ) (s : Station D) → slice_get news v ≡ Some s → AreNumbered s)
    (free : (v : ℕ) (s : Station D) → slice_get olds v ≡ Some s → IsFree s.worker × IsFree s.helper)
    (looks : (v : ℕ) (old new : Station D) → slice_get olds v ≡ Some old → slice_get news v ≡ Some new
    → (began old.worker ≡ (base_of_station new).volume.began) × (began old.helper ≡ (base_of_station new).volume.began) × (began new.keeper ≡ (base_of_station new).volume.began))
    (same : length news ≡ length olds) (some : 1 ≤ length olds) where
  -- what the spindles answered as windows began
  pub told_awake : List (List Bool)
  told_awake = awake_in tells mode ss before ps middle qs served ++ awake_last tells mode middle after ends

  pub told_more : told_awake ≡ awake_in tells mode ss before ps middle qs served ++ awake_last tells mode middle after ends
  unfolding told_awake
  told_more = refl

  module _ (k : ℕ) (h : History) (here : slice_get (histories_of tells config out opened left_ news closed) k ≡ Some h) (owner : h.base.owner ≡ k) (none : mode ≢ reclaim.Beside → HasNoHelp h.notes) where
    ran : HasRan tells config out opened left_ olds news k h
    ran = has_ran tells config out opened left_ olds news closed same k h here

    open ran use {old, is_old}
    open ran.now use {station as new, there as is_new, closed as its, is as is_left}

    abbrev es : List Entry
    es = its.entries

    unused_here : IsUnused old.worker × IsUnused old.helper × IsUnused old.keeper
    unused_here = let (lt, is) = at_place olds k old is_old in subst (λ (x : Station D). IsUnused x.worker × IsUnused x.helper × IsUnused x.keeper) (is old) (unused k old lt)

    bases : (began old.worker ≡ (base_of_station new).volume.began) × (began old.helper ≡ (base_of_station new).volume.began) × (began new.keeper ≡ (base_of_station new).volume.began)
    bases = looks k old new is_old is_new

    base_is : (base_of_station new).volume.began ≡ h.base
    base_is = sym (ap (λ (x : History). x.base) is_left)

    -- the notes of one pass, by what it made
    own_are : (n : ℕ) (p : ManagerPass D) (notes : List Noted) → pass_number p ≡ n → own (pass_number p) es ≡ pass_mine p → pass_mine p ≡ map coded notes → filter (λ (m : Noted). m.entry.pass == n) h.notes ≡ notes
    own_are n p notes is mine made =
        ap (λ (x : History). filter (λ (m : Noted). m.entry.pass == n) x.notes) is_left ∙ own_noted n es ∙ ap notes_of (ap (λ (x : ℕ). own x es) (sym is) ∙ mine ∙ made) ∙ notes_back notes

    -- ---- The worker

    its_desk : Desk D
    its_desk = desk tells mode ss olds news before middle after ps qs moved back unused served ends k old new is_old is_new (numbers k old is_old)

    abbrev Whole : Type 0
    Whole = IsTrue (is_broken h) → ⊥

    works : WorksOn tells Whole mode k ss old.worker new.worker
    unfolding its_desk
    works =
        let at_first = first tells mode ss olds news before middle after ps qs moved back unused served ends k old new is_old is_new (numbers k old is_old) in
        let at_last = worker_same tells mode ss olds news before middle after ps qs moved back unused served ends k old new is_old is_new (numbers k old is_old) in
        let on = served_works tells Whole mode k its_desk ss before ps middle qs served at_first.desk (subst (λ (x : ManagerPass D). IsFree x) (sym at_first.worker_is) (free k old is_old).0) in
        subst (λ (x : ManagerPass D). WorksOn tells Whole mode k ss old.worker x) (sym at_last) (subst (λ (x : ManagerPass D). WorksOn tells Whole mode k ss x (slice_index_or middle.desks.items k its_desk).worker) at_first.worker_is on)

    worker_made : pass_mine new.worker ≡ map coded works.notes
    worker_made = works.gains.mine ∙ ap (λ (l : List Entry). l ++ map coded works.notes) unused_here.0.mine

    worker_is : AreWorks mode h.base.view k Whole ss (by_worker h.notes)
    worker_is =
        let whole = λ (w : Whole) (broken : IsBroken (notes_seen new.worker)). w (subst (λ (x : History). IsTrue (is_broken x)) (sym is_left) (broken_in (pass_seen new.worker) es its.worker_part.seen broken)) in
        subst (λ (view : List ℕ). AreWorks mode view k Whole ss (by_worker h.notes)) (ap (λ b. b.view) (bases.0 ∙ base_is))
        (subst (λ (ns : List Noted). AreWorks mode (began old.worker).view k Whole ss ns) (sym (own_are worker new.worker works.notes (new_numbers k new is_new).0 its.worker_part.mine worker_made)) (works.works whole))

    -- ---- The keeper

    begins : BeginsOn told_awake old.keeper new.keeper
    unfolding told_awake
    begins =
        let at_first = moved_at olds before moved k old is_old its_desk old.worker in
        let at_last = moved_at news after back k new is_new its_desk old.worker in
        let on = all_begins tells mode k old.worker (numbers k old is_old).0 ss before ps middle qs served after ends (at_first.keeper, ap (λ (x : ManagerPass D). pass_number x) at_first.keeper_is ∙ (numbers k old is_old).2) in
        subst (λ (x : ManagerPass D). BeginsOn (awake_in tells mode ss before ps middle qs served ++ awake_last tells mode middle after ends) old.keeper x) at_last.keeper_is
        (subst (λ (x : ManagerPass D). BeginsOn (awake_in tells mode ss before ps middle qs served ++ awake_last tells mode middle after ends) x (slice_index_or after.keepers.items k old.worker)) at_first.keeper_is on)

    keeper_made : pass_mine new.keeper ≡ map coded begins.notes
    keeper_made = begins.mine ∙ ap (λ (l : List Entry). l ++ map coded begins.notes) unused_here.2.mine

    keeper_is : AreBegun k h.base.view told_awake (by_keeper h.notes)
    keeper_is =
        let base : began old.keeper ≡ h.base = sym (ap (λ x. x.base.volume.began) begins.same.0) ∙ bases.2 ∙ base_is in
        subst (λ (n : ℕ). AreBegun n h.base.view told_awake (by_keeper h.notes)) owner (subst (λ b. AreBegun b.owner b.view told_awake (by_keeper h.notes)) base
        (subst (λ (ns : List Noted). AreBegun (began old.keeper).owner (began old.keeper).view told_awake ns) (sym (own_are keeper new.keeper begins.notes (new_numbers k new is_new).2 its.keeper_part.mine keeper_made)) begins.begun))

    -- ---- Where nothing is reclaimed

    idle : AreOthersIdle h.base.look h.notes
    idle = others_idle tells mode config out opened left_ olds news closed before middle after ps qs moved back ss served ends unused numbers new_numbers free looks same some k h here

    off_is : mode ≡ reclaim.Off → DrainsAlone (LackedIn k ss) h.base.look h.notes
    off_is off = drains_alone (LackedIn k ss) h.base.look h.notes stays idle
        (none (λ beside. (let no : reclaim.Off ≡ reclaim.Beside = sym off ∙ beside in absurd (cc no))))
      where
        honest : own (pass_number new.worker) (pass_seen new.worker) ≡ pass_mine new.worker
        honest = (works.gains.honest (honest_unused tells old.worker unused_here.0)).mine

        seen : pass_seen new.worker ≡ works.more
        seen = works.gains.seen ∙ ap (λ (l : List Entry). l ++ works.more) unused_here.0.seen

        rest : List Entry
        rest = its.worker_part.seen.0

        entries : es ≡ works.more ++ rest
        entries = sym its.worker_part.seen.1 ∙ ap (λ (l : List Entry). l ++ rest) seen

        none_behind : own worker rest ≡ []
        none_behind =
            let all : own (pass_number new.worker) (pass_seen new.worker) ++ own (pass_number new.worker) rest ≡ own (pass_number new.worker) (pass_seen new.worker)
            = sym (own_joined (pass_number new.worker) (pass_seen new.worker) rest) ∙ ap (own (pass_number new.worker)) its.worker_part.seen.1 ∙ its.worker_part.mine ∙ sym honest in
            subst (λ (n : ℕ). own n rest ≡ []) (new_numbers k new is_new).0 (nothing_more (own (pass_number new.worker) (pass_seen new.worker)) (own (pass_number new.worker) rest) all)

        front : KeptStay (LackedIn k ss) h.base.look (notes_of works.more)
        front = subst (λ (l : Look). KeptStay (LackedIn k ss) l (notes_of works.more)) (ap (λ (x : List Entry). last_look (began old.worker).look (notes_of x)) unused_here.0.seen ∙ ap (λ b. b.look) (bases.0 ∙ base_is))
            (works.stays off (honest_unused tells old.worker unused_here.0))

        stays : KeptStay (LackedIn k ss) h.base.look h.notes
        stays = subst (λ (ns : List Noted). KeptStay (LackedIn k ss) h.base.look ns) (sym (ap (λ (x : History). x.notes) is_left ∙ ap notes_of entries ∙ notes_joined works.more rest))
            (kept_join (LackedIn k ss) h.base.look (notes_of works.more) (notes_of rest) front (kept_rest (LackedIn k ss) (last_look h.base.look (notes_of works.more)) rest none_behind))

    -- ---- Where all windows went well

    unbroken : AllByRecursion WentWell ss → after ≡ middle → flight_of (entries_of h.notes) ≡ None
    unfolding its_desk
    unbroken well no_more =
        let at_first = first tells mode ss olds news before middle after ps qs moved back unused served ends k old new is_old is_new (numbers k old is_old) in
        let at_last = moved_at news after back k new is_new its_desk old.worker in
        let same_worker = worker_same tells mode ss olds news before middle after ps qs moved back unused served ends k old new is_old is_new (numbers k old is_old) in
        let all = served_whole tells mode k its_desk old.worker (numbers k old is_old).0 ss before ps middle qs served well (record {
          desks = at_first.desk;
          helpers = at_first.helper;
          keepers = at_first.keeper;
          helper_is = ap (λ (x : ManagerPass D). pass_number x) at_first.helper_is ∙ (numbers k old is_old).1;
          keeper_is = ap (λ (x : ManagerPass D). pass_number x) at_first.keeper_is ∙ (numbers k old is_old).2;
        }) in
        let number = new_numbers k new is_new in
        let helper_then : slice_index_or middle.helpers.items k old.worker ≡ new.helper = ap (λ (f : Floor D). slice_index_or f.helpers.items k old.worker) (sym no_more) ∙ at_last.helper_is in
        let keeper_then : slice_index_or middle.keepers.items k old.worker ≡ new.keeper = ap (λ (f : Floor D). slice_index_or f.keepers.items k old.worker) (sym no_more) ∙ at_last.keeper_is in
        subst (λ (x : History). flight_of (entries_of x.notes) ≡ None) (sym is_left) (whole_flight (notes_of es) (noted_all IsWholeNote es (all_of_three (OfEntry IsWholeNote) es its.no_more
        (of_pass worker old.worker new.worker _ _ at_first.worker_is (sym same_worker) all.worker_ unused_here.0 number.0 its.worker_part.mine)
        (of_pass helper old.helper new.helper _ _ at_first.helper_is helper_then all.helper_ unused_here.1 number.1 its.helper_part.mine)
        (of_pass keeper old.keeper new.keeper _ _ at_first.keeper_is keeper_then all.keeper_ unused_here.2 number.2 its.keeper_part.mine))))
      where
        of_pass : (n : ℕ) (p q x y : ManagerPass D) → x ≡ p → y ≡ q → MakesWhole x y → IsUnused p → pass_number q ≡ n → own (pass_number q) es ≡ pass_mine q → AllByRecursion (OfEntry IsWholeNote) (own n es)
        of_pass n p q x y first_is last_is made none number mine =
            let made_all : pass_mine q ≡ map coded made.notes = ap (λ (z : ManagerPass D). pass_mine z) (sym last_is) ∙ made.mine ∙ ap (λ (z : ManagerPass D). pass_mine z ++ map coded made.notes) first_is ∙ ap (λ (l : List Entry). l ++ map coded made.notes) none.mine in
            subst (λ (l : List Entry). AllByRecursion (OfEntry IsWholeNote) l) (sym (ap (λ (m : ℕ). own m es) (sym number) ∙ mine ∙ made_all)) (coded_all IsWholeNote made.notes made.all)

    pub works_as : WorksAs mode ss told_awake k h
    works_as = record { worker_ = worker_is; keeper_ = keeper_is; records = keeps_records h.base.look h.notes idle; off = off_is }

  pub run_worked : ((v : ℕ) (h : History) → slice_get (histories_of tells config out opened left_ news closed) v ≡ Some h → (h.base.owner ≡ v) × (mode ≢ reclaim.Beside → HasNoHelp h.notes))
      → AreWorked mode ss told_awake (histories_of tells config out opened left_ news closed)
  unfolding told_awake
  run_worked each =
      let count = awake_count tells mode ss before ps middle qs served in
      let few = awake_few tells mode middle after ends in
      let long = length-append (awake_in tells mode ss before ps middle qs served) (awake_last tells mode middle after ends) in
      record { begun_ = (omega (arith, count, long), omega (arith, count, few, long)); each = λ v h here. works_as v h here (each v h here).0 (each v h here).1 }

  -- where all windows went well no volume broke
  pub run_unbroken : ((v : ℕ) (h : History) → slice_get (histories_of tells config out opened left_ news closed) v ≡ Some h → (h.base.owner ≡ v) × (mode ≢ reclaim.Beside → HasNoHelp h.notes))
      → AllByRecursion WentWell ss → after ≡ middle → (v : ℕ) → is_broken_at (histories_of tells config out opened left_ news closed) v ≡ false
  run_unbroken each well no_more v = at (slice_get (histories_of tells config out opened left_ news closed) v) refl
    where
      at : (o : Option History) → slice_get (histories_of tells config out opened left_ news closed) v ≡ o → is_broken_at (histories_of tells config out opened left_ news closed) v ≡ false
      at None here = ap (λ (x : Option History). option_map_or is_broken x false) here
      at (Some h) here = ap (λ (x : Option History). option_map_or is_broken x false) here ∙ ap is_some (unbroken v h here (each v h here).0 (each v h here).1 well no_more)

-- where nothing was served
pub none_worked : {D : Type 0} (tells : Bool) (mode : Reclaim) (config : Config) (out : List (Option (ImageRest D))) (opened left_ : BayState) (ss : List (Station D)) (closed : All (IsClosedVolume tells config out opened left_) ss)
    → ((v : ℕ) (s : Station D) → slice_get ss v ≡ Some s → AreNumbered s) → AreUnused ss → AreWorked mode [] [] (histories_of tells config out opened left_ ss closed)
none_worked tells mode config out opened left_ ss closed numbers unused = record {
  begun_ = (omega arith, omega arith);
  each = λ v h here.
      let none = none_noted tells config out opened left_ ss closed numbers unused v h here in
      record { worker_ = ap by_worker none; keeper_ = ap by_keeper none; records = subst (λ (ns : List Noted). KeepsRecords h.base.look ns) (sym none) tt; off = λ off. subst (λ (ns : List Noted). DrainsAlone (LackedIn v []) h.base.look ns) (sym none) tt };
}
