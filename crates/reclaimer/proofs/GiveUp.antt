-- What a record gives up, as a step of reclaim.
use Rattle.std.proofs.Common.{◌≡◌, ℕ, zero, suc, Bool, true, false, ◌&&◌, List, [], ◌∷◌, Option, None, Some, Result, Ok, Err, OnOk, OnErr, is_ok, refl, sym, ap, subst, ◌∙◌}
use Rattle.std.specs.Prelude.{filter, find, IsSome, IsNone, IsSomeAnd, is_none, is_some, slice_set, slice_index_or}
use Rattle.std.proofs.lemmas.Bool.{and_parts}
use Rattle.std.proofs.lemmas.Option.{same_Some}
use Rattle.wol_disk.specs.Disk.{State}
use Rattle.wol_model.specs.Index.{Indexed, listed_in, has_going, keeps_a_block}
use Rattle.wol_promise.specs.Policy.{IsReclaim, gives_up}
use Rattle.block_cells.specs.declared.record.Rec.{Rec}
use Rattle.redirect_map.specs.Index.{Contents, entry_at, changed, HasVersion, IsAnswer, IsIndex}
use Rattle.garbage_list.specs.Least.{can_go}
use Rattle.manager.specs.Reclaim.{OnTried, TellsStep, HasDropped, with_kept, given_of}
use Rattle.manager.specs.Seen.{down_of, look_of_manager}
use Rattle.manager.specs.declared.manager.Manager.{Manager}
use Rattle.manager.specs.declared.part.StepFault.{StepFault}
use Rattle.manager.specs.declared.part.StepFault.TheVariants.{DiskFault, Down}
use Rattle.wol_promise.proofs.Lowering.{filter_listed}
use Rattle.reclaimer.specs.Fetches.{going_entry}
use Rattle.reclaimer.specs.Steps.{HasGivenUp}
use Rattle.reclaimer.specs.declared.answers.Gone.{Gone}
use Rattle.reclaimer.specs.declared.answers.Gone.TheVariants.{Version, Trimmed}
use Rattle.garbage_list.proofs.Nexts.{First, first_of_all, least_of, answered}

-- ---- answers

pub some_and : {X : Type 0} (P : X → Type 0) (o : Option X) (x : X) → o ≡ Some x → P x → IsSomeAnd o P
some_and {X} P o x is p = subst (λ (q : Option X). IsSomeAnd q P) (sym is) p

none_of : {X : Type 0} (o : Option X) → true ≡ is_none o → IsNone o
none_of None is = refl
none_of (Some x) is = absurd (let no : true ≡ false = is in cc)

some_of : {X : Type 0} (o : Option X) → false ≡ is_none o → IsSome o
some_of None is = absurd (let no : false ≡ true = is in cc)
some_of (Some x) is = refl

-- what an answer tells, by one that is like it
pub ok_as : {T U E F : Type 0} (P : Type 0) (r : Result T E) (s : Result U F) → is_ok s ≡ is_ok r → OnOk r P → OnOk s P
ok_as P (Ok x) (Ok y) like ok = ok
ok_as P (Ok x) (Err f) like ok = tt
ok_as P (Err e) (Ok y) like ok = absurd (let no : true ≡ false = like in cc)
ok_as P (Err e) (Err f) like ok = tt

pub err_as : {T U E F : Type 0} (P : Type 0) (r : Result T E) (s : Result U F) → is_ok s ≡ is_ok r → OnErr r P → OnErr s P
err_as P (Ok x) (Ok y) like err = tt
err_as P (Ok x) (Err f) like err = absurd (let no : false ≡ true = like in cc)
err_as P (Err e) (Ok y) like err = tt
err_as P (Err e) (Err f) like err = err

pub dropped_as : {D T U : Type 0} (version : ℕ) (e : Indexed) (old new : Manager D) (r : Result T StepFault) (s : Result U StepFault) → is_ok s ≡ is_ok r → HasDropped version e old new r → HasDropped version e old new s
dropped_as version e old new r s like d = record { rest = d.rest; lanes = d.lanes; ok = ok_as _ r s like d.ok; err = err_as _ r s like d.err }

pub done_then : {T E : Type 0} (P : Type 0) (res : Result T E) → is_ok res ≡ true → OnOk res P → P
done_then P (Ok x) done ok = ok
done_then P (Err e) done ok = absurd (let no : false ≡ true = done in cc)

-- ---- looks

-- a flag that is set is set again
pub set_same : (flags : List Bool) (k : ℕ) → slice_index_or flags k false ≡ true → slice_set flags k true ≡ flags
set_same [] k is = absurd (let no : false ≡ true = is in cc)
set_same (x ∷ flags) zero is = λ i. sym is i ∷ flags
set_same (x ∷ flags) (suc k) is = λ i. x ∷ set_same flags k is i

-- ---- the step

-- the entry that is next, as the record that is answered
pub record Going {D : Type 0} (m : Manager D) (r : Rec) : Type 0 where
  pub entry : Indexed
  pub next : going_entry m ≡ Some entry
  pub version : r.version ≡ entry.listed.version
  pub is : entry_at m.index.entries r.version ≡ Some entry
  pub first : First (λ d. slice_index_or m.ups.items d.lane false && has_going (listed_in m.index.entries) d) m.index.entries entry

pub going_of : {D : Type 0} (m : Manager D) (r : Rec) (index : Contents) (ups : List Bool) → index ≡ m.index → ups ≡ m.ups.items → IsIndex index.entries → IsAnswer (find (can_go ups index.entries) index.entries) (Some r) → Going m r
going_of m r index ups same same_ups sound is =
    let a = answered (going_entry m) r (subst (λ (us : List Bool). IsAnswer (find (can_go us m.index.entries) m.index.entries) (Some r)) same_ups (subst (λ (i : Contents). IsAnswer (find (can_go ups i.entries) i.entries) (Some r)) same is)) in
    let f = first_of_all (λ d. slice_index_or m.ups.items d.lane false && has_going (listed_in m.index.entries) d) m.index.entries a.entry (subst (λ (i : Contents). IsIndex i.entries) same sound).rising a.is in
    record { entry = a.entry; next = a.is; version = a.record_.version; is = ap (entry_at m.index.entries) a.record_.version ∙ f.entry; first = f }

pub there_of : {D : Type 0} {m : Manager D} {r : Rec} → Going m r → HasVersion m.index.entries r.version
there_of g = subst (λ (o : Option Indexed). is_some o ≡ true) (sym g.is) refl

-- the record has a block that goes
pub goes_of : {D : Type 0} (m : Manager D) (r : Rec) → Going m r → (e : Indexed) → entry_at m.index.entries r.version ≡ Some e → has_going (listed_in m.index.entries) e.listed ≡ true
goes_of m r g e is = ap (λ (x : Indexed). has_going (listed_in m.index.entries) x.listed) (same_Some e g.entry (sym is ∙ g.is)) ∙ (and_parts (slice_index_or m.ups.items g.entry.listed.lane false) (has_going (listed_in m.index.entries) g.entry.listed) g.first.passes).1

module _ {D : Type 0} (state : D → State) (old new : Manager D) (r : Rec) (g : Going old r) where
  module _ (res : Result Bool StepFault) (done : is_ok res ≡ true) (dropped : (e : Indexed) → entry_at old.index.entries r.version ≡ Some e → HasDropped r.version e old new res) where
    -- the record is gone
    pub given_whole : true ≡ is_none (entry_at new.index.entries r.version) → HasGivenUp (Ok (Version r.version)) old new
    given_whole none = some_and _ (going_entry old) g.entry g.next (g.version, none_of (entry_at new.index.entries r.version) none, dropped_as r.version g.entry old new res (Ok (Version r.version)) (sym done) (dropped g.entry g.is))

    -- or it keeps a block
    pub given_part : false ≡ is_none (entry_at new.index.entries r.version) → HasGivenUp (Ok (Trimmed r.version)) old new
    given_part some = some_and _ (going_entry old) g.entry g.next (g.version, some_of (entry_at new.index.entries r.version) some, dropped_as r.version g.entry old new res (Ok (Trimmed r.version)) (sym done) (dropped g.entry g.is))

    -- the look goes on by a step of reclaim
    pub reclaims : new.down ≡ old.down → IsReclaim (look_of_manager old) (look_of_manager new)
    reclaims down =
        let d = dropped g.entry g.is in
        let spot = g.first.spot in
        let awake = (and_parts (slice_index_or old.ups.items g.entry.listed.lane false) (has_going (listed_in old.index.entries) g.entry.listed) g.first.passes).0 in
        let listed = ap listed_in (done_then _ res done d.ok)
        ∙ ap (λ (v : ℕ). listed_in (given_of v old.index.entries)) g.version
        ∙ filter_listed (changed g.entry.listed.version (with_kept old.index.entries) old.index.entries)
        ∙ ap (filter keeps_a_block) (spot.then_is (with_kept old.index.entries)) in
        gives_up spot.place g.entry.listed (least_of _ old.index.entries g.entry g.first) spot.there
        (ap look_of_manager d.rest ∙ (λ i. record { home_up = old.home_up; ups = set_same old.ups.items g.entry.listed.lane awake i; next = old.next; listed = listed i; down = down_of (down i) }))

  -- a disk call failed
  pub given_fails : (fault : StepFault) → TellsStep {T = Bool} state (Err fault) old new → OnTried {T = Bool} (Err fault) ((e : Indexed) → entry_at old.index.entries r.version ≡ Some e → HasDropped {T = Bool} r.version e old new (Err fault)) → HasGivenUp (Err fault) old new
  given_fails (DiskFault p) told dropped =
      let was : Result Bool StepFault = Err (DiskFault p) in let failed : Result Gone StepFault = Err (DiskFault p) in
      some_and _ (going_entry old) g.entry g.next (subst (λ (v : ℕ). HasDropped v g.entry old new failed) g.version (dropped_as r.version g.entry old new was failed refl (dropped g.entry g.is)))
  given_fails (Down p) told dropped = told.1
