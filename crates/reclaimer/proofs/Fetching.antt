-- The record that is fetched.
use Rattle.std.proofs.Common.{◌≡◌, ◌<◌, ◌≤◌, ◌+◌, ◌-◌, ℕ, Bool, true, false, cond, not, ◌&&◌, List, ◌++◌, length, take, drop, Option, None, Some, Ok, Err, refl, sym, ap, subst, ◌∙◌, arith, eqb}
use Rattle.std.specs.Prelude.{find, IsSomeAnd, is_some, slice_index_or}
use Rattle.std.specs.List.{count_by, range_with_len}
use Rattle.std.specs.Option.{option_map_or}
use Rattle.std.proofs.lemmas.Bool.{and_parts, eq-eqb, le-leb, false≢true}
use Rattle.std.proofs.lemmas.Option.{none-some}
use Rattle.wol_disk.specs.Disk.{State, Block}
use Rattle.wol_model.specs.Extents.{has_newer}
use Rattle.wol_model.specs.Index.{Indexed, listed_in, listed_covers, cover_of, is_homed, is_live, is_due, has_due, block_numbers}
use Rattle.wol_model.specs.Log.{has_bit}
use Rattle.wol_model.proofs.Counts.{marked_within, count_lower}
use Rattle.wol_promise.proofs.Covers.{any_found}
use Rattle.block_cells.specs.Masks.{in_mask}
use Rattle.block_cells.specs.declared.record.Rec.{Rec}
use Rattle.redirect_map.specs.Index.{Contents, entry_at, HasVersion, IsAnswer, IsIndex}
use Rattle.garbage_list.specs.Least.{can_go_home}
use Rattle.manager.specs.Reclaim.{OnTried, OnKept, TellsStep, HasFetched}
use Rattle.manager.specs.Seen.{down_of, look_of_manager}
use Rattle.manager.specs.declared.manager.Manager.{Manager}
use Rattle.manager.specs.declared.part.StepFault.{StepFault}
use Rattle.manager.specs.declared.part.StepFault.TheVariants.{DiskFault, Down}
use Rattle.reclaimer.specs.Fetches.{IsFetchOf, FindsDue, due_entry, goes_home, home_count}
use Rattle.reclaimer.specs.Records.{FetchedRecord, record_of}
use Rattle.reclaimer.specs.Steps.{HasFetchedNext}
use Rattle.reclaimer.specs.declared.answers.Fetched.{Fetched}
use Rattle.reclaimer.specs.declared.answers.Fetched.TheVariants as fetched
use Rattle.reclaimer.specs.declared.room.Filled.{Filled}
use Rattle.reclaimer.proofs.GiveUp.{some_and, set_same}
use Rattle.garbage_list.proofs.Nexts.{first_of_all, answered}
use Rattle.reclaimer.proofs.ReadRecord.{front_of}

pub and_of : {X : Type 0} (P : X → Type 0) (o : Option X) (x : X) → IsSomeAnd o P → o ≡ Some x → P x
and_of {X} P o x is same = let Q : Option X → Type 0 = λ q. IsSomeAnd q P in subst Q same is

-- ---- the room

-- an empty fetch is empty whatever its room has
pub stays_empty : (f : Option Filled) (blocks others : List Block) → record_of f blocks ≡ None → record_of f others ≡ None
stays_empty None blocks others is = refl
stays_empty (Some f) blocks others is = absurd (none-some _ (sym is))

-- the whole room was lent
pub lent_back : (len : ℕ) (xs items : List Block) → length xs ≡ len → take len (xs ++ drop (length xs) items) ≡ xs
lent_back len xs items long = front_of len xs (drop (length xs) items) long

-- ---- the entry that is next

pub record DueNext {D : Type 0} (m : Manager D) (r : Rec) : Type 0 where
  pub entry : Indexed
  pub next : due_entry m ≡ Some entry
  pub is : entry_at m.index.entries r.version ≡ Some entry
  pub awake : slice_index_or m.ups.items entry.listed.lane false ≡ true
  pub due : has_due (listed_in m.index.entries) entry.listed ≡ true
  pub home : m.home_up ≡ true
  pub own : entry_at m.index.entries entry.listed.version ≡ Some entry

pub due_of : {D : Type 0} (m : Manager D) (r : Rec) (index : Contents) (ups : List Bool) → m.home_up ≡ true → index ≡ m.index → ups ≡ m.ups.items → IsIndex index.entries → IsAnswer (find (can_go_home ups index.entries) index.entries) (Some r) → DueNext m r
due_of m r index ups up same same_ups sound is =
    let a = answered (find (can_go_home m.ups.items m.index.entries) m.index.entries) r
    (subst (λ (us : List Bool). IsAnswer (find (can_go_home us m.index.entries) m.index.entries) (Some r)) same_ups (subst (λ (i : Contents). IsAnswer (find (can_go_home ups i.entries) i.entries) (Some r)) same is)) in
    let f = first_of_all (λ d. slice_index_or m.ups.items d.lane false && has_due (listed_in m.index.entries) d) m.index.entries a.entry (subst (λ (i : Contents). IsIndex i.entries) same sound).rising a.is in
    record {
      entry = a.entry;
      next = ap (λ (t : Bool). cond t (find (can_go_home m.ups.items m.index.entries) m.index.entries) None) up ∙ a.is;
      is = ap (entry_at m.index.entries) a.record_.version ∙ f.entry;
      awake = (and_parts (slice_index_or m.ups.items a.entry.listed.lane false) (has_due (listed_in m.index.entries) a.entry.listed) f.passes).0;
      due = (and_parts (slice_index_or m.ups.items a.entry.listed.lane false) (has_due (listed_in m.index.entries) a.entry.listed) f.passes).1;
      home = up;
      own = f.entry;
    }

pub due_there : {D : Type 0} (m : Manager D) (r : Rec) → DueNext m r → HasVersion m.index.entries r.version
due_there m r d = subst (λ (o : Option Indexed). is_some o ≡ true) (sym d.is) refl

-- ---- what is due of it

pub some_counted : (p : ℕ → Bool) (first n b : ℕ) → first ≤ b → b < first + n → p b ≡ true → 0 < count_by p (range_with_len first n)
some_counted p first n b le lt is = let more = count_lower (λ k. false) p first n b (λ k no. absurd (false≢true no)) le lt is refl in omega (arith, more)

-- a due block of the record that was fetched goes home
pub due_goes : {D : Type 0} (m : Manager D) (e : Indexed) (f : FetchedRecord) (b : ℕ) → m.home_up ≡ true → entry_at m.index.entries f.version ≡ Some e → IsFetchOf (listed_in m.index.entries) e f → is_due (listed_in m.index.entries) e.listed b ≡ true
    → e.listed.first ≤ b → goes_home m (Some f) b ≡ true
due_goes m e f b up there fetch due le =
    let begins : f.first + (b - f.first) ≡ b = let same = fetch.first in omega arith in
    let from : e.listed.first + (b - f.first) ≡ b = let same = fetch.first in omega arith in
    let bit : has_bit f.due (b - f.first) ≡ true = fetch.due (b - f.first) ∙ ap (is_due (listed_in m.index.entries) e.listed) from ∙ due in
    let masked : in_mask f.first f.due b ≡ true = λ i. le-leb f.first b (let same = fetch.first in omega arith) i && bit i in
    (λ i. up i && (masked i && option_map_or (λ (x : Indexed). eqb x.listed.first f.first && (eqb (length x.listed.keep) (length f.blocks) && is_due (listed_in m.index.entries) x.listed b)) (there i) false))
    ∙ (λ i. eq-eqb e.listed.first f.first (sym fetch.first) i && (eq-eqb (length e.listed.keep) (length f.blocks) (sym fetch.count) i && due i))

-- so some block does
pub some_goes : {D : Type 0} (m : Manager D) (e : Indexed) (f : FetchedRecord) → m.home_up ≡ true → entry_at m.index.entries f.version ≡ Some e → IsFetchOf (listed_in m.index.entries) e f → has_due (listed_in m.index.entries) e.listed ≡ true → 0 < home_count m (Some f)
some_goes m e f up there fetch some =
    let es = listed_in m.index.entries in
    let d = any_found (is_due es e.listed) (block_numbers e.listed) some in
    let live = (and_parts (is_live es e.listed d.item) (not (is_homed e.listed d.item)) d.passes).0 in
    let covered = (and_parts ((cover_of e.listed).covers d.item) (not (has_newer (listed_covers es) e.listed.version d.item)) live).0 in
    let r = marked_within e.listed.first e.listed.keep d.item covered in
    some_counted (goes_home m (Some f)) f.first (length f.blocks) d.item (let same = fetch.first in let le = r.0 in omega arith) (let same = fetch.first in let long = fetch.count in let lt = r.1 in omega arith) (due_goes m e f d.item up there fetch d.passes r.0)

-- ---- the step

-- of a lane that was awake no flag changed
pub fetched_look : {D : Type 0} (old new : Manager D) (lane : ℕ) → slice_index_or old.ups.items lane false ≡ true → HasFetched lane old new → new.down ≡ old.down → look_of_manager new ≡ look_of_manager old
fetched_look old new lane awake f down = ap look_of_manager f.rest ∙ (λ i. record { home_up = old.home_up; ups = set_same old.ups.items lane awake i; next = old.next; listed = listed_in old.index.entries; down = down_of (down i) })

-- nor did one where the manager was down
pub look_of_fault : {D : Type 0} (state : D → State) (old new : Manager D) (T : Type 0) (fault : StepFault) → TellsStep {T = T} state (Err fault) old new → OnKept {T = Fetched} (Err fault) (look_of_manager new ≡ look_of_manager old)
look_of_fault state old new T (DiskFault p) told = tt
look_of_fault state old new T (Down p) told = ap look_of_manager told.1

module _ {D : Type 0} (state : D → State) (old new : Manager D) (r : Rec) (d : DueNext old r) where
  pub next_fetched : (f : Filled) (blocks : List Block) (into : Option FetchedRecord) → into ≡ record_of (Some f) blocks
      → IsSomeAnd (entry_at old.index.entries r.version) (λ e. IsSomeAnd (record_of (Some f) blocks) (IsFetchOf (listed_in old.index.entries) e) × (f.count ≡ length e.listed.keep))
      → ((e : Indexed) → entry_at old.index.entries r.version ≡ Some e → HasFetched e.listed.lane old new) → HasFetchedNext (Ok (fetched.Some f.version f.count)) old new into
  next_fetched f blocks into is filled was =
      let e = and_of _ (entry_at old.index.entries r.version) d.entry filled d.is in
      some_and _ (due_entry old) d.entry d.next (e.0.version, e.1, subst (λ (o : Option FetchedRecord). IsSomeAnd o (IsFetchOf (listed_in old.index.entries) d.entry)) (sym is) e.0, was d.entry d.is)

  pub finds_due : (f : Filled) (blocks : List Block) (into : Option FetchedRecord) → into ≡ record_of (Some f) blocks
      → IsSomeAnd (entry_at old.index.entries r.version) (λ e. IsSomeAnd (record_of (Some f) blocks) (IsFetchOf (listed_in old.index.entries) e) × (f.count ≡ length e.listed.keep))
      → ((e : Indexed) → entry_at old.index.entries r.version ≡ Some e → HasFetched e.listed.lane old new) → FindsDue (Ok (fetched.Some f.version f.count)) new into
  finds_due f blocks into is filled was =
      let got : FetchedRecord = record { version = f.version; first = f.lbn; due = f.due; blocks = take f.count blocks } in
      let e = and_of _ (entry_at old.index.entries r.version) d.entry filled d.is in
      let there : entry_at old.index.entries f.version ≡ Some d.entry = ap (entry_at old.index.entries) e.0.version ∙ d.own in
      let some = some_goes old d.entry got d.home there e.0 d.due in
      let same : home_count new (Some got) ≡ home_count old (Some got) = ap (λ (k : Manager D). home_count k (Some got)) (was d.entry d.is).rest in
      subst (λ (o : Option FetchedRecord). 0 < home_count new o) (sym is) (omega (arith, some, same))

  pub not_fetched : (T : Type 0) (fault : StepFault) (into : Option FetchedRecord) → into ≡ None → TellsStep {T = T} state (Err fault) old new
      → OnTried {T = T} (Err fault) ((e : Indexed) → entry_at old.index.entries r.version ≡ Some e → HasFetched e.listed.lane old new) → HasFetchedNext (Err fault) old new into
  not_fetched T (DiskFault p) into none told was = (none, some_and _ (due_entry old) d.entry d.next (was d.entry d.is))
  not_fetched T (Down p) into none told was = (none, told.1)
