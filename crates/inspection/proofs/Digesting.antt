-- An array is read and digested piece after piece.
use Rattle.std.proofs.Common.{◌≡◌, ◌+◌, ◌-◌, ◌≤◌, ℕ, Bool, false, List, [], ◌∷◌, ◌++◌, length, take, drop, Option, None, Result, Err, refl, sym, ap, subst, ◌∙◌, arith}
use Rattle.std.specs.Prelude.{IsTrue, slice_range}
use Rattle.std.proofs.lemmas.Grind.{flat_map-append}
use Rattle.std.proofs.Math.Seq.{take-add, take-length}
use Rattle.sha2.specs.Hashers.{Holds256}
use Rattle.sha2.specs.declared.Sha256.{Sha256}
use Rattle.wol_disk.specs.Disk.{Block, State, IsDisk, bytes_of}
use Rattle.wol_model.specs.Blocks.{after}
use Rattle.wol_model.specs.History.{Entry, Kept, Operation, Read, written_by, worker, writes, AreLegalNext, IsLegalNext}
use Rattle.wol_model.proofs.Overlay.{after_length, after_more, after_none}
use Rattle.wol_promise.specs.Ruled.{Noted, entries_of, last_look}
use Rattle.wol_promise.proofs.OneMore.{entries_more}
use Rattle.spin_model.specs.Spun.{state_of}
use Rattle.logger.specs.declared.shared.Shared.{Shared}
use Rattle.manager.specs.Answers.{was_read}
use Rattle.manager.specs.Causes.{NoneRose}
use Rattle.manager.specs.Reading.{HasOnlyRead, IsReadThrough}
use Rattle.manager.specs.Seen.{look_of_manager}
use Rattle.manager.specs.Stands.{Keeps, Stands, IsReady, IsHome, IsNote, Leaves, nones_at}
use Rattle.manager.specs.declared.base.ManagerBase.{ManagerBase}
use Rattle.manager.specs.declared.manager.Manager.{Manager}
use Rattle.manager.specs.declared.part.Part.{Part}
use Rattle.manager.specs.declared.part.ReadRefusal.{ReadRefusal}
use Rattle.manager.specs.declared.part.ReadRefusal.TheVariants as read
use Rattle.manager.proofs.Calm.{none_home, none_then}
use Rattle.manager.proofs.Frames.{none_passed, stands_kept}
use Rattle.manager.proofs.ReadKeeps.{keeps_read}
use Rattle.manager.proofs.ReadThrough.{through_self, through_then}
use Rattle.inspection.specs.declared.fault.DumpFault.{DumpFault}
use Rattle.inspection.specs.declared.fault.DumpFault.TheVariants.{DiskFault, Down, NoMemory}
use Rattle.inspection.specs.Faults.{refused, was_told}
use Rattle.inspection.specs.Volumes.{array_of}

-- the last of the replies is that of the array that the entries before it leave
last_reply : (a : List Block) (entries : List Entry) (e : Entry) → AreLegalNext a (entries ++ e ∷ []) → IsLegalNext (after a (writes entries)) e.operation
last_reply a [] e legal = subst (λ (x : List Block). IsLegalNext x e.operation) (sym (after_none a)) legal.0
last_reply a (d ∷ entries) e legal =
    subst (λ (x : List Block). IsLegalNext x e.operation) (sym (after_more a (written_by d.operation) (writes entries))) (last_reply (after a (written_by d.operation)) entries e legal.1)

module _ {D : Type 0} (tells : Bool) (state : D → State) (m : Manager D) (b : ManagerBase) (notes : List Noted) (k : Keeps tells state m b notes) where
  -- the array has as many blocks as home
  pub array_length : length (array_of b notes) ≡ (state_of state m.home).size
  array_length = after_length b.volume.began.array (writes (entries_of notes)) ∙ k.upholds.began.sized ∙ sym k.upholds.places.home_size

  -- what an answered read gives is that range of the array
  pub reply_is : (new : Manager D) (at : ℕ) (reply : List Block) → IsTrue tells → Leaves tells state m new (Read at reply) [] worker → reply ≡ slice_range (array_of b notes) at (at + length reply)
  reply_is new at reply told leaves =
      let n : Noted = record { entry = record { pass = worker; operation = Read at reply }; look = look_of_manager new; passed = []; after_drain = false; ruled = false } in
      let stands = leaves b notes n refl (record { operation_is = refl; look_is = refl; passed_is = refl; drain = refl; follows = λ ruled. absurd (cc ruled) }) k in
      last_reply b.volume.began.array (entries_of notes) n.entry (subst (AreLegalNext b.volume.began.array) (entries_more notes n) (stands.keeps.upholds.history.replies told))

-- the bytes of a range behind those of the first blocks are those of more first blocks
bytes_more : (a reply : List Block) (at count : ℕ) → at + count ≤ length a → length reply ≡ count → reply ≡ slice_range a at (at + length reply) → bytes_of (take at a) ++ bytes_of reply ≡ bytes_of (take (at + count) a)
bytes_more a reply at count fits long is =
    let cut : at + length reply ≡ at + count = omega (arith, long) in
    let size : at + count - at ≡ count = omega arith in
    let range : reply ≡ take count (drop at a) = is ∙ rw cut (rw size refl) in
    let grown : take at a ++ reply ≡ take (at + count) a = rw range (sym (take-add at count a)) in
    sym (flat_map-append (λ b. b) (take at a) reply) ∙ ap bytes_of grown

-- the manager so far: what it had before, but for flags and passes, and the bytes of the first blocks were taken
pub record HasDigested {D : Type 0} (tells : Bool) (state : D → State) (shared : Shared D) (first now : Manager D) (at : ℕ) (hasher : Sha256) : Type 0 where
  pub ready : IsReady state now
  pub home : IsHome shared now
  pub read : IsReadThrough state first now
  pub calm : NoneRose state first now
  pub within : at ≤ (state_of state first.home).size
  pub message : IsTrue tells → (b : ManagerBase) (notes : List Noted) → Keeps tells state first b notes → Holds256 hasher (bytes_of (take at (array_of b notes)))

-- a Kept more, whether or not a call failed
pub kept_as_it_is : {D : Type 0} (tells : Bool) (state : D → State) (m : Manager D) (b : ManagerBase) (notes : List Noted) (n : Noted) → IsNote (last_look b.volume.began.look notes) Kept [] (look_of_manager m) n → Keeps tells state m b notes → Stands tells state m b (notes ++ n ∷ [])
kept_as_it_is tells state m b notes n note k = stands_kept tells state m b notes n [] note (none_passed (nones_at m.lanes.items b.lanes) notes n note.passed_is k.passed) k

-- a call that had no memory changed nothing
pub told_nothing : {D T : Type 0} (tells : Bool) (state : D → State) (m : Manager D) (result : Result T DumpFault) → result ≡ Err NoMemory → Leaves tells state m m (was_told result) [] worker
told_nothing tells state m result is =
    subst (λ (o : Operation). Leaves tells state m m o [] worker) (sym (ap was_told is)) (λ b notes n client note k. kept_as_it_is tells state m b notes n note k)

module _ {D : Type 0} (tells : Bool) (state : D → State) (sound : (d : D) → IsDisk (state d)) (shared : Shared D) where
  pub digested_none : (first : Manager D) (hasher : Sha256) → IsReady state first → IsHome shared first → Holds256 hasher [] → HasDigested tells state shared first first 0 hasher
  digested_none first hasher ready home holds = record {
    ready = ready;
    home = home;
    read = through_self state sound first;
    calm = none_home state first first ready refl refl;
    within = omega arith;
    message = λ told b notes k. holds;
  }

  module _ (first now : Manager D) (at : ℕ) (hasher : Sha256) (up : first.down ≡ None) (h : HasDigested tells state shared first now at hasher) where
    keeps_now : (b : ManagerBase) (notes : List Noted) → Keeps tells state first b notes → Keeps tells state now b notes
    keeps_now b notes k = keeps_read tells state first now b notes h.read h.ready up k

    pub up_now : now.down ≡ None
    up_now = h.read.down ∙ up

    -- readers see no change
    pub digested_kept : Leaves tells state first now Kept [] worker
    digested_kept b notes n client note k = kept_as_it_is tells state now b notes n note (keeps_now b notes k)

    pub digested_only_read : HasOnlyRead state first now
    digested_only_read = subst (IsReadThrough state first) (λ i. record now { down = h.read.down i }) h.read

    module _ (next : Manager D) where
      -- a read that failed
      pub digested_broke : (reply : List Block) (why : ReadRefusal) → Leaves tells state now next (was_read at reply (Err why)) [] worker → ((p : Part) → why ≡ read.Down p → ⊥) → Leaves tells state first next (was_told {T = Unit {0}} (Err (refused why))) [] worker
      digested_broke reply (read.DiskFault p) leaves not_down b notes n client note k = leaves b notes n client note (keeps_now b notes k)
      digested_broke reply (read.Down p) leaves not_down b notes n client note k = absurd (not_down p refl)

      pub then_only_read : HasOnlyRead state now next → HasOnlyRead state first next
      then_only_read only = subst (λ (down : Option Part). IsReadThrough state first (record next { down = down })) h.read.down (through_then state sound first now (record next { down = now.down }) h.read only)

      -- one read more
      pub digested_more : (count : ℕ) (hasher' : Sha256) (reply : List Block) → IsReady state next → IsHome shared next → HasOnlyRead state now next → NoneRose state now next → next.down ≡ None → Leaves tells state now next (Read at reply) [] worker
          → at + count ≤ (state_of state first.home).size → length reply ≡ count → ((message : List ℕ) → Holds256 hasher message → Holds256 hasher' (message ++ bytes_of reply)) → HasDigested tells state shared first next (at + count) hasher'
      digested_more count hasher' reply ready home only calm up' leaves within long feeds = record {
        ready = ready;
        home = home;
        read = through_then state sound first now next h.read (subst (IsReadThrough state now) (λ i. record next { down = same i }) only);
        calm = none_then state first now next h.read h.calm calm;
        within = within;
        message = λ told b notes k.
            let a = array_of b notes in
            let size = array_length tells state first b notes k in
            let is = reply_is tells state now b notes (keeps_now b notes k) next at reply told leaves in
            subst (Holds256 hasher') (bytes_more a reply at count (omega (arith, size)) long is) (feeds (bytes_of (take at a)) (h.message told b notes k));
      }
        where
          same : now.down ≡ next.down
          same = up_now ∙ sym up'

    -- all blocks were taken
    pub digested_all : at ≡ (state_of state first.home).size → IsTrue tells → (b : ManagerBase) (notes : List Noted) → Keeps tells state first b notes → Holds256 hasher (bytes_of (array_of b notes))
    digested_all all told b notes k =
        let size = array_length tells state first b notes k in
        let whole : take at (array_of b notes) ≡ array_of b notes = ap (λ (n : ℕ). take n (array_of b notes)) (all ∙ sym size) ∙ take-length (array_of b notes) in
        subst (λ (a : List Block). Holds256 hasher (bytes_of a)) whole (h.message told b notes k)

-- a refused read behind the fault of the whole call
pub refused_fault : (why : ReadRefusal) (p : Part) → refused why ≡ DiskFault p → why ≡ read.DiskFault p
refused_fault (read.DiskFault q) p is = ap read.DiskFault (cc is)
refused_fault (read.Down q) p is = absurd (cc is)

pub refused_down : (why : ReadRefusal) (p : Part) → refused why ≡ Down p → why ≡ read.Down p
refused_down (read.DiskFault q) p is = absurd (cc is)
refused_down (read.Down q) p is = ap read.Down (cc is)
