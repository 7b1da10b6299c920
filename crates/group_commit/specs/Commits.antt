-- What becomes of writes that are committed together, with the place of each.
use Rattle.std.specs.Prelude.{◌≡◌, ◌<◌, ◌+◌, ◌++◌, ℕ, Bool, List, [], Result, Ok, Err, IfOk, length, replicate, vec_len, vec_capacity}
use Rattle.std.specs.declared.alloc.Global.{Global}
use Rattle.std.specs.declared.vec.Vec.{Vec}
use Rattle.wol_disk.specs.Disk.{Block, State}
use Rattle.log_segment.specs.declared.item.Item.{Item}
use Rattle.manager.specs.Groups.{HasRun, TellsRun, place_told, ruled_run}
use Rattle.manager.specs.declared.manager.Manager.{Manager}
use Rattle.manager.specs.declared.part.Place.{Place}
use Rattle.manager.specs.declared.part.WriteRefusal.{WriteRefusal}
use Rattle.manager.specs.declared.part.WriteRefusal.TheVariants.{NoMemory}

-- how many were written
abbrev pub count_told : Result (ℕ × Place) WriteRefusal → Result ℕ WriteRefusal
count_told (Ok told) = Ok told.0
count_told (Err refusal) = Err refusal

-- the place of each that was written; they share one
abbrev pub places_told : Result (ℕ × Place) WriteRefusal → List Place
places_told (Ok told) = replicate told.0 told.1
places_told (Err refusal) = []

-- there was no memory for the places: nothing was written, and nothing changed
pub record HasNoRoom {D : Type 0} (items : List Item) (answer : Result ℕ WriteRefusal)
    (places added : Vec Place Global) (old new : Manager D) : Type 0 where
  pub refused : answer ≡ Err NoMemory
  pub full : vec_capacity places < vec_len places + length items
  pub places_ : added.items ≡ places.items
  pub same : new ≡ old

-- some first items were written as a run of the manager's, with this told of it, and the place of
-- each was added
pub record HasCommitted {D : Type 0} (tells : Bool) (state : D → State) (items : List Item)
    (from : List Block) (answer : Result ℕ WriteRefusal) (places added : Vec Place Global)
    (old new : Manager D) : Type 0 where
  pub told : Result (ℕ × Place) WriteRefusal
  pub counts : answer ≡ count_told told
  pub adds : added.items ≡ places.items ++ places_told told
  pub tried : ℕ
  pub run : HasRun tells state items from tried (place_told told) (ruled_run old new items from) old
      new
  pub all : IfOk told (λ t. t.0 ≡ tried)
  pub tells_run : TellsRun state items from (place_told told) old new
