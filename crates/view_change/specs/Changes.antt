-- A change of a view: what becomes of its ids, when it is refused, and what the part of label and
-- view shows meanwhile.
use Rattle.std.specs.Prelude.{◌≡◌, ◌≢◌, ◌⊎◌, ◌<◌, ◌≤◌, ◌==◌, ◌++◌, ℕ, not, List, [], ◌∷◌, length, filter, Some, option_map, Contains, Result, Ok, Err}
use Rattle.wol_disk.specs.Disk.{AddsSomeOf, Block, Values, State, IsImageOf, reads, settled}
use Rattle.wol_model.specs.Heads.{Shape, view_block}
use Rattle.logger_view.specs.Stored.{HasLabel, HasView, IsFirstFault, with_view}
use Rattle.logger_view.specs.declared.loading.ViewFault.{ViewFault}
use Rattle.logger_view.specs.declared.loading.ViewFault.TheVariants as load
use Rattle.view_change.specs.declared.answers.Change.{Change}
use Rattle.view_change.specs.declared.answers.Change.TheVariants.{Add, Remove}
use Rattle.view_change.specs.declared.answers.ChangeRefusal.{ChangeRefusal}
use Rattle.view_change.specs.declared.answers.ChangeRefusal.TheVariants.{Unknown, Itself, Already, NotThere, ViewFull, Damaged, Failed}

-- ---- Ids

-- the logger that a change is about
abbrev pub id_of : Change → ℕ
id_of (Add id) = id
id_of (Remove id) = id

-- the new view: what is added stands last, and what is taken out leaves the others in their order
abbrev pub changed : Change → List ℕ → List ℕ
changed (Add id) ids = ids ++ id ∷ []
changed (Remove id) ids = filter (λ other. not (other == id)) ids

-- the view can be changed so
abbrev pub Allows : List ℕ → Change → Type 0
Allows ids (Add id) = (Contains ids id → ⊥) × (length ids < 16)
Allows ids (Remove id) = Contains ids id

-- the view can't be changed so, for this
abbrev pub RefusesView : List ℕ → Change → ChangeRefusal → Type 0
RefusesView ids (Add id) (Already other) = (other ≡ id) × Contains ids id
RefusesView ids (Add id) ViewFull = (Contains ids id → ⊥) × (length ids ≡ 16)
RefusesView ids (Remove id) (NotThere other) = (other ≡ id) × (Contains ids id → ⊥)
RefusesView ids change refusal = ⊥

-- ---- Answers

-- the logger is another one of so many volumes
abbrev pub IsAsked : (own volumes : ℕ) → Change → Type 0
IsAsked own volumes change = (id_of change < volumes) × (id_of change ≢ own)

-- why label and view could not be loaded
abbrev pub refusal_of_load : ViewFault → ChangeRefusal
refusal_of_load (load.Damaged block) = Damaged block
refusal_of_load load.Failed = Failed

-- the blocks are a label, and a view of these loggers, which are others than the volume
pub record IsLoaded (own : ℕ) (bs : List Block) (ids : List ℕ) : Type 0 where
  pub labelled : (id : ℕ) × (shape : Shape) × HasLabel bs id shape
  pub view : HasView bs ids
  pub others : Contains ids own → ⊥

-- the view that the blocks have can't be changed so, for this
abbrev pub RefusesLoaded : (own volumes : ℕ) → Change → List Block → ChangeRefusal → Type 0
RefusesLoaded own volumes change bs refusal =
    IsAsked own volumes change × (ids : List ℕ) × IsLoaded own bs ids
    × RefusesView ids change refusal

-- what is answered where the part reads as these blocks
abbrev pub Answers : (own volumes : ℕ) → Change → List Block → Result (List ℕ) ChangeRefusal
    → Type 0
Answers own volumes change bs (Ok new) =
    IsAsked own volumes change × (ids : List ℕ) × IsLoaded own bs ids × Allows ids change
    × (new ≡ changed change ids)
Answers own volumes change bs (Err (Unknown id)) = (id ≡ id_of change) × (volumes ≤ id_of change)
Answers own volumes change bs (Err Itself) = (id_of change < volumes) × (id_of change ≡ own)
Answers own volumes change bs (Err (Damaged block)) =
    IsAsked own volumes change × IsFirstFault own bs block
Answers own volumes change bs (Err Failed) = IsAsked own volumes change
Answers own volumes change bs (Err (Already id)) = RefusesLoaded own volumes change bs (Already id)
Answers own volumes change bs (Err (NotThere id)) =
    RefusesLoaded own volumes change bs (NotThere id)
Answers own volumes change bs (Err ViewFull) = RefusesLoaded own volumes change bs ViewFull

-- ---- Moments

-- the label as the disk reads, and the new view of the view that it reads
pub record ShowsChange (own : ℕ) (change : Change) (d : State) (c : List Block) : Type 0 where
  pub vs : List (Values Block)
  pub told : d.values ≡ Some vs
  pub ids : List ℕ
  pub loaded : IsLoaded own (reads vs) ids
  pub allowed : Allows ids change
  pub is : c ≡ with_view (changed change ids) (reads vs)

-- an image of the disk, or that
abbrev pub MayShow : (own : ℕ) → Change → State → List Block → Type 0
MayShow own change d c = IsImageOf d.values c ⊎ ShowsChange own change d c

-- ---- What is left

-- nothing was written, but that a sync may have been done
abbrev pub IsUnwritten : (old new : State) → Type 0
IsUnwritten old new =
    (new.values ≡ old.values) ⊎ (new.values ≡ option_map settled old.values)

-- The store of the view with the change failed, behind a load: the view that was read can be changed
-- so, and block 1 may have the new view besides.
pub record FailsInStore (own : ℕ) (change : Change) (old new : State) : Type 0 where
  pub ids : List ℕ
  pub loaded : (vs : List (Values Block)) → old.values ≡ Some vs → IsLoaded own (reads vs) ids
  pub allowed : Allows ids change
  pub left : AddsSomeOf 1 (view_block (changed change ids) ∷ []) (option_map settled old.values)
      new.values
