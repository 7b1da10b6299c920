-- The blocks of chunks are read one behind the other.
use Rattle.std.proofs.Common.{◌≡◌, ◌<◌, ◌≤◌, ◌+◌, ◌-◌, ℕ, zero, suc, Bool, List, [], ◌∷◌, ◌++◌, length, take, drop, get_or, refl, sym, ap, subst, ◌∙◌, arith}
use Rattle.std.specs.Prelude.{IsTrue, slice_range}
use Rattle.std.specs.List.{AllByRecursion}
use Rattle.std.proofs.lemmas.List.{append-nil, length-take-le, take_more, take_all}
use Rattle.std.proofs.lemmas.List.Sums.{sum_by_push, sum_by-take-le}
use Rattle.std.proofs.lemmas.Slice.{take-put_mid}
use borrow.Rule.Slice.PartMut.{put_mid}
use Rattle.wol_disk.specs.Disk.{State, Block}
use Rattle.spin_model.specs.Spun.{state_of}
use Rattle.wol_promise.specs.Ruled.{Noted}
use Rattle.log_segment.specs.Records.{count_of}
use Rattle.log_segment.specs.declared.item.Item.{Item}
use Rattle.manager.specs.Groups.{IsItemOf, AreItemsOf}
use Rattle.manager.specs.Seen.{look_of_manager}
use Rattle.manager.specs.Stands.{Keeps}
use Rattle.manager.specs.declared.base.ManagerBase.{ManagerBase}
use Rattle.manager.specs.declared.manager.Manager.{Manager}
use Rattle.manager.proofs.ReadRuns.{part_length}
use Rattle.log_cleaner.specs.Cleans.{CanClean}
use Rattle.log_cleaner.specs.Copies.{array_of}
use Rattle.log_cleaner.specs.Steps.{AreRead, HasCopied, HasReadAll}
use Rattle.log_cleaner.proofs.Stepping.{copied_none, copied_then}
use Rattle.log_cleaner.proofs.Together.{read_push}

-- what holds of each item holds of the one at a place
pub item_at : (P : Item → Type 0) (items : List Item) (k : ℕ) (d : Item) → AllByRecursion P items → k < length items → P (get_or items k d)
item_at P [] k d all lt = absurd (omega (arith, lt))
item_at P (i ∷ items) zero d all lt = all.0
item_at P (i ∷ items) (suc k) d all lt = item_at P items k d all.1 (omega (arith, lt))

pub count_next : (items : List Item) (k : ℕ) (d : Item) → k < length items → count_of (take (k + 1) items) ≡ count_of (take k items) + (get_or items k d).count
count_next items k d lt = ap count_of (take_more items k d lt) ∙ sum_by_push (λ (i : Item). i.count) (take k items) (get_or items k d)

-- there is room for the blocks of one more
pub count_within : (items : List Item) (k : ℕ) (d : Item) → k < length items → count_of (take k items) + (get_or items k d).count ≤ count_of items
count_within items k d lt = let e = count_next items k d lt in let s = sum_by-take-le (λ (i : Item). i.count) items (k + 1) in omega (arith, e, s)

-- a chunk of a volume of such a size, for whose blocks there is room behind those that were read
pub record FitsBehind (most size : ℕ) (chunk : Item) (room : List Block) (blocks : ℕ) : Type 0 where
  pub is_item : IsItemOf most size chunk
  pub fits : blocks + chunk.count ≤ length room
  pub long : length (take (blocks + chunk.count - blocks) (drop blocks room)) ≡ chunk.count

pub fits_behind : (most size : ℕ) (items : List Item) (place : ℕ) (d : Item) (room : List Block) (blocks : ℕ) → AreItemsOf most size items → place < length items → blocks ≡ count_of (take place items) → count_of items ≤ length room
    → FitsBehind most size (get_or items place d) room blocks
fits_behind most size items place d room blocks are lt behind enough =
    let inside = count_within items place d lt in
    let fits : blocks + (get_or items place d).count ≤ length room = omega (arith, behind, inside, enough) in
    record { is_item = item_at (IsItemOf most size) items place d are lt; fits = fits; long = part_length blocks (get_or items place d).count room fits }

module _ {D : Type 0} (tells : Bool) (state : D → State) (old : Manager D) (can : CanClean old) where
  -- none was read
  pub read_none : (items : List Item) (room : List Block) → HasReadAll tells state (take 0 items) old old room 0
  read_none items room = record { count = refl; copied = copied_none tells state old can; entries = refl; size = refl; content = λ told b notes k. tt }

  -- one more was read
  pub read_more : (mid new : Manager D) (items : List Item) (place : ℕ) (d : Item) (room out : List Block) (blocks end : ℕ) → place < length items → HasReadAll tells state (take place items) old mid room blocks → end ≡ blocks + (get_or items place d).count → end ≤ length room
      → length out ≡ (get_or items place d).count → HasCopied tells state mid new [] → new.index.entries ≡ mid.index.entries → (state_of state new.home).size ≡ (state_of state mid.home).size
      → (IsTrue tells → (b : ManagerBase) (notes : List Noted) → Keeps tells state mid b notes → out ≡ slice_range (array_of b notes) (get_or items place d).lbn ((get_or items place d).lbn + length out))
      → HasReadAll tells state (take (place + 1) items) old new (put_mid blocks (end - blocks) room out) end
  read_more mid new items place d room out blocks end lt read is within long copied entries size content = record {
    count = let e = count_next items place d lt in let c = read.count in omega (arith, e, c, is);
    copied = copied_then tells state old mid new [] [] can read.copied copied;
    entries = entries ∙ read.entries;
    size = size ∙ read.size;
    content = λ told b notes k.
        let array = array_of b notes in
        let xs = take blocks room in
        let front : length xs ≡ count_of (take place items) = length-take-le blocks room (omega (arith, is, within)) ∙ read.count in
        let pushed = read_push array (take place items) (get_or items place d) xs out (read.content told b notes k) front long (content told b notes (subst (Keeps tells state mid b) (append-nil notes) (read.copied.keeps b notes (look_of_manager mid) k))) in
        subst (AreRead array (take (place + 1) items)) (sym (take-put_mid blocks (end - blocks) room out end (omega (arith, is, long)) (omega (arith, is, within))))
        (subst (λ (js : List Item). AreRead array js (xs ++ out)) (sym (take_more items place d lt)) pushed);
  }

  -- all were read
  pub read_whole : (new : Manager D) (items : List Item) (place : ℕ) (room : List Block) (blocks : ℕ) → length items ≤ place → HasReadAll tells state (take place items) old new room blocks → HasReadAll tells state items old new room blocks
  read_whole new items place room blocks le read = subst (λ (js : List Item). HasReadAll tells state js old new room blocks) (take_all place items le) read
