-- For the crates above: what a load and a store say of the disk, of a whole image, and of a view's ids.
use Rattle.std.proofs.Common.{◌≡◌, ◌≢◌, ◌⊎◌, inl, inr, ⊎_elim, ℕ, zero, suc, List, [], ◌∷◌, ◌++◌, Option, None, Some, option_map, sym, ◌∙◌, ap, subst, arith}
use Rattle.std.specs.Prelude.{slice_get, Contains}
use Rattle.std.specs.List.{AllByRecursion}
use Rattle.std.proofs.lemmas.Option.{none-some, same_Some}
use Rattle.wol_disk.specs.Disk.{Block, Values, State, only, settled, reads}
use Rattle.wol_disk.proofs.Images.{reads_only}
use Rattle.wol_disk.proofs.Calls.{settled_only}
use Rattle.wol_model.specs.Heads.{Shape, SpellsLabel, SpellsView}
use Rattle.wol_model.proofs.Spellings.{one_label, one_view}
use Rattle.logger_view.specs.Stored.{HasLabel, HasView, IsFirstFault, IsWithOrWithout}

-- ---- The disk

-- after a load the disk reads as before
pub reads_stay : (old new : Option (List (Values Block))) → (new ≡ old) ⊎ (new ≡ option_map settled old) → option_map reads new ≡ option_map reads old
reads_stay None new way = ⊎_elim (ap (option_map reads)) (ap (option_map reads)) way
reads_stay (Some vs) new way = ⊎_elim (ap (option_map reads)) (λ e. ap (option_map reads) e ∙ ap Some (reads_only (reads vs))) way

-- a store to a disk with one image
pub same_or_changed : (change : List Block → List Block) (d : State) (bs c : List Block) → d.values ≡ Some (only bs) → IsWithOrWithout change d c → (c ≡ bs) ⊎ (c ≡ change bs)
same_or_changed change d bs c e w =
    let same : w.0 ≡ bs = settled_only d.values bs w.0 e w.1 in
    ⊎_elim (λ p. inl (p ∙ same)) (λ p. inr (p ∙ ap change same)) w.2

-- ---- Labels and views

at_most_one : {A : Type 0} (o : Option A) (x y : A) → o ≡ Some x → o ≡ Some y → x ≡ y
at_most_one o x y e f = same_Some x y (sym e ∙ f)

-- the blocks have one label
pub same_label : (bs : List Block) (id other : ℕ) (s t : Shape) → HasLabel bs id s → HasLabel bs other t → (id ≡ other) × (s ≡ t)
same_label bs id other s t one two =
    let same : two.block ≡ one.block = at_most_one (slice_get bs 0) two.block one.block two.first one.first in
    one_label one.block id other s t one.spelled (subst (λ (b : Block). SpellsLabel b other t) same two.spelled)

-- and one view
pub same_view : (bs : List Block) (ids others : List ℕ) → HasView bs ids → HasView bs others → ids ≡ others
same_view bs ids others one two =
    let same : two.block ≡ one.block = at_most_one (slice_get bs 1) two.block one.block two.second one.second in
    one_view one.block ids others one.spelled (subst (λ (b : Block). SpellsView b others) same two.spelled)

in_front : (bs rest : List Block) (k : ℕ) (b : Block) → slice_get bs k ≡ Some b → slice_get (bs ++ rest) k ≡ Some b
in_front [] rest zero b e = absurd (none-some b e)
in_front [] rest (suc k) b e = absurd (none-some b e)
in_front (x ∷ bs) rest zero b e = e
in_front (x ∷ bs) rest (suc k) b e = in_front bs rest k b e

-- a whole image has the label and the view of its first part
pub label_in_front : (bs rest : List Block) (id : ℕ) (s : Shape) → HasLabel bs id s → HasLabel (bs ++ rest) id s
label_in_front bs rest id s l = record { block = l.block; first = in_front bs rest 0 l.block l.first; spelled = l.spelled }

pub view_in_front : (bs rest : List Block) (ids : List ℕ) → HasView bs ids → HasView (bs ++ rest) ids
view_in_front bs rest ids v = record { block = v.block; second = in_front bs rest 1 v.block v.second; spelled = v.spelled }

-- ---- Damage

-- where label and view are there, and the view doesn't name its volume, no block is at fault
pub no_fault : (own : ℕ) (bs : List Block) (id : ℕ) (s : Shape) (ids : List ℕ) (block : ℕ) → HasLabel bs id s → HasView bs ids → (Contains ids own → ⊥) → IsFirstFault own bs block → ⊥
no_fault own bs id s ids block label view others fault =
    ⊎_elim (λ f. f.1 id s label) (λ f. ⊎_elim (λ none. none ids view) (λ n. others (subst (λ (l : List ℕ). Contains l own) (same_view bs n.0 ids n.1 view) n.2)) f.2) fault

-- and else one block is the first at fault
pub one_fault : (own : ℕ) (bs : List Block) (m n : ℕ) → IsFirstFault own bs m → IsFirstFault own bs n → m ≡ n
one_fault own bs m n one two =
    ⊎_elim
    (λ f. ⊎_elim (λ h. f.0 ∙ sym h.0) (λ h. absurd (f.1 h.1.0 h.1.1 h.1.2)) two)
    (λ f. ⊎_elim (λ h. absurd (h.1 f.1.0 f.1.1 f.1.2)) (λ h. f.0 ∙ sym h.0) two)
    one

-- ---- Ids

-- each id of a view that doesn't name this one is another
pub each_other : (own : ℕ) (ids : List ℕ) → (Contains ids own → ⊥) → AllByRecursion (λ id. id ≢ own) ids
each_other own [] none = tt
each_other own (id ∷ ids) none =
    (λ e. none (0, omega arith, e), each_other own ids (λ w. none (suc w.0, omega (arith, w.1), w.2)))
