-- What a disk reads as, from call to call.
use Rattle.std.proofs.Common.{◌≡◌, ℕ, List, length, Option, None, Some, option_map, refl, sym, ◌∙◌, ap}
use Rattle.std.proofs.lemmas.Option.{none-some, same_Some}
use Rattle.wol_disk.specs.Disk.{Block, Values, State, IsDisk, reads, only, put, added, settled}
use Rattle.wol_disk.proofs.Images.{reads_added, reads_only}
use Rattle.log_segment.specs.Group.{reads_as}
use Rattle.log_segment.proofs.Headed.{length-told}

read_added : (at : ℕ) (xs : List Block) (old new : Option (List (Values Block))) → new ≡ option_map (added at xs) old → option_map reads new ≡ option_map (put at xs) (option_map reads old)
read_added at xs None new e = ap (option_map reads) e
read_added at xs (Some vs) new e = ap (option_map reads) e ∙ ap Some (reads_added at xs vs)

-- a write
pub reads_put : (at : ℕ) (xs bs : List Block) (old new : Option (List (Values Block))) → option_map reads old ≡ Some bs → new ≡ option_map (added at xs) old → option_map reads new ≡ Some (put at xs bs)
reads_put at xs bs old new is e = read_added at xs old new e ∙ ap (option_map (put at xs)) is

-- a sync
pub reads_settled : (bs : List Block) (old new : Option (List (Values Block))) → option_map reads old ≡ Some bs → new ≡ option_map settled old → new ≡ Some (only bs)
reads_settled bs None new is e = absurd (none-some bs is)
reads_settled bs (Some vs) new is e = e ∙ ap (λ (l : List Block). Some (only l)) (same_Some (reads vs) bs is)

pub reads_told : (bs : List Block) (o : Option (List (Values Block))) → o ≡ Some (only bs) → option_map reads o ≡ Some bs
reads_told bs o e = ap (option_map reads) e ∙ ap Some (reads_only bs)

size_of : (bs : List Block) (o : Option (List (Values Block))) (n : ℕ) → option_map reads o ≡ Some bs → ((vs : List (Values Block)) → o ≡ Some vs → length vs ≡ n) → length bs ≡ n
size_of bs None n is each = absurd (none-some bs is)
size_of bs (Some vs) n is each = ap length (sym (same_Some (reads vs) bs is)) ∙ length-told vs ∙ each vs refl

pub reads_size : (bs : List Block) {d : State} → IsDisk d → reads_as d ≡ Some bs → length bs ≡ d.size
reads_size bs {d} sound is = size_of bs d.values d.size is sound.each_block
