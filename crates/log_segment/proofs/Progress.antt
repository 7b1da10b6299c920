-- A group half way to the disk: first its blocks, then its heads.
use Rattle.std.proofs.Common.{◌≡◌, ◌⊎◌, ⊎_elim, inl, ℕ, zero, suc, ◌+◌, ◌≤◌, List, [], ◌∷◌, ◌++◌, length, take, drop, Some, refl, sym, ◌∙◌, ap, subst, arith, append_assoc, length-append, length-drop}
use Rattle.std.specs.List.{flat_map}
use Rattle.std.proofs.lemmas.List.{length-take-le}
use Rattle.wol_disk.specs.Disk.{Block, State, IsDisk, IsImageOf, IsBlend, LeavesOnly, put, only}
use Rattle.wol_disk.proofs.Moments.{started, then_leaves}
use Rattle.wol_disk.proofs.Calls.{now_leaves, settled_only}
use Rattle.wol_model.specs.Heads.{head_block, gate_block}
use Rattle.wol_model.specs.Log.{EndsLog, written}
use Rattle.log_segment.specs.declared.item.Item.{Item}
use Rattle.log_segment.specs.Records.{new_head, group_of, count_of}
use Rattle.log_segment.specs.Group.{reads_as, without_heads}
use Rattle.log_segment.proofs.Laid.{put_one, put_stays}
use Rattle.log_segment.proofs.Grouped.{count_more}
use Rattle.log_segment.proofs.Told.{reads_told}

-- some items' blocks are laid behind the front, and the blocks `left` of the items `more` aren't yet
pub record IsLaid (d : State) (front : List Block) (items : List Item) (from : List Block) (more : List Item) (left : List Block) (at : ℕ) : Type 0 where
  pub done : List Block
  pub rest : List Block
  pub place : length done ≡ at
  pub ends : EndsLog rest
  pub now : reads_as d ≡ Some (done ++ rest)
  pub whole : done ++ without_heads more left ≡ front ++ without_heads items from

pub laid_none : {d : State} (front tail : List Block) (items : List Item) (from : List Block) (at : ℕ) → length front ≡ at → d.values ≡ Some (only (front ++ tail)) → EndsLog tail → IsLaid d front items from items from at
laid_none {d} front tail items from at place is ends = record { done = front; rest = tail; place = place; ends = ends; now = reads_told (front ++ tail) d.values is; whole = refl }

-- one item more
pub laid_more : {d new : State} (front : List Block) (items : List Item) (from : List Block) (i : Item) (more : List Item) (left xs after : List Block) (at : ℕ) → (l : IsLaid d front items from (i ∷ more) left at) → xs ≡ take i.count left → after ≡ drop i.count left → i.count ≤ length left
    → ((rest : List Block) × EndsLog rest × (reads_as new ≡ Some (l.done ++ (gate_block ∷ (xs ++ rest))))) → IsLaid new front items from more after (at + 1 + i.count)
laid_more front items from i more left xs after at l own later fits put = record {
  done = l.done ++ (gate_block ∷ xs);
  rest = put.0;
  place = omega (arith, l.place, length-append l.done (gate_block ∷ xs), ap length own, length-take-le i.count left fits);
  ends = put.1;
  now = put.2 ∙ ap Some (sym (append_assoc l.done (gate_block ∷ xs) put.0));
  whole = append_assoc l.done (gate_block ∷ xs) (without_heads more after) ∙ (λ j. l.done ++ (gate_block ∷ (own j ++ without_heads more (later j)))) ∙ l.whole;
}

-- all of them
pub laid_all : {d : State} (front : List Block) (items : List Item) (from left : List Block) (at : ℕ) → IsLaid d front items from [] left at → (rest : List Block) × EndsLog rest × (reads_as d ≡ Some (front ++ (without_heads items from ++ rest)))
laid_all front items from left at l = (l.rest, l.ends, l.now ∙ ap (λ (x : List Block). Some (x ++ l.rest)) (sym (nil l.done) ∙ l.whole) ∙ ap Some (append_assoc front (without_heads items from) l.rest))
  where
    nil : (x : List Block) → x ++ [] ≡ x
    nil [] = refl
    nil (b ∷ x) = ap (λ y. b ∷ y) (nil x)

take_less : (a b : ℕ) (xs ys : List Block) → a ≤ b → take b xs ≡ take b ys → take a xs ≡ take a ys
take_less zero b xs ys le e = refl
take_less (suc a) zero xs ys le e = absurd (omega arith)
take_less (suc a) (suc b) [] [] le e = refl
take_less (suc a) (suc b) [] (y ∷ ys) le e = cc
take_less (suc a) (suc b) (x ∷ xs) [] le e = cc
take_less (suc a) (suc b) (x ∷ xs) (y ∷ ys) le e =
    let first : x ≡ y = cc in
    let more : take b xs ≡ take b ys = cc in
    λ i. first i ∷ take_less a b xs ys (omega arith) more i

-- what stands up to a place stays while blocks are laid behind it
pub front_stays : {start now new : State} (at place : ℕ) (bs : List Block) → at ≤ place → LeavesOnly start now (λ c. take (at + 1) c ≡ take (at + 1) bs) → IsDisk now
    → LeavesOnly now new (λ c. (d : List Block) × IsImageOf now.values d × (take (place + 1) c ≡ take (place + 1) d)) → LeavesOnly start new (λ c. take (at + 1) c ≡ take (at + 1) bs)
front_stays at place bs le so_far sound leaves = then_leaves so_far leaves (λ c w. take_less (at + 1) (place + 1) c w.0 (omega (arith, le)) w.2 ∙ now_leaves so_far sound w.0 w.1)

-- ---- Heads

blend_left : (a f : List Block) → length a ≡ length f → IsBlend a f a
blend_left [] [] e = tt
blend_left [] (y ∷ f) e = absurd (omega arith)
blend_left (x ∷ a) [] e = absurd (omega arith)
blend_left (x ∷ a) (y ∷ f) e = (inl refl, blend_left a f (omega arith))

same_size : (owner version : ℕ) (items : List Item) (from : List Block) → length (without_heads items from) ≡ length (flat_map written (group_of owner version items from))
same_size owner version [] from = refl
same_size owner version (i ∷ items) from =
    let xs = take i.count from in
    omega (arith, same_size owner (version + 1) items (drop i.count from), length-append xs (without_heads items (drop i.count from)), length-append xs (flat_map written (group_of owner (version + 1) items (drop i.count from))))

-- some heads are written; those of the items `more`, of the blocks `left`, aren't yet
pub record IsHeaded (start now : State) (none all : List Block) (owner version at : ℕ) (more : List Item) (rest : List Block) : Type 0 where
  pub done : List Block
  pub left : List Block
  pub place : length done ≡ at
  pub total : count_of more ≡ length left
  pub is : reads_as now ≡ Some (done ++ (without_heads more left ++ rest))
  pub whole : done ++ (flat_map written (group_of owner version more left) ++ rest) ≡ all
  pub moments : LeavesOnly start now (IsBlend none all)

pub headed_none : {d : State} (owner version at : ℕ) (front rest from : List Block) (items : List Item) → IsDisk d → length front ≡ at → count_of items ≡ length from → d.values ≡ Some (only (front ++ (without_heads items from ++ rest)))
    → IsHeaded d d (front ++ (without_heads items from ++ rest)) (front ++ (flat_map written (group_of owner version items from) ++ rest)) owner version at items rest
headed_none {d} owner version at front rest from items sound place total is =
    let none = front ++ (without_heads items from ++ rest) in
    let all = front ++ (flat_map written (group_of owner version items from) ++ rest) in
    let same : length none ≡ length all = omega (arith, length-append front (without_heads items from ++ rest), length-append (without_heads items from) rest, length-append front (flat_map written (group_of owner version items from) ++ rest), length-append (flat_map written (group_of owner version items from)) rest, same_size owner version items from) in
    record {
      done = front;
      left = from;
      place = place;
      total = total;
      is = reads_told none d.values is;
      whole = refl;
      moments = started sound (λ c i. subst (λ (l : List Block). IsBlend none all l) (sym (settled_only d.values none c is i)) (blend_left none all same));
    }

-- one head more: what a stop leaves
pub heads_leave : {start now new : State} (none all : List Block) (owner version at : ℕ) (i : Item) (more : List Item) (rest : List Block) (h : Block) → IsHeaded start now none all owner version at (i ∷ more) rest → IsDisk now → h ≡ head_block (new_head owner version i.lbn i.count)
    → LeavesOnly now new (λ c. (d : List Block) × IsImageOf now.values d × ((c ≡ d) ⊎ (c ≡ put at (h ∷ []) d))) → LeavesOnly start new (IsBlend none all)
heads_leave {start} {now} none all owner version at i more rest h s sound is_head leaves =
    let xs = take i.count s.left in
    let head = head_block (new_head owner version i.lbn i.count) in
    let F = flat_map written (group_of owner (version + 1) more (drop i.count s.left)) in
    let whole : s.done ++ (head ∷ (xs ++ (F ++ rest))) ≡ all = ap (λ l. s.done ++ (head ∷ l)) (sym (append_assoc xs F rest)) ∙ s.whole in
    let stands : put at (h ∷ []) all ≡ all = ap (put at (h ∷ [])) (sym whole) ∙ put_one s.done (xs ++ (F ++ rest)) h head at s.place ∙ ap (λ x. s.done ++ (x ∷ (xs ++ (F ++ rest)))) is_head ∙ whole in
    then_leaves s.moments leaves (λ c w.
    let was : IsBlend none all w.0 = now_leaves s.moments sound w.0 w.1 in
    ⊎_elim (λ same. subst (λ (l : List Block). IsBlend none all l) (sym same) was) (λ put_there. subst (λ (l : List Block). IsBlend none all l) (sym put_there) (put_stays at h none all w.0 was stands)) w.2)

pub headed_more : {start now new : State} (none all : List Block) (owner version at : ℕ) (i : Item) (more : List Item) (rest : List Block) (h : Block) → (s : IsHeaded start now none all owner version at (i ∷ more) rest) → IsDisk now → h ≡ head_block (new_head owner version i.lbn i.count)
    → ((bs : List Block) → reads_as now ≡ Some bs → reads_as new ≡ Some (put at (h ∷ []) bs))
    → LeavesOnly now new (λ c. (d : List Block) × IsImageOf now.values d × ((c ≡ d) ⊎ (c ≡ put at (h ∷ []) d)))
    → IsHeaded start new none all owner (version + 1) (at + 1 + i.count) more rest
headed_more {start} {now} none all owner version at i more rest h s sound is_head reads leaves =
    let xs = take i.count s.left in
    let later = drop i.count s.left in
    let head = head_block (new_head owner version i.lbn i.count) in
    let W = without_heads more later in
    let F = flat_map written (group_of owner (version + 1) more later) in
    let counted = count_more i more (length s.left) s.total in
    record {
      done = s.done ++ (head ∷ xs);
      left = later;
      place = omega (arith, s.place, length-append s.done (head ∷ xs), length-take-le i.count s.left (omega (arith, counted)));
      total = omega (arith, counted, length-drop i.count s.left);
      is = reads (s.done ++ (gate_block ∷ ((xs ++ W) ++ rest))) s.is ∙ ap Some (
          put_one s.done ((xs ++ W) ++ rest) h gate_block at s.place ∙ ap (λ x. s.done ++ (x ∷ ((xs ++ W) ++ rest))) is_head
          ∙ ap (λ l. s.done ++ (head ∷ l)) (append_assoc xs W rest) ∙ sym (append_assoc s.done (head ∷ xs) (W ++ rest)));
      whole = append_assoc s.done (head ∷ xs) (F ++ rest) ∙ ap (λ l. s.done ++ (head ∷ l)) (sym (append_assoc xs F rest)) ∙ s.whole;
      moments = heads_leave none all owner version at i more rest h s sound is_head leaves;
    }

-- all of them
pub headed_all : {start now : State} (none all : List Block) (owner version at : ℕ) (rest : List Block) → IsHeaded start now none all owner version at [] rest → reads_as now ≡ Some all
headed_all none all owner version at rest s = s.is ∙ ap Some s.whole
