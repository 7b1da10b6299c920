-- Walking from head to head.
use Rattle.std.proofs.Common.{◌≡◌, ◌≢◌, ℕ, ◌+◌, ◌<◌, ◌≤◌, ◌^◌, List, [], ◌∷◌, ◌++◌, length, take, drop, refl, sym, ◌∙◌, ap, subst, arith, append_assoc, take-append-drop, length-append, length-drop}
use Rattle.std.specs.List.{flat_map, AllByRecursion}
use Rattle.std.proofs.lemmas.Grind.{flat_map-append}
use Rattle.std.proofs.lemmas.List.{length-take-le, drop-drop, append-nil, take_at}
use Rattle.wol_disk.specs.Disk.{Block}
use Rattle.wol_model.specs.Heads.{RecordHead, Free, Owned, SpellsRecord, head_block, free_block, owned_block, gate_block}
use Rattle.wol_model.specs.Log.{Record, IsNamed, IsIdle, IsLog, EndsLog, StandsBehind, written}
use Rattle.wol_model.proofs.Spellings.{one_record_head, one_segment_head, gate_is_no_head}
use Rattle.log_layout.specs.Values.{record_head}
use Rattle.log_scan.specs.declared.Found.{Found}
use Rattle.log_scan.specs.Scan.{IsFaultAt, IsDamaged, HasNoHead}
use Rattle.log_scan.specs.Reading.{IsGateAt, IsHeadAt, IsReading}
use Rattle.log_scan.proofs.Placed.{placed_push, all_push}

-- a head more
pub one_more : (bs : List Block) (owner at : ℕ) (found : List Found) (f : Found) → IsReading bs owner at found → IsHeadAt bs owner at (record_head f.head) → f.pos ≡ at → IsReading bs owner (at + 1 + f.head.count) (found ++ f ∷ [])
one_more bs owner at found f r a place =
    let h = record_head f.head in
    let xs = take h.count a.rest in
    let q : Record = record { head = h; blocks = xs } in
    let front = owned_block owner ∷ flat_map written r.rs in
    let size : length xs ≡ h.count = length-take-le h.count a.rest a.fits in
    let left : drop (at + 1 + h.count) bs ≡ drop h.count a.rest = sym (drop-drop h.count (at + 1) bs) ∙ ap (drop h.count) (sym (drop-drop 1 at bs) ∙ ap (λ (l : List Block). drop 1 l) a.here) in
    let more : flat_map written (r.rs ++ q ∷ []) ≡ flat_map written r.rs ++ (head_block h ∷ xs) = flat_map-append written r.rs (q ∷ []) ∙ ap (λ (l : List Block). flat_map written r.rs ++ (head_block h ∷ l)) (append-nil xs) in
    record {
      known = r.known;
      rs = r.rs ++ q ∷ [];
      joined =
          r.joined ∙ ap (λ l. front ++ l) (a.here ∙ ap (λ l. head_block h ∷ l) (sym (take-append-drop h.count a.rest)))
          ∙ sym (append_assoc front (head_block h ∷ xs) (drop h.count a.rest))
          ∙ ap (λ l. (owned_block owner ∷ l) ++ drop h.count a.rest) (sym more)
          ∙ ap (λ l. (owned_block owner ∷ flat_map written (r.rs ++ q ∷ [])) ++ l) (sym left);
      place = omega (arith, r.place, size, ap length more, length-append (flat_map written r.rs) (head_block h ∷ xs));
      named = all_push (IsNamed owner) r.rs q r.named (record { in_range = a.in_range; owned = a.owned; counted = size });
      placed = placed_push 1 r.rs q found f r.placed (omega (arith, place, r.place)) refl;
    }

-- a gate, or the segment's end
pub gate_ends : (bs : List Block) (owner at : ℕ) (found : List Found) → (r : IsReading bs owner at found) → IsGateAt bs at → IsLog bs owner r.rs
gate_ends bs owner at found r a = record { known = r.known; rest = drop at bs; joined = r.joined; named = r.named; ends = subst EndsLog (sym a.here) refl }

pub end_ends : (bs : List Block) (owner at : ℕ) (found : List Found) → (r : IsReading bs owner at found) → length bs ≤ at → IsLog bs owner r.rs
end_ends bs owner at found r le = record { known = r.known; rest = drop at bs; joined = r.joined; named = r.named; ends = none (drop at bs) (omega (arith, length-drop at bs, le)) }
  where
    none : (l : List Block) → length l ≤ 0 → EndsLog l
    none [] le = tt
    none (x ∷ l) le = absurd (omega arith)

-- what was read stands in front of the place
pub stands_behind : (bs : List Block) (owner at : ℕ) (found : List Found) → (r : IsReading bs owner at found) → StandsBehind bs at owner r.rs
stands_behind bs owner at found r =
    let front = owned_block owner ∷ flat_map written r.rs in
    let size : length front ≡ at = omega (arith, r.place) in
    record {
      known = r.known;
      named = r.named;
      front = ap (take at) r.joined ∙ take_at front (drop at bs) at (omega (arith, size));
      within = omega (arith, ap length r.joined, length-append front (drop at bs), size);
    }

split_append : {A : Type 0} (a b x y : List A) → length a ≡ length b → a ++ x ≡ b ++ y → (a ≡ b) × (x ≡ y)
split_append [] [] x y e p = (refl, p)
split_append [] (b ∷ m) x y e p = absurd (omega arith)
split_append (a ∷ l) [] x y e p = absurd (omega arith)
split_append (a ∷ l) (b ∷ m) x y e p =
    let first : a ≡ b = cc in
    let more : l ++ x ≡ m ++ y = cc in
    let rest = split_append l m x y (omega arith) more in
    ((λ i. first i ∷ rest.0 i), rest.1)

-- no reading goes on at a fault
no_way : (owner : ℕ) (rs qs : List Record) (block : Block) (rest more : List Block) → AllByRecursion (IsNamed owner) rs → AllByRecursion (IsNamed owner) qs → EndsLog more → block ≢ gate_block
    → ((h : RecordHead) → SpellsRecord block h → h.owner ≡ owner → h.count ≤ length rest → ⊥) → flat_map written rs ++ (block ∷ rest) ≡ flat_map written qs ++ more → ⊥
no_way owner [] [] block rest more named other ends no_gate no_head e = no_gate (subst EndsLog (sym e) ends)
no_way owner [] (q ∷ qs) block rest more named other ends no_gate no_head e =
    let first : block ≡ head_block q.head = cc in
    let later : rest ≡ (q.blocks ++ flat_map written qs) ++ more = cc in
    no_head q.head (record { in_range = other.0.in_range; bytes = first }) other.0.owned (omega (arith, other.0.counted, ap length later, length-append (q.blocks ++ flat_map written qs) more, length-append q.blocks (flat_map written qs)))
no_way owner (r ∷ rs) [] block rest more named other ends no_gate no_head e =
    gate_is_no_head r.head (record { in_range = named.0.in_range; bytes = sym (subst EndsLog (sym e) ends) })
no_way owner (r ∷ rs) (q ∷ qs) block rest more named other ends no_gate no_head e =
    let first : head_block r.head ≡ head_block q.head = cc in
    let later : (r.blocks ++ flat_map written rs) ++ (block ∷ rest) ≡ (q.blocks ++ flat_map written qs) ++ more = cc in
    let heads = one_record_head (head_block r.head) r.head q.head (record { in_range = named.0.in_range; bytes = refl }) (record { in_range = other.0.in_range; bytes = first }) in
    let counts : length r.blocks ≡ length q.blocks = named.0.counted ∙ ap (λ (h : RecordHead). h.count) heads ∙ sym other.0.counted in
    let parts = split_append r.blocks q.blocks (flat_map written rs ++ (block ∷ rest)) (flat_map written qs ++ more) counts (sym (append_assoc r.blocks (flat_map written rs) (block ∷ rest)) ∙ later ∙ append_assoc q.blocks (flat_map written qs) more) in
    no_way owner rs qs block rest more named.1 other.1 ends no_gate no_head parts.1

same_owner : (owner other : ℕ) → owner < 2 ^ 32 → other < 2 ^ 32 → owned_block owner ≡ owned_block other → other ≡ owner
same_owner owner other known too e =
    let heads : Owned owner ≡ Owned other = one_segment_head (owned_block owner) (Owned owner) (Owned other) (record { in_range = known; bytes = refl }) (record { in_range = too; bytes = e }) in
    cc

not_free : (owner : ℕ) → owner < 2 ^ 32 → owned_block owner ≡ free_block → ⊥
not_free owner known e =
    let heads : Owned owner ≡ Free = one_segment_head (owned_block owner) (Owned owner) Free (record { in_range = known; bytes = refl }) (record { in_range = tt; bytes = e }) in
    cc

-- a fault behind heads that were read: the blocks have no reading
pub fault_damaged : (bs : List Block) (owner at : ℕ) (found : List Found) → IsReading bs owner at found → IsFaultAt bs owner at → IsDamaged bs
fault_damaged bs owner at found r a =
    let whole : bs ≡ owned_block owner ∷ (flat_map written r.rs ++ (a.block ∷ a.rest)) = r.joined ∙ ap (λ (l : List Block). owned_block owner ∷ (flat_map written r.rs ++ l)) a.here in
    record {
      no_log = λ other qs l.
          let both : owned_block owner ∷ (flat_map written r.rs ++ (a.block ∷ a.rest)) ≡ owned_block other ∷ (flat_map written qs ++ l.rest) = sym whole ∙ l.joined in
          let first : owned_block owner ≡ owned_block other = cc in
          let later : flat_map written r.rs ++ (a.block ∷ a.rest) ≡ flat_map written qs ++ l.rest = cc in
          let same = same_owner owner other r.known l.known first in
          no_way owner r.rs qs a.block a.rest l.rest r.named (subst (λ (n : ℕ). AllByRecursion (IsNamed n) qs) same l.named) l.ends a.no_gate a.no_head later;
      not_idle = λ i. not_free owner r.known (subst IsIdle whole i);
    }

-- a first block that is no head of a segment
pub headless_damaged : (bs : List Block) → HasNoHead bs → IsDamaged bs
headless_damaged [] none = absurd none
headless_damaged (b ∷ bs) none = record {
  no_log = λ owner rs l. let first : b ≡ owned_block owner = let whole = l.joined in cc in none (Owned owner) (record { in_range = l.known; bytes = first });
  not_idle = λ i. none Free (record { in_range = tt; bytes = i });
}
