-- The reader of logs gives the one list of records that a log is of.
use Rattle.std.proofs.Common.{◌≡◌, ℕ, zero, suc, ◌≤◌, Bool, true, false, cond, List, [], ◌∷◌, ◌++◌, Option, None, Some, refl, sym, ap, subst, ◌∙◌, arith, eqb, ltb, ◌^◌, ◌&&◌, length, take, drop, append_assoc, take-append-drop, length-take}
use Rattle.std.specs.Prelude.{unwrap_or}
use Rattle.std.specs.List.{flat_map, AllByRecursion}
use Rattle.std.specs.Option.{option_map}
use Rattle.std.proofs.lemmas.Bool.{eqb-true, eq-eqb, lt-ltb, ltb-true}
use Rattle.std.proofs.lemmas.Option.{same_Some, none-some}
use Rattle.std.specs.Str.{bytes_eq}
use Rattle.wol_disk.specs.Disk.{Block}
use Rattle.wol_model.proofs.ReadHeads.{same_bytes, same_from, spelled_back, spelled_from, not_gate}
use Rattle.wol_model.specs.Heads.{RecordHead, head_block, owned_block, gate_block, SpellsRecord}
use Rattle.wol_model.specs.Log.{Record, IsNamed, EndsLog, IsLog, written}
use Rattle.wol_model.specs.Recovered.{spelled_head, followed_by, read_records, read_log}

-- whole records and a rest
record Reads (owner : ℕ) (bs : List Block) (rs : List Record) : Type 0 where
  rest : List Block
  joined : bs ≡ flat_map written rs ++ rest
  named : AllByRecursion (IsNamed owner) rs
  ends : EndsLog rest

passed : (owner n : ℕ) (xs ys : List Block) → length xs ≡ n → read_records owner n (xs ++ ys) ≡ read_records owner 0 ys
passed owner zero [] ys is = refl
passed owner zero (x ∷ xs) ys is = absurd (omega arith)
passed owner (suc n) [] ys is = absurd (omega arith)
passed owner (suc n) (x ∷ xs) ys is = passed owner n xs ys (omega arith)

front : (n : ℕ) (xs ys : List Block) → length xs ≡ n → take n (xs ++ ys) ≡ xs
front zero [] ys is = refl
front zero (x ∷ xs) ys is = absurd (omega arith)
front (suc n) [] ys is = absurd (omega arith)
front (suc n) (x ∷ xs) ys is = let e : length xs ≡ n = omega arith in λ i. x ∷ front n xs ys e i

abbrev count_of : Option RecordHead → ℕ
count_of h = unwrap_or (option_map (λ (r : RecordHead). r.count) h) 0

one_read : (owner : ℕ) (r : Record) (rs : List Record) (more : List Block) → IsNamed owner r → read_records owner 0 more ≡ Some rs → read_records owner 0 (head_block r.head ∷ (r.blocks ++ more)) ≡ Some (r ∷ rs)
one_read owner r rs more named rest =
    let spelled = spelled_back r.head named.in_range in
    ap (λ (t : Bool). cond t (Some []) (chosen (spelled_head (head_block r.head)))) (not_gate r.head)
    ∙ ap chosen spelled
    ∙ ap (λ (o : Option (List Record)). followed_by owner (r.blocks ++ more) (Some r.head) o) (passed owner r.head.count r.blocks more named.counted ∙ rest)
    ∙ ap (λ (t : Bool). cond t (Some (record { head = r.head; blocks = take r.head.count (r.blocks ++ more) } ∷ rs)) None) is_owner
    ∙ (λ i. Some (record { head = r.head; blocks = front r.head.count r.blocks more named.counted i } ∷ rs))
  where
    chosen : Option RecordHead → Option (List Record)
    chosen h = followed_by owner (r.blocks ++ more) h (read_records owner (count_of h) (r.blocks ++ more))

    is_owner : eqb r.head.owner owner ≡ true
    is_owner = rw named.owned (eq-eqb owner owner refl)

records_read : (owner : ℕ) (rs : List Record) (rest : List Block) → AllByRecursion (IsNamed owner) rs → EndsLog rest → read_records owner 0 (flat_map written rs ++ rest) ≡ Some rs
records_read owner [] [] named ends = refl
records_read owner [] (b ∷ rest) named ends = ap (λ (t : Bool). cond t (Some []) other) (ap (λ c. bytes_eq c gate_block) ends ∙ same_bytes gate_block)
  where
    other : Option (List Record)
    other = followed_by owner rest (spelled_head b) (read_records owner (unwrap_or (option_map (λ (r : RecordHead). r.count) (spelled_head b)) 0) rest)
records_read owner (r ∷ rs) rest named ends =
    ap (read_records owner 0) (ap (λ (l : List Block). head_block r.head ∷ l) (append_assoc r.blocks (flat_map written rs) rest))
    ∙ one_read owner r rs (flat_map written rs ++ rest) named.0 (records_read owner rs rest named.1 ends)

-- a log's records are read
pub log_read : (bs : List Block) (owner : ℕ) (rs : List Record) → IsLog bs owner rs → read_log owner bs ≡ Some rs
unfolding read_log
log_read bs owner rs log =
    ap (read_log owner) log.joined
    ∙ ap (λ (t : Bool). cond t (read_records owner 0 (flat_map written rs ++ log.rest)) None) (λ i. lt-ltb owner (2 ^ 32) log.known i && same_bytes (owned_block owner) i)
    ∙ records_read owner rs log.rest log.named log.ends

record Behind (owner n : ℕ) (bs : List Block) (rs : List Record) : Type 0 where
  within : n ≤ length bs
  reads : Reads owner (drop n bs) rs

-- a head and its blocks in front of what is read
one_more : (owner : ℕ) (b : Block) (bs : List Block) (h : RecordHead) (rs : List Record) → SpellsRecord b h → h.owner ≡ owner → Behind owner h.count bs rs → Reads owner (b ∷ bs) (record { head = h; blocks = take h.count bs } ∷ rs)
one_more owner b bs h rs spells is behind = record {
  rest = behind.reads.rest;
  joined = (λ i. spells.bytes i ∷ whole i) ∙ sym (ap (λ (l : List Block). head_block h ∷ l) (append_assoc (take h.count bs) (flat_map written rs) behind.reads.rest));
  named = (record { in_range = spells.in_range; owned = is; counted = omega (arith, length-take h.count bs, behind.within) }, behind.reads.named);
  ends = behind.reads.ends;
}
  where
    whole : bs ≡ take h.count bs ++ (flat_map written rs ++ behind.reads.rest)
    whole = sym (take-append-drop h.count bs) ∙ ap (λ (l : List Block). take h.count bs ++ l) behind.reads.joined

-- what `followed_by` gives
one_from : (owner : ℕ) (b : Block) (bs : List Block) (o : Option RecordHead) (rest : Option (List Record)) (rs : List Record) → spelled_head b ≡ o
    → ((h : RecordHead) → o ≡ Some h → (ss : List Record) → rest ≡ Some ss → Behind owner h.count bs ss)
    → followed_by owner bs o rest ≡ Some rs → Reads owner (b ∷ bs) rs
one_from owner b bs None rest rs o_is behind is = cc
one_from owner b bs (Some h) None rs o_is behind is = nothing (eqb h.owner owner) is
  where
    nothing : (t : Bool) → cond t None None ≡ Some rs → Reads owner (b ∷ bs) rs
    nothing true e = cc
    nothing false e = cc
one_from owner b bs (Some h) (Some ss) rs o_is behind is = at (eqb h.owner owner) refl is
  where
    at : (t : Bool) → eqb h.owner owner ≡ t → cond t (Some (record { head = h; blocks = take h.count bs } ∷ ss)) None ≡ Some rs → Reads owner (b ∷ bs) rs
    at true e s = let same : (record { head = h; blocks = take h.count bs } ∷ ss) ≡ rs = same_Some _ _ s in subst (Reads owner (b ∷ bs)) same (one_more owner b bs h ss (spelled_from b h o_is) (eqb-true h.owner owner e) (behind h refl ss refl))
    at false e s = cc

records_from : (owner n : ℕ) (bs : List Block) (rs : List Record) → read_records owner n bs ≡ Some rs → Behind owner n bs rs
records_from owner zero [] rs is = let same : [] ≡ rs = same_Some _ _ is in record { within = omega arith; reads = subst (Reads owner []) same (record { rest = []; joined = refl; named = tt; ends = tt }) }
records_from owner zero (b ∷ bs) rs is = record { within = omega arith; reads = at (λ n ss. records_from owner n bs ss) (bytes_eq b gate_block) refl is }
  where
    at : ((n : ℕ) (ss : List Record) → read_records owner n bs ≡ Some ss → Behind owner n bs ss) → (t : Bool) → bytes_eq b gate_block ≡ t → cond t (Some []) (followed_by owner bs (spelled_head b) (read_records owner (count_of (spelled_head b)) bs)) ≡ Some rs → Reads owner (b ∷ bs) rs
    at each true e s = let same : [] ≡ rs = same_Some _ _ s in subst (Reads owner (b ∷ bs)) same (record { rest = b ∷ bs; joined = refl; named = tt; ends = same_from b gate_block e })
    at each false e s = one_from owner b bs (spelled_head b) (read_records owner (count_of (spelled_head b)) bs) rs refl (λ h o_is ss rest_is. each h.count ss (ap (λ (n : ℕ). read_records owner n bs) (sym (ap count_of o_is)) ∙ rest_is)) s
records_from owner (suc n) [] rs is = cc
records_from owner (suc n) (b ∷ bs) rs is = let behind = records_from owner n bs rs is in record { within = omega (arith, behind.within); reads = behind.reads }

-- what is read is a log
pub log_from : (bs : List Block) (owner : ℕ) (rs : List Record) → read_log owner bs ≡ Some rs → IsLog bs owner rs
unfolding read_log
log_from [] owner rs is = absurd (none-some rs is)
log_from (b ∷ bs) owner rs is = at (ltb owner (2 ^ 32)) (bytes_eq b (owned_block owner)) refl refl is
  where
    at : (k t : Bool) → ltb owner (2 ^ 32) ≡ k → bytes_eq b (owned_block owner) ≡ t → cond (k && t) (read_records owner 0 bs) None ≡ Some rs → IsLog (b ∷ bs) owner rs
    at true true small e s =
        let reads = (records_from owner 0 bs rs s).reads in
        record { known = ltb-true owner (2 ^ 32) small; rest = reads.rest; joined = λ i. same_from b (owned_block owner) e i ∷ reads.joined i; named = reads.named; ends = reads.ends }
    at true false small e s = absurd (none-some rs s)
    at false t small e s = absurd (none-some rs s)
