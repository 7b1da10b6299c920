-- What a write that was synced leaves of a disk, and what a read found.
use Rattle.std.proofs.Common.{◌≡◌, ℕ, ◌+◌, ◌-◌, true, false, List, [], ◌∷◌, map, take, drop, Option, None, Some, Result, Ok, Err, refl, sym, ap, ◌∙◌, arith}
use Rattle.std.specs.Prelude.{option_map, is_err, MatchResult, OnOk, IfSome, slice_range}
use Rattle.std.specs.List.{range_with_len}
use Rattle.wol_disk.specs.Disk.{Block, Values, added, only, put, reads, settled}
use Rattle.wol_disk.proofs.Calls.{synced_write}
use Rattle.wol_disk.proofs.Images.{reads_only}
use Rattle.wol_model.specs.Blocks.{after}
use Rattle.wol_model.specs.Trace.{Request, mark, payload, payload_block, payloads}
use Rattle.wol_model.specs.declared.trace.Kind.TheVariants as kind
use Rattle.wol_model.proofs.Arrays.{after_put}
use Rattle.solo.specs.Served.{IsSettled, content_of, content_after}
use Rattle.solo.specs.Texts.{AreMarks}
use Rattle.solo.proofs.Marks.{read_marks}

-- what holds at `Ok`
pub on_ok : {T E : Type 0} (r : Result T E) (P : Type 0) → false ≡ is_err r → OnOk r P → P
on_ok (Ok x) P is h = h
on_ok (Err e) P is h = absurd (cc is)

pub on_err : {T E : Type 0} (r : Result T E) (P : T → Type 0) (Q : Type 0) → true ≡ is_err r → MatchResult r P (λ _. Q) → Q
on_err (Ok x) P Q is h = absurd (cc is)
on_err (Err e) P Q is h = h

pub match_ok : {T E : Type 0} (r : Result T E) (P : Type 0) (Q : E → Type 0) → false ≡ is_err r → MatchResult r (λ _. P) Q → P
match_ok (Ok x) P Q is h = h
match_ok (Err e) P Q is h = absurd (cc is)

one_payload : (r : Request) → r.kind ≡ kind.Write → r.volume ≡ 0 → payloads 0 (r ∷ []) ≡ payload r ∷ []
one_payload r is on = rw (is, on) refl

stored_in : (r : Request) (blocks : List Block) (vs : List (Values Block)) → r.kind ≡ kind.Write → r.volume ≡ 0 → blocks ≡ map (payload_block r.line) (range_with_len r.first r.count)
    → reads (only (put r.first blocks (reads vs))) ≡ after (reads vs) (payloads 0 (r ∷ []))
stored_in r blocks vs is on filled =
    reads_only (put r.first blocks (reads vs))
    ∙ ap (λ (bs : List Block). put r.first bs (reads vs)) filled
    ∙ sym (after_put (reads vs) (payload r))
    ∙ ap (after (reads vs)) (sym (one_payload r is on))

pub stored : (r : Request) (blocks : List Block) (old mid new : Option (List (Values Block))) → r.kind ≡ kind.Write → r.volume ≡ 0 → blocks ≡ map (payload_block r.line) (range_with_len r.first r.count)
    → mid ≡ option_map (added r.first blocks) old → new ≡ option_map settled mid → content_of new ≡ content_after (r ∷ []) (content_of old)
stored r blocks None mid new is on filled wrote synced = ap content_of (synced_write r.first blocks None mid new wrote synced)
stored r blocks (Some vs) mid new is on filled wrote synced =
    ap content_of (synced_write r.first blocks (Some vs) mid new wrote synced) ∙ ap Some (stored_in r blocks vs is on filled)

-- the mark of what was read
found_mark : (r : Request) (blocks : List Block) (values : Option (List (Values Block))) (found count : ℕ) → count ≡ r.count
    → IfSome values (λ vs. blocks ≡ take count (drop r.first (reads vs))) → found ≡ mark blocks
    → (a : List Block) → content_of values ≡ Some a → found ≡ mark (slice_range a r.first (r.first + r.count))
found_mark r blocks None found count long read is a told = absurd (cc told)
found_mark r blocks (Some vs) found count long read is a told =
    let array : reads vs ≡ a = cc told in
    let size : r.first + r.count - r.first ≡ r.count = omega arith in
    rw (is, read, long, array, size) refl

-- it is the mark that the read is to answer
pub marks_read : (r : Request) (blocks : List Block) (values : Option (List (Values Block))) (found count : ℕ) → r.kind ≡ kind.Read → count ≡ r.count
    → IfSome values (λ vs. blocks ≡ take count (drop r.first (reads vs))) → found ≡ mark blocks → AreMarks (content_of values) (r ∷ []) (Some found ∷ [])
marks_read r blocks values found count is long read here = read_marks (content_of values) r found is (found_mark r blocks values found count long read here)

-- a sync leaves each block one value
pub stored_settled : (new mid : Option (List (Values Block))) → new ≡ option_map settled mid → IsSettled new
stored_settled new mid synced = rw synced (one mid) where
  one : (mid : Option (List (Values Block))) → IsSettled (option_map settled mid)
  one None = refl
  one (Some vs) = ap (λ (bs : List Block). Some (only bs)) (sym (reads_only (reads vs)))
