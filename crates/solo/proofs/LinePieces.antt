-- The pieces of a line, one after another.
use Rattle.std.proofs.Common.{◌≡◌, ℕ, zero, suc, ◌+◌, ◌-◌, ◌/◌, ◌%◌, ◌≤◌, Bool, true, false, List, [], ◌∷◌, ◌++◌, length, map, Option, refl, sym, ap, ◌∙◌, append_assoc, arith, length-append}
use Rattle.std.specs.Prelude.{if◌then◌else◌, ◌==◌, min, All}
use Rattle.std.proofs.lemmas.List.{map-append}
use Rattle.std.proofs.lemmas.List.Elements.{All-head, All-tail}
use Rattle.wol_disk.specs.Disk.{Block, Values}
use Rattle.wol_model.specs.declared.trace.Kind.{Kind}
use Rattle.wol_model.specs.declared.trace.Piece.{Piece}
use Rattle.wol_model.specs.Trace.{TraceLine, blocks_touched, cut_run, pieces}
use Rattle.msr_trace.specs.Lines.{Fits}
use Rattle.solo.specs.declared.fault.Fault.{Fault}
use Rattle.solo.specs.Requests.{piece_request}
use Rattle.solo.specs.Served.{Answered, LeftBy, content_after}
use Rattle.solo.proofs.Answering.{answered_both, left_after, left_before}
use Rattle.solo.proofs.Marks.{OnVolume, content_both}
use Rattle.wol_model.specs.TraceLaws.{LiesIn}

-- a line has no more pieces than blocks
few_cut : (fuel home most first count : ℕ) → length (cut_run fuel home most first count) ≤ fuel
few_cut zero home most first count = omega arith
few_cut (suc fuel) home most first count =
    go (count == 0) (few_cut fuel home most ((first + min count (min most (home - first))) % home) (count - min count (min most (home - first)))) where
      go : (b : Bool) → length (cut_run fuel home most ((first + min count (min most (home - first))) % home) (count - min count (min most (home - first)))) ≤ fuel
          → length (if b then [] else record { lbn = first; count = min count (min most (home - first)) } ∷ cut_run fuel home most ((first + min count (min most (home - first))) % home) (count - min count (min most (home - first)))) ≤ suc fuel
      go true few = omega arith
      go false few = omega (arith, few)

few_touched : (line : TraceLine) → Fits line → blocks_touched line ≤ 131073
few_touched line fits = omega (arith, fits.size)

pub few_pieces : (home : ℕ) (line : TraceLine) → Fits line → length (pieces home 128 line) ≤ 131073
unfolding pieces
few_pieces home line fits = go (line.size == 0) where
  go : (b : Bool) → length (if b then [] else cut_run (blocks_touched line) home 128 (line.offset / 512 % home) (blocks_touched line)) ≤ 131073
  go true = omega arith
  go false = omega (arith, few_cut (blocks_touched line) home 128 (line.offset / 512 % home) (blocks_touched line), few_touched line fits)

-- all are on the volume
pub on_line : (number : ℕ) (kind : Kind) (ps : List Piece) → OnVolume (map (piece_request number kind) ps)
on_line number kind [] = tt
on_line number kind (p ∷ ps) = (refl, on_line number kind ps)

-- one further piece
pub split_more : (all done rest rest' : List Piece) (p : Piece) → all ≡ done ++ rest → rest ≡ p ∷ rest' → all ≡ (done ++ p ∷ []) ++ rest'
split_more all done rest rest' p split next = rw (split, next, append_assoc) refl

module _ (number : ℕ) (kind : Kind) where
  abbrev asks : Piece → Rattle.wol_model.specs.Trace.Request
  asks = piece_request number kind

  pub piece_content : (array now next : Option (List Block)) (done : List Piece) (p : Piece) → now ≡ content_after (map asks done) array → next ≡ content_after (asks p ∷ []) now → next ≡ content_after (map asks (done ++ p ∷ [])) array
  piece_content array now next done p was is =
      is ∙ ap (content_after (asks p ∷ [])) was ∙ sym (content_both (map asks done) (asks p ∷ []) array) ∙ ap (λ (rs : List Rattle.wol_model.specs.Trace.Request). content_after rs array) (sym (map-append asks done (p ∷ [])))

  pub piece_answered : (array now : Option (List Block)) (done : List Piece) (p : Piece) (old mid new : Option (List ℕ)) → now ≡ content_after (map asks done) array
      → Answered array (map asks done) old mid → Answered now (asks p ∷ []) mid new → Answered array (map asks (done ++ p ∷ [])) old new
  piece_answered array now done p old mid new was earlier here =
      rw map-append (answered_both array (map asks done) (asks p ∷ []) old mid new (refl, tt) earlier (rw was at here))

  pub piece_left : (e : Fault) (array now : Option (List Block)) (all done rest : List Piece) (p : Piece) (old mid new : Option (List ℕ)) (values : Option (List (Values Block))) → all ≡ (done ++ p ∷ []) ++ rest → now ≡ content_after (map asks done) array
      → Answered array (map asks done) old mid → LeftBy e now (asks p ∷ []) mid new values → LeftBy e array (map asks all) old new values
  piece_left e array now all done rest p old mid new values split was earlier left =
      let whole : map asks all ≡ (map asks done ++ asks p ∷ []) ++ map asks rest = ap (map asks) split ∙ map-append asks (done ++ p ∷ []) rest ∙ ap (λ (rs : List Rattle.wol_model.specs.Trace.Request). rs ++ map asks rest) (map-append asks done (p ∷ [])) in
      rw whole (left_before e array (map asks done ++ asks p ∷ []) (map asks rest) old new values
      (left_after e array (map asks done) (asks p ∷ []) old mid new values (refl, tt) earlier (rw was at left)))

-- the first of the pieces that are left
pub head_lies : (home : ℕ) (ps rest : List Piece) (p : Piece) → All (LiesIn home 128) ps → ps ≡ p ∷ rest → LiesIn home 128 p
head_lies home ps rest p lie next = All-head (LiesIn home 128) p rest (rw next at lie)

pub tail_lies : (home : ℕ) (ps rest : List Piece) (p : Piece) → All (LiesIn home 128) ps → ps ≡ p ∷ rest → All (LiesIn home 128) rest
tail_lies home ps rest p lie next = All-tail (LiesIn home 128) p rest (rw next at lie)

-- how many there were so far
pub few_so_far : (home : ℕ) (line : TraceLine) (done rest : List Piece) → Fits line → pieces home 128 line ≡ done ++ rest → length done ≤ 131073
few_so_far home line done rest fits split = let few = few_pieces home line fits in omega (arith, rw (split, length-append done rest) at few)
