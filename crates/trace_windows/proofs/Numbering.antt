-- Requests with numbers.
use Rattle.std.proofs.Common.{◌≡◌, ◌≤◌, ℕ, suc, ◌+◌, List, [], ◌∷◌, ◌++◌, length, map, refl, sym, ap, ◌∙◌, append_assoc, arith, length-append}
use Rattle.std.proofs.lemmas.List.{map-append}
use Rattle.wol_model.specs.Trace as trace
use Rattle.wol_model.specs.Trace.{Target, TraceLine, home_of, pieces, requests_on}
use Rattle.wol_model.specs.declared.trace.Kind.{Kind}
use Rattle.wol_model.specs.declared.trace.Piece.{Piece}
use Rattle.msr_trace.specs.Lines.{Fits}
use Rattle.trace_windows.specs.declared.request.Request.{Request}
use Rattle.trace_windows.specs.Requests.{numbered, with_number}
use Rattle.trace_windows.specs.Laws.{NumbersLeave}
use Rattle.trace_windows.proofs.Few.{few_pieces}

pub numbered_both : (n : ℕ) (rs ss : List trace.Request) → numbered n (rs ++ ss) ≡ numbered n rs ++ numbered (n + length rs) ss
numbered_both n [] ss = let same : n ≡ n + 0 = omega arith in ap (λ (m : ℕ). numbered m ss) same
numbered_both n (r ∷ rs) ss =
    let later : (n + 1) + length rs ≡ n + suc (length rs) = omega arith in
    let rest : numbered (n + 1) (rs ++ ss) ≡ numbered (n + 1) rs ++ numbered (n + suc (length rs)) ss = numbered_both (n + 1) rs ss ∙ ap (λ (m : ℕ). numbered (n + 1) rs ++ numbered m ss) later in
    ap (λ (others : List Request). with_number n r ∷ others) rest

pub length-numbered : (n : ℕ) (rs : List trace.Request) → length (numbered n rs) ≡ length rs
length-numbered n [] = refl
length-numbered n (r ∷ rs) = ap suc (length-numbered (n + 1) rs)

pub numbers_leave : NumbersLeave
numbers_leave n [] = refl
numbers_leave n (r ∷ rs) = ap (λ (others : List trace.Request). r ∷ others) (numbers_leave (n + 1) rs)

-- what one piece of a line asks
abbrev pub request_of : (number volume : ℕ) → Kind → Piece → trace.Request
request_of number volume kind p = record { line = number; volume = volume; kind = kind; first = p.lbn; count = p.count }

-- one piece more
pub piece_more : (next number volume : ℕ) (kind : Kind) (old now : List Request) (done : List Piece) (p : Piece) (place : ℕ)
    → now ≡ old ++ numbered next (map (request_of number volume kind) done) → place ≡ next + length done
    → now ++ record { number = place; line = number; volume = volume; kind = kind; lbn = p.lbn; count = p.count } ∷ [] ≡ old ++ numbered next (map (request_of number volume kind) (done ++ p ∷ []))
piece_more next number volume kind old now done p place is at =
    let rs : List trace.Request = map (request_of number volume kind) done in
    let here : numbered (next + length rs) (request_of number volume kind p ∷ []) ≡ record { number = place; line = number; volume = volume; kind = kind; lbn = p.lbn; count = p.count } ∷ [] =
    ap (λ (m : ℕ). record { number = m; line = number; volume = volume; kind = kind; lbn = p.lbn; count = p.count } ∷ []) (ap (λ (m : ℕ). next + m) (length_map done) ∙ sym at) in
    let more : numbered next (map (request_of number volume kind) (done ++ p ∷ [])) ≡ numbered next rs ++ record { number = place; line = number; volume = volume; kind = kind; lbn = p.lbn; count = p.count } ∷ [] =
    ap (numbered next) (map-append (request_of number volume kind) done (p ∷ [])) ∙ numbered_both next rs (request_of number volume kind p ∷ []) ∙ ap (λ (x : List Request). numbered next rs ++ x) here in
    rw (is, more) (append_assoc old (numbered next rs) _)
  where
    length_map : (ps : List Piece) → length (map (request_of number volume kind) ps) ≡ length ps
    length_map [] = refl
    length_map (q ∷ ps) = ap suc (length_map ps)

-- the piece that comes next
pub split_more : (all done rest rest' : List Piece) (p : Piece) → all ≡ done ++ rest → rest ≡ p ∷ rest' → all ≡ (done ++ p ∷ []) ++ rest'
split_more all done rest rest' p split next = rw (split, next, append_assoc) refl

-- how many came so far
pub few_so_far : (home most : ℕ) (line : TraceLine) (done rest : List Piece) → Fits line → pieces home most line ≡ done ++ rest → length done ≤ 131073
few_so_far home most line done rest fits split = let few = few_pieces home most line fits in omega (arith, rw (split, length-append done rest) at few)
