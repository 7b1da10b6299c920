-- What is counted of lines, one after another.
use Rattle.std.proofs.Common.{◌≡◌, ℕ, suc, ◌+◌, Bool, true, false, cond, List, [], ◌∷◌, ◌++◌, length, map, Option, None, Some, refl, sym, ap, ◌∙◌, arith, length-append, append-nil}
use Rattle.std.specs.Prelude.{if◌then◌else◌, count_by, is_none, is_some, not, ◌==◌, ◌&&◌, position}
use Rattle.std.specs.Str.{bytes_eq}
use Rattle.std.proofs.lemmas.Grind.{flat_map-append}
use Rattle.std.proofs.lemmas.List.Sums.{sum_by-append, sum_by-cons}
use Rattle.wol_model.specs.declared.trace.Kind.{Kind}
use Rattle.wol_model.specs.declared.trace.Kind.TheVariants as kind
use Rattle.wol_model.specs.declared.trace.Piece.{Piece}
use Rattle.wol_model.specs.Trace as model
use Rattle.wol_model.specs.Trace.{Numbered, Target, TraceLine, is_write, numbered_from, read_count, requests_of, requests_on, volume_of, write_count, is_skipped}
use Rattle.solo.specs.declared.tally.Tally.{Tally}
use Rattle.solo.specs.Requests.{asked_of, line_requests, piece_request, requests_at, tally_of, tally_with}

-- ---- Whether a line belongs to the volume

pub not_ours : (target : Target) (line : TraceLine) → is_some (volume_of (target ∷ []) line) ≡ false → volume_of (target ∷ []) line ≡ None
not_ours target line none = go (volume_of (target ∷ []) line) none where
  go : (v : Option ℕ) → is_some v ≡ false → v ≡ None
  go None none = refl
  go (Some v) none = absurd (cc none)

pub ours : (target : Target) (line : TraceLine) → is_some (volume_of (target ∷ []) line) ≡ true → volume_of (target ∷ []) line ≡ Some 0
ours target line some = go (bytes_eq target.host line.host && (target.disk == line.disk)) some where
  go : (b : Bool) → is_some (position (λ (t : Target). b) (target ∷ [])) ≡ true → position (λ (t : Target). b) (target ∷ []) ≡ Some 0
  go true some = refl
  go false some = absurd (cc some)

pub no_requests : (target : Target) (number : ℕ) (line : TraceLine) → volume_of (target ∷ []) line ≡ None → requests_at target number (Some line) ≡ []
no_requests target number line none = ap (requests_on 128 (target ∷ []) number line) none

pub our_requests : (target : Target) (number : ℕ) (line : TraceLine) → volume_of (target ∷ []) line ≡ Some 0 → requests_at target number (Some line) ≡ line_requests target.home number line
our_requests target number line some = ap (requests_on 128 (target ∷ []) number line) some

-- ---- One line

one_more : (n m : ℕ) → n ≡ m → 1 + n ≡ suc m
one_more n m is = omega (arith, is)

none_more : (n : ℕ) → n ≡ 0 → 0 + n ≡ 0
none_more n is = omega (arith, is)

reads_of : (number : ℕ) (k : Kind) (ps : List Piece) → read_count (map (piece_request number k) ps) ≡ (if is_write k then 0 else length ps)
reads_of number kind.Read [] = refl
reads_of number kind.Write [] = refl
reads_of number kind.Read (p ∷ ps) = sum_by-cons (λ (r : model.Request). cond (not (is_write r.kind)) 1 0) (piece_request number kind.Read p) (map (piece_request number kind.Read) ps) ∙ one_more _ _ (reads_of number kind.Read ps)
reads_of number kind.Write (p ∷ ps) = sum_by-cons (λ (r : model.Request). cond (not (is_write r.kind)) 1 0) (piece_request number kind.Write p) (map (piece_request number kind.Write) ps) ∙ none_more _ (reads_of number kind.Write ps)

writes_of : (number : ℕ) (k : Kind) (ps : List Piece) → write_count (map (piece_request number k) ps) ≡ (if is_write k then length ps else 0)
writes_of number kind.Read [] = refl
writes_of number kind.Write [] = refl
writes_of number kind.Read (p ∷ ps) = sum_by-cons (λ (r : model.Request). cond (is_write r.kind) 1 0) (piece_request number kind.Read p) (map (piece_request number kind.Read) ps) ∙ none_more _ (writes_of number kind.Read ps)
writes_of number kind.Write (p ∷ ps) = sum_by-cons (λ (r : model.Request). cond (is_write r.kind) 1 0) (piece_request number kind.Write p) (map (piece_request number kind.Write) ps) ∙ one_more _ _ (writes_of number kind.Write ps)

length_requests : (number : ℕ) (k : Kind) (ps : List Piece) → length (map (piece_request number k) ps) ≡ length ps
length_requests number k [] = refl
length_requests number k (p ∷ ps) = ap (λ (n : ℕ). suc n) (length_requests number k ps)

-- a tally by its parts
same_tally : (t u : Tally) → t.lines ≡ u.lines → t.blank ≡ u.blank → t.skipped ≡ u.skipped → t.reads ≡ u.reads → t.writes ≡ u.writes → t ≡ u
same_tally t u a b d e f = λ i. record { lines = a i; blank = b i; skipped = d i; reads = e i; writes = f i }

pub blank_tally : (target : Target) (number : ℕ) (t u : Tally) → u.lines ≡ t.lines + 1 → u.blank ≡ t.blank + 1 → u.skipped ≡ t.skipped → u.reads ≡ t.reads → u.writes ≡ t.writes → u ≡ tally_with target number None t
unfolding tally_with
blank_tally target number t u a b d e f = same_tally u (tally_with target number None t) a (omega (arith, b)) (omega (arith, d)) (omega (arith, e)) (omega (arith, f))

pub skipped_tally : (target : Target) (number : ℕ) (line : TraceLine) (t u : Tally) → volume_of (target ∷ []) line ≡ None → u.lines ≡ t.lines + 1 → u.blank ≡ t.blank → u.skipped ≡ t.skipped + 1 → u.reads ≡ t.reads → u.writes ≡ t.writes → u ≡ tally_with target number (Some line) t
unfolding tally_with
skipped_tally target number line t u none a b d e f =
    let one : is_skipped (target ∷ []) (Some line) ≡ true = ap is_none none in
    let nothing : requests_at target number (Some line) ≡ [] = no_requests target number line none in
    same_tally u (tally_with target number (Some line) t) a (omega (arith, b)) (rw one (omega (arith, d))) (rw nothing (omega (arith, e))) (rw nothing (omega (arith, f)))

pub our_tally : (target : Target) (number count : ℕ) (line : TraceLine) (t u : Tally) → volume_of (target ∷ []) line ≡ Some 0 → count ≡ length (line_requests target.home number line) → u.lines ≡ t.lines + 1 → u.blank ≡ t.blank → u.skipped ≡ t.skipped
    → u.reads ≡ t.reads + (if is_write line.kind then 0 else count) → u.writes ≡ t.writes + (if is_write line.kind then count else 0) → u ≡ tally_with target number (Some line) t
unfolding tally_with
our_tally target number count line t u some counted a b d e f =
    let one : is_skipped (target ∷ []) (Some line) ≡ false = ap is_none some in
    let asked = our_requests target number line some in
    let all : count ≡ length (Rattle.wol_model.specs.Trace.pieces target.home 128 line) = counted ∙ length_requests number line.kind (Rattle.wol_model.specs.Trace.pieces target.home 128 line) in
    same_tally u (tally_with target number (Some line) t) a (omega (arith, b)) (rw one (omega (arith, d)))
    (rw (asked, reads_of number line.kind (Rattle.wol_model.specs.Trace.pieces target.home 128 line), ← all) e)
    (rw (asked, writes_of number line.kind (Rattle.wol_model.specs.Trace.pieces target.home 128 line), ← all) f)

-- ---- One line after others

blank_last : (n : ℕ) (lines : List (Option TraceLine)) → numbered_from n (lines ++ None ∷ []) ≡ numbered_from n lines
blank_last n [] = refl
blank_last n (None ∷ lines) = blank_last (n + 1) lines
blank_last n (Some line ∷ lines) = ap (λ (ns : List Numbered). record { number = n; line = line } ∷ ns) (blank_last (n + 1) lines)

line_last : (n : ℕ) (lines : List (Option TraceLine)) (line : TraceLine) → numbered_from n (lines ++ Some line ∷ []) ≡ numbered_from n lines ++ record { number = n + length lines; line = line } ∷ []
line_last n [] line = let none : n + 0 ≡ n = omega arith in rw none refl
line_last n (None ∷ lines) line = let same : n + suc (length lines) ≡ n + 1 + length lines = omega arith in rw same (line_last (n + 1) lines line)
line_last n (Some first ∷ lines) line =
    let same : n + suc (length lines) ≡ n + 1 + length lines = omega arith in rw same (ap (λ (ns : List Numbered). record { number = n; line = first } ∷ ns) (line_last (n + 1) lines line))

pub asked_more : (target : Target) (lines : List (Option TraceLine)) (line : Option TraceLine) → asked_of target (lines ++ line ∷ []) ≡ asked_of target lines ++ requests_at target (length lines + 1) line
unfolding Rattle.wol_model.specs.Trace.requests
asked_more target lines None = rw (blank_last 1 lines, append-nil) refl
asked_more target lines (Some line) =
    let same : 1 + length lines ≡ length lines + 1 = omega arith in
    rw (line_last 1 lines line, flat_map-append, same, append-nil) refl

count_append : {X : Type 0} (p : X → Bool) (xs ys : List X) → count_by p (xs ++ ys) ≡ count_by p xs + count_by p ys
count_append {X} p xs ys = sum_by-append (λ (x : X). cond (p x) 1 0) xs ys

pub tally_more : (target : Target) (lines : List (Option TraceLine)) (line : Option TraceLine) → tally_with target (length lines + 1) line (tally_of target lines) ≡ tally_of target (lines ++ line ∷ [])
unfolding tally_with tally_of
tally_more target lines line =
    let asked = asked_more target lines line in
    same_tally (tally_with target (length lines + 1) line (tally_of target lines)) (tally_of target (lines ++ line ∷ []))
    (sym (length-append lines (line ∷ [])))
    (sym (count_append is_none lines (line ∷ [])))
    (sym (count_append (is_skipped (target ∷ [])) lines (line ∷ [])))
    (rw asked (sym (count_append (λ (r : model.Request). not (is_write r.kind)) (asked_of target lines) (requests_at target (length lines + 1) line))))
    (rw asked (sym (count_append (λ (r : model.Request). is_write r.kind) (asked_of target lines) (requests_at target (length lines + 1) line))))
