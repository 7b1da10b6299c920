-- Where the pieces of a line lie, and what windows are.
use Rattle.std.proofs.Common.{◌≡◌, ◌<◌, ◌≤◌, ◌+◌, ◌-◌, ◌%◌, ◌/◌, ℕ, zero, suc, min, Bool, true, false, cond, ◌&&◌, List, [], ◌∷◌, ◌++◌, length, refl, sym, ap, ◌∙◌, arith, ltb, leb, eqb, append_assoc}
use Rattle.std.specs.Prelude.{sum_by}
use Rattle.std.specs.List.{AllByRecursion, flat_map}
use Rattle.std.proofs.lemmas.Bool.{ltb-true, leb-true, eqb-true, eqb-false}
use Rattle.std.proofs.lemmas.List.Sums.{sum_by-cons, sum_by_push}
use Rattle.std.proofs.Math.Nat.{mod-lt}
use Rattle.wol_model.specs.declared.trace.Piece.{Piece}
use Rattle.wol_model.specs.Trace.{Timed, Window, cut_run, pieces, blocks_touched, pieces_of, timed, started, joins, opened, joined, windows_from, windows_by, windows}
use Rattle.wol_model.specs.TraceLaws.{LiesIn, PiecesLie, PiecesCover, IsWindow, WindowsHaveAll, WindowsAre}

-- ---- pieces

run_lies : (fuel home most first count : ℕ) → 1 ≤ most → first < home → AllByRecursion (LiesIn home most) (cut_run fuel home most first count)
run_lies zero home most first count m h = tt
run_lies (suc fuel) home most first count m h = at (run_lies fuel home most ((first + min count (min most (home - first))) % home) (count - min count (min most (home - first))) m (mod-lt (first + min count (min most (home - first))) (omega arith))) (eqb count 0) refl
  where
    at : AllByRecursion (LiesIn home most) (cut_run fuel home most ((first + min count (min most (home - first))) % home) (count - min count (min most (home - first)))) → (t : Bool) → eqb count 0 ≡ t
        → AllByRecursion (LiesIn home most) (cond t [] (record { lbn = first; count = min count (min most (home - first)) } ∷ cut_run fuel home most ((first + min count (min most (home - first))) % home) (count - min count (min most (home - first)))))
    at rest true is = tt
    at rest false is = let some : 0 < count = above count (eqb-false count 0 is) in (record { some = omega arith; short = omega arith; within = omega arith }, rest)
      where
        above : (n : ℕ) → (n ≡ 0 → ⊥) → 0 < n
        above zero some = absurd (some refl)
        above (suc n) some = omega arith

run_covers : (fuel home most first count : ℕ) → 1 ≤ most → first < home → count ≤ fuel → sum_by (λ (p : Piece). p.count) (cut_run fuel home most first count) ≡ count
run_covers zero home most first count m h le = omega arith
run_covers (suc fuel) home most first count m h le = at (λ lower. run_covers fuel home most ((first + min count (min most (home - first))) % home) (count - min count (min most (home - first))) m (mod-lt (first + min count (min most (home - first))) (omega arith)) lower) (eqb count 0) refl
  where
    at : (count - min count (min most (home - first)) ≤ fuel → sum_by (λ (p : Piece). p.count) (cut_run fuel home most ((first + min count (min most (home - first))) % home) (count - min count (min most (home - first)))) ≡ count - min count (min most (home - first))) → (t : Bool) → eqb count 0 ≡ t
        → sum_by (λ (p : Piece). p.count) (cond t [] (record { lbn = first; count = min count (min most (home - first)) } ∷ cut_run fuel home most ((first + min count (min most (home - first))) % home) (count - min count (min most (home - first))))) ≡ count
    at rest true is = sym (eqb-true count 0 is)
    at rest false is =
        let some : 0 < count = above count (eqb-false count 0 is) in
        let more = rest (omega arith) in
        sum_by-cons (λ (p : Piece). p.count) (record { lbn = first; count = min count (min most (home - first)) }) (cut_run fuel home most ((first + min count (min most (home - first))) % home) (count - min count (min most (home - first))))
        ∙ ap (λ (n : ℕ). min count (min most (home - first)) + n) more ∙ omega arith
      where
        above : (n : ℕ) → (n ≡ 0 → ⊥) → 0 < n
        above zero some = absurd (some refl)
        above (suc n) some = omega arith

pub pieces_lie : PiecesLie
unfolding pieces
pieces_lie home most l h m = at (eqb l.size 0)
  where
    at : (t : Bool) → AllByRecursion (LiesIn home most) (cond t [] (cut_run (blocks_touched l) home most (l.offset / 512 % home) (blocks_touched l)))
    at true = tt
    at false = run_lies (blocks_touched l) home most (l.offset / 512 % home) (blocks_touched l) m (mod-lt (l.offset / 512) (omega arith))

pub pieces_cover : PiecesCover
unfolding pieces
pieces_cover home most l h m = at (eqb l.size 0)
  where
    at : (t : Bool) → sum_by (λ (p : Piece). p.count) (cond t [] (cut_run (blocks_touched l) home most (l.offset / 512 % home) (blocks_touched l))) ≡ cond t 0 (blocks_touched l)
    at true = refl
    at false = run_covers (blocks_touched l) home most (l.offset / 512 % home) (blocks_touched l) m (mod-lt (l.offset / 512) (omega arith)) (omega arith)

-- ---- windows

both : (a b : Bool) → (a && b) ≡ true → (a ≡ true) × (b ≡ true)
both true b e = (refl, e)
both false b e = cc

all_lines : (cost : Timed → ℕ) (w : Window) (lines : List Timed) → flat_map (λ (v : Window). v.lines) (windows_from cost w lines) ≡ w.lines ++ lines
all_lines cost w [] = refl
all_lines cost w (l ∷ lines) = at (joins w l (cost l)) (all_lines cost (joined w l (cost l)) lines) (all_lines cost (opened l (cost l)) lines)
  where
    at : (t : Bool) → flat_map (λ (v : Window). v.lines) (windows_from cost (joined w l (cost l)) lines) ≡ (w.lines ++ l ∷ []) ++ lines → flat_map (λ (v : Window). v.lines) (windows_from cost (opened l (cost l)) lines) ≡ l ∷ lines
        → flat_map (λ (v : Window). v.lines) (cond t (windows_from cost (joined w l (cost l)) lines) (w ∷ windows_from cost (opened l (cost l)) lines)) ≡ w.lines ++ l ∷ lines
    at true in_it next = in_it ∙ append_assoc w.lines (l ∷ []) lines
    at false in_it next = ap (λ (ls : List Timed). w.lines ++ ls) next

pub windows_have_all : WindowsHaveAll
unfolding windows
windows_have_all most targets lines = at (timed lines)
  where
    at : (ls : List Timed) → flat_map (λ (v : Window). v.lines) (windows_by (pieces_of most targets) ls) ≡ ls
    at [] = refl
    at (l ∷ ls) = all_lines (pieces_of most targets) (opened l (pieces_of most targets l)) ls

length_push : {X : Type 0} (xs : List X) (x : X) → length (xs ++ x ∷ []) ≡ suc (length xs)
length_push [] x = refl
length_push (y ∷ xs) x = ap suc (length_push xs x)

started_push : (ls : List Timed) (l : Timed) → 0 < length ls → started (ls ++ l ∷ []) ≡ started ls
started_push [] l some = absurd (omega arith)
started_push (k ∷ ls) l some = refl

all_push : {X : Type 0} (P : X → Type 0) (xs : List X) (x : X) → AllByRecursion P xs → P x → AllByRecursion P (xs ++ x ∷ [])
all_push P [] x all p = (p, tt)
all_push P (y ∷ xs) x all p = (all.0, all_push P xs x all.1 p)

one_line : (cost : Timed → ℕ) (l : Timed) → IsWindow cost (opened l (cost l))
one_line cost l = record { some = omega arith; begins = refl; few = omega arith; soon = (omega arith, tt); counted = omega (arith, sum_by-cons cost l []); bounded = λ lt. absurd (omega arith) }

one_more : (cost : Timed → ℕ) (w : Window) (l : Timed) → IsWindow cost w → joins w l (cost l) ≡ true → IsWindow cost (joined w l (cost l))
one_more cost w l is may =
    let first = both (ltb l.time (w.moment + 10000000)) (ltb (length w.lines) 4096 && leb (w.pieces + cost l) 65536) may in
    let rest = both (ltb (length w.lines) 4096) (leb (w.pieces + cost l) 65536) first.1 in
    let soon : l.time < w.moment + 10000000 = ltb-true l.time (w.moment + 10000000) first.0 in
    let few : length w.lines < 4096 = ltb-true (length w.lines) 4096 rest.0 in
    let bound : w.pieces + cost l ≤ 65536 = leb-true (w.pieces + cost l) 65536 rest.1 in
    record {
      some = omega (arith, length_push w.lines l);
      begins = started_push w.lines l is.some ∙ is.begins;
      few = omega (arith, length_push w.lines l, few);
      soon = all_push (λ (k : Timed). k.time < w.moment + 10000000) w.lines l is.soon soon;
      counted = sum_by_push cost w.lines l ∙ ap (λ (n : ℕ). n + cost l) is.counted;
      bounded = λ many. bound;
    }

each_window : (cost : Timed → ℕ) (w : Window) (lines : List Timed) → IsWindow cost w → AllByRecursion (IsWindow cost) (windows_from cost w lines)
each_window cost w [] is = (is, tt)
each_window cost w (l ∷ lines) is = at (joins w l (cost l)) refl (λ more. each_window cost (joined w l (cost l)) lines more) (each_window cost (opened l (cost l)) lines (one_line cost l))
  where
    at : (t : Bool) → joins w l (cost l) ≡ t → (IsWindow cost (joined w l (cost l)) → AllByRecursion (IsWindow cost) (windows_from cost (joined w l (cost l)) lines)) → AllByRecursion (IsWindow cost) (windows_from cost (opened l (cost l)) lines)
        → AllByRecursion (IsWindow cost) (cond t (windows_from cost (joined w l (cost l)) lines) (w ∷ windows_from cost (opened l (cost l)) lines))
    at true may in_it next = in_it (one_more cost w l is may)
    at false may in_it next = (is, next)

pub windows_are : WindowsAre
unfolding windows
windows_are most targets lines = at (timed lines)
  where
    at : (ls : List Timed) → AllByRecursion (IsWindow (pieces_of most targets)) (windows_by (pieces_of most targets) ls)
    at [] = tt
    at (l ∷ ls) = each_window (pieces_of most targets) (opened l (pieces_of most targets l)) ls (one_line (pieces_of most targets) l)
