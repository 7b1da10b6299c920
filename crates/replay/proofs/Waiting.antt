-- Lines that a sink took, and lines that wait.
use Rattle.replay.proofs.Basics.{◌≡◌, ◌≤◌, ◌<◌, ◌+◌, ℕ, zero, suc, List, [], ◌∷◌, ◌++◌, length, take, drop, get_or, Option, inl, inr, refl}
use Rattle.replay.proofs.Basics.{sym, ap, ◌∙◌, append_assoc, append-nil, arith, length-append, Appends, take_more, length-take-le}
use Rattle.replay.proofs.Basics.{flat_map-append}
use Rattle.replay.proofs.Terms.{AppendsFront, appends_both, appends_kept, front_last, front_longer, joined_lines, Request, Outcome, HandsOn}
use Rattle.replay.proofs.Terms.{line_of_outcome, lines_of_outcomes}

pub joined_both : (xs ys : List (List ℕ)) → joined_lines (xs ++ ys) ≡ joined_lines xs ++ joined_lines ys
joined_both xs ys = flat_map-append (λ (l : List ℕ). l) xs ys

-- of these lines a sink took some, and the text has the others
pub record IsPending (lines : List (List ℕ)) (printed now : Option (List ℕ)) (text : List ℕ) : Type 0 where
  pub handed : List (List ℕ)
  pub waiting : List (List ℕ)
  pub parts : lines ≡ handed ++ waiting
  pub taken : Appends printed now (joined_lines handed)
  pub text_ : text ≡ joined_lines waiting

-- more lines wait
pub pending_more : (lines more : List (List ℕ)) (printed now : Option (List ℕ)) (text new : List ℕ) → IsPending lines printed now text → new ≡ text ++ joined_lines more → IsPending (lines ++ more) printed now new
pending_more lines more printed now text new p is = record {
  handed = p.handed;
  waiting = p.waiting ++ more;
  parts = ap (λ (x : List (List ℕ)). x ++ more) p.parts ∙ append_assoc p.handed p.waiting more;
  taken = p.taken;
  text_ = is ∙ ap (λ (x : List ℕ). x ++ joined_lines more) p.text_ ∙ sym (joined_both p.waiting more);
}

-- all lines are those that were handed on and those that wait
pending_whole : (lines : List (List ℕ)) (printed now : Option (List ℕ)) (text : List ℕ) (p : IsPending lines printed now text) → joined_lines lines ≡ joined_lines p.handed ++ text
pending_whole lines printed now text p = ap joined_lines p.parts ∙ joined_both p.handed p.waiting ∙ ap (λ (x : List ℕ). joined_lines p.handed ++ x) (sym p.text_)

-- what waited was handed on, or waits on
pub pending_handed : (lines : List (List ℕ)) (printed now new : Option (List ℕ)) (text left : List ℕ) → IsPending lines printed now text → HandsOn now new text left → IsPending lines printed new left
pending_handed lines printed now new text left p (inl (same, kept)) = record {
  handed = p.handed;
  waiting = p.waiting;
  parts = p.parts;
  taken = appends_kept printed now new (joined_lines p.handed) p.taken kept;
  text_ = same ∙ p.text_;
}
pending_handed lines printed now new text left p (inr (empty, more)) = record {
  handed = lines;
  waiting = [];
  parts = sym (append-nil lines);
  taken = rw (pending_whole lines printed now text p) (appends_both printed now new (joined_lines p.handed) text p.taken more);
  text_ = empty;
}

-- a front of what waits is a front of the lines, and of more lines
pub pending_front : (lines rest : List (List ℕ)) (printed now new : Option (List ℕ)) (text : List ℕ) → IsPending lines printed now text → AppendsFront now new text → AppendsFront printed new (joined_lines (lines ++ rest))
pending_front lines rest printed now new text p front =
    let all : AppendsFront printed new (joined_lines p.handed ++ text) = front_last printed now new (joined_lines p.handed) text p.taken front in
    rw (joined_both lines rest, pending_whole lines printed now text p) (front_longer printed new (joined_lines p.handed ++ text) (joined_lines rest) all)

-- some first lines were handed on
pub pending_some : (lines rest : List (List ℕ)) (printed now : Option (List ℕ)) (text : List ℕ) → IsPending lines printed now text
    → (some : ℕ) × (some ≤ length (lines ++ rest)) × Appends printed now (joined_lines (take some (lines ++ rest)))
pending_some lines rest printed now text p =
    let split : lines ++ rest ≡ p.handed ++ (p.waiting ++ rest) = ap (λ (x : List (List ℕ)). x ++ rest) p.parts ∙ append_assoc p.handed p.waiting rest in
    let front : take (length p.handed) (lines ++ rest) ≡ p.handed = ap (take (length p.handed)) split ∙ taken_front p.handed (p.waiting ++ rest) in
    (length p.handed, omega (arith, ap length split, length-append p.handed (p.waiting ++ rest)), rw front p.taken)
  where
    taken_front : (xs ys : List (List ℕ)) → take (length xs) (xs ++ ys) ≡ xs
    taken_front [] ys = refl
    taken_front (x ∷ xs) ys = ap (λ (zs : List (List ℕ)). x ∷ zs) (taken_front xs ys)

-- ---- The lines of requests

no_outcomes : (names : List (List ℕ)) (rs : List Request) → lines_of_outcomes names rs [] ≡ []
no_outcomes names [] = refl
no_outcomes names (r ∷ rs) = refl

pub lines_split : (names : List (List ℕ)) (rs : List Request) (os : List Outcome) (k : ℕ)
    → lines_of_outcomes names rs os ≡ lines_of_outcomes names (take k rs) (take k os) ++ lines_of_outcomes names (drop k rs) (drop k os)
lines_split names rs os zero = refl
lines_split names [] os (suc k) = refl
lines_split names (r ∷ rs) [] (suc k) = sym (no_outcomes names (drop k rs))
lines_split names (r ∷ rs) (o ∷ os) (suc k) =
    ap (λ (x : List (List ℕ)). line_of_outcome names r o ++ x) (lines_split names rs os k)
    ∙ sym (append_assoc (line_of_outcome names r o) (lines_of_outcomes names (take k rs) (take k os)) (lines_of_outcomes names (drop k rs) (drop k os)))

one_line : (names : List (List ℕ)) (rs : List Request) (os : List Outcome) (r : Request) (o : Outcome) → length rs ≡ length os → lines_of_outcomes names (rs ++ r ∷ []) (os ++ o ∷ []) ≡ lines_of_outcomes names rs os ++ line_of_outcome names r o
one_line names [] [] r o same = append-nil (line_of_outcome names r o)
one_line names [] (p ∷ os) r o same = absurd (omega (arith, same))
one_line names (q ∷ rs) [] r o same = absurd (omega (arith, same))
one_line names (q ∷ rs) (p ∷ os) r o same =
    let less : length rs ≡ length os = omega (arith, same) in
    ap (λ (x : List (List ℕ)). line_of_outcome names q p ++ x) (one_line names rs os r o less) ∙ sym (append_assoc (line_of_outcome names q p) (lines_of_outcomes names rs os) (line_of_outcome names r o))

-- one request more
pub lines_more : (names : List (List ℕ)) (rs : List Request) (os : List Outcome) (k : ℕ) (r : Request) (o : Outcome) → k < length rs → length os ≡ length rs
    → lines_of_outcomes names (take (k + 1) rs) (take (k + 1) os) ≡ lines_of_outcomes names (take k rs) (take k os) ++ line_of_outcome names (get_or rs k r) (get_or os k o)
lines_more names rs os k r o few same =
    let next : take (k + 1) rs ≡ take k rs ++ get_or rs k r ∷ [] = take_more rs k r few in
    let then : take (k + 1) os ≡ take k os ++ get_or os k o ∷ [] = take_more os k o (omega (arith, few, same)) in
    let long : length (take k rs) ≡ length (take k os) = length-take-le k rs (omega (arith, few)) ∙ sym (length-take-le k os (omega (arith, few, same))) in
    rw (next, then) (one_line names (take k rs) (take k os) (get_or rs k r) (get_or os k o) long)

-- a request more waits
pub waits_more : (names : List (List ℕ)) (rs : List Request) (os : List Outcome) (k : ℕ) (r : Request) (o : Outcome) (printed now : Option (List ℕ)) (text new : List ℕ) → k < length rs → length os ≡ length rs
    → IsPending (lines_of_outcomes names (take k rs) (take k os)) printed now text → new ≡ text ++ joined_lines (line_of_outcome names (get_or rs k r) (get_or os k o))
    → IsPending (lines_of_outcomes names (take (k + 1) rs) (take (k + 1) os)) printed now new
waits_more names rs os k r o printed now text new few same p is =
    rw (lines_more names rs os k r o few same)
    (pending_more (lines_of_outcomes names (take k rs) (take k os)) (line_of_outcome names (get_or rs k r) (get_or os k o)) printed now text new p is)

-- a front of what waits is a front of all lines
pub front_of_all : (names : List (List ℕ)) (rs : List Request) (os : List Outcome) (k : ℕ) (printed now new : Option (List ℕ)) (text : List ℕ)
    → IsPending (lines_of_outcomes names (take k rs) (take k os)) printed now text → AppendsFront now new text → AppendsFront printed new (joined_lines (lines_of_outcomes names rs os))
front_of_all names rs os k printed now new text p front =
    rw (lines_split names rs os k) (pending_front (lines_of_outcomes names (take k rs) (take k os)) (lines_of_outcomes names (drop k rs) (drop k os)) printed now new text p front)

-- some first lines of all were handed on
pub some_of_all : (names : List (List ℕ)) (rs : List Request) (os : List Outcome) (k : ℕ) (printed now : Option (List ℕ)) (text : List ℕ) → IsPending (lines_of_outcomes names (take k rs) (take k os)) printed now text
    → (some : ℕ) × (some ≤ length (lines_of_outcomes names rs os)) × Appends printed now (joined_lines (take some (lines_of_outcomes names rs os)))
some_of_all names rs os k printed now text p =
    rw (lines_split names rs os k) (pending_some (lines_of_outcomes names (take k rs) (take k os)) (lines_of_outcomes names (drop k rs) (drop k os)) printed now text p)
