-- A volume's history has no more writes to logs than its answered requests, and no more answered requests than requests.
use Rattle.replay.proofs.Basics.{◌≡◌, ◌==◌, ◌<◌, ◌≤◌, ◌⊎◌, ◌+◌, ◌++◌, ℕ, zero, suc, Bool, true, false, cond, List, [], ◌∷◌, length, map}
use Rattle.replay.proofs.Basics.{take, drop, refl, sym, ap, subst, ◌∙◌, is_some, inl, inr, arith, Contains, slice_index_or, count_by}
use Rattle.replay.proofs.Basics.{eq-eqb, take-append-drop, count_by-le-length, sum_by-append, sum_by-cons}
use Rattle.replay.proofs.Terms.{Write, Broke, Kept, Operation, Read, Wrote, written_by, writes, Answered, AreOutcomes, AreWritten}
use Rattle.replay.proofs.Terms.{IsWriteOf, Unanswered, WasRead, WasWritten, answered_in, is_answered, answers_of, requests_in, is_write}
use Rattle.wol_model.specs.History.{Entry}
use Rattle.wol_model.specs.Trace.{Request}
use Rattle.wol_promise.specs.Outcomes.{Outcome}

-- ---- Counting

-- it asks for a write
abbrev pub asks_write : Answered → Bool
asks_write a = is_write a.request.kind

-- how many of these do
abbrev pub writes_in : List Answered → ℕ
writes_in xs = count_by asks_write xs

one_more : (x : Answered) (xs : List Answered) → writes_in (x ∷ xs) ≡ cond (asks_write x) 1 0 + writes_in xs
one_more x xs = sum_by-cons (λ (y : Answered). cond (asks_write y) 1 0) x xs

joined : (xs ys : List Answered) → writes_in (xs ++ ys) ≡ writes_in xs + writes_in ys
joined xs ys = sum_by-append (λ (y : Answered). cond (asks_write y) 1 0) xs ys

-- the requests that ask for one
pub asked_writes : (xs : List Answered) → writes_in xs ≡ count_by (λ (r : Request). is_write r.kind) (requests_in xs)
asked_writes [] = refl
asked_writes (x ∷ xs) =
    let here = one_more x xs in
    let there = sum_by-cons (λ (r : Request). cond (is_write r.kind) 1 0) x.request (requests_in xs) in
    let rest = asked_writes xs in
    omega (arith, here, there, rest)

-- ---- What was written

abbrev versioned : List Write → ℕ
versioned ws = count_by (λ (w : Write). is_some w.version) ws

few_versioned : (ws : List Write) → versioned ws ≤ length ws
few_versioned ws = count_by-le-length (λ (w : Write). is_some w.version) ws

is_written : (o : Outcome) (r : Request) (w : Write) → IsWriteOf o r w → is_write r.kind ≡ true
is_written (WasWritten logged drained) r w (is, payload) = ap is_write is
is_written (WasRead mark) r w is = absurd is
is_written Unanswered r w is = absurd is

all_written : (xs : List Answered) (ws : List Write) → AreWritten xs ws → length ws ≤ writes_in xs
all_written [] [] written = omega arith
all_written [] (w ∷ ws) written = absurd written
all_written (x ∷ xs) [] written = absurd written
all_written (x ∷ xs) (w ∷ ws) (first, others) =
    let here : writes_in (x ∷ xs) ≡ 1 + writes_in xs = one_more x xs ∙ ap (λ (t : Bool). cond t 1 0 + writes_in xs) (is_written x.outcome x.request w first) in
    let rest = all_written xs ws others in
    omega (arith, here, rest)

-- no more writes went to logs than requests for one were answered
pub logged_answered : (xs : List Answered) (entries : List Entry) → AreOutcomes xs (map (λ (e : Entry). e.operation) entries) → versioned (writes entries) ≤ writes_in xs
logged_answered xs [] outs = omega arith
logged_answered xs (e ∷ entries) outs = at e.operation xs outs (λ ys more. logged_answered ys entries more)
  where
    at : (o : Operation) (ys : List Answered) → AreOutcomes ys (o ∷ map (λ (d : Entry). d.operation) entries) → ((zs : List Answered) → AreOutcomes zs (map (λ (d : Entry). d.operation) entries) → versioned (writes entries) ≤ writes_in zs)
        → versioned (written_by o ++ writes entries) ≤ writes_in ys
    at Kept ys all rest = rest ys all
    at (Broke ws) ys all rest = rest ys all
    at (Read first reply) [] all rest = absurd all
    at (Read first reply) (y ∷ ys) all rest = let more = rest ys all.1 in let here = one_more y ys in omega (arith, more, here)
    at (Wrote ws) ys all rest =
        let n = length ws in
        let split : writes_in ys ≡ writes_in (take n ys) + writes_in (drop n ys) = ap writes_in (sym (take-append-drop n ys)) ∙ joined (take n ys) (drop n ys) in
        let both : versioned (ws ++ writes entries) ≡ versioned ws + versioned (writes entries) = sum_by-append (λ (w : Write). cond (is_some w.version) 1 0) ws (writes entries) in
        let here = all_written (take n ys) ws all.0 in
        let few = few_versioned ws in
        let more = rest (drop n ys) all.1 in
        omega (arith, split, both, here, few, more)

-- ---- What wasn't answered

abbrev pub Among : List Answered → Answered → Type 0
Among [] a = ⊥
Among (x ∷ xs) a = (x ≡ a) ⊎ Among xs a

pub among_of : (xs : List Answered) (a : Answered) → Contains xs a → Among xs a
among_of xs a (k, less, is) = at xs k less is
  where
    at : (ys : List Answered) (j : ℕ) → j < length ys → slice_index_or ys j a ≡ a → Among ys a
    at [] j lt same = absurd (omega (arith, lt))
    at (y ∷ ys) zero lt same = inl same
    at (y ∷ ys) (suc j) lt same = inr (at ys j (omega (arith, lt)) same)

pub among_right : (xs ys : List Answered) (a : Answered) → Among ys a → Among (xs ++ ys) a
among_right [] ys a among = among
among_right (x ∷ xs) ys a among = inr (among_right xs ys a among)

pub among_left : (xs ys : List Answered) (a : Answered) → Among xs a → Among (xs ++ ys) a
among_left [] ys a among = absurd among
among_left (x ∷ xs) ys a (inl same) = inl same
among_left (x ∷ xs) ys a (inr rest) = inr (among_left xs ys a rest)

pub among_volume : (v : ℕ) (xs : List Answered) (a : Answered) → a.request.volume ≡ v → Among xs a → Among (answers_of v xs) a
among_volume v [] a is among = absurd among
among_volume v (x ∷ xs) a is (inl same) = let here : (x.request.volume == v) ≡ true = eq-eqb x.request.volume v (ap (λ (y : Answered). y.request.volume) same ∙ is) in
    subst (λ (t : Bool). Among (cond t (x ∷ answers_of v xs) (answers_of v xs)) a) (sym here) (inl same)
among_volume v (x ∷ xs) a is (inr rest) = at (x.request.volume == v) (among_volume v xs a is rest)
  where
    at : (t : Bool) → Among (answers_of v xs) a → Among (cond t (x ∷ answers_of v xs) (answers_of v xs)) a
    at true there = inr there
    at false there = there

fewer : (xs : List Answered) → (length (answered_in xs) ≤ length xs) × (writes_in (answered_in xs) ≤ writes_in xs)
fewer [] = (omega arith, omega arith)
fewer (x ∷ xs) = at (is_answered x.outcome) (fewer xs)
  where
    at : (t : Bool) → (length (answered_in xs) ≤ length xs) × (writes_in (answered_in xs) ≤ writes_in xs)
        → (length (cond t (x ∷ answered_in xs) (answered_in xs)) ≤ length (x ∷ xs)) × (writes_in (cond t (x ∷ answered_in xs) (answered_in xs)) ≤ writes_in (x ∷ xs))
    at true (short, few) = (omega (arith, short), (let a = one_more x xs in let b = one_more x (answered_in xs) in omega (arith, a, b, few)))
    at false (short, few) = (omega (arith, short), (let a = one_more x xs in omega (arith, a, few)))

-- a write that wasn't answered is one more
pub one_less : (xs : List Answered) (a : Answered) → is_answered a.outcome ≡ false → asks_write a ≡ true → Among xs a → (length (answered_in xs) < length xs) × (writes_in (answered_in xs) + 1 ≤ writes_in xs)
one_less [] a none asks among = absurd among
one_less (x ∷ xs) a none asks (inl same) =
    let refused : is_answered x.outcome ≡ false = ap (λ (y : Answered). is_answered y.outcome) same ∙ none in
    let write : asks_write x ≡ true = ap asks_write same ∙ asks in
    let (short, few) = fewer xs in
    let here : writes_in (x ∷ xs) ≡ 1 + writes_in xs = one_more x xs ∙ ap (λ (t : Bool). cond t 1 0 + writes_in xs) write in
    subst (λ (t : Bool). (length (cond t (x ∷ answered_in xs) (answered_in xs)) < length (x ∷ xs)) × (writes_in (cond t (x ∷ answered_in xs) (answered_in xs)) + 1 ≤ writes_in (x ∷ xs))) (sym refused)
    (omega (arith, short), omega (arith, few, here))
one_less (x ∷ xs) a none asks (inr rest) = at (is_answered x.outcome) (one_less xs a none asks rest)
  where
    at : (t : Bool) → (length (answered_in xs) < length xs) × (writes_in (answered_in xs) + 1 ≤ writes_in xs)
        → (length (cond t (x ∷ answered_in xs) (answered_in xs)) < length (x ∷ xs)) × (writes_in (cond t (x ∷ answered_in xs) (answered_in xs)) + 1 ≤ writes_in (x ∷ xs))
    at true (short, few) = (omega (arith, short), (let p = one_more x xs in let q = one_more x (answered_in xs) in omega (arith, p, q, few)))
    at false (short, few) = (omega (arith, short), (let p = one_more x xs in omega (arith, p, few)))
