-- A write of the last window that was refused is one more than those of its volume that were answered.
use Rattle.replay.proofs.Basics.{◌≡◌, ◌<◌, ◌≤◌, ◌+◌, ◌++◌, ℕ, true, List, [], ◌∷◌, length, sym, ap, subst}
use Rattle.replay.proofs.Terms.{Answered, answered_in, answers_of, is_write, HasRefusedWrite, answers_in, ServedWindow}
use Rattle.replay.proofs.CountsLeft.{answers_joined}
use Rattle.replay.proofs.WritesAnswered.{Among, among_left, among_of, among_right, among_volume, asks_write, one_less, writes_in}

pub one_refused : (earlier last : List ServedWindow) (v : ℕ) (s : ServedWindow) → last ≡ s ∷ [] → HasRefusedWrite v s
    → (length (answered_in (answers_of v (answers_in (earlier ++ last)))) < length (answers_of v (answers_in (earlier ++ last))))
    × (writes_in (answered_in (answers_of v (answers_in (earlier ++ last)))) + 1 ≤ writes_in (answers_of v (answers_in (earlier ++ last))))
one_refused earlier last v s only write_ =
    let answers : List Answered = answers_in (earlier ++ last) in
    let a : Answered = write_.answer in
    let here : Among (answers_in (s ∷ [])) a = among_left _ [] a (among_of _ a write_.among) in
    let there : Among (answers_in last) a = subst (λ (l : List ServedWindow). Among (answers_in l) a) (sym only) here in
    let all : Among answers a = subst (λ (l : List Answered). Among l a) (sym (answers_joined earlier last)) (among_right (answers_in earlier) (answers_in last) a there) in
    let asks : asks_write a ≡ true = ap is_write write_.kind_is in
    one_less (answers_of v answers) a write_.refused asks (among_volume v answers a write_.volume all)
