-- How a run of disk calls goes on.
use Rattle.std.proofs.Common.{inl, inr, ⊎_elim, List, arith}
use Rattle.wol_disk.specs.Disk.{Block, State, Passes, IsDisk, IsImageOf, LeavesOnly}

-- before the first call
pub started : {d : State} {P : List Block → Type 0} → IsDisk d → ((c : List Block) → IsImageOf d.values c → P c) → LeavesOnly d d P
started {d} {P} s here = record { later = omega arith; each = λ c left. here c (s.only_now c left); before = λ t c le left. inl left }

-- one call of the disk more
pub goes_on : {old mid new : State} {P : List Block → Type 0} {F : Type 0} → LeavesOnly old mid P → Passes mid new F → ((c : List Block) → IsImageOf new.values c → P c) → LeavesOnly old new P
goes_on {old} {mid} {new} {P} {F} so_far time here = record {
  later = omega (arith, so_far.later, time.later);
  each = λ c left. ⊎_elim (so_far.each c) (here c) (time.nothing_else old.clock c so_far.later left);
  before = λ t c le left. ⊎_elim (so_far.before t c le) (λ now. inr (here c now)) (time.nothing_else t c (omega (arith, le, so_far.later)) left);
}

-- one call more that has a clause on its moments itself
pub then_leaves : {old mid new : State} {P Q : List Block → Type 0} → LeavesOnly old mid P → LeavesOnly mid new Q → ((c : List Block) → Q c → P c) → LeavesOnly old new P
then_leaves {old} {mid} {new} {P} {Q} first second inside = record {
  later = omega (arith, first.later, second.later);
  each = λ c left. ⊎_elim (first.each c) (λ now. inside c now) (second.before old.clock c first.later left);
  before = λ t c le left. ⊎_elim (first.before t c le) (λ now. inr (inside c now)) (second.before t c (omega (arith, le, first.later)) left);
}

-- what is left is of a wider kind
pub widened : {old new : State} {P Q : List Block → Type 0} → LeavesOnly old new P → ((c : List Block) → P c → Q c) → LeavesOnly old new Q
widened {old} {new} {P} {Q} l inside = record {
  later = l.later;
  each = λ c left. inside c (l.each c left);
  before = λ t c le left. ⊎_elim (λ was. inl was) (λ now. inr (inside c now)) (l.before t c le left);
}
