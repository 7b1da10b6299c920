-- Outcomes that are counted one after another.
use Rattle.replay.proofs.Basics.{◌≡◌, ◌≤◌, ◌+◌, ℕ, Bool, List, ◌++◌, cond, arith, count_by, sum_by-append}
use Rattle.replay.proofs.Terms.{Totals, Outcome, AddsAtMost, no_totals}

-- a count of some outcomes and of others
pub counted_both : (p : Outcome → Bool) (os more : List Outcome) (a b c : ℕ) → b ≡ a + count_by p os → c ≡ b + count_by p more → c ≡ a + count_by p (os ++ more)
counted_both p os more a b c first then = omega (arith, first, then, sum_by-append (λ (o : Outcome). cond (p o) 1 0) os more)

-- the counts of requests are no more than this
pub record HasFew (n : ℕ) (t : Totals) : Type 0 where
  pub reads : t.reads ≤ n
  pub writes : t.writes ≤ n
  pub home : t.home ≤ n
  pub log : t.log ≤ n
  pub drains : t.drains ≤ n

pub few_more : (n m count : ℕ) (t u : Totals) → HasFew n t → AddsAtMost count t u → n + count ≤ m → HasFew m u
few_more n m count t u few adds le = record {
  reads = omega (arith, few.reads, adds.reads, le);
  writes = omega (arith, few.writes, adds.writes, le);
  home = omega (arith, few.home, adds.home, le);
  log = omega (arith, few.log, adds.log, le);
  drains = omega (arith, few.drains, adds.drains, le);
}

pub few_none : (n : ℕ) (t : Totals) → t ≡ no_totals → HasFew n t
few_none n t is = rw is (record { reads = omega arith; writes = omega arith; home = omega arith; log = omega arith; drains = omega arith })
