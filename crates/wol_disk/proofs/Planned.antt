-- What a call that went by the plan does to the count of faults.
use Rattle.std.proofs.Common.{◌≡◌, ◌⊎◌, inl, inr, ℕ, ◌+◌, ◌-◌, ◌^◌, ◌≤◌, List, ap, ◌∙◌, arith}
use Rattle.std.proofs.lemmas.Bool.{cases_lt}
use Rattle.wol_disk.specs.Disk.{Values, Block, Passes, Rose, next_count}
use Rattle.wol_disk.specs.Plan.{Plan, GoesByPlan}
use Rattle.wol_disk.specs.Record.{record_state}
use Rattle.wol_disk.specs.declared.record.Call.{Call}
use Rattle.wol_disk.proofs.Recorded.{passes_same}

-- a count that goes on by one rises
pub rises : (n m : ℕ) → m ≡ next_count n → Rose n m
rises n m e = elim (cases_lt n (2 ^ 64 - 1)) [
  | inl below ↦ inl (omega arith)
  | inr last ↦ inr (omega arith)
]

-- a sum rises where one part does and the other doesn't fall
sum_rises : (a b a' b' : ℕ) → a ≤ a' → b ≤ b' → Rose a a' ⊎ Rose b b' → Rose (a + b) (a' + b')
sum_rises a b a' b' le le' (inl (inl lt)) = inl (omega arith)
sum_rises a b a' b' le le' (inl (inr last)) = inr (omega arith)
sum_rises a b a' b' le le' (inr (inl lt)) = inl (omega arith)
sum_rises a b a' b' le le' (inr (inr last)) = inr (omega arith)

module _ {old new : Plan} {F : Type 0} (g : GoesByPlan old new F) where
  pub counts_by_plan : old.planned + old.short ≤ new.planned + new.short
  counts_by_plan = omega (arith, g.planned_counts, g.short_counts)

  pub calm_by_plan : ¬ F → new.planned + new.short ≡ old.planned + old.short
  calm_by_plan not =
      let planned : new.planned ≡ old.planned = g.not_planned (λ next. not (g.as_planned next).0) in
      let short : new.short ≡ old.short = g.quiet not in
      omega arith

  pub rose_by_plan : F → Rose (old.planned + old.short) (new.planned + new.short)
  rose_by_plan failed = elim (g.cause failed) [
    | inl next ↦ sum_rises old.planned old.short new.planned new.short g.planned_counts g.short_counts (inl (rises old.planned new.planned (g.as_planned next).1))
    | inr rose ↦ sum_rises old.planned old.short new.planned new.short g.planned_counts g.short_counts (inr rose)
  ]

  -- a call that isn't recorded
  pub passes_by_plan : (start : List (Values Block)) (calls : List Call) → Passes (record_state start calls (old.planned + old.short)) (record_state start calls (new.planned + new.short)) F
  passes_by_plan start calls = passes_same start calls _ _ F counts_by_plan rose_by_plan calm_by_plan

-- the same where the record is known to be as it was
pub passes_unrecorded : {old new : Plan} {F : Type 0} → GoesByPlan old new F → (start : List (Values Block)) (calls calls' : List Call) → calls' ≡ calls
    → Passes (record_state start calls (old.planned + old.short)) (record_state start calls' (new.planned + new.short)) F
passes_unrecorded g start calls calls' same = rw same (passes_by_plan g start calls)

-- a call that wasn't to fail, and found no memory
pub lacks_memory : (old mid new : Plan) (F G : Type 0) → GoesByPlan old mid F → ¬ F → G → new ≡ record mid { short = next_count mid.short } → mid.short ≤ new.short → GoesByPlan old new G
lacks_memory old mid new F G g not failed is le =
    let same : mid.short ≡ old.short = g.quiet not in
    let short : new.short ≡ next_count old.short = ap (λ (p : Plan). p.short) is ∙ ap next_count same in
    let rose : Rose old.short new.short = rises old.short new.short short in
    record {
      same_calls = ap (λ (p : Plan). p.calls) is ∙ g.same_calls;
      one_more = ap (λ (p : Plan). p.made) is ∙ g.one_more;
      as_planned = λ next. absurd (not (g.as_planned next).0);
      not_planned = λ other. ap (λ (p : Plan). p.planned) is ∙ g.not_planned other;
      cause = λ _. inr rose;
      quiet = λ no. absurd (no failed);
      planned_counts = omega (arith, ap (λ (p : Plan). p.planned) is, g.planned_counts);
      short_counts = omega arith;
    }
