use Rattle.std.proofs.Common.{arith, ◌≡◌, ◌⊎◌, ◌<◌, ◌≤◌, ◌+◌, ◌-◌, ℕ, Bool, true, false, not, List, length, get_or, take, max, refl, sym, ◌∙◌, subst, inl, inr}
use denote.Enum.Bare.{sameb}
use Rattle.wol_model.specs.contracts.trace.Kind.{the_type}
use Rattle.wol_model.specs.declared.trace.Kind.{Kind}
use Rattle.wol_model.specs.declared.trace.Kind.TheVariants as kind
use Rattle.trace_windows.specs.declared.request.Request.{Request}
use Rattle.window_desks.specs.Batches.{AreWrites, blocks_of, IsFirstBatch}
use Rattle.window_desks.proofs.Batching.{batch_ends, batch_more, batch_all}
use Rattle.window_desks.proofs.batch.first_batch.Goals as goal

is_write : (k : Kind) → not (sameb the_type k kind.Write) ≡ false → k ≡ kind.Write
is_write kind.Read e = cc
is_write kind.Write e = refl

not_write : (k : Kind) → not (sameb the_type k kind.Write) ≡ true → k ≡ kind.Write → ⊥
not_write kind.Read e is = cc
not_write kind.Write e is = cc

ends : (rs : List Request) (k : ℕ) (d : Request) (left : ℕ) (ne : Bool) → k < length rs → AreWrites (take k rs) → left + blocks_of (take k rs) ≡ 128 → ne ≡ not (sameb the_type (get_or rs k d).kind kind.Write)
    → (ne ≡ true) ⊎ ((ne ≡ false) × (left < (get_or rs k d).count)) → IsFirstBatch rs (max k 1)
ends rs k d left ne less writes all is (inl reads) = batch_ends rs k d left less writes all (λ w few. not_write (get_or rs k d).kind (sym is ∙ reads) w)
ends rs k d left ne less writes all is (inr more) = batch_ends rs k d left less writes all (λ w few. omega (arith, few, more.1))

pub returns-then-ne : goal.returns-then-ne
returns-then-ne c =
    subst (λ n. IsFirstBatch c.args.requests.now n) (sym c.max.ensures)
    (ends c.args.requests.now c.loop-k.k _ c.loop-k.left c.ne.result c.loop-k-test.true c.loop-k.invariant.writes c.loop-k.invariant.all c.ne.ensures c.then-ne.either)

pub loop-k-preserved : goal.loop-k-preserved
loop-k-preserved c =
    let more = batch_more c.args.requests.now c.loop-k.k _ c.loop-k.left c.loop-k-test.true c.loop-k.invariant.writes c.loop-k.invariant.all (is_write _ (sym c.ne.ensures ∙ c.if-ne.false)) c.if-request-left.false in
    record { writes = more.0; all = more.1 }

pub returns : goal.returns
returns c = batch_all c.args.requests.now c.loop-k.k c.loop-k.left c.requires (let t = c.loop-k-test.false in let e = c.loop-k.auto.k-end in omega (arith, t, e)) c.loop-k.invariant.writes c.loop-k.invariant.all
