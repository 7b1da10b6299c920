use Rattle.std.proofs.Common.{◌≡◌, ℕ, ◌+◌, length, ◌∙◌, ◌++◌, replicate, ap, sym, arith, append-nil, set}
use Rattle.std.proofs.lemmas.List.{length-replicate, drop_all}
use Rattle.std.proofs.lemmas.List.Edits.{paste_none, paste_all, fill_from_more}
use lib.Seq.{paste}
use Rattle.offload_policy.specs.declared.Room.TheVariants.{Unknown}
use Rattle.volume_parts.proofs.Elements.{refill_set}
use Rattle.manager.proofs.manager.forget.Goals as goal

pub loop-k-init : goal.loop-k-init
loop-k-init c = paste_none c.args.rooms.now.items 0 (replicate 0 Unknown)

pub loop-k-preserved : goal.loop-k-preserved
loop-k-preserved c =
    let xs = c.args.rooms.now.items in let k = c.loop-k.k in let here : k ≡ 0 + k = omega arith in
    refill_set c.loop-k.rooms.items c.deref_mut.result.now k Unknown c.deref_mut.ensures.value ∙ (ap (λ ys. set ys k Unknown) c.loop-k.invariant ∙ (ap (λ (m : ℕ). set (paste xs 0 (replicate k Unknown) k) m Unknown) here ∙ fill_from_more xs 0 k Unknown (omega (arith, c.loop-k-test.true, c.len-k-end.ensures))))

pub returns : goal.returns
returns c =
    let xs = c.args.rooms.now.items in let n = c.loop-k.k in let all : n ≡ length xs = omega (arith, c.loop-k.auto.k-end, c.loop-k-test.false, c.len-k-end.ensures) in
    c.loop-k.invariant ∙ (paste_all xs 0 (replicate n Unknown) n (sym (length-replicate n Unknown)) ∙ (ap (λ ys. replicate n Unknown ++ ys) (drop_all (0 + n) xs (omega (arith, all))) ∙ (append-nil (replicate n Unknown) ∙ ap (λ (m : ℕ). replicate m Unknown) all)))
