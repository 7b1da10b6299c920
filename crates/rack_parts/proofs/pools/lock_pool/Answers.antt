use Rattle.rack_parts.proofs.Basics.{ℕ, [], arith}
use mathlib.Core.List.{Mem, not-mem-nil}
use base.Meet.{within_both}
use Rattle.rack_parts.proofs.pools.lock_pool.Goals as goal

pub new-requires : goal.new-requires
new-requires g c = λ κs within.
    let κ = κs.0 in
    let nil = λ (a : ℕ) (m : Mem a []). absurd (not-mem-nil m) in
    let a1 = within_both κ g.row.D.lives [] within nil in
    let b1 = within_both κ _ [] (within_both κ _ _ a1 a1) nil in
    let c1 = within_both κ _ _ a1 b1 in
    let x = within_both κ _ [] c1 nil in
    let y = within_both κ _ _ x (within_both κ _ [] x nil) in
    (within_both κ _ _ x (within_both κ _ [] (within_both κ _ [] (within_both κ _ [] y nil) nil) nil), (λ a m. absurd (not-mem-nil m), ((omega (arith, c.requires.count), omega (arith, c.requires.count)), c.requires.stands)))
