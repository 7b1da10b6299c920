-- One block through a record of calls.
use Rattle.std.proofs.Common.{◌≡◌, inl, inr, ℕ, zero, suc, ◌+◌, ◌-◌, ◌<◌, ◌≤◌, Bool, cond, nat_eq, List, [], ◌∷◌, ◌++◌, length, take, get_or, refl, sym, ◌∙◌, ap, subst, arith}
use Rattle.std.proofs.lemmas.List.{take_more}
use Rattle.std.proofs.lemmas.Bool.Decides.{eqb_tells}
use Rattle.wol_disk.specs.Disk.{Values, Block, fresh, renewed}
use Rattle.wol_disk.specs.Record.{block_step, block_after, value_at}
use Rattle.wol_disk.specs.declared.record.Call.{Call}

after_push : (i : ℕ) (calls : List Call) (call : Call) (w : Values Block) → block_after i (calls ++ call ∷ []) w ≡ block_step i call (block_after i calls w)
after_push i [] call w = refl
after_push i (c ∷ calls) call w = after_push i calls call (block_step i c w)

pub after_more : (i : ℕ) (calls : List Call) (k : ℕ) (call : Call) (w : Values Block) → k < length calls → call ≡ get_or calls k call → block_after i (take (k + 1) calls) w ≡ block_step i call (block_after i (take k calls) w)
after_more i calls k call w lt is = ap (λ l. block_after i l w) (take_more calls k call lt ∙ ap (λ c. take k calls ++ c ∷ []) (sym is)) ∙ after_push i (take k calls) call w

-- the walk has come to these values: where the place is among them, its value was picked
pub record IsPick (k place : ℕ) (latest picked : Block) (w : Values Block) : Type 0 where
  pub place_is : place ≡ length w.earlier
  pub latest_is : latest ≡ w.now
  pub picked_is : k ≤ place → picked ≡ value_at k w

older : (x : Block) (w : Values Block) (k : ℕ) → k ≤ length w.earlier → value_at k (renewed x w) ≡ value_at k w
older x w k le =
    let s : suc (length w.earlier) - k ≡ suc (length w.earlier - k) = omega arith in
    ap (λ (n : ℕ). get_or (x ∷ w.now ∷ w.earlier) n x) s ∙ within (w.now ∷ w.earlier) (length w.earlier - k) x w.now (omega arith)
  where
    within : (l : List Block) (n : ℕ) (d e : Block) → n < length l → get_or l n d ≡ get_or l n e
    within [] n d e lt = absurd (omega arith)
    within (y ∷ l) zero d e lt = refl
    within (y ∷ l) (suc n) d e lt = within l n d e (omega arith)

pub pick_later : (k place : ℕ) (latest picked x : Block) (w : Values Block) → IsPick k place latest picked w → k ≡ place + 1 → IsPick k (place + 1) x x (renewed x w)
pick_later k place latest picked x w p e = record {
  place_is = omega (arith, p.place_is);
  latest_is = refl;
  picked_is = λ le. let z : suc (length w.earlier) - k ≡ 0 = omega (arith, p.place_is) in sym (ap (λ (n : ℕ). get_or (x ∷ w.now ∷ w.earlier) n x) z);
}

pub pick_kept : (k place : ℕ) (latest picked x : Block) (w : Values Block) → IsPick k place latest picked w → (k ≡ place + 1 → ⊥) → IsPick k (place + 1) x picked (renewed x w)
pick_kept k place latest picked x w p ne = record {
  place_is = omega (arith, p.place_is);
  latest_is = refl;
  picked_is = λ le. let l : k ≤ place = omega arith in p.picked_is l ∙ sym (older x w k (omega (arith, p.place_is)));
}

pub pick_synced : (k place : ℕ) (latest picked : Block) (w : Values Block) → IsPick k place latest picked w → IsPick k 0 latest latest (fresh w.now)
pick_synced k place latest picked w p = record { place_is = refl; latest_is = p.latest_is; picked_is = λ le. p.latest_is ∙ only_one (0 - k) w.now }
  where
    only_one : (n : ℕ) (b : Block) → b ≡ get_or (b ∷ []) n b
    only_one zero b = refl
    only_one (suc n) b = refl

pub pick_wrote : (k place : ℕ) (latest picked x : Block) (w : Values Block) → IsPick k place latest picked w → IsPick k (place + 1) x (cond (nat_eq (place + 1) k) x picked) (renewed x w)
pick_wrote k place latest picked x w p = let P : Bool → Type 0 = λ b. IsPick k (place + 1) x (cond b x picked) (renewed x w) in elim (eqb_tells (place + 1) k) [
  | inl t ↦ subst P (sym t.0) (pick_later k place latest picked x w p (sym t.1))
  | inr f ↦ subst P (sym f.0) (pick_kept k place latest picked x w p (λ e. f.1 (sym e)))
]

pub pick_start : (k : ℕ) (b : Block) → IsPick k 0 b b (fresh b)
pick_start k b = pick_synced k 0 b b (fresh b) (record { place_is = refl; latest_is = refl; picked_is = λ le. one (0 - k) })
  where
    one : (n : ℕ) → b ≡ get_or (b ∷ []) n b
    one zero = refl
    one (suc n) = refl
