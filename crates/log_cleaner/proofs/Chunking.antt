-- Chunks: no two have a block in common, and those that come one after another are all.
use Rattle.std.proofs.Common.{◌≡◌, ◌⊎◌, inl, inr, ⊎_elim, ◌<◌, ◌≤◌, ◌+◌, ◌*◌, ℕ, zero, suc, Bool, true, false, List, [], ◌∷◌, ◌++◌, length, refl, sym, ap, subst, ◌∙◌, arith}
use Rattle.std.proofs.lemmas.Bool.{cases_lt}
use Rattle.std.specs.List.{AllByRecursion}
use Rattle.wol_model.specs.Index.{Listed}
use Rattle.log_segment.specs.declared.item.Item.{Item}
use Rattle.log_cleaner.specs.Chunks.{AreNext, IsChunk, IsNext, end_of}

trichotomy : (a b : ℕ) → (a < b) ⊎ ((a ≡ b) ⊎ (b < a))
trichotomy a b = ⊎_elim (λ lt. inl lt) (λ ge. ⊎_elim (λ gt. inr (inr gt)) (λ le. inr (inl (omega (arith, ge, le)))) (cases_lt b a)) (cases_lt a b)

no_way : (t : Bool) → t ≡ true → t ≡ false → ⊥
no_way t is not_ = let wrong : true ≡ false = sym is ∙ not_ in cc

more_cuts : (j k most : ℕ) → j < k → j * most + most ≤ k * most
more_cuts j zero most less = absurd (omega (arith, less))
more_cuts j (suc k) most less = at (more_cuts j k most) (trichotomy j k)
  where
    step : suc k * most ≡ k * most + most
    step = omega arith

    at : (j < k → j * most + most ≤ k * most) → (j < k) ⊎ ((j ≡ k) ⊎ (k < j)) → j * most + most ≤ suc k * most
    at before (inl l) = let rest = before l in omega (arith, rest, step)
    at before (inr (inl same)) = let e = ap (λ (n : ℕ). n * most) same in omega (arith, e, step)
    at before (inr (inr l)) = absurd (omega (arith, less, l))

module _ (covered : ℕ → Bool) (most : ℕ) (f c g d b : ℕ) (x : IsChunk covered most f c) (y : IsChunk covered most g d) where
  -- a run that begins later doesn't reach back
  no_later : f ≤ b → b < f + c → g ≤ b → x.start < y.start → ⊥
  no_later lx hx ly later = at y.start refl
    where
      at : (s : ℕ) → y.start ≡ s → ⊥
      at zero is = omega (arith, later, is)
      at (suc s) is =
          let ex = x.cut in let ey = y.cut in
          no_way (covered s) (x.run s (omega (arith, later, is)) (omega (arith, is, lx, hx, ly, ey))) (y.starts s (omega (arith, is)))

  no_further : x.start ≡ y.start → f ≤ b → b < f + c → g ≤ b → x.cuts < y.cuts → ⊥
  no_further same lx hx ly less =
      let m = more_cuts x.cuts y.cuts most less in let ex = x.cut in let ey = y.cut in let few = x.few in
      omega (arith, m, ex, ey, few, same, lx, hx, ly)

  no_longer : f ≡ g → c < d → ⊥
  no_longer same less =
      let few = y.few in let ex = x.cut in let ey = y.cut in
      no_way (covered (f + c)) (y.run (f + c) (omega (arith, same, ey)) (omega (arith, same, less))) (x.ends (omega (arith, less, few)))

pub same_chunk : (covered : ℕ → Bool) (most f c g d b : ℕ) → IsChunk covered most f c → IsChunk covered most g d → f ≤ b → b < f + c → g ≤ b → b < g + d → (f ≡ g) × (c ≡ d)
same_chunk covered most f c g d b x y lx hx ly hy = (first, count)
  where
    start : x.start ≡ y.start
    start = at (trichotomy x.start y.start)
      where
        at : (x.start < y.start) ⊎ ((x.start ≡ y.start) ⊎ (y.start < x.start)) → x.start ≡ y.start
        at (inl l) = absurd (no_later covered most f c g d b x y lx hx ly l)
        at (inr (inl e)) = e
        at (inr (inr l)) = absurd (no_later covered most g d f c b y x ly hy lx l)

    cuts : x.cuts ≡ y.cuts
    cuts = at (trichotomy x.cuts y.cuts)
      where
        at : (x.cuts < y.cuts) ⊎ ((x.cuts ≡ y.cuts) ⊎ (y.cuts < x.cuts)) → x.cuts ≡ y.cuts
        at (inl l) = absurd (no_further covered most f c g d b x y start lx hx ly l)
        at (inr (inl e)) = e
        at (inr (inr l)) = absurd (no_further covered most g d f c b y x (sym start) ly hy lx l)

    first : f ≡ g
    first = x.cut ∙ (λ i. start i + cuts i * most) ∙ sym y.cut

    count : c ≡ d
    count = at (trichotomy c d)
      where
        at : (c < d) ⊎ ((c ≡ d) ⊎ (d < c)) → c ≡ d
        at (inl l) = absurd (no_longer covered most f c g d b x y first l)
        at (inr (inl e)) = e
        at (inr (inr l)) = absurd (no_longer covered most g d f c b y x (sym first) l)

-- ---- One after another

-- a place where a chunk may begin, if the block there is covered
pub record IsCutAt (covered : ℕ → Bool) (most at : ℕ) : Type 0 where
  pub start : ℕ
  pub starts : (b : ℕ) → b + 1 ≡ start → covered b ≡ false
  pub cuts : ℕ
  pub cut : at ≡ start + cuts * most
  pub run : (b : ℕ) → start ≤ b → b < at → covered b ≡ true

pub cut_at_none : (covered : ℕ → Bool) (most : ℕ) → IsCutAt covered most 0
cut_at_none covered most = record {
  start = 0;
  starts = λ b is. absurd (omega (arith, is));
  cuts = 0;
  cut = omega arith;
  run = λ b low high. absurd (omega (arith, high));
}

-- where the next chunk begins, from a cut on
pub cut_next : (covered : ℕ → Bool) (most from first : ℕ) → (covered from ≡ true → IsCutAt covered most from) → from ≤ first → ((b : ℕ) → from ≤ b → b < first → covered b ≡ false) → covered first ≡ true → IsCutAt covered most first
cut_next covered most from first was le bare here = at (trichotomy from first)
  where
    at : (from < first) ⊎ ((from ≡ first) ⊎ (first < from)) → IsCutAt covered most first
    at (inl less) = record {
      start = first;
      starts = λ b is. bare b (omega (arith, less, is)) (omega (arith, is));
      cuts = 0;
      cut = omega arith;
      run = λ b low high. absurd (omega (arith, low, high));
    }
    at (inr (inl same)) = subst (IsCutAt covered most) same (was (ap covered same ∙ here))
    at (inr (inr less)) = absurd (omega (arith, le, less))

-- the chunk that begins there
pub chunk_at : (covered : ℕ → Bool) (most first count : ℕ) → IsCutAt covered most first → 1 ≤ count → count ≤ most → ((b : ℕ) → first ≤ b → b < first + count → covered b ≡ true) → (count < most → covered (first + count) ≡ false) → IsChunk covered most first count
chunk_at covered most first count c some few run ends = record {
  start = c.start;
  starts = c.starts;
  cuts = c.cuts;
  cut = c.cut;
  run = λ b low high. ⊎_elim (λ less. c.run b low less) (λ more. run b more high) (cases_lt b first);
  some = some;
  few = few;
  ends = ends;
}

-- and the cut behind it
pub cut_behind : (covered : ℕ → Bool) (most first count : ℕ) → IsChunk covered most first count → covered (first + count) ≡ true → IsCutAt covered most (first + count)
cut_behind covered most first count c here = record {
  start = c.start;
  starts = c.starts;
  cuts = suc c.cuts;
  cut = (
      let whole : count ≡ most = full (cases_lt count most) in
      let e = c.cut in let step : suc c.cuts * most ≡ c.cuts * most + most = omega arith in omega (arith, e, whole, step)
      );
  run = c.run;
}
  where
    full : (count < most) ⊎ (most ≤ count) → count ≡ most
    full (inl less) = absurd (no_way (covered (first + count)) here (c.ends less))
    full (inr more) = let few = c.few in omega (arith, few, more)

-- ---- Chunks one behind the other

-- one more behind them
pub next_push : (covered : ℕ → Bool) (es : List Listed) (most from : ℕ) (items : List Item) (i : Item) → AreNext covered es most from items → IsNext covered es most (end_of from items) i → AreNext covered es most from (items ++ i ∷ [])
next_push covered es most from [] i are is = (is, tt)
next_push covered es most from (j ∷ items) i are is = (are.0, next_push covered es most (j.lbn + j.count) items i are.1 is)

pub end_push : (from : ℕ) (items : List Item) (i : Item) → end_of from (items ++ i ∷ []) ≡ i.lbn + i.count
end_push from [] i = refl
end_push from (j ∷ items) i = end_push (j.lbn + j.count) items i

-- they end behind where they begin
end_behind : (covered : ℕ → Bool) (es : List Listed) (most from : ℕ) (items : List Item) → AreNext covered es most from items → from ≤ end_of from items
end_behind covered es most from [] are = omega arith
end_behind covered es most from (i ∷ items) are = let rest = end_behind covered es most (i.lbn + i.count) items are.1 in let low = are.0.ahead.low in omega (arith, rest, low)

pub end_past : (covered : ℕ → Bool) (es : List Listed) (most from : ℕ) (items : List Item) → 1 ≤ length items → AreNext covered es most from items → from < end_of from items
end_past covered es most from [] some are = absurd (omega (arith, some))
end_past covered es most from (i ∷ items) some are = let rest = end_behind covered es most (i.lbn + i.count) items are.1 in let low = are.0.ahead.low in let one = are.0.ahead.some in omega (arith, rest, low, one)

pub next_small : (covered : ℕ → Bool) (es : List Listed) (most from : ℕ) (items : List Item) → most ≤ 128 → AreNext covered es most from items → AllByRecursion (λ (i : Item). i.count ≤ 128) items
next_small covered es most from [] small are = tt
next_small covered es most from (i ∷ items) small are = ((let f = are.0.ahead.few in omega (arith, f, small)), next_small covered es most (i.lbn + i.count) items small are.1)
