-- The record of a disk in memory keeps what holds of each disk.
use Rattle.std.proofs.Common.{◌≡◌, ℕ, zero, suc, ◌<◌, ◌^◌, List, [], ◌∷◌, ◌++◌, length, Some, refl, sym, ◌∙◌, ap, subst, arith}
use Rattle.std.proofs.lemmas.List.{take_all}
use Rattle.wol_disk.specs.Disk.{Values, Block, IsDisk, IsImage, added, only, put, reads}
use Rattle.wol_disk.specs.Record.{step, values_after, record_state}
use Rattle.wol_disk.specs.declared.record.Call.{Call}
use Rattle.wol_disk.specs.declared.record.Call.TheVariants.{Wrote, Synced}

length-added : {B : Type 0} (at : ℕ) (xs : List B) (vs : List (Values B))
    → length (added at xs vs) ≡ length vs
length-added at xs [] = refl
length-added zero [] (v ∷ vs) = refl
length-added zero (x ∷ xs) (v ∷ vs) = ap suc (length-added zero xs vs)
length-added (suc at) xs (v ∷ vs) = ap suc (length-added at xs vs)

length-put : {B : Type 0} (at : ℕ) (xs bs : List B) → length (put at xs bs) ≡ length bs
length-put at xs [] = refl
length-put zero [] (b ∷ bs) = refl
length-put zero (x ∷ xs) (b ∷ bs) = ap suc (length-put zero xs bs)
length-put (suc at) xs (b ∷ bs) = ap suc (length-put at xs bs)

length-reads : {B : Type 0} (vs : List (Values B)) → length (reads vs) ≡ length vs
length-reads [] = refl
length-reads (v ∷ vs) = ap suc (length-reads vs)

pub length-only : {B : Type 0} (bs : List B) → length (only bs) ≡ length bs
length-only [] = refl
length-only (b ∷ bs) = ap suc (length-only bs)

pub length-step : (call : Call) (vs : List (Values Block)) → length (step call vs) ≡ length vs
length-step (Wrote at v) vs = length-added at v.items vs
length-step Synced vs = length-only (reads vs) ∙ length-reads vs

pub length-values_after : (calls : List Call) (vs : List (Values Block))
    → length (values_after calls vs) ≡ length vs
length-values_after [] vs = refl
length-values_after (call ∷ calls) vs =
    length-values_after calls (step call vs) ∙ length-step call vs

pub values_after-push : (calls : List Call) (call : Call) (vs : List (Values Block))
    → values_after (calls ++ call ∷ []) vs ≡ step call (values_after calls vs)
values_after-push [] call vs = refl
values_after-push (c ∷ calls) call vs = values_after-push calls call (step c vs)

some-values : (vs ws : List (Values Block)) → Some vs ≡ Some ws → ws ≡ vs
some-values vs ws e = cc

pub record_sound : (start : List (Values Block)) (calls : List Call) (faults : ℕ)
    → length start < 2 ^ 64 → IsDisk (record_state start calls faults)
record_sound start calls faults small = record {
  small = small;
  each_block = λ vs e.
      ap length (some-values (values_after calls start) vs e) ∙ length-values_after calls start;
  counts_now = λ t c le now. (
    length calls,
    le,
    omega arith,
    subst (λ (l : List Call). IsImage (values_after l start) c)
        (sym (take_all (length calls) calls (omega arith))) now,
  );
  only_now = λ c left.
      subst (λ (l : List Call). IsImage (values_after l start) c) (take_all left.0 calls left.1)
      left.3;
}
