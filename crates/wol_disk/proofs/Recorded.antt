-- What a call of a disk in memory does to its state.
use Rattle.std.proofs.Common.{◌≡◌, inl, inr, ℕ, ◌≤◌, List, [], ◌∷◌, ◌++◌, length, take, Vec, Result, Ok, Err, OnOk, OnErr, refl, sym, ◌∙◌, ap, subst, arith, length-append}
use Rattle.std.proofs.lemmas.List.{take_all, take-append-le}
use Rattle.std.proofs.lemmas.Bool.{cases_lt}
use Rattle.wol_disk.specs.Disk.{Values, Block, Passes, IsImage, Rose, only, added, put, reads}
use Rattle.wol_disk.proofs.Images.{reads_added, reads_only, length-put}
use Rattle.wol_disk.specs.RecordSound.{values_after-push}
use Rattle.wol_disk.specs.Record.{step, values_after, record_state}
use Rattle.wol_disk.specs.declared.record.Call.{Call}
use Rattle.wol_disk.specs.declared.record.Call.TheVariants.{Wrote, Synced}
use Rattle.std.specs.declared.alloc.Global.{Global}

module _ (start : List (Values Block)) where
  -- a call that isn't recorded
  pub passes_same : (calls : List Call) (f f' : ℕ) (F : Type 0) → f ≤ f' → (F → Rose f f') → (¬ F → f' ≡ f) → Passes (record_state start calls f) (record_state start calls f') F
  passes_same calls f f' F le rose calm = record {
    same_size = refl;
    later = omega arith;
    nothing_else = λ t c le left. inl left;
    keeps = λ t c le left. left;
    counts = le;
    caused = rose;
    calm = calm;
  }

  push_front : (k : ℕ) (calls : List Call) (call : Call) (c : List Block) → k ≤ length calls → IsImage (values_after (take k (calls ++ call ∷ [])) start) c → IsImage (values_after (take k calls) start) c
  push_front k calls call c le i = subst (λ (l : List Call). IsImage (values_after l start) c) (take-append-le k calls (call ∷ []) le) i

  -- one that is
  pub passes_push : (calls : List Call) (call : Call) (f : ℕ) (F : Type 0) → ¬ F → Passes (record_state start calls f) (record_state start (calls ++ call ∷ []) f) F
  passes_push calls call f F not = record {
    same_size = refl;
    later = omega (arith, length-append calls (call ∷ []));
    nothing_else = λ t c le left. elim (cases_lt (length calls) left.0) [
      | inl more ↦ inr (subst (λ (l : List Call). IsImage (values_after l start) c) (take_all left.0 (calls ++ call ∷ []) (omega (arith, more, length-append calls (call ∷ [])))) left.3)
      | inr less ↦ inl (left.0, left.1, less, push_front left.0 calls call c less left.3)
    ];
    keeps = λ t c le left. (left.0, left.1, omega (arith, left.2, length-append calls (call ∷ [])), subst (λ (l : List Call). IsImage (values_after l start) c) (sym (take-append-le left.0 calls (call ∷ []) left.2)) left.3);
    counts = omega arith;
    caused = λ failed. absurd (not failed);
    calm = λ _. refl;
  }

module _ (a a' : List Block) (calls calls' : List Call) (call : Call) (same : a' ≡ a) (more : calls' ≡ calls ++ call ∷ []) where
  pub values_called : values_after calls' (only a') ≡ step call (values_after calls (only a))
  values_called = rw (more, same) (values_after-push calls call (only a))

  pub passes_called : (f f' : ℕ) (F : Type 0) → f' ≡ f → ¬ F → Passes (record_state (only a) calls f) (record_state (only a') calls' f') F
  passes_called f f' F e not = rw (more, same, e) (passes_push (only a) calls call f F not)

pub wrote : (a a' : List Block) (at : ℕ) (xs : List Block) (v : Vec Block Global) (calls calls' : List Call) → a' ≡ a → v.items ≡ xs → calls' ≡ calls ++ Wrote at v ∷ [] → values_after calls' (only a') ≡ added at xs (values_after calls (only a))
wrote a a' at xs v calls calls' same is more = values_called a a' calls calls' (Wrote at v) same more ∙ ap (λ l. added at l (values_after calls (only a))) is

pub wrote_reads : (at : ℕ) (v : Vec Block Global) (now now' : List Block) (calls calls' : List Call) (start : List (Values Block)) → now' ≡ put at v.items now → calls' ≡ calls ++ Wrote at v ∷ []
    → now ≡ reads (values_after calls start) → now' ≡ reads (values_after calls' start)
wrote_reads at v now now' calls calls' start e more is =
    e ∙ ap (λ l. put at v.items l) is ∙ sym (reads_added at v.items (values_after calls start)) ∙ sym (ap reads (ap (λ l. values_after l start) more ∙ values_after-push calls (Wrote at v) start))

pub synced_reads : (calls calls' : List Call) (start : List (Values Block)) → calls' ≡ calls ++ Synced ∷ [] → reads (values_after calls' start) ≡ reads (values_after calls start)
synced_reads calls calls' start more =
    ap reads (ap (λ l. values_after l start) more ∙ values_after-push calls Synced start) ∙ reads_only (reads (values_after calls start))

-- what `overwrite` leaves, whatever it answered
module _ {T E : Type 0} (at : ℕ) (xs now now' : List Block) (calls calls' : List Call) where
  pub size_either : (r : Result T E) → OnOk r (now' ≡ put at xs now) → OnErr r (now' ≡ now) → length now' ≡ length now
  size_either (Ok x) ok err = ap length ok ∙ length-put at xs now
  size_either (Err e) ok err = ap length err

  pub reads_either : (r : Result T E) (start : List (Values Block)) → OnOk r (now' ≡ put at xs now) → OnOk r ((v : Vec Block Global) × (v.items ≡ xs) × (calls' ≡ calls ++ Wrote at v ∷ [])) → OnErr r (now' ≡ now) → OnErr r (calls' ≡ calls)
      → now ≡ reads (values_after calls start) → now' ≡ reads (values_after calls' start)
  reads_either (Ok x) start ok more err same is = wrote_reads at more.0 now now' calls calls' start (ok ∙ ap (λ l. put at l now) (sym more.1)) more.2 is
  reads_either (Err e) start ok more err same is = err ∙ is ∙ ap (λ l. reads (values_after l start)) (sym same)
