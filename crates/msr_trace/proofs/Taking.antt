-- Bytes that are taken from a source add up.
use Rattle.std.proofs.Common.{◌≡◌, ℕ, ◌≤◌, List, [], ◌++◌, Option, None, Some, refl, sym, ap, ◌∙◌, append_assoc, append-nil, arith}
use Rattle.std.specs.Io.KnownBytes.{Consumes, Keeps, prepend_known}
use Rattle.wol_io.proofs.Appending.{keeps_same, keeps_both}
use Rattle.msr_trace.specs.Intake.{Held, Takes, to_give}

kept_some : (a b : Option (List ℕ)) (held more : List ℕ) → Consumes a b more → Keeps (prepend_known held a) (prepend_known (held ++ more) b)
kept_some None b held more h = tt
kept_some (Some xs) None held more h = absurd h
kept_some (Some xs) (Some ys) held more h = rw (h, append_assoc) refl

kept_none : (a b : Option (List ℕ)) (held : List ℕ) → Keeps a b → Keeps (prepend_known held a) (prepend_known held b)
kept_none None b held h = tt
kept_none (Some xs) None held h = absurd h
kept_none (Some xs) (Some ys) held h = ap (λ (bs : List ℕ). held ++ bs) h

-- some bytes
pub takes_some : {S : Type 0} (left : S → Option (List ℕ)) (faults borrow : S → ℕ) (old new : Held S) (more : List ℕ)
    → new.bytes ≡ old.bytes ++ more → Consumes (left old.source) (left new.source) more → faults old.source ≤ faults new.source → borrow new.source ≡ borrow old.source → Takes left faults borrow old new
takes_some left faults borrow old new more e h later same = record {
  kept = rw e (kept_some (left old.source) (left new.source) old.bytes more h);
  more = (more, e);
  later = later;
  same_borrow = same;
}

-- none
pub takes_none : {S : Type 0} (left : S → Option (List ℕ)) (faults borrow : S → ℕ) (old new : Held S)
    → new.bytes ≡ old.bytes → Keeps (left old.source) (left new.source) → faults old.source ≤ faults new.source → borrow new.source ≡ borrow old.source → Takes left faults borrow old new
takes_none left faults borrow old new e h later same = record {
  kept = rw e (kept_none (left old.source) (left new.source) old.bytes h);
  more = ([], e ∙ sym (append-nil old.bytes));
  later = later;
  same_borrow = same;
}

-- nothing was done
pub takes_same : {S : Type 0} (left : S → Option (List ℕ)) (faults borrow : S → ℕ) (old : Held S) → Takes left faults borrow old old
takes_same left faults borrow old = takes_none left faults borrow old old refl (keeps_same (left old.source)) (omega arith) refl

-- one after another
pub takes_both : {S : Type 0} (left : S → Option (List ℕ)) (faults borrow : S → ℕ) (old mid new : Held S) → Takes left faults borrow old mid → Takes left faults borrow mid new → Takes left faults borrow old new
takes_both left faults borrow old mid new a b = record {
  kept = keeps_both (to_give left old) (to_give left mid) (to_give left new) a.kept b.kept;
  more = (a.more.0 ++ b.more.0, rw (b.more.1, a.more.1) (append_assoc old.bytes a.more.0 b.more.0));
  later = omega (arith, a.later, b.later);
  same_borrow = b.same_borrow ∙ a.same_borrow;
}
