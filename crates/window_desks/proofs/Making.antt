-- The entries that a turn leaves for the first ones of some requests.
use Rattle.std.proofs.Common.{◌≡◌, ◌≤◌, ◌+◌, ℕ, Bool, true, false, List, [], ◌∷◌, ◌++◌, length, take, drop, get_or, replicate, inl, refl, ap, sym, ◌∙◌, subst, arith}
use Rattle.std.proofs.lemmas.List.{append-nil, length-take-le, drop_more}
use Rattle.std.proofs.lemmas.Option.{get_or_from_slice_get}
use Rattle.wol_model.specs.declared.trace.Kind.TheVariants as kind
use Rattle.wol_promise.specs.Ruled.{Noted}
use Rattle.request_turns.specs.Answered.{HasAnswered, HasAnsweredMany}
use Rattle.request_turns.specs.Entries.{IsEntryOf, IsEntryOfFirst, AreMade, none, one, several}
use Rattle.request_turns.proofs.MadeLaws.{entry_more, entries_of_one}
use Rattle.request_turns.specs.Turns.{ManagerPass, began}
use Rattle.window_desks.specs.Requests.{was_answered, was_run}
use Rattle.trace_windows.specs.declared.request.Request.{Request}
use Rattle.request_turns.specs.declared.outcome.Outcome.{Outcome}
use Rattle.request_turns.specs.declared.outcome.Outcome.TheVariants as outcome

-- those that weren't run left none
made_none : (view : List ℕ) (rs : List Request) → AreMade view rs (replicate (length rs) outcome.NotRun) []
made_none view [] = none
made_none view (r ∷ rs) = one r rs outcome.NotRun (replicate (length rs) outcome.NotRun) [] [] [] refl refl (made_none view rs)

-- a request with an entry was run
entry_run : (view : List ℕ) (r : Request) (behind : List Request) (o : Outcome) (n : Noted) → IsEntryOf view r behind o n → was_run o ≡ true
entry_run view r behind (outcome.Read mark sources) n is = refl
entry_run view r behind (outcome.Wrote place drained) n is = refl
entry_run view r behind (outcome.NoRead x) n is = refl
entry_run view r behind (outcome.NoWrite x) n is = refl
entry_run view r behind outcome.NotRun n is = absurd is

-- what is behind one that was answered doesn't matter
entry_alone : (view : List ℕ) (r : Request) (behind : List Request) (o : Outcome) (n : Noted) → was_answered o ≡ true → IsEntryOf view r behind o n → IsEntryOf view r [] o n
entry_alone view r behind (outcome.Read mark sources) n answered is = is
entry_alone view r behind (outcome.Wrote place drained) n answered is = is
entry_alone view r behind (outcome.NoRead x) n answered is = is
entry_alone view r behind (outcome.NoWrite x) n answered is = cc
entry_alone view r behind outcome.NotRun n answered is = absurd is

module _ (view : List ℕ) (rs : List Request) (count : ℕ) (o : Outcome) (n : Noted) where
  pub first_run : IsEntryOfFirst view rs count o n → was_run o ≡ true
  first_run (one r behind rs_is count_is is) = entry_run view r behind o n is
  first_run (several place two within o_is group) = ap was_run o_is

  -- one alone is refused
  pub first_single : was_answered o ≡ false → IsEntryOfFirst view rs count o n → count ≡ 1
  first_single refused (one r behind rs_is count_is is) = count_is
  first_single refused (several place two within o_is group) = let e = ap was_answered o_is in cc

  -- the first ones that were answered made it
  pub first_made : was_answered o ≡ true → IsEntryOfFirst view rs count o n → AreMade view (take count rs) (replicate count o) (n ∷ [])
  first_made answered (one r behind rs_is count_is is) =
      subst (λ (l : List Request). AreMade view (take count l) (replicate count o) (n ∷ [])) (sym rs_is)
      (subst (λ (k : ℕ). AreMade view (take k (r ∷ behind)) (replicate k o) (n ∷ [])) (sym count_is)
      (one r [] o [] (n ∷ []) (n ∷ []) [] refl (entries_of_one view r [] o n (entry_alone view r behind o n answered is)) none))
  first_made answered (several place two within o_is group) =
      let many : length (take count rs) ≡ count = length-take-le count rs within in
      let outs : replicate count o ≡ replicate (length (take count rs)) (outcome.Wrote place false) ++ [] =
      ap (λ (x : Outcome). replicate count x) o_is ∙ (ap (λ k. replicate k (outcome.Wrote place false)) (sym many) ∙ sym (append-nil (replicate (length (take count rs)) (outcome.Wrote place false)))) in
      several (take count rs) (replicate count o) (n ∷ []) (take count rs) [] place [] n [] (subst (λ k. 2 ≤ k) (sym many) two) (sym (append-nil (take count rs))) outs refl group none

  -- it was refused, and none behind it was run
  pub first_refused : was_answered o ≡ false → IsEntryOfFirst view rs count o n → (later : List Request) (left : ℕ) → count + left ≡ length (rs ++ later)
      → AreMade view (rs ++ later) (replicate count o ++ replicate left outcome.NotRun) (n ∷ [])
  first_refused refused (one r behind rs_is count_is is) later left all =
      let same : left ≡ length (behind ++ later) = (let l = ap (λ (l : List Request). length (l ++ later)) rs_is in omega (arith, all, l, count_is)) in
      subst (λ (l : List Request). AreMade view (l ++ later) (replicate count o ++ replicate left outcome.NotRun) (n ∷ [])) (sym rs_is)
      (subst (λ (k : ℕ). AreMade view (r ∷ (behind ++ later)) (replicate k o ++ replicate left outcome.NotRun) (n ∷ [])) (sym count_is)
      (subst (λ (k : ℕ). AreMade view (r ∷ (behind ++ later)) (o ∷ replicate k outcome.NotRun) (n ∷ [])) (sym same)
      (one r (behind ++ later) o (replicate (length (behind ++ later)) outcome.NotRun) (n ∷ []) (n ∷ []) [] refl
      (entries_of_one view r (behind ++ later) o n (entry_more view r behind later o n is)) (made_none view (behind ++ later)))))
  first_refused refused (several place two within o_is group) later left all = let e = ap was_answered o_is in cc

-- the first of these requests, in one turn, where it reads
pub one_answered : {D : Type 0} (tells : Bool) (rs : List Request) (d : Request) (o : Outcome) (p q : ManagerPass D) → 1 ≤ length rs → (get_or rs 0 d).kind ≡ kind.Read → HasAnswered tells (get_or rs 0 d) o p q → HasAnsweredMany tells rs 1 o p q
one_answered tells rs d o p q some reads a = record {
  some = omega arith;
  within = some;
  before = a.before;
  note = a.note;
  turned = a.turned;
  entry = one (get_or rs 0 d) (drop 1 rs) (drop_more rs 0 d (omega arith)) refl (entry_more (began p).view (get_or rs 0 d) [] (drop 1 rs) o a.note a.entry);
  stays = λ kept. inl (a.stays kept);
  cause = λ r first writes. absurd (let no : kind.Read ≡ kind.Write = sym reads ∙ ap (λ (x : Request). x.kind) (get_or_from_slice_get rs 0 r d first) ∙ writes in cc no);
  fault = a.fault;
}
