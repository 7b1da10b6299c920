-- The histories of volumes that were cleaned in one turn, or not at all, and what such a volume recovers to.
use Rattle.std.proofs.Common.{◌≡◌, ◌≢◌, ◌<◌, ◌≤◌, ℕ, zero, suc, Bool, true, cond, List, [], ◌∷◌, ◌++◌, length, take, Option, None, Some, Result, Ok, Err, refl, sym, ap, subst, ◌∙◌, append-nil}
use Rattle.std.specs.Prelude.{IsSome, unwrap_or, ◌==◌}
use Rattle.std.specs.List.{AllByRecursion}
use Rattle.std.proofs.lemmas.Bool.{eq-eqb}
use Rattle.std.proofs.lemmas.List.Elements.{filter-append}
use Rattle.wol_disk.specs.Disk.{Block}
use Rattle.turn_lock.specs.Histories.{Entry, own, Begins}
use Rattle.wol_model.specs.Blocks.{Write, after}
use Rattle.wol_model.specs.History as history
use Rattle.wol_model.specs.History.{Operation, IsCut, flight_of, torn, whole, worker, helper, keeper, writes}
use Rattle.wol_model.proofs.Overlay.{after_none}
use Rattle.wol_promise.specs.Ruled.{Noted, entries_of}
use Rattle.manager.specs.declared.part.Part.{Part}
use Rattle.log_cleaner.specs.Chunks.{IsCopyOf}
use Rattle.log_cleaner.specs.Copies.{wrote}
use Rattle.log_cleaner.specs.declared.answer.Cleaned.{Cleaned}
use Rattle.log_cleaner.specs.declared.answer.CleanFault.{CleanFault}
use Rattle.log_cleaner.specs.declared.answer.CleanFault.TheVariants.{DiskFault, VersionsSpent, NoMemory}
use Rattle.log_cleaner.proofs.Copying.{after_copies, cut_none}
use Rattle.inspection.proofs.Unhelped.{none_before}
use Rattle.cleaning.specs.Turns.{operation_of}

-- ---- Whose entries there are

begins_self : (es : List Entry) → Begins es es
begins_self es = ([], append-nil es)

-- where no pass has an entry there is none
pub no_entries : (es : List Entry) → own worker es ≡ [] → own helper es ≡ [] → own keeper es ≡ [] → ((n : ℕ) → n ≢ worker → n ≢ helper → n ≢ keeper → own n es ≡ []) → es ≡ []
no_entries es = none_before es es (begins_self es)

nothing_behind : {X : Type 0} (xs ys : List X) → xs ++ ys ≡ [] → ys ≡ []
nothing_behind [] ys is = is
nothing_behind (x ∷ xs) ys is = absurd (let no : x ∷ (xs ++ ys) ≡ [] = is in cc)

-- where the worker has one entry, and the others have none, that is all
pub one_entry : (es : List Entry) (e : Entry) → e.0 ≡ worker → Begins (e ∷ []) es → own worker es ≡ e ∷ [] → own helper es ≡ [] → own keeper es ≡ [] → ((n : ℕ) → n ≢ worker → n ≢ helper → n ≢ keeper → own n es ≡ []) → es ≡ e ∷ []
one_entry es e its (more, is) worked helped kept others =
    sym is ∙ ap (λ (m : List Entry). e ∷ m) (no_entries more last (rest helper helped) (rest keeper kept) (λ n w h k. rest n (others n w h k)))
  where
    split : (n : ℕ) → own n es ≡ own n (e ∷ []) ++ own n more
    split n = ap (own n) (sym is) ∙ filter-append (λ (x : Entry). x.0 == n) (e ∷ []) more

    rest : (n : ℕ) → own n es ≡ [] → own n more ≡ []
    rest n none = nothing_behind (own n (e ∷ [])) (own n more) (sym (split n) ∙ none)

    first : own worker (e ∷ []) ≡ e ∷ []
    first = ap (λ (b : Bool). cond b (e ∷ []) []) (eq-eqb e.0 worker its)

    last : own worker more ≡ []
    last = let all : e ∷ own worker more ≡ e ∷ [] = sym (ap (λ (l : List Entry). l ++ own worker more) first) ∙ sym (split worker) ∙ worked in cc

-- ---- Copies

all_take : {X : Type 0} (P : X → Type 0) (k : ℕ) (xs : List X) → AllByRecursion P xs → AllByRecursion P (take k xs)
all_take P zero xs all = tt
all_take P (suc k) [] all = tt
all_take P (suc k) (x ∷ xs) all = (all.0, all_take P k xs all.1)

-- a cut by copies in flight is the array
cut_copies : (a : List Block) (ws : List Write) (x : List Block) → AllByRecursion (IsCopyOf a) ws → AllByRecursion (λ (w : Write). IsSome w.version) ws → IsCut a [] ws x → x ≡ a
cut_copies a ws x same logged (whole k le is) = is ∙ after_copies a (take k ws) (all_take (IsCopyOf a) k ws same)
cut_copies a ws x same logged (torn w one none blend) = absurd (no w.version none (subst (λ (l : List Write). AllByRecursion (λ (v : Write). IsSome v.version) l) one logged).0)
  where
    no : (o : Option ℕ) → o ≡ None → IsSome o → ⊥
    no None e some = let wrong : Rattle.std.proofs.Common.false ≡ true = some in cc
    no (Some v) e some = let wrong : Some v ≡ None = e in cc

-- the history with this operation alone
abbrev one : (pass : ℕ) → Operation → List history.Entry
one pass o = record { pass = pass; operation = o } ∷ []

wrote_done : (pass : ℕ) (copies : List Write) → flight_of (one pass (wrote copies)) ≡ None
wrote_done pass [] = refl
wrote_done pass (w ∷ ws) = refl

module _ (a : List Block) (pass : ℕ) (x : List Block) where
  abbrev CutBy : Operation → Type 0
  CutBy o = IsCut a (writes (one pass o)) (unwrap_or (flight_of (one pass o)) []) x

  wrote_cut : (copies : List Write) → AllByRecursion (IsCopyOf a) copies → CutBy (wrote copies) → x ≡ a
  wrote_cut [] same cut = cut_none a [] x cut ∙ after_none a
  wrote_cut (w ∷ ws) same cut = cut_none a ((w ∷ ws) ++ []) x cut ∙ ap (after a) (append-nil (w ∷ ws)) ∙ after_copies a (w ∷ ws) same

  pub copies_cut : (copies : List Write) (result : Result Cleaned CleanFault) → AllByRecursion (IsCopyOf a) copies → AllByRecursion (λ (w : Write). IsSome w.version) copies → CutBy (operation_of copies result) → x ≡ a
  copies_cut copies (Ok c) same logged cut = wrote_cut copies same cut
  copies_cut copies (Err (DiskFault p)) same logged cut = cut_copies a copies x same logged cut
  copies_cut copies (Err VersionsSpent) same logged cut = wrote_cut copies same cut
  copies_cut copies (Err NoMemory) same logged cut = wrote_cut copies same cut

-- a volume whose history is one entry of copies recovers to what it began with
pub note_cut : (a : List Block) (n : Noted) (x : List Block) (copies : List Write) (result : Result Cleaned CleanFault) → n.entry.operation ≡ operation_of copies result → AllByRecursion (IsCopyOf a) copies → AllByRecursion (λ (w : Write). IsSome w.version) copies
    → IsCut a (writes (entries_of (n ∷ []))) (unwrap_or (flight_of (entries_of (n ∷ []))) []) x → x ≡ a
note_cut a n x copies result is same logged cut = copies_cut a n.entry.pass x copies result same logged (subst (λ (o : Operation). CutBy a n.entry.pass x o) is cut)

-- and one without an entry too
pub none_cut : (a x : List Block) → IsCut a (writes (entries_of [])) (unwrap_or (flight_of (entries_of [])) []) x → x ≡ a
none_cut a x cut = cut_none a [] x cut ∙ after_none a

-- nothing is in flight where no call of a disk failed
pub none_in_flight : (pass : ℕ) (copies : List Write) (result : Result Cleaned CleanFault) → ((p : Part) → result ≢ Err (DiskFault p)) → flight_of (one pass (operation_of copies result)) ≡ None
none_in_flight pass copies (Ok c) sure = wrote_done pass copies
none_in_flight pass copies (Err (DiskFault p)) sure = absurd (sure p refl)
none_in_flight pass copies (Err VersionsSpent) sure = wrote_done pass copies
none_in_flight pass copies (Err NoMemory) sure = wrote_done pass copies

pub note_done : (n : Noted) (copies : List Write) (result : Result Cleaned CleanFault) → n.entry.operation ≡ operation_of copies result → ((p : Part) → result ≢ Err (DiskFault p)) → flight_of (entries_of (n ∷ [])) ≡ None
note_done n copies result is sure = ap (λ (o : Operation). flight_of (one n.entry.pass o)) is ∙ none_in_flight n.entry.pass copies result sure
