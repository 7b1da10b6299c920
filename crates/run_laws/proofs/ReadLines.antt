-- The lines of answered reads, as they were told and as plain arrays give them.
use Rattle.std.proofs.Common.{◌≡◌, ℕ, suc, ◌+◌, Bool, true, false, cond, List, [], ◌∷◌, ◌++◌, map, Option, Some, refl, sym, ap, subst, ◌∙◌, length, take, ltb, eqb, append_assoc}
use Rattle.std.specs.Prelude.{⊤, slice_range}
use Rattle.std.specs.List.{AllByRecursion}
use Rattle.std.proofs.lemmas.Bool.{eq-eqb, eqb-true}
use Rattle.std.proofs.lemmas.List.{append-nil}
use Rattle.wol_disk.specs.Disk.{Block}
use Rattle.wol_model.specs.History.{Entry, AreLegalNext}
use Rattle.wol_model.specs.declared.trace.Kind.{Kind}
use Rattle.wol_model.specs.declared.trace.Kind.TheVariants as kind
use Rattle.wol_model.specs.Blocks.{Write, after}
use Rattle.wol_model.specs.Trace.{Request, answer, mark, plain_after}
use Rattle.wol_model.proofs.Overlay.{after_none}
use Rattle.wol_promise.specs.Outcomes.{Outcome, WasRead, WasWritten, Unanswered, Answered, answered_in, is_answered, mark_in, of_volume}
use Rattle.wol_promise.specs.Run.{read_text, read_lines, read_lines_after}
use Rattle.wol_promise.proofs.PlainAnswers.{marks_are_plain, payloads_by_volume}
use Rattle.run_laws.specs.Answers.{requests_in, answers_of, answered_count, AreFirst, told_lines}
use Rattle.run_laws.specs.Laws.{AreAnsweredBy, LinesArePlain}
use Rattle.run_laws.proofs.Fronts.{head_behind, ahead, Stands}

-- the answers of a volume among those that come one after the other
pub volume_joined : (v : ℕ) (xs ys : List Answered) → answers_of v (xs ++ ys) ≡ answers_of v xs ++ answers_of v ys
volume_joined v [] ys = refl
volume_joined v (x ∷ xs) ys = at (volume_joined v xs ys) (eqb x.request.volume v)
  where
    at : answers_of v (xs ++ ys) ≡ answers_of v xs ++ answers_of v ys → (t : Bool) → cond t (x ∷ answers_of v (xs ++ ys)) (answers_of v (xs ++ ys)) ≡ cond t (x ∷ answers_of v xs) (answers_of v xs) ++ answers_of v ys
    at further true = ap (λ (l : List Answered). x ∷ l) further
    at further false = further

-- their requests are those of the volume
pub volume_requests : (v : ℕ) (xs : List Answered) → requests_in (answers_of v xs) ≡ of_volume v (requests_in xs)
volume_requests v [] = refl
volume_requests v (x ∷ xs) = at (volume_requests v xs) (eqb x.request.volume v)
  where
    at : requests_in (answers_of v xs) ≡ of_volume v (requests_in xs) → (t : Bool) → requests_in (cond t (x ∷ answers_of v xs) (answers_of v xs)) ≡ cond t (x.request ∷ of_volume v (requests_in xs)) (of_volume v (requests_in xs))
    at further true = ap (λ (l : List Request). x.request ∷ l) further
    at further false = further

pub length_mapped : {X Y : Type 0} (f : X → Y) (xs : List X) → length (map f xs) ≡ length xs
length_mapped f [] = refl
length_mapped f (x ∷ xs) = ap suc (length_mapped f xs)

pub mapped_joined : {X Y : Type 0} (f : X → Y) (xs ys : List X) → map f (xs ++ ys) ≡ map f xs ++ map f ys
mapped_joined f [] ys = refl
mapped_joined f (x ∷ xs) ys = ap (λ l. f x ∷ l) (mapped_joined f xs ys)

-- each answer of a volume is the volume's
pub all_of : (v : ℕ) (xs : List Answered) → AllByRecursion (λ (a : Answered). a.request.volume ≡ v) (answers_of v xs)
all_of v [] = tt
all_of v (x ∷ xs) = at (all_of v xs) (eqb x.request.volume v) refl
  where
    at : AllByRecursion (λ (a : Answered). a.request.volume ≡ v) (answers_of v xs) → (t : Bool) → eqb x.request.volume v ≡ t → AllByRecursion (λ (a : Answered). a.request.volume ≡ v) (cond t (x ∷ answers_of v xs) (answers_of v xs))
    at further true is = (eqb-true x.request.volume v is, further)
    at further false is = further

pub all_answered : (P : Answered → Type 0) (xs : List Answered) → AllByRecursion P xs → AllByRecursion P (answered_in xs)
all_answered P [] all = tt
all_answered P (x ∷ xs) all = at (all_answered P xs all.1) (is_answered x.outcome)
  where
    at : AllByRecursion P (answered_in xs) → (t : Bool) → AllByRecursion P (cond t (x ∷ answered_in xs) (answered_in xs))
    at further true = (all.0, further)
    at further false = further

module _ (arrays : ℕ → List Block) where
  length_plain : (earlier rs : List Request) → length (plain_after arrays earlier rs) ≡ length rs
  length_plain earlier [] = refl
  length_plain earlier (r ∷ rs) = ap suc (length_plain (earlier ++ r ∷ []) rs)

  plain_joined : (earlier xs ys : List Request) → plain_after arrays earlier (xs ++ ys) ≡ plain_after arrays earlier xs ++ plain_after arrays (earlier ++ xs) ys
  plain_joined earlier [] ys = ap (λ (l : List Request). plain_after arrays l ys) (sym (append-nil earlier))
  plain_joined earlier (x ∷ xs) ys = λ i. answer arrays earlier x x.kind ∷ (plain_joined (earlier ++ x ∷ []) xs ys ∙ ap (λ (l : List Request). plain_after arrays (earlier ++ x ∷ []) xs ++ plain_after arrays l ys) (append_assoc earlier (x ∷ []) xs)) i

  -- only the earlier requests of the volume itself count for an answer
  answer_by_volume : (earlier : List Request) (r : Request) → answer arrays (of_volume r.volume earlier) r r.kind ≡ answer arrays earlier r r.kind
  answer_by_volume earlier r = at r.kind
    where
      at : (k : Kind) → answer arrays (of_volume r.volume earlier) r k ≡ answer arrays earlier r k
      at kind.Read =
          ap (λ (ws : List Write). Some (mark (slice_range (after (arrays r.volume) ws) r.first (r.first + r.count)))) (payloads_by_volume r.volume earlier)
      at kind.Write = refl

module _ (text : Request → ℕ → List ℕ) (arrays : ℕ → List Block) (answers : List Answered) (history : ℕ → List Entry)
    (first : (v : ℕ) → AreFirst v answers) (made : (v : ℕ) → AreAnsweredBy v answers (history v)) (legal : (v : ℕ) → AreLegalNext (arrays v) (history v)) where
  abbrev counts : ℕ → ℕ
  counts v = answered_count answers v

  marks : List Answered → List (Option ℕ)
  marks xs = map (λ (a : Answered). mark_in a.outcome) xs

  -- of one volume the marks that were told are those of the plain array
  of_one : (v : ℕ) → plain_after arrays [] (requests_in (answered_in (answers_of v answers))) ≡ marks (answered_in (answers_of v answers))
  unfolding marks
  of_one v = marks_are_plain arrays v [] (answered_in (answers_of v answers)) (history v) (all_answered (λ (a : Answered). a.request.volume ≡ v) (answers_of v answers) (all_of v answers)) (made v)
      (subst (λ (l : List Block). AreLegalNext l (history v)) (sym (after_none (arrays v))) (legal v))

  -- the answer at one place
  module _ (done : List Answered) (a : Answered) (rest : List Answered) (parts : answers ≡ done ++ a ∷ rest) where
    v : ℕ
    v = a.request.volume

    own : answers_of v answers ≡ answers_of v done ++ a ∷ answers_of v rest
    unfolding v
    own = ap (answers_of a.request.volume) parts ∙ volume_joined a.request.volume done (a ∷ rest)
        ∙ ap (λ (t : Bool). answers_of a.request.volume done ++ cond t (a ∷ answers_of a.request.volume rest) (answers_of a.request.volume rest)) (eq-eqb a.request.volume a.request.volume refl)

    stands : Stands (λ (b : Answered). is_answered b.outcome) (answers_of v done) a (answers_of v rest)
    stands = ahead (λ (b : Answered). is_answered b.outcome) (answers_of v done) a (answers_of v rest) (subst (λ (l : List Answered). answered_in l ≡ take (length (answered_in l)) l) own (first v))

    -- it was answered exactly where fewer of the volume's requests come before it than were answered
    among : ltb (length (of_volume v (requests_in done))) (counts v) ≡ is_answered a.outcome
    among =
        let before : length (of_volume v (requests_in done)) ≡ length (answers_of v done) = ap length (sym (volume_requests v done)) ∙ length_mapped (λ (b : Answered). b.request) (answers_of v done) in
        (λ i. ltb (before i) (length (answered_in (own i)))) ∙ stands.passes

    plain : is_answered a.outcome ≡ true → answer arrays (requests_in done) a.request a.request.kind ≡ mark_in a.outcome
    unfolding marks v
    plain so =
        let D = answers_of v done in
        let R = answered_in (answers_of v rest) in
        let F : answered_in (answers_of v answers) ≡ D ++ a ∷ R = ap answered_in own ∙ stands.before so in
        let one : plain_after arrays [] (requests_in (D ++ a ∷ R)) ≡ marks (D ++ a ∷ R) = subst (λ (l : List Answered). plain_after arrays [] (requests_in l) ≡ marks l) F (of_one v) in
        let left : plain_after arrays [] (requests_in (D ++ a ∷ R)) ≡ plain_after arrays [] (requests_in D) ++ plain_after arrays (requests_in D) (a.request ∷ requests_in R)
        = ap (plain_after arrays []) (mapped_joined (λ (b : Answered). b.request) D (a ∷ R)) ∙ plain_joined arrays [] (requests_in D) (a.request ∷ requests_in R) in
        let right : marks (D ++ a ∷ R) ≡ marks D ++ mark_in a.outcome ∷ marks R = mapped_joined (λ (b : Answered). mark_in b.outcome) D (a ∷ R) in
        let same_length : length (plain_after arrays [] (requests_in D)) ≡ length (marks D)
        = length_plain arrays [] (requests_in D) ∙ length_mapped (λ (b : Answered). b.request) D ∙ sym (length_mapped (λ (b : Answered). mark_in b.outcome) D) in
        let here : answer arrays (requests_in D) a.request a.request.kind ≡ mark_in a.outcome
        = head_behind (plain_after arrays [] (requests_in D)) (marks D) (answer arrays (requests_in D) a.request a.request.kind) (mark_in a.outcome)
        (plain_after arrays (requests_in D ++ a.request ∷ []) (requests_in R)) (marks R) same_length (sym left ∙ (one ∙ right)) in
        sym (answer_by_volume arrays (requests_in done) a.request)
        ∙ ap (λ (l : List Request). answer arrays l a.request a.request.kind) (sym (volume_requests v done)) ∙ here

    unanswered : (o : Outcome) → is_answered o ≡ false → read_text text a.request (mark_in o) ≡ []
    unanswered Unanswered is_not = refl
    unanswered (WasRead m) is_not = absurd (subst (λ (t : Bool). cond t ⊤ ⊥) is_not tt)
    unanswered (WasWritten logged drained) is_not = refl

    line : (if_ : Bool) → is_answered a.outcome ≡ if_ → cond if_ (read_text text a.request (answer arrays (requests_in done) a.request a.request.kind)) [] ≡ read_text text a.request (mark_in a.outcome)
    line true so = ap (read_text text a.request) (plain so)
    line false not_so = sym (unanswered a.outcome not_so)

    one_line : cond (ltb (length (of_volume a.request.volume (requests_in done))) (counts a.request.volume)) (read_text text a.request (answer arrays (requests_in done) a.request a.request.kind)) []
        ≡ read_text text a.request (mark_in a.outcome)
    unfolding v
    one_line = ap (λ (t : Bool). cond t (read_text text a.request (answer arrays (requests_in done) a.request a.request.kind)) []) among ∙ line (is_answered a.outcome) refl

  all_lines : (done rest : List Answered) → answers ≡ done ++ rest → read_lines_after text arrays counts (requests_in done) (requests_in rest) ≡ told_lines text rest
  all_lines done [] parts = refl
  all_lines done (a ∷ rest) parts =
      let further = all_lines (done ++ a ∷ []) rest (parts ∙ sym (append_assoc done (a ∷ []) rest)) in
      (λ i. one_line done a rest parts i ++ (ap (λ (l : List Request). read_lines_after text arrays counts l (requests_in rest)) (sym (mapped_joined (λ (b : Answered). b.request) done (a ∷ []))) ∙ further) i)

  pub lines : told_lines text answers ≡ read_lines text arrays counts (requests_in answers)
  lines = sym (all_lines [] answers refl)

pub lines_are_plain : LinesArePlain
lines_are_plain text arrays answers history first made legal = lines text arrays answers history first made legal
