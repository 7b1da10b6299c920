-- Cuts of a volume's history are cuts of what its answered requests wrote.
use Rattle.std.proofs.Common.{◌≡◌, ℕ, zero, suc, ◌==◌, ◌≤◌, Bool, true, false, cond, List, [], ◌∷◌, ◌++◌, map, ◌≢◌, None, Some, refl, sym, ap, subst, ◌∙◌, length, take, drop, eqb}
use Rattle.std.specs.List.{cons_option, filter, AllByRecursion}
use Rattle.std.proofs.lemmas.Bool.{eq-eqb, eqb-false}
use Rattle.std.proofs.lemmas.List.Elements.{filter_map-append}
use Rattle.wol_disk.specs.Disk.{Block, IsBlend}
use Rattle.wol_model.specs.ArrayLaws.{unversioned}
use Rattle.wol_model.specs.Blocks.{Write, after}
use Rattle.wol_model.specs.History.{Entry, Operation, Wrote, Read, Kept, Broke, worker, writes, written_by, IsHelp, IsCut, whole, torn}
use Rattle.wol_model.specs.declared.trace.Kind.{Kind}
use Rattle.wol_model.specs.Trace.{Request, payload, payloads, write_to}
use Rattle.wol_model.proofs.Arrays.{after_versions}
use Rattle.wol_promise.specs.Outcomes.{Outcome, WasRead, WasWritten, Unanswered, Answered, AreOutcomes, AreWritten, IsWriteOf, answered_in, of_volume}
use Rattle.run_laws.specs.Answers.{requests_in, answers_of, answered_count}
use Rattle.run_laws.specs.Laws.{CutsArePlain, OthersAnswerNothing}
use Rattle.run_laws.proofs.ReadLines.{all_answered, all_of, length_mapped, mapped_joined, volume_requests}

-- ---- entries of passes that serve no requests

abbrev operations : List Entry → List Operation
operations es = map (λ (d : Entry). d.operation) es

-- what holds of some answers where the entries of the worker answer them
abbrev Follows : List Entry → Type 0
Follows entries = (ls : List Answered) → AreOutcomes ls (operations (filter (λ (d : Entry). d.pass == worker) entries)) → AreOutcomes ls (operations entries)

by_help : (entries : List Entry) (ls : List Answered) (o : Operation) → IsHelp o → AreOutcomes ls (operations entries) → AreOutcomes ls (o ∷ operations entries)
by_help entries ls Kept is rest = rest
by_help entries ls (Broke ws) is rest = rest
by_help entries ls (Wrote ws) is rest = absurd is
by_help entries ls (Read first reply) is rest = absurd is

by_own : (entries : List Entry) → Follows entries → (o : Operation) (ls : List Answered) → AreOutcomes ls (o ∷ operations (filter (λ (d : Entry). d.pass == worker) entries)) → AreOutcomes ls (o ∷ operations entries)
by_own entries further Kept ls outs = further ls outs
by_own entries further (Broke ws) ls outs = further ls outs
by_own entries further (Wrote ws) ls outs = (outs.0, further (drop (length ws) ls) outs.1)
by_own entries further (Read first reply) [] outs = absurd outs
by_own entries further (Read first reply) (a ∷ ls) outs = (outs.0, further ls outs.1)

follows : (entries : List Entry) → AllByRecursion (λ (e : Entry). e.pass ≢ worker → IsHelp e.operation) entries → Follows entries
follows [] help ls outcomes = outcomes
follows (e ∷ entries) help ls outcomes = at (follows entries help.1) (eqb e.pass worker) refl outcomes
  where
    at : Follows entries → (t : Bool) → eqb e.pass worker ≡ t
        → AreOutcomes ls (operations (cond t (e ∷ filter (λ (d : Entry). d.pass == worker) entries) (filter (λ (d : Entry). d.pass == worker) entries))) → AreOutcomes ls (e.operation ∷ operations entries)
    at further true is outs = by_own entries further e.operation ls outs
    at further false is outs = by_help entries ls e.operation (help.0 (eqb-false e.pass worker is)) (further ls outs)

pub others_answer_nothing : OthersAnswerNothing
others_answer_nothing answers entries help outcomes = follows entries help answers outcomes

-- ---- what requests wrote

mapped_front : {X Y : Type 0} (f : X → Y) (k : ℕ) (xs : List X) → map f (take k xs) ≡ take k (map f xs)
mapped_front f zero xs = refl
mapped_front f (suc k) [] = refl
mapped_front f (suc k) (x ∷ xs) = ap (λ l. f x ∷ l) (mapped_front f k xs)

in_two : {X : Type 0} (n : ℕ) (xs : List X) → xs ≡ take n xs ++ drop n xs
in_two zero xs = refl
in_two (suc n) [] = refl
in_two (suc n) (x ∷ xs) = ap (λ l. x ∷ l) (in_two n xs)

module _ (v : ℕ) where
  abbrev Here : Answered → Type 0
  Here a = a.request.volume ≡ v

  payloads_joined : (xs ys : List Request) → payloads v (xs ++ ys) ≡ payloads v xs ++ payloads v ys
  payloads_joined xs ys = filter_map-append (λ (r : Request). write_to v r r.kind) xs ys

  -- a write that an outcome names is the payload of its request
  one_written : (a : Answered) (w : Write) → Here a → IsWriteOf a.outcome a.request w → write_to v a.request a.request.kind ≡ Some (unversioned w)
  one_written a w here is = at a.outcome is
    where
      at : (o : Outcome) → IsWriteOf o a.request w → write_to v a.request a.request.kind ≡ Some (unversioned w)
      at (WasWritten logged drained) written = ap (write_to v a.request) written.0 ∙ ap (λ (t : Bool). cond t (Some (payload a.request)) None) (eq-eqb a.request.volume v here) ∙ ap Some (sym written.1.same)
      at (WasRead mark) written = absurd written
      at Unanswered written = absurd written

  all_written : (answers : List Answered) (ws : List Write) → AllByRecursion Here answers → AreWritten answers ws → payloads v (requests_in answers) ≡ map unversioned ws
  all_written [] [] here written = refl
  all_written [] (w ∷ ws) here written = absurd written
  all_written (a ∷ answers) [] here written = absurd written
  all_written (a ∷ answers) (w ∷ ws) here written = λ i. cons_option (one_written a w here.0 written.0 i) (all_written answers ws here.1 written.1 i)

  all_front : (n : ℕ) (answers : List Answered) → AllByRecursion Here answers → AllByRecursion Here (take n answers)
  all_front zero answers all = tt
  all_front (suc n) [] all = tt
  all_front (suc n) (a ∷ answers) all = (all.0, all_front n answers all.1)

  all_behind : (n : ℕ) (answers : List Answered) → AllByRecursion Here answers → AllByRecursion Here (drop n answers)
  all_behind zero answers all = all
  all_behind (suc n) [] all = tt
  all_behind (suc n) (a ∷ answers) all = all_behind n answers all.1

  all_payloads : (answers : List Answered) (entries : List Entry) → AllByRecursion Here answers → AreOutcomes answers (map (λ (e : Entry). e.operation) entries) → payloads v (requests_in answers) ≡ map unversioned (writes entries)
  all_payloads answers [] here outcomes = ap (λ (l : List Answered). payloads v (requests_in l)) outcomes
  all_payloads answers (e ∷ entries) here outcomes = at (λ ls all outs. all_payloads ls entries all outs) e.operation answers here outcomes
    where
      at : ((ls : List Answered) → AllByRecursion Here ls → AreOutcomes ls (map (λ (d : Entry). d.operation) entries) → payloads v (requests_in ls) ≡ map unversioned (writes entries)) → (o : Operation) (ls : List Answered) → AllByRecursion Here ls → AreOutcomes ls (o ∷ map (λ (d : Entry). d.operation) entries) → payloads v (requests_in ls) ≡ map unversioned (written_by o ++ writes entries)
      at further Kept ls all outs = further ls all outs
      at further (Broke ws) ls all outs = further ls all outs
      at further (Read first reply) [] all outs = absurd outs
      at further (Read first reply) (a ∷ ls) all outs = ap (λ (k : Kind). cons_option (write_to v a.request k) (payloads v (requests_in ls))) outs.0.asked ∙ further ls all.1 outs.1
      at further (Wrote ws) ls all outs =
          let n = length ws in
          ap (λ (l : List Answered). payloads v (requests_in l)) (in_two n ls)
          ∙ ap (payloads v) (mapped_joined (λ (a : Answered). a.request) (take n ls) (drop n ls))
          ∙ payloads_joined (requests_in (take n ls)) (requests_in (drop n ls))
          ∙ (λ i. all_written (take n ls) ws (all_front n ls all) outs.0 i ++ further (drop n ls) (all_behind n ls all) outs.1 i)
          ∙ sym (mapped_joined unversioned ws (writes entries))

-- ---- cuts

-- versions don't matter to a cut
unversioned_cut : (a x : List Block) (ws flight : List Write) → IsCut a ws flight x → IsCut a (map unversioned ws) (map unversioned flight) x
unversioned_cut a x ws flight (whole k few same) = whole k (subst (λ (n : ℕ). k ≤ n) (sym (length_mapped unversioned flight)) few)
    (same ∙ sym (after_versions a (ws ++ take k flight)) ∙ ap (after a) (mapped_joined unversioned ws (take k flight) ∙ ap (λ (l : List Write). map unversioned ws ++ l) (mapped_front unversioned k flight)))
unversioned_cut a x ws flight (torn w one home blend) = torn (unversioned w) (ap (map unversioned) one) refl
    (subst (λ (l : List Block). IsBlend l (after a (map unversioned ws ++ unversioned w ∷ [])) x) (sym (after_versions a ws))
    (subst (λ (l : List Block). IsBlend (after a ws) l x) (sym (after_versions a (ws ++ w ∷ [])) ∙ ap (after a) (mapped_joined unversioned ws (w ∷ []))) blend))

pub cuts_are_plain : CutsArePlain
cuts_are_plain v array x answers entries flight first made cut =
    let own = answers_of v answers in
    let all = all_answered (λ (a : Answered). a.request.volume ≡ v) own (all_of v answers) in
    let asked : requests_in (answered_in own) ≡ take (answered_count answers v) (of_volume v (requests_in answers))
    = ap requests_in first ∙ mapped_front (λ (a : Answered). a.request) (answered_count answers v) own ∙ ap (take (answered_count answers v)) (volume_requests v answers) in
    subst (λ (ws : List Write). IsCut array ws (map unversioned flight) x)
    (sym (all_payloads v (answered_in own) entries all made) ∙ ap (payloads v) asked)
    (unversioned_cut array x (writes entries) flight cut)
