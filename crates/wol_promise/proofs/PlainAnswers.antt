-- The marks of a legal history are those of plain arrays.
use Rattle.std.proofs.Common.{◌≡◌, ℕ, zero, suc, ◌+◌, Bool, true, false, cond, List, [], ◌∷◌, ◌++◌, map, Option, None, Some, refl, sym, ap, subst, ◌∙◌, length, take, drop, eqb, append_assoc}
use Rattle.std.specs.Prelude.{slice_range}
use Rattle.std.specs.List.{cons_option, AllByRecursion}
use Rattle.std.proofs.lemmas.Bool.{eq-eqb}
use Rattle.std.proofs.lemmas.List.{append-nil}
use Rattle.std.proofs.lemmas.List.Elements.{filter_map-append}
use Rattle.wol_disk.specs.Disk.{Block}
use Rattle.wol_model.specs.declared.trace.Kind.{Kind}
use Rattle.wol_model.specs.declared.trace.Kind.TheVariants as kind
use Rattle.wol_model.specs.Blocks.{Write, after}
use Rattle.wol_model.specs.ArrayLaws.{unversioned}
use Rattle.wol_model.specs.History.{Entry, Operation, Wrote, Read, Kept, Broke, written_by, IsLegalNext, AreLegalNext}
use Rattle.wol_model.specs.Trace.{Request, payload, payloads, write_to, answer, mark, plain_after}
use Rattle.wol_model.proofs.Overlay.{after_more, after_none}
use Rattle.wol_model.proofs.Arrays.{after_versions}
use Rattle.wol_promise.specs.Outcomes.{Outcome, WasRead, WasWritten, Unanswered, Answered, AreWritten, IsWriteOf, AreOutcomes, mark_in, of_volume, MarksArePlain, PayloadsByVolume}

pub payloads_by_volume : PayloadsByVolume
payloads_by_volume v [] = refl
payloads_by_volume v (r ∷ rs) = at (payloads_by_volume v rs) (eqb r.volume v) refl
  where
    none : (k : Kind) → eqb r.volume v ≡ false → write_to v r k ≡ None
    none kind.Read other = refl
    none kind.Write other = ap (λ (t : Bool). cond t (Some (payload r)) None) other

    at : payloads v (of_volume v rs) ≡ payloads v rs → (t : Bool) → eqb r.volume v ≡ t → payloads v (cond t (r ∷ of_volume v rs) (of_volume v rs)) ≡ cons_option (write_to v r r.kind) (payloads v rs)
    at rest true is = ap (cons_option (write_to v r r.kind)) rest
    at rest false is = rest ∙ ap (λ (o : Option Write). cons_option o (payloads v rs)) (sym (none r.kind is))

requests_in : List Answered → List Request
requests_in answers = map (λ (a : Answered). a.request) answers

marks_in : List Answered → List (Option ℕ)
marks_in answers = map (λ (a : Answered). mark_in a.outcome) answers

module _ (arrays : ℕ → List Block) (v : ℕ) where
  abbrev Here : Answered → Type 0
  Here a = a.request.volume ≡ v

  now : List Request → List Block
  now earlier = after (arrays v) (payloads v earlier)

  -- a write that the outcomes name is the payload of its request
  one_written : (earlier : List Request) (a : Answered) (w : Write) → Here a → IsWriteOf a.outcome a.request w
      → (payloads v (earlier ++ a.request ∷ []) ≡ payloads v earlier ++ unversioned w ∷ []) × (answer arrays earlier a.request a.request.kind ≡ None) × (mark_in a.outcome ≡ None)
  one_written earlier a w here is = by a.outcome refl is
    where
      by : (o : Outcome) → a.outcome ≡ o → IsWriteOf o a.request w
          → (payloads v (earlier ++ a.request ∷ []) ≡ payloads v earlier ++ unversioned w ∷ []) × (answer arrays earlier a.request a.request.kind ≡ None) × (mark_in a.outcome ≡ None)
      by (WasRead mark) same written = absurd written
      by Unanswered same written = absurd written
      by (WasWritten logged drained) same written = (
        filter_map-append (λ (r : Request). write_to v r r.kind) earlier (a.request ∷ [])
            ∙ ap (λ (o : Option Write). payloads v earlier ++ cons_option o [])
            (ap (write_to v a.request) written.0 ∙ ap (λ (t : Bool). cond t (Some (payload a.request)) None) (eq-eqb a.request.volume v here) ∙ ap Some (sym written.1.same)),
        ap (answer arrays earlier a.request) written.0,
        ap mark_in same,
      )

  -- so are all writes of an entry
  all_written : (earlier : List Request) (answers : List Answered) (ws : List Write) → AllByRecursion Here answers → AreWritten answers ws
      → (payloads v (earlier ++ requests_in answers) ≡ payloads v earlier ++ map unversioned ws) × (plain_after arrays earlier (requests_in answers) ≡ marks_in answers)
  unfolding requests_in marks_in
  all_written earlier [] [] here written = (ap (payloads v) (append-nil earlier) ∙ sym (append-nil (payloads v earlier)), refl)
  all_written earlier [] (w ∷ ws) here written = absurd written
  all_written earlier (a ∷ answers) [] here written = absurd written
  all_written earlier (a ∷ answers) (w ∷ ws) here written =
      let one = one_written earlier a w here.0 written.0 in
      let rest = all_written (earlier ++ a.request ∷ []) answers ws here.1 written.1 in (
        ap (payloads v) (sym (append_assoc earlier (a.request ∷ []) (requests_in answers))) ∙ rest.0 ∙ ap (λ (l : List Write). l ++ map unversioned ws) one.0
            ∙ append_assoc (payloads v earlier) (unversioned w ∷ []) (map unversioned ws),
        λ i. (one.1 ∙ sym one.2) i ∷ rest.1 i,
      )

  joined_plain : (earlier xs ys : List Request) → plain_after arrays earlier (xs ++ ys) ≡ plain_after arrays earlier xs ++ plain_after arrays (earlier ++ xs) ys
  joined_plain earlier [] ys = ap (λ (l : List Request). plain_after arrays l ys) (sym (append-nil earlier))
  joined_plain earlier (x ∷ xs) ys = λ i. answer arrays earlier x x.kind ∷ (joined_plain (earlier ++ x ∷ []) xs ys ∙ ap (λ (l : List Request). plain_after arrays (earlier ++ x ∷ []) xs ++ plain_after arrays l ys) (append_assoc earlier (x ∷ []) xs)) i

  all_take : (n : ℕ) (answers : List Answered) → AllByRecursion Here answers → AllByRecursion Here (take n answers)
  all_take zero answers all = tt
  all_take (suc n) [] all = tt
  all_take (suc n) (a ∷ answers) all = (all.0, all_take n answers all.1)

  all_drop : (n : ℕ) (answers : List Answered) → AllByRecursion Here answers → AllByRecursion Here (drop n answers)
  all_drop zero answers all = all
  all_drop (suc n) [] all = tt
  all_drop (suc n) (a ∷ answers) all = all_drop n answers all.1

  -- a read's answer is the mark of its reply
  one_read : (earlier : List Request) (r : Request) (first : ℕ) (reply : List Block) → r.volume ≡ v → r.kind ≡ kind.Read → first ≡ r.first → length reply ≡ r.count
      → reply ≡ slice_range (now earlier) first (first + length reply) → answer arrays earlier r r.kind ≡ Some (mark reply)
  unfolding now
  one_read earlier r first reply here reads begins count legal =
      ap (answer arrays earlier r) reads
      ∙ ap (λ (u : ℕ). Some (mark (slice_range (after (arrays u) (payloads u earlier)) r.first (r.first + r.count)))) here
      ∙ (λ i. Some (mark (slice_range (after (arrays v) (payloads v earlier)) (sym begins i) (sym begins i + sym count i))))
      ∙ ap (λ (bs : List Block). Some (mark bs)) (sym legal)

  read_changes_nothing : (earlier : List Request) (r : Request) → r.kind ≡ kind.Read → payloads v (earlier ++ r ∷ []) ≡ payloads v earlier
  read_changes_nothing earlier r reads =
      filter_map-append (λ (q : Request). write_to v q q.kind) earlier (r ∷ []) ∙ ap (λ (k : Kind). payloads v earlier ++ cons_option (write_to v r k) []) reads ∙ append-nil (payloads v earlier)

  marks : (earlier : List Request) (answers : List Answered) (entries : List Entry) → AllByRecursion Here answers → AreOutcomes answers (map (λ (e : Entry). e.operation) entries)
      → AreLegalNext (now earlier) entries → plain_after arrays earlier (requests_in answers) ≡ marks_in answers
  unfolding requests_in marks_in now
  marks earlier answers [] here outcomes legal = subst (λ (l : List Answered). plain_after arrays earlier (requests_in l) ≡ marks_in l) (sym outcomes) refl
  marks earlier answers (e ∷ entries) here outcomes legal = by (λ later ls all outs rest. marks later ls entries all outs rest) e.operation answers here outcomes legal.0 legal.1
    where
      Rest : Type 0
      Rest = (later : List Request) (ls : List Answered) → AllByRecursion Here ls → AreOutcomes ls (map (λ (d : Entry). d.operation) entries) → AreLegalNext (now later) entries → plain_after arrays later (requests_in ls) ≡ marks_in ls

      onward : Rest → (ls : List Answered) (o : Operation) (later : List Request) → AllByRecursion Here ls → AreOutcomes ls (map (λ (d : Entry). d.operation) entries)
          → now later ≡ after (now earlier) (written_by o) → AreLegalNext (after (now earlier) (written_by o)) entries → plain_after arrays later (requests_in ls) ≡ marks_in ls
      onward further ls o later all outs same rest = further later ls all outs (subst (λ (l : List Block). AreLegalNext l entries) (sym same) rest)

      by : Rest → (o : Operation) (ls : List Answered) → AllByRecursion Here ls → AreOutcomes ls (o ∷ map (λ (d : Entry). d.operation) entries) → IsLegalNext (now earlier) o
          → AreLegalNext (after (now earlier) (written_by o)) entries → plain_after arrays earlier (requests_in ls) ≡ marks_in ls
      by further Kept ls all outs here_legal rest = onward further ls Kept earlier all outs (sym (after_none (now earlier))) rest
      by further (Broke ws) ls all outs here_legal rest = onward further ls (Broke ws) earlier all outs (sym (after_none (now earlier))) rest
      by further (Read first reply) [] all outs here_legal rest = absurd outs
      by further (Read first reply) (a ∷ ls) all outs here_legal rest =
          let one = one_read earlier a.request first reply all.0 outs.0.asked outs.0.begins outs.0.count here_legal ∙ sym (ap mark_in outs.0.marked) in
          let later = onward further ls (Read first reply) (earlier ++ a.request ∷ []) all.1 outs.1 (ap (after (arrays v)) (read_changes_nothing earlier a.request outs.0.asked) ∙ sym (after_none (now earlier))) rest in
          λ i. one i ∷ later i
      by further (Wrote ws) ls all outs here_legal rest =
          let n = length ws in
          let written = all_written earlier (take n ls) ws (all_take n ls all) outs.0 in
          let same : now (earlier ++ requests_in (take n ls)) ≡ after (now earlier) ws =
          ap (after (arrays v)) written.0 ∙ after_more (arrays v) (payloads v earlier) (map unversioned ws) ∙ after_versions (now earlier) ws in
          let later = onward further (drop n ls) (Wrote ws) (earlier ++ requests_in (take n ls)) (all_drop n ls all) outs.1 same rest in
          let parts : requests_in ls ≡ requests_in (take n ls) ++ requests_in (drop n ls) = in_two (λ (b : Answered). b.request) n ls in
          let told : marks_in ls ≡ marks_in (take n ls) ++ marks_in (drop n ls) = in_two (λ (b : Answered). mark_in b.outcome) n ls in
          ap (plain_after arrays earlier) parts ∙ joined_plain earlier (requests_in (take n ls)) (requests_in (drop n ls)) ∙ (λ i. written.1 i ++ later i) ∙ sym told
        where
          in_two : {Y : Type 0} (f : Answered → Y) (n : ℕ) (xs : List Answered) → map f xs ≡ map f (take n xs) ++ map f (drop n xs)
          in_two f zero xs = refl
          in_two f (suc n) [] = refl
          in_two f (suc n) (x ∷ xs) = λ i. f x ∷ in_two f n xs i

pub marks_are_plain : MarksArePlain
unfolding requests_in marks_in now
marks_are_plain arrays v earlier answers entries here outcomes legal = marks arrays v earlier answers entries here outcomes legal
