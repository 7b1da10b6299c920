use Rattle.rack.proofs.Basics.{Contains, ◌≡◌, ◌∙◌, ◌<◌, ℕ, List, Option, None, Some, refl, sym, subst, get_or, slice_get, get_or_default, length, arith, rules}
use Rattle.rack.proofs.Terms.{Owned, SegHead}
use Rattle.rack.specs.Surveying.{Hinders, in_view, refused, segment, there}
use Rattle.rack.specs.Opening.{fault_at, said_at}
use Rattle.rack.specs.declared.missing.MissingFault.TheVariants.{Refused}
use Rattle.rack.proofs.missing.hindrance_at.Goals as goal

-- an element that was read, by its place
at_place : {A : Type 0} (xs : List (Option A)) (k : ℕ) (x : Option A) → k < length xs → x ≡ get_or xs k x → get_or xs k None ≡ x
at_place xs k x lt is = get_or_default xs k None x lt ∙ sym is

none_here : {A : Type 0} (o : Option A) → ((x : A) → o ≡ Some x → ⊥) → o ≡ None
none_here None not = refl
none_here (Some x) not = absurd (not x refl)

pub returns-in_default-clause-some : goal.returns-in_default-clause-some
returns-in_default-clause-some c =
    there c.if-volume-id.true (at_place c.args.survey.now.faults.items c.args.volume c.index-fault.result.now c.requires.within c.index-fault.ensures ∙ none_here c.index-fault.result.now c.in_default.not-Some)

pub returns-then-volume-id-clause-some : goal.returns-then-volume-id-clause-some
returns-then-volume-id-clause-some c =
    subst (λ (n : ℕ). Hinders c.args.id c.args.volume (said_at c.args.survey.now.said.items c.args.volume) (fault_at c.args.survey.now.faults.items c.args.volume) (Refused n c.in-Some.fault)) c.if-volume-id.true
    (refused c.in-Some.fault (at_place c.args.survey.now.faults.items c.args.volume c.index-fault.result.now c.requires.within c.index-fault.ensures ∙ c.in-Some.is) (search rules))

pub returns-in-Some-fault-clause-some : goal.returns-in-Some-fault-clause-some
returns-in-Some-fault-clause-some c =
    refused c.in-Some-fault.fault (at_place c.args.survey.now.faults.items c.args.volume c.index-fault.result.now c.requires.within c.index-fault.ensures ∙ c.in-Some-fault.is) (λ same. absurd (c.if-volume-id.false same))

pub returns-clause-some : goal.returns-clause-some
returns-clause-some c =
    let count = c.requires.count in
    let within = c.requires.within in
    segment c.in-Some-index.said c.in_ok-index.index c.if-volume-id.false
    (at_place c.args.survey.now.faults.items c.args.volume c.index-fault.result.now within c.index-fault.ensures ∙ none_here c.index-fault.result.now c.in_default-fault.not-Some)
    (at_place c.args.survey.now.said.items c.args.volume c.index.result.now (omega (arith, count, within)) c.index.ensures ∙ c.in-Some-index.is)
    (subst (λ (l : List SegHead). slice_get l c.in_ok-index.index ≡ Some (Owned c.args.id)) c.deref.ensures.value (c.in_ok-index.ensures.some c.in_ok-index.index refl))

pub returns-then-contains-clause-some : goal.returns-then-contains-clause-some
returns-then-contains-clause-some c =
    let count = c.requires.count in
    let within = c.requires.within in
    let named : Contains c.ids.result.now c.args.id = let value = c.contains.ensures.value in let yes = c.if-contains.true in search (rules, value, yes) in
    in_view c.in-Some-index.said c.if-volume-id.false
    (at_place c.args.survey.now.faults.items c.args.volume c.index-fault.result.now within c.index-fault.ensures ∙ none_here c.index-fault.result.now c.in_default-fault.not-Some)
    (at_place c.args.survey.now.said.items c.args.volume c.index.result.now (omega (arith, count, within)) c.index.ensures ∙ c.in-Some-index.is)
    (subst (λ (l : List ℕ). Contains l c.args.id) c.ids.ensures.value named)
