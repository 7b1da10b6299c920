-- The histories of two runs, one after the other.
use Rattle.std.proofs.Common.{◌≡◌, ◌++◌, zero, suc, List, [], ◌∷◌, map, ap, subst, ◌∙◌, Option, None, unwrap_or, arith}
use Rattle.std.specs.List.{AllByRecursion}
use Rattle.std.proofs.lemmas.List.{append-nil}
use Rattle.wol_disk.specs.Disk.{Block}
use Rattle.wol_model.specs.Blocks.{Write, after}
use Rattle.wol_model.specs.History.{AreLegalNext, BreaksOnce, Broke, Entry, IsCut, Kept, Operation, Read, Wrote, flight_from, flight_of, torn, whole, written_by, writes}
use Rattle.wol_model.proofs.Overlay.{after_more, after_none}
use Rattle.run_laws.specs.Headline.{HistoriesGoOn}

-- where nothing was in flight a cut is all that was written
pub no_cut : (a : List Block) (ws : List Write) (x : List Block) → IsCut a ws [] x → x ≡ after a ws
no_cut a ws x (whole zero le same) = same ∙ ap (after a) (append-nil ws)
no_cut a ws x (whole (suc k) le same) = absurd (omega (arith, le))
no_cut a ws x (torn w one home blend) = absurd (cc one)

abbrev operations : List Entry → List Operation
operations es = map (λ (e : Entry). e.operation) es

legal_on : (a : List Block) (es fs : List Entry) → AreLegalNext a es → AreLegalNext (after a (writes es)) fs → AreLegalNext a (es ++ fs)
legal_on a [] fs legal next = subst (λ (x : List Block). AreLegalNext x fs) (after_none a) next
legal_on a (e ∷ es) fs (first, rest) next = (first, legal_on (after a (written_by e.operation)) es fs rest (subst (λ (x : List Block). AreLegalNext x fs) (after_more a (written_by e.operation) (writes es)) next))

breaks_on : (es fs : List Entry) → flight_of es ≡ None → BreaksOnce (operations fs) → BreaksOnce (operations (es ++ fs))
breaks_on [] fs none breaks = breaks
breaks_on (e ∷ es) fs none breaks = at e.operation none (λ rest. breaks_on es fs rest breaks)
  where
    at : (o : Operation) → flight_from o (flight_of es) ≡ None → (flight_of es ≡ None → BreaksOnce (operations (es ++ fs))) → BreaksOnce (o ∷ operations (es ++ fs))
    at (Wrote ws) is further = further is
    at (Read first reply) is further = further is
    at Kept is further = further is
    at (Broke ws) is further = absurd (cc is)

all_on : {X : Type 0} (P : X → Type 0) (xs ys : List X) → AllByRecursion P xs → AllByRecursion P ys → AllByRecursion P (xs ++ ys)
all_on P [] ys first next = next
all_on P (x ∷ xs) ys (one, first) next = (one, all_on P xs ys first next)

pub histories_go_on : HistoriesGoOn
histories_go_on opened again _ _ one reopened next none =
    let cut = subst (λ (ws : List Write). IsCut opened (writes one.history) ws again) (ap (λ (o : Option (List Write)). unwrap_or o []) none) reopened in
    let array : again ≡ after opened (writes one.history) = no_cut opened (writes one.history) again cut in
    record {
      replies = legal_on opened one.history next.history one.legal.replies (subst (λ (a : List Block). AreLegalNext a next.history) array next.legal.replies);
      breaks = breaks_on one.history next.history none next.legal.breaks;
      helpers = all_on _ one.history next.history one.legal.helpers next.legal.helpers;
    }
