-- Histories, one entry after another.
use Rattle.std.proofs.Common.{◌≡◌, List, [], ◌∷◌, ◌++◌, refl, ap, subst, ◌∙◌}
use Rattle.std.specs.List.{AllByRecursion}
use Rattle.std.specs.Option.{option_or}
use Rattle.std.proofs.lemmas.Grind.{flat_map-append}
use Rattle.wol_disk.specs.Disk.{Block}
use Rattle.wol_model.proofs.Overlay.{after_more, after_none}
use Rattle.wol_model.specs.Blocks.{after}
use Rattle.wol_model.specs.History.{whole, Entry, Operation, Wrote, Read, Kept, Broke, written_by, writes, flight_from, flight_of, IsLegalNext, IsKept, BreaksOnce, IsHelp}
use Rattle.wol_model.specs.HistoryLaws.{CutWhole, OneMoreReply, OneMoreEntry, WritesMore, FlightMore}
use Rattle.std.proofs.lemmas.List.{append-nil}
use Rattle.std.proofs.Common.{arith, sym, ◌≢◌, ◌⊎◌, inl, inr, map, None, Some}

pub one_more_reply : OneMoreReply
one_more_reply a [] e replies reply = (subst (λ (x : List Block). IsLegalNext x e.operation) (after_none a) reply, tt)
one_more_reply a (d ∷ entries) e replies reply = (replies.0, one_more_reply (after a (written_by d.operation)) entries e replies.1 (subst (λ (x : List Block). IsLegalNext x e.operation) (after_more a (written_by d.operation) (writes entries)) reply))

pub all_more : {X : Type 0} (P : X → Type 0) (xs : List X) (x : X) → AllByRecursion P xs → P x → AllByRecursion P (xs ++ x ∷ [])
all_more P [] x all p = (p, tt)
all_more P (y ∷ xs) x all p = (all.0, all_more P xs x all.1 p)

op : Entry → Operation
op e = e.operation

-- one more operation behind those that have no Broke, or a Kept
pub breaks_more : (entries : List Entry) (e : Entry) → BreaksOnce (map (λ e. e.operation) entries) → (flight_of entries ≡ None) ⊎ IsKept e.operation → BreaksOnce (map (λ e. e.operation) (entries ++ e ∷ []))
breaks_more [] e breaks may = alone e.operation
  where
    alone : (o : Operation) → BreaksOnce (o ∷ [])
    alone (Wrote ws) = tt
    alone (Read first reply) = tt
    alone Kept = tt
    alone (Broke ws) = tt
breaks_more (d ∷ entries) e breaks may = at d.operation breaks may (breaks_more entries e)
  where
    kept_more : (es : List Entry) → AllByRecursion IsKept (map (λ e. e.operation) es) → IsKept e.operation → AllByRecursion IsKept (map (λ e. e.operation) (es ++ e ∷ []))
    kept_more [] all k = (k, tt)
    kept_more (x ∷ es) all k = (all.0, kept_more es all.1 k)

    at : (o : Operation) → BreaksOnce (o ∷ map (λ e. e.operation) entries) → (flight_from o (flight_of entries) ≡ None) ⊎ IsKept e.operation
        → (BreaksOnce (map (λ e. e.operation) entries) → (flight_of entries ≡ None) ⊎ IsKept e.operation → BreaksOnce (map (λ e. e.operation) (entries ++ e ∷ [])))
        → BreaksOnce (o ∷ map (λ e. e.operation) (entries ++ e ∷ []))
    at (Wrote ws) b m rest = rest b m
    at (Read first reply) b m rest = rest b m
    at Kept b m rest = rest b m
    at (Broke ws) b (inl none) rest = absurd (let e : Some ws ≡ None = none in cc)
    at (Broke ws) b (inr k) rest = kept_more entries b k

pub one_more_entry : OneMoreEntry
one_more_entry a entries e legal reply may help = record {
  replies = one_more_reply a entries e legal.replies reply;
  breaks = breaks_more entries e legal.breaks may;
  helpers = all_more (λ (d : Entry). d.pass ≢ 0 → IsHelp d.operation) entries e legal.helpers help;
}

pub writes_more : WritesMore
writes_more entries more = flat_map-append (λ (e : Entry). written_by e.operation) entries more

pub flight_more : FlightMore
flight_more [] more = refl
flight_more (d ∷ entries) more = ap (flight_from d.operation) (flight_more entries more) ∙ at d.operation
  where
    at : (o : Operation) → flight_from o (option_or (flight_of entries) (flight_of more)) ≡ option_or (flight_from o (flight_of entries)) (flight_of more)
    at (Wrote ws) = refl
    at (Read first reply) = refl
    at Kept = refl
    at (Broke ws) = refl

pub cut_whole : CutWhole
cut_whole a ws flight = whole 0 (omega arith) (ap (after a) (sym (append-nil ws)))
