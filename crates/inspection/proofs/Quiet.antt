-- Looks at volumes write nothing.
use Rattle.std.proofs.Common.{◌≡◌, ◌++◌, List, [], ◌∷◌, refl, sym, ap, subst, ◌∙◌}
use Rattle.std.specs.Prelude.{All, unwrap_or}
use Rattle.std.specs.List.{AllByRecursion, AllZip}
use Rattle.wol_model.specs.History.{Operation, Broke, Kept, Read, Wrote, IsHelp, flight_from, flight_of, writes, written_by}
use Rattle.wol_promise.specs.Ruled.{Noted, entries_of}
use Rattle.turn_lock.specs.Histories.{Entry}
use Rattle.turn_lock.specs.Passes.{pass_mine}
use Rattle.manager.specs.Stands.{notes_of}
use Rattle.manager.specs.declared.station.Station.{Station}
use Rattle.rack.specs.Closes.{IsQuiet, flight_in}
use Rattle.rack.specs.Racks.{AreUnused, IsUnused}
use Rattle.inspection.specs.Racks.{IsSameStation}
use Rattle.inspection.proofs.SameRacks.{only}
use Rattle.inspection.proofs.WorkedRacks.{all_by}

abbrev AreHelps : List Noted → Type 0
AreHelps ns = AllByRecursion (λ (n : Noted). IsHelp n.entry.operation) ns

-- entries that change no content write nothing
no_writes : (ns : List Noted) → AreHelps ns → writes (entries_of ns) ≡ []
no_writes [] all = refl
no_writes (n ∷ ns) all = go n.entry.operation refl all.0 (no_writes ns all.1)
  where
    go : (o : Operation) → n.entry.operation ≡ o → IsHelp n.entry.operation → writes (entries_of ns) ≡ [] → writes (entries_of (n ∷ ns)) ≡ []
    go (Broke ws) is help rest = ap (λ (p : Operation). written_by p ++ writes (entries_of ns)) is ∙ rest
    go Kept is help rest = ap (λ (p : Operation). written_by p ++ writes (entries_of ns)) is ∙ rest
    go (Wrote ws) is help rest = absurd (subst IsHelp is help)
    go (Read first reply) is help rest = absurd (subst IsHelp is help)

-- and have nothing in flight
none_in_flight : (ns : List Noted) → AreHelps ns → unwrap_or (flight_of (entries_of ns)) [] ≡ []
none_in_flight [] all = refl
none_in_flight (n ∷ ns) all = go n.entry.operation refl all.0 (none_in_flight ns all.1)
  where
    passing : (o : Operation) → n.entry.operation ≡ o → unwrap_or (flight_of (entries_of (n ∷ ns))) [] ≡ unwrap_or (flight_from o (flight_of (entries_of ns))) []
    passing o is = ap (λ (p : Operation). unwrap_or (flight_from p (flight_of (entries_of ns))) []) is

    go : (o : Operation) → n.entry.operation ≡ o → IsHelp n.entry.operation → unwrap_or (flight_of (entries_of ns)) [] ≡ [] → unwrap_or (flight_of (entries_of (n ∷ ns))) [] ≡ []
    go (Broke ws) is help rest = passing (Broke ws) is ∙ (let none : IsHelp (Broke ws) = subst IsHelp is help in none)
    go Kept is help rest = passing Kept is ∙ rest
    go (Wrote ws) is help rest = absurd (subst IsHelp is help)
    go (Read first reply) is help rest = absurd (subst IsHelp is help)

module _ {D : Type 0} where
  station_quiet : (s t : Station D) → IsSameStation s t → IsUnused s.worker × IsUnused s.helper × IsUnused s.keeper → IsQuiet t
  station_quiet s t same unused =
      let helped : pass_mine t.helper ≡ [] = ap (λ (w : Station D). pass_mine w.helper) same.same ∙ unused.1.mine in
      let kept : pass_mine t.keeper ≡ [] = ap (λ (w : Station D). pass_mine w.keeper) same.same ∙ unused.2.mine in
      let worked : AreHelps (notes_of (pass_mine t.worker)) = same.helps (subst (λ (es : List Entry). AreHelps (notes_of es)) (sym unused.0.mine) tt) in (
        (none_in_flight (notes_of (pass_mine t.worker)) worked, ap flight_in helped, ap flight_in kept),
        (no_writes (notes_of (pass_mine t.worker)) worked, ap (λ (es : List Entry). writes (entries_of (notes_of es))) helped, ap (λ (es : List Entry). writes (entries_of (notes_of es))) kept),
      )

  -- no station of a rack that was looked at wrote
  pub all_quiet : (ss ts : List (Station D)) → AllZip IsSameStation ss ts → AreUnused ss → All (λ (t : Station D). IsQuiet t) ts
  all_quiet ss ts zip unused = all_by IsSameStation only (λ (s : Station D). IsUnused s.worker × IsUnused s.helper × IsUnused s.keeper) (λ (t : Station D). IsQuiet t) station_quiet ss ts zip unused
