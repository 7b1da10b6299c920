-- The part that a run tells of a volume is the one that came back with a fault.
use Rattle.replay.proofs.Basics.{◌≡◌, ◌++◌, ◌∷◌, [], ℕ, Bool, true, false, List, Option, Some, map, sym, ap, subst, ◌∙◌, All, IsTrue}
use Rattle.replay.proofs.Basics.{slice_get, AllByRecursion, option_map_or, same_Some}
use Rattle.replay.proofs.Terms.{BayState, BreaksOnce, Answered, Look, PartName, AreRuled, Noted, entries_of, last_look, Config, notes_of}
use Rattle.replay.proofs.Terms.{Part, Station, Trouble, trouble_of_part, IsTold, HasFaultyPart, IsClosedVolume, part_named, base_of_station}
use Rattle.replay.proofs.Terms.{Write, IsFlightAt, ImageRest, WasDown, down_breaks, AreHistories, History, is_broken, is_broken_at}
use Rattle.wol_promise.proofs.DownStays.{down_at_end}
use Rattle.manager.specs.Seen.{name_of}
use Rattle.manager.specs.declared.part.Part.TheVariants.{Home, Segment}
use Rattle.rack.proofs.Named.{named_alike}
use Rattle.replay.proofs.HistoriesLeft.{histories_of, history_at}
use Rattle.replay.proofs.WindowBroken.{HasDown, not_none}
use Rattle.wol_model.specs.History as history

-- a part of this trouble was down in the history of this volume
pub record HasDownAt (histories : List History) (v : ℕ) (t : Trouble) : Type 0 where
  pub history : History
  pub there : slice_get histories v ≡ Some history
  pub down : HasDown t history.notes

pub breaks_at : (histories : List History) (v : ℕ) (t : Trouble) → HasDownAt histories v t → IsTrue (is_broken_at histories v)
breaks_at histories v t is =
    ap (λ (o : Option History). option_map_or is_broken o false) is.there ∙ down_breaks is.down.0 is.history.notes is.down.2

-- the part that was down is down at the end, since each entry goes by the rules
pub down_last : (l : Look) (p : Part) (notes : List Noted) → AreRuled l notes → AllByRecursion (λ (n : Noted). IsTrue n.ruled) notes → BreaksOnce (map (λ (e : history.Entry). e.operation) (entries_of notes)) → WasDown p notes
    → (last_look l notes).down ≡ Some (name_of p)
down_last l p notes rules all breaks was =
    ap (λ (ns : List Noted). (last_look l ns).down) was.notes_are
    ∙ down_at_end l was.front was.note was.later
    (subst (AreRuled l) was.notes_are rules) (subst (AllByRecursion (λ (n : Noted). IsTrue n.ruled)) was.notes_are all)
    (subst (λ (ns : List Noted). BreaksOnce (map (λ (e : history.Entry). e.operation) (entries_of ns))) was.notes_are breaks)
    (not_none (was.front ++ was.note ∷ []) was.broken)
    ∙ was.down

-- writes on their way to a part were so to the part of its name
pub at_named : (v : ℕ) (p : Part) (ws : List Write) → IsFlightAt p ws → IsFlightAt (part_named v (name_of p)) ws
at_named v (Home volume) ws at = at
at_named v (Segment volume index) ws at = at

pub none_at : (p : Part) → IsFlightAt p []
none_at (Home volume) = tt
none_at (Segment volume index) = tt

module _ {D : Type 0} (tells : Bool) (config : Config) (out : List (Option (ImageRest D))) (old new : BayState) (ss : List (Station D)) (all : All (IsClosedVolume tells config out old new) ss)
    (answers : List Answered) (are : AreHistories (IsTrue tells) config answers (histories_of tells config out old new ss all)) where
  pub came_at : ((v : ℕ) (s : Station D) → slice_get ss v ≡ Some s → s.id ≡ v) → (v : ℕ) (t : Trouble) → HasDownAt (histories_of tells config out old new ss all) v t
      → (h : History) × (slice_get (histories_of tells config out old new ss all) v ≡ Some h) × (name : PartName) × (t ≡ trouble_of_part (part_named v name)) × IsTold (HasFaultyPart tells config v h.base.view name) old.told new.told
  came_at ids v t is =
      let h = is.history in
      let (p, named, was) = is.down in
      let one = history_at tells config out old new ss all v h is.there in
      let each = are.each v h is.there in
      let broken = down_breaks p h.notes was in
      let (name, down, came) = one.closed.faulty (not_none (notes_of one.closed.entries) (subst (λ (x : History). is_broken x ≡ true) one.is broken)) in
      let last : (last_look h.base.look h.notes).down ≡ Some (name_of p) = down_last h.base.look p h.notes each.legal.ruled each.ruled each.legal.breaks was in
      let same : name ≡ name_of p = same_Some name (name_of p) (sym down ∙ ap (λ (x : History). (last_look x.base.look x.notes).down) (sym one.is) ∙ last) in (
        h,
        is.there,
        name,
        named ∙ named_alike v p ∙ ap (λ (n : PartName). trouble_of_part (part_named v n)) (sym same),
        subst (λ (x : History). IsTold (HasFaultyPart tells config v x.base.view name) old.told new.told) (sym one.is)
            (subst (λ (n : ℕ). IsTold (HasFaultyPart tells config n (base_of_station one.station).volume.began.view name) old.told new.told) (ids v one.station one.there) came),
      )
