-- The histories of the volumes of a rack that was closed.
use Rattle.replay.proofs.Basics.{◌≡◌, ◌<◌, ℕ, zero, suc, Bool, List, [], ◌∷◌, length, map, refl, sym, ap, subst, ◌∙◌, Option, Some, arith}
use Rattle.replay.proofs.Basics.{All, IsTrue, slice_get, slice_index_or, AllByRecursion}
use Rattle.replay.proofs.Terms.{own, pass_number, pass_mine, BayState, helper, keeper, worker, Operation, Answered, AreOutcomes}
use Rattle.replay.proofs.Terms.{answered_in, Noted, entries_of, AreFirst, answers_of, others_answer_nothing, notes_of, Station, ManagerPass}
use Rattle.replay.proofs.Terms.{coded, AreStations, Config, shapes_of, IsClosedVolume, base_of_station, ImageRest, History, AreHistories}
use Rattle.replay.proofs.Terms.{IsHistory, view_at}
use Rattle.wol_promise.specs.Manager.{Base}
use Rattle.replay.proofs.AnswersServed.{operation_in}
use Rattle.replay.proofs.EntriesOwn.{all_of_three, coded_all, noted_all, notes_back, own_notes, OfEntry}
use Rattle.replay.proofs.PassesRuled.{IsRuled}
use Rattle.replay.proofs.RacksServed.{at_place}
use Rattle.replay.proofs.StationsRan.{AreNumbered, StationRan}
use Rattle.wol_model.specs.History as history

module _ {D : Type 0} (tells : Bool) (config : Config) (out : List (Option (ImageRest D))) (old new : BayState) where
  -- the history of a closed volume
  abbrev pub history_of : (s : Station D) → IsClosedVolume tells config out old new s → History
  history_of s c = record { base = (base_of_station s).volume.began; notes = notes_of c.entries }

  pub histories_of : (ss : List (Station D)) → All (IsClosedVolume tells config out old new) ss → List History
  histories_of [] all = []
  histories_of (s ∷ ss) all = history_of s (all 0 s (omega arith)) ∷ histories_of ss (λ k d lt. all (suc k) d (omega (arith, lt)))

  pub histories_count : (ss : List (Station D)) (all : All (IsClosedVolume tells config out old new) ss) → length (histories_of ss all) ≡ length ss
  unfolding histories_of
  histories_count [] all = refl
  histories_count (s ∷ ss) all = ap suc (histories_count ss (λ k d lt. all (suc k) d (omega (arith, lt))))

  -- what holds of each closed volume, by its place, holds of each history
  pub each_closed : (P : Base → List Noted → Type 0) (ss : List (Station D)) (all : All (IsClosedVolume tells config out old new) ss)
      → ((n : ℕ) (d : Station D) (within : n < length ss) → P (base_of_station (slice_index_or ss n d)).volume.began (notes_of (all n d within).entries))
      → (v : ℕ) (h : History) → slice_get (histories_of ss all) v ≡ Some h → P h.base h.notes
  unfolding histories_of
  each_closed P [] all each v h here = absurd (cc here)
  each_closed P (s ∷ ss) all each zero h here = let same : history_of s (all 0 s (omega arith)) ≡ h = cc here in subst (λ (x : History). P x.base x.notes) same (each 0 s _)
  each_closed P (s ∷ ss) all each (suc v) h here = each_closed P ss (λ k d lt. all (suc k) d (omega (arith, lt))) (λ n d within. each (suc n) d _) v h here

  -- a history's view is that of the station at its place
  pub view_there : (ss : List (Station D)) (all : All (IsClosedVolume tells config out old new) ss) (v : ℕ) (d : Station D) → v < length ss → view_at (histories_of ss all) v ≡ (base_of_station (slice_index_or ss v d)).volume.began.view
  unfolding histories_of
  view_there [] all v d = λ lt. absurd (omega (arith, lt))
  view_there (s ∷ ss) all zero d = λ lt. refl
  view_there (s ∷ ss) all (suc v) d = let rest = view_there ss (λ k d lt. all (suc k) d (omega (arith, lt))) v d in λ lt. rest (omega (arith, lt))

  -- a history is that of the station at its place
  pub record IsHistoryAt (ss : List (Station D)) (v : ℕ) (h : History) : Type 0 where
    pub station : Station D
    pub there : slice_get ss v ≡ Some station
    pub closed : IsClosedVolume tells config out old new station
    pub is : h ≡ history_of station closed

  pub history_at : (ss : List (Station D)) (all : All (IsClosedVolume tells config out old new) ss) (v : ℕ) (h : History) → slice_get (histories_of ss all) v ≡ Some h → IsHistoryAt ss v h
  unfolding histories_of
  history_at [] all v h here = absurd (cc here)
  history_at (s ∷ ss) all zero h here = let same : history_of s (all 0 s (omega arith)) ≡ h = cc here in record { station = s; there = refl; closed = all 0 s (omega arith); is = sym same }
  history_at (s ∷ ss) all (suc v) h here =
      let rest = history_at ss (λ k d lt. all (suc k) d (omega (arith, lt))) v h here in
      record { station = rest.station; there = rest.there; closed = rest.closed; is = rest.is }

  -- ---- The entries of one volume

  module _ (s : Station D) (c : IsClosedVolume tells config out old new s) (numbered : AreNumbered s) where
    own_made : (n : ℕ) (p : ManagerPass D) → pass_number p ≡ n → own (pass_number p) c.entries ≡ pass_mine p → (notes : List Noted) → pass_mine p ≡ map coded notes → own n c.entries ≡ map coded notes
    own_made n p is mine notes made = ap (λ (k : ℕ). own k c.entries) (sym is) ∙ mine ∙ made

    -- what holds of the entries of each pass holds of all
    all_made : (P : Noted → Type 0) (v : ℕ) (answers : List Answered) → (ran : StationRan v answers s) → AllByRecursion P ran.worker_.notes → AllByRecursion P ran.helper_.notes → AllByRecursion P ran.keeper_.notes
        → AllByRecursion P (notes_of c.entries)
    all_made P v answers ran w h k = noted_all P c.entries (all_of_three (OfEntry P) c.entries c.no_more
        (subst (λ l. AllByRecursion (OfEntry P) l) (sym (own_made worker s.worker numbered.0 c.worker_part.mine ran.worker_.notes ran.worker_.mine)) (coded_all P ran.worker_.notes w))
        (subst (λ l. AllByRecursion (OfEntry P) l) (sym (own_made helper s.helper numbered.1 c.helper_part.mine ran.helper_.notes ran.helper_.mine)) (coded_all P ran.helper_.notes h))
        (subst (λ l. AllByRecursion (OfEntry P) l) (sym (own_made keeper s.keeper numbered.2 c.keeper_part.mine ran.keeper_.notes ran.keeper_.mine)) (coded_all P ran.keeper_.notes k)))

    -- all of them follow the rules
    pub all_ruled : (v : ℕ) (answers : List Answered) → StationRan v answers s → AllByRecursion IsRuled (notes_of c.entries)
    all_ruled v answers ran = all_made IsRuled v answers ran ran.worker_.ruled ran.helper_.ruled ran.keeper_.ruled

    -- the answered requests are what the entries read and wrote
    pub all_answered : (v : ℕ) (answers : List Answered) → StationRan v answers s → AreOutcomes (answered_in (answers_of v answers)) (map (λ (e : history.Entry). e.operation) (entries_of (notes_of c.entries)))
    all_answered v answers ran =
        let mine : own worker c.entries ≡ map coded ran.notes = own_made worker s.worker numbered.0 c.worker_part.mine ran.notes ran.mine in
        others_answer_nothing (answered_in (answers_of v answers)) (entries_of (notes_of c.entries)) c.history.helpers
        (subst (λ (l : List history.Entry). AreOutcomes (answered_in (answers_of v answers)) (map (λ (e : history.Entry). e.operation) l))
        (sym (own_notes worker c.entries ∙ ap (λ l. entries_of (notes_of l)) mine ∙ ap entries_of (notes_back ran.notes)))
        (subst (λ (l : List Operation). AreOutcomes (answered_in (answers_of v answers)) l) (operations ran.notes) ran.answered))
      where
        operations : (notes : List Noted) → map operation_in notes ≡ map (λ (e : history.Entry). e.operation) (entries_of notes)
        operations [] = refl
        operations (n ∷ notes) = ap (λ l. n.entry.operation ∷ l) (operations notes)

  -- ---- All volumes

  module _ (ss : List (Station D)) (all : All (IsClosedVolume tells config out old new) ss) (stations : AreStations ss) (answers : List Answered)
      (ran : (v : ℕ) (s : Station D) → slice_get ss v ≡ Some s → StationRan v answers s) where
    pub passes_numbered : (v : ℕ) (s : Station D) → slice_get ss v ≡ Some s → AreNumbered s
    passes_numbered v s there =
        let (less, is) = at_place ss v s there in
        let one = stations v s less in
        subst (λ (x : Station D). AreNumbered x) (is s) (one.worker_.number_is, one.helper_.number_is, one.keeper_.number_is)

    each_history : (v : ℕ) (h : History) → slice_get (histories_of ss all) v ≡ Some h → IsHistory (IsTrue tells) answers v h
    each_history v h here =
        let at = history_at ss all v h here in
        subst (λ x. IsHistory (IsTrue tells) answers v x) (sym at.is) (record {
          owner = owner v at.station at.there;
          opening = at.closed.opening;
          legal = at.closed.history;
          ruled = all_ruled at.station at.closed (passes_numbered v at.station at.there) v answers (ran v at.station at.there);
          answered = all_answered at.station at.closed (passes_numbered v at.station at.there) v answers (ran v at.station at.there);
        })
      where
        owner : (k : ℕ) (s : Station D) → slice_get ss k ≡ Some s → (base_of_station s).volume.began.owner ≡ k
        owner k s there = let (less, is) = at_place ss k s there in subst (λ (x : Station D). (base_of_station x).volume.began.owner ≡ k) (is s) (stations k s less).owner

    pub are_histories : length ss ≡ length (shapes_of config) → ((v : ℕ) → AreFirst v answers) → AreHistories (IsTrue tells) config answers (histories_of ss all)
    are_histories count first = record { count = histories_count ss all ∙ count; each = each_history; first = first }
