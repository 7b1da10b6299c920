-- What images a run over open volumes leaves in its bay, by what opening and closing its rack say.
use Rattle.replay.proofs.Basics.{◌≡◌, ◌<◌, ℕ, Bool, List, length, subst, Option, None, Some, All, IsTrue, slice_get}
use Rattle.replay.proofs.Terms.{PartName, BayState, Told, flight_of, worker, entries_of, last_look, Config, answers_of, pass_number}
use Rattle.replay.proofs.Terms.{notes_of, Station, AreStations, IsTold, shapes_of, Answered, HasFaultyPart, IsClosedVolume, RecoversTo}
use Rattle.replay.proofs.Terms.{KeepsAllSound, LeavesFronts, base_of_station, IsImageOut, ImageRest, AreHistories, BeginAsRead, History, LeavesImages}
use Rattle.replay.proofs.FlightEnded.{StationFlew, entries_flew}
use Rattle.replay.proofs.FlightServed.{HasFlight}
use Rattle.replay.proofs.HistoriesLeft.{histories_of, history_at}
use Rattle.replay.proofs.ImagesLeft.{images_left}
use Rattle.replay.proofs.RacksServed.{at_place}

module _ {D : Type 0} (tells : Bool) (telling : IsTrue tells) (config : Config) (out : List (Option (ImageRest D))) (all_out : (k : ℕ) → k < length (shapes_of config) → IsImageOut out k) (opened left_ : BayState) (ss : List (Station D))
    (stations : AreStations ss) (closed : All (IsClosedVolume tells config out opened left_) ss) (answers : List Answered) (are : AreHistories (IsTrue tells) config answers (histories_of tells config out opened left_ ss closed))
    (flew : (v : ℕ) (s : Station D) → slice_get ss v ≡ Some s → StationFlew v answers s) where
  abbrev histories : List History
  histories = histories_of tells config out opened left_ ss closed

  id_at : (v : ℕ) (s : Station D) → slice_get ss v ≡ Some s → s.id ≡ v
  id_at v s there = let (less, is) = at_place ss v s there in subst (λ (x : Station D). x.id ≡ v) (is s) (stations v s less).id

  number_at : (v : ℕ) (s : Station D) → slice_get ss v ≡ Some s → pass_number s.worker ≡ worker
  number_at v s there = let (less, is) = at_place ss v s there in subst (λ (x : Station D). pass_number x.worker ≡ worker) (is s) (stations v s less).worker_.number_is

  flown : (v : ℕ) (s : Station D) (c : IsClosedVolume tells config out opened left_ s) → slice_get ss v ≡ Some s → HasFlight (notes_of c.entries) (answers_of v answers) (notes_of c.entries)
  flown v s c there = entries_flew v answers s c.entries (flew v s there) (number_at v s there) c.worker_part c.history.helpers

  -- what each closed station says
  abbrev Faulty : (o n : Option Told) → Type 0
  Faulty o n = (s : Station D) (c : IsClosedVolume tells config out opened left_ s) → (flight_of (entries_of (notes_of c.entries)) ≡ None → ⊥)
      → (name : PartName) × ((last_look (base_of_station s).volume.began.look (notes_of c.entries)).down ≡ Some name) × IsTold (HasFaultyPart tells config s.id (base_of_station s).volume.began.view name) o n

  abbrev Recovers : (o n : Option Told) → Type 0
  Recovers o n = (s : Station D) (c : IsClosedVolume tells config out opened left_ s) → IsTold (λ x y. RecoversTo config out s c.entries y) o n

  through : (Q : Told → Told → Type 0) (e o n : Option Told) → IsTold (λ x y. y.faulty ≡ x.faulty) e o → IsTold (λ x y. BeginAsRead config x histories) e n → IsTold (KeepsAllSound config) e n → IsTold (LeavesFronts config) e n → IsTold Q o n
      → Faulty o n → Recovers o n → IsTold (LeavesImages tells config answers histories) e n
  through Q None None n same begun sound fronts told faulty recovers = told
  through Q None (Some o) n same begun sound fronts told faulty recovers = absurd (cc same)
  through Q (Some e) None n same begun sound fronts told faulty recovers = absurd same
  through Q (Some e) (Some o) None same begun sound fronts told faulty recovers = absurd told
  through Q (Some e) (Some o) (Some n) same begun sound fronts told faulty recovers =
      images_left tells config out all_out opened left_ ss id_at answers histories are (history_at tells config out opened left_ ss closed) flown e o n begun same
      faulty recovers sound fronts

  pub run_images : (entry : BayState) (Q : Told → Told → Type 0) → IsTold (λ x y. y.faulty ≡ x.faulty) entry.told opened.told
      → IsTold (λ x y. BeginAsRead config x histories) entry.told left_.told → IsTold (KeepsAllSound config) entry.told left_.told → IsTold (LeavesFronts config) entry.told left_.told → IsTold Q opened.told left_.told
      → IsTold (LeavesImages tells config answers histories) entry.told left_.told
  run_images entry Q same begun sound fronts told = through Q entry.told opened.told left_.told same begun sound fronts told (λ s c broken. c.faulty broken) (λ s c. c.recovers telling)
