-- What the steps of a turn tell the seat that makes them.
use Rattle.std.specs.Prelude.{◌≡◌, ◌≢◌, ℕ, ◌<◌, ◌%◌, List, [], ◌∷◌, Option, Some}
use Rattle.atomic_table.specs.declared.shared.Seat.{Seat}
use Rattle.atomic_table.specs.Table.{Me, Step, rest}
use Rattle.turn_lock.specs.Histories.{Entry, own, Begins, AreNumberedBelow}
use Rattle.turn_lock.specs.Views.{at_stage, holding, turned}
use Rattle.turn_lock.specs.declared.view.View.{View}
use Rattle.turn_lock.specs.declared.view.Stage.TheVariants.{Waiting}

module _ {S B : Type 0} where
  -- a ticket was drawn: the seat waits with the one that was found
  abbrev pub DrewTicket : Step S → Me S (View B) → ℕ → Me S (View B) → Type 0
  DrewTicket st m found m' =
      (t : ℕ) × (t % 18446744073709551616 ≡ found) × (m' ≡ (at_stage m.0 (Waiting t), m.1))

  -- the turn ended with one entry, and the slot went home
  abbrev pub Raised : List ℕ → Step S → Me S (View B) → ℕ → Me S (View B) → Type 0
  Raised op st m found m' = m' ≡ (turned m.0 op, rest m.1)

  -- the seat, which was idle, waits with a ticket
  pub record HasDrawn (p q : Seat S (View B)) (found : ℕ) : Type 0 where
    pub table : q.table_id ≡ p.table_id
    pub seat : q.id ≡ p.id
    pub ticket : ℕ
    pub shown : ticket % 18446744073709551616 ≡ found
    pub now : q.me ≡ (at_stage p.me.0 (Waiting ticket), [])

module _ {T B : Type 0} (stands : T → B → List Entry → Type 0) where
  -- the turn of the ticket t came, with a value that stands for all entries
  pub record Comes (m : Me (Option T) (View B)) (t : ℕ) (m' : Me (Option T) (View B)) : Type 0 where
    pub value : T
    pub entries : List Entry
    pub now : m' ≡ (holding m.0 t entries, (0, Some value) ∷ m.1)
    pub begins : Begins m.0.seen entries
    pub mine : own m.0.number entries ≡ m.0.mine
    pub number : m.0.number < 1024
    pub below : AreNumberedBelow 1024 entries
    pub standing : (b : B) → m.0.base ≡ Some b → stands value b entries

  -- the turn comes exactly where the number served is the seat's ticket
  abbrev pub Looked : Step (Option T) → Me (Option T) (View B) → ℕ → Me (Option T) (View B) → Type 0
  Looked st m found m' = (t : ℕ) → m.0.stage ≡ Waiting t
      → (found ≡ t % 18446744073709551616 → Comes m t m')
      × (found ≢ t % 18446744073709551616 → m' ≡ m)

  -- the seat, which waited, has the turn and the slot, whose value stands for all entries
  pub record TurnCame (p q : Seat (Option T) (View B)) : Type 0 where
    pub table : q.table_id ≡ p.table_id
    pub seat : q.id ≡ p.id
    pub ticket : ℕ
    pub value : T
    pub entries : List Entry
    pub now : q.me ≡ (holding p.me.0 ticket entries, (0, Some value) ∷ [])
    pub begins : Begins p.me.0.seen entries
    pub mine : own p.me.0.number entries ≡ p.me.0.mine
    pub number : p.me.0.number < 1024
    pub below : AreNumberedBelow 1024 entries
    pub standing : (b : B) → p.me.0.base ≡ Some b → stands value b entries
