-- A log of one segment of four blocks: the second write finds its volume covered and no room, so the volume is drained and the write goes home.
use Rattle.std.proofs.Common.{◌≡◌, inl, inr, ℕ, true, false, List, [], ◌∷◌, Option, None, Some, refl}
use Rattle.wol_model.specs.Blocks.{Write}
use Rattle.wol_model.specs.Placing.{Log, Full}
use Rattle.wol_model.specs.History.{Wrote}
use Rattle.wol_promise.specs.Policy.{Look, placed, place_of, drained}
use Rattle.wol_promise.specs.Ruled.{Noted, AreRuled, times_passed}
use Rattle.wol_promise.specs.Report.{logged_writes, home_writes, drains, blocks_put_home}

abbrev write : Option ℕ → Write
write version = record { first = 0; blocks = (1 ∷ []) ∷ []; version = version }

abbrev began : Look
began = record { home_up = false; ups = true ∷ []; next = 1; listed = []; down = None }

abbrev logged : Look
logged = placed (Log 0) began (write (Some 1))

first_place : place_of [] began (write (Some 1)) ≡ Log 0
first_place = refl

-- where the pool of the only lane is empty, the covered write finds no place
second_place : place_of (0 ∷ []) logged (write None) ≡ Full
second_place = refl

-- with another lane asleep it would be woken
with_another : place_of (0 ∷ []) (record logged { ups = true ∷ false ∷ [] }) (write None) ≡ Log 1
with_another = refl

abbrev entries : List Noted
entries =
    record { entry = record { pass = 0; operation = Wrote (write (Some 1) ∷ []) }; look = logged; passed = []; after_drain = false; ruled = true }
    ∷ record { entry = record { pass = 0; operation = Wrote (write None ∷ []) }; look = drained logged; passed = 0 ∷ []; after_drain = true; ruled = true }
    ∷ []

drained_is : drained logged ≡ record { home_up = true; ups = true ∷ []; next = 2; listed = []; down = None }
drained_is = refl

ruled : AreRuled began entries
ruled = (
  (λ r. inl (refl, ((λ full. not_full full), refl, refl))),
  ((λ r. inr (refl, record { write = write None; only = refl; home = refl; drains = record { full = refl; bare = refl } })), tt),
)
  where
    not_full : Log 0 ≡ Full → ⊥
    not_full e = cc

counts : (home_writes entries ∷ logged_writes entries ∷ drains entries ∷ blocks_put_home began entries ∷ []) ≡ 1 ∷ 1 ∷ 1 ∷ 1 ∷ []
counts = refl

-- the pool was told empty in one turn
passed_once : times_passed 0 entries ≡ 1
passed_once = refl
