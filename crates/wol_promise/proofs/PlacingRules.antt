-- Placing, rule by rule; and a group of writes.
use Rattle.std.proofs.Common.{◌≡◌, true, false, [], ◌∷◌, None, Some, refl}
use Rattle.wol_model.specs.Blocks.{Write}
use Rattle.wol_model.specs.Placing.{Home, Log, Full, place}
use Rattle.wol_promise.specs.Policy.{Look, AreWrites, placed}

home_first : place true false (true ∷ []) (true ∷ []) ≡ Home
home_first = refl

awake_logger : place false false (false ∷ true ∷ true ∷ []) (true ∷ false ∷ true ∷ []) ≡ Log 2
awake_logger = refl

home_woken : place false false (false ∷ []) (true ∷ []) ≡ Home
home_woken = refl

logger_woken : place true true (true ∷ false ∷ []) (false ∷ true ∷ []) ≡ Log 1
logger_woken = refl

covered_and_no_logger : place true true [] [] ≡ Full
covered_and_no_logger = refl

-- lists of unequal length: what has no partner has no room
unequal : place false true (true ∷ true ∷ []) (false ∷ []) ≡ Full
unequal = refl

-- two writes of a group go to one log under versions in a row
abbrev look : Look
look = record { home_up = false; ups = true ∷ []; next = 5; listed = []; down = None }

abbrev first_write : Write
first_write = record { first = 0; blocks = (1 ∷ []) ∷ []; version = Some 5 }

abbrev second_write : Write
second_write = record { first = 3; blocks = (2 ∷ []) ∷ []; version = Some 6 }

group_of_two : AreWrites [] look (first_write ∷ second_write ∷ []) (placed (Log 0) (placed (Log 0) look first_write) second_write)
group_of_two = ((λ full. not_full full), refl, ((λ full. not_full full), refl, refl))
  where
    not_full : Log 0 ≡ Full → ⊥
    not_full e = cc
