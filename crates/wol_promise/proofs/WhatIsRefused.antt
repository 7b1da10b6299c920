-- What the definitions refuse: an index entry at another position, an opening with a flag that isn't set or a part that is down, a write behind the volume's end,
-- a write to a log after a drain, an entry of another kind that is marked so, and marks of home that are missing or of blocks that aren't live.
use Rattle.std.proofs.Common.{◌≡◌, ◌≤◌, ℕ, true, false, List, [], ◌∷◌, None, Some, refl, sym, ap, ◌∙◌, arith}
use Rattle.wol_model.specs.Blocks.{Write}
use Rattle.wol_model.specs.Index.{Listed, IsListed, keeping}
use Rattle.wol_promise.specs.Policy.{Look, HomePart}
use Rattle.wol_promise.specs.Ruled.{Noted, IsDrainedWrite, IsStep}
use Rattle.wol_model.specs.History.{Kept}
use Rattle.wol_promise.specs.Manager.{IsEntryOf}
use Rattle.wol_promise.specs.Stands.{IsOpening, LiesInVolume}
use Rattle.wol_promise.proofs.OpenedManager.{held, kept_in_part, entry, base, listed}

other_position : (pos : ℕ) → IsEntryOf held 0 kept_in_part (record entry { pos = pos }) → pos ≡ 1
other_position pos is = is.pos

flag_not_set : IsOpening (record base { look = record { home_up = false; ups = true ∷ []; next = 2; listed = listed ∷ []; down = None } }) → ⊥
flag_not_set is = let no : false ≡ true = is.home_up in cc

fewer_flags : IsOpening (record base { look = record { home_up = true; ups = []; next = 2; listed = listed ∷ []; down = None } }) → ⊥
fewer_flags is = let no : ◌≡◌ {A = ℕ} 0 1 = is.lanes in omega arith

other_next : IsOpening (record base { look = record { home_up = true; ups = true ∷ []; next = 1; listed = listed ∷ []; down = None } }) → ⊥
other_next is = let no : ◌≡◌ {A = ℕ} 1 2 = is.next in omega arith

part_down : IsOpening (record base { look = record { home_up = true; ups = true ∷ []; next = 2; listed = listed ∷ []; down = Some HomePart } }) → ⊥
part_down is = let no : Some HomePart ≡ None = is.up in cc

behind_the_end : LiesInVolume 4 (record { first = 4; blocks = (1 ∷ []) ∷ []; version = None }) → ⊥
behind_the_end is = let no : 5 ≤ 4 = is in omega arith

logged_after_drain : (passed : List ℕ) (l m : Look) (first v : ℕ) (blocks : List (List ℕ)) → IsDrainedWrite passed l (record { first = first; blocks = blocks; version = Some v } ∷ []) m → ⊥
logged_after_drain passed l m first v blocks is = let same = ap only is.only in let no : Some v ≡ None = ap (λ (w : Write). w.version) same ∙ is.home in cc
  where
    only : List Write → Write
    only [] = record { first = 0; blocks = []; version = None }
    only (w ∷ ws) = w

kept_after_drain : (n : Noted) (pass : ℕ) (l m : Look) → n.after_drain ≡ true → IsStep n pass Kept l m → ⊥
kept_after_drain n pass l m drained step = let no : true ≡ false = sym drained ∙ step.0 in cc

missing_marks : IsListed (listed ∷ []) (record listed { homed = [] }) → ⊥
missing_marks is = let no : ◌≡◌ {A = ℕ} 0 2 = is.marks in omega arith

-- block 1 isn't kept, so it can't be homed
not_live : IsListed (listed ∷ []) (record listed { homed = true ∷ false ∷ [] }) → ⊥
not_live is = let no : false ≡ true = is.homed_are_live 1 refl in cc

-- what is given up is homed no more: block 2 of version 1, kept and home, which a newer record covers too
abbrev newer : Listed
newer = record { version = 2; first = 2; keep = true ∷ []; lane = 0; homed = false ∷ [] }

given_up : keeping (record listed { homed = false ∷ true ∷ [] } ∷ newer ∷ []) (record listed { homed = false ∷ true ∷ [] }) ≡ record { version = 1; first = 1; keep = false ∷ false ∷ []; lane = 0; homed = false ∷ false ∷ [] }
given_up = refl
