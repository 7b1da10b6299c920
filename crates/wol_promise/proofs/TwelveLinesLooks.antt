-- The entries of two volumes over the trace of twelve lines, with the looks that they leave: each is ruled, and the report counts them.
use Rattle.std.proofs.Common.{◌≡◌, inl, ℕ, Bool, true, false, List, [], ◌∷◌, Option, None, Some, refl}
use Rattle.std.specs.Prelude.{replicate}
use Rattle.wol_disk.specs.Disk.{Block}
use Rattle.wol_model.specs.Blocks.{Write}
use Rattle.wol_model.specs.History.{Operation, Wrote, Read, Kept}
use Rattle.wol_model.specs.Index.{Listed, is_due}
use Rattle.wol_model.specs.Placing.{Home, Log, Full}
use Rattle.wol_promise.specs.Policy.{Look, woken, placed, place_of, puts_home, gives_up, AreReclaims, more, none}
use Rattle.wol_promise.specs.Ruled.{Noted, flags, reclaimed, AreRuled}
use Rattle.wol_promise.specs.Report.{logged_writes, home_writes, drains, blocks_put_home, LeavesIdle}

abbrev cells : ℕ → List Block
cells n = replicate n (1 ∷ [])

abbrev write : ℕ → ℕ → Option ℕ → Write
write first count version = record { first = first; blocks = cells count; version = version }

abbrev note : ℕ → Operation → Look → Noted
note pass operation look = record { entry = record { pass = pass; operation = operation }; look = look; passed = []; after_drain = false; ruled = true }

abbrev with_flags : Look → Bool → List Bool → Look
with_flags l home_up ups = record l { home_up = home_up; ups = ups }

-- usr0, whose view is web0: line 1 goes home, line 5 to the log, line 8 wakes home, the record is put home and given up, line 9 goes home
abbrev usr0_began : Look
usr0_began = record { home_up = true; ups = true ∷ []; next = 1; listed = []; down = None }

abbrev usr0_asleep : Look
usr0_asleep = with_flags usr0_began false (true ∷ [])

abbrev usr0_logged : Look
usr0_logged = record { home_up = false; ups = true ∷ []; next = 2; listed = record { version = 1; first = 0; keep = true ∷ true ∷ []; lane = 0; homed = false ∷ false ∷ [] } ∷ []; down = None }

abbrev usr0_woken : Look
usr0_woken = with_flags usr0_logged true (true ∷ [])

abbrev usr0_home : Look
usr0_home = record { home_up = true; ups = true ∷ []; next = 2; listed = record { version = 1; first = 0; keep = true ∷ true ∷ []; lane = 0; homed = true ∷ true ∷ [] } ∷ []; down = None }

abbrev usr0_bare : Look
usr0_bare = record { home_up = true; ups = true ∷ []; next = 2; listed = []; down = None }

abbrev usr0 : List Noted
usr0 =
    note 2 Kept usr0_began
    ∷ note 0 (Wrote (write 0 8 None ∷ [])) usr0_began
    ∷ note 2 Kept usr0_asleep
    ∷ note 0 (Wrote (write 0 2 (Some 1) ∷ [])) usr0_logged
    ∷ note 2 Kept usr0_logged
    ∷ note 0 (Read 0 (cells 2)) usr0_logged
    ∷ note 2 Kept usr0_logged
    ∷ note 0 (Read 2 (cells 2)) usr0_woken
    ∷ note 0 Kept usr0_bare
    ∷ note 2 Kept usr0_bare
    ∷ note 0 (Wrote (write 0 1 None ∷ [])) usr0_bare
    ∷ []

usr0_reclaims : AreReclaims usr0_woken usr0_bare
usr0_reclaims = more usr0_woken usr0_home usr0_bare
    (puts_home 0 (is_due usr0_woken.listed logged) logged refl refl (λ b due. due) refl)
    (more usr0_home usr0_bare usr0_bare (gives_up 0 homed refl refl refl) (none usr0_bare))
  where
    logged : Listed
    logged = record { version = 1; first = 0; keep = true ∷ true ∷ []; lane = 0; homed = false ∷ false ∷ [] }

    homed : Listed
    homed = record { version = 1; first = 0; keep = true ∷ true ∷ []; lane = 0; homed = true ∷ true ∷ [] }

-- place_of is never Full here
usr0_ruled : AreRuled usr0_began usr0
usr0_ruled = (
  (λ r. (refl, flags refl refl refl)),
  (
    (λ r. inl (refl, ((λ full. not_full full), refl, refl))),
    (
      (λ r. (refl, flags refl refl refl)),
      (
        (λ r. inl (refl, ((λ full. log_not_full full), refl, refl))),
        (
          (λ r. (refl, flags refl refl refl)),
          (
            (λ r. (refl, refl)),
            (
              (λ r. (refl, flags refl refl refl)),
              (
                (λ r. (refl, refl)),
                (
                  (λ r. (refl, reclaimed refl usr0_reclaims)),
                  (
                    (λ r. (refl, flags refl refl refl)),
                    (
                      (λ r. inl (refl, ((λ full. not_full full), refl, refl))),
                      tt,
                    ),
                  ),
                ),
              ),
            ),
          ),
        ),
      ),
    ),
  ),
)
  where
    not_full : Home ≡ Full → ⊥
    not_full e = cc

    log_not_full : Log 0 ≡ Full → ⊥
    log_not_full e = cc

usr0_counts : (home_writes usr0 ∷ logged_writes usr0 ∷ drains usr0 ∷ blocks_put_home usr0_began usr0 ∷ []) ≡ 2 ∷ 1 ∷ 0 ∷ 2 ∷ []
usr0_counts = refl

usr0_idle : LeavesIdle usr0_began usr0
usr0_idle = tt

-- src0, whose view is web0 and usr0: line 7 goes to the log on web0, line 12 wakes web0 for block 10 and home for block 11
abbrev src0_began : Look
src0_began = record { home_up = false; ups = true ∷ false ∷ []; next = 1; listed = []; down = None }

abbrev src0_logged : Look
src0_logged = placed (place_of [] src0_began (write 10 1 (Some 1))) src0_began (write 10 1 (Some 1))

abbrev src0_asleep : Look
src0_asleep = with_flags src0_logged false (false ∷ false ∷ [])

abbrev src0_woken : Look
src0_woken = woken src0_asleep 10 2

src0_flags : src0_woken ≡ with_flags src0_logged true (true ∷ false ∷ [])
src0_flags = refl

abbrev src0_bare : Look
src0_bare = record { home_up = true; ups = true ∷ false ∷ []; next = 2; listed = []; down = None }

abbrev src0 : List Noted
src0 =
    note 0 (Wrote (write 10 1 (Some 1) ∷ [])) src0_logged
    ∷ note 0 (Read 10 (cells 1)) src0_logged
    ∷ note 2 Kept src0_asleep
    ∷ note 0 (Read 10 (cells 2)) src0_woken
    ∷ note 0 Kept src0_bare
    ∷ []

src0_counts : (home_writes src0 ∷ logged_writes src0 ∷ drains src0 ∷ blocks_put_home src0_began src0 ∷ []) ≡ 0 ∷ 1 ∷ 0 ∷ 1 ∷ []
src0_counts = refl
