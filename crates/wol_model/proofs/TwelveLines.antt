-- A trace of twelve lines over three volumes: its requests, windows, plain answers, journals and energy.
use Rattle.std.proofs.Common.{◌≡◌, ◌+◌, ◌*◌, ℕ, List, [], ◌∷◌, map, Option, None, Some, refl}
use Rattle.std.specs.Prelude.{codes, replicate}
use Rattle.wol_disk.specs.Disk.{Block}
use Rattle.wol_model.specs.declared.trace.Kind.{Kind}
use Rattle.wol_model.specs.declared.trace.Kind.TheVariants.{Read, Write}
use Rattle.wol_model.specs.Blocks.{after}
use Rattle.wol_model.specs.Trace.{TraceLine, Target, Request, Timed, Window, pieces, payload_block, mark, requests, plain, windows, timed, started, ended}

abbrev at : ℕ → List ℕ → Kind → ℕ → ℕ → Option TraceLine
at tenths host kind offset size = Some (record { time = 128166372000000000 + tenths * 1000000; host = host; disk = 0; kind = kind; offset = offset; size = size; response = 100 })

abbrev pub trace : List (Option TraceLine)
trace =
    at 0 (codes "usr") Write 0 4096
    ∷ at 0 (codes "web") Write 8192 1024
    ∷ at 500 (codes "web") Read 8192 1024
    ∷ at 1000 (codes "web") Write 0 512
    ∷ at 1005 (codes "usr") Write 0 1024
    ∷ at 1200 (codes "usr") Read 0 1024
    ∷ at 1500 (codes "src") Write 5120 512
    ∷ at 2000 (codes "usr") Read 1024 1024
    ∷ at 2300 (codes "usr") Write 0 512
    ∷ at 3000 (codes "web") Read 0 512
    ∷ at 3200 (codes "src") Read 5120 512
    ∷ at 4000 (codes "src") Read 5120 1024
    ∷ []

abbrev pub targets : List Target
targets =
    record { host = codes "usr"; disk = 0; home = 1000 }
    ∷ record { host = codes "web"; disk = 0; home = 1000 }
    ∷ record { host = codes "src"; disk = 0; home = 1000 }
    ∷ []

abbrev asks : ℕ → ℕ → Kind → ℕ → ℕ → Request
asks line volume kind first count = record { line = line; volume = volume; kind = kind; first = first; count = count }

asked : requests 14 targets trace ≡
    asks 1 0 Write 0 8
    ∷ asks 2 1 Write 16 2
    ∷ asks 3 1 Read 16 2
    ∷ asks 4 1 Write 0 1
    ∷ asks 5 0 Write 0 2
    ∷ asks 6 0 Read 0 2
    ∷ asks 7 2 Write 10 1
    ∷ asks 8 0 Read 2 2
    ∷ asks 9 0 Write 0 1
    ∷ asks 10 1 Read 0 1
    ∷ asks 11 2 Read 10 1
    ∷ asks 12 2 Read 10 2
    ∷ []
unfolding requests pieces
asked = refl

abbrev zeros : ℕ → List Block
zeros v = replicate 32 (replicate 512 0)

marks : plain zeros (requests 14 targets trace) ≡ None ∷ None ∷ Some 4 ∷ None ∷ None ∷ Some 10 ∷ None ∷ Some 2 ∷ None ∷ Some 4 ∷ Some 7 ∷ Some 7 ∷ []
unfolding requests pieces plain after payload_block mark
marks = refl

-- lines 1 and 2 are one window, and so are lines 4 and 5
cut : map (λ (w : Window). map (λ (l : Timed). l.number) w.lines) (windows 14 targets trace)
    ≡ (1 ∷ 2 ∷ []) ∷ (3 ∷ []) ∷ (4 ∷ 5 ∷ []) ∷ (6 ∷ []) ∷ (7 ∷ []) ∷ (8 ∷ []) ∷ (9 ∷ []) ∷ (10 ∷ []) ∷ (11 ∷ []) ∷ (12 ∷ []) ∷ []
unfolding requests pieces windows
cut = refl

span : ended (timed trace) ≡ started (timed trace) + 4000000000
span = refl
