-- What commands use, and their numbers.
use Rattle.std.specs.Prelude.{◌≡◌, Bool, true, false, ⊤, ℕ, ◌≤◌, ◌^◌, List, Option, IfSome}
use Rattle.solo.specs.Volume.{IsVolume, target_of}
use Rattle.command_words.specs.Commands.{IsCommand}
use Rattle.command_words.specs.declared.command.Command.{Command}
use Rattle.command_words.specs.declared.command.Command.TheVariants.{Solo, FormatMissing, Nbd, Serve, Replay, Gen, Soak, ViewAdd, ViewRemove, WhatIf}

-- whether a command uses the bay
abbrev pub uses_bay : Command → Bool
uses_bay (Gen asked) = false
uses_bay (WhatIf options) = false
uses_bay command = true

-- whether it runs the lines of the trace that it is given
abbrev pub runs_trace : Command → Bool
runs_trace (Solo volume) = true
runs_trace (Replay options) = true
runs_trace (WhatIf options) = true
runs_trace command = false

-- whether it uses the source of the trace, for that or for a client's requests
abbrev pub uses_trace : Command → Bool
uses_trace (Nbd name) = true
uses_trace (Serve name patience) = true
uses_trace command = runs_trace command

-- whether it serves a client
abbrev pub serves_client : Command → Bool
serves_client (Nbd name) = true
serves_client (Serve name patience) = true
serves_client command = false

-- whether it uses the configuration
abbrev pub uses_config : Command → Bool
uses_config (Solo volume) = false
uses_config command = true

-- whether it changes a view
abbrev pub changes_view : Command → Bool
changes_view (ViewAdd names) = true
changes_view (ViewRemove names) = true
changes_view command = false

-- whether it makes the image of one volume, which has none
abbrev pub makes_missing : Command → Bool
makes_missing (FormatMissing missing) = true
makes_missing command = false

-- the words ask for no command that passes the test
abbrev pub NoneOf : (Command → Bool) → List (List ℕ) → Type 0
NoneOf test words = (command : Command) → IsCommand words command → test command ≡ false

-- so many workers serve a run
abbrev pub IsCount : (workers : ℕ) → Type 0
IsCount workers = (1 ≤ workers) × (workers ≤ 64)

-- a timeout in milliseconds, where one is given
abbrev pub IsTimeout : Option ℕ → Type 0
IsTimeout timeout = IfSome timeout (λ ms. (1 ≤ ms) × (ms ≤ 86400000))

-- a command whose numbers are in range
abbrev pub IsInRange : Command → Type 0
IsInRange (Solo volume) = IsVolume (target_of volume)
IsInRange (Replay options) = IsCount options.workers
IsInRange (Gen asked) = asked.lines ≤ 2 ^ 31
IsInRange (Soak asked options) = (asked.lines ≤ 2 ^ 31) × IsCount options.workers
IsInRange (WhatIf options) = IsTimeout options.timeout_ms
IsInRange command = ⊤
