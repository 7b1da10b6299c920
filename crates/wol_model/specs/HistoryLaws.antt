-- Laws of histories.
use Rattle.std.specs.Prelude.{◌≡◌, ◌≢◌, ◌⊎◌, List, [], ◌∷◌, ◌++◌, None}
use Rattle.std.specs.Option.{option_or}
use Rattle.wol_disk.specs.Disk.{Block}
use Rattle.wol_model.specs.Blocks.{Write, after}
use Rattle.wol_model.specs.History.{Entry, worker, writes, flight_of, AreLegalNext, IsLegalNext, IsKept, IsHelp, IsLegal, IsCut}

-- one entry more
abbrev pub OneMoreReply : Type 0
OneMoreReply = (a : List Block) (entries : List Entry) (e : Entry) → AreLegalNext a entries
    → IsLegalNext (after a (writes entries)) e.operation → AreLegalNext a (entries ++ e ∷ [])

-- so a history goes on legally, as long as nothing broke or only Kept comes
abbrev pub OneMoreEntry : Type 0
OneMoreEntry = (a : List Block) (entries : List Entry) (e : Entry) → IsLegal a entries
    → IsLegalNext (after a (writes entries)) e.operation
    → (flight_of entries ≡ None) ⊎ IsKept e.operation → (e.pass ≢ worker → IsHelp e.operation)
    → IsLegal a (entries ++ e ∷ [])

-- the writes of joined histories are joined
abbrev pub WritesMore : Type 0
WritesMore = (entries more : List Entry) → writes (entries ++ more) ≡ writes entries ++ writes more

-- a Broke stays the one
abbrev pub FlightMore : Type 0
FlightMore = (entries more : List Entry)
    → flight_of (entries ++ more) ≡ option_or (flight_of entries) (flight_of more)

-- the array after the acknowledged writes is a cut, whatever was in flight
abbrev pub CutWhole : Type 0
CutWhole = (a : List Block) (ws flight : List Write) → IsCut a ws flight (after a ws)
