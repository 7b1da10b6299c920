-- What is printed of a run that was done: its reads, what it formatted, what it counted, and what
-- its disks used.
use Rattle.std.specs.Prelude.{ℕ, ◌++◌, List, [], ◌∷◌, codes, decimal, sum_by, Option, None, Some}
use Rattle.std.specs.List.{flat_map, zip}
use Rattle.energy.specs.Journal.{millijoules}
use Rattle.energy.specs.declared.Amounts.{Amounts}
use Rattle.report.specs.declared.totals.Totals.{Totals}
use Rattle.report.specs.Words.{line_of}

-- the line of a read: its line in the trace, its volume where that is named, its first block, the
-- number of its blocks, and the mark of what it read
unfoldable pub read_text : (name : Option (List ℕ)) → (line first count mark : ℕ) → List ℕ
read_text None line first count mark =
    line_of (codes "read" ∷ decimal line ∷ decimal first ∷ decimal count ∷ decimal mark ∷ [])
read_text (Some name) line first count mark =
    line_of (codes "read" ∷ decimal line ∷ name ∷ decimal first ∷ decimal count ∷ decimal mark ∷ [])

-- the line of a formatted volume: the number of blocks of its image
unfoldable pub format_text : (name : List ℕ) → (blocks : ℕ) → List ℕ
format_text name blocks = line_of (codes "format" ∷ name ∷ codes "blocks" ∷ decimal blocks ∷ [])

-- the last line of `solo`
unfoldable pub solo_text : Totals → List ℕ
solo_text t =
    line_of (codes "solo lines" ∷ decimal t.lines ∷ codes "blank" ∷ decimal t.blank
    ∷ codes "skipped" ∷ decimal t.skipped
    ∷ codes "reads" ∷ decimal t.reads ∷ codes "writes" ∷ decimal t.writes ∷ [])

-- the lines that were read, and the requests that were answered
unfoldable pub requests_text : Totals → List ℕ
requests_text t =
    line_of (codes "lines" ∷ decimal t.lines ∷ codes "blank" ∷ decimal t.blank ∷ codes "skipped"
    ∷ decimal t.skipped ∷ [])
    ++ line_of (codes "reads" ∷ decimal t.reads ∷ codes "writes" ∷ decimal t.writes ∷ [])

-- where writes went, what was reclaimed, and the time from the first line to the last
unfoldable pub places_text : Totals → List ℕ
places_text t =
    line_of (codes "placed home" ∷ decimal t.home ∷ codes "log" ∷ decimal t.log ∷ codes "drains"
    ∷ decimal t.drains ∷ [])
    ++ line_of (codes "reclaimed blocks" ∷ decimal t.blocks ∷ codes "records" ∷ decimal t.records
    ∷ [])
    ++ line_of (codes "span" ∷ decimal t.span ∷ [])

-- what the disk of one volume used
unfoldable pub volume_text : (name : List ℕ) → Amounts → List ℕ
volume_text name a =
    line_of (codes "volume" ∷ name ∷ codes "wakes" ∷ decimal a.wakes ∷ codes "sleeps"
    ∷ decimal a.sleeps ∷ codes "awake" ∷ decimal a.awake
    ∷ codes "standby" ∷ decimal a.standby ∷ codes "energy" ∷ decimal (millijoules a.units) ∷ [])

-- what the disks of the volumes used, a line for each volume in order
abbrev pub volumes_text : (names : List (List ℕ)) → List Amounts → List ℕ
volumes_text names amounts = flat_map (λ p. volume_text p.0 p.1) (zip names amounts)

abbrev pub wakes_of : List Amounts → ℕ
wakes_of amounts = sum_by (λ (a : Amounts). a.wakes) amounts

abbrev pub sleeps_of : List Amounts → ℕ
sleeps_of amounts = sum_by (λ (a : Amounts). a.sleeps) amounts

abbrev pub units_of : List Amounts → ℕ
units_of amounts = sum_by (λ (a : Amounts). a.units) amounts

-- what all disks used; the energy is rounded once, from the sum of the units
unfoldable pub total_text : List Amounts → List ℕ
total_text amounts =
    line_of (codes "total wakes" ∷ decimal (wakes_of amounts) ∷ codes "sleeps"
    ∷ decimal (sleeps_of amounts) ∷ codes "energy" ∷ decimal (millijoules (units_of amounts))
    ∷ [])

-- the summary of a run over volumes of these names
unfoldable pub summary_text : Totals → (names : List (List ℕ)) → List Amounts → List ℕ
summary_text t names amounts =
    requests_text t ++ places_text t ++ volumes_text names amounts ++ total_text amounts
