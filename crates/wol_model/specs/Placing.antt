-- Where a write is placed.
use Rattle.std.specs.Prelude.{ℕ, Bool, not, ◌&&◌, List, Option, None, Some, if◌then◌else◌, position}
use Rattle.std.specs.List.{zip}

-- home, the log on the logger at a place of the view, or nowhere
pub data Place : Type 0 where
  Home : Place
  Log : (lane : ℕ) → Place
  Full : Place

-- the log at this place of the view, or another place where there is none
abbrev pub log_or : Option ℕ → Place → Place
log_or None other = other
log_or (Some lane) other = Log lane

-- home where it is awake and no block is covered; else the first awake logger with room;
-- else home, woken, where no block is covered; else the first other logger with room, woken
abbrev pub place : (home_up covered : Bool) → (ups rooms : List Bool) → Place
place home_up covered ups rooms =
    if home_up && not covered then Home
    else log_or (position (λ l. l.0 && l.1) (zip ups rooms))
    (if covered then log_or (position (λ l. not l.0 && l.1) (zip ups rooms)) Full else Home)
