-- Other parts at the same places, and what is calm with them.
use Rattle.std.proofs.Common.{◌≡◌, ℕ, Bool, List, map, length, ◌∙◌}
use Rattle.std.specs.List.{AllByRecursion}
use Rattle.wol_model.specs.Blocks.{Write}
use Rattle.wol_model.specs.Index.{Indexed}
use Rattle.wol_promise.specs.Manager.{Parts, Held, Base}
use Rattle.wol_promise.specs.Stands.{IsHeldBy, place_in, AreApartPlaces, HasPlaces, IsPlaced, IsWhole, IsCalm}

-- other flags, another home of the same size and volume, and other segments, each at its place
pub places_with : {P : Type 0} {parts other : Parts P} {base : Base} {home part : P} {held segments : List (Held P)} {ups flags : List Bool}
    → HasPlaces parts base home held ups → length flags ≡ length ups → other.size part ≡ parts.size home → other.volume part ≡ parts.volume home
    → AllByRecursion (IsHeldBy other base) segments → AreApartPlaces (map place_in segments) → HasPlaces other base part segments flags
places_with p count size volume each apart = record {
  flags = count ∙ p.flags;
  few = p.few;
  home_blocks = p.home_blocks;
  most = p.most;
  home_size = size ∙ p.home_size;
  home_volume = volume ∙ p.home_volume;
  each = each;
  apart = apart;
}

-- other parts, another home or other writes, with the same index
pub calm_with : {P : Type 0} {parts other : Parts P} {base : Base} {ws more : List Write} {next : ℕ} {home part : P} {held : List (Held P)} {indexed : List Indexed} {taken : List (ℕ × ℕ)}
    → IsCalm parts base ws next home held indexed taken → AllByRecursion (IsPlaced other held) indexed → (other.told → IsWhole other base more next part held indexed)
    → IsCalm other base more next part held indexed taken
calm_with c placed whole = record {
  unbroken = c.unbroken;
  untaken = c.untaken;
  sorted = c.sorted;
  below = c.below;
  placed = placed;
  whole = whole;
}
