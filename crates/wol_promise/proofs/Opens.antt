-- A manager that was opened stands for its opening and no entries.
use Rattle.std.proofs.Common.{◌≡◌, ◌<◌, ℕ, zero, suc, Bool, true, false, ◌&&◌, ◌||◌, List, [], ◌∷◌, None, Some, refl, sym, ap, subst, ◌∙◌, leb, get_or, ◌-◌}
use Rattle.std.specs.Prelude.{is_some}
use Rattle.std.specs.List.{AllByRecursion}
use Rattle.std.proofs.lemmas.Bool.{false≢true}
use Rattle.std.proofs.lemmas.List.{append-nil}
use Rattle.std.proofs.lemmas.Option.{none-some}
use Rattle.wol_disk.specs.Disk.{Block}
use Rattle.wol_model.specs.Extents.{with_extents, covers_of, AreDistinct}
use Rattle.wol_model.specs.Holding.{Holds}
use Rattle.wol_model.specs.Index.{Listed, Indexed, listed_in}
use Rattle.wol_model.specs.Log.{IsLog}
use Rattle.wol_model.proofs.Steps.{opening_step, fewer_homed}
use Rattle.wol_promise.specs.Manager.{Parts, ManagerSeen, Base, IsIndexOf, IsSorted, extents_held, is_homed_in, look_of}
use Rattle.wol_promise.specs.Stands.{AreKnown, HasVersions, HasPlaces, IsOpening, IsOpened, IsPlaced, LiesInVolume, StandsFor}
use Rattle.wol_promise.proofs.Known.{all_below}
use Rattle.wol_promise.proofs.LogWrites.{low_extents}

none_marked : (marks : List Bool) → AllByRecursion (λ m. m ≡ false) marks → (i : ℕ) → get_or marks i false ≡ false
none_marked [] all i = refl
none_marked (m ∷ marks) all zero = all.0
none_marked (m ∷ marks) all (suc i) = none_marked marks all.1 i

none_homed : (base : Base) (indexed : List Indexed) → AllByRecursion (IsOpened base) (listed_in indexed) → (b : ℕ) → is_homed_in indexed b ≡ false
none_homed base [] all b = refl
none_homed base (e ∷ es) all b = λ i. at (leb e.listed.first b) i || none_homed base es all.1 b i
  where
    at : (t : Bool) → (t && get_or e.listed.homed (b - e.listed.first) false) ≡ false
    at true = none_marked e.listed.homed all.0.unhomed (b - e.listed.first)
    at false = refl

module _ {P : Type 0} (parts : Parts P) (base : Base) (m : ManagerSeen P) (began : IsOpening base) (look : base.look ≡ look_of m) (up : m.down ≡ None)
    (versioned : HasVersions base m.next [] None) (lie : AllByRecursion (LiesInVolume base.home_blocks) base.records) (known : parts.told → AreKnown base m.next [] [] m.held)
    (places : HasPlaces parts base m.home m.held m.ups) (unbroken : AllByRecursion (λ s. s.broken ≡ false) m.held) (untaken : m.taken ≡ []) (sorted : IsSorted m.indexed)
    (below : AllByRecursion (λ e. e.listed.version < m.next) m.indexed) (placed : AllByRecursion (IsPlaced parts m.held) m.indexed)
    (logs : parts.told → AllByRecursion (λ s. (bs : List Block) → parts.may_be s.part bs → IsLog bs base.owner s.records) m.held)
    (distinct : parts.told → AreDistinct (covers_of (extents_held m.held))) (index : parts.told → IsIndexOf m.indexed m.held)
    -- each image of home and the records recover to the array at opening
    (recovers : parts.told → (home : List Block) → parts.may_be m.home home → with_extents home (extents_held m.held) ≡ base.array) where
  opened : AllByRecursion (IsOpened base) (listed_in m.indexed)
  opened = subst (λ (l : List Listed). AllByRecursion (IsOpened base) l) (ap (λ l. l.listed) look) began.listed

  pub opens : StandsFor parts base m []
  opens = record {
    upholds = record {
      began = began;
      history = record { replies = λ told. tt; breaks = tt; helpers = tt; ruled = tt };
      lie = subst (AllByRecursion (LiesInVolume base.home_blocks)) (sym (append-nil base.records)) lie;
      versioned = versioned;
      known = known;
      places = places;
      is_down = ap is_some up;
      failed = λ name is. absurd (let no : None ≡ Some name = sym up ∙ is in cc);
      calm = λ none. record {
        unbroken = unbroken;
        untaken = untaken;
        sorted = sorted;
        below = below;
        placed = placed;
        whole = λ told. record {
          logs = logs told;
          distinct = distinct told;
          index = index told;
          holds = λ home is. fewer_homed base.array [] m.next home (extents_held m.held) (λ b. false) (is_homed_in m.indexed)
              (subst (λ (a : List Block). Holds a [] m.next home (extents_held m.held) (λ b. false)) (recovers told home is)
              (opening_step m.next home (extents_held m.held) (distinct told) (low_extents m.next m.held (all_below base m.next [] m.held versioned (known told)))))
              (λ b homed. absurd (let no : false ≡ true = sym (none_homed base m.indexed opened b) ∙ homed in cc));
        };
      };
      sound = λ told some. absurd (false≢true some);
      cut = λ told fl is. absurd (none-some fl is);
    };
    look = λ none. look;
  }
