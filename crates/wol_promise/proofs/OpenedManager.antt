-- A manager that was opened with one record, of which it keeps a part, stands for its opening: so what it upholds can be met.
use Rattle.std.proofs.Common.{◌≡◌, inl, ℕ, zero, suc, Bool, true, false, List, [], ◌∷◌, length, None, Some, refl, sym, subst, ◌∙◌, arith, leb, get_or, ◌&&◌, ◌||◌, ◌-◌}
use Rattle.std.specs.Prelude.{slice_get}
use Rattle.std.proofs.lemmas.Bool.{false≢true}
use Rattle.std.proofs.lemmas.Option.{same_Some, none-some}
use Rattle.wol_disk.specs.Disk.{Block}
use Rattle.wol_model.specs.Blocks.{after}
use Rattle.wol_model.specs.Extents.{newest_block, with_extents}
use Rattle.wol_model.specs.Heads.{RecordHead, IsRecordHead, head_block, owned_block, gate_block}
use Rattle.wol_model.specs.Index.{Listed, Indexed, is_homed}
use Rattle.wol_model.specs.Log.{Record, IsLog, extent_of}
use Rattle.wol_model.specs.Holding.{Holds}
use Rattle.wol_model.proofs.Cells.{cells}
use Rattle.wol_promise.specs.Manager.{Parts, Held, ManagerSeen, Base, IsFound, is_homed_in, SaysOwnerOrFree}
use Rattle.wol_promise.specs.Stands.{StandsFor}

pub record Part : Type 0 where
  blocks : List Block
  volume : ℕ

-- each part has one image, and no faults
parts : Parts Part
parts = record { told = Unit {0}; may_be = λ p bs. bs ≡ p.blocks; size = λ p. length p.blocks; volume = λ p. p.volume; faults = λ p. 0 }

abbrev pub head : RecordHead
head = record { form = 2; owner = 0; version = 1; first = 1; count = 2; mask = 2 }

-- a record of blocks 1 and 2 that keeps block 2 alone
abbrev pub kept_in_part : Record
kept_in_part = record { head = head; blocks = cells (11 ∷ 12 ∷ []) }

abbrev home : Part
home = record { blocks = cells (0 ∷ 1 ∷ 2 ∷ 3 ∷ []); volume = 0 }

abbrev pub segment : Part
segment = record { blocks = owned_block 0 ∷ head_block head ∷ (11 ∷ []) ∷ (12 ∷ []) ∷ gate_block ∷ []; volume = 1 }

abbrev pub held : Held Part
held = record { part = segment; lane = 0; index = 3; broken = false; records = kept_in_part ∷ [] }

abbrev pub listed : Listed
listed = record { version = 1; first = 1; keep = false ∷ true ∷ []; lane = 0; homed = false ∷ false ∷ [] }

abbrev pub entry : Indexed
entry = record { listed = listed; index = 3; pos = 1 }

abbrev manager : ManagerSeen Part
manager = record { home = home; held = held ∷ []; taken = []; indexed = entry ∷ []; next = 2; home_up = true; ups = true ∷ []; down = None }

abbrev pub base : Base
base = record {
  array = cells (0 ∷ 1 ∷ 12 ∷ 3 ∷ []);
  records = record { first = 1; blocks = cells (11 ∷ 12 ∷ []); version = Some 1 } ∷ [];
  next = 2;
  owner = 0;
  home_blocks = 4;
  most = 3;
  view = 1 ∷ [];
  look = record { home_up = true; ups = true ∷ []; next = 2; listed = listed ∷ []; down = None };
}

is_head : IsRecordHead head
is_head = record { owner = omega arith; version = (omega arith, omega arith); count = (omega arith, omega arith); range = omega arith; kept = omega arith; form = inl refl }

is_log : IsLog segment.blocks 0 (kept_in_part ∷ [])
is_log = record { known = omega arith; rest = gate_block ∷ []; joined = refl; named = (record { in_range = is_head; owned = refl; counted = refl }, tt); ends = refl }

found : (k : ℕ) (r : Record) → slice_get (kept_in_part ∷ []) k ≡ Some r → IsFound (entry ∷ []) held k r
found zero r is = subst (λ (q : Record). IsFound (entry ∷ []) held 0 q) (same_Some kept_in_part r is) (record { entry = entry; listed = (0, omega arith, refl); is_its = record { version = refl; first = refl; keep = refl; lane = refl; index = refl; pos = refl } })
found (suc k) r is = absurd (none-some r is)

stands_for_array : with_extents home.blocks (extent_of kept_in_part ∷ []) ≡ after base.array []
unfolding with_extents newest_block after
stands_for_array = refl

none_homed : (b : ℕ) → is_homed_in (entry ∷ []) b ≡ false
none_homed b = at (leb 1 b) (b - 1)
  where
    at : (t : Bool) (i : ℕ) → ((t && get_or (false ∷ false ∷ []) i false) || false) ≡ false
    at true zero = refl
    at true (suc zero) = refl
    at true (suc (suc i)) = refl
    at false i = refl

stands : StandsFor parts base manager []
unfolding parts
stands = record {
  upholds = record {
    began = record { home_up = refl; ups = (refl, tt); up = refl; lanes = refl; next = refl; rising = (tt, tt); listed = (record { write = record { first = 1; blocks = cells (11 ∷ 12 ∷ []); version = Some 1 }; known = (0, omega arith, refl); version = refl; first = refl; count = refl; lane = omega arith; marked = refl; unhomed = (refl, (refl, tt)) }, tt); sized = refl };
    history = record { replies = λ told. tt; breaks = tt; helpers = tt; ruled = tt };
    lie = (omega arith, tt);
    versioned = record { apart = (tt, tt); below = (omega arith, tt); in_order = λ none. (refl, refl); least = omega arith; most = omega arith };
    known = λ told. record { written = (((λ valid. (record { first = 1; blocks = cells (11 ∷ 12 ∷ []); version = Some 1 }, (0, omega arith, refl), record { version = refl; first = refl; blocks = refl })), tt), tt); below = (((λ invalid. omega arith), tt), tt); within = ((omega arith, tt), tt) };
    places = record { flags = refl; few = omega arith; home_blocks = (omega arith, omega arith); most = (omega arith, omega arith); home_size = refl; home_volume = refl; each = (record { logger = refl; room = omega arith; owned = λ bs is. subst (SaysOwnerOrFree 0) (sym is) (inl refl) }, tt); apart = (tt, tt) };
    is_down = refl;
    failed = λ name is. absurd (none-some name is);
    calm = λ none. record {
      unbroken = (refl, tt);
      untaken = refl;
      sorted = record { rising = (tt, tt); listed = (record { marks = refl; homed_are_live = λ b homed. absurd (no b homed) }, tt) };
      below = (omega arith, tt);
      placed = (record { segment = held; is_held = (0, omega arith, refl); lane = refl; index = refl; behind = omega arith; within = omega arith }, tt);
      whole = λ told. record {
        logs = ((λ bs is. subst (λ (l : List Block). IsLog l 0 (kept_in_part ∷ [])) (sym is) is_log), tt);
        distinct = (tt, tt);
        index = record { each = ((λ k r is valid. found k r is), tt); only = (record { segment = held; is_held = (0, omega arith, refl); k = 0; record_ = kept_in_part; is_there = refl; valid = (2, refl); is_its = record { version = refl; first = refl; keep = refl; lane = refl; index = refl; pos = refl } }, tt) };
        holds = λ image is. subst (λ (h : List Block). Holds base.array [] 2 h (extent_of kept_in_part ∷ []) (is_homed_in (entry ∷ []))) (sym is)
            (record { stands = stands_for_array; is_home = λ b x y homed. absurd (let no : false ≡ true = sym (none_homed b) ∙ homed in cc); distinct = (tt, tt); below = (omega arith, tt) });
      };
    };
    sound = λ told some. absurd (false≢true some);
    cut = λ told fl is. absurd (none-some fl is);
  };
  look = λ none. refl;
}
  where
    no : (b : ℕ) → is_homed listed b ≡ true → ⊥
    no b homed = at (leb 1 b) (b - 1) homed
      where
        at : (t : Bool) (i : ℕ) → (t && get_or (false ∷ false ∷ []) i false) ≡ true → ⊥
        at true zero is = cc
        at true (suc zero) is = cc
        at true (suc (suc i)) is = cc
        at false i is = cc
