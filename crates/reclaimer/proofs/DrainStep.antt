-- A step of a drain with home awake, by its answers.
use Rattle.std.proofs.Common.{◌≡◌, ◌≤◌, Bool, true, false, ◌&&◌, List, length, Option, None, Some, refl, sym, ap, subst, ◌∙◌}
use mir.Val.{bool_byte}
use Rattle.std.specs.Prelude.{find, is_some, slice_index_or, if◌then◌else◌}
use Rattle.std.specs.List.{AllByRecursion}
use Rattle.std.proofs.lemmas.Option.{same_Some}
use Rattle.wol_disk.specs.Disk.{State}
use Rattle.wol_model.specs.Index.{Listed, Indexed}
use Rattle.wol_promise.proofs.Lists.{all_map}
use Rattle.block_cells.specs.declared.record.Rec.{Rec}
use Rattle.redirect_map.specs.Index.{Contents, entry_at, HasVersion, IsAnswer, IsIndex}
use Rattle.garbage_list.specs.Least.{HasLane}
use Rattle.manager.specs.Stands.{IsReady}
use Rattle.manager.specs.declared.manager.Manager.{Manager}
use Rattle.reclaimer.proofs.Draining.{all_awake, find_same}
use Rattle.garbage_list.proofs.Nexts.{First, first_of_all, answered}
use Rattle.reclaimer.proofs.Reach.{within_reach}

-- ---- the first record, whatever sleeps

-- where all lanes count as awake
pub awake_same : (flags : List Bool) (P : Listed → Bool) (es : List Indexed) → AllByRecursion (λ t. t ≡ true) flags → AllByRecursion (HasLane flags) es
    → find (λ (e : Indexed). slice_index_or flags e.listed.lane false && P e.listed) es ≡ find (λ (e : Indexed). P e.listed) es
awake_same flags P es all lanes = find_same (λ (e : Indexed). slice_index_or flags e.listed.lane false && P e.listed) (λ (e : Indexed). P e.listed) es
    (all_map (HasLane flags) (λ (e : Indexed). (slice_index_or flags e.listed.lane false && P e.listed) ≡ P e.listed) (λ e lt i. all_awake flags e.listed.lane all lt i && P e.listed) es lanes)

-- an answer over all lanes
pub awake_answer : {D : Type 0} (state : D → State) (m : Manager D) → IsReady state m → m.down ≡ None → (flags : List Bool) → AllByRecursion (λ t. t ≡ true) flags → length m.lanes.items ≤ length flags → (P : List Indexed → Listed → Bool) (index : Contents) → index ≡ m.index → (o : Option Rec)
    → IsAnswer (find (λ (e : Indexed). slice_index_or flags e.listed.lane false && P index.entries e.listed) index.entries) o → IsAnswer (find (λ (e : Indexed). P m.index.entries e.listed) m.index.entries) o
awake_answer state m ready up flags all few P index same o answer =
    subst (λ (q : Option Indexed). IsAnswer q o) (awake_same flags (P m.index.entries) m.index.entries all (within_reach state m ready up m.index refl flags few))
    (subst (λ (i : Contents). IsAnswer (find (λ (e : Indexed). slice_index_or flags e.listed.lane false && P i.entries e.listed) i.entries) o) same answer)

-- one or none
pub byte_is : (t : Bool) → bool_byte t ≡ (if t then 1 else 0)
byte_is true = refl
byte_is false = refl

pub record FirstAwake (P : Listed → Bool) (es : List Indexed) (r : Rec) : Type 0 where
  pub entry : Indexed
  pub next : find (λ (e : Indexed). P e.listed) es ≡ Some entry
  pub version : r.version ≡ entry.listed.version
  pub is : entry_at es r.version ≡ Some entry
  pub first : First P es entry

pub first_awake : (P : Listed → Bool) (es : List Indexed) (r : Rec) → IsIndex es → IsAnswer (find (λ (e : Indexed). P e.listed) es) (Some r) → FirstAwake P es r
first_awake P es r index is =
    let a = answered (find (λ (e : Indexed). P e.listed) es) r is in
    let f = first_of_all P es a.entry index.rising a.is in
    record { entry = a.entry; next = a.is; version = a.record_.version; is = ap (entry_at es) a.record_.version ∙ f.entry; first = f }

pub first_there : (P : Listed → Bool) (es : List Indexed) (r : Rec) → FirstAwake P es r → HasVersion es r.version
first_there P es r f = subst (λ (o : Option Indexed). is_some o ≡ true) (sym f.is) refl

pub first_passes : (P : Listed → Bool) (es : List Indexed) (r : Rec) → FirstAwake P es r → (e : Indexed) → entry_at es r.version ≡ Some e → P e.listed ≡ true
first_passes P es r f e is = ap (λ (x : Indexed). P x.listed) (same_Some e f.entry (sym is ∙ f.is)) ∙ f.first.passes
