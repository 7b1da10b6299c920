-- Marks of segments that may have live blocks.
use Rattle.std.proofs.Common.{◌≡◌, ◌⊎◌, inl, inr, ⊎_elim, ◌<◌, ◌≤◌, ◌+◌, ℕ, Bool, true, false, not, ◌&&◌, List, refl, sym, ap, ◌∙◌, arith, eqb}
use Rattle.std.specs.Prelude.{Contains, IfSome, filter, slice_index_or}
use Rattle.std.specs.List.{AllByRecursion}
use Rattle.std.proofs.lemmas.Bool.{eqb-true, cases_lt}
use Rattle.wol_model.specs.Index.{Listed, Indexed, has_due, is_homed, is_live, listed_in}
use Rattle.wol_promise.proofs.Lists.{all_member, member_map}
use Rattle.wol_promise.proofs.Wholes.{member_unfilter}
use Rattle.redirect_map.specs.Index.{IsIndex, entry_at}
use Rattle.manager.specs.Reclaim.{NoneLiveIn, lies_elsewhere}
use Rattle.manager.proofs.Entries.{some_of}
use Rattle.log_cleaner.specs.Chunks.{NoneHomed}
use Rattle.log_cleaner.specs.Marks.{AreMarked, mark_of}
use Rattle.log_cleaner.proofs.Dropping.{entry_of_member, left_live, quiet_none}
use Rattle.log_cleaner.proofs.Lists.{each_is_member}
use Rattle.log_cleaner.proofs.Tidying.{clash, not_so}

abbrev is_marked : List Bool → Indexed → Bool
is_marked marks e = slice_index_or marks (mark_of e.listed.lane e.index) false

-- the same of the records of lesser versions
abbrev pub AreMarkedBelow : List Bool → (from : ℕ) → List Indexed → Type 0
AreMarkedBelow marks from es = AllByRecursion (λ e. e.listed.version < from → (b : ℕ) → is_live (listed_in es) e.listed b ≡ true → slice_index_or marks (mark_of e.listed.lane e.index) false ≡ true) es

pub below_marked : (marks : List Bool) (es : List Indexed) → AreMarkedBelow marks 0 es
below_marked marks es = each_is_member (λ (e : Indexed). e.listed.version < 0 → (b : ℕ) → is_live (listed_in es) e.listed b ≡ true → is_marked marks e ≡ true) es (λ e has lt. absurd (omega (arith, lt)))

module _ (marks : List Bool) (from : ℕ) (es : List Indexed) (unhomed : NoneHomed (listed_in es)) (ups : List Bool) (awake : AllByRecursion (λ (e : Indexed). slice_index_or ups e.listed.lane false ≡ true) es) (below : AreMarkedBelow marks from es) where
  not_home : (e : Indexed) → Contains es e → (b : ℕ) → is_homed e.listed b ≡ false
  not_home e has = all_member (λ (d : Listed). (b : ℕ) → is_homed d b ≡ false) (listed_in es) e.listed unhomed (member_map (λ (d : Indexed). d.listed) es e has)

  lane_awake : (e : Indexed) → Contains es e → slice_index_or ups e.listed.lane false ≡ true
  lane_awake e has = all_member (λ (d : Indexed). slice_index_or ups d.listed.lane false ≡ true) es e awake has

  -- nothing is due from here on
  pub marked_all : AllByRecursion (λ (e : Indexed). from ≤ e.listed.version → slice_index_or ups e.listed.lane false ≡ true → has_due (listed_in es) e.listed ≡ false) es → AreMarked marks es
  marked_all quiet = each_is_member (λ (e : Indexed). (b : ℕ) → is_live (listed_in es) e.listed b ≡ true → is_marked marks e ≡ true) es (λ e has b live. ⊎_elim
      (λ lt. all_member (λ (d : Indexed). d.listed.version < from → (b : ℕ) → is_live (listed_in es) d.listed b ≡ true → is_marked marks d ≡ true) es e below has lt b live)
      (λ ge. absurd (clash (is_live (listed_in es) e.listed b) live (quiet_none (listed_in es) e.listed (not_home e has)
      (all_member (λ (d : Indexed). from ≤ d.listed.version → slice_index_or ups d.listed.lane false ≡ true → has_due (listed_in es) d.listed ≡ false) es e quiet has ge (lane_awake e has)) b)))
      (cases_lt e.listed.version from))

  -- nothing is due between, and the segment of this version's record is marked now
  pub marked_more : IsIndex es → (version : ℕ) → AllByRecursion (λ (e : Indexed). from ≤ e.listed.version → e.listed.version < version → slice_index_or ups e.listed.lane false ≡ true → has_due (listed_in es) e.listed ≡ false) es
      → (now : List Bool) → ((k : ℕ) → slice_index_or marks k false ≡ true → slice_index_or now k false ≡ true) → IfSome (entry_at es version) (λ e. slice_index_or now (mark_of e.listed.lane e.index) false ≡ true) → AreMarkedBelow now (version + 1) es
  marked_more index version quiet now kept one = each_is_member (λ (e : Indexed). e.listed.version < version + 1 → (b : ℕ) → is_live (listed_in es) e.listed b ≡ true → is_marked now e ≡ true) es
      (λ e has lt b live. at e has b live (cases_lt e.listed.version from) (cases_lt e.listed.version version) lt)
    where
      at : (e : Indexed) → Contains es e → (b : ℕ) → is_live (listed_in es) e.listed b ≡ true → (e.listed.version < from) ⊎ (from ≤ e.listed.version) → (e.listed.version < version) ⊎ (version ≤ e.listed.version) → e.listed.version < version + 1 → is_marked now e ≡ true
      at e has b live (inl less) other lt = kept (mark_of e.listed.lane e.index) (all_member (λ (d : Indexed). d.listed.version < from → (b : ℕ) → is_live (listed_in es) d.listed b ≡ true → is_marked marks d ≡ true) es e below has less b live)
      at e has b live (inr ge) (inl less) lt = absurd (clash (is_live (listed_in es) e.listed b) live (quiet_none (listed_in es) e.listed (not_home e has)
          (all_member (λ (d : Indexed). from ≤ d.listed.version → d.listed.version < version → slice_index_or ups d.listed.lane false ≡ true → has_due (listed_in es) d.listed ≡ false) es e quiet has ge less (lane_awake e has)) b))
      at e has b live (inr ge) (inr more) lt =
          let same : e.listed.version ≡ version = omega (arith, lt, more) in
          some_of (λ (d : Indexed). is_marked now d ≡ true) (entry_at es version) e one (ap (entry_at es) (sym same) ∙ entry_of_member es index e has)

-- where all are marked each is
pub all_marked : (marks : List Bool) (es : List Indexed) → ((lane index : ℕ) → slice_index_or marks (mark_of lane index) false ≡ true) → AreMarked marks es
all_marked marks es each = each_is_member (λ (e : Indexed). (b : ℕ) → is_live (listed_in es) e.listed b ≡ true → is_marked marks e ≡ true) es (λ e has b live. each e.listed.lane e.index)

-- in a segment that isn't marked no record has a live block
pub unmarked_none : (marks : List Bool) (es : List Indexed) (lane index : ℕ) → AreMarked marks es → slice_index_or marks (mark_of lane index) false ≡ false → NoneLiveIn lane index es
unmarked_none marks es lane index marked not_ = each_is_member (λ (e : Indexed). lies_elsewhere lane index e ≡ false → (b : ℕ) → is_live (listed_in es) e.listed b ≡ false) es (λ e has here b.
    not_so (is_live (listed_in es) e.listed b) (λ live. clash (is_marked marks e)
    (all_member (λ (d : Indexed). (b : ℕ) → is_live (listed_in es) d.listed b ≡ true → is_marked marks d ≡ true) es e marked has b live)
    (let same = both (eqb e.listed.lane lane) (eqb e.index index) here in
    (λ i. slice_index_or marks (mark_of (eqb-true e.listed.lane lane same.0 i) (eqb-true e.index index same.1 i)) false) ∙ not_)))
  where
    both : (s t : Bool) → not (s && t) ≡ false → (s ≡ true) × (t ≡ true)
    both true true is = (refl, refl)
    both true false is = absurd (let wrong : true ≡ false = is in cc)
    both false t is = absurd (let wrong : true ≡ false = is in cc)

-- and once a segment without live blocks is gone the marks still fit
pub left_marked : (marks : List Bool) (es : List Indexed) (lane index : ℕ) → NoneLiveIn lane index es → AreMarked marks es → AreMarked marks (filter (lies_elsewhere lane index) es)
left_marked marks es lane index none marked = each_is_member (λ (e : Indexed). (b : ℕ) → is_live (listed_in (filter (lies_elsewhere lane index) es)) e.listed b ≡ true → is_marked marks e ≡ true) (filter (lies_elsewhere lane index) es) (λ e has b live.
    all_member (λ (d : Indexed). (b : ℕ) → is_live (listed_in es) d.listed b ≡ true → is_marked marks d ≡ true) es e marked (member_unfilter (lies_elsewhere lane index) es e has) b (left_live es lane index none e.listed b live))
