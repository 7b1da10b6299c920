-- The records of a group whose blocks were marked as home so far.
use Rattle.std.proofs.Common.{◌≡◌, ◌<◌, ◌≤◌, ◌+◌, ◌*◌, ◌^◌, ℕ, zero, suc, Bool, true, false, cond, ◌||◌, List, [], ◌∷◌, ◌++◌, map, length, take, drop, Option, None, Some, refl, sym, ap, subst, ◌∙◌, arith, eqb, get_or}
use Rattle.std.specs.Prelude.{IsSome, slice_index_or}
use Rattle.std.specs.List.{AllByRecursion, count_by, list_any, range_with_len}
use Rattle.std.specs.Int.RustNames.{count_ones}
use Rattle.std.proofs.lemmas.List.{drop_more, take_more}
use Rattle.std.proofs.lemmas.Nat.{ones-le, zero_from_ones}
use Rattle.wol_disk.specs.Disk.{State}
use Rattle.wol_model.specs.Index.{Indexed, Listed, listed_in, is_due, homing, block_numbers, AreRising, left}
use Rattle.wol_model.specs.Log.{has_bit}
use Rattle.wol_promise.specs.Policy.{Look, IsReclaim, AreReclaims, drained, puts_home}
use Rattle.wol_promise.specs.Policy as policy
use Rattle.wol_promise.specs.Ruled.{Noted}
use Rattle.block_cells.specs.Masks.{in_mask}
use Rattle.redirect_map.specs.Index.{Contents, entry_at, changed, IsIndex}
use Rattle.garbage_list.proofs.Nexts.{spot_of_version}
use Rattle.manager.specs.Reclaim.{AreHome, KeepsOn, with_put}
use Rattle.manager.specs.Seen.{down_of, look_of_manager}
use Rattle.manager.specs.Stands.{Keeps, IsReady}
use Rattle.manager.specs.declared.base.ManagerBase.{ManagerBase}
use Rattle.manager.specs.declared.manager.Manager.{Manager}
use Rattle.manager.proofs.StoreHome.{bit_of}
use Rattle.reclaimer.specs.Counts.{TakesOff}
use Rattle.reclaimer.specs.Groups.{AllHome, IsToMark, marked}
use Rattle.reclaimer.specs.declared.group.Laid.{Laid}
use Rattle.reclaimer.proofs.Counted.{lowered_by_mask, ones_of_mask, put_takes}
use Rattle.reclaimer.proofs.Draining.{map_same}
use Rattle.reclaimer.proofs.Groups.{all_both, home_stays, later_differ, mark_stays, marked_more}
use Rattle.reclaimer.proofs.TakenOff.{nothing_taken, taken_adds_up}

pub reclaims_then : (l k m : Look) → AreReclaims l k → IsReclaim k m → AreReclaims l m
reclaims_then l k m (policy.none x) step = policy.more x m m step (policy.none m)
reclaims_then l k m (policy.more x j y first rest) step = policy.more x j m first (reclaims_then j y m rest step)

entry_of : (o : Option Indexed) → IsSome o → (e : Indexed) × (o ≡ Some e)
entry_of None is = absurd (let no : false ≡ true = is in cc)
entry_of (Some e) is = (e, refl)

-- a mask that isn't zero has a bit
some_ones : (mask : ℕ) → 0 < mask → 0 < count_ones mask
some_ones mask some = at (count_ones mask) (λ none. let e = zero_from_ones mask none in absurd (omega (arith, e, some)))
  where
    at : (n : ℕ) → (n ≡ 0 → ⊥) → 0 < n
    at zero other = absurd (other refl)
    at (suc n) other = omega arith

-- ---- One mark

module _ {D : Type 0} (m n : Manager D) (p : Laid) (rest : n ≡ record m { index = n.index }) (marked_ : n.index.entries ≡ changed p.version (with_put p.mask) m.index.entries) (index : IsIndex m.index.entries) (to : IsToMark m.index.entries p) (awake : m.home_up ≡ true) where
  entry : (e : Indexed) × (entry_at m.index.entries p.version ≡ Some e)
  entry = entry_of (entry_at m.index.entries p.version) to.there

  due : (i : ℕ) → has_bit p.mask i ≡ true → is_due (listed_in m.index.entries) entry.0.listed (entry.0.listed.first + i) ≡ true
  due = to.due entry.0 entry.1

  pub mark_reclaims : IsReclaim (look_of_manager m) (look_of_manager n)
  mark_reclaims =
      let spot = spot_of_version m.index.entries p.version entry.0 index.rising entry.1 in
      let listed = ap listed_in marked_ ∙ spot.then_is (with_put p.mask) in
      puts_home spot.place (in_mask entry.0.listed.first p.mask) entry.0.listed awake spot.there (bit_of entry.0.listed.first p.mask (λ b. is_due (listed_in m.index.entries) entry.0.listed b ≡ true) due)
      (ap look_of_manager rest ∙ (λ i. record { home_up = m.home_up; ups = m.ups.items; next = m.next; listed = listed i; down = down_of m.down }))

  ones : count_ones p.mask ≡ count_by (in_mask entry.0.listed.first p.mask) (block_numbers entry.0.listed)
  ones = ones_of_mask m.index.entries n.index.entries index p.version entry.0 entry.1 p.mask due marked_ to.fits

  pub mark_some : 0 < count_ones p.mask
  mark_some = some_ones p.mask to.some

  pub mark_few : count_ones p.mask ≤ 128
  mark_few = ones-le 128 p.mask to.fits

  pub mark_takes : TakesOff (count_ones p.mask) 0 (look_of_manager m) (look_of_manager n)
  mark_takes = put_takes m n index p.version entry.0 entry.1 p.mask due marked_ (count_ones p.mask) (sym ones)

  pub mark_lowers : left (listed_in n.index.entries) < left (listed_in m.index.entries)
  mark_lowers = lowered_by_mask m.index.entries n.index.entries index p.version entry.0 entry.1 p.mask due marked_ (let some = mark_some in omega (arith, ones, some))

-- ---- So far

-- each record is on its lane still
lanes_stay : (version mask : ℕ) (es : List Indexed) (k : ℕ) → list_any (λ (d : Listed). eqb d.lane k) (listed_in (changed version (with_put mask) es)) ≡ list_any (λ (d : Listed). eqb d.lane k) (listed_in es)
lanes_stay version mask [] k = refl
lanes_stay version mask (e ∷ es) k = λ i. at (eqb e.listed.version version) i || lanes_stay version mask es k i
  where
    at : (t : Bool) → eqb (cond t (with_put mask e) e).listed.lane k ≡ eqb e.listed.lane k
    at true = refl
    at false = refl

-- the mark at a place
abbrev pub laid_at : List Laid → ℕ → Laid
laid_at group i = get_or group i (record { version = 0; mask = 0 })

pub record MarkedSoFar {D : Type 0} (tells : Bool) (state : D → State) (old m : Manager D) (group : List Laid) (i blocks : ℕ) : Type 0 where
  pub ready : IsReady state m
  pub up : m.down ≡ None
  pub awake : m.home_up ≡ true
  pub rest : m ≡ record old { index = m.index }
  pub marks_made : m.index.entries ≡ marked (take i group) old.index.entries
  pub some : i ≤ blocks
  pub few : blocks ≤ 128 * i
  pub taken : TakesOff blocks 0 (look_of_manager old) (look_of_manager m)
  pub look : AreReclaims (look_of_manager old) (look_of_manager m)
  pub lanes : (k : ℕ) → list_any (λ (d : Listed). eqb d.lane k) (listed_in m.index.entries) ≡ list_any (λ (d : Listed). eqb d.lane k) (listed_in old.index.entries)
  pub fewer : left (listed_in m.index.entries) + i ≤ left (listed_in old.index.entries)
  pub marks : AllByRecursion (IsToMark m.index.entries) (drop i group)
  pub keeps : (b : ManagerBase) (notes : List Noted) → AllHome tells state old group b notes → Keeps tells state old b notes → Keeps tells state m b notes × AllHome tells state m (drop i group) b notes

module _ {D : Type 0} (tells : Bool) (state : D → State) (old : Manager D) (group : List Laid) where
  pub none_marked : IsReady state old → old.down ≡ None → old.home_up ≡ true → AllByRecursion (IsToMark old.index.entries) group → MarkedSoFar tells state old old group 0 0
  none_marked ready up awake marks = record {
    ready = ready;
    up = up;
    awake = awake;
    rest = refl;
    marks_made = refl;
    some = omega arith;
    few = omega arith;
    taken = nothing_taken (look_of_manager old) (look_of_manager old) refl;
    look = policy.none (look_of_manager old);
    lanes = λ k. refl;
    fewer = omega arith;
    marks = marks;
    keeps = λ b notes home k. (k, home);
  }

  module _ (m : Manager D) (i blocks : ℕ) (so : MarkedSoFar tells state old m group i blocks) (lt : i < length group) (rising : AreRising (map (λ (q : Laid). q.version) group)) where
    abbrev p : Laid
    p = laid_at group i

    here : drop i group ≡ p ∷ drop (i + 1) group
    here = drop_more group i (record { version = 0; mask = 0 }) lt

    pub to_mark : IsToMark m.index.entries p
    to_mark = (subst (AllByRecursion (IsToMark m.index.entries)) here so.marks).0

    module _ (n : Manager D) (rest : n ≡ record m { index = n.index }) (marked_ : n.index.entries ≡ changed p.version (with_put p.mask) m.index.entries) (index : IsIndex m.index.entries)
        (ready : IsReady state n) (keeps : KeepsOn tells state m n (AreHome tells state m p.version p.mask)) where
      pub marked_on : MarkedSoFar tells state old n group (i + 1) (blocks + count_ones p.mask)
      marked_on =
          let some_ = mark_some m n p rest marked_ index to_mark so.awake in
          let few_ = mark_few m n p rest marked_ index to_mark so.awake in
          let differ = later_differ i group p rising here in record {
            ready = ready;
            up = ap (λ (k : Manager D). k.down) rest ∙ so.up;
            awake = ap (λ (k : Manager D). k.home_up) rest ∙ so.awake;
            rest = rest ∙ (λ j. record (so.rest j) { index = n.index });
            marks_made = marked_ ∙ ap (changed p.version (with_put p.mask)) so.marks_made ∙ sym (marked_more (take i group) p old.index.entries) ∙ ap (λ (ps : List Laid). marked ps old.index.entries) (sym (take_more group i (record { version = 0; mask = 0 }) lt));
            some = omega (arith, some_, so.some);
            few = omega (arith, few_, so.few);
            taken = taken_adds_up blocks (count_ones p.mask) 0 0 (look_of_manager old) (look_of_manager m) (look_of_manager n) so.taken (mark_takes m n p rest marked_ index to_mark so.awake);
            look = reclaims_then (look_of_manager old) (look_of_manager m) (look_of_manager n) so.look (mark_reclaims m n p rest marked_ index to_mark so.awake);
            lanes = λ k. ap (λ (es : List Indexed). list_any (λ (d : Listed). eqb d.lane k) (listed_in es)) marked_ ∙ lanes_stay p.version p.mask m.index.entries k ∙ so.lanes k;
            fewer = (let less = mark_lowers m n p rest marked_ index to_mark so.awake in omega (arith, less, so.fewer));
            marks = all_both (λ (q : Laid). q.version ≡ p.version → ⊥) (IsToMark m.index.entries) (IsToMark n.index.entries) (drop (i + 1) group)
                (λ q other to. subst (λ (es : List Indexed). IsToMark es q) (sym marked_) (mark_stays p.version p.mask m.index.entries q other to)) differ (subst (AllByRecursion (IsToMark m.index.entries)) here so.marks).1;
            keeps = λ b notes home k.
                let both = so.keeps b notes home k in
                let split = subst (λ (ps : List Laid). AllHome tells state m ps b notes) here both.1 in (
                  keeps b notes split.0 both.0,
                  all_both (λ (q : Laid). q.version ≡ p.version → ⊥) (λ (q : Laid). AreHome tells state m q.version q.mask b notes) (λ (q : Laid). AreHome tells state n q.version q.mask b notes) (drop (i + 1) group)
                      (λ q other are. home_stays p.version p.mask tells state m n b notes q.version q.mask (ap (λ (k : Manager D). k.home) rest) marked_ other are) differ split.1,
                );
          }

-- so the look of which all is drained is the same
pub marked_drains : {D : Type 0} (old m : Manager D) → m ≡ record old { index = m.index } → ((k : ℕ) → list_any (λ (d : Listed). eqb d.lane k) (listed_in m.index.entries) ≡ list_any (λ (d : Listed). eqb d.lane k) (listed_in old.index.entries))
    → drained (look_of_manager m) ≡ drained (look_of_manager old)
marked_drains {D} old m rest lanes = ap (λ (k : Manager D). drained (look_of_manager k)) rest
    ∙ (λ i. record {
      home_up = true;
      ups = map_same (λ k. slice_index_or old.ups.items k false || list_any (λ (d : Listed). eqb d.lane k) (listed_in m.index.entries)) (λ k. slice_index_or old.ups.items k false || list_any (λ (d : Listed). eqb d.lane k) (listed_in old.index.entries)) (range_with_len 0 (length old.ups.items))
          (λ k j. slice_index_or old.ups.items k false || lanes k j) i;
      next = old.next;
      listed = [];
      down = down_of old.down;
    })

-- all of them
pub all_taken : {X : Type 0} (xs : List X) → take (length xs) xs ≡ xs
all_taken [] = refl
all_taken (x ∷ xs) = λ i. x ∷ all_taken xs i
