-- In a window a volume counts no disk as awake that is in standby, so none comes up for what it reclaims.
use Rattle.std.proofs.Common.{◌≡◌, ◌+◌, ◌⊎◌, inl, inr, ⊎_elim, ℕ, zero, suc, Bool, true, false, cond, not, ◌&&◌, ◌||◌, List, [], ◌∷◌, ◌++◌, map, length, get_or, Option, None, Some, refl, sym, ap, subst, ◌∙◌, arith, eqb}
use Rattle.std.specs.Prelude.{position, slice_get, slice_set, slice_index_or, is_some}
use Rattle.std.specs.List.{AllByRecursion, list_any, range_with_len}
use Rattle.std.specs.Option.{option_map, option_map_or}
use Rattle.std.proofs.lemmas.Bool.{false≢true, eq-eqb, eqb-true, and_parts}
use Rattle.std.proofs.lemmas.Option.{none-some, same_Some}
use Rattle.std.proofs.lemmas.List.Quantifiers.{position-Some}
use Rattle.wol_model.specs.declared.trace.Kind.{Kind}
use Rattle.wol_model.specs.declared.trace.Kind.TheVariants as kind
use Rattle.wol_model.specs.Extents.{newest}
use Rattle.wol_model.specs.Index.{Listed, cover_of, has_due, has_going, is_covered, left}
use Rattle.wol_model.specs.Journal.{SpindleState}
use Rattle.wol_model.specs.Placing.{Place, Home, Log, Full}
use Rattle.wol_promise.specs.Policy.{Look, has_newest_on, is_within_reach, place_of, placed, woken}
use Rattle.wol_promise.proofs.Woken.{covered_is}
use Rattle.whatif.specs.Laws.{ups_of}
use Rattle.whatif.specs.Logs.{all_moved}
use Rattle.whatif.specs.Machine as machine
use Rattle.whatif.specs.Machine.{Action, Machine, Reach, Turn, all_accessed, answering, disk_of, followed, give_step, give_up, is_up, logger_at, next_due, next_to_go, put_home, put_step, reading, reclaiming, repeated, seeing, source_of, step_at, still, tidying, turned, turned_at, write_of, writing}
use Rattle.whatif.proofs.Lists.{all_set}
use Rattle.whatif.proofs.Staying.{AreUp, all_stay, all_used, is_down, none_rises}

-- the disks that a volume counts as awake aren't in standby
pub record Shown (ss : List SpindleState) (r : Reach) (l : Look) : Type 0 where
  pub home : l.home_up ≡ true → is_down ss r.own ≡ false
  pub loggers : (k : ℕ) → slice_index_or l.ups k false ≡ true → is_down ss (logger_at r k) ≡ false

pub shown_later : (t : ℕ) (us : List ℕ) (ss : List SpindleState) (r : Reach) (l : Look) → Shown ss r l → Shown (all_accessed t us ss) r l
shown_later t us ss r l shown = record {
  home = λ up. all_stay t us ss r.own (shown.home up);
  loggers = λ k up. all_stay t us ss (logger_at r k) (shown.loggers k up);
}

-- ---- what a volume sees

up_not_down : (ss : List SpindleState) (d : ℕ) → is_up ss d ≡ true → is_down ss d ≡ false
up_not_down ss d up = at (slice_get ss d) up
  where
    at : (o : Option SpindleState) → option_map_or (λ (s : SpindleState). s.awake) o false ≡ true → option_map_or (λ (s : SpindleState). not s.awake) o false ≡ false
    at None up = absurd (false≢true up)
    at (Some s) up = ap not up

seen_up : (ss : List SpindleState) (loggers : List ℕ) (k own : ℕ) → slice_index_or (map (is_up ss) loggers) k false ≡ true → is_down ss (slice_index_or loggers k own) ≡ false
seen_up ss [] k own up = absurd (false≢true up)
seen_up ss (d ∷ loggers) zero own up = up_not_down ss d up
seen_up ss (d ∷ loggers) (suc k) own up = seen_up ss loggers k own up

pub seeing_shown : (ss : List SpindleState) (v : machine.Volume) → Shown ss v.reach (seeing ss v).look
seeing_shown ss v = record { home = λ up. up_not_down ss v.reach.own up; loggers = λ k up. seen_up ss v.reach.loggers k v.reach.own up }

-- ---- reads

either_of : (a b : Bool) → (a || b) ≡ true → (a ≡ true) ⊎ (b ≡ true)
either_of true b is = inl refl
either_of false b is = inr is

true_or : (b c : Bool) → b ≡ true → (b || c) ≡ true
true_or b c is = ap (λ (x : Bool). x || c) is

or_true : (b c : Bool) → c ≡ true → (b || c) ≡ true
or_true true c is = refl
or_true false c is = is

same_eqb : (n : ℕ) → eqb n n ≡ true
same_eqb n = eq-eqb n n refl

-- one of these disks is the one that each such block has
any_mapped : (p : ℕ → Bool) (f : ℕ → ℕ) (d : ℕ) → ((b : ℕ) → p b ≡ true → f b ≡ d) → (bs : List ℕ) → list_any p bs ≡ true → list_any (λ u. eqb u d) (map f bs) ≡ true
any_mapped p f d has [] some = absurd (false≢true some)
any_mapped p f d has (b ∷ bs) some = ⊎_elim
    (λ here. true_or (eqb (f b) d) (list_any (λ u. eqb u d) (map f bs)) ((λ i. eqb (has b here i) d) ∙ same_eqb d))
    (λ there. or_true (eqb (f b) d) (list_any (λ u. eqb u d) (map f bs)) (any_mapped p f d has bs there))
    (either_of (p b) (list_any p bs) some)

bare_source : (r : Reach) (es : List Listed) (b : ℕ) → not (is_covered es b) ≡ true → source_of r es b ≡ r.own
bare_source r es b bare = at (newest cover_of es b) (sym (ap not (covered_is es b)) ∙ bare)
  where
    at : (o : Option Listed) → not (is_some o) ≡ true → option_map_or (λ (e : Listed). logger_at r e.lane) o r.own ≡ r.own
    at None bare = refl
    at (Some e) bare = absurd (false≢true bare)

lane_source : (r : Reach) (es : List Listed) (k b : ℕ) → has_newest_on es k b ≡ true → source_of r es b ≡ logger_at r k
lane_source r es k b on = at (newest cover_of es b) on
  where
    at : (o : Option Listed) → option_map_or (λ (e : Listed). eqb e.lane k) o false ≡ true → option_map_or (λ (e : Listed). logger_at r e.lane) o r.own ≡ logger_at r k
    at None on = absurd (false≢true on)
    at (Some e) on = ap (logger_at r) (eqb-true e.lane k on)

in_range : (f : ℕ → Bool) (a n k : ℕ) → slice_index_or (map f (range_with_len a n)) k false ≡ true → f (a + k) ≡ true
in_range f a zero k up = absurd (false≢true up)
in_range f a (suc n) zero up = let e : a + 0 ≡ a = omega arith in rw e up
in_range f a (suc n) (suc k) up = let e : a + suc k ≡ a + 1 + k = omega arith in rw e (in_range f (a + 1) n k up)

read_shown : (t first count : ℕ) (ss : List SpindleState) (r : Reach) (l : Look) → Shown ss r l → Shown (all_accessed t (reading first count r l).uses ss) r (woken l first count)
read_shown t first count ss r l shown = record {
  home = λ up. ⊎_elim (λ was. all_stay t uses ss r.own (shown.home was))
      (λ bare. all_used t uses ss r.own (any_mapped (λ b. not (is_covered l.listed b)) (source_of r l.listed) r.own (bare_source r l.listed) (range_with_len first count) bare))
      (either_of l.home_up (list_any (λ b. not (is_covered l.listed b)) (range_with_len first count)) up);
  loggers = λ k up. ⊎_elim (λ was. all_stay t uses ss (logger_at r k) (shown.loggers k was))
      (λ on. all_used t uses ss (logger_at r k) (any_mapped (has_newest_on l.listed k) (source_of r l.listed) (logger_at r k) (lane_source r l.listed k) (range_with_len first count) on))
      (either_of (slice_index_or l.ups k false) (list_any (has_newest_on l.listed k) (range_with_len first count)) (flag k up));
}
  where
    uses : List ℕ
    uses = (reading first count r l).uses

    f : ℕ → Bool
    f k = slice_index_or l.ups k false || list_any (has_newest_on l.listed k) (range_with_len first count)

    flag : (k : ℕ) → slice_index_or (map f (range_with_len 0 (length l.ups))) k false ≡ true → f k ≡ true
    flag k up = let e : 0 + k ≡ k = omega arith in subst (λ (n : ℕ). f n ≡ true) e (in_range f 0 (length l.ups) k up)

-- ---- writes

set_flag : (ups : List Bool) (lane k : ℕ) → slice_index_or (slice_set ups lane true) k false ≡ true → (lane ≡ k) ⊎ (slice_index_or ups k false ≡ true)
set_flag [] lane k up = absurd (false≢true up)
set_flag (x ∷ ups) zero zero up = inl refl
set_flag (x ∷ ups) zero (suc k) up = inr up
set_flag (x ∷ ups) (suc lane) zero up = inr up
set_flag (x ∷ ups) (suc lane) (suc k) up = ⊎_elim (λ same. inl (ap suc same)) (λ was. inr was) (set_flag ups lane k up)

placed_shown : (t first count : ℕ) (p : Place) (ss : List SpindleState) (r : Reach) (l : Look) → Shown ss r l → Shown (all_accessed t (disk_of r p) ss) r (placed p l (write_of first count))
placed_shown t first count Home ss r l shown = record {
  home = λ up. all_used t (r.own ∷ []) ss r.own (true_or (eqb r.own r.own) false (same_eqb r.own));
  loggers = λ k up. all_stay t (r.own ∷ []) ss (logger_at r k) (shown.loggers k up);
}
placed_shown t first count (Log lane) ss r l shown = record {
  home = λ up. all_stay t (logger_at r lane ∷ []) ss r.own (shown.home up);
  loggers = λ k up. ⊎_elim
      (λ same. subst (λ (n : ℕ). is_down (all_accessed t (logger_at r lane ∷ []) ss) (logger_at r n) ≡ false) same (all_used t (logger_at r lane ∷ []) ss (logger_at r lane) (true_or (eqb (logger_at r lane) (logger_at r lane)) false (same_eqb (logger_at r lane)))))
      (λ was. all_stay t (logger_at r lane ∷ []) ss (logger_at r k) (shown.loggers k was)) (set_flag l.ups lane k up);
}
placed_shown t first count Full ss r l shown = shown

pub answering_shown : (t : ℕ) (k : Kind) (first count : ℕ) (ss : List SpindleState) (r : Reach) (l : Look) → Shown ss r l → Shown (all_accessed t (answering k first count r l).uses ss) r (answering k first count r l).look
answering_shown t kind.Read first count ss r l shown = read_shown t first count ss r l shown
answering_shown t kind.Write first count ss r l shown = placed_shown t first count (place_of [] l (write_of first count)) ss r l shown

-- ---- reclaim

-- it uses disks that are awake, and counts no further ones as awake
pub record Quiet (ss : List SpindleState) (r : Reach) (a : Action) : Type 0 where
  pub shown : Shown ss r a.look
  pub uses : AreUp ss a.uses

up_joined : (ss : List SpindleState) (us vs : List ℕ) → AreUp ss us → AreUp ss vs → AreUp ss (us ++ vs)
up_joined ss [] vs first then = then
up_joined ss (u ∷ us) vs first then = (first.0, up_joined ss us vs first.1 then)

then_quiet : (ss : List SpindleState) (r : Reach) (a b : Action) → Quiet ss r a → Quiet ss r b → Quiet ss r (record { look = b.look; uses = a.uses ++ b.uses; moves = a.moves ++ b.moves })
then_quiet ss r a b first then = record { shown = then.shown; uses = up_joined ss a.uses b.uses first.uses then.uses }

repeated_quiet : (ss : List SpindleState) (r : Reach) (step : Look → Option Action) → ((l : Look) (a : Action) → Shown ss r l → step l ≡ Some a → Quiet ss r a) → (n : ℕ) (l : Look) → Shown ss r l → Quiet ss r (repeated n step l)
repeated_quiet ss r step quiet zero l shown = record { shown = shown; uses = tt }
repeated_quiet ss r step quiet (suc n) l shown = at (step l) refl (λ a on. repeated_quiet ss r step quiet n a.look on)
  where
    at : (o : Option Action) → step l ≡ o → ((a : Action) → Shown ss r a.look → Quiet ss r (repeated n step a.look)) → Quiet ss r (followed l o (repeated n step))
    at None is rest = record { shown = shown; uses = tt }
    at (Some a) is rest = let one = quiet l a shown is in then_quiet ss r a (repeated n step a.look) one (rest a one.shown)

-- the record at a place that is found passes the test
passes_at : (p : Listed → Bool) (es : List Listed) (k : ℕ) (e : Listed) → position p es ≡ Some k → slice_get es k ≡ Some e → p e ≡ true
passes_at p es k e at there = ap p (sym (got es k e there)) ∙ (position-Some p es k e at).1
  where
    got : (xs : List Listed) (j : ℕ) (x : Listed) → slice_get xs j ≡ Some x → get_or xs j x ≡ x
    got [] j x is = absurd (none-some x is)
    got (y ∷ xs) zero x is = same_Some y x is
    got (y ∷ xs) (suc j) x is = got xs j x is

-- a step that was done is one at a record that was found
step_quiet : (ss : List SpindleState) (r : Reach) (step : Look → ℕ → Listed → Action) (l : Look) (o : Option ℕ) (a : Action)
    → ((k : ℕ) (e : Listed) → o ≡ Some k → slice_get l.listed k ≡ Some e → Quiet ss r (step l k e)) → step_at step l o ≡ Some a → Quiet ss r a
step_quiet ss r step l None a quiet is = absurd (none-some a is)
step_quiet ss r step l (Some k) a quiet is = at (slice_get l.listed k) refl is
  where
    at : (o : Option Listed) → slice_get l.listed k ≡ o → option_map (step l k) o ≡ Some a → Quiet ss r a
    at None found is = absurd (none-some a is)
    at (Some e) found is = subst (Quiet ss r) (same_Some (step l k e) a is) (quiet k e refl found)

put_quiet : (ss : List SpindleState) (r : Reach) (l : Look) (a : Action) → Shown ss r l → put_step r l ≡ Some a → Quiet ss r a
put_quiet ss r l a shown is = step_quiet ss r (put_home r) l (next_due l) a at is
  where
    due : Listed → Bool
    due e = is_within_reach l e && has_due l.listed e

    found : (h : Bool) (k : ℕ) → l.home_up ≡ h → cond h (position due l.listed) None ≡ Some k → (l.home_up ≡ true) × (position due l.listed ≡ Some k)
    found true k up at = (up, at)
    found false k up at = absurd (none-some k at)

    at : (k : ℕ) (e : Listed) → next_due l ≡ Some k → slice_get l.listed k ≡ Some e → Quiet ss r (put_home r l k e)
    at k e is there =
        let both = found l.home_up k refl is in
        let near = (and_parts (is_within_reach l e) (has_due l.listed e) (passes_at due l.listed k e both.1 there)).0 in
        record { shown = record { home = shown.home; loggers = shown.loggers }; uses = (shown.loggers e.lane near, (shown.home both.0, tt)) }

give_quiet : (ss : List SpindleState) (r : Reach) (l : Look) (a : Action) → Shown ss r l → give_step r l ≡ Some a → Quiet ss r a
give_quiet ss r l a shown is = step_quiet ss r (give_up r) l (next_to_go l) a at is
  where
    going : Listed → Bool
    going e = is_within_reach l e && has_going l.listed e

    at : (k : ℕ) (e : Listed) → next_to_go l ≡ Some k → slice_get l.listed k ≡ Some e → Quiet ss r (give_up r l k e)
    at k e is there =
        let near = (and_parts (is_within_reach l e) (has_going l.listed e) (passes_at going l.listed k e is there)).0 in
        record { shown = record { home = shown.home; loggers = shown.loggers }; uses = (shown.loggers e.lane near, tt) }

pub reclaiming_quiet : (ss : List SpindleState) (r : Reach) (l : Look) → Shown ss r l → Quiet ss r (reclaiming r l)
reclaiming_quiet ss r l shown =
    let puts = repeated (left l.listed) (put_step r) l in
    let first = repeated_quiet ss r (put_step r) (λ k a. put_quiet ss r k a) (left l.listed) l shown in
    then_quiet ss r puts (repeated (left puts.look.listed) (give_step r) puts.look) first (repeated_quiet ss r (give_step r) (λ k a. give_quiet ss r k a) (left puts.look.listed) puts.look first.shown)

-- ---- all volumes

abbrev pub AreShown : List SpindleState → List machine.Volume → Type 0
AreShown ss vs = AllByRecursion (λ (v : machine.Volume). Shown ss v.reach v.look) vs

pub all_seen : (ss : List SpindleState) (vs : List machine.Volume) → AreShown ss (map (seeing ss) vs)
all_seen ss [] = tt
all_seen ss (v ∷ vs) = (seeing_shown ss v, all_seen ss vs)

all_later : (t : ℕ) (us : List ℕ) (ss : List SpindleState) (vs : List machine.Volume) → AreShown ss vs → AreShown (all_accessed t us ss) vs
all_later t us ss [] all = tt
all_later t us ss (v ∷ vs) all = (shown_later t us ss v.reach v.look all.0, all_later t us ss vs all.1)

shown_at : (ss : List SpindleState) (vs : List machine.Volume) (k : ℕ) (v : machine.Volume) → AreShown ss vs → slice_get vs k ≡ Some v → Shown ss v.reach v.look
shown_at ss [] k v all is = absurd (none-some v is)
shown_at ss (w ∷ vs) zero v all is = subst (λ (x : machine.Volume). Shown ss x.reach x.look) (same_Some w v is) all.0
shown_at ss (w ∷ vs) (suc k) v all is = shown_at ss vs k v all.1 is

-- a request's turn
pub asked_shown : (t : ℕ) (x : Turn) → ((ss : List SpindleState) (r : Reach) (l : Look) → Shown ss r l → Shown (all_accessed t (x.action r l).uses ss) r (x.action r l).look) → (m : Machine) → AreShown m.spindles m.volumes
    → AreShown (turned t x m).spindles (turned t x m).volumes
asked_shown t x keeps m all = at (slice_get m.volumes x.volume) refl
  where
    at : (o : Option machine.Volume) → slice_get m.volumes x.volume ≡ o → AreShown (turned_at t x m o).spindles (turned_at t x m o).volumes
    at None is = all
    at (Some v) is =
        let a = x.action v.reach v.look in
        all_set (λ (w : machine.Volume). Shown (all_accessed t a.uses m.spindles) w.reach w.look) m.volumes x.volume (record { reach = v.reach; look = a.look; store = all_moved a.moves v.store })
        (all_later t a.uses m.spindles m.volumes all) (keeps m.spindles v.reach v.look (shown_at m.spindles m.volumes x.volume v all is))

-- a turn to reclaim: no disk comes up
pub tidied_shown : (t n : ℕ) (m : Machine) → AreShown m.spindles m.volumes → AreShown (turned t (tidying n) m).spindles (turned t (tidying n) m).volumes × ((k : ℕ) → ups_of (turned t (tidying n) m).spindles k ≡ ups_of m.spindles k)
tidied_shown t n m all = at (slice_get m.volumes n) refl
  where
    at : (o : Option machine.Volume) → slice_get m.volumes n ≡ o → AreShown (turned_at t (tidying n) m o).spindles (turned_at t (tidying n) m o).volumes × ((k : ℕ) → ups_of (turned_at t (tidying n) m o).spindles k ≡ ups_of m.spindles k)
    at None is = (all, λ k. refl)
    at (Some v) is =
        let a = reclaiming v.reach v.look in
        let quiet = reclaiming_quiet m.spindles v.reach v.look (shown_at m.spindles m.volumes n v all is) in (
          all_set (λ (w : machine.Volume). Shown (all_accessed t a.uses m.spindles) w.reach w.look) m.volumes n (record { reach = v.reach; look = a.look; store = all_moved a.moves v.store })
              (all_later t a.uses m.spindles m.volumes all) (shown_later t a.uses m.spindles v.reach a.look quiet.shown),
          λ k. none_rises t a.uses m.spindles k quiet.uses,
        )
