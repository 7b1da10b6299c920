-- Actions one after another: uses of disks, and steps of reclaim.
use Rattle.std.proofs.Common.{◌≡◌, ◌<◌, ◌≤◌, ◌+◌, ℕ, zero, suc, List, [], ◌∷◌, ◌++◌, map, length, Option, None, Some, refl, sym, ap, subst, ◌∙◌, append_assoc, append-nil, arith}
use Rattle.std.specs.Prelude.{slice_index_or}
use Rattle.std.specs.List.{AllByRecursion, range_with_len}
use Rattle.std.specs.Option.{option_map_or}
use Rattle.std.proofs.lemmas.List.{length-map, map-append}
use Rattle.wol_model.specs.Extents.{newest}
use Rattle.wol_promise.proofs.Lists.{range_push}
use Rattle.wol_model.specs.Index.{Listed, cover_of, left}
use Rattle.wol_model.specs.Journal.{SpindleState}
use Rattle.wol_promise.specs.Policy.{Look}
use Rattle.whatif.specs.declared.disk.Disk.{Disk}
use Rattle.whatif.specs.declared.volume.Volume.{Volume}
use Rattle.whatif.specs.Disks.{AreDisks, moments_of}
use Rattle.wol_model.specs.Blocks.{changed_at}
use Rattle.whatif.specs.Machine.{Reach, Action, accessed, all_accessed, followed, give_step, give_up, logger_at, put_home, put_step, reclaiming, repeated, source_of, step_at, still}
use Rattle.whatif.specs.Volumes.{HasDone, IsSettled, IsWithin, look_in, reach_in, store_in}
use Rattle.whatif.specs.Logs.{Move, Store, all_moved, moved}

-- disks that are used after others
pub accessed_more : (t : ℕ) (us vs : List ℕ) (ss : List SpindleState) → all_accessed t (us ++ vs) ss ≡ all_accessed t vs (all_accessed t us ss)
accessed_more t [] vs ss = refl
accessed_more t (u ∷ us) vs ss = accessed_more t us vs (changed_at u (accessed t) ss)

pub repeated_none : (n : ℕ) (step : Look → Option Action) (l : Look) → step l ≡ None → repeated n step l ≡ still l
repeated_none zero step l is = refl
repeated_none (suc n) step l is = ap (λ (o : Option Action). followed l o (repeated n step)) is

pub repeated_some : (n : ℕ) (step : Look → Option Action) (l : Look) (a : Action) → step l ≡ Some a
    → repeated (suc n) step l ≡ record { look = (repeated n step a.look).look; uses = a.uses ++ (repeated n step a.look).uses; moves = a.moves ++ (repeated n step a.look).moves }
repeated_some n step l a is = ap (λ (o : Option Action). followed l o (repeated n step)) is

-- what is done in logs after other things
pub moved_more : (ms ns : List Move) (s : Store) → all_moved (ms ++ ns) s ≡ all_moved ns (all_moved ms s)
moved_more [] ns s = refl
moved_more (m ∷ ms) ns s = moved_more ms ns (moved m s)

-- some first steps were done: those that are left lead from where they led to where all lead
pub record Goes (step : Look → Option Action) (l m : Look) (was is : List Disk) (done : List Move) : Type 0 where
  pub fuel : ℕ
  pub enough : left m.listed ≤ fuel
  pub look : (repeated (left l.listed) step l).look ≡ (repeated fuel step m).look
  pub moves : (repeated (left l.listed) step l).moves ≡ done ++ (repeated fuel step m).moves
  pub disks : (t : ℕ) (ss : List SpindleState) → AreDisks was ss
      → (rest : List SpindleState) × AreDisks is rest × (all_accessed t (repeated (left l.listed) step l).uses ss ≡ all_accessed t (repeated fuel step m).uses rest)

pub goes_first : (step : Look → Option Action) (l : Look) (ds : List Disk) → Goes step l l ds ds []
goes_first step l ds = record { fuel = left l.listed; enough = omega arith; look = refl; moves = refl; disks = λ t ss are. (ss, are, refl) }

pub goes_on : (step : Look → Option Action) (l m : Look) (was is now : List Disk) (done : List Move) (a : Action) → Goes step l m was is done → step m ≡ Some a → left a.look.listed < left m.listed
    → ((t : ℕ) (ss : List SpindleState) → AreDisks is ss → AreDisks now (all_accessed t a.uses ss)) → Goes step l a.look was now (done ++ a.moves)
goes_on step l m was is now done a g some less used = at g.fuel refl
  where
    at : (n : ℕ) → g.fuel ≡ n → Goes step l a.look was now (done ++ a.moves)
    at zero same = absurd (let e = g.enough in omega (arith, e, less, same))
    at (suc n) same =
        let then : repeated g.fuel step m ≡ record { look = (repeated n step a.look).look; uses = a.uses ++ (repeated n step a.look).uses; moves = a.moves ++ (repeated n step a.look).moves } = ap (λ (k : ℕ). repeated k step m) same ∙ repeated_some n step m a some in
        record {
          fuel = n;
          enough = let e = g.enough in omega (arith, e, less, same);
          look = g.look ∙ ap (λ (x : Action). x.look) then;
          moves = g.moves ∙ ap (λ (x : Action). done ++ x.moves) then ∙ sym (append_assoc done a.moves (repeated n step a.look).moves);
          disks = λ t ss are. let r = g.disks t ss are in
              (all_accessed t a.uses r.0, used t r.0 r.1, r.2 ∙ ap (λ (x : Action). all_accessed t x.uses r.0) then ∙ accessed_more t a.uses (repeated n step a.look).uses r.0);
        }

-- all steps were done
pub goes_last : (step : Look → Option Action) (l m : Look) (was is : List Disk) (done : List Move) → Goes step l m was is done → step m ≡ None
    → (m ≡ (repeated (left l.listed) step l).look) × ((repeated (left l.listed) step l).moves ≡ done) × ((t : ℕ) (ss : List SpindleState) → AreDisks was ss → AreDisks is (all_accessed t (repeated (left l.listed) step l).uses ss))
goes_last step l m was is done g none =
    let end = repeated_none g.fuel step m none in (
      sym (g.look ∙ ap (λ (x : Action). x.look) end),
      g.moves ∙ ap (λ (x : Action). done ++ x.moves) end ∙ append-nil done,
      λ t ss are. let r = g.disks t ss are in subst (AreDisks is) (sym (r.2 ∙ ap (λ (x : Action). all_accessed t x.uses r.0) end)) r.1,
    )

-- ---- reclaim

abbrev together : Reach → Action → Action
together r puts = let gives = repeated (left puts.look.listed) (give_step r) puts.look in record { look = gives.look; uses = puts.uses ++ gives.uses; moves = puts.moves ++ gives.moves }

nothing : (r : Reach) (l : Look) → IsSettled l → reclaiming r l ≡ still l
nothing r l settled = ap (together r) (repeated_none (left l.listed) (put_step r) l (ap (step_at (put_home r) l) settled.due))
    ∙ ap (λ (a : Action). let b : Action = record { look = a.look; uses = [] ++ a.uses; moves = [] ++ a.moves } in b) (repeated_none (left l.listed) (give_step r) l (ap (step_at (give_up r) l) settled.going))

-- a settled volume has nothing to do
pub settled_done : (v : Volume) (ds : List Disk) → IsSettled (look_in v) → HasDone reclaiming v v ds ds
settled_done v ds settled = let none = nothing (reach_in v) (look_in v) settled in
    record { reach = refl; look = sym (ap (λ (a : Action). a.look) none); store = sym (ap (λ (a : Action). all_moved a.moves (store_in v.store)) none); disks = λ t ss are. subst (λ (a : Action). AreDisks ds (all_accessed t a.uses ss)) (sym none) are }

-- all that is due goes home, and then all that may go is given up
pub both_done : (v w x : Volume) (ds es fs : List Disk) → HasDone (λ r l. repeated (left l.listed) (put_step r) l) v w ds es → HasDone (λ r l. repeated (left l.listed) (give_step r) l) w x es fs → HasDone reclaiming v x ds fs
both_done v w x ds es fs puts gives = record {
  reach = gives.reach ∙ puts.reach;
  look = gives.look ∙ (λ i. (repeated (left (puts.look i).listed) (give_step (puts.reach i)) (puts.look i)).look);
  store = gives.store ∙ (λ i. all_moved (repeated (left (puts.look i).listed) (give_step (puts.reach i)) (puts.look i)).moves (puts.store i))
      ∙ sym (moved_more (repeated (left (look_in v).listed) (put_step (reach_in v)) (look_in v)).moves _ (store_in v.store));
  disks = λ t ss are. subst (AreDisks fs) (sym (accessed_more t (repeated (left (look_in v).listed) (put_step (reach_in v)) (look_in v)).uses _ ss))
      (subst (λ (us : List ℕ). AreDisks fs (all_accessed t us (all_accessed t (repeated (left (look_in v).listed) (put_step (reach_in v)) (look_in v)).uses ss)))
      (λ i. (repeated (left (puts.look i).listed) (give_step (puts.reach i)) (puts.look i)).uses) (gives.disks t _ (puts.disks t ss are)));
}

-- ---- reads

-- one more block is read
pub read_more : (t : ℕ) (f : ℕ → ℕ) (first i : ℕ) (ss : List SpindleState) → all_accessed t (map f (range_with_len first (i + 1))) ss ≡ changed_at (f (first + i)) (accessed t) (all_accessed t (map f (range_with_len first i)) ss)
read_more t f first i ss =
    let more : i + 1 ≡ suc i = omega arith in
    ap (λ (n : ℕ). all_accessed t (map f (range_with_len first n)) ss) more
    ∙ ap (λ (l : List ℕ). all_accessed t (map f l) ss) (range_push first i)
    ∙ ap (λ (l : List ℕ). all_accessed t l ss) (map-append f (range_with_len first i) ((first + i) ∷ []))
    ∙ accessed_more t (map f (range_with_len first i)) (f (first + i) ∷ []) ss

index_all : (xs : List ℕ) (k d n : ℕ) → AllByRecursion (λ x. x < n) xs → d < n → slice_index_or xs k d < n
index_all [] k d n all lt = lt
index_all (x ∷ xs) zero d n all lt = all.0
index_all (x ∷ xs) (suc k) d n all lt = index_all xs k d n all.1 lt

-- the disk that has a block is among the disks
pub source_within : (n : ℕ) (r : Reach) (es : List Listed) (b : ℕ) → IsWithin n r → source_of r es b < n
source_within n r es b within = at (newest cover_of es b)
  where
    at : (o : Option Listed) → option_map_or (λ (e : Listed). logger_at r e.lane) o r.own < n
    at None = within.own
    at (Some e) = index_all r.loggers e.lane r.own n within.loggers within.own

pub place_within : (n : ℕ) (r : Reach) (lane : ℕ) → IsWithin n r → logger_at r lane < n
place_within n r lane within = index_all r.loggers lane r.own n within.loggers within.own

-- ---- lengths

pub same_within : (n m : ℕ) (r : Reach) → n ≡ m → IsWithin n r → IsWithin m r
same_within n m r same within = subst (λ (k : ℕ). IsWithin k r) same within

pub same_length : (ds es : List Disk) → moments_of es ≡ moments_of ds → length ds ≡ length es
same_length ds es moments = sym (length-map ds (λ (d : Disk). d.moment)) ∙ sym (ap length moments) ∙ length-map es (λ (d : Disk). d.moment)
