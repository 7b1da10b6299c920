-- The laws of recovery, of images of segments.
use Rattle.std.proofs.Common.{ltb, ◌^◌, ◌&&◌, true, false, ◌≡◌, ◌<◌, ℕ, Bool, true, false, cond, List, [], ◌∷◌, ◌++◌, map, Option, None, refl, sym, ap, subst, ◌∙◌, append_assoc}
use Rattle.std.specs.Prelude.{unwrap_or}
use Rattle.std.specs.List.{AllByRecursion}
use Rattle.std.proofs.lemmas.List.{map-append}
use Rattle.std.proofs.lemmas.Grind.{flat_map-append}
use Rattle.std.specs.Str.{bytes_eq}
use Rattle.wol_disk.specs.Disk.{Block}
use Rattle.wol_model.proofs.GivingUp.{giving_up_lem}
use Rattle.wol_model.proofs.ReadLogs.{log_read}
use Rattle.wol_model.proofs.Writing.{logging_lem, emptied_lem}
use Rattle.wol_model.specs.Blocks.{after}
use Rattle.wol_model.specs.Extents.{Extent, with_extents, may_go, covers_of, AreDistinct, HoldsHomed, CoversNothing, write_of}
use Rattle.wol_model.specs.Heads.{free_block, owned_block}
use Rattle.wol_model.specs.Log.{Record, IsLog, IsIdle, extent_of}
use Rattle.wol_model.specs.Recovered.{read_records, read_log, extents_in, extents_of, recovered}
use Rattle.wol_model.specs.RecoveryLaws.{Trimming, Retiring, Claiming, Appending}

-- what a log's records are
pub kept : (owner : ℕ) (bs : List Block) (rs : List Record) → IsLog bs owner rs → extents_in owner bs ≡ map extent_of rs
unfolding extents_in read_log
kept owner bs rs log = ap (λ (o : Option (List Record)). map extent_of (unwrap_or o [])) (log_read bs owner rs log)

free_not_owned : (owner : ℕ) → bytes_eq free_block (owned_block owner) ≡ false
unfolding free_block owned_block
free_not_owned owner = refl

and_false : (t : Bool) → (t && false) ≡ false
and_false true = refl
and_false false = refl

pub idle_none : (owner : ℕ) (bs : List Block) → IsIdle bs → extents_in owner bs ≡ []
unfolding extents_in read_log
idle_none owner [] idle = absurd idle
idle_none owner (b ∷ bs) idle = ap records (ap (λ (t : Bool). ltb owner (2 ^ 32) && t) (ap (λ (c : Block). bytes_eq c (owned_block owner)) idle ∙ free_not_owned owner) ∙ and_false (ltb owner (2 ^ 32)))
  where
    records : Bool → List Extent
    records t = map extent_of (unwrap_or (cond t (read_records owner 0 bs) None) [])

module _ (owner : ℕ) (before later : List (List Block)) where
  abbrev A : List Extent
  A = extents_of owner before

  abbrev C : List Extent
  C = extents_of owner later

  around : (bs : List Block) (rs : List Extent) → extents_in owner bs ≡ rs → extents_of owner (before ++ bs ∷ later) ≡ A ++ (rs ++ C)
  around bs rs is = flat_map-append (extents_in owner) before (bs ∷ later) ∙ ap (λ (l : List Extent). A ++ (l ++ C)) is

  -- one record among all
  among : (bs : List Block) (front back : List Record) (r : Record) → IsLog bs owner (front ++ r ∷ back) → extents_of owner (before ++ bs ∷ later) ≡ (A ++ map extent_of front) ++ extent_of r ∷ (map extent_of back ++ C)
  among bs front back r log =
      around bs (map extent_of front ++ extent_of r ∷ map extent_of back) (kept owner bs (front ++ r ∷ back) log ∙ map-append extent_of front (r ∷ back))
      ∙ ap (λ (l : List Extent). A ++ l) (append_assoc (map extent_of front) (extent_of r ∷ map extent_of back) C)
      ∙ sym (append_assoc A (map extent_of front) (extent_of r ∷ (map extent_of back ++ C)))

pub trimming_lem : Trimming
unfolding recovered with_extents
trimming_lem owner home before later old new front back r s homed given old_log new_log gives distinct holds may =
    ap (with_extents home) new_is
    ∙ giving_up_lem home (extents_of owner before ++ map extent_of front) (map extent_of back ++ extents_of owner later) (extent_of r) (extent_of s) homed given
    (subst (λ (l : List Extent). HoldsHomed home l homed) old_is holds)
    (subst (λ (l : List Extent). AreDistinct (covers_of l)) old_is distinct)
    (subst (λ (l : List Extent). (b : ℕ) → given b ≡ true → may_go (covers_of l) homed (extent_of r).cover b ≡ true) old_is may)
    gives
    ∙ ap (with_extents home) (sym old_is)
  where
    old_is : extents_of owner (before ++ old ∷ later) ≡ (extents_of owner before ++ map extent_of front) ++ extent_of r ∷ (map extent_of back ++ extents_of owner later)
    old_is = among owner before later old front back r old_log

    new_is : extents_of owner (before ++ new ∷ later) ≡ (extents_of owner before ++ map extent_of front) ++ extent_of s ∷ (map extent_of back ++ extents_of owner later)
    new_is = among owner before later new front back s new_log

nothing_kept : (rs : List Record) → AllByRecursion (λ r. CoversNothing (extent_of r)) rs → AllByRecursion CoversNothing (map extent_of rs)
nothing_kept [] all = tt
nothing_kept (r ∷ rs) all = (all.0, nothing_kept rs all.1)

pub retiring_lem : Retiring
unfolding recovered with_extents
retiring_lem owner home before later old new rs log nothing idle =
    ap (with_extents home) (around owner before later new [] (idle_none owner new idle))
    ∙ sym (emptied_lem home (extents_of owner before) (map extent_of rs) (extents_of owner later) (nothing_kept rs nothing))
    ∙ ap (with_extents home) (sym (around owner before later old (map extent_of rs) (kept owner old rs log)))

pub claiming_lem : Claiming
unfolding recovered with_extents
claiming_lem owner home before later old new idle log =
    ap (with_extents home) (around owner before later new [] (kept owner new [] log) ∙ sym (around owner before later old [] (idle_none owner old idle)))

all_front : (P : Extent → Type 0) (xs ys : List Extent) → AllByRecursion P (xs ++ ys) → AllByRecursion P xs
all_front P [] ys all = tt
all_front P (x ∷ xs) ys all = (all.0, all_front P xs ys all.1)

all_back : (P : Extent → Type 0) (xs ys : List Extent) → AllByRecursion P (xs ++ ys) → AllByRecursion P ys
all_back P [] ys all = all
all_back P (x ∷ xs) ys all = all_back P xs ys all.1

pub appending_lem : Appending
unfolding recovered with_extents
appending_lem owner home before later old new rs r old_log new_log keeps above =
    ap (with_extents home) (among owner before later new rs [] r new_log)
    ∙ logging_lem home (extents_of owner before ++ map extent_of rs) (extents_of owner later) (extent_of r) keeps (all_front P (extents_of owner before ++ map extent_of rs) (extents_of owner later) both) (all_back P (extents_of owner before ++ map extent_of rs) (extents_of owner later) both)
    ∙ ap (λ (l : List Extent). after (with_extents home l) (write_of (extent_of r) ∷ [])) (sym old_is)
  where
    P : Extent → Type 0
    P s = s.cover.version < r.head.version

    old_is : extents_of owner (before ++ old ∷ later) ≡ (extents_of owner before ++ map extent_of rs) ++ extents_of owner later
    old_is = around owner before later old (map extent_of rs) (kept owner old rs old_log) ∙ sym (append_assoc (extents_of owner before) (map extent_of rs) (extents_of owner later))

    both : AllByRecursion (λ s. s.cover.version < r.head.version) ((extents_of owner before ++ map extent_of rs) ++ extents_of owner later)
    both = subst (AllByRecursion (λ s. s.cover.version < r.head.version)) old_is above
