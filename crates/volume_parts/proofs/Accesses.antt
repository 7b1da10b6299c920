-- Writes of a part, one behind the other, and its images after each of them.
use Rattle.std.proofs.Common.{◌≡◌, ◌⊎◌, inl, inr, ⊎_elim, ◌<◌, ◌≤◌, ◌+◌, ◌-◌, ℕ, zero, suc, Bool, true, false, cond, List, [], ◌∷◌, length, take, drop, Option, None, Some, Result, Ok, Err, OnOk, OnErr, is_ok, refl, sym, ap, subst, ◌∙◌, arith, ltb, leb}
use Rattle.std.specs.Prelude.{option_map, IsErr, slice_get, unwrap_or}
use Rattle.std.specs.Option.{option_or}
use Rattle.std.proofs.lemmas.Bool.{cases_lt, lt-ltb, le-ltb, le-leb, lt-leb}
use Rattle.std.proofs.lemmas.Option.{slice_get_past}
use Rattle.std.proofs.lemmas.Result.{on_ok_weaker}
use mathlib.Core.Path.{fun_ext}
use Rattle.wol_disk.specs.Disk.{State, Block, Values, Passes, IsDisk, LeavesOnly, IsImageOf, IsBlend, AddsSomeOf, Rose, added, put, settled, only, reads}
use Rattle.wol_disk.proofs.Calls.{after_write, after_sync, write_goes_on, sync_goes_on, synced_write}
use Rattle.wol_disk.proofs.Images.{reads_added, length-put}
use Rattle.wol_disk.proofs.Moments.{started}
use Rattle.wol_model.specs.Blocks.{block_of, overlaid, after}
use Rattle.wol_model.specs.Log.{has_bit}
use Rattle.wol_model.proofs.Arrays.{after_put}
use Rattle.wol_model.proofs.Mixed.{IsMixed, mixed_of, blend_of}
use Rattle.wol_model.proofs.Overlay.{overlay_twice, overlay_get, overlay_length_from, none_over}
use Rattle.wol_promise.proofs.OneMore.{or_none}
use Rattle.spin_model.specs.Spun.{state_of, volume_of}
use Rattle.spin_model.specs.declared.spun.Spun.{Spun}
use Rattle.volume_parts.specs.Changes.{put_block}
use Rattle.volume_parts.specs.Accesses.{IsLaid, IsPartlyPut, IsPut, IsSynced, IsTornFrom, Stored}

-- ---- lists

get_taken : {X : Type 0} (n : ℕ) (xs : List X) (i : ℕ) → i < n → slice_get (take n xs) i ≡ slice_get xs i
get_taken zero xs i lt = absurd (omega arith)
get_taken (suc n) [] i lt = refl
get_taken (suc n) (x ∷ xs) zero lt = refl
get_taken (suc n) (x ∷ xs) (suc i) lt = get_taken n xs i (omega arith)

get_past : {X : Type 0} (n : ℕ) (xs : List X) (i : ℕ) → n ≤ i → slice_get (take n xs) i ≡ None
get_past zero xs i le = refl
get_past (suc n) [] i le = refl
get_past (suc n) (x ∷ xs) zero le = absurd (omega arith)
get_past (suc n) (x ∷ xs) (suc i) le = get_past n xs i (omega arith)

get_dropped : {X : Type 0} (d : ℕ) (xs : List X) (i : ℕ) → slice_get (drop d xs) i ≡ slice_get xs (d + i)
get_dropped zero xs i = let e : 0 + i ≡ i = omega arith in rw e refl
get_dropped (suc d) [] i = refl
get_dropped (suc d) (x ∷ xs) i = let e : suc d + i ≡ suc (d + i) = omega arith in rw e (get_dropped d xs i)

-- ---- what stands over an array

put_over : (at : ℕ) (xs a : List Block) → put at xs a ≡ overlaid a (λ b. block_of at xs b)
unfolding after
put_over at xs a = sym (after_put a (record { first = at; blocks = xs; version = None }))

-- the blocks before block `end` alone
abbrev pub upto : (ℕ → Option Block) → (end b : ℕ) → Option Block
upto over end b = cond (ltb b end) (over b) None

module _ (first mask : ℕ) (blocks : List Block) where
  abbrev over : ℕ → Option Block
  over b = put_block first mask blocks b

  in_range : (t : Bool) (b : ℕ) → has_bit mask (b - first) ≡ t → first ≤ b → over b ≡ cond t (slice_get blocks (b - first)) None
  in_range t b bit le = let there : leb first b ≡ true = le-leb first b le in rw (there, bit) refl

  in_front : (b : ℕ) → b < first → over b ≡ None
  in_front b lt = let not_there : leb first b ≡ false = lt-leb first b lt in rw not_there refl

  behind : (b : ℕ) → first + length blocks ≤ b → over b ≡ None
  behind b le = at (has_bit mask (b - first)) refl
    where
      at : (t : Bool) → has_bit mask (b - first) ≡ t → over b ≡ None
      at true bit = in_range true b bit (omega arith) ∙ slice_get_past blocks (b - first) (omega arith)
      at false bit = in_range false b bit (omega arith)

  pub upto_first : upto (put_block first mask blocks) (first + 0) ≡ (λ b. None)
  upto_first = fun_ext (λ b. ⊎_elim (λ lt. ap (λ (t : Bool). cond t (over b) None) (lt-ltb b (first + 0) lt) ∙ in_front b (omega arith)) (λ le. ap (λ (t : Bool). cond t (over b) None) (le-ltb b (first + 0) le)) (cases_lt b (first + 0)))

  pub upto_end : upto (put_block first mask blocks) (first + length blocks) ≡ put_block first mask blocks
  upto_end = fun_ext (λ b. ⊎_elim (λ lt. ap (λ (t : Bool). cond t (over b) None) (lt-ltb b (first + length blocks) lt))
      (λ le. ap (λ (t : Bool). cond t (over b) None) (le-ltb b (first + length blocks) le) ∙ sym (behind b le)) (cases_lt b (first + length blocks)))

  -- a run of blocks that aren't in the mask
  pub upto_skip : (at n : ℕ) → ((i : ℕ) → at ≤ i → i < at + n → has_bit mask i ≡ false) → upto (put_block first mask blocks) (first + at) ≡ upto (put_block first mask blocks) (first + (at + n))
  upto_skip at n none = fun_ext (λ b. ⊎_elim
      (λ lt. ap (λ (t : Bool). cond t (over b) None) (lt-ltb b (first + at) lt ∙ sym (lt-ltb b (first + (at + n)) (omega arith))))
      (λ le. ap (λ (t : Bool). cond t (over b) None) (le-ltb b (first + at) le) ∙ ⊎_elim
      (λ lt. sym (ap (λ (t : Bool). cond t (over b) None) (lt-ltb b (first + (at + n)) lt) ∙ in_range false b (none (b - first) (omega arith) (omega arith)) (omega arith)))
      (λ past. sym (ap (λ (t : Bool). cond t (over b) None) (le-ltb b (first + (at + n)) past)))
      (cases_lt b (first + (at + n))))
      (cases_lt b (first + at)))

  module _ (at n : ℕ) (within : at + n ≤ length blocks) (all : (i : ℕ) → at ≤ i → i < at + n → has_bit mask i ≡ true) where
    abbrev pub run : List Block
    run = take n (drop at blocks)

    run_in_front : (b : ℕ) → b < first + at → block_of (first + at) run b ≡ None
    run_in_front b lt = let not_there : leb (first + at) b ≡ false = lt-leb (first + at) b lt in rw not_there refl

    run_there : (b : ℕ) → first + at ≤ b → block_of (first + at) run b ≡ slice_get run (b - (first + at))
    run_there b le = let there : leb (first + at) b ≡ true = le-leb (first + at) b le in rw there refl

    run_inside : (b : ℕ) → first + at ≤ b → b < first + (at + n) → block_of (first + at) run b ≡ over b
    run_inside b le lt = run_there b le ∙ get_taken n (drop at blocks) (b - (first + at)) (omega arith) ∙ get_dropped at blocks (b - (first + at))
        ∙ ap (slice_get blocks) (let e : at + (b - (first + at)) ≡ b - first = omega arith in e) ∙ sym (in_range true b (all (b - first) (omega arith) (omega arith)) (omega arith))

    run_behind : (b : ℕ) → first + (at + n) ≤ b → block_of (first + at) run b ≡ None
    run_behind b le = run_there b (omega arith) ∙ get_past n (drop at blocks) (b - (first + at)) (omega arith)

    upto_more : (b : ℕ) → option_or (block_of (first + at) run b) (upto over (first + at) b) ≡ upto over (first + (at + n)) b
    upto_more b = ⊎_elim
        (λ lt. ap (λ (o : Option Block). option_or o (upto over (first + at) b)) (run_in_front b lt) ∙ ap (λ (t : Bool). cond t (over b) None) (lt-ltb b (first + at) lt ∙ sym (lt-ltb b (first + (at + n)) (omega arith))))
        (λ le. ap (λ (t : Bool). option_or (block_of (first + at) run b) (cond t (over b) None)) (le-ltb b (first + at) le) ∙ or_none (block_of (first + at) run b) ∙ ⊎_elim
        (λ lt. run_inside b le lt ∙ sym (ap (λ (t : Bool). cond t (over b) None) (lt-ltb b (first + (at + n)) lt)))
        (λ past. run_behind b past ∙ sym (ap (λ (t : Bool). cond t (over b) None) (le-ltb b (first + (at + n)) past)))
        (cases_lt b (first + (at + n))))
        (cases_lt b (first + at))

    -- a run of blocks of the mask
    pub put_run : (a : List Block) → put (first + at) run (overlaid a (upto (put_block first mask blocks) (first + at))) ≡ overlaid a (upto (put_block first mask blocks) (first + (at + n)))
    put_run a = put_over (first + at) run (overlaid a (upto over (first + at))) ∙ overlay_twice a (upto over (first + at)) (λ b. block_of (first + at) run b) ∙ ap (overlaid a) (fun_ext upto_more)

    -- it has what stands over the array
    pub run_agrees : (b : ℕ) (y : Block) → block_of (first + at) run b ≡ Some y → put_block first mask blocks b ≡ Some y
    run_agrees b y is = ⊎_elim
        (λ lt. absurd (let no : None ≡ Some y = sym (run_in_front b lt) ∙ is in cc))
        (λ le. ⊎_elim (λ lt. sym (run_inside b le lt) ∙ is) (λ past. absurd (let no : None ≡ Some y = sym (run_behind b past) ∙ is in cc)) (cases_lt b (first + (at + n))))
        (cases_lt b (first + at))

-- ---- blends

abbrev Mapped : (y : Block) → Option Block → Option Block
Mapped y o = option_map (λ x. y) o

mapped_twice : (y : Block) (p : Option Block) (o : Option Block) → Mapped y (option_map (λ x. unwrap_or p x) o) ≡ Mapped y o
mapped_twice y p None = refl
mapped_twice y p (Some x) = refl

mapped_none : (o : Option Block) → option_map (λ x. unwrap_or None x) o ≡ o
mapped_none None = refl
mapped_none (Some x) = refl

module _ (over : ℕ → Option Block) where
  pub blend_none : (d : List Block) → IsBlend d (overlaid d over) d
  blend_none d = blend_of d (overlaid d over) d (overlay_length_from 0 d over) (λ b. inl refl)

  -- an image that is overwritten further with what stands over it
  pub blend_on : (d w c : List Block) (at : ℕ) (xs : List Block) → ((b : ℕ) (y : Block) → block_of at xs b ≡ Some y → over b ≡ Some y) → IsBlend d (overlaid d over) w → IsBlend w (put at xs w) c → IsBlend d (overlaid d over) c
  blend_on d w c at xs agrees first then_ = blend_of d (overlaid d over) c (overlay_length_from 0 d over) mixed
    where
      before : IsMixed d (overlaid d over) w
      before = mixed_of d (overlaid d over) w first

      written : (b : ℕ) → slice_get (put at xs w) b ≡ option_map (λ x. unwrap_or (block_of at xs b) x) (slice_get w b)
      written b = ap (λ (l : List Block). slice_get l b) (put_over at xs w) ∙ overlay_get w (λ k. block_of at xs k) b

      laid : (b : ℕ) → slice_get (overlaid d over) b ≡ option_map (λ x. unwrap_or (over b) x) (slice_get d b)
      laid b = overlay_get d over b

      same_some : (b : ℕ) (y : Block) → Mapped y (slice_get w b) ≡ Mapped y (slice_get d b)
      same_some b y = ⊎_elim (λ one. ap (Mapped y) one) (λ other. ap (Mapped y) (other ∙ laid b) ∙ mapped_twice y (over b) (slice_get d b)) (before b)

      new : (b : ℕ) (o : Option Block) → block_of at xs b ≡ o → slice_get c b ≡ option_map (λ x. unwrap_or o x) (slice_get w b) → (slice_get c b ≡ slice_get d b) ⊎ (slice_get c b ≡ slice_get (overlaid d over) b)
      new b None none is = ⊎_elim (λ one. inl (is ∙ mapped_none (slice_get w b) ∙ one)) (λ other. inr (is ∙ mapped_none (slice_get w b) ∙ other)) (before b)
      new b (Some y) some is = inr (is ∙ same_some b y ∙ sym (laid b ∙ ap (λ (o : Option Block). option_map (λ x. unwrap_or o x) (slice_get d b)) (agrees b y some)))

      mixed : IsMixed d (overlaid d over) c
      mixed b = ⊎_elim
          (λ as_it_was. ⊎_elim (λ one. inl (as_it_was ∙ one)) (λ other. inr (as_it_was ∙ other)) (before b))
          (λ is. new b (block_of at xs b) refl (is ∙ written b))
          (mixed_of w (put at xs w) c then_ b)

-- ---- the part

on_err_of : {T E P : Type 0} (r : Result T E) → (IsErr r → P) → OnErr r P
on_err_of (Ok x) f = tt
on_err_of (Err e) f = f refl

on_ok_of : {T E P : Type 0} (r : Result T E) → ((IsErr r → ⊥) → P) → OnOk r P
on_ok_of (Ok x) f = f (λ no. let wrong : false ≡ true = no in cc)
on_ok_of (Err e) f = tt

on_ok_never : {T E : Type 0} (P : Type 0) (r : Result T E) → IsErr r → OnOk r P
on_ok_never P (Ok x) is = absurd (let wrong : false ≡ true = is in cc)
on_ok_never P (Err e) is = tt

on_err_at : {T E P : Type 0} (r : Result T E) → IsErr r → P → OnErr r P
on_err_at (Ok x) is p = tt
on_err_at (Err e) is p = p

ok_like : {T E U F : Type 0} (P : Type 0) (r : Result T E) (s : Result U F) → is_ok r ≡ is_ok s → OnOk r P → OnOk s P
ok_like P (Ok x) (Ok y) like p = p
ok_like P (Ok x) (Err f) like p = tt
ok_like P (Err e) (Ok y) like p = absurd (let wrong : false ≡ true = like in cc)
ok_like P (Err e) (Err f) like p = tt

err_like : {T E U F : Type 0} (P : Type 0) (r : Result T E) (s : Result U F) → is_ok r ≡ is_ok s → OnErr r P → OnErr s P
err_like P (Ok x) (Ok y) like p = tt
err_like P (Ok x) (Err f) like p = absurd (let wrong : true ≡ false = like in cc)
err_like P (Err e) (Ok y) like p = tt
err_like P (Err e) (Err f) like p = p

on_ok_so : {T E P Q : Type 0} (r : Result T E) → (P → Q) → OnOk r P → OnOk r Q
on_ok_so (Ok x) f p = f p
on_ok_so (Err e) f p = tt

reads_then : (at : ℕ) (xs : List Block) (o : Option (List (Values Block))) → option_map reads (option_map (added at xs) o) ≡ option_map (put at xs) (option_map reads o)
reads_then at xs None = refl
reads_then at xs (Some vs) = ap Some (reads_added at xs vs)

-- the same of the same blocks
pub put_same : {D T E : Type 0} {res : Result T E} (state : D → State) (old new : Spun D) (over over' : ℕ → Option Block) → over ≡ over' → IsPut state old new over res → IsPut state old new over' res
put_same {D} {T} {E} {res} state old new over over' same p = subst (λ (f : ℕ → Option Block). IsPut state old new f res) same p

-- and of an answer of another type
pub put_like : {D T E U F : Type 0} (state : D → State) (old new : Spun D) (over : ℕ → Option Block) (r : Result T E) (s : Result U F) → is_ok r ≡ is_ok s → IsPut state old new over r → IsPut state old new over s
put_like state old new over r s like p = record {
  volume = p.volume;
  size = p.size;
  ok = ok_like _ r s like p.ok;
  images = p.images;
  any_moment = p.any_moment;
  cause = err_like _ r s like p.cause;
  calm = ok_like _ r s like p.calm;
}

-- a part of which the blocks before block `end` were written so far
pub record Putting {D : Type 0} (state : D → State) (old mid : Spun D) (over : ℕ → Option Block) (end : ℕ) : Type 0 where
  pub volume : volume_of mid ≡ volume_of old
  pub size : (state_of state mid).size ≡ (state_of state old).size
  pub content : option_map reads (state_of state mid).values ≡ option_map (λ vs. overlaid (reads vs) (upto over end)) (state_of state old).values
  pub images : (c : List Block) → IsImageOf (state_of state mid).values c → IsPartlyPut (state_of state old).values over c
  pub any_moment : LeavesOnly (state_of state old) (state_of state mid) (IsPartlyPut (state_of state old).values over)
  pub calm : (state_of state mid).faults ≡ (state_of state old).faults

module _ {D : Type 0} (state : D → State) (sound : (d : D) → IsDisk (state d)) (old : Spun D) (first mask : ℕ) (blocks : List Block) where
  abbrev o : ℕ → Option Block
  o b = put_block first mask blocks b

  abbrev Partly : List Block → Type 0
  Partly = IsPartlyPut (state_of state old).values o

  pub putting_none : Putting state old old (put_block first mask blocks) (first + 0)
  putting_none = record {
    volume = refl;
    size = refl;
    content = as_it_was (state_of state old).values;
    images = λ c is. (c, is, blend_none o c);
    any_moment = started (sound old.inner) (λ c is. (c, is, blend_none o c));
    calm = refl;
  }
    where
      as_it_was : (v : Option (List (Values Block))) → option_map reads v ≡ option_map (λ vs. overlaid (reads vs) (upto o (first + 0))) v
      as_it_was None = refl
      as_it_was (Some vs) = ap Some (sym (ap (overlaid (reads vs)) (upto_first first mask blocks) ∙ none_over 0 (reads vs)))

  -- a run that isn't in the mask
  pub putting_skip : (mid : Spun D) (at n : ℕ) → ((i : ℕ) → at ≤ i → i < at + n → has_bit mask i ≡ false) → Putting state old mid (put_block first mask blocks) (first + at) → Putting state old mid (put_block first mask blocks) (first + (at + n))
  putting_skip mid at n none p = record {
    volume = p.volume;
    size = p.size;
    content = p.content ∙ ap (λ (f : ℕ → Option Block). option_map (λ vs. overlaid (reads vs) f) (state_of state old).values) (upto_skip first mask blocks at n none);
    images = p.images;
    any_moment = p.any_moment;
    calm = p.calm;
  }

  module _ (mid : Spun D) (at n : ℕ) (within : at + n ≤ length blocks) (all : (i : ℕ) → at ≤ i → i < at + n → has_bit mask i ≡ true) (p : Putting state old mid (put_block first mask blocks) (first + at)) where
    abbrev xs : List Block
    xs = take n (drop at blocks)

    stays : (d c : List Block) → Partly d → IsImageOf (state_of state mid).values d → IsBlend d (put (first + at) xs d) c → Partly c
    stays d c was is blend = (was.0, was.1, blend_on o was.0 d c (first + at) xs (run_agrees first mask blocks at n within all) was.2 blend)

    new_image : {T E : Type 0} (r : Result T E) (new : Spun D) → OnOk r ((state_of state new).values ≡ option_map (added (first + at) xs) (state_of state mid).values) → OnErr r (AddsSomeOf (first + at) xs (state_of state mid).values (state_of state new).values)
        → (c : List Block) → IsImageOf (state_of state new).values c → Partly c
    new_image r new ok err c i =
        let w = after_write r (first + at) xs (state_of state mid).values (state_of state new).values c ok err i in
        stays w.0 c (p.images w.0 w.1) w.1 w.2

    -- a run of the mask was written
    pub putting_more : {F : Type 0} (new : Spun D) → (F → ⊥) → (state_of state new).values ≡ option_map (added (first + at) (take n (drop at blocks))) (state_of state mid).values → Passes (state_of state mid) (state_of state new) F
        → volume_of new ≡ volume_of mid → Putting state old new (put_block first mask blocks) (first + (at + n))
    putting_more new calm ok passes volume = record {
      volume = volume ∙ p.volume;
      size = passes.same_size ∙ p.size;
      content = ap (option_map reads) ok ∙ reads_then (first + at) xs (state_of state mid).values ∙ ap (option_map (put (first + at) xs)) p.content ∙ laid (state_of state old).values;
      images = λ c i. new_image good new ok tt c i;
      any_moment = write_goes_on good (first + at) xs p.any_moment (sound mid.inner) ok tt passes stays;
      calm = passes.calm calm ∙ p.calm;
    }
      where
        good : Result ℕ ℕ
        good = Ok 0

        laid : (v : Option (List (Values Block))) → option_map (put (first + at) xs) (option_map (λ vs. overlaid (reads vs) (upto o (first + at))) v) ≡ option_map (λ vs. overlaid (reads vs) (upto o (first + (at + n)))) v
        laid None = refl
        laid (Some vs) = ap Some (put_run first mask blocks at n within all (reads vs))

    -- its write failed
    pub put_failed : {T E F : Type 0} (new : Spun D) (res : Result T E) → IsErr res → F → AddsSomeOf (first + at) (take n (drop at blocks)) (state_of state mid).values (state_of state new).values → Passes (state_of state mid) (state_of state new) F
        → volume_of new ≡ volume_of mid → IsPut state old new (put_block first mask blocks) res
    put_failed new res is failed err passes volume = record {
      volume = volume ∙ p.volume;
      size = passes.same_size ∙ p.size;
      ok = on_ok_never _ res is;
      images = λ c i. new_image bad new tt err c i;
      any_moment = write_goes_on bad (first + at) xs p.any_moment (sound mid.inner) tt err passes stays;
      cause = on_err_at res is (subst (λ (k : ℕ). Rose k (state_of state new).faults) p.calm (passes.caused failed));
      calm = on_ok_never _ res is;
    }
      where
        bad : Result ℕ ℕ
        bad = Err 0

  -- all runs were written, and a sync came behind them
  pub put_synced : {T E : Type 0} (mid new : Spun D) (res : Result T E) → Putting state old mid (put_block first mask blocks) (first + length blocks)
      → OnOk res ((state_of state new).values ≡ option_map settled (state_of state mid).values) → OnErr res ((state_of state new).values ≡ (state_of state mid).values) → Passes (state_of state mid) (state_of state new) (IsErr res)
      → volume_of new ≡ volume_of mid → IsPut state old new (put_block first mask blocks) res
  put_synced mid new res p synced kept passes volume = record {
    volume = volume ∙ p.volume;
    size = passes.same_size ∙ p.size;
    ok = on_ok_so res (λ is. is ∙ settles (state_of state mid).values ∙ ap (option_map only) p.content ∙ all_laid (state_of state old).values) synced;
    images = λ c i. p.images c (after_sync res (state_of state mid).values (state_of state new).values c synced kept i);
    any_moment = sync_goes_on res p.any_moment (sound mid.inner) synced kept passes;
    cause = on_err_of res (λ is. subst (λ (k : ℕ). Rose k (state_of state new).faults) p.calm (passes.caused is));
    calm = on_ok_of res (λ not. passes.calm not ∙ p.calm);
  }
    where
      settles : (v : Option (List (Values Block))) → option_map settled v ≡ option_map only (option_map reads v)
      settles None = refl
      settles (Some vs) = refl

      all_laid : (v : Option (List (Values Block))) → option_map only (option_map (λ vs. overlaid (reads vs) (upto o (first + length blocks))) v) ≡ option_map (λ vs. only (overlaid (reads vs) o)) v
      all_laid None = refl
      all_laid (Some vs) = ap (λ (f : ℕ → Option Block). Some (only (overlaid (reads vs) f))) (upto_end first mask blocks)

  -- all runs were written, and no sync came behind them
  pub laid_all : {T E : Type 0} (mid : Spun D) (res : Result T E) → (IsErr res → ⊥) → Putting state old mid (put_block first mask blocks) (first + length blocks) → IsLaid state old mid (put_block first mask blocks) res
  laid_all mid res not p = record {
    volume = p.volume;
    size = p.size;
    ok = on_ok_of res (λ no. p.content ∙ all_there (state_of state old).values);
    images = p.images;
    any_moment = p.any_moment;
    cause = on_err_of res (λ is. absurd (not is));
    calm = on_ok_of res (λ no. p.calm);
  }
    where
      all_there : (v : Option (List (Values Block))) → option_map (λ vs. overlaid (reads vs) (upto o (first + length blocks))) v ≡ option_map (λ vs. overlaid (reads vs) o) v
      all_there None = refl
      all_there (Some vs) = ap (λ (f : ℕ → Option Block). Some (overlaid (reads vs) f)) (upto_end first mask blocks)

-- one of the writes failed
pub laid_failed : {D T E : Type 0} (state : D → State) (old new : Spun D) (over : ℕ → Option Block) (res : Result T E) → IsErr res → IsPut state old new over res → IsLaid state old new over res
laid_failed state old new over res is p = record {
  volume = p.volume;
  size = p.size;
  ok = on_ok_never _ res is;
  images = p.images;
  any_moment = p.any_moment;
  cause = p.cause;
  calm = p.calm;
}

-- the same of the same blocks
pub laid_same : {D T E : Type 0} {res : Result T E} (state : D → State) (old new : Spun D) (over over' : ℕ → Option Block) → over ≡ over' → IsLaid state old new over res → IsLaid state old new over' res
laid_same {D} {T} {E} {res} state old new over over' same p = subst (λ (f : ℕ → Option Block). IsLaid state old new f res) same p

-- and of an answer of another type
pub laid_like : {D T E U F : Type 0} (state : D → State) (old new : Spun D) (over : ℕ → Option Block) (r : Result T E) (s : Result U F) → is_ok r ≡ is_ok s → IsLaid state old new over r → IsLaid state old new over s
laid_like state old new over r s like p = record {
  volume = p.volume;
  size = p.size;
  ok = ok_like _ r s like p.ok;
  images = p.images;
  any_moment = p.any_moment;
  cause = err_like _ r s like p.cause;
  calm = ok_like _ r s like p.calm;
}

pub synced_like : {D T E U F : Type 0} (state : D → State) (old new : Spun D) (r : Result T E) (s : Result U F) → is_ok r ≡ is_ok s → IsSynced state old new r → IsSynced state old new s
synced_like state old new r s like p = record {
  volume = p.volume;
  size = p.size;
  ok = ok_like _ r s like p.ok;
  images = p.images;
  any_moment = p.any_moment;
  cause = err_like _ r s like p.cause;
  calm = ok_like _ r s like p.calm;
}

-- a sync
pub synced_so : {D T E : Type 0} (state : D → State) (sound : (d : D) → IsDisk (state d)) (old new : Spun D) (res : Result T E)
    → OnOk res ((state_of state new).values ≡ option_map settled (state_of state old).values) → OnErr res ((state_of state new).values ≡ (state_of state old).values) → Passes (state_of state old) (state_of state new) (IsErr res)
    → volume_of new ≡ volume_of old → IsSynced state old new res
synced_so state sound old new res synced kept passes volume = record {
  volume = volume;
  size = passes.same_size;
  ok = synced;
  images = λ c i. after_sync res (state_of state old).values (state_of state new).values c synced kept i;
  any_moment = sync_goes_on res (started (sound old.inner) (λ c is. is)) (sound old.inner) synced kept passes;
  cause = on_err_of res (λ is. passes.caused is);
  calm = on_ok_of res (λ not. passes.calm not);
}

blend_left : (x y : List Block) → length y ≡ length x → IsBlend x y x
blend_left [] [] e = tt
blend_left [] (q ∷ y) e = absurd (let no : suc (length y) ≡ 0 = e in omega arith)
blend_left (p ∷ x) [] e = absurd (let no : 0 ≡ suc (length x) = e in omega arith)
blend_left (p ∷ x) (q ∷ y) e = (inl refl, blend_left x y (let f : suc (length y) ≡ suc (length x) = e in omega arith))

-- nothing of a write may have come to the disk
pub torn_nothing : (o : Option (List (Values Block))) (at : ℕ) (xs d : List Block) → IsImageOf o d → IsTornFrom o at xs d
torn_nothing o at xs d is = (d, is, blend_left d (put at xs d) (length-put at xs d))

module _ {D : Type 0} (state : D → State) (sound : (d : D) → IsDisk (state d)) (old : Spun D) (at : ℕ) (xs : List Block) where
  begun : LeavesOnly (state_of state old) (state_of state old) (IsTornFrom (state_of state old).values at xs)
  begun = started (sound old.inner) (λ d is. torn_nothing (state_of state old).values at xs d is)

  -- the write failed
  pub not_written : {T E F : Type 0} (mid : Spun D) (res : Result T E) → IsErr res → F → AddsSomeOf at xs (state_of state old).values (state_of state mid).values
      → Passes (state_of state old) (state_of state mid) F → volume_of mid ≡ volume_of old → Stored state old mid at xs res
  not_written mid res is failed err passes volume = record {
    volume = volume;
    size = passes.same_size;
    ok = on_ok_never _ res is;
    images = λ c i. after_write bad at xs (state_of state old).values (state_of state mid).values c tt err i;
    any_moment = write_goes_on bad at xs begun (sound old.inner) tt err passes (λ d c was i blend. (d, i, blend));
    cause = on_err_at res is (passes.caused failed);
    calm = on_ok_never _ res is;
  }
    where
      bad : Result ℕ ℕ
      bad = Err 0

  -- the write succeeded, and a sync came after it
  pub written : {T E F : Type 0} (mid new : Spun D) (res : Result T E) → (F → ⊥) → (state_of state mid).values ≡ option_map (added at xs) (state_of state old).values → Passes (state_of state old) (state_of state mid) F
      → volume_of mid ≡ volume_of old → OnOk res ((state_of state new).values ≡ option_map settled (state_of state mid).values) → OnErr res ((state_of state new).values ≡ (state_of state mid).values)
      → Passes (state_of state mid) (state_of state new) (IsErr res) → volume_of new ≡ volume_of mid → Stored state old new at xs res
  written mid new res calm ok passes volume synced kept later same = record {
    volume = same ∙ volume;
    size = later.same_size ∙ passes.same_size;
    ok = on_ok_weaker res (λ is. synced_write at xs (state_of state old).values (state_of state mid).values (state_of state new).values ok is) synced;
    images = λ c i. after_write good at xs (state_of state old).values (state_of state mid).values c ok tt (after_sync res (state_of state mid).values (state_of state new).values c synced kept i);
    any_moment = sync_goes_on res (write_goes_on good at xs begun (sound old.inner) ok tt passes (λ d c was i blend. (d, i, blend))) (sound mid.inner) synced kept later;
    cause = on_err_of res (λ is. subst (λ (k : ℕ). Rose k (state_of state new).faults) (passes.calm calm) (later.caused is));
    calm = on_ok_of res (λ not. later.calm not ∙ passes.calm calm);
  }
    where
      good : Result ℕ ℕ
      good = Ok 0
