-- One segment more whose head was read.
use Rattle.std.proofs.Common.{◌≡◌, inl, ⊎_elim, ℕ, zero, suc, ◌+◌, ◌<◌, ◌≤◌, List, [], ◌∷◌, ◌++◌, length, get_or, set, Some, Result, Err, refl, sym, ap, ◌∙◌, subst, arith, length-append}
use Rattle.std.specs.Prelude.{slice_get, IsErrOf}
use Rattle.std.proofs.lemmas.Bool.{cases_lt, cases_eq}
use Rattle.std.proofs.lemmas.List.{get_or_default, get_or-set_same, get_or-set_other, length-set}
use Rattle.std.proofs.lemmas.Option.{same_Some, none-some, slice_get_within}
use Rattle.wol_disk.specs.Disk.{Block, Values, State, IsDisk, IsImageOf, reads}
use Rattle.wol_disk.proofs.Moments.{started}
use Rattle.spin_model.specs.Spun.{state_of, volume_of, disk_of}
use Rattle.spin_model.specs.declared.spun.Spun.{Spun}
use Rattle.log_layout.specs.Values.{segment_head}
use Rattle.log_layout.specs.declared.segment.SegHead.{SegHead}
use Rattle.volume_images.specs.Accepted.{HasHead, IsConfigured}
use Rattle.volume_images.specs.Reads.{IsOnlyRead, AreOnlyRead}
use Rattle.volume_images.specs.Heads.{SayHeads, AlwaysSay, AreCalm}
use Rattle.volume_images.specs.declared.heads.HeadFault.{HeadFault}
use Rattle.volume_images.specs.declared.heads.HeadFault.TheVariants as fault

get_front : {A : Type 0} (xs : List A) (x : A) (j : ℕ) → j < length xs → slice_get (xs ++ x ∷ []) j ≡ slice_get xs j
get_front [] x j lt = absurd (omega arith)
get_front (y ∷ xs) x zero lt = refl
get_front (y ∷ xs) x (suc j) lt = get_front xs x j (omega (arith, lt))

get_last : {A : Type 0} (xs : List A) (x : A) → slice_get (xs ++ x ∷ []) (length xs) ≡ Some x
get_last [] x = refl
get_last (y ∷ xs) x = get_last xs x

-- a head isn't damaged where it couldn't be read
pub not_both : {T : Type 0} (r : Result T HeadFault) → IsErrOf r fault.Damaged → IsErrOf r fault.Failed → ⊥
not_both {T} r one two = let both : IsErrOf {T = T} (Err fault.Damaged) fault.Failed = sym one ∙ two in cc

-- before anything is read
pub only_same : (d : State) → IsDisk d → IsOnlyRead d d
only_same d sound = record { size = refl; values = inl refl; any_moment = started sound (λ c i. i) }

pub all_same : {D : Type 0} (state : D → State) → ((d : D) → IsDisk (state d)) → (xs : List (Spun D)) → AreOnlyRead state xs xs
all_same state sound xs = record {
  count = refl;
  volume = λ k d lt. refl;
  each = λ k d lt. only_same (state_of state (get_or xs k d)) (sound (disk_of (get_or xs k d)));
}

none_at : {A : Type 0} (xs : List A) (i : ℕ) (x : A) → xs ≡ [] → slice_get xs i ≡ Some x → ⊥
none_at {A} xs i x none at = none-some x (sym (ap (λ (l : List A). slice_get l i) none) ∙ at)

pub say_none : {D : Type 0} (state : D → State) (volumes : ℕ) (xs : List (Spun D)) (heads : List SegHead) → heads ≡ [] → SayHeads state volumes xs 0 heads
say_none state volumes xs heads none = record { count = ap (λ (l : List SegHead). length l) none; each = λ i d vs h lt told at. absurd (omega (arith, lt)); configured = λ i h at. absurd (none_at heads i h none at) }

pub always_none : {D : Type 0} (state : D → State) (volumes : ℕ) (xs : List (Spun D)) (heads : List SegHead) → heads ≡ [] → AlwaysSay state volumes xs heads
always_none state volumes xs heads none = λ i d h lt at. absurd (none_at heads i h none at)

module _ {D : Type 0} (state : D → State) (xs ys : List (Spun D)) (i : ℕ) (p r : Spun D) (lt : i < length xs) (same_length : length ys ≡ length xs)
    (rest : (k : ℕ) (d : Spun D) → i ≤ k → get_or ys k d ≡ get_or xs k d) where
  pub at_hand : (d : Spun D) → get_or ys i r ≡ get_or xs i d
  at_hand d = rest i r (omega arith) ∙ get_or_default xs i r d lt

  here : (k : ℕ) (d : Spun D) → k ≡ i → get_or (set ys i p) k d ≡ p
  here k d e = ap (λ (n : ℕ). get_or (set ys i p) n d) e ∙ get_or-set_same ys i p d (omega (arith, lt, same_length))

  was : (k : ℕ) (d : Spun D) → k ≡ i → get_or ys i r ≡ get_or xs k d
  was k d e = at_hand d ∙ sym (ap (λ (n : ℕ). get_or xs n d) e)

  pub read_more : AreOnlyRead state xs ys → IsOnlyRead (state_of state (get_or ys i r)) (state_of state p) → volume_of p ≡ volume_of (get_or ys i r) → AreOnlyRead state xs (set ys i p)
  read_more so_far one volume = record {
    count = length-set ys i p ∙ same_length;
    volume = λ k d below. ⊎_elim
        (λ (e : k ≡ i). ap (λ (q : Spun D). volume_of q) (here k d e) ∙ volume ∙ ap (λ (q : Spun D). volume_of q) (was k d e))
        (λ (other : k ≡ i → ⊥). ap (λ (q : Spun D). volume_of q) (get_or-set_other ys i k p d other) ∙ so_far.volume k d below)
        (cases_eq k i);
    each = λ k d below. ⊎_elim
        (λ (e : k ≡ i). subst (λ (q : Spun D). IsOnlyRead (state_of state (get_or xs k d)) (state_of state q)) (sym (here k d e)) (subst (λ (q : Spun D). IsOnlyRead (state_of state q) (state_of state p)) (was k d e) one))
        (λ (other : k ≡ i → ⊥). subst (λ (q : Spun D). IsOnlyRead (state_of state (get_or xs k d)) (state_of state q)) (sym (get_or-set_other ys i k p d other)) (so_far.each k d below))
        (cases_eq k i);
  }

  pub calm_more : AreCalm state xs ys → (state_of state p).faults ≡ (state_of state (get_or ys i r)).faults → AreCalm state xs (set ys i p)
  calm_more so_far calm = λ k d below. ⊎_elim
      (λ (e : k ≡ i). ap (λ (q : Spun D). (state_of state q).faults) (here k d e) ∙ calm ∙ ap (λ (q : Spun D). (state_of state q).faults) (was k d e))
      (λ (other : k ≡ i → ⊥). ap (λ (q : Spun D). (state_of state q).faults) (get_or-set_other ys i k p d other) ∙ so_far k d below)
      (cases_eq k i)

  pub rest_more : (k : ℕ) (d : Spun D) → i + 1 ≤ k → get_or (set ys i p) k d ≡ get_or xs k d
  rest_more k d le = get_or-set_other ys i k p d (λ e. omega (arith, le, e)) ∙ rest k d (omega (arith, le))

  pub say_more : (volumes : ℕ) (heads : List SegHead) (head : SegHead) → SayHeads state volumes xs i heads
      → ((vs : List (Values Block)) → (state_of state (get_or ys i r)).values ≡ Some vs → HasHead volumes (reads vs) (segment_head head)) → IsConfigured volumes (segment_head head) → SayHeads state volumes xs (i + 1) (heads ++ head ∷ [])
  say_more volumes heads head so_far one known = record {
    count = length-append heads (head ∷ []) ∙ ap (λ (n : ℕ). n + 1) so_far.count;
    each = λ j d vs h below told at. ⊎_elim
        (λ (less : j < i). so_far.each j d vs h less told (sym (get_front heads head j (omega (arith, less, so_far.count))) ∙ at))
        (λ (more : i ≤ j).
        let e : j ≡ i = omega (arith, below, more) in
        let last : slice_get (heads ++ head ∷ []) j ≡ Some head = ap (λ (n : ℕ). slice_get (heads ++ head ∷ []) n) (e ∙ sym so_far.count) ∙ get_last heads head in
        let is : head ≡ h = same_Some head h (sym last ∙ at) in
        let values : (state_of state (get_or ys i r)).values ≡ Some vs = ap (λ (q : Spun D). (state_of state q).values) (was j d e) ∙ told in
        subst (λ (g : SegHead). HasHead volumes (reads vs) (segment_head g)) is (one vs values))
        (cases_lt j i);
    configured = λ j h at. ⊎_elim
        (λ (less : j < length heads). so_far.configured j h (sym (get_front heads head j less) ∙ at))
        (λ (more : length heads ≤ j).
        let below : j < length (heads ++ head ∷ []) = slice_get_within (heads ++ head ∷ []) j h at in
        let e : j ≡ length heads = omega (arith, more, below, length-append heads (head ∷ [])) in
        let is : head ≡ h = same_Some head h (sym (get_last heads head) ∙ sym (ap (λ (n : ℕ). slice_get (heads ++ head ∷ []) n) e) ∙ at) in
        subst (λ (g : SegHead). IsConfigured volumes (segment_head g)) is known)
        (cases_lt j (length heads));
  }

  pub always_more : (volumes : ℕ) (heads : List SegHead) (head : SegHead) → length heads ≡ i → AlwaysSay state volumes ys heads
      → ((c : List Block) → IsImageOf (state_of state p).values c → HasHead volumes c (segment_head head)) → AlwaysSay state volumes (set ys i p) (heads ++ head ∷ [])
  always_more volumes heads head count so_far one = λ j d h below at.
      let Says : Spun D → SegHead → Type 0 = λ q g. (c : List Block) → IsImageOf (state_of state q).values c → HasHead volumes c (segment_head g) in
      let within : j < length ys = omega (arith, below, length-set ys i p) in
      ⊎_elim
      (λ (less : j < i). subst (λ (q : Spun D). Says q h) (sym (get_or-set_other ys i j p d (λ e. omega (arith, less, e)))) (so_far j d h within (sym (get_front heads head j (omega (arith, less, count))) ∙ at)))
      (λ (more : i ≤ j).
      let more_heads : j < length (heads ++ head ∷ []) = slice_get_within (heads ++ head ∷ []) j h at in
      let e : j ≡ length heads = omega (arith, more, count, more_heads, length-append heads (head ∷ [])) in
      let is : head ≡ h = same_Some head h (sym (get_last heads head) ∙ sym (ap (λ (n : ℕ). slice_get (heads ++ head ∷ []) n) e) ∙ at) in
      subst (λ (q : Spun D). Says q h) (sym (here j d (e ∙ count))) (subst (λ (g : SegHead). Says p g) is one))
      (cases_lt j i)
