-- Trims of a group: each is allowed by what the records were at the last sync. Then any of them may have come to a disk, in any order, and the images hold the same array.
use Rattle.std.proofs.Common.{◌≡◌, ⊎_elim, ◌<◌, ℕ, Bool, true, false, not, ◌&&◌, ◌||◌, List, ◌∷◌, ◌++◌, refl, sym, ap, subst, ◌∙◌, arith, ltb}
use Rattle.std.specs.Prelude.{Contains}
use Rattle.std.proofs.lemmas.Bool.{false≢true, ltb-true, lt-ltb}
use Rattle.std.proofs.lemmas.List.{map-append}
use Rattle.wol_disk.specs.Disk.{Block}
use Rattle.wol_model.specs.Blocks.{Write}
use Rattle.wol_model.specs.Extents.{Cover, Extent, GivesUp, covers_of, has_newer, has_older, may_go}
use Rattle.wol_model.specs.Holding.{Holds as HoldsArray}
use Rattle.wol_model.proofs.Counts.{both, either, true_or}
use Rattle.wol_model.proofs.Steps.{giving_up_step}
use Rattle.wol_promise.proofs.Covers.{any_found, any_member}
use Rattle.wol_promise.proofs.Lists.{member_mid, member_swap}

-- block b of a record of this version may go
abbrev pub goes_at : List Cover → (homed : ℕ → Bool) → (version b : ℕ) → Bool
goes_at cs homed version b = has_newer cs version b || (homed b && not (has_older cs version b))

-- a record of this version covers it
pub record Keeps (cs : List Cover) (version b : ℕ) : Type 0 where
  pub cover : Cover
  pub among : Contains cs cover
  pub named : cover.version ≡ version
  pub keeps : cover.covers b ≡ true

or_left : (s t : Bool) → s ≡ true → (s || t) ≡ true
or_left s t is = λ i. is i || t

no_longer : (s t : Bool) → (t ≡ true → s ≡ true) → not s ≡ true → not t ≡ true
no_longer s true so none = absurd (false≢true (sym (ap (λ (t : Bool). not t) (so refl)) ∙ none))
no_longer s false so none = refl

-- ---- one trim

module _ (front back : List Cover) (r s : Cover) (homed given : ℕ → Bool) (version : s.version ≡ r.version) (covers : (b : ℕ) → s.covers b ≡ (r.covers b && not (given b)))
    (allowed : (b : ℕ) → given b ≡ true → goes_at (front ++ r ∷ back) homed r.version b ≡ true) where
  abbrev old : List Cover
  old = front ++ r ∷ back

  abbrev new : List Cover
  new = front ++ s ∷ back

  covered_before : (b : ℕ) → s.covers b ≡ true → r.covers b ≡ true
  covered_before b is = (both (r.covers b) (not (given b)) (sym (covers b) ∙ is)).0

  pub kept_before : (v b : ℕ) → Keeps new v b → Keeps old v b
  kept_before v b k = ⊎_elim
      (λ there. record { cover = k.cover; among = there; named = k.named; keeps = k.keeps })
      (λ same. record { cover = r; among = member_mid front r back; named = sym version ∙ ap (λ (c : Cover). c.version) same ∙ k.named; keeps = covered_before b (ap (λ (c : Cover). c.covers b) same ∙ k.keeps) })
      (member_swap front s r back k.cover k.among)

  older_before : (v b : ℕ) → has_older new v b ≡ true → has_older old v b ≡ true
  older_before v b is =
      let f = any_found (λ (c : Cover). c.covers b && ltb c.version v) new is in
      let parts = both (f.item.covers b) (ltb f.item.version v) f.passes in
      ⊎_elim
      (λ there. any_member (λ (c : Cover). c.covers b && ltb c.version v) old f.item there f.passes)
      (λ same. any_member (λ (c : Cover). c.covers b && ltb c.version v) old r (member_mid front r back)
      (λ i. covered_before b (ap (λ (c : Cover). c.covers b) same ∙ parts.0) i && (ap (λ (n : ℕ). ltb n v) (sym version ∙ ap (λ (c : Cover). c.version) same) ∙ parts.1) i))
      (member_swap front s r back f.item f.among)

  -- a newer one that isn't the trimmed one is there still
  module _ (v b : ℕ) (t : Cover) (there : Contains old t) (keeps : t.covers b ≡ true) (newer : v < t.version) where
    stays_newer : Contains new t → has_newer new v b ≡ true
    stays_newer has = any_member (λ (c : Cover). c.covers b && ltb v c.version) new t has (λ i. keeps i && lt-ltb v t.version newer i)

  -- of a block that was kept, what could go may go still
  pub goes_then : (v b : ℕ) → Keeps new v b → goes_at old homed v b ≡ true → goes_at new homed v b ≡ true
  goes_then v b k is = ⊎_elim newer_one home_one (either (has_newer old v b) (homed b && not (has_older old v b)) is)
    where
      q : Keeps old v b
      q = kept_before v b k

      home_one : (homed b && not (has_older old v b)) ≡ true → goes_at new homed v b ≡ true
      home_one h =
          let parts = both (homed b) (not (has_older old v b)) h in
          true_or (has_newer new v b) (homed b && not (has_older new v b)) (λ i. parts.0 i && no_longer (has_older old v b) (has_older new v b) (older_before v b) parts.1 i)

      newer_one : has_newer old v b ≡ true → goes_at new homed v b ≡ true
      newer_one n =
          let f = any_found (λ (c : Cover). c.covers b && ltb v c.version) old n in
          let parts = both (f.item.covers b) (ltb v f.item.version) f.passes in
          let lt : v < f.item.version = ltb-true v f.item.version parts.1 in
          ⊎_elim
          (λ there. or_left (has_newer new v b) (homed b && not (has_older new v b)) (stays_newer v b f.item f.among parts.0 lt there))
          (λ same. of_trimmed (given b) refl (ap (λ (c : Cover). c.covers b) same ∙ parts.0) (subst (λ (c : Cover). v < c.version) (sym same) lt))
          (member_swap front r s back f.item f.among)
        where
          of_trimmed : (g : Bool) → given b ≡ g → r.covers b ≡ true → v < r.version → goes_at new homed v b ≡ true
          of_trimmed false kept here lt =
              let keeps : s.covers b ≡ true = covers b ∙ (λ i. here i && not (kept i)) in
              or_left (has_newer new v b) (homed b && not (has_older new v b))
              (any_member (λ (c : Cover). c.covers b && ltb v c.version) new s (member_mid front s back) (λ i. keeps i && lt-ltb v s.version (subst (λ (n : ℕ). v < n) (sym version) lt) i))
          of_trimmed true gone here lt = ⊎_elim
              (λ above.
              let f = any_found (λ (c : Cover). c.covers b && ltb r.version c.version) old above in
              let parts = both (f.item.covers b) (ltb r.version f.item.version) f.passes in
              let more : r.version < f.item.version = ltb-true r.version f.item.version parts.1 in
              ⊎_elim
              (λ there. or_left (has_newer new v b) (homed b && not (has_older new v b)) (stays_newer v b f.item f.among parts.0 (omega arith) there))
              (λ same. absurd (let e : r.version ≡ f.item.version = ap (λ (c : Cover). c.version) same in omega (arith, e, more)))
              (member_swap front r s back f.item f.among))
              -- it was the newest, so no older one kept the block; but this one does
              (λ h.
              let older : has_older old r.version b ≡ true = any_member (λ (c : Cover). c.covers b && ltb c.version r.version) old q.cover q.among
              (λ i. q.keeps i && lt-ltb q.cover.version r.version (subst (λ (n : ℕ). n < r.version) (sym q.named) lt) i) in
              absurd (false≢true (sym (ap (λ (t : Bool). not t) older) ∙ (both (homed b) (not (has_older old r.version b)) h).1)))
              (either (has_newer old r.version b) (homed b && not (has_older old r.version b)) (allowed b gone))

-- ---- a group

-- what is left of records when some trims have come to their disks, each of which is allowed by what the records were at first
pub data LeftOf (homed : ℕ → Bool) (at_first : List Extent) : List Extent → Type 0 where
  as_they_were : LeftOf homed at_first at_first
  one_more : (front back : List Extent) (r s : Extent) (given : ℕ → Bool) → LeftOf homed at_first (front ++ r ∷ back)
      → ((b : ℕ) → given b ≡ true → may_go (covers_of at_first) homed r.cover b ≡ true) → GivesUp given r s → LeftOf homed at_first (front ++ s ∷ back)

covers_joined : (front : List Extent) (r : Extent) (back : List Extent) → covers_of (front ++ r ∷ back) ≡ covers_of front ++ r.cover ∷ covers_of back
covers_joined front r back = map-append (λ (e : Extent). e.cover) front (r ∷ back)

module _ (homed : ℕ → Bool) (at_first : List Extent) where
  -- what may go at first may go still, of each block that is kept
  goes_still : (rs : List Extent) → LeftOf homed at_first rs → (v b : ℕ) → Keeps (covers_of rs) v b → goes_at (covers_of at_first) homed v b ≡ true → goes_at (covers_of rs) homed v b ≡ true
  goes_still rs as_they_were v b k is = is
  goes_still rs (one_more front back r s given left allowed gives) v b k is =
      let so : (c : ℕ) → given c ≡ true → goes_at (covers_of front ++ r.cover ∷ covers_of back) homed r.cover.version c ≡ true = λ c gone.
      let parts = both (r.cover.covers c) (goes_at (covers_of at_first) homed r.cover.version c) (allowed c gone) in
      subst (λ (l : List Cover). goes_at l homed r.cover.version c ≡ true) (covers_joined front r back)
      (goes_still (front ++ r ∷ back) left r.cover.version c (subst (λ (l : List Cover). Keeps l r.cover.version c) (sym (covers_joined front r back)) (record { cover = r.cover; among = member_mid (covers_of front) r.cover (covers_of back); named = refl; keeps = parts.0 })) parts.1) in
      let here : Keeps (covers_of front ++ s.cover ∷ covers_of back) v b = subst (λ (l : List Cover). Keeps l v b) (covers_joined front s back) k in
      let was = kept_before (covers_of front) (covers_of back) r.cover s.cover homed given gives.version gives.keeps so v b here in
      subst (λ (l : List Cover). goes_at l homed v b ≡ true) (sym (covers_joined front s back))
      (goes_then (covers_of front) (covers_of back) r.cover s.cover homed given gives.version gives.keeps so v b here
      (subst (λ (l : List Cover). goes_at l homed v b ≡ true) (covers_joined front r back)
      (goes_still (front ++ r ∷ back) left v b (subst (λ (l : List Cover). Keeps l v b) (sym (covers_joined front r back)) was) is)))

  -- whichever trims of the group are there, the images hold the array
  pub group_holds : (a : List Block) (ws : List Write) (next : ℕ) (home : List Block) (rs : List Extent) → LeftOf homed at_first rs → HoldsArray a ws next home at_first homed → HoldsArray a ws next home rs homed
  group_holds a ws next home rs as_they_were holds = holds
  group_holds a ws next home rs (one_more front back r s given left allowed gives) holds =
      giving_up_step a ws next home front back homed given r s (group_holds a ws next home (front ++ r ∷ back) left holds)
      (λ b gone. let parts = both (r.cover.covers b) (goes_at (covers_of at_first) homed r.cover.version b) (allowed b gone) in
      (λ i. parts.0 i && goes_still (front ++ r ∷ back) left r.cover.version b (subst (λ (l : List Cover). Keeps l r.cover.version b) (sym (covers_joined front r back)) (record { cover = r.cover; among = member_mid (covers_of front) r.cover (covers_of back); named = refl; keeps = parts.0 })) parts.1 i))
      gives
