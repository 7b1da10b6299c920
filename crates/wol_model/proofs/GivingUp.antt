-- Giving up blocks that may go changes nothing.
use Rattle.std.proofs.Common.{◌≡◌, ◌⊎◌, inl, inr, ℕ, Bool, true, false, cond, not, ◌&&◌, ◌||◌, List, ◌∷◌, ◌++◌, Option, None, Some, refl, sym, ap, ◌∙◌, ltb, eqb}
use Rattle.std.specs.Prelude.{slice_get, unwrap_or}
use Rattle.std.specs.Option.{option_and_then}
use Rattle.wol_disk.specs.Disk.{Block}
use Rattle.wol_model.proofs.Newest.{newest_of, above, newest-append, outweighed, in_place, above_sides, newer_is_above, none_covers, any_parts, or_false, has_same, no_twin}
use Rattle.wol_model.proofs.Overlay.{same_overlay}
use Rattle.wol_model.specs.Blocks.{block_of}
use Rattle.wol_model.specs.Extents.{Cover, Extent, newer_of, newest, newest_block, has_newer, has_older, AreDistinct, may_go, covers_of, with_extents, GivesUp}
use Rattle.wol_model.specs.RecoveryLaws.{GivingUp}

abbrev hd : Extent → Cover
hd r = r.cover

homed_alone : (c n h o : Bool) → (c && (n || (h && not o))) ≡ true → n ≡ false → (h ≡ true) × (o ≡ false)
homed_alone true false true false e k = (refl, refl)
homed_alone true false true true e k = cc
homed_alone true false false o e k = cc
homed_alone true true h o e k = cc
homed_alone false n h o e k = cc

not_covered : (c n : Bool) → (c && n) ≡ true → c ≡ false → ⊥
not_covered true n e k = cc
not_covered false n e k = cc

module _ (front back : List Extent) (r s : Extent) (homed given : ℕ → Bool)
    (one : AreDistinct (covers_of (front ++ r ∷ back)))
    (may : (b : ℕ) → given b ≡ true → may_go (covers_of (front ++ r ∷ back)) homed r.cover b ≡ true)
    (gives : GivesUp given r s) where
  -- with s the block stays what it was, or it is homed and no record covers it
  abbrev Fate : ℕ → Type 0
  Fate b = (newest_block (front ++ s ∷ back) b ≡ newest_block (front ++ r ∷ back) b) ⊎ ((homed b ≡ true) × (newest_block (front ++ s ∷ back) b ≡ None))

  module _ (b : ℕ) where
    abbrev of : Extent → Option Block
    of t = block_of t.first t.blocks b

    abbrev F : Option Extent
    F = newest hd front b

    abbrev B : Option Extent
    B = newest hd back b

    whole : (t : Extent) (c : Bool) → t.cover.covers b ≡ c → newest_block (front ++ t ∷ back) b ≡ option_and_then of (newest_of hd F (cond c (newer_of hd t B) B))
    unfolding newest_block
    whole t c is = ap (option_and_then of) (newest-append hd front (t ∷ back) b) ∙ ap (λ (d : Bool). option_and_then of (newest_of hd F (cond d (newer_of hd t B) B))) is

    same_blocks : of s ≡ of r
    same_blocks = λ i. block_of (gives.first i) (gives.blocks i) b

    -- a block that the record goes on keeping, or never kept
    stays : (c : Bool) → r.cover.covers b ≡ c → given b ≡ false → newest_block (front ++ s ∷ back) b ≡ newest_block (front ++ r ∷ back) b
    stays true c g =
        let c' : s.cover.covers b ≡ true = gives.keeps b ∙ (λ i. c i && not (g i)) in
        whole s true c' ∙ in_place hd of r s F B gives.version same_blocks ∙ sym (whole r true c)
    stays false c g =
        let c' : s.cover.covers b ≡ false = gives.keeps b ∙ (λ i. c i && not (g i)) in
        whole s false c' ∙ sym (whole r false c)

    above_whole : r.cover.covers b ≡ true → has_newer (covers_of (front ++ r ∷ back)) r.cover.version b ≡ (above hd r.cover.version F || above hd r.cover.version B)
    above_whole c = newer_is_above hd (front ++ r ∷ back) r.cover.version b
        ∙ ap (above hd r.cover.version) (newest-append hd front (r ∷ back) b ∙ ap (λ (d : Bool). newest_of hd F (cond d (newer_of hd r B) B)) c)
        ∙ above_sides hd r F B

    goes : r.cover.covers b ≡ true → given b ≡ true → (n : Bool) → (above hd r.cover.version F || above hd r.cover.version B) ≡ n
        → Fate b
    goes c g true n =
        let c' : s.cover.covers b ≡ false = gives.keeps b ∙ (λ i. c i && not (g i)) in
        inl (whole s false c' ∙ ap (option_and_then of) (sym (outweighed hd r F B n)) ∙ sym (whole r true c))
    goes c g false n = inr (alone.0, after_is)
      where
        alone : (homed b ≡ true) × (has_older (covers_of (front ++ r ∷ back)) r.cover.version b ≡ false)
        alone = homed_alone (r.cover.covers b) (has_newer (covers_of (front ++ r ∷ back)) r.cover.version b) (homed b) (has_older (covers_of (front ++ r ∷ back)) r.cover.version b) (may b g) (above_whole c ∙ n)

        sides : (above hd r.cover.version F ≡ false) × (above hd r.cover.version B ≡ false)
        sides = or_false (above hd r.cover.version F) (above hd r.cover.version B) n

        older : (has_older (covers_of front) r.cover.version b ≡ false) × (has_older (covers_of (r ∷ back)) r.cover.version b ≡ false)
        older = or_false (has_older (covers_of front) r.cover.version b) (has_older (covers_of (r ∷ back)) r.cover.version b) (sym (any_parts hd (λ h. h.covers b && ltb h.version r.cover.version) front (r ∷ back)) ∙ alone.1)

        older_back : has_older (covers_of back) r.cover.version b ≡ false
        older_back = (or_false (r.cover.covers b && ltb r.cover.version r.cover.version) (has_older (covers_of back) r.cover.version b) older.1).1

        same : (has_same (covers_of front) r.cover.version b ≡ false) × (has_same (covers_of back) r.cover.version b ≡ false)
        same = or_false (has_same (covers_of front) r.cover.version b) (has_same (covers_of back) r.cover.version b) (sym (any_parts hd (λ h. h.covers b && eqb h.version r.cover.version) front back) ∙ no_twin hd front r back b c one)

        no_front : F ≡ None
        no_front = none_covers hd front r.cover.version b (newer_is_above hd front r.cover.version b ∙ sides.0) older.0 same.0

        no_back : B ≡ None
        no_back = none_covers hd back r.cover.version b (newer_is_above hd back r.cover.version b ∙ sides.1) older_back same.1

        after_is : newest_block (front ++ s ∷ back) b ≡ None
        after_is = whole s false (gives.keeps b ∙ (λ i. c i && not (g i))) ∙ (λ i. option_and_then of (newest_of hd (no_front i) (no_back i)))

    at : (g c : Bool) → given b ≡ g → r.cover.covers b ≡ c → Fate b
    at false c g k = inl (stays c k g)
    at true true g k = goes k g (above hd r.cover.version F || above hd r.cover.version B) refl
    at true false g k = absurd (not_covered (r.cover.covers b) (has_newer (covers_of (front ++ r ∷ back)) r.cover.version b || (homed b && not (has_older (covers_of (front ++ r ∷ back)) r.cover.version b))) (may b g) k)

    pub fate : Fate b
    fate = at (given b) (r.cover.covers b) refl refl

pub giving_up_lem : GivingUp
unfolding with_extents
giving_up_lem home front back r s homed given holds one may gives =
    same_overlay home (newest_block (front ++ s ∷ back)) (newest_block (front ++ r ∷ back)) (λ b x here. at b x here (fate front back r s homed given one may gives b))
  where
    kept : (b : ℕ) (x : Block) (o : Option Block) → slice_get home b ≡ Some x → homed b ≡ true → newest_block (front ++ r ∷ back) b ≡ o → x ≡ unwrap_or o x
    kept b x None here is_home is = refl
    kept b x (Some y) here is_home is = holds b y x is_home is here

    at : (b : ℕ) (x : Block) → slice_get home b ≡ Some x → (newest_block (front ++ s ∷ back) b ≡ newest_block (front ++ r ∷ back) b) ⊎ ((homed b ≡ true) × (newest_block (front ++ s ∷ back) b ≡ None))
        → unwrap_or (newest_block (front ++ s ∷ back) b) x ≡ unwrap_or (newest_block (front ++ r ∷ back) b) x
    at b x here (inl same) = ap (λ (o : Option Block). unwrap_or o x) same
    at b x here (inr (is_home, none)) = ap (λ (o : Option Block). unwrap_or o x) none ∙ kept b x (newest_block (front ++ r ∷ back) b) here is_home refl
