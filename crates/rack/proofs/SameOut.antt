-- Lists of which the same images are out.
use Rattle.rack.proofs.ClosingBasics.{◌≡◌, inl, inr, ⊎_elim, ℕ, zero, suc, Bool, false, not, List, [], ◌∷◌, length, map, get_or, Option, None, Some, refl, sym, ap, ◌∙◌, subst, arith, is_some}
use Rattle.rack.proofs.ClosingTerms.{State, Images, accepted, Told, BayState, Config, VolumeConf, images_read, RefusesVolume, image_here, IsImageOut, ImageRest, VolumeFault, Absent, WrongLength}
use Rattle.rack.proofs.ClosingTerms.{Refused, LabelFault, BayFailed}
use Rattle.manager_recovery.specs.declared.opening.Opening.{Opening}
use Rattle.rack.specs.Owners.{images_taken, IsOpeningOf}

module _ {D : Type 0} where
  -- lists of one length whose images are out at the same places
  pub same_out : (xs ys : List (Option (ImageRest D))) → length xs ≡ length ys → ((k : ℕ) → is_some (image_here xs k) ≡ is_some (image_here ys k))
      → map (λ (i : Option (ImageRest D)). is_some i) xs ≡ map (λ (i : Option (ImageRest D)). is_some i) ys
  same_out [] [] e each = refl
  same_out [] (b ∷ ys) e each = absurd (omega (arith, e))
  same_out (a ∷ xs) [] e each = absurd (omega (arith, e))
  same_out (a ∷ xs) (b ∷ ys) e each = let rest = same_out xs ys (omega (arith, e)) (λ k. each (suc k)) in λ i. each 0 i ∷ rest i

  pub out_bit : (xs : List (Option (ImageRest D))) (k : ℕ) → get_or (map (λ (i : Option (ImageRest D)). is_some i) xs) k false ≡ is_some (image_here xs k)
  out_bit [] k = refl
  out_bit (x ∷ xs) zero = refl
  out_bit (x ∷ xs) (suc k) = out_bit xs k

  module _ (xs ys : List (Option (ImageRest D))) (same : map (λ (i : Option (ImageRest D)). is_some i) xs ≡ map (λ (i : Option (ImageRest D)). is_some i) ys) where
    pub out_at : (k : ℕ) → is_some (image_here xs k) ≡ is_some (image_here ys k)
    out_at k = sym (out_bit xs k) ∙ ap (λ (l : List Bool). get_or l k false) same ∙ out_bit ys k

    pub out_too : (k : ℕ) → IsImageOut xs k → IsImageOut ys k
    out_too k there = sym (out_at k) ∙ there

    pub none_too : (k : ℕ) → image_here xs k ≡ None → image_here ys k ≡ None
    none_too k none = go (image_here ys k) refl
      where
        go : (x : Option (ImageRest D)) → image_here ys k ≡ x → image_here ys k ≡ None
        go None e = e
        go (Some x) e = let no : is_some (image_here ys k) ≡ false = sym (out_at k) ∙ ap is_some none in absurd (let there = ap is_some e in cc (no, there))

    pub taken_same : (config : Config) (t : Told) → images_taken config xs t ≡ images_taken config ys t
    taken_same config t = let bits = out_at in ap (λ (refused : ℕ → Bool). accepted refused (images_read config t)) (λ i k. not (bits k i))

    pub opening_too : (state : D → State) (config : Config) (t : Told) (v : ℕ) (o : Opening D) → IsOpeningOf state config xs (images_taken config xs t) v o → IsOpeningOf state config ys (images_taken config ys t) v o
    opening_too state config t v o is =
        let moved = subst (λ (images : Images). IsOpeningOf state config xs images v o) (taken_same config t) is in
        record { id = moved.id; shape = moved.shape; label = moved.label; view = moved.view; present = moved.present ∙ same; most = moved.most; home = moved.home; owned = moved.owned }

    -- a refusal stays one
    pub refuses_too : (tells : Bool) (state : D → State) (config : Config) (b b1 : BayState) (k : ℕ) (v : VolumeConf) (f : VolumeFault) → RefusesVolume tells state config xs b b1 k v f → RefusesVolume tells state config ys b b1 k v f
    refuses_too tells state config b b1 k v Absent r = (none_too k r.0, r.1)
    refuses_too tells state config b b1 k v (WrongLength bytes) r = (none_too k r.0, r.1)
    refuses_too tells state config b b1 k v BayFailed r = ((none_too k r.0.0, r.0.1), r.1)
    refuses_too tells state config b b1 k v LabelFault r = record { not_out = none_too k r.not_out; image_fault = r.image_fault; is_fault = r.is_fault; said = r.said; cause = r.cause; faulty = r.faulty }
    refuses_too tells state config b b1 k v (Refused why) r =
        ⊎_elim
        (λ i. inl (record { not_out = none_too k i.not_out; image_fault = i.image_fault; is_fault = i.is_fault; said = i.said; cause = i.cause; faulty = i.faulty }))
        (λ o. inr (record { is_out = out_too k o.is_out; before = o.before; after = o.after; of = λ t telling told. opening_too state config t k o.before (o.of t telling told); refuses = o.refuses }))
        r
