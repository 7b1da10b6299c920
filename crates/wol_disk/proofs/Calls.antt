-- What a caller knows of the images after its calls.
use Rattle.std.proofs.Common.{◌≡◌, ℕ, ◌≤◌, List, take, Option, None, Some, option_map, Result, Ok, Err, OnOk, OnErr, refl, sym, ◌∙◌, ap, subst}
use Rattle.wol_disk.specs.Disk.{Block, State, Passes, IsDisk, LeavesOnly, Values, only, settled, reads, put, added, AddsSomeOf, IsImageOf, IsBlend}
use Rattle.wol_disk.proofs.Moments.{goes_on}
use Rattle.wol_disk.proofs.Images.{only_image, reads_only, reads_added, settled_image, image_of_some, adds_either, blend_front, put_front}

module _ {B : Type 0} where
  -- a disk on which everything is synced has one image
  pub settled_only : (o : Option (List (Values B))) (bs c : List B) → o ≡ Some (only bs) → IsImageOf o c → c ≡ bs
  settled_only o bs c e i = let P : Option (List (Values B)) → Type 0 = λ l. IsImageOf l c in only_image bs c (subst P e i)

  some_image : (at : ℕ) (xs : List B) (old new : Option (List (Values B))) (c : List B) → AddsSomeOf at xs old new → IsImageOf new c → (d : List B) × IsImageOf old d × IsBlend d (put at xs d) c
  some_image at xs None new c a i = let P : Option (List (Values B)) → Type 0 = λ l. IsImageOf l c in absurd (subst P a i)
  some_image at xs (Some vs) None c a i = absurd a
  some_image at xs (Some vs) (Some ws) c a i = image_of_some at xs vs ws c a i

  -- after a write, whatever it answered, each image is a blend of one before and that one overwritten
  pub after_write : {T E : Type 0} (r : Result T E) (at : ℕ) (xs : List B) (old new : Option (List (Values B))) (c : List B) → OnOk r (new ≡ option_map (added at xs) old) → OnErr r (AddsSomeOf at xs old new)
      → IsImageOf new c → (d : List B) × IsImageOf old d × IsBlend d (put at xs d) c
  after_write r at xs old new c ok err i = some_image at xs old new c (adds_either r at xs old new ok err) i

  synced_image : (old : Option (List (Values B))) (c : List B) → IsImageOf (option_map settled old) c → IsImageOf old c
  synced_image None c i = i
  synced_image (Some vs) c i = settled_image vs c i

  -- after a sync, whatever it answered, there is no new image
  pub after_sync : {T E : Type 0} (r : Result T E) (old new : Option (List (Values B))) (c : List B) → OnOk r (new ≡ option_map settled old) → OnErr r (new ≡ old) → IsImageOf new c → IsImageOf old c
  after_sync (Ok x) old new c ok err i = let P : Option (List (Values B)) → Type 0 = λ l. IsImageOf l c in synced_image old c (subst P ok i)
  after_sync (Err e) old new c ok err i = let P : Option (List (Values B)) → Type 0 = λ l. IsImageOf l c in subst P err i

  pub added_only : (at : ℕ) (xs bs : List B) → settled (added at xs (only bs)) ≡ only (put at xs bs)
  added_only at xs bs = ap only (reads_added at xs (only bs) ∙ ap (put at xs) (reads_only bs))

  -- one write and a sync
  pub settled_write : (at : ℕ) (xs bs : List B) (old mid new : Option (List (Values B))) → old ≡ Some (only bs) → mid ≡ option_map (added at xs) old → new ≡ option_map settled mid → new ≡ Some (only (put at xs bs))
  settled_write at xs bs old mid new is wrote synced = synced ∙ ap (option_map settled) (wrote ∙ ap (option_map (added at xs)) is) ∙ ap Some (added_only at xs bs)

  -- the same from any disk
  pub synced_write : (at : ℕ) (xs : List B) (old mid new : Option (List (Values B))) → mid ≡ option_map (added at xs) old → new ≡ option_map settled mid → new ≡ option_map (λ vs. only (put at xs (reads vs))) old
  synced_write at xs None mid new wrote synced = synced ∙ ap (option_map settled) wrote
  synced_write at xs (Some vs) mid new wrote synced = synced ∙ ap (option_map settled) wrote ∙ ap (λ l. Some (only l)) (reads_added at xs vs)

  -- an image of a disk that was synced after writes
  pub settled_from : (f : List B → List B) (o : Option (List (Values B))) (e : List B) → IsImageOf (option_map (λ vs. only (f (reads vs))) o) e → (vs : List (Values B)) × (o ≡ Some vs) × (e ≡ f (reads vs))
  settled_from f None e i = absurd i
  settled_from f (Some vs) e i = (vs, refl, only_image (f (reads vs)) e i)

  -- two writes and a sync
  pub settled_writes : (at : ℕ) (xs : List B) (at' : ℕ) (ys bs : List B) (old mid more new : Option (List (Values B))) → old ≡ Some (only bs) → mid ≡ option_map (added at xs) old → more ≡ option_map (added at' ys) mid
      → new ≡ option_map settled more → new ≡ Some (only (put at' ys (put at xs bs)))
  settled_writes at xs at' ys bs old mid more new is wrote wrote' synced =
      synced ∙ ap (option_map settled) (wrote' ∙ ap (option_map (added at' ys)) (wrote ∙ ap (option_map (added at xs)) is))
      ∙ ap (λ l. Some (only l)) (reads_added at' ys (added at xs (only bs)) ∙ ap (put at' ys) (reads_added at xs (only bs) ∙ ap (put at xs) (reads_only bs)))

  -- a write of what stands from `at` on leaves the front of each image as it was
  pub front_kept : (k at : ℕ) (xs d c : List B) → k ≤ at → IsBlend d (put at xs d) c → take k c ≡ take k d
  front_kept k at xs d c le b = blend_front k d (put at xs d) c (sym (put_front at k xs d le)) b

-- The moments of a run, one call further. Each is one line of a caller's proof.
-- An image at the moment that was reached has P.
pub now_leaves : {start old : State} {P : List Block → Type 0} → LeavesOnly start old P → IsDisk old → (c : List Block) → IsImageOf old.values c → P c
now_leaves {start} l s c i = l.each c (s.counts_now start.clock c l.later i)

module _ {start old new : State} {P : List Block → Type 0} {F : Type 0} where
  -- a write: P stays where it stays under a blend with the blocks written
  pub write_goes_on : {T E : Type 0} (r : Result T E) (at : ℕ) (xs : List Block) → LeavesOnly start old P → IsDisk old → OnOk r (new.values ≡ option_map (added at xs) old.values)
      → OnErr r (AddsSomeOf at xs old.values new.values) → Passes old new F → ((d c : List Block) → P d → IsImageOf old.values d → IsBlend d (put at xs d) c → P c) → LeavesOnly start new P
  write_goes_on r at xs l s ok err passes stays = goes_on l passes (λ c i.
      let w = after_write r at xs old.values new.values c ok err i in
      stays w.0 c (now_leaves l s w.0 w.1) w.1 w.2)

  -- a sync, and a read, leave no new image
  pub sync_goes_on : {T E : Type 0} (r : Result T E) → LeavesOnly start old P → IsDisk old → OnOk r (new.values ≡ option_map settled old.values) → OnErr r (new.values ≡ old.values) → Passes old new F → LeavesOnly start new P
  sync_goes_on r l s ok err passes = goes_on l passes (λ c i. now_leaves l s c (after_sync r old.values new.values c ok err i))

  pub read_goes_on : LeavesOnly start old P → IsDisk old → new.values ≡ old.values → Passes old new F → LeavesOnly start new P
  read_goes_on l s same passes = goes_on l passes (λ c i. now_leaves l s c (let Q : Option (List (Values Block)) → Type 0 = λ o. IsImageOf o c in subst Q same i))
