-- Parts that were read, and what the first block of a segment says.
use Rattle.std.proofs.Common.{◌≡◌, ◌⊎◌, inl, inr, ⊎_elim, ℕ, ◌<◌, ◌≤◌, List, [], ◌∷◌, length, take, get_or, Option, Some, option_map, Result, Ok, Err, OnOk, OnErr, IfSome, sym, ap, ◌∙◌, subst, arith}
use Rattle.std.specs.Prelude.{slice_get}
use Rattle.std.proofs.lemmas.Option.{same_Some}
use Rattle.wol_disk.specs.Disk.{Block, Values, State, Passes, IsDisk, IsImageOf, settled, reads}
use Rattle.wol_disk.proofs.Moments.{started}
use Rattle.wol_disk.proofs.Calls.{sync_goes_on, read_goes_on, settled_from}
use Rattle.wol_model.specs.Heads.{SegmentHead, Owned, SpellsSegment}
use Rattle.wol_model.proofs.Spellings.{one_segment_head}
use Rattle.volume_images.specs.Accepted.{HasHead, IsHeadless, IsConfigured}
use Rattle.volume_images.specs.Reads.{IsOnlyRead}

-- a sync
pub synced_only : {T E F : Type 0} {old new : State} (r : Result T E) → IsDisk old → OnOk r (new.values ≡ option_map settled old.values) → OnErr r (new.values ≡ old.values) → Passes old new F → IsOnlyRead old new
synced_only {old = old} {new = new} r sound ok err passes = record {
  size = passes.same_size;
  values = go r ok err;
  any_moment = sync_goes_on r (started sound (λ c i. i)) sound ok err passes;
}
  where
    go : {T E : Type 0} (r : Result T E) → OnOk r (new.values ≡ option_map settled old.values) → OnErr r (new.values ≡ old.values) → (new.values ≡ old.values) ⊎ (new.values ≡ option_map settled old.values)
    go (Ok v) ok err = inr ok
    go (Err e) ok err = inl err

-- and a read more
pub read_only : {F : Type 0} {old mid new : State} → IsOnlyRead old mid → IsDisk mid → new.values ≡ mid.values → Passes mid new F → IsOnlyRead old new
read_only so_far sound same passes = record {
  size = passes.same_size ∙ so_far.size;
  values = ⊎_elim (λ e. inl (same ∙ e)) (λ e. inr (same ∙ e)) so_far.values;
  any_moment = read_goes_on so_far.any_moment sound same passes;
}

-- what the first block says depends on it alone
pub same_head : (volumes : ℕ) (bs cs : List Block) (h : SegmentHead) → slice_get bs 0 ≡ slice_get cs 0 → HasHead volumes bs h → HasHead volumes cs h
same_head volumes bs cs h e has = record { block = has.block; first = sym e ∙ has.first; spelled = has.spelled; configured = has.configured }

pub same_headless : (volumes : ℕ) (bs cs : List Block) → slice_get bs 0 ≡ slice_get cs 0 → IsHeadless volumes bs → IsHeadless volumes cs
same_headless volumes bs cs e none = λ h has. none h (same_head volumes cs bs h (sym e) has)

-- a head of another owner than a configured one is none
pub not_configured : (volumes owner : ℕ) (b : Block) (h : SegmentHead) → HasHead volumes (b ∷ []) h → SpellsSegment b (Owned owner) → volumes ≤ owner → ⊥
not_configured volumes owner b h has spelled le =
    let same : b ≡ has.block = same_Some b has.block has.first in
    let is : h ≡ Owned owner = one_segment_head b h (Owned owner) (subst (λ (c : Block). SpellsSegment c h) (sym same) has.spelled) spelled in
    let lt : owner < volumes = subst (λ (k : SegmentHead). IsConfigured volumes k) is has.configured in
    omega (arith, lt, le)

-- after a sync every image has the head that was read
pub always_head : (volumes : ℕ) (old new : Option (List (Values Block))) (h : SegmentHead) → new ≡ option_map settled old
    → ((vs : List (Values Block)) → old ≡ Some vs → HasHead volumes (reads vs) h) → (c : List Block) → IsImageOf new c → HasHead volumes c h
always_head volumes old new h synced has c i =
    let f = settled_from (λ (bs : List Block). bs) old c (subst (λ (o : Option (List (Values Block))). IsImageOf o c) synced i) in
    subst (λ (bs : List Block). HasHead volumes bs h) (sym f.2) (has f.0 f.1)

-- the first block as it is read after a sync
pub first_read : (old mid : Option (List (Values Block))) (vs : List (Values Block)) (out : List Block) → 1 ≤ length vs → old ≡ Some vs → mid ≡ option_map settled old → IfSome mid (λ ws. out ≡ take 1 (reads ws))
    → slice_get (get_or out 0 [] ∷ []) 0 ≡ slice_get (reads vs) 0
first_read old mid vs out few is synced content =
    let P : Option (List (Values Block)) → Type 0 = λ o. IfSome o (λ ws. out ≡ take 1 (reads ws)) in
    go vs few (subst P (synced ∙ ap (option_map settled) is) content)
  where
    go : (vs : List (Values Block)) → 1 ≤ length vs → out ≡ take 1 (reads (settled vs)) → slice_get (get_or out 0 [] ∷ []) 0 ≡ slice_get (reads vs) 0
    go [] few e = absurd (omega (arith, few))
    go (v ∷ vs) few e = ap (λ (l : List Block). slice_get (get_or l 0 [] ∷ []) 0) e
