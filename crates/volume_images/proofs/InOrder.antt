-- Volumes that are formatted one after the other.
use Rattle.std.proofs.Common.{◌≡◌, ◌≢◌, inl, inr, ⊎_elim, ℕ, ◌+◌, ◌<◌, ◌≤◌, List, [], length, get_or, Option, None, Some, option_map, IfSome, Result, Ok, Err, refl, sym, ap, ◌∙◌, subst, arith, append-nil}
use Rattle.std.proofs.lemmas.Bool.{cases_lt, cases_eq}
use Rattle.std.proofs.lemmas.List.{get_or_default}
use Rattle.wol_disk.proofs.Images.{only_image}
use Rattle.wol_bay.specs.Bay.{Name, Told, BayState, at_name, outs, IsHome}
use Rattle.wol_config.specs.declared.config.Config.{Config}
use Rattle.wol_config.specs.declared.config.VolumeConf.{VolumeConf}
use Rattle.wol_config.specs.Configs.{IsValid}
use Rattle.volume_images.specs.Formatted.{formatted}
use Rattle.volume_images.specs.Left.{IsTold, CameBack, IsUnfinished, Unfinished, LeavesFailed, LeavesImage, settled_image}
use Rattle.volume_images.specs.Volumes.{shape_in}
use Rattle.volume_images.specs.Formats.{IsFormatted, FormatsFirst, LeavesImages, IsAsItWasOrUnfinished, LosesNone}
use Rattle.volume_images.specs.declared.fault.PartName.{PartName}
use Rattle.volume_images.specs.declared.fault.PartName.TheVariants as part
use Rattle.volume_images.specs.declared.fault.RackFault.{RackFault}
use Rattle.volume_images.specs.declared.fault.RackFault.TheVariants.{Failed, NoMemory}

-- ---- What a bay tells

-- a name is home while the same names are out
pub home_kept : (name : Name) (b b' : BayState) → outs b' ≡ outs b → IsHome name b → IsHome name b'
home_kept name b b' same home = go b.told b'.told same home
  where
    go : (o o' : Option Told) → option_map (λ t. t.out) o' ≡ option_map (λ t. t.out) o → IfSome o (λ t. at_name name t.out ≡ None) → IfSome o' (λ t. at_name name t.out ≡ None)
    go o None e h = tt
    go None (Some t) e h = absurd (cc e)
    go (Some s) (Some t) e h = let same : t.out ≡ s.out = cc in ap (at_name name) same ∙ h

-- one call after another
pub told_then : (P Q R : Told → Told → Type 0) (a b c : Option Told) → ((x y z : Told) → P x y → Q y z → R x z) → IsTold P a b → IsTold Q b c → IsTold R a c
told_then P Q R None None c join first second = second
told_then P Q R None (Some y) c join first second = absurd (cc first)
told_then P Q R (Some x) None c join first second = absurd first
told_then P Q R (Some x) (Some y) None join first second = absurd second
told_then P Q R (Some x) (Some y) (Some z) join first second = join x y z first second

pub told_weaker : (P Q : Told → Told → Type 0) (a b : Option Told) → ((x y : Told) → P x y → Q x y) → IsTold P a b → IsTold Q a b
told_weaker P Q None b weaker t = t
told_weaker P Q (Some x) None weaker t = t
told_weaker P Q (Some x) (Some y) weaker t = weaker x y t

-- ---- One volume more

module _ (config : Config) (valid : IsValid config) where
  abbrev vs : List VolumeConf
  vs = config.volumes.items

  names_apart : (j k : ℕ) (d e : VolumeConf) → j < length vs → k < length vs → j ≢ k → (get_or vs j d).name ≢ (get_or vs k e).name
  names_apart j k d e lt lt' other =
      ⊎_elim
      (λ (below : j < k). λ same. (valid.apart j k d below lt').names (same ∙ ap (λ (v : VolumeConf). v.name) (get_or_default vs k e d lt')))
      (λ (above : k ≤ j). λ same. (valid.apart k j e (omega (arith, above, other)) lt).names (sym same ∙ ap (λ (v : VolumeConf). v.name) (get_or_default vs j d e lt)))
      (cases_lt j k)

  pub formats_more : (i : ℕ) (v : VolumeConf) (a b c : Told) → i < length vs → v ≡ get_or vs i v → FormatsFirst config i a b → CameBack v.name (settled_image (formatted i (shape_in config v) v.view)) [] b c → FormatsFirst config (i + 1) a c
  formats_more i v a b c lt is first back = record {
    each = λ k d below. ⊎_elim (λ (less : k < i). before k d less) (λ (more : i ≤ k). here k d (omega (arith, below, more))) (cases_lt k i);
    others = λ name all. back.others name (λ same. all i v (omega arith) (same ∙ ap (λ (w : VolumeConf). w.name) is)) ∙ first.others name (λ k d below. all k d (omega (arith, below)));
    faulty = back.faulty ∙ append-nil b.faulty ∙ first.faulty;
  }
    where
      before : (k : ℕ) (d : VolumeConf) → k < i → IsFormatted config k (get_or vs k d) c
      before k d less =
          back.others (get_or vs k d).name (λ same. names_apart k i d v (omega (arith, less, lt)) lt (omega (arith, less)) (same ∙ ap (λ (w : VolumeConf). w.name) is)) ∙ first.each k d less

      here : (k : ℕ) (d : VolumeConf) → k ≡ i → IsFormatted config k (get_or vs k d) c
      here k d e =
          let same : v ≡ get_or vs i d = is ∙ get_or_default vs i v d lt in
          subst (λ (n : ℕ). IsFormatted config n (get_or vs n d) c) (sym e) (subst (λ (w : VolumeConf). IsFormatted config i w c) same back.here)

  -- a volume that wasn't formatted ends it
  pub ends_with : (e : RackFault) (i : ℕ) (v : VolumeConf) (a b c : Told) → i < length vs → v ≡ get_or vs i v → ((n : ℕ) (p : PartName) → e ≡ Failed n p → n ≡ i)
      → FormatsFirst config i a b → LeavesImage (Err e) v.name i (shape_in config v) v.view b c → LeavesImages config (Err e) a c
  ends_with NoMemory i v a b c lt is volume first left = (i, lt, subst (λ (t : Told). FormatsFirst config i a t) (sym left) first)
  ends_with (Failed n p) i v a b c lt is volume first left =
      let e : i ≡ n = sym (volume n p refl) in
      subst (λ (m : ℕ). (m < length vs) × (mid : Told) × FormatsFirst config m a mid × ((d : VolumeConf) → LeavesFailed p (get_or vs m d).name m (shape_in config (get_or vs m d)) (get_or vs m d).view mid c)) e
      (lt, b, first, λ d. subst (λ (w : VolumeConf). LeavesFailed p w.name i (shape_in config w) w.view b c) (is ∙ get_or_default vs i v d lt) left)

  -- ---- What is left of each image

  pub whole_unfinished : (k : ℕ) (v : VolumeConf) → IsUnfinished k (shape_in config v) v.view (settled_image (formatted k (shape_in config v) v.view))
  whole_unfinished k v = record { whole_blocks = refl; each = λ c i. inr (only_image (formatted k (shape_in config v) v.view) c i) }

  first_or_same : (n k : ℕ) (d : VolumeConf) (a b : Told) → n ≤ length vs → k < length vs → FormatsFirst config n a b → IsAsItWasOrUnfinished config k (get_or vs k d) a b
  first_or_same n k d a b few lt first =
      ⊎_elim
      (λ (below : k < n). inr (settled_image (formatted k (shape_in config (get_or vs k d)) (get_or vs k d).view), first.each k d below, whole_unfinished k (get_or vs k d)))
      (λ (behind : n ≤ k). inl (first.others (get_or vs k d).name (λ j e before. names_apart k j d e lt (omega (arith, before, behind, lt)) (omega (arith, before, behind)))))
      (cases_lt k n)

  kept_so : (k : ℕ) (v : VolumeConf) (a b c : Told) → at_name v.name c.images ≡ at_name v.name b.images → IsAsItWasOrUnfinished config k v a b → IsAsItWasOrUnfinished config k v a c
  kept_so k v a b c same was = ⊎_elim (λ e. inl (same ∙ e)) (λ w. inr (w.0, same ∙ w.1, w.2)) was

  after_unfinished : (n k : ℕ) (d : VolumeConf) (p : PartName) (a b c : Told) → n < length vs → k < length vs → FormatsFirst config n a b
      → Unfinished (get_or vs n d).name n (shape_in config (get_or vs n d)) (get_or vs n d).view p b c → IsAsItWasOrUnfinished config k (get_or vs k d) a c
  after_unfinished n k d p a b c lt within first left =
      ⊎_elim
      (λ (e : k ≡ n). subst (λ (m : ℕ). IsAsItWasOrUnfinished config m (get_or vs m d) a c) (sym e) (inr (left.image, left.back.here, left.unfinished)))
      (λ (other : k ≡ n → ⊥). kept_so k (get_or vs k d) a b c (left.back.others (get_or vs k d).name (names_apart k n d d within lt other)) (first_or_same n k d a b (omega (arith, lt)) within first))
      (cases_eq k n)

  after_failed : (n k : ℕ) (d : VolumeConf) (p : PartName) (a b c : Told) → n < length vs → k < length vs → FormatsFirst config n a b
      → LeavesFailed p (get_or vs n d).name n (shape_in config (get_or vs n d)) (get_or vs n d).view b c → IsAsItWasOrUnfinished config k (get_or vs k d) a c
  after_failed n k d part.Bay a b c lt within first left = kept_so k (get_or vs k d) a b c (ap (λ (t : Told). at_name (get_or vs k d).name t.images) left) (first_or_same n k d a b (omega (arith, lt)) within first)
  after_failed n k d part.Label a b c lt within first left = after_unfinished n k d part.Label a b c lt within first left
  after_failed n k d part.Home a b c lt within first left = after_unfinished n k d part.Home a b c lt within first left
  after_failed n k d (part.Segment index) a b c lt within first left = after_unfinished n k d (part.Segment index) a b c lt within first left

  pub loses_none : (r : Result (Unit {0}) RackFault) (a c : Told) → LeavesImages config r a c → LosesNone config a c
  loses_none (Ok done) a c left = λ k d lt. first_or_same (length vs) k d a c (omega arith) lt left
  loses_none (Err NoMemory) a c left = λ k d lt. first_or_same left.0 k d a c (omega (arith, left.1)) lt left.2
  loses_none (Err (Failed n p)) a c left = λ k d lt. after_failed n k d p a left.1 c left.0 lt left.2 (left.3 d)
