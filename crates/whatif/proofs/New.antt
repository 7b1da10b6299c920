-- What a machine is made of: loggers, volumes and disks.
use Rattle.std.proofs.Common.{◌≡◌, ◌<◌, ◌≤◌, ◌+◌, ℕ, zero, suc, Bool, true, false, cond, List, [], ◌∷◌, ◌++◌, map, length, replicate, get_or, Some, refl, sym, ap, subst, ◌∙◌, append-nil, arith}
use Rattle.std.specs.Prelude.{slice_get}
use Rattle.std.specs.List.{AllByRecursion, filter, range_with_len}
use Rattle.std.proofs.lemmas.Option.{none-some, same_Some}
use Rattle.wol_config.specs.Configs.{IsValid, IsValidVolume}
use Rattle.std.proofs.lemmas.List.{length-map, map-append}
use Rattle.std.proofs.lemmas.List.Elements.{filter-append}
use Rattle.wol_config.specs.declared.config.Config.{Config}
use Rattle.wol_config.specs.declared.config.VolumeConf.{VolumeConf}
use Rattle.wol_model.specs.Journal.{SpindleState, Started, new_spindle, used}
use Rattle.wol_promise.proofs.Lists.{range_push}
use Rattle.whatif.specs.declared.policy.Policy.{Policy}
use Rattle.whatif.specs.declared.disk.Disk.{Disk}
use Rattle.whatif.specs.declared.volume.Volume.{Volume}
use Rattle.whatif.specs.Disks.{AreDisks, IsDisk, IsKept, moments_of}
use Rattle.whatif.specs.Machine.{Reach, first_look, first_machine, first_volume}
use Rattle.whatif.specs.Policies.{HaveViews, loggers_of, machine_after, reach_of, setting_of}
use Rattle.whatif.specs.Stands.{Stands}
use Rattle.whatif.specs.Volumes.{look_in, reach_in, store_in, volume_in}
use Rattle.whatif.specs.Logs.{first_store}

pub range_more : (k : ℕ) → range_with_len 0 (k + 1) ≡ range_with_len 0 k ++ k ∷ []
range_more k =
    let more : k + 1 ≡ suc k = omega arith in let none : 0 + k ≡ k = omega arith in
    ap (λ (n : ℕ). range_with_len 0 n) more ∙ range_push 0 k ∙ (λ i. range_with_len 0 k ++ none i ∷ [])

pub filtered_yes : (test : ℕ → Bool) (k : ℕ) → test k ≡ true → filter test (range_with_len 0 (k + 1)) ≡ filter test (range_with_len 0 k) ++ k ∷ []
filtered_yes test k passes = ap (filter test) (range_more k) ∙ filter-append test (range_with_len 0 k) (k ∷ []) ∙ (λ i. filter test (range_with_len 0 k) ++ cond (passes i) (k ∷ []) [])

pub filtered_no : (test : ℕ → Bool) (k : ℕ) → test k ≡ false → filter test (range_with_len 0 (k + 1)) ≡ filter test (range_with_len 0 k)
filtered_no test k fails = ap (filter test) (range_more k) ∙ filter-append test (range_with_len 0 k) (k ∷ []) ∙ (λ i. filter test (range_with_len 0 k) ++ cond (fails i) (k ∷ []) []) ∙ append-nil (filter test (range_with_len 0 k))

pub mapped_more : {X : Type 0} (f : ℕ → X) (k : ℕ) → map f (range_with_len 0 (k + 1)) ≡ map f (range_with_len 0 k) ++ f k ∷ []
mapped_more f k = ap (map f) (range_more k) ∙ map-append f (range_with_len 0 k) (k ∷ [])

pub volume_made : (p : Policy) (whole : ℕ) (confs : List VolumeConf) (k : ℕ) (loggers : List ℕ) (v : Volume) → loggers ≡ loggers_of p confs k → reach_in v ≡ (let r : Reach = record { own = k; loggers = loggers } in r) → look_in v ≡ first_look (reach_in v) → store_in v.store ≡ first_store whole
    → volume_in v ≡ first_volume whole (reach_of p confs k)
volume_made p whole confs k loggers v are reach look store = (λ i. record { reach = reach_in v; look = look i; store = store i }) ∙ ap (first_volume whole) (reach ∙ (λ i. record { own = k; loggers = are i }))

-- ---- views

all_by : (P : ℕ → Type 0) (xs : List ℕ) → ((k d : ℕ) → k < length xs → P (get_or xs k d)) → AllByRecursion P xs
all_by P [] all = tt
all_by P (x ∷ xs) all = (all 0 x (omega arith), all_by P xs (λ k d lt. all (suc k) d (omega (arith, lt))))

found_at : (vs : List VolumeConf) (k : ℕ) (v d : VolumeConf) → slice_get vs k ≡ Some v → (k < length vs) × (get_or vs k d ≡ v)
found_at [] k v d at = absurd (none-some v at)
found_at (w ∷ vs) zero v d at = (omega arith, same_Some w v at)
found_at (w ∷ vs) (suc k) v d at = let rest = found_at vs k v d at in (omega (arith, rest.0), rest.1)

pub valid_views : (c : Config) → IsValid c → HaveViews c.volumes.items
valid_views c valid k v at =
    let found = found_at c.volumes.items k v v at in
    let volume = subst (λ (w : VolumeConf). IsValidVolume (length c.volumes.items) k w) found.1 (valid.volumes k v found.0) in
    (all_by (λ w. w < length c.volumes.items) v.view volume.known, (let few = volume.view.few in omega (arith, few)))

-- ---- disks

pub new_kept : (n : ℕ) (d : Disk) → IsKept d → AllByRecursion IsKept (replicate n d)
new_kept zero d kept = tt
new_kept (suc n) d kept = (kept, new_kept n d kept)

pub new_moments : (n from : ℕ) (d : Disk) → d.moment ≡ from → AllByRecursion (λ t. t ≤ from) (moments_of (replicate n d))
new_moments zero from d is = tt
new_moments (suc n) from d is = ((let e = is in omega (arith, e)), new_moments n from d is)

length_new : {X : Type 0} (n : ℕ) (x : X) → length (replicate n x) ≡ n
length_new zero x = refl
length_new (suc n) x = ap suc (length_new n x)

pub new_disks : {X : Type 0} (rs : List X) (n : ℕ) (d : Disk) (s : SpindleState) → length rs ≡ n → IsDisk d s → AreDisks (replicate n d) (map (λ r. s) rs)
new_disks [] zero d s long is = tt
new_disks [] (suc n) d s long is = absurd (omega arith)
new_disks (r ∷ rs) zero d s long is = absurd (omega arith)
new_disks (r ∷ rs) (suc n) d s long is = (is, new_disks rs n d s (omega arith) is)

mapped_twice : {X Y Z : Type 0} (g : Y → Z) (f : X → Y) (xs : List X) → map g (map f xs) ≡ map (λ x. g (f x)) xs
mapped_twice g f [] = refl
mapped_twice g f (x ∷ xs) = λ i. g (f x) ∷ mapped_twice g f xs i

range_length : (a n : ℕ) → length (range_with_len a n) ≡ n
range_length a zero = refl
range_length a (suc n) = ap suc (range_length (a + 1) n)

-- a machine before its first window
pub stands_first : (p : Policy) (c : Config) (from : ℕ) (vs : List Volume) (ds : List Disk) (d : Disk) → length vs ≡ length c.volumes.items → map volume_in vs ≡ map (λ n. first_volume c.segment_blocks (reach_of p c.volumes.items n)) (range_with_len 0 (length vs))
    → ds ≡ replicate (length vs) d → IsDisk d (used c.timeout new_spindle 0 (Started from)) → Stands vs ds (machine_after p c from [])
unfolding machine_after
stands_first p c from vs ds d count made disks is = record {
  volumes = mapped_twice (first_volume c.segment_blocks) (reach_of p c.volumes.items) (range_with_len 0 (length c.volumes.items)) ∙ (λ i. map (λ n. first_volume c.segment_blocks (reach_of p c.volumes.items n)) (range_with_len 0 (sym count i))) ∙ sym made;
  disks = subst (λ (l : List Disk). AreDisks l (first_machine (setting_of p c) from).spindles) (sym disks) (new_disks (setting_of p c).reaches (length vs) d (used c.timeout new_spindle 0 (Started from)) long is);
}
  where
    long : length (setting_of p c).reaches ≡ length vs
    long = length-map (range_with_len 0 (length c.volumes.items)) (reach_of p c.volumes.items) ∙ range_length 0 (length c.volumes.items) ∙ sym count
