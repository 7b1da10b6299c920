-- The names and sizes of the volumes of a configuration.
use Rattle.rack.proofs.ClosingBasics.{◌≡◌, ◌≢◌, ⊎_elim, ℕ, ◌<◌, ◌≤◌, Bool, true, false, get_or, Some, refl, sym, ap, ◌∙◌, arith, ◌^◌, subst, slice_get, cases_lt, slice_get_within}
use Rattle.rack.proofs.ClosingBasics.{get_or_from_slice_get}
use Rattle.rack.proofs.ClosingTerms.{Name, Config, VolumeConf, Shape, IsShape, shape_in, shapes_of}
use Rattle.std.specs.Str.{bytes_eq}
use Rattle.std.proofs.lemmas.Slice.Eq.{bytes_eq-Decides}
use Rattle.wol_config.specs.Configs.{IsValid}
use Rattle.rack.proofs.LeftImage.{volume_at}

-- two names are the same or not
pub cases_name : {P : Type 0} (x y : Name) → (x ≡ y → P) → (x ≢ y → P) → P
cases_name {P} x y one other = go (bytes_eq x y) refl
  where
    go : (b : Bool) → bytes_eq x y ≡ b → P
    go true e = one ((bytes_eq-Decides x y).0 e)
    go false e = other (λ is. let f : true ≡ false = sym ((bytes_eq-Decides x y).1 is) ∙ e in cc)

-- the volumes of a configuration have names of their own
pub names_differ : (config : Config) → IsValid config → (j k : ℕ) (v w : VolumeConf) → slice_get config.volumes.items j ≡ Some v → slice_get config.volumes.items k ≡ Some w → j ≢ k → v.name ≢ w.name
names_differ config valid j k v w at at' other = λ same.
    let vs = config.volumes.items in
    let lt = slice_get_within vs j v at in
    let lt' = slice_get_within vs k w at' in
    let one : get_or vs j v ≡ v = get_or_from_slice_get vs j v v at in
    let two : get_or vs k v ≡ w = get_or_from_slice_get vs k w v at' in
    let N : VolumeConf → Name = λ u. u.name in
    ⊎_elim
    (λ (below : j < k). (valid.apart j k v below lt').names (ap N one ∙ same ∙ sym (ap N two)))
    (λ (above : k ≤ j). (valid.apart k j v (omega (arith, above, other)) lt).names (ap N two ∙ sym same ∙ sym (ap N one)))
    (cases_lt j k)

-- the sizes of a valid configuration are in their ranges
pub valid_shape : (config : Config) → IsValid config → (k : ℕ) (s : Shape) → slice_get (shapes_of config) k ≡ Some s → IsShape s × (s.segment_blocks ≡ config.segment_blocks)
valid_shape config valid k s at =
    let vs = config.volumes.items in
    let v = volume_at config k s at in
    let below = slice_get_within vs k v.0 v.1 in
    let one : get_or vs k v.0 ≡ v.0 = get_or_from_slice_get vs k v.0 v.0 v.1 in
    let ok = valid.volumes k v.0 below in
    let home : (1 ≤ v.0.home) × (v.0.home ≤ 2 ^ 32) = subst (λ (w : VolumeConf). (1 ≤ w.home) × (w.home ≤ 2 ^ 32)) one ok.home in
    let segments : v.0.segments ≤ 1024 = subst (λ (w : VolumeConf). w.segments ≤ 1024) one ok.segments in
    let shape : IsShape (shape_in config v.0) = record { home = home; segments = segments; segment_blocks = valid.segment_blocks } in
    subst (λ (t : Shape). IsShape t × (t.segment_blocks ≡ config.segment_blocks)) v.2 (shape, refl)
