-- Changes of an index leave its versions below a number.
use Rattle.std.proofs.Common.{◌≡◌, ◌<◌, ◌+◌, ℕ, List, [], ◌∷◌, ◌++◌, map, subst, arith}
use Rattle.wol_model.specs.Extents.{Cover}
use Rattle.wol_model.specs.Index.{Indexed}
use Rattle.redirect_map.specs.Index.{unhomed}
use Rattle.index_tests.specs.Below.{AreBelow}

-- a record above all others is added
pub below_added : (v : ℕ) (c : Cover) (new : Indexed) (es : List Indexed) → AreBelow v es → new.listed.version ≡ v → new.listed.lane < 3 → AreBelow (v + 1) (map (unhomed c) es ++ new ∷ [])
below_added v c new [] all same lane = ((omega arith, lane), tt)
below_added v c new (e ∷ es) all same lane =
    let low : e.listed.version < v = all.0.0 in
    ((omega arith, all.0.1), below_added v c new es all.1 same lane)

pub below_more : (v : ℕ) (es : List Indexed) → AreBelow v es → AreBelow (v + 1) es
below_more v [] all = tt
below_more v (e ∷ es) all =
    let low : e.listed.version < v = all.0.0 in
    ((omega arith, all.0.1), below_more v es all.1)

pub below_same : (v w : ℕ) (es : List Indexed) → v ≡ w → AreBelow v es → AreBelow w es
below_same v w es same all = subst (λ (n : ℕ). AreBelow n es) same all
