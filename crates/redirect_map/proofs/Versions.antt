-- An entry of an index is the one of its version.
use Rattle.std.proofs.Common.{◌≡◌, ◌<◌, ℕ, zero, suc, Bool, cond, List, [], ◌∷◌, map, Some, refl, ap, ◌∙◌, subst, arith, eqb}
use Rattle.std.specs.Prelude.{slice_get}
use Rattle.std.specs.List.{find}
use Rattle.std.proofs.lemmas.Bool.{eq-eqb, ne_eqb}
use Rattle.wol_model.specs.Index.{Indexed, AreRising}
use Rattle.redirect_map.specs.Index.{has_version, entry_at}
use Rattle.redirect_map.proofs.Seen.{all_at, all_before_map}

pub entry_at-own : (es : List Indexed) (k : ℕ) (e : Indexed) → AreRising (map (λ (d : Indexed). d.listed.version) es) → slice_get es k ≡ Some e → entry_at es e.listed.version ≡ Some e
entry_at-own [] k e rising at = absurd (cc)
entry_at-own (x ∷ xs) zero e rising at =
    let f : x ≡ e = cc in
    subst (λ (d : Indexed). cond (eqb x.listed.version d.listed.version) (Some x) (find (has_version d.listed.version) xs) ≡ Some d) f
    (ap (λ (t : Bool). cond t (Some x) (find (has_version x.listed.version) xs)) (eq-eqb x.listed.version x.listed.version refl))
entry_at-own (x ∷ xs) (suc k) e rising at =
    let less : x.listed.version < e.listed.version = all_at (λ (d : Indexed). x.listed.version < d.listed.version) xs k e (all_before_map (λ w. x.listed.version < w) (λ (d : Indexed). d.listed.version) xs rising.0) at in
    ap (λ (t : Bool). cond t (Some x) (find (has_version e.listed.version) xs)) (ne_eqb x.listed.version e.listed.version (λ same. absurd (omega arith))) ∙ entry_at-own xs k e rising.1 at
