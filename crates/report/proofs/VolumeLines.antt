-- The lines of volumes, one after another.
use Rattle.std.proofs.Common.{◌≡◌, ℕ, zero, suc, ◌+◌, ◌<◌, List, [], ◌∷◌, ◌++◌, length, take, get_or, refl, sym, ap, ◌∙◌, append_assoc, append-nil, add-one, arith}
use Rattle.energy.specs.declared.Amounts.{Amounts}
use Rattle.report.specs.Summaries.{volume_text, volumes_text}

next_volume : (names : List (List ℕ)) (amounts : List Amounts) (i : ℕ) (d : List ℕ) (e : Amounts) → i < length names → i < length amounts
    → volumes_text (take (suc i) names) (take (suc i) amounts) ≡ volumes_text (take i names) (take i amounts) ++ volume_text (get_or names i d) (get_or amounts i e)
next_volume [] amounts i d e h k = absurd (omega arith)
next_volume (name ∷ names) [] i d e h k = absurd (omega arith)
next_volume (name ∷ names) (a ∷ amounts) zero d e h k = append-nil (volume_text name a)
next_volume (name ∷ names) (a ∷ amounts) (suc i) d e h k =
    rw (next_volume names amounts i d e (omega arith) (omega arith)) (sym (append_assoc (volume_text name a) (volumes_text (take i names) (take i amounts)) (volume_text (get_or names i d) (get_or amounts i e))))

-- the line of a further volume is put behind those before it
pub put_volume : (names : List (List ℕ)) (amounts : List Amounts) (i : ℕ) (d name : List ℕ) (e : Amounts) (start out new : List ℕ)
    → i < length names → i < length amounts → out ≡ start ++ volumes_text (take i names) (take i amounts)
    → name ≡ get_or names i d → new ≡ out ++ volume_text name (get_or amounts i e)
    → new ≡ start ++ volumes_text (take (i + 1) names) (take (i + 1) amounts)
put_volume names amounts i d name e start out new h k was named put =
    rw (add-one, next_volume names amounts i d e h k, put, named, was)
    (append_assoc start (volumes_text (take i names) (take i amounts)) (volume_text (get_or names i d) (get_or amounts i e)))
