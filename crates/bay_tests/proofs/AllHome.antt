-- No image of a bay is out, before and after a use of it.
use Rattle.std.proofs.Common.{◌≡◌, ℕ, List, [], Option, None, Some, option_map, IfSome, sym, ap, subst}
use Rattle.wol_bay.specs.Bay.{Name, BayState, Told, at_name, outs, IsHome}
use Rattle.bay_tests.specs.Home.{AreAllHome}

-- so each of them may go out
pub home_of : (name : Name) (b : BayState) → AreAllHome b → IsHome name b
home_of name b home = go b.told home
  where
    go : (t : Option Told) → IfSome (option_map (λ t. t.out) t) (λ out. out ≡ []) → IfSome t (λ t. at_name name t.out ≡ None)
    go None home = tt
    go (Some t) home = ap (at_name name) home

-- where the same images are out
pub same_home : (b b' : BayState) → AreAllHome b → outs b' ≡ outs b → AreAllHome b'
same_home b b' home same = let P : Option (List (Name × List ℕ)) → Type 0 = λ o. IfSome o (λ out. out ≡ []) in subst P (sym same) home
