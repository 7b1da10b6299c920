-- A bay between two uses of it.
use Rattle.std.specs.Prelude.{◌≡◌, [], IfSome}
use Rattle.wol_bay.specs.Bay.{BayState, outs}

-- no image of it is out
abbrev pub AreAllHome : BayState → Type 0
AreAllHome b = IfSome (outs b) (λ out. out ≡ [])
