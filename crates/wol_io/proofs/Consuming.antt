-- How reads of a source add up.
use Rattle.std.proofs.Common.{ℕ, List, [], ◌++◌, Option, None, Some, sym}
use Rattle.std.proofs.KnownBytes.{Consumes-trans, Consumes-kept}
use Rattle.std.specs.Io.KnownBytes.{Consumes, Keeps}

-- nothing was taken
pub consumes_none : (a b : Option (List ℕ)) → Keeps a b → Consumes a b []
consumes_none None b h = tt
consumes_none (Some xs) None h = h
consumes_none (Some xs) (Some ys) h = sym h

-- some bytes, and then others
pub consumes_both : (a b d : Option (List ℕ)) (x y : List ℕ) → Consumes a b x → Consumes b d y → Consumes a d (x ++ y)
consumes_both = Consumes-trans

-- some bytes, and then none
pub consumes_kept : (a b d : Option (List ℕ)) (x : List ℕ) → Consumes a b x → Keeps b d → Consumes a d x
consumes_kept = Consumes-kept
