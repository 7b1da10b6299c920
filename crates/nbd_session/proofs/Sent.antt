-- The bytes of replies.
use Rattle.std.proofs.Common.{◌≡◌, ◌+◌, ℕ, List, [], ◌++◌, length, Result, Ok, Err, ◌∙◌, ap, append_assoc, arith}
use Rattle.std.specs.Prelude.{OnOk}
use Rattle.nbd_session.specs.Options.{name_bytes, reply, reply_head}

-- some bytes, and then others
pub two : (a b d x y : List ℕ) → b ≡ a ++ x → d ≡ b ++ y → d ≡ a ++ (x ++ y)
two a b d x y h k = k ∙ ap (λ (l : List ℕ). l ++ y) h ∙ append_assoc a x y

-- .. and then further ones, where there was memory
pub three : {T E : Type 0} (r : Result T E) (a b d e x y z : List ℕ) → b ≡ a ++ x → d ≡ b ++ y → OnOk r (e ≡ d ++ z) → OnOk r (e ≡ a ++ (x ++ y ++ z))
three (Ok t) a b d e x y z h k m = m ∙ ap (λ (l : List ℕ). l ++ z) (two a b d x y h k) ∙ append_assoc a (x ++ y) z
three (Err f) a b d e x y z h k m = m

-- the names of all exports
pub names : {T E : Type 0} (r : Result T E) (number : ℕ) (name a b d e : List ℕ) → b ≡ a ++ reply_head number 2 (4 + length name) → d ≡ b ++ name_bytes name → OnOk r (e ≡ d ++ reply number 1 []) → OnOk r (e ≡ a ++ (reply number 2 (name_bytes name) ++ reply number 1 []))
names r number name a b d e h k m =
    let size : 4 + length name ≡ length (name_bytes name) = omega arith in
    three r a b d e (reply_head number 2 (length (name_bytes name))) (name_bytes name) (reply number 1 []) (h ∙ ap (λ (n : ℕ). a ++ reply_head number 2 n) size) k m
