-- How writes to a sink add up: pieces, and fronts of pieces, one after another.
use Rattle.std.proofs.Common.{◌≡◌, ℕ, ◌+◌, ◌-◌, List, [], ◌++◌, length, take, drop, Option, None, Some, refl, sym, ◌∙◌, append_assoc, append-nil}
use Rattle.std.specs.Io.KnownBytes.{Appends, Keeps}
use Rattle.std.proofs.lemmas.List.{take-append-drop, take_rest}
use Rattle.std.proofs.Math.Seq.{take-add}
use Rattle.wol_io.specs.Streams.{AppendsFront}

-- nothing was done
pub keeps_same : (a : Option (List ℕ)) → Keeps a a
keeps_same None = tt
keeps_same (Some xs) = refl

pub keeps_both : (a b d : Option (List ℕ)) → Keeps a b → Keeps b d → Keeps a d
keeps_both None b d h k = tt
keeps_both (Some xs) None d h k = absurd h
keeps_both (Some xs) (Some ys) None h k = k
keeps_both (Some xs) (Some ys) (Some zs) h k = k ∙ h

-- an empty piece
pub appends_none : (a b : Option (List ℕ)) → Keeps a b → Appends a b []
appends_none None b h = tt
appends_none (Some xs) None h = h
appends_none (Some xs) (Some ys) h = h ∙ sym (append-nil xs)

pub none_kept : (a b : Option (List ℕ)) → Appends a b [] → Keeps a b
none_kept None b h = tt
none_kept (Some xs) None h = h
none_kept (Some xs) (Some ys) h = h ∙ append-nil xs

-- a piece, and then another
pub appends_both : (a b d : Option (List ℕ)) (x y : List ℕ) → Appends a b x → Appends b d y → Appends a d (x ++ y)
appends_both None b d x y h k = tt
appends_both (Some xs) None d x y h k = absurd h
appends_both (Some xs) (Some ys) None x y h k = k
appends_both (Some xs) (Some ys) (Some zs) x y h k = rw (k, h, append_assoc) refl

-- a piece, and then nothing
pub appends_kept : (a b d : Option (List ℕ)) (x : List ℕ) → Appends a b x → Keeps b d → Appends a d x
appends_kept None b d x h k = tt
appends_kept (Some xs) None d x h k = absurd h
appends_kept (Some xs) (Some ys) None x h k = k
appends_kept (Some xs) (Some ys) (Some zs) x h k = k ∙ h

-- nothing, and then a piece
pub kept_appends : (a b d : Option (List ℕ)) (x : List ℕ) → Keeps a b → Appends b d x → Appends a d x
kept_appends None b d x h k = tt
kept_appends (Some xs) None d x h k = absurd h
kept_appends (Some xs) (Some ys) None x h k = k
kept_appends (Some xs) (Some ys) (Some zs) x h k = rw (k, h) refl

-- a piece is a front of itself
pub front_whole : (a b : Option (List ℕ)) (x : List ℕ) → Appends a b x → AppendsFront a b x
front_whole a b x h = (x, [], sym (append-nil x), h)

-- nothing is a front of each piece
pub front_none : (a b : Option (List ℕ)) (x : List ℕ) → Keeps a b → AppendsFront a b x
front_none a b x h = ([], x, refl, appends_none a b h)

-- a front of a piece is one of each longer piece
pub front_longer : (a b : Option (List ℕ)) (x y : List ℕ) → AppendsFront a b x → AppendsFront a b (x ++ y)
front_longer a b x y (front, rest, whole, h) = (front, rest ++ y, rw (whole, append_assoc front rest y) refl, h)

-- a piece, and then a front of the next
pub front_last : (a b d : Option (List ℕ)) (x y : List ℕ) → Appends a b x → AppendsFront b d y → AppendsFront a d (x ++ y)
front_last a b d x y h (front, rest, whole, k) = (x ++ front, rest, rw (whole, append_assoc x front rest) refl, appends_both a b d x front h k)

-- a piece, and then a front of the next, of three
pub front_after : (a b d : Option (List ℕ)) (x y z : List ℕ) → Appends a b x → AppendsFront b d y → AppendsFront a d (x ++ (y ++ z))
front_after a b d x y z h k = front_last a b d x (y ++ z) h (front_longer b d y z k)

-- a front of a piece, and then nothing
pub front_kept : (a b d : Option (List ℕ)) (x : List ℕ) → AppendsFront a b x → Keeps b d → AppendsFront a d x
front_kept a b d x (front, rest, whole, h) k = (front, rest, whole, appends_kept a b d front h k)

-- a piece that goes on where another ended
pub appends_more : (a b d : Option (List ℕ)) (piece : List ℕ) (done n : ℕ) → Appends a b (take done piece) → Appends b d (take n (take (length piece - done) (drop done piece))) → Appends a d (take (done + n) piece)
appends_more None b d piece done n h k = tt
appends_more (Some xs) None d piece done n h k = absurd h
appends_more (Some xs) (Some ys) None piece done n h k = k
appends_more (Some xs) (Some ys) (Some zs) piece done n h k = rw (k, h, take-add done n piece, append_assoc, take_rest piece done)

-- the first bytes of a piece, and then nothing
pub front_taken : (a b d : Option (List ℕ)) (piece : List ℕ) (done : ℕ) → Appends a b (take done piece) → Keeps b d → AppendsFront a d piece
front_taken a b d piece done h k = (take done piece, drop done piece, sym (take-append-drop done piece), appends_kept a b d (take done piece) h k)

-- no byte of a piece
pub appends_zero : (a b : Option (List ℕ)) (piece : List ℕ) (n : ℕ) → n ≡ 0 → Appends a b (take n piece) → Keeps a b
appends_zero a b piece n e h = none_kept a b (rw e at h)
