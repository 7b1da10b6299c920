-- The marks of requests one after another.
use Rattle.std.proofs.Common.{◌≡◌, ℕ, List, [], ◌∷◌, ◌++◌, Option, None, Some, refl, sym, ap, ◌∙◌, append_assoc, append-nil}
use Rattle.std.specs.Prelude.{⊤, slice_range, ◌+◌}
use Rattle.std.proofs.lemmas.List.Elements.{filter_map-append}
use Rattle.wol_disk.specs.Disk.{Block}
use Rattle.wol_model.specs.Blocks.{after}
use Rattle.wol_model.specs.Trace.{Request, answer, mark, payloads, plain, plain_after, write_to}
use Rattle.wol_model.specs.declared.trace.Kind.{Kind}
use Rattle.wol_model.specs.declared.trace.Kind.TheVariants as kind
use Rattle.wol_model.proofs.Overlay.{after_more, after_none}
use Rattle.solo.specs.Texts.{AreMarks, HasMark, HaveMarks, read_lines, text_of}
use Rattle.solo.specs.Served.{content_after}

-- requests of the one volume
abbrev pub OnVolume : List Request → Type 0
OnVolume [] = ⊤
OnVolume (r ∷ rs) = (r.volume ≡ 0) × OnVolume rs

pub payloads_append : (rs ss : List Request) → payloads 0 (rs ++ ss) ≡ payloads 0 rs ++ payloads 0 ss
payloads_append rs ss = filter_map-append (λ (r : Request). write_to 0 r r.kind) rs ss

-- requests after others
plain_after_append : (arrays : ℕ → List Block) (earlier rs ss : List Request) → plain_after arrays earlier (rs ++ ss) ≡ plain_after arrays earlier rs ++ plain_after arrays (earlier ++ rs) ss
plain_after_append arrays earlier [] ss = rw append-nil refl
plain_after_append arrays earlier (r ∷ rs) ss =
    ap (λ (ms : List (Option ℕ)). answer arrays earlier r r.kind ∷ ms) (plain_after_append arrays (earlier ++ r ∷ []) rs ss
    ∙ ap (λ (all : List Request). plain_after arrays (earlier ++ r ∷ []) rs ++ plain_after arrays all ss) (append_assoc earlier (r ∷ []) rs))

-- the array after some requests stands for those requests
later_answer : (a : List Block) (rs earlier : List Request) (s : Request) (k : Kind) → s.volume ≡ 0 → answer (λ _. a) (rs ++ earlier) s k ≡ answer (λ _. after a (payloads 0 rs)) earlier s k
later_answer a rs earlier s kind.Write on = refl
later_answer a rs earlier s kind.Read on =
    let same : after a (payloads s.volume (rs ++ earlier)) ≡ after (after a (payloads 0 rs)) (payloads s.volume earlier) =
    rw on (ap (after a) (payloads_append rs earlier) ∙ after_more a (payloads 0 rs) (payloads 0 earlier)) in
    ap (λ (array : List Block). Some (mark (slice_range array s.first (s.first + s.count)))) same

later_array : (a : List Block) (rs earlier ss : List Request) → OnVolume ss → plain_after (λ _. a) (rs ++ earlier) ss ≡ plain_after (λ _. after a (payloads 0 rs)) earlier ss
later_array a rs earlier [] on = refl
later_array a rs earlier (s ∷ ss) on =
    let here = later_answer a rs earlier s s.kind on.0 in
    let rest : plain_after (λ _. a) ((rs ++ earlier) ++ s ∷ []) ss ≡ plain_after (λ _. after a (payloads 0 rs)) (earlier ++ s ∷ []) ss =
    ap (λ (all : List Request). plain_after (λ _. a) all ss) (append_assoc rs earlier (s ∷ [])) ∙ later_array a rs (earlier ++ s ∷ []) ss on.1 in
    λ i. here i ∷ rest i

pub plain_append : (a : List Block) (rs ss : List Request) → OnVolume ss → plain (λ _. a) (rs ++ ss) ≡ plain (λ _. a) rs ++ plain (λ _. after a (payloads 0 rs)) ss
unfolding plain
plain_append a rs ss on =
    plain_after_append (λ _. a) [] rs ss
    ∙ ap (λ (ms : List (Option ℕ)). plain_after (λ _. a) [] rs ++ ms) (ap (λ (all : List Request). plain_after (λ _. a) all ss) (sym (append-nil rs)) ∙ later_array a rs [] ss on)

-- a plain array answers each read, and nothing else
has_mark : (arrays : ℕ → List Block) (earlier : List Request) (r : Request) (k : Kind) → HasMark k (answer arrays earlier r k)
has_mark arrays earlier r kind.Read = tt
has_mark arrays earlier r kind.Write = tt

have_marks : (arrays : ℕ → List Block) (earlier rs : List Request) → HaveMarks rs (plain_after arrays earlier rs)
have_marks arrays earlier [] = tt
have_marks arrays earlier (r ∷ rs) = (has_mark arrays earlier r r.kind, have_marks arrays (earlier ++ r ∷ []) rs)

plain_marks : (arrays : ℕ → List Block) (rs : List Request) → HaveMarks rs (plain arrays rs)
unfolding plain
plain_marks arrays rs = have_marks arrays [] rs

pub marked : (array : Option (List Block)) (rs : List Request) (marks : List (Option ℕ)) → AreMarks array rs marks → HaveMarks rs marks
marked None rs marks h = h
marked (Some a) rs marks h = rw h (plain_marks (λ _. a) rs)

both_marked : (rs ss : List Request) (ms ns : List (Option ℕ)) → HaveMarks rs ms → HaveMarks ss ns → HaveMarks (rs ++ ss) (ms ++ ns)
both_marked [] ss [] ns h k = k
both_marked [] ss (m ∷ ms) ns h k = absurd h
both_marked (r ∷ rs) ss [] ns h k = absurd h
both_marked (r ∷ rs) ss (m ∷ ms) ns h k = (h.0, both_marked rs ss ms ns h.1 k)

pub marks_both : (array : Option (List Block)) (rs ss : List Request) (ms ns : List (Option ℕ)) → OnVolume ss → AreMarks array rs ms → AreMarks (content_after rs array) ss ns → AreMarks array (rs ++ ss) (ms ++ ns)
marks_both None rs ss ms ns on h k = both_marked rs ss ms ns h k
marks_both (Some a) rs ss ms ns on h k = rw (h, k) (sym (plain_append a rs ss on))

pub read_lines_append : (rs ss : List Request) (ms ns : List (Option ℕ)) → HaveMarks rs ms → read_lines (rs ++ ss) (ms ++ ns) ≡ read_lines rs ms ++ read_lines ss ns
read_lines_append [] ss [] ns h = refl
read_lines_append [] ss (m ∷ ms) ns h = absurd h
read_lines_append (r ∷ rs) ss [] ns h = absurd h
read_lines_append (r ∷ rs) ss (m ∷ ms) ns h = ap (λ (text : List ℕ). text_of r m ++ text) (read_lines_append rs ss ms ns h.1) ∙ sym (append_assoc (text_of r m) (read_lines rs ms) (read_lines ss ns))

-- the content after requests, and then others
pub content_both : (rs ss : List Request) (array : Option (List Block)) → content_after (rs ++ ss) array ≡ content_after ss (content_after rs array)
content_both rs ss None = refl
content_both rs ss (Some a) = ap Some (ap (after a) (payloads_append rs ss) ∙ after_more a (payloads 0 rs) (payloads 0 ss))

pub content_none : (array : Option (List Block)) → content_after [] array ≡ array
content_none None = refl
content_none (Some a) = ap Some (after_none a)

-- one request
pub write_marks : (array : Option (List Block)) (r : Request) → r.kind ≡ kind.Write → AreMarks array (r ∷ []) (None ∷ [])
unfolding plain
write_marks None r is = (rw is tt, tt)
write_marks (Some a) r is = rw is refl

pub read_marks : (array : Option (List Block)) (r : Request) (found : ℕ) → r.kind ≡ kind.Read → ((a : List Block) → array ≡ Some a → found ≡ mark (slice_range a r.first (r.first + r.count))) → AreMarks array (r ∷ []) (Some found ∷ [])
unfolding plain
read_marks None r found is known = (rw is tt, tt)
read_marks (Some a) r found is known = rw (is, known a refl, after_none a) refl

pub read_content : (r : Request) (array : Option (List Block)) → r.kind ≡ kind.Read → content_after (r ∷ []) array ≡ array
read_content r array is = rw is (content_none array)
