-- What is spelled is read.
use Rattle.std.proofs.Common.{inl, inr, ◌^◌, ◌≡◌, ℕ, ◌+◌, ◌==◌, Bool, true, false, List, [], ◌∷◌, ◌++◌, Some, Ok, length, refl, ap, ◌∙◌, arith, nat_le, nat_lt, length-append}
use Rattle.std.specs.List.{list_any}
use Rattle.std.proofs.lemmas.Bool.{ne_eqb, lt-ltb, le-ltb, lt-leb}
use Rattle.wol_model.specs.Trace.{TraceLine}
use Rattle.wol_model.specs.declared.trace.Kind.{Kind}
use Rattle.wol_model.specs.declared.trace.Kind.TheVariants as kind
use Rattle.msr_trace.specs.Numbers.{number_of}
use Rattle.msr_trace.specs.Lines.{Fits, body_of, disk_in, fields_of, is_mark, kind_in, line_in, number_in, read_of, without_return}
use Rattle.msr_trace.specs.Spelling.{AreDigits, Digits, IsWritable, Spells, digits_of, fields_text, is_reserved, kind_text, line_text}
use Rattle.msr_trace.proofs.Numerals.{decimal_number, number_free}
use Rattle.msr_trace.proofs.Parts.{cut_at, one_part, none_left, none_right, none_both}
use Rattle.msr_trace.proofs.Returns.{without_none, without_last}

is_comma : ℕ → Bool
is_comma b = b == 44

no_comma : (field : List ℕ) → list_any is_reserved field ≡ false → list_any (λ b. b == 44) field ≡ false
no_comma field h = none_left (λ b. b == 44) is_mark field h

no_mark : (field : List ℕ) → list_any is_reserved field ≡ false → list_any is_mark field ≡ false
no_mark field h = none_right (λ b. b == 44) is_mark field h

kind_free : (k : Kind) → list_any is_reserved (kind_text k) ≡ false
kind_free kind.Read = refl
kind_free kind.Write = refl

-- the parts of a spelled line
pub spelled_fields : (l : TraceLine) (d : Digits) → AreDigits l d → list_any is_reserved l.host ≡ false
    → fields_of (fields_text l d) ≡ d.time ∷ l.host ∷ d.disk ∷ kind_text l.kind ∷ d.offset ∷ d.size ∷ d.response ∷ []
spelled_fields l d are host =
    rw (
      cut_at (λ b. b == 44) d.time 44 _ (no_comma d.time (number_free d.time _ are.time)) refl,
      cut_at (λ b. b == 44) l.host 44 _ (no_comma l.host host) refl,
      cut_at (λ b. b == 44) d.disk 44 _ (no_comma d.disk (number_free d.disk _ are.disk)) refl,
      cut_at (λ b. b == 44) (kind_text l.kind) 44 _ (no_comma (kind_text l.kind) (kind_free l.kind)) refl,
      cut_at (λ b. b == 44) d.offset 44 _ (no_comma d.offset (number_free d.offset _ are.offset)) refl,
      cut_at (λ b. b == 44) d.size 44 _ (no_comma d.size (number_free d.size _ are.size)) refl,
      one_part (λ b. b == 44) d.response (no_comma d.response (number_free d.response _ are.response)),
    ) refl

-- no mark stands in it
then_comma : (field rest : List ℕ) → list_any is_mark field ≡ false → list_any is_mark rest ≡ false → list_any is_mark (field ++ 44 ∷ rest) ≡ false
then_comma field rest h k = none_both is_mark field (44 ∷ rest) h k

pub spelled_marks : (l : TraceLine) (d : Digits) → AreDigits l d → list_any is_reserved l.host ≡ false → list_any is_mark (fields_text l d) ≡ false
spelled_marks l d are host =
    then_comma d.time _ (no_mark d.time (number_free d.time _ are.time))
    (then_comma l.host _ (no_mark l.host host)
    (then_comma d.disk _ (no_mark d.disk (number_free d.disk _ are.disk))
    (then_comma (kind_text l.kind) _ (no_mark (kind_text l.kind) (kind_free l.kind))
    (then_comma d.offset _ (no_mark d.offset (number_free d.offset _ are.offset))
    (then_comma d.size _ (no_mark d.size (number_free d.size _ are.size))
    (no_mark d.response (number_free d.response _ are.response)))))))

read_parts : (k : Kind) (l : TraceLine) (d : Digits) → l.kind ≡ k
    → number_of d.time ≡ Some l.time → number_of d.disk ≡ Some l.disk → number_of d.offset ≡ Some l.offset → number_of d.size ≡ Some l.size → number_of d.response ≡ Some l.response
    → nat_lt l.disk (2 ^ 32) ≡ true → nat_lt 67108864 l.size ≡ false → nat_le (2 ^ 64) (l.offset + l.size) ≡ false
    → line_in (d.time ∷ l.host ∷ d.disk ∷ kind_text k ∷ d.offset ∷ d.size ∷ d.response ∷ []) ≡ Ok (record l { kind = k })
unfolding line_in number_in disk_in kind_in
read_parts kind.Read l d is t n o z r a b e = rw (t, n, o, z, r, a, b, e) refl
read_parts kind.Write l d is t n o z r a b e = rw (t, n, o, z, r, a, b, e) refl

read_line_in : (l : TraceLine) (d : Digits) → AreDigits l d → list_any is_reserved l.host ≡ false → line_in (fields_of (fields_text l d)) ≡ Ok l
read_line_in l d are host =
    ap line_in (spelled_fields l d are host)
    ∙ read_parts l.kind l d refl are.time are.disk are.offset are.size are.response (lt-ltb l.disk (2 ^ 32) are.disk_fits) (le-ltb 67108864 l.size are.fits.size) (lt-leb (2 ^ 64) (l.offset + l.size) are.fits.end)

text_some : (l : TraceLine) (d : Digits) → (length (fields_text l d) == 0) ≡ false
text_some l d = ne_eqb (length (fields_text l d)) 0 (λ e. absurd (omega (arith, e, length-append d.time (44 ∷ (l.host ++ 44 ∷ (d.disk ++ 44 ∷ (kind_text l.kind ++ 44 ∷ (d.offset ++ 44 ∷ (d.size ++ 44 ∷ d.response)))))))))

read_body : (l : TraceLine) (d : Digits) → AreDigits l d → list_any is_reserved l.host ≡ false → body_of (fields_text l d) ≡ Ok (Some l)
unfolding body_of
read_body l d are host = rw (text_some l d, spelled_marks l d are host, read_line_in l d are host) refl

-- the same, where the fields were taken off the front one after another
pub body_at : (body r0 r1 r2 r3 r4 kind : List ℕ) (l : TraceLine) (d : Digits)
    → body ≡ d.time ++ 44 ∷ r0 → r0 ≡ l.host ++ 44 ∷ r1 → r1 ≡ d.disk ++ 44 ∷ r2 → r2 ≡ kind ++ 44 ∷ r3 → r3 ≡ d.offset ++ 44 ∷ r4 → r4 ≡ d.size ++ 44 ∷ d.response
    → kind ≡ kind_text l.kind → AreDigits l d → list_any is_reserved l.host ≡ false
    → (body_of body ≡ Ok (Some l)) × Fits l
body_at body r0 r1 r2 r3 r4 kind l d e0 e1 e2 e3 e4 e5 is are host = (rw (e0, e1, e2, e3, e4, e5, is) (read_body l d are host), are.fits)

pub spelled_is_read : (text : List ℕ) (l : TraceLine) (d : Digits) → Spells text l d → read_of text ≡ Ok (Some l)
unfolding read_of
spelled_is_read text l d s =
    let body : without_return text ≡ fields_text l d = elim s.whole [
      | inl same ↦ rw same (without_none (fields_text l d) (spelled_marks l d s.digits s.host))
      | inr longer ↦ rw longer (without_last (fields_text l d))
    ] in
    rw (le-ltb 4096 (length text) s.short, body) (read_body l d s.digits s.host)

-- the text that is written
pub written_is_read : (l : TraceLine) → IsWritable l → read_of (line_text l) ≡ Ok (Some l)
written_is_read l w =
    spelled_is_read (line_text l) l (digits_of l) (record {
      short = w.short;
      host = w.host;
      digits = record {
        time = decimal_number l.time w.time;
        disk = decimal_number l.disk (omega (arith, w.disk));
        offset = decimal_number l.offset (omega (arith, w.fits.end));
        size = decimal_number l.size (omega (arith, w.fits.size));
        response = decimal_number l.response w.response;
        disk_fits = w.disk;
        fits = w.fits;
      };
      whole = inl refl;
    })
