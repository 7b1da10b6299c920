-- What is read is spelled.
use Rattle.std.proofs.Common.{inl, inr, ◌^◌, ◌≡◌, ℕ, ◌+◌, ◌≤◌, ◌<◌, ◌==◌, ◌⊎◌, true, false, List, [], ◌∷◌, ◌++◌, Option, None, Some, Result, Ok, Err, length, refl, sym, ap, ◌∙◌, arith, nat_le, nat_lt, codes, if◌then◌else◌}
use Rattle.std.specs.List.{AllByRecursion, list_any, join_with_byte}
use Rattle.std.specs.Option.{ok_or}
use Rattle.std.specs.Str.{bytes_eq}
use Rattle.std.proofs.lemmas.Slice.Eq.{bytes_eq-Decides}
use Rattle.std.proofs.lemmas.Bool.{cases_Bool, eqb-true, ltb-true, ltb-false, leb-false}
use Rattle.std.proofs.lemmas.List.{nil_from_length}
use Rattle.std.proofs.lemmas.List.Splits.{join_with_byte-slice_split}
use Rattle.wol_model.specs.Trace.{TraceLine}
use Rattle.wol_model.specs.declared.trace.Kind.{Kind}
use Rattle.wol_model.specs.declared.trace.Kind.TheVariants as kind
use Rattle.msr_trace.specs.declared.format.BadLine.{BadLine}
use Rattle.msr_trace.specs.declared.format.BadLine.TheVariants as bad
use Rattle.msr_trace.specs.Numbers.{number_of}
use Rattle.msr_trace.specs.Lines.{◌>>=◌, body_of, disk_in, fields_of, is_mark, kind_in, line_in, number_in, read_of, without_return}
use Rattle.msr_trace.specs.Spelling.{AreDigits, Digits, Spells, fields_text, is_reserved, kind_text}
use Rattle.msr_trace.proofs.Parts.{None_in, parts_free, none_parts, none_either}
use Rattle.msr_trace.proofs.Returns.{with_return}

-- what a line that was read from seven fields has
record Read (f0 f1 f2 f3 f4 f5 f6 : List ℕ) (l : TraceLine) : Type 0 where
  pub host : f1 ≡ l.host
  pub kind : f3 ≡ kind_text l.kind
  pub digits : AreDigits l (record { time = f0; disk = f2; offset = f4; size = f5; response = f6 })

option_cases : (o : Option ℕ) → (o ≡ None) ⊎ ((n : ℕ) × (o ≡ Some n))
option_cases None = inl refl
option_cases (Some n) = inr (n, refl)

-- the tests on the bounds, and the line
abbrev sizes_of : ℕ → List ℕ → ℕ → Kind → ℕ → ℕ → ℕ → Result TraceLine BadLine
sizes_of t host n k o z r =
    if nat_lt 67108864 z then Err bad.TooLarge
    else (if nat_le (2 ^ 64) (o + z) then Err bad.PastEnd
    else (Ok (record { time = t; host = host; disk = n; kind = k; offset = o; size = z; response = r })))

-- the last tests, and the line that they leave
read_end : (f0 f1 f2 f3 f4 f5 f6 : List ℕ) (t n o z r : ℕ) (k : Kind) (l : TraceLine)
    → number_of f0 ≡ Some t → number_of f2 ≡ Some n → n < 2 ^ 32 → f3 ≡ kind_text k → number_of f4 ≡ Some o → number_of f5 ≡ Some z → number_of f6 ≡ Some r
    → z ≤ 67108864 → o + z < 2 ^ 64 → record { time = t; host = f1; disk = n; kind = k; offset = o; size = z; response = r } ≡ l
    → Read f0 f1 f2 f3 f4 f5 f6 l
read_end f0 f1 f2 f3 f4 f5 f6 t n o z r k l et en small ek eo ez er large end is = rw (← is) (record {
  host = refl;
  kind = ek;
  digits = record { time = et; disk = en; offset = eo; size = ez; response = er; disk_fits = small; fits = record { size = large; end = end } };
})

is_text : (f text : List ℕ) → bytes_eq f text ≡ true → f ≡ text
is_text f text h = (bytes_eq-Decides f text).0 h

-- the tests on offset, size and response
read_sizes : (f0 f1 f2 f3 f4 f5 f6 : List ℕ) (t n o z r : ℕ) (k : Kind) (l : TraceLine)
    → number_of f0 ≡ Some t → number_of f2 ≡ Some n → n < 2 ^ 32 → f3 ≡ kind_text k → number_of f4 ≡ Some o → number_of f5 ≡ Some z → number_of f6 ≡ Some r
    → sizes_of t f1 n k o z r ≡ Ok l
    → Read f0 f1 f2 f3 f4 f5 f6 l
read_sizes f0 f1 f2 f3 f4 f5 f6 t n o z r k l et en small ek eo ez er h = elim (cases_Bool (nat_lt 67108864 z)) [
  | inl large ↦ absurd (cc (rw large at h))
  | inr fits ↦ elim (cases_Bool (nat_le (2 ^ 64) (o + z))) [
    | inl past ↦ absurd (cc (rw (fits, past) at h))
    | inr end ↦
        let is : record { time = t; host = f1; disk = n; kind = k; offset = o; size = z; response = r } ≡ l = (let e = rw (fits, end) at h in cc e) in
        read_end f0 f1 f2 f3 f4 f5 f6 t n o z r k l et en small ek eo ez er (ltb-false 67108864 z fits) (leb-false (2 ^ 64) (o + z) end) is
  ]
]

-- the tests on the numbers behind the kind
read_numbers : (f0 f1 f2 f3 f4 f5 f6 : List ℕ) (t n : ℕ) (k : Kind) (l : TraceLine)
    → number_of f0 ≡ Some t → number_of f2 ≡ Some n → n < 2 ^ 32 → f3 ≡ kind_text k
    → (ok_or (number_of f4) (bad.Number 5) >>= λ o. ok_or (number_of f5) (bad.Number 6) >>= λ z. ok_or (number_of f6) (bad.Number 7) >>= λ r. sizes_of t f1 n k o z r) ≡ Ok l
    → Read f0 f1 f2 f3 f4 f5 f6 l
read_numbers f0 f1 f2 f3 f4 f5 f6 t n k l et en small ek h = elim (option_cases (number_of f4)) [
  | inl none ↦ absurd (cc (rw none at h))
  | inr (o, eo) ↦ elim (option_cases (number_of f5)) [
    | inl none ↦ absurd (cc (rw (eo, none) at h))
    | inr (z, ez) ↦ elim (option_cases (number_of f6)) [
      | inl none ↦ absurd (cc (rw (eo, ez, none) at h))
      | inr (r, er) ↦ read_sizes f0 f1 f2 f3 f4 f5 f6 t n o z r k l et en small ek eo ez er (rw (eo, ez, er) at h)
    ]
  ]
]

-- seven fields that are read
read_fields : (f0 f1 f2 f3 f4 f5 f6 : List ℕ) (l : TraceLine) → line_in (f0 ∷ f1 ∷ f2 ∷ f3 ∷ f4 ∷ f5 ∷ f6 ∷ []) ≡ Ok l → Read f0 f1 f2 f3 f4 f5 f6 l
unfolding line_in number_in disk_in kind_in
read_fields f0 f1 f2 f3 f4 f5 f6 l h = elim (option_cases (number_of f0)) [
  | inl none ↦ absurd (cc (rw none at h))
  | inr (t, et) ↦ elim (option_cases (number_of f2)) [
    | inl none ↦ absurd (cc (rw (et, none) at h))
    | inr (n, en) ↦ elim (cases_Bool (nat_lt n (2 ^ 32))) [
      | inr large ↦ absurd (cc (rw (et, en, large) at h))
      | inl small ↦ elim (cases_Bool (bytes_eq f3 (codes "Read"))) [
        | inl is ↦ read_numbers f0 f1 f2 f3 f4 f5 f6 t n kind.Read l et en (ltb-true n (2 ^ 32) small) (is_text f3 (codes "Read") is) (rw (et, en, small, is) at h)
        | inr no_read ↦ elim (cases_Bool (bytes_eq f3 (codes "Write"))) [
          | inl is ↦ read_numbers f0 f1 f2 f3 f4 f5 f6 t n kind.Write l et en (ltb-true n (2 ^ 32) small) (is_text f3 (codes "Write") is) (rw (et, en, small, no_read, is) at h)
          | inr no_write ↦ absurd (cc (rw (et, en, small, no_read, no_write) at h))
        ]
      ]
    ]
  ]
]

-- a list of seven
record Seven (fs : List (List ℕ)) : Type 0 where
  pub f0 : List ℕ
  pub f1 : List ℕ
  pub f2 : List ℕ
  pub f3 : List ℕ
  pub f4 : List ℕ
  pub f5 : List ℕ
  pub f6 : List ℕ
  pub is : fs ≡ f0 ∷ f1 ∷ f2 ∷ f3 ∷ f4 ∷ f5 ∷ f6 ∷ []

seven : (fs : List (List ℕ)) → length fs ≡ 7 → Seven fs
seven [] h = absurd (omega (arith, h))
seven (a ∷ []) h = absurd (omega (arith, h))
seven (a ∷ b ∷ []) h = absurd (omega (arith, h))
seven (a ∷ b ∷ c ∷ []) h = absurd (omega (arith, h))
seven (a ∷ b ∷ c ∷ d ∷ []) h = absurd (omega (arith, h))
seven (a ∷ b ∷ c ∷ d ∷ e ∷ []) h = absurd (omega (arith, h))
seven (a ∷ b ∷ c ∷ d ∷ e ∷ f ∷ []) h = absurd (omega (arith, h))
seven (a ∷ b ∷ c ∷ d ∷ e ∷ f ∷ g ∷ []) h = record { f0 = a; f1 = b; f2 = c; f3 = d; f4 = e; f5 = f; f6 = g; is = refl }
seven (a ∷ b ∷ c ∷ d ∷ e ∷ f ∷ g ∷ i ∷ fs) h = absurd (omega (arith, h))

seven_read : (fs : List (List ℕ)) (l : TraceLine) → line_in fs ≡ Ok l → Seven fs
unfolding line_in
seven_read fs l h = elim (cases_Bool (length fs == 7)) [
  | inl is ↦ seven fs (eqb-true (length fs) 7 is)
  | inr other ↦ absurd (cc (rw other at h))
]

-- a line with no mark whose fields are read is spelled
body_spelled : (body : List ℕ) (l : TraceLine) → list_any is_mark body ≡ false → line_in (fields_of body) ≡ Ok l
    → (d : Digits) × AreDigits l d × (list_any is_reserved l.host ≡ false) × (body ≡ fields_text l d)
body_spelled body l marks h =
    let s = seven_read (fields_of body) l h in
    let read = read_fields s.f0 s.f1 s.f2 s.f3 s.f4 s.f5 s.f6 l (rw s.is at h) in
    let whole : body ≡ s.f0 ++ 44 ∷ (s.f1 ++ 44 ∷ (s.f2 ++ 44 ∷ (s.f3 ++ 44 ∷ (s.f4 ++ 44 ∷ (s.f5 ++ 44 ∷ s.f6))))) = sym (join_with_byte-slice_split 44 body) ∙ ap (join_with_byte 44) s.is in
    let parts : AllByRecursion (None_in (λ b. b == 44)) (s.f0 ∷ s.f1 ∷ s.f2 ∷ s.f3 ∷ s.f4 ∷ s.f5 ∷ s.f6 ∷ []) = rw s.is at (parts_free (λ b. b == 44) body) in
    let after_time = (none_parts is_mark s.f0 _ (rw whole at marks)).1 in
    let host_marks : list_any is_mark s.f1 ≡ false = (none_parts is_mark s.f1 _ after_time).0 in (
      record { time = s.f0; disk = s.f2; offset = s.f4; size = s.f5; response = s.f6 },
      read.digits,
      rw (← read.host) (none_either (λ b. b == 44) is_mark s.f1 parts.1.0 host_marks),
      whole ∙ rw (read.host, read.kind) refl,
    )

-- a line that was read, where it was
bound : (r : Result TraceLine BadLine) (o : Option TraceLine) → (r >>= λ (line : TraceLine). Ok (Some line)) ≡ Ok o → (l : TraceLine) × (o ≡ Some l) × (r ≡ Ok l)
bound (Ok l) o h = (l, (let k : Some l ≡ o = cc h in sym k), refl)
bound (Err e) o h = absurd (cc h)

-- what a body is read as: nothing, or a line
record IsLine (body : List ℕ) (o : Option TraceLine) : Type 0 where
  pub line : TraceLine
  pub given : o ≡ Some line
  pub free : list_any is_mark body ≡ false
  pub read : line_in (fields_of body) ≡ Ok line

body_cases : (body : List ℕ) (o : Option TraceLine) → body_of body ≡ Ok o → ((length body ≡ 0) × (None ≡ o)) ⊎ IsLine body o
unfolding body_of
body_cases body o h = elim (cases_Bool (length body == 0)) [
  | inl empty ↦ inl (eqb-true (length body) 0 empty, (let k = rw empty at h in cc k))
  | inr some ↦ elim (cases_Bool (list_any is_mark body)) [
    | inl mark ↦ absurd (cc (rw (some, mark) at h))
    | inr free ↦ let b = bound (line_in (fields_of body)) o (rw (some, free) at h) in inr (record { line = b.0; given = b.1; free = free; read = b.2 })
  ]
]

-- a line that is read isn't too long
read_cases : (text : List ℕ) (o : Option TraceLine) → read_of text ≡ Ok o → (length text ≤ 4096) × (body_of (without_return text) ≡ Ok o)
unfolding read_of
read_cases text o h = elim (cases_Bool (nat_lt 4096 (length text))) [
  | inl long ↦ absurd (cc (rw long at h))
  | inr short ↦ (ltb-false 4096 (length text) short, rw short at h)
]

pub read_is_spelled : (text : List ℕ) (l : TraceLine) → read_of text ≡ Ok (Some l) → (d : Digits) × Spells text l d
read_is_spelled text l h =
    let read = read_cases text (Some l) h in
    elim (body_cases (without_return text) (Some l) read.1) [
      | inl (empty, none) ↦ absurd (cc none)
      | inr line ↦
          let same : line.line ≡ l = (let k = line.given in cc k) in
          let spelled = body_spelled (without_return text) l line.free (rw same at line.read) in (
            spelled.0,
            record {
              short = read.0;
              host = spelled.2;
              digits = spelled.1;
              whole = elim (with_return text) [
                | inl whole ↦ inl (whole ∙ spelled.3)
                | inr longer ↦ inr (longer ∙ ap (λ (body : List ℕ). body ++ 13 ∷ []) spelled.3)
              ];
            },
          )
    ]

pub blank_is_empty : (text : List ℕ) → read_of text ≡ Ok None → (text ≡ []) ⊎ (text ≡ 13 ∷ [])
blank_is_empty text h =
    let read = read_cases text None h in
    elim (body_cases (without_return text) None read.1) [
      | inr line ↦ absurd (let k = line.given in cc k)
      | inl (empty, none) ↦
          let nothing : without_return text ≡ [] = nil_from_length (without_return text) empty in
          elim (with_return text) [
            | inl whole ↦ inl (whole ∙ nothing)
            | inr longer ↦ inr (longer ∙ ap (λ (body : List ℕ). body ++ 13 ∷ []) nothing)
          ]
    ]
