-- A line with no mark is one record of `csv`, whose fields are the parts between its commas.
use Rattle.std.proofs.Common.{◌≡◌, ◌≢◌, ℕ, ◌<◌, ◌==◌, ◌||◌, inl, inr, Bool, true, false, List, [], ◌∷◌, ◌++◌, length, get_or, Some, refl, sym, ap, ◌∙◌, append_assoc, append-nil, arith, zero, suc}
use Rattle.std.proofs.lemmas.Bool.{cases_Bool, eqb-true}
use Rattle.std.specs.Prelude.{slice_get}
use Rattle.std.specs.List.{list_any, onto_first}
use Rattle.csv.specs.Machine.{next_record}
use Rattle.csv.specs.Records.{field_at}
use Rattle.csv.specs.Reading.{default_config, strip_bom}
use Rattle.csv.specs.declared.parser.State.TheVariants as st
use Rattle.csv.proofs.RoundTrip.{start-same, record-same}
use Rattle.msr_trace.specs.Lines.{fields_of, is_feed, is_mark}

-- the field at a place, in std's word
pub field_at-get : (fields : List (List ℕ)) (i : ℕ) → field_at fields i ≡ slice_get fields i
unfolding field_at
field_at-get [] i = refl
field_at-get (f ∷ fields) zero = refl
field_at-get (f ∷ fields) (suc i) = field_at-get fields i

-- no quotation mark, carriage return or line feed
abbrev pub is_special : ℕ → Bool
is_special b = is_mark b || is_feed b

-- the first part goes on after these bytes
abbrev after : List ℕ → List (List ℕ) → List (List ℕ)
after front [] = front ∷ []
after front (part ∷ parts) = (front ++ part) ∷ parts

after_onto : (front : List ℕ) (c : ℕ) (parts : List (List ℕ)) → after (front ++ c ∷ []) parts ≡ after front (onto_first c parts)
after_onto front c [] = refl
after_onto front c (part ∷ parts) = ap (λ (p : List ℕ). p ∷ parts) (append_assoc front (c ∷ []) part)

after_nothing : (bytes : List ℕ) → after [] (fields_of bytes) ≡ fields_of bytes
after_nothing [] = refl
after_nothing (c ∷ bytes) = elim (cases_Bool (c == 44)) [
  | inl comma ↦ rw comma refl
  | inr other ↦ rw other (onto (fields_of bytes))
] where
  onto : (parts : List (List ℕ)) → after [] (onto_first c parts) ≡ onto_first c parts
  onto [] = refl
  onto (part ∷ parts) = refl

-- each byte is plain
heads : (a b d e : Bool) → (((a || b) || d) || e) ≡ false → (a ≡ false) × (b ≡ false) × (d ≡ false) × (e ≡ false)
heads false false false false h = (refl, refl, refl, refl)
heads true b d e h = absurd (cc h)
heads false true d e h = absurd (cc h)
heads false false true e h = absurd (cc h)
heads false false false true h = absurd (cc h)

none_of : (m ms f fs s : Bool) → (m || ms) ≡ false → (f || fs) ≡ false → (ms ≡ false → fs ≡ false → s ≡ false) → ((m || f) || s) ≡ false
none_of false false false false s h k e = e refl refl
none_of true ms f fs s h k e = absurd (cc h)
none_of false true f fs s h k e = absurd (cc h)
none_of false false true fs s h k e = absurd (cc k)
none_of false false false true s h k e = absurd (cc k)

-- no mark and no feed
pub no_special : (bytes : List ℕ) → list_any is_mark bytes ≡ false → list_any is_feed bytes ≡ false → list_any is_special bytes ≡ false
no_special [] h k = refl
no_special (b ∷ bytes) h k = none_of (is_mark b) (list_any is_mark bytes) (is_feed b) (list_any is_feed bytes) (list_any is_special bytes) h k (no_special bytes)

start : (done : List (List ℕ)) (bytes : List ℕ) → list_any is_special bytes ≡ false → next_record default_config st.StartField done [] bytes ≡ next_record default_config st.InField done [] bytes
unfolding next_record
start done [] h = refl
start done (c ∷ bytes) h = start-same done [] c bytes (heads (c == 34) (c == 13) (c == 10) (list_any is_special bytes) h).0

run : (done : List (List ℕ)) (front bytes : List ℕ) → list_any is_special bytes ≡ false → next_record default_config st.InField done front bytes ≡ Some (done ++ after front (fields_of bytes), st.StartRecord, [])
unfolding next_record
run done front [] h = ap (λ (f : List ℕ). Some (done ++ f ∷ [], st.StartRecord, [])) (sym (append-nil front))
run done front (c ∷ bytes) h =
    let plain = heads (c == 34) (c == 13) (c == 10) (list_any is_special bytes) h in
    elim (cases_Bool (c == 44)) [
      | inl comma ↦ rw comma (start (done ++ front ∷ []) bytes plain.3 ∙ run (done ++ front ∷ []) [] bytes plain.3 ∙ ap (λ (fs : List (List ℕ)). Some (fs, st.StartRecord, [])) (rw (after_nothing bytes, append-nil front) (append_assoc done (front ∷ []) (fields_of bytes))))
      | inr other ↦ rw (other, plain.1, plain.2) (run done (front ++ c ∷ []) bytes plain.3 ∙ ap (λ (fs : List (List ℕ)). Some (done ++ fs, st.StartRecord, [])) (after_onto front c (fields_of bytes)))
    ]

-- a line that begins with no byte order mark
unmarked : (c : ℕ) (bytes : List ℕ) → c ≢ 239 → strip_bom (c ∷ bytes) ≡ c ∷ bytes
unfolding strip_bom
unmarked c [] n = refl
unmarked c (b ∷ []) n = refl
unmarked c (b ∷ d ∷ bytes) n = elim (cases_Bool (c == 239)) [
  | inl same ↦ absurd (n (eqb-true c 239 same))
  | inr other ↦ rw other refl
]

-- the whole line
pub line_record : (line : List ℕ) → 0 < length line → list_any is_special line ≡ false → get_or line 0 0 ≢ 239 → next_record default_config st.StartRecord [] [] (strip_bom line) ≡ Some (fields_of line, st.StartRecord, [])
line_record [] some h n = absurd (omega arith)
line_record (c ∷ bytes) some h n =
    let plain = heads (c == 34) (c == 13) (c == 10) (list_any is_special bytes) h in
    rw (unmarked c bytes n) (record-same [] [] c bytes plain.1 plain.2 ∙ start [] (c ∷ bytes) h ∙ run [] [] (c ∷ bytes) h ∙ ap (λ (fs : List (List ℕ)). Some (fs, st.StartRecord, [])) (after_nothing (c ∷ bytes)))
