-- A block spells at most one label, view, segment head and record head, and a segment is at most one log.
use Rattle.std.proofs.Common.{◌≡◌, ℕ, zero, suc, ◌-◌, ◌^◌, ◌<◌, ◌≤◌, true, false, List, [], ◌∷◌, ◌++◌, length, drop, refl, sym, ap, ◌∙◌, arith, replicate, eqb}
use Rattle.std.specs.Prelude.{slice_index, codes}
use Rattle.std.specs.List.{flat_map, AllByRecursion}
use Rattle.std.specs.Str.{bytes_eq}
use Rattle.std.proofs.lemmas.Option.{same_Some}
use Rattle.byteorder.specs.Endian.{little_bytes, little_number}
use Rattle.byteorder.specs.Numbers.{little_number-reads_back}
use Rattle.wol_disk.specs.Disk.{Block}
use Rattle.wol_model.proofs.ReadHeads.{read_back, spelled_back, spelled_from, not_gate, same_bytes}
use Rattle.wol_model.proofs.ReadLogs.{log_read, log_from}
use Rattle.wol_model.specs.HeadLaws.{OneLabel, OneView, OneSegmentHead, OneRecordHead, GateIsNoHead, ReadingHeads, ReadingLogs, OneLog, NotBoth}
use Rattle.wol_model.specs.Recovered.{spelled_head, read_log}
use Rattle.wol_model.specs.Heads.{Shape, Free, Owned, label_block, view_block, free_block, owned_block, gate_block}

-- the fields of a label, read back
label_id : (id : ℕ) (s : Shape) → id < 256 ^ 4 → little_number 4 (drop 8 (label_block id s)) ≡ id
unfolding label_block
label_id id s lt = read_back 4 id lt

label_shape : (id : ℕ) (s : Shape) → s.home < 256 ^ 8 → s.segments < 256 ^ 4 → s.segment_blocks < 256 ^ 4
    → record { home = little_number 8 (drop 12 (label_block id s)); segments = little_number 4 (drop 20 (label_block id s)); segment_blocks = little_number 4 (drop 24 (label_block id s)) } ≡ s
unfolding label_block
label_shape id s home segments blocks = λ i. record { home = read_back 8 s.home home i; segments = read_back 4 s.segments segments i; segment_blocks = read_back 4 s.segment_blocks blocks i }

shape_in : Block → Shape
shape_in b = record { home = little_number 8 (drop 12 b); segments = little_number 4 (drop 20 b); segment_blocks = little_number 4 (drop 24 b) }

shape_back : (id : ℕ) (s : Shape) → s.home < 256 ^ 8 → s.segments < 256 ^ 4 → s.segment_blocks < 256 ^ 4 → shape_in (label_block id s) ≡ s
unfolding shape_in
shape_back = label_shape

pub one_label : OneLabel
one_label b id other s t one two =
    let same : label_block id s ≡ label_block other t = sym one.bytes ∙ two.bytes in (
      sym (label_id id s one.id_in_range) ∙ ap (λ (c : Block). little_number 4 (drop 8 c)) same ∙ label_id other t two.id_in_range,
      sym (shape_back id s (let top = one.in_range.home.1 in omega arith) (let top = one.in_range.segments in omega arith) (let top = one.in_range.segment_blocks.1 in omega arith))
          ∙ ap shape_in same ∙ shape_back other t (let top = two.in_range.home.1 in omega arith) (let top = two.in_range.segments in omega arith) (let top = two.in_range.segment_blocks.1 in omega arith),
    )

-- n numbers of four bytes each
numbers : ℕ → List ℕ → List ℕ
numbers zero bs = []
numbers (suc n) bs = little_number 4 bs ∷ numbers n (drop 4 bs)

numbers_back : (ids rest : List ℕ) → AllByRecursion (λ id. id < 2 ^ 32) ids → numbers (length ids) (flat_map (little_bytes 4) ids ++ rest) ≡ ids
unfolding numbers
numbers_back [] rest all = refl
numbers_back (id ∷ ids) rest all = λ i. little_number-reads_back 4 id (flat_map (little_bytes 4) ids ++ rest) all.0 i ∷ numbers_back ids rest all.1 i

view_count : (ids : List ℕ) → length ids < 256 ^ 4 → little_number 4 (drop 8 (view_block ids)) ≡ length ids
unfolding view_block
view_count ids lt = read_back 4 (length ids) lt

-- the ids that a view block has
ids_in : Block → List ℕ
ids_in b = numbers (little_number 4 (drop 8 b)) (drop 12 b)

view_ids : (ids : List ℕ) → length ids ≤ 16 → AllByRecursion (λ id. id < 2 ^ 32) ids → ids_in (view_block ids) ≡ ids
unfolding ids_in view_block
view_ids ids few all =
    ap (λ (n : ℕ). numbers n (drop 12 (view_block ids))) (view_count ids (omega arith))
    ∙ numbers_back ids (replicate (512 - length (codes "WOLVIEW1" ++ (little_bytes 4 (length ids) ++ flat_map (little_bytes 4) ids))) 0) all

pub one_view : OneView
one_view b ids others one two =
    sym (view_ids ids one.in_range.few one.in_range.in_range) ∙ ap ids_in (sym one.bytes ∙ two.bytes) ∙ view_ids others two.in_range.few two.in_range.in_range

owner_back : (owner : ℕ) → owner < 2 ^ 32 → little_number 4 (drop 8 (owned_block owner)) ≡ owner
unfolding owned_block
owner_back owner lt = read_back 4 owner lt

not_owned : (owner : ℕ) → free_block ≡ owned_block owner → ⊥
unfolding free_block owned_block
not_owned owner same = let differ : true ≡ false = ap (λ (c : Block). eqb (slice_index c 6) 70) same in cc

pub one_segment_head : OneSegmentHead
one_segment_head b Free Free one two = refl
one_segment_head b Free (Owned other) one two = absurd (not_owned other (sym one.bytes ∙ two.bytes))
one_segment_head b (Owned owner) Free one two = absurd (not_owned owner (sym two.bytes ∙ one.bytes))
one_segment_head b (Owned owner) (Owned other) one two =
    ap Owned (sym (owner_back owner one.in_range) ∙ ap (λ (c : Block). little_number 4 (drop 8 c)) (sym one.bytes ∙ two.bytes) ∙ owner_back other two.in_range)

pub reading_heads : ReadingHeads
reading_heads b h = (λ spells. ap spelled_head spells.bytes ∙ spelled_back h spells.in_range, spelled_from b h)

pub one_record_head : OneRecordHead
one_record_head b h g one two = same_Some h g (sym ((reading_heads b h).0 one) ∙ (reading_heads b g).0 two)

pub gate_is_no_head : GateIsNoHead
gate_is_no_head h spells = let no : false ≡ true = sym (not_gate h) ∙ ap (λ (b : Block). bytes_eq b gate_block) (sym spells.bytes) ∙ same_bytes gate_block in cc

pub reading_logs : ReadingLogs
reading_logs bs owner rs = (log_read bs owner rs, log_from bs owner rs)

first_of : List Block → Block
first_of [] = []
first_of (c ∷ cs) = c

pub one_log : OneLog
unfolding first_of
one_log bs owner other rs ss one two =
    let heads : owned_block owner ≡ owned_block other = ap first_of (sym one.joined ∙ two.joined) in
    let same : owner ≡ other = sym (owner_back owner one.known) ∙ ap (λ (c : Block). little_number 4 (drop 8 c)) heads ∙ owner_back other two.known in
    (same, same_Some rs ss (sym (log_read bs owner rs one) ∙ ap (λ (o : ℕ). read_log o bs) same ∙ log_read bs other ss two))

pub not_both : NotBoth
unfolding first_of
not_both [] owner rs idle log = absurd idle
not_both (b ∷ bs) owner rs idle log = not_owned owner (sym idle ∙ ap first_of log.joined)
