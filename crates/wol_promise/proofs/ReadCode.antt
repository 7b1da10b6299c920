-- What was coded is read back.
use Rattle.std.proofs.Common.{◌≡◌, ℕ, Bool, true, false, List, [], ◌∷◌, ◌++◌, Option, None, Some, refl, sym, ap, ◌∙◌, length, append_assoc}
use Rattle.std.specs.Prelude.{unwrap_or}
use Rattle.std.specs.List.{flat_map}
use Rattle.std.specs.Option.{option_map, option_and_then}
use Rattle.std.proofs.lemmas.List.{append-nil}
use Rattle.wol_disk.specs.Disk.{Block}
use Rattle.wol_model.specs.Blocks.{Write}
use Rattle.wol_model.specs.History.{Operation, Wrote, Read, Kept, Broke}
use Rattle.wol_model.specs.Index.{Listed}
use Rattle.wol_promise.specs.Policy.{Look, PartName, HomePart, SegmentPart}
use Rattle.wol_promise.specs.Ruled.{Noted}
use Rattle.wol_promise.specs.Code.{list_code, number_code, flag_code, block_code, version_code, write_code, operation_code, listed_code, part_code, look_code, code_of}
use Rattle.wol_promise.specs.Code.{Reader, read_many, read_list, read_number, read_flag, read_block, read_version, read_write, read_operation, read_listed, read_part, read_look, read_noted, noted_of, CodeReadsBack, NotedBack, no_note}

abbrev ReadsBack : {X : Type 0} → (X → List ℕ) → Reader X → Type 0
ReadsBack {X} code read = (x : X) (rest : List ℕ) → read (code x ++ rest) ≡ Some (x, rest)

-- the second of two codes, behind the first
behind : {X : Type 0} (code : X → List ℕ) (read : Reader X) → ReadsBack code read → (x : X) (more rest : List ℕ) → read ((code x ++ more) ++ rest) ≡ Some (x, more ++ rest)
behind code read back x more rest = ap read (append_assoc (code x) more rest) ∙ back x (more ++ rest)

many_back : {X : Type 0} (code : X → List ℕ) (read : Reader X) → ReadsBack code read → (xs : List X) (rest : List ℕ) → read_many read (length xs) (flat_map code xs ++ rest) ≡ Some (xs, rest)
many_back code read back [] rest = refl
many_back {X} code read back (x ∷ xs) rest =
    ap (option_and_then (λ (y : X × List ℕ). option_map (λ (ys : List X × List ℕ). (y.0 ∷ ys.0, ys.1)) (read_many read (length xs) y.1))) (behind code read back x (flat_map code xs) rest)
    ∙ ap (option_map (λ (ys : List X × List ℕ). (x ∷ ys.0, ys.1))) (many_back code read back xs rest)

list_back : {X : Type 0} (code : X → List ℕ) (read : Reader X) → ReadsBack code read → ReadsBack (list_code code) (read_list read)
list_back code read back xs rest = many_back code read back xs rest

number_back : ReadsBack number_code read_number
number_back n rest = refl

flag_back : ReadsBack flag_code read_flag
flag_back true rest = refl
flag_back false rest = refl

block_back : ReadsBack block_code read_block
block_back = list_back number_code read_number number_back

version_back : ReadsBack version_code read_version
version_back None rest = refl
version_back (Some v) rest = refl

write_back : ReadsBack write_code read_write
write_back w rest =
    ap (option_and_then (λ (version : Option ℕ × List ℕ). option_map (λ (blocks : List Block × List ℕ). (record { first = w.first; blocks = blocks.0; version = version.0 }, blocks.1)) (read_list read_block version.1)))
    (behind version_code read_version version_back w.version (list_code block_code w.blocks) rest)
    ∙ ap (option_map (λ (blocks : List Block × List ℕ). (record { first = w.first; blocks = blocks.0; version = w.version }, blocks.1))) (list_back block_code read_block block_back w.blocks rest)

operation_back : ReadsBack operation_code read_operation
operation_back (Wrote ws) rest = ap (option_map (λ (vs : List Write × List ℕ). (Wrote vs.0, vs.1))) (list_back write_code read_write write_back ws rest)
operation_back (Read first reply) rest = ap (option_map (λ (blocks : List Block × List ℕ). (Read first blocks.0, blocks.1))) (list_back block_code read_block block_back reply rest)
operation_back Kept rest = refl
operation_back (Broke ws) rest = ap (option_map (λ (vs : List Write × List ℕ). (Broke vs.0, vs.1))) (list_back write_code read_write write_back ws rest)

listed_back : ReadsBack listed_code read_listed
listed_back e rest =
    ap (option_and_then (λ (keep : List Bool × List ℕ). option_map (λ (homed : List Bool × List ℕ). (record { version = e.version; first = e.first; keep = keep.0; lane = e.lane; homed = homed.0 }, homed.1)) (read_list read_flag keep.1)))
    (behind (list_code flag_code) (read_list read_flag) (list_back flag_code read_flag flag_back) e.keep (list_code flag_code e.homed) rest)
    ∙ ap (option_map (λ (homed : List Bool × List ℕ). (record { version = e.version; first = e.first; keep = e.keep; lane = e.lane; homed = homed.0 }, homed.1))) (list_back flag_code read_flag flag_back e.homed rest)

part_back : ReadsBack part_code read_part
part_back None rest = refl
part_back (Some HomePart) rest = refl
part_back (Some (SegmentPart logger index)) rest = refl

look_back : ReadsBack look_code read_look
look_back l rest =
    ap (option_and_then (λ (home_up : Bool × List ℕ). option_and_then (λ (ups : List Bool × List ℕ). option_and_then (λ (down : Option PartName × List ℕ). option_map (λ (listed : List Listed × List ℕ). (record { home_up = home_up.0; ups = ups.0; next = l.next; listed = listed.0; down = down.0 }, listed.1)) (read_list read_listed down.1)) (read_part ups.1)) (read_list read_flag home_up.1)))
    (behind flag_code read_flag flag_back l.home_up (list_code flag_code l.ups ++ (part_code l.down ++ list_code listed_code l.listed)) rest)
    ∙ ap (option_and_then (λ (ups : List Bool × List ℕ). option_and_then (λ (down : Option PartName × List ℕ). option_map (λ (listed : List Listed × List ℕ). (record { home_up = l.home_up; ups = ups.0; next = l.next; listed = listed.0; down = down.0 }, listed.1)) (read_list read_listed down.1)) (read_part ups.1)))
    (behind (list_code flag_code) (read_list read_flag) (list_back flag_code read_flag flag_back) l.ups (part_code l.down ++ list_code listed_code l.listed) rest)
    ∙ ap (option_and_then (λ (down : Option PartName × List ℕ). option_map (λ (listed : List Listed × List ℕ). (record { home_up = l.home_up; ups = l.ups; next = l.next; listed = listed.0; down = down.0 }, listed.1)) (read_list read_listed down.1)))
    (behind part_code read_part part_back l.down (list_code listed_code l.listed) rest)
    ∙ ap (option_map (λ (listed : List Listed × List ℕ). (record { home_up = l.home_up; ups = l.ups; next = l.next; listed = listed.0; down = l.down }, listed.1))) (list_back listed_code read_listed listed_back l.listed rest)

module _ (n : Noted) (rest : List ℕ) where
  abbrev with_ruled : Operation → Look → List ℕ → Bool → (Bool × List ℕ) → Noted × List ℕ
  with_ruled operation look passed after_drain ruled = (record { entry = record { pass = n.entry.pass; operation = operation }; look = look; passed = passed; after_drain = after_drain; ruled = ruled.0 }, ruled.1)

  abbrev with_drain : Operation → Look → List ℕ → (Bool × List ℕ) → Option (Noted × List ℕ)
  with_drain operation look passed after_drain = option_map (with_ruled operation look passed after_drain.0) (read_flag after_drain.1)

  abbrev with_passed : Operation → Look → (List ℕ × List ℕ) → Option (Noted × List ℕ)
  with_passed operation look passed = option_and_then (with_drain operation look passed.0) (read_flag passed.1)

  abbrev with_look : Operation → (Look × List ℕ) → Option (Noted × List ℕ)
  with_look operation look = option_and_then (with_passed operation look.0) (read_list read_number look.1)

  abbrev with_operation : (Operation × List ℕ) → Option (Noted × List ℕ)
  with_operation operation = option_and_then (with_look operation.0) (read_look operation.1)

  noted_back : read_noted n.entry.pass (code_of n ++ rest) ≡ Some (n, rest)
  unfolding code_of
  noted_back =
      ap (option_and_then with_operation) (behind operation_code read_operation operation_back n.entry.operation (look_code n.look ++ (list_code number_code n.passed ++ (flag_code n.after_drain ++ flag_code n.ruled))) rest)
      ∙ ap (option_and_then (with_look n.entry.operation)) (behind look_code read_look look_back n.look (list_code number_code n.passed ++ (flag_code n.after_drain ++ flag_code n.ruled)) rest)
      ∙ ap (option_and_then (with_passed n.entry.operation n.look)) (behind (list_code number_code) (read_list read_number) (list_back number_code read_number number_back) n.passed (flag_code n.after_drain ++ flag_code n.ruled) rest)
      ∙ ap (option_and_then (with_drain n.entry.operation n.look n.passed)) (behind flag_code read_flag flag_back n.after_drain (flag_code n.ruled) rest)
      ∙ ap (option_map (with_ruled n.entry.operation n.look n.passed n.after_drain)) (flag_back n.ruled rest)

pub code_reads_back : CodeReadsBack
code_reads_back n rest = noted_back n rest

pub noted_is_back : NotedBack
unfolding noted_of
noted_is_back n = ap (λ (code : List ℕ). unwrap_or (option_map (λ (m : Noted × List ℕ). m.0) (read_noted n.entry.pass code)) (no_note n.entry.pass)) (sym (append-nil (code_of n)))
    ∙ ap (λ (o : Option (Noted × List ℕ)). unwrap_or (option_map (λ (m : Noted × List ℕ). m.0) o) (no_note n.entry.pass)) (noted_back n [])
