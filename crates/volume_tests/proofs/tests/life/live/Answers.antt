use Rattle.std.proofs.Common.{◌≡◌, ◌≤◌, ◌+◌, [], ◌∷◌, length, Result, Ok, Err, IfOk, refl, ◌∙◌, arith}
use Rattle.std.proofs.lemmas.List.{take_all}
use Rattle.wol_model.specs.Log.{Record, position_of}
use Rattle.log_segment.specs.Records.{new_record}
use Rattle.volume_tests.proofs.tests.life.live.Goals as goal

always : {T E : Type 0} {P : T → Type 0} (r : Result T E) → ((x : T) → P x) → IfOk r P
always (Ok x) p = p x
always (Err e) p = tt

pub returns-clause-content : goal.returns-clause-content
returns-clause-content g c vs is =
    let xs = c.args.from.now in
    let one : Record = new_record c.in-Ok.segment.owner 1 7 xs in
    let two : Record = new_record c.append.new.self.owner 2 9 xs in
    let claimed = c.in-Ok.ensures.ok vs is in
    let first = c.in-Ok-append.ensures.ok [] claimed in
    let second = c.in-Ok-append-2.ensures.ok (one ∷ []) first in
    let place : c.in-Ok-append-2.position ≡ position_of (one ∷ two ∷ []) 1 = c.in-Ok-append-2.ensures.position ∙ first.place in
    let fits : 0 + length c.args.out.now ≤ length xs = omega (arith, c.requires.one.0, c.requires.one.1) in
    let read = c.in-Ok-read.ensures.content (one ∷ two ∷ []) 1 two second refl place fits in
    always c.retire.result (λ f. read ∙ take_all (length c.args.out.now) xs (omega (arith, c.requires.one.0, c.requires.one.1)))
