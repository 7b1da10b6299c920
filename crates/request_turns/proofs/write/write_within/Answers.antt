use Rattle.std.proofs.Common.{◌≡◌, ℕ, List, length, refl, sym, ap, ◌∙◌}
use Rattle.turn_lock.specs.Passes.{pass_lock}
use Rattle.wol_model.specs.Placing.{Full as Nowhere}
use Rattle.wol_promise.specs.Policy.{place_of}
use Rattle.wol_promise.specs.Ruled.{last_look}
use Rattle.manager.specs.Answers.{home_write, written}
use Rattle.manager.specs.Stands.{notes_of}
use Rattle.request_turns.specs.Causes.{CanTake}
use Rattle.request_turns.specs.Full.{FitsVolume}
use Rattle.request_turns.specs.Turns.{look_in_place, passed_in_place, notes_seen}
use Rattle.request_turns.proofs.InPlace.{look_at, passed_at, next_at, own_note_at, full_note_at, at_still, stands_at, keeps_at, left_from, written_from}
use Rattle.request_turns.proofs.WriteNotes.{write_stands, has_written, full_place, full_look, full_up, full_keeps, full_takes}
use Rattle.request_turns.proofs.write.write_within.Goals as goal

pub write_in_place-answer-requires-clause-value : goal.write_in_place-answer-requires-clause-value
write_in_place-answer-requires-clause-value g c = let v = c.requires.value in (v.0, v.1, _, v.2.keeps)

-- ---- No log had room

pub drain_and_write-requires-clause-blocks : goal.drain_and_write-requires-clause-blocks
drain_and_write-requires-clause-blocks g c = let k = c.write_in_place-answer.ensures in
    at_still c.args.pass.now c.write_in_place-answer.new.pass k.same k.seen (λ l es. FitsVolume c.args.shared.now c.args.lbn (length c.args.from.now) l.base) c.requires.blocks

pub drain_and_write-requires-clause-look : goal.drain_and_write-requires-clause-look
drain_and_write-requires-clause-look g c = let v = c.requires.value in let k = c.write_in_place-answer.ensures in let w = k.tried v.0 v.1 in let p = c.args.pass.now in let i = c.write_in_place-answer.new.pass in let a = c.write_in_place-answer.result in let t = w.2 in
    at_still p i k.same k.seen (λ l es. look_in_place i ≡ last_look l.base.volume.began.look (notes_of es))
    (look_at w.0 i w.1 ∙ full_look v.0 w.0 c.args.lbn c.args.from.now a (sym c.is_full.ensures ∙ c.if-is_full.true) _ v.2.look t.look)

pub drain_and_write-requires-clause-refused : goal.drain_and_write-requires-clause-refused
drain_and_write-requires-clause-refused g c = let v = c.requires.value in let k = c.write_in_place-answer.ensures in let w = k.tried v.0 v.1 in let p = c.args.pass.now in let i = c.write_in_place-answer.new.pass in let a = c.write_in_place-answer.result in let t = w.2 in
    let full = sym c.is_full.ensures ∙ c.if-is_full.true in record {
      kept = refl;
      full = at_still p i k.same k.seen (λ l es. place_of (passed_in_place i) (last_look l.base.volume.began.look (notes_of es)) (home_write c.args.lbn c.args.from.now) ≡ Nowhere)
          (ap (λ (ps : List ℕ). place_of ps (last_look (pass_lock p).base.volume.began.look (notes_seen p)) (home_write c.args.lbn c.args.from.now)) (passed_at w.0 i w.1)
          ∙ full_place v.0 w.0 c.args.lbn c.args.from.now a full _ v.2.look _ t.placed);
      takes = at_still p i k.same k.seen (λ l es. CanTake (notes_of es) (last_look l.base.volume.began.look (notes_of es)))
          (full_takes _ _ v.0 _ _ v.2.keeps _ v.2.look a full t.down t.versions);
      value = (
        w.0,
        w.1,
        full_up v.0 w.0 c.args.lbn c.args.from.now a full _ v.2.look g.D.Disk.state t.down t.fault,
        keeps_at p i k.same k.seen _ _ w.0 _ _ (full_note_at p i k.same k.seen w.0 w.1) (full_keeps v.0 w.0 c.args.lbn c.args.from.now a full _ v.2.look _ _ _ _ _ c.requires.client t.stands v.2.keeps),
      );
    }

pub returns-then-is_full : goal.returns-then-is_full
returns-then-is_full g c = let v = c.requires.value in let k = c.write_in_place-answer.ensures in let w = k.tried v.0 v.1 in let p = c.args.pass.now in let i = c.write_in_place-answer.new.pass in let a = c.write_in_place-answer.result in
    written_from p i k.same k.seen k.mine _ _ _ _ _ _ _ c.drain_and_write.ensures

-- ---- It was placed, or refused

pub leave_written-requires-clause-value : goal.leave_written-requires-clause-value
leave_written-requires-clause-value g c = let v = c.requires.value in let k = c.write_in_place-answer.ensures in let w = k.tried v.0 v.1 in let p = c.args.pass.now in let i = c.write_in_place-answer.new.pass in let a = c.write_in_place-answer.result in let t = w.2 in (
  w.0,
  w.1,
  stands_at p i k.same k.seen _ _ w.0 _ _ (own_note_at p i k.same k.seen w.0 w.1 (written g.B.Memo.next c.args.lbn c.args.from.now a))
      (write_stands _ _ v.0 w.0 c.args.lbn c.args.from.now a _ (c.requires.next ∙ next_at v.0 p v.1) _ _ _ _ c.requires.client v.2.look t.placed t.look t.stands v.2.keeps),
)

pub returns : goal.returns
returns g c = let v = c.requires.value in let k = c.write_in_place-answer.ensures in let w = k.tried v.0 v.1 in let p = c.args.pass.now in let i = c.write_in_place-answer.new.pass in let a = c.write_in_place-answer.result in let t = w.2 in
    let l = c.leave_written.ensures in
    let left = left_from p i k.same k.seen k.mine _ _ _ _ (own_note_at p i k.same k.seen w.0 w.1 (written g.B.Memo.next c.args.lbn c.args.from.now a)) l.left in
    rw c.outcome_of.ensures (has_written _ g.D.Disk.state v.0 w.0 c.args.lbn c.args.from.now a _ (c.requires.next ∙ next_at v.0 p v.1) p _ _
    (sym c.is_full.ensures ∙ c.if-is_full.false) v.2.keeps v.2.keeps.locks.view v.2.look t.placed t.look t.down t.versions t.fault left (λ d down. l.broken w.0 d w.1 down) (λ up broken. l.unbroken w.0 w.1 up broken))
