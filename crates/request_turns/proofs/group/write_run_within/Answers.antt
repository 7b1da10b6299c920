use Rattle.std.proofs.Common.{◌≡◌, ◌≤◌, ℕ, List, [], ◌∷◌, length, take, drop, get_or, refl, sym, subst, ◌∙◌, arith}
use Rattle.std.proofs.lemmas.List.{length-take-le}
use Rattle.turn_lock.specs.Passes.{pass_lock}
use Rattle.spin_model.specs.Spun.{state_of}
use Rattle.log_segment.specs.declared.item.Item.{Item}
use Rattle.wol_model.specs.Placing.{Full as Nowhere}
use Rattle.wol_promise.specs.Policy.{place_of}
use Rattle.wol_promise.specs.Ruled.{last_look}
use Rattle.manager.specs.Answers.{home_write}
use Rattle.manager.specs.Groups.{AreItemsOf, first_lbn, first_blocks, run_writes, run_written}
use Rattle.manager.specs.Stands.{IsShared, notes_of}
use Rattle.request_turns.specs.Causes.{CanTake}
use Rattle.request_turns.specs.Groups.{HasWrittenMany}
use Rattle.request_turns.specs.Tried.{CanWriteSome, HasTriedSome}
use Rattle.request_turns.specs.Turns.{look_in_place, passed_in_place, notes_seen}
use Rattle.request_turns.proofs.GroupTurns.{group_stands, has_written_group, full_group_look, full_group_keeps, group_of_one, first_here, first_item, first_fits}
use Rattle.request_turns.proofs.InPlace.{same_value, between, look_at, passed_at, next_at, own_note_at, full_note_at, at_still, stands_at, keeps_at, left_from, written_from}
use Rattle.request_turns.proofs.Taking.{home_at}
use Rattle.request_turns.proofs.WriteNotes.{full_place, full_up, full_takes}
use Rattle.request_turns.proofs.group.write_run_within.Goals as goal

pub change-ran-requires-clause-work : goal.change-ran-requires-clause-work
change-ran-requires-clause-work g c m at = let v = c.requires.value in let l = pass_lock c.args.pass.now in let s = v.2.keeps in
    subst (CanWriteSome g.D.Disk.state c.args.shared.now c.args.items.now c.args.from.now) (same_value v.0 m.now c.args.pass.now v.1 at) (record {
      ready = s.ready;
      at = home_at c.args.shared.now _ _ v.0 l l _ refl s c.requires.shared;
      some = c.requires.some;
      items_ = subst (λ (most : ℕ). AreItemsOf most (state_of g.D.Disk.state v.0.home).size c.args.items.now) (sym s.locks.most_)
          (subst (λ (size : ℕ). AreItemsOf l.base.volume.began.most size c.args.items.now) (sym s.upholds.places.home_size) c.requires.items);
      blocks = c.requires.blocks;
    })

-- ---- No log had room

pub slice_bounds-from-end : goal.slice_bounds-from-end
slice_bounds-from-end g c = sym (length-take-le _ c.args.from.now (first_fits c.args.items.now c.args.from.now (record { lbn = 0; count = 0 }) c.requires.some c.requires.blocks))

pub drain_and_write-outcome-requires-clause-blocks : goal.drain_and_write-outcome-requires-clause-blocks
drain_and_write-outcome-requires-clause-blocks g c = let k = c.change-ran.ensures in let p = c.args.pass.now in let i = c.change-ran.new.pass in let items = c.args.items.now in
    let other : Item = record { lbn = 0; count = 0 } in
    let one = first_item _ _ items other c.requires.some (at_still p i k.same k.seen (λ l es. AreItemsOf l.base.volume.began.most l.base.volume.began.home_blocks items) c.requires.items) in
    let long : length (take (get_or items 0 other).count c.args.from.now) ≡ (get_or items 0 other).count = length-take-le _ c.args.from.now (first_fits items c.args.from.now other c.requires.some c.requires.blocks) in
    let some = one.some in let few = one.few in let within = one.within in record {
      at = at_still p i k.same k.seen (λ l es. IsShared c.args.shared.now l.base) c.requires.shared;
      some = omega (arith, long, some);
      few = omega (arith, long, few);
      fits = omega (arith, long, within);
    }

pub drain_and_write-outcome-requires-clause-look : goal.drain_and_write-outcome-requires-clause-look
drain_and_write-outcome-requires-clause-look g c = let v = c.requires.value in let k = c.change-ran.ensures in let w = k.worked v.0 v.1 in let p = c.args.pass.now in let i = c.change-ran.new.pass in let items = c.args.items.now in
    let n = c.change-ran.result.items in let a = c.change-ran.result.answer in let next = c.requires.next ∙ next_at v.0 p v.1 in
    let t = between (HasTriedSome g.D.Disk.tells g.D.Disk.state items c.args.from.now c.change-ran.result) _ _ v.0 w.0 w.1.shows w.1.leaves w.1.met in
    at_still p i k.same k.seen (λ l es. look_in_place i ≡ last_look l.base.volume.began.look (notes_of es))
    (look_at w.0 i w.2 ∙ full_group_look _ g.D.Disk.state v.0 w.0 items c.args.from.now n a _ next t.run t.unchanged (sym c.is_full.ensures ∙ c.if-is_full.true) _ v.2.look)

pub drain_and_write-outcome-requires-clause-refused : goal.drain_and_write-outcome-requires-clause-refused
drain_and_write-outcome-requires-clause-refused g c = let v = c.requires.value in let k = c.change-ran.ensures in let w = k.worked v.0 v.1 in let p = c.args.pass.now in let i = c.change-ran.new.pass in let items = c.args.items.now in
    let n = c.change-ran.result.items in let a = c.change-ran.result.answer in let next = c.requires.next ∙ next_at v.0 p v.1 in
    let t = between (HasTriedSome g.D.Disk.tells g.D.Disk.state items c.args.from.now c.change-ran.result) _ _ v.0 w.0 w.1.shows w.1.leaves w.1.met in
    let other : Item = record { lbn = 0; count = 0 } in let f = first_here items c.args.from.now other c.requires.some in
    let full = sym c.is_full.ensures ∙ c.if-is_full.true in record {
      kept = refl;
      full = at_still p i k.same k.seen (λ l es. place_of (passed_in_place i) (last_look l.base.volume.began.look (notes_of es)) (home_write (get_or items 0 other).lbn (take (get_or items 0 other).count c.args.from.now)) ≡ Nowhere)
          ((λ t. place_of (passed_at w.0 i w.2 t) (last_look (pass_lock p).base.volume.began.look (notes_seen p)) (home_write (sym f.0 t) (sym f.1 t)))
          ∙ full_place v.0 w.0 (first_lbn items) (first_blocks items c.args.from.now) a full _ v.2.look _ t.placed);
      takes = at_still p i k.same k.seen (λ l es. CanTake (notes_of es) (last_look l.base.volume.began.look (notes_of es)))
          (full_takes _ _ v.0 _ _ v.2.keeps _ v.2.look a full t.down t.versions);
      value = (
        w.0,
        w.2,
        full_up v.0 w.0 (first_lbn items) (first_blocks items c.args.from.now) a full _ v.2.look g.D.Disk.state t.down t.fault,
        keeps_at p i k.same k.seen _ _ w.0 _ _ (full_note_at p i k.same k.seen w.0 w.2)
            (full_group_keeps _ g.D.Disk.state v.0 w.0 items c.args.from.now n a _ next t.run t.unchanged full _ v.2.look _ _ _ c.requires.client v.2.keeps),
      );
    }

first_of : (items : List Item) (d : Item) → 1 ≤ length items → get_or items 0 d ∷ drop 1 items ≡ items
first_of [] d some = absurd (omega arith)
first_of (i ∷ items) d some = refl

pub returns-then-is_full : goal.returns-then-is_full
returns-then-is_full g c = let v = c.requires.value in let k = c.change-ran.ensures in let w = k.worked v.0 v.1 in let p = c.args.pass.now in let i = c.change-ran.new.pass in let items = c.args.items.now in
    let other : Item = record { lbn = 0; count = 0 } in
    subst (λ (is : List Item). HasWrittenMany g.D.Disk.tells is c.args.from.now 1 c.drain_and_write-outcome.result c.args.tally.now c.drain_and_write-outcome.new.tally p c.drain_and_write-outcome.new.pass) (first_of items other c.requires.some)
    (group_of_one _ (get_or items 0 other) (drop 1 items) c.args.from.now _ _ _ _ _ (written_from p i k.same k.seen k.mine _ _ _ _ _ _ _ c.drain_and_write-outcome.ensures))

-- ---- They were placed, or refused

pub leave_run-requires-clause-value : goal.leave_run-requires-clause-value
leave_run-requires-clause-value g c = let v = c.requires.value in let k = c.change-ran.ensures in let w = k.worked v.0 v.1 in let p = c.args.pass.now in let i = c.change-ran.new.pass in let items = c.args.items.now in
    let n = c.change-ran.result.items in let a = c.change-ran.result.answer in let next = c.requires.next ∙ next_at v.0 p v.1 in
    let t = between (HasTriedSome g.D.Disk.tells g.D.Disk.state items c.args.from.now c.change-ran.result) _ _ v.0 w.0 w.1.shows w.1.leaves w.1.met in (
      w.0,
      w.2,
      stands_at p i k.same k.seen _ _ w.0 _ _ (own_note_at p i k.same k.seen w.0 w.2 (run_written (run_writes g.B.Memo.next (take n items) c.args.from.now a) a))
          (group_stands _ g.D.Disk.state v.0 w.0 items c.args.from.now n a _ next t.run t.unchanged _ _ _ c.requires.client v.2.look v.2.keeps),
    )

pub returns : goal.returns
returns g c = let v = c.requires.value in let k = c.change-ran.ensures in let w = k.worked v.0 v.1 in let p = c.args.pass.now in let i = c.change-ran.new.pass in let items = c.args.items.now in
    let n = c.change-ran.result.items in let a = c.change-ran.result.answer in let next = c.requires.next ∙ next_at v.0 p v.1 in
    let t = between (HasTriedSome g.D.Disk.tells g.D.Disk.state items c.args.from.now c.change-ran.result) _ _ v.0 w.0 w.1.shows w.1.leaves w.1.met in
    let l = c.leave_run.ensures in
    let left = left_from p i k.same k.seen k.mine _ _ _ _ (own_note_at p i k.same k.seen w.0 w.2 (run_written (run_writes g.B.Memo.next (take n items) c.args.from.now a) a)) l.left in
    rw c.answered.ensures (rw c.outcome_of.ensures (has_written_group _ g.D.Disk.state v.0 w.0 items c.args.from.now n a _ next t.run t.unchanged
    p _ _ c.requires.some (sym c.is_full.ensures ∙ c.if-is_full.false) v.2.keeps v.2.keeps.locks.view v.2.look t.placed t.down t.versions t.fault left (λ d down. l.broken w.0 d w.2 down) (λ up broken. l.unbroken w.0 w.2 up broken)))
