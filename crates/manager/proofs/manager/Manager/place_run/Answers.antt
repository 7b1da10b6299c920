use Rattle.std.proofs.Common.{◌≡◌, ⊎_elim, ◌<◌, ◌≤◌, ◌+◌, ◌^◌, ℕ, Bool, false, List, [], ◌∷◌, length, take, drop, get_or, None, Some, refl, sym, ap, subst, ◌∙◌, arith}
use Rattle.std.specs.Prelude.{slice_get, is_some}
use Rattle.std.specs.List.{AllByRecursion, list_any, range_with_len}
use Rattle.std.proofs.lemmas.Option.{slice_get_within}
use Rattle.wol_disk.specs.Disk.{Block}
use Rattle.turn_lock.specs.Passes.{pass_mine}
use Rattle.spin_model.specs.Spun.{state_of}
use Rattle.wol_model.specs.Index.{listed_in, is_covered}
use Rattle.wol_promise.specs.Policy.{place_of}
use Rattle.log_segment.specs.declared.item.Item.{Item}
use Rattle.offload_policy.specs.Placing.{step_of}
use Rattle.offload_policy.specs.declared.Room.{Room}
use Rattle.offload_policy.specs.declared.Room.TheVariants.{Unknown, Yes}
use Rattle.offload_policy.specs.declared.Step.TheVariants.{Ask, Full}
use Rattle.manager.specs.Answers.{home_write}
use Rattle.manager.specs.Groups.{AreItemsOf, first_lbn, first_blocks, ruled_run}
use Rattle.manager.specs.Offers.{IsTurnedAway, HasTakenWrite, ChangesLane}
use Rattle.manager.specs.Seen.{look_of_manager}
use Rattle.manager.specs.Stands.{passed_in}
use Rattle.manager.specs.Writing.{HaveAnswered, takes_at}
use Rattle.manager.specs.declared.manager.Manager.{Manager}
use Rattle.manager.proofs.Answered.{asking_none, asking_more}
use Rattle.volume_parts.proofs.Claims.{no_more_same}
use Rattle.manager.proofs.Frames.{stands_kept}
use Rattle.manager.proofs.Runs.{first_blocks_long, run_logged, home_run, run_full}
use Rattle.manager.proofs.Placed.{home_only, log_only, place_led, stops_unplaced, passed_unplaced, fault_before, calm_before, claimed_before, placed_home, answered_home, waking_home, placed_log, answered_log, waking_log}
use Rattle.volume_parts.proofs.Placing.{led_by, open_in, fewer_open, ask_unknown, home_is_bare, woken_home_is_bare, no_log, no_woken_log}
use Rattle.manager.proofs.manager.Manager.place_run.Goals as goal

pub asking-init : goal.asking-init
asking-init g c = asking_none g.D.Disk.tells g.D.Disk.state c.args.shared.now _ c.args.self.now c.requires.run.serves.ready c.requires.run.serves.at c.requires.unasked

-- the step of the rule, over what the manager has
unknown_at : (home_up covered : Bool) (ups lent_ups : List Bool) (rooms lent : List Room) (lane : ℕ) → Ask lane ≡ step_of home_up covered lent_ups lent → lent ≡ rooms → slice_get rooms lane ≡ Some Unknown
unknown_at home_up covered ups lent_ups rooms lent lane is same = subst (λ (rs : List Room). slice_get rs lane ≡ Some Unknown) same (ask_unknown home_up covered lent_ups lent lane (sym is))

pub asking-preserved : goal.asking-preserved
asking-preserved g c =
    let now = c.asking.self in let turned = c.try_run.ensures.offered.turned_away (ap is_some c.in_default.is) in
    asking_more g.D.Disk.tells g.D.Disk.state c.args.shared.now _ c.args.self.now now c.try_run.new.self c.in-Ask.lane c.asking.invariant
    (unknown_at now.home_up c.args.covered now.ups.items c.deref.result.now now.rooms.items c.deref-in-asking.result.now c.in-Ask.lane c.in-Ask.ensures.value c.deref-in-asking.ensures.0)
    turned.rest (subst (λ (k : ℕ). ChangesLane (IsTurnedAway k) c.in-Ask.lane now.lanes.items c.try_run.new.self.lanes.items) (sym (first_blocks_long c.args.items.now c.args.from.now c.requires.run.blocks)) turned.lanes)
    c.try_run.ensures.offered.ready c.try_run.ensures.offered.at turned.keeps

pub asking-smaller : goal.asking-smaller
asking-smaller g c =
    let now = c.asking.self in let turned = c.try_run.ensures.offered.turned_away (ap is_some c.in_default.is) in
    subst (λ (rs : List Room). open_in rs < open_in now.rooms.items) (sym (ap (λ (m : Manager g.row.D.Denot). m.rooms.items) turned.rest))
    (fewer_open now.rooms.items c.in-Ask.lane (unknown_at now.home_up c.args.covered now.ups.items c.deref.result.now now.rooms.items c.deref-in-asking.result.now c.in-Ask.lane c.in-Ask.ensures.value c.deref-in-asking.ensures.0))

-- ---- A lane took some

pub try_run-requires : goal.try_run-requires
try_run-requires g c = let a = c.asking.invariant in let r = c.requires.run in let items = c.args.items.now in record {
  run = record {
    serves = record { ready = a.ready; at = a.at; up = ap (λ (m : Manager g.row.D.Denot). m.down) a.rest ∙ r.serves.up };
    some = r.some;
    each = subst (λ (m : Manager g.row.D.Denot). AreItemsOf m.most (state_of g.D.Disk.state m.home).size items) (sym a.rest) r.each;
    blocks = r.blocks;
    next = subst (λ (m : Manager g.row.D.Denot). m.next + length items ≤ 2 ^ 63) (sym a.rest) r.next;
    reserved = subst (λ (m : Manager g.row.D.Denot). length items ≤ m.index.reserved) (sym a.rest) r.reserved;
  };
  there =
      let now = c.asking.self in let wide = a.ready.ready.rooms_ in
      let lt = slice_get_within now.rooms.items c.in-Ask.lane Unknown (unknown_at now.home_up c.args.covered now.ups.items c.deref.result.now now.rooms.items c.deref-in-asking.result.now c.in-Ask.lane c.in-Ask.ensures.value c.deref-in-asking.ensures.0) in
      omega (arith, lt, wide);
}

pub returns-in-Some-clause-answer : goal.returns-in-Some-clause-answer
returns-in-Some-clause-answer g c = log_only _ c.in-Ask.lane c.in-Some.ran.answer c.in-Some.ensures.offered.taken.answer

pub returns-in-Some-clause-run : goal.returns-in-Some-clause-run
returns-in-Some-clause-run g c =
    let old = c.args.self.now in let now = c.asking.self in let a = c.asking.invariant in let new = c.try_run.new.self in let t = c.in-Some.ensures.offered.taken in
    run_logged g.D.Disk.tells g.D.Disk.state c.args.shared.now c.args.items.now c.args.from.now old now a new c.in-Some.ran (ap (λ (m : Manager g.row.D.Denot). m.rooms.items) t.rest) c.in-Ask.lane
    (unknown_at now.home_up c.args.covered now.ups.items c.deref.result.now now.rooms.items c.deref-in-asking.result.now c.in-Ask.lane c.in-Ask.ensures.value c.deref-in-asking.ensures.0)
    (place_led g.D.Disk.tells g.D.Disk.state c.args.shared.now (first_lbn c.args.items.now) (first_blocks c.args.items.now c.args.from.now) old now a (Ask c.in-Ask.lane) c.args.covered c.deref.result.now c.deref-in-asking.result.now c.in-Ask.ensures.value c.deref.ensures.0 c.deref-in-asking.ensures.0 c.requires.covered)
    t old.most (state_of g.D.Disk.state old.home).size c.requires.run.each c.requires.run.blocks c.in-Some.ensures.joins

-- the place of the first item, and which disk it needed
pub returns-in-Some-clause-placing : goal.returns-in-Some-clause-placing
returns-in-Some-clause-placing g c =
    let now = c.asking.self in let a = c.asking.invariant in let new = c.try_run.new.self in let t = c.in-Some.ensures.offered.taken in let answer = c.in-Some.ran.answer in
    let lbn = first_lbn c.args.items.now in let blocks = first_blocks c.args.items.now c.args.from.now in
    let rooms = ap (λ (m : Manager g.row.D.Denot). m.rooms.items) t.rest in
    let asked = unknown_at now.home_up c.args.covered now.ups.items c.deref.result.now now.rooms.items c.deref-in-asking.result.now c.in-Ask.lane c.in-Ask.ensures.value c.deref-in-asking.ensures.0 in
    let lanes = subst (λ (k : ℕ). ChangesLane (HasTakenWrite k) c.in-Ask.lane now.lanes.items new.lanes.items) (sym (first_blocks_long c.args.items.now c.args.from.now c.requires.run.blocks)) t.lanes in
    let led = place_led g.D.Disk.tells g.D.Disk.state c.args.shared.now lbn blocks c.args.self.now now a (Ask c.in-Ask.lane) c.args.covered c.deref.result.now c.deref-in-asking.result.now c.in-Ask.ensures.value c.deref.ensures.0 c.deref-in-asking.ensures.0 c.requires.covered in
    record {
      placed = placed_log g.D.Disk.tells g.D.Disk.state c.args.shared.now lbn blocks c.args.self.now now a new answer rooms c.in-Ask.lane asked t.answer led lanes;
      answered = subst (λ (k : ℕ). HaveAnswered k (takes_at (ruled_run c.args.self.now new c.args.items.now c.args.from.now) answer) new.rooms.items c.args.self.now.lanes.items new.lanes.items) (first_blocks_long c.args.items.now c.args.from.now c.requires.run.blocks)
          (answered_log g.D.Disk.tells g.D.Disk.state c.args.shared.now lbn blocks c.args.self.now now a new answer rooms c.in-Ask.lane asked t.answer led lanes);
      waking = waking_log g.D.Disk.tells g.D.Disk.state c.args.shared.now lbn blocks c.args.self.now now a new answer rooms c.in-Ask.lane asked t.answer led lanes (ap (λ (m : Manager g.row.D.Denot). m.spindle) t.rest);
    }

pub returns-in-Some-clause-fault : goal.returns-in-Some-clause-fault
returns-in-Some-clause-fault g c = fault_before g.D.Disk.tells g.D.Disk.state c.args.shared.now (first_lbn c.args.items.now) (first_blocks c.args.items.now c.args.from.now) c.args.self.now c.asking.self c.asking.invariant c.try_run.new.self c.in-Some.ran.answer c.in-Some.ensures.offered.taken.fault

pub returns-in-Some-clause-calm : goal.returns-in-Some-clause-calm
returns-in-Some-clause-calm g c = calm_before g.D.Disk.tells g.D.Disk.state c.args.shared.now (first_lbn c.args.items.now) (first_blocks c.args.items.now c.args.from.now) c.args.self.now c.asking.self c.asking.invariant c.try_run.new.self c.in-Some.ran.answer c.in-Some.ensures.offered.taken.calm

-- ---- It went home

first_of : (items : List Item) (d : Item) → 1 ≤ length items → items ≡ get_or items 0 d ∷ drop 1 items
first_of [] d some = absurd (omega arith)
first_of (i ∷ items) d some = refl

-- its range, as the rule has it and as it is written
first_range : (items : List Item) (from : List Block) (d : Item) (q : ℕ → Bool) → 1 ≤ length items
    → list_any q (range_with_len (get_or items 0 d).lbn (length (take (get_or items 0 d).count from))) ≡ list_any q (range_with_len (first_lbn items) (length (first_blocks items from)))
first_range [] from d q some = absurd (omega arith)
first_range (i ∷ items) from d q some = refl

pub write_home-requires-clause-serves : goal.write_home-requires-clause-serves
write_home-requires-clause-serves g c = let a = c.asking.invariant in record { ready = a.ready; at = a.at; up = ap (λ (m : Manager g.row.D.Denot). m.down) a.rest ∙ c.requires.run.serves.up }

-- the first item goes home only where no record covers a block of it
pub write_home-requires-clause-bare : goal.write_home-requires-clause-bare
write_home-requires-clause-bare g c =
    let now = c.asking.self in let a = c.asking.invariant in
    first_range c.args.items.now c.args.from.now (record { lbn = 0; count = 0 }) (is_covered (listed_in now.index.entries)) c.requires.run.some
    ∙ ap (λ (m : Manager g.row.D.Denot). list_any (is_covered (listed_in m.index.entries)) (range_with_len (first_lbn c.args.items.now) (length (first_blocks c.args.items.now c.args.from.now)))) a.rest
    ∙ (sym c.requires.covered
    ∙ ⊎_elim (λ e. home_is_bare now.home_up c.args.covered c.deref.result.now c.deref-in-asking.result.now (sym c.place.ensures.value ∙ e)) (λ e. woken_home_is_bare now.home_up c.args.covered c.deref.result.now c.deref-in-asking.result.now (sym c.place.ensures.value ∙ e)) c.in-Home.is)

pub returns-in-Home-clause-answer : goal.returns-in-Home-clause-answer
returns-in-Home-clause-answer g c = home_only c.asking.self.id c.write_home.result c.write_home.ensures.answer

pub returns-in-Home-clause-run : goal.returns-in-Home-clause-run
returns-in-Home-clause-run g c =
    let now = c.asking.self in let a = c.asking.invariant in let new = c.write_home.new.self in let u = c.write_home.ensures.unchanged in let other : Item = record { lbn = 0; count = 0 } in
    home_run g.D.Disk.tells g.D.Disk.state c.args.shared.now c.args.items.now c.args.from.now c.args.self.now now a new (get_or c.args.items.now 0 other) (drop 1 c.args.items.now) (first_of c.args.items.now other c.requires.run.some)
    now.id c.write_home.result c.write_home.ensures.answer
    (ap (λ (rs : List Room). place_of (passed_in rs) (look_of_manager c.args.self.now) (home_write (first_lbn c.args.items.now) (first_blocks c.args.items.now c.args.from.now))) (ap (λ (m : Manager g.row.D.Denot). m.rooms.items) u)
    ∙ (place_led g.D.Disk.tells g.D.Disk.state c.args.shared.now (first_lbn c.args.items.now) (first_blocks c.args.items.now c.args.from.now) c.args.self.now now a c.place.result c.args.covered c.deref.result.now c.deref-in-asking.result.now c.place.ensures.value c.deref.ensures.0 c.deref-in-asking.ensures.0 c.requires.covered ∙ ⊎_elim (λ e. ap led_by e) (λ e. ap led_by e) c.in-Home.is))
    u c.write_home.ensures.fault c.write_home.ensures.stands c.write_home.ensures.any_moment

pub returns-in-Home-clause-placing : goal.returns-in-Home-clause-placing
returns-in-Home-clause-placing g c =
    let now = c.asking.self in let a = c.asking.invariant in let new = c.write_home.new.self in let u = c.write_home.ensures.unchanged in let answer = c.write_home.result in
    let lbn = first_lbn c.args.items.now in let blocks = first_blocks c.args.items.now c.args.from.now in
    let rooms = ap (λ (m : Manager g.row.D.Denot). m.rooms.items) u in
    let led = place_led g.D.Disk.tells g.D.Disk.state c.args.shared.now lbn blocks c.args.self.now now a c.place.result c.args.covered c.deref.result.now c.deref-in-asking.result.now c.place.ensures.value c.deref.ensures.0 c.deref-in-asking.ensures.0 c.requires.covered ∙ ⊎_elim (λ e. ap led_by e) (λ e. ap led_by e) c.in-Home.is in
    record {
      placed = placed_home g.D.Disk.tells g.D.Disk.state c.args.shared.now lbn blocks c.args.self.now now a new answer rooms now.id c.write_home.ensures.answer led;
      answered = subst (λ (k : ℕ). HaveAnswered k (takes_at (ruled_run c.args.self.now new c.args.items.now c.args.from.now) answer) new.rooms.items c.args.self.now.lanes.items new.lanes.items) (first_blocks_long c.args.items.now c.args.from.now c.requires.run.blocks)
          (answered_home g.D.Disk.tells g.D.Disk.state c.args.shared.now lbn blocks c.args.self.now now a new answer rooms now.id c.write_home.ensures.answer led (ap (λ (m : Manager g.row.D.Denot). m.lanes.items) u));
      waking = waking_home g.D.Disk.tells g.D.Disk.state c.args.shared.now lbn blocks c.args.self.now now a new answer rooms now.id c.write_home.ensures.answer led c.write_home.ensures.waking;
    }

pub returns-in-Home-clause-fault : goal.returns-in-Home-clause-fault
returns-in-Home-clause-fault g c = fault_before g.D.Disk.tells g.D.Disk.state c.args.shared.now (first_lbn c.args.items.now) (first_blocks c.args.items.now c.args.from.now) c.args.self.now c.asking.self c.asking.invariant c.write_home.new.self c.write_home.result c.write_home.ensures.fault

pub returns-in-Home-clause-calm : goal.returns-in-Home-clause-calm
returns-in-Home-clause-calm g c = calm_before g.D.Disk.tells g.D.Disk.state c.args.shared.now (first_lbn c.args.items.now) (first_blocks c.args.items.now c.args.from.now) c.args.self.now c.asking.self c.asking.invariant c.write_home.new.self c.write_home.result c.write_home.ensures.calm

-- ---- The rule ended without a place

pub returns-in-Full-clause-run : goal.returns-in-Full-clause-run
returns-in-Full-clause-run g c =
    let now = c.asking.self in let a = c.asking.invariant in
    run_full g.D.Disk.tells g.D.Disk.state c.args.items.now c.args.from.now c.args.self.now now
    (λ b notes n client note k. stands_kept g.D.Disk.tells g.D.Disk.state now b notes n (passed_in now.rooms.items) note (passed_unplaced g.D.Disk.tells g.D.Disk.state c.args.shared.now (first_lbn c.args.items.now) (first_blocks c.args.items.now c.args.from.now) c.args.self.now now a b notes n note.passed_is k) (a.keeps b notes k)) (ap (λ (m : Manager g.row.D.Denot). m.next) a.rest)
    (claimed_before g.D.Disk.tells g.D.Disk.state c.args.shared.now (first_lbn c.args.items.now) (first_blocks c.args.items.now c.args.from.now) c.args.self.now now a Unit now None (no_more_same now.lanes.items now.lanes.items refl))
    (λ told b notes k. stops_unplaced g.D.Disk.tells g.D.Disk.state c.args.shared.now (first_lbn c.args.items.now) (first_blocks c.args.items.now c.args.from.now) c.args.self.now now a g.met.D.Disk.sound told b notes c.requires.run.serves.up k)

pub returns-in-Full-clause-placing : goal.returns-in-Full-clause-placing
returns-in-Full-clause-placing g c =
    let now = c.asking.self in let a = c.asking.invariant in
    let lbn = first_lbn c.args.items.now in let blocks = first_blocks c.args.items.now c.args.from.now in
    record {
      placed = place_led g.D.Disk.tells g.D.Disk.state c.args.shared.now lbn blocks c.args.self.now now a Full c.args.covered c.deref.result.now c.deref-in-asking.result.now (sym c.in-Full.is ∙ c.place.ensures.value) c.deref.ensures.0 c.deref-in-asking.ensures.0 c.requires.covered;
      answered = subst (λ (k : ℕ). HaveAnswered k (λ j. false) now.rooms.items c.args.self.now.lanes.items now.lanes.items) (first_blocks_long c.args.items.now c.args.from.now c.requires.run.blocks) a.lanes;
      waking = ap (λ (m : Manager g.row.D.Denot). pass_mine m.spindle) a.rest;
    }

pub unreachable-requires : goal.unreachable-requires
unreachable-requires g c =
    let now = c.asking.self in
    let unsure = subst (AllByRecursion (λ (r : Room). r ≡ Yes → ⊥)) (sym c.deref-in-asking.ensures.0) c.asking.invariant.unsure in
    ⊎_elim (λ e. no_log now.home_up c.args.covered c.deref.result.now c.deref-in-asking.result.now unsure e.0 (sym c.place.ensures.value ∙ e.1))
    (λ e. no_woken_log now.home_up c.args.covered c.deref.result.now c.deref-in-asking.result.now unsure e.0 (sym c.place.ensures.value ∙ e.1)) c.in-Log.is
