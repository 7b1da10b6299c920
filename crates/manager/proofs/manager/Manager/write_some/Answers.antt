use Rattle.std.proofs.Common.{Err, length, refl, sym, subst, ◌∙◌, arith}
use Rattle.std.specs.Prelude.{replicate}
use Rattle.std.specs.List.{list_any, range_with_len}
use Rattle.wol_model.specs.Index.{listed_in, is_covered}
use Rattle.log_segment.specs.declared.item.Item.{Item}
use Rattle.logger.specs.Lanes.{first_count}
use Rattle.offload_policy.specs.declared.Room.TheVariants.{Unknown}
use Rattle.spin_model.specs.Spun.{state_of}
use Rattle.manager.specs.Groups.{IsItemOf, ruled_run}
use Rattle.manager.specs.Writing.{IsPlacedAnswer}
use Rattle.manager.specs.declared.part.WriteRefusal.TheVariants.{Down, VersionsSpent, NoMemory}
use Rattle.manager.proofs.Answered.{none_asked}
use Rattle.manager.proofs.Bounds.{take_some, take_within, take_after, of_front, count_below, at_most}
use Rattle.manager.proofs.GroupOffering.{all_taken_front}
use Rattle.manager.proofs.Runs.{run_front, run_then, run_kept, placed_then, answered_run, home_then, as_before, first_given}
use Rattle.manager.proofs.Refused.{needs_logs, ready_then, untouched, fault_then, calm_then}
use Rattle.volume_parts.proofs.PartReads.{never_some}
use Rattle.manager.proofs.manager.Manager.write_some.Goals as goal

pub returns-in-Some-clause-run : goal.returns-in-Some-clause-run
returns-in-Some-clause-run g c =
    let m = c.args.self.now in let is = c.forget.ensures ∙ (λ i. replicate (c.requires.ready.ready.rooms_ i) Unknown) in
    run_kept g.D.Disk.tells g.D.Disk.state c.args.items.now c.args.from.now m m (Err (Down c.in-Some.part)) 0 c.forget.new.rooms.items is c.args.self.now.index refl g.met.D.Disk.sound (Down c.in-Some.part) refl refl

pub returns-in-Some-clause-answered : goal.returns-in-Some-clause-answered
returns-in-Some-clause-answered g c = none_asked (first_count c.args.items.now) c.forget.new.rooms.items c.args.self.now.lanes.items (c.forget.ensures ∙ (λ i. replicate (c.requires.ready.ready.rooms_ i) Unknown))

pub returns-in-Some-clause-unchanged : goal.returns-in-Some-clause-unchanged
returns-in-Some-clause-unchanged g c = untouched g.D.Disk.tells g.D.Disk.state c.args.self.now c.forget.new.rooms.items (c.forget.ensures ∙ (λ i. replicate (c.requires.ready.ready.rooms_ i) Unknown)) c.args.self.now.index refl

pub returns-then-self-clause-run : goal.returns-then-self-clause-run
returns-then-self-clause-run g c =
    let m = c.args.self.now in let is = c.forget.ensures ∙ (λ i. replicate (c.requires.ready.ready.rooms_ i) Unknown) in
    run_kept g.D.Disk.tells g.D.Disk.state c.args.items.now c.args.from.now m m (Err VersionsSpent) 0 c.forget.new.rooms.items is c.args.self.now.index refl g.met.D.Disk.sound VersionsSpent refl refl

pub returns-then-self-clause-answered : goal.returns-then-self-clause-answered
returns-then-self-clause-answered g c = none_asked (first_count c.args.items.now) c.forget.new.rooms.items c.args.self.now.lanes.items (c.forget.ensures ∙ (λ i. replicate (c.requires.ready.ready.rooms_ i) Unknown))

pub returns-then-self-clause-unchanged : goal.returns-then-self-clause-unchanged
returns-then-self-clause-unchanged g c = untouched g.D.Disk.tells g.D.Disk.state c.args.self.now c.forget.new.rooms.items (c.forget.ensures ∙ (λ i. replicate (c.requires.ready.ready.rooms_ i) Unknown)) c.args.self.now.index refl

pub returns-in_default-reserve_places-clause-run : goal.returns-in_default-reserve_places-clause-run
returns-in_default-reserve_places-clause-run g c =
    let m = c.args.self.now in let is = c.forget.ensures ∙ (λ i. replicate (c.requires.ready.ready.rooms_ i) Unknown) in
    run_kept g.D.Disk.tells g.D.Disk.state c.args.items.now c.args.from.now m m (Err NoMemory) 0 c.forget.new.rooms.items is c.reserve_places.new.index c.reserve_places.ensures.entries g.met.D.Disk.sound NoMemory refl refl

pub returns-in_default-reserve_places-clause-answered : goal.returns-in_default-reserve_places-clause-answered
returns-in_default-reserve_places-clause-answered g c = none_asked (first_count c.args.items.now) c.forget.new.rooms.items c.args.self.now.lanes.items (c.forget.ensures ∙ (λ i. replicate (c.requires.ready.ready.rooms_ i) Unknown))

pub returns-in_default-reserve_places-clause-unchanged : goal.returns-in_default-reserve_places-clause-unchanged
returns-in_default-reserve_places-clause-unchanged g c = untouched g.D.Disk.tells g.D.Disk.state c.args.self.now c.forget.new.rooms.items (c.forget.ensures ∙ (λ i. replicate (c.requires.ready.ready.rooms_ i) Unknown)) c.reserve_places.new.index c.reserve_places.ensures.entries

-- ---- It was asked of lanes

pub place_run-requires-clause-run : goal.place_run-requires-clause-run
place_run-requires-clause-run g c =
    let m = c.args.self.now in let items = c.args.items.now in let n = c.versioned-most.result in
    let is = c.forget.ensures ∙ (λ i. replicate (c.requires.ready.ready.rooms_ i) Unknown) in
    let few = at_most _ _ _ c.versioned-most.ensures.most (at_most _ _ _ c.in-Some-reserve_places.ensures.some.1 c.looked_at-asked.ensures.within) in
    record {
      serves = record {
        ready = ready_then g.D.Disk.tells g.D.Disk.state m c.forget.new.rooms.items is c.reserve_places.new.index c.reserve_places.ensures.entries c.requires.ready;
        at = c.requires.at;
        up = never_some m.down c.in_default.not-Some;
      };
      some = take_some n items c.versioned-most.ensures.some few;
      each = all_taken_front (IsItemOf m.most (state_of g.D.Disk.state m.home).size) n items c.requires.items;
      blocks = count_below n items (length c.args.from.now) c.requires.blocks;
      next = take_after n items m.next _ few c.versioned-most.ensures.left;
      reserved = take_within n items _ few (at_most _ _ _ c.versioned-most.ensures.most c.in-Some-reserve_places.ensures.some.2);
    }

pub place_run-requires-clause-covered : goal.place_run-requires-clause-covered
place_run-requires-clause-covered g c =
    let other : Item = record { lbn = 0; count = 0 } in let f = first_given c.args.items.now c.versioned-most.result c.args.from.now other c.requires.some c.versioned-most.ensures.some c.requires.blocks in
    c.covered-covered.ensures ∙ (λ t. list_any (is_covered (listed_in c.reserve_places.new.index.entries)) (range_with_len (sym f.0 t) (sym f.1 t)))

pub returns-clause-run : goal.returns-clause-run
returns-clause-run g c =
    let tells = g.D.Disk.tells in let state = g.D.Disk.state in let m = c.args.self.now in let items = c.args.items.now in let from = c.args.from.now in let rooms = c.forget.new.rooms.items in let index = c.reserve_places.new.index in
    let is = c.forget.ensures ∙ (λ i. replicate (c.requires.ready.ready.rooms_ i) Unknown) in let new = c.place_run.new.self in let ran = c.place_run.result in let most = c.versioned-most.result in
    run_then tells state items from m new ran.answer ran.items rooms is index c.reserve_places.ensures.entries
    (run_front tells state items from (record m { rooms = c.forget.new.rooms; index = index }) new ran.answer ran.items most c.versioned-most.ensures.some (at_most _ _ _ c.versioned-most.ensures.most (at_most _ _ _ c.in-Some-reserve_places.ensures.some.1 c.looked_at-asked.ensures.within)) c.place_run.ensures.run)

pub returns-clause-placed : goal.returns-clause-placed
returns-clause-placed g c =
    let m = c.args.self.now in let items = c.args.items.now in let from = c.args.from.now in let rooms = c.forget.new.rooms.items in let index = c.reserve_places.new.index in let is = c.forget.ensures ∙ (λ i. replicate (c.requires.ready.ready.rooms_ i) Unknown) in let new = c.place_run.new.self in let ran = c.place_run.result in
    (placed_then g.D.Disk.tells g.D.Disk.state items from m new ran.answer ran.items rooms is index c.reserve_places.ensures.entries c.versioned-most.result c.versioned-most.ensures.some c.place_run.ensures.placing.placed)

pub returns-clause-answered : goal.returns-clause-answered
returns-clause-answered g c =
    let m = c.args.self.now in let items = c.args.items.now in let from = c.args.from.now in let rooms = c.forget.new.rooms.items in let index = c.reserve_places.new.index in let is = c.forget.ensures ∙ (λ i. replicate (c.requires.ready.ready.rooms_ i) Unknown) in let new = c.place_run.new.self in let ran = c.place_run.result in
    (answered_run g.D.Disk.tells g.D.Disk.state items from m new ran.answer ran.items rooms is index c.reserve_places.ensures.entries c.versioned-most.result c.versioned-most.ensures.some c.place_run.ensures.placing.answered)

pub returns-clause-waking_home : goal.returns-clause-waking_home
returns-clause-waking_home g c =
    let m = c.args.self.now in let items = c.args.items.now in let from = c.args.from.now in let rooms = c.forget.new.rooms.items in let index = c.reserve_places.new.index in let is = c.forget.ensures ∙ (λ i. replicate (c.requires.ready.ready.rooms_ i) Unknown) in let new = c.place_run.new.self in let ran = c.place_run.result in
    (home_then g.D.Disk.tells g.D.Disk.state items from m new ran.answer ran.items rooms is index c.reserve_places.ensures.entries c.versioned-most.result c.versioned-most.ensures.some c.place_run.ensures.placing.waking)

pub returns-clause-waking_logs : goal.returns-clause-waking_logs
returns-clause-waking_logs g c = needs_logs (first_count c.args.items.now) (ruled_run c.args.self.now c.place_run.new.self c.args.items.now c.args.from.now) c.place_run.result.answer c.args.self.now c.place_run.new.self (returns-clause-answered g c)

pub returns-clause-fault : goal.returns-clause-fault
returns-clause-fault g c =
    let m = c.args.self.now in let rooms = c.forget.new.rooms.items in let index = c.reserve_places.new.index in let is = c.forget.ensures ∙ (λ i. replicate (c.requires.ready.ready.rooms_ i) Unknown) in let new = c.place_run.new.self in let ran = c.place_run.result in
    fault_then g.D.Disk.tells g.D.Disk.state m rooms is index c.reserve_places.ensures.entries new ran.answer c.place_run.ensures.fault

pub returns-clause-calm : goal.returns-clause-calm
returns-clause-calm g c =
    let m = c.args.self.now in let rooms = c.forget.new.rooms.items in let index = c.reserve_places.new.index in let is = c.forget.ensures ∙ (λ i. replicate (c.requires.ready.ready.rooms_ i) Unknown) in let new = c.place_run.new.self in let ran = c.place_run.result in
    calm_then g.D.Disk.tells g.D.Disk.state m rooms is index c.reserve_places.ensures.entries new ran.answer c.place_run.ensures.calm

pub returns-clause-unchanged : goal.returns-clause-unchanged
returns-clause-unchanged g c =
    let m = c.args.self.now in let items = c.args.items.now in let from = c.args.from.now in let rooms = c.forget.new.rooms.items in let index = c.reserve_places.new.index in let is = c.forget.ensures ∙ (λ i. replicate (c.requires.ready.ready.rooms_ i) Unknown) in let new = c.place_run.new.self in let ran = c.place_run.result in
    (as_before g.D.Disk.tells g.D.Disk.state items from m new ran.answer ran.items rooms is index c.reserve_places.ensures.entries ran.answer c.place_run.ensures.answer c.place_run.ensures.unchanged)

pub returns-clause-versions : goal.returns-clause-versions
returns-clause-versions g c = (λ e. absurd (subst IsPlacedAnswer e c.place_run.ensures.answer), λ spent. absurd (omega (arith, spent.1)))

pub returns-clause-memory : goal.returns-clause-memory
returns-clause-memory g c e = absurd (subst IsPlacedAnswer e c.place_run.ensures.answer)

pub returns-clause-few : goal.returns-clause-few
returns-clause-few g c = at_most _ _ _ (of_front c.place_run.result.items c.versioned-most.result c.args.items.now (at_most _ _ _ c.versioned-most.ensures.most (at_most _ _ _ c.in-Some-reserve_places.ensures.some.1 c.looked_at-asked.ensures.within)) c.place_run.ensures.run.are.within)
    (at_most _ _ _ c.versioned-most.ensures.most (at_most _ _ _ c.in-Some-reserve_places.ensures.some.1 c.looked_at-asked.ensures.few))
