-- What is still due goes home, or nothing does.
use Rattle.std.proofs.Common.{◌≡◌, ◌<◌, true, Some, Ok, Err, length, refl, sym, ap, subst, rules, ◌∙◌}
use Rattle.std.specs.Int.RustNames.{count_ones}
use Rattle.std.proofs.lemmas.Nat.{zero_from_ones}
use Rattle.wol_model.specs.Index.{Indexed}
use Rattle.block_cells.specs.Masks.{IsMask}
use Rattle.redirect_map.specs.Index.{Contents, entry_at, HasVersion, IsIndex}
use Rattle.manager.proofs.Calm.{none_home}
use Rattle.manager.proofs.ReadThrough.{never_some}
use Rattle.manager.specs.Seen.{look_of_manager}
use Rattle.reclaimer.specs.Fetches.{HasData, is_still_due}
use Rattle.reclaimer.specs.Records.{record_of}
use Rattle.reclaimer.proofs.Moments.{at_rest}
use Rattle.reclaimer.proofs.PutHome.{IsAsked, IsGoing, asleep_none, fails_so, counted_put, none_put, none_counted, empty_put, data_are, was_put, was_refused, was_reclaimed, was_counted, was_lowered, refused_counted, within_so, tried_so}
use Rattle.reclaimer.proofs.TakenOff.{nothing_taken}
use Rattle.reclaimer.proofs.put.put_home.Given as given
use Rattle.reclaimer.proofs.put.put_home.Goals.{After-still_due-put, After-store_home}
use Rattle.reclaimer.proofs.put.put_home.Goals as goal

-- the mask of what is still due
asked : (g : given.Over) (c : After-still_due-put g) → IsAsked c.args.m.now c.in-Some-filled.filled c.from.inside.blocks.items c.args.from.now c.still_due-put.result
asked g c =
    let f = c.in-Some-filled.filled in let blocks = c.from.inside.blocks.items in
    record {
      few = search rules;
      long = c.from.invariant.0;
      from_is = sym c.from.view_is ∙ ap (λ o. record_of o blocks) c.in-Some-filled.is;
      up = search rules;
      fits = c.still_due-put.type_inv;
      is = subst (λ (i : Contents). IsMask f.lbn (is_still_due i.entries f.version f.lbn f.count f.due) c.still_due-put.result) c.index.ensures c.still_due-put.ensures.due;
    }

-- it has a block
going : (g : given.Over) (c : After-store_home g) → IsGoing c.args.m.now c.in-Some-filled.filled c.still_due-put.result
going g c =
    let f = c.in-Some-filled.filled in let e = c.still_due-put.ensures in
    let pos : 0 < c.still_due-put.result = search rules in
    record {
      some = c.if-put-eq0.false;
      index = subst (λ (i : Contents). IsIndex i.entries) c.index.ensures (e.index pos);
      there = subst (λ (i : Contents). HasVersion i.entries f.version) c.index.ensures (e.there pos);
      range = subst (λ (i : Contents). (d : Indexed) → entry_at i.entries f.version ≡ Some d → (f.lbn ≡ d.listed.first) × (f.count ≡ length d.listed.keep)) c.index.ensures (e.range pos);
    }

pub returns-in-Some-clause-any_moment : goal.returns-in-Some-clause-any_moment
returns-in-Some-clause-any_moment g c told = at_rest g.D.Disk.tells g.D.Disk.state g.met.D.Disk.sound (HasData g.D.Disk.tells c.args.from.now) told c.args.m.now

pub returns-then-not-home_up-clause-any_moment : goal.returns-then-not-home_up-clause-any_moment
returns-then-not-home_up-clause-any_moment g c told = at_rest g.D.Disk.tells g.D.Disk.state g.met.D.Disk.sound (HasData g.D.Disk.tells c.args.from.now) told c.args.m.now

pub returns-in_default-filled-clause-any_moment : goal.returns-in_default-filled-clause-any_moment
returns-in_default-filled-clause-any_moment g c told = at_rest g.D.Disk.tells g.D.Disk.state g.met.D.Disk.sound (HasData g.D.Disk.tells c.args.from.now) told c.args.m.now

pub returns-then-put-eq0-clause-any_moment : goal.returns-then-put-eq0-clause-any_moment
returns-then-put-eq0-clause-any_moment g c told = at_rest g.D.Disk.tells g.D.Disk.state g.met.D.Disk.sound (HasData g.D.Disk.tells c.args.from.now) told c.args.m.now

pub returns-then-not-home_up-clause-count : goal.returns-then-not-home_up-clause-count
returns-then-not-home_up-clause-count g c = asleep_none c.args.m.now c.args.from.now (sym c.if-not-home_up.ensures)

pub returns-then-put-eq0-clause-count : goal.returns-then-put-eq0-clause-count
returns-then-put-eq0-clause-count g c = none_counted (asked g (goal.at.returns-then-put-eq0-clause-count g c).After-still_due-put) c.if-put-eq0.true

pub returns-then-put-eq0-clause-none : goal.returns-then-put-eq0-clause-none
returns-then-put-eq0-clause-none g c =
    let down = sym c.down.ensures ∙ never_some c.down.result c.in_default.not-Some in
    (λ _. (down, none_put (asked g (goal.at.returns-then-put-eq0-clause-none g c).After-still_due-put) c.if-put-eq0.true), λ _. refl)

pub returns-in-Ok-clause-count : goal.returns-in-Ok-clause-count
returns-in-Ok-clause-count g c = counted_put (asked g (goal.at.returns-in-Ok-clause-count g c).After-still_due-put)

pub returns-in-Ok-clause-none : goal.returns-in-Ok-clause-none
returns-in-Ok-clause-none g c =
    let put = c.still_due-put.result in
    (λ same. absurd (c.if-put-eq0.false (zero_from_ones put (let z : count_ones put ≡ 0 = cc in z))), λ none. absurd (c.if-put-eq0.false (empty_put (asked g (goal.at.returns-in-Ok-clause-none g c).After-still_due-put) none.1)))

pub returns-in-Ok-clause-put : goal.returns-in-Ok-clause-put
returns-in-Ok-clause-put g c =
    let p = goal.at.returns-in-Ok-clause-put g c in
    was_put (asked g p.After-still_due-put) g.D.Disk.state (going g p.After-store_home) c.store_home.new.self c.deref.result.now c.deref.ensures.value (Ok tt) refl c.in-Ok.ensures.stored

pub returns-in-Ok-clause-look : goal.returns-in-Ok-clause-look
returns-in-Ok-clause-look g c =
    let p = goal.at.returns-in-Ok-clause-look g c in (
      λ z. absurd (c.if-put-eq0.false (zero_from_ones c.still_due-put.result z)),
      λ _. was_reclaimed (asked g p.After-still_due-put) g.D.Disk.state (going g p.After-store_home) c.store_home.new.self c.deref.result.now c.deref.ensures.value (Ok tt) refl c.in-Ok.ensures.stored
          (c.in-Ok.ensures.fault.1 ∙ sym c.in-Ok.ensures.fault.0),
    )

pub returns-in-Ok-clause-keeps : goal.returns-in-Ok-clause-keeps
returns-in-Ok-clause-keeps g c b notes has k =
    let p = goal.at.returns-in-Ok-clause-keeps g c in
    c.in-Ok.ensures.keeps b notes (data_are (asked g p.After-still_due-put) (going g p.After-store_home) g.D.Disk.tells c.deref.result.now c.deref.ensures.value b notes has) k

pub returns-in-Ok-clause-any_moment : goal.returns-in-Ok-clause-any_moment
returns-in-Ok-clause-any_moment g c told =
    let p = goal.at.returns-in-Ok-clause-any_moment g c in
    within_so g.D.Disk.tells g.D.Disk.state g.met.D.Disk.sound _ (HasData g.D.Disk.tells c.args.from.now) (data_are (asked g p.After-still_due-put) (going g p.After-store_home) g.D.Disk.tells c.deref.result.now c.deref.ensures.value) c.args.m.now c.store_home.new.self (c.in-Ok.ensures.any_moment told)

pub returns-in-Err-clause-none : goal.returns-in-Err-clause-none
returns-in-Err-clause-none g c =
    (λ same. absurd (let wrong : Err c.in-Err.fault ≡ Ok 0 = same in cc), λ none. absurd (c.if-put-eq0.false (empty_put (asked g (goal.at.returns-in-Err-clause-none g c).After-still_due-put) none.1)))

pub returns-in-Err-clause-put : goal.returns-in-Err-clause-put
returns-in-Err-clause-put g c =
    let p = goal.at.returns-in-Err-clause-put g c in
    was_refused (asked g p.After-still_due-put) g.D.Disk.state (going g p.After-store_home) c.store_home.new.self c.deref.result.now c.deref.ensures.value (Unit {0}) c.in-Err.fault c.in-Err.ensures.fault c.in-Err.ensures.stored

pub returns-in-Err-clause-broke : goal.returns-in-Err-clause-broke
returns-in-Err-clause-broke g c =
    let p = goal.at.returns-in-Err-clause-broke g c in
    fails_so (Unit {0}) g.D.Disk.tells g.D.Disk.state c.args.m.now c.store_home.new.self _ (HasData g.D.Disk.tells c.args.from.now) (data_are (asked g p.After-still_due-put) (going g p.After-store_home) g.D.Disk.tells c.deref.result.now c.deref.ensures.value) c.in-Err.fault c.in-Err.ensures.broke

pub returns-in-Err-clause-any_moment : goal.returns-in-Err-clause-any_moment
returns-in-Err-clause-any_moment g c told =
    let p = goal.at.returns-in-Err-clause-any_moment g c in
    tried_so g.D.Disk.tells g.D.Disk.state g.met.D.Disk.sound _ (HasData g.D.Disk.tells c.args.from.now) (data_are (asked g p.After-still_due-put) (going g p.After-store_home) g.D.Disk.tells c.deref.result.now c.deref.ensures.value) (Unit {0}) told c.args.m.now c.store_home.new.self c.in-Err.fault c.in-Err.ensures.fault c.in-Err.ensures.any_moment

pub returns-in-Some-clause-counted : goal.returns-in-Some-clause-counted
returns-in-Some-clause-counted g c = nothing_taken (look_of_manager c.args.m.now) (look_of_manager c.args.m.now) refl

pub returns-then-not-home_up-clause-counted : goal.returns-then-not-home_up-clause-counted
returns-then-not-home_up-clause-counted g c = nothing_taken (look_of_manager c.args.m.now) (look_of_manager c.args.m.now) refl

pub returns-in_default-filled-clause-counted : goal.returns-in_default-filled-clause-counted
returns-in_default-filled-clause-counted g c = nothing_taken (look_of_manager c.args.m.now) (look_of_manager c.args.m.now) refl

pub returns-then-put-eq0-clause-counted : goal.returns-then-put-eq0-clause-counted
returns-then-put-eq0-clause-counted g c = nothing_taken (look_of_manager c.args.m.now) (look_of_manager c.args.m.now) refl

pub returns-in-Ok-clause-counted : goal.returns-in-Ok-clause-counted
returns-in-Ok-clause-counted g c = was_counted (asked g (goal.at.returns-in-Ok-clause-counted g c).After-still_due-put) g.D.Disk.state (going g (goal.at.returns-in-Ok-clause-counted g c).After-store_home) c.store_home.new.self c.deref.result.now c.deref.ensures.value (Ok tt) refl c.in-Ok.ensures.stored

pub returns-in-Ok-clause-lowers : goal.returns-in-Ok-clause-lowers
returns-in-Ok-clause-lowers g c = was_lowered (asked g (goal.at.returns-in-Ok-clause-lowers g c).After-still_due-put) g.D.Disk.state (going g (goal.at.returns-in-Ok-clause-lowers g c).After-store_home) c.store_home.new.self c.deref.result.now c.deref.ensures.value (Ok tt) refl c.in-Ok.ensures.stored

pub returns-in-Err-clause-counted : goal.returns-in-Err-clause-counted
returns-in-Err-clause-counted g c = refused_counted (Unit {0}) g.D.Disk.state c.in-Some-filled.filled.version c.still_due-put.result _ c.args.m.now c.store_home.new.self c.in-Err.fault c.in-Err.ensures.fault c.in-Err.ensures.stored

pub returns-then-not-home_up-clause-calm : goal.returns-then-not-home_up-clause-calm
returns-then-not-home_up-clause-calm g c = none_home g.D.Disk.state c.args.m.now c.args.m.now c.requires.ready refl refl

pub returns-in_default-filled-clause-calm : goal.returns-in_default-filled-clause-calm
returns-in_default-filled-clause-calm g c = none_home g.D.Disk.state c.args.m.now c.args.m.now c.requires.ready refl refl

pub returns-then-put-eq0-clause-calm : goal.returns-then-put-eq0-clause-calm
returns-then-put-eq0-clause-calm g c = none_home g.D.Disk.state c.args.m.now c.args.m.now c.requires.ready refl refl
