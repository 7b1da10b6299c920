use Rattle.std.proofs.Common.{◌≡◌, ◌<◌, ◌≤◌, true, false, not, Bool, List, length, map, slice_index_or, refl, sym, ap, ◌∙◌, arith}
use Rattle.std.proofs.Math.Bool.{beq}
use Rattle.std.proofs.lemmas.List.{take_all}
use Rattle.logger.specs.Lanes.{logger_of}
use Rattle.request_turns.specs.Begun.{HasFlags}
use Rattle.request_turns.proofs.Flagged.{place_of_flag, holds_too, front_same, flag_at}
use Rattle.request_turns.proofs.begin.is_told.Goals as goal

-- two flags differ or not
same_flag : (a b : Bool) → not (beq a b) ≡ false → a ≡ b
same_flag true true is = refl
same_flag true false is = absurd (let no : true ≡ false = is in cc)
same_flag false true is = absurd (let no : true ≡ false = is in cc)
same_flag false false is = refl

other_flag : (a b : Bool) → not (beq a b) ≡ true → a ≡ b → ⊥
other_flag true true is same = absurd (let e : false ≡ true = is in cc)
other_flag true false is same = absurd (let e : true ≡ false = same in cc)
other_flag false true is same = absurd (let e : false ≡ true = same in cc)
other_flag false false is same = absurd (let e : false ≡ true = is in cc)

pub returns-then-home_up-awake : goal.returns-then-home_up-awake
returns-then-home_up-awake g c =
    (λ no. absurd (let e : false ≡ true = no in cc), λ f. absurd (other_flag c.home_up.result (slice_index_or c.args.awake.now c.args.volume false) c.if-home_up-awake.true (c.home_up.ensures ∙ f.home)))

pub bounds-awake-logger : goal.bounds-awake-logger
bounds-awake-logger g c =
    let within = place_of_flag c.ups-ups.result.now c.args.manager.now.ups.items c.args.manager.now.lanes.items c.loop-lane.lane c.ups-ups.ensures c.requires.count c.loop-lane-test.true in
    holds_too logger_of c.args.manager.now.lanes.items c.loop-lane.lane c.logger.result within c.logger.ensures (λ v. v < length c.args.awake.now) c.requires.view

pub returns-then-ups-lane : goal.returns-then-ups-lane
returns-then-ups-lane g c =
    let within = place_of_flag c.ups-ups.result.now c.args.manager.now.ups.items c.args.manager.now.lanes.items c.loop-lane.lane c.ups-ups.ensures c.requires.count c.loop-lane-test.true in (
      λ no. absurd (let e : false ≡ true = no in cc),
      λ f. absurd (other_flag (slice_index_or c.ups-ups.result.now c.loop-lane.lane false) (slice_index_or c.args.awake.now c.logger.result false) c.if-ups-lane.true
          (ap (λ (bs : List Bool). slice_index_or bs c.loop-lane.lane false) (c.ups-ups.ensures ∙ f.ups) ∙ flag_at logger_of c.args.manager.now.lanes.items c.loop-lane.lane c.logger.result within c.logger.ensures c.args.awake.now)),
    )

pub loop-lane-preserved : goal.loop-lane-preserved
loop-lane-preserved g c =
    let u : length c.ups-ups.result.now ≡ length c.args.manager.now.ups.items = ap length c.ups-ups.ensures in
    let within = place_of_flag c.ups-ups.result.now c.args.manager.now.ups.items c.args.manager.now.lanes.items c.loop-lane.lane c.ups-ups.ensures c.requires.count c.loop-lane-test.true in
    front_same logger_of c.args.manager.now.lanes.items c.loop-lane.lane c.logger.result within c.logger.ensures c.args.manager.now.ups.items c.args.awake.now (let t = c.loop-lane-test.true in omega arith)
    (ap (λ (bs : List Bool). slice_index_or bs c.loop-lane.lane false) (sym c.ups-ups.ensures)
    ∙ same_flag (slice_index_or c.ups-ups.result.now c.loop-lane.lane false) (slice_index_or c.args.awake.now c.logger.result false) c.if-ups-lane.false) c.loop-lane.invariant

pub returns : goal.returns
returns g c =
    let u : length c.ups-ups.result.now ≡ length c.args.manager.now.ups.items = ap length c.ups-ups.ensures in
    let all : length c.args.manager.now.ups.items ≤ c.loop-lane.lane = (let t = c.loop-lane-test.false in omega arith) in
    let lanes : length c.args.manager.now.lanes.items ≤ c.loop-lane.lane = (let n = c.requires.count in omega arith) in
    let has : HasFlags c.args.volume c.args.awake.now c.args.manager.now = record {
      home = sym c.home_up.ensures ∙ same_flag c.home_up.result (slice_index_or c.args.awake.now c.args.volume false) c.if-home_up-awake.false;
      ups = sym (take_all c.loop-lane.lane c.args.manager.now.ups.items all) ∙ c.loop-lane.invariant
          ∙ ap (λ ls. map (λ v. slice_index_or c.args.awake.now v false) (map logger_of ls)) (take_all c.loop-lane.lane c.args.manager.now.lanes.items lanes);
    } in
    (λ _. has, λ _. refl)
