use Rattle.std.proofs.Common.{rules, ◌≡◌, ◌<◌, ◌≤◌, ◌+◌, length, ap, sym, ◌∙◌, arith}
use Rattle.std.specs.Prelude.{vec_len, vec_capacity}
use Rattle.request_workers.specs.Crews.{IsPartCrew, IsIdleSeat}
use Rattle.request_workers.specs.Shares.{CanShare}
use Rattle.request_workers.proofs.Crewing.{crew_back, crew_less, last_at, last_within}
use Rattle.request_workers.proofs.Parts.{first_can, fits_again, job_ready, no_ok, shared_both}
use Rattle.request_workers.proofs.hands.+serve_shared.Goals as goal

pub serve_shared-requires : goal.serve_shared-requires
serve_shared-requires g t c κs within =
    let crew = c.args.crew.now in
    let less = c.in-Some.ensures.cases in
    let rest = crew_less crew c.pop.new.self c.in-Some.seat c.in-Some.ensures.items c.requires.crew in
    let can = c.requires.can in
    search (rules, less, rest, can)

pub returns-then-len-shares-clause-crew : goal.returns-then-len-shares-clause-crew
returns-then-len-shares-clause-crew g t c =
    let crew = c.args.crew.now in let rest = c.pop.new.self in let s = c.serve_shared in
    let home = last_at crew rest c.in-Some.seat c.index-all-len.result c.len.result c.in-Some.ensures.items c.requires.crew c.len.ensures c.index-all-len.is in
    crew_back crew rest c.in-Some.seat s.new.crew c.push_reserved.new.self c.in-Some.seat c.index-all-len.result c.len.result c.in-Some.ensures.items c.requires.crew s.ensures.still c.push_reserved.ensures.items c.len.ensures c.index-all-len.is home s.ensures.crew

pub cut_run-requires-clause-empty : goal.cut_run-requires-clause-empty
cut_run-requires-clause-empty g t c =
    (last_at c.args.crew.now c.pop.new.self c.in-Some.seat c.index-all-len.result c.len.result c.in-Some.ensures.items c.requires.crew c.len.ensures c.index-all-len.is).empty

pub give-requires-clause-idle : goal.give-requires-clause-idle
give-requires-clause-idle g t c =
    (last_at c.args.crew.now c.pop.new.self c.in-Some.seat c.index-all-len.result c.len.result c.in-Some.ensures.items c.requires.crew c.len.ensures c.index-all-len.is).idle

pub give-requires-clause-ready : goal.give-requires-clause-ready
give-requires-clause-ready g t c = job_ready c.args.shared c.args.floor.now c.cut_run.new.desks c.cut_run.new.room c.len-3.result c.in-Some.seat.work c.cut_run.ensures.cut c.len-3.ensures c.requires.can

pub serve_shared-requires-2 : goal.serve_shared-requires-2
serve_shared-requires-2 g t c κs within =
    let crew = c.args.crew.now in
    let less = c.in-Some.ensures.cases in
    let rest = crew_less crew c.pop.new.self c.in-Some.seat c.in-Some.ensures.items c.requires.crew in
    let can = first_can c.args.shared.now c.args.floor.now c.cut_run.new.desks c.cut_run.new.room.items c.cut_run.ensures.cut c.requires.can in
    search (rules, less, rest, can)

pub get_back-room-requires : goal.get_back-room-requires
get_back-room-requires g t c = record { away = (_, c.give.ensures) }

pub unreachable-requires : goal.unreachable-requires
unreachable-requires g t c =
    let back = c.get_back-room.ensures.served _ c.give.ensures in
    let s = c.serve_shared-2 in
    let fits = fits_again _ _ c.args.floor.now s.new.floor c.cut_run.new.desks c.append.new.self c.cut_run.new.room.items c.get_back-room.result.desks.items c.cut_run.ensures.cut c.cut_run.ensures.room s.ensures.shared back.count in
    let a = s.new.floor.desks.ok.0 in let b = c.get_back-room.result.desks.ok.0 in
    no_ok c.append.result (c.append.ensures.succeeds (omega (arith, fits, a, b))) c.in_default-append.not-Ok

pub returns-clause-shared : goal.returns-clause-shared
returns-clause-shared g t c =
    let back = c.get_back-room.ensures.served _ c.give.ensures in
    let s = c.serve_shared-2 in
    shared_both _ _ c.args.floor.now s.new.floor c.cut_run.new.desks c.append.new.self c.cut_run.new.room.items c.get_back-room.result.desks.items c.cut_run.ensures.cut c.cut_run.ensures.room s.ensures.shared
    c.in-Ok.ensures.items back.count back.served c.append.ensures.capacity

pub returns-clause-crew : goal.returns-clause-crew
returns-clause-crew g t c =
    let crew = c.args.crew.now in let rest = c.pop.new.self in let s = c.serve_shared-2 in
    crew_back crew rest c.in-Some.seat s.new.crew c.push_reserved-2.new.self _ c.index-all-len.result c.len.result c.in-Some.ensures.items c.requires.crew s.ensures.still c.push_reserved-2.ensures.items c.len.ensures c.index-all-len.is
    (record { idle = c.get_back-room.ensures.idle; empty = c.in-Ok.ensures.other_items }) s.ensures.crew
