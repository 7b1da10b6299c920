-- The disk that has a run of blocks is woken: that of a logger, or the volume's own.
use Rattle.std.proofs.Common.{◌≡◌, ℕ, Bool, Option, length, ap, subst, ◌∙◌, arith}
use Rattle.std.specs.Prelude.{slice_index_or}
use Rattle.block_cells.specs.declared.record.Rec.{Rec}
use Rattle.wol_promise.specs.Policy.{Look}
use Rattle.whatif.specs.declared.volume.Volume.{Volume}
use Rattle.whatif.specs.Volumes.{look_in}
use Rattle.whatif.proofs.Seeing.{Answers, home_look, lane_seen, source_is_home, source_is_log, source_look}
use Rattle.whatif.proofs.volume.Volume.wake_source.Goals as goal

-- the answer for a run, as it is known in an arm
answers_as : (v : Volume) (first n : ℕ) (o p : Option Rec) → o ≡ p → Answers v first n o → Answers v first n p
answers_as v first n o p is all = subst (Answers v first n) is all

pub see_logger-requires-clause-within : goal.see_logger-requires-clause-within
see_logger-requires-clause-within c =
    let all = answers_as c.args.self.now c.args.lbn c.newest_run-source.result.1 _ _ c.in-Some.is c.newest_run-source.ensures.run in
    lane_seen c.args.self.now c.args.lbn c.in-Some.record c.requires.volume (all c.args.lbn (omega arith) (let s = c.newest_run-source.ensures.some in omega (arith, s)))

pub index-requires : goal.index-requires
index-requires c =
    let all = answers_as c.args.self.now c.args.lbn c.newest_run-source.result.1 _ _ c.in-Some.is c.newest_run-source.ensures.run in
    let lt = lane_seen c.args.self.now c.args.lbn c.in-Some.record c.requires.volume (all c.args.lbn (omega arith) (let s = c.newest_run-source.ensures.some in omega (arith, s))) in
    let same = ap (λ (w : Volume). length w.loggers.items) c.see_logger.ensures.rest in
    let flags = c.requires.volume.flags in let ok = c.see_logger.new.self.loggers.ok.0 in
    omega (arith, lt, same, flags, ok)

pub returns-in-Some-clause-source : goal.returns-in-Some-clause-source
returns-in-Some-clause-source c = λ b from to.
    let all = answers_as c.args.self.now c.args.lbn c.newest_run-source.result.1 _ _ c.in-Some.is c.newest_run-source.ensures.run in
    source_is_log c.args.self.now b c.in-Some.record c.index.result.now c.requires.volume (all b from to) (c.index.ensures ∙ ap (λ (w : Volume). slice_index_or w.loggers.items c.in-Some.record.lane c.index.result.now) c.see_logger.ensures.rest)

pub returns-in-Some-clause-look : goal.returns-in-Some-clause-look
returns-in-Some-clause-look c =
    let all = answers_as c.args.self.now c.args.lbn c.newest_run-source.result.1 _ _ c.in-Some.is c.newest_run-source.ensures.run in
    ap look_in c.see_logger.ensures.rest ∙ source_look c.args.self.now c.args.lbn c.newest_run-source.result.1 c.in-Some.record c.see_logger.new.self.ups.items c.requires.volume c.newest_run-source.ensures.some all c.see_logger.ensures.flag

pub returns-in-None-clause-source : goal.returns-in-None-clause-source
returns-in-None-clause-source c = λ b from to.
    let all = answers_as c.args.self.now c.args.lbn c.newest_run-source.result.1 _ _ c.in-None.is c.newest_run-source.ensures.run in
    ap (λ (w : Volume). w.own) c.see_home.ensures.rest ∙ source_is_home c.args.self.now b (all b from to)

pub returns-in-None-clause-look : goal.returns-in-None-clause-look
returns-in-None-clause-look c =
    let all = answers_as c.args.self.now c.args.lbn c.newest_run-source.result.1 _ _ c.in-None.is c.newest_run-source.ensures.run in
    ap look_in c.see_home.ensures.rest ∙ ap (λ (h : Bool). (let l : Look = record (look_in c.args.self.now) { home_up = h } in l)) c.see_home.ensures.flag
    ∙ home_look c.args.self.now c.args.lbn c.newest_run-source.result.1 c.newest_run-source.ensures.some all
