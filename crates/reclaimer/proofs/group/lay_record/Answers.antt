-- The due blocks of a record are read and laid home.
use Rattle.std.proofs.Common.{rules, ℕ, List, Ok, refl, sym, ap, subst, ◌∙◌}
use Rattle.std.specs.Prelude.{IsSome}
use Rattle.wol_model.specs.Index.{Indexed}
use Rattle.redirect_map.specs.Index.{HasVersion}
use Rattle.manager.proofs.Calm.{none_then}
use Rattle.manager.proofs.ReadKeeps.{keeps_read}
use Rattle.manager.specs.Reclaim.{Always, AreDue}
use Rattle.manager.specs.Stands.{Keeps}
use Rattle.manager.specs.declared.manager.Manager.{Manager}
use Rattle.manager.specs.Stops.{HoldsOn}
use Rattle.reclaimer.specs.declared.room.Filled.{Filled}
use Rattle.reclaimer.proofs.LaysOne.{awake_unlaid, awake_unread, count_read, drains_one, passed_laid, passed_unlaid, passed_unread, due_here, due_read, laid_read, lays_one, reads_one, same_unlaid, same_unread, tried_as}
use Rattle.reclaimer.proofs.MoveHome.{entry_there, data_here, same_index, keeps_both, fault_both, breaks_fault}
use Rattle.reclaimer.proofs.group.lay_record.Goals as goal

pub lay_home-requires-clause-there : goal.lay_home-requires-clause-there
lay_home-requires-clause-there g c =
    let m = c.args.m.now in let m1 = c.read_record.new.m in let r = c.in_ok-filled.ensures in let v = c.args.version in let t = entry_there m.index.entries v _ c.requires.due in
    let long = c.read_record.auto.blocks ∙ c.requires.room in let f = c.in_ok-filled.filled in let blocks = c.read_record.new.blocks in
    subst (λ (es : List Indexed). HasVersion es v) (sym (same_index m m1 v t.0 t.1 f blocks long r.few r.filled r.fetched)) (subst IsSome (sym t.1) refl)

pub lay_home-requires-clause-due : goal.lay_home-requires-clause-due
lay_home-requires-clause-due g c =
    let m = c.args.m.now in let m1 = c.read_record.new.m in let r = c.in_ok-filled.ensures in let v = c.args.version in let t = entry_there m.index.entries v _ c.requires.due in
    let long = c.read_record.auto.blocks ∙ c.requires.room in let f = c.in_ok-filled.filled in let blocks = c.read_record.new.blocks in
    due_read g.D.Disk.state m m1 v t.0 t.1 f blocks long r.few r.filled r.fetched

pub lay_home-requires-clause-count : goal.lay_home-requires-clause-count
lay_home-requires-clause-count g c =
    let m = c.args.m.now in let m1 = c.read_record.new.m in let r = c.in_ok-filled.ensures in let v = c.args.version in let t = entry_there m.index.entries v _ c.requires.due in
    let long = c.read_record.auto.blocks ∙ c.requires.room in let f = c.in_ok-filled.filled in let blocks = c.read_record.new.blocks in
    count_read g.D.Disk.state m m1 v t.0 t.1 f blocks long r.few r.filled r.fetched

pub returns-in-Ok-clause-same : goal.returns-in-Ok-clause-same
returns-in-Ok-clause-same g c =
    let m = c.args.m.now in let m1 = c.read_record.new.m in let r = c.in_ok-filled.ensures in let v = c.args.version in let t = entry_there m.index.entries v _ c.requires.due in
    let long = c.read_record.auto.blocks ∙ c.requires.room in let f = c.in_ok-filled.filled in let blocks = c.read_record.new.blocks in
    ap (λ (k : Manager g.row.D.Denot). k.index) c.in-Ok.ensures.laid.rest ∙ r.read.index

pub returns-in-Ok-clause-lays : goal.returns-in-Ok-clause-lays
returns-in-Ok-clause-lays g c =
    let m = c.args.m.now in let m1 = c.read_record.new.m in let r = c.in_ok-filled.ensures in let v = c.args.version in let t = entry_there m.index.entries v _ c.requires.due in
    let long = c.read_record.auto.blocks ∙ c.requires.room in let f = c.in_ok-filled.filled in let blocks = c.read_record.new.blocks in
    lays_one g.D.Disk.state m m1 v t.0 t.1 f blocks long r.few r.filled r.fetched c.lay_home.new.self t.2 c.in-Ok.ensures.laid

pub returns-in-Ok-clause-reads : goal.returns-in-Ok-clause-reads
returns-in-Ok-clause-reads g c =
    let m = c.args.m.now in let m1 = c.read_record.new.m in let r = c.in_ok-filled.ensures in let v = c.args.version in let t = entry_there m.index.entries v _ c.requires.due in
    let long = c.read_record.auto.blocks ∙ c.requires.room in let f = c.in_ok-filled.filled in let blocks = c.read_record.new.blocks in
    reads_one g.D.Disk.state m m1 v t.0 t.1 (Unit {0}) (Ok tt) f.due _ c.lay_home.new.self r.read c.in-Ok.ensures.laid

pub returns-in-Ok-clause-due : goal.returns-in-Ok-clause-due
returns-in-Ok-clause-due g c =
    let m = c.args.m.now in let m1 = c.read_record.new.m in let r = c.in_ok-filled.ensures in let v = c.args.version in let t = entry_there m.index.entries v _ c.requires.due in
    let long = c.read_record.auto.blocks ∙ c.requires.room in let f = c.in_ok-filled.filled in let blocks = c.read_record.new.blocks in
    due_here g.D.Disk.state m m1 v t.0 t.1 f blocks long r.few r.filled r.fetched

pub returns-in-Ok-clause-there : goal.returns-in-Ok-clause-there
returns-in-Ok-clause-there g c b notes k =
    let m = c.args.m.now in let m1 = c.read_record.new.m in let r = c.in_ok-filled.ensures in let v = c.args.version in let t = entry_there m.index.entries v _ c.requires.due in
    let long = c.read_record.auto.blocks ∙ c.requires.room in let f = c.in_ok-filled.filled in let blocks = c.read_record.new.blocks in
    c.in-Ok.ensures.there b notes (data_here m m1 v t.0 t.1 f blocks long r.few r.filled r.fetched g.D.Disk.tells b notes (r.content b notes k))

pub returns-in-Ok-clause-others : goal.returns-in-Ok-clause-others
returns-in-Ok-clause-others g c w x b notes due k was =
    let m = c.args.m.now in let m1 = c.read_record.new.m in let r = c.in_ok-filled.ensures in let v = c.args.version in let t = entry_there m.index.entries v _ c.requires.due in
    let long = c.read_record.auto.blocks ∙ c.requires.room in let f = c.in_ok-filled.filled in let blocks = c.read_record.new.blocks in
    c.in-Ok.ensures.others w x b notes (subst (λ (es : List Indexed). AreDue es w x) (sym (same_index m m1 v t.0 t.1 f blocks long r.few r.filled r.fetched)) due) (data_here m m1 v t.0 t.1 f blocks long r.few r.filled r.fetched g.D.Disk.tells b notes (r.content b notes k))
    (keeps_read g.D.Disk.tells g.D.Disk.state m m1 b notes r.read c.read_record.ensures.ready r.fault.0 k)
    (laid_read g.D.Disk.state m m1 v t.0 t.1 f blocks long r.few r.filled r.fetched g.D.Disk.tells w x b notes was)

pub returns-in-Ok-clause-keeps : goal.returns-in-Ok-clause-keeps
returns-in-Ok-clause-keeps g c =
    let m = c.args.m.now in let m1 = c.read_record.new.m in let r = c.in_ok-filled.ensures in let v = c.args.version in let t = entry_there m.index.entries v _ c.requires.due in
    let long = c.read_record.auto.blocks ∙ c.requires.room in let f = c.in_ok-filled.filled in let blocks = c.read_record.new.blocks in
    keeps_both g.D.Disk.tells g.D.Disk.state g.met.D.Disk.sound m m1 c.lay_home.new.self _ c.requires.ready r.fault.0 r.read c.read_record.ensures.ready (λ b notes k. data_here m m1 v t.0 t.1 f blocks long r.few r.filled r.fetched g.D.Disk.tells b notes (r.content b notes k)) c.in-Ok.ensures.keeps

pub returns-in-Ok-clause-since : goal.returns-in-Ok-clause-since
returns-in-Ok-clause-since g c was b notes kept s =
    let m = c.args.m.now in let m1 = c.read_record.new.m in let r = c.in_ok-filled.ensures in let v = c.args.version in let t = entry_there m.index.entries v _ c.requires.due in
    let long = c.read_record.auto.blocks ∙ c.requires.room in let f = c.in_ok-filled.filled in let blocks = c.read_record.new.blocks in
    c.in-Ok.ensures.since was b notes (data_here m m1 v t.0 t.1 f blocks long r.few r.filled r.fetched g.D.Disk.tells b notes (r.content b notes kept)) (r.since was b notes tt s)

pub returns-in-Ok-clause-calm : goal.returns-in-Ok-clause-calm
returns-in-Ok-clause-calm g c =
    let m = c.args.m.now in let m1 = c.read_record.new.m in let r = c.in_ok-filled.ensures in let v = c.args.version in let t = entry_there m.index.entries v _ c.requires.due in
    let long = c.read_record.auto.blocks ∙ c.requires.room in let f = c.in_ok-filled.filled in let blocks = c.read_record.new.blocks in
    none_then g.D.Disk.state m m1 c.lay_home.new.self r.read r.calm c.in-Ok.ensures.calm

pub returns-in-Err-clause-fault : goal.returns-in-Err-clause-fault
returns-in-Err-clause-fault g c =
    let m = c.args.m.now in let m1 = c.read_record.new.m in let r = c.in_ok-filled.ensures in let v = c.args.version in let t = entry_there m.index.entries v _ c.requires.due in
    let long = c.read_record.auto.blocks ∙ c.requires.room in let f = c.in_ok-filled.filled in let blocks = c.read_record.new.blocks in
    fault_both g.D.Disk.tells g.D.Disk.state g.met.D.Disk.sound m m1 c.lay_home.new.self _ c.requires.ready r.fault.0 r.read c.read_record.ensures.ready (λ b notes k. data_here m m1 v t.0 t.1 f blocks long r.few r.filled r.fetched g.D.Disk.tells b notes (r.content b notes k)) (Unit {0}) ℕ c.in-Err.fault r.fault.1 c.in-Err.ensures.fault

pub returns-in-Err-clause-same : goal.returns-in-Err-clause-same
returns-in-Err-clause-same g c =
    let m = c.args.m.now in let m1 = c.read_record.new.m in let r = c.in_ok-filled.ensures in let v = c.args.version in let t = entry_there m.index.entries v _ c.requires.due in
    let long = c.read_record.auto.blocks ∙ c.requires.room in let f = c.in_ok-filled.filled in let blocks = c.read_record.new.blocks in
    same_unlaid g.D.Disk.state m m1 v t.0 t.1 (Unit {0}) f.due _ c.lay_home.new.self c.in-Err.fault r.read.index c.in-Err.ensures.fault c.in-Err.ensures.laid

pub returns-in-Err-clause-broke : goal.returns-in-Err-clause-broke
returns-in-Err-clause-broke g c =
    let m = c.args.m.now in let m1 = c.read_record.new.m in let r = c.in_ok-filled.ensures in let v = c.args.version in let t = entry_there m.index.entries v _ c.requires.due in
    let long = c.read_record.auto.blocks ∙ c.requires.room in let f = c.in_ok-filled.filled in let blocks = c.read_record.new.blocks in
    breaks_fault g.D.Disk.tells g.D.Disk.state g.met.D.Disk.sound m m1 c.lay_home.new.self _ c.requires.ready r.fault.0 r.read c.read_record.ensures.ready (λ b notes k. data_here m m1 v t.0 t.1 f blocks long r.few r.filled r.fetched g.D.Disk.tells b notes (r.content b notes k)) (Unit {0}) ℕ c.in-Err.fault c.in-Err.ensures.broke

pub returns-in-Err-clause-since : goal.returns-in-Err-clause-since
returns-in-Err-clause-since g c =
    let m = c.args.m.now in let m1 = c.read_record.new.m in let r = c.in_ok-filled.ensures in let v = c.args.version in let t = entry_there m.index.entries v _ c.requires.due in
    let long = c.read_record.auto.blocks ∙ c.requires.room in let f = c.in_ok-filled.filled in let blocks = c.read_record.new.blocks in
    tried_as (Unit {0}) ℕ c.in-Err.fault _ (HoldsOn g.D.Disk.tells g.D.Disk.state m c.lay_home.new.self (Keeps g.D.Disk.tells g.D.Disk.state m)) (λ h was b notes kept s. h was b notes (data_here m m1 v t.0 t.1 f blocks long r.few r.filled r.fetched g.D.Disk.tells b notes (r.content b notes kept)) (r.since was b notes tt s)) c.in-Err.ensures.since

pub returns-in_err-filled-clause-same : goal.returns-in_err-filled-clause-same
returns-in_err-filled-clause-same g c =
    let m = c.args.m.now in let v = c.args.version in let t = entry_there m.index.entries v _ c.requires.due in let e = c.in_err-filled.ensures in
    same_unread g.D.Disk.state m c.read_record.new.m v t.0 t.1 Filled c.in_err-filled.field-0.0 e.fault e.fetched

pub returns-in_err-filled-clause-since : goal.returns-in_err-filled-clause-since
returns-in_err-filled-clause-since g c =
    let m = c.args.m.now in let e = c.in_err-filled.ensures in
    let so = tried_as Filled ℕ c.in_err-filled.field-0.0 (HoldsOn g.D.Disk.tells g.D.Disk.state m c.read_record.new.m Always) (HoldsOn g.D.Disk.tells g.D.Disk.state m c.read_record.new.m (Keeps g.D.Disk.tells g.D.Disk.state m)) (λ h was b notes kept s. h was b notes tt s) e.since in
    search rules

pub returns-in-Ok-clause-awake : goal.returns-in-Ok-clause-awake
returns-in-Ok-clause-awake g c awake = ap (λ (k : Manager g.row.D.Denot). k.home_up) c.in-Ok.ensures.laid.rest

pub returns-in-Ok-clause-drains : goal.returns-in-Ok-clause-drains
returns-in-Ok-clause-drains g c =
    let m = c.args.m.now in let m1 = c.read_record.new.m in let r = c.in_ok-filled.ensures in let v = c.args.version in let t = entry_there m.index.entries v _ c.requires.due in
    let long = c.read_record.auto.blocks ∙ c.requires.room in let f = c.in_ok-filled.filled in let blocks = c.read_record.new.blocks in
    drains_one g.D.Disk.state m m1 v t.0 t.1 (Unit {0}) (Ok tt) f.due _ c.lay_home.new.self c.requires.ready.ready.flags (r.fetched t.0 t.1) c.in-Ok.ensures.laid (c.in-Ok.ensures.fault.1 ∙ sym r.fault.0)

pub returns-in-Ok-clause-passed : goal.returns-in-Ok-clause-passed
returns-in-Ok-clause-passed g c bs j =
    let m = c.args.m.now in let m1 = c.read_record.new.m in let r = c.in_ok-filled.ensures in let v = c.args.version in let t = entry_there m.index.entries v _ c.requires.due in
    let long = c.read_record.auto.blocks ∙ c.requires.room in let f = c.in_ok-filled.filled in let blocks = c.read_record.new.blocks in
    passed_laid g.D.Disk.state m m1 v t.0 t.1 (Unit {0}) (Ok tt) f.due _ c.lay_home.new.self bs j (r.fetched t.0 t.1) c.in-Ok.ensures.laid

pub returns-in-Err-clause-awake : goal.returns-in-Err-clause-awake
returns-in-Err-clause-awake g c awake =
    let m = c.args.m.now in let m1 = c.read_record.new.m in let r = c.in_ok-filled.ensures in let v = c.args.version in let t = entry_there m.index.entries v _ c.requires.due in
    let long = c.read_record.auto.blocks ∙ c.requires.room in let f = c.in_ok-filled.filled in let blocks = c.read_record.new.blocks in
    awake_unlaid g.D.Disk.state m m1 v t.0 t.1 (Unit {0}) f.due _ c.lay_home.new.self c.in-Err.fault (r.fetched t.0 t.1) awake c.in-Err.ensures.fault c.in-Err.ensures.laid

pub returns-in-Err-clause-passed : goal.returns-in-Err-clause-passed
returns-in-Err-clause-passed g c bs j =
    let m = c.args.m.now in let m1 = c.read_record.new.m in let r = c.in_ok-filled.ensures in let v = c.args.version in let t = entry_there m.index.entries v _ c.requires.due in
    let long = c.read_record.auto.blocks ∙ c.requires.room in let f = c.in_ok-filled.filled in let blocks = c.read_record.new.blocks in
    passed_unlaid g.D.Disk.state m m1 v t.0 t.1 (Unit {0}) f.due _ c.lay_home.new.self c.in-Err.fault bs j (r.fetched t.0 t.1) c.in-Err.ensures.fault c.in-Err.ensures.laid

pub returns-in_err-filled-clause-awake : goal.returns-in_err-filled-clause-awake
returns-in_err-filled-clause-awake g c awake =
    let m = c.args.m.now in let v = c.args.version in let t = entry_there m.index.entries v _ c.requires.due in let e = c.in_err-filled.ensures in
    awake_unread g.D.Disk.state m c.read_record.new.m v t.0 t.1 Filled c.in_err-filled.field-0.0 e.fault e.fetched ∙ awake

pub returns-in_err-filled-clause-passed : goal.returns-in_err-filled-clause-passed
returns-in_err-filled-clause-passed g c bs j =
    let m = c.args.m.now in let v = c.args.version in let t = entry_there m.index.entries v _ c.requires.due in let e = c.in_err-filled.ensures in
    passed_unread g.D.Disk.state m c.read_record.new.m v t.0 t.1 Filled c.in_err-filled.field-0.0 bs j e.fault e.fetched
