use Rattle.std.proofs.Common.{rules, ◌≡◌, ◌<◌, ℕ, zero, suc, None, Ok, refl, ap, sym, subst, arith}
use Rattle.wol_model.specs.Index.{listed_in, left}
use Rattle.manager.specs.Seen.{look_of_manager}
use Rattle.manager.specs.declared.manager.Manager.{Manager}
use Rattle.reclaimer.specs.Fetches.{due_entry}
use Rattle.request_turns.proofs.Reclaiming.{nothing_yet, read, and_done, refused}
use Rattle.request_turns.proofs.StepNotes.{on_failed, reclaims_joined}
use Rattle.request_turns.proofs.Uses.{uses_put, uses_same}
use Rattle.request_turns.proofs.reclaim.put_due.Goals as goal

-- a number that isn't zero
above : (n : ℕ) → (n ≡ 0 → ⊥) → 0 < n
above zero other = absurd (other refl)
above (suc n) other = omega arith

pub steps-init : goal.steps-init
steps-init g c = record { reclaims = nothing_yet _ _ _ c.args.tally.now c.args.m.now c.requires.ready c.requires.at; no_more = omega arith }

pub steps-preserved : goal.steps-preserved
steps-preserved g c = let e = c.in_ok-blocks.ensures in let i = c.steps.invariant in
    let less = e.lowers (above c.in_ok-blocks.blocks c.if-blocks-eq0.false) in
    let before = i.no_more in record {
      reclaims = and_done _ _ _ _ _ _ _ i.reclaims _ _ {T = Unit {0}} tt (record {
        ready = e.ready;
        at = e.at;
        down = tt;
        look = λ l r. reclaims_joined l _ _ r e.look;
        taken = record { blocks = c.in_ok-blocks.blocks; records = 0; taken = e.counted; counts = c.count.ensures };
        keeps = e.keeps;
        broke = tt;
        uses = uses_put g.D.Disk.state c.steps.m c.put_group.new.m c.in_ok-blocks.blocks e.put e.look e.counted;
      });
      no_more = omega (arith, less, before);
    }

pub steps-smaller : goal.steps-smaller
steps-smaller g c = c.in_ok-blocks.ensures.lowers (above c.in_ok-blocks.blocks c.if-blocks-eq0.false)

pub returns-in_err-blocks-clause-reclaims : goal.returns-in_err-blocks-clause-reclaims
returns-in_err-blocks-clause-reclaims g c = let i = c.steps.invariant in let r = c.in_err-blocks.ensures in let f = c.in_err-blocks.field-0.0 in
    let so = refused _ _ _ _ _ _ _ i.reclaims c.put_group.new.m ℕ {U = Unit {0}} f r.ready r.at r.fault (on_failed ℕ (Unit {0}) f _ _ (λ then b notes n w note k. then b notes n tt note (i.reclaims.keeps b notes tt k)) r.broke) in
    search rules

pub returns-then-blocks-eq0-clause-reclaims : goal.returns-then-blocks-eq0-clause-reclaims
returns-then-blocks-eq0-clause-reclaims g c = let e = c.in_ok-blocks.ensures in let i = c.steps.invariant in
    let same = e.put.0 c.if-blocks-eq0.true in
    and_done _ _ _ _ _ _ _ i.reclaims _ _ {T = Unit {0}} tt (read _ _ _ c.steps.tally c.steps.m c.put_group.new.m e.ready e.at (ap look_of_manager same) e.keeps (uses_same c.steps.m c.put_group.new.m same))

pub returns-then-blocks-eq0-clause-nothing : goal.returns-then-blocks-eq0-clause-nothing
returns-then-blocks-eq0-clause-nothing g c = let e = c.in_ok-blocks.ensures in
    subst (λ (m : Manager g.row.D.Denot). due_entry m ≡ None) (sym (e.put.0 c.if-blocks-eq0.true)) (e.nothing.0 (ap Ok c.if-blocks-eq0.true)).1

pub returns-then-blocks-eq0-clause-no_more : goal.returns-then-blocks-eq0-clause-no_more
returns-then-blocks-eq0-clause-no_more g c = let e = c.in_ok-blocks.ensures in let before = c.steps.invariant.no_more in
    let l = ap (λ (m : Manager g.row.D.Denot). left (listed_in m.index.entries)) (e.put.0 c.if-blocks-eq0.true) in
    omega (arith, l, before)
