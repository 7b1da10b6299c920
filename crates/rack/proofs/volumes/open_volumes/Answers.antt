use Rattle.rack.proofs.Basics.{◌≡◌, ◌<◌, ◌+◌, ℕ, List, Option, None, Some, length, get_or, refl, sym, ap, ◌∙◌, subst, arith, length-map, get_or_default, slice_get-get_or}
use Rattle.rack.proofs.Terms.{BayState, shape_in, shapes_of, said_at, IsOpeningRack, HasBegun, AreRefusedBelow, HaveFaults, AreSameOut, Said, Rack}
use Rattle.manager.proofs.ReadThrough.{never_some}
use Rattle.rack_parts.proofs.LocksIssued.{on_err}
use Rattle.rack.proofs.OpeningSteps.{passed, whole, begun_passed, refused_passed, all_refused, failed_passed}
use Rattle.rack.proofs.volumes.open_volumes.Goals.{in-Some+in_ok-open_one, in_default}
use Rattle.rack.proofs.volumes.open_volumes.Goals as goal

-- an element that is None
said_none : (said : List (Option Said)) (k : ℕ) (x : Option Said) → k < length said → x ≡ get_or said k x → x ≡ None → said_at said k ≡ None
said_none said k x lt is none = get_or_default said k None x lt ∙ sym is ∙ none

pub open_one-requires-clause-within : goal.open_one-requires-clause-within
open_one-requires-clause-within g c =
    let long = length-map c.args.config.now.volumes.items (shape_in c.args.config.now) in
    omega (arith, c.loop-id-test.true, c.requires.count, long)

pub open_one-requires-clause-said : goal.open_one-requires-clause-said
open_one-requires-clause-said g c =
    let lt : c.loop-id.id < length c.args.said.now = omega (arith, c.loop-id-test.true) in
    (c.in-Some.own, slice_get-get_or c.args.said.now c.loop-id.id c.index-said-id.result lt ∙ ap Some (sym c.index-said-id.is ∙ c.in-Some.is), refl)

pub returns-in_err-open_one-clause-fresh : goal.returns-in_err-open_one-clause-fresh
returns-in_err-open_one-clause-fresh g c = let there = c.loop-id.invariant.there in (c.in_err-open_one.ensures.stopped there.0 there.1).fresh

pub returns-in_err-open_one-clause-stopped : goal.returns-in_err-open_one-clause-stopped
returns-in_err-open_one-clause-stopped g c = λ b o.
    let s = c.in_err-open_one.ensures.stopped b (c.loop-id.invariant.rack b o) in
    on_err c.from_residual.result _ (record { closable = s.closable; fresh = s.fresh; same_out = s.same_out ∙ c.loop-id.invariant.same_out })

pub loop-id-preserved : goal.loop-id-preserved
loop-id-preserved g c = elim c.match-own.branch [
  | in-Some+in_ok-open_one w ↦
      let inv = c.loop-id.invariant in
      let ok = w.in_ok-open_one.ensures in
      let is = sym w.rack-is in
      record {
        there = subst (λ (x : Rack g.row.D.Denot). (b : BayState) × IsOpeningRack g.D.Disk.state c.args.config.now b c.args.said.now (c.loop-id.id + 1) x) is (inv.there.0, ok.rack inv.there.0 inv.there.1);
        rack = λ b o. subst (λ (x : Rack g.row.D.Denot). IsOpeningRack g.D.Disk.state c.args.config.now b c.args.said.now (c.loop-id.id + 1) x) is (ok.rack b (inv.rack b o));
        keepers = ap (λ (x : Rack g.row.D.Denot). x.keepers) w.rack-is ∙ ok.keepers ∙ inv.keepers;
        same_out = subst (λ (x : Rack g.row.D.Denot). AreSameOut c.args.rack.now x) is (ok.same_out ∙ inv.same_out);
        begun = λ telling t h. subst (λ (x : Rack g.row.D.Denot). HasBegun g.D.Disk.state c.args.config.now t c.args.said.now (c.loop-id.id + 1) x) is (ok.begun telling t (inv.begun telling t h));
        refused = λ b b' premise first. subst (λ (x : Rack g.row.D.Denot). AreRefusedBelow g.D.Disk.tells g.D.Disk.state c.args.config.now b b' (c.loop-id.id + 1) x) is
            (ok.refused b b' (λ telling t is_t. inv.begun telling t (premise telling t is_t)) (inv.refused b b' premise first));
        failed = subst (λ (x : Rack g.row.D.Denot). HaveFaults g.D.Disk.state c.args.said.now (c.loop-id.id + 1) x) is (ok.failed inv.failed);
      }
  | in_default w ↦
      let inv = c.loop-id.invariant in
      let is = sym w.rack-is in
      let t = c.loop-id-test.true in
      let count = c.requires.count in
      let long = length-map c.args.config.now.volumes.items (shape_in c.args.config.now) in
      let within : c.loop-id.id < length (shapes_of c.args.config.now) = omega (arith, t, count, long) in
      let none : said_at c.args.said.now c.loop-id.id ≡ None = said_none c.args.said.now c.loop-id.id c.index-said-id.result (omega (arith, t)) c.index-said-id.is (never_some c.index-said-id.result w.in_default.not-Some) in
      record {
        there = subst (λ (x : Rack g.row.D.Denot). (b : BayState) × IsOpeningRack g.D.Disk.state c.args.config.now b c.args.said.now (c.loop-id.id + 1) x) is
            (inv.there.0, passed g.D.Disk.tells g.D.Disk.state c.args.config.now c.args.said.now c.loop-id.rack inv.there.0 c.loop-id.id inv.there.1 within none);
        rack = λ b o. subst (λ (x : Rack g.row.D.Denot). IsOpeningRack g.D.Disk.state c.args.config.now b c.args.said.now (c.loop-id.id + 1) x) is
            (passed g.D.Disk.tells g.D.Disk.state c.args.config.now c.args.said.now c.loop-id.rack b c.loop-id.id (inv.rack b o) within none);
        keepers = ap (λ (x : Rack g.row.D.Denot). x.keepers) w.rack-is ∙ inv.keepers;
        same_out = subst (λ (x : Rack g.row.D.Denot). AreSameOut c.args.rack.now x) is inv.same_out;
        begun = λ telling t' h. subst (λ (x : Rack g.row.D.Denot). HasBegun g.D.Disk.state c.args.config.now t' c.args.said.now (c.loop-id.id + 1) x) is
            (begun_passed g.D.Disk.tells g.D.Disk.state c.args.config.now c.args.said.now c.loop-id.rack t' c.loop-id.id (inv.begun telling t' h));
        refused = λ b b' premise first. subst (λ (x : Rack g.row.D.Denot). AreRefusedBelow g.D.Disk.tells g.D.Disk.state c.args.config.now b b' (c.loop-id.id + 1) x) is
            (refused_passed g.D.Disk.tells g.D.Disk.state c.args.config.now c.args.said.now c.loop-id.rack inv.there.0 c.loop-id.id inv.there.1 within none b b' (inv.refused b b' premise first));
        failed = subst (λ (x : Rack g.row.D.Denot). HaveFaults g.D.Disk.state c.args.said.now (c.loop-id.id + 1) x) is
            (failed_passed g.D.Disk.tells g.D.Disk.state c.args.config.now c.args.said.now c.loop-id.rack inv.there.0 c.loop-id.id inv.there.1 within none inv.failed);
      }
]

pub returns-clause-rack : goal.returns-clause-rack
returns-clause-rack g c = λ b o.
    let long = length-map c.args.config.now.volumes.items (shape_in c.args.config.now) in
    whole g.D.Disk.tells g.D.Disk.state c.args.config.now c.args.said.now c.loop-id.rack b c.loop-id.id (c.loop-id.invariant.rack b o) (omega (arith, c.loop-id-test.false, c.loop-id.auto.id-end, c.requires.count, long))

pub returns-clause-users : goal.returns-clause-users
returns-clause-users g c = c.loop-id.invariant.there.1.users

pub returns-clause-refused : goal.returns-clause-refused
returns-clause-refused g c = λ b b' premise first.
    let long = length-map c.args.config.now.volumes.items (shape_in c.args.config.now) in
    all_refused g.D.Disk.tells g.D.Disk.state c.args.config.now c.args.said.now c.loop-id.rack b b' c.loop-id.id (omega (arith, c.loop-id-test.false, c.loop-id.auto.id-end, c.requires.count, long, c.loop-id.invariant.there.1.tried.count)) (c.loop-id.invariant.refused b b' premise first)

pub returns-clause-failed : goal.returns-clause-failed
returns-clause-failed g c =
    subst (λ (n : ℕ). HaveFaults g.D.Disk.state c.args.said.now n c.loop-id.rack) (omega (arith, c.loop-id-test.false, c.loop-id.auto.id-end)) c.loop-id.invariant.failed
