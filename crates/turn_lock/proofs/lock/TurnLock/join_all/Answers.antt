use Rattle.std.proofs.Common.{rules, ◌++◌, ◌∷◌, [], List, Some, ap, ◌∙◌, sym, refl, append_assoc, append-nil, arith}
use Rattle.std.proofs.lemmas.List.Elements.{All-pop}
use Rattle.turn_lock.specs.Views.{claims_of, claim_of}
use Rattle.turn_lock.specs.declared.pass.PassOf.{PassOf}
use Rattle.turn_lock.specs.declared.view.Claim.{Claim}
use Rattle.turn_lock.specs.Passes.{IsPassOf, claims_back, pass_claim, pass_lock, pass_number, pass_seen, pass_mine, IsFree, lock_id, lock_passes}
use Rattle.turn_lock.proofs.PassSteps.{joins, took_in}
use Rattle.turn_lock.proofs.lock.TurnLock.join_all.Goals as goal

pub join_seat-requires : goal.join_seat-requires
unfolding pass_lock pass_number pass_seen pass_mine lock_id lock_passes
join_seat-requires g c =
    let q = c.loop-pass.invariant.1 in
    let h = All-pop (λ (z : PassOf g.row.T.Denot g.row.T-Base.Denot). IsPassOf c.args.self.now z × IsFree z) _ _ (Some c.in-Some.pass) c.in-Some.ensures.items q.passes in
    let s = c.into_seat.ensures in
    (search rules, ap (λ z. z.table_id) s ∙ ap (λ z. z.table) h.1.0, ap (λ z. z.me.1) s ∙ h.1.1.1, search rules, joins g.T.Object.stands _ _ _ _ _ _ q.free (ap (λ z. z.me.0.stage) s ∙ h.1.1.0))

pub loop-pass-init : goal.loop-pass-init
unfolding pass_lock pass_number pass_seen pass_mine lock_id lock_passes
loop-pass-init g c = (
  [],
  record {
    table = refl;
    free = c.requires.seat.0.free;
    empty = c.requires.seat.1;
    parts = c.requires.seat.0.one;
    claims = λ i. claim_of c.args.seat.now.me.0 ∷ sym (append-nil c.args.seat.now.me.0.took) i;
    whole = sym (append-nil c.args.passes.items);
    passes = c.requires.passes;
  },
)

pub loop-pass-preserved : goal.loop-pass-preserved
unfolding pass_lock pass_number pass_seen pass_mine lock_id lock_passes
loop-pass-preserved g c =
    let q = c.loop-pass.invariant.1 in let popped = c.loop-pass.invariant.0 in let p = c.in-Some.pass in let s = c.into_seat.ensures in
    let h = All-pop (λ (z : PassOf g.row.T.Denot g.row.T-Base.Denot). IsPassOf c.args.self.now z × IsFree z) _ _ (Some p) c.in-Some.ensures.items q.passes in
    let t = took_in c.loop-pass.seat.me c.join_seat.new.seat.me c.into_seat.result.me.0 q.free q.empty (ap (λ z. z.me.0.parts) s ∙ p.alone.0) (ap (λ z. z.me.0.took) s ∙ p.alone.1) c.join_seat.ensures.2 in (
      p ∷ popped,
      record {
        table = search rules;
        free = t.0;
        empty = t.1;
        parts = (let more = t.2 in let before = q.parts in omega arith);
        claims = t.3 ∙ (ap (λ z. claims_of c.loop-pass.seat.me.0 ++ claim_of z.me.0 ∷ []) s ∙ (ap (λ (l : List Claim). l ++ pass_claim p ∷ []) q.claims ∙ append_assoc (claims_of c.args.seat.now.me.0) (claims_back popped) (pass_claim p ∷ [])));
        whole = q.whole ∙ (ap (λ l. l ++ popped) c.in-Some.ensures.items ∙ append_assoc c.pop.new.self.items (p ∷ []) popped);
        passes = h.0;
      },
    )
