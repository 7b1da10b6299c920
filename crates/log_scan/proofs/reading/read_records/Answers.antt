use Rattle.std.proofs.Common.{◌≡◌, ℕ, ◌+◌, ◌≤◌, List, ◌++◌, [], ◌∷◌, length, sym, ◌∙◌, ap, subst, arith, refl, Err, Option, MatchOption}
use Rattle.std.specs.Prelude.{⊤}
use Rattle.std.specs.List.{AllByRecursion}
use Rattle.wol_disk.specs.Disk.{only}
use Rattle.wol_disk.specs.RecordSound.{length-only}
use Rattle.wol_model.specs.Heads.{IsRecordHead}
use Rattle.spin_model.specs.Spun.{disk_of}
use Rattle.log_layout.specs.declared.record.RecHead.{RecHead}
use Rattle.log_layout.specs.Values.{record_head}
use Rattle.log_scan.specs.declared.Found.{Found}
use Rattle.log_scan.specs.declared.ScanFault.TheVariants.{Damaged}
use Rattle.log_scan.specs.Scan.{IsFaultAt, IsInside}
use Rattle.log_scan.specs.Reading.{IsGateAt, IsHeadAt, IsReading}
use Rattle.log_scan.proofs.Blocks.{still_more}
use Rattle.log_scan.proofs.ReadAhead.{still_ahead}
use Rattle.log_scan.proofs.Placed.{are_found, all_push}
use Rattle.log_scan.proofs.Walk.{one_more, end_ends, gate_ends}
use Rattle.log_scan.proofs.reading.read_records.Goals as goal

pub returns-in-Err-clause-damaged : goal.returns-in-Err-clause-damaged
returns-in-Err-clause-damaged g c bs block is start e =
    let i = c.loop-at.invariant in
    let f : c.in-Err.fault ≡ Damaged block = cc in
    let d = c.in-Err.ensures.damaged bs block (i.values ∙ is) (ap Err f) in
    let P : ℕ → Type 0 = λ n. IsFaultAt bs c.args.owner n in
    let Q : ℕ → Type 0 = λ n. IsReading bs c.args.owner n c.loop-at.records.items in
    (subst P (sym d.0) d.1, (c.loop-at.records.items, subst Q (sym d.0) (i.reading bs is start)))

pub returns-in-None-clause-found : goal.returns-in-None-clause-found
returns-in-None-clause-found g c bs is start =
    let i = c.loop-at.invariant in
    let r = i.reading bs is start in
    let P : Option RecHead → Type 0 = λ o. MatchOption o (IsGateAt bs c.loop-at.at) (λ h. IsHeadAt bs c.args.owner c.loop-at.at (record_head h)) in
    let gate : IsGateAt bs c.loop-at.at = subst P c.in-None.is (c.in-Ok.ensures.found bs (i.values ∙ is)) in
    (r.rs, gate_ends bs c.args.owner c.loop-at.at c.loop-at.records.items r gate, are_found r.rs c.loop-at.records.items r.placed, r.place)

pub loop-at-preserved : goal.loop-at-preserved
loop-at-preserved g c =
    let i = c.loop-at.invariant in
    let at = c.loop-at.at in
    let new : Found = record { pos = at; head = c.in-Some.head } in
    let S : Option RecHead → Type 0 = λ o. MatchOption o ⊤ (λ h. IsRecordHead (record_head h) × (h.owner ≡ c.args.owner) × (at + 1 + h.count ≤ c.args.blocks)) in
    let shape : IsRecordHead (record_head c.in-Some.head) × (c.in-Some.head.owner ≡ c.args.owner) × (at + 1 + c.in-Some.head.count ≤ c.args.blocks) = subst S c.in-Some.is c.in-Ok.ensures.shape in
    let items : c.push.new.self.items ≡ c.loop-at.records.items ++ new ∷ [] = c.in-Ok-push.ensures.items in
    record {
      inside = (omega arith, shape.2);
      few = omega (arith, i.few, c.in-Ok-push.ensures.len, shape.0.count.0);
      heads = subst (λ (l : List Found). AllByRecursion (IsInside c.args.blocks c.args.owner) l) (sym items)
          (all_push (IsInside c.args.blocks c.args.owner) c.loop-at.records.items new i.heads (record { behind = i.inside.0; in_range = shape.0; owned = shape.1; fits = shape.2 }));
      volume = c.next_head.ensures.kept.volume ∙ i.volume;
      size = c.next_head.ensures.kept.size ∙ i.size;
      calm = c.in-Ok.ensures.kept.calm ∙ i.calm;
      values = c.next_head.ensures.kept.values ∙ i.values;
      moments = still_more i.moments i.values c.next_head.ensures.kept.any_moment;
      few_ahead = c.next_head.ensures.few;
      room = c.next_head.ensures.room;
      ahead = still_ahead _ _ _ c.next_head.ensures.kept.values c.next_head.ensures.ahead;
      reading = λ bs is start.
          let P : Option RecHead → Type 0 = λ o. MatchOption o (IsGateAt bs at) (λ h. IsHeadAt bs c.args.owner at (record_head h)) in
          let there : IsHeadAt bs c.args.owner at (record_head c.in-Some.head) = subst P c.in-Some.is (c.in-Ok.ensures.found bs (i.values ∙ is)) in
          subst (λ (l : List Found). IsReading bs c.args.owner (at + 1 + c.in-Some.head.count) l) (sym items) (one_more bs c.args.owner at c.loop-at.records.items new (i.reading bs is start) there refl);
    }

pub returns-clause-found : goal.returns-clause-found
returns-clause-found g c bs is start =
    let i = c.loop-at.invariant in
    let r = i.reading bs is start in
    let size : length bs ≡ c.args.blocks = sym (length-only bs) ∙ (g.met.D.Disk.sound (disk_of c.args.part.now)).each_block (only bs) is ∙ c.requires.size in
    (r.rs, end_ends bs c.args.owner c.loop-at.at c.loop-at.records.items r (omega (arith, size, c.loop-at-test.false)), are_found r.rs c.loop-at.records.items r.placed, r.place)
