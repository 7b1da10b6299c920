use Rattle.std.proofs.Common.{◌≡◌, ◌<◌, ℕ, Bool, cond, eqb, refl, sym, ◌∙◌, ap, subst, arith}
use Rattle.std.specs.Prelude.{slice_set}
use Rattle.std.proofs.lemmas.Bool.{ne_eqb}
use Rattle.wol_model.specs.Heads.{RecordHead}
use Rattle.wol_model.specs.Log.{Record}
use Rattle.spin_model.specs.Spun.{disk_of}
use Rattle.log_layout.specs.Values.{record_head}
use Rattle.log_segment.specs.Records.{trimmed}
use Rattle.log_segment.specs.Kept.{Keeps}
use Rattle.log_segment.proofs.Headed.{trimmed_is, end_stays, valid_trimmed}
use Rattle.log_segment.proofs.segment.Segment.trim.Goals as goal

pub returns-then-keep-eq0-clause-ok : goal.returns-then-keep-eq0-clause-ok
returns-then-keep-eq0-clause-ok g c rs k r h at place same =
    let new = g.D.Disk.state (disk_of c.store_head.new.part) in
    let is = trimmed_is c.args.keep c.args.self.now.owner (record_head c.args.head.now) r c.requires.owner same in
    let mask : c.args.keep < r.head.mask = subst (λ (n : ℕ). c.args.keep < n) (ap (λ (x : RecordHead). x.mask) same) c.requires.keep.fewer in
    let one : ◌≡◌ {A = ℕ} (cond (eqb c.args.keep 0) 1 0) 1 = rw c.if-keep-eq0.true refl in
    record {
      disk = subst (λ (s : Record). Keeps new c.args.self.now.owner (slice_set rs k s)) is (c.in-Ok.ensures.ok rs k r h.disk at place (ap (λ (x : RecordHead). x.count) same));
      place = h.place ∙ sym (end_stays rs k r (trimmed c.args.keep r).head at);
      valid = omega (arith, h.valid, one, valid_trimmed rs k r c.args.keep at mask, c.saturating_sub-self.ensures);
    }

pub returns-else-keep-eq0-clause-ok : goal.returns-else-keep-eq0-clause-ok
returns-else-keep-eq0-clause-ok g c rs k r h at place same =
    let new = g.D.Disk.state (disk_of c.store_head.new.part) in
    let is = trimmed_is c.args.keep c.args.self.now.owner (record_head c.args.head.now) r c.requires.owner same in
    let mask : c.args.keep < r.head.mask = subst (λ (n : ℕ). c.args.keep < n) (ap (λ (x : RecordHead). x.mask) same) c.requires.keep.fewer in
    let none : ◌≡◌ {A = ℕ} (cond (eqb c.args.keep 0) 1 0) 0 = ap (λ (b : Bool). cond b 1 0) (ne_eqb c.args.keep 0 c.if-keep-eq0.false) in
    record {
      disk = subst (λ (s : Record). Keeps new c.args.self.now.owner (slice_set rs k s)) is (c.in-Ok.ensures.ok rs k r h.disk at place (ap (λ (x : RecordHead). x.count) same));
      place = h.place ∙ sym (end_stays rs k r (trimmed c.args.keep r).head at);
      valid = omega (arith, h.valid, none, valid_trimmed rs k r c.args.keep at mask);
    }
