use Rattle.std.proofs.Common.{◌≡◌, ◌+◌, List, length, take, drop, Option, IfSome, sym, ◌∙◌, ap, subst}
use Rattle.std.proofs.lemmas.Result.{on_ok_weaker}
use Rattle.wol_disk.specs.Disk.{Block, Values, only, reads}
use Rattle.wol_disk.proofs.Images.{reads_only}
use Rattle.wol_disk.proofs.Moments.{started}
use Rattle.wol_disk.proofs.Calls.{settled_only, read_goes_on}
use Rattle.wol_model.specs.Log.{IsLog}
use Rattle.spin_model.specs.Spun.{disk_of}
use Rattle.log_segment.proofs.Headed.{read_blocks}
use Rattle.log_segment.proofs.segment.Segment.read.Goals as goal

pub returns-clause-content : goal.returns-clause-content
returns-clause-content g c rs k r h at place fits =
    let n = length c.args.out.now in
    let from = c.args.pos + 1 + c.args.skip in
    on_ok_weaker c.read.result
    (λ i. let P : Option (List (Values Block)) → Type 0 = λ o. IfSome o (λ vs. c.read.new.out ≡ take n (drop from (reads vs))) in
    let told : c.read.new.out ≡ take n (drop from (reads (only h.disk.bs))) = subst P h.disk.settled i in
    told ∙ ap (λ (l : List Block). take n (drop from l)) (reads_only h.disk.bs) ∙ read_blocks c.args.self.now.owner rs k r h.disk.bs c.args.pos c.args.skip n h.disk.log at place fits)
    c.read.ensures.content

pub returns-clause-any_moment : goal.returns-clause-any_moment
returns-clause-any_moment g c rs h =
    let sound = g.met.D.Disk.sound (disk_of c.args.self.now.part) in
    let P : List Block → Type 0 = λ l. IsLog l c.args.self.now.owner rs in
    read_goes_on {P = P} (started sound (λ d i. subst P (sym (settled_only _ h.disk.bs d h.disk.settled i)) h.disk.log)) sound c.read.ensures.values c.read.ensures.passes
