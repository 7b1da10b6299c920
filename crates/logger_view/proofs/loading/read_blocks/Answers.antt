use Rattle.std.proofs.Common.{◌≡◌, List, length, take, drop, Option, option_map, IfSome, ◌∙◌, ap, subst}
use Rattle.std.proofs.lemmas.List.{length-map}
use Rattle.wol_disk.specs.Disk.{Block, Values, LeavesOnly, IsImageOf, settled, reads}
use Rattle.wol_disk.proofs.Moments.{started}
use Rattle.wol_disk.proofs.Calls.{sync_goes_on, read_goes_on}
use Rattle.spin_model.specs.Spun.{disk_of}
use Rattle.logger_view.proofs.Faults.{all_read}
use Rattle.logger_view.proofs.loading.read_blocks.Goals as goal

pub returns-in_err-read-clause-any_moment : goal.returns-in_err-read-clause-any_moment
returns-in_err-read-clause-any_moment g c =
    let sound = g.met.D.Disk.sound in
    let was = g.D.Disk.state (disk_of c.args.part.now) in
    let begun : LeavesOnly was was (IsImageOf was.values) = started (sound (disk_of c.args.part.now)) (λ d i. i) in
    let synced = sync_goes_on c.sync.result begun (sound (disk_of c.args.part.now)) c.sync.ensures.ok c.sync.ensures.err c.sync.ensures.passes in
    read_goes_on synced (sound (disk_of c.sync.new.self)) c.read.ensures.values c.read.ensures.passes

pub returns-clause-content : goal.returns-clause-content
returns-clause-content g c vs is =
    let P : Option (List (Values Block)) → Type 0 = λ o. IfSome o (λ ws. c.read.new.out ≡ take 2 (drop 0 (reads ws))) in
    let told : c.read.new.out ≡ take 2 (drop 0 (reads (settled vs))) = subst P (c.in_ok-sync.ensures.ok ∙ ap (option_map settled) is) c.in_ok-read.ensures.content in
    let size : length (reads vs) ≡ 2 = length-map vs (λ (v : Values Block). v.now) ∙ (g.met.D.Disk.sound (disk_of c.args.part.now)).each_block vs is ∙ c.requires.size in
    all_read vs c.read.new.out 2 size told

pub returns-clause-any_moment : goal.returns-clause-any_moment
returns-clause-any_moment g c =
    let sound = g.met.D.Disk.sound in
    let was = g.D.Disk.state (disk_of c.args.part.now) in
    let begun : LeavesOnly was was (IsImageOf was.values) = started (sound (disk_of c.args.part.now)) (λ d i. i) in
    let synced = sync_goes_on c.sync.result begun (sound (disk_of c.args.part.now)) c.sync.ensures.ok c.sync.ensures.err c.sync.ensures.passes in
    read_goes_on synced (sound (disk_of c.sync.new.self)) c.read.ensures.values c.read.ensures.passes
