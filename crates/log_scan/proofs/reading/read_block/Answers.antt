use Rattle.std.proofs.Common.{◌≡◌, List, length, take, drop, Option, IfSome, sym, ◌∙◌, ap, subst, arith}
use Rattle.wol_disk.specs.Disk.{Block, Values, only, reads}
use Rattle.wol_disk.specs.RecordSound.{length-only}
use Rattle.wol_disk.proofs.Images.{reads_only}
use Rattle.spin_model.specs.Spun.{disk_of}
use Rattle.log_scan.proofs.Blocks.{stands_read}
use Rattle.log_scan.proofs.reading.read_block.Goals as goal

pub returns-clause-block : goal.returns-clause-block
returns-clause-block g c bs is =
    let P : Option (List (Values Block)) → Type 0 = λ o. IfSome o (λ vs. c.read.new.out ≡ take 1 (drop c.args.at (reads vs))) in
    let told : c.read.new.out ≡ take 1 (drop c.args.at (reads (only bs))) = subst P is c.in_ok-read.ensures.content in
    let out : c.read.new.out ≡ take 1 (drop c.args.at bs) = told ∙ ap (λ (l : List Block). take 1 (drop c.args.at l)) (reads_only bs) in
    let size : length bs ≡ _ = sym (length-only bs) ∙ (g.met.D.Disk.sound (disk_of c.args.part.now)).each_block (only bs) is in
    stands_read bs c.args.at c.read.new.out (omega (arith, size, c.requires.inside)) out
