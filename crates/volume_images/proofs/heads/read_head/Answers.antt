use Rattle.std.proofs.Common.{[], ◌∷◌, ◌∙◌, get_or, arith}
use Rattle.wol_disk.specs.Disk.{reads}
use Rattle.log_layout.specs.Values.{segment_head}
use Rattle.spin_model.specs.Spun.{disk_of}
use Rattle.volume_images.proofs.OnlyRead.{always_head, synced_only, read_only, same_head, same_headless, first_read}
use Rattle.volume_images.proofs.heads.read_head.Goals as goal

pub returns-in_err-read-clause-read : goal.returns-in_err-read-clause-read
returns-in_err-read-clause-read g c = read_only (synced_only c.sync.result (g.met.D.Disk.sound (disk_of c.args.part.now)) c.sync.ensures.ok c.sync.ensures.err c.sync.ensures.passes) (g.met.D.Disk.sound (disk_of c.sync.new.self)) c.read.ensures.values c.read.ensures.passes

pub returns-in-Some-clause-read : goal.returns-in-Some-clause-read
returns-in-Some-clause-read g c = read_only (synced_only c.sync.result (g.met.D.Disk.sound (disk_of c.args.part.now)) c.sync.ensures.ok c.sync.ensures.err c.sync.ensures.passes) (g.met.D.Disk.sound (disk_of c.sync.new.self)) c.read.ensures.values c.read.ensures.passes

pub returns-in-None-clause-read : goal.returns-in-None-clause-read
returns-in-None-clause-read g c = read_only (synced_only c.sync.result (g.met.D.Disk.sound (disk_of c.args.part.now)) c.sync.ensures.ok c.sync.ensures.err c.sync.ensures.passes) (g.met.D.Disk.sound (disk_of c.sync.new.self)) c.read.ensures.values c.read.ensures.passes

pub returns-in-Some-clause-content : goal.returns-in-Some-clause-content
returns-in-Some-clause-content g c = λ vs e.
    let old = g.D.Disk.state (disk_of c.args.part.now) in
    let size = (g.met.D.Disk.sound (disk_of c.args.part.now)).each_block vs e in
    same_head c.args.volumes (get_or c.read.new.out 0 [] ∷ []) (reads vs) (segment_head c.in-Some.head)
    (first_read old.values (g.D.Disk.state (disk_of c.sync.new.self)).values vs c.read.new.out (omega (arith, size, c.requires.size)) e c.in_ok-sync.ensures.ok c.in_ok-read.ensures.content) c.in-Some.ensures.found

pub returns-in-Some-clause-always : goal.returns-in-Some-clause-always
returns-in-Some-clause-always g c =
    let old = g.D.Disk.state (disk_of c.args.part.now) in
    always_head c.args.volumes old.values (g.D.Disk.state (disk_of c.read.new.self)).values (segment_head c.in-Some.head) (c.read.ensures.values ∙ c.in_ok-sync.ensures.ok)
    (λ vs e.
    let size = (g.met.D.Disk.sound (disk_of c.args.part.now)).each_block vs e in
    same_head c.args.volumes (get_or c.read.new.out 0 [] ∷ []) (reads vs) (segment_head c.in-Some.head)
    (first_read old.values (g.D.Disk.state (disk_of c.sync.new.self)).values vs c.read.new.out (omega (arith, size, c.requires.size)) e c.in_ok-sync.ensures.ok c.in_ok-read.ensures.content) c.in-Some.ensures.found)

pub returns-in-None-clause-damaged : goal.returns-in-None-clause-damaged
returns-in-None-clause-damaged g c = λ vs e is.
    let old = g.D.Disk.state (disk_of c.args.part.now) in
    let size = (g.met.D.Disk.sound (disk_of c.args.part.now)).each_block vs e in
    same_headless c.args.volumes (get_or c.read.new.out 0 [] ∷ []) (reads vs)
    (first_read old.values (g.D.Disk.state (disk_of c.sync.new.self)).values vs c.read.new.out (omega (arith, size, c.requires.size)) e c.in_ok-sync.ensures.ok c.in_ok-read.ensures.content) c.in-None.ensures.none
