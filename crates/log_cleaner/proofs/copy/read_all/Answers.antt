use Rattle.std.proofs.Common.{◌≡◌, ◌<◌, ◌+◌, ◌-◌, ℕ, length, get_or, true, Err, refl, sym, ap, subst, ◌∙◌, arith}
use borrow.Rule.Slice.PartMut.{put_mid}
use Rattle.spin_model.specs.Spun.{state_of}
use Rattle.log_segment.specs.declared.item.Item.{Item}
use Rattle.wol_promise.specs.Policy.{woken}
use Rattle.manager.specs.Reading.{NeedsSources}
use Rattle.manager.specs.Seen.{look_of_manager}
use Rattle.log_cleaner.specs.Chunks.{is_within}
use Rattle.log_cleaner.specs.Cleans.{covered_in}
use Rattle.log_cleaner.specs.Steps.{ReadsAll}
use Rattle.log_cleaner.specs.declared.answer.CleanFault.{CleanFault}
use Rattle.log_cleaner.proofs.Copying.{read_content}
use Rattle.log_cleaner.proofs.Reading.{fits_behind, item_at, read_more, read_none, read_whole}
use Rattle.log_cleaner.proofs.Rewriting.{read_copied, read_ends}
use Rattle.log_cleaner.proofs.copy.read_all.Goals as goal

pub loop-chunk-init : goal.loop-chunk-init
loop-chunk-init g c = record {
  ready = c.requires.ready;
  at = c.requires.at;
  read = read_none g.D.Disk.tells g.D.Disk.state c.args.m.now c.requires.can c.args.chunks.now c.args.room.now;
}

pub read-requires : goal.read-requires
read-requires g c =
    let state = g.D.Disk.state in let old = c.args.m.now in let i = c.loop-chunk.invariant in let read = i.read in
    let f = fits_behind old.most (state_of state old.home).size c.args.chunks.now c.loop-chunk.chunk-index (record { lbn = 0; count = 0 }) c.loop-chunk.room c.loop-chunk.blocks c.requires.chunks c.loop-chunk-test.true read.count
    (let l = c.loop-chunk.auto.room in omega (arith, l, c.requires.room)) in
    let size = read.size in let most = read.copied.goes_on.same.most in
    record { ready = i.ready; at = i.at; count = (omega (arith, f.long, f.is_item.some), omega (arith, f.long, f.is_item.few, most)); fits = omega (arith, f.long, f.is_item.within, size) }

pub loop-chunk-preserved : goal.loop-chunk-preserved
loop-chunk-preserved g c =
    let tells = g.D.Disk.tells in let state = g.D.Disk.state in let old = c.args.m.now in let mid = c.loop-chunk.m in let chunks = c.args.chunks.now in let place = c.loop-chunk.chunk-index in let other : Item = record { lbn = 0; count = 0 } in
    let chunk : Item = get_or chunks place other in let read = c.loop-chunk.invariant.read in let lt : place < length chunks = c.loop-chunk-test.true in
    let f = fits_behind old.most (state_of state old.home).size chunks place other c.loop-chunk.room c.loop-chunk.blocks c.requires.chunks lt read.count (let l = c.loop-chunk.auto.room in omega (arith, l, c.requires.room)) in
    let new = c.read.new.self in let out = c.read.new.out in let e = c.in-Ok.ensures in
    let out_long : length out ≡ chunk.count = c.read.auto.out ∙ f.long in
    let covered : (b : ℕ) → is_within chunk.lbn chunk.count b ≡ true → covered_in mid b ≡ true = λ b is. read.copied.goes_on.covered b ∙ item_at (λ (i : Item). (b : ℕ) → is_within i.lbn i.count b ≡ true → covered_in old b ≡ true) chunks place other c.requires.covered lt b is in
    record {
      ready = e.ready;
      at = e.at;
      read = read_more tells state old c.requires.can mid new chunks place other c.loop-chunk.room out c.loop-chunk.blocks (c.loop-chunk.blocks + chunk.count) lt read refl f.fits out_long
          (read_copied tells state mid new read.copied.goes_on.can e.read chunk.lbn chunk.count out e.up (subst (λ (n : ℕ). look_of_manager new ≡ woken (look_of_manager mid) chunk.lbn n) f.long e.look) covered (subst (NeedsSources mid new chunk.lbn) f.long e.needs_all) e.calm e.stands e.any_moment)
          (ap (λ i. i.entries) e.read.index) e.read.home.size (read_content tells state mid new chunk.lbn out e.stands);
    }

pub returns-in-Err-clause-read : goal.returns-in-Err-clause-read
returns-in-Err-clause-read g c =
    let tells = g.D.Disk.tells in let state = g.D.Disk.state in let e = c.in-Err.ensures in let other : Item = record { lbn = 0; count = 0 } in let chunk : Item = get_or c.args.chunks.now c.loop-chunk.chunk-index other in let at = c.loop-chunk.blocks in
    let room = put_mid at (at + chunk.count - at) c.loop-chunk.room c.read.new.out in
    subst (λ (f : CleanFault). ReadsAll tells state c.args.chunks.now c.args.m.now c.read.new.self room (Err f)) (sym c.read_fault.ensures)
    (read_ends tells state c.args.m.now c.loop-chunk.m c.read.new.self c.requires.can c.loop-chunk.invariant.read.copied e.read chunk.lbn c.read.new.out room c.args.chunks.now c.in-Err.refusal e.cause (λ p is. (e.down p).0 is) e.stands e.any_moment)

pub returns-clause-read : goal.returns-clause-read
returns-clause-read g c = read_whole g.D.Disk.tells g.D.Disk.state c.args.m.now c.requires.can c.loop-chunk.m c.args.chunks.now c.loop-chunk.chunk-index c.loop-chunk.room c.loop-chunk.blocks c.loop-chunk-test.false c.loop-chunk.invariant.read
