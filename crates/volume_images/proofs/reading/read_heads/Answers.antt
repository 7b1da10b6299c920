use Rattle.std.proofs.Common.{◌≡◌, ◌+◌, length, set, Err, refl, sym, ap, ◌∙◌, subst, arith}
use Rattle.spin_model.specs.Spun.{state_of}
use Rattle.volume_images.specs.Heads.{SayHeads, AlwaysSay}
use Rattle.volume_images.proofs.HeadSteps.{always_none, always_more, not_both, all_same, say_none, at_hand, read_more, calm_more, rest_more, say_more}
use Rattle.volume_images.proofs.reading.read_heads.Goals as goal

pub loop-index-init : goal.loop-index-init
loop-index-init g c = record {
  heads = say_none g.D.Disk.state c.args.volumes c.args.segments.now c.args.heads.now.items c.requires.empty;
  room = c.requires.room;
  always = always_none g.D.Disk.state c.args.volumes c.args.segments.now c.args.heads.now.items c.requires.empty;
  read = all_same g.D.Disk.state g.met.D.Disk.sound c.args.segments.now;
  calm = λ k d lt. refl;
  rest = λ k d le. refl;
}

pub loop-index-preserved : goal.loop-index-preserved
loop-index-preserved g c =
    let state = g.D.Disk.state in
    let xs = c.args.segments.now in
    let ys = c.loop-index.segments in
    let i = c.loop-index.index in
    let p = c.read_head.new.part in
    let r = c.index-segments-index.result in
    let inv = c.loop-index.invariant in
    record {
      heads = subst (λ hs. SayHeads state c.args.volumes xs (i + 1) hs) (sym c.push_reserved.ensures.items) (say_more state xs ys i p r (omega arith) inv.read.count inv.rest c.args.volumes c.loop-index.heads.items c.in-Ok.head inv.heads c.in-Ok.ensures.content c.in-Ok.ensures.configured);
      always = subst (λ hs. AlwaysSay state c.args.volumes (set ys i p) hs) (sym c.push_reserved.ensures.items) (always_more state xs ys i p r (omega arith) inv.read.count inv.rest c.args.volumes c.loop-index.heads.items c.in-Ok.head inv.heads.count inv.always c.in-Ok.ensures.always);
      room = omega (arith, c.push_reserved.ensures.capacity, inv.room);
      read = read_more state xs ys i p r (omega arith) inv.read.count inv.rest inv.read c.in-Ok.ensures.read c.in-Ok.ensures.volume;
      calm = calm_more state xs ys i p r (omega arith) inv.read.count inv.rest inv.calm (c.in-Ok.ensures.calm (λ e. cc e));
      rest = rest_more state xs ys i p r (omega arith) inv.read.count inv.rest;
    }

pub returns-in-Err-Damaged-clause-damaged : goal.returns-in-Err-Damaged-clause-damaged
returns-in-Err-Damaged-clause-damaged g c = λ block e.
    let state = g.D.Disk.state in
    let xs = c.args.segments.now in
    let ys = c.loop-index.segments in
    let i = c.loop-index.index in
    let r = c.index-segments-index.result in
    let inv = c.loop-index.invariant in
    let same : block ≡ c.head_place-block.result = cc in
    record {
      index = i;
      within = omega arith;
      place = same ∙ c.head_place-block.ensures;
      heads = c.loop-index.heads.items;
      before = inv.heads;
      headless = λ d vs told. c.read_head.ensures.damaged vs (ap (λ q. (state_of state q).values) (at_hand state xs ys i r r (omega arith) inv.read.count inv.rest d) ∙ told) (c.in-Err-Damaged.is ∙ ap Err c.in-Err-Damaged.field-0-is);
    }

pub returns-in-Err-Damaged-clause-calm : goal.returns-in-Err-Damaged-clause-calm
returns-in-Err-Damaged-clause-calm g c = λ none.
    let inv = c.loop-index.invariant in
    calm_more g.D.Disk.state c.args.segments.now c.loop-index.segments c.loop-index.index c.read_head.new.part c.index-segments-index.result (omega arith) inv.read.count inv.rest inv.calm (c.read_head.ensures.calm (λ e. not_both c.read_head.result (c.in-Err-Damaged.is ∙ ap Err c.in-Err-Damaged.field-0-is) e))

pub returns-in-Err-Damaged-clause-read : goal.returns-in-Err-Damaged-clause-read
returns-in-Err-Damaged-clause-read g c =
    let inv = c.loop-index.invariant in
    read_more g.D.Disk.state c.args.segments.now c.loop-index.segments c.loop-index.index c.read_head.new.part c.index-segments-index.result (omega arith) inv.read.count inv.rest inv.read c.read_head.ensures.read c.read_head.ensures.volume

pub returns-in-Err-Failed-clause-calm : goal.returns-in-Err-Failed-clause-calm
returns-in-Err-Failed-clause-calm g c = λ none. absurd (none c.loop-index.index refl)

pub returns-in-Err-Failed-clause-read : goal.returns-in-Err-Failed-clause-read
returns-in-Err-Failed-clause-read g c =
    let inv = c.loop-index.invariant in
    read_more g.D.Disk.state c.args.segments.now c.loop-index.segments c.loop-index.index c.read_head.new.part c.index-segments-index.result (omega arith) inv.read.count inv.rest inv.read c.read_head.ensures.read c.read_head.ensures.volume

pub returns-clause-ok : goal.returns-clause-ok
returns-clause-ok g c =
    let e : c.loop-index.index ≡ length c.args.segments.now = omega arith in
    subst (λ n. SayHeads g.D.Disk.state c.args.volumes c.args.segments.now n c.loop-index.heads.items) e c.loop-index.invariant.heads

pub returns-in-Err-Failed-clause-before : goal.returns-in-Err-Failed-clause-before
returns-in-Err-Failed-clause-before g c = λ index e.
    let same : c.loop-index.index ≡ index = cc in
    (c.loop-index.heads.items, subst (λ n. SayHeads g.D.Disk.state c.args.volumes c.args.segments.now n c.loop-index.heads.items) same c.loop-index.invariant.heads)
