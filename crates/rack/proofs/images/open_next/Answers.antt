use Rattle.rack.proofs.Basics.{◌≡◌, ◌<◌, ℕ, false, length, option_map, Some, IfSome, sym, ap, ◌∙◌, subst, arith, length-map, slice_get-get_or, get_or_from_slice_get, slice_get}
use Rattle.rack.proofs.Terms.{Shape, Name, IsHome, sent_out, blocks_at, VolumeConf, shape_of, part_sizes, IsTold, IsCutOpenable, SaysSo, shape_in, shapes_of, pass_lock, pass_mine, IsPassOf}
use Rattle.rack.proofs.Terms.{IsFree, PassOf, Spindle, SpindleBase, has_token}
use Rattle.volume_images.specs.Refusals.{Refuses}
use Rattle.rack.proofs.ImagesSent.{sized, next_rest, next_all, next_says, next_heads, next_entry, next_refuses, next_stayed, back_at_once, used_pass}
use Rattle.rack.proofs.images.open_next.Goals as goal

pub open_image-requires-clause-home : goal.open_image-requires-clause-home
open_image-requires-clause-home g c =
    let v = c.index-volume.result.now in
    let found : slice_get c.args.config.now.volumes.items c.args.id ≡ Some v = slice_get-get_or c.args.config.now.volumes.items c.args.id v c.requires.within ∙ ap (λ (u : VolumeConf). Some u) (sym c.index-volume.ensures) in
    subst (λ (x : Name). IsHome x (g.B.Bay.state c.args.bay.now)) (sym c.as_str-name.ensures) (c.requires.home v found)

pub open_image-requires-clause-own : goal.open_image-requires-clause-own
open_image-requires-clause-own g c =
    let lt : c.args.id < length c.args.spindle.now.passes.items = let n = c.requires.within in let p = c.requires.passes.0.whole.count in let s = c.requires.spindle.passes in omega (arith, n, p, s) in
    subst (IsPassOf c.args.spindle.now.lock) (sym c.index_mut-pass.ensures.value) (c.requires.passes.0.whole.each c.args.id c.index_mut-pass.result.now lt).0

pub open_image-requires-clause-free : goal.open_image-requires-clause-free
open_image-requires-clause-free g c =
    let lt : c.args.id < length c.args.spindle.now.passes.items = let n = c.requires.within in let p = c.requires.passes.0.whole.count in let s = c.requires.spindle.passes in omega (arith, n, p, s) in
    subst (λ (x : PassOf Spindle SpindleBase). IsFree x) (sym c.index_mut-pass.ensures.value) (c.requires.passes.0.whole.each c.args.id c.index_mut-pass.result.now lt).1

pub open_image-requires-clause-settled : goal.open_image-requires-clause-settled
open_image-requires-clause-settled g c =
    let lt : c.args.id < length c.args.spindle.now.passes.items = let n = c.requires.within in let p = c.requires.passes.0.whole.count in let s = c.requires.spindle.passes in omega (arith, n, p, s) in
    subst (λ (x : PassOf Spindle SpindleBase). has_token (pass_mine x) ≡ false) (sym c.index_mut-pass.ensures.value) (c.requires.passes.1.settled c.args.id c.index_mut-pass.result.now lt)

pub open_image-requires-clause-volume : goal.open_image-requires-clause-volume
open_image-requires-clause-volume g c =
    let lt : c.args.id < length c.args.spindle.now.passes.items = let n = c.requires.within in let p = c.requires.passes.0.whole.count in let s = c.requires.spindle.passes in omega (arith, n, p, s) in
    ap (λ (x : PassOf Spindle SpindleBase). (pass_lock x).base.volume) c.index_mut-pass.ensures.value ∙ ap (λ i. i.base.volume) (c.requires.passes.0.whole.each c.args.id c.index_mut-pass.result.now lt).0 ∙ c.requires.spindle.volume ∙ sym c.label_of-want.ensures.id

pub lay_out-requires-clause-room : goal.lay_out-requires-clause-room
lay_out-requires-clause-room g c =
    let are = sized g.B.Part.Disk.state g.met.B.Part.Disk.sound c.len-count.result c.label_of-want.result.id (shape_of c.label_of-want.result) (blocks_at c.as_str-name.result.now (g.B.Bay.state c.args.bay.now).told) c.in-Ok-open_image.image c.in-Ok-open_image.ensures.out in
    let shape : shape_of c.label_of-want.result ≡ shape_in c.args.config.now c.index-volume.result.now = c.label_of-want.ensures.shape c.index-volume.result.now ∙ ap (λ (w : VolumeConf). shape_in c.args.config.now w) (sym c.index-volume.ensures) in
    let segments : (shape_of c.label_of-want.result).segments ≡ c.index-volume.result.now.segments = ap (λ (s : Shape). s.segments) shape in
    omega (arith, are.count, segments, c.in-Ok.ensures.capacity)

pub returns-in-Ok-open_image-clause-opened : goal.returns-in-Ok-open_image-clause-opened
returns-in-Ok-open_image-clause-opened g c = λ v found.
    let told = (g.B.Bay.state c.args.bay.now).told in
    let same : c.index-volume.result.now ≡ v = c.index-volume.ensures ∙ get_or_from_slice_get c.args.config.now.volumes.items c.args.id v c.index-volume.result.now found in
    let shape : shape_of c.label_of-want.result ≡ shape_in c.args.config.now v = c.label_of-want.ensures.shape v ∙ ap (λ (u : VolumeConf). shape_in c.args.config.now u) (get_or_from_slice_get c.args.config.now.volumes.items c.args.id v v found) in
    let name : c.as_str-name.result.now ≡ v.name = c.as_str-name.ensures ∙ ap (λ (u : VolumeConf). u.name) same in
    let count : c.len-count.result ≡ length (shapes_of c.args.config.now) = let l = length-map c.args.config.now.volumes.items (shape_in c.args.config.now) in let n = c.args.config.now.volumes.ok.0 in let m = c.len-count.ensures in omega (arith, l, n, m) in
    let C : ℕ → ℕ → Shape → Name → Type 0 = λ n k s x. IsCutOpenable g.B.Part.Disk.state n k s (blocks_at x told) c.in-Ok-open_image.image in
    let cut : C (length (shapes_of c.args.config.now)) c.args.id (shape_in c.args.config.now v) v.name =
    subst (λ (x : Name). C (length (shapes_of c.args.config.now)) c.args.id (shape_in c.args.config.now v) x) name
    (subst (λ (s : Shape). C (length (shapes_of c.args.config.now)) c.args.id s c.as_str-name.result.now) shape
    (subst (λ (k : ℕ). C (length (shapes_of c.args.config.now)) k (shape_of c.label_of-want.result) c.as_str-name.result.now) c.label_of-want.ensures.id
    (subst (λ (n : ℕ). C n c.label_of-want.result.id (shape_of c.label_of-want.result) c.as_str-name.result.now) count c.in-Ok-open_image.ensures.out))) in
    let S : ℕ → ℕ → Shape → Name → Type 0 = λ n k s x. IfSome told (SaysSo n k s x c.in-Ok-open_image.image) in
    let says : S (length (shapes_of c.args.config.now)) c.args.id (shape_in c.args.config.now v) v.name =
    subst (λ (x : Name). S (length (shapes_of c.args.config.now)) c.args.id (shape_in c.args.config.now v) x) name
    (subst (λ (s : Shape). S (length (shapes_of c.args.config.now)) c.args.id s c.as_str-name.result.now) shape
    (subst (λ (k : ℕ). S (length (shapes_of c.args.config.now)) k (shape_of c.label_of-want.result) c.as_str-name.result.now) c.label_of-want.ensures.id
    (subst (λ (n : ℕ). S n c.label_of-want.result.id (shape_of c.label_of-want.result) c.as_str-name.result.now) count c.in-Ok-open_image.ensures.says))) in
    let sent : (g.B.Bay.state c.open_image.new.bay).told ≡ option_map (sent_out v.name (part_sizes (shape_in c.args.config.now v))) told =
    c.in-Ok-open_image.ensures.ok ∙ ap (λ (x : Name). option_map (sent_out x (part_sizes (shape_of c.label_of-want.result))) told) name ∙ ap (λ (s : Shape). option_map (sent_out v.name (part_sizes s)) told) shape in
    record {
      rest = next_rest g.B.Part.Disk.state g.met.B.Part.Disk.sound (length (shapes_of c.args.config.now)) c.args.id (shape_in c.args.config.now v) (blocks_at v.name told) c.in-Ok-open_image.image c.lay_out.result.0 c.lay_out.result.1 cut c.lay_out.ensures;
      all = next_all g.B.Part.Disk.state g.met.B.Part.Disk.sound (length (shapes_of c.args.config.now)) c.args.id (shape_in c.args.config.now v) (blocks_at v.name told) c.in-Ok-open_image.image c.lay_out.result.0 c.lay_out.result.1 cut c.lay_out.ensures;
      says = next_says g.B.Part.Disk.state g.met.B.Part.Disk.sound (length (shapes_of c.args.config.now)) c.args.id (shape_in c.args.config.now v) (blocks_at v.name told) c.in-Ok-open_image.image c.lay_out.result.0 c.lay_out.result.1 cut c.lay_out.ensures;
      heads = next_heads g.B.Part.Disk.state g.met.B.Part.Disk.sound (length (shapes_of c.args.config.now)) c.args.id (shape_in c.args.config.now v) (blocks_at v.name told) c.in-Ok-open_image.image c.lay_out.result.0 c.lay_out.result.1 cut c.lay_out.ensures;
      sent = sent;
      counts = c.open_image.ensures.counts;
      entry = λ telling t is. next_entry g.B.Part.Disk.state g.met.B.Part.Disk.sound c.args.config.now t c.args.id v told c.in-Ok-open_image.image c.lay_out.result.0 c.lay_out.result.1 is cut c.lay_out.ensures says;
    }

pub returns-in-Ok-open_image-clause-passes : goal.returns-in-Ok-open_image-clause-passes
returns-in-Ok-open_image-clause-passes g c =
    used_pass c.args.spindle.now c.args.id c.index_mut-pass.result.now c.open_image.new.pass c.index_mut-pass.ensures.value c.open_image.ensures.same c.open_image.ensures.free c.open_image.ensures.settled
    (let n = c.requires.within in let p = c.requires.passes.0.whole.count in let s = c.requires.spindle.passes in omega (arith, n, p, s)) c.open_image.ensures.uses c.requires.passes

pub returns-in-Some-clause-refused : goal.returns-in-Some-clause-refused
returns-in-Some-clause-refused g c = λ v found.
    let same : c.index-volume.result.now ≡ v = c.index-volume.ensures ∙ get_or_from_slice_get c.args.config.now.volumes.items c.args.id v c.index-volume.result.now found in
    let shape : shape_of c.label_of-want.result ≡ shape_in c.args.config.now v = c.label_of-want.ensures.shape v ∙ ap (λ (u : VolumeConf). shape_in c.args.config.now u) (get_or_from_slice_get c.args.config.now.volumes.items c.args.id v v found) in
    let name : c.as_str-name.result.now ≡ v.name = c.as_str-name.ensures ∙ ap (λ (u : VolumeConf). u.name) same in
    let count : c.len-count.result ≡ length (shapes_of c.args.config.now) = let l = length-map c.args.config.now.volumes.items (shape_in c.args.config.now) in let n = c.args.config.now.volumes.ok.0 in let m = c.len-count.ensures in omega (arith, l, n, m) in
    let R : ℕ → ℕ → Shape → Name → Type 0 = λ n k s x. IsTold (Refuses n k s x c.in-Err.refusal) (g.B.Bay.state c.args.bay.now).told (g.B.Bay.state c.open_image.new.bay).told in
    let refused : R (length (shapes_of c.args.config.now)) c.args.id (shape_in c.args.config.now v) v.name =
    subst (λ (x : Name). R (length (shapes_of c.args.config.now)) c.args.id (shape_in c.args.config.now v) x) name
    (subst (λ (s : Shape). R (length (shapes_of c.args.config.now)) c.args.id s c.as_str-name.result.now) shape
    (subst (λ (k : ℕ). R (length (shapes_of c.args.config.now)) k (shape_of c.label_of-want.result) c.as_str-name.result.now) c.label_of-want.ensures.id
    (subst (λ (n : ℕ). R n c.label_of-want.result.id (shape_of c.label_of-want.result) c.as_str-name.result.now) count c.in-Err.ensures.refused))) in
    record {
      refuses = next_refuses g.B.Part.Disk.tells g.B.Part.Disk.state c.args.config.now (g.B.Bay.state c.args.bay.now) (g.B.Bay.state c.open_image.new.bay) c.args.id v c.in-Err.refusal c.in-Some.fault (sym c.fault_of_image.ensures ∙ c.in-Some.is) refused c.in-Err.ensures.cause c.in-Err.ensures.part_cause;
      outs = c.in-Err.ensures.home;
      left = next_stayed g.B.Part.Disk.tells g.B.Part.Disk.state c.args.config.now (g.B.Bay.state c.args.bay.now) (g.B.Bay.state c.open_image.new.bay) c.args.id v c.in-Err.refusal (g.B.Bay.state c.args.bay.now).told (g.B.Bay.state c.open_image.new.bay).told refused;
      counts = c.open_image.ensures.counts;
    }

pub returns-in-Some-clause-passes : goal.returns-in-Some-clause-passes
returns-in-Some-clause-passes g c =
    used_pass c.args.spindle.now c.args.id c.index_mut-pass.result.now c.open_image.new.pass c.index_mut-pass.ensures.value c.open_image.ensures.same c.open_image.ensures.free c.open_image.ensures.settled
    (let n = c.requires.within in let p = c.requires.passes.0.whole.count in let s = c.requires.spindle.passes in omega (arith, n, p, s)) c.open_image.ensures.uses c.requires.passes

pub returns-in-None-clause-passes : goal.returns-in-None-clause-passes
returns-in-None-clause-passes g c =
    used_pass c.args.spindle.now c.args.id c.index_mut-pass.result.now c.open_image.new.pass c.index_mut-pass.ensures.value c.open_image.ensures.same c.open_image.ensures.free c.open_image.ensures.settled
    (let n = c.requires.within in let p = c.requires.passes.0.whole.count in let s = c.requires.spindle.passes in omega (arith, n, p, s)) c.open_image.ensures.uses c.requires.passes

pub returns-in-None-clause-err : goal.returns-in-None-clause-err
returns-in-None-clause-err g c = record {
  outs = c.in-Err.ensures.home;
  same = back_at_once c.len-count.result c.label_of-want.result.id c.args.id (shape_of c.label_of-want.result) c.as_str-name.result.now c.in-Err.refusal (g.B.Bay.state c.args.bay.now).told (g.B.Bay.state c.open_image.new.bay).told
      (sym c.fault_of_image.ensures ∙ c.in-None.is) c.in-Err.ensures.refused;
  counts = c.open_image.ensures.counts;
}
