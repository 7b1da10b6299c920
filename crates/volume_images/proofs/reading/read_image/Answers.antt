use Rattle.std.proofs.Common.{◌≡◌, ℕ, List, length, inl, Err, refl, sym, ap, ◌∙◌, subst, arith}
use Rattle.std.proofs.lemmas.Result.{err_from_is_err_and}
use Rattle.logger_view.specs.Stored.{IsFirstFault}
use Rattle.log_layout.specs.Values.{shape_of}
use Rattle.log_layout.specs.declared.segment.SegHead.{SegHead}
use Rattle.wol_disk.specs.Disk.{reads}
use Rattle.volume_images.specs.Reads.{AreOnlyRead}
use Rattle.std.specs.Vec.{with_items}
use Rattle.volume_images.specs.declared.parts.ImageParts.{ImageParts}
use Rattle.volume_images.specs.Accepted.{HasOwnLabel}
use Rattle.volume_images.specs.ImageParts.{IsReadImage, SaysLabel}
use Rattle.volume_images.specs.Heads.{SayHeads, AlwaysSay, IsDamagedSegment, RoseAt, AreCalm}
use Rattle.volume_images.proofs.ImageReads.{came_back_whole, same_label, own_label, segment_refuses}
use Rattle.volume_images.proofs.reading.read_image.Given as given
use Rattle.volume_images.proofs.reading.read_image.Goals.{After-read_heads}
use Rattle.volume_images.proofs.reading.read_image.Goals as goal

-- its segments were only read
read : (g : given.Over) (c : After-read_heads g) → AreOnlyRead g.D.Disk.state c.args.parts.now.segments.items c.read_heads.new.segments
read g c = subst (λ segments. AreOnlyRead g.D.Disk.state segments c.read_heads.new.segments) c.deref_mut.ensures.value c.read_heads.ensures.read

-- and they are those that the image has then
whole : (g : given.Over) (c : After-read_heads g) → (with_items c.args.parts.now.segments c.read_heads.new.segments).items ≡ c.read_heads.new.segments
whole g c = came_back_whole c.args.parts.now.segments.len c.args.parts.now.segments.items c.read_heads.new.segments (omega arith) (read g c).count

only_read : (g : given.Over) (c : After-read_heads g) → IsReadImage g.D.Disk.state c.args.parts.now (record { label = c.load.new.part; home = c.args.parts.now.home; segments = with_items c.args.parts.now.segments c.read_heads.new.segments })
only_read g c = record {
  label = record { size = c.load.ensures.size; values = c.load.ensures.values; any_moment = c.load.ensures.any_moment };
  label_volume = c.load.ensures.volume;
  home = refl;
  segments = subst (λ segments. AreOnlyRead g.D.Disk.state c.args.parts.now.segments.items segments) (sym (whole g c)) (read g c);
}

pub returns-in-Err-Damaged-clause-refused : goal.returns-in-Err-Damaged-clause-refused
returns-in-Err-Damaged-clause-refused g c =
    inl (λ vs told. subst (λ block. IsFirstFault c.args.want.now.id (reads vs) block) (sym c.from.ensures) (c.load.ensures.damaged vs c.in-Err-Damaged.block told (c.in-Err-Damaged.is ∙ ap Err c.in-Err-Damaged.field-0-is)))

pub returns-in_err-read_heads-clause-refused : goal.returns-in_err-read_heads-clause-refused
returns-in_err-read_heads-clause-refused g c =
    let state = g.D.Disk.state in
    let own = c.args.want.now.id in
    let s = shape_of c.args.want.now in
    let old = c.args.parts.now in
    let new : ImageParts g.row.D.Denot = record { label = c.load.new.part; home = old.home; segments = with_items old.segments c.read_heads.new.segments } in
    let same = same_label c.in-Ok.found.0 c.args.want.now c.if-ne.ensures in
    let p = err_from_is_err_and c.from_residual.result c.from_residual.ensures.1 in
    let e = c.in_err-read_heads.field-0.0 in
    let answer : c.from_residual.result ≡ Err e = p.1 ∙ ap Err p.2 in
    let label : SaysLabel state old (λ bs. (ids : List ℕ) × HasOwnLabel own s bs ids) =
    λ vs told. (c.in-Ok.found.1, own_label (reads vs) c.in-Ok.found.0 c.args.want.now c.in-Ok.found.1 same (c.in-Ok.ensures.label vs told) (c.in-Ok.ensures.view vs told) c.in-Ok.ensures.others) in
    let same_segments = whole g (goal.at.returns-in_err-read_heads-clause-refused g c).After-read_heads in
    rw answer (segment_refuses state c.args.volumes own s old new c.read_heads.result e c.in_err-read_heads.was label
    (λ block is. subst (λ segments. IsDamagedSegment state c.args.volumes s segments block) c.deref_mut.ensures.value (c.read_heads.ensures.damaged block is)) c.read_heads.ensures.label c.read_heads.ensures.label_part
    (λ index is. subst (λ segments. RoseAt state index old.segments.items segments) (sym same_segments) (subst (λ segments. RoseAt state index segments c.read_heads.new.segments) c.deref_mut.ensures.value (c.read_heads.ensures.cause index is)))
    (λ index is. subst (λ segments. (heads : List SegHead) × SayHeads state c.args.volumes segments index heads) c.deref_mut.ensures.value (c.read_heads.ensures.before index is)))

pub returns-in_err-read_heads-clause-read : goal.returns-in_err-read_heads-clause-read
returns-in_err-read_heads-clause-read g c = only_read g (goal.at.returns-in_err-read_heads-clause-read g c).After-read_heads

pub returns-clause-read : goal.returns-clause-read
returns-clause-read g c = only_read g (goal.at.returns-clause-read g c).After-read_heads

pub returns-clause-ok : goal.returns-clause-ok
returns-clause-ok g c =
    let state = g.D.Disk.state in
    let same = same_label c.in-Ok.found.0 c.args.want.now c.if-ne.ensures in
    record {
      label = λ vs told. own_label (reads vs) c.in-Ok.found.0 c.args.want.now c.in-Ok.found.1 same (c.in-Ok.ensures.label vs told) (c.in-Ok.ensures.view vs told) c.in-Ok.ensures.others;
      of_segments = subst (λ n. SayHeads state c.args.volumes c.args.parts.now.segments.items n c.read_heads.new.heads.items) c.requires.parts.count
          (subst (λ segments. SayHeads state c.args.volumes segments (length segments) c.read_heads.new.heads.items) c.deref_mut.ensures.value c.in_ok-read_heads.ensures.ok);
      others = c.in-Ok.ensures.others;
    }

pub returns-clause-calm : goal.returns-clause-calm
returns-clause-calm g c =
    let state = g.D.Disk.state in
    let same = whole g (goal.at.returns-clause-calm g c).After-read_heads in
    record {
      label = c.in-Ok.ensures.calm;
      segments = subst (λ segments. AreCalm state c.args.parts.now.segments.items segments) (sym same) (subst (λ segments. AreCalm state segments c.read_heads.new.segments) c.deref_mut.ensures.value (c.in_ok-read_heads.ensures.calm (λ index e. cc e)));
    }

pub returns-clause-always : goal.returns-clause-always
returns-clause-always g c =
    let same = whole g (goal.at.returns-clause-always g c).After-read_heads in
    subst (λ segments. AlwaysSay g.D.Disk.state c.args.volumes segments c.read_heads.new.heads.items) (sym same) c.in_ok-read_heads.ensures.always
