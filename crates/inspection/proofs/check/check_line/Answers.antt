use Rattle.std.proofs.Common.{◌≡◌, ℕ, List, length, None, Err, sym, ap, ◌∙◌, arith}
use Rattle.std.proofs.lemmas.Option.{slice_get_within}
use Rattle.std.proofs.lemmas.Result.{err_from_is_err_and}
use Rattle.hex.specs.Hex.{encode_lower}
use Rattle.wol_config.specs.declared.config.VolumeConf.{VolumeConf}
use Rattle.wol_config.specs.Documents.{names_of}
use Rattle.report.specs.Names.{name_at}
use Rattle.manager.proofs.ReadThrough.{never_some, through_self}
use Rattle.inspection.specs.Texts.{digest_text}
use Rattle.inspection.specs.Volumes.{array_of, held_segments}
use Rattle.inspection.proofs.Digesting.{kept_as_it_is, told_nothing}
use Rattle.inspection.proofs.HeldCount.{count_held}
use Rattle.inspection.proofs.Naming.{name_of_volume, read_at}
use Rattle.inspection.proofs.check.check_line.Goals as goal

pub returns-in-Some-clause-stands : goal.returns-in-Some-clause-stands
returns-in-Some-clause-stands g c b notes n client note k = kept_as_it_is g.D.Disk.tells g.D.Disk.state c.args.manager.now b notes n note k

pub returns-in-Some-clause-read : goal.returns-in-Some-clause-read
returns-in-Some-clause-read g c = through_self g.D.Disk.state g.met.D.Disk.sound c.args.manager.now

pub index-configured-requires : goal.index-configured-requires
index-configured-requires g c =
    let within = slice_get_within c.args.config.now.volumes.items c.args.volume c.requires.serves.volume c.requires.serves.there in omega (arith, within, c.args.config.now.volumes.ok.0)

pub returns-in_err-segments-clause-stands : goal.returns-in_err-segments-clause-stands
returns-in_err-segments-clause-stands g c b notes n client note k =
    let p = err_from_is_err_and c.from_residual.result c.from_residual.ensures.1 in
    told_nothing g.D.Disk.tells g.D.Disk.state c.args.manager.now c.from_residual.result (p.1 ∙ ap Err (p.2 ∙ c.in_err-segments.ensures.err)) b notes n client note k

pub returns-in_err-segments-clause-read : goal.returns-in_err-segments-clause-read
returns-in_err-segments-clause-read g c = through_self g.D.Disk.state g.met.D.Disk.sound c.args.manager.now

pub digest_of-requires-clause-blocks : goal.digest_of-requires-clause-blocks
digest_of-requires-clause-blocks g c =
    let is = read_at c.args.config.now.volumes.items c.args.volume c.requires.serves.volume c.index-configured.result.now c.requires.serves.there c.index-configured.ensures in
    ap (λ (v : VolumeConf). v.home) is ∙ c.requires.serves.home

pub returns-in_err-digest-clause-cause : goal.returns-in_err-digest-clause-cause
returns-in_err-digest-clause-cause g c p is =
    let q = err_from_is_err_and c.from_residual-in_err-digest.result c.from_residual-in_err-digest.ensures.1 in
    c.in_err-digest.ensures.cause p (cc (q.1, q.2, is))

pub returns-clause-content : goal.returns-clause-content
returns-clause-content g c told b notes k =
    let m = c.args.manager.now in
    let items = c.args.config.now.volumes.items in
    let serves = c.requires.serves in
    let up : m.down ≡ None = sym c.down.ensures ∙ never_some c.down.result c.in_default.not-Some in
    let is = read_at items c.args.volume serves.volume c.index-configured.result.now serves.there c.index-configured.ensures in
    let name : c.as_bytes.result.now ≡ name_at (names_of items) c.args.volume = c.as_bytes.ensures ∙ ap (λ (v : VolumeConf). v.name) is ∙ sym (name_of_volume items c.args.volume serves.volume serves.there) in
    let digits : c.as_bytes-2.result.now ≡ digest_text (array_of b notes) = c.as_bytes-2.ensures.value ∙ c.in-Ok.ensures ∙ ap encode_lower (c.as_slice.ensures ∙ c.in_ok-digest.ensures.content told b notes k) in
    let records : c.len-records.result ≡ length m.index.entries = rw c.index.ensures at c.len-records.ensures.value in
    let segments : c.in_ok-segments.segments ≡ held_segments m = count_held g.D.Disk.tells g.D.Disk.state m b notes k up told c.in_ok-segments.segments (rw c.index-2.ensures at c.in_ok-segments.ensures.value) in
    rw (name, digits, records, segments) at c.in_ok-append_check.ensures.ok

pub returns-clause-line : goal.returns-clause-line
returns-clause-line g c =
    let m = c.args.manager.now in
    let items = c.args.config.now.volumes.items in
    let serves = c.requires.serves in
    let is = read_at items c.args.volume serves.volume c.index-configured.result.now serves.there c.index-configured.ensures in
    let name : c.as_bytes.result.now ≡ name_at (names_of items) c.args.volume = c.as_bytes.ensures ∙ ap (λ (v : VolumeConf). v.name) is ∙ sym (name_of_volume items c.args.volume serves.volume serves.there) in
    let digits : c.as_bytes-2.result.now ≡ encode_lower c.as_slice.result.now = c.as_bytes-2.ensures.value ∙ c.in-Ok.ensures in
    let records : c.len-records.result ≡ length m.index.entries = rw c.index.ensures at c.len-records.ensures.value in
    (c.as_slice.result.now, c.in_ok-segments.segments, ap (λ (bytes : List ℕ). length bytes) c.as_slice.ensures ∙ c.in_ok-digest.ensures.size, rw c.index-2.ensures at c.in_ok-segments.ensures.value, rw (name, digits, records) at c.in_ok-append_check.ensures.ok)
