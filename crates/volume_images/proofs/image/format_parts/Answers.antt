use Rattle.std.proofs.Common.{◌≡◌, false, List, inl, inr, ⊎_elim, ◌∷◌, replicate, ◌∙◌}
use Rattle.wol_disk.specs.Disk.{Block}
use Rattle.wol_disk.specs.Zeros.{zeros, zero_block}
use Rattle.wol_model.specs.Heads.{Shape, view_block}
use Rattle.log_layout.specs.Values.{shape_of}
use Rattle.logger_view.specs.Stored.{with_view}
use Rattle.volume_images.specs.Settled.{AreSettled}
use Rattle.volume_images.specs.Formatted.{blank_parts, formatted_parts, free_segment}
use Rattle.volume_images.proofs.SettledParts.{settled_images, settled_sizes}
use Rattle.volume_images.proofs.Freeing.{blank_sizes, no_label, no_label_in, label_or_none, whole_image, on_success}
use Rattle.volume_images.proofs.image.format_parts.Given as given
use Rattle.volume_images.proofs.image.format_parts.Goals.{After-is_err, After-is_err-2, After-is_err-3, In_ok-free_segments}
use Rattle.volume_images.proofs.image.format_parts.Goals as goal

-- home and the segments, blank
abbrev blank_rest : Shape → List (List Block)
blank_rest s = zeros s.home ∷ replicate s.segments (zeros s.segment_blocks)

-- the view was stored
viewed : (g : given.Over) (c : After-is_err g) → c.is_err.result ≡ false
    → AreSettled g.D.Disk.state (with_view c.args.view.now (zeros 2) ∷ blank_rest (shape_of c.args.label.now)) c.store.new.parts.items
viewed g c fine = on_success c.store.result c.is_err.result c.is_err.ensures.value fine (c.store.ensures.ok (blank_parts (shape_of c.args.label.now)) c.requires.blank)

-- home was stored behind it
homed : (g : given.Over) (c : After-is_err-2 g) → AreSettled g.D.Disk.state (with_view c.args.view.now (zeros 2) ∷ blank_rest (shape_of c.args.label.now)) c.store.new.parts.items → c.is_err-2.result ≡ false
    → AreSettled g.D.Disk.state (with_view c.args.view.now (zeros 2) ∷ blank_rest (shape_of c.args.label.now)) c.store-2.new.parts.items
homed g c view fine = on_success c.store-2.result c.is_err-2.result c.is_err-2.ensures.value fine (c.store-2.ensures.ok (with_view c.args.view.now (zeros 2) ∷ blank_rest (shape_of c.args.label.now)) view)

-- and the segments were freed
freed : (g : given.Over) (c : In_ok-free_segments g) → AreSettled g.D.Disk.state (with_view c.args.view.now (zeros 2) ∷ blank_rest (shape_of c.args.label.now)) c.store-2.new.parts.items
    → AreSettled g.D.Disk.state (with_view c.args.view.now (zeros 2) ∷ zeros (shape_of c.args.label.now).home ∷ replicate (shape_of c.args.label.now).segments (free_segment (shape_of c.args.label.now).segment_blocks)) c.free_segments.new.parts.items
freed g c home = c.in_ok-free_segments.ensures.ok (with_view c.args.view.now (zeros 2)) (zeros (shape_of c.args.label.now).home) home

pub returns-then-is_err-clause-images : goal.returns-then-is_err-clause-images
returns-then-is_err-clause-images g c = λ d i.
    let s = shape_of c.args.label.now in
    ⊎_elim (λ e. inl (no_label zero_block d (blank_rest s) e)) (λ e. inl (no_label (view_block c.args.view.now) d (blank_rest s) e)) (c.store.ensures.images (blank_parts s) d c.requires.blank i)

pub returns-then-is_err-2-clause-images : goal.returns-then-is_err-2-clause-images
returns-then-is_err-2-clause-images g c = λ d i.
    let rest = blank_rest (shape_of c.args.label.now) in
    ⊎_elim (λ e. inl (no_label (view_block c.args.view.now) d rest e)) (λ e. inl (no_label (view_block c.args.view.now) d rest e))
    (c.store-2.ensures.images (with_view c.args.view.now (zeros 2) ∷ rest) d (viewed g (goal.at.returns-then-is_err-2-clause-images g c).After-is_err c.if-is_err.false) i)

pub free_segments-requires-clause-sizes : goal.free_segments-requires-clause-sizes
free_segments-requires-clause-sizes g c =
    let s = shape_of c.args.label.now in
    c.store-2.ensures.sizes ∙ c.store.ensures.sizes ∙ settled_sizes g.D.Disk.state (blank_parts s) c.args.parts.now.items c.requires.blank ∙ blank_sizes s

pub returns-in_err-free_segments-clause-images : goal.returns-in_err-free_segments-clause-images
returns-in_err-free_segments-clause-images g c = λ d i.
    let at = goal.at.returns-in_err-free_segments-clause-images g c in
    let home = homed g at.After-is_err-2 (viewed g at.After-is_err c.if-is_err.false) c.if-is_err-2.false in
    inl (no_label_in (view_block c.args.view.now) d (c.free_segments.ensures.images (with_view c.args.view.now (zeros 2)) (zeros (shape_of c.args.label.now).home) d home i))

pub returns-then-is_err-3-clause-images : goal.returns-then-is_err-3-clause-images
returns-then-is_err-3-clause-images g c = λ d i.
    let s = shape_of c.args.label.now in let at = goal.at.returns-then-is_err-3-clause-images g c in
    let free = freed g at.In_ok-free_segments (homed g at.After-is_err-2 (viewed g at.After-is_err c.if-is_err.false) c.if-is_err-2.false) in
    label_or_none c.args.label.now.id s c.args.view.now d (c.store-3.ensures.images (with_view c.args.view.now (zeros 2) ∷ zeros s.home ∷ replicate s.segments (free_segment s.segment_blocks)) d free i)

-- all is stored
stored : (g : given.Over) (c : After-is_err-3 g) → c.is_err-3.result ≡ false
    → AreSettled g.D.Disk.state (with_view c.args.view.now (zeros 2) ∷ zeros (shape_of c.args.label.now).home ∷ replicate (shape_of c.args.label.now).segments (free_segment (shape_of c.args.label.now).segment_blocks)) c.free_segments.new.parts.items
    → AreSettled g.D.Disk.state (formatted_parts c.args.label.now.id (shape_of c.args.label.now) c.args.view.now) c.store-3.new.parts.items
stored g c fine free =
    let s = shape_of c.args.label.now in
    on_success c.store-3.result c.is_err-3.result c.is_err-3.ensures.value fine (c.store-3.ensures.ok (with_view c.args.view.now (zeros 2) ∷ zeros s.home ∷ replicate s.segments (free_segment s.segment_blocks)) free)

pub returns-clause-ok : goal.returns-clause-ok
returns-clause-ok g c =
    let at = goal.at.returns-clause-ok g c in
    stored g at.After-is_err-3 c.if-is_err-3.false (freed g at.In_ok-free_segments (homed g at.After-is_err-2 (viewed g at.After-is_err c.if-is_err.false) c.if-is_err-2.false))

pub returns-clause-images : goal.returns-clause-images
returns-clause-images g c = λ d i.
    let s = shape_of c.args.label.now in
    let whole = returns-clause-ok g c in
    inr (whole_image c.args.label.now.id s c.args.view.now d (settled_images g.D.Disk.state (formatted_parts c.args.label.now.id s c.args.view.now) c.store-3.new.parts.items d whole i))
