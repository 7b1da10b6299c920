use Rattle.std.proofs.Common.{◌≡◌, List, Some, refl, [], option_map, Err, ap, sym, ◌∙◌}
use Rattle.wol_bay.specs.Bay.{Told, AreNamedApart, came_back, sent_out}
use Rattle.wol_disk.specs.Disk.{Block, Values}
use Rattle.wol_bay.specs.Parts.{blocks_of, faulty_places, sizes_of}
use Rattle.wol_bay.proofs.OneImage.{goes_out, comes_home}
use Rattle.log_layout.specs.Values.{shape_of}
use Rattle.volume_images.specs.Left.{IsTold, LeavesImage, LeavesFailed, CameBack, settled_image, fault_of_bay}
use Rattle.volume_images.specs.Formatted.{formatted, formatted_parts}
use Rattle.volume_images.proofs.SettledParts.{settled_quiet}
use Rattle.volume_images.proofs.Bays.{went_out, sizes_out, brought_back, nothing_told, whole_back, failed_back}
use Rattle.volume_images.proofs.Refused.{leaves_all, names_volume, bay_rose, bay_calm, rose_since, some_fault, blank_tells, same_error}
use Rattle.volume_images.proofs.image.format_image.Given as given
use Rattle.volume_images.proofs.image.format_image.Goals.{After-detach}
use Rattle.volume_images.proofs.image.format_image.Goals as goal

pub returns-in-Err : goal.returns-in-Err
returns-in-Err g c =
    let e = c.in-Err.fault in
    let id = c.args.label.now.id in
    let is : c.fault_of_bay.result ≡ fault_of_bay id e = c.fault_of_bay.ensures in
    record {
      home = ap (option_map (λ (t : Told). t.out)) c.in-Err.ensures.err;
      left = rw is (nothing_told (LeavesImage (Err (fault_of_bay id e)) c.args.volume.now.name id (shape_of c.args.label.now) c.args.volume.now.view)
          (g.B.Bay.state c.args.bay.now).told (g.B.Bay.state c.create.new.self).told c.in-Err.ensures.err (λ t. leaves_all e c.args.volume.now.name id (shape_of c.args.label.now) c.args.volume.now.view t));
      volume = λ n p f. names_volume e id n p (sym is ∙ same_error f);
      cause = λ n p f. bay_rose e id n (g.B.Bay.state c.args.bay.now).faults (g.B.Bay.state c.create.new.self).faults p c.in-Err.ensures.faults (λ q. c.in-Err.ensures.cause (ap Err q)) (sym is ∙ same_error f);
      calm = λ none. bay_calm e id (g.B.Bay.state c.args.bay.now).faults (g.B.Bay.state c.create.new.self).faults (λ h. c.in-Err.ensures.calm (λ q. h (same_error q))) (λ n p q. none n p (ap Err (is ∙ q)));
      counts = c.create.ensures.counts;
    }

pub format_parts-formatted-requires-clause-blank : goal.format_parts-formatted-requires-clause-blank
format_parts-formatted-requires-clause-blank g c =
    went_out g.B.Part.Disk.state (g.B.Bay.state c.args.bay.now).told (shape_of c.args.label.now) c.deref.result.now c.in-Ok.parts.items (c.deref.ensures.value ∙ c.in_ok-sizes.ensures) c.in-Ok.ensures.parts

pub detach-requires : goal.detach-requires
detach-requires g c =
    let e : sizes_of g.B.Part.Disk.state c.format_parts-formatted.new.parts.items ≡ c.deref.result.now =
    c.format_parts-formatted.ensures.sizes ∙ sizes_out g.B.Part.Disk.state (g.B.Bay.state c.args.bay.now).told c.deref.result.now c.in-Ok.parts.items c.in-Ok.ensures.parts in
    rw (e, c.as_str-name.ensures) (goes_out c.args.volume.now.name c.deref.result.now (g.B.Bay.state c.args.bay.now) (g.B.Bay.state c.create.new.self) c.requires.home (rw c.as_str-name.ensures at c.in-Ok.ensures.ok))

pub returns-in-Ok-formatted-clause-home : goal.returns-in-Ok-formatted-clause-home
returns-in-Ok-formatted-clause-home g c =
    let parts = c.format_parts-formatted.new.parts.items in
    comes_home c.args.volume.now.name c.deref.result.now (blocks_of g.B.Part.Disk.state parts) (faulty_places g.B.Part.Disk.state parts) (g.B.Bay.state c.args.bay.now) (g.B.Bay.state c.create.new.self) (g.B.Bay.state c.detach.new.self)
    c.requires.home (rw c.as_str-name.ensures at c.in-Ok.ensures.ok) (rw c.as_str-name.ensures at c.detach.ensures.back)

pub returns-clause-home : goal.returns-clause-home
returns-clause-home g c =
    let parts = c.format_parts-formatted.new.parts.items in
    comes_home c.args.volume.now.name c.deref.result.now (blocks_of g.B.Part.Disk.state parts) (faulty_places g.B.Part.Disk.state parts) (g.B.Bay.state c.args.bay.now) (g.B.Bay.state c.create.new.self) (g.B.Bay.state c.detach.new.self)
    c.requires.home (rw c.as_str-name.ensures at c.in-Ok.ensures.ok) (rw c.as_str-name.ensures at c.detach.ensures.back)

-- what is left of the image, where that holds of its blocks whatever is told
left : (g : given.Over) (c : After-detach g) (holds : Told → Told → Type 0)
    → ((t : Told) (vs : List (Values Block)) → blocks_of g.B.Part.Disk.state c.format_parts-formatted.new.parts.items ≡ Some vs → AreNamedApart t
    → holds t (came_back c.args.volume.now.name (Some vs) (faulty_places g.B.Part.Disk.state c.format_parts-formatted.new.parts.items) (sent_out c.args.volume.now.name c.deref.result.now t)))
    → IsTold holds (g.B.Bay.state c.args.bay.now).told (g.B.Bay.state c.detach.new.self).told
left g c holds back =
    let state = g.B.Part.Disk.state in
    let parts = c.format_parts-formatted.new.parts.items in
    brought_back holds c.args.volume.now.name c.deref.result.now (faulty_places state parts) (blocks_of state parts)
    (g.B.Bay.state c.args.bay.now).told (g.B.Bay.state c.create.new.self).told (g.B.Bay.state c.detach.new.self).told (g.B.Bay.apart c.args.bay.now)
    (λ t e. c.format_parts-formatted.ensures.told (blank_tells state (g.B.Bay.state c.args.bay.now).told c.deref.result.now c.in-Ok.parts.items c.in-Ok.ensures.parts t e))
    back (rw c.as_str-name.ensures at c.in-Ok.ensures.ok) (rw c.as_str-name.ensures at c.detach.ensures.back)

pub returns-in-Ok-formatted-clause-left : goal.returns-in-Ok-formatted-clause-left
returns-in-Ok-formatted-clause-left g c =
    let name = c.args.volume.now.name in let id = c.args.label.now.id in let s = shape_of c.args.label.now in let ids = c.args.volume.now.view in
    left g (goal.at.returns-in-Ok-formatted-clause-left g c).After-detach (CameBack name (settled_image (formatted id s ids)) [])
    (λ t vs e apart. whole_back g.B.Part.Disk.state name id s ids c.format_parts-formatted.new.parts.items c.in-Ok-formatted.ensures.ok c.deref.result.now t vs e apart)

pub returns-clause-left : goal.returns-clause-left
returns-clause-left g c =
    let name = c.args.volume.now.name in let id = c.args.label.now.id in let s = shape_of c.args.label.now in let ids = c.args.volume.now.view in
    left g (goal.at.returns-clause-left g c).After-detach (LeavesFailed c.in-Err-formatted.part name id s ids)
    (λ t vs e apart. failed_back g.B.Part.Disk.state name id s ids c.format_parts-formatted.new.parts.items c.in-Err-formatted.part c.format_parts-formatted.ensures.images c.in-Err-formatted.ensures.cause c.deref.result.now t vs e apart)

pub returns-in-Ok-formatted-clause-calm : goal.returns-in-Ok-formatted-clause-calm
returns-in-Ok-formatted-clause-calm g c = λ none.
    let parts = c.format_parts-formatted.new.parts.items in
    c.detach.ensures.calm (settled_quiet g.B.Part.Disk.state 0 (formatted_parts c.args.label.now.id (shape_of c.args.label.now) c.args.volume.now.view) parts c.in-Ok-formatted.ensures.ok) ∙ c.in-Ok.ensures.calm (λ never. cc never)

pub returns-clause-cause : goal.returns-clause-cause
returns-clause-cause g c = λ n p is.
    rose_since (g.B.Bay.state c.args.bay.now).faults (g.B.Bay.state c.create.new.self).faults (g.B.Bay.state c.detach.new.self).faults c.create.ensures.counts
    (c.detach.ensures.cause (some_fault g.B.Part.Disk.state c.format_parts-formatted.new.parts.items c.in-Err-formatted.part c.in-Err-formatted.ensures.cause))

pub returns-clause-calm : goal.returns-clause-calm
returns-clause-calm g c = λ none. absurd (none c.args.label.now.id c.in-Err-formatted.part refl)
