use Rattle.std.proofs.Common.{◌≡◌, ◌∷◌, [], ℕ, List, length, Err, refl, ap, sym, subst, ◌∙◌, arith}
use Rattle.std.proofs.lemmas.Option.{same_Some, slice_get_read}
use Rattle.wol_bay.specs.Bay.{IsHome, IsOut}
use Rattle.wol_bay.proofs.OneImage.{comes_home, goes_out}
use Rattle.inspection.proofs.Unhelped.{there_is}
use Rattle.view_commands.proofs.Images.{handed_none}
use Rattle.view_commands.proofs.InBay.{final_is, in_bay, known_as, label_size, part_changed, sizes_back, told_no_sink, two_cut, two_long}
use Rattle.view_commands.proofs.image.change_image.Given as given
use Rattle.view_commands.proofs.image.change_image.Goals.{In-Ok}
use Rattle.view_commands.proofs.image.change_image.Goals as goal

-- the image came in two parts
in_two : (g : given.Over) (c : In-Ok g) → length c.in-Ok.parts.items ≡ 2
in_two g c =
    let x = there_is c.args.config.now.volumes.items c.args.volume c.requires.volume in
    let s = c.two_sizes.ensures x.0 x.1 in
    two_long g.B.Part.Disk.state _ s.0 c.in-Ok.parts.items (rw s.1 at c.in-Ok.ensures.parts)

pub returns-in-Err-clause-changes : goal.returns-in-Err-clause-changes
returns-in-Err-clause-changes g c = λ v conf.
    let s = c.two_sizes.ensures v conf in
    let there = slice_get_read c.args.config.now.volumes.items _ c.args.volume c.index.result.now refl (omega (arith, c.requires.volume)) c.index.ensures in
    let same : c.index.result.now ≡ v = same_Some c.index.result.now v (sym there ∙ conf) in
    let name : c.as_str-name.result.now ≡ v.name = c.as_str-name.ensures ∙ ap (λ w. w.name) same in
    let answered = rw (name, s.1) at c.in-Err.ensures.refused in
    rw c.fault_of_bay.ensures
    (handed_none g.B.Part.Disk.tells c.args.config.now c.args.volume v c.args.asked.now (g.B.Bay.state c.args.bay.now) (g.B.Bay.state c.attach.new.self) c.in-Err.fault s.0 _ s.2 c.in-Err.ensures.err answered (λ is. c.in-Err.ensures.cause (ap Err is)))

pub take_apart-image-requires-clause-two : goal.take_apart-image-requires-clause-two
take_apart-image-requires-clause-two g c = let two = in_two g (goal.at.take_apart-image-requires-clause-two g c).In-Ok in omega (arith, two)

pub take_apart-image-requires-clause-room : goal.take_apart-image-requires-clause-room
take_apart-image-requires-clause-room g c = let two = in_two g (goal.at.take_apart-image-requires-clause-room g c).In-Ok in omega (arith, two)

pub change-answer-requires-clause-size : goal.change-answer-requires-clause-size
change-answer-requires-clause-size g c =
    let x = there_is c.args.config.now.volumes.items c.args.volume c.requires.volume in
    let s = c.two_sizes.ensures x.0 x.1 in
    label_size g.B.Part.Disk.state c.take_apart-image.result _ s.0 c.in-Ok.parts.items c.take_apart-image.ensures.parts (rw s.1 at c.in-Ok.ensures.parts)

pub detach-requires : goal.detach-requires
detach-requires g c =
    let state = g.B.Part.Disk.state in
    let x = there_is c.args.config.now.volumes.items c.args.volume c.requires.volume in
    let v = x.0 in
    let conf = x.1 in
    let s = c.two_sizes.ensures v conf in
    let there = slice_get_read c.args.config.now.volumes.items _ c.args.volume c.index.result.now refl (omega (arith, c.requires.volume)) c.index.ensures in
    let same : c.index.result.now ≡ v = same_Some c.index.result.now v (sym there ∙ conf) in
    let name : c.as_str-name.result.now ≡ v.name = c.as_str-name.ensures ∙ ap (λ w. w.name) same in
    let home : IsHome c.as_str-name.result.now (g.B.Bay.state c.args.bay.now) = rw name (c.requires.home v conf) in
    let sizes = sizes_back state c.take_apart-image.result _ s.0 c.in-Ok.parts.items c.take_apart-image.ensures.parts (rw s.1 at c.in-Ok.ensures.parts) c.change-answer.new.label c.change-answer.ensures.size c.put_together.result.items c.put_together.ensures in
    let out : IsOut c.as_str-name.result.now (2 ∷ s.0 ∷ []) (g.B.Bay.state c.attach.new.self) =
    goes_out c.as_str-name.result.now (2 ∷ s.0 ∷ []) (g.B.Bay.state c.args.bay.now) (g.B.Bay.state c.attach.new.self) home (rw s.1 at c.in-Ok.ensures.ok) in
    subst (λ (ns : List ℕ). IsOut c.as_str-name.result.now ns (g.B.Bay.state c.attach.new.self)) (sym sizes) out

pub returns-clause-home : goal.returns-clause-home
returns-clause-home g c =
    let x = there_is c.args.config.now.volumes.items c.args.volume c.requires.volume in
    let v = x.0 in
    let conf = x.1 in
    let there = slice_get_read c.args.config.now.volumes.items _ c.args.volume c.index.result.now refl (omega (arith, c.requires.volume)) c.index.ensures in
    let same : c.index.result.now ≡ v = same_Some c.index.result.now v (sym there ∙ conf) in
    let name : c.as_str-name.result.now ≡ v.name = c.as_str-name.ensures ∙ ap (λ w. w.name) same in
    let home : IsHome c.as_str-name.result.now (g.B.Bay.state c.args.bay.now) = rw name (c.requires.home v conf) in
    comes_home c.as_str-name.result.now c.two_sizes.result _ _ (g.B.Bay.state c.args.bay.now) (g.B.Bay.state c.attach.new.self) (g.B.Bay.state c.detach.new.self) home c.in-Ok.ensures.ok c.detach.ensures.back

pub returns-clause-changes : goal.returns-clause-changes
returns-clause-changes g c = λ v conf.
    let state = g.B.Part.Disk.state in
    let s = c.two_sizes.ensures v conf in
    let there = slice_get_read c.args.config.now.volumes.items _ c.args.volume c.index.result.now refl (omega (arith, c.requires.volume)) c.index.ensures in
    let same : c.index.result.now ≡ v = same_Some c.index.result.now v (sym there ∙ conf) in
    let name : c.as_str-name.result.now ≡ v.name = c.as_str-name.ensures ∙ ap (λ w. w.name) same in
    let cut = rw (name, s.1) at c.in-Ok.ensures.parts in
    let answered = rw (name, s.1) at c.in-Ok.ensures.refused in
    let sent = rw (name, s.1) at c.in-Ok.ensures.ok in
    let final = final_is state c.take_apart-image.result _ s.0 c.in-Ok.parts.items c.take_apart-image.ensures.parts cut c.change-answer.new.label c.change-answer.ensures.size c.put_together.result.items c.put_together.ensures in
    let back = rw (name, final) at c.detach.ensures.back in
    let cause = rw final at c.detach.ensures.cause in
    let e = c.change-answer.ensures in
    rw c.told_as.ensures
    (in_bay g.B.Part.Disk.tells state g.met.B.Part.Disk.sound g.met.B.Part.Disk.told c.args.config.now c.args.volume _ v c.args.asked.now (omega (arith, c.requires.logger, c.len-volumes.ensures)) s.0
    (g.B.Bay.state c.args.bay.now) (g.B.Bay.state c.attach.new.self) (g.B.Bay.state c.detach.new.self) c.take_apart-image.result.label.inner c.change-answer.new.label.inner c.take_apart-image.result.home.inner
    (two_cut state c.take_apart-image.result _ s.0 c.in-Ok.parts.items c.take_apart-image.ensures.parts cut) c.in-Ok.parts answered sent back (c.in-Ok.ensures.calm (λ no_fault. cc no_fault)) cause (g.B.Bay.apart c.args.bay.now) c.change-answer.result
    (part_changed _ _ _ _ _ _ e.answer e.any_moment (g.met.B.Part.Disk.sound c.change-answer.new.label.inner) e.stored e.unwritten e.cause))

pub returns-clause-known : goal.returns-clause-known
returns-clause-known g c = λ r is.
    known_as c.args.volume c.change-answer.result (c.change-answer.ensures.known (omega (arith, c.requires.logger, c.len-volumes.ensures))) r (sym c.told_as.ensures ∙ is)

pub returns-clause-no_sink : goal.returns-clause-no_sink
returns-clause-no_sink g c = λ is. told_no_sink c.args.volume c.change-answer.result (sym c.told_as.ensures ∙ is)
