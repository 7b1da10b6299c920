use Rattle.std.proofs.Common.{◌≡◌, Ok, Err}
use Rattle.std.proofs.lemmas.Result.{err_from_is_err_and}
use Rattle.wol_bay.specs.Bay.{IsHome}
use Rattle.wol_config.specs.declared.config.VolumeConf.{VolumeConf}
use Rattle.inspection.proofs.Unhelped.{all_at}
use Rattle.rack.proofs.Since.{none_out_still}
use Rattle.view_commands.specs.Runs as runs
use Rattle.view_commands.proofs.Answered.{done_complete, done_content, done_left, done_others, done_sound, refused_complete, refused_content, refused_left}
use Rattle.view_commands.proofs.calls.change_volume.Given as given
use Rattle.view_commands.proofs.calls.change_volume.Goals.{In-Ok}
use Rattle.view_commands.proofs.calls.change_volume.Goals as goal

-- the volume was drained, where that was asked for
was_done : (g : given.Over) (c : In-Ok g) → c.in_ok-answer.field-0.answer ≡ Ok c.in-Ok.field-0
was_done g c = cc

pub returns-in_err-answer-clause-content : goal.returns-in_err-answer-clause-content
returns-in_err-answer-clause-content g c =
    let p = err_from_is_err_and c.from_residual.result c.from_residual.ensures.1 in
    rw (p.1, p.2) (runs.never_opened (record { bay = record { left = c.in_err-answer.ensures.left; sound = c.in_err-answer.ensures.sound }; views = c.in_err-answer.ensures.views }))

pub change_image-requires-clause-home : goal.change_image-requires-clause-home
change_image-requires-clause-home g c = λ v conf.
    all_at (λ (w : VolumeConf). IsHome w.name (g.B.Bay.state c.with_open.new.bay)) c.args.config.now.volumes.items c.args.volume v c.with_open.ensures.none_out conf

pub returns-in-Ok-clause-none_out : goal.returns-in-Ok-clause-none_out
returns-in-Ok-clause-none_out g c = none_out_still c.args.config.now (g.B.Bay.state c.with_open.new.bay) (g.B.Bay.state c.change_image.new.bay) c.change_image.ensures.home c.with_open.ensures.none_out

pub returns-in-Ok-clause-content : goal.returns-in-Ok-clause-content
returns-in-Ok-clause-content g c =
    done_content c.args.config.now c.requires.config c.args.volume c.requires.volume c.args.change c.requires.logger g.B.Part.Disk.tells g.B.Part.Disk.state (g.B.Bay.state c.args.bay.now) (g.B.Bay.state c.with_open.new.bay) _
    c.in_ok-answer.field-0.answer c.in_ok-answer.ensures.did (was_done g (goal.at.returns-in-Ok-clause-content g c).In-Ok) (g.B.Bay.state c.change_image.new.bay) c.change_image.result c.change_image.ensures.changes c.change_image.ensures.known

pub returns-in_err-answer-clause-leaves : goal.returns-in_err-answer-clause-leaves
returns-in_err-answer-clause-leaves g c = record { left = c.in_err-answer.ensures.left; sound = c.with_open.ensures.sound }

pub returns-in-Ok-clause-leaves : goal.returns-in-Ok-clause-leaves
returns-in-Ok-clause-leaves g c =
    record {
      left = done_left c.args.config.now c.requires.config c.args.volume c.requires.volume c.args.change c.requires.logger g.B.Part.Disk.tells g.B.Part.Disk.state (g.B.Bay.state c.args.bay.now) (g.B.Bay.state c.with_open.new.bay) _
          c.in_ok-answer.field-0.answer c.in_ok-answer.ensures.did (was_done g (goal.at.returns-in-Ok-clause-leaves g c).In-Ok) (g.B.Bay.state c.change_image.new.bay) c.change_image.result c.change_image.ensures.changes;
      sound = done_sound c.args.config.now c.requires.config c.args.volume c.requires.volume c.args.change c.requires.logger g.B.Part.Disk.tells g.B.Part.Disk.state (g.B.Bay.state c.args.bay.now) (g.B.Bay.state c.with_open.new.bay) _
          c.in_ok-answer.field-0.answer c.in_ok-answer.ensures.did (was_done g (goal.at.returns-in-Ok-clause-leaves g c).In-Ok) (g.B.Bay.state c.change_image.new.bay) c.change_image.result c.change_image.ensures.changes c.with_open.ensures.sound;
    }

pub returns-in_err-answer-clause-others : goal.returns-in_err-answer-clause-others
returns-in_err-answer-clause-others g c = λ telling. c.with_open.ensures.others

pub returns-clause-others : goal.returns-clause-others
returns-clause-others g c = λ telling. c.with_open.ensures.others

pub returns-in-Ok-clause-others : goal.returns-in-Ok-clause-others
returns-in-Ok-clause-others g c =
    done_others c.args.config.now c.requires.config c.args.volume c.requires.volume c.args.change c.requires.logger g.B.Part.Disk.tells g.B.Part.Disk.state (g.B.Bay.state c.args.bay.now) (g.B.Bay.state c.with_open.new.bay) _
    c.in_ok-answer.field-0.answer c.in_ok-answer.ensures.did (was_done g (goal.at.returns-in-Ok-clause-others g c).In-Ok) (g.B.Bay.state c.change_image.new.bay) c.change_image.result c.change_image.ensures.changes c.with_open.ensures.others

pub returns-in-Ok-clause-complete : goal.returns-in-Ok-clause-complete
returns-in-Ok-clause-complete g c =
    done_complete c.args.config.now c.requires.config c.args.volume c.requires.volume c.args.change c.requires.logger g.B.Part.Disk.tells g.B.Part.Disk.state (g.B.Bay.state c.args.bay.now) (g.B.Bay.state c.with_open.new.bay) _
    c.in_ok-answer.field-0.answer c.in_ok-answer.ensures.did (was_done g (goal.at.returns-in-Ok-clause-complete g c).In-Ok) (g.B.Bay.state c.change_image.new.bay) c.change_image.result c.change_image.ensures.changes c.change_image.ensures.no_sink c.change_image.ensures.counts

pub returns-clause-content : goal.returns-clause-content
returns-clause-content g c =
    let is : c.in_ok-answer.field-0.answer ≡ Err c.in-Err.fault = cc in
    refused_content c.args.config.now c.requires.config c.args.volume c.requires.volume c.args.change c.requires.logger g.B.Part.Disk.tells g.B.Part.Disk.state (g.B.Bay.state c.args.bay.now) (g.B.Bay.state c.with_open.new.bay) _
    c.in_ok-answer.field-0.answer c.in_ok-answer.ensures.did c.in-Err.fault is c.with_open.ensures.sound

pub returns-clause-leaves : goal.returns-clause-leaves
returns-clause-leaves g c =
    let is : c.in_ok-answer.field-0.answer ≡ Err c.in-Err.fault = cc in
    record {
      left = refused_left c.args.config.now c.requires.config c.args.volume c.requires.volume c.args.change c.requires.logger g.B.Part.Disk.tells g.B.Part.Disk.state (g.B.Bay.state c.args.bay.now) (g.B.Bay.state c.with_open.new.bay) _
          c.in_ok-answer.field-0.answer c.in_ok-answer.ensures.did c.in-Err.fault is;
      sound = c.with_open.ensures.sound;
    }

pub returns-clause-complete : goal.returns-clause-complete
returns-clause-complete g c =
    let is : c.in_ok-answer.field-0.answer ≡ Err c.in-Err.fault = cc in
    refused_complete c.args.config.now c.requires.config c.args.volume c.requires.volume c.args.change c.requires.logger g.B.Part.Disk.tells g.B.Part.Disk.state (g.B.Bay.state c.args.bay.now) (g.B.Bay.state c.with_open.new.bay) _
    c.in_ok-answer.field-0.answer c.in_ok-answer.ensures.did c.in-Err.fault is
