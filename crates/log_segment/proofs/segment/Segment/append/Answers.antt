use Rattle.std.proofs.Common.{List, ◌++◌, OnOk, refl, subst, length}
use Rattle.wol_disk.proofs.Moments.{widened}
use Rattle.wol_model.specs.Log.{Record, HasFirstOf}
use Rattle.log_segment.specs.declared.item.Item.{Item}
use Rattle.log_segment.specs.Records.{new_record}
use Rattle.log_segment.specs.Segment.{Holds}
use Rattle.log_segment.proofs.Grouped.{group_of_one, with_or_without}
use Rattle.log_segment.proofs.segment.Segment.append.Goals as goal

pub returns-clause-ok : goal.returns-clause-ok
returns-clause-ok g c rs h =
    let item : Item = record { lbn = c.args.lbn; count = length c.args.from.now } in
    let one = group_of_one c.args.self.now.owner c.args.version item c.args.from.now refl in
    subst (λ (group : List Record). OnOk c.append_group.result (Holds g.D.Disk.state c.append_group.new.self (rs ++ group))) one (c.append_group.ensures.ok rs h)

pub returns-clause-any_moment : goal.returns-clause-any_moment
returns-clause-any_moment g c rs h =
    let owner = c.args.self.now.owner in
    let item : Item = record { lbn = c.args.lbn; count = length c.args.from.now } in
    let one = group_of_one owner c.args.version item c.args.from.now refl in
    let new = new_record owner c.args.version c.args.lbn c.args.from.now in
    widened (c.append_group.ensures.any_moment rs h) (λ d first. with_or_without d owner rs new (subst (λ (group : List Record). HasFirstOf d owner rs group) one first))
