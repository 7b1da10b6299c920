-- The lines of all volumes.
use Rattle.std.proofs.Common.{◌≡◌, ◌<◌, ◌++◌, ℕ, List, length, get_or, sym, subst}
use Rattle.std.specs.Prelude.{OnOk}
use Rattle.whatif.specs.declared.disk.Disk.{Disk}
use Rattle.whatif.specs.declared.waits.Told.{Told}
use Rattle.whatif.specs.Disks.{AreDisks}
use Rattle.whatif.specs.Policies.{machine_after, waits_by}
use Rattle.whatif.specs.Waits.{AreTold, IsMost, helds, of_disk, of_volume}
use Rattle.whatif.specs.declared.logged.Most.{Most}
use Rattle.whatif.proofs.Lined.{volumes_told}
use Rattle.whatif.proofs.machine.Machine.volume_lines.Goals as goal

pub returns : goal.returns
returns c = λ c' from ws run same.
    let p = c.args.policy in let ss = (machine_after p c' from ws).spindles in let told = waits_by p c' from ws in
    subst (λ (l : List ℕ). OnOk c.volume_lines.result (c.volume_lines.new.out.items ≡ c.args.out.now.items ++ l)) (volumes_told p c' from ws c.args.to c.args.volumes.now c.args.self.now.powers same run.powers)
    (c.volume_lines.ensures c'.wake ss told
    (subst (λ (ds : List Disk). AreDisks ds ss) (sym c.as_slice-disks.ensures.value) run.stands.disks)
    (subst (λ (l : List Told). (k : ℕ) (d : Told) → k < length l → AreTold c'.wake (of_volume k told) (get_or l k d)) (sym c.as_slice-told.ensures.value) run.tallies.each)
    (subst (λ (l : List Most). (k : ℕ) (d : Most) → k < length l → IsMost (of_disk k (helds told)) (get_or l k d)) (sym c.as_slice-held.ensures.value) run.tallies.logged.each))
