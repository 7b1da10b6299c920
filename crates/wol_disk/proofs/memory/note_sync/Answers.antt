use Rattle.std.proofs.Common.{◌≡◌, ap, [], ◌∷◌, refl}
use Rattle.wol_disk.specs.declared.record.Call.TheVariants.{Synced}
use Rattle.std.proofs.lemmas.Slice.{pushed}
use Rattle.wol_disk.specs.Disk.{reads}
use Rattle.wol_disk.specs.Record.{values_after}
use Rattle.wol_disk.proofs.Recorded.{synced_reads}
use Rattle.wol_disk.proofs.memory.note_sync.Goals as goal

pub returns-clause-keeps : goal.returns-clause-keeps
returns-clause-keeps c start = synced_reads c.args.calls.now.items _ start (pushed (Synced ∷ []) refl c.in_ok-push.was c.push.ensures.items)

pub returns-in_err-push-clause-keeps : goal.returns-in_err-push-clause-keeps
returns-in_err-push-clause-keeps c start = let e : c.push.new.self.items ≡ c.args.calls.now.items = c.in_err-push.ensures.items in ap (λ l. reads (values_after l start)) e
