use Rattle.std.proofs.Common.{◌≡◌, ◌++◌, ◌<◌, ℕ, List, length}
use Rattle.std.specs.Prelude.{slice_index_or}
use Rattle.std.specs.List.{flat_map, range_with_len}
use Rattle.wol_model.specs.Journal.{SpindleState}
use Rattle.whatif.specs.declared.waits.Told.{Told}
use Rattle.whatif.specs.Disks.{AreDisks}
use Rattle.whatif.specs.Lines.{conf_at, used_at, volume_text}
use Rattle.whatif.specs.Waits.{AreTold, IsMost, Waited, helds, of_disk, of_volume}
use Rattle.whatif.specs.declared.logged.Most.{Most}
use Rattle.whatif.proofs.telling.volume_lines.Given as goal

abbrev pub invariant-loop-place : goal.invariant-loop-place
invariant-loop-place l =
    (wake : ℕ) (ss : List SpindleState) (ws : List Waited) → AreDisks l.disks ss → ((k : ℕ) (d : Told) → k < length l.told → AreTold wake (of_volume k ws) (slice_index_or l.told k d)) → ((k : ℕ) (d : Most) → k < length l.held → IsMost (of_disk k (helds ws)) (slice_index_or l.held k d))
    → l.out.items ≡ l.initial.out.items ++ flat_map (λ k. volume_text l.policy (conf_at l.volumes k) (used_at l.powers l.to ss k) wake (of_volume k ws) (of_disk k (helds ws))) (range_with_len 0 l.place)
