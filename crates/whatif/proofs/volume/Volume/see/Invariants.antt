use Rattle.std.proofs.Common.{◌≡◌, ◌++◌, List, map, take, drop}
use Rattle.wol_model.specs.Journal.{SpindleState}
use Rattle.whatif.specs.Disks.{AreDisks}
use Rattle.whatif.specs.Machine.{is_up}
use Rattle.whatif.specs.Volumes.{IsVolume}
use Rattle.whatif.proofs.volume.Volume.see.Given as goal

abbrev pub invariant-loop-lane : goal.invariant-loop-lane
invariant-loop-lane l = record {
  volume : IsVolume l.self;
  rest : l.self ≡ record l.initial.self { ups = l.self.ups; settled = l.self.settled };
  seen : (ss : List SpindleState) → AreDisks l.disks ss → l.self.ups.items ≡ map (is_up ss) (take l.lane l.initial.self.loggers.items) ++ drop l.lane l.initial.self.ups.items;
}
