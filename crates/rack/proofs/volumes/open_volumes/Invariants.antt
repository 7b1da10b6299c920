use Rattle.rack.proofs.Basics.{◌≡◌, Some, IsTrue}
use Rattle.rack.proofs.Terms.{BayState, Told, IsOpeningRack, HasBegun, AreRefusedBelow, HaveFaults, AreSameOut}
use Rattle.rack.proofs.volumes.open_volumes.Given as goal

-- the volumes before the one at hand were tried
abbrev pub invariant-loop-id : goal.invariant-loop-id
invariant-loop-id g l = record {
  there : (b : BayState) × IsOpeningRack g.D.Disk.state l.config b l.said l.id l.rack;
  rack : (b : BayState) → IsOpeningRack g.D.Disk.state l.config b l.said 0 l.fn.rack → IsOpeningRack g.D.Disk.state l.config b l.said l.id l.rack;
  keepers : l.rack.keepers ≡ l.fn.rack.keepers;
  same_out : AreSameOut l.fn.rack l.rack;
  begun : IsTrue g.D.Disk.tells → (t : Told) → HasBegun g.D.Disk.state l.config t l.said 0 l.fn.rack → HasBegun g.D.Disk.state l.config t l.said l.id l.rack;
  refused : (b b' : BayState) → (IsTrue g.D.Disk.tells → (t : Told) → b.told ≡ Some t → HasBegun g.D.Disk.state l.config t l.said 0 l.fn.rack)
      → AreRefusedBelow g.D.Disk.tells g.D.Disk.state l.config b b' 0 l.fn.rack → AreRefusedBelow g.D.Disk.tells g.D.Disk.state l.config b b' l.id l.rack;
  failed : HaveFaults g.D.Disk.state l.said l.id l.rack;
}
