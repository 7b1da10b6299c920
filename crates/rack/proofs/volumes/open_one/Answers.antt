use Rattle.rack.proofs.Basics.{◌≡◌, length, refl, sym, subst, arith, inl, inr, ⊎_elim, is_some, ap, Bool, true, Some, with_item}
use Rattle.rack.proofs.Terms.{State, Shared, IsHandedBack, Refuses, HandsBackAll, Opening, OpenRefusal, DiskFault, NoMemory, shapes_of, IsUnopened, NamesVolumes, Refused}
use Rattle.rack.specs.declared.volumes.Unopened.{Unopened}
use Rattle.rack.proofs.SameOut.{out_too, none_too, refuses_too}
use Rattle.rack.proofs.LockedStation.{opened, one_popped, not_none, popped, fault_kept, tried_before, opened_begun}
use Rattle.rack.proofs.Without.{lists_without, nothing_taken, began_still}
use Rattle.rack.proofs.Openable.{can_take, can_open, home_away}
use Rattle.rack_parts.proofs.LocksIssued.{on_err}
use Rattle.rack.proofs.OpenAway.{lanes_home, lanes_others, out_same, unlocked_stopped, unlocked_began}
use Rattle.rack.proofs.volumes.open_one.Goals.{in_default-via-in-Some+in-Some+in_default, in_default-via-in-Some+in_default, in_default-via-in_default}
use Rattle.rack.proofs.BackAgain.{lanes_return, lanes_of_others, owned_return, out_back, names_volumes, begun_again, refused_again, faults_again, stopped_again, opening_again}
use Rattle.rack.proofs.volumes.open_one.Given.{Over}
use Rattle.rack.specs.declared.volumes.Unopened.TheVariants as unopened
use Rattle.rack.proofs.volumes.open_one.Goals as goal

-- what comes with a refusal
handed : {D : Type 0} (tells : Bool) (state : D → State) (shared : Shared D) (o : Opening D) (u : Unopened D) (refusal : OpenRefusal) (n : Opening D) → u ≡ unopened.Refused refusal n → IsUnopened tells state shared o u
    → Refuses tells state o n refusal × IsHandedBack tells state shared o n × HandsBackAll state o n refusal
handed tells state shared o u refusal n is so = subst (IsUnopened tells state shared o) is so

pub take_opening-requires-clause-ready : goal.take_opening-requires-clause-ready
take_opening-requires-clause-ready g c =
    can_take g.D.Disk.state c.args.config.now c.requires.config c.requires.rack.0 c.args.said.now c.args.id c.args.rack.now c.requires.said.0 c.requires.rack.1 c.requires.within c.requires.said.1 c.args.view c.requires.said.2

pub open_locked-requires : goal.open_locked-requires
open_locked-requires g c = λ κs within_κ.
    (within_κ.0, (within_κ.1, (refl, can_open g.D.Disk.state c.args.config.now c.requires.config c.requires.rack.0 c.args.said.now c.args.id c.args.rack.now c.requires.said.0 c.requires.rack.1 c.requires.within c.requires.said.1 c.args.view c.take_opening.new.self c.in_ok-opening.opening c.in_ok-opening.ensures.taken)))

pub put_opening-requires-clause-home : goal.put_opening-requires-clause-home
put_opening-requires-clause-home g c =
    home_away g.D.Disk.state c.args.config.now c.requires.config c.requires.rack.0 c.args.said.now c.args.id c.args.rack.now c.requires.said.0 c.requires.rack.1 c.requires.within c.requires.said.1 c.args.view c.take_opening.new.self c.in_ok-opening.opening c.in_ok-opening.ensures.taken

pub put_opening-requires-clause-lanes : goal.put_opening-requires-clause-lanes
put_opening-requires-clause-lanes g c =
    lanes_return g.D.Disk.state g.D.Disk.tells c.args.config.now c.requires.config c.requires.rack.0 c.args.said.now c.args.id c.args.rack.now c.requires.said.0 c.requires.rack.1 c.requires.within c.requires.said.1 c.args.view c.requires.said.2 c.take_opening.new.self c.in_ok-opening.opening c.in_ok-opening.ensures.taken c.in-Err-Refused.opening (handed g.D.Disk.tells g.D.Disk.state c.args.rack.now.shared c.in_ok-opening.opening c.in-Err-Refused.field-0 c.in-Err-Refused.refusal c.in-Err-Refused.opening c.in-Err-Refused.field-0-is c.in-Err-Refused.ensures.unopened).1

pub put_opening-requires-clause-others : goal.put_opening-requires-clause-others
put_opening-requires-clause-others g c =
    lanes_of_others g.D.Disk.state g.D.Disk.tells c.args.config.now c.requires.config c.requires.rack.0 c.args.said.now c.args.id c.args.rack.now c.requires.said.0 c.requires.rack.1 c.requires.within c.requires.said.1 c.args.view c.requires.said.2 c.take_opening.new.self c.in_ok-opening.opening c.in_ok-opening.ensures.taken c.in-Err-Refused.opening (handed g.D.Disk.tells g.D.Disk.state c.args.rack.now.shared c.in_ok-opening.opening c.in-Err-Refused.field-0 c.in-Err-Refused.refusal c.in-Err-Refused.opening c.in-Err-Refused.field-0-is c.in-Err-Refused.ensures.unopened).1

pub put_opening-requires-clause-owned : goal.put_opening-requires-clause-owned
put_opening-requires-clause-owned g c =
    owned_return g.D.Disk.state g.D.Disk.tells c.args.config.now c.requires.config c.requires.rack.0 c.args.said.now c.args.id c.args.rack.now c.requires.said.0 c.requires.rack.1 c.requires.within c.requires.said.1 c.args.view c.requires.said.2 c.take_opening.new.self c.in_ok-opening.opening c.in_ok-opening.ensures.taken c.in-Err-Refused.opening (handed g.D.Disk.tells g.D.Disk.state c.args.rack.now.shared c.in_ok-opening.opening c.in-Err-Refused.field-0 c.in-Err-Refused.refusal c.in-Err-Refused.opening c.in-Err-Refused.field-0-is c.in-Err-Refused.ensures.unopened).1

pub returns-then-eq-clause-same_out : goal.returns-then-eq-clause-same_out
returns-then-eq-clause-same_out g c =
    out_back g.D.Disk.state g.D.Disk.tells c.args.config.now c.requires.config c.requires.rack.0 c.args.said.now c.args.id c.args.rack.now c.requires.said.0 c.requires.rack.1 c.requires.within c.requires.said.1 c.args.view c.requires.said.2 c.take_opening.new.self c.in_ok-opening.opening c.in_ok-opening.ensures.taken c.in-Err-Refused.opening (handed g.D.Disk.tells g.D.Disk.state c.args.rack.now.shared c.in_ok-opening.opening c.in-Err-Refused.field-0 c.in-Err-Refused.refusal c.in-Err-Refused.opening c.in-Err-Refused.field-0-is c.in-Err-Refused.ensures.unopened).1 c.put_opening.new.self c.put_opening.ensures

pub returns-then-eq-clause-stopped : goal.returns-then-eq-clause-stopped
returns-then-eq-clause-stopped g c = λ b ready.
    let back = (handed g.D.Disk.tells g.D.Disk.state c.args.rack.now.shared c.in_ok-opening.opening c.in-Err-Refused.field-0 c.in-Err-Refused.refusal c.in-Err-Refused.opening c.in-Err-Refused.field-0-is c.in-Err-Refused.ensures.unopened) in
    stopped_again g.D.Disk.state g.D.Disk.tells c.args.config.now c.requires.config b c.args.said.now c.args.id c.args.rack.now c.requires.said.0 ready c.requires.within c.requires.said.1 c.args.view c.requires.said.2 c.take_opening.new.self c.in_ok-opening.opening c.in_ok-opening.ensures.taken c.in-Err-Refused.opening back.1 c.put_opening.new.self c.put_opening.ensures g.met.D.Disk.sound c.in-Err-Refused.refusal back.0 back.2 c.args.rack.now.faults

pub returns-then-eq-clause-began : goal.returns-then-eq-clause-began
returns-then-eq-clause-began g c = λ telling t begun.
    let back = (handed g.D.Disk.tells g.D.Disk.state c.args.rack.now.shared c.in_ok-opening.opening c.in-Err-Refused.field-0 c.in-Err-Refused.refusal c.in-Err-Refused.opening c.in-Err-Refused.field-0-is c.in-Err-Refused.ensures.unopened) in
    (begun_again g.D.Disk.state g.D.Disk.tells c.args.config.now c.requires.config c.requires.rack.0 c.args.said.now c.args.id c.args.rack.now c.requires.said.0 c.requires.rack.1 c.requires.within c.requires.said.1 c.args.view c.requires.said.2 c.take_opening.new.self c.in_ok-opening.opening c.in_ok-opening.ensures.taken c.in-Err-Refused.opening back.1 c.put_opening.new.self c.put_opening.ensures g.met.D.Disk.sound c.in-Err-Refused.refusal back.0 back.2 c.args.rack.now.faults (g.met.D.Disk.told telling) t begun).began

-- want of memory is answered otherwise
not_memory : (g : Over) (c : goal.After-rack-1 g) → c.in-Err-Refused.refusal ≡ NoMemory → ⊥
not_memory g c e =
    let yes : c.eq.result ≡ true = rw e at c.eq.ensures in
    cc (yes, c.if-eq.false)

-- the volumes that the fault names are configured
names : (g : Over) (c : goal.After-rack-1 g) → NamesVolumes (length (shapes_of c.args.config.now)) (Refused c.in-Err-Refused.refusal)
names g c =
    let back = (handed g.D.Disk.tells g.D.Disk.state c.args.rack.now.shared c.in_ok-opening.opening c.in-Err-Refused.field-0 c.in-Err-Refused.refusal c.in-Err-Refused.opening c.in-Err-Refused.field-0-is c.in-Err-Refused.ensures.unopened) in
    names_volumes g.D.Disk.state g.D.Disk.tells c.args.config.now c.requires.config c.requires.rack.0 c.args.said.now c.args.id c.args.rack.now c.requires.said.0 c.requires.rack.1 c.requires.within c.requires.said.1 c.args.view c.take_opening.new.self c.in_ok-opening.opening c.in_ok-opening.ensures.taken c.in-Err-Refused.opening c.in-Err-Refused.refusal back.0 (not_memory g c)

pub returns-in-Err-Refused-clause-rack : goal.returns-in-Err-Refused-clause-rack
returns-in-Err-Refused-clause-rack g c = λ b ready.
    let back = (handed g.D.Disk.tells g.D.Disk.state c.args.rack.now.shared c.in_ok-opening.opening c.in-Err-Refused.field-0 c.in-Err-Refused.refusal c.in-Err-Refused.opening c.in-Err-Refused.field-0-is c.in-Err-Refused.ensures.unopened) in
    opening_again g.D.Disk.state g.D.Disk.tells c.args.config.now c.requires.config b c.args.said.now c.args.id c.args.rack.now c.requires.said.0 ready c.requires.within c.requires.said.1 c.args.view c.requires.said.2 c.take_opening.new.self c.in_ok-opening.opening c.in_ok-opening.ensures.taken c.in-Err-Refused.opening back.1 c.put_opening.new.self c.put_opening.ensures g.met.D.Disk.sound c.in-Err-Refused.refusal back.0 back.2 (with_item c.args.rack.now.faults c.args.id (Some (Refused c.in-Err-Refused.refusal))) refl (names g c)

pub returns-in-Err-Refused-clause-same_out : goal.returns-in-Err-Refused-clause-same_out
returns-in-Err-Refused-clause-same_out g c =
    out_back g.D.Disk.state g.D.Disk.tells c.args.config.now c.requires.config c.requires.rack.0 c.args.said.now c.args.id c.args.rack.now c.requires.said.0 c.requires.rack.1 c.requires.within c.requires.said.1 c.args.view c.requires.said.2 c.take_opening.new.self c.in_ok-opening.opening c.in_ok-opening.ensures.taken c.in-Err-Refused.opening (handed g.D.Disk.tells g.D.Disk.state c.args.rack.now.shared c.in_ok-opening.opening c.in-Err-Refused.field-0 c.in-Err-Refused.refusal c.in-Err-Refused.opening c.in-Err-Refused.field-0-is c.in-Err-Refused.ensures.unopened).1 c.put_opening.new.self c.put_opening.ensures

pub returns-in-Err-Refused-clause-begun : goal.returns-in-Err-Refused-clause-begun
returns-in-Err-Refused-clause-begun g c = λ telling t begun.
    let back = (handed g.D.Disk.tells g.D.Disk.state c.args.rack.now.shared c.in_ok-opening.opening c.in-Err-Refused.field-0 c.in-Err-Refused.refusal c.in-Err-Refused.opening c.in-Err-Refused.field-0-is c.in-Err-Refused.ensures.unopened) in
    begun_again g.D.Disk.state g.D.Disk.tells c.args.config.now c.requires.config c.requires.rack.0 c.args.said.now c.args.id c.args.rack.now c.requires.said.0 c.requires.rack.1 c.requires.within c.requires.said.1 c.args.view c.requires.said.2 c.take_opening.new.self c.in_ok-opening.opening c.in_ok-opening.ensures.taken c.in-Err-Refused.opening back.1 c.put_opening.new.self c.put_opening.ensures g.met.D.Disk.sound c.in-Err-Refused.refusal back.0 back.2 (with_item c.args.rack.now.faults c.args.id (Some (Refused c.in-Err-Refused.refusal))) (g.met.D.Disk.told telling) t begun

pub returns-in-Err-Refused-clause-refused : goal.returns-in-Err-Refused-clause-refused
returns-in-Err-Refused-clause-refused g c = λ entry now begun refused.
    let back = (handed g.D.Disk.tells g.D.Disk.state c.args.rack.now.shared c.in_ok-opening.opening c.in-Err-Refused.field-0 c.in-Err-Refused.refusal c.in-Err-Refused.opening c.in-Err-Refused.field-0-is c.in-Err-Refused.ensures.unopened) in
    refused_again g.D.Disk.state g.D.Disk.tells c.args.config.now c.requires.config c.requires.rack.0 c.args.said.now c.args.id c.args.rack.now c.requires.said.0 c.requires.rack.1 c.requires.within c.requires.said.1 c.args.view c.requires.said.2 c.take_opening.new.self c.in_ok-opening.opening c.in_ok-opening.ensures.taken c.in-Err-Refused.opening back.1 c.put_opening.new.self c.put_opening.ensures g.met.D.Disk.sound c.in-Err-Refused.refusal back.0 back.2 (with_item c.args.rack.now.faults c.args.id (Some (Refused c.in-Err-Refused.refusal))) refl (names g c) entry now begun refused

pub returns-in-Err-Refused-clause-failed : goal.returns-in-Err-Refused-clause-failed
returns-in-Err-Refused-clause-failed g c = λ have.
    let back = (handed g.D.Disk.tells g.D.Disk.state c.args.rack.now.shared c.in_ok-opening.opening c.in-Err-Refused.field-0 c.in-Err-Refused.refusal c.in-Err-Refused.opening c.in-Err-Refused.field-0-is c.in-Err-Refused.ensures.unopened) in
    faults_again g.D.Disk.state g.D.Disk.tells c.args.config.now c.requires.config c.requires.rack.0 c.args.said.now c.args.id c.args.rack.now c.requires.said.0 c.requires.rack.1 c.requires.within c.requires.said.1 c.args.view c.requires.said.2 c.take_opening.new.self c.in_ok-opening.opening c.in_ok-opening.ensures.taken c.in-Err-Refused.opening back.1 c.put_opening.new.self c.put_opening.ensures g.met.D.Disk.sound c.in-Err-Refused.refusal back.0 back.2 (with_item c.args.rack.now.faults c.args.id (Some (Refused c.in-Err-Refused.refusal))) refl (names g c) have

pub put_manager-requires-clause-home : goal.put_manager-requires-clause-home
put_manager-requires-clause-home g c =
    home_away g.D.Disk.state c.args.config.now c.requires.config c.requires.rack.0 c.args.said.now c.args.id c.args.rack.now c.requires.said.0 c.requires.rack.1 c.requires.within c.requires.said.1 c.args.view c.take_opening.new.self c.in_ok-opening.opening c.in_ok-opening.ensures.taken

pub put_manager-requires-clause-lanes : goal.put_manager-requires-clause-lanes
put_manager-requires-clause-lanes g c =
    lanes_home g.D.Disk.tells g.D.Disk.state c.args.config.now c.requires.config c.requires.rack.0 c.args.said.now c.args.id c.args.rack.now c.requires.said.0 c.requires.rack.1 c.requires.within c.requires.said.1 c.args.view c.requires.said.2 c.take_opening.new.self c.in_ok-opening.opening c.in_ok-opening.ensures.taken c.in-Err-NoRoom.manager (subst (IsUnopened g.D.Disk.tells g.D.Disk.state c.args.rack.now.shared c.in_ok-opening.opening) c.in-Err-NoRoom.field-0-is c.in-Err-NoRoom.ensures.unopened) c.release.result c.release.ensures.home c.release.ensures.spindle c.release.ensures.lanes

pub put_manager-requires-clause-others : goal.put_manager-requires-clause-others
put_manager-requires-clause-others g c =
    lanes_others g.D.Disk.tells g.D.Disk.state c.args.config.now c.requires.config c.requires.rack.0 c.args.said.now c.args.id c.args.rack.now c.requires.said.0 c.requires.rack.1 c.requires.within c.requires.said.1 c.args.view c.requires.said.2 c.take_opening.new.self c.in_ok-opening.opening c.in_ok-opening.ensures.taken c.in-Err-NoRoom.manager (subst (IsUnopened g.D.Disk.tells g.D.Disk.state c.args.rack.now.shared c.in_ok-opening.opening) c.in-Err-NoRoom.field-0-is c.in-Err-NoRoom.ensures.unopened) c.release.result c.release.ensures.home c.release.ensures.spindle c.release.ensures.lanes

pub returns-in-Err-NoRoom-clause-same_out : goal.returns-in-Err-NoRoom-clause-same_out
returns-in-Err-NoRoom-clause-same_out g c =
    out_same g.D.Disk.tells g.D.Disk.state c.args.config.now c.requires.config c.requires.rack.0 c.args.said.now c.args.id c.args.rack.now c.requires.said.0 c.requires.rack.1 c.requires.within c.requires.said.1 c.args.view c.requires.said.2 c.take_opening.new.self c.in_ok-opening.opening c.in_ok-opening.ensures.taken c.in-Err-NoRoom.manager (subst (IsUnopened g.D.Disk.tells g.D.Disk.state c.args.rack.now.shared c.in_ok-opening.opening) c.in-Err-NoRoom.field-0-is c.in-Err-NoRoom.ensures.unopened) c.release.result c.release.ensures.home c.release.ensures.spindle c.release.ensures.lanes c.put_manager.new.self c.put_manager.ensures

pub returns-in-Err-NoRoom-clause-stopped : goal.returns-in-Err-NoRoom-clause-stopped
returns-in-Err-NoRoom-clause-stopped g c = λ b ready.
    unlocked_stopped g.D.Disk.tells g.D.Disk.state c.args.config.now c.requires.config b c.args.said.now c.args.id c.args.rack.now c.requires.said.0 ready c.requires.within c.requires.said.1 c.args.view c.requires.said.2 c.take_opening.new.self c.in_ok-opening.opening c.in_ok-opening.ensures.taken c.in-Err-NoRoom.manager (subst (IsUnopened g.D.Disk.tells g.D.Disk.state c.args.rack.now.shared c.in_ok-opening.opening) c.in-Err-NoRoom.field-0-is c.in-Err-NoRoom.ensures.unopened) c.release.result c.release.ensures.home c.release.ensures.spindle c.release.ensures.lanes c.put_manager.new.self c.put_manager.ensures g.met.D.Disk.sound

pub returns-in-Err-NoRoom-clause-began : goal.returns-in-Err-NoRoom-clause-began
returns-in-Err-NoRoom-clause-began g c = λ tells t begun.
    unlocked_began g.D.Disk.tells g.D.Disk.state c.args.config.now c.requires.config c.requires.rack.0 c.args.said.now c.args.id c.args.rack.now c.requires.said.0 c.requires.rack.1 c.requires.within c.requires.said.1 c.args.view c.requires.said.2 c.take_opening.new.self c.in_ok-opening.opening c.in_ok-opening.ensures.taken c.in-Err-NoRoom.manager (subst (IsUnopened g.D.Disk.tells g.D.Disk.state c.args.rack.now.shared c.in_ok-opening.opening) c.in-Err-NoRoom.field-0-is c.in-Err-NoRoom.ensures.unopened) c.release.result c.release.ensures.home c.release.ensures.spindle c.release.ensures.lanes c.put_manager.new.self c.put_manager.ensures g.met.D.Disk.sound (g.met.D.Disk.told tells) t begun

pub unreachable-requires : goal.unreachable-requires
unreachable-requires g c =
    let first = c.pop.ensures.variant.1 (omega (arith, c.in-Ok.ensures.locked.count, c.in-Ok.locked.1.ok.0)) in
    let one = one_popped c.pop.result first in
    let second = c.pop-2.ensures.variant.1 (omega (arith, c.in-Ok.ensures.locked.count, c.in-Ok.locked.1.ok.0, one, c.pop.ensures.len)) in
    let two = one_popped c.pop-2.result second in
    let third = c.pop-3.ensures.variant.1 (omega (arith, c.in-Ok.ensures.locked.count, c.in-Ok.locked.1.ok.0, one, c.pop.ensures.len, two, c.pop-2.ensures.len)) in
    elim c.in_default.branch [
      | in_default-via-in-Some+in-Some+in_default w ↦ not_none c.pop-3.result third w.in_default.is-2
      | in_default-via-in-Some+in_default w ↦ not_none c.pop-2.result second w.in_default.is-1
      | in_default-via-in_default w ↦ not_none c.pop.result first w.in_default.is-0
    ]

pub returns-clause-rack : goal.returns-clause-rack
returns-clause-rack g c = λ b ready.
    let pops = popped c.in-Ok.locked.1.items c.pop.new.self.items c.pop-2.new.self.items c.pop-3.new.self.items c.in-Some-Some-Some.worker c.in-Some-Some-Some.helper c.in-Some-Some-Some.keeper c.in-Ok.ensures.locked.count c.in-Some-Some-Some.ensures.items c.in-Some-Some-Some.ensures'.items c.in-Some-Some-Some.ensures''.items in
    opened g.D.Disk.tells g.D.Disk.state c.args.config.now c.requires.config b c.args.said.now c.args.id c.args.rack.now c.requires.said.0 ready c.requires.within c.requires.said.1 c.args.view c.requires.said.2 c.take_opening.new.self
    c.in_ok-opening.opening c.in_ok-opening.ensures.taken c.in-Ok.locked.0 c.in-Ok.locked.1.items c.in-Ok.ensures.locked c.in-Some-Some-Some.worker c.in-Some-Some-Some.helper c.in-Some-Some-Some.keeper
    pops.first pops.second pops.third c.push_reserved-2.new.self c.push_reserved-2.ensures.items c.push_reserved-2.ensures.capacity c.push_reserved.new.self c.pop-3.new.self c.push_reserved.ensures.items c.push_reserved.ensures.capacity pops.empty (omega (arith, c.in-Ok.ensures.locked.count, c.in-Ok.locked.1.ok.0, c.in-Ok.locked.1.ok.1, c.pop.ensures.capacity, c.pop-2.ensures.capacity, c.pop-3.ensures.capacity))

pub returns-clause-same_out : goal.returns-clause-same_out
returns-clause-same_out g c =
    lists_without g.D.Disk.state c.args.config.now c.args.said.now c.args.id c.args.view c.args.rack.now.rest c.take_opening.new.self c.in_ok-opening.opening c.in_ok-opening.ensures.taken

pub returns-clause-begun : goal.returns-clause-begun
returns-clause-begun g c = λ telling t begun.
    opened_begun g.D.Disk.tells g.D.Disk.state c.args.config.now c.requires.config c.requires.rack.0 c.args.said.now c.args.id c.args.rack.now c.requires.said.0 c.requires.rack.1 c.requires.within c.requires.said.1 c.args.view c.requires.said.2 c.take_opening.new.self
    c.in_ok-opening.opening c.in_ok-opening.ensures.taken c.in-Ok.locked.0 c.in-Ok.locked.1.items c.in-Ok.ensures.locked c.in-Some-Some-Some.worker c.in-Some-Some-Some.helper c.in-Some-Some-Some.keeper
    telling t begun c.push_reserved-2.new.self c.push_reserved-2.ensures.items (record c.take_opening.new.self.rooms { managers = c.push_reserved.new.self })

pub returns-clause-refused : goal.returns-clause-refused
returns-clause-refused g c = λ b b' premise below k v f or conf is.
    let same = lists_without g.D.Disk.state c.args.config.now c.args.said.now c.args.id c.args.view c.args.rack.now.rest c.take_opening.new.self c.in_ok-opening.opening c.in_ok-opening.ensures.taken in
    refuses_too c.args.rack.now.rest.images.items c.take_opening.new.self.images.items (sym same) g.D.Disk.tells g.D.Disk.state c.args.config.now b b' k v f
    (below k v f (tried_before g.D.Disk.state c.args.config.now c.requires.config c.requires.rack.0 c.args.said.now c.args.id c.args.rack.now c.requires.said.0 c.requires.rack.1 c.requires.within c.requires.said.1 k f is
    (⊎_elim (λ less. inl less) (λ none. inr (none_too c.take_opening.new.self.images.items c.args.rack.now.rest.images.items same k none)) or)) conf is)

pub returns-clause-failed : goal.returns-clause-failed
returns-clause-failed g c = λ have k p less out is.
    let same = lists_without g.D.Disk.state c.args.config.now c.args.said.now c.args.id c.args.view c.args.rack.now.rest c.take_opening.new.self c.in_ok-opening.opening c.in_ok-opening.ensures.taken in
    let was = out_too c.take_opening.new.self.images.items c.args.rack.now.rest.images.items same k out in
    ⊎_elim
    (λ before.
    fault_kept g.D.Disk.state c.args.config.now c.args.said.now c.args.id c.args.rack.now c.args.view c.take_opening.new.self
    c.in_ok-opening.opening c.in_ok-opening.ensures.taken (record c.take_opening.new.self.rooms { managers = c.push_reserved.new.self }) k p (λ e. omega (arith, e, before)) (have k p before was is))
    (λ none. absurd (let no = ap is_some none in cc (no, was)))
    (tried_before g.D.Disk.state c.args.config.now c.requires.config c.requires.rack.0 c.args.said.now c.args.id c.args.rack.now c.requires.said.0 c.requires.rack.1 c.requires.within c.requires.said.1 k (Refused (DiskFault p)) is (inl less))

pub returns-in_err-opening-clause-stopped : goal.returns-in_err-opening-clause-stopped
returns-in_err-opening-clause-stopped g c = λ b ready.
    on_err c.from_residual.result _ (nothing_taken g.D.Disk.state c.args.config.now c.args.said.now c.args.id c.args.rack.now c.take_opening.new.self c.in_err-opening.ensures.same b ready)

pub returns-in_err-opening-clause-began : goal.returns-in_err-opening-clause-began
returns-in_err-opening-clause-began g c = λ tells t begun.
    on_err c.from_residual.result _ (began_still g.D.Disk.state c.args.config.now c.args.said.now c.args.id c.args.rack.now c.take_opening.new.self c.in_err-opening.ensures.same t begun)
