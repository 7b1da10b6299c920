-- A trace is served on the stations of a rack, which come back.
use Rattle.replay.proofs.Basics.{◌≡◌, ◌+◌, ℕ, Bool, List, [], ◌∷◌, refl, sym, ap, subst, ◌∙◌, Option, None, Some, Result, Ok, Err, IfErr}
use Rattle.replay.proofs.Basics.{IfOk, MatchResult, Global, Vec}
use Rattle.replay.proofs.Terms.{Shared, Station, ManagerLock, SpindlePass, IsFloor, IsOn, AreStations, IsMoved, Floor, Config, Rack}
use Rattle.replay.proofs.Terms.{keeps_same, Fault, Memory, TraceSource, VolumeFault, first_closed, CanServe, RunsIn, ServesFrom, closed}
use Rattle.replay.proofs.Terms.{locks_of, new_session, no_memory, served, AreSamePasses, AreVolumes, IsSession, ServesSome, ServesWhole}
use Rattle.replay.proofs.Terms.{Counted, Given, Options, Session, Stop}
use Rattle.replay.specs.declared.stop.Stop.TheVariants as stop

-- stations that can serve, on their floor
pub session_ready : {D : Type 0} (config : Config) (shared : Shared D) (stations : List (Station D)) (keepers : Vec SpindlePass Global) (floor : Floor D) → CanServe config shared stations keepers.items
    → IsMoved stations floor → IsFloor floor → IsSession config shared (new_session floor keepers)
session_ready {D} config shared stations keepers floor can moved is = record {
  ready = record {
    floor_ = is;
    on = subst (λ (ls : List (ManagerLock D)). IsOn shared ls) (sym moved.locks) can.on;
    keepers_ = can.keepers_;
  };
  volumes = subst (λ (ls : List (ManagerLock D)). AreVolumes config ls) (sym moved.locks) can.volumes;
}

-- .. and taken from it
pub can_again : {D : Type 0} (config : Config) (shared : Shared D) (s : Session D) (stations : List (Station D)) → IsSession config shared s → IsMoved stations s.floor → AreStations stations
    → CanServe config shared stations s.keepers.items
can_again {D} config shared s stations is moved each = record {
  each = each;
  keepers_ = is.ready.keepers_;
  on = subst (λ (ls : List (ManagerLock D)). IsOn shared ls) moved.locks is.ready.on;
  volumes = subst (λ (ls : List (ManagerLock D)). AreVolumes config ls) moved.locks is.volumes;
}

match_both : {T E : Type 0} (P : T → Type 0) (Q : E → Type 0) (r : Result T E) → IfOk r P → IfErr r Q → MatchResult r P Q
match_both P Q (Ok x) whole some = whole
match_both P Q (Err e) whole some = some

module _ {D S : Type 0} (tells : Bool) (left : S → Option (List ℕ)) (config : Config) (options : Options) (start now : Given S) (old new : Rack D) (faults faults' : ℕ) (printed printed' : Option (List ℕ)) where
  pub serves_from : (before : Floor D) (result : Result Counted Stop) (s t : Session D) (keepers : Vec SpindlePass Global) (stations : Vec (Station D) Global)
      → s ≡ new_session before keepers → keepers ≡ old.keepers
      → IsSession config old.shared t → AreSamePasses s.keepers.items t.keepers.items → t.floor.locks ≡ s.floor.locks
      → IfOk result (λ counted. ServesWhole tells left config options start now s.floor s.keepers.items t.floor t.keepers.items counted faults faults' printed printed')
      → IfErr result (λ e. ServesSome tells left config options start e now s.floor s.keepers.items t.floor t.keepers.items faults faults' printed printed')
      → IsMoved stations.items t.floor → AreStations stations.items
      → new ≡ record old { keepers = t.keepers; stations = stations }
      → ServesFrom tells left config options start now old new faults faults' printed printed' before result
  serves_from before result s t keepers stations s_is k_is session same locks whole some moved each new_is =
      let keep : s.keepers ≡ old.keepers = ap (λ (x : Session D). x.keepers) s_is ∙ k_is in
      let floor : s.floor ≡ before = ap (λ (x : Session D). x.floor) s_is in
      let new_keepers : new.keepers ≡ t.keepers = ap (λ (x : Rack D). x.keepers) new_is in
      let new_stations : new.stations ≡ stations = ap (λ (x : Rack D). x.stations) new_is in
      let new_shared : new.shared ≡ old.shared = ap (λ (x : Rack D). x.shared) new_is in
      let both = match_both (λ counted. ServesWhole tells left config options start now s.floor s.keepers.items t.floor t.keepers.items counted faults faults' printed printed')
      (λ e. ServesSome tells left config options start e now s.floor s.keepers.items t.floor t.keepers.items faults faults' printed printed') result whole some in
      record {
        only = new_is ∙ (λ i. record old { keepers = sym new_keepers i; stations = sym new_stations i });
        after = t.floor;
        moved_back = subst (λ (x : Vec (Station D) Global). IsMoved x.items t.floor) (sym new_stations) moved;
        can = subst (λ (x : Shared D). CanServe config x new.stations.items new.keepers.items) (sym new_shared)
            (subst (λ (x : Vec (Station D) Global). CanServe config old.shared x.items new.keepers.items) (sym new_stations)
            (subst (λ (x : Vec SpindlePass Global). CanServe config old.shared stations.items x.items) (sym new_keepers) (can_again config old.shared t stations.items session moved each)));
        locks = subst (λ (x : Vec (Station D) Global). locks_of x.items ≡ before.locks.now) (sym new_stations)
            (sym moved.locks ∙ ap (λ x. x.now) locks ∙ ap (λ (x : Floor D). x.locks.now) floor);
        same = subst (λ (x : Vec SpindlePass Global). AreSamePasses old.keepers.items x.items) (sym new_keepers) (subst (λ (x : Vec SpindlePass Global). AreSamePasses x.items t.keepers.items) keep same);
        served = subst (λ (x : Vec SpindlePass Global). MatchResult result (λ counted. ServesWhole tells left config options start now before old.keepers.items t.floor x.items counted faults faults' printed printed')
            (λ e. ServesSome tells left config options start e now before old.keepers.items t.floor x.items faults faults' printed printed')) (sym new_keepers)
            (subst (λ (x : Vec SpindlePass Global). MatchResult result (λ counted. ServesWhole tells left config options start now before x.items t.floor t.keepers.items counted faults faults' printed printed')
            (λ e. ServesSome tells left config options start e now before x.items t.floor t.keepers.items faults faults' printed printed')) keep
            (subst (λ (x : Floor D). MatchResult result (λ counted. ServesWhole tells left config options start now x s.keepers.items t.floor t.keepers.items counted faults faults' printed printed')
            (λ e. ServesSome tells left config options start e now x s.keepers.items t.floor t.keepers.items faults faults' printed printed')) floor both));
      }

-- ---- Whether it is served

closed_volume : (k : ℕ) (faults : List (Option VolumeFault)) → first_closed k faults ≡ Some TraceSource → ⊥
closed_volume k [] is = cc
closed_volume k (None ∷ faults) is = closed_volume (k + 1) faults is
closed_volume k (Some f ∷ faults) is = cc

-- no volume that isn't open is told of as a failed source
pub closed_otherwise : {T : Type 0} (faults : List (Option VolumeFault)) (r : Option Fault) (f : Fault) → r ≡ first_closed 0 faults → r ≡ Some f → ◌≡◌ {A = Result T Stop} (Err (stop.Fault f)) (Err (stop.Fault TraceSource)) → ⊥
closed_otherwise {T} faults r f is some same = let told : f ≡ TraceSource = cc same in closed_volume 0 faults (sym is ∙ some ∙ ap (λ (x : Fault). Some x) told)

pub never_some : {X : Type 0} (r : Option X) → ((x : X) → r ≡ Some x → ⊥) → r ≡ None
never_some None never = refl
never_some (Some x) never = absurd (never x refl)

module _ {D S : Type 0} (tells : Bool) (left : S → Option (List ℕ)) (config : Config) (options : Options) (start : Given S) (old : Rack D) (faults : ℕ) (printed : Option (List ℕ)) where
  pub closed_runs : (slice : List (Option VolumeFault)) (r : Option Fault) (f : Fault) → slice ≡ old.faults.items → r ≡ first_closed 0 slice → r ≡ Some f
      → RunsIn tells left config options start start old old faults faults printed printed (Err (stop.Fault f))
  closed_runs slice r f same is some =
      closed f (ap (first_closed 0) (sym same) ∙ sym is ∙ some) (record { same = refl; unread = refl; calm = refl; kept = keeps_same printed })

  pub no_memory_runs : (new : Rack D) (slice : List (Option VolumeFault)) (r : Option Fault) → slice ≡ old.faults.items → r ≡ first_closed 0 slice → r ≡ None → new ≡ old
      → RunsIn tells left config options start start old new faults faults printed printed (Err (stop.Fault Memory))
  no_memory_runs new slice r same is none stays =
      no_memory (ap (first_closed 0) (sym same) ∙ sym is ∙ none) (record { same = stays; unread = refl; calm = refl; kept = keeps_same printed })

module _ {D S : Type 0} (tells : Bool) (left : S → Option (List ℕ)) (config : Config) (options : Options) (start now : Given S) (old new : Rack D) (faults faults' : ℕ) (printed printed' : Option (List ℕ)) where
  -- the rack that it was served on had its stations on the floor
  pub served_runs : (slice : List (Option VolumeFault)) (r : Option Fault) (before : Floor D) (none_there stations : Vec (Station D) Global) (result : Result Counted Stop) → slice ≡ old.faults.items → r ≡ first_closed 0 slice → r ≡ None
      → stations ≡ old.stations → IsMoved stations.items before → ServesFrom tells left config options start now (record old { stations = none_there }) new faults faults' printed printed' before result
      → RunsIn tells left config options start now old new faults faults' printed printed' result
  served_runs slice r before none_there stations result same is none were moved from =
      served result (ap (first_closed 0) (sym same) ∙ sym is ∙ none) before (subst (λ (x : Vec (Station D) Global). IsMoved x.items before) were moved)
      (record { only = from.only; after = from.after; moved_back = from.moved_back; can = from.can; locks = from.locks; same = from.same; served = from.served })
