-- A write goes home, or to the log on a logger.
use Rattle.std.proofs.Common.{◌<◌, ℕ, Bool, [], ◌∷◌, length, Some, refl, sym, ap, subst, ◌∙◌}
use Rattle.wol_model.specs.Placing.{Place, Home, Log, Full}
use Rattle.wol_promise.specs.Policy.{Look}
use Rattle.whatif.specs.declared.volume.Volume.{Volume}
use Rattle.whatif.specs.Disks.{AreDisks}
use Rattle.wol_model.specs.Blocks.{changed_at}
use Rattle.whatif.specs.Machine.{accessed, filed_at}
use Rattle.whatif.specs.Logs.{filed_on}
use Rattle.whatif.specs.Volumes.{look_in, reach_in, store_in}
use Rattle.whatif.proofs.Written.{lane_under, to_home, to_log, to_none, wrote}
use Rattle.whatif.proofs.Doing.{place_within, same_length}
use Rattle.whatif.proofs.Waiting.{late_nowhere, late_write}
use Rattle.whatif.proofs.volume.Volume.write.Goals as goal

pub log-requires-clause-lane : goal.log-requires-clause-lane
log-requires-clause-lane c = lane_under c.args.self.now c.args.lbn c.args.count c.covered-covered.result c.as_slice.result.now c.as_slice-2.result.now c.place.result c.requires.volume c.as_slice.ensures.value c.as_slice-2.ensures.value c.covered-covered.ensures c.place.ensures.value c.place.ensures.model c.in-Log.lane c.in-Log.is

pub access_at-requires-in-Log-clause-within : goal.access_at-requires-in-Log-clause-within
access_at-requires-in-Log-clause-within c =
    subst (λ (d : ℕ). d < length c.args.disks.now) (sym c.in_ok-disk-in-Log.ensures.disk) (place_within (length c.args.disks.now) (reach_in c.args.self.now) c.in-Log.lane c.requires.within)

pub lag_at-requires-in-Log-clause-within : goal.lag_at-requires-in-Log-clause-within
lag_at-requires-in-Log-clause-within c =
    let under = place_within (length c.args.disks.now) (reach_in c.args.self.now) c.in-Log.lane c.requires.within in
    subst (λ (n : ℕ). c.in_ok-disk-in-Log.disk < n) (same_length c.args.disks.now c.access_at-in-Log.new.disks c.access_at-in-Log.ensures.moments) (subst (λ (d : ℕ). d < length c.args.disks.now) (sym c.in_ok-disk-in-Log.ensures.disk) under)

pub returns-in-Home-clause-done : goal.returns-in-Home-clause-done
returns-in-Home-clause-done c =
    let v = c.args.self.now in let rest = c.see_home.ensures.rest in
    wrote c.args.lbn c.args.count Home v c.see_home.new.self c.args.disks.now c.access_at.new.disks (to_home c.args.self.now c.args.lbn c.args.count c.covered-covered.result c.as_slice.result.now c.as_slice-2.result.now c.place.result c.requires.volume c.as_slice.ensures.value c.as_slice-2.ensures.value c.covered-covered.ensures c.place.ensures.value c.place.ensures.model c.in-Home.is) (ap reach_in rest)
    (ap look_in rest ∙ ap (λ (h : Bool). (let l : Look = record (look_in v) { home_up = h } in l)) c.see_home.ensures.flag) (ap (λ (x : Volume). store_in x.store) rest)
    (λ t ss are. subst (λ (d : ℕ). AreDisks c.access_at.new.disks (changed_at d (accessed t) ss)) (ap (λ (x : Volume). x.own) rest) (c.access_at.ensures.stands t ss are))

pub returns-in-Full-clause-done : goal.returns-in-Full-clause-done
returns-in-Full-clause-done c = wrote c.args.lbn c.args.count Full c.args.self.now c.args.self.now c.args.disks.now c.args.disks.now (to_none c.args.self.now c.args.lbn c.args.count c.covered-covered.result c.as_slice.result.now c.as_slice-2.result.now c.place.result c.requires.volume c.as_slice.ensures.value c.as_slice-2.ensures.value c.covered-covered.ensures c.place.ensures.value c.place.ensures.model c.in-Full.is) refl refl refl (λ t ss are. are)

pub returns-in_ok-disk-in-Log-clause-done : goal.returns-in_ok-disk-in-Log-clause-done
returns-in_ok-disk-in-Log-clause-done c =
    let v = c.args.self.now in let e = c.in_ok-disk-in-Log.ensures in let lane = c.in-Log.lane in
    wrote c.args.lbn c.args.count (Log lane) v c.log.new.self c.args.disks.now c.access_at-in-Log.new.disks (to_log c.args.self.now c.args.lbn c.args.count c.covered-covered.result c.as_slice.result.now c.as_slice-2.result.now c.place.result c.requires.volume c.as_slice.ensures.value c.as_slice-2.ensures.value c.covered-covered.ensures c.place.ensures.value c.place.ensures.model lane c.in-Log.is) e.reach e.look e.store
    (λ t ss are. subst (λ (d : ℕ). AreDisks c.access_at-in-Log.new.disks (changed_at d (accessed t) ss)) e.disk (c.access_at-in-Log.ensures.stands t ss are))

pub returns-in-Home-clause-late : goal.returns-in-Home-clause-late
returns-in-Home-clause-late c =
    let own = ap (λ (x : Volume). x.own) c.see_home.ensures.rest in
    late_write c.args.spin_up c.args.lbn c.args.count Home c.args.self.now c.args.disks.now c.access_at.new.disks c.see_home.new.self.own c.lag_at.result
    (to_home c.args.self.now c.args.lbn c.args.count c.covered-covered.result c.as_slice.result.now c.as_slice-2.result.now c.place.result c.requires.volume c.as_slice.ensures.value c.as_slice-2.ensures.value c.covered-covered.ensures c.place.ensures.value c.place.ensures.model c.in-Home.is)
    (λ i. sym own i ∷ []) (λ t ss are. c.access_at.ensures.stands t ss are) (λ ss are. c.lag_at.ensures.value ss are)

pub returns-in-Full-clause-late : goal.returns-in-Full-clause-late
returns-in-Full-clause-late c =
    late_nowhere c.args.spin_up c.args.lbn c.args.count c.args.self.now c.args.disks.now
    (to_none c.args.self.now c.args.lbn c.args.count c.covered-covered.result c.as_slice.result.now c.as_slice-2.result.now c.place.result c.requires.volume c.as_slice.ensures.value c.as_slice-2.ensures.value c.covered-covered.ensures c.place.ensures.value c.place.ensures.model c.in-Full.is)

pub returns-in_ok-disk-in-Log-clause-late : goal.returns-in_ok-disk-in-Log-clause-late
returns-in_ok-disk-in-Log-clause-late c =
    let v = c.args.self.now in let e = c.in_ok-disk-in-Log.ensures in let lane = c.in-Log.lane in
    late_write c.args.spin_up c.args.lbn c.args.count (Log lane) v c.args.disks.now c.access_at-in-Log.new.disks c.in_ok-disk-in-Log.disk c.lag_at-in-Log.result
    (to_log c.args.self.now c.args.lbn c.args.count c.covered-covered.result c.as_slice.result.now c.as_slice-2.result.now c.place.result c.requires.volume c.as_slice.ensures.value c.as_slice-2.ensures.value c.covered-covered.ensures c.place.ensures.value c.place.ensures.model lane c.in-Log.is)
    (λ i. sym e.disk i ∷ []) (λ t ss are. c.access_at-in-Log.ensures.stands t ss are) (λ ss are. c.lag_at-in-Log.ensures.value ss are)

pub returns-in-Home-clause-log : goal.returns-in-Home-clause-log
returns-in-Home-clause-log c =
    sym (ap (λ (p : Place). filed_on (filed_at c.args.self.now.next c.args.count (reach_in c.args.self.now) p))
    (to_home c.args.self.now c.args.lbn c.args.count c.covered-covered.result c.as_slice.result.now c.as_slice-2.result.now c.place.result c.requires.volume c.as_slice.ensures.value c.as_slice-2.ensures.value c.covered-covered.ensures c.place.ensures.value c.place.ensures.model c.in-Home.is))

pub returns-in-Full-clause-log : goal.returns-in-Full-clause-log
returns-in-Full-clause-log c =
    sym (ap (λ (p : Place). filed_on (filed_at c.args.self.now.next c.args.count (reach_in c.args.self.now) p))
    (to_none c.args.self.now c.args.lbn c.args.count c.covered-covered.result c.as_slice.result.now c.as_slice-2.result.now c.place.result c.requires.volume c.as_slice.ensures.value c.as_slice-2.ensures.value c.covered-covered.ensures c.place.ensures.value c.place.ensures.model c.in-Full.is))

pub returns-in_ok-disk-in-Log-clause-log : goal.returns-in_ok-disk-in-Log-clause-log
returns-in_ok-disk-in-Log-clause-log c =
    ap Some c.in_ok-disk-in-Log.ensures.disk
    ∙ sym (ap (λ (p : Place). filed_on (filed_at c.args.self.now.next c.args.count (reach_in c.args.self.now) p))
    (to_log c.args.self.now c.args.lbn c.args.count c.covered-covered.result c.as_slice.result.now c.as_slice-2.result.now c.place.result c.requires.volume c.as_slice.ensures.value c.as_slice-2.ensures.value c.covered-covered.ensures c.place.ensures.value c.place.ensures.model c.in-Log.lane c.in-Log.is))
