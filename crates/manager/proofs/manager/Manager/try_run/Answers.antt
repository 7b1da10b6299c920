use Rattle.std.proofs.Common.{◌≡◌, ℕ, true, false, List, length, refl, ap, subst, ◌∙◌}
use Rattle.std.specs.Prelude.{slice_set}
use Rattle.std.proofs.Math.ListN.{length-set}
use Rattle.wol_model.specs.Index.{listed_in}
use Rattle.offload_policy.specs.declared.Room.{Room}
use Rattle.offload_policy.specs.declared.Room.TheVariants.{No}
use Rattle.manager.specs.Joining.{GoTogether}
use Rattle.manager.specs.Offers.{IsTurnedAway, ChangesLane}
use Rattle.manager.specs.Stands.{passed_in}
use Rattle.manager.specs.declared.manager.Manager.{Manager}
use Rattle.manager.proofs.Bounds.{take_some, take_below, take_room, of_front, count_below}
use Rattle.volume_parts.proofs.Elements.{refill_set}
use Rattle.manager.proofs.Frames.{reframed, ready_reframed}
use Rattle.manager.proofs.GroupOffering.{all_taken_front}
use Rattle.manager.proofs.Runs.{taken_of_front}
use Rattle.volume_parts.proofs.Records.{first_of_take, joins_fewer}
use Rattle.manager.proofs.manager.Manager.try_run.Goals as goal

pub offer_group-requires : goal.offer_group-requires
offer_group-requires g c = let k = c.together-joining.result in let items = c.args.items.now in let r = c.requires.run in let most = c.together-joining.ensures.most in record {
  run = record {
    serves = r.serves;
    some = take_some k items c.together-joining.ensures.some most;
    each = all_taken_front _ k items r.each;
    blocks = count_below k items _ r.blocks;
    next = take_room k items c.args.self.now.next _ most r.next;
    reserved = take_below k items _ most r.reserved;
  };
  there = c.requires.there;
}

-- it had no room, and keeps what it kept up with that noted
pub returns-in_default-clause-offered : goal.returns-in_default-clause-offered
returns-in_default-clause-offered g c =
    let w = c.in_default.ensures.turned_away refl in let m = c.offer_group.new.self in let r = c.in_default.ensures.ready in let s = r.ready in
    let set = refill_set m.rooms.items c.deref_mut.result.now c.args.lane No c.deref_mut.ensures.value in
    let long = ap length set ∙ length-set m.rooms.items c.args.lane No in
    let noted : ◌≡◌ {A = Manager g.row.D.Denot} _ (record m { rooms = record { items = slice_set m.rooms.items c.args.lane No } }) = (λ i. record m { rooms = record { items = set i } }) in
    record {
      ready = ready_reframed g.D.Disk.state m m.home_up m.ups.items _ m.spindle m.index refl long (refl, refl) s.spindle_free s.settled s.accesses refl r;
      at = c.in_default.ensures.at;
      turned_away = λ none. record {
        rest = noted ∙ ap (λ (n : Manager g.row.D.Denot). record n { rooms = record { items = slice_set n.rooms.items c.args.lane No } }) w.rest;
        lanes = subst (λ (k : ℕ). ChangesLane (IsTurnedAway k) c.args.lane c.args.self.now.lanes.items m.lanes.items) (first_of_take c.args.items.now c.together-joining.result c.together-joining.ensures.some) w.lanes;
        keeps = λ b notes k. reframed g.D.Disk.tells g.D.Disk.state m b notes m.home_up m.ups.items _ m.spindle m.index refl (refl, refl) refl (ready_reframed g.D.Disk.state m m.home_up m.ups.items _ m.spindle m.index refl long (refl, refl) s.spindle_free s.settled s.accesses refl r) (w.keeps b notes k);
      };
      taken = tt;
    }

-- it took some
pub returns-clause-offered : goal.returns-clause-offered
returns-clause-offered g c = let e = c.in-Some.ensures in record {
  ready = e.ready;
  at = e.at;
  turned_away = λ none. let no : true ≡ false = none in absurd (cc);
  taken = taken_of_front g.D.Disk.tells g.D.Disk.state c.args.lane c.args.items.now c.args.from.now c.together-joining.result c.in-Some.ran c.args.self.now c.offer_group.new.self c.together-joining.ensures.some c.together-joining.ensures.most e.taken;
}

pub returns-clause-joins : goal.returns-clause-joins
returns-clause-joins g c =
    let n = c.in-Some.ran.items in let k = c.together-joining.result in let items = c.args.items.now in
    subst (λ (rs : List Room). GoTogether c.args.self.now.home_up (listed_in c.args.self.now.index.entries) (passed_in rs) items n) c.deref.ensures.0
    (joins_fewer c.args.self.now.home_up (listed_in c.args.self.now.index.entries) (passed_in c.deref.result.now) items k n (of_front n k items c.together-joining.ensures.most c.in-Some.ensures.taken.tried.1) c.together-joining.ensures.joins)
