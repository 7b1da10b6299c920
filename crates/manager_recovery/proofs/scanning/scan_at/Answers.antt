use Rattle.std.proofs.Common.{◌≡◌, true, false, eqb, refl, sym, ap, ◌∙◌, arith}
use Rattle.std.specs.Prelude.{position, is_some}
use Rattle.std.proofs.lemmas.Option.{slice_get_read, same_Some}
use Rattle.logger.specs.Lanes.{logger_of}
use Rattle.logger.specs.declared.lane.Lane.{Lane}
use Rattle.manager_recovery.specs.Opening.{IsOpeningLane, IsOwned, IsHeldIn, SaysOwner}
use Rattle.manager_recovery.specs.Owned.{IsIntact, owned_of}
use Rattle.manager_recovery.specs.Refused.{is_named}
use Rattle.manager_recovery.specs.Scanned.{IsScanned, IsSettledPart}
use Rattle.std.specs.Prelude.{IsTrue}
use Rattle.std.specs.Vec.{with_item}
use Rattle.manager_recovery.proofs.Indexing.{all_named}
use Rattle.manager_recovery.proofs.Lists.{all_get, within}
use Rattle.manager_recovery.proofs.ScanLoop.{open_after, lanes_used, lane_of_logger, pools_unused, join_ok}
use Rattle.manager_recovery.proofs.scanning.scan_at.Goals as goal

pub unreachable-requires : goal.unreachable-requires
unreachable-requires g c =
    let o = c.args.opening.now in
    let p = c.index_mut-part.result.now in
    let here = slice_get_read o.owned.items _ c.args.k p refl c.requires.inside c.index_mut-part.ensures.value in
    let named : is_named o.view p.logger ≡ true = all_get (λ q. is_named o.view q.logger ≡ true) o.owned.items c.args.k p here (all_named o.view o.owned.items c.requires.named.2) in
    let found : c.place_of.result ≡ position (λ id. eqb id p.logger) o.view = c.place_of.ensures ∙ (λ i. position (λ id. eqb id p.logger) (c.ids.ensures.value i)) in
    let bad : false ≡ true = ap is_some (sym c.in_default.is ∙ found) ∙ named in
    absurd cc

pub index_mut-requires : goal.index_mut-requires
index_mut-requires g c =
    let o = c.args.opening.now in
    let p = c.index_mut-part.result.now in
    let found : c.place_of.result ≡ position (λ id. eqb id p.logger) o.view = c.place_of.ensures ∙ (λ i. position (λ id. eqb id p.logger) (c.ids.ensures.value i)) in
    let w = lane_of_logger o.lanes.items o.view o.present.items p.logger c.in-Some.place c.place_of.result c.requires.ready.loggers c.requires.named.1 found c.in-Some.is in
    let lt = within o.lanes.items c.in-Some.place w.0 w.1 in
    omega (arith, lt, o.lanes.ok.0)

pub scan_owned-requires : goal.scan_owned-requires
scan_owned-requires g c =
    let o = c.args.opening.now in
    let p = c.index_mut-part.result.now in
    let here = slice_get_read o.owned.items _ c.args.k p refl c.requires.inside c.index_mut-part.ensures.value in
    let found : c.place_of.result ≡ position (λ id. eqb id p.logger) o.view = c.place_of.ensures ∙ (λ i. position (λ id. eqb id p.logger) (c.ids.ensures.value i)) in
    let w = lane_of_logger o.lanes.items o.view o.present.items p.logger c.in-Some.place c.place_of.result c.requires.ready.loggers c.requires.named.1 found c.in-Some.is in
    let lane = c.index_mut.result.now in
    let there = slice_get_read o.lanes.items _ c.in-Some.place lane refl (within o.lanes.items c.in-Some.place w.0 w.1) c.index_mut.ensures.value in
    let ready = all_get (IsOpeningLane g.D.Disk.state c.args.shared.now o.want.id o.most) o.lanes.items c.in-Some.place lane there c.requires.ready.lanes in
    let on : logger_of lane ≡ p.logger = ap logger_of (same_Some lane w.0 (sym there ∙ w.1)) ∙ w.2 in
    let own = all_get (IsOwned g.D.Disk.state o.lanes.items) o.owned.items c.args.k p here c.requires.ready.owned in
    record {
      lane = ready.lane;
      at = ready.at;
      volume = (all_get (λ (l : Lane _). logger_of l ≡ p.logger → IsHeldIn g.D.Disk.state p l) o.lanes.items c.in-Some.place lane there own.held on).volume;
      size = own.size;
      last = let l = own.last in omega arith;
      head = all_get (SaysOwner g.D.Disk.state o.want.id) o.owned.items c.args.k p here c.requires.ready.heads;
    }

pub returns : goal.returns
returns g c =
    let o = c.args.opening.now in
    let p = c.index_mut-part.result.now in
    let q = c.scan_owned.new.owned in
    let state = g.D.Disk.state in
    let here = slice_get_read o.owned.items _ c.args.k p refl c.requires.inside c.index_mut-part.ensures.value in
    let found : c.place_of.result ≡ position (λ id. eqb id p.logger) o.view = c.place_of.ensures ∙ (λ i. position (λ id. eqb id p.logger) (c.ids.ensures.value i)) in
    let w = lane_of_logger o.lanes.items o.view o.present.items p.logger c.in-Some.place c.place_of.result c.requires.ready.loggers c.requires.named.1 found c.in-Some.is in
    let old = c.index_mut.result.now in
    let there = slice_get_read o.lanes.items _ c.in-Some.place old refl (within o.lanes.items c.in-Some.place w.0 w.1) c.index_mut.ensures.value in
    record {
      same = refl;
      lanes = lanes_used state c.args.shared.now o c.requires.ready (with_item o.lanes c.in-Some.place c.scan_owned.new.lane) (with_item o.owned c.args.k q) c.in-Some.place c.args.k old c.scan_owned.new.lane p q there refl here refl c.scan_owned.ensures.lane c.scan_owned.ensures.same c.scan_owned.ensures.rest c.scan_owned.ensures.part;
      pools = pools_unused o.lanes.items c.in-Some.place old c.scan_owned.new.lane there c.scan_owned.ensures.rest;
      before = p;
      after = q;
      there = here;
      set = refl;
      seen = record { same = c.scan_owned.ensures.part; any_moment = c.scan_owned.ensures.any_moment };
      ok = join_ok c.scan_owned.result (IsScanned state o.want.id o.want.home q) (IsSettledPart state p q) _ (IsTrue g.D.Disk.tells) (IsIntact o.want.id o.want.home (owned_of state p))
          (open_after state c.args.shared.now o c.requires.ready (with_item o.lanes c.in-Some.place c.scan_owned.new.lane) (with_item o.owned c.args.k q) c.in-Some.place c.args.k old c.scan_owned.new.lane p q there refl here refl c.scan_owned.ensures.lane c.scan_owned.ensures.same c.scan_owned.ensures.rest c.scan_owned.ensures.part)
          c.scan_owned.ensures.scanned c.scan_owned.ensures.settled c.scan_owned.ensures.intact;
      err = c.scan_owned.ensures.err;
    }
