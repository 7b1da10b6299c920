use Rattle.std.proofs.Common.{◌≡◌, ◌+◌, ◌<◌, ◌^◌, ◌∙◌, ap, eqb, refl, sym, subst}
use Rattle.std.specs.Prelude.{position}
use Rattle.std.specs.List.{AllByRecursion}
use Rattle.std.proofs.lemmas.Option.{slice_get_read}
use Rattle.log_scan.specs.declared.Found.{Found}
use Rattle.log_scan.specs.declared.Scan.{Scan}
use Rattle.manager_recovery.proofs.listing.list_all.Goals as goal
use Rattle.manager_recovery.proofs.listing.list_all.Goals.{in-Some, in-None}
use Rattle.manager_recovery.proofs.Lists.{zip_get}
use Rattle.manager_recovery.specs.Scanned.{lane_of}
use Rattle.manager_recovery.proofs.FoundMore.{found_step, lane_some, lane_none}

pub list_segment-requires : goal.list_segment-requires
list_segment-requires g c =
    let o = slice_get_read c.args.owned.now _ c.loop-k.k c.index-owned-k.result refl c.loop-k-test.true c.index-owned-k.is in
    let s = slice_get_read c.args.scans.now _ c.loop-k.k c.index-scans-k.result (sym c.requires.counted) c.loop-k-test.true c.index-scans-k.is in
    let found : c.deref.result.now ≡ c.index-scans-k.result.records.items = c.deref.ensures.value ∙ ap (λ (x : Scan). x.records.items) (sym c.index-scans-k.is) in
    subst (AllByRecursion (λ (f : Found). c.index-owned-k.result.first_block + f.pos < 2 ^ 64)) (sym found) (zip_get _ c.args.owned.now c.args.scans.now c.loop-k.k c.index-owned-k.result c.index-scans-k.result o s c.requires.fits)

pub loop-k-preserved : goal.loop-k-preserved
loop-k-preserved g c =
    let o = slice_get_read c.args.owned.now _ c.loop-k.k c.index-owned-k.result refl c.loop-k-test.true c.index-owned-k.is in
    let s = slice_get_read c.args.scans.now _ c.loop-k.k c.index-scans-k.result (sym c.requires.counted) c.loop-k-test.true c.index-scans-k.is in
    let same : c.deref.result.now ≡ c.index-scans-k.result.records.items = c.deref.ensures.value ∙ ap (λ (x : Scan). x.records.items) (sym c.index-scans-k.is) in
    let found : c.place_of.result ≡ position (λ id. eqb id c.index-owned-k.result.logger) c.args.view.now = c.place_of.ensures ∙ (λ i. position (λ id. eqb id c.index-owned-k.result.logger) (c.ids.ensures.value i)) in
    let lane : c.match-place_of.lane ≡ lane_of c.args.view.now c.index-owned-k.result.logger =
    elim c.match-place_of.branch [
      | in-Some w ↦ lane_some c.args.view.now c.index-owned-k.result.logger c.match-place_of.lane w.in-Some.place c.place_of.result found w.in-Some.is w.lane-is
      | in-None w ↦ lane_none c.args.view.now c.index-owned-k.result.logger c.match-place_of.lane c.place_of.result found w.in-None.is w.lane-is
    ] in
    found_step c.args.view.now c.args.owned.now c.args.scans.now c.loop-k.k c.index-owned-k.result c.index-scans-k.result c.match-place_of.lane c.deref.result.now c.loop-k.listed.items c.list_segment.new.listed.items o s
    lane same c.loop-k.invariant c.in_ok-list_segment.ensures
