use Rattle.std.specs.Prelude.{IsPermutation}
use Rattle.std.proofs.Common.{◌≡◌, ℕ, ◌<◌, ◌+◌, ◌^◌, true, List, length, map, sym, subst, ◌∙◌, ap}
use Rattle.std.specs.List.{AllByRecursion, AllZip}
use Rattle.spin_model.specs.Spun.{state_of}
use Rattle.log_scan.specs.declared.Found.{Found}
use Rattle.manager_recovery.specs.Refused.{is_named, head_at}
use Rattle.wol_model.specs.Index.{AreRising}
use Rattle.manager_recovery.specs.Scanned.{IsScanned, entries_from, IsEntryInRange, IsStableByVersion, lane_of, all_found, head_of}
use Rattle.manager_recovery.specs.declared.listing.FoundRecord.{FoundRecord}
use Rattle.manager_recovery.specs.Owned.{AreFirstTwins}
use Rattle.std.proofs.lemmas.List.Sorted.{length_permutation}
use Rattle.manager_recovery.specs.declared.opening.OwnedPart.{OwnedPart}
use Rattle.manager_recovery.proofs.Lists.{zip_length, zip_with, all_map}
use Rattle.manager_recovery.proofs.Indexing.{all_named, lane_below, places_fit, found_in_range, all_moved, twins_back, written_back, second_version}
use Rattle.manager_recovery.proofs.volume.index_of.Goals as goal

pub list_all-requires-clause-counted : goal.list_all-requires-clause-counted
list_all-requires-clause-counted g c =
    let o = c.args.opening.now in
    zip_length (IsScanned g.D.Disk.state o.want.id o.want.home) o.owned.items c.args.scans.now c.requires.scanned ∙ ap length (sym c.deref.ensures.value)

pub list_all-requires-clause-named : goal.list_all-requires-clause-named
list_all-requires-clause-named g c =
    let o = c.args.opening.now in
    subst (AllByRecursion (λ (p : OwnedPart _). lane_of o.view p.logger < length o.view)) (sym c.deref.ensures.value)
    (all_map (λ p. is_named o.view p.logger ≡ true) (λ p. lane_of o.view p.logger < length o.view) (λ p named. lane_below o.view p.logger named) o.owned.items (all_named o.view o.owned.items c.requires.named.2))

pub list_all-requires-clause-fits : goal.list_all-requires-clause-fits
list_all-requires-clause-fits g c =
    let o = c.args.opening.now in
    subst (λ (l : List (OwnedPart _)). AllZip (λ p s. AllByRecursion (λ (f : Found). p.first_block + f.pos < 2 ^ 64) s.records.items) l c.args.scans.now) (sym c.deref.ensures.value)
    (zip_with (IsScanned g.D.Disk.state o.want.id o.want.home) (λ p s. AllByRecursion (λ (f : Found). p.first_block + f.pos < 2 ^ 64) s.records.items) (λ p. p.first_block + (state_of g.D.Disk.state p.part).size < 2 ^ 64)
    (λ p s last scanned. places_fit g.D.Disk.state o.want.id o.want.home p s last scanned) o.owned.items c.args.scans.now c.requires.fits c.requires.scanned)

pub returns-in-Some-clause-err : goal.returns-in-Some-clause-err
returns-in-Some-clause-err g c =
    let o = c.args.opening.now in
    let listed = c.in-Ok.listed in
    let found : listed.items ≡ all_found o.view o.owned.items c.args.scans.now = c.in-Ok.ensures ∙ (λ i. all_found o.view (c.deref.ensures.value i) c.args.scans.now) in
    let same : length c.sort_by_version.new.listed ≡ length listed.items = length_permutation _ _ c.sort_by_version.ensures.same ∙ ap length c.deref_mut.ensures.value in
    let sorted : c.deref-2.result.now ≡ c.sort_by_version.new.listed = c.deref-2.ensures.value ∙ written_back listed.items c.sort_by_version.new.listed listed.len same listed.ok.0 in
    let stable : IsStableByVersion (all_found o.view o.owned.items c.args.scans.now) c.sort_by_version.new.listed =
    subst (λ (l : List FoundRecord). IsStableByVersion l c.sort_by_version.new.listed) (c.deref_mut.ensures.value ∙ found) c.sort_by_version.ensures.stable in
    let twins : AreFirstTwins (map head_of c.sort_by_version.new.listed) (head_of c.in-Some.one) (head_of c.in-Some.other) =
    subst (λ (l : List FoundRecord). AreFirstTwins (map head_of l) (head_of c.in-Some.one) (head_of c.in-Some.other)) sorted c.in-Some.ensures in
    let back = twins_back (all_found o.view o.owned.items c.args.scans.now) c.sort_by_version.new.listed (head_of c.in-Some.one) (head_of c.in-Some.other) stable twins in
    let version = second_version (map head_of c.sort_by_version.new.listed) (head_of c.in-Some.one) (head_of c.in-Some.other) twins in
    (c.in-Some.one.entry.version, subst (λ (v : ℕ). AreFirstTwins (map head_of (all_found o.view o.owned.items c.args.scans.now)) (head_of c.in-Some.one) (head_at v c.in-Some.other.volume c.in-Some.other.block)) version back)

pub fill_index-requires-clause-ranges : goal.fill_index-requires-clause-ranges
fill_index-requires-clause-ranges g c =
    let o = c.args.opening.now in
    let listed = c.in-Ok.listed in
    let found : listed.items ≡ all_found o.view o.owned.items c.args.scans.now = c.in-Ok.ensures ∙ (λ i. all_found o.view (c.deref.ensures.value i) c.args.scans.now) in
    let same : length c.sort_by_version.new.listed ≡ length listed.items = length_permutation _ _ c.sort_by_version.ensures.same ∙ ap length c.deref_mut.ensures.value in
    let sorted : c.deref-3.result.now ≡ c.sort_by_version.new.listed = c.deref-3.ensures.value ∙ written_back listed.items c.sort_by_version.new.listed listed.len same listed.ok.0 in
    let all : AllByRecursion IsEntryInRange c.deref_mut.result.now =
    subst (AllByRecursion IsEntryInRange) (sym (c.deref_mut.ensures.value ∙ found)) (found_in_range g.D.Disk.state o.want.id o.want.home o.view o.owned.items c.args.scans.now c.requires.scanned) in
    subst (AllByRecursion IsEntryInRange) (sym sorted) (all_moved IsEntryInRange _ _ c.sort_by_version.ensures.same all)

pub returns-in-Ok-fill_index-clause-ok : goal.returns-in-Ok-fill_index-clause-ok
returns-in-Ok-fill_index-clause-ok g c =
    let o = c.args.opening.now in
    let listed = c.in-Ok.listed in
    let found : listed.items ≡ all_found o.view o.owned.items c.args.scans.now = c.in-Ok.ensures ∙ (λ i. all_found o.view (c.deref.ensures.value i) c.args.scans.now) in
    let same : length c.sort_by_version.new.listed ≡ length listed.items = length_permutation _ _ c.sort_by_version.ensures.same ∙ ap length c.deref_mut.ensures.value in
    let back = written_back listed.items c.sort_by_version.new.listed listed.len same listed.ok.0 in
    let twinless : c.deref-2.result.now ≡ c.sort_by_version.new.listed = c.deref-2.ensures.value ∙ back in
    let sorted : c.deref-3.result.now ≡ c.sort_by_version.new.listed = c.deref-3.ensures.value ∙ back in
    let moved : IsPermutation (all_found o.view o.owned.items c.args.scans.now) c.sort_by_version.new.listed =
    subst (λ (l : List FoundRecord). IsPermutation l c.sort_by_version.new.listed) (c.deref_mut.ensures.value ∙ found) c.sort_by_version.ensures.same in
    let stable : IsStableByVersion (all_found o.view o.owned.items c.args.scans.now) c.sort_by_version.new.listed =
    subst (λ (l : List FoundRecord). IsStableByVersion l c.sort_by_version.new.listed) (c.deref_mut.ensures.value ∙ found) c.sort_by_version.ensures.stable in
    let rising : AreRising (map (λ (r : FoundRecord). r.entry.version) c.sort_by_version.new.listed) =
    subst (λ (l : List FoundRecord). AreRising (map (λ (r : FoundRecord). r.entry.version) l)) twinless c.in_default-first_twins.ensures in
    record {
      sorted = c.sort_by_version.new.listed;
      are_sorted = record { same = moved; stable = stable; rising = rising };
      is = c.in-Ok-fill_index.ensures ∙ ap entries_from sorted;
    }
