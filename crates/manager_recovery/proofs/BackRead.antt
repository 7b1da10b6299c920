-- What an opening is whose segments were read back.
use Rattle.std.proofs.Common.{◌≡◌, ◌<◌, ◌^◌, ℕ, Bool, true, List, map, None, sym, ap, subst, ◌∙◌}
use Rattle.std.specs.Prelude.{Contains, IsTrue, option_map}
use Rattle.std.specs.List.{AllByRecursion, filter}
use Rattle.wol_disk.specs.Disk.{State, TellsContent, settled}
use Rattle.wol_model.specs.Index.{Indexed}
use Rattle.spin_model.specs.Spun.{state_of, disk_of}
use Rattle.spin_model.specs.declared.spun.Spun.{Spun}
use Rattle.spin_model.specs.declared.spindle.Spindle.{Spindle}
use Rattle.spin_model.specs.declared.spindle.SpindleBase.{SpindleBase}
use Rattle.turn_lock.specs.declared.pass.PassOf.{PassOf}
use Rattle.log_scan.specs.Scan.{IsInside}
use Rattle.log_scan.specs.declared.Found.{Found}
use Rattle.log_scan.specs.declared.Scan.{Scan}
use Rattle.logger.specs.declared.shared.Shared.{Shared}
use Rattle.manager_recovery.specs.Left.{IsSameOwned}
use Rattle.manager_recovery.specs.Opening.{CanOpen}
use Rattle.log_layout.specs.declared.label.Label.{Label}
use Rattle.manager_recovery.specs.Owned.{AreIntact, Head, Owned, all_owned, heads_in, HaveNoTwins, AreFirstTwins}
use Rattle.manager_recovery.specs.Recovery.{IsIndexOf, IsIndexRefusal, IsRecovered}
use Rattle.manager_recovery.specs.Refused.{IsNamesAnswer, IsRecoverable, Refuses, head_at}
use Rattle.manager_recovery.specs.Scanned.{IsReadBack, AreReadBack, IsScanned, IsSeenAgain, IsThinning, all_found, head_of, has_some, thinned, next_of}
use Rattle.manager_recovery.specs.declared.opening.Opening.{Opening}
use Rattle.manager_recovery.specs.declared.opening.OwnedPart.{OwnedPart}
use Rattle.manager_recovery.specs.declared.refusal.OpenRefusal.{OpenRefusal}
use Rattle.manager_recovery.specs.declared.refusal.OpenRefusal.TheVariants.{LabelDiffers, LoggerMissing, OutsideView, Damaged, Twins, DiskFault, NoMemory}
use Rattle.manager_recovery.specs.declared.volume.Recovered.{Recovered}
use Rattle.manager_recovery.proofs.FirstTwo.{rising_no_twins}
use Rattle.manager_recovery.proofs.HeadsFound.{all_same, all_heads}
use Rattle.manager_recovery.proofs.Indexing.{heads_inside, no_twins_back}
use Rattle.manager_recovery.proofs.LogsNamed.{twins_on_logs, same_loggers}
use Rattle.manager_recovery.proofs.Lists.{all_map, zip_map, zip_seconds}
use Rattle.manager_recovery.proofs.Recovering.{all_filtered}

module _ {D : Type 0} (tells : Bool) (state : D → State) (told : IsTrue tells → (d : D) → TellsContent (state d)) (shared : Shared D) (o n : Opening D) (scans : List Scan) (parts : IsReadBack state shared o n) (all : AreReadBack tells state shared o n scans) where
  pub view_is : n.view ≡ o.view
  view_is = ap (λ (x : Opening D). x.view) parts.same

  heads_are : IsTrue tells → map head_of (all_found n.view n.owned.items scans) ≡ heads_in o.want.id (all_owned state o.owned.items)
  heads_are t =
      all_heads state o.want.id o.want.home n.view (λ p. told t (disk_of p.part)) n.owned.items scans all.scans_
      ∙ ap (heads_in o.want.id) (all_same state o.owned.items n.owned.items parts.owned all.settled_)

  pub versions_below : AllByRecursion (λ (s : Scan). AllByRecursion (λ (f : Found). f.head.version < 2 ^ 63) s.records.items) scans
  versions_below = zip_seconds (IsScanned state o.want.id o.want.home) (λ (s : Scan). AllByRecursion (λ (f : Found). f.head.version < 2 ^ 63) s.records.items)
      (λ p s scanned. all_map (IsInside (state_of state p.part).size o.want.id) (λ (f : Found). f.head.version < 2 ^ 63) (λ f inside. inside.in_range.version.1) s.records.items (heads_inside state o.want.id o.want.home p s scanned))
      n.owned.items scans all.scans_

  pub recoverable : (entries : List Indexed) → IsIndexOf (all_found n.view n.owned.items scans) entries → IsTrue tells → IsRecoverable state o
  recoverable entries index t =
      (all.intact t, subst HaveNoTwins (heads_are t) (no_twins_back (all_found n.view n.owned.items scans) index.sorted index.are_sorted.stable (rising_no_twins index.sorted index.are_sorted.rising)))

  -- so it is of what was read back
  pub recoverable_again : (home : Spun D) (spindle : PassOf Spindle SpindleBase) (entries : List Indexed) → IsIndexOf (all_found n.view n.owned.items scans) entries → IsTrue tells → IsRecoverable state (record n { home = home; spindle = spindle })
  recoverable_again home spindle entries index t =
      subst (λ (w : Label). AreIntact w.id w.home (all_owned state n.owned.items) × HaveNoTwins (heads_in w.id (all_owned state n.owned.items))) (sym (ap (λ (x : Opening D). x.want) parts.same))
      (subst (λ (l : List Owned). AreIntact o.want.id o.want.home l × HaveNoTwins (heads_in o.want.id l)) (sym (all_same state o.owned.items n.owned.items parts.owned all.settled_)) (recoverable entries index t))

  pub index_refuses : IsNamesAnswer o None → (m : Opening D) (r : OpenRefusal) → IsIndexRefusal (all_found n.view n.owned.items scans) r → Refuses tells state o m r
  index_refuses named m LabelDiffers why = absurd why
  index_refuses named m (LoggerMissing id) why = absurd why
  index_refuses named m (OutsideView logger segment) why = absurd why
  index_refuses named m (Damaged volume block) why = absurd why
  index_refuses named m (Twins first_volume first second_volume second) why = (
    named,
    λ t. record {
      intact = all.intact t;
      version = why.0;
      twins = subst (λ (hs : List Head). AreFirstTwins hs (head_at why.0 first_volume first) (head_at why.0 second_volume second)) (heads_are t) why.1;
    },
    subst (λ (vs : List ℕ). Contains vs first_volume) loggers logs.0,
    subst (λ (vs : List ℕ). Contains vs second_volume) loggers logs.1,
  )
    where
      loggers : map (λ (p : OwnedPart D). p.logger) n.owned.items ≡ map (λ (p : OwnedPart D). p.logger) o.owned.items
      loggers = same_loggers state o.owned.items n.owned.items parts.owned

      logs : Contains (map (λ (p : OwnedPart D). p.logger) n.owned.items) first_volume × Contains (map (λ (p : OwnedPart D). p.logger) n.owned.items) second_volume
      logs = twins_on_logs n.view n.owned.items scans (head_at why.0 first_volume first) (head_at why.0 second_volume second) why.1
  index_refuses named m (DiskFault part) why = absurd why
  index_refuses named m NoMemory why = named

  -- the whole
  pub is_recovered : (m : Opening D) (r : Recovered) (home : Spun D) (spindle : PassOf Spindle SpindleBase) → IsNamesAnswer o None → IsIndexOf (all_found n.view n.owned.items scans) r.index.entries → r.next ≡ next_of 1 scans
      → (state_of state home).values ≡ option_map settled (state_of state n.home).values → (state_of state home).faults ≡ (state_of state n.home).faults → IsThinning state shared (record n { home = home; spindle = spindle }) m
      → CanOpen state shared m → m.owned.items ≡ thinned n.owned.items scans → r.scans.items ≡ filter has_some scans → IsRecovered tells state shared o m r
  is_recovered m r home spindle named index next synced calm thinned_ can left left_scans = record {
    named = named;
    recoverable = recoverable r.index.entries index;
    home = ap (λ (h : Spun D). (state_of state h).values) (ap (λ (x : Opening D). x.home) thinned_.same) ∙ synced ∙ ap (λ (h : Spun D). option_map settled (state_of state h).values) (ap (λ (x : Opening D). x.home) parts.same);
    home_calm = ap (λ (h : Spun D). (state_of state h).faults) (ap (λ (x : Opening D). x.home) thinned_.same) ∙ calm ∙ ap (λ (h : Spun D). (state_of state h).faults) (ap (λ (x : Opening D). x.home) parts.same);
    read = n.owned.items;
    scans = scans;
    same = zip_map (IsSeenAgain state) (IsSameOwned state) (λ x y seen. seen.same) o.owned.items n.owned.items parts.owned;
    settled_ = all.settled_;
    scanned = all.scans_;
    next = next;
    index = subst (λ (v : List ℕ). IsIndexOf (all_found v n.owned.items scans) r.index.entries) view_is index;
    open_ = can;
    left = left;
    left_scans = left_scans;
    some = subst (AllByRecursion (λ s. has_some s ≡ true)) (sym left_scans) (all_filtered scans);
  }
