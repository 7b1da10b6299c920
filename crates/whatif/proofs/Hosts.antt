-- Where no two volumes share a host, those of a host have nobody to log for them.
use Rattle.std.proofs.Common.{◌≡◌, ◌≢◌, ℕ, Bool, true, false, not, ◌&&◌, List, [], ◌∷◌, map, length, Option, None, Some, refl, sym, ap, ◌∙◌, arith, eqb}
use Rattle.std.specs.Prelude.{slice_get}
use Rattle.std.specs.List.{range_with_len}
use Rattle.std.specs.Str.{bytes_eq}
use Rattle.std.proofs.lemmas.Bool.{false_from_ne_true}
use Rattle.std.proofs.lemmas.List.Elements.{filter_agree}
use Rattle.std.proofs.lemmas.Slice.Eq.{bytes_eq-Decides}
use Rattle.wol_config.specs.declared.config.VolumeConf.{VolumeConf}
use Rattle.whatif.specs.declared.policy.Policy.TheVariants.{SpinDown, Host}
use Rattle.whatif.specs.declared.policy.Compared.{Compared}
use Rattle.whatif.specs.Machine.{Setting, first_machine, after_windows, all_wakes, all_sleeps, all_units}
use Rattle.whatif.specs.Policies.{machine_after, reach_of, share_host}
use Rattle.whatif.specs.Laws.{AreOnHostsOfTheirOwn, HostIsSpinDown}

module _ (vs : List VolumeConf) (apart : AreOnHostsOfTheirOwn vs) where
  not_shared : (k j : ℕ) → k ≢ j → share_host (slice_get vs k) (slice_get vs j) ≡ false
  not_shared k j other = at (slice_get vs k) (slice_get vs j) refl refl
    where
      at : (v w : Option VolumeConf) → slice_get vs k ≡ v → slice_get vs j ≡ w → share_host v w ≡ false
      at None w is his = refl
      at (Some v) None is his = refl
      at (Some v) (Some w) is his = false_from_ne_true (bytes_eq v.host w.host) (λ same. apart k j v w other is his ((bytes_eq-Decides v.host w.host).0 same))

  no_loggers : (k w : ℕ) → (not (eqb k w) && share_host (slice_get vs k) (slice_get vs w)) ≡ (not (eqb k w) && false)
  no_loggers k w = at (eqb k w) refl
    where
      at : (t : Bool) → eqb k w ≡ t → (not t && share_host (slice_get vs k) (slice_get vs w)) ≡ (not t && false)
      at true is = refl
      at false is = not_shared k w (λ same. let yes = ap (λ (n : ℕ). eqb k n) (sym same) in differ (sym is ∙ yes ∙ own k))
        where
          differ : false ≡ true → ⊥
          differ e = let no : false ≡ true = e in cc

          own : (n : ℕ) → eqb n n ≡ true
          own n = grind arith

  same_reach : (k : ℕ) → reach_of Host vs k ≡ reach_of SpinDown vs k
  same_reach k = λ i. record { own = k; loggers = filter_agree (λ w. not (eqb k w) && share_host (slice_get vs k) (slice_get vs w)) (λ w. not (eqb k w) && false) (no_loggers k) (range_with_len 0 (length vs)) i }

  same_reaches : (ks : List ℕ) → map (reach_of Host vs) ks ≡ map (reach_of SpinDown vs) ks
  same_reaches [] = refl
  same_reaches (k ∷ ks) = λ i. same_reach k i ∷ same_reaches ks i

pub host_is_spin_down : HostIsSpinDown
unfolding machine_after
host_is_spin_down c from ws to apart = ap told (λ i. record { timeout = c.timeout; whole = c.segment_blocks; sleeps = true; reaches = same_reaches c.volumes.items apart (range_with_len 0 (length c.volumes.items)) i })
  where
    told : Setting → Compared
    told s = let ss = (after_windows s ws (first_machine s from)).spindles in record { wakes = all_wakes ss; sleeps = all_sleeps ss; units = all_units c.powers ss to }
