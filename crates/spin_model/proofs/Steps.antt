-- What a spindle shows after each use.
use Rattle.std.proofs.Common.{◌≡◌, ℕ, ◌+◌, ◌-◌, eqb, Bool, true, false, ◌&&◌, if◌then◌else◌, List, [], ◌∷◌, ◌++◌, length, max, refl, sym, ap, ◌∙◌, subst, arith}
use Rattle.std.specs.Prelude.{nat_le}
use Rattle.std.proofs.Math.Dec.{eqb-suc-zero}
use Rattle.turn_lock.specs.Histories.{Entry}
use Rattle.wol_model.specs.Journal.{Use, Started, Began, Needed, Done, Stayed, SpindleState, new_spindle, is_empty, standby, used, spindle_after, MayUse, AreUses}
use Rattle.wol_model.specs.declared.journal.Turned.TheVariants.{Down, Up}
use Rattle.spin_model.specs.declared.spindle.SpindleBase.{SpindleBase}
use Rattle.spin_model.specs.Operations.{operation_of}
use Rattle.energy.specs.Sums.{AreSumsOf}
use Rattle.energy.specs.declared.Sums.{Sums}
use Rattle.spin_model.specs.Spindles.{SpindleView, Shows, StandsFor, is_idle, standby_until, state_after}
use Rattle.spin_model.proofs.Alternating.{awake_by_sleeps, turned_by_sleeps}
use Rattle.spin_model.proofs.Summing.{standby_down, standby_up, wakes_down, wakes_up, sleeps_down, sleeps_up}
use Rattle.spin_model.proofs.Tokens.{is_in, AreApart, apart-others, length-others}
use Rattle.spin_model.proofs.Using.{stands_more}

-- the passes with a token differ
pub tokens_apart : (t : ℕ) (s : SpindleState) (us : List (ℕ × Use)) → AreApart s.needing → AreUses t s us → AreApart (spindle_after t s us).needing
tokens_apart t s [] apart are = apart
tokens_apart t s (u ∷ us) apart are = tokens_apart t (used t s u.0 u.1) us (one t s u.0 u.1 apart are.0) are.1
  where
    rests : (b : Bool) (t : ℕ) (s : SpindleState) → AreApart s.needing → AreApart (if b then record s { awake = false; journal = s.journal ++ Down (s.last_use + t) ∷ [] } else s).needing
    rests true t s apart = apart
    rests false t s apart = apart

    starts : (b : Bool) (t : ℕ) (s : SpindleState) → AreApart s.needing → AreApart (if b then record s { from = t; now = t; last_use = t } else s).needing
    starts true t s apart = apart
    starts false t s apart = apart

    one : (t : ℕ) (s : SpindleState) (n : ℕ) (u : Use) → AreApart s.needing → MayUse s n u → AreApart (used t s n u).needing
    one t s n (Started at) apart may = starts (is_empty s.journal) at s apart
    one t s n (Began at) apart may = rests (s.awake && (is_empty s.needing && nat_le (s.last_use + t) (max at s.now))) t (record s { now = max at s.now }) apart
    one t s n Needed apart may = (may, apart)
    one t s n Done apart may = apart-others n s.needing apart
    one t s n Stayed apart may = apart

-- a spindle that nobody needs goes down
abbrev pub rested_view : SpindleView → SpindleView
rested_view v = if is_idle v then record v { awake = false; sleeps = v.sleeps + 1 } else v

-- it is used now
abbrev pub woken_view : SpindleView → SpindleView
woken_view s = record s { awake = true; last_use = s.moment; wakes = if s.awake then s.wakes else s.wakes + 1; standby = standby_until s s.moment }

-- awake, its sums have no time in standby that goes on
standby_awake : (s : SpindleView) (to : ℕ) → s.awake ≡ true → standby_until s to ≡ s.standby
standby_awake s to up = λ i. if up i then s.standby else s.standby + (to - (s.last_use + s.timeout))

standby_asleep : (s : SpindleView) (to : ℕ) → s.awake ≡ false → standby_until s to ≡ s.standby + (to - (s.last_use + s.timeout))
standby_asleep s to down = λ i. if down i then s.standby else s.standby + (to - (s.last_use + s.timeout))

module _ (s : SpindleView) (b : SpindleBase) (es : List Entry) (n : ℕ) (st : StandsFor s b es) where
  -- the state before
  before : SpindleState
  before = state_after b es

  stands_stayed : StandsFor s b (es ++ (n, operation_of Stayed) ∷ [])
  stands_stayed = stands_more s s b es n Stayed st tt refl refl st.shows

  pub stands_started : (t : ℕ) → eqb s.sleeps 0 ≡ true → StandsFor (record s { moment = t; last_use = t }) b (es ++ (n, operation_of (Started t)) ∷ [])
  stands_started t fresh = stands_more s (record s { moment = t; last_use = t }) b es n (Started t) st tt refl refl (by (state_after b es) (is_empty (state_after b es).journal) (sym (turned_by_sleeps s b es st) ∙ fresh) st.shows)
    where
      up : s.awake ≡ true
      up = awake_by_sleeps s b es st fresh

      by : (m : SpindleState) (e : Bool) → e ≡ true → Shows s m → Shows (record s { moment = t; last_use = t }) (if e then record m { from = t; now = t; last_use = t } else m)
      by m true is sh = record {
        moment = refl;
        last_use = refl;
        awake = sh.awake;
        out = sh.out;
        sums = λ to. record { wakes = (sh.sums to).wakes; sleeps = (sh.sums to).sleeps; standby = standby_awake (record s { moment = t; last_use = t }) to up ∙ sym (standby_awake s to up) ∙ (sh.sums to).standby };
      }
      by m false is sh = cc

  pub stands_not_started : (t : ℕ) → eqb s.sleeps 0 ≡ false → StandsFor s b (es ++ (n, operation_of (Started t)) ∷ [])
  stands_not_started t turned = stands_more s s b es n (Started t) st tt refl refl (by (state_after b es) (is_empty (state_after b es).journal) (sym (turned_by_sleeps s b es st) ∙ turned) st.shows)
    where
      by : (m : SpindleState) (e : Bool) → e ≡ false → Shows s m → Shows s (if e then record m { from = t; now = t; last_use = t } else m)
      by m true is sh = cc
      by m false is sh = sh

  pub stands_needed : MayUse (state_after b es) n Needed → StandsFor (record (woken_view s) { out = s.out + 1 }) b (es ++ (n, operation_of Needed) ∷ [])
  stands_needed may = stands_more s _ b es n Needed st may refl refl (by (state_after b es) st.shows)
    where
      sums_by : Bool → Sums
      sums_by a = record { wakes = if a then s.wakes else s.wakes + 1; sleeps = s.sleeps; standby = if a then s.standby else s.standby + (s.moment - (s.last_use + s.timeout)) }

      more : (m : SpindleState) (a : Bool) → s.awake ≡ a → Shows s m → (to : ℕ) → AreSumsOf (sums_by a) (if a then m.journal else m.journal ++ Up m.now ∷ []) to
      more m true up sh to = record { wakes = (sh.sums to).wakes; sleeps = (sh.sums to).sleeps; standby = sym (standby_awake s to up) ∙ (sh.sums to).standby }
      more m false down sh to = record {
        wakes = ap (λ (k : ℕ). k + 1) (sh.sums to).wakes ∙ sym (wakes_up m.journal m.now);
        sleeps = (sh.sums to).sleeps ∙ sym (sleeps_up m.journal m.now);
        standby = sym (standby_asleep s s.moment down) ∙ ((sh.sums s.moment).standby ∙ (ap (standby m.journal) sh.moment ∙ sym (standby_up m.journal m.now to)));
      }

      by : (m : SpindleState) → Shows s m → Shows (record (woken_view s) { out = s.out + 1 }) (used b.timeout m n Needed)
      by m sh = record {
        moment = sh.moment;
        last_use = sh.moment;
        awake = refl;
        out = (let o = sh.out in omega arith);
        sums = λ to. subst (λ (a : Bool). AreSumsOf (sums_by s.awake) (if a then m.journal else m.journal ++ Up m.now ∷ []) to) sh.awake (more m s.awake refl sh to);
      }

  pub stands_done : MayUse (state_after b es) n Done → StandsFor (record s { out = s.out - 1 }) b (es ++ (n, operation_of Done) ∷ [])
  stands_done may = stands_more s _ b es n Done st may refl refl (by (state_after b es) (tokens_apart b.timeout new_spindle _ tt st.legal) may st.shows)
    where
      by : (m : SpindleState) → AreApart m.needing → is_in n m.needing ≡ true → Shows s m → Shows (record s { out = s.out - 1 }) (used b.timeout m n Done)
      by m apart in_it sh = record { moment = sh.moment; last_use = sh.last_use; awake = sh.awake; out = (let o = sh.out in let l = length-others n m.needing apart in_it in omega arith); sums = sh.sums }

  -- a moment that came: the disk is put down where it is idle then
  pub stands_begun : (t : ℕ) → StandsFor (rested_view (record s { moment = max t s.moment })) b (es ++ (n, operation_of (Began t)) ∷ [])
  stands_begun t = stands_more s _ b es n (Began t) st tt (volume (is_idle now)) (timeout (is_idle now)) (by (state_after b es) b.timeout (sym st.timeout) st.shows)
    where
      now : SpindleView
      now = record s { moment = max t s.moment }

      volume : (e : Bool) → (if e then record now { awake = false; sleeps = now.sleeps + 1 } else now).volume ≡ s.volume
      volume true = refl
      volume false = refl

      timeout : (e : Bool) → (if e then record now { awake = false; sleeps = now.sleeps + 1 } else now).timeout ≡ s.timeout
      timeout true = refl
      timeout false = refl

      none_out : (ps : List ℕ) (k : ℕ) → k ≡ length ps → eqb k 0 ≡ is_empty ps
      none_out [] k e = ap (λ (j : ℕ). eqb j 0) e
      none_out (p ∷ ps) k e = ap (λ (j : ℕ). eqb j 0) e ∙ eqb-suc-zero (length ps)

      first : (x y : Bool) → x && y ≡ true → x ≡ true
      first true y both = refl
      first false y both = both

      both : (e : Bool) (m : SpindleState) (w : ℕ) → is_idle now ≡ e → w ≡ s.timeout → Shows now m → Shows (if e then record now { awake = false; sleeps = now.sleeps + 1 } else now) (if e then record m { awake = false; journal = m.journal ++ Down (m.last_use + w) ∷ [] } else m)
      both true m w idle same sh = let up : s.awake ≡ true = first now.awake (eqb now.out 0 && nat_le (now.last_use + now.timeout) now.moment) idle in record {
        moment = sh.moment;
        last_use = sh.last_use;
        awake = refl;
        out = sh.out;
        sums = λ to. record {
          wakes = (sh.sums to).wakes ∙ sym (wakes_down m.journal (m.last_use + w));
          sleeps = ap (λ (k : ℕ). k + 1) (sh.sums to).sleeps ∙ sym (sleeps_down m.journal (m.last_use + w));
          standby = (let kept = sym (standby_awake now to up) ∙ (sh.sums to).standby in let last = sh.last_use in let grown = standby_down m.journal (m.last_use + w) to in omega (arith, kept, last, same, grown));
        };
      }
      both false m w idle same sh = sh

      by : (m : SpindleState) (w : ℕ) → w ≡ s.timeout → Shows s m → Shows (rested_view now) (used w m n (Began t))
      by m w same sh = let tests : is_idle now ≡ (m.awake && (is_empty m.needing && nat_le (m.last_use + w) (max t m.now))) = (let a = sh.awake in let o = none_out m.needing s.out sh.out in let l = sh.last_use in let k = sh.moment in cc) in
          subst (λ (e : Bool). Shows (rested_view now) (if e then record m { now = max t m.now; awake = false; journal = m.journal ++ Down (m.last_use + w) ∷ [] } else record m { now = max t m.now })) tests
          (both (is_idle now) (record m { now = max t m.now }) w refl same (record { moment = ap (max t) sh.moment; last_use = sh.last_use; awake = sh.awake; out = sh.out; sums = sh.sums }))
