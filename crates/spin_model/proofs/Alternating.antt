-- A spindle's journal goes down and up in turn.
use Rattle.std.proofs.Common.{◌≡◌, ◌≤◌, ℕ, ◌+◌, eqb, Bool, true, false, ◌&&◌, if◌then◌else◌, List, [], ◌∷◌, ◌++◌, max, refl, sym, ap, ◌∙◌, arith}
use Rattle.std.specs.Prelude.{nat_le}
use Rattle.std.proofs.lemmas.Bool.Decides.{nat_tests}
use Rattle.turn_lock.specs.Histories.{Entry}
use Rattle.wol_model.specs.declared.journal.Turned.{Turned}
use Rattle.wol_model.specs.declared.journal.Turned.TheVariants.{Down, Up}
use Rattle.wol_model.specs.Journal.{Alternates, IsJournal, Use, Started, Began, Needed, Done, Stayed, SpindleState, new_spindle, is_empty, rested, used, spindle_after}
use Rattle.spin_model.specs.declared.spindle.SpindleBase.{SpindleBase}
use Rattle.spin_model.specs.Operations.{uses_of}
use Rattle.spin_model.specs.Spindles.{SpindleView, StandsFor, state_after}
use Rattle.spin_model.proofs.Summing.{empty_by_sleeps}

-- whether the disk is awake at the end of a journal
abbrev pub ends_awake : Bool → List Turned → Bool
ends_awake awake [] = awake
ends_awake awake (Down at ∷ rest) = ends_awake false rest
ends_awake awake (Up at ∷ rest) = ends_awake true rest

later : (awake : Bool) (from : ℕ) (journal : List Turned) (to to' : ℕ) → Alternates awake from journal to → to ≤ to' → Alternates awake from journal to'
later awake from [] to to' a le = omega arith
later awake from (Down at ∷ rest) to to' a le = (a.0, a.1, later false at rest to to' a.2 le)
later awake from (Up at ∷ rest) to to' a le = (a.0, a.1, later true at rest to to' a.2 le)

down_more : (awake : Bool) (from : ℕ) (journal : List Turned) (at to : ℕ) → Alternates awake from journal at → ends_awake awake journal ≡ true → at ≤ to → Alternates awake from (journal ++ Down at ∷ []) to
down_more awake from [] at to a ends le = (ends, a, le)
down_more awake from (Down d ∷ rest) at to a ends le = (a.0, a.1, down_more false d rest at to a.2 ends le)
down_more awake from (Up d ∷ rest) at to a ends le = (a.0, a.1, down_more true d rest at to a.2 ends le)

up_more : (awake : Bool) (from : ℕ) (journal : List Turned) (at to : ℕ) → Alternates awake from journal at → ends_awake awake journal ≡ false → at ≤ to → Alternates awake from (journal ++ Up at ∷ []) to
up_more awake from [] at to a ends le = (ends, a, le)
up_more awake from (Down d ∷ rest) at to a ends le = (a.0, a.1, up_more false d rest at to a.2 ends le)
up_more awake from (Up d ∷ rest) at to a ends le = (a.0, a.1, up_more true d rest at to a.2 ends le)

ends_awake-push : (awake : Bool) (journal : List Turned) (t : Turned) → ends_awake awake (journal ++ t ∷ []) ≡ ends_awake true (t ∷ [])
ends_awake-push awake [] (Down at) = refl
ends_awake-push awake [] (Up at) = refl
ends_awake-push awake (Down d ∷ rest) t = ends_awake-push false rest t
ends_awake-push awake (Up d ∷ rest) t = ends_awake-push true rest t

-- a state whose journal alternates, up to now, and while the disk is awake up to its last use
record Alternating (s : SpindleState) : Type 0 where
  awake : s.awake ≡ true → Alternates true s.from s.journal s.last_use
  always : Alternates true s.from s.journal s.now
  ends : ends_awake true s.journal ≡ s.awake
  order : s.last_use ≤ s.now

rests : (t : ℕ) (s : SpindleState) → Alternating s → Alternating (rested t s)
rests t s a = by (s.awake && (is_empty s.needing && nat_le (s.last_use + t) s.now)) refl
  where
    by : (idle : Bool) → s.awake && (is_empty s.needing && nat_le (s.last_use + t) s.now) ≡ idle → Alternating (if idle then record s { awake = false; journal = s.journal ++ Down (s.last_use + t) ∷ [] } else s)
    by true is = let up : s.awake ≡ true = grind arith in let due : s.last_use + t ≤ s.now = grind (arith, nat_tests) in record {
      awake = λ asleep. absurd cc;
      always = down_more true s.from s.journal (s.last_use + t) s.now (later true s.from s.journal s.last_use (s.last_use + t) (a.awake up) (omega arith)) (a.ends ∙ up) due;
      ends = ends_awake-push true s.journal (Down (s.last_use + t));
      order = a.order;
    }
    by false is = a

one_more : (t : ℕ) (s : SpindleState) (n : ℕ) (u : Use) → Alternating s → Alternating (used t s n u)
one_more t s n (Started at) a = by s.journal a.always a.ends
  where
    by : (journal : List Turned) → Alternates true s.from journal s.now → ends_awake true journal ≡ s.awake → Alternating (if is_empty journal then record s { from = at; now = at; last_use = at; journal = journal } else s)
    by [] always ends = record { awake = λ up. omega arith; always = omega arith; ends = ends; order = omega arith }
    by (x ∷ rest) always ends = a
one_more t s n (Began at) a = rests t (record s { now = max at s.now }) (record {
  awake = a.awake;
  always = later true s.from s.journal s.now (max at s.now) a.always (omega arith);
  ends = a.ends;
  order = (let o = a.order in omega arith);
})
one_more t s n Needed a = by s.awake a.ends
  where
    by : (awake : Bool) → ends_awake true s.journal ≡ awake → Alternating (record s { last_use = s.now; awake = true; needing = n ∷ s.needing; journal = if awake then s.journal else s.journal ++ Up s.now ∷ [] })
    by true ends = record { awake = λ up. a.always; always = a.always; ends = ends; order = omega arith }
    by false ends = let more = up_more true s.from s.journal s.now s.now a.always ends (omega arith) in record {
      awake = λ up. more;
      always = more;
      ends = ends_awake-push true s.journal (Up s.now);
      order = omega arith;
    }
one_more t s n Done a = record { awake = a.awake; always = a.always; ends = a.ends; order = a.order }
one_more t s n Stayed a = a

each_more : (t : ℕ) (s : SpindleState) (us : List (ℕ × Use)) → Alternating s → Alternating (spindle_after t s us)
each_more t s [] a = a
each_more t s (u ∷ us) a = each_more t (used t s u.0 u.1) us (one_more t s u.0 u.1 a)

-- the state after entries
reached : (b : SpindleBase) (es : List Entry) → Alternating (state_after b es)
reached b es = each_more b.timeout new_spindle (uses_of es) (record { awake = λ up. omega arith; always = omega arith; ends = refl; order = omega arith })

-- the journal of a spindle that stands for its entries
pub journal_alternates : (s : SpindleView) (b : SpindleBase) (es : List Entry) (to : ℕ) → StandsFor s b es → s.moment ≤ to → IsJournal (state_after b es).from (state_after b es).journal to
journal_alternates s b es to st le =
    let now : (state_after b es).now ≤ to = (let m = st.shows.moment in omega arith) in
    later true (state_after b es).from (state_after b es).journal (state_after b es).now to (reached b es).always now

-- its journal is empty where it never went down
pub turned_by_sleeps : (s : SpindleView) (b : SpindleBase) (es : List Entry) → StandsFor s b es → eqb s.sleeps 0 ≡ is_empty (state_after b es).journal
turned_by_sleeps s b es st = ap (λ (n : ℕ). eqb n 0) (st.shows.sums 0).sleeps ∙ empty_by_sleeps (state_after b es).from (state_after b es).journal (state_after b es).now (reached b es).always

-- .. and then it is awake
pub awake_by_sleeps : (s : SpindleView) (b : SpindleBase) (es : List Entry) → StandsFor s b es → eqb s.sleeps 0 ≡ true → s.awake ≡ true
awake_by_sleeps s b es st none = st.shows.awake ∙ by (state_after b es).journal (sym (turned_by_sleeps s b es st) ∙ none) (reached b es).ends
  where
    by : (journal : List Turned) → is_empty journal ≡ true → ends_awake true journal ≡ (state_after b es).awake → (state_after b es).awake ≡ true
    by [] empty ends = sym ends
    by (x ∷ journal) empty ends = absurd (let e : false ≡ true = empty in cc)
