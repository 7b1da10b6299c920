-- What is counted of a pass's own entries.
use Rattle.std.proofs.Common.{◌≡◌, ◌+◌, ◌-◌, ◌^◌, ◌==◌, ℕ, Bool, true, false, cond, List, [], ◌∷◌, ◌++◌, length, drop, min, refl, sym, ap, subst, ◌∙◌, append_assoc, arith}
use Rattle.std.specs.Prelude.{IsTrue}
use Rattle.std.proofs.lemmas.Bool.{eq-eqb}
use Rattle.std.proofs.Math.Nat.{zero-add}
use Rattle.std.proofs.Math.Seq.{drop-append_seam, drop-length}
use Rattle.std.proofs.lemmas.List.Elements.{filter-append}
use Rattle.turn_lock.specs.Histories.{Entry, own, Begins}
use Rattle.turn_lock.specs.LockIds.{LockId}
use Rattle.turn_lock.specs.Passes.{pass_number, pass_seen, pass_mine, IsSamePass}
use Rattle.wol_promise.specs.Code.{noted_of}
use Rattle.wol_promise.specs.Policy.{Look}
use Rattle.wol_promise.specs.Report.{reclaims, put_home_by}
use Rattle.wol_promise.specs.Ruled.{Noted, last_look}
use Rattle.manager.specs.Stands.{notes_of}
use Rattle.manager.specs.declared.base.ManagerBase.{ManagerBase}
use Rattle.reclaimer.specs.Counts.{TakesOff}
use Rattle.reclaimer.proofs.TakenOff.{taken_adds_up, nothing_taken}
use Rattle.request_turns.specs.Counts.{Counts, CountsMore, CountsEntry, HasTaken, IsTakenOff, HasCounted, added_up, added_between, seen_since, dropped_by}
use Rattle.request_turns.specs.Turns.{ManagerPass, coded, began, notes_seen, IsHonest, HasLeft, HasTurned, Gains}
use Rattle.request_turns.specs.declared.tally.Tally.{Tally}
use Rattle.request_turns.proofs.Gaining.{last_joined, nothing_more, notes_joined, pass_kept, turn_seen}
use Rattle.request_turns.proofs.Noting.{notes_at}
use Rattle.request_turns.proofs.Turning.{turned}

-- ---- Tallies

ends : (a b x top : ℕ) → x ≡ min a top → min (x + b) top ≡ min (a + b) top
ends a b x top e = omega (arith, e)

too : (a b x top : ℕ) → x ≡ min b top → min (a + x) top ≡ min (a + b) top
too a b x top e = omega (arith, e)

pub adds_up : (old new : Tally) (b r : ℕ) → new.blocks ≡ min (old.blocks + b) (2 ^ 64 - 1) → new.records ≡ min (old.records + r) (2 ^ 64 - 1) → CountsMore b r old new
adds_up old new b r blocks records a s h = record {
  blocks_ = blocks ∙ ends a b old.blocks (2 ^ 64 - 1) h.blocks_;
  records_ = records ∙ ends s r old.records (2 ^ 64 - 1) h.records_;
}

pub more_is : (b c r s : ℕ) (t u : Tally) → b ≡ c → r ≡ s → CountsMore b r t u → CountsMore c s t u
more_is b c r s t u e f h = subst (λ (k : ℕ). CountsMore k s t u) e (subst (λ (k : ℕ). CountsMore b k t u) f h)

pub counts_is : (b c r s : ℕ) (t : Tally) → b ≡ c → r ≡ s → Counts b r t → Counts c s t
counts_is b c r s t e f h = subst (λ (k : ℕ). Counts k s t) e (subst (λ (k : ℕ). Counts b k t) f h)

pub none_more : (t : Tally) → CountsMore 0 0 t t
none_more t b r h = counts_is b (b + 0) r (r + 0) t (omega arith) (omega arith) h

pub more_both : (b c r s : ℕ) (t u v : Tally) → CountsMore b r t u → CountsMore c s u v → CountsMore (b + c) (r + s) t v
more_both b c r s t u v f g a z h = counts_is (a + b + c) (a + (b + c)) (z + r + s) (z + (r + s)) v (omega arith) (omega arith) (g (a + b) (z + r) (f a z h))

-- what another counted is counted too
pub more_of : (b r : ℕ) (o t u : Tally) → Counts b r o → CountsMore o.blocks o.records t u → CountsMore b r t u
more_of b r o t u c more a s h = let m = more a s h in record {
  blocks_ = m.blocks_ ∙ too a b o.blocks (2 ^ 64 - 1) c.blocks_;
  records_ = m.records_ ∙ too s r o.records (2 ^ 64 - 1) c.records_;
}

-- ---- Steps of reclaim

pub taken_none : (t : Tally) (l m : Look) → m.listed ≡ l.listed → HasTaken t t l m
taken_none t l m same = record { blocks = 0; records = 0; taken = nothing_taken l m same; counts = none_more t }

pub taken_both : (t u v : Tally) (l k m : Look) → HasTaken t u l k → HasTaken u v k m → HasTaken t v l m
taken_both t u v l k m a b = record {
  blocks = a.blocks + b.blocks;
  records = a.records + b.records;
  taken = taken_adds_up a.blocks b.blocks a.records b.records l k m a.taken b.taken;
  counts = more_both a.blocks b.blocks a.records b.records t u v a.counts b.counts;
}

takes_is : (b c r s : ℕ) (l m : Look) → b ≡ c → r ≡ s → TakesOff b r l m → TakesOff c s l m
takes_is b c r s l m e f h = subst (λ (k : ℕ). TakesOff k s l m) e (subst (λ (k : ℕ). TakesOff b k l m) f h)

-- from nothing on
pub all_taken : (none done : Tally) (l m : Look) → Counts 0 0 none → HasTaken none done l m → IsTakenOff done l m
all_taken none done l m zero h = record {
  blocks = h.blocks;
  records = h.records;
  taken = h.taken;
  counts = counts_is (0 + h.blocks) h.blocks (0 + h.records) h.records done (omega arith) (omega arith) (h.counts 0 0 zero);
}

-- the same, where the records stay as they are listed afterwards
pub taken_then : (b r : ℕ) (l k m : Look) → TakesOff b r l k → m.listed ≡ k.listed → TakesOff b r l m
taken_then b r l k m h same = takes_is (b + 0) b (r + 0) r l m (omega arith) (omega arith) (taken_adds_up b 0 r 0 l k m h (nothing_taken k m same))

-- ---- One entry

gone_is : (r x y : ℕ) → y + r ≡ x → r ≡ x - y
gone_is r x y e = omega (arith, e)

-- an entry that reclaims counts what was taken off
pub entry_taken : (b r : ℕ) (l : Look) (n : Noted) (t u : Tally) → reclaims n.after_drain n.entry.operation ≡ true → TakesOff b r l n.look → CountsMore b r t u → CountsEntry l n t u
entry_taken b r l n t u is taken more =
    more_is b _ r _ t u (sym taken.homed ∙ ap (λ (x : Bool). put_home_by x l n.look) (sym is))
    (gone_is r (length l.listed) (length n.look.listed) taken.gone_ ∙ ap (λ (x : Bool). dropped_by x l n.look) (sym is)) more

-- one that doesn't counts nothing
pub entry_quiet : (l : Look) (n : Noted) (t : Tally) → reclaims n.after_drain n.entry.operation ≡ false → CountsEntry l n t t
entry_quiet l n t is = more_is 0 _ 0 _ t t (ap (λ (x : Bool). put_home_by x l n.look) (sym is)) (ap (λ (x : Bool). dropped_by x l n.look) (sym is)) (none_more t)

-- nor does one that leaves the records as they were
pub entry_same : (l : Look) (n : Noted) (t : Tally) → (reclaims n.after_drain n.entry.operation ≡ true → n.look.listed ≡ l.listed) → CountsEntry l n t t
entry_same l n t same = by (reclaims n.after_drain n.entry.operation) refl
  where
    by : (x : Bool) → reclaims n.after_drain n.entry.operation ≡ x → CountsEntry l n t t
    by true is = entry_taken 0 0 l n t t is (nothing_taken l n.look (same is)) (none_more t)
    by false is = entry_quiet l n t is

-- ---- Entries of a pass

module _ (worth : Bool → Look → Look → ℕ) (pass : ℕ) where
  pub added_joined : (l : Look) (xs ys : List Noted) → added_up worth pass l (xs ++ ys) ≡ added_up worth pass l xs + added_up worth pass (last_look l xs) ys
  added_joined l [] ys = omega arith
  added_joined l (x ∷ xs) ys = let rest = added_joined x.look xs ys in omega (arith, rest)

  pub others_nothing : (l : Look) (es : List Entry) → own pass es ≡ [] → added_up worth pass l (notes_of es) ≡ 0
  others_nothing l [] none = refl
  others_nothing l (e ∷ es) none = by (λ further. others_nothing (noted_of e.0 e.1).look es further) (e.0 == pass) refl
    where
      n : Noted
      n = noted_of e.0 e.1

      by : (own pass es ≡ [] → added_up worth pass n.look (notes_of es) ≡ 0) → (t : Bool) → (e.0 == pass) ≡ t → added_up worth pass l (notes_of (e ∷ es)) ≡ 0
      by rest true is = absurd (let no : e ∷ own pass es ≡ [] = sym (ap (λ (t : Bool). cond t (e ∷ own pass es) (own pass es)) is) ∙ none in cc)
      by rest false is =
          ap (λ (t : Bool). cond t (worth (reclaims n.after_drain n.entry.operation) l n.look) 0 + added_up worth pass n.look (notes_of es)) (ap (λ (k : ℕ). k == pass) (pass_kept e.0 e.1) ∙ is)
          ∙ zero-add (added_up worth pass n.look (notes_of es)) ∙ rest (sym (ap (λ (t : Bool). cond t (e ∷ own pass es) (own pass es)) is) ∙ none)

  own_entry : (l : Look) (n : Noted) → n.entry.pass ≡ pass → added_up worth pass l (n ∷ []) ≡ worth (reclaims n.after_drain n.entry.operation) l n.look
  own_entry l n is = ap (λ (t : Bool). cond t (worth (reclaims n.after_drain n.entry.operation) l n.look) 0 + 0) (eq-eqb n.entry.pass pass is) ∙ omega arith

-- ---- One turn

module _ {D : Type 0} (tells : Bool) (p q : ManagerPass D) (before : List Entry) (n : Noted) (t : HasTurned tells p q before n) (honest : IsHonest tells p) where
  none_between : own (pass_number p) t.begins.0 ≡ []
  none_between =
      let split : own (pass_number p) before ≡ own (pass_number p) (pass_seen p) ++ own (pass_number p) t.begins.0 = ap (own (pass_number p)) (sym t.begins.1) ∙ filter-append (λ (e : Entry). e.0 == pass_number p) (pass_seen p) t.begins.0 in
      let same : own (pass_number p) (pass_seen p) ++ own (pass_number p) t.begins.0 ≡ own (pass_number p) (pass_seen p) = sym split ∙ t.others ∙ sym honest.mine in
      nothing_more (own (pass_number p) (pass_seen p)) (own (pass_number p) t.begins.0) same

  since : seen_since p q ≡ t.begins.0 ++ coded n ∷ []
  since = ap (drop (length (pass_seen p))) (turn_seen tells p q before n t) ∙ drop-append_seam (pass_seen p) (t.begins.0 ++ coded n ∷ [])

  look_before : last_look (last_look (began p).look (notes_seen p)) (notes_of t.begins.0) ≡ last_look (began p).look (notes_of before)
  look_before = sym (ap (λ (es : List Entry). last_look (began p).look (notes_of es)) (sym t.begins.1)
      ∙ ap (last_look (began p).look) (notes_joined (pass_seen p) t.begins.0) ∙ last_joined (began p).look (notes_seen p) (notes_of t.begins.0))

  pub turn_adds : (worth : Bool → Look → Look → ℕ) → added_between worth p q ≡ worth (reclaims n.after_drain n.entry.operation) (last_look (began p).look (notes_of before)) n.look
  turn_adds worth =
      let l : Look = last_look (began p).look (notes_seen p) in
      ap (λ (es : List Entry). added_up worth (pass_number p) l (notes_of es)) since
      ∙ ap (added_up worth (pass_number p) l) (notes_at t.begins.0 n.entry.pass n refl)
      ∙ added_joined worth (pass_number p) l (notes_of t.begins.0) (n ∷ [])
      ∙ ap (λ (k : ℕ). k + added_up worth (pass_number p) (last_look l (notes_of t.begins.0)) (n ∷ [])) (others_nothing worth (pass_number p) l t.begins.0 none_between)
      ∙ zero-add (added_up worth (pass_number p) (last_look l (notes_of t.begins.0)) (n ∷ []))
      ∙ own_entry worth (pass_number p) (last_look l (notes_of t.begins.0)) n t.number
      ∙ ap (λ (k : Look). worth (reclaims n.after_drain n.entry.operation) k n.look) look_before

-- what the entry of a turn did was counted
pub turn_counted : {D : Type 0} (tells : Bool) (p q : ManagerPass D) (before : List Entry) (n : Noted) (t u : Tally) → HasTurned tells p q before n → CountsEntry (last_look (began p).look (notes_of before)) n t u → HasCounted tells t u p q
turn_counted tells p q before n t u turn more honest = more_is _ _ _ _ t u (sym (turn_adds tells p q before n turn honest put_home_by)) (sym (turn_adds tells p q before n turn honest dropped_by)) more

-- a turn from entering to leaving
pub counted_turn : {D : Type 0} (tells : Bool) (p i q : ManagerPass D) (n : Noted) (l : Look) (t u : Tally) → IsSamePass p i → Begins (pass_seen p) (pass_seen i) → pass_mine i ≡ pass_mine p
    → own (pass_number i) (pass_seen i) ≡ pass_mine i → HasLeft tells n i q → IsTrue n.ruled → last_look (began i).look (notes_seen i) ≡ l → CountsEntry l n t u → HasCounted tells t u p q
counted_turn tells p i q n l t u same begins mine owns left ruled is more =
    turn_counted tells p q (pass_seen i) n t u (turned tells p i q n same begins mine owns left ruled)
    (subst (λ (k : Look). CountsEntry k n t u) (sym (ap (λ (k : LockId ManagerBase). last_look k.base.volume.began.look (notes_seen i)) (sym same.0) ∙ is)) more)

-- ---- One after another

module _ {D : Type 0} (tells : Bool) (p q r : ManagerPass D) (more rest : List Entry) (notes others : List Noted) (a : Gains tells p q more notes) (b : Gains tells q r rest others) where
  pub between_both : (worth : Bool → Look → Look → ℕ) → added_between worth p r ≡ added_between worth p q + added_between worth q r
  between_both worth =
      let l : Look = last_look (began p).look (notes_seen p) in
      let first : seen_since p q ≡ more = ap (drop (length (pass_seen p))) a.seen ∙ drop-append_seam (pass_seen p) more in
      let then : seen_since q r ≡ rest = ap (drop (length (pass_seen q))) b.seen ∙ drop-append_seam (pass_seen q) rest in
      let all : seen_since p r ≡ more ++ rest = ap (drop (length (pass_seen p))) (b.seen ∙ ap (λ (es : List Entry). es ++ rest) a.seen ∙ append_assoc (pass_seen p) more rest) ∙ drop-append_seam (pass_seen p) (more ++ rest) in
      let look : last_look (began q).look (notes_seen q) ≡ last_look l (notes_of more) = ap (λ (k : LockId ManagerBase). last_look k.base.volume.began.look (notes_seen q)) a.same.0
      ∙ ap (last_look (began p).look) (ap notes_of a.seen ∙ notes_joined (pass_seen p) more) ∙ last_joined (began p).look (notes_seen p) (notes_of more) in
      ap (λ (es : List Entry). added_up worth (pass_number p) l (notes_of es)) all
      ∙ ap (added_up worth (pass_number p) l) (notes_joined more rest)
      ∙ added_joined worth (pass_number p) l (notes_of more) (notes_of rest)
      ∙ (λ i. added_up worth (pass_number p) l (notes_of (sym first i)) + added_up worth (sym a.same.1 i) (sym look i) (notes_of (sym then i)))

  pub counted_both : (t u v : Tally) → HasCounted tells t u p q → HasCounted tells u v q r → HasCounted tells t v p r
  counted_both t u v f g honest = more_is _ _ _ _ t v (sym (between_both put_home_by)) (sym (between_both dropped_by)) (more_both _ _ _ _ t u v (f honest) (g (a.honest honest)))

-- nothing was added where nothing was done
pub between_none : {D : Type 0} (worth : Bool → Look → Look → ℕ) (p : ManagerPass D) → added_between worth p p ≡ 0
between_none worth p = ap (λ (es : List Entry). added_up worth (pass_number p) (last_look (began p).look (notes_seen p)) (notes_of es)) (drop-length (pass_seen p))

pub counted_none : {D : Type 0} (tells : Bool) (p : ManagerPass D) (t : Tally) → HasCounted tells t t p p
counted_none tells p t honest = more_is 0 _ 0 _ t t (sym (between_none put_home_by p)) (sym (between_none dropped_by p)) (none_more t)
