-- Turns of a pass, one after another.
use Rattle.std.proofs.Common.{◌≡◌, ◌+◌, ◌==◌, ℕ, Bool, true, false, cond, List, [], ◌∷◌, ◌++◌, map, length, drop, Option, None, Some, inl, inr, refl, sym, ap, subst, ◌∙◌, append_assoc, length-append, arith}
use Rattle.std.specs.Prelude.{⊤, IsTrue, is_some, unwrap_or}
use Rattle.std.specs.Option.{option_map, option_and_then, option_or}
use Rattle.std.proofs.lemmas.Bool.{eq-eqb}
use Rattle.std.proofs.lemmas.List.{map-append, append-nil}
use Rattle.std.proofs.Math.Seq.{drop-append_seam}
use Rattle.std.specs.List.{AllByRecursion}
use Rattle.std.proofs.lemmas.List.Elements.{filter-append}
use Rattle.turn_lock.specs.Histories.{Entry, own}
use Rattle.turn_lock.specs.LockIds.{LockId}
use Rattle.turn_lock.specs.Passes.{pass_number, pass_seen, pass_mine, IsFree}
use Rattle.wol_model.specs.Blocks.{Write}
use Rattle.wol_model.specs.History.{Kept, worker, flight_of}
use Rattle.wol_model.proofs.Histories.{flight_more}
use Rattle.wol_promise.specs.Code.{noted_of, read_noted, read_operation, read_look, read_list, read_number, read_flag, no_note}
use Rattle.wol_promise.specs.Policy.{Look}
use Rattle.wol_promise.specs.Ruled.{Noted, entries_of, last_look}
use Rattle.wol_promise.proofs.Lists.{all_joined, all_map}
use Rattle.manager.specs.Stands.{notes_of}
use Rattle.manager.specs.declared.base.ManagerBase.{ManagerBase}
use Rattle.manager.specs.declared.part.Part.{Part}
use Rattle.wol_promise.proofs.ReadCode.{noted_is_back}
use Rattle.request_turns.specs.Entries.{WasSpent}
use Rattle.request_turns.specs.Helped.{made_since, AreKept}
use Rattle.request_turns.specs.Turns.{ManagerPass, coded, began, notes_seen, IsBroken, WasDown, IsHonest, HasTurned, Gains, Stays, KeptStay, LooksStay}
use Rattle.request_turns.proofs.Noting.{notes_at}

-- ---- The pass of an entry

abbrev Has : ℕ → Option (Noted × List ℕ) → Type 0
Has pass None = ⊤
Has pass (Some x) = x.0.entry.pass ≡ pass

module _ (pass : ℕ) where
  after : {A : Type 0} (o : Option A) (f : A → Option (Noted × List ℕ)) → ((a : A) → Has pass (f a)) → Has pass (option_and_then f o)
  after None f h = tt
  after (Some a) f h = h a

  mapped : {A : Type 0} (o : Option A) (f : A → Noted × List ℕ) → ((a : A) → (f a).0.entry.pass ≡ pass) → Has pass (option_map f o)
  mapped None f h = tt
  mapped (Some a) f h = h a

  out_of : (o : Option (Noted × List ℕ)) → Has pass o → (unwrap_or (option_map (λ (n : Noted × List ℕ). n.0) o) (no_note pass)).entry.pass ≡ pass
  out_of None h = refl
  out_of (Some x) h = h

  pub pass_kept : (code : List ℕ) → (noted_of pass code).entry.pass ≡ pass
  unfolding noted_of
  pass_kept code = out_of (read_noted pass code)
      (after (read_operation code) _ (λ operation. after (read_look operation.1) _ (λ look. after (read_list read_number look.1) _ (λ passed. after (read_flag passed.1) _ (λ drain. mapped (read_flag drain.1) _ (λ r. refl))))))

-- ---- Looks

pub last_joined : (l : Look) (xs ys : List Noted) → last_look l (xs ++ ys) ≡ last_look (last_look l xs) ys
last_joined l [] ys = refl
last_joined l (x ∷ xs) ys = last_joined x.look xs ys

-- what lacked memory among some lacked it among more
module _ (some more : Write → Type 0) (so : (w : Write) → some w → more w) where
  pub stays_so : (l : Look) (n : Noted) → Stays some l n → Stays more l n
  stays_so l n (inl same) = inl same
  stays_so l n (inr (w, lacked, drained)) = inr (w, so w lacked, drained)

  pub kept_so : (l : Look) (ns : List Noted) → KeptStay some l ns → KeptStay more l ns
  kept_so l [] stay = tt
  kept_so l (n ∷ ns) (stay, stays) = ((λ mine kept. stays_so l n (stay mine kept)), kept_so n.look ns stays)

  pub looks_so : {D : Type 0} (p : ManagerPass D) (es : List Entry) → LooksStay some p es → LooksStay more p es
  looks_so p es stay = kept_so (last_look (began p).look (notes_seen p)) (notes_of es) stay

pub kept_join : (lacked : Write → Type 0) (l : Look) (xs ys : List Noted) → KeptStay lacked l xs → KeptStay lacked (last_look l xs) ys → KeptStay lacked l (xs ++ ys)
kept_join lacked l [] ys a b = b
kept_join lacked l (x ∷ xs) ys a b = (a.0, kept_join lacked x.look xs ys a.1 b)

kept_others : (lacked : Write → Type 0) (l : Look) (es : List Entry) → own worker es ≡ [] → KeptStay lacked l (notes_of es)
kept_others lacked l [] none = tt
kept_others lacked l (e ∷ es) none = by (λ further. kept_others lacked (noted_of e.0 e.1).look es further) (e.0 == worker) refl
  where
    by : (own worker es ≡ [] → KeptStay lacked (noted_of e.0 e.1).look (notes_of es)) → (t : Bool) → (e.0 == worker) ≡ t → KeptStay lacked l (notes_of (e ∷ es))
    by rest true is = absurd (let no : e ∷ own worker es ≡ [] = sym (ap (λ (t : Bool). cond t (e ∷ own worker es) (own worker es)) is) ∙ none in cc)
    by rest false is = (
      (λ mine kept. absurd (let no : true ≡ false = sym (eq-eqb e.0 worker (sym (pass_kept e.0 e.1) ∙ mine)) ∙ is in cc)),
      rest (sym (ap (λ (t : Bool). cond t (e ∷ own worker es) (own worker es)) is) ∙ none),
    )

pub nothing_more : {X : Type 0} (xs ys : List X) → xs ++ ys ≡ xs → ys ≡ []
nothing_more xs [] is = refl
nothing_more xs (y ∷ ys) is = absurd (let a = length-append xs (y ∷ ys) in let b = ap length is in let c : length (y ∷ ys) ≡ length ys + 1 = omega arith in omega (arith, a, b, c))

pub notes_joined : (xs ys : List Entry) → notes_of (xs ++ ys) ≡ notes_of xs ++ notes_of ys
notes_joined xs ys = map-append (λ (e : Entry). noted_of e.0 e.1) xs ys

-- ---- One turn

module _ {D : Type 0} (tells : Bool) (p q : ManagerPass D) (before : List Entry) (n : Noted) (t : HasTurned tells p q before n) where
  abbrev pub turn_more : List Entry
  turn_more = t.begins.0 ++ coded n ∷ []

  pub turn_seen : pass_seen q ≡ pass_seen p ++ turn_more
  turn_seen = t.seen ∙ ap (λ (es : List Entry). es ++ coded n ∷ []) (sym t.begins.1) ∙ append_assoc (pass_seen p) t.begins.0 (coded n ∷ [])

  own_one : (k : ℕ) → n.entry.pass ≡ k → own k (before ++ coded n ∷ []) ≡ own k before ++ coded n ∷ []
  own_one k is = filter-append (λ (e : Entry). e.0 == k) before (coded n ∷ []) ∙ ap (λ (b : Bool). own k before ++ cond b (coded n ∷ []) []) (eq-eqb n.entry.pass k is)

  pub turn_honest : IsHonest tells q
  turn_honest = record {
    history = t.history;
    mine = ap (own (pass_number q)) t.seen ∙ ap (λ (k : ℕ). own k (before ++ coded n ∷ [])) t.same.1 ∙ own_one (pass_number p) t.number
        ∙ ap (λ (es : List Entry). es ++ coded n ∷ []) t.others ∙ sym t.mine;
  }

  pub gains_turn : Gains tells p q turn_more (n ∷ [])
  gains_turn = record {
    same = t.same;
    free = t.free;
    seen = turn_seen;
    mine = t.mine;
    numbers = (t.number, tt);
    ruled = (t.ruled, tt);
    honest = λ h. turn_honest;
  }

  none_others : pass_number p ≡ worker → IsHonest tells p → own worker t.begins.0 ≡ []
  none_others client honest =
      let split : own (pass_number p) before ≡ own (pass_number p) (pass_seen p) ++ own (pass_number p) t.begins.0 = ap (own (pass_number p)) (sym t.begins.1) ∙ filter-append (λ (e : Entry). e.0 == pass_number p) (pass_seen p) t.begins.0 in
      let same : own (pass_number p) (pass_seen p) ++ own (pass_number p) t.begins.0 ≡ own (pass_number p) (pass_seen p) = sym split ∙ t.others ∙ sym honest.mine in
      subst (λ (k : ℕ). own k t.begins.0 ≡ []) client (nothing_more (own (pass_number p) (pass_seen p)) (own (pass_number p) t.begins.0) same)

  pub stays_turn : (lacked : Write → Type 0) → pass_number p ≡ worker → (n.entry.operation ≡ Kept → Stays lacked (last_look (began p).look (notes_of before)) n) → IsHonest tells p → LooksStay lacked p turn_more
  stays_turn lacked client stays honest =
      subst (KeptStay lacked (last_look (began p).look (notes_seen p))) (sym (notes_at t.begins.0 n.entry.pass n refl))
      (kept_join lacked (last_look (began p).look (notes_seen p)) (notes_of t.begins.0) (n ∷ []) (kept_others lacked (last_look (began p).look (notes_seen p)) t.begins.0 (none_others client honest)) (
        (λ mine kept. subst (λ (l : Look). Stays lacked l n) (ap (λ (es : List Entry). last_look (began p).look (notes_of es)) (sym t.begins.1)
            ∙ ap (last_look (began p).look) (notes_joined (pass_seen p) t.begins.0) ∙ last_joined (began p).look (notes_seen p) (notes_of t.begins.0)) (stays kept)),
        tt,
      ))

-- ---- Any number of turns

module _ {D : Type 0} (tells : Bool) where
  pub gains_none : (p : ManagerPass D) → IsFree p → Gains tells p p [] []
  gains_none p free = record { same = (refl, refl); free = free; seen = sym (append-nil (pass_seen p)); mine = sym (append-nil (pass_mine p)); numbers = tt; ruled = tt; honest = λ h. h }

  module _ (p q r : ManagerPass D) (more rest : List Entry) (notes others : List Noted) (a : Gains tells p q more notes) (b : Gains tells q r rest others) where
    pub gains_both : Gains tells p r (more ++ rest) (notes ++ others)
    gains_both = record {
      same = (b.same.0 ∙ a.same.0, b.same.1 ∙ a.same.1);
      free = b.free;
      seen = b.seen ∙ ap (λ (es : List Entry). es ++ rest) a.seen ∙ append_assoc (pass_seen p) more rest;
      mine = b.mine ∙ ap (λ (es : List Entry). es ++ map coded others) a.mine ∙ append_assoc (pass_mine p) (map coded notes) (map coded others) ∙ ap (λ (es : List Entry). pass_mine p ++ es) (sym (map-append coded notes others));
      numbers = all_joined (λ (n : Noted). n.entry.pass ≡ pass_number p) notes others a.numbers (all_map (λ (n : Noted). n.entry.pass ≡ pass_number q) (λ (n : Noted). n.entry.pass ≡ pass_number p) (λ n is. is ∙ a.same.1) others b.numbers);
      ruled = all_joined (λ (n : Noted). IsTrue n.ruled) notes others a.ruled b.ruled;
      honest = λ h. b.honest (a.honest h);
    }

    pub stays_both : (lacked : Write → Type 0) → LooksStay lacked p more → LooksStay lacked q rest → LooksStay lacked p (more ++ rest)
    stays_both lacked first then =
        subst (KeptStay lacked (last_look (began p).look (notes_seen p))) (sym (notes_joined more rest)) (kept_join lacked (last_look (began p).look (notes_seen p)) (notes_of more) (notes_of rest) first
        (subst (λ (l : Look). KeptStay lacked l (notes_of rest)) (ap (λ (l : LockId ManagerBase). last_look l.base.volume.began.look (notes_seen q)) a.same.0
        ∙ ap (last_look (began p).look) (ap notes_of a.seen ∙ notes_joined (pass_seen p) more) ∙ last_joined (began p).look (notes_seen p) (notes_of more)) then))

  -- what was seen goes on
  pub seen_more : (p q : ManagerPass D) (more : List Entry) (notes : List Noted) → Gains tells p q more notes → notes_seen q ≡ notes_seen p ++ notes_of more
  seen_more p q more notes g = ap notes_of g.seen ∙ notes_joined (pass_seen p) more

some_first : {X : Type 0} (o r : Option X) → is_some o ≡ true → is_some (option_or o r) ≡ true
some_first None r is = absurd (let no : false ≡ true = is in cc)
some_first (Some x) r is = refl

-- a volume whose disk call failed stays so
pub broken_more : (notes more : List Noted) → IsBroken notes → IsBroken (notes ++ more)
broken_more notes more is =
    ap (λ (es : _). is_some (flight_of es)) (map-append (λ (n : Noted). n.entry) notes more) ∙ ap is_some (flight_more (entries_of notes) (entries_of more)) ∙ some_first (flight_of (entries_of notes)) (flight_of (entries_of more)) is

later_more : (notes more front : List Noted) (n : Noted) (later : List Noted) → notes ≡ front ++ n ∷ later → notes ++ more ≡ front ++ n ∷ (later ++ more)
later_more notes more front n later is = ap (λ (ns : List Noted). ns ++ more) is ∙ append_assoc front (n ∷ later) more

-- a part that was down is so behind more entries too
pub down_more : (p : Part) (notes more : List Noted) → WasDown p notes → WasDown p (notes ++ more)
down_more p notes more was = record { front = was.front; note = was.note; later = was.later ++ more; notes_are = later_more notes more was.front was.note was.later was.notes_are; broken = was.broken; down = was.down }

-- so is a volume of which no version was left
pub spent_more : (notes more : List Noted) → WasSpent notes → WasSpent (notes ++ more)
spent_more notes more was = record { front = was.front; note = was.note; later = was.later ++ more; seen_is = later_more notes more was.front was.note was.later was.seen_is; unbroken = was.unbroken; spent = was.spent }

pub down_breaks : (p : Part) (notes : List Noted) → WasDown p notes → IsBroken notes
down_breaks p notes was = subst IsBroken (append_assoc was.front (was.note ∷ []) was.later ∙ sym was.notes_are) (broken_more (was.front ++ was.note ∷ []) was.later was.broken)

-- ---- Entries that are Kept

all_coded : (P : Noted → Type 0) (notes : List Noted) → AllByRecursion P notes → AllByRecursion P (notes_of (map coded notes))
all_coded P [] all = tt
all_coded P (n ∷ notes) all = (subst P (sym (noted_is_back n)) all.0, all_coded P notes all.1)

module _ {D : Type 0} where
  kept_more : (p q : ManagerPass D) (mine : List Entry) → pass_mine q ≡ pass_mine p ++ mine → AllByRecursion (λ (n : Noted). n.entry.operation ≡ Kept) (notes_of mine) → AreKept p q
  kept_more p q mine is all = subst (λ (es : List Entry). AllByRecursion (λ (n : Noted). n.entry.operation ≡ Kept) (notes_of es)) (sym (ap (drop (length (pass_mine p))) is ∙ drop-append_seam (pass_mine p) mine)) all

  -- a pass whose one entry since is Kept
  pub kept_one : (p q : ManagerPass D) (n : Noted) → pass_mine q ≡ pass_mine p ++ coded n ∷ [] → n.entry.operation ≡ Kept → AreKept p q
  kept_one p q n is kept = kept_more p q (coded n ∷ []) is (all_coded (λ (m : Noted). m.entry.operation ≡ Kept) (n ∷ []) (kept, tt))

  pub kept_none : (p : ManagerPass D) → AreKept p p
  kept_none p = kept_more p p [] (sym (append-nil (pass_mine p))) tt

  pub kept_both : (tells : Bool) (p q r : ManagerPass D) (more rest : List Entry) (notes others : List Noted) → Gains tells p q more notes → Gains tells q r rest others → AreKept p q → AreKept q r → AreKept p r
  kept_both tells p q r more rest notes others a b first then =
      let one : made_since p q ≡ map coded notes = ap (drop (length (pass_mine p))) a.mine ∙ drop-append_seam (pass_mine p) (map coded notes) in
      let two : made_since q r ≡ map coded others = ap (drop (length (pass_mine q))) b.mine ∙ drop-append_seam (pass_mine q) (map coded others) in
      let P : Noted → Type 0 = λ (n : Noted). n.entry.operation ≡ Kept in
      kept_more p r (map coded notes ++ map coded others) (b.mine ∙ ap (λ (es : List Entry). es ++ map coded others) a.mine ∙ append_assoc (pass_mine p) (map coded notes) (map coded others))
      (subst (AllByRecursion P) (sym (notes_joined (map coded notes) (map coded others)))
      (all_joined P (notes_of (map coded notes)) (notes_of (map coded others)) (subst (λ (es : List Entry). AllByRecursion P (notes_of es)) one first) (subst (λ (es : List Entry). AllByRecursion P (notes_of es)) two then)))
