-- From what the last seat claims to what each pass knows.
use Rattle.std.proofs.Common.{◌≡◌, ◌≢◌, ℕ, ◌+◌, ◌≤◌, Bool, true, false, eqb, if◌then◌else◌, length, List, [], ◌∷◌, ◌++◌, Option, Some, All, refl, sym, ap, ◌∙◌, subst, arith, ne_eqb}
use Rattle.std.proofs.lemmas.List.Elements.{All-nil, All-cons, All-head, All-tail, All-push, All-pop}
use mathlib.Core.Option as maybe
use mathlib.Core.Logic.{dite}
use native.Mathlib.Decide.{ℕ_discrete}
use lib.ListN.{get_elem?}
use Rattle.atomic_table.specs.Table.{Final, Seen}
use Rattle.turn_lock.specs.Histories.{Entry, own}
use Rattle.turn_lock.specs.Passes.{IsPartOf, AreWhole, claims_back, pass_claim, pass_number, pass_seen, pass_mine}
use Rattle.turn_lock.specs.Views.{total, is_number, taken_in, has_number, claims, claims_of}
use Rattle.turn_lock.specs.Rule.{Fits, Each, Kept, Ends}
use Rattle.turn_lock.specs.declared.pass.PassOf.{PassOf}
use Rattle.turn_lock.specs.declared.view.Claim.{Claim}
use Rattle.turn_lock.specs.declared.view.View.{View}
use Rattle.turn_lock.specs.declared.view.Stage.{Stage}
use Rattle.turn_lock.specs.declared.view.Stage.TheVariants.{Idle}
use Rattle.turn_lock.proofs.Totals.{total-append}
use Rattle.turn_lock.proofs.PassSteps.{finals}
use Rattle.turn_lock.proofs.OwnEntries.{chosen_if, same_counts}

Each-cut : {A : Type 0} (P : A → Type 0) (xs : List A) (y : A) → Each P (xs ++ y ∷ []) → Each P xs × P y
Each-cut P [] y h = (tt, h.0)
Each-cut P (x ∷ xs) y h = let r = Each-cut P xs y h.1 in ((h.0, r.0), r.1)

-- where each number is claimed at most once, and no other has entries, the claims have all entries
all_entries : (cs : List Claim) (es : List Entry) → ((n : ℕ) → total (is_number n) cs ≤ 1) → ((n : ℕ) → total (is_number n) cs ≡ 0 → length (own n es) ≡ 0) → total (λ (c : Claim). length (own c.number es)) cs ≡ length es
all_entries cs [] once none = nothing cs
  where
    nothing : (ds : List Claim) → total (λ (c : Claim). 0) ds ≡ 0
    nothing [] = refl
    nothing (d ∷ ds) = let h = nothing ds in omega arith
all_entries cs (e ∷ es) once none =
    let h = all_entries cs es once (λ n z. let a = none n z in let b = longer n in omega arith) in
    let s = split cs in let o = once e.0 in
    let hit : (total (is_number e.0) cs ≡ 0) → ⊥ = λ z. (let a = none e.0 z in let b : length (own e.0 (e ∷ es)) ≡ 1 + length (own e.0 es) = longer e.0 ∙ ap (λ (k : ℕ). k + length (own e.0 es)) (same_counts e.0) in omega arith) in
    dite (ℕ_discrete (total (is_number e.0) cs) 0) (λ z. absurd (hit z)) (λ some_one. omega arith)
  where
    by_test : (b : Bool) (l : List Entry) → length (if b then e ∷ l else l) ≡ chosen_if b + length l
    by_test true l = omega arith
    by_test false l = omega arith

    longer : (n : ℕ) → length (own n (e ∷ es)) ≡ chosen_if (eqb e.0 n) + length (own n es)
    longer n = by_test (eqb e.0 n) (own n es)

    split : (ds : List Claim) → total (λ (c : Claim). length (own c.number (e ∷ es))) ds ≡ total (is_number e.0) ds + total (λ (c : Claim). length (own c.number es)) ds
    split [] = refl
    split (d ∷ ds) = let r = split ds in let l = longer d.number in omega arith

mine_of : Claim → ℕ
mine_of c = length c.mine

same_lengths : (es : List Entry) (cs : List Claim) → Each (Fits es) cs → total (λ (c : Claim). length (own c.number es)) cs ≡ total mine_of cs
unfolding mine_of
same_lengths es [] f = refl
same_lengths es (c ∷ cs) f = let h = same_lengths es cs f.1 in let k = ap length f.0.1 in omega arith

module _ {T B : Type 0} where
  lengths_back : (ps : List (PassOf T B)) → total mine_of (claims_back ps) ≡ total (λ p. length (pass_mine p)) ps
  unfolding pass_mine mine_of
  lengths_back [] = refl
  lengths_back (p ∷ ps) = let a = total-append mine_of (claims_back ps) (pass_claim p ∷ []) in let b = lengths_back ps in omega arith

  part_of : (es : List Entry) (p : PassOf T B) → Fits es (pass_claim p) → IsPartOf es p
  unfolding pass_number pass_seen pass_mine
  part_of es p f = record { seen = f.0; mine = subst (λ (n : ℕ). own n es ≡ p.seat.me.0.mine) p.numbered f.1 }

  back_parts : (es : List Entry) (ps : List (PassOf T B)) → Each (Fits es) (claims_back ps) → All (IsPartOf es) ps
  back_parts es [] h = All-nil (IsPartOf es)
  back_parts es (p ∷ ps) h = let r = Each-cut (Fits es) (claims_back ps) (pass_claim p) h in All-cons (IsPartOf es) p ps (part_of es p r.1) (back_parts es ps r.0)

  not_this : (n : ℕ) (p : PassOf T B) → pass_number p ≢ n → is_number n (pass_claim p) ≡ 0
  unfolding pass_number pass_seen pass_mine
  not_this n p other = ap chosen_if (ne_eqb n p.seat.me.0.number (λ same. other (sym (same ∙ p.numbered))))

  none_back : (n : ℕ) (ps : List (PassOf T B)) → All (λ p. pass_number p ≢ n) ps → total (is_number n) (claims_back ps) ≡ 0
  none_back n [] h = refl
  none_back n (p ∷ ps) h = let P : PassOf T B → Type 0 = λ p. pass_number p ≢ n in let a = total-append (is_number n) (claims_back ps) (pass_claim p ∷ []) in
      let b = none_back n ps (All-tail P p ps h) in let c = not_this n p (All-head P p ps h) in omega arith

  length_of : (p : PassOf T B) → mine_of (pass_claim p) ≡ length (pass_mine p)
  unfolding mine_of pass_mine
  length_of p = refl

  pub whole : (stands : T → B → List Entry → Type 0) (base : B) (v : View B) (y : T) (first : PassOf T B) (rest all : List (PassOf T B)) (e : Ends stands base v y) → v.stage ≡ Idle
      → claims_of v ≡ claims_of first.seat.me.0 ++ claims_back rest → all ≡ rest ++ first ∷ [] → AreWhole e.entries all
  whole stands base v y first rest all e free claimed are = let es : List Entry = e.entries in
      let named : claims_of v ≡ pass_claim first ∷ claims_back rest = claimed ∙ ap (λ (t : List Claim). (pass_claim first ∷ t) ++ claims_back rest) first.alone.1 in
      let fit : Each (Fits es) (pass_claim first ∷ claims_back rest) = subst (Each (Fits es)) named (e.self, e.others) in record {
        parts = subst (All (IsPartOf es)) (sym are) (All-push (IsPartOf es) rest first (back_parts es rest fit.1) (part_of es first fit.0));
        counted =
            let once : (n : ℕ) → total (is_number n) (claims_of v) ≤ 1 = λ n. subst (λ (k : ℕ). k ≤ 1) (ap (λ (z : Stage). has_number n v.number z + taken_in n v.took) free) (e.once n) in
            let none : (n : ℕ) → total (is_number n) (claims_of v) ≡ 0 → length (own n es) ≡ 0 = λ n z. ap length (e.no_more n (ap (λ (y : Stage). has_number n v.number y + taken_in n v.took) free ∙ z)) in
            let a = all_entries (claims_of v) es once none in let b = same_lengths es (claims_of v) (e.self, e.others) in
            let c : total mine_of (claims_of v) ≡ total mine_of (pass_claim first ∷ claims_back rest) = ap (total mine_of) named in
            let d = lengths_back rest in let m : PassOf T B → ℕ = λ p. length (pass_mine p) in let l = total-append m rest (first ∷ []) in
            let r : total m all ≡ total m (rest ++ first ∷ []) = ap (total m) are in
            let one : mine_of (pass_claim first) ≡ m first = length_of first in omega arith;
        no_more = λ n others. let P : PassOf T B → Type 0 = λ p. pass_number p ≢ n in let o = All-cut P rest first (subst (All P) are others) in
            let a = none_back n rest o.0 in let b = not_this n first o.1 in
            let c : total (is_number n) (claims_of v) ≡ total (is_number n) (pass_claim first ∷ claims_back rest) = ap (total (is_number n)) named in
            let d : claims n v ≡ total (is_number n) (claims_of v) = ap (λ (z : Stage). has_number n v.number z + taken_in n v.took) free in e.no_more n (omega arith);
      }
    where
      All-cut : (P : PassOf T B → Type 0) (xs : List (PassOf T B)) (x : PassOf T B) → All P (xs ++ x ∷ []) → All P xs × P x
      All-cut P xs x h = All-pop P (xs ++ x ∷ []) xs (Some x) refl h

  -- what a lock gives that ends with a seat that stands for all of its passes
  pub closes : (stands : T → B → List Entry → Type 0) (base own_base : B) → own_base ≡ base → (passes id : ℕ) (v : View B) (ws : List ℕ) (xs : List (Option T)) (first : PassOf T B) (rest all : List (PassOf T B)) → v.stage ≡ Idle → v.parts ≡ passes
      → Final (Seen (Kept stands base passes) id v) ws xs → (value : T) → get_elem? xs 0 ≡ maybe.some (Some value) → claims_of v ≡ claims_of first.seat.me.0 ++ claims_back rest → all ≡ rest ++ first ∷ []
      → (entries : List Entry) × stands value own_base entries × AreWhole entries all
  closes stands base own_base same passes id v ws xs first rest all free full final value found claimed are =
      let f = finals stands base passes id v ws xs free full final in
      let here : maybe.some (Some f.0) ≡ maybe.some (Some value) = sym f.1 ∙ found in
      let y : f.0 ≡ value = cc in (
        f.2.entries,
        subst (λ (z : T × B). stands z.0 z.1 f.2.entries) (λ i. (y i, sym same i)) f.2.standing,
        whole stands base v f.0 first rest all f.2 free claimed are,
      )
