-- Laws of the entries of requests, for callers.
use Rattle.std.proofs.Common.{◌≡◌, inl, inr, ⊎_elim, zero, suc, false, ◌+◌, ◌≤◌, ◌++◌, ◌∷◌, [], List, length, take, drop, replicate, ℕ, refl, sym, ap, subst, ◌∙◌, arith}
use Rattle.std.proofs.lemmas.List.{length-append, length-replicate, append_assoc, take-append-drop, length-take-le}
use Rattle.wol_model.specs.Blocks.{Write}
use Rattle.wol_model.specs.Trace.{payload}
use Rattle.wol_model.specs.declared.trace.Kind.{Kind}
use Rattle.wol_model.specs.declared.trace.Kind.TheVariants as kind
use Rattle.wol_promise.specs.Ruled.{Noted}
use Rattle.manager.specs.declared.part.WriteRefusal.{WriteRefusal}
use Rattle.manager.specs.declared.part.WriteRefusal.TheVariants as refused
use Rattle.trace_windows.specs.Requests.{asked}
use Rattle.trace_windows.specs.declared.request.Request.{Request}
use Rattle.request_turns.specs.declared.outcome.Outcome.{Outcome}
use Rattle.request_turns.specs.declared.outcome.Outcome.TheVariants as outcome
use Rattle.request_turns.specs.Entries.{AreMade, none, one, several, IsEntryOf, IsEntryOfFirst, AreEntriesOf, IsFlight, IsRefusedWrite, before_others, front_writes}

pub made_length : (view : List ℕ) (rs : List Request) (os : List Outcome) (ns : List Noted) → AreMade view rs os ns → length os ≡ length rs
made_length view _ _ _ none = refl
made_length view _ _ _ (one r rs o os notes first rest is entries made) = λ t. suc (made_length view rs os rest made t)
made_length view _ _ _ (several all outs notes group rs place os n rest two all_is outs_is notes_is entry made) =
    ap length outs_is ∙ length-append (replicate (length group) (outcome.Wrote place false)) os ∙ (λ t. length-replicate (length group) (outcome.Wrote place false) t + made_length view rs os rest made t)
    ∙ sym (length-append group rs) ∙ ap length (sym all_is)

-- ---- What comes behind

shorter : {X : Type 0} (n : ℕ) (xs ys : List X) → (m : ℕ) × (take n xs ≡ take m (xs ++ ys)) × (m ≤ n)
shorter zero xs ys = (0, refl, omega arith)
shorter (suc n) [] ys = (0, refl, omega arith)
shorter (suc n) (x ∷ xs) ys = let s = shorter n xs ys in (suc s.0, (λ t. x ∷ s.1 t), (let le = s.2 in omega (arith, le)))

pub flight_more : (ps qs flight : List Write) → IsFlight ps flight → IsFlight (ps ++ qs) flight
flight_more ps qs flight is =
    let s = shorter is.count ps qs in
    record { count = s.0; same = is.same ∙ s.1; logged = ⊎_elim (λ few. inl (let le = s.2 in omega (arith, few, le))) (λ all. inr all) is.logged }

pub refused_more : (ps qs : List Write) (e : WriteRefusal) (n : Noted) → IsRefusedWrite ps e n → IsRefusedWrite (ps ++ qs) e n
refused_more ps qs refused.Full n is = is
refused_more ps qs (refused.DiskFault p) n is = (is.0, is.1, flight_more ps qs is.0 is.2, is.3)
refused_more ps qs (refused.Down p) n is = is
refused_more ps qs refused.VersionsSpent n is = is
refused_more ps qs refused.NoMemory n is = is

front_kind : (k : Kind) (w : Write) (xs ys tail : List Write) → ys ≡ xs ++ tail → (rest : List Write) × (before_others k w ys ≡ before_others k w xs ++ rest)
front_kind kind.Read w xs ys tail is = ([], refl)
front_kind kind.Write w xs ys tail is = (tail, λ t. w ∷ is t)

-- with more requests behind these, the payloads of the first ones stay in front
pub front_more : (rs more : List Request) → (tail : List Write) × (front_writes (rs ++ more) ≡ front_writes rs ++ tail)
front_more [] more = (front_writes more, refl)
front_more (r ∷ rs) more = let f = front_more rs more in front_kind r.kind (payload (asked r)) (front_writes rs) (front_writes (rs ++ more)) f.0 f.1

pub entry_more : (view : List ℕ) (r : Request) (behind more : List Request) (o : Outcome) (n : Noted) → IsEntryOf view r behind o n → IsEntryOf view r (behind ++ more) o n
entry_more view r behind more (outcome.Read mark sources) n is = is
entry_more view r behind more (outcome.Wrote place drained) n is = is
entry_more view r behind more (outcome.NoRead refusal) n is = is
entry_more view r behind more (outcome.NoWrite refusal) n is =
    let f = front_more behind more in
    (is.0, subst (λ (ws : List Write). IsRefusedWrite (payload (asked r) ∷ ws) refusal n) (sym f.1) (refused_more (payload (asked r) ∷ front_writes behind) f.0 refusal n is.1))
entry_more view r behind more outcome.NotRun n is = is

pub entries_more : (view : List ℕ) (r : Request) (behind more : List Request) (o : Outcome) (ns : List Noted) → AreEntriesOf view r behind o ns → AreEntriesOf view r (behind ++ more) o ns
entries_more view r behind more outcome.NotRun ns is = is
entries_more view r behind more (outcome.Read mark sources) ns is = is
entries_more view r behind more (outcome.Wrote place drained) ns is = is
entries_more view r behind more (outcome.NoRead refusal) ns is = is
entries_more view r behind more (outcome.NoWrite refusal) ns is = (is.0, is.1, entry_more view r behind more (outcome.NoWrite refusal) is.0 is.2)

-- ---- Entries in a row

pub made_append : (view : List ℕ) (rs : List Request) (os : List Outcome) (ns : List Noted) (rs' : List Request) (os' : List Outcome) (ns' : List Noted) → AreMade view rs os ns → AreMade view rs' os' ns' → AreMade view (rs ++ rs') (os ++ os') (ns ++ ns')
made_append view _ _ _ rs' os' ns' none made' = made'
made_append view _ _ _ rs' os' ns' (one r rs o os notes first rest is entries made) made' =
    one r (rs ++ rs') o (os ++ os') (notes ++ ns') first (rest ++ ns') ((λ t. is t ++ ns') ∙ append_assoc first rest ns') (entries_more view r rs rs' o first entries) (made_append view rs os rest rs' os' ns' made made')
made_append view _ _ _ rs' os' ns' (several all outs notes group rs place os n rest two all_is outs_is notes_is entry made) made' =
    several (all ++ rs') (outs ++ os') (notes ++ ns') group (rs ++ rs') place (os ++ os') n (rest ++ ns') two
    ((λ t. all_is t ++ rs') ∙ append_assoc group rs rs')
    ((λ t. outs_is t ++ os') ∙ append_assoc (replicate (length group) (outcome.Wrote place false)) os os')
    (λ t. notes_is t ++ ns') entry (made_append view rs os rest rs' os' ns' made made')

-- one entry is that of one request
pub entries_of_one : (view : List ℕ) (r : Request) (behind : List Request) (o : Outcome) (n : Noted) → IsEntryOf view r behind o n → AreEntriesOf view r behind o (n ∷ [])
entries_of_one view r behind (outcome.Read mark sources) n is = (n, refl, is)
entries_of_one view r behind (outcome.Wrote place drained) n is = (n, refl, is)
entries_of_one view r behind (outcome.NoRead refusal) n is = (n, refl, is)
entries_of_one view r behind (outcome.NoWrite refusal) n is = (n, refl, is)
entries_of_one view r behind outcome.NotRun n is = absurd is

-- the entry of some first ones, and then the entries of the others
pub made_first : (view : List ℕ) (rs : List Request) (count : ℕ) (o : Outcome) (n : Noted) (os : List Outcome) (rest : List Noted) → IsEntryOfFirst view rs count o n → AreMade view (drop count rs) os rest
    → AreMade view rs (replicate count o ++ os) (n ∷ rest)
made_first view rs count o n os rest (one r behind rs_is count_is entry) made =
    subst (λ (k : ℕ). AreMade view rs (replicate k o ++ os) (n ∷ rest)) (sym count_is)
    (subst (λ (all : List Request). AreMade view all (o ∷ os) (n ∷ rest)) (sym rs_is)
    (one r behind o os (n ∷ rest) (n ∷ []) rest refl (entries_of_one view r behind o n entry)
    (subst (λ (all : List Request). AreMade view (drop 1 all) os rest) rs_is (subst (λ (k : ℕ). AreMade view (drop k rs) os rest) count_is made))))
made_first view rs count o n os rest (several place two within o_is entry) made =
    let long : length (take count rs) ≡ count = length-take-le count rs within in
    several rs (replicate count o ++ os) (n ∷ rest) (take count rs) (drop count rs) place os n rest (omega (arith, long, two)) (sym (take-append-drop count rs))
    (λ t. replicate (sym long t) (o_is t) ++ os) refl entry made
