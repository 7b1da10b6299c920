-- What entries put home and dropped: pass by pass, and against the records that are listed.
use Rattle.std.proofs.Common.{◌≡◌, ◌≢◌, ◌⊎◌, ◌≤◌, ◌+◌, ◌-◌, ◌==◌, inl, inr, ℕ, Bool, true, false, cond, List, [], ◌∷◌, ◌++◌, length, Option, None, Some, refl, ap, ◌∙◌, length-append, arith}
use Rattle.std.specs.Prelude.{⊤, IsTrue, is_some, slice_set, count_by}
use Rattle.std.specs.List.{AllByRecursion}
use Rattle.std.proofs.lemmas.List.{length-map, length-set}
use Rattle.std.proofs.lemmas.List.Sums.{sum_by-append, length-filter, count_by-le-length}
use Rattle.wol_model.specs.Blocks.{Write}
use Rattle.wol_model.specs.History.{Operation, Wrote, Read, Kept, Broke, worker, helper, keeper, writes, written_by}
use Rattle.wol_model.specs.Index.{homing, keeping, keeps_a_block}
use Rattle.wol_model.specs.Placing.{Home, Log, Full}
use Rattle.wol_model.specs.Placing as placing
use Rattle.wol_promise.specs.Policy.{Look, AreWrites, IsReclaim, AreReclaims, placed, place_of, version_at, woken, drained, listing}
use Rattle.wol_promise.specs.Policy as policy
use Rattle.wol_promise.specs.Report.{reclaims, put_home_by, blocks_put_home, logged_writes}
use Rattle.wol_promise.specs.Ruled.{Noted, IsStep, IsKeep, AreRuled, IsDrainedWrite, entries_of, last_look}
use Rattle.wol_promise.specs.Ruled as ruled
use Rattle.reclaimer.proofs.TakenOff.{nothing_taken}
use Rattle.request_turns.specs.Counts.{added_up, dropped_by, records_dropped}

-- ---- Pass by pass

-- what all entries after a look come to
abbrev all_up : (Bool → Look → Look → ℕ) → Look → List Noted → ℕ
all_up worth l [] = 0
all_up worth l (n ∷ notes) = worth (reclaims n.after_drain n.entry.operation) l n.look + all_up worth n.look notes

-- each entry is the worker's or the helper's, or leaves the records as they were listed
abbrev pub AreOthersIdle : Look → List Noted → Type 0
AreOthersIdle l [] = ⊤
AreOthersIdle l (n ∷ notes) = ((n.entry.pass ≡ worker) ⊎ ((n.entry.pass ≡ helper) ⊎ ((n.entry.pass ≡ keeper) × (n.look.listed ≡ l.listed)))) × AreOthersIdle n.look notes

module _ (worth : Bool → Look → Look → ℕ) (idle : (t : Bool) (l m : Look) → m.listed ≡ l.listed → worth t l m ≡ 0) where
  parts : (l : Look) (notes : List Noted) → AreOthersIdle l notes → all_up worth l notes ≡ added_up worth worker l notes + added_up worth helper l notes
  parts l [] h = refl
  parts l (n ∷ notes) h = by (parts n.look notes h.1) h.0
    where
      w : ℕ
      w = worth (reclaims n.after_drain n.entry.operation) l n.look

      share : (pass k : ℕ) → n.entry.pass ≡ pass → (pass == k) ≡ true → cond (n.entry.pass == k) w 0 ≡ w
      share pass k is same = ap (λ (t : Bool). cond t w 0) (ap (λ (j : ℕ). j == k) is ∙ same)

      none : (pass k : ℕ) → n.entry.pass ≡ pass → (pass == k) ≡ false → cond (n.entry.pass == k) w 0 ≡ 0
      none pass k is other = ap (λ (t : Bool). cond t w 0) (ap (λ (j : ℕ). j == k) is ∙ other)

      by : all_up worth n.look notes ≡ added_up worth worker n.look notes + added_up worth helper n.look notes → (n.entry.pass ≡ worker) ⊎ ((n.entry.pass ≡ helper) ⊎ ((n.entry.pass ≡ keeper) × (n.look.listed ≡ l.listed)))
          → w + all_up worth n.look notes ≡ (cond (n.entry.pass == worker) w 0 + added_up worth worker n.look notes) + (cond (n.entry.pass == helper) w 0 + added_up worth helper n.look notes)
      by rest (inl is) = let a = share worker worker is refl in let b = none worker helper is refl in omega (arith, a, b, rest)
      by rest (inr (inl is)) = let a = none helper worker is refl in let b = share helper helper is refl in omega (arith, a, b, rest)
      by rest (inr (inr is)) = let a = none keeper worker is.0 refl in let b = none keeper helper is.0 refl in let z = idle (reclaims n.after_drain n.entry.operation) l n.look is.1 in omega (arith, a, b, z, rest)

is_home : (l : Look) (notes : List Noted) → blocks_put_home l notes ≡ all_up put_home_by l notes
is_home l [] = refl
is_home l (n ∷ notes) = let r = is_home n.look notes in omega (arith, r)

is_dropped : (l : Look) (notes : List Noted) → records_dropped l notes ≡ all_up dropped_by l notes
is_dropped l [] = refl
is_dropped l (n ∷ notes) = let r = is_dropped n.look notes in omega (arith, r)

home_idle : (t : Bool) (l m : Look) → m.listed ≡ l.listed → put_home_by t l m ≡ 0
home_idle true l m same = (nothing_taken l m same).homed
home_idle false l m same = refl

dropped_idle : (t : Bool) (l m : Look) → m.listed ≡ l.listed → dropped_by t l m ≡ 0
dropped_idle true l m same = let e = ap length same in omega (arith, e)
dropped_idle false l m same = refl

-- the blocks that went home are those that the worker and the helper put home
pub home_by_pass : (l : Look) (notes : List Noted) → AreOthersIdle l notes → blocks_put_home l notes ≡ added_up put_home_by worker l notes + added_up put_home_by helper l notes
home_by_pass l notes h = is_home l notes ∙ parts put_home_by home_idle l notes h

-- so with the records that were dropped
pub dropped_by_pass : (l : Look) (notes : List Noted) → AreOthersIdle l notes → records_dropped l notes ≡ added_up dropped_by worker l notes + added_up dropped_by helper l notes
dropped_by_pass l notes h = is_dropped l notes ∙ parts dropped_by dropped_idle l notes h

-- ---- Records

versioned : List Write → ℕ
versioned ws = count_by (λ (w : Write). is_some w.version) ws

versioned_joined : (ws vs : List Write) → versioned (ws ++ vs) ≡ versioned ws + versioned vs
unfolding versioned
versioned_joined ws vs = sum_by-append (λ (w : Write). cond (is_some w.version) 1 0) ws vs

longer : (l : Look) (lane : ℕ) (w : Write) → length (listing l lane w) ≡ length l.listed + 1
longer l lane w = length-append _ _ ∙ ap (λ (k : ℕ). k + 1) (length-map l.listed _)

module _ (passed : List ℕ) where
  writes_listed : (l : Look) (ws : List Write) (m : Look) → AreWrites passed l ws m → length m.listed ≡ length l.listed + versioned ws
  unfolding versioned
  writes_listed l [] m h = ap (λ (k : Look). length k.listed) h ∙ omega arith
  writes_listed l (w ∷ ws) m h = by (place_of passed l w) h.0 h.1 (writes_listed (placed (place_of passed l w) l w) ws m h.2)
    where
      split : versioned (w ∷ ws) ≡ versioned (w ∷ []) + versioned ws
      split = versioned_joined (w ∷ []) ws

      one : (v : Option ℕ) → w.version ≡ v → versioned (w ∷ []) ≡ cond (is_some v) 1 0
      one v is = ap (λ (o : Option ℕ). 0 + cond (is_some o) 1 0) is ∙ omega arith

      by : (P : placing.Place) → P ≢ Full → w.version ≡ version_at P l → length m.listed ≡ length (placed P l w).listed + versioned ws → length m.listed ≡ length l.listed + versioned (w ∷ ws)
      by Home not is rest = let a = split in let b = one None is in omega (arith, a, b, rest)
      by (Log lane) not is rest = let a = split in let b = one (Some l.next) is in let c = longer l lane w in omega (arith, a, b, c, rest)
      by Full not is rest = absurd (not refl)

fewer : (l m : Look) → IsReclaim l m → length m.listed ≤ length l.listed
fewer l m (policy.puts_home k put e up at due is) = let a = ap (λ (x : Look). length x.listed) is in let b = length-set l.listed k (homing put e) in omega (arith, a, b)
fewer l m (policy.gives_up k e at there is) =
    let a = ap (λ (x : Look). length x.listed) is in let b = length-set l.listed k (keeping l.listed e) in
    let c = length-filter keeps_a_block (slice_set l.listed k (keeping l.listed e)) in let d = count_by-le-length keeps_a_block (slice_set l.listed k (keeping l.listed e)) in
    omega (arith, a, b, c, d)

fewer_all : (l m : Look) → AreReclaims l m → length m.listed ≤ length l.listed
fewer_all l m (policy.none x) = omega arith
fewer_all l m (policy.more x k y first rest) = let a = fewer l k first in let b = fewer_all k m rest in omega (arith, a, b)

keep_listed : (passed : List ℕ) (pass : ℕ) (l m : Look) → IsKeep passed pass l m → length m.listed ≤ length l.listed
keep_listed passed pass l m (ruled.same is) = let a = ap (λ (x : Look). length x.listed) is in omega (arith, a)
keep_listed passed pass l m (ruled.refused w client drain) = let a = ap (λ (x : Look). length x.listed) drain.bare in omega (arith, a)
keep_listed passed pass l m (ruled.flags is long so) = let a = ap (λ (x : Look). length x.listed) so in omega (arith, a)
keep_listed passed pass l m (ruled.helped is step) = fewer l m step
keep_listed passed pass l m (ruled.reclaimed is steps) = fewer_all l m steps

-- the operation isn't that of a call that broke
abbrev pub IsWhole : Operation → Type 0
IsWhole (Wrote ws) = ⊤
IsWhole (Read first reply) = ⊤
IsWhole Kept = ⊤
IsWhole (Broke ws) = ⊥

-- records that were dropped and those that are listed afterwards are those before and the writes to logs
step_adds : (n : Noted) (op : Operation) (l m : Look) → IsWhole op → IsStep n n.entry.pass op l m → dropped_by (reclaims n.after_drain op) l m + length m.listed ≡ length l.listed + versioned (written_by op)
unfolding versioned
step_adds n (Read first reply) l m whole h = let a = ap (λ (x : Look). length x.listed) h.1 in omega (arith, a)
step_adds n (Wrote ws) l m whole (inl h) =
    let a = writes_listed n.passed l ws m h.1 in let d : dropped_by n.after_drain l m ≡ 0 = ap (λ (t : Bool). dropped_by t l m) h.0 in omega (arith, a, d)
step_adds n (Wrote ws) l m whole (inr h) =
    let d : dropped_by n.after_drain l m ≡ length l.listed - length m.listed = ap (λ (t : Bool). dropped_by t l m) h.0 in
    let e = ap (λ (x : Look). length x.listed) h.1.drains.bare in
    let v : versioned ws ≡ 0 = ap versioned h.1.only ∙ ap (λ (o : Option ℕ). 0 + cond (is_some o) 1 0) h.1.home in
    omega (arith, d, e, v)
step_adds n Kept l m whole h = let a = keep_listed n.passed n.entry.pass l m h.1 in omega (arith, a)
step_adds n (Broke ws) l m whole h = absurd whole

-- what is dropped by whole entries, each of which follows the rules
pub records_add_up : (l : Look) (notes : List Noted) → AreRuled l notes → AllByRecursion (λ (n : Noted). IsTrue n.ruled) notes → AllByRecursion (λ (n : Noted). IsWhole n.entry.operation) notes
    → records_dropped l notes + length (last_look l notes).listed ≡ length l.listed + logged_writes notes
unfolding versioned
records_add_up l [] rules are whole = omega arith
records_add_up l (n ∷ notes) rules are whole =
    let one = step_adds n n.entry.operation l n.look whole.0 (rules.0 are.0) in
    let rest = records_add_up n.look notes rules.1 are.1 whole.1 in
    let split : logged_writes (n ∷ notes) ≡ versioned (written_by n.entry.operation) + logged_writes notes = versioned_joined (written_by n.entry.operation) (writes (entries_of notes)) in
    omega (arith, one, rest, split)
