-- The waits of requests that were served one after another, and window by window.
use Rattle.std.proofs.Common.{◌≡◌, ◌+◌, ℕ, zero, suc, List, [], ◌∷◌, ◌++◌, map, take, Option, Some, refl, sym, ap, subst, ◌∙◌, append_assoc, append-nil, arith}
use Rattle.std.specs.Prelude.{slice_get}
use Rattle.std.specs.Option.{option_map, option_and_then, option_map_or}
use Rattle.whatif.specs.Logs.{filed_on}
use Rattle.whatif.specs.declared.logged.Held.{Held}
use Rattle.std.proofs.lemmas.Option.{none-some, same_Some}
use Rattle.wol_config.specs.declared.config.Config.{Config}
use Rattle.whatif.specs.declared.policy.Ask.{Ask}
use Rattle.whatif.specs.declared.policy.Policy.{Policy}
use Rattle.whatif.specs.declared.disk.Disk.{Disk}
use Rattle.whatif.specs.declared.volume.Volume.{Volume}
use Rattle.whatif.specs.declared.waits.Tallies.{Tallies}
use Rattle.whatif.specs.Machine as machine
use Rattle.whatif.specs.Machine.{Asked, Machine, Setting, after_turns, after_window, after_windows, answering, asking, begun, first_machine, turned}
use Rattle.whatif.specs.Policies.{machine_after, setting_of, waits_by}
use Rattle.whatif.specs.Stands.{HaveTurned, HaveWaited}
use Rattle.whatif.specs.Volumes.{IsLate, look_in, reach_in, volume_in}
use Rattle.whatif.specs.Waits.{AreTallied, Waited, held_on, log_of, uses_of, wait_on, waits_among, waits_in}
use Rattle.whatif.proofs.Lists.{get_map}

-- ---- requests

pub none_waited : (wake : ℕ) (vs : List Volume) (ds : List Disk) (t : Tallies) → HaveWaited wake [] vs ds t t
none_waited wake vs ds t timeout m ws stands are = subst (λ (l : List Waited). AreTallied wake l t) (sym (append-nil ws)) are

-- one request
pub one_waited : (wake wait : ℕ) (vs us : List Volume) (ds es : List Disk) (a : Ask) (v : Volume) (log : Option ℕ) (held : Option Held) (old new : Tallies) → slice_get vs a.volume ≡ Some v → IsLate wake (answering a.kind a.lbn a.count) v ds wait
    → log ≡ filed_on (answering a.kind a.lbn a.count (reach_in v) (look_in v)).moves → held ≡ option_map (held_on (map volume_in us)) log → HaveTurned (asking a ∷ []) vs ds us es
    → ((ws : List Waited) → AreTallied wake ws old → AreTallied wake (ws ++ record { volume = a.volume; kind = a.kind; wait = wait; held = held } ∷ []) new) → HaveWaited wake (a ∷ []) vs ds old new
one_waited wake wait vs us ds es a v log held old new at late logs holds turn told timeout m ws stands are =
    let found : slice_get m.volumes a.volume ≡ Some (volume_in v) = ap (λ (l : List machine.Volume). slice_get l a.volume) stands.volumes ∙ get_map volume_in vs a.volume v at in
    let uses : (answering a.kind a.lbn a.count (reach_in v) (look_in v)).uses ≡ uses_of a m =
    ap (λ (o : Option machine.Volume). option_map_or (λ (x : machine.Volume). (answering a.kind a.lbn a.count x.reach x.look).uses) o []) (sym found) in
    let is : wait ≡ wait_on timeout wake (uses_of a m) m.spindles = late timeout m.spindles stands.disks ∙ ap (λ (us : List ℕ). wait_on timeout wake us m.spindles) uses in
    let on : log ≡ log_of a m = logs ∙ ap (λ (o : Option machine.Volume). option_and_then (λ (x : machine.Volume). filed_on (answering a.kind a.lbn a.count x.reach x.look).moves) o) (sym found) in
    let then : map volume_in us ≡ (turned timeout (asking a) m).volumes = sym (turn timeout m stands).volumes in
    let has : held ≡ option_map (held_on (turned timeout (asking a) m).volumes) (log_of a m) = holds ∙ (λ i. option_map (held_on (then i)) (on i)) in
    subst (λ (l : List Waited). AreTallied wake (ws ++ l) new) (λ i. record { volume = a.volume; kind = a.kind; wait = is i; held = has i } ∷ []) (told ws are)

waits_joined : (timeout wake : ℕ) (xs ys : List Ask) (m : Machine) → waits_among timeout wake (xs ++ ys) m ≡ waits_among timeout wake xs m ++ waits_among timeout wake ys (after_turns timeout (map asking xs) m)
waits_joined timeout wake [] ys m = refl
waits_joined timeout wake (a ∷ xs) ys m = λ i. record { volume = a.volume; kind = a.kind; wait = wait_on timeout wake (uses_of a m) m.spindles; held = option_map (held_on (turned timeout (asking a) m).volumes) (log_of a m) } ∷ waits_joined timeout wake xs ys (turned timeout (asking a) m) i

-- requests that come after others
pub waited_more : (wake : ℕ) (xs ys : List Ask) (vs ws : List Volume) (ds es : List Disk) (t u v : Tallies) → HaveTurned (map asking xs) vs ds ws es → HaveWaited wake xs vs ds t u → HaveWaited wake ys ws es u v → HaveWaited wake (xs ++ ys) vs ds t v
waited_more wake xs ys vs ws ds es t u v turned first then timeout m before stands are =
    let one = waits_among timeout wake xs m in
    let two = waits_among timeout wake ys (after_turns timeout (map asking xs) m) in
    subst (λ (l : List Waited). AreTallied wake (before ++ l) v) (sym (waits_joined timeout wake xs ys m))
    (subst (λ (l : List Waited). AreTallied wake l v) (append_assoc before one two)
    (then timeout (after_turns timeout (map asking xs) m) (before ++ one) (turned timeout m stands) (first timeout m before stands are)))

-- the requests up to the next one
pub taken_more : (asks : List Ask) (k : ℕ) (a : Ask) → slice_get asks k ≡ Some a → take (k + 1) asks ≡ take k asks ++ a ∷ []
taken_more asks k a is = let more : k + 1 ≡ suc k = omega arith in ap (λ (n : ℕ). take n asks) more ∙ at asks k a is
  where
    at : (xs : List Ask) (j : ℕ) (b : Ask) → slice_get xs j ≡ Some b → take (suc j) xs ≡ take j xs ++ b ∷ []
    at [] j b is = absurd (none-some b is)
    at (x ∷ xs) zero b is = λ i. same_Some x b is i ∷ []
    at (x ∷ xs) (suc j) b is = λ i. x ∷ at xs j b is i

-- ---- windows

windows_waited : (s : Setting) (wake : ℕ) (ws : List Asked) (w : Asked) (m : Machine) → waits_in s wake (ws ++ w ∷ []) m ≡ waits_in s wake ws m ++ waits_among s.timeout wake w.asks (begun s w.moment (after_windows s ws m))
windows_waited s wake [] w m = append-nil (waits_among s.timeout wake w.asks (begun s w.moment m))
windows_waited s wake (x ∷ ws) w m =
    ap (λ (l : List Waited). waits_among s.timeout wake x.asks (begun s x.moment m) ++ l) (windows_waited s wake ws w (after_window s x m))
    ∙ sym (append_assoc (waits_among s.timeout wake x.asks (begun s x.moment m)) (waits_in s wake ws (after_window s x m)) _)

-- a window more
window_waited : (p : Policy) (c : Config) (from : ℕ) (ws : List Asked) (w : Asked) → waits_by p c from (ws ++ w ∷ []) ≡ waits_by p c from ws ++ waits_among c.timeout c.wake w.asks (begun (setting_of p c) w.moment (machine_after p c from ws))
unfolding waits_by machine_after
window_waited p c from ws w = windows_waited (setting_of p c) c.wake ws w (first_machine (setting_of p c) from)

pub waits_more : (p : Policy) (c : Config) (from : ℕ) (ws : List Asked) (w : Asked) (wake : ℕ) (t u : Tallies) → wake ≡ c.wake → AreTallied c.wake (waits_by p c from ws) t
    → (AreTallied wake (waits_by p c from ws) t → AreTallied wake (waits_by p c from ws ++ waits_among c.timeout wake w.asks (begun (setting_of p c) w.moment (machine_after p c from ws))) u)
    → AreTallied c.wake (waits_by p c from (ws ++ w ∷ [])) u
waits_more p c from ws w wake t u same are more =
    let one = waits_by p c from ws in
    subst (λ (l : List Waited). AreTallied c.wake l u) (sym (window_waited p c from ws w))
    (subst (λ (n : ℕ). AreTallied n (one ++ waits_among c.timeout n w.asks (begun (setting_of p c) w.moment (machine_after p c from ws))) u) same
    (more (subst (λ (n : ℕ). AreTallied n one t) (sym same) are)))

pub no_waits : (p : Policy) (c : Config) (from : ℕ) → waits_by p c from [] ≡ []
unfolding waits_by
no_waits p c from = refl
