-- Turns and windows of a machine.
use Rattle.std.proofs.Common.{◌≡◌, ◌≤◌, ◌+◌, ℕ, zero, suc, cond, List, [], ◌∷◌, ◌++◌, map, length, Option, Some, refl, sym, ap, subst, ◌∙◌, arith, take, drop}
use Rattle.std.specs.Prelude.{slice_get, slice_set}
use Rattle.std.specs.List.{AllByRecursion, range_with_len}
use Rattle.std.proofs.Math.ListN.{length-set}
use Rattle.std.proofs.lemmas.Option.{none-some, same_Some}
use Rattle.std.proofs.lemmas.List.{length-map, map-append}
use Rattle.wol_config.specs.declared.config.Config.{Config}
use Rattle.wol_model.specs.Journal.{SpindleState, Began, used}
use Rattle.wol_promise.specs.Policy.{Look}
use Rattle.wol_promise.proofs.Lists.{range_push}
use Rattle.whatif.specs.declared.policy.Policy.{Policy}
use Rattle.whatif.specs.declared.policy.Ask.{Ask}
use Rattle.whatif.specs.declared.disk.Disk.{Disk}
use Rattle.whatif.specs.declared.volume.Volume.{Volume}
use Rattle.whatif.specs.Machine as machine
use Rattle.whatif.specs.Machine.{Reach, Action, Turn, Asked, Setting, Machine, after_turns, after_window, after_windows, asking, begun, seeing, tidying, turned, turned_at}
use Rattle.whatif.specs.Policies.{machine_after, setting_of}
use Rattle.whatif.specs.Disks.{AreDisks, IsDisk, IsKept, moments_of}
use Rattle.whatif.specs.Volumes.{HasDone, IsVolume, IsWithin, reach_in, volume_in}
use Rattle.whatif.specs.Stands.{AreReady, HaveTurned, IsAmong, Stands}
use Rattle.whatif.proofs.Lists.{all_at, all_imply, all_set, get_map, map_set}

-- ---- turns

-- a volume has its turn
pub stands_turn : (vs : List Volume) (ds es : List Disk) (k : ℕ) (v w : Volume) (action : Reach → Look → Action) → slice_get vs k ≡ Some v → HasDone action v w ds es
    → HaveTurned (record { volume = k; action = action } ∷ []) vs ds (slice_set vs k w) es
stands_turn vs ds es k v w action is done t m stands =
    let turn : Turn = record { volume = k; action = action } in
    let found : slice_get m.volumes k ≡ Some (volume_in v) = ap (λ (l : List machine.Volume). slice_get l k) stands.volumes ∙ get_map volume_in vs k v is in
    subst (λ (o : Option machine.Volume). Stands (slice_set vs k w) es (turned_at t turn m o)) (sym found) (record {
      volumes = (λ i. slice_set (stands.volumes i) k (record { reach = sym done.reach i; look = sym done.look i; store = sym done.store i })) ∙ sym (map_set volume_in vs k w);
      disks = done.disks t m.spindles stands.disks;
    })

turns_joined : (t : ℕ) (ts us : List Turn) (m : Machine) → after_turns t (ts ++ us) m ≡ after_turns t us (after_turns t ts m)
turns_joined t [] us m = refl
turns_joined t (x ∷ ts) us m = turns_joined t ts us (turned t x m)

pub turned_more : (ts us : List Turn) (vs ws xs : List Volume) (ds es fs : List Disk) → HaveTurned ts vs ds ws es → HaveTurned us ws es xs fs → HaveTurned (ts ++ us) vs ds xs fs
turned_more ts us vs ws xs ds es fs first then t m stands = subst (Stands xs fs) (sym (turns_joined t ts us m)) (then t (after_turns t ts m) (first t m stands))

-- the requests up to the next one
pub asked_more : (asks : List Ask) (k : ℕ) (a : Ask) → slice_get asks k ≡ Some a → map asking (take (k + 1) asks) ≡ map asking (take k asks) ++ asking a ∷ []
asked_more asks k a is = let more : k + 1 ≡ suc k = omega arith in ap (λ (n : ℕ). map asking (take n asks)) more ∙ at asks k a is
  where
    at : (xs : List Ask) (j : ℕ) (b : Ask) → slice_get xs j ≡ Some b → map asking (take (suc j) xs) ≡ map asking (take j xs) ++ asking b ∷ []
    at [] j b is = absurd (none-some b is)
    at (x ∷ xs) zero b is = λ i. asking (same_Some x b is i) ∷ []
    at (x ∷ xs) (suc j) b is = λ i. asking x ∷ at xs j b is i

pub tidied_more : (k : ℕ) → map tidying (range_with_len 0 (k + 1)) ≡ map tidying (range_with_len 0 k) ++ tidying k ∷ []
tidied_more k =
    let more : k + 1 ≡ suc k = omega arith in let zero_ : 0 + k ≡ k = omega arith in
    ap (λ (n : ℕ). map tidying (range_with_len 0 n)) more ∙ ap (map tidying) (range_push 0 k) ∙ map-append tidying (range_with_len 0 k) ((0 + k) ∷ []) ∙ (λ i. map tidying (range_with_len 0 k) ++ tidying (zero_ i) ∷ [])

more_asked : (n asked later : ℕ) → asked ≤ later → (vs : List Volume) → AllByRecursion (IsAmong n asked) vs → AllByRecursion (IsAmong n later) vs
more_asked n asked later le [] all = tt
more_asked n asked later le (v ∷ vs) all = (record { volume = all.0.volume; within = all.0.within; next = let x = all.0.next in omega (arith, x, le) }, more_asked n asked later le vs all.1)

-- what is so of volumes and disks stays so
pub ready_turn : (vs : List Volume) (ds es : List Disk) (asked later moment k : ℕ) (v w : Volume) → AreReady vs ds asked moment → slice_get vs k ≡ Some v → IsVolume w → reach_in w ≡ reach_in v → w.next ≤ later + 1 → asked ≤ later
    → AllByRecursion IsKept es → moments_of es ≡ moments_of ds → AreReady (slice_set vs k w) es later moment
ready_turn vs ds es asked later moment k v w ready is volume reach next le kept moments = record {
  count = same ∙ ready.count ∙ sym (length-set vs k w);
  volumes = subst (λ (n : ℕ). AllByRecursion (IsAmong n later) (slice_set vs k w)) (sym same)
      (all_set (IsAmong (length ds) later) vs k w (more_asked (length ds) asked later le vs ready.volumes)
      (record { volume = volume; within = subst (IsWithin (length ds)) (sym reach) (all_at (IsAmong (length ds) asked) vs k v ready.volumes is).within; next = next }));
  kept = kept;
  moments = subst (AllByRecursion (λ t. t ≤ moment)) (sym moments) ready.moments;
}
  where
    same : length es ≡ length ds
    same = sym (length-map es (λ (d : Disk). d.moment)) ∙ ap length moments ∙ length-map ds (λ (d : Disk). d.moment)

-- a later moment
pub ready_later : (vs : List Volume) (ds : List Disk) (asked moment at : ℕ) → moment ≤ at → AreReady vs ds asked moment → AreReady vs ds asked at
ready_later vs ds asked moment at later ready = record {
  count = ready.count;
  volumes = ready.volumes;
  kept = ready.kept;
  moments = all_imply (λ t. t ≤ moment) (λ t. t ≤ at) (λ t le. omega arith) (moments_of ds) ready.moments;
}

-- ---- windows

pub begun_stands : (s : Setting) (at : ℕ) (vs ws : List Volume) (ds es : List Disk) (m : Machine) → Stands vs ds m
    → ((ss : List SpindleState) → AreDisks ds ss → AreDisks es (cond s.sleeps (map (λ d. used s.timeout d 0 (Began at)) ss) ss))
    → ((ss : List SpindleState) → AreDisks es ss → map volume_in ws ≡ map (seeing ss) (map volume_in vs)) → Stands ws es (begun s at m)
begun_stands s at vs ws ds es m stands began seen =
    let disks = began m.spindles stands.disks in
    record { volumes = ap (map (seeing _)) stands.volumes ∙ sym (seen _ disks); disks = disks }

windows_joined : (s : Setting) (ws us : List Asked) (m : Machine) → after_windows s (ws ++ us) m ≡ after_windows s us (after_windows s ws m)
windows_joined s [] us m = refl
windows_joined s (w ∷ ws) us m = windows_joined s ws us (after_window s w m)

pub one_window : (p : Policy) (c : Config) (from : ℕ) (ws : List Asked) (w : Asked) → machine_after p c from (ws ++ w ∷ []) ≡ after_window (setting_of p c) w (machine_after p c from ws)
unfolding machine_after
one_window p c from ws w = windows_joined (setting_of p c) ws (w ∷ []) _

-- the window began, its requests had their turns, and each volume reclaimed
pub window_stands : (p : Policy) (c : Config) (from : ℕ) (earlier : List Asked) (at : ℕ) (asks : List Ask) (vs ws xs ys : List Volume) (ds es fs gs : List Disk) (timeout : ℕ) → timeout ≡ c.timeout
    → Stands ws es (begun (setting_of p c) at (machine_after p c from earlier)) → length ws ≡ length vs → length xs ≡ length ws → Stands vs ds (machine_after p c from earlier)
    → HaveTurned (map asking asks) ws es xs fs → HaveTurned (map tidying (range_with_len 0 (length xs))) xs fs ys gs
    → Stands ys gs (machine_after p c from (earlier ++ record { moment = at; asks = asks } ∷ []))
window_stands p c from earlier at asks vs ws xs ys ds es fs gs timeout same began count counts was served tidied =
    subst (Stands ys gs) (sym (one_window p c from earlier (record { moment = at; asks = asks })))
    (subst (λ (n : ℕ). Stands ys gs (after_turns c.timeout (map tidying (range_with_len 0 n)) (after_turns c.timeout (map asking asks) (begun (setting_of p c) at (machine_after p c from earlier)))))
    (counts ∙ count ∙ sym (length-map vs volume_in) ∙ ap length (sym was.volumes))
    (tidied c.timeout _ (served c.timeout _ began)))

-- ---- lists that are gone through place by place

-- the elements before a place are changed
pub map_step : {X : Type 0} (f : X → X) (xs ys : List X) (i : ℕ) (x y : X) → xs ≡ map f (take i ys) ++ drop i ys → slice_get xs i ≡ Some x → y ≡ f x → slice_set xs i y ≡ map f (take (suc i) ys) ++ drop (suc i) ys
map_step f xs [] zero x y is at same = absurd (none-some x (sym (ap (λ (l : List _). slice_get l 0) is) ∙ at))
map_step f xs [] (suc i) x y is at same = absurd (none-some x (sym (ap (λ (l : List _). slice_get l (suc i)) is) ∙ at))
map_step {X} f xs (z ∷ ys) zero x y is at same =
    let here : z ≡ x = same_Some z x (sym (ap (λ (l : List X). slice_get l 0) is) ∙ at) in
    ap (λ (l : List X). slice_set l 0 y) is ∙ (λ i. (same ∙ ap f (sym here)) i ∷ ys)
map_step {X} f [] (z ∷ ys) (suc i) x y is at same = absurd (none-some x at)
map_step {X} f (w ∷ xs) (z ∷ ys) (suc i) x y is at same =
    let parts = cons_parts w xs (f z) (map f (take i ys) ++ drop i ys) is in
    λ j. parts.0 j ∷ map_step f xs ys i x y parts.1 at same j
  where
    first_of : X → List X → X
    first_of d [] = d
    first_of d (a ∷ as_) = a

    rest_of : List X → List X
    rest_of [] = []
    rest_of (a ∷ as_) = as_

    cons_parts : (a : X) (as_ : List X) (b : X) (bs : List X) → a ∷ as_ ≡ b ∷ bs → (a ≡ b) × (as_ ≡ bs)
    cons_parts a as_ b bs e = (ap (first_of a) e, ap rest_of e)

-- the disks before a place had their moment
pub zip_step : (f : SpindleState → SpindleState) (ds : List Disk) (ss : List SpindleState) (i : ℕ) (d e : Disk) → AreDisks ds (map f (take i ss) ++ drop i ss) → slice_get ds i ≡ Some d → ((s : SpindleState) → IsDisk d s → IsDisk e (f s))
    → AreDisks (slice_set ds i e) (map f (take (suc i) ss) ++ drop (suc i) ss)
zip_step f [] ss i d e zip at so = absurd (none-some d at)
zip_step f (x ∷ ds) [] zero d e zip at so = absurd zip
zip_step f (x ∷ ds) [] (suc i) d e zip at so = absurd zip
zip_step f (x ∷ ds) (s ∷ ss) zero d e zip at so = (so s (subst (λ (y : Disk). IsDisk y s) (same_Some x d at) zip.0), zip.1)
zip_step f (x ∷ ds) (s ∷ ss) (suc i) d e zip at so = (zip.0, zip_step f ds ss i d e zip.1 at so)
