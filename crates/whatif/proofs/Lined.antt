-- Lines that are appended one after another.
use Rattle.std.proofs.Common.{◌≡◌, ◌<◌, ◌+◌, ◌/◌, ℕ, zero, suc, true, false, cond, List, [], ◌∷◌, ◌++◌, map, length, get_or, take, Some, refl, sym, ap, ◌∙◌, append_assoc, append-nil, arith}
use Rattle.std.specs.Prelude.{Result, Ok, Err, OnOk, slice_get, slice_index, codes, decimal}
use Rattle.std.specs.List.{flat_map, range_with_len}
use Rattle.std.proofs.lemmas.Grind.{flat_map-append}
use Rattle.report.specs.Words.{line_of, word_of}
use Rattle.report.specs.declared.words.Word.{Word}
use Rattle.whatif.specs.declared.policy.Policy.TheVariants.{Always, SpinDown, Host, All, Views}
use Rattle.wol_config.specs.declared.config.Config.{Config}
use Rattle.wol_config.specs.declared.config.VolumeConf.{VolumeConf}
use Rattle.wol_model.specs.declared.journal.Powers.{Powers}
use Rattle.wol_model.specs.Journal.{SpindleState}
use Rattle.whatif.specs.declared.disk.Disk.{Disk}
use Rattle.whatif.specs.declared.policy.Details.{Details}
use Rattle.whatif.specs.declared.policy.Policy.{Policy}
use Rattle.whatif.specs.declared.policy.Used.{Used}
use Rattle.whatif.specs.declared.waits.Told.{Told}
use Rattle.whatif.specs.Disks.{AreDisks, IsDisk}
use Rattle.whatif.specs.Lines.{conf_at, logged_text, long_text, name_of, offered, volume_words, policy_text, told_text, used_at, volume_text, volumes_text, waits_text}
use Rattle.whatif.specs.Machine.{Asked}
use Rattle.whatif.specs.Policies.{compared, machine_after, waits_by}
use Rattle.whatif.specs.Waits.{AreLogged, AreTold, IsMost, Waited, helds, of_disk, of_volume, over, waits_of}
use Rattle.whatif.specs.declared.logged.Held.{Held}
use Rattle.whatif.specs.declared.logged.Logged.{Logged}
use Rattle.whatif.specs.declared.logged.Most.{Most}
use Rattle.wol_model.specs.declared.trace.Kind.TheVariants.{Read, Write}
use Rattle.whatif.proofs.New.{range_more}

-- ---- the line of a volume

first_told : (wake : ℕ) (ws : List ℕ) (over_ : List ℕ) (none : ℕ) → over_ ≡ map (λ k. over wake k ws) (range_with_len 0 10) → none ≡ slice_index over_ 0 → none ≡ over wake 0 ws
first_told wake ws over_ none is zero_ = zero_ ∙ ap (λ (l : List ℕ). slice_index l 0) is

-- the last two words are there only where it says how many segments there are
pub cut_words : (p : Policy) (v : VolumeConf) (a0 a1 a2 a3 a4 a5 a6 a7 a8 a9 a10 a11 a12 a13 a14 a15 a16 a17 a18 a19 a20 a21 a22 a23 a24 o n : Word) → word_of o ≡ codes "of" → word_of n ≡ decimal v.segments
    → map word_of (take (volume_words p) (a0 ∷ a1 ∷ a2 ∷ a3 ∷ a4 ∷ a5 ∷ a6 ∷ a7 ∷ a8 ∷ a9 ∷ a10 ∷ a11 ∷ a12 ∷ a13 ∷ a14 ∷ a15 ∷ a16 ∷ a17 ∷ a18 ∷ a19 ∷ a20 ∷ a21 ∷ a22 ∷ a23 ∷ a24 ∷ o ∷ n ∷ [])) ≡ word_of a0 ∷ word_of a1 ∷ word_of a2 ∷ word_of a3 ∷ word_of a4 ∷ word_of a5 ∷ word_of a6 ∷ word_of a7 ∷ word_of a8 ∷ word_of a9 ∷ word_of a10 ∷ word_of a11 ∷ word_of a12 ∷ word_of a13 ∷ word_of a14 ∷ word_of a15 ∷ word_of a16 ∷ word_of a17 ∷ word_of a18 ∷ word_of a19 ∷ word_of a20 ∷ word_of a21 ∷ word_of a22 ∷ word_of a23 ∷ word_of a24 ∷ offered p (Some v)
cut_words Always v a0 a1 a2 a3 a4 a5 a6 a7 a8 a9 a10 a11 a12 a13 a14 a15 a16 a17 a18 a19 a20 a21 a22 a23 a24 o n of_ segments = refl
cut_words SpinDown v a0 a1 a2 a3 a4 a5 a6 a7 a8 a9 a10 a11 a12 a13 a14 a15 a16 a17 a18 a19 a20 a21 a22 a23 a24 o n of_ segments = refl
cut_words Host v a0 a1 a2 a3 a4 a5 a6 a7 a8 a9 a10 a11 a12 a13 a14 a15 a16 a17 a18 a19 a20 a21 a22 a23 a24 o n of_ segments = refl
cut_words All v a0 a1 a2 a3 a4 a5 a6 a7 a8 a9 a10 a11 a12 a13 a14 a15 a16 a17 a18 a19 a20 a21 a22 a23 a24 o n of_ segments = refl
cut_words Views v a0 a1 a2 a3 a4 a5 a6 a7 a8 a9 a10 a11 a12 a13 a14 a15 a16 a17 a18 a19 a20 a21 a22 a23 a24 o n of_ segments = λ i. word_of a0 ∷ word_of a1 ∷ word_of a2 ∷ word_of a3 ∷ word_of a4 ∷ word_of a5 ∷ word_of a6 ∷ word_of a7 ∷ word_of a8 ∷ word_of a9 ∷ word_of a10 ∷ word_of a11 ∷ word_of a12 ∷ word_of a13 ∷ word_of a14 ∷ word_of a15 ∷ word_of a16 ∷ word_of a17 ∷ word_of a18 ∷ word_of a19 ∷ word_of a20 ∷ word_of a21 ∷ word_of a22 ∷ word_of a23 ∷ word_of a24 ∷ of_ i ∷ segments i ∷ []

pub volume_told : (p : Policy) (v : VolumeConf) (shown title : List ℕ) (u : Used) (wake : ℕ) (ws : List Waited) (hs : List Held) (t : Told) (m : Most) (reads writes : ℕ) → AreTold wake ws t → IsMost hs m → shown ≡ v.name → title ≡ name_of p → reads ≡ slice_index t.reads.over 0 → writes ≡ slice_index t.writes.over 0
    → line_of (title ∷ codes "volume" ∷ shown ∷ codes "wakes" ∷ decimal u.wakes ∷ codes "sleeps" ∷ decimal u.sleeps ∷ codes "awake" ∷ decimal u.awake ∷ codes "standby" ∷ decimal u.standby ∷ codes "energy" ∷ decimal (u.units / 10000000)
    ∷ codes "reads" ∷ decimal t.reads.count ∷ codes "wait" ∷ decimal reads ∷ codes "writes" ∷ decimal t.writes.count ∷ codes "wait" ∷ decimal writes
    ∷ codes "blocks" ∷ decimal m.blocks ∷ codes "segments" ∷ decimal m.segments ∷ offered p (Some v)) ≡ volume_text p (Some v) u wake ws hs
unfolding volume_text
volume_told p v shown title u wake ws hs t m reads writes are most same of r w =
    let first = first_told wake (waits_of false ws) t.reads.over reads are.reads.over_ r in
    let second = first_told wake (waits_of true ws) t.writes.over writes are.writes.over_ w in
    λ i. line_of (of i ∷ codes "volume" ∷ same i ∷ codes "wakes" ∷ decimal u.wakes ∷ codes "sleeps" ∷ decimal u.sleeps ∷ codes "awake" ∷ decimal u.awake ∷ codes "standby" ∷ decimal u.standby ∷ codes "energy" ∷ decimal (u.units / 10000000)
    ∷ codes "reads" ∷ decimal (are.reads.count i) ∷ codes "wait" ∷ decimal (first i) ∷ codes "writes" ∷ decimal (are.writes.count i) ∷ codes "wait" ∷ decimal (second i) ∷ codes "blocks" ∷ decimal (most.blocks i) ∷ codes "segments" ∷ decimal (most.segments i) ∷ offered p (Some v))

pub logged_told : (p : Policy) (title : List ℕ) (hs : List Held) (l : Logged) → AreLogged hs l → title ≡ name_of p
    → line_of (title ∷ codes "logged" ∷ decimal l.count ∷ codes "blocks" ∷ decimal l.blocks ∷ codes "segments" ∷ decimal l.segments ∷ []) ≡ logged_text p hs
unfolding logged_text
logged_told p title hs l are of = λ i. line_of (of i ∷ codes "logged" ∷ decimal (are.count i) ∷ codes "blocks" ∷ decimal (are.blocks i) ∷ codes "segments" ∷ decimal (are.segments i) ∷ [])

-- ---- lines of volumes

pub lines_more : (f : ℕ → List ℕ) (k : ℕ) (a o1 o2 : List ℕ) → o1 ≡ a ++ flat_map f (range_with_len 0 k) → o2 ≡ o1 ++ f k → o2 ≡ a ++ flat_map f (range_with_len 0 (k + 1))
lines_more f k a o1 o2 e1 e2 =
    e2 ∙ ap (λ (l : List ℕ). l ++ f k) e1 ∙ append_assoc a (flat_map f (range_with_len 0 k)) (f k)
    ∙ ap (λ (l : List ℕ). a ++ l) (sym (ap (flat_map f) (range_more k) ∙ flat_map-append f (range_with_len 0 k) (k ∷ []) ∙ ap (λ (l : List ℕ). flat_map f (range_with_len 0 k) ++ l) (append-nil (f k))))

pub record Found (ds : List Disk) (ss : List SpindleState) (k : ℕ) (d : Disk) : Type 0 where
  pub state : SpindleState
  pub is : IsDisk d state
  pub at : slice_get ss k ≡ Some state

pub disk_found : (ds : List Disk) (ss : List SpindleState) (k : ℕ) (d : Disk) → k < length ds → AreDisks ds ss → Found ds ss k (get_or ds k d)
disk_found [] ss k d lt are = absurd (omega arith)
disk_found (x ∷ ds) [] k d lt are = absurd are
disk_found (x ∷ ds) (s ∷ ss) zero d lt are = record { state = s; is = are.0; at = refl }
disk_found (x ∷ ds) (s ∷ ss) (suc k) d lt are = let rest = disk_found ds ss k d (omega arith) are.1 in record { state = rest.state; is = rest.is; at = rest.at }

-- ---- all lines of a policy

pub on_ok : {T E : Type 0} (r : Result T E) (P Q : Type 0) → (P → Q) → OnOk r P → OnOk r Q
on_ok (Ok x) P Q f is = f is
on_ok (Err e) P Q f is = tt

three : (a p q r o1 o2 o3 : List ℕ) → o1 ≡ a ++ p → o2 ≡ o1 ++ q → o3 ≡ o2 ++ r → o3 ≡ a ++ ((p ++ q) ++ r)
three a p q r o1 o2 o3 e1 e2 e3 = e3 ∙ ap (λ (l : List ℕ). l ++ r) (e2 ∙ ap (λ (l : List ℕ). l ++ q) e1) ∙ simp append_assoc

pub long_told : (p : Policy) (wake : ℕ) (ws : List Waited) (a o1 o2 o3 : List ℕ) → o1 ≡ a ++ waits_text p Read wake (waits_of false ws) → o2 ≡ o1 ++ waits_text p Write wake (waits_of true ws) → o3 ≡ o2 ++ logged_text p (helds ws) → o3 ≡ a ++ long_text p wake ws
unfolding long_text
long_told p wake ws a o1 o2 o3 e1 e2 e3 = three a _ _ _ o1 o2 o3 e1 e2 e3

pub all_told : (details : Details) (p : Policy) (c : Config) (from : ℕ) (ws : List Asked) (to : ℕ) (a o1 o2 o3 : List ℕ) → o1 ≡ a ++ policy_text p (compared p c from ws to)
    → o2 ≡ o1 ++ cond details.long (long_text p c.wake (waits_by p c from ws)) [] → o3 ≡ o2 ++ cond details.volumes (volumes_text p c from ws to) [] → o3 ≡ a ++ told_text details p c from ws to
unfolding told_text
all_told details p c from ws to a o1 o2 o3 e1 e2 e3 = three a _ _ _ o1 o2 o3 e1 e2 e3

pub volumes_told : (p : Policy) (c : Config) (from : ℕ) (ws : List Asked) (to : ℕ) (vs : List VolumeConf) (powers : Powers) → vs ≡ c.volumes.items → powers ≡ c.powers
    → flat_map (λ k. volume_text p (conf_at vs k) (used_at powers to (machine_after p c from ws).spindles k) c.wake (of_volume k (waits_by p c from ws)) (of_disk k (helds (waits_by p c from ws)))) (range_with_len 0 (length vs)) ≡ volumes_text p c from ws to
unfolding volumes_text
volumes_told p c from ws to vs powers same draws =
    λ i. flat_map (λ k. volume_text p (conf_at (same i) k) (used_at (draws i) to (machine_after p c from ws).spindles k) c.wake (of_volume k (waits_by p c from ws)) (of_disk k (helds (waits_by p c from ws)))) (range_with_len 0 (length (same i)))
