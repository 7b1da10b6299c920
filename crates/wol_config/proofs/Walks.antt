-- One volume more, on a walk through the volumes of a document.
use Rattle.std.proofs.Common.{◌≡◌, ◌⊎◌, inl, inr, ℕ, ◌+◌, ◌<◌, ◌≤◌, Bool, true, false, cond, List, [], ◌∷◌, ◌++◌, length, map, take, drop, get_or, set, Option, Some, None, refl, sym, ap, ◌∙◌, arith, subst, zero, suc}
use Rattle.std.specs.List.{list_any, list_all}
use Rattle.std.specs.Option.{option_or}
use Rattle.std.proofs.lemmas.List.{take_more, drop_more, take-map, drop-map, map-append, take-append-drop, length-take-le}
use Rattle.toml.specs.Data.{Members}
use Rattle.toml.specs.View.{view}
use Rattle.toml.specs.declared.value.Value.{Value}
use Rattle.wol_config.specs.declared.config.VolumeConf.{VolumeConf}
use Rattle.wol_config.specs.declared.config.ConfigFault.{ConfigFault}
use Rattle.wol_config.specs.declared.config.ConfigFault.TheVariants.{Twice, BadView}
use Rattle.wol_config.specs.Documents.{members_of, volume_in, first_fault, volume_keys, volumes_fault, are_twins, twice_fault}
use Rattle.wol_config.specs.Tables.{members_in}
use Rattle.wol_config.specs.Configs.{IsAnswer}

-- ---- Tables

pub drop_table : (ts : List Value) (i : ℕ) (v : Value) → i < length ts → v ≡ get_or ts i v → drop i (members_in ts) ≡ members_of (view v) ∷ drop (i + 1) (members_in ts)
drop_table ts i v inside here =
    drop-map (λ w. members_of (view w)) i ts ∙ ap members_in (drop_more ts i v inside)
    ∙ rw (← here) (ap (λ rest. members_of (view v) ∷ rest) (sym (drop-map (λ w. members_of (view w)) (i + 1) ts)))

pub take_table : (ts : List Value) (i : ℕ) (v : Value) → i < length ts → v ≡ get_or ts i v → members_in (take (i + 1) ts) ≡ members_in (take i ts) ++ members_of (view v) ∷ []
take_table ts i v inside here =
    ap members_in (take_more ts i v inside) ∙ rw (← here) (map-append (λ w. members_of (view w)) (take i ts) (v ∷ []))

-- one volume more
pub made_more : (ts : List Value) (i : ℕ) (v : Value) (made : List VolumeConf) (volume : VolumeConf) → i < length ts → v ≡ get_or ts i v
    → made ≡ map volume_in (members_in (take i ts)) → volume ≡ volume_in (members_of (view v)) → made ++ volume ∷ [] ≡ map volume_in (members_in (take (i + 1) ts))
made_more ts i v made volume inside here before now =
    rw (before, now, take_table ts i v inside here) (sym (map-append volume_in (members_in (take i ts)) (members_of (view v) ∷ [])))

-- ---- Faults of keys

pub none_left : {X : Type 0} (a b : Option X) → option_or a b ≡ None → a ≡ None
none_left None b h = refl
none_left (Some x) b h = h

pub none_right : {X : Type 0} (a b : Option X) → option_or a b ≡ None → b ≡ None
none_right None b h = h
none_right (Some x) b h = absurd (let e : Some x ≡ None = h in cc)

or_assoc : {X : Type 0} (a b c : Option X) → option_or (option_or a b) c ≡ option_or a (option_or b c)
or_assoc None b c = refl
or_assoc (Some x) b c = refl

pub volumes_fault-append : (ms ns : List Members) → volumes_fault (ms ++ ns) ≡ option_or (volumes_fault ms) (volumes_fault ns)
volumes_fault-append [] ns = refl
volumes_fault-append (m ∷ ms) ns =
    ap (option_or (first_fault volume_keys m)) (volumes_fault-append ms ns) ∙ sym (or_assoc (first_fault volume_keys m) (volumes_fault ms) (volumes_fault ns))

-- an answer for the first fault is one for what comes first
pub answer_first : (a b : Option ConfigFault) (e : ConfigFault) → IsAnswer a e → IsAnswer (option_or a b) e
answer_first a b e (inl memory) = inl memory
answer_first a b e (inr is) = inr (rw is refl)

pub answer_next : (a b : Option ConfigFault) (e : ConfigFault) → a ≡ None → IsAnswer b e → IsAnswer (option_or a b) e
answer_next a b e none h = rw none h

-- one table more without a fault
pub no_fault_more : (ts : List Value) (i : ℕ) (v : Value) → i < length ts → v ≡ get_or ts i v → volumes_fault (members_in (take i ts)) ≡ None
    → first_fault volume_keys (members_of (view v)) ≡ None → volumes_fault (members_in (take (i + 1) ts)) ≡ None
no_fault_more ts i v inside here before now =
    ap volumes_fault (take_table ts i v inside here) ∙ volumes_fault-append (members_in (take i ts)) (members_of (view v) ∷ [])
    ∙ rw (before, now) refl

-- the first table with a fault
pub fault_at_last : (ts : List Value) (i : ℕ) (v : Value) (e : ConfigFault) → i < length ts → v ≡ get_or ts i v → volumes_fault (members_in (take i ts)) ≡ None
    → IsAnswer (first_fault volume_keys (members_of (view v))) e → IsAnswer (volumes_fault (members_in ts)) e
fault_at_last ts i v e inside here before h =
    let all : members_in ts ≡ members_in (take i ts) ++ (members_of (view v) ∷ drop (i + 1) (members_in ts)) =
    sym (take-append-drop i (members_in ts)) ∙ rw (take-map (λ w. members_of (view w)) i ts) (ap (λ rest. members_in (take i ts) ++ rest) (drop_table ts i v inside here)) in
    let split : volumes_fault (members_in ts) ≡ option_or (volumes_fault (members_in (take i ts))) (volumes_fault (members_of (view v) ∷ drop (i + 1) (members_in ts))) =
    ap volumes_fault all ∙ volumes_fault-append (members_in (take i ts)) (members_of (view v) ∷ drop (i + 1) (members_in ts)) in
    subst (λ f. IsAnswer f e) (sym split) (answer_next (volumes_fault (members_in (take i ts))) _ e before
    (answer_first (first_fault volume_keys (members_of (view v))) (volumes_fault (drop (i + 1) (members_in ts))) e h))

-- each table without a fault among tables without one
pub none_of_each : (ms : List Members) (i : ℕ) (d : Members) → i < length ms → volumes_fault ms ≡ None → first_fault volume_keys (get_or ms i d) ≡ None
none_of_each [] i d inside h = absurd (omega arith)
none_of_each (m ∷ ms) zero d inside h = none_left (first_fault volume_keys m) (volumes_fault ms) h
none_of_each (m ∷ ms) (suc i) d inside h = none_of_each ms i d (omega arith) (none_right (first_fault volume_keys m) (volumes_fault ms) h)

-- ---- Volumes that stand twice

pub twice_next : (vs : List VolumeConf) (i : ℕ) (d : VolumeConf) → i < length vs → list_any (are_twins (get_or vs i d)) (take i vs) ≡ false
    → twice_fault (take i vs) (drop i vs) ≡ twice_fault (take (i + 1) vs) (drop (i + 1) vs)
twice_next vs i d inside alone = rw (drop_more vs i d inside, alone, take_more vs i d inside) refl

pub twice_here : (vs : List VolumeConf) (i : ℕ) (d : VolumeConf) → i < length vs → list_any (are_twins (get_or vs i d)) (take i vs) ≡ true
    → twice_fault (take i vs) (drop i vs) ≡ Some (Twice i (get_or vs i d).name)
twice_here vs i d inside twin = rw (drop_more vs i d inside, twin, length-take-le i vs (omega arith)) refl
