-- The views of the volumes, set one after another.
use Rattle.std.proofs.Common.{◌≡◌, ℕ, zero, suc, ◌+◌, ◌<◌, ◌≤◌, Bool, true, false, cond, List, [], ◌∷◌, ◌++◌, length, map, take, drop, get_or, set, Option, Some, None, refl, sym, ap, subst, ◌∙◌, arith, lit<, append_assoc}
use Rattle.std.specs.Option.{option_or}
use Rattle.std.proofs.lemmas.List.{length-map, map-append, get_or-map, take-append-drop, length-take-le, take-map, set_at, get_or_at}
use Rattle.toml.specs.Data.{Members, array, get_member}
use Rattle.toml.specs.View.{view, items_view}
use Rattle.toml.specs.declared.value.Value.{Value}
use Rattle.wol_config.specs.declared.key.Key.{Key}
use Rattle.wol_config.specs.declared.key.Key.TheVariants.{Name, View}
use Rattle.wol_config.specs.declared.config.VolumeConf.{VolumeConf}
use Rattle.wol_config.specs.declared.config.ConfigFault.{ConfigFault}
use Rattle.wol_config.specs.declared.config.ConfigFault.TheVariants.{BadView}
use Rattle.wol_config.specs.Keys.{key_text, key_fault, items_in}
use Rattle.wol_config.specs.Documents.{members_of, text_of, text_at, view_in, volume_in, names_of, numbers_named, is_good_view, view_fault, first_fault, volume_keys, volumes_fault}
use Rattle.wol_config.specs.Tables.{members_in, names_in, texts_in}
use Rattle.wol_config.specs.Configs.{volume_of}
use Rattle.wol_config.proofs.Lists.{items_in-view}
use Rattle.wol_config.proofs.Walks.{none_left, none_right, none_of_each, drop_table, take_table}

-- ---- A table without a fault

-- without a first fault no key has one
pub each_key : (keys : List Key) (m : Members) (i : ℕ) (d : Key) → i < length keys → first_fault keys m ≡ None → key_fault (get_or keys i d) m ≡ None
each_key [] m i d inside h = absurd (omega arith)
each_key (key ∷ keys) m zero d inside h = none_left (key_fault key m) (first_fault keys m) h
each_key (key ∷ keys) m (suc i) d inside h = each_key keys m i d (omega arith) (none_right (key_fault key m) (first_fault keys m) h)

pub faultless_view : (ts : List Value) (i : ℕ) (v : Value) → i < length ts → v ≡ get_or ts i v → volumes_fault (members_in ts) ≡ None → key_fault View (members_of (view v)) ≡ None
faultless_view ts i v inside here h =
    let place : i < length (members_in ts) = rw (length-map ts (λ w. members_of (view w))) inside in
    let same : get_or (members_in ts) i (members_of (view v)) ≡ members_of (view v) =
    get_or-map (λ w. members_of (view w)) ts i v (members_of (view v)) inside ∙ rw (← here) refl in
    let none : first_fault volume_keys (members_of (view v)) ≡ None =
    subst (λ (m : Members). first_fault volume_keys m ≡ None) same (none_of_each (members_in ts) i (members_of (view v)) place h) in
    each_key volume_keys (members_of (view v)) 5 Name (lit< tt) none

-- ---- Names and texts

pub map-map : {X Y Z : Type 0} (f : Y → Z) (g : X → Y) (h : X → Z) → ((x : X) → f (g x) ≡ h x) → (xs : List X) → map f (map g xs) ≡ map h xs
map-map f g h same [] = refl
map-map f g h same (x ∷ xs) = λ i. same x i ∷ map-map f g h same xs i

-- the names are the same, whatever views are set
pub names_stay : (ms : List Members) (names : List (List ℕ)) (volumes : List VolumeConf) (i : ℕ) → volumes ≡ map (volume_of names) (take i ms) ++ map volume_in (drop i ms)
    → names_of volumes ≡ map (text_at Name) ms
names_stay ms names volumes i done =
    let name : VolumeConf → List ℕ = λ v. v.name in
    ap names_of done
    ∙ map-append name (map (volume_of names) (take i ms)) (map volume_in (drop i ms))
    ∙ (λ j. map-map name (volume_of names) (text_at Name) (λ m. refl) (take i ms) j ++ map-map name volume_in (text_at Name) (λ m. refl) (drop i ms) j)
    ∙ sym (map-append (text_at Name) (take i ms) (drop i ms))
    ∙ ap (map (text_at Name)) (take-append-drop i ms)

pub texts_are_view : (m : Members) (texts : List Value) → get_member (key_text View) m ≡ Some (array (items_view texts)) → view_in m ≡ texts_in texts
texts_are_view m texts found = rw (found, items_in-view texts) (map-map text_of view (λ v. text_of (view v)) (λ v. refl) texts)

-- ---- One view more

-- the volumes from place i on begin with the volume of table i
pub split_at : (ts : List Value) (i : ℕ) (v : Value) (volumes : List VolumeConf) → i < length ts → v ≡ get_or ts i v
    → volumes ≡ map (volume_of (names_in ts)) (take i (members_in ts)) ++ map volume_in (drop i (members_in ts))
    → volumes ≡ map (volume_of (names_in ts)) (take i (members_in ts)) ++ volume_in (members_of (view v)) ∷ map volume_in (drop (i + 1) (members_in ts))
split_at ts i v volumes inside here done =
    done ∙ ap (λ rest. map (volume_of (names_in ts)) (take i (members_in ts)) ++ map volume_in rest) (drop_table ts i v inside here)

length_done : (ts : List Value) (i : ℕ) → i < length ts → length (map (volume_of (names_in ts)) (take i (members_in ts))) ≡ i
length_done ts i inside =
    length-map (take i (members_in ts)) (volume_of (names_in ts))
    ∙ length-take-le i (members_in ts) (rw (length-map ts (λ w. members_of (view w))) (omega arith))

take_member : (ts : List Value) (i : ℕ) (v : Value) → i < length ts → v ≡ get_or ts i v → take (i + 1) (members_in ts) ≡ take i (members_in ts) ++ members_of (view v) ∷ []
take_member ts i v inside here =
    take-map (λ w. members_of (view w)) (i + 1) ts ∙ take_table ts i v inside here
    ∙ ap (λ (ms : List Members). ms ++ members_of (view v) ∷ []) (sym (take-map (λ w. members_of (view w)) i ts))

-- volume i still has the name of its table
pub name_at : (ts : List Value) (i : ℕ) (v : Value) (volumes : List VolumeConf) (d : VolumeConf) → i < length ts → v ≡ get_or ts i v
    → volumes ≡ map (volume_of (names_in ts)) (take i (members_in ts)) ++ map volume_in (drop i (members_in ts))
    → get_or volumes i d ≡ volume_in (members_of (view v))
name_at ts i v volumes d inside here done =
    let before = map (volume_of (names_in ts)) (take i (members_in ts)) in
    ap (λ (vs : List VolumeConf). get_or vs i d) (split_at ts i v volumes inside here done)
    ∙ ap (λ n. get_or (before ++ volume_in (members_of (view v)) ∷ map volume_in (drop (i + 1) (members_in ts))) n d) (sym (length_done ts i inside))
    ∙ get_or_at before (volume_in (members_of (view v))) (map volume_in (drop (i + 1) (members_in ts))) d (length before) refl

pub done_more : (ts : List Value) (i : ℕ) (v : Value) (volumes : List VolumeConf) (changed : VolumeConf) → i < length ts → v ≡ get_or ts i v
    → volumes ≡ map (volume_of (names_in ts)) (take i (members_in ts)) ++ map volume_in (drop i (members_in ts))
    → changed ≡ volume_of (names_in ts) (members_of (view v))
    → set volumes i changed ≡ map (volume_of (names_in ts)) (take (i + 1) (members_in ts)) ++ map volume_in (drop (i + 1) (members_in ts))
done_more ts i v volumes changed inside here done is =
    let names = names_in ts in
    let m = members_of (view v) in
    let before = map (volume_of names) (take i (members_in ts)) in
    let after = map volume_in (drop (i + 1) (members_in ts)) in
    ap (λ (vs : List VolumeConf). set vs i changed) (split_at ts i v volumes inside here done)
    ∙ set_at before (volume_in m) after changed i (length_done ts i inside)
    ∙ ap (λ (w : VolumeConf). before ++ w ∷ after) is
    ∙ sym (append_assoc before (volume_of names m ∷ []) after)
    ∙ ap (λ (vs : List VolumeConf). vs ++ after) (sym (map-append (volume_of names) (take i (members_in ts)) (m ∷ [])) ∙ ap (map (volume_of names)) (sym (take_member ts i v inside here)))

-- a good view leaves the rest
pub good_next : (ts : List Value) (i : ℕ) (v : Value) → i < length ts → v ≡ get_or ts i v → is_good_view (names_in ts) i (view_in (members_of (view v))) ≡ true
    → view_fault (names_in ts) i (drop i (members_in ts)) ≡ view_fault (names_in ts) (i + 1) (drop (i + 1) (members_in ts))
good_next ts i v inside here good =
    ap (view_fault (names_in ts) i) (drop_table ts i v inside here) ∙ rw good refl

pub bad_here : (ts : List Value) (i : ℕ) (v : Value) → i < length ts → v ≡ get_or ts i v → is_good_view (names_in ts) i (view_in (members_of (view v))) ≡ false
    → view_fault (names_in ts) i (drop i (members_in ts)) ≡ Some (BadView i (text_at Name (members_of (view v))))
bad_here ts i v inside here bad =
    ap (view_fault (names_in ts) i) (drop_table ts i v inside here) ∙ rw bad refl

pub not_good : (t : Bool) → (t ≡ true → ⊥) → t ≡ false
not_good true h = absurd (h refl)
not_good false h = refl
