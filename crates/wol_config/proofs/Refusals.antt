-- Answers to the first fault of a document are refusals of its bytes.
use Rattle.std.proofs.Common.{◌≡◌, inl, inr, List, [], ◌∷◌, ◌++◌, ℕ, ◌+◌, Bool, true, false, cond, length, map, Option, Some, None, refl, sym, subst}
use Rattle.std.specs.List.{list_any}
use Rattle.std.specs.Option.{option_or}
use Rattle.toml.specs.Data.{Data, Members, get_member}
use Rattle.wol_config.specs.declared.key.Key.{Key}
use Rattle.wol_config.specs.declared.key.Key.TheVariants.{Name}
use Rattle.wol_config.specs.declared.config.VolumeConf.{VolumeConf}
use Rattle.wol_config.specs.declared.config.ConfigFault.{ConfigFault}
use Rattle.wol_config.specs.declared.config.ConfigFault.TheVariants.{NotToml, Missing, WrongKind, OutOfRange, Twice, BadView, NoMemory, TooLong}
use Rattle.wol_config.specs.Keys.{Rule, may_miss, is_of_kind, is_in_range, judged, rule_of, key_text}
use Rattle.wol_config.specs.Documents.{first_fault, document_keys, volume_keys, volumes_fault, are_twins, twice_fault, text_at, view_in, volume_in, is_good_view, view_fault, tables_in, document_fault}
use Rattle.wol_config.specs.Configs.{IsDocument, IsAnswer, IsRefusal}

-- a fault of a document's own, and not of its bytes or of memory
is_own : ConfigFault → Bool
is_own NotToml = false
is_own TooLong = false
is_own NoMemory = false
is_own _ = true

IsOwn : Option ConfigFault → Type 0
IsOwn None = Unit {0}
IsOwn (Some e) = is_own e ≡ true

own_or : (a b : Option ConfigFault) → IsOwn a → IsOwn b → IsOwn (option_or a b)
unfolding IsOwn
own_or None b h k = k
own_or (Some e) b h k = h

own_if : (t : Bool) (a b : Option ConfigFault) → IsOwn a → IsOwn b → IsOwn (cond t a b)
own_if true a b h k = h
own_if false a b h k = k

own_judged : (rule : Rule) (key : Key) (o : Option Data) → IsOwn (judged rule key o)
unfolding IsOwn is_own
own_judged rule key None = own_if (may_miss key) None (Some (Missing key)) tt refl
own_judged rule key (Some d) =
    own_if (is_of_kind rule d) (cond (is_in_range rule d) None (Some (OutOfRange key))) (Some (WrongKind key)) (own_if (is_in_range rule d) None (Some (OutOfRange key)) tt refl) refl

own_first : (keys : List Key) (ms : Members) → IsOwn (first_fault keys ms)
unfolding IsOwn
own_first [] ms = tt
own_first (key ∷ keys) ms = own_or _ (first_fault keys ms) (own_judged (rule_of key) key (get_member (key_text key) ms)) (own_first keys ms)

own_volumes : (tables : List Members) → IsOwn (volumes_fault tables)
unfolding IsOwn
own_volumes [] = tt
own_volumes (m ∷ ms) = own_or (first_fault volume_keys m) (volumes_fault ms) (own_first volume_keys m) (own_volumes ms)

own_twice : (earlier volumes : List VolumeConf) → IsOwn (twice_fault earlier volumes)
unfolding IsOwn is_own
own_twice earlier [] = tt
own_twice earlier (v ∷ later) =
    own_if (list_any (are_twins v) earlier) (Some (Twice (length earlier) v.name)) (twice_fault (earlier ++ v ∷ []) later) refl (own_twice (earlier ++ v ∷ []) later)

own_view : (names : List (List ℕ)) (n : ℕ) (tables : List Members) → IsOwn (view_fault names n tables)
unfolding IsOwn is_own
own_view names n [] = tt
own_view names n (m ∷ later) =
    own_if (is_good_view names n (view_in m)) (view_fault names (n + 1) later) (Some (BadView n (text_at Name m))) (own_view names (n + 1) later) refl

own_document : (document : Members) → IsOwn (document_fault document)
own_document document =
    let tables = tables_in document in
    own_or (first_fault document_keys document) _ (own_first document_keys document)
    (own_or (volumes_fault tables) _ (own_volumes tables)
    (own_or (twice_fault [] (map volume_in tables)) (view_fault (map (text_at Name) tables) 0 tables) (own_twice [] (map volume_in tables)) (own_view (map (text_at Name) tables) 0 tables)))

-- no fault of a document is one of these
not_own : (document : Members) (e : ConfigFault) → is_own e ≡ false → document_fault document ≡ Some e → ⊥
unfolding IsOwn
not_own document e other first = let h : is_own e ≡ true = subst IsOwn first (own_document document) in cc

pub refusal : (bytes : List ℕ) (document : Members) (e : ConfigFault) → IsDocument bytes document → IsAnswer (document_fault document) e → IsRefusal bytes e
unfolding is_own
refusal bytes document NoMemory is h = is.few
refusal bytes document TooLong is (inl memory) = absurd (let e : TooLong ≡ NoMemory = memory in cc)
refusal bytes document TooLong is (inr first) = absurd (not_own document TooLong refl first)
refusal bytes document NotToml is (inl memory) = absurd (let e : NotToml ≡ NoMemory = memory in cc)
refusal bytes document NotToml is (inr first) = absurd (not_own document NotToml refl first)
refusal bytes document (Missing key) is (inl memory) = absurd (let e : Missing key ≡ NoMemory = memory in cc)
refusal bytes document (Missing key) is (inr first) = (document, is, first)
refusal bytes document (WrongKind key) is (inl memory) = absurd (let e : WrongKind key ≡ NoMemory = memory in cc)
refusal bytes document (WrongKind key) is (inr first) = (document, is, first)
refusal bytes document (OutOfRange key) is (inl memory) = absurd (let e : OutOfRange key ≡ NoMemory = memory in cc)
refusal bytes document (OutOfRange key) is (inr first) = (document, is, first)
refusal bytes document (Twice volume name) is (inl memory) = absurd (let e : Twice volume name ≡ NoMemory = memory in cc)
refusal bytes document (Twice volume name) is (inr first) = (document, is, first)
refusal bytes document (BadView volume name) is (inl memory) = absurd (let e : BadView volume name ≡ NoMemory = memory in cc)
refusal bytes document (BadView volume name) is (inr first) = (document, is, first)
