-- A configuration of a document without fault is valid.
use Rattle.std.proofs.Common.{◌≡◌, ◌≢◌, ℕ, zero, suc, ◌+◌, ◌*◌, ◌<◌, ◌≤◌, Bool, true, false, not, cond, ◌&&◌, ◌||◌, ltb, eqb, List, [], ◌∷◌, ◌++◌, length, map, take, get_or, Option, Some, None, unwrap_or, is_some, refl, sym, ap, subst, ◌∙◌, arith, lit<, lit≤, append_assoc, append-nil, eq-eqb, zero-add}
use Rattle.std.specs.List.{list_all, list_any, position_or_len, AllByRecursion}
use Rattle.std.specs.Option.{option_or}
use Rattle.std.specs.Str.{bytes_eq}
use Rattle.std.proofs.lemmas.Bool.{and_parts, ltb-true}
use Rattle.std.proofs.lemmas.List.{length-map, length-take-le, get_or-map, get_or-take}
use Rattle.std.proofs.lemmas.List.Folds.{list_all_at, list_any_at}
use Rattle.std.proofs.lemmas.Slice.Eq.{bytes_eq-Decides}
use Rattle.toml.specs.Data.{Members, no_members, get_member}
use Rattle.wol_model.specs.Heads.{IsViewList}
use Rattle.wol_config.specs.declared.key.Key.{Key}
use Rattle.wol_config.specs.declared.key.Key.TheVariants.{SegmentBlocks, TimeoutMs, AwakeMw, StandbyMw, WakeMj, WakeMs, Volume, Name, Host, Disk, HomeBlocks, Segments, View}
use Rattle.wol_config.specs.declared.config.VolumeConf.{VolumeConf}
use Rattle.wol_config.specs.declared.config.Config.{Config}
use Rattle.wol_config.specs.declared.config.ConfigFault.{ConfigFault}
use Rattle.wol_config.specs.declared.config.ConfigFault.TheVariants.{Twice, BadView}
use Rattle.wol_config.specs.Keys.{key_text, key_fault, is_name_byte, is_host_byte}
use Rattle.wol_config.specs.Documents.{members_of, text_of, number_at, text_at, list_at, tables_in, view_in, volume_in, first_fault, document_keys, volume_keys, volumes_fault, are_twins, twice_fault, is_known, numbers_named, number_named, stands_in, are_apart, is_good_view, view_fault, tables_fault, document_fault}
use Rattle.wol_config.specs.Configs.{IsConfigOf, IsValid, IsValidVolume, AreApart, volume_of, volumes_of}
use Rattle.wol_config.proofs.Walks.{none_left, none_right, none_of_each}
use Rattle.wol_config.proofs.SetViews.{each_key}
use Rattle.wol_config.proofs.Ranges.{number_in_range, number_or_default, text_in_range, tables_in_range, texts_in_range}
use Rattle.wol_config.proofs.Names.{small_numbers, apart_test, not_true}

-- ---- Views

fault_left : (t : Bool) (rest : Option ConfigFault) (e : ConfigFault) → cond t rest (Some e) ≡ None → (t ≡ true) × (rest ≡ None)
fault_left true rest e h = (refl, h)
fault_left false rest e h = absurd (let f : Some e ≡ None = h in cc)

-- each view is good where none is refused
good_view : (names : List (List ℕ)) (k : ℕ) (ms : List Members) (n : ℕ) (d : Members) → n < length ms → view_fault names k ms ≡ None
    → is_good_view names (k + n) (view_in (get_or ms n d)) ≡ true
good_view names k [] n d inside h = absurd (omega arith)
good_view names k (m ∷ ms) zero d inside h = let here : k + 0 ≡ k = omega arith in rw here (fault_left _ _ (BadView k (text_at Name m)) h).0
good_view names k (m ∷ ms) (suc n) d inside h =
    let here : k + suc n ≡ (k + 1) + n = omega arith in
    rw here (good_view names (k + 1) ms n d (omega arith) (fault_left _ _ (BadView k (text_at Name m)) h).1)

known_place : (n m : ℕ) (t : Bool) → ltb n m ≡ t → is_some (cond t (Some n) None) ≡ true → unwrap_or (cond t (Some n) None) 0 < m
known_place n m true is h = ltb-true n m is
known_place n m false is h = absurd (let e : false ≡ true = h in cc)

-- a known name has the number of a volume
known_below : (names : List (List ℕ)) (name : List ℕ) → is_known names name ≡ true → unwrap_or (number_named names name) 0 < length names
known_below names name h =
    let n = position_or_len (λ other. bytes_eq other name) names in known_place n (length names) (ltb n (length names)) refl h

all_below : (names view : List (List ℕ)) → list_all (is_known names) view ≡ true → (k d : ℕ) → k < length (numbers_named names view) → get_or (numbers_named names view) k d < length names
all_below names [] h k d inside = absurd (omega arith)
all_below names (name ∷ view) h zero d inside = known_below names name (and_parts (is_known names name) (list_all (is_known names) view) h).0
all_below names (name ∷ view) h (suc k) d inside = all_below names view (and_parts (is_known names name) (list_all (is_known names) view) h).1 k d (omega arith)

none_of : (ns : List ℕ) (n : ℕ) → stands_in ns n ≡ false → (k d : ℕ) → k < length ns → get_or ns k d ≢ n
none_of ns n h k d inside e = let stands : stands_in ns n ≡ true = list_any_at (λ m. eqb m n) ns k d inside (rw e (eq-eqb n n refl)) in cc

-- ---- Twins

twin_left : (t : Bool) (rest : Option ConfigFault) (e : ConfigFault) → cond t (Some e) rest ≡ None → (t ≡ false) × (rest ≡ None)
twin_left true rest e h = absurd (let f : Some e ≡ None = h in cc)
twin_left false rest e h = (refl, h)

no_twin : (earlier vs : List VolumeConf) (j : ℕ) (d : VolumeConf) → j < length vs → twice_fault earlier vs ≡ None → list_any (are_twins (get_or vs j d)) (earlier ++ take j vs) ≡ false
no_twin earlier [] j d inside h = absurd (omega arith)
no_twin earlier (v ∷ vs) zero d inside h =
    rw (append-nil earlier) (twin_left (list_any (are_twins v) earlier) (twice_fault (earlier ++ v ∷ []) vs) (Twice (length earlier) v.name) h).0
no_twin earlier (v ∷ vs) (suc j) d inside h =
    rw (← append_assoc earlier (v ∷ []) (take j vs))
    (no_twin (earlier ++ v ∷ []) vs j d (omega arith) (twin_left (list_any (are_twins v) earlier) (twice_fault (earlier ++ v ∷ []) vs) (Twice (length earlier) v.name) h).1)

or_false : (a b : Bool) → (a || b) ≡ false → (a ≡ false) × (b ≡ false)
or_false true b h = absurd (let e : true ≡ false = h in cc)
or_false false b h = (refl, h)

-- what the test of twins says where it fails
not_twins : (v w : VolumeConf) → are_twins w v ≡ false → AreApart v w
not_twins v w h =
    let (names, disks) = or_false (bytes_eq w.name v.name) (bytes_eq w.host v.host && eqb w.disk v.disk) h in
    record {
      names = λ e. let same : bytes_eq w.name v.name ≡ true = (bytes_eq-Decides w.name v.name).1 (sym e) in cc (same, names);
      disks = λ hosts numbers.
          let host : bytes_eq w.host v.host ≡ true = (bytes_eq-Decides w.host v.host).1 (sym hosts) in
          let disk : eqb w.disk v.disk ≡ true = eq-eqb w.disk v.disk (sym numbers) in
          let both : (bytes_eq w.host v.host && eqb w.disk v.disk) ≡ true = rw (host, disk) refl in
          cc (both, disks);
    }

twins_false : (t : Bool) → (t ≡ true → ⊥) → t ≡ false
twins_false true h = absurd (h refl)
twins_false false h = refl

apart_pair : (vs : List VolumeConf) (i j : ℕ) (d : VolumeConf) → twice_fault [] vs ≡ None → i < j → j < length vs → AreApart (get_or vs i d) (get_or vs j d)
apart_pair vs i j d h before inside =
    let none : list_any (are_twins (get_or vs j d)) (take j vs) ≡ false = no_twin [] vs j d inside h in
    let size : length (take j vs) ≡ j = length-take-le j vs (omega arith) in
    let same : get_or (take j vs) i d ≡ get_or vs i d = get_or-take j vs i d before in
    not_twins (get_or vs i d) (get_or vs j d)
    (twins_false (are_twins (get_or vs j d) (get_or vs i d))
    (λ twins. let any : list_any (are_twins (get_or vs j d)) (take j vs) ≡ true = list_any_at (are_twins (get_or vs j d)) (take j vs) i d (omega arith) (rw same twins) in cc (any, none)))

-- the views don't change who is apart
apart_views : (names : List (List ℕ)) (m n : Members) → AreApart (volume_in m) (volume_in n) → AreApart (volume_of names m) (volume_of names n)
apart_views names m n h = record { names = h.names; disks = h.disks }

-- ---- One volume

valid_volume : (names : List (List ℕ)) (number : ℕ) (m : Members) → length names ≤ 64 → first_fault volume_keys m ≡ None → is_good_view names number (view_in m) ≡ true
    → IsValidVolume (length names) number (volume_of names m)
valid_volume names number m room faultless good =
    let view = numbers_named names (view_in m) in
    let (known, rest) = and_parts (list_all (is_known names) (view_in m)) _ good in
    let (others, apart) = and_parts (not (stands_in view number)) (are_apart view) rest in
    let fault : (i : ℕ) → i < 6 → key_fault (get_or volume_keys i Name) m ≡ None = λ i inside. each_key volume_keys m i Name inside faultless in
    let disk = number_in_range Disk 0 4294967295 (get_member (key_text Disk) m) refl (fault 2 (lit< tt)) in
    let home = number_in_range HomeBlocks 1 4294967296 (get_member (key_text HomeBlocks) m) refl (fault 3 (lit< tt)) in
    let segments = number_in_range Segments 0 1024 (get_member (key_text Segments) m) refl (fault 4 (lit< tt)) in
    let texts : length (list_at View m) ≤ 16 = texts_in_range View 16 (get_member (key_text View) m) refl (fault 5 (lit< tt)) in
    record {
      name = text_in_range Name 32 is_name_byte (get_member (key_text Name) m) refl (fault 0 (lit< tt));
      host = text_in_range Host 64 is_host_byte (get_member (key_text Host) m) refl (fault 1 (lit< tt));
      disk = omega (arith, disk.1);
      home = home;
      segments = segments.1;
      known = all_below names (view_in m) known;
      others = none_of view number (not_true (stands_in view number) others);
      view = record {
        few = rw (length-map (view_in m) (λ name. unwrap_or (number_named names name) 0), length-map (list_at View m) text_of) texts;
        in_range = small_numbers names (view_in m) room;
        distinct = apart_test view apart;
      };
    }

-- volume n among the volumes of these tables
valid_at : (tables : List Members) (n : ℕ) (d : VolumeConf) → n < length tables → length tables ≤ 64 → volumes_fault tables ≡ None
    → view_fault (map (text_at Name) tables) 0 tables ≡ None → (items : List VolumeConf) → items ≡ volumes_of tables → IsValidVolume (length items) n (get_or items n d)
valid_at tables n d inside room faultless views items is =
    let names = map (text_at Name) tables in
    let m = get_or tables n no_members in
    let named : length names ≡ length tables = length-map tables (text_at Name) in
    let size : length items ≡ length names = ap length is ∙ length-map tables (volume_of names) ∙ sym named in
    let here : get_or items n d ≡ volume_of names m = ap (λ (vs : List VolumeConf). get_or vs n d) is ∙ get_or-map (volume_of names) tables n no_members d inside in
    rw (size, here) (valid_volume names n m (rw named room) (none_of_each tables n no_members inside faultless) (subst (λ (k : ℕ). is_good_view names k (view_in m) ≡ true) (zero-add n) (good_view names 0 tables n no_members inside views)))

apart_at : (tables : List Members) (i j : ℕ) (d : VolumeConf) → i < j → j < length tables → twice_fault [] (map volume_in tables) ≡ None
    → (items : List VolumeConf) → items ≡ volumes_of tables → AreApart (get_or items i d) (get_or items j d)
apart_at tables i j d before inside twice items is =
    let names = map (text_at Name) tables in
    let at : (k : ℕ) → k < length tables → get_or items k d ≡ volume_of names (get_or tables k no_members) =
    λ k within. ap (λ (vs : List VolumeConf). get_or vs k d) is ∙ get_or-map (volume_of names) tables k no_members d within in
    let bare : (k : ℕ) → k < length tables → get_or (map volume_in tables) k d ≡ volume_in (get_or tables k no_members) =
    λ k within. get_or-map volume_in tables k no_members d within in
    let size : length (map volume_in tables) ≡ length tables = length-map tables volume_in in
    let lower : i < length tables = omega arith in
    let pair : AreApart (get_or (map volume_in tables) i d) (get_or (map volume_in tables) j d) = apart_pair (map volume_in tables) i j d twice before (rw size inside) in
    rw (at i lower, at j inside) (apart_views names (get_or tables i no_members) (get_or tables j no_members) (rw (bare i lower, bare j inside) at pair))

-- ---- The configuration

pub valid_config : (document : Members) (config : Config) → IsConfigOf document config → IsValid config
valid_config document config is =
    let tables = tables_in document in
    let names = map (text_at Name) tables in
    let keys = none_left (first_fault document_keys document) (tables_fault tables) is.faultless in
    let left = none_right (first_fault document_keys document) (tables_fault tables) is.faultless in
    let volumes = none_left (volumes_fault tables) _ left in
    let rest = none_right (volumes_fault tables) _ left in
    let twice = none_left (twice_fault [] (map volume_in tables)) (view_fault names 0 tables) rest in
    let views = none_right (twice_fault [] (map volume_in tables)) (view_fault names 0 tables) rest in
    let fault : (i : ℕ) → i < 7 → key_fault (get_or document_keys i SegmentBlocks) document ≡ None = λ i inside. each_key document_keys document i SegmentBlocks inside keys in
    let count : (1 ≤ length tables) × (length tables ≤ 64) =
    let n = tables_in_range Volume 1 64 (get_member (key_text Volume) document) refl (fault 6 (lit< tt)) in
    rw (length-map (list_at Volume document) members_of) n in
    let size : length config.volumes.items ≡ length tables = ap length is.volumes ∙ length-map tables (volume_of names) in
    let named : length names ≡ length tables = length-map tables (text_at Name) in
    let blocks = number_in_range SegmentBlocks 4 65536 (get_member (key_text SegmentBlocks) document) refl (fault 0 (lit< tt)) in
    let timeout = number_or_default TimeoutMs 1 86400000 60000 (get_member (key_text TimeoutMs) document) (lit≤ tt, lit≤ tt) (fault 1 (lit< tt)) in
    let awake = number_in_range AwakeMw 0 1000000 (get_member (key_text AwakeMw) document) refl (fault 2 (lit< tt)) in
    let standby = number_in_range StandbyMw 0 1000000 (get_member (key_text StandbyMw) document) refl (fault 3 (lit< tt)) in
    let wake = number_in_range WakeMj 0 1000000000 (get_member (key_text WakeMj) document) refl (fault 4 (lit< tt)) in
    let ready = number_or_default WakeMs 0 600000 10000 (get_member (key_text WakeMs) document) (lit≤ tt, lit≤ tt) (fault 5 (lit< tt)) in
    record {
      segment_blocks = rw is.segment_blocks blocks;
      timeout = (omega (arith, is.timeout, timeout.0), omega (arith, is.timeout, timeout.1));
      powers = record { awake = rw is.awake_mw awake.1; standby = rw is.standby_mw standby.1; wake = rw is.wake_mj wake.1 };
      wake = omega (arith, is.wake, ready.1);
      count = rw size count;
      volumes = λ n d inside. valid_at tables n d (rw (← size) inside) count.1 volumes views config.volumes.items is.volumes;
      apart = λ i j d before inside. apart_at tables i j d before (rw (← size) inside) twice config.volumes.items is.volumes;
    }
