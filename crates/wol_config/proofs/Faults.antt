-- The first fault of a document, part by part.
use Rattle.std.proofs.Common.{◌≡◌, List, map, Option, Some, None, refl, sym, ap, ◌∙◌}
use Rattle.std.specs.Option.{option_or}
use Rattle.toml.specs.Data.{Members, array, get_member}
use Rattle.toml.specs.View.{view, items_view}
use Rattle.toml.specs.declared.value.Value.{Value}
use Rattle.wol_config.specs.declared.key.Key.TheVariants.{SegmentBlocks, TimeoutMs, AwakeMw, StandbyMw, WakeMj, WakeMs, Volume}
use Rattle.wol_config.specs.declared.config.ConfigFault.{ConfigFault}
use Rattle.wol_config.specs.Keys.{key_text, key_fault}
use Rattle.wol_config.specs.Documents.{members_of, tables_in, first_fault, power_keys, tables_fault, document_fault}
use Rattle.wol_config.specs.Tables.{members_in}
use Rattle.wol_config.proofs.Lists.{items_in-view}
use Rattle.wol_config.proofs.SetViews.{map-map}

three_first : {X : Type 0} (a b c x : Option X) → option_or a (option_or b (option_or c x)) ≡ option_or (option_or a (option_or b (option_or c None))) x
three_first (Some y) b c x = refl
three_first None (Some y) c x = refl
three_first None None (Some y) x = refl
three_first None None None x = refl

-- without the first two faults, the faults of the powers come next
after_timeout : (document : Members) → key_fault SegmentBlocks document ≡ None → key_fault TimeoutMs document ≡ None
    → document_fault document ≡ option_or (option_or (first_fault power_keys document) (option_or (key_fault WakeMs document) (option_or (key_fault Volume document) None))) (tables_fault (tables_in document))
after_timeout document blocks timeout =
    let rest = option_or (key_fault WakeMs document) (option_or (key_fault Volume document) None) in
    rw (blocks, timeout) (ap (λ (f : Option ConfigFault). option_or f (tables_fault (tables_in document)))
    (three_first (key_fault AwakeMw document) (key_fault StandbyMw document) (key_fault WakeMj document) rest))

pub power_fault : (document : Members) (e : ConfigFault) → key_fault SegmentBlocks document ≡ None → key_fault TimeoutMs document ≡ None
    → first_fault power_keys document ≡ Some e → document_fault document ≡ Some e
power_fault document e blocks timeout is =
    after_timeout document blocks timeout
    ∙ ap (λ (f : Option ConfigFault). option_or (option_or f (option_or (key_fault WakeMs document) (option_or (key_fault Volume document) None))) (tables_fault (tables_in document))) is

pub wake_fault : (document : Members) (e : ConfigFault) → key_fault SegmentBlocks document ≡ None → key_fault TimeoutMs document ≡ None
    → first_fault power_keys document ≡ None → key_fault WakeMs document ≡ Some e → document_fault document ≡ Some e
wake_fault document e blocks timeout powers is =
    after_timeout document blocks timeout
    ∙ (λ i. option_or (option_or (powers i) (option_or (is i) (option_or (key_fault Volume document) None))) (tables_fault (tables_in document)))

-- without a fault of the document's own keys, the tables of the volumes are left
pub tables_left : (document : Members) → key_fault SegmentBlocks document ≡ None → key_fault TimeoutMs document ≡ None
    → first_fault power_keys document ≡ None → key_fault WakeMs document ≡ None → key_fault Volume document ≡ None
    → document_fault document ≡ tables_fault (tables_in document)
tables_left document blocks timeout powers wake volume =
    after_timeout document blocks timeout
    ∙ (λ i. option_or (option_or (powers i) (option_or (wake i) (option_or (volume i) None))) (tables_fault (tables_in document)))

pub tables_are : (document : Members) (ts : List Value) → get_member (key_text Volume) document ≡ Some (array (items_view ts)) → tables_in document ≡ members_in ts
tables_are document ts found = rw (found, items_in-view ts) (map-map members_of view (λ v. members_of (view v)) (λ v. refl) ts)
