-- The lines of `dump`, one after another.
use Rattle.std.proofs.Common.{◌≡◌, ◌+◌, ◌<◌, ℕ, List, [], ◌∷◌, ◌++◌, length, take, get_or, Some, Result, Ok, Err, refl, sym, ap, subst, ◌∙◌, append_assoc, append-nil}
use Rattle.std.specs.Prelude.{IfSome, OnOk, slice_get}
use Rattle.std.specs.List.{AllByRecursion}
use Rattle.std.proofs.Math.Seq.{take-length}
use Rattle.wol_config.specs.declared.config.Config.{Config}
use Rattle.wol_config.specs.declared.config.VolumeConf.{VolumeConf}
use Rattle.wol_config.specs.Documents.{names_of}
use Rattle.report.specs.Names.{name_at}
use Rattle.wol_model.specs.Index.{Indexed, is_homed, is_live, listed_in}
use Rattle.wol_promise.proofs.Lists.{all_member, member_of}
use Rattle.logger.specs.Lanes.{logger_of}
use Rattle.logger.specs.declared.lane.Lane.{Lane}
use Rattle.block_cells.specs.Masks.{IsMask}
use Rattle.manager.specs.Stands.{IsPlacedIn}
use Rattle.block_cells.specs.declared.record.Rec.{Rec}
use Rattle.redirect_map.specs.Index.{HasVersion, IsIndex, IsRecordOf, entry_at}
use Rattle.redirect_map.proofs.Versions.{entry_at-own}
use Rattle.manager.specs.declared.manager.Manager.{Manager}
use Rattle.inspection.proofs.Naming.{mapped_at, name_of_volume, read_at}
use Rattle.inspection.proofs.Noting.{first_more, there_is}
use Rattle.inspection.specs.Texts.{AreRecordLines, IsRecordLine, count_text, mask_text, record_line}
use Rattle.inspection.specs.Volumes.{HasLine, IsDumpOf, logger_names}

-- the lines of the first records were appended
pub record IsDumpTo {D : Type 0} (config : Config) (name : List ℕ) (m : Manager D) (old new : List ℕ) (place : ℕ) : Type 0 where
  pub lines : List ℕ
  pub are : AreRecordLines (logger_names config m) m.index.entries (take place m.index.entries) lines
  pub appended : new ≡ old ++ (count_text name (length m.index.entries) ++ lines)

-- ---- Records by their versions

-- the record at a place is the one of its version
pub version_known : (es : List Indexed) (place : ℕ) (e : Indexed) (r : Rec) → IsIndex es → slice_get es place ≡ Some e → IsRecordOf e r → entry_at es r.version ≡ Some e
version_known es place e r index is of = subst (λ (v : ℕ). entry_at es v ≡ Some e) (sym of.version) (entry_at-own es place e index.rising is)

pub version_there : (es : List Indexed) (place : ℕ) (r : Rec) → IsIndex es → place < length es → IfSome (slice_get es place) (λ e. IsRecordOf e r) → HasVersion es r.version
version_there es place r index within has =
    let e = there_is es place within in
    let of : IsRecordOf e.0 r = rw e.1 at has in
    rw (version_known es place e.0 r index e.1 of) refl

-- ---- Lines

-- one line more
lines_more : (names : List (List ℕ)) (all es : List Indexed) (e : Indexed) (text line : List ℕ) → AreRecordLines names all es text → IsRecordLine names all e line → AreRecordLines names all (es ++ e ∷ []) (text ++ line)
lines_more names all [] e text line are is = (line, [], rw are (sym (append-nil line)), is, refl)
lines_more names all (d ∷ es) e text line (first, more, whole, one, rest) is =
    (first, more ++ line, rw whole (append_assoc first more line), one, lines_more names all es e more line rest is)

pub dump_none : {D : Type 0} (config : Config) (name : List ℕ) (m : Manager D) (old new : List ℕ) → new ≡ old ++ count_text name (length m.index.entries) → IsDumpTo config name m old new 0
dump_none config name m old new is = record { lines = []; are = refl; appended = is ∙ ap (λ (l : List ℕ). old ++ l) (sym (append-nil (count_text name (length m.index.entries)))) }

pub dump_more : {D : Type 0} (config : Config) (name : List ℕ) (m : Manager D) (old mid new : List ℕ) (place : ℕ) → IsDumpTo config name m old mid place → HasLine config m place mid new → IsDumpTo config name m old new (place + 1)
dump_more config name m old mid new place to has =
    let head = count_text name (length m.index.entries) in
    record {
      lines = to.lines ++ has.line_;
      are = subst (λ (es : List Indexed). AreRecordLines (logger_names config m) m.index.entries es (to.lines ++ has.line_)) (sym (first_more m.index.entries place has.entry has.there))
          (lines_more (logger_names config m) m.index.entries (take place m.index.entries) has.entry to.lines has.line_ to.are has.is);
      appended = has.appended ∙ rw to.appended (append_assoc old (head ++ to.lines) has.line_ ∙ ap (λ (l : List ℕ). old ++ l) (append_assoc head to.lines has.line_));
    }

pub dump_all : {D : Type 0} (config : Config) (name : List ℕ) (m : Manager D) (old new : List ℕ) (place : ℕ) → place ≡ length m.index.entries → IsDumpTo config name m old new place → IsDumpOf config name m old new
dump_all config name m old new place all to = record {
  lines = to.lines;
  are = subst (λ (es : List Indexed). AreRecordLines (logger_names config m) m.index.entries es to.lines) (ap (λ (n : ℕ). take n m.index.entries) all ∙ take-length m.index.entries) to.are;
  appended = to.appended;
}

-- ---- The line of a record

-- the name of the logger of a record
pub logger_name : {D : Type 0} (config : Config) (m : Manager D) (e : Indexed) (logger : ℕ) (v : VolumeConf) (name : List ℕ) → IsPlacedIn m.lanes.items e → AllByRecursion (λ (l : Lane D). logger_of l < length config.volumes.items) m.lanes.items
    → IfSome (slice_get m.lanes.items e.listed.lane) (λ l. logger ≡ logger_of l) → v ≡ get_or config.volumes.items logger v → name ≡ v.name → name ≡ name_at (logger_names config m) e.listed.lane
logger_name {D} config m e logger v name placed loggers lane value is =
    let l = placed.lane in
    let same : logger ≡ logger_of l = rw placed.lane_is at lane in
    let within : logger_of l < length config.volumes.items = all_member (λ (k : Lane D). logger_of k < length config.volumes.items) m.lanes.items l loggers (member_of m.lanes.items l e.listed.lane placed.lane_is) in
    let there = there_is config.volumes.items (logger_of l) within in
    let volume : v ≡ there.0 = read_at config.volumes.items (logger_of l) there.0 v there.1 (rw same at value) in
    is ∙ ap (λ (w : VolumeConf). w.name) volume ∙ sym (name_of_volume config.volumes.items (logger_of l) there.0 there.1)
    ∙ sym (mapped_at (λ (k : Lane D). name_at (names_of config.volumes.items) (logger_of k)) m.lanes.items e.listed.lane l placed.lane_is)

-- a fact of an answered call leads to another
pub on_ok : {T E P Q : Type 0} (r : Result T E) → (P → Q) → OnOk r P → OnOk r Q
on_ok (Ok x) f p = f p
on_ok (Err e) f p = p

pub has_line : {D : Type 0} (config : Config) (m : Manager D) (place : ℕ) (old new : List ℕ) (r : Rec) (name live_text home_text : List ℕ) (live home : ℕ) (e : Indexed)
    → IsIndex m.index.entries → slice_get m.index.entries place ≡ Some e → IsRecordOf e r
    → IfSome (entry_at m.index.entries r.version) (λ d. IsMask d.listed.first (is_live (listed_in m.index.entries) d.listed) live)
    → IfSome (entry_at m.index.entries r.version) (λ d. IsMask d.listed.first (is_homed d.listed) home)
    → name ≡ name_at (logger_names config m) e.listed.lane → live_text ≡ mask_text live → home_text ≡ mask_text home
    → new ≡ old ++ record_line r name live_text home_text → HasLine config m place old new
has_line config m place old new r name live_text home_text live home e index there of live_is home_is named live_shown home_shown appended =
    let known = version_known m.index.entries place e r index there of in
    record {
      entry = e;
      there = there;
      line_ = record_line r name live_text home_text;
      is = record {
        shown = r;
        live = live;
        home = home;
        shown_is = of;
        live_is = rw known at live_is;
        home_is = rw known at home_is;
        line_ = rw (named, live_shown, home_shown) refl;
      };
      appended = appended;
    }
