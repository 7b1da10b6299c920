-- Blocks that are home are marked.
use Rattle.std.specs.Prelude.{IsSome}
use Rattle.std.proofs.Common.{◌≡◌, ◌+◌, ⊎_elim, ℕ, true, false, Option, None, Some, refl, sym, ◌∙◌}
use Rattle.wol_model.specs.Index.{Indexed, listed_in, is_live}
use Rattle.wol_model.specs.Log.{has_bit}
use Rattle.wol_model.proofs.Counts.{both, either}
use Rattle.block_cells.proofs.Bits.{has_bit-or}
use Rattle.redirect_map.specs.Index.{entry_at}
use Rattle.volume_parts.proofs.Entries.{some_of, entry_of_version, noted_home}
use Rattle.manager.proofs.LaidHome.{mark_keeps, ready_marked}
use Rattle.manager.proofs.manager.Manager.mark_home.Goals as goal

entry_there : (o : Option Indexed) → IsSome o → (e : Indexed) × (o ≡ Some e)
entry_there None is = absurd (let no : false ≡ true = is in cc)
entry_there (Some e) is = (e, refl)

pub set_homed-requires-clause-live : goal.set_homed-requires-clause-live
set_homed-requires-clause-live g c e is i set =
    let m = c.args.self.now in let homed = c.homed-homed.result in
    ⊎_elim
    (λ was. some_of (λ (d : Indexed). (j : ℕ) → has_bit homed j ≡ true → is_live (listed_in m.index.entries) d.listed (d.listed.first + j) ≡ true) (entry_at m.index.entries c.args.version) e c.homed-homed.ensures.live is i was)
    (λ now. (both (is_live (listed_in m.index.entries) e.listed (e.listed.first + i)) _ (c.requires.due e is i now)).0)
    (either (has_bit homed i) (has_bit c.args.mask i) (sym (has_bit-or homed c.args.mask i) ∙ set))

pub returns-clause-marked : goal.returns-clause-marked
returns-clause-marked g c =
    let m = c.args.self.now in let f = entry_there (entry_at m.index.entries c.args.version) c.requires.there in
    noted_home m.index.entries c.set_homed.new.self.entries c.args.version f.0 c.homed-homed.result c.args.mask c.find.ensures.index f.1 c.homed-homed.ensures.value c.set_homed.ensures.entries

pub returns-clause-ready : goal.returns-clause-ready
returns-clause-ready g c =
    ready_marked g.D.Disk.state c.args.self.now c.args.version c.args.mask c.set_homed.new.self (returns-clause-marked g c) c.requires.ready c.requires.up

pub returns-clause-keeps : goal.returns-clause-keeps
returns-clause-keeps g c b notes there keeps =
    let m = c.args.self.now in let f = entry_there (entry_at m.index.entries c.args.version) c.requires.there in
    let at = entry_of_version m.index.entries c.args.version f.0 c.find.ensures.index.rising f.1 in
    mark_keeps g.D.Disk.tells g.D.Disk.state m b notes keeps c.requires.up c.requires.awake c.args.version c.args.mask f.0 at f.1 (c.requires.due f.0 f.1) c.set_homed.new.self (returns-clause-marked g c) there (returns-clause-ready g c)

pub returns-clause-index : goal.returns-clause-index
returns-clause-index g c = c.find.ensures.index
