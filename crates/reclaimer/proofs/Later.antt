-- Data stays that of its version.
use Rattle.std.proofs.Common.{List, None, Some, sym, subst, ap, ◌∙◌}
use Rattle.std.proofs.lemmas.List.{map-append}
use Rattle.wol_model.specs.Blocks.{Write}
use Rattle.wol_model.specs.History.{writes}
use Rattle.wol_promise.specs.Ruled.{Noted, entries_of}
use Rattle.wol_promise.specs.Stands.{IsDataOf}
use Rattle.wol_promise.proofs.Data.{data_stays}
use Rattle.wol_model.proofs.Histories.{writes_more}
use Rattle.reclaimer.specs.Fetches.{DataIsKept}

pub data_is_kept : DataIsKept
data_is_kept tells None b notes more has = tt
data_is_kept tells (Some f) b notes more has = λ told. subst (λ (ws : List Write). IsDataOf b.volume.began ws f.version f.first f.blocks)
    (sym (ap writes (map-append (λ (n : Noted). n.entry) notes more) ∙ writes_more (entries_of notes) (entries_of more)))
    (data_stays b.volume.began (writes (entries_of notes)) (writes (entries_of more)) f.version f.first f.blocks (has told))
