-- The records of a group as the index is given them.
use Rattle.std.specs.Prelude.{◌+◌, ◌-◌, ◌^◌, ◌∷◌, ◌++◌, ℕ, List, [], map}
use Rattle.wol_model.specs.Index.{Indexed}
use Rattle.log_segment.specs.declared.item.Item.{Item}
use Rattle.block_cells.specs.declared.record.Rec.{Rec}
use Rattle.redirect_map.specs.Index.{entry_of, unhomed, cover_at}

-- one for each item, of versions in a row, behind one another in a segment
abbrev pub recs_at : (version : ℕ) → List Item → (lane segment pos : ℕ) → List Rec
recs_at version [] lane segment pos = []
recs_at version (i ∷ items) lane segment pos =
    record {
      version = version;
      lbn = i.lbn;
      count = i.count;
      keep = 2 ^ i.count - 1;
      lane = lane;
      segment = segment;
      pos = pos;
    }
    ∷ recs_at (version + 1) items lane segment (pos + 1 + i.count)

-- the entries once the index has them, each behind the ones before it
abbrev pub entered_all : List Indexed → List Rec → List Indexed
entered_all es [] = es
entered_all es (q ∷ recs) =
    entered_all (map (unhomed (cover_at (entry_of q 0))) es ++ entry_of q 0 ∷ []) recs
