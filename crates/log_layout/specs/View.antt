-- How a view is stored: its ids in front of zeros.
use Rattle.std.specs.Prelude.{◌≡◌, ℕ, ◌-◌, List, ◌++◌, length, take, replicate}
use Rattle.std.proofs.Common.{sym, ap, ◌∙◌}
use Rattle.log_layout.specs.declared.view.View.TheInside.{Inside}
use Rattle.wol_model.specs.Heads.{IsViewList}

-- the ids of a view
abbrev pub ids_of : Inside → List ℕ
ids_of v = take v.len v.ids

-- the ids are those of a view, and zeros stand behind them
pub record IsStored (v : Inside) : Type 0 where
  pub valid : IsViewList (ids_of v)
  pub counted : length (ids_of v) ≡ v.len
  pub zeros : v.ids ≡ ids_of v ++ replicate (16 - v.len) 0

-- the view of these ids, as it is stored
abbrev pub stored : List ℕ → Inside
stored ids = record { ids = ids ++ replicate (16 - length ids) 0; len = length ids }

pub stored-ids_of : (v : Inside) → IsStored v → stored (ids_of v) ≡ v
stored-ids_of v h = λ i. record {
  ids = (ap (λ (n : ℕ). ids_of v ++ replicate (16 - n) 0) h.counted
      ∙ sym h.zeros) i;
  len = h.counted i;
}
