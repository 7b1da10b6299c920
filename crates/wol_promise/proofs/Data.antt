-- Data of a version.
use Rattle.std.proofs.Common.{◌++◌, subst, append_assoc, List}
use Rattle.std.specs.Prelude.{Contains}
use Rattle.std.proofs.lemmas.List.Elements.{Contains-append_left}
use Rattle.wol_model.specs.Blocks.{Write}
use Rattle.wol_promise.specs.Stands.{DataStays}

pub data_stays : DataStays
data_stays base ws more version first blocks is = record {
  write = is.write;
  known = subst (λ (l : List Write). Contains l is.write) (append_assoc base.records ws more) (Contains-append_left (base.records ++ ws) more is.write is.known);
  named = is.named;
  range = is.range;
  data_ = is.data_;
}
