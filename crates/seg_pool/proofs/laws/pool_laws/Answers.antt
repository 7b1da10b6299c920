use Rattle.seg_pool.proofs.Using.{use_of-operation_of}
use Rattle.seg_pool.proofs.Holding.{holder_own, holds-push}
use Rattle.seg_pool.proofs.laws.pool_laws.Goals as goal

pub returns : goal.returns
returns c = record {
  operations = use_of-operation_of;
  holds = holds-push;
  own = holder_own;
}
