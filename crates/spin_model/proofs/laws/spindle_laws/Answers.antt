use Rattle.spin_model.proofs.Alternating.{journal_alternates}
use Rattle.spin_model.proofs.Owning.{token_own, few_tokens, has_token-push}
use Rattle.spin_model.proofs.Using.{use_of-operation_of}
use Rattle.spin_model.proofs.laws.spindle_laws.Goals as goal

pub returns : goal.returns
returns c = record {
  operations = use_of-operation_of;
  token = has_token-push;
  own = token_own;
  few = few_tokens;
  journal = journal_alternates;
}
