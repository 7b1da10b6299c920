use Rattle.std.proofs.lemmas.Result.{IfErr-weaker, IfOk-weaker}
use Rattle.toml.specs.View.{table_view}
use Rattle.wol_config.specs.Documents.{document_fault}
use Rattle.wol_config.specs.Configs.{IsDocument, IsConfigOf, IsValid, IsAnswer, IsRefusal}
use Rattle.wol_config.proofs.Valid.{valid_config}
use Rattle.wol_config.proofs.Refusals.{refusal}
use Rattle.wol_config.proofs.read.read_config.Goals as goal

pub returns-in-Ok-clause-valid : goal.returns-in-Ok-clause-valid
returns-in-Ok-clause-valid c =
    IfOk-weaker c.config_of.result (IsConfigOf (table_view c.in-Ok.document)) IsValid (valid_config (table_view c.in-Ok.document)) c.config_of.ensures.ok

pub returns-in-Ok-clause-err : goal.returns-in-Ok-clause-err
returns-in-Ok-clause-err c =
    let document = table_view c.in-Ok.document in
    let is : IsDocument c.args.bytes.now document = record { few = c.if-bytes-gt-MOST_BYTES.false; text = c.in-Ok.ensures.ok.0; parsed = c.in-Ok.ensures.ok.1 } in
    IfErr-weaker c.config_of.result (IsAnswer (document_fault document)) (IsRefusal c.args.bytes.now) (λ e h. refusal c.args.bytes.now document e is h) c.config_of.ensures.err
