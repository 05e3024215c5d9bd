use Rattle.mls_typetext.proofs.TextsRead.{tokens_passed}
use Rattle.mls_typetext.proofs.from_text.read_type.Goals as goal

pub returns-in_err-found-clause-fault : goal.returns-in_err-found-clause-fault
returns-in_err-found-clause-fault c = tokens_passed c.args.text.now c.from_residual.result c.in_err-found.field-0.0 c.from_residual.ensures.1 c.in_err-found.ensures.fault
