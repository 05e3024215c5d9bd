use Rattle.mls_typetext.specs.TextsFrom.{HasFaultFrom, stops}
use Rattle.mls_typetext.proofs.TextsRead.{passed, between_of_text, is_told, reads_from, fault_from}
use Rattle.mls_typetext.proofs.from_text.read_type_from.Goals as goal

pub returns-in_err-end-clause-fault : goal.returns-in_err-end-clause-fault
returns-in_err-end-clause-fault c =
    passed c.from_residual.result c.in_err-end.field-0.0 (HasFaultFrom c.args.text.now c.args.tokens.now c.args.from) c.from_residual.ensures.1
    (λ other. stops (c.in_err-end.ensures.fault other))

pub scheme_of-requires-clause-of_text : goal.scheme_of-requires-clause-of_text
scheme_of-requires-clause-of_text c = between_of_text c.args.text.now c.args.tokens.now c.requires.tokens c.args.from c.in_ok-end.end c.in_ok-end.ensures.end

pub scheme_of-requires-clause-is_type : goal.scheme_of-requires-clause-is_type
scheme_of-requires-clause-is_type c = is_told c.args.text.now c.args.tokens.now c.requires.tokens c.args.from c.in_ok-end.end c.in_ok-end.ensures.end

pub returns-in_err-read-clause-fault : goal.returns-in_err-read-clause-fault
returns-in_err-read-clause-fault c =
    passed c.from_residual-in_err-read.result c.in_err-read.field-0.0 (HasFaultFrom c.args.text.now c.args.tokens.now c.args.from) c.from_residual-in_err-read.ensures.1
    (λ other. fault_from c.args.text.now c.args.tokens.now c.requires.tokens c.args.from c.in_ok-end.end c.in_ok-end.ensures.end c.in_err-read.field-0.0 (c.in_err-read.ensures.fault other))

pub returns-clause-read : goal.returns-clause-read
returns-clause-read c = reads_from c.args.text.now c.args.tokens.now c.requires.tokens c.args.from c.in_ok-end.end c.in_ok-end.ensures.end c.in_ok-read.read c.in_ok-read.ensures.read
