use Rattle.mls_top.proofs.SitesTold.{fault_told}
use Rattle.mls_top.proofs.infer.printed_signature.Goals as goal

pub unsigned-requires-clause-fault : goal.unsigned-requires-clause-fault
unsigned-requires-clause-fault c = λ other. (c.args.imports.now, c.in-Err.ensures.fault other)

pub returns-in_ok-unsigned-in-Err-clause-refused : goal.returns-in_ok-unsigned-in-Err-clause-refused
returns-in_ok-unsigned-in-Err-clause-refused c =
    fault_told c.args.file.now c.args.text.now c.args.source.now c.args.imports.now c.in-Err.fault c.in_ok-unsigned-in-Err.field-0 c.in-Err.ensures.fault c.in_ok-unsigned-in-Err.ensures

pub returns-in_ok-unsigned-in-Err-clause-uncounted : goal.returns-in_ok-unsigned-in-Err-clause-uncounted
returns-in_ok-unsigned-in-Err-clause-uncounted c = c.in_ok-unsigned-in-Err.ensures.uncounted
