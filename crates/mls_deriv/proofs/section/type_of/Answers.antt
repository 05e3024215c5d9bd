use Rattle.std.proofs.Common.{◌≡◌, true, false}
use Rattle.mls_typetext.proofs.StopLaws.{no_fault_beside_reading}
use Rattle.mls_deriv.proofs.section.type_of.Goals as goal

pub returns-else-is_memory : goal.returns-else-is_memory
returns-else-is_memory c = λ read is.
    no_fault_beside_reading c.args.text.now read c.in-Err.fault is
    (c.in-Err.ensures.fault (λ e. absurd (let yes : c.is_memory.result ≡ true = c.is_memory.ensures.1 e in let no : c.is_memory.result ≡ false = c.if-is_memory.false in cc)))
