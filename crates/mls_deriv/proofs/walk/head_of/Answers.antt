use Rattle.std.proofs.Common.{◌≡◌, true, false, subst}
use Rattle.mls_typetext.specs.Stops.{HasTypeFault}
use Rattle.mls_typetext.specs.Texts.{IsTypeText}
use Rattle.mls_typetext.proofs.StopLaws.{no_fault_beside_reading}
use Rattle.mls_deriv.proofs.Walks.{head_is, head_not}
use Rattle.mls_deriv.proofs.walk.head_of.Goals as goal

pub returns-then-begins_with : goal.returns-then-begins_with
returns-then-begins_with c = head_is c.args.section.now c.in-Ok.read (subst (λ t. IsTypeText t c.in-Ok.read) c.as_slice.ensures c.in-Ok.ensures.read) (c.begins_with.ensures.0 c.if-begins_with.true)

pub returns-else-begins_with : goal.returns-else-begins_with
returns-else-begins_with c =
    head_not c.args.section.now c.in-Ok.read (subst (λ t. IsTypeText t c.in-Ok.read) c.as_slice.ensures c.in-Ok.ensures.read)
    (λ h. absurd (let yes : c.begins_with.result ≡ true = c.begins_with.ensures.1 h in let no : c.begins_with.result ≡ false = c.if-begins_with.false in cc))

pub returns-else-is_memory : goal.returns-else-is_memory
returns-else-is_memory c = λ read head.
    no_fault_beside_reading c.args.section.now.text read c.in-Err.fault head.text
    (subst (λ t. HasTypeFault t c.in-Err.fault) c.as_slice.ensures
    (c.in-Err.ensures.fault (λ e. absurd (let yes : c.is_memory.result ≡ true = c.is_memory.ensures.1 e in let no : c.is_memory.result ≡ false = c.if-is_memory.false in cc))))
