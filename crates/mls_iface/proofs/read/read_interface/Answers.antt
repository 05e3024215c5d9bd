use Rattle.std.proofs.Common.{◌≡◌, subst, rules}
use Rattle.mls_iface.specs.Faults.{HasGrammarFault}
use Rattle.mls_iface.specs.Interfaces.{HasInterfaceFault, in_tokens, in_grammar}
use Rattle.mls_iface.proofs.PassedOn.{passed, passed_tokens}
use Rattle.mls_iface.proofs.read.read_interface.Goals as goal

pub returns-in_err-found-clause-fault : goal.returns-in_err-found-clause-fault
returns-in_err-found-clause-fault c =
    passed_tokens c.from_residual.result c.in_err-found.field-0.0 (HasInterfaceFault c.args.text.now) c.from_residual.ensures.1
    (λ differs. in_tokens c.in_err-found.field-0.0 (c.in_err-found.ensures.fault differs))

pub returns-in_err-check_grammar-clause-fault : goal.returns-in_err-check_grammar-clause-fault
returns-in_err-check_grammar-clause-fault c =
    let same : c.deref.result.now ≡ c.in_ok-found.found.items = search rules in
    passed c.from_residual-in_err-check_grammar.result c.in_err-check_grammar.field-0.0 (HasInterfaceFault c.args.text.now) c.from_residual-in_err-check_grammar.ensures.1
    (λ differs. in_grammar c.in_ok-found.found.items c.in_ok-found.ensures.found c.in_err-check_grammar.field-0.0
    (subst (λ tokens. HasGrammarFault c.args.text.now tokens 0 c.in_err-check_grammar.field-0.0) same (c.in_err-check_grammar.ensures.fault differs)))
