use Rattle.std.proofs.Common.{◌≡◌, List, drop}
use Rattle.mls_lexer.specs.Tokens.{terminals}
use Rattle.mls_iface.specs.declared.interface.IfaceFault.{IfaceFault}
use Rattle.mls_iface.specs.Declarations.{Declaration, spelled}
use Rattle.mls_iface.specs.steps.Reading.{IsFaulty}
use Rattle.mls_iface.proofs.DeclarationsRead.{type_within, typed, faulty}
use Rattle.mls_iface.proofs.PassedOn.{passed_type}
use Rattle.mls_iface.proofs.read.type_of.Goals as goal

pub read_type_from-requires-clause-from : goal.read_type_from-requires-clause-from
read_type_from-requires-clause-from c = type_within c.args.text.now c.args.tokens.now c.args.from c.requires.from c.requires.grammar

pub returns-in_err-read-clause-fault : goal.returns-in_err-read-clause-fault
returns-in_err-read-clause-fault c =
    passed_type c.from_residual.result c.in_err-read.field-0.0
    (λ (fault : IfaceFault). (ds : List Declaration) → spelled ds ≡ drop c.args.from (terminals c.args.text.now c.args.tokens.now) → IsFaulty c.args.tokens.now c.args.from ds fault)
    c.from_residual.ensures.1
    (λ differs. faulty c.args.text.now c.args.tokens.now c.args.from c.requires.from c.in_err-read.field-0.0 (c.in_err-read.ensures.fault differs))

pub returns-clause-read : goal.returns-clause-read
returns-clause-read c = typed c.args.text.now c.args.tokens.now c.args.from c.requires.from c.in_ok-read.read.0 c.in_ok-read.read.1 c.in_ok-read.ensures.read
