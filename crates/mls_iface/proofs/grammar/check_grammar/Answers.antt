use Rattle.std.proofs.Common.{rules}
use Rattle.mls_iface.proofs.GrammarSteps.{all_gone}
use Rattle.mls_iface.proofs.grammar.check_grammar.Goals as goal

pub returns-clause-interface : goal.returns-clause-interface
returns-clause-interface c = all_gone c.args.text.now c.args.tokens.now c.loop-at.at (search rules) c.loop-at.invariant
