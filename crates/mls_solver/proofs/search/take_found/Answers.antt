use Rattle.std.proofs.Common.{subst}
use Rattle.mls_automaton.specs.declared.automaton.Head.{Head}
use Rattle.mls_automaton.specs.Automata.{head_at}
use Rattle.mls_solver.specs.steps.Growth.{Relates}
use Rattle.mls_solver.specs.steps.Consequences.{ByHeads}
use Rattle.mls_solver.proofs.search.take_found.Goals as goal

pub head-requires : goal.head-requires
head-requires c = c.requires.positive.in_range

pub head-requires-2 : goal.head-requires-2
head-requires-2 c = c.requires.negative.in_range

pub returns-clause-direct : goal.returns-clause-direct
returns-clause-direct c =
    subst (λ (h : Head). Relates c.args.direct.now c.add_by_heads.new.found (ByHeads h (head_at c.args.a.now c.args.pair.1.0))) c.head.ensures
    (subst (λ (h : Head). Relates c.args.direct.now c.add_by_heads.new.found (ByHeads c.head.result.now h)) c.head-2.ensures c.in_ok-add_by_heads.ensures)
