use Rattle.std.proofs.Common.{Some, None, subst, sym}
use Rattle.mls_automaton.specs.declared.automaton.Head.{Head}
use Rattle.mls_automaton.specs.Automata.{head_at}
use Rattle.mls_solver.specs.Clashes.{IsFirstKind}
use Rattle.mls_solver.proofs.FirstClashes.{pair_held, pair_none, pair_first}
use Rattle.mls_solver.proofs.search.clash_at.Goals as goal

pub head-requires : goal.head-requires
head-requires c = (c.requires.states c.pair.result.0.0 c.pair.result.1.0 (pair_held c.args.found.now c.args.i c.pair.result.0.0 c.pair.result.1.0 c.requires.in_range (sym c.pair.ensures))).0

pub head-requires-2 : goal.head-requires-2
head-requires-2 c = (c.requires.states c.pair.result.0.0 c.pair.result.1.0 (pair_held c.args.found.now c.args.i c.pair.result.0.0 c.pair.result.1.0 c.requires.in_range (sym c.pair.ensures))).1

pub returns-in-None : goal.returns-in-None
returns-in-None c =
    pair_none c.args.a.now c.args.found.now c.args.i c.pair.result.0.0 c.pair.result.1.0 (sym c.pair.ensures)
    (subst (λ (h : Head). IsFirstKind h (head_at c.args.a.now c.pair.result.1.0) None) c.head.ensures
    (subst (λ (h : Head). IsFirstKind c.head.result.now h None) c.head-2.ensures c.in-None.ensures))

pub returns-in-Some : goal.returns-in-Some
returns-in-Some c =
    pair_first c.args.a.now c.args.found.now c.args.i c.pair.result.0.0 c.pair.result.1.0 (sym c.pair.ensures) c.in-Some.kind
    (subst (λ (h : Head). IsFirstKind h (head_at c.args.a.now c.pair.result.1.0) (Some c.in-Some.kind)) c.head.ensures
    (subst (λ (h : Head). IsFirstKind c.head.result.now h (Some c.in-Some.kind)) c.head-2.ensures c.in-Some.ensures))
