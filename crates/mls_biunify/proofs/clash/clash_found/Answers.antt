use Rattle.std.proofs.Common.{Some, None, subst, sym}
use Rattle.mls_automaton.specs.declared.automaton.Head.{Head}
use Rattle.mls_automaton.specs.Automata.{head_at}
use Rattle.mls_automaton.specs.Models.{HasRisingLabels}
use Rattle.mls_solver.specs.Clashes.{IsFirstKind}
use Rattle.mls_solver.proofs.FirstClashes.{pair_held, pair_none, pair_first}
use Rattle.mls_biunify.proofs.clash.clash_found.Goals as goal

pub head-requires : goal.head-requires
head-requires c = (c.requires.states c.pair.result.0.0 c.pair.result.1.0 (pair_held c.args.relation.now c.args.i c.pair.result.0.0 c.pair.result.1.0 c.requires.in_range (sym c.pair.ensures))).0.there

pub head-requires-2 : goal.head-requires-2
head-requires-2 c = (c.requires.states c.pair.result.0.0 c.pair.result.1.0 (pair_held c.args.relation.now c.args.i c.pair.result.0.0 c.pair.result.1.0 c.requires.in_range (sym c.pair.ensures))).1.there

pub returns-in-None : goal.returns-in-None
returns-in-None c =
    pair_none c.args.table.now.automaton c.args.relation.now c.args.i c.pair.result.0.0 c.pair.result.1.0 (sym c.pair.ensures)
    (subst (λ (h : Head). IsFirstKind h (head_at c.args.table.now.automaton c.pair.result.1.0) None) c.head.ensures.head
    (subst (λ (h : Head). IsFirstKind c.head.result.now h None) c.head-2.ensures.head c.in-None.ensures))

pub returns-in-Some : goal.returns-in-Some
returns-in-Some c =
    pair_first c.args.table.now.automaton c.args.relation.now c.args.i c.pair.result.0.0 c.pair.result.1.0 (sym c.pair.ensures) c.in-Some.kind
    (subst (λ (h : Head). IsFirstKind h (head_at c.args.table.now.automaton c.pair.result.1.0) (Some c.in-Some.kind)) c.head.ensures.head
    (subst (λ (h : Head). IsFirstKind c.head.result.now h (Some c.in-Some.kind)) c.head-2.ensures.head c.in-Some.ensures))

pub clash_of-requires : goal.clash_of-requires
clash_of-requires c = subst (λ (h : Head). HasRisingLabels h.fields) (sym c.head-2.ensures.head) (c.head-2.ensures.is.is.labels c.pair.result.1.0)
