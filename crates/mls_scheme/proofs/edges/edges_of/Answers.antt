use Rattle.std.proofs.Common.{List, ℕ, sym, subst}
use Rattle.mls_automaton.specs.declared.automaton.Polarity.TheVariants.{Positive, Negative}
use Rattle.mls_scheme.specs.steps.Uses.{AreUses}
use Rattle.mls_scheme.proofs.UsedVariables.{edges-are, edges-none, uses-states}
use Rattle.mls_scheme.proofs.edges.edges_of.Goals as goal

pub add_edges-requires-clause-negative : goal.add_edges-requires-clause-negative
add_edges-requires-clause-negative c =
    uses-states c.args.book.now c.args.signs.now Negative c.args.vars c.args.automaton.now c.as_slice.result.now c.requires.size c.requires.states
    (subst (λ (uses : List (List ℕ)). AreUses c.args.book.now c.args.signs.now Negative c.args.vars uses) (sym c.as_slice.ensures.value) c.in_ok-negative.ensures)

pub add_edges-requires-clause-positive : goal.add_edges-requires-clause-positive
add_edges-requires-clause-positive c =
    uses-states c.args.book.now c.args.signs.now Positive c.args.vars c.args.automaton.now c.as_slice-2.result.now c.requires.size c.requires.states
    (subst (λ (uses : List (List ℕ)). AreUses c.args.book.now c.args.signs.now Positive c.args.vars uses) (sym c.as_slice-2.ensures.value) c.in_ok-positive.ensures)

pub returns-clause-flows : goal.returns-clause-flows
returns-clause-flows c =
    edges-are c.args.book.now c.args.signs.now c.args.vars c.args.automaton.now c.add_edges.new.automaton c.as_slice.result.now c.as_slice-2.result.now c.requires.states
    (subst (λ (uses : List (List ℕ)). AreUses c.args.book.now c.args.signs.now Negative c.args.vars uses) (sym c.as_slice.ensures.value) c.in_ok-negative.ensures)
    (subst (λ (uses : List (List ℕ)). AreUses c.args.book.now c.args.signs.now Positive c.args.vars uses) (sym c.as_slice-2.ensures.value) c.in_ok-positive.ensures)
    c.in_ok-add_edges.ensures.flows

pub returns-then-vars-eq0-clause-flows : goal.returns-then-vars-eq0-clause-flows
returns-then-vars-eq0-clause-flows c = edges-none c.args.book.now c.args.signs.now c.args.vars c.args.automaton.now c.if-vars-eq0.true c.requires.variables c.requires.states
