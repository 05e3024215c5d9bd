use Rattle.std.proofs.Common.{List, length, refl, subst}
use Rattle.mls_automaton.specs.declared.automaton.Flow.{Flow}
use Rattle.mls_layout.specs.steps.Sources.{AreParted}
use Rattle.mls_layout.specs.steps.TypeNodes.{AddsVariables}
use Rattle.mls_layout.proofs.type_layout.push_sources.Goals as goal

pub returns : goal.returns
returns c = record {
  between = c.push_variables.new.book;
  leaves = c.in_ok-leaves.leaves;
  variables =
      subst (λ (flows : List Flow). AddsVariables (length c.args.a.now.states) flows c.args.first_variable (length flows) c.args.book.now c.push_variables.new.book c.in_ok-variables.variables.items) c.flows.ensures.flows
      (subst (λ n. AddsVariables n c.flows.result.now c.args.first_variable (length c.flows.result.now) c.args.book.now c.push_variables.new.book c.in_ok-variables.variables.items) c.len-states.ensures.len
      c.in_ok-variables.ensures);
  added = c.in_ok-leaves.ensures;
  parts = subst (λ n. AreParted c.args.a.now c.in_ok-leaves.leaves n (length c.args.a.now.states) c.in_ok-parts.parts.end c.in_ok-parts.parts.nodes) c.len-start.ensures.len c.in_ok-parts.ensures;
  nothing = refl;
}
