use Rattle.std.proofs.Common.{◌∙◌, ◌≤◌, subst}
use Rattle.mls_biunify.proofs.RelatedThere.{goals_fit, goals_there, goals_held}
use Rattle.mls_biunify.proofs.worklist.relate.Goals as goal

pub add_goals-requires-clause-rows : goal.add_goals-requires-clause-rows
add_goals-requires-clause-rows c = (goals_fit c.args.table.now c.args.goals.now c.requires.goals c.limit.ensures.is c.grow.new.self (subst (λ k. k ≤ c.grow.new.self.positives) c.limit.ensures.limit c.in_ok-grow.ensures.positives) (subst (λ k. k ≤ c.grow.new.self.negatives) c.limit.ensures.limit c.in_ok-grow.ensures.negatives)).0

pub add_goals-requires-clause-columns : goal.add_goals-requires-clause-columns
add_goals-requires-clause-columns c = (goals_fit c.args.table.now c.args.goals.now c.requires.goals c.limit.ensures.is c.grow.new.self (subst (λ k. k ≤ c.grow.new.self.positives) c.limit.ensures.limit c.in_ok-grow.ensures.positives) (subst (λ k. k ≤ c.grow.new.self.negatives) c.limit.ensures.limit c.in_ok-grow.ensures.negatives)).1

pub close-requires-clause-states : goal.close-requires-clause-states
close-requires-clause-states c = goals_there c.args.table.now c.args.goals.now c.requires.goals c.grow.new.self c.add_goals.new.room (c.grow.ensures.pairs ∙ c.clear.ensures.pairs) c.in_ok-add_goals.ensures

pub returns-clause-relation : goal.returns-clause-relation
returns-clause-relation c = goals_held c.args.table.now.automaton c.args.goals.now c.grow.new.self c.add_goals.new.room c.close.new.room (c.grow.ensures.pairs ∙ c.clear.ensures.pairs) c.in_ok-add_goals.ensures c.in_ok-close.ensures.relation
