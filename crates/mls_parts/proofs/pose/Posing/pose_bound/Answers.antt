use Rattle.std.proofs.Common.{◌≡◌, ℕ, refl, subst}
use Rattle.mls_automaton.specs.Automata.{empty_head}
use Rattle.mls_parts.specs.declared.pose.Posing.{Posing}
use Rattle.mls_parts.specs.Posings.{Adds, OneEdge, binder_in, literal_added, size}
use Rattle.mls_parts.proofs.Posings.{bound_added}
use Rattle.mls_parts.proofs.pose.Posing.pose_bound.Goals as goal

pub returns : goal.returns
returns c =
    let p : Posing = c.args.self.now in
    let state_is : c.binder-state.result ≡ binder_in p c.args.binder = c.binder-state.ensures in
    let q : Posing = record { automaton = c.add_flow.new.self; goals = p.goals; roots = c.insert.new.self; binders = p.binders; needs = p.needs; copies = p.copies; results = p.results } in
    subst (λ (state : ℕ). Adds p q c.args.node (literal_added (size p) empty_head) (OneEdge state (size p))) state_is
    (bound_added p q c.args.node c.binder-state.result c.in_ok-root.root.0 c.state.new.self c.empty.result c.in_ok-root.ensures.ok c.empty.ensures c.in_ok-root.ensures.number
    c.in_ok-add_flow.ensures.states c.in_ok-add_flow.ensures.flows refl refl c.in_ok-insert.ensures.updates refl refl refl)
