use Rattle.std.proofs.Common.{◌≡◌, rules, length}
use Rattle.mls_automaton.specs.Automata.{Automaton, empty_head, with_state}
use Rattle.mls_infer.specs.Constraints.{negative, positive, size}
use Rattle.mls_infer.proofs.Passages.{passage_added}
use Rattle.mls_infer.proofs.rows.add_passage.Goals as goal

pub returns-clause-passage : goal.returns-clause-passage
returns-clause-passage c =
    let a : Automaton = c.args.automaton.now in
    let first : c.state.new.self ≡ with_state a (negative empty_head) = search rules in
    let second : c.state-2.new.self ≡ with_state c.state.new.self (positive empty_head) = search rules in
    let n_is : c.in_ok-negative.negative.0 ≡ size a = search rules in
    let p_is : c.in_ok-positive.positive.0 ≡ length c.state.new.self.states = search rules in
    passage_added a c.requires c.in_ok-negative.negative.0 c.in_ok-positive.positive.0 n_is c.state.new.self c.state-2.new.self c.add_flow.new.self first p_is second c.in_ok-add_flow.ensures.added
