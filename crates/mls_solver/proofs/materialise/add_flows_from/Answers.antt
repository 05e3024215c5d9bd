use Rattle.std.proofs.Common.{◌≡◌, ◌<◌, [], ℕ, List, All, Contains, sym, subst, arith}
use Rattle.std.specs.Prelude.{OnOk}
use Rattle.mls_solver.specs.steps.Solving.{AddsFlows}
use Rattle.mls_automaton.specs.declared.automaton.Polarity.TheVariants.{Positive, Negative}
use Rattle.mls_automaton.specs.Automata.{IsState, flow}
use Rattle.mls_automaton.proofs.Lists.{All-contained}
use Rattle.mls_solver.specs.Rooms.{Holds}
use Rattle.mls_solver.proofs.Members.{members-state, no_solved_flow}
use Rattle.mls_solver.proofs.AddedFlows.{flows-none}
use Rattle.mls_solver.proofs.SolvedFlows.{target_from, flows_from}
use Rattle.mls_solver.proofs.materialise.add_flows_from.Goals as goal

pub returns-then-is_empty-clause-flows : goal.returns-then-is_empty-clause-flows
returns-then-is_empty-clause-flows c =
    flows-none c.args.solved.now _
    (λ m q it.
    no_solved_flow c.args.a.now (Holds c.args.room.now) c.requires.states c.args.n.0
    (λ j partner.
    let empty : c.partners.result.now ≡ [] = c.is_empty.ensures.0 c.if-is_empty.true in
    let there : Contains [] j = subst (λ (xs : List ℕ). Contains xs j) empty ((c.partners.ensures.partners j).1 partner) in
    let low : there.0 < 0 = there.1 in
    absurd (omega arith))
    q it.1)

pub mark_targets-requires-clause-negative : goal.mark_targets-requires-clause-negative
mark_targets-requires-clause-negative c =
    subst (λ (xs : List ℕ). All (IsState c.args.a.now Negative) xs) (sym c.as_slice.ensures.value)
    (members-state c.args.a.now (Holds c.args.room.now) c.requires.states c.args.n.0 Negative c.requires.negative.polarity c.requires.negative.in_range c.in_ok-members.members.items c.in_ok-members.ensures.members)

pub add_flows_to-requires-clause-negative : goal.add_flows_to-requires-clause-negative
add_flows_to-requires-clause-negative c = c.requires.old Negative c.args.n.0 c.requires.negative

pub add_flows_to-requires-clause-positive : goal.add_flows_to-requires-clause-positive
add_flows_to-requires-clause-positive c =
    subst (λ (xs : List ℕ). All (IsState c.args.solved.now Positive) xs) (sym c.as_slice-2.ensures.value)
    (All-contained (IsState c.args.solved.now Positive) c.sort_unstable.new.self.items
    (λ q it.
    let target = target_from c.args.a.now (Holds c.args.room.now) c.requires.states c.args.n.0 c.requires.negative.polarity c.in_ok-members.members.items c.in_ok-members.ensures.members
    c.as_slice.result.now c.as_slice.ensures.value c.clear.new.self c.mark_targets.new.marks c.clear.ensures.members c.mark_targets.ensures
    c.in_ok-targets.targets.items c.sort_unstable.new.self.items c.in_ok-targets.ensures c.sort_unstable.ensures.permutation q it in
    c.requires.old Positive q (c.requires.closed.positive (flow target.0 q) target.2)))

pub returns-clause-flows : goal.returns-clause-flows
returns-clause-flows c =
    flows_from c.args.a.now (Holds c.args.room.now) c.requires.states c.args.n.0 c.requires.negative.polarity c.in_ok-members.members.items c.in_ok-members.ensures.members
    c.as_slice.result.now c.as_slice.ensures.value c.clear.new.self c.mark_targets.new.marks c.clear.ensures.members c.mark_targets.ensures
    c.in_ok-targets.targets.items c.sort_unstable.new.self.items c.in_ok-targets.ensures c.sort_unstable.ensures.permutation
    c.args.solved.now c.add_flows_to.new.solved c.add_flows_to.result
    (subst (λ (xs : List ℕ). OnOk c.add_flows_to.result (AddsFlows c.args.solved.now c.add_flows_to.new.solved (λ m q. (m ≡ c.args.n.0) × Contains xs q))) c.as_slice-2.ensures.value c.add_flows_to.ensures)
