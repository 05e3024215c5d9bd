use Rattle.std.proofs.Common.{true, false, ◌≡◌, ◌+◌, ◌∙◌, ◌<◌, length, sym, subst, arith, ap}
use Rattle.mls_automaton.specs.declared.automaton.Polarity.TheVariants.{Negative}
use Rattle.mls_automaton.specs.Automata.{Automaton, IsState}
use Rattle.mls_solver.specs.Rooms.{Holds}
use Rattle.mls_solver.specs.steps.Numbers.{Numbers}
use Rattle.mls_solver.specs.steps.Solving.{IsSolvedFlow}
use Rattle.mls_solver.proofs.AddedFlows.{states-stay, flows-more, flows-skip, flows-all}
use Rattle.mls_solver.proofs.SolvedStates.{same_states}
use Rattle.mls_solver.proofs.SolvedFlows.{AreFlowsTo, solved_flow-negative}
use Rattle.mls_solver.proofs.materialise.add_flows.Goals as goal
use Rattle.mls_solver.proofs.materialise.add_flows.Goals.{then-is_state+in_ok-add_flows_from, else-is_state}

pub add_flows_from-requires-clause-old : goal.add_flows_from-requires-clause-old
add_flows_from-requires-clause-old c p s state =
    states-stay c.args.solved.now c.loop-n.solved c.loop-n.invariant.flows.states p s
    (same_states c.args.a.now (Holds c.args.room.now) c.args.solved.now c.requires.old p s state)

pub add_flows_from-requires-clause-size : goal.add_flows_from-requires-clause-size
add_flows_from-requires-clause-size c = ap length c.loop-n.invariant.flows.states ∙ c.requires.old.size

pub loop-n-preserved : goal.loop-n-preserved
loop-n-preserved c =
    elim c.if-is_state.branch [
      | then-is_state+in_ok-add_flows_from w ↦
          subst (λ (a : Automaton). AreFlowsTo c.args.a.now (Holds c.args.room.now) c.args.solved.now (c.loop-n.n + 1) a c.if-is_state.marks) (sym w.solved-is)
          (subst (λ (m : Numbers). AreFlowsTo c.args.a.now (Holds c.args.room.now) c.args.solved.now (c.loop-n.n + 1) w.add_flows_from.new.solved m) (sym w.marks-is)
          (record {
            flows = flows-more c.args.solved.now c.loop-n.solved (IsSolvedFlow c.args.a.now (Holds c.args.room.now)) c.loop-n.n c.loop-n.invariant.flows w.add_flows_from.new.solved w.in_ok-add_flows_from.ensures.flows;
            limit = w.in_ok-add_flows_from.ensures.limit ∙ c.loop-n.invariant.limit;
          }))
      | else-is_state w ↦
          subst (λ (a : Automaton). AreFlowsTo c.args.a.now (Holds c.args.room.now) c.args.solved.now (c.loop-n.n + 1) a c.if-is_state.marks) (sym w.solved-is)
          (subst (λ (m : Numbers). AreFlowsTo c.args.a.now (Holds c.args.room.now) c.args.solved.now (c.loop-n.n + 1) c.loop-n.solved m) (sym w.marks-is)
          (record {
            flows = flows-skip c.args.solved.now c.loop-n.solved (IsSolvedFlow c.args.a.now (Holds c.args.room.now)) c.loop-n.n c.loop-n.invariant.flows
                (λ q it.
                let state : IsState c.args.a.now Negative c.loop-n.n = solved_flow-negative c.args.a.now c.requires.closed (Holds c.args.room.now) c.loop-n.n q it in
                let yes : c.is_state.result ≡ true = c.is_state.ensures.1 state in
                let no : c.is_state.result ≡ false = w.if-is_state.false in
                absurd (cc));
            limit = c.loop-n.invariant.limit;
          }))
    ]

pub returns : goal.returns
returns c =
    let len : c.len-n-end.result ≡ length c.args.a.now.states = c.len-n-end.ensures.len in
    flows-all c.args.solved.now c.loop-n.solved (IsSolvedFlow c.args.a.now (Holds c.args.room.now)) c.loop-n.n
    (λ n q it.
    let low : n < length c.args.a.now.states = (solved_flow-negative c.args.a.now c.requires.closed (Holds c.args.room.now) n q it).in_range in
    omega arith)
    c.loop-n.invariant.flows
