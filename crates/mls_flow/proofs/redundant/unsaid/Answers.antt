use Rattle.std.proofs.Common.{◌≡◌, ℕ, ◌+◌, List, ap, sym, ◌∙◌, subst, take, get_or, All, Contains}
use Rattle.std.proofs.lemmas.List.{get_or_default}
use Rattle.mls_automaton.specs.declared.automaton.Flow.{Flow}
use Rattle.mls_automaton.specs.Automata.{flow}
use Rattle.mls_flow.specs.Claims.{kept_at}
use Rattle.mls_flow.specs.Needs.{AreKeptOf, IsSaid}
use Rattle.mls_flow.proofs.Irredundant.{kept-none, kept-more, kept-same, kept-all}
use Rattle.mls_flow.proofs.Tabled.{refused}
use Rattle.mls_flow.proofs.redundant.unsaid.Goals as goal
use Rattle.mls_flow.proofs.redundant.unsaid.Goals.{then-not-is_said+in_ok-push, else-not-is_said}

pub is_said-requires-clause-known : goal.is_said-requires-clause-known
is_said-requires-clause-known c =
    subst (All (Contains c.args.pairs.now.list)) (sym c.flows-edge-items.ensures.flows) c.requires.known c.loop-edge.edge-index
    (flow 0 0) c.loop-edge-test.true

pub loop-edge-init : goal.loop-edge-init
loop-edge-init c =
    let S : Flow → Type 0 = IsSaid c.args.a.now c.args.pairs.now.list c.args.claims.now (kept_at c.args.marks.now) in
    subst (AreKeptOf S (take 0 c.flows-edge-items.result.now)) (sym c.new-kept.ensures.items) (kept-none S c.flows-edge-items.result.now)

pub is_said-requires-clause-states : goal.is_said-requires-clause-states
is_said-requires-clause-states c =
    let items : List Flow = c.flows-edge-items.result.now in
    let i : ℕ = c.loop-edge.edge-index in
    let edge : Flow = get_or items i (flow 0 0) in
    let there : Contains items edge = (i, c.loop-edge-test.true, get_or_default items i edge (flow 0 0) c.loop-edge-test.true) in
    let in_flows : Contains c.args.a.now.flows edge = subst (λ fs. Contains fs edge) c.flows-edge-items.ensures.flows there in
    (c.flows-edge-items.ensures.ends.negative edge in_flows, c.flows-edge-items.ensures.ends.positive edge in_flows)

pub loop-edge-preserved : goal.loop-edge-preserved
loop-edge-preserved c =
    let S : Flow → Type 0 = IsSaid c.args.a.now c.args.pairs.now.list c.args.claims.now (kept_at c.args.marks.now) in
    let items : List Flow = c.flows-edge-items.result.now in
    let i : ℕ = c.loop-edge.edge-index in
    elim c.if-not-is_said.branch [
      | then-not-is_said+in_ok-push w ↦
          subst (AreKeptOf S (take (i + 1) items)) (sym (ap (λ v. v.items) w.kept-is ∙ w.in_ok-push.ensures.items))
          (kept-more S items i (flow 0 0) c.loop-edge-test.true c.loop-edge.kept.items c.loop-edge.invariant
          (refused c.is_said.result (S (get_or items i (flow 0 0))) c.is_said.ensures w.if-not-is_said.true))
      | else-not-is_said w ↦
          subst (AreKeptOf S (take (i + 1) items)) (sym (ap (λ v. v.items) w.kept-is))
          (kept-same S items i (flow 0 0) c.loop-edge-test.true c.loop-edge.kept.items c.loop-edge.invariant
          (c.is_said.ensures.0 w.if-not-is_said.false))
    ]

pub returns : goal.returns
returns c =
    let S : Flow → Type 0 = IsSaid c.args.a.now c.args.pairs.now.list c.args.claims.now (kept_at c.args.marks.now) in
    subst (λ fs. AreKeptOf S fs c.loop-edge.kept.items) c.flows-edge-items.ensures.flows
    (kept-all S c.flows-edge-items.result.now c.loop-edge.kept.items c.loop-edge.edge-index c.loop-edge-test.false c.loop-edge.invariant)
