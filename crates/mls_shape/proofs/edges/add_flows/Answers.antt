use Rattle.std.proofs.Common.{◌≡◌, ◌<◌, ◌∙◌, sym, ℕ, List, subst, ap, length, arith}
use Rattle.mls_automaton.specs.declared.automaton.Polarity.TheVariants.{Positive, Negative}
use Rattle.mls_shape.specs.declared.register.SetState.{SetState}
use Rattle.mls_shape.specs.steps.Edges.{AddsFlows, AreHolders, IsEdge, IsTarget, set_at}
use Rattle.mls_shape.proofs.AddedFlows.{states-stay, flows-more, flows-same}
use Rattle.mls_shape.proofs.FoundEdges.{set_is, edge_of, of_edge, target_positive}
use Rattle.mls_shape.proofs.edges.add_flows.Goals as goal

pub add_flows_at-requires-clause-positive : goal.add_flows_at-requires-clause-positive
add_flows_at-requires-clause-positive c j negative target =
    let sets : List SetState = c.args.sets.now in
    let is : c.index-sets-n.result ≡ set_at sets c.loop-n.n = set_is sets c.loop-n.n c.index-sets-n.result c.loop-n-test.true c.index-sets-n.is in
    let are : AreHolders sets (length c.args.a.now.states) (length sets) c.in_ok-holders.holders.items = subst (λ n. AreHolders sets n (length sets) c.in_ok-holders.holders.items) c.len.ensures.len c.in_ok-holders.ensures in
    let here : IsTarget c.args.a.now c.in_ok-holders.holders.items (set_at sets c.loop-n.n).members j =
    subst (λ (set : SetState). IsTarget c.args.a.now c.in_ok-holders.holders.items set.members j) is
    (subst (λ (holders : List (List ℕ)). IsTarget c.args.a.now holders c.index-sets-n.result.members j) c.as_slice.ensures.value target) in
    states-stay c.args.d.now c.loop-n.d c.loop-n.invariant.states Positive j
    (target_positive c.args.a.now c.requires.closed sets c.requires.sets c.in_ok-holders.holders.items are c.args.d.now c.requires.states c.loop-n.n j c.loop-n-test.true
    (sym (ap (λ (set : SetState). set.polarity) is) ∙ negative, here))

pub loop-n-preserved : goal.loop-n-preserved
loop-n-preserved c =
    let sets : List SetState = c.args.sets.now in
    let is : c.index-sets-n.result ≡ set_at sets c.loop-n.n = set_is sets c.loop-n.n c.index-sets-n.result c.loop-n-test.true c.index-sets-n.is in
    let IsFound : ℕ → ℕ → Type 0 = λ n q. ((set_at sets n).polarity ≡ Negative) × IsTarget c.args.a.now c.in_ok-holders.holders.items (set_at sets n).members q in
    flows-more c.args.d.now c.loop-n.d IsFound c.loop-n.n c.loop-n.invariant c.add_flows_at.new.d
    (flows-same c.loop-n.d c.add_flows_at.new.d (λ m q. (m ≡ c.loop-n.n) × ((set_at sets c.loop-n.n).polarity ≡ Negative) × IsTarget c.args.a.now c.in_ok-holders.holders.items (set_at sets c.loop-n.n).members q) (λ m q. (m ≡ c.loop-n.n) × IsFound c.loop-n.n q)
    (subst (λ (set : SetState). AddsFlows c.loop-n.d c.add_flows_at.new.d (λ m j. (m ≡ c.loop-n.n) × (set.polarity ≡ Negative) × IsTarget c.args.a.now c.in_ok-holders.holders.items set.members j)) is
    (subst (λ (holders : List (List ℕ)). AddsFlows c.loop-n.d c.add_flows_at.new.d (λ m j. (m ≡ c.loop-n.n) × (c.index-sets-n.result.polarity ≡ Negative) × IsTarget c.args.a.now holders c.index-sets-n.result.members j)) c.as_slice.ensures.value
    c.in_ok-add_flows_at.ensures))
    (λ m q it. (it.0, (it.1, it.2)))
    (λ m q it. (it.0, it.1.0, it.1.1)))

pub returns : goal.returns
returns c =
    let sets : List SetState = c.args.sets.now in
    let holders : List (List ℕ) = c.in_ok-holders.holders.items in
    let are : AreHolders sets (length c.args.a.now.states) (length sets) holders = subst (λ n. AreHolders sets n (length sets) holders) c.len.ensures.len c.in_ok-holders.ensures in
    let all : c.loop-n.n ≡ length sets = omega (arith, c.loop-n-test.false, c.loop-n.auto.n-end) in
    let IsFound : ℕ → ℕ → Type 0 = λ n q. ((set_at sets n).polarity ≡ Negative) × IsTarget c.args.a.now holders (set_at sets n).members q in
    flows-same c.args.d.now c.loop-n.d (λ n q. (n < c.loop-n.n) × IsFound n q) (IsEdge c.args.a.now sets) c.loop-n.invariant
    (λ n q it. edge_of c.args.a.now c.requires.closed sets c.requires.sets holders are n q (subst (λ k. n < k) all it.0) it.1)
    (λ n q it. (subst (λ k. n < k) (sym all) it.low, of_edge c.args.a.now c.requires.closed sets c.requires.sets holders are n q it))
