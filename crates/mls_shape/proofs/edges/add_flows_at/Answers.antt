use Rattle.std.proofs.Common.{◌≡◌, ℕ, List, subst}
use Rattle.std.specs.Prelude.{OnOk}
use Rattle.mls_shape.specs.steps.Edges.{AddsFlows, IsTarget}
use Rattle.mls_shape.proofs.FoundEdges.{flows_negative}
use Rattle.mls_shape.proofs.edges.add_flows_at.Goals as goal

pub add_flows_from-requires-clause-positive : goal.add_flows_from-requires-clause-positive
add_flows_from-requires-clause-positive c j target =
    c.requires.positive j c.in-Negative.is (subst (λ (xs : List ℕ). IsTarget c.args.a.now c.args.holders.now xs j) c.as_slice.ensures.members target)

pub returns-in-Negative : goal.returns-in-Negative
returns-in-Negative c =
    flows_negative c.args.d.now c.add_flows_from.new.d c.args.set.now.polarity (IsTarget c.args.a.now c.args.holders.now c.args.set.now.members) c.args.n.0 c.add_flows_from.result c.in-Negative.is
    (subst (λ (xs : List ℕ). OnOk c.add_flows_from.result (AddsFlows c.args.d.now c.add_flows_from.new.d (λ m j. (m ≡ c.args.n.0) × IsTarget c.args.a.now c.args.holders.now xs j))) c.as_slice.ensures.members c.add_flows_from.ensures)
