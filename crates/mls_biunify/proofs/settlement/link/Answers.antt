use Rattle.std.proofs.Common.{true, false, ◌≡◌, ◌∙◌, ℕ, List, [], ◌∷◌, ◌++◌, ap}
use Rattle.mls_solver.proofs.Answered.{always_err}
use Rattle.mls_biunify.specs.steps.Settlement.{AddsEdges}
use Rattle.mls_biunify.proofs.SettledLinks.{links-there, links-new, adds-none}
use Rattle.mls_biunify.proofs.settlement.link.Goals as goal

pub returns-then-has_flow-clause-ok : goal.returns-then-has_flow-clause-ok
returns-then-has_flow-clause-ok c = links-there c.args.table.now c.args.added.now.items c.args.n c.args.p (c.has_flow.ensures.0 c.if-has_flow.true)

pub returns-clause-ok : goal.returns-clause-ok
returns-clause-ok c =
    links-new c.args.table.now c.edge.new.self c.args.added.now.items c.push.new.self.items c.args.n c.args.p c.edge.ensures.states c.edge.ensures.there c.edge.ensures.limit c.in_ok-edge.ensures.flows
    (λ it. let yes : c.has_flow.result ≡ true = c.has_flow.ensures.1 it in let f : c.has_flow.result ≡ false = c.if-has_flow.false in absurd (cc))
    (c.in_ok-push.ensures.items ∙ ap (λ (xs : List (ℕ × ℕ)). xs ++ (c.args.n, c.args.p) ∷ []) c.reserve.ensures.items)

pub returns-in_err-edge-clause-err : goal.returns-in_err-edge-clause-err
returns-in_err-edge-clause-err c =
    always_err c.from_residual-in_err-edge.result (AddsEdges c.args.table.now c.edge.new.self (λ i j. ⊥))
    (adds-none c.args.table.now c.edge.new.self c.edge.ensures.states c.edge.ensures.there c.edge.ensures.limit c.in_err-edge.ensures.same)
