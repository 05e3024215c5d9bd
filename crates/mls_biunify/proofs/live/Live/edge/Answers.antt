use Rattle.std.proofs.Common.{◌≡◌, ◌↔◌, ◌⊎◌, ℕ, subst}
use Rattle.mls_automaton.specs.Automata.{HasFlow}
use Rattle.mls_solver.proofs.Answered.{always_err}
use Rattle.mls_biunify.specs.Live.{IsSameLive, Live}
use Rattle.mls_biunify.specs.steps.LiveParts.{live_of}
use Rattle.mls_biunify.proofs.Lives.{same-live}
use Rattle.mls_biunify.proofs.live.Live.edge.Goals as goal

pub returns-in_err-edge-clause-err : goal.returns-in_err-edge-clause-err
returns-in_err-edge-clause-err c =
    always_err c.from_residual.result (IsSameLive c.args.self.now (live_of (record { table = c.edge.new.self; relation = c.self.inside.relation; is_solved = c.self.inside.is_solved; is_ready = c.self.inside.is_ready })))
    (subst (λ (live : Live). IsSameLive live (live_of (record { table = c.edge.new.self; relation = c.self.inside.relation; is_solved = c.self.inside.is_solved; is_ready = c.self.inside.is_ready }))) c.self.view_is
    (same-live c.self.inside.table c.edge.new.self c.self.inside.relation c.self.inside.is_solved c.self.inside.is_ready c.edge.ensures.states c.edge.ensures.there c.in_err-edge.ensures.same))

pub returns-clause-flows : goal.returns-clause-flows
returns-clause-flows c =
    subst (λ (live : Live). (n p : ℕ) → HasFlow c.edge.new.self.automaton n p ↔ (HasFlow live.table n p ⊎ ((n ≡ c.args.negative.0) × (p ≡ c.args.positive.0)))) c.self.view_is
    c.in_ok-edge.ensures.flows
