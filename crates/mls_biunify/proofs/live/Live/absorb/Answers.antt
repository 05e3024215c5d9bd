use Rattle.std.proofs.Common.{◌↔◌, ◌⊎◌, ℕ, false, subst}
use Rattle.mls_automaton.specs.Automata.{HasFlow}
use Rattle.mls_solver.proofs.Answered.{always_err}
use Rattle.mls_biunify.specs.Live.{AddsStates, IsCopiedFlow, IsSameLive, Live}
use Rattle.mls_biunify.specs.steps.LiveParts.{live_of}
use Rattle.mls_biunify.proofs.Lives.{copy-added, same-table-live, states-added}
use Rattle.mls_biunify.proofs.live.Live.absorb.Goals as goal

pub returns-clause-copy : goal.returns-clause-copy
returns-clause-copy c =
    copy-added c.self.inside.table c.absorb.new.table c.limit-limit.ensures.is c.absorb.ensures.is c.args.a.now c.requires c.in_ok-numbers.numbers c.in_ok-numbers.ensures.count c.in_ok-numbers.ensures.rises c.in_ok-numbers.ensures.ok

pub returns-clause-states : goal.returns-clause-states
returns-clause-states c =
    subst (λ (live : Live). AddsStates live (live_of (record { table = c.absorb.new.table; relation = c.self.inside.relation; is_solved = false; is_ready = false })) c.in_ok-numbers.numbers) c.self.view_is
    (states-added c.self.inside.table c.absorb.new.table c.self.inside.relation c.self.inside.is_solved c.self.inside.is_ready c.args.a.now c.in_ok-numbers.numbers c.in_ok-numbers.ensures.ok)

pub returns-clause-flows : goal.returns-clause-flows
returns-clause-flows c =
    subst (λ (live : Live). (n p : ℕ) → HasFlow c.absorb.new.table.automaton n p ↔ (HasFlow live.table n p ⊎ IsCopiedFlow c.args.a.now c.in_ok-numbers.numbers n p)) c.self.view_is
    c.in_ok-numbers.ensures.ok.flows

pub returns-in_err-numbers-clause-err : goal.returns-in_err-numbers-clause-err
returns-in_err-numbers-clause-err c =
    always_err c.from_residual.result (IsSameLive c.args.self.now (live_of (record { table = c.absorb.new.table; relation = c.self.inside.relation; is_solved = c.self.inside.is_solved; is_ready = c.self.inside.is_ready })))
    (subst (λ (live : Live). IsSameLive live (live_of (record { table = c.absorb.new.table; relation = c.self.inside.relation; is_solved = c.self.inside.is_solved; is_ready = c.self.inside.is_ready }))) c.self.view_is
    (same-table-live c.self.inside.table c.absorb.new.table c.self.inside.relation c.self.inside.is_solved c.self.inside.is_ready c.in_err-numbers.ensures.err))
