use Rattle.std.proofs.Common.{◌≡◌, ◌↔◌, ◌⊎◌, ℕ, subst, sym, ap, ◌∙◌}
use Rattle.mls_automaton.specs.declared.automaton.Polarity.TheVariants.{Positive, Negative}
use Rattle.mls_automaton.specs.Automata.{HasFlow}
use Rattle.mls_solver.proofs.Answered.{on_ok, on_err}
use Rattle.mls_biunify.specs.Live.{IsStateIn}
use Rattle.mls_biunify.specs.steps.TwoWay.{TwoWay, AddsPair, IsSamePairs}
use Rattle.mls_biunify.specs.steps.Tables.{Numbered, numbered_of}
use Rattle.mls_biunify.proofs.TableSteps.{flow-in, edge-added, edge-same, edge-numbered}
use Rattle.mls_biunify.proofs.table.Table.edge.Goals as goal

pub invariant_of-self : goal.invariant_of-self
invariant_of-self c =
    edge-numbered c.self.inside.states c.self.inside.flows c.insert.new.self c.self.invariant c.args.negative.0 c.args.positive.0
    (subst (λ (t : Numbered). IsStateIn t.automaton t.there Negative c.args.negative.0) (sym c.self.view_is) c.requires.negative)
    (subst (λ (t : Numbered). IsStateIn t.automaton t.there Positive c.args.positive.0) (sym c.self.view_is) c.requires.positive)
    c.insert.result c.insert.ensures.ok c.insert.ensures.err

pub returns-clause-flows : goal.returns-clause-flows
returns-clause-flows c =
    on_ok c.insert.result (AddsPair c.self.inside.flows c.insert.new.self c.args.negative.0 c.args.positive.0)
    ((n p : ℕ) → HasFlow (numbered_of c.self.inside.states c.insert.new.self).automaton n p ↔ (HasFlow c.args.self.now.automaton n p ⊎ ((n ≡ c.args.negative.0) × (p ≡ c.args.positive.0))))
    (λ it.
    subst (λ (t : Numbered). (n p : ℕ) → HasFlow (numbered_of c.self.inside.states c.insert.new.self).automaton n p ↔ (HasFlow t.automaton n p ⊎ ((n ≡ c.args.negative.0) × (p ≡ c.args.positive.0)))) c.self.view_is
    (edge-added c.self.inside.states c.self.inside.flows c.insert.new.self c.self.invariant c.args.negative.0 c.args.positive.0 it))
    c.insert.ensures.ok

pub returns-clause-same : goal.returns-clause-same
returns-clause-same c =
    on_err c.insert.result (IsSamePairs c.self.inside.flows c.insert.new.self)
    ((n p : ℕ) → HasFlow (numbered_of c.self.inside.states c.insert.new.self).automaton n p ↔ HasFlow c.args.self.now.automaton n p)
    (λ it.
    subst (λ (t : Numbered). (n p : ℕ) → HasFlow (numbered_of c.self.inside.states c.insert.new.self).automaton n p ↔ HasFlow t.automaton n p) c.self.view_is
    (edge-same c.self.inside.states c.self.inside.flows c.insert.new.self c.self.invariant c.args.negative.0 c.args.positive.0 it))
    c.insert.ensures.err

pub returns-clause-once : goal.returns-clause-once
returns-clause-once c it =
    let before = (flow-in c.self.inside.states c.self.inside.flows c.args.negative.0 c.args.positive.0).0 (subst (λ (t : Numbered). HasFlow t.automaton c.args.negative.0 c.args.positive.0) (sym c.self.view_is) it) in
    ap (λ (flows : TwoWay). numbered_of c.self.inside.states flows) (c.insert.ensures.there before) ∙ c.self.view_is
