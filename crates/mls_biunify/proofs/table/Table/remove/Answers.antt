use Rattle.std.proofs.Common.{◌≢◌, ℕ, subst, sym}
use Rattle.mls_automaton.specs.Automata.{HasFlow}
use Rattle.mls_automaton.specs.Reached.{Names}
use Rattle.mls_biunify.specs.steps.Tables.{Numbered, RemovesState, numbered_of}
use Rattle.mls_biunify.proofs.TableSteps.{state-removes, state-gone}
use Rattle.mls_biunify.proofs.table.Table.remove.Goals as goal

pub invariant_of-self : goal.invariant_of-self
invariant_of-self c =
    state-gone c.self.inside.states c.remove.new.self c.self.inside.flows c.self.invariant c.args.s.0 c.remove.ensures.updates
    (subst (λ (t : Numbered). (j : ℕ) → Names t.automaton j c.args.s.0 → ⊥) (sym c.self.view_is) c.requires.unnamed)
    (subst (λ (t : Numbered). (n p : ℕ) → HasFlow t.automaton n p → (n ≢ c.args.s.0) × (p ≢ c.args.s.0)) (sym c.self.view_is) c.requires.unlinked)

pub returns-clause-removes : goal.returns-clause-removes
returns-clause-removes c =
    subst (λ (t : Numbered). RemovesState t (numbered_of c.remove.new.self c.self.inside.flows) c.args.s.0) c.self.view_is
    (state-removes c.self.inside.states c.remove.new.self c.self.inside.flows c.self.invariant c.args.s.0 c.remove.ensures.updates)

pub returns-clause-is : goal.returns-clause-is
returns-clause-is c =
    state-gone c.self.inside.states c.remove.new.self c.self.inside.flows c.self.invariant c.args.s.0 c.remove.ensures.updates
    (subst (λ (t : Numbered). (j : ℕ) → Names t.automaton j c.args.s.0 → ⊥) (sym c.self.view_is) c.requires.unnamed)
    (subst (λ (t : Numbered). (n p : ℕ) → HasFlow t.automaton n p → (n ≢ c.args.s.0) × (p ≢ c.args.s.0)) (sym c.self.view_is) c.requires.unlinked)
