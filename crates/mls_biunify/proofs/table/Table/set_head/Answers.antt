use Rattle.std.proofs.Common.{subst, sym}
use Rattle.mls_automaton.specs.Automata.{polarity_at}
use Rattle.mls_automaton.specs.Models.{HasStatesIn}
use Rattle.mls_biunify.specs.Live.{IsStateIn}
use Rattle.mls_biunify.specs.steps.Tables.{Numbered, SetsHead, numbered_of}
use Rattle.mls_biunify.proofs.TableSteps.{headed, head-written, head-written-is}
use Rattle.mls_biunify.proofs.table.Table.set_head.Goals as goal

pub invariant_of-self : goal.invariant_of-self
invariant_of-self c =
    head-written-is c.self.inside.states c.self.inside.flows c.self.invariant c.args.s.0 c.index_mut.result.now c.args.head c.index_mut.ensures.value
    (subst (λ (t : Numbered). HasStatesIn (IsStateIn t.automaton t.there) (polarity_at t.automaton c.args.s.0) c.args.head) (sym c.self.view_is) c.requires.states)
    c.requires.labels

pub returns-clause-sets : goal.returns-clause-sets
returns-clause-sets c =
    subst (λ (t : Numbered). SetsHead t (numbered_of (headed c.self.inside.states c.self.inside.flows c.self.invariant c.args.s.0 c.index_mut.result.now c.args.head c.index_mut.ensures.value) c.self.inside.flows) c.args.s.0 c.args.head) c.self.view_is
    (head-written c.self.inside.states c.self.inside.flows c.self.invariant c.args.s.0 c.index_mut.result.now c.args.head c.index_mut.ensures.value)

pub returns-clause-is : goal.returns-clause-is
returns-clause-is c =
    head-written-is c.self.inside.states c.self.inside.flows c.self.invariant c.args.s.0 c.index_mut.result.now c.args.head c.index_mut.ensures.value
    (subst (λ (t : Numbered). HasStatesIn (IsStateIn t.automaton t.there) (polarity_at t.automaton c.args.s.0) c.args.head) (sym c.self.view_is) c.requires.states)
    c.requires.labels
