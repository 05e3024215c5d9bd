use Rattle.std.proofs.Common.{◌≡◌, ◌<◌, true, false, All, get_or, length, subst, sym}
use Rattle.std.proofs.lemmas.List.Elements.{All-contains}
use Rattle.mls_automaton.specs.Automata.{HasFlow}
use Rattle.mls_automaton.proofs.Lists.{All-contained}
use Rattle.mls_biunify.specs.steps.Tables.{CutsEdges, Numbered, numbered_of}
use Rattle.mls_biunify.specs.steps.TwoWay.{AreCuts}
use Rattle.mls_biunify.proofs.TableSteps.{cuts-after, cuts-before, flows-cut, flows-cut_is}
use Rattle.mls_biunify.proofs.table.Table.cut.Goals as goal

pub cut-requires-clause-low : goal.cut-requires-clause-low
cut-requires-clause-low c = All-contained (λ s. s < length c.self.inside.flows.forward) c.args.gone.now (λ s it. c.self.invariant.low s (All-contains (λ s. get_or (numbered_of c.self.inside.states c.self.inside.flows).there s false ≡ true) c.args.gone.now s (subst (λ (t : Numbered). All (λ s. get_or t.there s false ≡ true) c.args.gone.now) (sym c.self.view_is) c.requires.there) it))

pub cut-requires-clause-after : goal.cut-requires-clause-after
cut-requires-clause-after c =
    cuts-after c.self.inside.states c.self.inside.flows c.args.gone.now c.args.after.items
    (subst (λ (t : Numbered). AreCuts c.args.gone.now t.limit (HasFlow t.automaton) c.args.after.items) (sym c.self.view_is) c.requires.after)

pub cut-requires-clause-before : goal.cut-requires-clause-before
cut-requires-clause-before c =
    cuts-before c.self.inside.states c.self.inside.flows c.args.gone.now c.args.before.items
    (subst (λ (t : Numbered). AreCuts c.args.gone.now t.limit (λ p n. HasFlow t.automaton n p) c.args.before.items) (sym c.self.view_is) c.requires.before)

pub invariant_of-self : goal.invariant_of-self
invariant_of-self c = flows-cut_is c.self.inside.states c.self.inside.flows c.cut.new.self c.self.invariant c.args.gone.now c.cut.ensures

pub returns-clause-cuts : goal.returns-clause-cuts
returns-clause-cuts c =
    subst (λ (t : Numbered). CutsEdges t c.args.gone.now (numbered_of c.self.inside.states c.cut.new.self)) c.self.view_is
    (flows-cut c.self.inside.states c.self.inside.flows c.cut.new.self c.self.invariant c.args.gone.now c.cut.ensures)

pub returns-clause-is : goal.returns-clause-is
returns-clause-is c = flows-cut_is c.self.inside.states c.self.inside.flows c.cut.new.self c.self.invariant c.args.gone.now c.cut.ensures
