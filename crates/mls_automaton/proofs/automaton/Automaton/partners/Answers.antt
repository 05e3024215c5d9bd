use Rattle.std.proofs.Common.{subst}
use Rattle.mls_automaton.specs.Automata.{Automaton}
use Rattle.mls_automaton.specs.Indexed.{IsIndexed}
use Rattle.mls_automaton.proofs.IndexedFlows.{set-partners, set-rises}
use Rattle.mls_automaton.proofs.automaton.Automaton.partners.Goals as goal

pub returns-clause-partners : goal.returns-clause-partners
returns-clause-partners c =
    let indexed : IsIndexed c.args.self.now c.self.inside.partners.items = subst (λ (x : Automaton). IsIndexed x c.self.inside.partners.items) c.self.view_is c.self.invariant in
    set-partners c.args.self.now c.self.inside.partners.items c.index.result.now c.args.s.0 indexed c.requires c.index.ensures

pub returns-clause-rises : goal.returns-clause-rises
returns-clause-rises c =
    let indexed : IsIndexed c.args.self.now c.self.inside.partners.items = subst (λ (x : Automaton). IsIndexed x c.self.inside.partners.items) c.self.view_is c.self.invariant in
    set-rises c.args.self.now c.self.inside.partners.items c.index.result.now c.args.s.0 indexed c.requires c.index.ensures
