use Rattle.std.proofs.Common.{◌↔◌, inl, subst, Contains}
use Rattle.mls_automaton.specs.Automata.{Automaton, IsPartner}
use Rattle.mls_automaton.specs.Indexed.{IsIndexed}
use Rattle.mls_automaton.proofs.IndexedFlows.{set-partners, negative-partner}
use Rattle.mls_automaton.proofs.automaton.Automaton.has_flow.Goals as goal

pub returns : goal.returns
returns c =
    let indexed : IsIndexed c.args.self.now c.self.inside.partners.items = subst (λ (x : Automaton). IsIndexed x c.self.inside.partners.items) c.self.view_is c.self.invariant in
    let partner : Contains c.index.result.now c.args.positive.0 ↔ IsPartner c.args.self.now c.args.negative.0 c.args.positive.0 =
    set-partners c.args.self.now c.self.inside.partners.items c.index.result.now c.args.negative.0 indexed c.requires.negative.in_range c.index.ensures c.args.positive.0 in (
      λ h. negative-partner c.args.self.now indexed.flows c.args.negative.0 c.args.positive.0 c.requires.negative.polarity (partner.0 (c.contains.ensures.0 h)),
      λ h. c.contains.ensures.1 (partner.1 (inl h)),
    )
