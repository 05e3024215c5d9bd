use Rattle.std.proofs.Common.{◌∙◌, ◌<◌, sym, subst, refl, get_or}
use Rattle.std.proofs.lemmas.List.Elements.{Contains-get_or}
use Rattle.mls_automaton.specs.Automata.{flow}
use Rattle.mls_flow.proofs.Numbers.{number-step}
use Rattle.mls_flow.proofs.claims.number_each.Goals as goal

pub number-requires : goal.number-requires
number-requires c =
    subst (λ s. (get_or c.args.needs.now c.loop-need.need-index (flow 0 0)).negative.0 < s) (sym c.loop-need.invariant.0)
    (c.requires (get_or c.args.needs.now c.loop-need.need-index (flow 0 0)) (Contains-get_or c.args.needs.now c.loop-need.need-index (flow 0 0) c.loop-need-test.true))

pub loop-need-preserved : goal.loop-need-preserved
loop-need-preserved c =
    let it =
    number-step c.args.pairs.now.list c.loop-need.pairs.list c.number.new.self.list c.args.needs.now c.loop-need.numbers c.push.new.self c.loop-need.need-index c.in_ok-number.number
    (get_or c.args.needs.now c.loop-need.need-index (flow 0 0)) c.loop-need-test.true refl c.loop-need.invariant.1 c.loop-need.invariant.2
    c.in_ok-number.ensures.behind c.in_ok-number.ensures.number c.in_ok-push.ensures.ok in
    (c.in_ok-number.ensures.states ∙ c.loop-need.invariant.0, it.0, it.1)
