use Rattle.std.proofs.Common.{◌∙◌, ap}
use Rattle.mls_automaton.specs.Automata.{with_state}
use Rattle.mls_biunify.proofs.copy.copy_there.Goals as goal

pub returns : goal.returns
returns c =
    c.in_ok-state.ensures.ok ∙ ap (with_state c.args.copy.now) (λ i. record { polarity = c.polarity.ensures.polarity i; head = (c.in_ok-head.ensures ∙ c.head.ensures.head) i })
