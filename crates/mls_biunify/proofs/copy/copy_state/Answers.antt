use Rattle.std.proofs.Common.{◌∙◌, sym, ap}
use Rattle.mls_automaton.specs.declared.automaton.Polarity.TheVariants.{Positive}
use Rattle.mls_automaton.specs.Automata.{with_state}
use Rattle.mls_biunify.proofs.copy.copy_state.Goals as goal

pub returns : goal.returns
returns c =
    c.in_ok-state.ensures.ok ∙ ap (with_state c.args.copy.now) ((λ i. record { polarity = Positive; head = c.empty.ensures i }) ∙ sym (c.limit-limit.ensures.is.is.free c.args.s (sym c.contains.ensures ∙ c.if-contains.false)))
