use Rattle.mls_iface.proofs.ReadAutomata.{automaton_made}
use Rattle.mls_iface.proofs.matching.automaton_of.Goals as goal

pub returns : goal.returns
returns c =
    automaton_made c.args.read.now c.in_ok-scheme.scheme c.in_ok-deterministic.deterministic c.in_ok-scheme.ensures.scheme c.in_ok-scheme.ensures.env
    c.in_ok-scheme.ensures.equivalent c.in_ok-deterministic.ensures.scheme c.in_ok-deterministic.ensures.deterministic
    c.in_ok-deterministic.ensures.equivalent c.in_ok-deterministic.ensures.binders
