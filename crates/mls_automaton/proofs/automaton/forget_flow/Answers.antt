use Rattle.mls_automaton.proofs.Truncated.{forgotten-one}
use Rattle.mls_automaton.proofs.automaton.forget_flow.Goals as goal

pub returns : goal.returns
returns c = forgotten-one c.args.states c.args.flow c.args.partners.now.items c.forget_at.new.partners.items c.forget_at-2.new.partners.items c.forget_at.ensures c.forget_at-2.ensures
