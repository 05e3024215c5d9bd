use Rattle.mls_automaton.proofs.Truncated.{forgotten-at}
use Rattle.mls_automaton.proofs.automaton.forget_at.Goals as goal

pub returns : goal.returns
returns c = forgotten-at c.args.states c.args.s c.args.partners.now.items c.index_mut.result.now c.truncate.new.self c.requires c.index_mut.ensures.value c.truncate.ensures.members c.truncate.ensures.rises
