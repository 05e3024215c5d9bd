use Rattle.std.proofs.Common.{sym}
use Rattle.mls_automaton.proofs.RisingSets.{contains_of}
use Rattle.mls_automaton.proofs.state_set.StateSet.contains.Goals as goal

pub returns : goal.returns
returns c =
    contains_of c.self.inside.numbers.items c.deref.result.now c.args.s.0 c.deref.ensures c.self.invariant
    c.args.self.now c.binary_search.result c.is_ok.result (sym c.self.view_is) c.is_ok.ensures.value c.binary_search.ensures.position
