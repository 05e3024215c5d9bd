use Rattle.std.proofs.Common.{rules}
use Rattle.std.specs.Prelude.{IsTrue}
use Rattle.mls_automaton.proofs.CheckedSchemes.{checked}
use Rattle.mls_parts.proofs.posable.is_scheme.Goals as goal

pub returns : goal.returns
returns c =
    let closed : IsTrue c.is_closed.result = search rules in
    let root : IsTrue c.is_state.result = search rules in
    λ yes. checked c.args.scheme.now c.as_slice.result.now c.as_slice.ensures.entries (c.is_closed.ensures.0 closed) (c.is_state.ensures.0 root) (c.are_negative.ensures.0 yes)
