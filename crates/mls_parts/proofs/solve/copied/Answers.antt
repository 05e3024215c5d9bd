use Rattle.std.proofs.Common.{ap, ◌∙◌}
use Rattle.mls_automaton.specs.Automata.{Automaton}
use Rattle.mls_automaton.specs.Embeddings.{appended}
use Rattle.mls_automaton.proofs.IndexedAppends.{appended-nothing}
use Rattle.mls_parts.proofs.solve.copied.Goals as goal

pub returns : goal.returns
returns c = c.in_ok-append.ensures.ok ∙ (ap (λ (x : Automaton). appended x c.args.a.now) c.in_ok-copy.ensures ∙ appended-nothing c.args.a.now)
