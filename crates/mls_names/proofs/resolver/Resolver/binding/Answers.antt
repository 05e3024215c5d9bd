use Rattle.std.proofs.Common.{◌∙◌}
use Rattle.mls_names.proofs.resolver.Resolver.binding.Goals as goal

pub returns-clause-term : goal.returns-clause-term
returns-clause-term c = λ scope t is ready. c.in_ok-term.ensures.term scope t (c.as_slice.ensures ∙ is) ready
