use Rattle.mls_names.proofs.NumberedTerms.{resolved_are_terms}
use Rattle.mls_names.proofs.resolution_laws.resolved_are_terms.Goals as goal

pub returns : goal.returns
returns c = resolved_are_terms
