use Rattle.std.proofs.Common.{subst}
use Rattle.mls_deriv.specs.inner.Walks.{IsFound}
use Rattle.mls_deriv.proofs.Passed.{verdict}
use Rattle.mls_deriv.proofs.verify.verify.Goals as goal

pub returns : goal.returns
returns c =
    verdict c.args.declared.now.schemes c.args.module.now.bindings c.args.derivation.now.sections c.requires.schemes c.requires.terms c.in_ok-found.found
    (subst (λ ks. IsFound ks c.args.module.now.bindings c.args.derivation.now.sections c.in_ok-found.found) c.as_slice.ensures
    (subst (λ bs. IsFound c.as_slice.result.now bs c.args.derivation.now.sections c.in_ok-found.found) c.as_slice-bindings.ensures
    (subst (λ ss. IsFound c.as_slice.result.now c.as_slice-bindings.result.now ss c.in_ok-found.found) c.as_slice-sections.ensures c.in_ok-found.ensures)))
