use Rattle.std.proofs.Common.{◌≡◌, List, rules, subst}
use Rattle.mls_term.specs.declared.term.ResolvedBinding.{ResolvedBinding}
use Rattle.mls_typetext.specs.declared.scheme.ReadScheme.{ReadScheme}
use Rattle.mls_deriv.specs.Sections.{AreSectionsAllowed}
use Rattle.mls_emit.proofs.PlainSections.{can_same}
use Rattle.mls_emit.proofs.derive.written.Goals as goal

pub sections_of-requires-clause-derivable : goal.sections_of-requires-clause-derivable
sections_of-requires-clause-derivable c =
    can_same c.as_slice-2.result.now c.args.declared.now.schemes c.as_slice.result.now c.args.«module».now.bindings c.as_slice-3.result.now c.args.signature.now.entries (search rules) (search rules) (search rules) c.requires.derivable

pub returns-clause-allowed : goal.returns-clause-allowed
returns-clause-allowed c = λ plain.
    let bindings : c.as_slice.result.now ≡ c.args.«module».now.bindings = search rules in
    let known : c.as_slice-2.result.now ≡ c.args.declared.now.schemes = search rules in
    subst (λ (ks : List ReadScheme). AreSectionsAllowed ks c.args.«module».now.bindings c.in_ok-sections.sections) known
    (subst (λ (bs : List ResolvedBinding). AreSectionsAllowed c.as_slice-2.result.now bs c.in_ok-sections.sections) bindings (c.in_ok-sections.ensures.allowed plain))
