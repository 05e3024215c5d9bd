use Rattle.std.proofs.Common.{◌∙◌, [], ◌∷◌, ◌++◌, sym, ap, subst}
use Rattle.mls_scheme.specs.ReadTypes.{IsPolarisedRead}
use Rattle.mls_typetext.specs.declared.scheme.Names.{Names}
use Rattle.mls_typetext.specs.Laws.{IsReadScheme}
use Rattle.mls_modules.specs.steps.Inferring.{EndsAt}
use Rattle.mls_modules.proofs.Entries.{binding_at, term_at, failed_at, one_more}
use Rattle.mls_modules.proofs.KnownTypes.{text_is_valid}
use Rattle.mls_modules.proofs.infer.signature_of.Goals as goal

pub entry_of-requires-clause-term : goal.entry_of-requires-clause-term
entry_of-requires-clause-term c =
    let there = binding_at c.args.bindings.now c.loop-number.number c.index-bindings-number.result c.loop-number-test.true c.index-bindings-number.is in
    term_at c.args.imports.now c.args.bindings.now c.loop-number.number c.index-bindings-number.result c.loop-number.environment c.loop-number.signature.entries c.requires.terms there c.loop-number.invariant.0

pub returns-in-Err-clause-fault : goal.returns-in-Err-clause-fault
returns-in-Err-clause-fault c =
    let there = binding_at c.args.bindings.now c.loop-number.number c.index-bindings-number.result c.loop-number-test.true c.index-bindings-number.is in
    subst (EndsAt c.args.imports.now c.args.bindings.now) (sym c.at_binding.ensures)
    (failed_at c.args.imports.now c.args.bindings.now c.loop-number.number c.index-bindings-number.result c.loop-number.environment c.loop-number.signature.entries c.in-Err.fault c.requires.terms there
    c.loop-number.invariant.0 c.in-Err.ensures.fault)

pub add-requires-clause-read : goal.add-requires-clause-read
add-requires-clause-read c =
    let is = c.in-Ok.ensures.entry c.args.imports.now c.loop-number.signature.entries c.loop-number.invariant.0.mean in
    subst IsReadScheme (sym c.in_ok-copy_scheme-in-Ok.ensures) (text_is_valid c.in-Ok.entry.text c.in-Ok.entry.scheme is.is_entry.reads).0

pub add-requires-clause-polarised : goal.add-requires-clause-polarised
add-requires-clause-polarised c =
    let is = c.in-Ok.ensures.entry c.args.imports.now c.loop-number.signature.entries c.loop-number.invariant.0.mean in
    subst IsPolarisedRead (sym c.in_ok-copy_scheme-in-Ok.ensures) (text_is_valid c.in-Ok.entry.text c.in-Ok.entry.scheme is.is_entry.reads).1

pub loop-number-preserved : goal.loop-number-preserved
loop-number-preserved c =
    let there = binding_at c.args.bindings.now c.loop-number.number c.index-bindings-number.result c.loop-number-test.true c.index-bindings-number.is in
    let entries = c.loop-number.signature.entries in (
      one_more c.args.imports.now c.args.bindings.now c.loop-number.number c.index-bindings-number.result c.in-Ok.entry c.loop-number.environment c.add.new.self entries c.push.new.self there
          c.loop-number.invariant.0 (c.in-Ok.ensures.entry c.args.imports.now entries c.loop-number.invariant.0.mean)
          (c.in_ok-add-in-Ok.ensures.ok ∙ (ap (λ r. c.entry_of.new.environment.schemes ++ r ∷ []) c.in_ok-copy_scheme-in-Ok.ensures ∙ ap (λ (names : Names). names.schemes ++ c.in-Ok.entry.scheme ∷ []) c.in-Ok.ensures.environment)) c.in_ok-push-in-Ok.ensures.ok,
      c.in-Ok.ensures.types,
    )
