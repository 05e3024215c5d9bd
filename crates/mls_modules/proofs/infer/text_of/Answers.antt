use Rattle.std.proofs.Common.{List, [], sym, subst, refl}
use Rattle.mls_infer.specs.Inference.{AreNames}
use Rattle.mls_iface.specs.declared.signature.SigEntry.{SigEntry}
use Rattle.mls_modules.specs.Environments.{MeanAfter}
use Rattle.mls_modules.specs.steps.Inferring.{EndsAt}
use Rattle.mls_modules.proofs.Entries.{binding_at, term_at, failed_at}
use Rattle.mls_modules.proofs.Lines.{no_line, line_more}
use Rattle.mls_modules.proofs.infer.text_of.Goals as goal

pub loop-number-init : goal.loop-number-init
loop-number-init c = (
  no_line c.args.imports.now c.args.bindings.now c.new-environment.result c.new-text.result.items (subst AreNames (sym c.new-environment.ensures) c.in_ok-names.ensures.names)
      (subst (MeanAfter c.args.imports.now []) (sym c.new-environment.ensures) (subst (λ (es : List SigEntry). MeanAfter c.args.imports.now es c.in_ok-names.names) c.new.ensures c.in_ok-names.ensures.environment)) c.new-text.ensures.items,
  c.new-types.ensures,
)

pub add_line-requires-clause-term : goal.add_line-requires-clause-term
add_line-requires-clause-term c =
    let there = binding_at c.args.bindings.now c.loop-number.number c.index-bindings-number.result c.loop-number-test.true c.index-bindings-number.is in
    let before = c.loop-number.invariant.0.before c.loop-number-test.true in
    term_at c.args.imports.now c.args.bindings.now c.loop-number.number c.index-bindings-number.result c.loop-number.environment c.loop-number.invariant.0.entries c.requires.terms there before

pub returns-in-Err-clause-fault : goal.returns-in-Err-clause-fault
returns-in-Err-clause-fault c =
    let there = binding_at c.args.bindings.now c.loop-number.number c.index-bindings-number.result c.loop-number-test.true c.index-bindings-number.is in
    let before = c.loop-number.invariant.0.before c.loop-number-test.true in
    subst (EndsAt c.args.imports.now c.args.bindings.now) (sym c.at_binding.ensures)
    (failed_at c.args.imports.now c.args.bindings.now c.loop-number.number c.index-bindings-number.result c.loop-number.environment c.loop-number.invariant.0.entries c.in-Err.fault c.requires.terms there
    before c.in-Err.ensures.fault)

pub loop-number-preserved : goal.loop-number-preserved
loop-number-preserved c =
    let there = binding_at c.args.bindings.now c.loop-number.number c.index-bindings-number.result c.loop-number-test.true c.index-bindings-number.is in (
      line_more c.args.imports.now c.args.bindings.now c.loop-number.number c.index-bindings-number.result _ c.loop-number.environment _ c.loop-number.text.items _ there c.loop-number-test.true refl
          c.loop-number.invariant.0 c.in-Ok.ensures.line,
      c.in-Ok.ensures.types,
    )
