use Rattle.std.proofs.Common.{sym, ◌∙◌, subst}
use Rattle.std.proofs.lemmas.Result.{err_from_is_err_and}
use Rattle.mls_names.specs.Resolution.{HasUnknownName}
use Rattle.mls_names.proofs.Resolving.{is_expression, is_idle, has_unknown_name, so_far_more, resolves}
use Rattle.mls_names.proofs.RisingBinders.{resolved_rise}
use Rattle.mls_names.proofs.resolve.resolve.Goals as goal

pub binding-requires-clause-nodes : goal.binding-requires-clause-nodes
binding-requires-clause-nodes c =
    is_expression c.args.module.now c.args.declared.now c.requires.module c.as_slice-binding-items.result.now c.loop-binding.binding-index c.binding-item.result
    c.as_slice-binding-items.ensures c.loop-binding-test.true c.binding-item.is c.loop-binding.resolver c.loop-binding.schemes c.loop-binding.bindings (c.loop-binding.invariant c.requires.module)

pub binding-requires-clause-idle : goal.binding-requires-clause-idle
binding-requires-clause-idle c =
    is_idle c.args.module.now c.args.declared.now c.requires.module c.as_slice-binding-items.result.now c.loop-binding.binding-index c.binding-item.result
    c.as_slice-binding-items.ensures c.loop-binding-test.true c.binding-item.is c.loop-binding.resolver c.loop-binding.schemes c.loop-binding.bindings (c.loop-binding.invariant c.requires.module)

pub returns-in_err-binding-clause-fault : goal.returns-in_err-binding-clause-fault
returns-in_err-binding-clause-fault c =
    let p = err_from_is_err_and c.from_residual-in_err-binding.result c.from_residual-in_err-binding.ensures.1 in
    rw p.1 (λ other. subst (HasUnknownName c.args.module.now c.args.declared.now) (sym p.2)
    (has_unknown_name c.args.module.now c.args.declared.now c.requires.module c.as_slice-binding-items.result.now c.loop-binding.binding-index c.binding-item.result
    c.as_slice-binding-items.ensures c.loop-binding-test.true c.binding-item.is c.loop-binding.resolver c.loop-binding.schemes c.loop-binding.bindings (c.loop-binding.invariant c.requires.module)
    c.in_err-binding.field-0.0 (c.in_err-binding.ensures.fault (λ same. other (p.2 ∙ same)))))

pub loop-binding-preserved : goal.loop-binding-preserved
loop-binding-preserved c = λ p.
    so_far_more c.args.module.now c.args.declared.now p c.as_slice-binding-items.result.now c.loop-binding.binding-index c.binding-item.result
    c.as_slice-binding-items.ensures c.loop-binding-test.true c.binding-item.is c.loop-binding.resolver c.loop-binding.schemes c.loop-binding.bindings (c.loop-binding.invariant p)
    c.binding.new.self c.declare.new.self c.in_ok-binding.field-0 c.in_ok-schemes-2.schemes c.push.new.self
    c.in_ok-binding.ensures.name c.in_ok-binding.ensures.at c.in_ok-binding.ensures.term c.in_ok-push.ensures.ok c.in_ok-schemes-2.ensures.ready c.in_ok-schemes-2.ensures.next

pub returns-clause-found : goal.returns-clause-found
returns-clause-found c =
    resolves c.args.module.now c.args.declared.now c.requires.module c.as_slice-binding-items.result.now c.loop-binding.binding-index c.loop-binding.resolver c.loop-binding.schemes c.loop-binding.bindings
    c.as_slice-binding-items.ensures c.loop-binding-test.false (c.loop-binding.invariant c.requires.module)

pub returns-clause-rising : goal.returns-clause-rising
returns-clause-rising c =
    resolved_rise c.args.module.now c.args.declared.now (record { bindings = c.loop-binding.bindings })
    (resolves c.args.module.now c.args.declared.now c.requires.module c.as_slice-binding-items.result.now c.loop-binding.binding-index c.loop-binding.resolver c.loop-binding.schemes c.loop-binding.bindings
    c.as_slice-binding-items.ensures c.loop-binding-test.false (c.loop-binding.invariant c.requires.module))
