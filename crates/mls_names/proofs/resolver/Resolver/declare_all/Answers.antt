use Rattle.std.proofs.Common.{◌∷◌, ◌++◌, take, subst, arith}
use Rattle.std.proofs.lemmas.List.{take_all}
use Rattle.mls_names.specs.Resolution.{scheme, schemes_from}
use Rattle.mls_names.specs.steps.Walks.{IsReady}
use Rattle.mls_names.proofs.Scopes.{ready_more}
use Rattle.mls_names.proofs.resolver.Resolver.declare_all.Goals as goal

pub loop-name-preserved : goal.loop-name-preserved
loop-name-preserved c = record {
  next = omega (arith, c.in_ok-schemes.ensures.next, c.loop-name.invariant.next);
  ready = λ scope h.
      let before = schemes_from c.args.first (take c.loop-name.name-index c.args.names.now) ++ scope in
      ready_more c.args.first c.args.names.now c.requires c.loop-name.name-index c.loop-name-test.true c.name-item.result c.name-item.is c.declare.new.self scope
      (subst (λ k. IsReady c.declare.new.self ((c.name-item.result, scheme k) ∷ before)) c.loop-name.invariant.next (c.in_ok-schemes.ensures.ready before (c.loop-name.invariant.ready scope h)));
}

pub returns-clause-ready : goal.returns-clause-ready
returns-clause-ready c = λ scope h.
    subst (λ names. IsReady c.loop-name.self (schemes_from c.args.first names ++ scope)) (take_all c.loop-name.name-index c.args.names.now c.loop-name-test.false) (c.loop-name.invariant.ready scope h)
