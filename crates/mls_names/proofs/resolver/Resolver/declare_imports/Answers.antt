use Rattle.std.proofs.Common.{◌≡◌, ◌+◌, [], ◌∷◌, ◌++◌, take, get_or, sym, ap, subst, arith, ◌∙◌}
use Rattle.std.proofs.lemmas.List.{take_more}
use Rattle.mls_names.specs.Resolution.{schemes_from, declared_from, declared_count}
use Rattle.mls_names.specs.steps.Walks.{IsReady}
use Rattle.mls_names.proofs.Scopes.{declared_push, declared_count_push}
use Rattle.mls_names.proofs.resolver.Resolver.declare_imports.Goals as goal

pub loop-names-preserved : goal.loop-names-preserved
loop-names-preserved c =
    let k = c.loop-names.names-index in
    let names = c.args.declared.now in
    let is : c.as_slice.result.now ≡ get_or names k c.names-item.result = c.as_slice.ensures ∙ c.names-item.is in
    let more : take (k + 1) names ≡ take k names ++ c.as_slice.result.now ∷ [] = take_more names k c.names-item.result c.loop-names-test.true ∙ (λ i. take k names ++ sym is i ∷ []) in
    record {
      next = omega (arith, c.in_ok-schemes.ensures.next, c.loop-names.invariant.next, ap declared_count more, declared_count_push (take k names) c.as_slice.result.now);
      ready = λ h.
          subst (λ scope. IsReady c.declare_all.new.self scope)
          ((λ i. schemes_from (c.loop-names.invariant.next i) c.as_slice.result.now ++ declared_from 5 (take k names)) ∙ sym (ap (declared_from 5) more ∙ declared_push 5 (take k names) c.as_slice.result.now))
          (c.in_ok-schemes.ensures.ready (declared_from 5 (take k names)) (c.loop-names.invariant.ready h));
    }
