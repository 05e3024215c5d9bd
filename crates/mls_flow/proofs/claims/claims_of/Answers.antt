use Rattle.std.proofs.Common.{◌≡◌, ◌<◌, ◌+◌, ◌∙◌, ap, sym, subst, arith, length, [], ◌∷◌}
use Rattle.std.proofs.lemmas.List.{length-append}
use Rattle.mls_automaton.specs.Automata.{flow}
use Rattle.mls_flow.specs.Needs.{IsPair}
use Rattle.mls_flow.specs.Pairs.{IsAt}
use Rattle.mls_flow.proofs.Numbers.{claims-more, extends-all, extends-trans}
use Rattle.mls_flow.proofs.claims.claims_of.Goals as goal

pub claim_of-requires-clause-pair : goal.claim_of-requires-clause-pair
claim_of-requires-clause-pair c =
    subst (IsPair c.args.a.now) c.get-pair.ensures.1
    (extends-all (IsPair c.args.a.now) c.args.pairs.now.list c.loop-next.pairs.list c.requires.pairs c.loop-next.invariant.1
    c.loop-next.next (flow c.get-pair.result.negative.0 c.get-pair.result.positive.0) c.get-pair.ensures.0)

pub loop-next-preserved : goal.loop-next-preserved
loop-next-preserved c =
    let items : length c.loop-next.claims.items ≡ c.loop-next.next = c.loop-next.invariant.3 in
    let at : IsAt c.loop-next.pairs.list c.loop-next.next c.get-pair.result.negative.0 c.get-pair.result.positive.0 = c.get-pair.ensures in
    let size : length c.push.new.self.items ≡ length c.loop-next.claims.items + 1 =
    ap length c.in_ok-push.ensures.items ∙ length-append c.loop-next.claims.items (c.in_ok-claim.claim ∷ []) in
    let grown : length c.claim_of.new.pairs.list ≡ length c.loop-next.pairs.list + length c.in_ok-claim.ensures.extends.0 =
    ap length c.in_ok-claim.ensures.extends.1 ∙ length-append c.loop-next.pairs.list c.in_ok-claim.ensures.extends.0 in
    let low : c.loop-next.next < length c.loop-next.pairs.list = at.0 in (
      c.in_ok-claim.ensures.states ∙ c.loop-next.invariant.0,
      extends-trans (IsPair c.args.a.now) c.args.pairs.now.list c.loop-next.pairs.list c.claim_of.new.pairs.list c.loop-next.invariant.1 c.in_ok-claim.ensures.extends,
      claims-more (IsPair c.args.a.now) c.args.a.now c.loop-next.pairs.list c.claim_of.new.pairs.list c.loop-next.claims.items c.push.new.self.items c.get-pair.result c.in_ok-claim.claim
          c.in_ok-claim.ensures.extends c.loop-next.invariant.2 (omega arith)
          (subst (λ k. IsAt c.loop-next.pairs.list k c.get-pair.result.negative.0 c.get-pair.result.positive.0) (sym items) at)
          c.in_ok-claim.ensures.claim c.in_ok-push.ensures.items,
      omega arith,
      omega arith,
    )
