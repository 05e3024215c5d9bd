use Rattle.std.proofs.Common.{◌≡◌, refl, subst, get_or, All, Contains, true, false, take}
use Rattle.std.proofs.lemmas.List.{take_all}
use Rattle.mls_automaton.specs.Automata.{flow}
use Rattle.mls_flow.proofs.Tabled.{refused}
use Rattle.mls_subsume.proofs.AskedFlows.{there-more}
use Rattle.mls_subsume.proofs.flows.has_all.Goals as goal

pub returns-then-not-has : goal.returns-then-not-has
returns-then-not-has c = (
  λ e. let e : false ≡ true = e in absurd (cc),
  λ all. absurd (refused c.has.result (Contains c.args.table.now.flows (get_or c.args.flows.now c.loop-f.f-index (flow 0 0))) c.has.ensures c.if-not-has.true
      (all c.loop-f.f-index (flow 0 0) c.loop-f-test.true)),
)

pub loop-f-preserved : goal.loop-f-preserved
loop-f-preserved c =
    there-more c.args.table.now.flows c.args.flows.now c.loop-f.f-index c.loop-f-test.true c.loop-f.invariant (c.has.ensures.0 c.if-not-has.false)

pub returns : goal.returns
returns c = (λ e. subst (All (Contains c.args.table.now.flows)) (take_all c.loop-f.f-index c.args.flows.now c.loop-f-test.false) c.loop-f.invariant, λ all. refl)
