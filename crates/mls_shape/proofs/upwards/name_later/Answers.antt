use Rattle.std.proofs.Common.{inl, inr, arith, sym, subst}
use Rattle.std.proofs.lemmas.Bool.{cases_eq}
use Rattle.mls_automaton.specs.declared.automaton.Head.{Head}
use Rattle.mls_automaton.specs.Automata.{polarity_at, head_at}
use Rattle.mls_automaton.specs.Models.{HasStatesIn}
use Rattle.mls_shape.specs.steps.Upwards.{StandsBehind}
use Rattle.mls_shape.proofs.upwards.name_later.Goals as goal

pub loop-s-preserved : goal.loop-s-preserved
loop-s-preserved c t low =
    elim (cases_eq t c.loop-s.s) [
      | inl same ↦
          subst (λ t. HasStatesIn (λ q k. StandsBehind c.args.a.now t k) (polarity_at c.args.a.now t) (head_at c.args.a.now t)) (sym same)
          (subst (λ (h : Head). HasStatesIn (λ q k. StandsBehind c.args.a.now c.loop-s.s k) (polarity_at c.args.a.now c.loop-s.s) h) c.head.ensures
          (c.names_behind.ensures c.if-not-names_behind.false (polarity_at c.args.a.now c.loop-s.s)))
      | inr apart ↦ c.loop-s.invariant t (omega (arith, apart, low))
    ]
