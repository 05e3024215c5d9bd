use Rattle.std.proofs.Common.{◌≡◌, ◌<◌, ◌≤◌, ◌∙◌, sym, subst, arith, length}
use Rattle.mls_automaton.specs.Automata.{polarity_at}
use Rattle.mls_flow.proofs.Tabled.{refused}
use Rattle.mls_subsume.proofs.SplitWalks.{ArePairsBefore, pairs-done, pairs-more, pairs-same}
use Rattle.mls_subsume.proofs.subsume.pairs_with.Goals as goal
use Rattle.mls_subsume.proofs.subsume.pairs_with.Goals.{then-has_polarity+in_ok-push, else-has_polarity}

pub loop-number-preserved : goal.loop-number-preserved
loop-number-preserved c =
    elim c.if-has_polarity.branch [
      | then-has_polarity+in_ok-push w ↦
          pairs-more c.args.general.now c.args.polarity c.args.queue.now.met c.loop-number.number c.loop-number.pairs c.loop-number.invariant c.if-has_polarity.pairs c.pair-pair.result
          c.pair-pair.ensures.general c.pair-pair.ensures.special (c.has_polarity.ensures.0 w.if-has_polarity.true) (w.pairs-is ∙ w.in_ok-push.ensures.ok)
      | else-has_polarity w ↦
          pairs-same c.args.general.now c.args.polarity c.args.queue.now.met c.loop-number.number c.loop-number.pairs c.loop-number.invariant c.if-has_polarity.pairs c.pair-pair.result.general.0
          c.pair-pair.ensures.general (refused c.has_polarity.result (polarity_at c.args.general.now c.pair-pair.result.general.0 ≡ c.args.polarity) c.has_polarity.ensures w.if-has_polarity.false) w.pairs-is
    ]

pub returns : goal.returns
returns c = λ g s.
    let high : c.len-number-end.result ≤ c.loop-number.number = c.loop-number-test.false in
    let low : c.loop-number.number ≤ c.len-number-end.result = c.loop-number.auto.number-end in
    let size : c.len-number-end.result ≡ length c.args.queue.now.met = c.len-number-end.ensures in
    let all : c.loop-number.number ≡ length c.args.queue.now.met = omega arith in
    pairs-done c.args.general.now c.args.polarity c.args.queue.now.met c.loop-number.pairs
    (subst (λ n. ArePairsBefore c.args.general.now c.args.polarity c.args.queue.now.met n c.loop-number.pairs) all c.loop-number.invariant) g s
